-- The signs of tokens and blocks.
use Rattle.std.proofs.Common.{◌≡◌, map}
use Rattle.css_tokens.specs.declared.component.Component as component
use Rattle.css_tokens.specs.declared.component.Block as block
use Rattle.css_tokens.specs.Piece.{Piece}
use Rattle.media_tree.specs.ComponentSigns.{sign_of-Single, sign_of-Block}
use Rattle.media_tree.specs.Conditions.{token_sign}
use Rattle.media_tree.specs.Queries as queries
use Rattle.media_tree.specs.SupportsReading as supports

pub query-Single : (p : Piece) → queries.sign_of (component.Single p) ≡ token_sign p
query-Single p = sign_of-Single token_sign queries.block_sign p

pub query-Block : (b : block.Block) → queries.sign_of (component.Block b) ≡ queries.block_sign b (map queries.sign_of b.items)
query-Block b = sign_of-Block token_sign queries.block_sign b

pub ruleset query_signs = (query-Single, query-Block)

pub supports-Single : (p : Piece) → supports.sign_of (component.Single p) ≡ token_sign p
supports-Single p = sign_of-Single token_sign supports.block_sign p

pub supports-Block : (b : block.Block) → supports.sign_of (component.Block b) ≡ supports.block_sign b (map supports.sign_of b.items)
supports-Block b = sign_of-Block token_sign supports.block_sign b

pub ruleset supports_signs = (supports-Single, supports-Block)
