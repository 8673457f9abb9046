-- How components that are written out compute.
use Rattle.std.proofs.Common.{◌≡◌, ℕ, List, [], ◌∷◌, ◌++◌, map, ap}
use Rattle.css_tokens.specs.declared.component.Component.{Component}
use Rattle.css_tokens.specs.declared.component.Component as component
use Rattle.css_tokens.specs.declared.component.Component.TheOpen.{Component-F, Single, Block}
use Rattle.css_tokens.specs.declared.component.Component.TheVariants.{outs-Single, outs-Block}
use Rattle.css_tokens.specs.Piece.{Piece}
use Rattle.css_tokens.specs.Trees.{closing, pieces_all, pieces_of, pieces_of-Single, pieces_of-Block, is_formed-Single}
use Rattle.css_tokens.specs.ValueAgain.{shortened-Single, parted_within-Single, takes_last-Single, head_kind-Single}
use Rattle.media_tree.specs.Queries as queries
use Rattle.media_tree.specs.SupportsReading as supports
use Rattle.media_tree.proofs.SignEquations.{query-Single, query-Block, supports-Single, supports-Block}

-- a block that is written out: its tokens, what it is laid open, and its signs
pub made-pieces : (opening : Piece) (items : List Component) (close : ℕ)
    → pieces_of (component.Block (record { opening = opening; items = items; close = close })) ≡ opening ∷ pieces_all items ++ closing opening close ∷ []
made-pieces opening items close = pieces_of-Block (record { opening = opening; items = items; close = close })

pub made-out : (opening : Piece) (items : List Component) (close : ℕ)
    → component.out-Component (component.Block (record { opening = opening; items = items; close = close })) ≡ Block (record { opening = opening; items = items; close = close })
made-out opening items close = outs-Block (record { opening = opening; items = items; close = close })

pub made-query-sign : (opening : Piece) (items : List Component) (close : ℕ)
    → queries.sign_of (component.Block (record { opening = opening; items = items; close = close })) ≡ queries.block_sign (record { opening = opening; items = items; close = close }) (map queries.sign_of items)
made-query-sign opening items close = query-Block (record { opening = opening; items = items; close = close })

pub made-supports-sign : (opening : Piece) (items : List Component) (close : ℕ)
    → supports.sign_of (component.Block (record { opening = opening; items = items; close = close })) ≡ supports.block_sign (record { opening = opening; items = items; close = close }) (map supports.sign_of items)
made-supports-sign opening items close = supports-Block (record { opening = opening; items = items; close = close })

-- the equations by which the worked examples compute
pub ruleset computing = (outs-Single, made-out, pieces_of-Single, made-pieces, is_formed-Single, shortened-Single, parted_within-Single, takes_last-Single, head_kind-Single, query-Single, made-query-sign, supports-Single, made-supports-sign)
