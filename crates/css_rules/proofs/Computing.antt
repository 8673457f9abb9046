-- How components and sheets that are written out are laid open, so that definitions of them compute.
use Rattle.std.proofs.Common.{◌≡◌, ℕ, List, [], ◌∷◌, ◌++◌, map}
use Rattle.css_tokens.specs.declared.component.Component.{Component, out-Component}
use Rattle.css_tokens.specs.declared.component.Component as component
use Rattle.css_tokens.specs.declared.component.Component.TheOpen.{Block}
use Rattle.css_tokens.specs.declared.component.Component.TheVariants.{outs-Single, outs-Block}
use Rattle.css_tokens.specs.Piece.{Piece}
use Rattle.css_tokens.specs.Trees.{closing, pieces_all, pieces_of, pieces_of-Single, pieces_of-Block}
use Rattle.css_tokens.specs.ValueAgain.{head_kind-Single, parted_within-Single, shortened-Single, takes_last-Single}
use Rattle.std.specs.Prelude.{Option}
use Rattle.selector_types.specs.declared.selector.Combinator.{Combinator}
use Rattle.selector_types.specs.declared.selector.TypeName.{TypeName}
use Rattle.selector_types.specs.declared.selector.Tail as tail
use Rattle.selector_types.specs.declared.selector.Compound as compound
use Rattle.selector_types.specs.declared.selector.Link as link
use Rattle.selector_types.specs.declared.selector.Part as part
use Rattle.selector_types.specs.declared.selector.Link.TheVariants.{outs-Linked}
use Rattle.selector_types.specs.SelectorFold.{Steps, made_part, made_link, folded_compound, folded_selector, folded-Class, folded-Id, folded-Attribute, folded-Pseudo, folded-Not, folded-Is, folded-Where, folded-Parent, folded-Local, folded-Global, folded-Foreign, folded-Compound, folded-Selector}
use Rattle.selector_tree.specs.Signs.{mark_of, mark_of-Single, mark_of-Block, block_mark}
use Rattle.sheet_types.specs.Erased.{erased-Single}
use Rattle.media_tree.proofs.Computing.{computing as media_computing}
use Rattle.sheet_types.proofs.Computing.{computing as item_computing, made-plain, made-rule}

-- a block, and its tokens
pub block-out : (opening : Piece) (items : List Component) (close : ℕ)
    → out-Component (component.Block (record { opening = opening; items = items; close = close })) ≡ Block (record { opening = opening; items = items; close = close })
block-out opening items close = outs-Block (record { opening = opening; items = items; close = close })

pub block-pieces : (opening : Piece) (items : List Component) (close : ℕ)
    → pieces_of (component.Block (record { opening = opening; items = items; close = close })) ≡ opening ∷ pieces_all items ++ closing opening close ∷ []
block-pieces opening items close = pieces_of-Block (record { opening = opening; items = items; close = close })

-- a compound and a selector that are written out
pub made-compound : {M K S : Type 0} (steps : Steps M K S) (kind : TypeName) (parts : List part.Part) (tail : Option tail.Tail)
    → folded_compound steps (record { kind = kind; parts = parts; tail = tail }) ≡ steps.compound kind (map (made_part steps) parts) tail
made-compound steps kind parts tail = folded-Compound steps (record { kind = kind; parts = parts; tail = tail })

pub made-selector : {M K S : Type 0} (steps : Steps M K S) (lead : Option Combinator) (first : compound.Compound) (rest : List link.Link) (at : ℕ)
    → folded_selector steps (record { lead = lead; first = first; rest = rest; at = at }) ≡ steps.selector lead (folded_compound steps first) (map (made_link steps) rest) at
made-selector steps lead first rest at = folded-Selector steps (record { lead = lead; first = first; rest = rest; at = at })

-- what a block that is written out is to the grammar of selectors
pub block-mark : (opening : Piece) (items : List Component) (close : ℕ)
    → mark_of (component.Block (record { opening = opening; items = items; close = close })) ≡ block_mark opening (map mark_of items)
block-mark opening items close = mark_of-Block (record { opening = opening; items = items; close = close })

-- the equations by which the worked examples compute
pub ruleset computing = (outs-Single, block-out, pieces_of-Single, block-pieces, made-plain, made-rule, shortened-Single, parted_within-Single, takes_last-Single, erased-Single, head_kind-Single, outs-Linked, folded-Class, folded-Id, folded-Attribute, folded-Pseudo, folded-Not, folded-Is, folded-Where, folded-Parent, folded-Local, folded-Global, folded-Foreign, made-compound, made-selector, mark_of-Single, block-mark)

-- the same with media queries, supports conditions and groups
pub ruleset at_rules = (computing, media_computing, item_computing)
