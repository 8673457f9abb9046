-- How selectors and components that are written out compute.
use Rattle.std.proofs.Common.{◌≡◌, ℕ, List, [], ◌∷◌, ◌++◌, map, Bool, ap}
use Rattle.std.specs.Prelude.{Option}
use Rattle.css_tokens.specs.declared.component.Component.{Component}
use Rattle.css_tokens.specs.declared.component.Component as component
use Rattle.css_tokens.specs.Piece.{Piece}
use Rattle.css_tokens.specs.Trees.{closing, pieces_all, pieces_of, pieces_of-Single, pieces_of-Block}
use Rattle.selector_types.specs.declared.selector.Combinator.{Combinator}
use Rattle.selector_types.specs.declared.selector.TypeName.{TypeName}
use Rattle.selector_types.specs.declared.selector.Tail as tail
use Rattle.selector_types.specs.declared.selector.Compound as compound
use Rattle.selector_types.specs.declared.selector.Link as link
use Rattle.selector_types.specs.declared.selector.Part as part
use Rattle.selector_types.specs.declared.selector.Link.TheVariants.{outs-Linked}
use Rattle.selector_types.specs.BareFold.{placed}
use Rattle.selector_types.specs.ReadableSelectors.{readable, is_readable_compound, is_readable_selector}
use Rattle.selector_types.specs.SelectorFold.{Steps, made_part, made_link, folded_compound, folded_selector, folded-Class, folded-Id, folded-Attribute, folded-Pseudo, folded-Not, folded-Is, folded-Where, folded-Parent, folded-Local, folded-Global, folded-Foreign, folded-Compound, folded-Selector}

-- a compound and a selector that are written out
pub made-compound : {M K S : Type 0} (steps : Steps M K S) (kind : TypeName) (parts : List part.Part) (tail : Option tail.Tail)
    → folded_compound steps (record { kind = kind; parts = parts; tail = tail }) ≡ steps.compound kind (map (made_part steps) parts) tail
made-compound steps kind parts tail = folded-Compound steps (record { kind = kind; parts = parts; tail = tail })

pub made-selector : {M K S : Type 0} (steps : Steps M K S) (lead : Option Combinator) (first : compound.Compound) (rest : List link.Link) (at : ℕ)
    → folded_selector steps (record { lead = lead; first = first; rest = rest; at = at }) ≡ steps.selector lead (folded_compound steps first) (map (made_link steps) rest) at
made-selector steps lead first rest at = folded-Selector steps (record { lead = lead; first = first; rest = rest; at = at })

-- a block that is written out: its tokens
pub made-pieces : (opening : Piece) (items : List Component) (close : ℕ)
    → pieces_of (component.Block (record { opening = opening; items = items; close = close })) ≡ opening ∷ pieces_all items ++ closing opening close ∷ []
made-pieces opening items close = pieces_of-Block (record { opening = opening; items = items; close = close })

-- whether a compound and a selector that are written out are readable
pub asked-compound : (kind : TypeName) (parts : List part.Part) (tail : Option tail.Tail) (last : Bool)
    → is_readable_compound last (record { kind = kind; parts = parts; tail = tail }) ≡ readable.compound kind (map (λ p. p.0) (map (made_part (placed readable)) parts)) tail last
asked-compound kind parts tail last = ap (λ (f : Bool → Bool). f last) (made-compound (placed readable) kind parts tail)

pub asked-selector : (lead : Option Combinator) (first : compound.Compound) (rest : List link.Link) (at : ℕ) (nested : Bool)
    → is_readable_selector nested (record { lead = lead; first = first; rest = rest; at = at }) ≡ readable.selector lead (folded_compound (placed readable) first) (map (made_link (placed readable)) rest) nested
asked-selector lead first rest at nested = ap (λ (f : Bool → Bool). f nested) (made-selector (placed readable) lead first rest at)

-- the equations by which the worked examples compute
pub ruleset computing = (asked-compound, asked-selector, outs-Linked, folded-Class, folded-Id, folded-Attribute, folded-Pseudo, folded-Not, folded-Is, folded-Where, folded-Parent, folded-Local, folded-Global, folded-Foreign, made-compound, made-selector, pieces_of-Single, made-pieces)
