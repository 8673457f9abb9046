-- Components and values.
use Rattle.std.specs.Prelude.{ℕ, List, [], ◌∷◌, Bool, true, false, ◌||◌, not, codes}
use Rattle.std.proofs.Common.{◌≡◌, ap, cond, refl, sym}
use Rattle.std.proofs.lemmas.Bool.{false≢true}
use Rattle.css_tokens.specs.declared.component.Component.{Component}
use Rattle.css_tokens.specs.declared.component.Component as component
use Rattle.css_tokens.specs.declared.component.Block as block
use Rattle.css_tokens.specs.declared.kind.Kind.TheVariants.{Ident}
use Rattle.css_tokens.specs.Piece.{Piece}
use Rattle.css_tokens.specs.Tokens.{spells}
use Rattle.css_tokens.specs.Trees.{is_text}
use Rattle.css_tokens.specs.ValueAgain.{head_kind-Single, head_kind-Block, is_solid}
use Rattle.css_tokens.specs.Values.{is_gap}
use Rattle.prop_table.specs.PhysicalProperties.{axis_keywords, flow_keywords, meaning_among, meanings, parts_of, physical_value, replaced, resized, side_keywords, value_by_parts}
use Rattle.prop_table.specs.Private.LogicalNames.{takes_flow, way_along}
use Rattle.prop_table.specs.declared.mode.Mode.{Mode}
use Rattle.prop_table.specs.declared.mode.Writing.{Writing}
use Rattle.prop_table.specs.declared.mode.Writing.TheVariants.{HorizontalTb, VerticalRl, VerticalLr}
use Rattle.prop_table.specs.declared.property.Axis.TheVariants.{Block, Inline}

pub solid-Single : (p : Piece) → is_solid (component.Single p) ≡ not (is_gap p.kind)
solid-Single p = ap (λ k. not (is_gap k)) (head_kind-Single p)

pub solid-Block : (b : block.Block) → is_solid (component.Block b) ≡ not (is_gap b.opening.kind)
solid-Block b = ap (λ k. not (is_gap k)) (head_kind-Block b)

pub ruleset solid_told = (solid-Single, solid-Block)

pub left-spells : spells Ident (codes "left") ≡ true
unfolding spells
left-spells = refl

pub right-spells : spells Ident (codes "right") ≡ true
unfolding spells
right-spells = refl

pub horizontal-spells : spells Ident (codes "horizontal") ≡ true
unfolding spells
horizontal-spells = refl

pub vertical-spells : spells Ident (codes "vertical") ≡ true
unfolding spells
vertical-spells = refl

pub ruleset words_spell = (left-spells, right-spells, horizontal-spells, vertical-spells)

pub resized-by : (writing : Writing) → resized writing ≡ way_along writing Inline ∷ way_along writing Block ∷ []
resized-by HorizontalTb = refl
resized-by VerticalRl = refl
resized-by VerticalLr = refl

pub ruleset ways_told = (resized-by)

plain-parts : (mode : Mode) (name : List ℕ) → flow_keywords name ≡ [] → (value parts : List Component) → value_by_parts mode name value parts ≡ value
plain-parts mode name none value [] = refl
plain-parts mode name none value (part ∷ []) = ap (λ keywords. replaced value part (meaning_among keywords (meanings mode name) part)) none
plain-parts mode name none value (part ∷ more ∷ rest) = refl

no-keywords : (a b c : Bool) {X : Type 0} (x y z : X) → ((a || b) || c) ≡ false → cond (a || b) x (cond c y z) ≡ z
no-keywords false false false x y z h = refl
no-keywords false false true x y z h = absurd (false≢true (sym h))
no-keywords false true c x y z h = absurd (false≢true (sym h))
no-keywords true b c x y z h = absurd (false≢true (sym h))

-- A property that takes no keyword of the flow keeps each value.
pub plain-value : (mode : Mode) (name : List ℕ) (value : List Component) → takes_flow name ≡ false → physical_value mode name value ≡ value
plain-value mode name value plain =
    plain-parts mode name (no-keywords (is_text name (codes "float")) (is_text name (codes "clear")) (is_text name (codes "resize")) side_keywords axis_keywords [] plain) value (parts_of value)

pub ruleset values_told = (plain-value)
