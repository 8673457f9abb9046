-- The place of a component, as the grammar of selectors has it.
use Rattle.std.proofs.Common.{◌≡◌, sym, ◌∙◌, ap, inl, inr}
use Rattle.css_tokens.specs.declared.component.Component.{Component}
use Rattle.selector_tree.specs.Grammar.{Mark}
use Rattle.selector_tree.specs.Signs.{mark_of, mark_of-Single, mark_of-Block}
use Rattle.css_components.specs.Components.{head, place_of}
use Rattle.css_rules.proofs.Heads.{head-Single, head-Block}
use Rattle.css_rules.proofs.ValueFacts.{shape_of}

pub mark-place : (c : Component) → (mark_of c).at ≡ place_of c
mark-place c = elim (shape_of c) [
  | inl s ↦ ap (λ x. (mark_of x).at) s.1 ∙ ap (λ (m : Mark). m.at) (mark_of-Single s.0) ∙ sym (ap (λ x. (head x).at) s.1 ∙ ap (λ p. p.at) (head-Single s.0))
  | inr s ↦ ap (λ x. (mark_of x).at) s.1 ∙ ap (λ (m : Mark). m.at) (mark_of-Block s.0) ∙ sym (ap (λ x. (head x).at) s.1 ∙ ap (λ p. p.at) (head-Block s.0))
]
