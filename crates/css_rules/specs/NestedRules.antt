-- What is made of rules, in whose blocks rules may stand (CSS Syntax 3, section 9).
use Rattle.std.specs.Prelude.{ℕ, zero, suc, List, [], map, length, Option, Some, None, if◌then◌else◌}
use Rattle.css_tokens.specs.declared.component.Component.{Component}
use Rattle.css_tokens.specs.Trees.{pieces_all}
use Rattle.css_components.specs.Components.{inside, is_braces}
use Rattle.css_rules.specs.Cuts.{Cut, cuts}
use Rattle.css_rules.specs.RuleEnds.{ends_rule}

-- what is made of a rule, from what is made of the rules in its block, and of rules one after another
pub record Making (A : Type 0) : Type 0 where
  pub of_rule : Cut → A → A
  pub of_all : List A → A

-- what is made of the block that ends a rule; of no rules, where no block does
abbrev pub in_block : {A : Type 0} → Making A → (List Component → A) → Option Component → A
in_block making of_block None = making.of_all []
in_block making of_block (Some mark) = if is_braces mark then of_block (inside mark) else making.of_all []

-- what is made of rules, with the blocks in them as deep as this
abbrev pub made_to : {A : Type 0} → Making A → ℕ → List Component → A
made_to making zero cs = making.of_all []
made_to making (suc depth) cs = making.of_all (map (λ cut. making.of_rule cut (in_block making (made_to making depth) cut.mark)) (cuts ends_rule cs))

-- what is made of rules; no block lies deeper than there are tokens
abbrev pub made : {A : Type 0} → Making A → List Component → A
made making cs = made_to making (suc (length (pieces_all cs))) cs
