-- What is said of a rule that is passed on is what it prints as.
use Rattle.std.proofs.Common.{◌≡◌, ℕ, List, true, ◌∙◌, ap}
use Rattle.css_tokens.specs.declared.component.Component.{Component}
use Rattle.css_tokens.specs.Piece.{Word, spelled}
use Rattle.css_tokens.specs.Trees.{all_formed, words_all}
use Rattle.css_tokens.specs.ValueAgain.{value_again}
use Rattle.css_tokens.specs.Values.{value_text, value_words}
use Rattle.selector_types.specs.Spelling.{text_of}
use Rattle.sheet_types.specs.declared.sheet.Passed.{Passed}
use Rattle.sheet_types.specs.Erased.{bare_value}
use Rattle.sheet_types.specs.PassedRules.{keyword_of}
use Rattle.sheet_types.specs.Statements.{BarePassed, bare_passed}
use Rattle.sheet_types.proofs.PlacesTrees.{words-erased}

-- the words of a value that is printed
abbrev pub Words : Type 0
Words = (v : List Component) → all_formed v ≡ true → words_all (value_again v) ≡ value_words v

text-printed : Words → (v : List Component) → all_formed v ≡ true → text_of (bare_value v) ≡ value_text v
text-printed words v formed = ap (λ (ws : List Word). spelled ws) (words-erased (value_again v) ∙ words v formed)

pub texts-printed : Words → (rule : Passed) → all_formed rule.prelude ≡ true → all_formed rule.block ≡ true
    → bare_passed rule ≡ record { keyword = keyword_of rule.kind; prelude = value_text rule.prelude; block = value_text rule.block }
texts-printed words rule prelude block =
    let said : List ℕ → List ℕ → BarePassed = λ p b. record { keyword = keyword_of rule.kind; prelude = p; block = b } in
    ap (λ p. said p (text_of (bare_value rule.block))) (text-printed words rule.prelude prelude)
    ∙ ap (said (value_text rule.prelude)) (text-printed words rule.block block)
