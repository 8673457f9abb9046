-- Supports conditions that are the same, places aside, print as the same, places aside.
use Rattle.std.proofs.Common.{◌≡◌, ℕ, List, [], ◌∷◌, map, refl, sym, ◌∙◌, ap}
use Rattle.css_tokens.specs.declared.component.Component.{Component}
use Rattle.css_tokens.specs.ValueAgain.{value_again}
use Rattle.media_spelling.specs.Places.{bare, bare_steps, bare_supports}
use Rattle.media_spelling.specs.SupportsAgain.{again_steps, supports_again}
use Rattle.media_spelling.specs.SupportsFold.{folded-And, folded-Or, folded-Not, folded-Declared, folded-Function}
use Rattle.media_spelling.specs.SupportsInduction.{Each, by_supports}
use Rattle.media_spelling.specs.declared.supports.Supports.{Supports}
use Rattle.media_spelling.specs.declared.supports.Supports as supports
use Rattle.sheet_types.proofs.PlacesTrees.{bare_value-erased}

-- as it prints, places aside
abbrev printed : Supports → Supports
printed s = bare_supports (supports_again s)

abbrev Same : Supports → Type 0
Same s = printed (bare_supports s) ≡ printed s

same-all : (cs : List Supports) → Each Same cs → map bare_supports (map supports_again (map bare_supports cs)) ≡ map bare_supports (map supports_again cs)
same-all [] each = refl
same-all (c ∷ cs) each = ap (λ (d : Supports). d ∷ map bare_supports (map supports_again (map bare_supports cs))) each.0 ∙ ap (λ (ds : List Supports). printed c ∷ ds) (same-all cs each.1)

printed-And : (cs : List Supports) → printed (supports.And cs) ≡ supports.And (map bare_supports (map supports_again cs))
printed-And cs = ap bare_supports (folded-And again_steps cs) ∙ folded-And bare_steps (map supports_again cs)

printed-Or : (cs : List Supports) → printed (supports.Or cs) ≡ supports.Or (map bare_supports (map supports_again cs))
printed-Or cs = ap bare_supports (folded-Or again_steps cs) ∙ folded-Or bare_steps (map supports_again cs)

printed-Not : (c : Supports) → printed (supports.Not c) ≡ supports.Not (printed c)
printed-Not c = ap bare_supports (folded-Not again_steps c) ∙ folded-Not bare_steps (supports_again c)

printed-Declared : (name : List ℕ) (value : List Component) → printed (supports.Declared name value) ≡ supports.Declared name (map bare (value_again value))
printed-Declared name value = ap bare_supports (folded-Declared again_steps name value) ∙ folded-Declared bare_steps name (value_again value)

pub printed-same : (s : Supports) → bare_supports (supports_again (bare_supports s)) ≡ bare_supports (supports_again s)
printed-same =
    by_supports Same (record {
      and_of = λ cs each. ap printed (folded-And bare_steps cs) ∙ printed-And (map bare_supports cs) ∙ ap supports.And (same-all cs each) ∙ sym (printed-And cs);
      or_of = λ cs each. ap printed (folded-Or bare_steps cs) ∙ printed-Or (map bare_supports cs) ∙ ap supports.Or (same-all cs each) ∙ sym (printed-Or cs);
      not_of = λ c same. ap printed (folded-Not bare_steps c) ∙ printed-Not (bare_supports c) ∙ ap supports.Not same ∙ sym (printed-Not c);
      declared = λ name value. ap printed (folded-Declared bare_steps name value) ∙ printed-Declared name (map bare value) ∙ ap (supports.Declared name) (bare_value-erased value) ∙ sym (printed-Declared name value);
      function = λ at.
          let none = λ (n : ℕ). ap bare_supports (folded-Function again_steps n) in
          ap printed (folded-Function bare_steps at) ∙ none 0 ∙ sym (none at);
    })

pub printed-alike : (a b : Supports) → bare_supports a ≡ bare_supports b → bare_supports (supports_again a) ≡ bare_supports (supports_again b)
printed-alike a b e = sym (printed-same a) ∙ ap printed e ∙ printed-same b
