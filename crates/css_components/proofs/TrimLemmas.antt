-- Lists without white space and comments at their ends, one component more or less.
use Rattle.std.proofs.Common.{◌≡◌, ℕ, ◌+◌, ◌-◌, ◌<◌, ◌≤◌, List, [], ◌∷◌, ◌++◌, true, false, sym, ◌∙◌, ap, arith, length, take, get_or, cond, ◌&&◌}
use Rattle.std.proofs.Math.Bool.{and-true, and-false}
use Rattle.std.proofs.lemmas.List.{take_more}
use Rattle.std.proofs.lemmas.List.Folds.{list_all-append}
use Rattle.std.specs.List.{list_all}
use Rattle.css_tokens.specs.declared.component.Component.{Component}
use Rattle.css_components.specs.Components.{is_gap}
use Rattle.css_components.specs.Trimming.{trimmed_end}

all-gaps-gap : (cs : List Component) (c : Component) → is_gap c ≡ true → list_all is_gap (cs ++ c ∷ []) ≡ list_all is_gap cs
all-gaps-gap cs c gap = list_all-append is_gap cs (c ∷ []) ∙ ap (λ b. list_all is_gap cs && (b && true)) gap ∙ and-true _

all-gaps-other : (cs : List Component) (c : Component) → is_gap c ≡ false → list_all is_gap (cs ++ c ∷ []) ≡ false
all-gaps-other cs c other = list_all-append is_gap cs (c ∷ []) ∙ ap (λ b. list_all is_gap cs && (b && true)) other ∙ and-false _

-- a gap at the end goes
trimmed_end-gap : (cs : List Component) (c : Component) → is_gap c ≡ true → trimmed_end (cs ++ c ∷ []) ≡ trimmed_end cs
trimmed_end-gap [] c gap = ap (λ b. cond (b && true) [] (c ∷ [])) gap
trimmed_end-gap (x ∷ cs) c gap =
    ap (λ b. cond b [] (x ∷ trimmed_end (cs ++ c ∷ []))) (all-gaps-gap (x ∷ cs) c gap)
    ∙ ap (λ rest. cond (list_all is_gap (x ∷ cs)) [] (x ∷ rest)) (trimmed_end-gap cs c gap)

-- anything else keeps all before it
trimmed_end-other : (cs : List Component) (c : Component) → is_gap c ≡ false → trimmed_end (cs ++ c ∷ []) ≡ cs ++ c ∷ []
trimmed_end-other [] c other = ap (λ b. cond (b && true) [] (c ∷ [])) other
trimmed_end-other (x ∷ cs) c other =
    ap (λ b. cond b [] (x ∷ trimmed_end (cs ++ c ∷ []))) (all-gaps-other (x ∷ cs) c other)
    ∙ ap (λ rest. x ∷ rest) (trimmed_end-other cs c other)

-- the last of the first components
take-last : (cs : List Component) (to : ℕ) (d : Component) → 0 < to → to ≤ length cs → take to cs ≡ take (to - 1) cs ++ get_or cs (to - 1) d ∷ []
take-last cs to d some within =
    let one : (to - 1) + 1 ≡ to = omega arith in
    let inside : to - 1 < length cs = omega arith in
    ap (λ n. take n cs) (sym one) ∙ take_more cs (to - 1) d inside

pub trimmed_end-step : (cs : List Component) (to : ℕ) (d : Component) → 0 < to → to ≤ length cs → is_gap (get_or cs (to - 1) d) ≡ true → trimmed_end (take (to - 1) cs) ≡ trimmed_end (take to cs)
trimmed_end-step cs to d some within gap = sym (ap trimmed_end (take-last cs to d some within) ∙ trimmed_end-gap (take (to - 1) cs) (get_or cs (to - 1) d) gap)

pub trimmed_end-done : (cs : List Component) (to : ℕ) (d : Component) → 0 < to → to ≤ length cs → is_gap (get_or cs (to - 1) d) ≡ false → take to cs ≡ trimmed_end (take to cs)
trimmed_end-done cs to d some within other =
    let last = take-last cs to d some within in
    last ∙ sym (ap trimmed_end last ∙ trimmed_end-other (take (to - 1) cs) (get_or cs (to - 1) d) other)
