-- What is said of words by whether they name an entry.
use Rattle.std.proofs.Common.{◌≡◌, ℕ, List, Option, Some, None, Result, Ok, IfOk, is_none, if◌then◌else◌, subst, sym, ap, ◌∙◌}
use Rattle.csslower.specs.Answers.{UsageFits}
use Rattle.csslower.specs.Private.Stages.{IsOfCommand}
use Rattle.csslower.specs.Words.{entry_of, usage_of}
use Rattle.csslower.specs.declared.status.Status.{Status}
use Rattle.csslower.specs.declared.status.Status.TheVariants.{Usage}
use Rattle.csslower.specs.declared.status.WordKind.{WordKind}
use Rattle.csslower.specs.declared.status.WordKind.TheVariants.{Words}

abbrev usage_from : Option (List ℕ) → Option WordKind
usage_from entry = if is_none entry then Some Words else None

-- words that name no entry are answered so
pub usage_none : (words : List (List ℕ)) → entry_of words ≡ None → UsageFits words (Usage Words)
usage_none words none kind =
    let is : usage_of words ≡ Some Words = ap usage_from none in
    (λ same. is ∙ cc same, λ found. cc (is, found))

-- words that name one are not
pub usage_some : (words : List (List ℕ)) (path : List ℕ) (answer : Status) → entry_of words ≡ Some path → IsOfCommand answer → UsageFits words answer
usage_some words path answer some of_command kind =
    let is : usage_of words ≡ None = ap usage_from some in
    (λ same. absurd (subst IsOfCommand same of_command), λ found. absurd (cc (is, found)))

-- a fact of the value that is there
pub of_ok : {X E : Type 0} (found : Result X E) (value : X) (P : X → Type 0) → found ≡ Ok value → P value → IfOk found P
of_ok {X} {E} found value P is holds = subst (λ (r : Result X E). IfOk r P) (sym is) holds
