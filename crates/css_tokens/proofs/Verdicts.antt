-- The one answer that a list of tokens has.
use Rattle.std.proofs.Common.{◌≡◌, ℕ, suc, ◌≤◌, ◌⊎◌, inl, inr, List, [], ◌∷◌, ◌++◌, Option, Some, None, Result, Ok, Err, cond, leb, length, take, refl, ap, sym, ◌∙◌, arith, unwrap_or, option_and_then, OnOk, IsErrOf}
use Rattle.std.proofs.lemmas.Bool.{le-leb}
use Rattle.std.proofs.lemmas.List.{append-nil}
use Rattle.css_tokens.specs.declared.component.Component.{Component}
use Rattle.css_tokens.specs.declared.pairing.ComponentFault.{ComponentFault}
use Rattle.css_tokens.specs.declared.pairing.ComponentFault.TheVariants.{Syntax, Depth, Memory}
use Rattle.css_tokens.specs.Refusals.{IsRefusal}
use Rattle.css_tokens.specs.Piece.{Piece}
use Rattle.css_tokens.specs.Pairing.{awaited, awaited_after, awaited_next, depth, IsShallow, IsPaired, IsMismatch, IsTooDeep, IsUnclosed}
use Rattle.css_tokens.proofs.PairingLemmas.{awaited_push}

pub data Verdict : Type 0 where
  paired : Verdict
  unclosed : Verdict
  mismatch : ℕ → Verdict
  deep : ℕ → Verdict

abbrev verdict_end : List (List ℕ) → Verdict
verdict_end [] = paired
verdict_end (_ ∷ _) = unclosed

abbrev verdict_next : Option (List (List ℕ)) → ℕ → (List (List ℕ) → Verdict) → Verdict
verdict_next None at go = mismatch at
verdict_next (Some next) at go = cond (leb (length next) 64) (go next) (deep at)

abbrev pub verdict : List (List ℕ) → List Piece → Verdict
verdict waiting [] = verdict_end waiting
verdict waiting (t ∷ ts) = verdict_next (awaited_next waiting t) t.at (λ next. verdict next ts)

abbrev AllShallow : List (List ℕ) → List Piece → Type 0
AllShallow waiting ts = (n : ℕ) → length (unwrap_or (awaited_after waiting (take n ts)) []) ≤ 64

some_same : (a b : List (List ℕ)) → Some a ≡ Some b → a ≡ b
some_same a b e = cc

paired_mismatch : {at : ℕ} → paired ≡ mismatch at → ⊥
paired_mismatch e = cc

paired_unclosed : paired ≡ unclosed → ⊥
paired_unclosed e = cc

paired_deep : {at : ℕ} → paired ≡ deep at → ⊥
paired_deep e = cc

unclosed_mismatch : {at : ℕ} → unclosed ≡ mismatch at → ⊥
unclosed_mismatch e = cc

deep_mismatch : {at o : ℕ} → deep o ≡ mismatch at → ⊥
deep_mismatch e = cc

deep_unclosed : {o : ℕ} → deep o ≡ unclosed → ⊥
deep_unclosed e = cc

mismatch_same : {at o : ℕ} → mismatch o ≡ mismatch at → o ≡ at
mismatch_same e = cc

deep_same : {at o : ℕ} → deep o ≡ deep at → o ≡ at
deep_same e = cc

after_next : (o : Option (List (List ℕ))) (at : ℕ) (front : List Piece) (later : List (List ℕ)) (rest : List Piece) → ((next : List (List ℕ)) → awaited_after next front ≡ Some later → AllShallow next front → verdict next (front ++ rest) ≡ verdict later rest) → option_and_then (λ next. awaited_after next front) o ≡ Some later → ((n : ℕ) → length (unwrap_or (option_and_then (λ next. awaited_after next (take n front)) o) []) ≤ 64) → verdict_next o at (λ next. verdict next (front ++ rest)) ≡ verdict later rest
after_next None at front later rest step e h = cc
after_next (Some next) at front later rest step e h = ap (λ b. cond b (verdict next (front ++ rest)) (deep at)) (le-leb (length next) 64 (h 0)) ∙ step next e h

after_front : (front : List Piece) (waiting later : List (List ℕ)) (rest : List Piece) → awaited_after waiting front ≡ Some later → AllShallow waiting front → verdict waiting (front ++ rest) ≡ verdict later rest
after_front [] waiting later rest e h = ap (λ w. verdict w rest) (some_same waiting later e)
after_front (t ∷ front) waiting later rest e h = after_next (awaited_next waiting t) t.at front later rest (λ next f g. after_front front next later rest f g) e (λ n. h (suc n))

pub mismatch_verdict : (ts : List Piece) (at : ℕ) → IsMismatch ts at → verdict [] ts ≡ mismatch at
mismatch_verdict ts at m =
    ap (verdict []) m.before.split
    ∙ after_front m.front [] m.before.waiting (m.token ∷ m.before.rest) m.before.matched m.before.shallow
    ∙ ap (λ o. verdict_next o m.token.at (λ next. verdict next m.before.rest)) (sym (awaited_push m.front m.token m.before.waiting m.before.matched) ∙ m.none)
    ∙ ap mismatch (sym m.before.place)

deep_next : (o : Option (List (List ℕ))) (at : ℕ) (go : List (List ℕ) → Verdict) → length (unwrap_or o []) ≡ 65 → verdict_next o at go ≡ deep at
deep_next None at go e = absurd (omega arith)
deep_next (Some next) at go e = ap (λ n. cond (leb n 64) (go next) (deep at)) e

pub deep_verdict : (ts : List Piece) (at : ℕ) → IsTooDeep ts at → verdict [] ts ≡ deep at
deep_verdict ts at m =
    ap (verdict []) m.before.split
    ∙ after_front m.front [] m.before.waiting (m.token ∷ m.before.rest) m.before.matched m.before.shallow
    ∙ deep_next (awaited_next m.before.waiting m.token) m.token.at (λ next. verdict next m.before.rest) (ap (λ o. length (unwrap_or o [])) (sym (awaited_push m.front m.token m.before.waiting m.before.matched)) ∙ m.deep)
    ∙ ap deep (sym m.before.place)

at_end : (ts : List Piece) (later : List (List ℕ)) → awaited ts ≡ Some later → IsShallow ts → verdict [] ts ≡ verdict_end later
at_end ts later e h = ap (verdict []) (sym (append-nil ts)) ∙ after_front ts [] later [] e h

pub unclosed_verdict : (ts : List Piece) (end at : ℕ) → IsUnclosed ts end at → verdict [] ts ≡ unclosed
unclosed_verdict ts end at m = at_end ts (m.innermost ∷ m.outer) m.unclosed m.shallow

pub paired_verdict : (ts : List Piece) → IsPaired ts → verdict [] ts ≡ paired
paired_verdict ts m = at_end ts [] m.all_closed m.shallow

-- the answer that the relations leave
pub mismatch_named : (ts : List Piece) (end at : ℕ) (r : Result (List Component) ComponentFault)
    → OnOk r (IsPaired ts) → ((o : ℕ) → IsErrOf r (Syntax o) → IsMismatch ts o ⊎ IsUnclosed ts end o) → ((o : ℕ) → IsErrOf r (Depth o) → IsTooDeep ts o)
    → IsMismatch ts at → IsRefusal r (Syntax at)
mismatch_named ts end at (Ok cs) ok syntax depth m = absurd (paired_mismatch (sym (paired_verdict ts ok) ∙ mismatch_verdict ts at m))
mismatch_named ts end at (Err (Syntax o)) ok syntax depth m = elim (syntax o refl) [
  | inl n ↦ ap Syntax (mismatch_same (sym (mismatch_verdict ts o n) ∙ mismatch_verdict ts at m))
  | inr n ↦ absurd (unclosed_mismatch (sym (unclosed_verdict ts end o n) ∙ mismatch_verdict ts at m))
]
mismatch_named ts end at (Err (Depth o)) ok syntax depth m = absurd (deep_mismatch (sym (deep_verdict ts o (depth o refl)) ∙ mismatch_verdict ts at m))
mismatch_named ts end at (Err Memory) ok syntax depth m = tt

pub unclosed_named : (ts : List Piece) (end at : ℕ) (r : Result (List Component) ComponentFault)
    → OnOk r (IsPaired ts) → ((o : ℕ) → IsErrOf r (Syntax o) → IsMismatch ts o ⊎ IsUnclosed ts end o) → ((o : ℕ) → IsErrOf r (Depth o) → IsTooDeep ts o)
    → IsUnclosed ts end at → IsRefusal r (Syntax at)
unclosed_named ts end at (Ok cs) ok syntax depth m = absurd (paired_unclosed (sym (paired_verdict ts ok) ∙ unclosed_verdict ts end at m))
unclosed_named ts end at (Err (Syntax o)) ok syntax depth m = elim (syntax o refl) [
  | inl n ↦ absurd (unclosed_mismatch (sym (unclosed_verdict ts end at m) ∙ mismatch_verdict ts o n))
  | inr n ↦ ap Syntax (n.place ∙ sym m.place)
]
unclosed_named ts end at (Err (Depth o)) ok syntax depth m = absurd (deep_unclosed (sym (deep_verdict ts o (depth o refl)) ∙ unclosed_verdict ts end at m))
unclosed_named ts end at (Err Memory) ok syntax depth m = tt

pub depth_named : (ts : List Piece) (end at : ℕ) (r : Result (List Component) ComponentFault)
    → OnOk r (IsPaired ts) → ((o : ℕ) → IsErrOf r (Syntax o) → IsMismatch ts o ⊎ IsUnclosed ts end o) → ((o : ℕ) → IsErrOf r (Depth o) → IsTooDeep ts o)
    → IsTooDeep ts at → IsRefusal r (Depth at)
depth_named ts end at (Ok cs) ok syntax depth m = absurd (paired_deep (sym (paired_verdict ts ok) ∙ deep_verdict ts at m))
depth_named ts end at (Err (Syntax o)) ok syntax depth m = elim (syntax o refl) [
  | inl n ↦ absurd (deep_mismatch (sym (deep_verdict ts at m) ∙ mismatch_verdict ts o n))
  | inr n ↦ absurd (deep_unclosed (sym (deep_verdict ts at m) ∙ unclosed_verdict ts end o n))
]
depth_named ts end at (Err (Depth o)) ok syntax depth m = ap Depth (deep_same (sym (deep_verdict ts o (depth o refl)) ∙ deep_verdict ts at m))
depth_named ts end at (Err Memory) ok syntax depth m = tt
