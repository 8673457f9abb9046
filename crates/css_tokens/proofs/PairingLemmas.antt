-- One token more, and that tokens have one fault at most.
use Rattle.std.proofs.Common.{◌≡◌, ℕ, ◌≤◌, ◌<◌, ◌+◌, List, [], ◌∷◌, ◌++◌, Option, Some, None, length, take, refl, ap, sym, ◌∙◌, arith, unwrap_or, option_and_then, inl, inr, get_or, drop, subst}
use Rattle.std.proofs.lemmas.List.{take-append-le, take_all, length-append, take-append-drop, drop_more, take_more}
use Rattle.std.proofs.lemmas.Bool.{cases_lt}
use Rattle.css_tokens.specs.Piece.{Piece}
use Rattle.css_tokens.specs.Pairing.{awaited, awaited_after, awaited_next, depth, IsShallow, IsSoundBefore, IsMismatch, IsTooDeep, IsUnclosed}

pub awaited_after-append : (waiting : List (List ℕ)) (xs ys : List Piece) → awaited_after waiting (xs ++ ys) ≡ option_and_then (λ next. awaited_after next ys) (awaited_after waiting xs)
awaited_after-append waiting [] ys = refl
awaited_after-append waiting (t ∷ xs) ys = elim (awaited_next waiting t) as (λ o. option_and_then (λ next. awaited_after next (xs ++ ys)) o ≡ option_and_then (λ next. awaited_after next ys) (option_and_then (λ next. awaited_after next xs) o)) [ None ↦ refl | Some next ↦ awaited_after-append next xs ys ]

one_more : (o : Option (List (List ℕ))) → option_and_then (λ (next : List (List ℕ)). Some next) o ≡ o
one_more None = refl
one_more (Some next) = refl

pub awaited_push : (xs : List Piece) (t : Piece) (waiting : List (List ℕ)) → awaited xs ≡ Some waiting → awaited (xs ++ t ∷ []) ≡ awaited_next waiting t
awaited_push xs t waiting e = awaited_after-append [] xs (t ∷ []) ∙ ap (λ o. option_and_then (λ next. awaited_after next (t ∷ [])) o) e ∙ one_more (awaited_next waiting t)

pub IsShallow_push : (xs : List Piece) (t : Piece) → IsShallow xs → depth (xs ++ t ∷ []) ≤ 64 → IsShallow (xs ++ t ∷ [])
IsShallow_push xs t h here n =
    elim (cases_lt (length xs) n) [
      | inl l ↦ (let e : take n (xs ++ t ∷ []) ≡ xs ++ t ∷ [] = take_all n _ (omega (arith, length-append xs (t ∷ []))) in rw e here)
      | inr l ↦ (let e : take n (xs ++ t ∷ []) ≡ take n xs = take-append-le n xs _ l in rw e (h n))
    ]

module _ (ts : List Piece) (i : ℕ) (t : Piece) (within : i < length ts) (is : t ≡ get_or ts i t) (waiting : List (List ℕ)) (matched : awaited (take i ts) ≡ Some waiting) (shallow : IsShallow (take i ts)) where
  sound : IsSoundBefore ts (take i ts) t t.at
  sound = record {
    rest = drop (i + 1) ts;
    split = sym (take-append-drop i ts) ∙ ap (λ r. take i ts ++ r) (drop_more ts i t within ∙ ap (λ x. x ∷ drop (i + 1) ts) (sym is));
    waiting = waiting;
    matched = matched;
    shallow = shallow;
    place = refl;
  }

  pub mismatch_at : awaited_next waiting t ≡ None → IsMismatch ts t.at
  mismatch_at e = record { front = take i ts; token = t; before = sound; none = awaited_push (take i ts) t waiting matched ∙ e }

  depth_at : (next : List (List ℕ)) → awaited_next waiting t ≡ Some next → depth (take i ts ++ t ∷ []) ≡ length next
  depth_at next e = ap (λ o. length (unwrap_or o [])) (awaited_push (take i ts) t waiting matched ∙ e)

  pub deep_at : (next : List (List ℕ)) → awaited_next waiting t ≡ Some next → length next ≡ 65 → IsTooDeep ts t.at
  deep_at next e n = record { front = take i ts; token = t; before = sound; deep = depth_at next e ∙ n }

  more : take (i + 1) ts ≡ take i ts ++ t ∷ []
  more = take_more ts i t within ∙ ap (λ x. take i ts ++ x ∷ []) (sym is)

  pub matched_more : (next : List (List ℕ)) → awaited_next waiting t ≡ Some next → awaited (take (i + 1) ts) ≡ Some next
  matched_more next e = ap awaited more ∙ awaited_push (take i ts) t waiting matched ∙ e

  pub shallow_more : (next : List (List ℕ)) → awaited_next waiting t ≡ Some next → length next ≤ 64 → IsShallow (take (i + 1) ts)
  shallow_more next e h = subst IsShallow (sym more) (IsShallow_push (take i ts) t shallow (rw (depth_at next e) h))

  pub pieces_more : (ps qs : List Piece) → ps ≡ take i ts → qs ≡ ps ++ t ∷ [] → qs ≡ take (i + 1) ts
  pieces_more ps qs e f = f ∙ ap (λ r. r ++ t ∷ []) e ∙ sym more

pub nonempty_unclosed : (ts : List Piece) (end : ℕ) (waiting : List (List ℕ)) → 0 < length waiting → awaited ts ≡ Some waiting → IsShallow ts → IsUnclosed ts end end
nonempty_unclosed ts end [] h matched shallow = absurd (omega arith)
nonempty_unclosed ts end (innermost ∷ outer) h matched shallow = record { innermost = innermost; outer = outer; unclosed = matched; shallow = shallow; place = refl }

pub unclosed_at : (ts : List Piece) (end i : ℕ) (waiting : List (List ℕ)) → length ts ≤ i → awaited (take i ts) ≡ Some waiting → IsShallow (take i ts) → 0 < length waiting → IsUnclosed ts end end
unclosed_at ts end i waiting l matched shallow h =
    let e : take i ts ≡ ts = take_all i ts l in
    nonempty_unclosed ts end waiting h (sym (ap awaited e) ∙ matched) (subst IsShallow e shallow)
