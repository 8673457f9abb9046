-- A text behind a space, which is taken back where the text is empty.
use Rattle.std.proofs.Common.{◌≡◌, ℕ, ◌+◌, ◌-◌, List, [], ◌∷◌, ◌++◌, Bool, true, false, length, take, nat_eq, eqb-true, refl, sym, ap, ◌∙◌, arith, append_assoc, cond, suc, length-append}
use Rattle.std.proofs.Math.Seq.{take-append_seam}
use Rattle.std.proofs.lemmas.Bool.Decides.{nat_tests}
use Rattle.std.proofs.lemmas.List.{append-nil}
use Rattle.css_tokens.specs.Appends.{AppendsFront}
use Rattle.sheet_types.specs.SheetTexts.{behind_keyword}
use Rattle.css_print.specs.Private.Printed.{taken_back}

abbrev kept_or_cut : ℕ → List ℕ → Bool → List ℕ
kept_or_cut n text b = cond b (take (n - 1) text) text

pub taken-at : (n : ℕ) (text : List ℕ) → nat_eq (length text) n ≡ true → taken_back n text ≡ take (n - 1) text
taken-at n text e = ap (kept_or_cut n text) e

pub taken-past : (n : ℕ) (text : List ℕ) → nat_eq (length text) n ≡ false → taken_back n text ≡ text
taken-past n text e = ap (kept_or_cut n text) e

same-length : (n : ℕ) → nat_eq n n ≡ true
same-length n = grind (arith, nat_tests)

-- a list that is longer has another length
other-length : (m n : ℕ) → nat_eq (suc m + n) m ≡ false
other-length m n = by (nat_eq (suc m + n) m) refl
  where
    by : (b : Bool) → nat_eq (suc m + n) m ≡ b → b ≡ false
    by false e = refl
    by true e = let same = eqb-true (suc m + n) m e in absurd (omega arith)

spaced-length : (old : List ℕ) → length (old ++ 32 ∷ []) - 1 ≡ length old
spaced-length old = let e = length-append old (32 ∷ []) in omega arith

-- a space and a front of the text, taken back where the front is empty
pub taken : (old front : List ℕ) → taken_back (length (old ++ 32 ∷ [])) ((old ++ 32 ∷ []) ++ front) ≡ old ++ behind_keyword front
taken old [] =
    let spaced = old ++ 32 ∷ [] in
    ap (taken_back (length spaced)) (append-nil spaced)
    ∙ taken-at (length spaced) spaced (same-length (length spaced))
    ∙ ap (λ n. take n spaced) (spaced-length old)
    ∙ take-append_seam old (32 ∷ [])
    ∙ sym (append-nil old)
taken old (c ∷ front) =
    let spaced = old ++ 32 ∷ [] in
    let long : length (spaced ++ c ∷ front) ≡ suc (length spaced) + length front = length-append spaced (c ∷ front) ∙ omega arith in
    taken-past (length spaced) (spaced ++ c ∷ front) (ap (λ n. nat_eq n (length spaced)) long ∙ other-length (length spaced) (length front))
    ∙ append_assoc old (32 ∷ []) (c ∷ front)

-- a front of a text behind a space
behind-front : (front rest : List ℕ) → (more : List ℕ) × (behind_keyword (front ++ rest) ≡ behind_keyword front ++ more)
behind-front [] rest = (behind_keyword rest, refl)
behind-front (c ∷ front) rest = (rest, refl)

-- the text was written behind a space
pub written : (old spaced mid new text : List ℕ) (count : ℕ) → spaced ≡ old ++ 32 ∷ [] → count ≡ length spaced → mid ≡ spaced ++ text → new ≡ taken_back count mid → new ≡ old ++ behind_keyword text
written old spaced mid new text count space counted wrote back =
    back
    ∙ ap (λ n. taken_back n mid) (counted ∙ ap length space)
    ∙ ap (taken_back (length (old ++ 32 ∷ []))) (wrote ∙ ap (λ t. t ++ text) space)
    ∙ taken old text

-- a front of the text was
pub refused : (old spaced mid new text : List ℕ) (count : ℕ) → spaced ≡ old ++ 32 ∷ [] → count ≡ length spaced → AppendsFront spaced mid text → new ≡ taken_back count mid → AppendsFront old new (behind_keyword text)
refused old spaced mid new text count space counted front back =
    let more = behind-front front.front front.rest in
    record {
      front = behind_keyword front.front;
      rest = more.0;
      split = ap behind_keyword front.split ∙ more.1;
      appended = written old spaced mid new front.front count space counted front.appended back;
    }
