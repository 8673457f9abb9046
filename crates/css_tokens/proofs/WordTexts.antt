-- The words of a text are in UTF-8 and hold no control character.
use Rattle.std.proofs.Common.{◌≡◌, ◌≤◌, ℕ, zero, suc, List, [], ◌∷◌, ◌++◌, Bool, true, false, ◌&&◌, ◌||◌, not, Option, Some, None, refl, sym, ◌∙◌, ap, ap₂, subst, arith, cond, length, take, drop, inl, inr, nat_eq}
use Rattle.std.specs.List.{list_all, list_any, position, position_or_len}
use Rattle.std.specs.Option.{option_map}
use Rattle.std.specs.Str.{IsCharBoundary, IsUtf8, is_utf8}
use Rattle.std.specs.Str.Lossy.{utf8_valid_len, valid_len_up_to}
use Rattle.std.proofs.lemmas.Bool.{and_parts, cases_Bool, eqb-true, false≢true}
use Rattle.std.proofs.lemmas.Grind.{common_steps}
use Rattle.std.proofs.lemmas.List.{take-append-drop}
use Rattle.std.proofs.lemmas.List.Sums.{fails_before_first, list_all-from_AllPass}
use Rattle.std.proofs.lemmas.Str.{IsUtf8-drop, IsUtf8-from_is_utf8, IsUtf8-nil, IsUtf8-take, is_utf8-from_IsUtf8}
use Rattle.css_tokens.specs.declared.kind.Kind.{Kind}
use Rattle.css_tokens.specs.Piece.{Word}
use Rattle.css_tokens.specs.Tokens.{First, Reads, ReadsTo, after_mark, bad_place, first_front, is_control, or_else, word}
use Rattle.css_tokens.proofs.Boundaries.{first_boundary}

-- A text without a bad place is in UTF-8, and has no control character.

take-all : (t : List ℕ) → take (length t) t ≡ t
take-all [] = refl
take-all (b ∷ t) = ap (λ r. b ∷ r) (take-all t)

front-utf8 : (t : List ℕ) (m : ℕ) → IsUtf8 (take (valid_len_up_to t m) t)
front-utf8 t zero = IsUtf8-nil
front-utf8 t (suc m) = elim (cases_Bool (is_utf8 (take (suc m) t))) [
  | inl e ↦ subst (λ (b : Bool). IsUtf8 (take (cond b (suc m) (valid_len_up_to t m)) t)) (sym e) (IsUtf8-from_is_utf8 (take (suc m) t) e)
  | inr e ↦ subst (λ (b : Bool). IsUtf8 (take (cond b (suc m) (valid_len_up_to t m)) t)) (sym e) (front-utf8 t m)
]

valid-utf8 : (t : List ℕ) → utf8_valid_len t ≡ length t → IsUtf8 t
unfolding utf8_valid_len
valid-utf8 t e = subst IsUtf8 (ap (λ n. take n t) e ∙ take-all t) (front-utf8 t (length t))

pub none-any : (t : List ℕ) → list_all (λ b. not (is_control b)) t ≡ true → list_any is_control t ≡ false
none-any [] h = refl
none-any (b ∷ t) h = let p = and_parts (not (is_control b)) (list_all (λ x. not (is_control x)) t) h in at (is_control b) p.0 (none-any t p.1)
  where
    at : (x : Bool) → not x ≡ true → list_any is_control t ≡ false → (x || list_any is_control t) ≡ false
    at true e k = absurd (false≢true e)
    at false e k = k

no-control : (t : List ℕ) → position is_control t ≡ None → list_any is_control t ≡ false
no-control t e =
    let past : length t ≤ position_or_len is_control t = grind (arith, common_steps) in
    none-any t (list_all-from_AllPass (λ b. not (is_control b)) t (λ i d l. ap not (fails_before_first is_control t i d (omega (arith, past, l)))))

good-parts : (t : List ℕ) → bad_place t ≡ None → IsUtf8 t × (list_any is_control t ≡ false)
good-parts t e = at (position is_control (take (utf8_valid_len t) t)) (nat_eq (utf8_valid_len t) (length t)) refl refl e
  where
    at : (o : Option ℕ) (b : Bool) → position is_control (take (utf8_valid_len t) t) ≡ o → nat_eq (utf8_valid_len t) (length t) ≡ b → or_else o (cond b None (Some (utf8_valid_len t))) ≡ None → IsUtf8 t × (list_any is_control t ≡ false)
    at (Some i) b is eq h = absurd (cc h)
    at None false is eq h = absurd (cc h)
    at None true is eq h =
        let same = eqb-true (utf8_valid_len t) (length t) eq in
        (valid-utf8 t same, no-control t (subst (λ (u : List ℕ). position is_control u ≡ None) (ap (λ n. take n t) same ∙ take-all t) is))

-- So is each of its words.

or-parts : (y z : Bool) → (y || z) ≡ false → (y ≡ false) × (z ≡ false)
or-parts true z h = absurd (false≢true (sym h))
or-parts false z h = (refl, h)

any-parts : (a b : List ℕ) → list_any is_control (a ++ b) ≡ false → (list_any is_control a ≡ false) × (list_any is_control b ≡ false)
any-parts [] b h = (refl, h)
any-parts (x ∷ a) b h =
    let p = or-parts (is_control x) (list_any is_control (a ++ b)) h in
    let q = any-parts a b p.1 in
    (ap₂ ◌||◌ p.0 q.0, q.1)

record IsGood (t : List ℕ) : Type 0 where
  whole : IsUtf8 t
  clean : list_any is_control t ≡ false

length-take : (n : ℕ) (t : List ℕ) → n ≤ length t → length (take n t) ≡ n
length-take zero t h = refl
length-take (suc n) [] h = absurd (omega (arith, h))
length-take (suc n) (b ∷ t) h = ap suc (length-take n t (omega (arith, h)))

split_good : (t : List ℕ) (n : ℕ) → IsGood t → IsCharBoundary t n → IsGood (take n t) × IsGood (drop n t)
split_good t n g b =
    let c = any-parts (take n t) (drop n t) (ap (list_any is_control) (take-append-drop n t) ∙ g.clean) in (
      record { whole = IsUtf8-take t n g.whole b; clean = c.0 },
      record { whole = IsUtf8-drop t n g.whole b; clean = c.1 },
    )

first-good : (t : List ℕ) (w : Word) → IsGood t → First t w → IsGood w.text × IsGood (drop (length w.text) t)
first-good t w g first = at (first_front t) refl first
  where
    at : (o : Option (Kind × ℕ)) → first_front t ≡ o → option_map (word t) o ≡ Some w → IsGood w.text × IsGood (drop (length w.text) t)
    at None is h = absurd (cc h)
    at (Some front) is h =
        let same : word t front ≡ w = cc h in
        let edge = first_boundary t front g.whole (sym is) in
        let parts = split_good t front.1 g edge in
        let count : front.1 ≡ length w.text = sym (length-take front.1 t edge.0) ∙ ap (λ (v : Word). length v.text) same in (
          subst (λ (v : Word). IsGood v.text) same parts.0,
          subst (λ (n : ℕ). IsGood (drop n t)) count parts.1,
        )

words_good : (t : List ℕ) (ws : List Word) (rest : List ℕ) → IsGood t → ReadsTo t ws rest → list_all (λ w. is_utf8 w.text && not (list_any is_control w.text)) ws ≡ true
words_good t [] rest g reads = refl
words_good t (w ∷ ws) rest g reads =
    let parts = first-good t w g reads.0 in
    ap₂ ◌&&◌ (ap₂ ◌&&◌ (is_utf8-from_IsUtf8 w.text parts.0.whole) (ap not parts.0.clean)) (words_good (drop (length w.text) t) ws rest parts.1 reads.2)

pub clean_words : (t : List ℕ) (ws : List Word) → Reads t ws → list_all (λ w. is_utf8 w.text && not (list_any is_control w.text)) ws ≡ true
clean_words t ws reads =
    let p = good-parts (after_mark t) reads.0 in
    words_good (after_mark t) ws [] (record { whole = p.0; clean = p.1 }) reads.1
