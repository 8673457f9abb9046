-- What AN+B without white space is made of.
use Rattle.std.proofs.Common.{◌≡◌, ℕ, List, [], ◌∷◌, ◌++◌, length, take, drop, Bool, true, false, not, ◌&&◌, ◌||◌, ◌⊎◌, inl, inr, nat_eq, cond, refl, sym, ap, ap₂, ◌∙◌, codes, eqb-true, take-append-drop}
use Rattle.std.specs.Char.{is_ascii_digit}
use Rattle.std.specs.List.{list_all}
use Rattle.std.proofs.lemmas.Bool.{cases_Bool, and_parts, or_cases, not-true, false≢true}
use Rattle.std.proofs.lemmas.List.{append-nil}
use lib.Pointwise.{bytes_decides}
use Rattle.css_tokens.specs.Trees.{is_text}
use Rattle.css_tokens.specs.Numbers.{begins_digit, is_digits, is_sign}
use Rattle.selector_types.specs.AnPlusB.{after_digits, after_spaces, is_an_plus_b, is_blank, is_integer, is_offset, is_step, is_word}
use Rattle.selector_types.specs.Names.{has_space}
use Rattle.selector_types.specs.ReadableSelectors.{is_step_text}
use Rattle.selector_types.specs.Spelling.{unsigned}

-- Without spaces.

or-parts : (a b : Bool) → (a || b) ≡ false → (a ≡ false) × (b ≡ false)
or-parts true b h = absurd (false≢true (sym h))
or-parts false b h = (refl, h)

space-behind : (xs ys : List ℕ) → has_space (xs ++ ys) ≡ false → has_space ys ≡ false
space-behind [] ys h = h
space-behind (x ∷ xs) ys h = space-behind xs ys (or-parts (nat_eq x 32) (has_space (xs ++ ys)) h).1

blank-none : (t : List ℕ) → has_space t ≡ false → is_blank t ≡ true → t ≡ []
blank-none [] h k = refl
blank-none (b ∷ t) h k = absurd (false≢true (sym (or-parts (nat_eq b 32) (has_space t) h).0 ∙ (and_parts (nat_eq b 32) (is_blank t) k).0))

spaces-none : (t : List ℕ) → has_space t ≡ false → after_spaces t ≡ t
spaces-none [] h = refl
spaces-none (b ∷ t) h = ap (λ (x : Bool). cond x (after_spaces t) (b ∷ t)) (or-parts (nat_eq b 32) (has_space t) h).0

-- Signs and digits.

-- a sign in front of what is behind it
pub record Signed (text : List ℕ) : Type 0 where
  pub sign : List ℕ
  pub is_one : is_sign sign ≡ true
  pub whole : text ≡ sign ++ unsigned text

signed : (text : List ℕ) → Signed text
signed [] = record { sign = []; is_one = refl; whole = refl }
signed (b ∷ t) = elim (cases_Bool (nat_eq b 43 || nat_eq b 45)) [
  | inl e ↦ record { sign = b ∷ []; is_one = e; whole = sym (ap (λ (x : Bool). b ∷ cond x t (b ∷ t)) e) }
  | inr e ↦ record { sign = []; is_one = refl; whole = sym (ap (λ (x : Bool). cond x t (b ∷ t)) e) }
]

-- digits in front of what is behind them
record Digits (text : List ℕ) : Type 0 where
  digits : List ℕ
  are_digits : list_all is_ascii_digit digits ≡ true
  whole : text ≡ digits ++ after_digits text

digits-in : (text : List ℕ) → Digits text
digits-in [] = record { digits = []; are_digits = refl; whole = refl }
digits-in (b ∷ t) =
    let more = digits-in t in
    elim (cases_Bool (is_ascii_digit b)) [
      | inl e ↦ record {
        digits = b ∷ more.digits;
        are_digits = ap₂ ◌&&◌ e more.are_digits;
        whole = ap (λ (s : List ℕ). b ∷ s) more.whole ∙ sym (ap (λ (x : Bool). b ∷ (more.digits ++ cond x (after_digits t) (b ∷ t))) e);
      }
      | inr e ↦ record { digits = []; are_digits = refl; whole = sym (ap (λ (x : Bool). cond x (after_digits t) (b ∷ t)) e) }
    ]

integer-digits : (text : List ℕ) → has_space text ≡ false → is_integer text ≡ true → is_digits text ≡ true
integer-digits text s h =
    let p = and_parts (begins_digit text) (is_blank (after_digits text)) h in
    let d = digits-in text in
    let none = blank-none (after_digits text) (space-behind d.digits (after_digits text) (sym (ap has_space d.whole) ∙ s)) p.1 in
    let same : text ≡ d.digits = d.whole ∙ ap (λ (t : List ℕ). d.digits ++ t) none ∙ append-nil d.digits in
    ap₂ ◌&&◌ p.0 (ap (list_all is_ascii_digit) same ∙ d.are_digits)

-- What stands behind `n`: nothing, or `-` and digits; and then nothing, or `+` and digits.

abbrev pub IsMarked : ℕ → List ℕ → Type 0
IsMarked b text = (text ≡ []) ⊎ ((ds : List ℕ) × (is_digits ds ≡ true) × (text ≡ b ∷ ds))

pub record Offset (text : List ℕ) : Type 0 where
  pub minus : List ℕ
  pub plus : List ℕ
  pub is_minus : IsMarked 45 minus
  pub is_plus : IsMarked 43 plus
  pub whole : text ≡ minus ++ plus

offset-in : (text : List ℕ) → has_space text ≡ false → is_offset text ≡ true → Offset text
offset-in [] s h = record { minus = []; plus = []; is_minus = inl refl; is_plus = inl refl; whole = refl }
offset-in (b ∷ t) s h =
    let p = and_parts (nat_eq b 43 || nat_eq b 45) (is_integer (after_spaces t)) h in
    let k = (or-parts (nat_eq b 32) (has_space t) s).1 in
    let d = integer-digits t k (sym (ap is_integer (spaces-none t k)) ∙ p.1) in
    elim (or_cases (nat_eq b 43) (nat_eq b 45) p.0) [
      | inl e ↦ record { minus = []; plus = b ∷ t; is_minus = inl refl; is_plus = inr (t, d, ap (λ (x : ℕ). x ∷ t) (eqb-true b 43 e)); whole = refl }
      | inr e ↦ record { minus = b ∷ t; plus = []; is_minus = inr (t, d, ap (λ (x : ℕ). x ∷ t) (eqb-true b 45 e)); is_plus = inl refl; whole = sym (append-nil (b ∷ t)) }
    ]

-- a sign, digits or none, `n` and what stands behind it
pub record Stepped (text : List ℕ) : Type 0 where
  pub sign : List ℕ
  pub digits : List ℕ
  pub minus : List ℕ
  pub plus : List ℕ
  pub is_one : is_sign sign ≡ true
  pub are_digits : list_all is_ascii_digit digits ≡ true
  pub is_minus : IsMarked 45 minus
  pub is_plus : IsMarked 43 plus
  pub whole : text ≡ sign ++ (digits ++ 110 ∷ (minus ++ plus))

-- a sign and digits
pub record Numbered (text : List ℕ) : Type 0 where
  pub sign : List ℕ
  pub digits : List ℕ
  pub is_one : is_sign sign ≡ true
  pub are_digits : is_digits digits ≡ true
  pub whole : text ≡ sign ++ digits

word-in : (word text : List ℕ) → has_space text ≡ false → is_word word text ≡ true → text ≡ word
word-in word text s h =
    let n = length word in
    let p = and_parts (is_text (take n text) word) (is_blank (drop n text)) h in
    let whole : take n text ++ drop n text ≡ text = take-append-drop n text in
    let none = blank-none (drop n text) (space-behind (take n text) (drop n text) (ap has_space whole ∙ s)) p.1 in
    sym whole ∙ ap (λ (t : List ℕ). take n text ++ t) none ∙ append-nil (take n text) ∙ (bytes_decides (take n text) word).0 p.0

step-in : (text : List ℕ) → has_space text ≡ false → is_step text ≡ true → (rest : List ℕ) × ((text ≡ 110 ∷ rest) × Offset rest)
step-in [] s h = absurd (false≢true h)
step-in (b ∷ t) s h =
    let p = and_parts (nat_eq b 110) (is_offset (after_spaces t)) h in
    let k = (or-parts (nat_eq b 32) (has_space t) s).1 in
    (t, (ap (λ (x : ℕ). x ∷ t) (eqb-true b 110 p.0), offset-in t k (sym (ap is_offset (spaces-none t k)) ∙ p.1)))

-- AN+B without white space: a word, a number or a step
pub step-cases : (text : List ℕ) → is_step_text text ≡ true → ((text ≡ codes "odd") ⊎ (text ≡ codes "even")) ⊎ (Numbered text ⊎ Stepped text)
step-cases text h =
    let p = and_parts (is_an_plus_b text) (not (has_space text)) h in
    let s = not-true (has_space text) p.1 in
    let g = signed text in
    let u = unsigned text in
    let us = space-behind g.sign u (sym (ap has_space g.whole) ∙ s) in
    let word = is_word (codes "odd") text || is_word (codes "even") text in
    elim (or_cases (is_word (codes "odd") text) (is_word (codes "even") text || (is_integer u || is_step (after_digits u))) (shape text p.0)) [
      | inl e ↦ inl (inl (word-in (codes "odd") text s e))
      | inr e ↦ elim (or_cases (is_word (codes "even") text) (is_integer u || is_step (after_digits u)) e) [
        | inl f ↦ inl (inr (word-in (codes "even") text s f))
        | inr f ↦ elim (or_cases (is_integer u) (is_step (after_digits u)) f) [
          | inl i ↦ inr (inl (record { sign = g.sign; digits = u; is_one = g.is_one; are_digits = integer-digits u us i; whole = g.whole }))
          | inr i ↦
              let d = digits-in u in
              let n = step-in (after_digits u) (space-behind d.digits (after_digits u) (sym (ap has_space d.whole) ∙ us)) i in
              let o = n.1.1 in
              inr (inr (record {
                sign = g.sign;
                digits = d.digits;
                minus = o.minus;
                plus = o.plus;
                is_one = g.is_one;
                are_digits = d.are_digits;
                is_minus = o.is_minus;
                is_plus = o.is_plus;
                whole = g.whole ∙ ap (λ (t : List ℕ). g.sign ++ t) (d.whole ∙ ap (λ (t : List ℕ). d.digits ++ t) (n.1.0 ∙ ap (λ (t : List ℕ). 110 ∷ t) o.whole));
              }))
        ]
      ]
    ]
  where
    shape : (text : List ℕ) → is_an_plus_b text ≡ true → (is_word (codes "odd") text || (is_word (codes "even") text || (is_integer (unsigned text) || is_step (after_digits (unsigned text))))) ≡ true
    shape text h = regrouped (is_word (codes "odd") text) (is_word (codes "even") text) (is_integer (unsigned text)) (is_step (after_digits (unsigned text))) h
      where
        regrouped : (a b c d : Bool) → (((a || b) || c) || d) ≡ true → (a || (b || (c || d))) ≡ true
        regrouped true b c d h = refl
        regrouped false true c d h = refl
        regrouped false false c d h = h
