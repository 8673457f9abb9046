-- A name in lower case is a name.
use Rattle.std.proofs.Common.{◌≡◌, ℕ, ◌<◌, ◌≤◌, ◌+◌, ◌/◌, List, [], ◌∷◌, ◌++◌, map, Bool, true, not, ◌&&◌, ltb, refl, sym, ap, ap₂, ◌∙◌, inl, inr, arith, nat_eq, ltb-true, ltb-false}
use Rattle.std.specs.Char.{to_ascii_lowercase}
use Rattle.std.specs.List.{list_all}
use Rattle.std.specs.Str.{chars, is_utf8, str_to_ascii_lowercase}
use Rattle.std.proofs.lemmas.Bool.{cases_Bool, and_parts, false≢true}
use Rattle.std.proofs.lemmas.Bool.Decides.{nat_tests}
use Rattle.std.proofs.lemmas.List.{map-append}
use Rattle.std.proofs.lemmas.Str.{IsUtf8-from_is_utf8, is_utf8-from_IsUtf8, encodes-chars, chars-encodes, scalars-chars, encode_ascii}
use lib.Utf8.{encode, encodes, next, scalar, scalars}
use Rattle.css_tokens.specs.Names.{is_name}

abbrev lower : List ℕ → List ℕ
lower bs = map to_ascii_lowercase bs

high-same : (b : ℕ) → 128 ≤ b → to_ascii_lowercase b ≡ b
high-same b h = grind (arith, nat_tests)

cons-same : (b : ℕ) (bs : List ℕ) → 128 ≤ b → lower bs ≡ bs → lower (b ∷ bs) ≡ b ∷ bs
cons-same b bs h e = ap₂ (λ (x : ℕ) (xs : List ℕ). x ∷ xs) (high-same b h) e

next-same : (c : ℕ) (bs : List ℕ) → lower bs ≡ bs → lower (next c ∷ bs) ≡ next c ∷ bs
next-same c bs e = cons-same (next c) bs (omega arith) e

high-encode : (c : ℕ) → 128 ≤ c → lower (encode c) ≡ encode c
unfolding encode
high-encode c h =
    elim (cases_Bool (ltb c 128)) [
      | inl e ↦ let l = ltb-true c 128 e in absurd (omega arith)
      | inr e ↦ rw e (elim (cases_Bool (ltb c 2048)) [
        | inl f ↦ rw f (cons-same (192 + c / 64) (next c ∷ []) (omega arith) (next-same c [] refl))
        | inr f ↦ rw f (elim (cases_Bool (ltb c 65536)) [
          | inl g ↦ rw g (cons-same (224 + c / 4096) (next (c / 64) ∷ next c ∷ []) (omega arith) (next-same (c / 64) (next c ∷ []) (next-same c [] refl)))
          | inr g ↦ rw g (cons-same (240 + c / 262144) (next (c / 4096) ∷ next (c / 64) ∷ next c ∷ []) (omega arith) (next-same (c / 4096) (next (c / 64) ∷ next c ∷ []) (next-same (c / 64) (next c ∷ []) (next-same c [] refl))))
        ])
      ])
    ]

ascii-lower : (c : ℕ) → c < 128 → to_ascii_lowercase c < 128
ascii-lower c l = grind (arith, nat_tests)

-- a character in lower case, and its bytes
lower-encode : (c : ℕ) → lower (encode c) ≡ encode (to_ascii_lowercase c)
lower-encode c = elim (cases_Bool (ltb c 128)) [
  | inl e ↦ let l = ltb-true c 128 e in ap lower (encode_ascii c l) ∙ sym (encode_ascii (to_ascii_lowercase c) (ascii-lower c l))
  | inr e ↦ let l = ltb-false c 128 e in high-encode c l ∙ ap encode (sym (high-same c l))
]

lower-encodes : (cs : List ℕ) → lower (encodes cs) ≡ encodes (lower cs)
lower-encodes [] = refl
lower-encodes (c ∷ cs) =
    map-append to_ascii_lowercase (encode c) (encodes cs)
    ∙ ap₂ (λ (xs ys : List ℕ). xs ++ ys) (lower-encode c) (lower-encodes cs)

lower-scalar : (c : ℕ) → scalar c ≡ true → scalar (to_ascii_lowercase c) ≡ true
lower-scalar c h = grind (arith, nat_tests)

lower-scalars : (cs : List ℕ) → scalars cs ≡ true → scalars (lower cs) ≡ true
lower-scalars [] h = refl
lower-scalars (c ∷ cs) h = let p = and_parts (scalar c) (scalars cs) h in ap₂ ◌&&◌ (lower-scalar c p.0) (lower-scalars cs p.1)

abbrev is_some_char : ℕ → Bool
is_some_char c = not (nat_eq c 0)

lower-char : (c : ℕ) → is_some_char c ≡ true → is_some_char (to_ascii_lowercase c) ≡ true
lower-char c h = grind (arith, nat_tests)

lower-chars : (cs : List ℕ) → list_all is_some_char cs ≡ true → list_all is_some_char (lower cs) ≡ true
lower-chars [] h = refl
lower-chars (c ∷ cs) h = let p = and_parts (is_some_char c) (list_all is_some_char cs) h in ap₂ ◌&&◌ (lower-char c p.0) (lower-chars cs p.1)

pub lower-name : (name : List ℕ) → is_name name ≡ true → is_name (str_to_ascii_lowercase name) ≡ true
lower-name [] h = absurd (false≢true h)
lower-name (b ∷ bs) h =
    let n = b ∷ bs in
    let p = and_parts (is_utf8 n) (list_all is_some_char (chars n)) h in
    let u = IsUtf8-from_is_utf8 n p.0 in
    let cs = chars n in
    let same : lower n ≡ encodes (lower cs) = ap lower (sym (encodes-chars n u)) ∙ lower-encodes cs in
    let sound : scalars (lower cs) ≡ true = lower-scalars cs (scalars-chars n u) in
    ap₂ ◌&&◌ (is_utf8-from_IsUtf8 (lower n) (lower cs, (sound, sym same)))
    (ap (λ t. list_all is_some_char (chars t)) same ∙ ap (list_all is_some_char) (chars-encodes (lower cs) sound) ∙ lower-chars cs p.1)

lower-one : (b : ℕ) → to_ascii_lowercase (to_ascii_lowercase b) ≡ to_ascii_lowercase b
lower-one b = grind (arith, nat_tests)

-- what is in lower case stays as it is
pub lower-twice : (name : List ℕ) → str_to_ascii_lowercase (str_to_ascii_lowercase name) ≡ str_to_ascii_lowercase name
lower-twice [] = refl
lower-twice (b ∷ name) = ap₂ (λ (x : ℕ) (xs : List ℕ). x ∷ xs) (lower-one b) (lower-twice name)
