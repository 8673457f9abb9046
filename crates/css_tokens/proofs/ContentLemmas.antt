-- The text of a name means the name.
use Rattle.std.proofs.Common.{◌≡◌, ℕ, ◌+◌, ◌/◌, ◌<◌, ◌≤◌, List, [], ◌∷◌, ◌++◌, Bool, true, false, ◌&&◌, ◌||◌, not, cond, eqb, ltb, refl, ap, ap₂, sym, ◌∙◌, subst, arith, append_assoc, inl, inr, codes, nat_eq, nat_le, le-leb, ltb-true, ltb-false}
use Rattle.std.specs.Char.{encode_utf8, is_ascii_digit}
use Rattle.std.specs.List.{list_all, flat_map}
use Rattle.std.specs.Str.{IsUtf8, chars}
use Rattle.std.specs.Fmt.{digits}
use Rattle.std.proofs.lemmas.Str.{encodes-chars, encode_ascii}
use Rattle.std.proofs.lemmas.List.{append-nil}
use Rattle.std.proofs.lemmas.Bool.{cases_Bool, and_parts, agree_below_at, eqb-true, not-true, false≢true}
use Rattle.std.proofs.lemmas.Bool.Decides.{nat_tests}
use lib.Pointwise.{bytes_decides}
use lib.Utf8.{encode, encodes, next}
use Rattle.css_tokens.specs.NameText.{char_text, first_text, needs_code, stands_for_itself, code_escape, name_text, chars_text, after_dash}
use Rattle.css_tokens.specs.Trees.{is_text}
use Rattle.css_tokens.specs.declared.content.Part.{Part}
use Rattle.css_tokens.specs.declared.content.Part.TheVariants.{Outside, Begun}
use Rattle.css_tokens.specs.Contents.{step, content, content_from, never}
use Rattle.css_tokens.proofs.NameTextLemmas.{name_text-chars}

abbrev is_outside : Part → Bool
is_outside Outside = true
is_outside p = false

outside-eq : (p : Part) → is_outside p ≡ true → p ≡ Outside
outside-eq Outside h = refl
outside-eq p h = cc

module _ (ends : ℕ → Bool) where
  -- how far a text is read, and what it adds so far
  abbrev after : Part → List ℕ → Part
  after p [] = p
  after p (b ∷ bs) = after (step ends p b).0 bs

  abbrev said : Part → List ℕ → List ℕ
  said p [] = []
  said p (b ∷ bs) = (step ends p b).1 ++ said (step ends p b).0 bs

  content-append : (p : Part) (xs ys : List ℕ) → content_from ends p (xs ++ ys) ≡ said p xs ++ content_from ends (after p xs) ys
  content-append p [] ys = refl
  content-append p (b ∷ bs) ys =
      ap (λ t. (step ends p b).1 ++ t) (content-append (step ends p b).0 bs ys)
      ∙ sym (append_assoc (step ends p b).1 (said (step ends p b).0 bs) (content_from ends (after (step ends p b).0 bs) ys))

  -- the text t means the bytes m, whatever follows
  abbrev pub Means : List ℕ → List ℕ → Type 0
  Means t m = (rest : List ℕ) → content_from ends Outside (t ++ rest) ≡ m ++ content_from ends Outside rest

  abbrev pub means : List ℕ → List ℕ → Bool
  means t m = is_outside (after Outside t) && is_text (said Outside t) m

  pub means-Means : (t m : List ℕ) → means t m ≡ true → Means t m
  means-Means t m h rest =
      let p = and_parts (is_outside (after Outside t)) (is_text (said Outside t) m) h in
      content-append Outside t rest ∙ ap₂ (λ (s : List ℕ) (q : Part). s ++ content_from ends q rest) ((bytes_decides (said Outside t) m).0 p.1) (outside-eq (after Outside t) p.0)

  pub Means-append : (s t a b : List ℕ) → Means s a → Means t b → Means (s ++ t) (a ++ b)
  Means-append s t a b h k rest =
      ap (content_from ends Outside) (append_assoc s t rest) ∙ h (t ++ rest) ∙ ap (λ u. a ++ u) (k rest) ∙ sym (append_assoc a b (content_from ends Outside rest))

-- ASCII: by a table
abbrev pub char_means : ℕ → Bool
char_means c = nat_eq c 0 || means never (char_text c) (c ∷ [])

abbrev first_means : ℕ → Bool
first_means c = nat_eq c 0 || means never (first_text c) (c ∷ [])

abbrev pub always : ℕ → Bool
always c = true

pub char_table : (c : ℕ) → c < 128 → char_means c ≡ true
unfolding digits encode
char_table c l = agree_below_at char_means always 128 c refl l

first_table : (c : ℕ) → c < 128 → first_means c ≡ true
unfolding digits encode
first_table c l = agree_below_at first_means always 128 c refl l

mark_table : means never (code_escape 0xFEFF) (encode 0xFEFF) ≡ true
unfolding digits encode
mark_table = refl

-- bytes that are no `\` mean themselves
abbrev is_itself : ℕ → Bool
is_itself b = not (nat_eq b 92)

plain-Means : (t : List ℕ) → list_all is_itself t ≡ true → Means never t t
plain-Means [] h rest = refl
plain-Means (b ∷ t) h rest =
    let p = and_parts (is_itself b) (list_all is_itself t) h in
    let e : nat_eq b 92 ≡ false = not-true (nat_eq b 92) p.0 in
    ap (λ (x : Bool). let r : Part × List ℕ = cond x (Begun, []) (Outside, b ∷ []) in r.1 ++ content_from never r.0 (t ++ rest)) e
    ∙ ap (λ s. b ∷ s) (plain-Means t p.1 rest)

-- bytes from 80 hexadecimal on
abbrev pub is_high : ℕ → Bool
is_high b = nat_le 128 b

abbrev pub AreHigh : List ℕ → Type 0
AreHigh t = (b : ℕ) × (bs : List ℕ) × (t ≡ b ∷ bs) × (list_all is_high t ≡ true)

high_more : (n : ℕ) (ms : List ℕ) → 128 ≤ n → list_all is_high ms ≡ true → list_all is_high (n ∷ ms) ≡ true
high_more n ms h k = ap₂ ◌&&◌ (le-leb 128 n h) k

next_more : (c : ℕ) (ms : List ℕ) → list_all is_high ms ≡ true → list_all is_high (next c ∷ ms) ≡ true
next_more c ms k = high_more (next c) ms (omega arith) k

lead_high : (a b : ℕ) (ms : List ℕ) → 128 ≤ a → list_all is_high ms ≡ true → AreHigh ((a + b) ∷ ms)
lead_high a b ms h k = (a + b, ms, refl, high_more (a + b) ms (omega arith) k)

pub high_encode : (c : ℕ) → 128 ≤ c → AreHigh (encode c)
unfolding encode
high_encode c h =
    elim (cases_Bool (ltb c 128)) [
      | inl e ↦ let l = ltb-true c 128 e in absurd (omega arith)
      | inr e ↦ rw e (elim (cases_Bool (ltb c 2048)) [
        | inl f ↦ rw f (lead_high 192 (c / 64) (next c ∷ []) (omega arith) (next_more c [] refl))
        | inr f ↦ rw f (elim (cases_Bool (ltb c 65536)) [
          | inl g ↦ rw g (lead_high 224 (c / 4096) (next (c / 64) ∷ next c ∷ []) (omega arith) (next_more (c / 64) (next c ∷ []) (next_more c [] refl)))
          | inr g ↦ rw g (lead_high 240 (c / 262144) (next (c / 4096) ∷ next (c / 64) ∷ next c ∷ []) (omega arith) (next_more (c / 4096) (next (c / 64) ∷ next c ∷ []) (next_more (c / 64) (next c ∷ []) (next_more c [] refl))))
        ])
      ])
    ]

itself-from : (b : ℕ) → is_high b ≡ true → is_itself b ≡ true
itself-from b h = grind (arith, nat_tests)

high_plain : (t : List ℕ) → list_all is_high t ≡ true → list_all is_itself t ≡ true
high_plain [] h = refl
high_plain (b ∷ t) h = let p = and_parts (is_high b) (list_all is_high t) h in ap₂ ◌&&◌ (itself-from b p.0) (high_plain t p.1)

pub high_itself : (c : ℕ) → 128 ≤ c → (c ≡ 0xFEFF → ⊥) → char_text c ≡ encode_utf8 c
high_itself c h n =
    let e : needs_code c ≡ false = grind (arith, nat_tests) in
    let f : stands_for_itself c ≡ true = grind (arith, nat_tests) in
    ap (λ x. cond x (code_escape c) (cond (stands_for_itself c) (encode_utf8 c) (92 ∷ encode_utf8 c))) e
    ∙ ap (λ x. cond x (encode_utf8 c) (92 ∷ encode_utf8 c)) f

pub high_first : (c : ℕ) → 128 ≤ c → first_text c ≡ char_text c
high_first c h = let e : is_ascii_digit c ≡ false = grind (arith, nat_tests) in ap (λ x. cond x (code_escape c) (char_text c)) e

pub by_table : (a b : Bool) → a ≡ false → (a || b) ≡ true → b ≡ true
by_table true b h k = cc
by_table false b h k = k

-- the text of a character means it
char-Means : (c : ℕ) → nat_eq c 0 ≡ false → Means never (char_text c) (encode_utf8 c)
char-Means c n = elim (cases_Bool (ltb c 128)) [
  | inl e ↦
      let l = ltb-true c 128 e in
      subst (Means never (char_text c)) (sym (encode_ascii c l)) (means-Means never (char_text c) (c ∷ []) (by_table (nat_eq c 0) (means never (char_text c) (c ∷ [])) n (char_table c l)))
  | inr e ↦
      let l = ltb-false c 128 e in
      elim (cases_Bool (nat_eq c 0xFEFF)) [
        | inl f ↦ subst (λ (x : ℕ). Means never (char_text x) (encode_utf8 x)) (sym (eqb-true c 0xFEFF f)) (means-Means never (code_escape 0xFEFF) (encode 0xFEFF) mark_table)
        | inr f ↦ subst (λ t. Means never t (encode_utf8 c)) (sym (high_itself c l (λ g. false≢true (sym f ∙ ap (λ (x : ℕ). nat_eq x 0xFEFF) g)))) (plain-Means (encode c) (high_plain (encode c) (high_encode c l).3))
      ]
]

first-Means : (c : ℕ) → nat_eq c 0 ≡ false → Means never (first_text c) (encode_utf8 c)
first-Means c n = elim (cases_Bool (ltb c 128)) [
  | inl e ↦
      let l = ltb-true c 128 e in
      subst (Means never (first_text c)) (sym (encode_ascii c l)) (means-Means never (first_text c) (c ∷ []) (by_table (nat_eq c 0) (means never (first_text c) (c ∷ [])) n (first_table c l)))
  | inr e ↦ subst (λ t. Means never t (encode_utf8 c)) (sym (high_first c (ltb-false c 128 e))) (char-Means c n)
]

-- no character is zero
abbrev pub is_charred : List ℕ → Bool
is_charred cs = list_all (λ c. not (nat_eq c 0)) cs

chars-Means : (cs : List ℕ) → is_charred cs ≡ true → Means never (flat_map char_text cs) (encodes cs)
chars-Means [] h = λ rest. refl
chars-Means (c ∷ cs) h =
    let p = and_parts (not (nat_eq c 0)) (is_charred cs) h in
    Means-append never (char_text c) (flat_map char_text cs) (encode_utf8 c) (encodes cs) (char-Means c (not-true (nat_eq c 0) p.0)) (chars-Means cs p.1)

dash-Means : (cs : List ℕ) → is_charred cs ≡ true → Means never (after_dash cs) (encodes cs)
dash-Means [] h = λ rest. refl
dash-Means (c ∷ cs) h =
    let p = and_parts (not (nat_eq c 0)) (is_charred cs) h in
    Means-append never (first_text c) (flat_map char_text cs) (encode_utf8 c) (encodes cs) (first-Means c (not-true (nat_eq c 0) p.0)) (chars-Means cs p.1)

rest-Means : (b : Bool) (cs : List ℕ) → is_charred cs ≡ true → Means never (cond b (after_dash cs) (flat_map char_text cs)) (encodes cs)
rest-Means true cs h = dash-Means cs h
rest-Means false cs h = chars-Means cs h

text-Means : (cs : List ℕ) → is_charred cs ≡ true → Means never (chars_text cs) (encodes cs)
text-Means [] h = λ rest. refl
text-Means (c ∷ cs) h =
    let p = and_parts (not (nat_eq c 0)) (is_charred cs) h in
    Means-append never (first_text c) (cond (eqb c 45) (after_dash cs) (flat_map char_text cs)) (encode_utf8 c) (encodes cs) (first-Means c (not-true (nat_eq c 0) p.0)) (rest-Means (eqb c 45) cs p.1)

-- the text of a name means the name
pub name_content : (n : List ℕ) → IsUtf8 n → is_charred (chars n) ≡ true → content never (name_text n) ≡ n
name_content n u h = elim (cases_Bool (is_text n (codes "-"))) [
  | inl e ↦ let i = (bytes_decides n (codes "-")).0 e in subst (λ (m : List ℕ). content never (name_text m) ≡ m) (sym i) refl
  | inr e ↦
      ap (content never) (name_text-chars n e) ∙ ap (content never) (sym (append-nil (chars_text (chars n)))) ∙ text-Means (chars n) h [] ∙ append-nil (encodes (chars n)) ∙ encodes-chars n u
]
