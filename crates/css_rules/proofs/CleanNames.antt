-- The text of a name is in UTF-8, has no control character, and begins with no byte order mark.
use Rattle.std.proofs.Common.{◌≡◌, ℕ, ◌<◌, ◌≤◌, ◌+◌, ◌/◌, List, [], ◌∷◌, ◌++◌, Bool, true, false, not, ◌&&◌, ◌||◌, ltb, cond, refl, sym, ap, ap₂, ◌∙◌, subst, append_assoc, inl, inr, arith, codes, nat_eq, nat_lt, ltb-true, ltb-false}
use Rattle.std.specs.Char.{encode_utf8, is_ascii_digit}
use Rattle.std.specs.Fmt.{digits}
use Rattle.std.specs.List.{flat_map, list_all, list_any, starts_with}
use Rattle.std.specs.Str.{IsUtf8, chars, is_utf8}
use Rattle.std.proofs.lemmas.Bool.{cases_Bool, and_parts, not-true, agree_below_at, eqb-true, false≢true}
use Rattle.std.proofs.lemmas.Bool.Decides.{nat_tests}
use Rattle.std.proofs.lemmas.Str.{IsUtf8-append, IsUtf8-from_is_utf8, is_utf8-from_IsUtf8, encode_ascii, encodes-chars, scalars-chars, encode_same}
use lib.Utf8.{encode, encodes, next, scalar, scalars}
use Rattle.css_tokens.specs.NameText.{char_text, first_text, needs_code, stands_for_itself, code_escape, name_text, chars_text, after_dash}
use Rattle.css_tokens.specs.Names.{is_name}
use Rattle.css_tokens.specs.Tokens.{is_control}
use Rattle.css_tokens.specs.Trees.{is_text}
use Rattle.selector_types.specs.ReadableSelectors.{is_clean}

-- Texts one after another.

or-with : (y p q : Bool) → (y || p) ≡ false → (p ≡ false → q ≡ false) → (y || q) ≡ false
or-with true p q h k = h
or-with false p q h k = k h

any-append : (test : ℕ → Bool) (a b : List ℕ) → list_any test a ≡ false → list_any test b ≡ false → list_any test (a ++ b) ≡ false
any-append test [] b h k = k
any-append test (x ∷ a) b h k = or-with (test x) (list_any test a) (list_any test (a ++ b)) h (λ e. any-append test a b e k)

-- what is clean is in UTF-8 and has no control character
pub clean-parts : (t : List ℕ) → is_clean t ≡ true → IsUtf8 t × (list_any is_control t ≡ false)
clean-parts t h =
    let p = and_parts (is_utf8 t) (not (list_any is_control t)) h in
    (IsUtf8-from_is_utf8 t p.0, not-true (list_any is_control t) p.1)

pub clean-from : (t : List ℕ) → IsUtf8 t → list_any is_control t ≡ false → is_clean t ≡ true
clean-from t u e = ap₂ ◌&&◌ (is_utf8-from_IsUtf8 t u) (ap not e)

pub clean-append : (a b : List ℕ) → is_clean a ≡ true → is_clean b ≡ true → is_clean (a ++ b) ≡ true
clean-append a b h k =
    let p = clean-parts a h in
    let q = clean-parts b k in
    clean-from (a ++ b) (IsUtf8-append a b p.0 q.0) (any-append is_control a b p.1 q.1)

-- Characters.

high-control : (b : ℕ) (bs : List ℕ) → 128 ≤ b → list_any is_control bs ≡ false → list_any is_control (b ∷ bs) ≡ false
high-control b bs h e = let f : is_control b ≡ false = grind (arith, nat_tests) in ap₂ ◌||◌ f e

next-control : (c : ℕ) (bs : List ℕ) → list_any is_control bs ≡ false → list_any is_control (next c ∷ bs) ≡ false
next-control c bs e = high-control (next c) bs (omega arith) e

encode-control : (c : ℕ) → 128 ≤ c → list_any is_control (encode c) ≡ false
unfolding encode
encode-control c h =
    elim (cases_Bool (ltb c 128)) [
      | inl e ↦ let l = ltb-true c 128 e in absurd (omega arith)
      | inr e ↦ rw e (elim (cases_Bool (ltb c 2048)) [
        | inl f ↦ rw f (high-control (192 + c / 64) (next c ∷ []) (omega arith) (next-control c [] refl))
        | inr f ↦ rw f (elim (cases_Bool (ltb c 65536)) [
          | inl g ↦ rw g (high-control (224 + c / 4096) (next (c / 64) ∷ next c ∷ []) (omega arith) (next-control (c / 64) (next c ∷ []) (next-control c [] refl)))
          | inr g ↦ rw g (high-control (240 + c / 262144) (next (c / 4096) ∷ next (c / 64) ∷ next c ∷ []) (omega arith) (next-control (c / 4096) (next (c / 64) ∷ next c ∷ []) (next-control (c / 64) (next c ∷ []) (next-control c [] refl))))
        ])
      ])
    ]

encode-clean : (c : ℕ) → 128 ≤ c → scalar c ≡ true → is_clean (encode_utf8 c) ≡ true
encode-clean c h s = clean-from (encode c) (c ∷ [], (ap (λ b. b && true) s, append_nil (encode c))) (encode-control c h)
  where
    append_nil : (t : List ℕ) → t ++ [] ≡ t
    append_nil [] = refl
    append_nil (x ∷ t) = ap (λ r. x ∷ r) (append_nil t)

-- Below 128, by a table: all bytes are ASCII and none is a control character.

abbrev pub is_plain_byte : ℕ → Bool
is_plain_byte b = nat_lt b 128 && not (is_control b)

abbrev pub all_plain : List ℕ → Bool
all_plain t = list_all is_plain_byte t

abbrev always : ℕ → Bool
always c = true

abbrev char_plain : ℕ → Bool
char_plain c = nat_eq c 0 || all_plain (char_text c)

abbrev first_plain : ℕ → Bool
first_plain c = nat_eq c 0 || all_plain (first_text c)

char-table : (c : ℕ) → c < 128 → char_plain c ≡ true
unfolding digits encode
char-table c l = agree_below_at char_plain always 128 c refl l

first-table : (c : ℕ) → c < 128 → first_plain c ≡ true
unfolding digits encode
first-table c l = agree_below_at first_plain always 128 c refl l

mark-plain : all_plain (code_escape 0xFEFF) ≡ true
unfolding digits encode
mark-plain = refl

byte-clean : (b : ℕ) → b < 128 → is_control b ≡ false → is_clean (b ∷ []) ≡ true
byte-clean b l e = clean-from (b ∷ []) (b ∷ [], (ap (λ x. x && true) (ascii-scalar b l), ap (λ t. t ++ []) (encode_ascii b l))) (ap (λ x. x || false) e)
  where
    ascii-scalar : (b : ℕ) → b < 128 → scalar b ≡ true
    ascii-scalar b l = grind (arith, nat_tests)

pub plain-clean : (t : List ℕ) → all_plain t ≡ true → is_clean t ≡ true
plain-clean [] h = clean-from [] ([], (refl, refl)) refl
plain-clean (b ∷ t) h =
    let p = and_parts (is_plain_byte b) (all_plain t) h in
    let q = and_parts (nat_lt b 128) (not (is_control b)) p.0 in
    clean-append (b ∷ []) t (byte-clean b (ltb-true b 128 q.0) (not-true (is_control b) q.1)) (plain-clean t p.1)

or-right : (a b : Bool) → a ≡ false → (a || b) ≡ true → b ≡ true
or-right true b e h = absurd (false≢true (sym e))
or-right false b e h = h

high-digit : (c : ℕ) → 128 ≤ c → is_ascii_digit c ≡ false
high-digit c h = grind (arith, nat_tests)

-- the text of a character from U+0080 on
high-text : (c : ℕ) → 128 ≤ c → scalar c ≡ true → is_clean (char_text c) ≡ true
high-text c h s = elim (cases_Bool (nat_eq c 0xFEFF)) [
  | inl e ↦ subst (λ (x : ℕ). is_clean (char_text x) ≡ true) (sym (eqb-true c 0xFEFF e)) (plain-clean (code_escape 0xFEFF) mark-plain)
  | inr e ↦
      let f : needs_code c ≡ false = grind (arith, nat_tests) in
      let g : stands_for_itself c ≡ true = grind (arith, nat_tests) in
      ap (λ x. is_clean (cond x (code_escape c) (cond (stands_for_itself c) (encode_utf8 c) (92 ∷ encode_utf8 c)))) f
      ∙ ap (λ x. is_clean (cond x (encode_utf8 c) (92 ∷ encode_utf8 c))) g
      ∙ encode-clean c h s
]

char-clean : (c : ℕ) → nat_eq c 0 ≡ false → scalar c ≡ true → is_clean (char_text c) ≡ true
char-clean c n s = elim (cases_Bool (ltb c 128)) [
  | inl e ↦ plain-clean (char_text c) (or-right (nat_eq c 0) (all_plain (char_text c)) n (char-table c (ltb-true c 128 e)))
  | inr e ↦ high-text c (ltb-false c 128 e) s
]

first-clean : (c : ℕ) → nat_eq c 0 ≡ false → scalar c ≡ true → is_clean (first_text c) ≡ true
first-clean c n s = elim (cases_Bool (ltb c 128)) [
  | inl e ↦ plain-clean (first_text c) (or-right (nat_eq c 0) (all_plain (first_text c)) n (first-table c (ltb-true c 128 e)))
  | inr e ↦ let l = ltb-false c 128 e in ap (λ x. is_clean (cond x (code_escape c) (char_text c))) (high-digit c l) ∙ high-text c l s
]

abbrev is_charred : List ℕ → Bool
is_charred cs = list_all (λ c. not (nat_eq c 0)) cs

chars-clean : (cs : List ℕ) → is_charred cs ≡ true → scalars cs ≡ true → is_clean (flat_map char_text cs) ≡ true
chars-clean [] h s = plain-clean [] refl
chars-clean (c ∷ cs) h s =
    let p = and_parts (not (nat_eq c 0)) (is_charred cs) h in
    let q = and_parts (scalar c) (scalars cs) s in
    clean-append (char_text c) (flat_map char_text cs) (char-clean c (not-true (nat_eq c 0) p.0) q.0) (chars-clean cs p.1 q.1)

dash-clean : (cs : List ℕ) → is_charred cs ≡ true → scalars cs ≡ true → is_clean (after_dash cs) ≡ true
dash-clean [] h s = plain-clean [] refl
dash-clean (c ∷ cs) h s =
    let p = and_parts (not (nat_eq c 0)) (is_charred cs) h in
    let q = and_parts (scalar c) (scalars cs) s in
    clean-append (first_text c) (flat_map char_text cs) (first-clean c (not-true (nat_eq c 0) p.0) q.0) (chars-clean cs p.1 q.1)

rest-clean : (b : Bool) (cs : List ℕ) → is_charred cs ≡ true → scalars cs ≡ true → is_clean (cond b (after_dash cs) (flat_map char_text cs)) ≡ true
rest-clean true cs h s = dash-clean cs h s
rest-clean false cs h s = chars-clean cs h s

text-clean : (cs : List ℕ) → is_charred cs ≡ true → scalars cs ≡ true → is_clean (chars_text cs) ≡ true
text-clean [] h s = plain-clean [] refl
text-clean (c ∷ cs) h s =
    let p = and_parts (not (nat_eq c 0)) (is_charred cs) h in
    let q = and_parts (scalar c) (scalars cs) s in
    clean-append (first_text c) (cond (nat_eq c 45) (after_dash cs) (flat_map char_text cs)) (first-clean c (not-true (nat_eq c 0) p.0) q.0) (rest-clean (nat_eq c 45) cs p.1 q.1)

name_parts : (n : List ℕ) → is_name n ≡ true → IsUtf8 n × (is_charred (chars n) ≡ true)
name_parts [] h = absurd (false≢true h)
name_parts (b ∷ bs) h = let p = and_parts (is_utf8 (b ∷ bs)) (is_charred (chars (b ∷ bs))) h in (IsUtf8-from_is_utf8 (b ∷ bs) p.0, p.1)

pub name-clean : (n : List ℕ) → is_name n ≡ true → is_clean (name_text n) ≡ true
name-clean n h =
    let p = name_parts n h in
    at (is_text n (codes "-")) (text-clean (chars n) p.1 (scalars-chars n p.0))
  where
    at : (b : Bool) → is_clean (chars_text (chars n)) ≡ true → is_clean (cond b (92 ∷ 45 ∷ []) (chars_text (chars n))) ≡ true
    at true e = plain-clean (92 ∷ 45 ∷ []) refl
    at false e = e

-- No byte order mark.

abbrev pub is_marked : List ℕ → Bool
is_marked t = starts_with nat_eq t (0xEF ∷ 0xBB ∷ 0xBF ∷ [])

low-unmarked : (b : ℕ) (t : List ℕ) → b < 128 → is_marked (b ∷ t) ≡ false
low-unmarked b t l = let e : nat_eq 0xEF b ≡ false = grind (arith, nat_tests) in ap (λ x. x && starts_with nat_eq t (0xBB ∷ 0xBF ∷ [])) e

abbrev begins_low : List ℕ → Bool
begins_low [] = false
begins_low (b ∷ bs) = nat_lt b 128

abbrev first_low : ℕ → Bool
first_low c = begins_low (first_text c)

low-table : (c : ℕ) → c < 128 → first_low c ≡ true
unfolding digits encode
low-table c l = agree_below_at first_low always 128 c refl l

begins-unmarked : (t rest : List ℕ) → begins_low t ≡ true → is_marked (t ++ rest) ≡ false
begins-unmarked [] rest h = absurd (false≢true h)
begins-unmarked (b ∷ t) rest h = low-unmarked b (t ++ rest) (ltb-true b 128 h)

-- a marked text begins with the character U+FEFF
marked-char : (t : List ℕ) → is_marked t ≡ true → (rest : List ℕ) × (t ≡ encode 0xFEFF ++ rest)
unfolding encode
marked-char [] h = absurd (false≢true h)
marked-char (a ∷ []) h = absurd (false≢true (sym (none (nat_eq 0xEF a)) ∙ h))
  where
    none : (x : Bool) → (x && false) ≡ false
    none true = refl
    none false = refl
marked-char (a ∷ b ∷ []) h = absurd (false≢true (sym (none (nat_eq 0xEF a) (nat_eq 0xBB b)) ∙ h))
  where
    none : (x y : Bool) → (x && (y && false)) ≡ false
    none true true = refl
    none true false = refl
    none false y = refl
marked-char (a ∷ b ∷ c ∷ t) h =
    let p = and_parts (nat_eq 0xEF a) (nat_eq 0xBB b && (nat_eq 0xBF c && true)) h in
    let q = and_parts (nat_eq 0xBB b) (nat_eq 0xBF c && true) p.1 in
    let r = and_parts (nat_eq 0xBF c) true q.1 in
    (t, ap₂ (λ (x : ℕ) (xs : List ℕ). x ∷ xs) (sym (eqb-true 0xEF a p.0)) (ap₂ (λ (x : ℕ) (xs : List ℕ). x ∷ xs) (sym (eqb-true 0xBB b q.0)) (ap (λ x. x ∷ t) (sym (eqb-true 0xBF c r.0)))))

encode-unmarked : (c : ℕ) (rest : List ℕ) → nat_eq c 0xFEFF ≡ false → is_marked (encode_utf8 c ++ rest) ≡ false
encode-unmarked c rest n = elim (cases_Bool (is_marked (encode c ++ rest))) [
  | inl e ↦
      let m = marked-char (encode c ++ rest) e in
      let same = (encode_same c 0xFEFF rest m.0 m.1).0 in
      absurd (false≢true (sym n ∙ ap (λ (x : ℕ). nat_eq x 0xFEFF) same))
  | inr e ↦ e
]

by-escape : (c : ℕ) (rest : List ℕ) (a b d : Bool) → is_marked (encode_utf8 c ++ rest) ≡ false → is_marked ((cond a (code_escape c) (cond b (code_escape c) (cond d (encode_utf8 c) (92 ∷ encode_utf8 c)))) ++ rest) ≡ false
by-escape c rest true b d h = refl
by-escape c rest false true d h = refl
by-escape c rest false false true h = h
by-escape c rest false false false h = refl

first-unmarked : (c : ℕ) (rest : List ℕ) → is_marked (first_text c ++ rest) ≡ false
first-unmarked c rest = elim (cases_Bool (ltb c 128)) [
  | inl e ↦ begins-unmarked (first_text c) rest (low-table c (ltb-true c 128 e))
  | inr e ↦ elim (cases_Bool (nat_eq c 0xFEFF)) [
    | inl f ↦ subst (λ (x : ℕ). is_marked (first_text x ++ rest) ≡ false) (sym (eqb-true c 0xFEFF f)) refl
    | inr f ↦ by-escape c rest (is_ascii_digit c) (needs_code c) (stands_for_itself c) (encode-unmarked c rest f)
  ]
]

chars-unmarked : (cs rest : List ℕ) → (cs ≡ [] → ⊥) → is_marked (chars_text cs ++ rest) ≡ false
chars-unmarked [] rest f = absurd (f refl)
chars-unmarked (c ∷ cs) rest f =
    let more = cond (nat_eq c 45) (after_dash cs) (flat_map char_text cs) in
    ap is_marked (append_assoc (first_text c) more rest) ∙ first-unmarked c (more ++ rest)

some-name : (n : List ℕ) → is_name n ≡ true → n ≡ [] → ⊥
some-name [] h e = false≢true h
some-name (b ∷ bs) h e = cc

-- the text of a name begins with no byte order mark
pub name-unmarked : (n rest : List ℕ) → is_name n ≡ true → is_marked (name_text n ++ rest) ≡ false
name-unmarked n rest h =
    let p = name_parts n h in
    at (is_text n (codes "-")) (chars-unmarked (chars n) rest (λ z. some-name n h (sym (encodes-chars n p.0) ∙ ap encodes z)))
  where
    at : (b : Bool) → is_marked (chars_text (chars n) ++ rest) ≡ false → is_marked ((cond b (92 ∷ 45 ∷ []) (chars_text (chars n))) ++ rest) ≡ false
    at true e = refl
    at false e = e
