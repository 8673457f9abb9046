-- A decoded name is a name.
use Rattle.std.proofs.Common.{◌≡◌, ℕ, ◌+◌, ◌-◌, ◌*◌, ◌<◌, List, [], ◌∷◌, ◌++◌, length, Bool, true, false, not, ◌&&◌, ◌||◌, cond, refl, sym, ap, ap₂, ◌∙◌, subst, inl, inr, Some, None, arith, append_assoc, append-nil, length-append, codes, nat_eq, nat_lt, ltb, ltb-true, ltb-false}
use Rattle.std.proofs.lemmas.Bool.{cases_Bool, and_parts, or_cases, not-true, eqb-true}
use Rattle.std.proofs.lemmas.Bool.Decides.{nat_tests}
use Rattle.std.proofs.lemmas.Str.{IsUtf8-past_char, encode_ascii, encodes-chars, encodes-append, chars-encodes, length-encode, len_utf8_bounds, scalars-chars, is_utf8-from_IsUtf8}
use Rattle.std.specs.Char.{encode_utf8, digit_value, is_ascii_hexdigit}
use Rattle.std.specs.Str.{IsUtf8, chars}
use lib.Utf8.{encode, encodes, scalar, scalars}
use Rattle.css_tokens.specs.declared.class.Class.{Class}
use Rattle.css_tokens.specs.declared.class.Class.TheVariants as class
use Rattle.css_tokens.specs.declared.content.Part.{Part}
use Rattle.css_tokens.specs.declared.content.Part.TheVariants.{Outside, Begun, Digits, Return, Over}
use Rattle.css_tokens.specs.declared.content.End.{End}
use Rattle.css_tokens.specs.declared.content.End.TheVariants as end
use Rattle.css_tokens.specs.declared.kind.Kind.{Kind}
use Rattle.css_tokens.specs.declared.kind.Kind.TheVariants as kind
use Rattle.css_tokens.specs.declared.machine.Escape.TheVariants as escape
use Rattle.css_tokens.specs.declared.machine.Holder.{Holder}
use Rattle.css_tokens.specs.declared.machine.Holder.TheVariants as holder
use Rattle.css_tokens.specs.declared.machine.State.{State}
use Rattle.css_tokens.specs.declared.machine.State.TheVariants as state
use Rattle.css_tokens.specs.Characters.{class_of}
use Rattle.css_tokens.specs.Contents.{content, content_from, flush, is_quote, is_space, meant, never, outside, step}
use Rattle.css_tokens.specs.Names.{after_byte, is_content, is_name, name_of_word, quote_of}
use Rattle.css_tokens.specs.Private.Contents.{ends_of}
use Rattle.css_tokens.specs.Private.Machine.{next, ended}
use Rattle.css_tokens.specs.Tokens.{classes_of, is_control, spells}
use Rattle.css_tokens.proofs.ContentLemmas.{is_charred}
use Rattle.css_tokens.proofs.Derivatives.{is_class-eq}
use Rattle.css_tokens.proofs.OneReading.{is_clean, dead_control}
use Rattle.css_tokens.proofs.Runs.{run}
use Rattle.css_tokens.proofs.Said.{high_content, high_part, high_says}
use Rattle.css_tokens.proofs.Stays.{spelled_state}

-- Bytes of characters, none of them U+0000.

abbrev IsChars : List ℕ → Type 0
IsChars t = (cs : List ℕ) × (scalars cs ≡ true) × (is_charred cs ≡ true) × (encodes cs ≡ t)

nothing : IsChars []
nothing = ([], refl, refl, refl)

one_char : (c : ℕ) → scalar c ≡ true → nat_eq c 0 ≡ false → IsChars (encode c)
one_char c s n = (c ∷ [], ap (λ b. b && true) s, ap (λ b. not b && true) n, append-nil (encode c))

scalars-append : (cs ds : List ℕ) → scalars cs ≡ true → scalars ds ≡ true → scalars (cs ++ ds) ≡ true
scalars-append [] ds h k = k
scalars-append (c ∷ cs) ds h k = let p = and_parts (scalar c) (scalars cs) h in ap₂ ◌&&◌ p.0 (scalars-append cs ds p.1 k)

charred-append : (cs ds : List ℕ) → is_charred cs ≡ true → is_charred ds ≡ true → is_charred (cs ++ ds) ≡ true
charred-append [] ds h k = k
charred-append (c ∷ cs) ds h k = let p = and_parts (not (nat_eq c 0)) (is_charred cs) h in ap₂ ◌&&◌ p.0 (charred-append cs ds p.1 k)

more_chars : (s t : List ℕ) → IsChars s → IsChars t → IsChars (s ++ t)
more_chars s t h k = (h.0 ++ k.0, scalars-append h.0 k.0 h.1 k.1, charred-append h.0 k.0 h.2 k.2, encodes-append h.0 k.0 ∙ ap₂ ◌++◌ h.3 k.3)

ascii_char : (c : ℕ) → c < 128 → nat_eq c 0 ≡ false → IsChars (c ∷ [])
ascii_char c l n = subst IsChars (encode_ascii c l) (one_char c (ascii_scalar c l) n)
  where
    ascii_scalar : (c : ℕ) → c < 128 → scalar c ≡ true
    ascii_scalar c l = grind (arith, nat_tests)

-- what an escape means
meant_scalar : (v : ℕ) → scalar (meant v) ≡ true
meant_scalar v = grind (arith, nat_tests)

meant_some : (v : ℕ) → nat_eq (meant v) 0 ≡ false
meant_some v = grind (arith, nat_tests)

meant_char : (v : ℕ) → IsChars (encode_utf8 (meant v))
meant_char v = one_char (meant v) (meant_scalar v) (meant_some v)

-- The steps over an ASCII character.

abbrev outside_step : Bool → Bool → ℕ → Part × List ℕ
outside_step x y b = cond x (Over, []) (cond y (Begun, []) (Outside, b ∷ []))

outside_chars : (x y : Bool) (b : ℕ) → IsChars (b ∷ []) → IsChars (outside_step x y b).1
outside_chars true y b h = nothing
outside_chars false true b h = nothing
outside_chars false false b h = h

abbrev begun_step : Bool → Bool → Bool → ℕ → Part × List ℕ
begun_step x y z b = cond x (Digits 5 (digit_value b), []) (cond y (Return, []) (cond z (Outside, []) (Outside, b ∷ [])))

begun_chars : (x y z : Bool) (b : ℕ) → IsChars (b ∷ []) → IsChars (begun_step x y z b).1
begun_chars true y z b h = nothing
begun_chars false true z b h = nothing
begun_chars false false true b h = nothing
begun_chars false false false b h = h

abbrev digits_step : Bool → Bool → Bool → ℕ → ℕ → ℕ → Part × List ℕ → Part × List ℕ
digits_step x y z more v b out =
    let rest : Part × List ℕ = cond y (Return, []) (cond z (Outside, []) out) in
    cond x (Digits (more - 1) (v * 16 + digit_value b), []) (rest.0, encode_utf8 (meant v) ++ rest.1)

digits_chars : (x y z : Bool) (more v b : ℕ) (out : Part × List ℕ) → IsChars out.1 → IsChars (digits_step x y z more v b out).1
digits_chars true y z more v b out h = nothing
digits_chars false true z more v b out h = more_chars (encode_utf8 (meant v)) [] (meant_char v) nothing
digits_chars false false true more v b out h = more_chars (encode_utf8 (meant v)) [] (meant_char v) nothing
digits_chars false false false more v b out h = more_chars (encode_utf8 (meant v)) out.1 (meant_char v) h

return_chars : (x : Bool) (out : Part × List ℕ) → IsChars out.1 → IsChars (let r : Part × List ℕ = cond x (Outside, []) out in r.1)
return_chars true out h = nothing
return_chars false out h = h

step_chars : (ends : ℕ → Bool) (p : Part) (b : ℕ) → IsChars (b ∷ []) → IsChars (step ends p b).1
step_chars ends Outside b h = outside_chars (ends b) (nat_eq b 92) b h
step_chars ends Begun b h = begun_chars (is_ascii_hexdigit b) (nat_eq b 13) (nat_eq b 10 || nat_eq b 12) b h
step_chars ends (Digits more v) b h = digits_chars (is_ascii_hexdigit b && nat_lt 0 more) (nat_eq b 13) (is_space b) more v b (outside ends b) (outside_chars (ends b) (nat_eq b 92) b h)
step_chars ends Return b h = return_chars (nat_eq b 10) (outside ends b) (outside_chars (ends b) (nat_eq b 92) b h)
step_chars ends Over b h = nothing

flush_chars : (p : Part) → IsChars (flush p)
flush_chars (Digits more v) = meant_char v
flush_chars p = nothing

high_chars : (p : Part) (t : List ℕ) → IsChars t → IsChars (high_says p t)
high_chars Over t h = nothing
high_chars Outside t h = h
high_chars Begun t h = h
high_chars Return t h = h
high_chars (Digits more v) t h = more_chars (encode_utf8 (meant v)) t (meant_char v) h

-- the content of a text of characters is one of characters
content_chars : (e : End) (p : Part) (cs : List ℕ) → scalars cs ≡ true → is_charred cs ≡ true → IsChars (content_from (ends_of e) p (encodes cs))
content_chars e p [] h k = flush_chars p
content_chars e p (c ∷ cs) h k =
    let s = and_parts (scalar c) (scalars cs) h in
    let z = and_parts (not (nat_eq c 0)) (is_charred cs) k in
    let n = not-true (nat_eq c 0) z.0 in
    elim (cases_Bool (ltb c 128)) [
      | inl l ↦
          let a = ltb-true c 128 l in
          subst (λ t. IsChars (content_from (ends_of e) p (t ++ encodes cs))) (sym (encode_ascii c a))
          (more_chars (step (ends_of e) p c).1 (content_from (ends_of e) (step (ends_of e) p c).0 (encodes cs)) (step_chars (ends_of e) p c (ascii_char c a n)) (content_chars e (step (ends_of e) p c).0 cs s.1 z.1))
      | inr l ↦
          subst IsChars (sym (high_content e p c (encodes cs) (ltb-false c 128 l)))
          (more_chars (high_says p (encode c)) (content_from (ends_of e) (high_part p) (encodes cs)) (high_chars p (encode c) (one_char c s.0 n)) (content_chars e (high_part p) cs s.1 z.1))
    ]

-- A name has a character.

encode_some : (c : ℕ) (xs : List ℕ) → encode c ++ xs ≡ [] → ⊥
encode_some c xs h =
    let b = len_utf8_bounds c in
    let l = length-encode c in
    let e = ap length h in
    absurd (omega (arith, b.0, l, e, length-append (encode c) xs))

digits_some : (more v : ℕ) (t : List ℕ) → content_from never (Digits more v) t ≡ [] → ⊥
digits_some more v [] h = encode_some (meant v) [] (append-nil (encode (meant v)) ∙ h)
digits_some more v (b ∷ t) h = elim (cases_Bool (is_ascii_hexdigit b && nat_lt 0 more)) [
  | inl e ↦ digits_some (more - 1) (v * 16 + digit_value b) t (sym (ap (λ x. (digits_step x (nat_eq b 13) (is_space b) more v b (outside never b)).1 ++ content_from never (digits_step x (nat_eq b 13) (is_space b) more v b (outside never b)).0 t) e) ∙ h)
  | inr e ↦
      let r : Part × List ℕ = cond (nat_eq b 13) (Return, []) (cond (is_space b) (Outside, []) (outside never b)) in
      encode_some (meant v) (r.1 ++ content_from never r.0 t)
      (sym (append_assoc (encode (meant v)) r.1 (content_from never r.0 t)) ∙ sym (ap (λ x. (digits_step x (nat_eq b 13) (is_space b) more v b (outside never b)).1 ++ content_from never (digits_step x (nat_eq b 13) (is_space b) more v b (outside never b)).0 t) e) ∙ h)
]

run_dead : (t : List Class) → run state.Dead t ≡ state.Dead
run_dead [] = refl
run_dead (x ∷ t) = run_dead t

pub dead_end : (s : State) (t : List Class) (k : Kind) → s ≡ state.Dead → ended (run s t) [] ≡ Some k → ⊥
dead_end s t k e h = let f : None ≡ Some k = sym (ap (λ r. ended r []) (ap (λ r. run r t) e ∙ run_dead t)) ∙ h in cc

module _ (s : State) (k : Kind) (i : Holder) (empty : ended s [] ≡ Some k → ⊥) (back : next s class.Backslash ≡ state.Escaped i escape.Begun) (unclosed : ended (state.Escaped i escape.Begun) [] ≡ Some k → ⊥) (feed : next (state.Escaped i escape.Begun) class.Feed ≡ state.Dead) (returned : next (state.Escaped i escape.Begun) class.Return ≡ state.Dead) (form : next (state.Escaped i escape.Begun) class.FormFeed ≡ state.Dead) where
  behind_some : (t : List ℕ) → ended (run (state.Escaped i escape.Begun) (classes_of t)) [] ≡ Some k → content_from never Begun t ≡ [] → ⊥
  behind_some [] e h = unclosed e
  behind_some (c ∷ t) e h = elim (cases_Bool (is_ascii_hexdigit c)) [
    | inl x ↦ digits_some 5 (digit_value c) t (sym (ap (λ b. (begun_step b (nat_eq c 13) (nat_eq c 10 || nat_eq c 12) c).1 ++ content_from never (begun_step b (nat_eq c 13) (nat_eq c 10 || nat_eq c 12) c).0 t) x) ∙ h)
    | inr x ↦ elim (cases_Bool (nat_eq c 13)) [
      | inl y ↦ dead_end (next (state.Escaped i escape.Begun) (class_of c)) (classes_of t) k (ap (λ (b : ℕ). next (state.Escaped i escape.Begun) (class_of b)) (eqb-true c 13 y) ∙ returned) e
      | inr y ↦ elim (cases_Bool (nat_eq c 10 || nat_eq c 12)) [
        | inl z ↦ elim (or_cases (nat_eq c 10) (nat_eq c 12) z) [
          | inl w ↦ dead_end (next (state.Escaped i escape.Begun) (class_of c)) (classes_of t) k (ap (λ (b : ℕ). next (state.Escaped i escape.Begun) (class_of b)) (eqb-true c 10 w) ∙ feed) e
          | inr w ↦ dead_end (next (state.Escaped i escape.Begun) (class_of c)) (classes_of t) k (ap (λ (b : ℕ). next (state.Escaped i escape.Begun) (class_of b)) (eqb-true c 12 w) ∙ form) e
        ]
        | inr z ↦ some_byte c (content_from never Outside t) (sym (own_byte c t x y z) ∙ h)
      ]
    ]
  ]
    where
      some_byte : (b : ℕ) (u : List ℕ) → b ∷ u ≡ [] → ⊥
      some_byte b u h = cc

      own_byte : (c : ℕ) (t : List ℕ) → is_ascii_hexdigit c ≡ false → nat_eq c 13 ≡ false → (nat_eq c 10 || nat_eq c 12) ≡ false → content_from never Begun (c ∷ t) ≡ c ∷ content_from never Outside t
      own_byte c t x y z =
          ap (λ b. (begun_step b (nat_eq c 13) (nat_eq c 10 || nat_eq c 12) c).1 ++ content_from never (begun_step b (nat_eq c 13) (nat_eq c 10 || nat_eq c 12) c).0 t) x
          ∙ ap (λ b. (begun_step false b (nat_eq c 10 || nat_eq c 12) c).1 ++ content_from never (begun_step false b (nat_eq c 10 || nat_eq c 12) c).0 t) y
          ∙ ap (λ b. (begun_step false false b c).1 ++ content_from never (begun_step false false b c).0 t) z

  name_some : (t : List ℕ) → ended (run s (classes_of t)) [] ≡ Some k → content never t ≡ [] → ⊥
  name_some [] e h = empty e
  name_some (b ∷ t) e h = elim (cases_Bool (nat_eq b 92)) [
    | inl x ↦
        let i' = eqb-true b 92 x in
        behind_some t (ap (λ r. ended (run r (classes_of t)) []) (sym (ap (λ (c : ℕ). next s (class_of c)) i' ∙ back)) ∙ e)
        (sym (ap (λ y. (outside_step false y b).1 ++ content_from never (outside_step false y b).0 t) x) ∙ h)
    | inr x ↦ let g : b ∷ content_from never Outside t ≡ [] = sym (ap (λ y. (outside_step false y b).1 ++ content_from never (outside_step false y b).0 t) x) ∙ h in cc
  ]

-- No token has U+0000.

pub run_clean : (s : State) (t : List ℕ) (k : Kind) → ended (run s (classes_of t)) [] ≡ Some k → is_clean t ≡ true
run_clean s [] k h = refl
run_clean s (b ∷ t) k h = elim (cases_Bool (is_control b)) [
  | inl e ↦ absurd (dead_end (next s (class_of b)) (classes_of t) k (ap (next s) (sym (is_class-eq class.Control (class_of b) e)) ∙ dead_control s) h)
  | inr e ↦ ap₂ ◌&&◌ (ap not e) (run_clean (next s (class_of b)) t k h)
]

clean_more : (a b : List ℕ) → is_clean (a ++ b) ≡ true → (is_clean a ≡ true) × (is_clean b ≡ true)
clean_more [] b h = (refl, h)
clean_more (x ∷ a) b h = let p = and_parts (not (is_control x)) (is_clean (a ++ b)) h in let q = clean_more a b p.1 in (ap₂ ◌&&◌ p.0 q.0, q.1)

zero_control : is_clean (encode 0) ≡ true → ⊥
unfolding encode
zero_control h = cc

clean_charred : (cs : List ℕ) → is_clean (encodes cs) ≡ true → is_charred cs ≡ true
clean_charred [] h = refl
clean_charred (c ∷ cs) h =
    let p = clean_more (encode c) (encodes cs) h in
    elim (cases_Bool (nat_eq c 0)) [
      | inl e ↦ absurd (zero_control (subst (λ (x : ℕ). is_clean (encode x) ≡ true) (eqb-true c 0 e) p.0))
      | inr e ↦ ap₂ ◌&&◌ (ap not e) (clean_charred cs p.1)
    ]

-- what is made of characters is a content, and a name where there is some
chars_content : (t : List ℕ) → IsChars t → is_content t ≡ true
chars_content t h =
    let e : chars t ≡ h.0 = ap chars (sym h.3) ∙ chars-encodes h.0 h.1 in
    ap₂ ◌&&◌ (is_utf8-from_IsUtf8 t (h.0, (h.1, h.3))) (ap is_charred e ∙ h.2)

chars_name : (t : List ℕ) → IsChars t → (t ≡ [] → ⊥) → is_name t ≡ true
chars_name [] h f = absurd (f refl)
chars_name (b ∷ t) h f = chars_content (b ∷ t) h

text_chars : (e : End) (t : List ℕ) → IsUtf8 t → is_clean t ≡ true → IsChars (content (ends_of e) t)
text_chars e t u c =
    let z = clean_charred (chars t) (ap is_clean (encodes-chars t u) ∙ c) in
    subst (λ x. IsChars (content (ends_of e) x)) (encodes-chars t u) (content_chars e Outside (chars t) (scalars-chars t u) z)

text_name : (s : State) (t : List ℕ) (k : Kind) → IsUtf8 t → ended (run s (classes_of t)) [] ≡ Some k → (content never t ≡ [] → ⊥) → is_name (content never t) ≡ true
text_name s t k u h f = chars_name (content never t) (text_chars end.Never t u (run_clean s t k h)) f

-- the decoded name of an Ident
pub ident_name : (t : List ℕ) → IsUtf8 t → spells kind.Ident t ≡ true → is_name (content never t) ≡ true
ident_name t u h =
    let e = spelled_state t kind.Ident refl h in
    text_name state.Start t kind.Ident u e (name_some state.Start kind.Ident holder.Name (λ z. cc) refl (λ z. cc) refl refl refl t e)

-- and that of a Hash
pub hash_name : (t : List ℕ) → IsUtf8 t → spells kind.Hash (codes "#" ++ t) ≡ true → is_name (content never t) ≡ true
hash_name t u h =
    let e = spelled_state (codes "#" ++ t) kind.Hash refl h in
    text_name state.Hash t kind.Hash u e (name_some state.Hash kind.Hash holder.HashName (λ z. cc) refl (λ z. cc) refl refl refl t e)

-- and that of an At
pub at_name : (t : List ℕ) → IsUtf8 t → spells kind.At (codes "@" ++ t) ≡ true → is_name (content never t) ≡ true
at_name t u h =
    let e = spelled_state (codes "@" ++ t) kind.At refl h in
    text_name state.At t kind.At u e (name_some state.At kind.At holder.AtName (λ z. cc) refl (λ z. cc) refl refl refl t e)

-- The content of a String.

quote_end : ℕ → End
quote_end b = cond (nat_eq b 34) end.DoubleQuote end.SingleQuote

behind_quote : (b : ℕ) (t : List ℕ) → IsUtf8 (b ∷ t) → is_clean (b ∷ t) ≡ true → IsUtf8 (after_byte (quote_of (b ∷ t)) (b ∷ t)) × (is_clean (after_byte (quote_of (b ∷ t)) (b ∷ t)) ≡ true)
behind_quote b t u c = elim (cases_Bool (nat_eq b (quote_of (b ∷ t)))) [
  | inl e ↦
      subst (λ (x : Bool). IsUtf8 (cond x t (b ∷ t)) × (is_clean (cond x t (b ∷ t)) ≡ true)) (sym e)
      (past_quote (nat_eq b 34) e, (and_parts (not (is_control b)) (is_clean t) c).1)
  | inr e ↦ subst (λ (x : Bool). IsUtf8 (cond x t (b ∷ t)) × (is_clean (cond x t (b ∷ t)) ≡ true)) (sym e) (u, c)
]
  where
    low_quote : (x : Bool) → nat_eq b (cond x 34 39) ≡ true → b < 128
    low_quote true e = let i = eqb-true b 34 e in omega arith
    low_quote false e = let i = eqb-true b 39 e in omega arith

    past_quote : (x : Bool) → nat_eq b (cond x 34 39) ≡ true → IsUtf8 t
    past_quote x e = IsUtf8-past_char (b ∷ t) t b u (ap (λ s. s ++ t) (sym (encode_ascii b (low_quote x e))))

ends_quote : (x : Bool) → is_quote (cond x 34 39) ≡ ends_of (cond x end.DoubleQuote end.SingleQuote)
ends_quote true = refl
ends_quote false = refl

-- the decoded content of a String
pub string_content : (t : List ℕ) → IsUtf8 t → spells kind.String t ≡ true → is_content (name_of_word kind.String t) ≡ true
string_content [] u h = let e = spelled_state [] kind.String refl h in cc
string_content (b ∷ t) u h =
    let p = behind_quote b t u (run_clean state.Start (b ∷ t) kind.String (spelled_state (b ∷ t) kind.String refl h)) in
    let text = after_byte (quote_of (b ∷ t)) (b ∷ t) in
    subst (λ ends. is_content (content ends text) ≡ true) (sym (ends_quote (nat_eq b 34)))
    (chars_content _ (text_chars (cond (nat_eq b 34) end.DoubleQuote end.SingleQuote) text p.0 p.1))
