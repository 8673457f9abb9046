-- The string of a content spells a String, means the content again, and is in UTF-8.
use Rattle.std.proofs.Common.{◌≡◌, ℕ, ◌<◌, ◌≤◌, List, [], ◌∷◌, ◌++◌, Bool, true, false, not, ◌&&◌, ◌||◌, cond, ltb, refl, sym, ap, ap₂, ◌∙◌, subst, inl, inr, arith, nat_eq, nat_lt, ltb-true, ltb-false, Some}
use Rattle.std.specs.Fmt.{digits}
use Rattle.std.specs.Int.{is_in_range}
use Rattle.std.specs.List.{list_all, list_any, flat_map}
use Rattle.std.specs.Str.{IsUtf8, chars, is_utf8}
use Rattle.std.proofs.lemmas.Bool.{cases_Bool, and_parts, not-true, agree_below_at}
use Rattle.std.proofs.lemmas.Bool.Decides.{nat_tests}
use Rattle.std.proofs.lemmas.Grind.{flat_map-append}
use Rattle.std.proofs.lemmas.List.{append-nil}
use Rattle.std.proofs.lemmas.List.Folds.{list_all-append}
use Rattle.std.proofs.lemmas.Str.{IsUtf8-append, IsUtf8-from_is_utf8, IsUtf8-nil, encode_ascii, encodes-chars, scalars-chars}
use lib.Utf8.{encode, encodes, scalar, scalars}
use Rattle.css_tokens.specs.declared.kind.Kind.TheVariants as kind
use Rattle.css_tokens.specs.declared.machine.State.{State}
use Rattle.css_tokens.specs.declared.machine.State.TheVariants as state
use Rattle.css_tokens.specs.Contents.{content_from, is_quote}
use Rattle.css_tokens.specs.Kinds.{kind_of, table}
use Rattle.css_tokens.specs.NameText.{code_escape}
use Rattle.css_tokens.specs.Names.{is_content, name_of_word}
use Rattle.css_tokens.specs.Private.Machine.{ended}
use Rattle.css_tokens.specs.StringText.{string_byte, string_text}
use Rattle.css_tokens.specs.Tokens.{classes_of, is_control, names, spells}
use Rattle.css_tokens.specs.declared.content.End.TheVariants as end
use Rattle.css_tokens.proofs.ContentLemmas.{Means, Means-append, always, by_table, high_encode, is_charred, is_high, means, means-Means}
use Rattle.css_tokens.proofs.DecodedNames.{run_clean}
use Rattle.css_tokens.proofs.NameSpelling.{high_class, or_true, run_more}
use Rattle.css_tokens.proofs.OneReading.{is_clean}
use Rattle.css_tokens.proofs.Runs.{run, kind_of-run}
use Rattle.css_tokens.proofs.Said.{high_outside}

-- Bytes from 80 hexadecimal on stand for themselves.

high_byte : (b : ℕ) → is_high b ≡ true → string_byte b ≡ b ∷ []
high_byte b h =
    let e : (is_in_range 1 0x1F b || nat_eq b 0x7F) ≡ false = grind (arith, nat_tests) in
    let f : (nat_eq b 34 || nat_eq b 92) ≡ false = grind (arith, nat_tests) in
    ap (λ x. cond x (code_escape b) (cond (nat_eq b 34 || nat_eq b 92) (92 ∷ b ∷ []) (b ∷ []))) e
    ∙ ap (λ x. cond x (92 ∷ b ∷ []) (b ∷ [])) f

high_bytes : (bs : List ℕ) → list_all is_high bs ≡ true → flat_map string_byte bs ≡ bs
high_bytes [] h = refl
high_bytes (b ∷ bs) h =
    let p = and_parts (is_high b) (list_all is_high bs) h in
    ap₂ (λ (s t : List ℕ). s ++ t) (high_byte b p.0) (high_bytes bs p.1)

-- In double quotes each byte stays there, and means itself.

abbrev is_quoted : State → Bool
is_quoted state.DoubleQuoted = true
is_quoted s = false

quoted-eq : (s : State) → is_quoted s ≡ true → s ≡ state.DoubleQuoted
quoted-eq state.DoubleQuoted h = refl
quoted-eq s h = cc

abbrev stays_in : ℕ → Bool
stays_in b = nat_eq b 0 || is_quoted (run state.DoubleQuoted (classes_of (string_byte b)))

abbrev means_itself : ℕ → Bool
means_itself b = nat_eq b 0 || means (is_quote 34) (string_byte b) (b ∷ [])

stays_table : (b : ℕ) → b < 128 → stays_in b ≡ true
unfolding digits
stays_table b l = agree_below_at stays_in always 128 b refl l

means_table : (b : ℕ) → b < 128 → means_itself b ≡ true
unfolding digits encode
means_table b l = agree_below_at means_itself always 128 b refl l

from_high : (b : ℕ) → 128 ≤ b → is_high b ≡ true
from_high b h = grind (arith, nat_tests)

byte_stays : (b : ℕ) → nat_eq b 0 ≡ false → run state.DoubleQuoted (classes_of (string_byte b)) ≡ state.DoubleQuoted
byte_stays b n = elim (cases_Bool (ltb b 128)) [
  | inl e ↦ quoted-eq _ (by_table (nat_eq b 0) (is_quoted (run state.DoubleQuoted (classes_of (string_byte b)))) n (stays_table b (ltb-true b 128 e)))
  | inr e ↦ let h = from_high b (ltb-false b 128 e) in ap (λ t. run state.DoubleQuoted (classes_of t)) (high_byte b h) ∙ ap (λ c. run state.DoubleQuoted (c ∷ [])) (high_class b h)
]

byte_means : (b : ℕ) → nat_eq b 0 ≡ false → Means (is_quote 34) (string_byte b) (b ∷ [])
byte_means b n = elim (cases_Bool (ltb b 128)) [
  | inl e ↦ means-Means (is_quote 34) (string_byte b) (b ∷ []) (by_table (nat_eq b 0) (means (is_quote 34) (string_byte b) (b ∷ [])) n (means_table b (ltb-true b 128 e)))
  | inr e ↦
      let h = from_high b (ltb-false b 128 e) in
      subst (λ t. Means (is_quote 34) t (b ∷ [])) (sym (high_byte b h)) (λ rest. ap (λ step. step.1 ++ content_from (is_quote 34) step.0 rest) (high_outside end.DoubleQuote b h))
]

-- no byte is zero
abbrev is_filled : List ℕ → Bool
is_filled t = list_all (λ b. not (nat_eq b 0)) t

bytes_stay : (t : List ℕ) → is_filled t ≡ true → run state.DoubleQuoted (classes_of (flat_map string_byte t)) ≡ state.DoubleQuoted
bytes_stay [] h = refl
bytes_stay (b ∷ t) h =
    let p = and_parts (not (nat_eq b 0)) (is_filled t) h in
    run_more state.DoubleQuoted (string_byte b) (flat_map string_byte t)
    ∙ ap (λ s. run s (classes_of (flat_map string_byte t))) (byte_stays b (not-true (nat_eq b 0) p.0))
    ∙ bytes_stay t p.1

bytes_mean : (t : List ℕ) → is_filled t ≡ true → Means (is_quote 34) (flat_map string_byte t) t
bytes_mean [] h = λ rest. refl
bytes_mean (b ∷ t) h =
    let p = and_parts (not (nat_eq b 0)) (is_filled t) h in
    Means-append (is_quote 34) (string_byte b) (flat_map string_byte t) (b ∷ []) t (byte_means b (not-true (nat_eq b 0) p.0)) (bytes_mean t p.1)

-- A content has no byte that is zero.

high_filled : (bs : List ℕ) → list_all is_high bs ≡ true → is_filled bs ≡ true
high_filled [] h = refl
high_filled (b ∷ bs) h = let p = and_parts (is_high b) (list_all is_high bs) h in ap₂ ◌&&◌ (some b p.0) (high_filled bs p.1)
  where
    some : (b : ℕ) → is_high b ≡ true → not (nat_eq b 0) ≡ true
    some b h = grind (arith, nat_tests)

char_filled : (c : ℕ) → not (nat_eq c 0) ≡ true → is_filled (encode c) ≡ true
char_filled c n = elim (cases_Bool (ltb c 128)) [
  | inl e ↦ ap is_filled (encode_ascii c (ltb-true c 128 e)) ∙ ap (λ x. x && true) n
  | inr e ↦ high_filled (encode c) (high_encode c (ltb-false c 128 e)).3
]

chars_filled : (cs : List ℕ) → is_charred cs ≡ true → is_filled (encodes cs) ≡ true
chars_filled [] h = refl
chars_filled (c ∷ cs) h =
    let p = and_parts (not (nat_eq c 0)) (is_charred cs) h in
    list_all-append (λ b. not (nat_eq b 0)) (encode c) (encodes cs) ∙ ap₂ ◌&&◌ (char_filled c p.0) (chars_filled cs p.1)

filled : (t : List ℕ) → is_content t ≡ true → is_filled t ≡ true
filled t h =
    let p = and_parts (is_utf8 t) (is_charred (chars t)) h in
    subst (λ x. is_filled x ≡ true) (encodes-chars t (IsUtf8-from_is_utf8 t p.0)) (chars_filled (chars t) p.1)

string_read : (t : List ℕ) → is_content t ≡ true → run state.Start (classes_of (string_text t)) ≡ state.End kind.String
string_read t h = run_more state.DoubleQuoted (flat_map string_byte t) (34 ∷ []) ∙ ap (λ s. run s (classes_of (34 ∷ []))) (bytes_stay t (filled t h))

string_ended : (t : List ℕ) → is_content t ≡ true → ended (run state.Start (classes_of (string_text t))) [] ≡ Some kind.String
string_ended t h = ap (λ s. ended s []) (string_read t h)

-- the string of a content spells a String
pub string_spells : (t : List ℕ) → is_content t ≡ true → spells kind.String (string_text t) ≡ true
unfolding spells
string_spells t h = or_true (names kind.String (kind_of table (classes_of (string_text t)) [])) _ (ap (names kind.String) (kind_of-run state.Start (classes_of (string_text t)) [] ∙ string_ended t h))

-- and means the content
pub string_again : (t : List ℕ) → is_content t ≡ true → name_of_word kind.String (string_text t) ≡ t
string_again t h = bytes_mean t (filled t h) (34 ∷ []) ∙ append-nil t

clean_any : (t : List ℕ) → is_clean t ≡ true → list_any is_control t ≡ false
clean_any [] h = refl
clean_any (b ∷ t) h =
    let p = and_parts (not (is_control b)) (is_clean t) h in
    ap₂ ◌||◌ (not-true (is_control b) p.0) (clean_any t p.1)

pub string_clean : (t : List ℕ) → is_content t ≡ true → list_any is_control (string_text t) ≡ false
string_clean t h = clean_any (string_text t) (run_clean state.Start (string_text t) kind.String (string_ended t h))

-- A text in UTF-8 has a string in UTF-8.

abbrev is_ascii : List ℕ → Bool
is_ascii t = list_all (λ b. nat_lt b 128) t

abbrev writes_ascii : ℕ → Bool
writes_ascii b = is_ascii (string_byte b)

ascii_table : (b : ℕ) → b < 128 → writes_ascii b ≡ true
unfolding digits
ascii_table b l = agree_below_at writes_ascii always 128 b refl l

ascii_utf8 : (t : List ℕ) → is_ascii t ≡ true → IsUtf8 t
ascii_utf8 [] h = IsUtf8-nil
ascii_utf8 (b ∷ t) h =
    let p = and_parts (nat_lt b 128) (is_ascii t) h in
    IsUtf8-append (b ∷ []) t (one_byte b (ltb-true b 128 p.0)) (ascii_utf8 t p.1)
  where
    ascii_scalar : (b : ℕ) → b < 128 → scalar b ≡ true
    ascii_scalar b l = grind (arith, nat_tests)

    one_byte : (b : ℕ) → b < 128 → IsUtf8 (b ∷ [])
    one_byte b l = (b ∷ [], (ap (λ x. x && true) (ascii_scalar b l), ap (λ t. t ++ []) (encode_ascii b l)))

char_utf8 : (c : ℕ) → scalar c ≡ true → IsUtf8 (flat_map string_byte (encode c))
char_utf8 c s = elim (cases_Bool (ltb c 128)) [
  | inl e ↦
      let l = ltb-true c 128 e in
      subst (λ t. IsUtf8 (flat_map string_byte t)) (sym (encode_ascii c l)) (subst IsUtf8 (sym (append-nil (string_byte c))) (ascii_utf8 (string_byte c) (ascii_table c l)))
  | inr e ↦
      subst IsUtf8 (sym (high_bytes (encode c) (high_encode c (ltb-false c 128 e)).3)) (c ∷ [], (ap (λ x. x && true) s, append-nil (encode c)))
]

chars_utf8 : (cs : List ℕ) → scalars cs ≡ true → IsUtf8 (flat_map string_byte (encodes cs))
chars_utf8 [] h = IsUtf8-nil
chars_utf8 (c ∷ cs) h =
    let p = and_parts (scalar c) (scalars cs) h in
    subst IsUtf8 (sym (flat_map-append string_byte (encode c) (encodes cs)))
    (IsUtf8-append (flat_map string_byte (encode c)) (flat_map string_byte (encodes cs)) (char_utf8 c p.0) (chars_utf8 cs p.1))

pub string_utf8 : (t : List ℕ) → IsUtf8 t → IsUtf8 (string_text t)
string_utf8 t u =
    let inner = subst (λ x. IsUtf8 (flat_map string_byte x)) (encodes-chars t u) (chars_utf8 (chars t) (scalars-chars t u)) in
    let quote = ascii_utf8 (34 ∷ []) refl in
    IsUtf8-append (34 ∷ []) (flat_map string_byte t ++ 34 ∷ []) quote (IsUtf8-append (flat_map string_byte t) (34 ∷ []) inner quote)
