-- The text of a name is in UTF-8.
use Rattle.std.proofs.Common.{◌≡◌, ℕ, zero, suc, ◌<◌, ◌/◌, ◌%◌, List, [], ◌∷◌, ◌++◌, Bool, true, false, ◌==◌, cond, eqb, arith, codes}
use Rattle.std.proofs.lemmas.Bool.{and_parts}
use Rattle.std.proofs.lemmas.Bool.Decides.{nat_tests}
use Rattle.std.proofs.lemmas.Str.{IsUtf8-append, IsUtf8-encode, IsUtf8-from_ascii, scalars-chars}
use Rattle.std.proofs.lemmas.Str.Ascii.{IsAscii-cons, IsAscii-nil, IsAscii-push}
use Rattle.std.specs.Char.{encode_utf8, is_ascii_digit}
use Rattle.std.specs.Fmt.{digits, digits_onto, digit_glyph}
use Rattle.std.specs.List.{flat_map}
use Rattle.std.specs.Str.{IsAscii, IsUtf8, chars}
use lib.Utf8.{scalar, scalars}
use Rattle.css_tokens.specs.NameText.{after_dash, char_text, chars_text, code_escape, first_text, name_text, needs_code, stands_for_itself}
use Rattle.css_tokens.specs.Trees.{is_text}

glyph_low : (d : ℕ) → d < 16 → digit_glyph false d < 128
glyph_low d h = grind (arith, nat_tests)

rest_low : (n : ℕ) → n % 16 < 16
rest_low n = omega arith

either : (b : Bool) (s t : List ℕ) → IsAscii s → IsAscii t → IsAscii (cond b s t)
either true s t h k = h
either false s t h k = k

onto_low : (k n : ℕ) (acc : List ℕ) → IsAscii acc → IsAscii (digits_onto k 16 false n acc)
onto_low zero n acc h = h
onto_low (suc k) n acc h =
    let more : IsAscii (digit_glyph false (n % 16) ∷ acc) = IsAscii-cons (digit_glyph false (n % 16)) acc (glyph_low (n % 16) (rest_low n)) h in
    either ((n / 16) == 0) (digit_glyph false (n % 16) ∷ acc) (digits_onto k 16 false (n / 16) (digit_glyph false (n % 16) ∷ acc)) more (onto_low k (n / 16) (digit_glyph false (n % 16) ∷ acc) more)

digits_low : (n : ℕ) → IsAscii (digits 16 false n)
unfolding digits
digits_low n = onto_low 64 n [] IsAscii-nil

escape_utf8 : (c : ℕ) → IsUtf8 (code_escape c)
escape_utf8 c = IsUtf8-from_ascii (code_escape c) (IsAscii-cons 92 (digits 16 false c ++ 32 ∷ []) (omega arith) (IsAscii-push (digits 16 false c) 32 (digits_low c) (omega arith)))

one_utf8 : (b : ℕ) → b < 128 → IsUtf8 (b ∷ [])
one_utf8 b h = IsUtf8-from_ascii (b ∷ []) (IsAscii-cons b [] h IsAscii-nil)

char_utf8 : (c : ℕ) → scalar c ≡ true → IsUtf8 (char_text c)
char_utf8 c s = chosen (needs_code c) (stands_for_itself c)
  where
    chosen : (code itself : Bool) → IsUtf8 (cond code (code_escape c) (cond itself (encode_utf8 c) (92 ∷ encode_utf8 c)))
    chosen true itself = escape_utf8 c
    chosen false true = IsUtf8-encode c s
    chosen false false = IsUtf8-append (92 ∷ []) (encode_utf8 c) (one_utf8 92 (omega arith)) (IsUtf8-encode c s)

first_utf8 : (c : ℕ) → scalar c ≡ true → IsUtf8 (first_text c)
first_utf8 c s = chosen (is_ascii_digit c)
  where
    chosen : (b : Bool) → IsUtf8 (cond b (code_escape c) (char_text c))
    chosen true = escape_utf8 c
    chosen false = char_utf8 c s

all_utf8 : (cs : List ℕ) → scalars cs ≡ true → IsUtf8 (flat_map char_text cs)
all_utf8 [] s = IsUtf8-from_ascii [] IsAscii-nil
all_utf8 (c ∷ cs) s = let p = and_parts (scalar c) (scalars cs) s in IsUtf8-append (char_text c) (flat_map char_text cs) (char_utf8 c p.0) (all_utf8 cs p.1)

after_utf8 : (cs : List ℕ) → scalars cs ≡ true → IsUtf8 (after_dash cs)
after_utf8 [] s = IsUtf8-from_ascii [] IsAscii-nil
after_utf8 (c ∷ cs) s = let p = and_parts (scalar c) (scalars cs) s in IsUtf8-append (first_text c) (flat_map char_text cs) (first_utf8 c p.0) (all_utf8 cs p.1)

chars_utf8 : (cs : List ℕ) → scalars cs ≡ true → IsUtf8 (chars_text cs)
chars_utf8 [] s = IsUtf8-from_ascii [] IsAscii-nil
chars_utf8 (c ∷ cs) s =
    let p = and_parts (scalar c) (scalars cs) s in
    let rest : (b : Bool) → IsUtf8 (cond b (after_dash cs) (flat_map char_text cs)) = λ b. chosen b p.1 in
    IsUtf8-append (first_text c) (cond (eqb c 45) (after_dash cs) (flat_map char_text cs)) (first_utf8 c p.0) (rest (eqb c 45))
  where
    chosen : (b : Bool) → scalars cs ≡ true → IsUtf8 (cond b (after_dash cs) (flat_map char_text cs))
    chosen true t = after_utf8 cs t
    chosen false t = all_utf8 cs t

-- the text of a name in UTF-8 is in UTF-8
pub name_text-utf8 : (name : List ℕ) → IsUtf8 name → IsUtf8 (name_text name)
name_text-utf8 name u = chosen (is_text name (codes "-"))
  where
    chosen : (b : Bool) → IsUtf8 (cond b (92 ∷ 45 ∷ []) (chars_text (chars name)))
    chosen true = IsUtf8-append (92 ∷ []) (45 ∷ []) (one_utf8 92 (omega arith)) (one_utf8 45 (omega arith))
    chosen false = chars_utf8 (chars name) (scalars-chars name u)
