-- A plain name prints as it is.
use Rattle.std.proofs.Common.{◌≡◌, ℕ, ◌<◌, List, [], ◌∷◌, ◌++◌, Bool, true, false, ◌&&◌, ◌||◌, cond, eqb, refl, ap, sym, ◌∙◌, arith, zero, suc, nat_eq, subst, inl, inr}
use Rattle.std.specs.Char.{encode_utf8, is_ascii_digit}
use Rattle.std.specs.List.{list_all, flat_map}
use Rattle.std.specs.Str.{IsAscii}
use Rattle.std.proofs.lemmas.Str.{chars-IsAscii, encode_ascii}
use Rattle.std.proofs.lemmas.Bool.Decides.{nat_tests}
use Rattle.css_tokens.specs.NameText.{char_text, first_text, needs_code, stands_for_itself, code_escape, name_text, chars_text, after_dash}
use Rattle.css_tokens.specs.PlainNames.{is_plain, is_plain_start, is_plain_after_dash, is_plain_name}
use Rattle.std.proofs.lemmas.Bool.{eqb-true}
use lib.Pointwise.{pointwise}
use Rattle.css_tokens.proofs.GapLemmas.{bool_cases}
use Rattle.css_tokens.proofs.Rebuilt.{both}
use Rattle.css_tokens.proofs.NameTextLemmas.{name_text-chars}

pub plain-ascii : (b : ℕ) → is_plain b ≡ true → b < 128
plain-ascii b e = grind (arith, nat_tests)

plain-needs_code : (b : ℕ) → is_plain b ≡ true → needs_code b ≡ false
plain-needs_code b e = grind (arith, nat_tests)

plain-itself : (b : ℕ) → is_plain b ≡ true → stands_for_itself b ≡ true
plain-itself b e = grind (arith, nat_tests)

pub start-plain : (b : ℕ) → is_plain_start b ≡ true → is_plain b ≡ true
start-plain b e = grind (arith, nat_tests)

start-digit : (b : ℕ) → is_plain_start b ≡ true → is_ascii_digit b ≡ false
start-digit b e = grind (arith, nat_tests)

dash_or_start : (b : ℕ) → (eqb b 45 || is_plain_start b) ≡ true → (is_plain b ≡ true) × (is_ascii_digit b ≡ false)
dash_or_start b e = (grind (arith, nat_tests), grind (arith, nat_tests))

char-plain : (b : ℕ) → is_plain b ≡ true → char_text b ≡ b ∷ []
char-plain b e =
    ap (λ x. cond x (code_escape b) (cond (stands_for_itself b) (encode_utf8 b) (92 ∷ encode_utf8 b))) (plain-needs_code b e)
    ∙ ap (λ x. cond x (encode_utf8 b) (92 ∷ encode_utf8 b)) (plain-itself b e)
    ∙ encode_ascii b (plain-ascii b e)

first-plain : (b : ℕ) → is_plain b ≡ true → is_ascii_digit b ≡ false → first_text b ≡ b ∷ []
first-plain b e f = ap (λ x. cond x (code_escape b) (char_text b)) f ∙ char-plain b e

flat-plain : (bs : List ℕ) → list_all is_plain bs ≡ true → flat_map char_text bs ≡ bs
flat-plain [] e = refl
flat-plain (b ∷ bs) e = let h = both (is_plain b) (list_all is_plain bs) e in ap (λ t. t ++ flat_map char_text bs) (char-plain b h.0) ∙ ap (λ t. b ∷ t) (flat-plain bs h.1)

all-ascii : (bs : List ℕ) → list_all is_plain bs ≡ true → IsAscii bs
all-ascii [] e i = omega arith
all-ascii (b ∷ bs) e zero = plain-ascii b (both (is_plain b) (list_all is_plain bs) e).0
all-ascii (b ∷ bs) e (suc i) = all-ascii bs (both (is_plain b) (list_all is_plain bs) e).1 i

joined : (a b : Bool) → a ≡ true → b ≡ true → (a && b) ≡ true
joined true true e f = refl
joined true false e f = cc
joined false _ e f = cc

plain_after_dash : (bs : List ℕ) → is_plain_after_dash bs ≡ true → name_text (45 ∷ bs) ≡ 45 ∷ bs
plain_after_dash [] e = cc
plain_after_dash (c ∷ cs) e =
    let h = both (eqb c 45 || is_plain_start c) (list_all is_plain cs) e in
    let second = dash_or_start c h.0 in
    name_text-chars (45 ∷ c ∷ cs) refl
    ∙ ap chars_text (chars-IsAscii (45 ∷ c ∷ cs) (all-ascii (45 ∷ c ∷ cs) (joined (is_plain c) (list_all is_plain cs) second.0 h.1)))
    ∙ ap (λ t. t ++ after_dash (c ∷ cs)) (first-plain 45 refl refl)
    ∙ ap (λ t. 45 ∷ t ++ flat_map char_text cs) (first-plain c second.0 second.1)
    ∙ ap (λ t. 45 ∷ c ∷ t) (flat-plain cs h.1)

plain_from_start : (b : ℕ) (bs : List ℕ) → eqb b 45 ≡ false → (is_plain_start b && list_all is_plain bs) ≡ true → name_text (b ∷ bs) ≡ b ∷ bs
plain_from_start b bs n e =
    let h = both (is_plain_start b) (list_all is_plain bs) e in
    let plain = start-plain b h.0 in
    name_text-chars (b ∷ bs) (ap (λ x. x && pointwise nat_eq bs []) n)
    ∙ ap chars_text (chars-IsAscii (b ∷ bs) (all-ascii (b ∷ bs) (joined (is_plain b) (list_all is_plain bs) plain h.1)))
    ∙ ap (λ x. first_text b ++ (cond x (after_dash bs) (flat_map char_text bs))) n
    ∙ ap (λ t. t ++ flat_map char_text bs) (first-plain b plain (start-digit b h.0))
    ∙ ap (λ t. b ∷ t) (flat-plain bs h.1)

-- a plain name that spells an Ident is its own text
pub name_text-plain : (name : List ℕ) → is_plain_name name ≡ true → name_text name ≡ name
name_text-plain [] e = cc
name_text-plain (b ∷ bs) e = elim (bool_cases (eqb b 45)) [
  | inl d ↦ subst (λ (x : ℕ). name_text (x ∷ bs) ≡ x ∷ bs) (sym (eqb-true b 45 d)) (plain_after_dash bs (sym (ap (λ x. cond x (is_plain_after_dash bs) (is_plain_start b && list_all is_plain bs)) d) ∙ e))
  | inr n ↦ plain_from_start b bs n (sym (ap (λ x. cond x (is_plain_after_dash bs) (is_plain_start b && list_all is_plain bs)) n) ∙ e)
]
