-- How the text of a name is made, character by character.
use Rattle.std.proofs.Common.{◌≡◌, ℕ, ◌<◌, ◌+◌, List, [], ◌∷◌, ◌++◌, Bool, true, false, refl, ap, sym, ◌∙◌, eqb, length, get_or, drop, arith, cond, codes, subst}
use Rattle.std.specs.Fmt.{digits}
use Rattle.std.specs.List.{flat_map}
use Rattle.std.proofs.lemmas.Fmt.{hex_one_digit, hex_two_digits}
use Rattle.std.proofs.lemmas.List.{at_drop_more, drop_all}
use Rattle.css_tokens.specs.declared.print.Place.{Place}
use Rattle.css_tokens.specs.declared.print.Place.TheVariants.{First, AfterDash, Later}
use Rattle.css_tokens.specs.NameText.{char_text, first_text, after_dash, chars_text, name_text}
use Rattle.std.specs.Str.{chars}
use Rattle.css_tokens.specs.Trees.{is_text}
use Rattle.css_tokens.specs.Appends.{AppendsFront}
use Rattle.css_tokens.proofs.AppendLemmas.{IsAppending, appending_more, appending_end, appending_front, front_none}
use Rattle.css_tokens.specs.Private.NamePlaces.{is_early, place_after, text_from}

digits_FEFF : digits 16 false 0xFEFF ≡ 102 ∷ 101 ∷ 102 ∷ 102 ∷ []
unfolding digits
digits_FEFF = refl

pub digits-FEFF : (c : ℕ) → c ≡ 0xFEFF → digits 16 false c ≡ 102 ∷ 101 ∷ 102 ∷ 102 ∷ []
digits-FEFF c e = ap (digits 16 false) e ∙ digits_FEFF

-- the digits of the codes that are escaped
pub ruleset escapes = (hex_one_digit, hex_two_digits, digits-FEFF)

from_first : (c : ℕ) (cs : List ℕ) (b : Bool) → first_text c ++ (cond b (after_dash cs) (flat_map char_text cs)) ≡ first_text c ++ text_from (cond b AfterDash Later) cs
from_first c cs true = refl
from_first c cs false = refl

pub text_from-cons : (place : Place) (c : ℕ) (cs : List ℕ) → text_from place (c ∷ cs) ≡ (cond (is_early place) (first_text c) (char_text c)) ++ text_from (place_after place c) cs
text_from-cons First c cs = from_first c cs (eqb c 45)
text_from-cons AfterDash c cs = refl
text_from-cons Later c cs = refl

pub text_from-drop : (place : Place) (cs : List ℕ) (n c : ℕ) → (n < length cs) × (c ≡ get_or cs n c) → text_from place (drop n cs) ≡ (cond (is_early place) (first_text c) (char_text c)) ++ text_from (place_after place c) (drop (n + 1) cs)
text_from-drop place cs n c h = at_drop_more (text_from place) cs n c h.0 ∙ ap (λ x. text_from place (x ∷ drop (n + 1) cs)) (sym h.1) ∙ text_from-cons place c (drop (n + 1) cs)

pub name_text-chars : (name : List ℕ) → is_text name (codes "-") ≡ false → name_text name ≡ chars_text (chars name)
name_text-chars name e = ap (λ b. cond b (92 ∷ 45 ∷ []) (chars_text (chars name))) e

text_from-nil : (place : Place) → text_from place [] ≡ []
text_from-nil First = refl
text_from-nil AfterDash = refl
text_from-nil Later = refl

module _ (cs old now whole : List ℕ) (place : Place) (n c : ℕ) (so_far : IsAppending old now (text_from place (drop n cs)) whole) where
  -- one character more
  pub name_step : (new : List ℕ) (next : Place) (early : Bool) (m : ℕ) → (n < length cs) × (c ≡ get_or cs n c) → early ≡ is_early place → next ≡ place_after place c → m ≡ n + 1 → new ≡ now ++ (cond early (first_text c) (char_text c)) → IsAppending old new (text_from next (drop m cs)) whole
  name_step new next early m h e f g i =
      appending_more old now new (text_from place (drop n cs)) whole (cond early (first_text c) (char_text c)) (text_from next (drop m cs)) so_far
      (text_from-drop place cs n c h ∙ ap (λ b. (cond b (first_text c) (char_text c)) ++ text_from (place_after place c) (drop (n + 1) cs)) (sym e) ∙ ap (λ p. (cond early (first_text c) (char_text c)) ++ text_from p (drop (n + 1) cs)) (sym f) ∙ ap (λ k. (cond early (first_text c) (char_text c)) ++ text_from next (drop k cs)) (sym g))
      i

  pub name_stop : (new : List ℕ) → new ≡ now → AppendsFront old new whole
  name_stop new e = appending_front old now new (text_from place (drop n cs)) whole [] (text_from place (drop n cs)) so_far refl (front_none now new [] e)

  pub name_end : n ≡ length cs → now ≡ old ++ whole
  name_end e = appending_end old now whole (subst (λ r. IsAppending old now r whole) (ap (text_from place) (drop_all n cs (omega arith)) ∙ text_from-nil place) so_far)
