-- The text of a selector list that has a spelling is in UTF-8 without control characters, and begins with no byte order mark.
use Rattle.std.proofs.Common.{◌≡◌, ℕ, List, [], ◌∷◌, ◌++◌, map, flat_map, Bool, true, false, not, ◌&&◌, ◌||◌, cond, refl, sym, ap, ◌∙◌, subst, append_assoc, codes, nat_eq, Option, Some, None, take, drop, length, arith}
use Rattle.std.specs.Prelude.{is_some}
use Rattle.std.specs.Char.{is_ascii_digit}
use Rattle.std.specs.List.{list_all, list_any, AllByRecursion}
use Rattle.std.specs.Prelude.{◌==◌}
use Rattle.std.specs.Str.{IsUtf8, chars, is_utf8}
use Rattle.std.proofs.lemmas.Str.{IsUtf8-from_is_utf8}
use Rattle.std.specs.Option.{option_and_then, option_map_or}
use Rattle.std.proofs.lemmas.Bool.{and_parts, false≢true}
use Rattle.std.proofs.lemmas.Bool.Decides.{nat_tests}
use Rattle.std.proofs.lemmas.List.{map-append, take-append-drop}
use Rattle.std.proofs.lemmas.Grind.{flat_map-append}
use Rattle.std.proofs.lemmas.List.Folds.{list_all-append}
use lib.Pointwise.{bytes_decides}
use Rattle.css_tokens.specs.declared.kind.Kind.{Kind}
use Rattle.css_tokens.specs.declared.kind.Kind.TheVariants as kinds
use Rattle.css_tokens.specs.declared.component.Component.{Component}
use Rattle.css_tokens.specs.NameText.{name_text}
use Rattle.css_tokens.specs.Names.{is_content, is_name}
use Rattle.css_tokens.specs.Piece.{Piece, Word, spelled, word_of}
use Rattle.css_tokens.specs.StringText.{string_text}
use Rattle.css_tokens.specs.Tokens.{is_control, mark_length}
use Rattle.css_tokens.specs.Trees.{closing, closing_text, is_text, pieces_all, pieces_of-Block, words_all}
use Rattle.css_tokens.specs.Numbers.{begins_digit}
use Rattle.selector_types.specs.declared.selector.Attribute.{Attribute}
use Rattle.selector_types.specs.declared.selector.Combinator.{Combinator}
use Rattle.selector_types.specs.declared.selector.Combinator.TheVariants as combinators
use Rattle.selector_types.specs.declared.selector.Test.{Test}
use Rattle.selector_types.specs.declared.selector.Test.TheVariants as tests
use Rattle.selector_types.specs.declared.selector.TypeName.{TypeName}
use Rattle.selector_types.specs.declared.selector.TypeName.TheVariants as types
use Rattle.selector_types.specs.declared.selector.Compound as compound
use Rattle.selector_types.specs.declared.selector.Link as link
use Rattle.selector_types.specs.declared.selector.Part as part
use Rattle.selector_types.specs.declared.selector.Selector.{Selector}
use Rattle.selector_types.specs.declared.selector.Simple.{Simple}
use Rattle.selector_types.specs.declared.selector.Simple as simple
use Rattle.selector_types.specs.declared.selector.Tail.{Tail}
use Rattle.selector_types.specs.AnPlusB.{after_digits, after_spaces, is_an_plus_b, is_blank, is_integer, is_offset, is_step, is_word}
use Rattle.selector_types.specs.BareFold.{placed, bare_compound, bare_selector}
use Rattle.selector_types.specs.Names.{has_space, is_old_element, lowered, pseudo_text}
use Rattle.selector_types.specs.ReadableSelectors.{are_readable, has_some, has_type, is_argument_text, is_clean, is_name_text, is_pseudo_of, is_pseudo_text, is_readable_attribute, is_readable_compound, is_readable_lead, is_readable_list, is_readable_selector, is_readable_simple, is_readable_tail, is_readable_type, is_readable_value, is_step_text, name_in_text, readable}
use Rattle.selector_types.specs.SelectorFold.{made_part, made_link, simple_of, compound_of, combinator_of, folded-Class, folded-Id, folded-Attribute, folded-Pseudo, folded-Not, folded-Is, folded-Where, folded-Parent, folded-Local, folded-Global, folded-Foreign, folded-Compound, folded-Selector}
use Rattle.selector_types.specs.SelectorInduction.{Cases, by_selectors, by_simples}
use Rattle.selector_types.specs.Spelling.{single, block, ident, delim, colon, text_of, argument_spelling, attribute_spelling, back_spelling, before_close, before_plus, behind, call, combinator_spelling, compound_spelling, ends_in_dashes, from_plus, front_spelling, lead_spelling, links_spelling, list_spelling, list_text, more_spelling, pseudo_from, pseudo_spelling, selector_spelling, simple_spelling, spelling, state_spelling, step_spelling, tail_spelling, test_spelling, text_functions, type_spelling, unsigned, value_spelling, word_kind}
use Rattle.css_rules.proofs.CleanNames.{all_plain, clean-append, clean-from, is_plain_byte, name-clean, name-unmarked, plain-clean}
use Rattle.css_rules.proofs.Heads.{word}
use Rattle.css_rules.proofs.LowerNames.{lower-name}
use Rattle.css_rules.proofs.SheetSpelled.{text-append, text-cons}

-- what the crate of tokens ensures of the texts of strings
abbrev pub CleanStrings : Type 0
CleanStrings = (t : List ℕ) → is_content t ≡ true → is_clean (string_text t) ≡ true

pub clean-strings : ((t : List ℕ) → IsUtf8 t → IsUtf8 (string_text t)) → ((t : List ℕ) → is_content t ≡ true → list_any is_control (string_text t) ≡ false) → CleanStrings
clean-strings utf8 clean t h = clean-from (string_text t) (utf8 t (IsUtf8-from_is_utf8 t (and_parts (is_utf8 t) (list_all (λ c. not (c == 0)) (chars t)) h).0)) (clean t h)

-- AN+B has plain characters.

plain-behind : (b : ℕ) (t : List ℕ) → is_plain_byte b ≡ true → all_plain t ≡ true → all_plain (b ∷ t) ≡ true
plain-behind b t e h = ap (λ x. x && all_plain t) e ∙ h

digit-plain : (b : ℕ) → is_ascii_digit b ≡ true → is_plain_byte b ≡ true
digit-plain b e = grind (arith, nat_tests)

space-plain : (b : ℕ) → nat_eq b 32 ≡ true → is_plain_byte b ≡ true
space-plain b e = grind (arith, nat_tests)

sign-plain : (b : ℕ) → (nat_eq b 43 || nat_eq b 45) ≡ true → is_plain_byte b ≡ true
sign-plain b e = grind (arith, nat_tests)

step-byte : (b : ℕ) → nat_eq b 110 ≡ true → is_plain_byte b ≡ true
step-byte b e = grind (arith, nat_tests)

blank-plain : (t : List ℕ) → is_blank t ≡ true → all_plain t ≡ true
blank-plain [] h = refl
blank-plain (b ∷ t) h = let p = and_parts (nat_eq b 32) (is_blank t) h in plain-behind b t (space-plain b p.0) (blank-plain t p.1)

digits-plain : (t : List ℕ) → all_plain (after_digits t) ≡ true → all_plain t ≡ true
digits-plain [] h = refl
digits-plain (b ∷ t) h = at (is_ascii_digit b) refl (digits-plain t) h
  where
    at : (x : Bool) → is_ascii_digit b ≡ x → (all_plain (after_digits t) ≡ true → all_plain t ≡ true) → all_plain (cond x (after_digits t) (b ∷ t)) ≡ true → all_plain (b ∷ t) ≡ true
    at true e more k = plain-behind b t (digit-plain b e) (more k)
    at false e more k = k

spaces-plain : (t : List ℕ) → all_plain (after_spaces t) ≡ true → all_plain t ≡ true
spaces-plain [] h = refl
spaces-plain (b ∷ t) h = at (nat_eq b 32) refl (spaces-plain t) h
  where
    at : (x : Bool) → nat_eq b 32 ≡ x → (all_plain (after_spaces t) ≡ true → all_plain t ≡ true) → all_plain (cond x (after_spaces t) (b ∷ t)) ≡ true → all_plain (b ∷ t) ≡ true
    at true e more k = plain-behind b t (space-plain b e) (more k)
    at false e more k = k

unsigned-plain : (t : List ℕ) → all_plain (unsigned t) ≡ true → all_plain t ≡ true
unsigned-plain [] h = refl
unsigned-plain (b ∷ t) h = at (nat_eq b 43 || nat_eq b 45) refl h
  where
    at : (x : Bool) → (nat_eq b 43 || nat_eq b 45) ≡ x → all_plain (cond x t (b ∷ t)) ≡ true → all_plain (b ∷ t) ≡ true
    at true e k = plain-behind b t (sign-plain b e) k
    at false e k = k

integer-plain : (t : List ℕ) → is_integer t ≡ true → all_plain t ≡ true
integer-plain t h = digits-plain t (blank-plain (after_digits t) (and_parts (begins_digit t) (is_blank (after_digits t)) h).1)

offset-plain : (t : List ℕ) → is_offset t ≡ true → all_plain t ≡ true
offset-plain [] h = refl
offset-plain (b ∷ t) h =
    let p = and_parts (nat_eq b 43 || nat_eq b 45) (is_integer (after_spaces t)) h in
    plain-behind b t (sign-plain b p.0) (spaces-plain t (integer-plain (after_spaces t) p.1))

step-plain : (t : List ℕ) → is_step t ≡ true → all_plain t ≡ true
step-plain [] h = refl
step-plain (b ∷ t) h =
    let p = and_parts (nat_eq b 110) (is_offset (after_spaces t)) h in
    plain-behind b t (step-byte b p.0) (spaces-plain t (offset-plain (after_spaces t) p.1))

plain-both : (a b : List ℕ) → all_plain a ≡ true → all_plain b ≡ true → all_plain (a ++ b) ≡ true
plain-both a b h k = list_all-append is_plain_byte a b ∙ ap (λ x. x && all_plain b) h ∙ k

word-plain : (w t : List ℕ) → all_plain w ≡ true → is_word w t ≡ true → all_plain t ≡ true
word-plain w t e h =
    let p = and_parts (is_text (take (length w) t) w) (is_blank (drop (length w) t)) h in
    let same = (bytes_decides (take (length w) t) w).0 p.0 in
    subst (λ u. all_plain u ≡ true) (take-append-drop (length w) t) (plain-both (take (length w) t) (drop (length w) t) (ap all_plain same ∙ e) (blank-plain (drop (length w) t) p.1))

either : (a b : Bool) {P : Type 0} → (a || b) ≡ true → (a ≡ true → P) → (b ≡ true → P) → P
either true b h f g = f refl
either false b h f g = g h

nth-plain : (t : List ℕ) → is_an_plus_b t ≡ true → all_plain t ≡ true
nth-plain t h =
    let odd = is_word (codes "odd") t in
    let even = is_word (codes "even") t in
    let integer = is_integer (unsigned t) in
    let step = is_step (after_digits (unsigned t)) in
    either (odd || even || integer) step h
    (λ k. either (odd || even) integer k
    (λ l. either odd even l (word-plain (codes "odd") t refl) (word-plain (codes "even") t refl))
    (λ l. unsigned-plain t (integer-plain (unsigned t) l)))
    (λ k. unsigned-plain t (digits-plain (unsigned t) (step-plain (after_digits (unsigned t)) k)))

before-plain : (t : List ℕ) → all_plain t ≡ true → all_plain (before_plus t) ≡ true
before-plain [] h = refl
before-plain (b ∷ t) h = at (nat_eq b 43) (before-plain t (and_parts (is_plain_byte b) (all_plain t) h).1)
  where
    at : (x : Bool) → all_plain (before_plus t) ≡ true → all_plain (cond x [] (b ∷ before_plus t)) ≡ true
    at true k = refl
    at false k = plain-behind b (before_plus t) (and_parts (is_plain_byte b) (all_plain t) h).0 k

from-plain : (t : List ℕ) → all_plain t ≡ true → all_plain (from_plus t) ≡ true
from-plain [] h = refl
from-plain (b ∷ t) h = at (nat_eq b 43) (from-plain t (and_parts (is_plain_byte b) (all_plain t) h).1)
  where
    at : (x : Bool) → all_plain (from_plus t) ≡ true → all_plain (cond x (b ∷ t) (from_plus t)) ≡ true
    at true k = h
    at false k = k

-- Components.

abbrev IsClean : List Component → Type 0
IsClean cs = is_clean (text_of cs) ≡ true

none : IsClean []
none = plain-clean [] refl

both : (xs ys : List Component) → IsClean xs → IsClean ys → IsClean (xs ++ ys)
both xs ys h k = ap is_clean (text-append xs ys) ∙ clean-append (text_of xs) (text_of ys) h k

one : (k : Kind) (text : List ℕ) (cs : List Component) → is_clean text ≡ true → IsClean cs → IsClean (single k text ∷ cs)
one k text cs e h = ap is_clean (text-cons (word k text) cs) ∙ clean-append text (text_of cs) e h

text-block : (k : Kind) (text : List ℕ) (items cs : List Component) → text_of (block k text items ∷ cs) ≡ text ++ (text_of items ++ (closing_text text ++ text_of cs))
text-block k text items cs =
    let opening : Piece = record { kind = k; text = text; at = 0 } in
    let close = closing opening 0 in
    ap (λ (ps : List Piece). spelled (map word_of (ps ++ pieces_all cs))) (pieces_of-Block (record { opening = opening; items = items; close = 0 }))
    ∙ ap (λ (ps : List Piece). spelled (word k text ∷ map word_of ps)) (append_assoc (pieces_all items) (close ∷ []) (pieces_all cs))
    ∙ ap (λ (ws : List Word). spelled (word k text ∷ ws)) (map-append word_of (pieces_all items) (close ∷ pieces_all cs))
    ∙ ap (λ t. text ++ t) (flat_map-append (λ (w : Word). w.text) (words_all items) (word kinds.Close (closing_text text) ∷ words_all cs))

around : (k : Kind) (text : List ℕ) (items cs : List Component) → is_clean text ≡ true → is_clean (closing_text text) ≡ true → IsClean items → IsClean cs → IsClean (block k text items ∷ cs)
around k text items cs e f h g =
    ap is_clean (text-block k text items cs)
    ∙ clean-append text (text_of items ++ (closing_text text ++ text_of cs)) e
    (clean-append (text_of items) (closing_text text ++ text_of cs) h (clean-append (closing_text text) (text_of cs) f g))

called : (name : List ℕ) (argument : List Component) → is_clean name ≡ true → is_clean (closing_text name) ≡ true → IsClean argument → IsClean (call name argument)
called name argument e f h = one kinds.Colon (codes ":") (block kinds.Function name argument ∷ []) (plain-clean (codes ":") refl) (around kinds.Function name argument [] e f h none)

-- Texts of names.

name-text-clean : (t : List ℕ) → is_name_text t ≡ true → is_clean t ≡ true
name-text-clean t h =
    let p = and_parts (is_name (name_in_text t)) (is_text (name_text (name_in_text t)) t) h in
    ap is_clean (sym ((bytes_decides (name_text (name_in_text t)) t).0 p.1)) ∙ name-clean (name_in_text t) p.0

pseudo-text-clean : (t : List ℕ) → is_pseudo_text t ≡ true → is_clean t ≡ true
pseudo-text-clean t h =
    let p = and_parts (is_name (name_in_text t)) (is_text (pseudo_text (name_in_text t)) t) h in
    ap is_clean (sym ((bytes_decides (pseudo_text (name_in_text t)) t).0 p.1)) ∙ name-clean (lowered (name_in_text t)) (lower-name (name_in_text t) p.0)

front-clean : (b : ℕ) (t : List ℕ) → all_plain (b ∷ t) ≡ true → IsClean (front_spelling b t)
front-clean b t h = at (nat_eq b 43 && not (begins_digit t))
  where
    parts : (is_plain_byte b ≡ true) × (all_plain t ≡ true)
    parts = and_parts (is_plain_byte b) (all_plain t) h

    at : (x : Bool) → IsClean (cond x (delim (b ∷ []) ∷ single kinds.Ident t ∷ []) (single (word_kind (b ∷ t)) (b ∷ t) ∷ []))
    at true = one kinds.Delim (b ∷ []) (single kinds.Ident t ∷ []) (plain-clean (b ∷ []) (plain-behind b [] parts.0 refl)) (one kinds.Ident t [] (plain-clean t parts.1) none)
    at false = one (word_kind (b ∷ t)) (b ∷ t) [] (plain-clean (b ∷ t) h) none

back-clean : (t : List ℕ) → all_plain t ≡ true → IsClean (back_spelling t)
back-clean [] h = none
back-clean (b ∷ t) h = one kinds.Number (b ∷ t) [] (plain-clean (b ∷ t) h) none

step-clean : (t : List ℕ) → all_plain t ≡ true → IsClean (step_spelling t)
step-clean [] h = none
step-clean (b ∷ t) h =
    let p = and_parts (is_plain_byte b) (all_plain t) h in
    both (front_spelling b (before_plus t)) (back_spelling (from_plus t))
    (front-clean b (before_plus t) (plain-behind b (before_plus t) p.0 (before-plain t p.1)))
    (back-clean (from_plus t) (from-plain t p.1))

argument-clean : (f t : List ℕ) → is_argument_text f t ≡ true → IsClean (argument_spelling f t)
argument-clean f t h = at (is_text f (codes "lang(")) h
  where
    at : (x : Bool) → (cond x (is_name_text t) (is_step_text t)) ≡ true → IsClean (cond x (single kinds.Ident t ∷ []) (step_spelling t))
    at true k = one kinds.Ident t [] (name-text-clean t k) none
    at false k = step-clean t (nth-plain t (and_parts (is_an_plus_b t) (not (has_space t)) k).0)

-- the functions of a text are written plainly, and so is what closes them
abbrev plain_calls : List (List ℕ) → Bool
plain_calls fs = list_all (λ f. all_plain f && all_plain (closing_text f)) fs

pseudo-clean : (fs : List (List ℕ)) (t : List ℕ) → plain_calls fs ≡ true → is_pseudo_of fs t ≡ true → IsClean (pseudo_from fs t ∷ [])
pseudo-clean [] t p h = one kinds.Ident t [] (pseudo-text-clean t (and_parts (is_pseudo_text t) (not (is_old_element t)) h).0) none
pseudo-clean (f ∷ fs) t p h = at (option_and_then before_close (behind f t)) (pseudo-clean fs t (and_parts (all_plain f && all_plain (closing_text f)) (plain_calls fs) p).1) h
  where
    here : (all_plain f ≡ true) × (all_plain (closing_text f) ≡ true)
    here = and_parts (all_plain f) (all_plain (closing_text f)) (and_parts (all_plain f && all_plain (closing_text f)) (plain_calls fs) p).0

    at : (o : Option (List ℕ)) → (is_pseudo_of fs t ≡ true → IsClean (pseudo_from fs t ∷ [])) → option_map_or (is_argument_text f) o (is_pseudo_of fs t) ≡ true
        → IsClean (option_map_or (λ argument. block kinds.Function f (argument_spelling f argument)) o (pseudo_from fs t) ∷ [])
    at None more k = more k
    at (Some argument) more k = around kinds.Function f (argument_spelling f argument) [] (plain-clean f here.0) (plain-clean (closing_text f) here.1) (argument-clean f argument k) none

states-clean : (states : List (List ℕ)) → list_all is_pseudo_text states ≡ true → IsClean (flat_map state_spelling states)
states-clean [] h = none
states-clean (s ∷ states) h =
    let p = and_parts (is_pseudo_text s) (list_all is_pseudo_text states) h in
    one kinds.Colon (codes ":") (single kinds.Ident s ∷ flat_map state_spelling states) (plain-clean (codes ":") refl)
    (one kinds.Ident s (flat_map state_spelling states) (pseudo-text-clean s p.0) (states-clean states p.1))

tail-clean : (last : Bool) (tail : Option Tail) → is_readable_tail last tail ≡ true → IsClean (tail_spelling tail)
tail-clean last None h = none
tail-clean last (Some t) h =
    let p = and_parts (is_pseudo_text t.element) (list_all is_pseudo_text t.states) (and_parts last (is_pseudo_text t.element && list_all is_pseudo_text t.states) h).1 in
    one kinds.Colon (codes ":") (colon ∷ single kinds.Ident t.element ∷ flat_map state_spelling t.states) (plain-clean (codes ":") refl)
    (one kinds.Colon (codes ":") (single kinds.Ident t.element ∷ flat_map state_spelling t.states) (plain-clean (codes ":") refl)
    (one kinds.Ident t.element (flat_map state_spelling t.states) (pseudo-text-clean t.element p.0) (states-clean t.states p.1)))

type-clean : (kind : TypeName) → is_readable_type kind ≡ true → IsClean (type_spelling kind)
type-clean types.None h = none
type-clean types.Universal h = one kinds.Delim (codes "*") [] (plain-clean (codes "*") refl) none
type-clean (types.Name n) h = one kinds.Ident (name_text n) [] (name-clean n h) none

combinator-clean : (dashes : Bool) (c : Combinator) → IsClean (combinator_spelling dashes c)
combinator-clean dashes combinators.Descendant = one kinds.White (codes " ") [] (plain-clean (codes " ") refl) none
combinator-clean true combinators.Child = one kinds.White (codes " ") (delim (codes ">") ∷ []) (plain-clean (codes " ") refl) (one kinds.Delim (codes ">") [] (plain-clean (codes ">") refl) none)
combinator-clean false combinators.Child = one kinds.Delim (codes ">") [] (plain-clean (codes ">") refl) none
combinator-clean dashes combinators.Next = one kinds.Delim (codes "+") [] (plain-clean (codes "+") refl) none
combinator-clean dashes combinators.Later = one kinds.Delim (codes "~") [] (plain-clean (codes "~") refl) none

lead-clean : (lead : Option Combinator) → IsClean (lead_spelling lead)
lead-clean None = none
lead-clean (Some c) = combinator-clean false c

-- Selectors.

module _ (strings : CleanStrings) where
  value-clean : (value : List ℕ) → is_content value ≡ true → IsClean (value_spelling value)
  value-clean value h = one kinds.Delim (codes "=") (single kinds.String (string_text value) ∷ []) (plain-clean (codes "=") refl) (one kinds.String (string_text value) [] (strings value h) none)

  test-clean : (test : Test) (value : List ℕ) → is_readable_value test value ≡ true → IsClean (test_spelling test value)
  test-clean tests.Has value h = none
  test-clean tests.Equals value h = value-clean value h
  test-clean tests.Word value h = one kinds.Delim (codes "~") (value_spelling value) (plain-clean (codes "~") refl) (value-clean value h)
  test-clean tests.Dash value h = one kinds.Delim (codes "|") (value_spelling value) (plain-clean (codes "|") refl) (value-clean value h)
  test-clean tests.Prefix value h = one kinds.Delim (codes "^") (value_spelling value) (plain-clean (codes "^") refl) (value-clean value h)
  test-clean tests.Suffix value h = one kinds.Delim (codes "$") (value_spelling value) (plain-clean (codes "$") refl) (value-clean value h)
  test-clean tests.Contains value h = one kinds.Delim (codes "*") (value_spelling value) (plain-clean (codes "*") refl) (value-clean value h)

  attribute-clean : (a : Attribute) → is_readable_attribute a ≡ true → IsClean (attribute_spelling a ∷ [])
  attribute-clean a h =
      let p = and_parts (is_name a.name) (not a.flag && is_readable_value a.test a.value) h in
      let q = and_parts (not a.flag) (is_readable_value a.test a.value) p.1 in
      around kinds.Open (codes "[") (ident a.name ∷ test_spelling a.test a.value) [] (plain-clean (codes "[") refl) (plain-clean (codes "]") refl)
      (one kinds.Ident (name_text a.name) (test_spelling a.test a.value) (name-clean a.name p.0) (test-clean a.test a.value q.1)) none

  abbrev InSimple : Simple → Type 0
  InSimple x = is_readable_simple x ≡ true → IsClean (simple_spelling x)

  abbrev InCompound : compound.Compound → Type 0
  InCompound k = (last : Bool) → is_readable_compound last k ≡ true → IsClean (compound_spelling k)

  abbrev InSelector : Selector → Type 0
  InSelector s = (nested : Bool) → is_readable_selector nested s ≡ true → IsClean (selector_spelling s)

  abbrev all_false : List (Bool → Bool) → Bool
  all_false ss = list_all (λ s. s false) ss

  more-clean : (nested : Bool) (ss : List Selector) → AllByRecursion InSelector ss → list_all (is_readable_selector nested) ss ≡ true → IsClean (more_spelling (map selector_spelling ss))
  more-clean nested [] each h = none
  more-clean nested (s ∷ ss) each h =
      let p = and_parts (is_readable_selector nested s) (list_all (is_readable_selector nested) ss) h in
      one kinds.Comma (codes ",") (selector_spelling s ++ more_spelling (map selector_spelling ss)) (plain-clean (codes ",") refl)
      (both (selector_spelling s) (more_spelling (map selector_spelling ss)) (each.0 nested p.0) (more-clean nested ss each.1 p.1))

  between-clean : (nested : Bool) (ss : List Selector) → AllByRecursion InSelector ss → list_all (is_readable_selector nested) ss ≡ true → IsClean (list_spelling ss)
  between-clean nested [] each h = none
  between-clean nested (s ∷ ss) each h =
      let p = and_parts (is_readable_selector nested s) (list_all (is_readable_selector nested) ss) h in
      both (selector_spelling s) (more_spelling (map selector_spelling ss)) (each.0 nested p.0) (more-clean nested ss each.1 p.1)

  inner-all : (ss : List Selector) → all_false (map (bare_selector readable) ss) ≡ true → list_all (is_readable_selector false) ss ≡ true
  inner-all [] h = refl
  inner-all (s ∷ ss) h = let p = and_parts (is_readable_selector false s) (all_false (map (bare_selector readable) ss)) h in ap (λ x. x && list_all (is_readable_selector false) ss) p.0 ∙ inner-all ss p.1

  inner-clean : (ss : List Selector) → AllByRecursion InSelector ss → all_false (map (bare_selector readable) ss) ≡ true → IsClean (list_spelling ss)
  inner-clean ss each h = between-clean false ss each (inner-all ss h)

  parts-clean : (ps : List part.Part) → AllByRecursion (λ p. InSimple (simple_of p)) ps → list_all (λ (p : Bool). p) (map (λ (p : Bool × ℕ). p.0) (map (made_part (placed readable)) ps)) ≡ true
      → IsClean (flat_map (λ (p : List Component). p) (map (λ (p : List Component × ℕ). p.0) (map (made_part (placed spelling)) ps)))
  parts-clean [] each h = none
  parts-clean (p ∷ ps) each h =
      let q = and_parts (is_readable_simple (simple_of p)) (list_all (λ (p : Bool). p) (map (λ (p : Bool × ℕ). p.0) (map (made_part (placed readable)) ps))) h in
      both (simple_spelling (simple_of p)) _ (each.0 q.0) (parts-clean ps each.1 q.1)

  links-clean : (first : Bool → Bool) (cs : List Component) (dashes : Bool) (ls : List link.Link) → ((last : Bool) → first last ≡ true → IsClean cs) → AllByRecursion (λ l. InCompound (compound_of l)) ls
      → are_readable first (map (made_link (placed readable)) ls) ≡ true → IsClean (cs ++ links_spelling dashes (map (made_link (placed spelling)) ls))
  links-clean first cs dashes [] f each h = both cs [] (f true h) none
  links-clean first cs dashes (l ∷ ls) f each h =
      let here = compound_spelling (compound_of l) in
      let dashes' = ends_in_dashes (text_of here) in
      let p = and_parts (first false) (are_readable (bare_compound readable (compound_of l)) (map (made_link (placed readable)) ls)) h in
      both cs _ (f false p.0)
      (both (combinator_spelling dashes (combinator_of l)) (here ++ links_spelling dashes' (map (made_link (placed spelling)) ls)) (combinator-clean dashes (combinator_of l))
      (links-clean (bare_compound readable (compound_of l)) here dashes' ls each.0 each.1 p.1))

  abbrev cleaned : List Component → Bool
  cleaned cs = is_clean (text_of cs)

  cases : Cases InSimple InCompound InSelector
  cases = record {
    class = λ n h. ap cleaned (folded-Class (placed spelling) n) ∙ one kinds.Delim (codes ".") (ident n ∷ []) (plain-clean (codes ".") refl) (one kinds.Ident (name_text n) [] (name-clean n (sym (folded-Class (placed readable) n) ∙ h)) none);
    id = λ n h. ap cleaned (folded-Id (placed spelling) n) ∙ one kinds.Hash (codes "#" ++ name_text n) [] (clean-append (codes "#") (name_text n) (plain-clean (codes "#") refl) (name-clean n (sym (folded-Id (placed readable) n) ∙ h))) none;
    attribute = λ a h. ap cleaned (folded-Attribute (placed spelling) a) ∙ attribute-clean a (sym (folded-Attribute (placed readable) a) ∙ h);
    pseudo = λ t h. ap cleaned (folded-Pseudo (placed spelling) t) ∙ one kinds.Colon (codes ":") (pseudo_spelling t ∷ []) (plain-clean (codes ":") refl) (pseudo-clean text_functions t refl (sym (folded-Pseudo (placed readable) t) ∙ h));
    not_of = λ ss each h.
        ap cleaned (folded-Not (placed spelling) ss)
        ∙ called (codes "not(") _ (plain-clean (codes "not(") refl) (plain-clean (codes ")") refl)
        (inner-clean ss each (and_parts (has_some (map (bare_selector readable) ss)) (all_false (map (bare_selector readable) ss)) (sym (folded-Not (placed readable) ss) ∙ h)).1);
    is_of = λ ss each h. ap cleaned (folded-Is (placed spelling) ss) ∙ called (codes "is(") _ (plain-clean (codes "is(") refl) (plain-clean (codes ")") refl) (inner-clean ss each (sym (folded-Is (placed readable) ss) ∙ h));
    where_of = λ ss each h. ap cleaned (folded-Where (placed spelling) ss) ∙ called (codes "where(") _ (plain-clean (codes "where(") refl) (plain-clean (codes ")") refl) (inner-clean ss each (sym (folded-Where (placed readable) ss) ∙ h));
    parent = λ h. ap cleaned (folded-Parent (placed spelling)) ∙ one kinds.Delim (codes "&") [] (plain-clean (codes "&") refl) none;
    local = λ k clean h. ap cleaned (folded-Local (placed spelling) k) ∙ called (codes "local(") _ (plain-clean (codes "local(") refl) (plain-clean (codes ")") refl) (clean false (sym (folded-Local (placed readable) k) ∙ h));
    global = λ k clean h. ap cleaned (folded-Global (placed spelling) k) ∙ called (codes "global(") _ (plain-clean (codes "global(") refl) (plain-clean (codes ")") refl) (clean false (sym (folded-Global (placed readable) k) ∙ h));
    foreign = λ h. ap cleaned (folded-Foreign (placed spelling)) ∙ none;
    compound = λ k each last h.
        let parts = map (λ (p : Bool × ℕ). p.0) (map (made_part (placed readable)) k.parts) in
        let all = list_all (λ (p : Bool). p) parts in
        let p = and_parts (has_type k.kind || (has_some parts || is_some k.tail)) (is_readable_type k.kind && (all && is_readable_tail last k.tail)) (sym (ap (λ (f : Bool → Bool). f last) (folded-Compound (placed readable) k)) ∙ h) in
        let q = and_parts (is_readable_type k.kind) (all && is_readable_tail last k.tail) p.1 in
        let r = and_parts all (is_readable_tail last k.tail) q.1 in
        ap cleaned (folded-Compound (placed spelling) k)
        ∙ both (type_spelling k.kind) _ (type-clean k.kind q.0) (both _ (tail_spelling k.tail) (parts-clean k.parts each r.0) (tail-clean last k.tail r.1));
    selector = λ s first each nested h.
        let rest = are_readable (bare_compound readable s.first) (map (made_link (placed readable)) s.rest) in
        let p = and_parts (is_readable_lead nested s.lead) rest (sym (ap (λ (f : Bool → Bool). f nested) (folded-Selector (placed readable) s)) ∙ h) in
        ap cleaned (folded-Selector (placed spelling) s)
        ∙ both (lead_spelling s.lead) _ (lead-clean s.lead) (links-clean (bare_compound readable s.first) (compound_spelling s.first) (ends_in_dashes (text_of (compound_spelling s.first))) s.rest first each p.1);
  }

  every : (ss : List Selector) → AllByRecursion InSelector ss
  every [] = tt
  every (s ∷ ss) = (by_selectors InSimple InCompound InSelector cases s, every ss)

  pub list-clean : (ss : List Selector) → is_readable_list false ss ≡ true → is_clean (list_text ss) ≡ true
  list-clean ss h = between-clean false ss (every ss) (and_parts (has_some ss) (list_all (is_readable_selector false) ss) h).1

-- How it begins.

abbrev Begins : List ℕ → Type 0
Begins text = mark_length text ≡ 0

abbrev BeginsSo : List Component → Type 0
BeginsSo cs = (rest : List ℕ) → Begins (text_of cs ++ rest)

begins-front : (xs ys : List Component) → BeginsSo xs → BeginsSo (xs ++ ys)
begins-front xs ys h rest =
    subst Begins (sym (ap (λ t. t ++ rest) (text-append xs ys) ∙ append_assoc (text_of xs) (text_of ys) rest)) (h (text_of ys ++ rest))

begins-word : (k : Kind) (text : List ℕ) (cs : List Component) → ((rest : List ℕ) → Begins (text ++ rest)) → BeginsSo (single k text ∷ cs)
begins-word k text cs h rest =
    subst Begins (sym (ap (λ t. t ++ rest) (text-cons (word k text) cs) ∙ append_assoc text (text_of cs) rest)) (h (text_of cs ++ rest))

begins-name : (n rest : List ℕ) → is_name n ≡ true → Begins (name_text n ++ rest)
begins-name n rest h = ap (λ b. cond b 3 0) (name-unmarked n rest h)

begins-colon : (cs : List Component) → BeginsSo (colon ∷ cs)
begins-colon cs = begins-word kinds.Colon (codes ":") cs (λ rest. refl)

begins-block : (text : List ℕ) (items : List Component) → ((rest : List ℕ) → Begins (text ++ rest)) → BeginsSo (block kinds.Open text items ∷ [])
begins-block text items h rest =
    let more = text_of items ++ (closing_text text ++ text_of []) in
    subst Begins (sym (ap (λ t. t ++ rest) (text-block kinds.Open text items []) ∙ append_assoc text more rest)) (h (more ++ rest))

abbrev SimpleBegins : Simple → Type 0
SimpleBegins x = is_readable_simple x ≡ true → BeginsSo (simple_spelling x)

begun : (x : Simple) (cs : List Component) → simple_spelling x ≡ cs → BeginsSo cs → BeginsSo (simple_spelling x)
begun x cs e h = subst BeginsSo (sym e) h

begin-cases : Cases SimpleBegins (λ k. Unit {0}) (λ s. Unit {0})
begin-cases = record {
  class = λ n h. begun (simple.Class n) _ (folded-Class (placed spelling) n) (begins-word kinds.Delim (codes ".") (ident n ∷ []) (λ rest. refl));
  id = λ n h. begun (simple.Id n) _ (folded-Id (placed spelling) n) (begins-word kinds.Hash (codes "#" ++ name_text n) [] (λ rest. refl));
  attribute = λ a h. begun (simple.Attribute a) _ (folded-Attribute (placed spelling) a) (begins-block (codes "[") (ident a.name ∷ test_spelling a.test a.value) (λ rest. refl));
  pseudo = λ t h. begun (simple.Pseudo t) _ (folded-Pseudo (placed spelling) t) (begins-colon (pseudo_spelling t ∷ []));
  not_of = λ ss each h. begun (simple.Not ss) _ (folded-Not (placed spelling) ss) (begins-colon (block kinds.Function (codes "not(") (list_spelling ss) ∷ []));
  is_of = λ ss each h. begun (simple.Is ss) _ (folded-Is (placed spelling) ss) (begins-colon (block kinds.Function (codes "is(") (list_spelling ss) ∷ []));
  where_of = λ ss each h. begun (simple.Where ss) _ (folded-Where (placed spelling) ss) (begins-colon (block kinds.Function (codes "where(") (list_spelling ss) ∷ []));
  parent = λ h. begun simple.Parent _ (folded-Parent (placed spelling)) (begins-word kinds.Delim (codes "&") [] (λ rest. refl));
  local = λ k none h. begun (simple.Local k) _ (folded-Local (placed spelling) k) (begins-colon (block kinds.Function (codes "local(") (compound_spelling k) ∷ []));
  global = λ k none h. begun (simple.Global k) _ (folded-Global (placed spelling) k) (begins-colon (block kinds.Function (codes "global(") (compound_spelling k) ∷ []));
  foreign = λ h. (let clash = sym (folded-Foreign (placed readable)) ∙ h in absurd (false≢true clash));
  compound = λ k each. tt;
  selector = λ s first each. tt;
}

simple-begins : (x : Simple) → SimpleBegins x
simple-begins x = by_simples SimpleBegins (λ k. Unit {0}) (λ s. Unit {0}) begin-cases x

-- what stands in a compound, its type selector, its parts and its pseudo-element, begins so where it is not empty
body-begins : (ps : List part.Part) (tail : Option Tail) → (has_some (map (λ (p : Bool × ℕ). p.0) (map (made_part (placed readable)) ps)) || is_some tail) ≡ true
    → list_all (λ (p : Bool). p) (map (λ (p : Bool × ℕ). p.0) (map (made_part (placed readable)) ps)) ≡ true
    → BeginsSo (flat_map (λ (p : List Component). p) (map (λ (p : List Component × ℕ). p.0) (map (made_part (placed spelling)) ps)) ++ tail_spelling tail)
body-begins [] None some h = absurd (false≢true some)
body-begins [] (Some t) some h = begins-colon (state_spelling t.element ++ flat_map state_spelling t.states)
body-begins (p ∷ ps) tail some h =
    let others = map (λ (p : Bool × ℕ). p.0) (map (made_part (placed readable)) ps) in
    let here = simple-begins (simple_of p) (and_parts (is_readable_simple (simple_of p)) (list_all (λ (p : Bool). p) others) h).0 in
    begins-front _ (tail_spelling tail) (begins-front (simple_spelling (simple_of p)) _ here)

kind-begins : (kind : TypeName) (cs : List Component) → is_readable_type kind ≡ true → (has_type kind ≡ false → BeginsSo cs) → BeginsSo (type_spelling kind ++ cs)
kind-begins types.None cs h f = f refl
kind-begins types.Universal cs h f = begins-word kinds.Delim (codes "*") cs (λ rest. refl)
kind-begins (types.Name n) cs h f = begins-word kinds.Ident (name_text n) cs (λ rest. begins-name n rest h)

or-else : (a b : Bool) → (a || b) ≡ true → a ≡ false → b ≡ true
or-else true b h e = absurd (false≢true (sym e))
or-else false b h e = h

compound-begins : (last : Bool) (k : compound.Compound) → is_readable_compound last k ≡ true → BeginsSo (compound_spelling k)
compound-begins last k h =
    let parts = map (λ (p : Bool × ℕ). p.0) (map (made_part (placed readable)) k.parts) in
    let all = list_all (λ (p : Bool). p) parts in
    let p = and_parts (has_type k.kind || (has_some parts || is_some k.tail)) (is_readable_type k.kind && (all && is_readable_tail last k.tail)) (sym (ap (λ (f : Bool → Bool). f last) (folded-Compound (placed readable) k)) ∙ h) in
    let q = and_parts (is_readable_type k.kind) (all && is_readable_tail last k.tail) p.1 in
    let r = and_parts all (is_readable_tail last k.tail) q.1 in
    subst BeginsSo (sym (folded-Compound (placed spelling) k))
    (kind-begins k.kind _ q.0 (λ e. body-begins k.parts k.tail (or-else (has_type k.kind) (has_some parts || is_some k.tail) p.0 e) r.0))

first-readable : (first : Bool → Bool) (ls : List (Combinator × (Bool → Bool))) → are_readable first ls ≡ true → (last : Bool) × (first last ≡ true)
first-readable first [] h = (true, h)
first-readable first (l ∷ ls) h = (false, (and_parts (first false) (are_readable l.1 ls) h).0)

lead-none : (lead : Option Combinator) → is_readable_lead false lead ≡ true → lead ≡ None
lead-none None h = refl
lead-none (Some combinators.Descendant) h = absurd (false≢true h)
lead-none (Some combinators.Child) h = absurd (false≢true h)
lead-none (Some combinators.Next) h = absurd (false≢true h)
lead-none (Some combinators.Later) h = absurd (false≢true h)

selector-begins : (s : Selector) → is_readable_selector false s ≡ true → BeginsSo (selector_spelling s)
selector-begins s h =
    let links = map (made_link (placed readable)) s.rest in
    let p = and_parts (is_readable_lead false s.lead) (are_readable (bare_compound readable s.first) links) (sym (ap (λ (f : Bool → Bool). f false) (folded-Selector (placed readable) s)) ∙ h) in
    let first = first-readable (bare_compound readable s.first) links p.1 in
    let behind = compound_spelling s.first ++ links_spelling (ends_in_dashes (text_of (compound_spelling s.first))) (map (made_link (placed spelling)) s.rest) in
    subst BeginsSo (sym (folded-Selector (placed spelling) s ∙ ap (λ (lead : Option Combinator). lead_spelling lead ++ behind) (lead-none s.lead p.0)))
    (begins-front (compound_spelling s.first) _ (compound-begins first.0 s.first first.1))

list-begins : (ss : List Selector) → is_readable_list false ss ≡ true → BeginsSo (list_spelling ss)
list-begins [] h = absurd (false≢true h)
list-begins (s ∷ ss) h =
    begins-front (selector_spelling s) (more_spelling (map selector_spelling ss)) (selector-begins s (and_parts (is_readable_selector false s) (list_all (is_readable_selector false) ss) h).0)

pub list-unmarked : (ss : List Selector) (rest : List ℕ) → is_readable_list false ss ≡ true → mark_length (list_text ss ++ rest) ≡ 0
list-unmarked ss rest h = list-begins ss h rest
