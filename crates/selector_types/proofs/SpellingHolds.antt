-- What holds of every spelling, since it holds of tokens, of blocks, and of what is made of them.
use Rattle.std.proofs.Common.{◌≡◌, ℕ, List, [], ◌∷◌, ◌++◌, map, Bool, true, false, not, ◌&&◌, refl, sym, ap, ap₂, ◌∙◌, subst, nat_eq}
use Rattle.std.specs.Prelude.{codes, Option, Some, None, flat_map, if◌then◌else◌}
use Rattle.std.specs.Char.{is_ascii_digit}
use Rattle.std.specs.List.{AllByRecursion, list_all}
use Rattle.std.specs.Option.{option_and_then, option_map_or}
use Rattle.std.proofs.lemmas.Bool.{and_parts, not-true}
use Rattle.std.proofs.lemmas.List.{map-append}
use Rattle.std.proofs.lemmas.List.Folds.{list_all-append}
use Rattle.css_tokens.specs.declared.kind.Kind.{Kind}
use Rattle.css_tokens.specs.declared.kind.Kind.TheVariants as kinds
use Rattle.css_tokens.specs.declared.component.Component.{Component}
use Rattle.css_tokens.specs.NameText.{name_text}
use Rattle.css_tokens.specs.StringText.{string_text}
use Rattle.css_tokens.specs.Trees.{is_text, opens, closes, is_formed, all_formed, is_formed-Single, is_formed-Block}
use Rattle.css_tokens.specs.Numbers.{begins_digit}
use Rattle.selector_types.specs.declared.selector.Combinator.{Combinator}
use Rattle.selector_types.specs.declared.selector.Combinator.TheVariants as combinators
use Rattle.selector_types.specs.declared.selector.Attribute as attribute
use Rattle.selector_types.specs.declared.selector.Tail as tail
use Rattle.selector_types.specs.declared.selector.Test.{Test}
use Rattle.selector_types.specs.declared.selector.Test.TheVariants as tests
use Rattle.selector_types.specs.declared.selector.TypeName.{TypeName}
use Rattle.selector_types.specs.declared.selector.TypeName.TheVariants as types
use Rattle.selector_types.specs.declared.selector.Compound as compound
use Rattle.selector_types.specs.declared.selector.Link as link
use Rattle.selector_types.specs.declared.selector.Part as part
use Rattle.selector_types.specs.declared.selector.Selector as selector
use Rattle.selector_types.specs.declared.selector.Simple.{Simple}
use Rattle.selector_types.specs.BareFold.{placed}
use Rattle.selector_types.specs.SelectorFold.{made_part, made_link, simple_of, compound_of, combinator_of, folded-Class, folded-Id, folded-Attribute, folded-Pseudo, folded-Not, folded-Is, folded-Where, folded-Parent, folded-Local, folded-Global, folded-Foreign, folded-Compound, folded-Selector}
use Rattle.selector_types.specs.Preludes.{is_prelude_kind}
use Rattle.selector_types.specs.SelectorInduction.{by_compounds, by_selectors, by_lists, Cases}
use Rattle.selector_types.specs.Spelling.{single, block, ident, delim, colon, type_spelling, value_spelling, test_spelling, attribute_spelling, behind, before_close, text_functions, before_plus, from_plus, unsigned, word_kind, front_spelling, back_spelling, step_spelling, argument_spelling, pseudo_from, pseudo_spelling, state_spelling, tail_spelling, call, ends_in_dashes, text_of, combinator_spelling, links_spelling, lead_spelling, more_spelling, spelling, simple_spelling, compound_spelling, selector_spelling, list_spelling}
use Rattle.selector_types.proofs.TreePlaces.{bare, bare-Single, bare-Block}

-- is it no `{`?
abbrev is_no_brace : List ℕ → Bool
is_no_brace text = not (is_text text (codes "{"))

-- It holds of tokens that neither open nor close, semicolons and at-keywords aside, of blocks other than `{}` where it holds of
-- what stands in them, and of lists one after another.
pub record Holds (T : List Component → Type 0) : Type 0 where
  pub none : T []
  pub both : (xs ys : List Component) → T xs → T ys → T (xs ++ ys)
  pub token : (k : Kind) (text : List ℕ) → opens k ≡ false → closes k ≡ false → is_prelude_kind k ≡ true → T (single k text ∷ [])
  pub around : (k : Kind) (text : List ℕ) (items : List Component) → opens k ≡ true → is_text text (codes "{") ≡ false → T items → T (block k text items ∷ [])

module _ (T : List Component → Type 0) (holds : Holds T) where
  one : (k : Kind) (text : List ℕ) (cs : List Component) → opens k ≡ false → closes k ≡ false → is_prelude_kind k ≡ true → T cs → T (single k text ∷ cs)
  one k text cs o c p h = holds.both (single k text ∷ []) cs (holds.token k text o c p) h

  of-ident : (text : List ℕ) (cs : List Component) → T cs → T (single kinds.Ident text ∷ cs)
  of-ident text cs h = one kinds.Ident text cs refl refl refl h

  of-delim : (text : List ℕ) (cs : List Component) → T cs → T (delim text ∷ cs)
  of-delim text cs h = one kinds.Delim text cs refl refl refl h

  of-colon : (cs : List Component) → T cs → T (colon ∷ cs)
  of-colon cs h = one kinds.Colon (codes ":") cs refl refl refl h

  of-type : (kind : TypeName) → T (type_spelling kind)
  of-type types.None = holds.none
  of-type types.Universal = of-delim (codes "*") [] holds.none
  of-type (types.Name name) = of-ident (name_text name) [] holds.none

  of-value : (value : List ℕ) → T (value_spelling value)
  of-value value = of-delim (codes "=") (single kinds.String (string_text value) ∷ []) (one kinds.String (string_text value) [] refl refl refl holds.none)

  of-test : (test : Test) (value : List ℕ) → T (test_spelling test value)
  of-test tests.Has value = holds.none
  of-test tests.Equals value = of-value value
  of-test tests.Word value = of-delim (codes "~") (value_spelling value) (of-value value)
  of-test tests.Dash value = of-delim (codes "|") (value_spelling value) (of-value value)
  of-test tests.Prefix value = of-delim (codes "^") (value_spelling value) (of-value value)
  of-test tests.Suffix value = of-delim (codes "$") (value_spelling value) (of-value value)
  of-test tests.Contains value = of-delim (codes "*") (value_spelling value) (of-value value)

  of-attribute : (a : attribute.Attribute) → T (attribute_spelling a ∷ [])
  of-attribute a = holds.around kinds.Open (codes "[") (ident a.name ∷ test_spelling a.test a.value) refl refl (of-ident (name_text a.name) (test_spelling a.test a.value) (of-test a.test a.value))

  of-word : (text : List ℕ) (digit whole : Bool) → T (single (if digit then (if whole then kinds.Number else kinds.Dimension) else kinds.Ident) text ∷ [])
  of-word text true true = one kinds.Number text [] refl refl refl holds.none
  of-word text true false = one kinds.Dimension text [] refl refl refl holds.none
  of-word text false whole = of-ident text [] holds.none

  front-at : (b : ℕ) (text : List ℕ) (plus : Bool) → T (if plus then delim (b ∷ []) ∷ single kinds.Ident text ∷ [] else single (word_kind (b ∷ text)) (b ∷ text) ∷ [])
  front-at b text true = of-delim (b ∷ []) (single kinds.Ident text ∷ []) (of-ident text [] holds.none)
  front-at b text false = of-word (b ∷ text) (begins_digit (unsigned (b ∷ text))) (list_all is_ascii_digit (unsigned (b ∷ text)))

  of-back : (text : List ℕ) → T (back_spelling text)
  of-back [] = holds.none
  of-back (b ∷ text) = one kinds.Number (b ∷ text) [] refl refl refl holds.none

  of-step : (text : List ℕ) → T (step_spelling text)
  of-step [] = holds.none
  of-step (b ∷ text) = holds.both (front_spelling b (before_plus text)) (back_spelling (from_plus text)) (front-at b (before_plus text) (nat_eq b 43 && not (begins_digit (before_plus text)))) (of-back (from_plus text))

  argument-at : (text : List ℕ) (lang : Bool) → T (if lang then single kinds.Ident text ∷ [] else step_spelling text)
  argument-at text true = of-ident text [] holds.none
  argument-at text false = of-step text

  pseudo-at : (f : List ℕ) (o : Option (List ℕ)) (other : Component) → is_text f (codes "{") ≡ false → T (other ∷ []) → T (option_map_or (λ argument. block kinds.Function f (argument_spelling f argument)) o other ∷ [])
  pseudo-at f None other n h = h
  pseudo-at f (Some text) other n h = holds.around kinds.Function f (argument_spelling f text) refl n (argument-at text (is_text f (codes "lang(")))

  of-pseudo : (fs : List (List ℕ)) (text : List ℕ) → list_all is_no_brace fs ≡ true → T (pseudo_from fs text ∷ [])
  of-pseudo [] text n = of-ident text [] holds.none
  of-pseudo (f ∷ fs) text n =
      let p = and_parts (is_no_brace f) (list_all is_no_brace fs) n in
      pseudo-at f (option_and_then before_close (behind f text)) (pseudo_from fs text) (not-true (is_text f (codes "{")) p.0) (of-pseudo fs text p.1)

  of-states : (ss : List (List ℕ)) → T (flat_map state_spelling ss)
  of-states [] = holds.none
  of-states (s ∷ ss) = of-colon (single kinds.Ident s ∷ flat_map state_spelling ss) (of-ident s (flat_map state_spelling ss) (of-states ss))

  of-tail : (t : Option tail.Tail) → T (tail_spelling t)
  of-tail None = holds.none
  of-tail (Some t) = of-colon (state_spelling t.element ++ flat_map state_spelling t.states) (of-states (t.element ∷ t.states))

  of-call : (name : List ℕ) (argument : List Component) → is_text name (codes "{") ≡ false → T argument → T (call name argument)
  of-call name argument n h = of-colon (block kinds.Function name argument ∷ []) (holds.around kinds.Function name argument refl n h)

  of-combinator : (dashes : Bool) (c : Combinator) → T (combinator_spelling dashes c)
  of-combinator dashes combinators.Descendant = one kinds.White (codes " ") [] refl refl refl holds.none
  of-combinator true combinators.Child = one kinds.White (codes " ") (delim (codes ">") ∷ []) refl refl refl (of-delim (codes ">") [] holds.none)
  of-combinator false combinators.Child = of-delim (codes ">") [] holds.none
  of-combinator dashes combinators.Next = of-delim (codes "+") [] holds.none
  of-combinator dashes combinators.Later = of-delim (codes "~") [] holds.none

  of-lead : (lead : Option Combinator) → T (lead_spelling lead)
  of-lead None = holds.none
  of-lead (Some c) = of-combinator false c

  abbrev P : Simple → Type 0
  P x = T (simple_spelling x)

  abbrev Q : compound.Compound → Type 0
  Q k = T (compound_spelling k)

  abbrev R : selector.Selector → Type 0
  R s = T (selector_spelling s)

  of-more : (ss : List selector.Selector) → AllByRecursion R ss → T (more_spelling (map selector_spelling ss))
  of-more [] each = holds.none
  of-more (s ∷ ss) each = one kinds.Comma (codes ",") (selector_spelling s ++ more_spelling (map selector_spelling ss)) refl refl refl (holds.both (selector_spelling s) (more_spelling (map selector_spelling ss)) each.0 (of-more ss each.1))

  of-list : (ss : List selector.Selector) → AllByRecursion R ss → T (list_spelling ss)
  of-list [] each = holds.none
  of-list (s ∷ ss) each = holds.both (selector_spelling s) (more_spelling (map selector_spelling ss)) each.0 (of-more ss each.1)

  abbrev parts_in : List part.Part → List Component
  parts_in ps = flat_map (λ p. p) (map (λ p. p.0) (map (made_part (placed spelling)) ps))

  of-parts : (ps : List part.Part) → AllByRecursion (λ p. P (simple_of p)) ps → T (parts_in ps)
  of-parts [] each = holds.none
  of-parts (p ∷ ps) each = holds.both (simple_spelling (simple_of p)) (parts_in ps) each.0 (of-parts ps each.1)

  abbrev links_in : Bool → List link.Link → List Component
  links_in dashes ls = links_spelling dashes (map (made_link (placed spelling)) ls)

  of-links : (dashes : Bool) (ls : List link.Link) → AllByRecursion (λ l. Q (compound_of l)) ls → T (links_in dashes ls)
  of-links dashes [] each = holds.none
  of-links dashes (l ∷ ls) each =
      let k = compound_spelling (compound_of l) in
      let d = ends_in_dashes (text_of k) in
      holds.both (combinator_spelling dashes (combinator_of l)) (k ++ links_in d ls) (of-combinator dashes (combinator_of l))
      (holds.both k (links_in d ls) each.0 (of-links d ls each.1))

  cases : Cases P Q R
  cases = record {
    class = λ n. subst T (sym (folded-Class (placed spelling) n)) (of-delim (codes ".") (ident n ∷ []) (of-ident (name_text n) [] holds.none));
    id = λ n. subst T (sym (folded-Id (placed spelling) n)) (one kinds.Hash (codes "#" ++ name_text n) [] refl refl refl holds.none);
    attribute = λ a. subst T (sym (folded-Attribute (placed spelling) a)) (of-attribute a);
    pseudo = λ text. subst T (sym (folded-Pseudo (placed spelling) text)) (of-colon (pseudo_spelling text ∷ []) (of-pseudo text_functions text refl));
    not_of = λ ss each. subst T (sym (folded-Not (placed spelling) ss)) (of-call (codes "not(") (list_spelling ss) refl (of-list ss each));
    is_of = λ ss each. subst T (sym (folded-Is (placed spelling) ss)) (of-call (codes "is(") (list_spelling ss) refl (of-list ss each));
    where_of = λ ss each. subst T (sym (folded-Where (placed spelling) ss)) (of-call (codes "where(") (list_spelling ss) refl (of-list ss each));
    parent = subst T (sym (folded-Parent (placed spelling))) (of-delim (codes "&") [] holds.none);
    local = λ k h. subst T (sym (folded-Local (placed spelling) k)) (of-call (codes "local(") (compound_spelling k) refl h);
    global = λ k h. subst T (sym (folded-Global (placed spelling) k)) (of-call (codes "global(") (compound_spelling k) refl h);
    foreign = subst T (sym (folded-Foreign (placed spelling))) holds.none;
    compound = λ k each. subst T (sym (folded-Compound (placed spelling) k)) (holds.both (type_spelling k.kind) (parts_in k.parts ++ tail_spelling k.tail) (of-type k.kind) (holds.both (parts_in k.parts) (tail_spelling k.tail) (of-parts k.parts each) (of-tail k.tail)));
    selector = λ s first each.
        let d = ends_in_dashes (text_of (compound_spelling s.first)) in
        subst T (sym (folded-Selector (placed spelling) s))
        (holds.both (lead_spelling s.lead) (compound_spelling s.first ++ links_in d s.rest) (of-lead s.lead)
        (holds.both (compound_spelling s.first) (links_in d s.rest) first (of-links d s.rest each)));
  }

  -- so it holds of the spelling of a list
  pub every-spelling : (ss : List selector.Selector) → T (list_spelling ss)
  every-spelling ss = of-list ss (by_lists P Q R cases ss)

  pub every-selector : (s : selector.Selector) → T (selector_spelling s)
  every-selector s = by_selectors P Q R cases s

  pub every-compound : (k : compound.Compound) → T (compound_spelling k)
  every-compound k = by_compounds P Q R cases k

-- It is well formed.

abbrev Formed : List Component → Type 0
Formed cs = all_formed cs ≡ true

formed-single : (k : Kind) (text : List ℕ) → opens k ≡ false → closes k ≡ false → Formed (single k text ∷ [])
formed-single k text o c =
    ap (λ b. b && true) (is_formed-Single (record { kind = k; text = text; at = 0 }))
    ∙ ap₂ (λ (x y : Bool). (not x && not y) && true) o c

formed-around : (k : Kind) (text : List ℕ) (items : List Component) → opens k ≡ true → Formed items → Formed (block k text items ∷ [])
formed-around k text items o h =
    ap (λ b. b && true) (is_formed-Block (record { opening = record { kind = k; text = text; at = 0 }; items = items; close = 0 }))
    ∙ ap₂ (λ (x y : Bool). (x && y) && true) o h

pub list-formed : (ss : List selector.Selector) → all_formed (list_spelling ss) ≡ true
list-formed = every-spelling Formed (record {
  none = refl;
  both = λ xs ys h k. list_all-append is_formed xs ys ∙ ap₂ (λ (x y : Bool). x && y) h k;
  token = λ k text o c p. formed-single k text o c;
  around = λ k text items o n h. formed-around k text items o h;
})

-- Each of its places is 0.

abbrev IsBare : List Component → Type 0
IsBare cs = map bare cs ≡ cs

bare-around : (k : Kind) (text : List ℕ) (items : List Component) → opens k ≡ true → IsBare items → IsBare (block k text items ∷ [])
bare-around k text items o h =
    ap (λ (c : Component). c ∷ []) (bare-Block (record { opening = record { kind = k; text = text; at = 0 }; items = items; close = 0 }))
    ∙ ap (λ (cs : List Component). block k text cs ∷ []) h

all-bare : Holds IsBare
all-bare = record {
  none = refl;
  both = λ xs ys h k. map-append bare xs ys ∙ ap₂ (λ (us vs : List Component). us ++ vs) h k;
  token = λ k text o c p. ap (λ (d : Component). d ∷ []) (bare-Single (record { kind = k; text = text; at = 0 }));
  around = λ k text items o n h. bare-around k text items o h;
}

pub list-bare : (ss : List selector.Selector) → map bare (list_spelling ss) ≡ list_spelling ss
list-bare = every-spelling IsBare all-bare

pub selector-bare : (s : selector.Selector) → map bare (selector_spelling s) ≡ selector_spelling s
selector-bare = every-selector IsBare all-bare

pub compound-bare : (k : compound.Compound) → map bare (compound_spelling k) ≡ compound_spelling k
compound-bare = every-compound IsBare all-bare
