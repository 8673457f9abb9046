-- Selectors without `&` and `:is`: nothing in their spelling waits for a later stage.
use Rattle.std.proofs.Common.{◌≡◌, ℕ, List, [], ◌∷◌, ◌++◌, map, flat_map, Bool, true, false, ◌&&◌, not, cond, Option, Some, None, refl, sym, ◌∙◌, ap, codes, nat_eq}
use Rattle.std.specs.List.{list_all, AllByRecursion}
use Rattle.std.specs.Option.{option_and_then, option_map_or}
use Rattle.std.proofs.lemmas.Bool.{eqb-true}
use Rattle.css_tokens.specs.declared.kind.Kind.{Kind}
use Rattle.css_tokens.specs.declared.kind.Kind.TheVariants as kinds
use Rattle.css_tokens.specs.declared.component.Component.{Component}
use Rattle.css_tokens.specs.Piece.{Piece}
use Rattle.css_tokens.specs.StringText.{string_text}
use Rattle.css_tokens.specs.Trees.{closing, is_text, pieces_all, pieces_of}
use Rattle.css_tokens.specs.Numbers.{begins_digit}
use Rattle.selector_types.specs.declared.selector.Attribute.{Attribute}
use Rattle.selector_types.specs.declared.selector.Combinator.{Combinator}
use Rattle.selector_types.specs.declared.selector.Combinator.TheVariants as combinators
use Rattle.selector_types.specs.declared.selector.Test.{Test}
use Rattle.selector_types.specs.declared.selector.Test.TheVariants as tests
use Rattle.selector_types.specs.declared.selector.TypeName.{TypeName}
use Rattle.selector_types.specs.declared.selector.TypeName.TheVariants as types
use Rattle.selector_types.specs.declared.selector.Compound as compound
use Rattle.selector_types.specs.declared.selector.Link as link
use Rattle.selector_types.specs.declared.selector.Part as part
use Rattle.selector_types.specs.declared.selector.Selector.{Selector}
use Rattle.selector_types.specs.declared.selector.Simple.{Simple}
use Rattle.selector_types.specs.declared.selector.Tail.{Tail}
use Rattle.selector_types.specs.BareFold.{BareSteps, placed, bare_simple, bare_compound, bare_selector}
use Rattle.selector_types.specs.SelectorFold.{made_part, made_link, simple_of, compound_of, combinator_of, folded-Class, folded-Id, folded-Attribute, folded-Pseudo, folded-Not, folded-Is, folded-Where, folded-Parent, folded-Local, folded-Global, folded-Foreign, folded-Compound, folded-Selector}
use Rattle.selector_types.specs.SelectorInduction.{Cases, by_selectors}
use Rattle.selector_types.specs.Spelling.{single, block, ident, delim, colon, text_of, argument_spelling, attribute_spelling, back_spelling, before_close, before_plus, behind, call, combinator_spelling, commas_between, compound_spelling, ends_in_dashes, from_plus, front_spelling, lead_spelling, links_spelling, list_spelling, more_spelling, pseudo_from, selector_spelling, simple_spelling, spelling, state_spelling, step_spelling, tail_spelling, test_spelling, text_functions, type_spelling, unsigned, value_spelling, word_kind}
use Rattle.css_rules.specs.declared.waiting.Seen.{Seen}
use Rattle.css_rules.specs.declared.waiting.Seen.TheVariants as seen
use Rattle.css_rules.specs.Private.Waiting.{begun, place_seen, seen_at, seen_over}
use Rattle.css_rules.specs.Refusals.{has_waiting, is_is}
use Rattle.css_rules.proofs.BoolLemmas.{and-left, and-right}
use Rattle.css_rules.proofs.CutLemmas.{not-true}
use Rattle.css_rules.proofs.WaitingLemmas.{none-waiting, over-Block, over-Single, over-both, over-cons}

-- does neither `&` nor `:is` stand in it, at any depth?
abbrev pub calm : BareSteps Bool Bool Bool
calm = record {
  class = λ name. true;
  id = λ name. true;
  attribute = λ a. true;
  pseudo = λ text. true;
  not_of = λ ss. list_all (λ s. s) ss;
  is_of = λ ss. false;
  where_of = λ ss. list_all (λ s. s) ss;
  parent = false;
  local = λ k. k;
  global = λ k. k;
  foreign = true;
  compound = λ kind parts tail. list_all (λ p. p) parts;
  selector = λ lead first rest. first && list_all (λ l. l.1) rest;
}

abbrev pub IsCalmSimple : Simple → Type 0
IsCalmSimple x = bare_simple calm x ≡ true

abbrev pub IsCalmCompound : compound.Compound → Type 0
IsCalmCompound k = bare_compound calm k ≡ true

abbrev pub IsCalm : Selector → Type 0
IsCalm s = bare_selector calm s ≡ true

-- Components over which nothing that waits is seen, and at whose end no colon stands.

abbrev IsQuiet : List Component → Type 0
IsQuiet cs = seen_over seen.Nothing (pieces_all cs) ≡ seen.Nothing

both : (xs ys : List Component) → IsQuiet xs → IsQuiet ys → IsQuiet (xs ++ ys)
both xs ys h k = over-both seen.Nothing xs ys ∙ ap (λ s. seen_over s (pieces_all ys)) h ∙ k

-- a token at which nothing is seen
one : (k : Kind) (text : List ℕ) (cs : List Component) → begun (record { kind = k; text = text; at = 0 }) ≡ seen.Nothing → IsQuiet cs → IsQuiet (single k text ∷ cs)
one k text cs e h =
    over-cons seen.Nothing (single k text) cs
    ∙ ap (λ s. seen_over s (pieces_all cs)) (over-Single seen.Nothing (record { kind = k; text = text; at = 0 }) ∙ e)
    ∙ h

-- the same behind a colon
colon-one : (k : Kind) (text : List ℕ) (cs : List Component) → seen_at (seen.Colon 0) (record { kind = k; text = text; at = 0 }) ≡ seen.Nothing → IsQuiet cs → IsQuiet (colon ∷ single k text ∷ cs)
colon-one k text cs e h =
    over-cons seen.Nothing colon (single k text ∷ cs)
    ∙ ap (λ s. seen_over s (pieces_all (single k text ∷ cs))) (over-Single seen.Nothing (record { kind = kinds.Colon; text = codes ":"; at = 0 }))
    ∙ over-cons (seen.Colon 0) (single k text) cs
    ∙ ap (λ s. seen_over s (pieces_all cs)) (over-Single (seen.Colon 0) (record { kind = k; text = text; at = 0 }) ∙ e)
    ∙ h

-- a block
inner : (s : Seen) (k : Kind) (text : List ℕ) (items : List Component) → seen_at s (record { kind = k; text = text; at = 0 }) ≡ seen.Nothing → IsQuiet items → seen_over s (pieces_of (block k text items)) ≡ seen.Nothing
inner s k text items e h =
    let opening : Piece = record { kind = k; text = text; at = 0 } in
    over-Block s (record { opening = opening; items = items; close = 0 })
    ∙ ap (λ (t : Seen). seen_at t (closing opening 0)) (ap (λ t. seen_over t (pieces_all items)) e ∙ h)

block-one : (k : Kind) (text : List ℕ) (items : List Component) → begun (record { kind = k; text = text; at = 0 }) ≡ seen.Nothing → IsQuiet items → IsQuiet (block k text items ∷ [])
block-one k text items e h = over-cons seen.Nothing (block k text items) [] ∙ inner seen.Nothing k text items e h

-- a Function behind a colon, which is not `is`
call-one : (name : List ℕ) (argument : List Component) → is_is kinds.Function name ≡ false → IsQuiet argument → IsQuiet (call name argument)
call-one name argument e h =
    let opening : Piece = record { kind = kinds.Function; text = name; at = 0 } in
    over-cons seen.Nothing colon (block kinds.Function name argument ∷ [])
    ∙ ap (λ s. seen_over s (pieces_all (block kinds.Function name argument ∷ []))) (over-Single seen.Nothing (record { kind = kinds.Colon; text = codes ":"; at = 0 }))
    ∙ over-cons (seen.Colon 0) (block kinds.Function name argument) []
    ∙ inner (seen.Colon 0) kinds.Function name argument (ap (λ b. cond b (seen.Waiting 0) seen.Nothing) e) h

-- What stands in `[]` and in functions of a text.

value-quiet : (value : List ℕ) → IsQuiet (value_spelling value)
value-quiet value = one kinds.Delim (codes "=") (single kinds.String (string_text value) ∷ []) refl (one kinds.String (string_text value) [] refl refl)

test-quiet : (test : Test) (value : List ℕ) → IsQuiet (test_spelling test value)
test-quiet tests.Has value = refl
test-quiet tests.Equals value = value-quiet value
test-quiet tests.Word value = one kinds.Delim (codes "~") (value_spelling value) refl (value-quiet value)
test-quiet tests.Dash value = one kinds.Delim (codes "|") (value_spelling value) refl (value-quiet value)
test-quiet tests.Prefix value = one kinds.Delim (codes "^") (value_spelling value) refl (value-quiet value)
test-quiet tests.Suffix value = one kinds.Delim (codes "$") (value_spelling value) refl (value-quiet value)
test-quiet tests.Contains value = one kinds.Delim (codes "*") (value_spelling value) refl (value-quiet value)

attribute-quiet : (a : Attribute) → IsQuiet (attribute_spelling a ∷ [])
attribute-quiet a = block-one kinds.Open (codes "[") (ident a.name ∷ test_spelling a.test a.value) refl (one kinds.Ident _ (test_spelling a.test a.value) refl (test-quiet a.test a.value))

word-begun : (b c : Bool) (text : List ℕ) → begun (record { kind = cond b (cond c kinds.Number kinds.Dimension) kinds.Ident; text = text; at = 0 }) ≡ seen.Nothing
word-begun true true text = refl
word-begun true false text = refl
word-begun false c text = refl

front-quiet : (b : ℕ) (text : List ℕ) → IsQuiet (front_spelling b text)
front-quiet b text = at (nat_eq b 43) (begins_digit text) refl
  where
    at : (plus digit : Bool) → nat_eq b 43 ≡ plus → IsQuiet (cond (plus && not digit) (delim (b ∷ []) ∷ single kinds.Ident text ∷ []) (single (word_kind (b ∷ text)) (b ∷ text) ∷ []))
    at true false e = one kinds.Delim (b ∷ []) (single kinds.Ident text ∷ []) (ap (λ (x : ℕ). begun (record { kind = kinds.Delim; text = x ∷ []; at = 0 })) (eqb-true b 43 e)) (one kinds.Ident text [] refl refl)
    at true true e = one (word_kind (b ∷ text)) (b ∷ text) [] (word-begun (begins_digit (unsigned (b ∷ text))) _ (b ∷ text)) refl
    at false digit e = one (word_kind (b ∷ text)) (b ∷ text) [] (word-begun (begins_digit (unsigned (b ∷ text))) _ (b ∷ text)) refl

back-quiet : (text : List ℕ) → IsQuiet (back_spelling text)
back-quiet [] = refl
back-quiet (b ∷ text) = one kinds.Number (b ∷ text) [] refl refl

step-quiet : (text : List ℕ) → IsQuiet (step_spelling text)
step-quiet [] = refl
step-quiet (b ∷ text) = both (front_spelling b (before_plus text)) (back_spelling (from_plus text)) (front-quiet b (before_plus text)) (back-quiet (from_plus text))

argument-quiet : (f text : List ℕ) → IsQuiet (argument_spelling f text)
argument-quiet f text = at (is_text f (codes "lang("))
  where
    at : (b : Bool) → IsQuiet (cond b (single kinds.Ident text ∷ []) (step_spelling text))
    at true = one kinds.Ident text [] refl refl
    at false = step-quiet text

abbrev none_is : List (List ℕ) → Bool
none_is fs = list_all (λ f. not (is_is kinds.Function f)) fs

pseudo-quiet : (fs : List (List ℕ)) (text : List ℕ) → none_is fs ≡ true → IsQuiet (colon ∷ pseudo_from fs text ∷ [])
pseudo-quiet [] text h = colon-one kinds.Ident text [] refl refl
pseudo-quiet (f ∷ fs) text h = at (option_and_then before_close (behind f text)) (pseudo-quiet fs text (and-right (not (is_is kinds.Function f)) (none_is fs) h))
  where
    at : (o : Option (List ℕ)) → IsQuiet (colon ∷ pseudo_from fs text ∷ []) → IsQuiet (colon ∷ option_map_or (λ argument. block kinds.Function f (argument_spelling f argument)) o (pseudo_from fs text) ∷ [])
    at None more = more
    at (Some argument) more = call-one f (argument_spelling f argument) (not-true (is_is kinds.Function f) (and-left (not (is_is kinds.Function f)) (none_is fs) h)) (argument-quiet f argument)

-- Compounds.

states-quiet : (states : List (List ℕ)) → IsQuiet (flat_map state_spelling states)
states-quiet [] = refl
states-quiet (s ∷ states) = colon-one kinds.Ident s (flat_map state_spelling states) refl (states-quiet states)

tail-quiet : (tail : Option Tail) → IsQuiet (tail_spelling tail)
tail-quiet None = refl
tail-quiet (Some t) =
    let rest = single kinds.Ident t.element ∷ flat_map state_spelling t.states in
    over-cons seen.Nothing colon (colon ∷ rest)
    ∙ ap (λ s. seen_over s (pieces_all (colon ∷ rest))) (over-Single seen.Nothing (record { kind = kinds.Colon; text = codes ":"; at = 0 }))
    ∙ over-cons (seen.Colon 0) colon rest
    ∙ ap (λ s. seen_over s (pieces_all rest)) (over-Single (seen.Colon 0) (record { kind = kinds.Colon; text = codes ":"; at = 0 }))
    ∙ over-cons (seen.Colon 0) (single kinds.Ident t.element) (flat_map state_spelling t.states)
    ∙ ap (λ s. seen_over s (pieces_all (flat_map state_spelling t.states))) (over-Single (seen.Colon 0) (record { kind = kinds.Ident; text = t.element; at = 0 }))
    ∙ states-quiet t.states

type-quiet : (kind : TypeName) → IsQuiet (type_spelling kind)
type-quiet types.None = refl
type-quiet types.Universal = one kinds.Delim (codes "*") [] refl refl
type-quiet (types.Name n) = one kinds.Ident _ [] refl refl

combinator-quiet : (dashes : Bool) (c : Combinator) → IsQuiet (combinator_spelling dashes c)
combinator-quiet dashes combinators.Descendant = one kinds.White (codes " ") [] refl refl
combinator-quiet true combinators.Child = one kinds.White (codes " ") (delim (codes ">") ∷ []) refl (one kinds.Delim (codes ">") [] refl refl)
combinator-quiet false combinators.Child = one kinds.Delim (codes ">") [] refl refl
combinator-quiet dashes combinators.Next = one kinds.Delim (codes "+") [] refl refl
combinator-quiet dashes combinators.Later = one kinds.Delim (codes "~") [] refl refl

lead-quiet : (lead : Option Combinator) → IsQuiet (lead_spelling lead)
lead-quiet None = refl
lead-quiet (Some c) = combinator-quiet false c

-- Selectors.

abbrev QuietSimple : Simple → Type 0
QuietSimple x = IsCalmSimple x → IsQuiet (simple_spelling x)

abbrev QuietCompound : compound.Compound → Type 0
QuietCompound k = IsCalmCompound k → IsQuiet (compound_spelling k)

abbrev QuietSelector : Selector → Type 0
QuietSelector s = IsCalm s → IsQuiet (selector_spelling s)

abbrev pub all_true : List Bool → Bool
all_true bs = list_all (λ b. b) bs

parts-quiet : (ps : List part.Part) → AllByRecursion (λ p. QuietSimple (simple_of p)) ps → all_true (map (λ (p : Bool × ℕ). p.0) (map (made_part (placed calm)) ps)) ≡ true
    → IsQuiet (flat_map (λ (p : List Component). p) (map (λ (p : List Component × ℕ). p.0) (map (made_part (placed spelling)) ps)))
parts-quiet [] each h = refl
parts-quiet (p ∷ ps) each h =
    let rest = all_true (map (λ (p : Bool × ℕ). p.0) (map (made_part (placed calm)) ps)) in
    both (simple_spelling (simple_of p)) _ (each.0 (and-left (bare_simple calm (simple_of p)) rest h)) (parts-quiet ps each.1 (and-right (bare_simple calm (simple_of p)) rest h))

abbrev pub all_links : List (Combinator × Bool) → Bool
all_links ls = list_all (λ l. l.1) ls

links-quiet : (dashes : Bool) (ls : List link.Link) → AllByRecursion (λ l. QuietCompound (compound_of l)) ls → all_links (map (made_link (placed calm)) ls) ≡ true
    → IsQuiet (links_spelling dashes (map (made_link (placed spelling)) ls))
links-quiet dashes [] each h = refl
links-quiet dashes (l ∷ ls) each h =
    let here = compound_spelling (compound_of l) in
    let dashes' = ends_in_dashes (text_of here) in
    let rest = all_links (map (made_link (placed calm)) ls) in
    both (combinator_spelling dashes (combinator_of l)) (here ++ links_spelling dashes' (map (made_link (placed spelling)) ls)) (combinator-quiet dashes (combinator_of l))
    (both here (links_spelling dashes' (map (made_link (placed spelling)) ls)) (each.0 (and-left (bare_compound calm (compound_of l)) rest h)) (links-quiet dashes' ls each.1 (and-right (bare_compound calm (compound_of l)) rest h)))

abbrev pub all_calm : List Selector → Bool
all_calm ss = all_true (map (bare_selector calm) ss)

more-quiet : (ss : List Selector) → AllByRecursion QuietSelector ss → all_calm ss ≡ true → IsQuiet (more_spelling (map selector_spelling ss))
more-quiet [] each h = refl
more-quiet (s ∷ ss) each h =
    one kinds.Comma (codes ",") (selector_spelling s ++ more_spelling (map selector_spelling ss)) refl
    (both (selector_spelling s) (more_spelling (map selector_spelling ss)) (each.0 (and-left (bare_selector calm s) (all_calm ss) h)) (more-quiet ss each.1 (and-right (bare_selector calm s) (all_calm ss) h)))

between-quiet : (ss : List Selector) → AllByRecursion QuietSelector ss → all_calm ss ≡ true → IsQuiet (commas_between (map selector_spelling ss))
between-quiet [] each h = refl
between-quiet (s ∷ ss) each h =
    both (selector_spelling s) (more_spelling (map selector_spelling ss)) (each.0 (and-left (bare_selector calm s) (all_calm ss) h)) (more-quiet ss each.1 (and-right (bare_selector calm s) (all_calm ss) h))

abbrev quiet_over : List Component → Seen
quiet_over cs = seen_over seen.Nothing (pieces_all cs)

cases : Cases QuietSimple QuietCompound QuietSelector
cases = record {
  class = λ n h. ap quiet_over (folded-Class (placed spelling) n) ∙ one kinds.Delim (codes ".") (ident n ∷ []) refl (one kinds.Ident _ [] refl refl);
  id = λ n h. ap quiet_over (folded-Id (placed spelling) n) ∙ one kinds.Hash _ [] refl refl;
  attribute = λ a h. ap quiet_over (folded-Attribute (placed spelling) a) ∙ attribute-quiet a;
  pseudo = λ t h. ap quiet_over (folded-Pseudo (placed spelling) t) ∙ pseudo-quiet text_functions t refl;
  not_of = λ ss each h. ap quiet_over (folded-Not (placed spelling) ss) ∙ call-one (codes "not(") _ refl (between-quiet ss each (sym (folded-Not (placed calm) ss) ∙ h));
  is_of = λ ss each h. (let clash = sym (folded-Is (placed calm) ss) ∙ h in absurd (cc clash));
  where_of = λ ss each h. ap quiet_over (folded-Where (placed spelling) ss) ∙ call-one (codes "where(") _ refl (between-quiet ss each (sym (folded-Where (placed calm) ss) ∙ h));
  parent = λ h. (let clash = sym (folded-Parent (placed calm)) ∙ h in absurd (cc clash));
  local = λ k quiet h. ap quiet_over (folded-Local (placed spelling) k) ∙ call-one (codes "local(") _ refl (quiet (sym (folded-Local (placed calm) k) ∙ h));
  global = λ k quiet h. ap quiet_over (folded-Global (placed spelling) k) ∙ call-one (codes "global(") _ refl (quiet (sym (folded-Global (placed calm) k) ∙ h));
  foreign = λ h. ap quiet_over (folded-Foreign (placed spelling));
  compound = λ k each h.
      ap quiet_over (folded-Compound (placed spelling) k)
      ∙ both (type_spelling k.kind) _ (type-quiet k.kind) (both _ (tail_spelling k.tail) (parts-quiet k.parts each (sym (folded-Compound (placed calm) k) ∙ h)) (tail-quiet k.tail));
  selector = λ s first each h.
      let parts = sym (folded-Selector (placed calm) s) ∙ h in
      let rest = all_links (map (made_link (placed calm)) s.rest) in
      ap quiet_over (folded-Selector (placed spelling) s)
      ∙ both (lead_spelling s.lead) _ (lead-quiet s.lead)
      (both (compound_spelling s.first) _ (first (and-left (bare_compound calm s.first) rest parts)) (links-quiet (ends_in_dashes (text_of (compound_spelling s.first))) s.rest each (and-right (bare_compound calm s.first) rest parts)));
}

selector-quiet : (s : Selector) → QuietSelector s
selector-quiet s = by_selectors QuietSimple QuietCompound QuietSelector cases s

every : (ss : List Selector) → AllByRecursion QuietSelector ss
every [] = tt
every (s ∷ ss) = (selector-quiet s, every ss)

-- nothing in the spelling of such a list waits
pub list-quiet : (ss : List Selector) → all_calm ss ≡ true → has_waiting (list_spelling ss) ≡ false
list-quiet ss h = none-waiting (list_spelling ss) (ap place_seen (between-quiet ss (every ss) h))
