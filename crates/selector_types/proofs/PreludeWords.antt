-- What the words of a selector list are where it stands before a block.
use Rattle.std.proofs.Common.{◌≡◌, ℕ, List, [], ◌∷◌, ◌++◌, map, Bool, true, false, not, ◌&&◌, ◌||◌, ◌⊎◌, inl, inr, refl, sym, ap, ap₂, ◌∙◌, subst, codes}
use Rattle.std.specs.Prelude.{Option, Some, None, flat_map, is_some}
use Rattle.std.specs.List.{AllByRecursion, list_all}
use Rattle.std.specs.Option.{option_and_then, option_map_or}
use Rattle.std.proofs.lemmas.Bool.{and_parts, false≢true}
use Rattle.std.proofs.lemmas.List.{append-nil}
use Rattle.std.proofs.lemmas.List.Folds.{list_all-append}
use Rattle.css_tokens.specs.declared.component.Component.{Component}
use Rattle.css_tokens.specs.declared.kind.Kind.{Kind}
use Rattle.css_tokens.specs.declared.kind.Kind.TheVariants as kinds
use Rattle.css_tokens.specs.Again.{begins_none, word_from}
use Rattle.css_tokens.specs.Characters.{white}
use Rattle.css_tokens.specs.NameText.{name_text}
use Rattle.css_tokens.specs.Names.{is_name}
use Rattle.css_tokens.specs.Piece.{Word, spelled}
use Rattle.css_tokens.specs.Trees.{closing_text, is_text, opens, words_all}
use Rattle.selector_types.specs.declared.selector.Combinator.{Combinator}
use Rattle.selector_types.specs.declared.selector.Combinator.TheVariants as combinators
use Rattle.selector_types.specs.declared.selector.Compound as compound
use Rattle.selector_types.specs.declared.selector.Link as link
use Rattle.selector_types.specs.declared.selector.Part as part
use Rattle.selector_types.specs.declared.selector.Selector as selector
use Rattle.selector_types.specs.declared.selector.Simple.{Simple}
use Rattle.selector_types.specs.declared.selector.Simple as simple
use Rattle.selector_types.specs.declared.selector.Tail as tail
use Rattle.selector_types.specs.declared.selector.TypeName.{TypeName}
use Rattle.selector_types.specs.declared.selector.TypeName.TheVariants as types
use Rattle.selector_types.specs.BareFold.{placed, bare_compound}
use Rattle.selector_types.specs.Preludes.{begins_solid, ends_solid, is_prelude_kind, is_prelude_word}
use Rattle.selector_types.specs.ReadableSelectors.{are_readable, has_some, has_type, is_readable_compound, is_readable_lead, is_readable_list, is_readable_selector, is_readable_simple, is_readable_tail, is_readable_type, readable}
use Rattle.selector_types.specs.SelectorFold.{made_link, simple_of, compound_of, combinator_of, folded-Class, folded-Id, folded-Attribute, folded-Pseudo, folded-Not, folded-Is, folded-Where, folded-Parent, folded-Local, folded-Global, folded-Foreign, folded-Compound, folded-Selector}
use Rattle.selector_types.specs.SelectorInduction.{by_compounds, Cases}
use Rattle.selector_types.specs.Spelling.{argument_spelling, before_close, behind, block, call, combinator_spelling, compound_spelling, compound_text, ends_in_dashes, ident, lead_spelling, list_spelling, list_text, pseudo_from, pseudo_spelling, selector_spelling, simple_spelling, single, spelling, state_spelling, tail_spelling, test_spelling, text_functions, type_spelling}
use Rattle.selector_types.proofs.PartReads.{colon_word, mark, words-append, words-block, words-single}
use Rattle.selector_types.proofs.SpellingHolds.{every-spelling}
use Rattle.selector_types.proofs.WordReads.{spelled-both}
use Rattle.selector_types.proofs.TextReads.{EachLink, combinator-same, compound-words, links-each, links_in, more_in, parts_in, readable_parts}

-- No word ends or begins a rule.

abbrev Stands : List Component → Type 0
Stands cs = list_all is_prelude_word (words_all cs) ≡ true

stands-append : (xs ys : List Component) → Stands xs → Stands ys → Stands (xs ++ ys)
stands-append xs ys h k = ap (list_all is_prelude_word) (words-append xs ys) ∙ list_all-append is_prelude_word (words_all xs) (words_all ys) ∙ ap₂ ◌&&◌ h k

stands-token : (k : Kind) (text : List ℕ) → opens k ≡ false → is_prelude_kind k ≡ true → Stands (single k text ∷ [])
stands-token k text o p =
    ap (list_all is_prelude_word) (words-single k text [])
    ∙ ap₂ (λ (x y : Bool). (x && not (y && is_text text (codes "{"))) && true) p o

opening-kind : (k : Kind) → opens k ≡ true → is_prelude_kind k ≡ true
opening-kind kinds.Open h = refl
opening-kind kinds.Function h = refl
opening-kind k h = cc

stands-around : (k : Kind) (text : List ℕ) (items : List Component) → opens k ≡ true → is_text text (codes "{") ≡ false → Stands items → Stands (block k text items ∷ [])
stands-around k text items o n h =
    ap (list_all is_prelude_word) (words-block k text items)
    ∙ ap₂ (λ (x : Bool) (y : Bool). x && y) (first (opening-kind k o)) (list_all-append is_prelude_word (words_all items) _ ∙ ap (λ (x : Bool). x && true) h)
  where
    first : is_prelude_kind k ≡ true → is_prelude_word (word_from k text) ≡ true
    first p = ap₂ (λ (x y : Bool). x && not (opens k && y)) p n ∙ none (opens k)
      where
        none : (x : Bool) → not (x && false) ≡ true
        none true = refl
        none false = refl

pub list-stands : (ss : List selector.Selector) → list_all is_prelude_word (words_all (list_spelling ss)) ≡ true
list-stands = every-spelling Stands (record {
  none = refl;
  both = stands-append;
  token = λ k text o c p. stands-token k text o p;
  around = stands-around;
})

-- The first word and the last one.

ends-behind : (xs ys : List Word) → ends_solid ys ≡ true → ends_solid (xs ++ ys) ≡ true
ends-behind [] ys h = h
ends-behind (x ∷ xs) ys h = ends-one x (xs ++ ys) (ends-behind xs ys h)
  where
    ends-one : (x : Word) (ws : List Word) → ends_solid ws ≡ true → ends_solid (x ∷ ws) ≡ true
    ends-one x [] h = absurd (false≢true h)
    ends-one x (w ∷ ws) h = h

begins-front : (xs ys : List Word) → begins_solid xs ≡ true → begins_solid (xs ++ ys) ≡ true
begins-front [] ys h = absurd (false≢true h)
begins-front (x ∷ xs) ys h = h

record Solid (ws : List Word) : Type 0 where
  begins : begins_solid ws ≡ true
  ends : ends_solid ws ≡ true
  unspaced : (rest : List ℕ) → begins_none white (spelled ws ++ rest) ≡ true

-- there are none, or the last one is solid
abbrev EndsWell : List Word → Type 0
EndsWell ws = (ws ≡ []) ⊎ (ends_solid ws ≡ true)

ends-either : (xs ys : List Word) → ends_solid xs ≡ true → EndsWell ys → ends_solid (xs ++ ys) ≡ true
ends-either xs ys h (inl e) = subst (λ (ws : List Word). ends_solid ws ≡ true) (sym (ap (λ (ws : List Word). xs ++ ws) e ∙ append-nil xs)) h
ends-either xs ys h (inr k) = ends-behind xs ys k

well-append : (xs ys : List Word) → EndsWell xs → EndsWell ys → EndsWell (xs ++ ys)
well-append xs ys (inl e) k = subst (λ (ws : List Word). EndsWell (ws ++ ys)) (sym e) k
well-append xs ys (inr h) k = inr (ends-either xs ys h k)

solid-append : (xs ys : List Word) → Solid xs → EndsWell ys → Solid (xs ++ ys)
solid-append xs ys s k = record { begins = begins-front xs ys s.begins; ends = ends-either xs ys s.ends k; unspaced = λ rest. ap (begins_none white) (spelled-both xs ys rest) ∙ s.unspaced (spelled ys ++ rest) }

-- Simple selectors.

block-ends : (k : Kind) (text : List ℕ) (items : List Component) → ends_solid (words_all (block k text items ∷ [])) ≡ true
block-ends k text items = ap ends_solid (words-block k text items) ∙ ends-behind (word_from k text ∷ words_all items) (word_from kinds.Close (closing_text text) ∷ []) refl

colon-solid : (cs : List Component) → ends_solid (words_all cs) ≡ true → Solid (colon_word ∷ words_all cs)
colon-solid cs h = record { begins = refl; ends = ends-behind (colon_word ∷ []) (words_all cs) h; unspaced = λ rest. refl }

call-solid : (x : Simple) (f : List ℕ) (argument : List Component) → simple_spelling x ≡ call f argument → Solid (words_all (simple_spelling x))
call-solid x f argument e =
    subst Solid (sym (ap words_all e ∙ words-single kinds.Colon (codes ":") (block kinds.Function f argument ∷ [])))
    (colon-solid (block kinds.Function f argument ∷ []) (block-ends kinds.Function f argument))

pseudo-at : (f : List ℕ) (o : Option (List ℕ)) (other : Component) → ends_solid (words_all (other ∷ [])) ≡ true → ends_solid (words_all (option_map_or (λ argument. block kinds.Function f (argument_spelling f argument)) o other ∷ [])) ≡ true
pseudo-at f None other h = h
pseudo-at f (Some r) other h = block-ends kinds.Function f (argument_spelling f r)

pseudo-ends : (fs : List (List ℕ)) (text : List ℕ) → ends_solid (words_all (pseudo_from fs text ∷ [])) ≡ true
pseudo-ends [] text = ap ends_solid (words-single kinds.Ident text [])
pseudo-ends (f ∷ fs) text = pseudo-at f (option_and_then before_close (behind f text)) (pseudo_from fs text) (pseudo-ends fs text)

abbrev P : Simple → Type 0
P x = is_readable_simple x ≡ true → Solid (words_all (simple_spelling x))

-- Compounds.

parts-end : (ps : List part.Part) → AllByRecursion (λ p. P (simple_of p)) ps → list_all (λ p. p) (readable_parts ps) ≡ true → EndsWell (words_all (parts_in ps))
parts-end [] each h = inl refl
parts-end (p ∷ ps) each h =
    let q = and_parts (is_readable_simple (simple_of p)) (list_all (λ b. b) (readable_parts ps)) h in
    let s = each.0 q.0 in
    subst EndsWell (sym (words-append (simple_spelling (simple_of p)) (parts_in ps))) (well-append (words_all (simple_spelling (simple_of p))) (words_all (parts_in ps)) (inr s.ends) (parts-end ps each.1 q.1))

state-ends : (text : List ℕ) (cs : List Component) → EndsWell (words_all cs) → EndsWell (words_all (state_spelling text ++ cs))
state-ends text cs h =
    subst EndsWell (sym (words-single kinds.Colon (codes ":") (single kinds.Ident text ∷ cs) ∙ ap (λ (ws : List Word). colon_word ∷ ws) (words-single kinds.Ident text cs)))
    (inr (ends-either (colon_word ∷ word_from kinds.Ident text ∷ []) (words_all cs) refl h))

states-end : (ss : List (List ℕ)) → EndsWell (words_all (flat_map state_spelling ss))
states-end [] = inl refl
states-end (s ∷ ss) = state-ends s (flat_map state_spelling ss) (states-end ss)

tail-solid : (t : tail.Tail) → Solid (words_all (tail_spelling (Some t)))
tail-solid t =
    let states = flat_map state_spelling t.states in
    let words = words-single kinds.Colon (codes ":") (state_spelling t.element ++ states) ∙ ap (λ (ws : List Word). colon_word ∷ ws) (words-single kinds.Colon (codes ":") (single kinds.Ident t.element ∷ states) ∙ ap (λ (ws : List Word). colon_word ∷ ws) (words-single kinds.Ident t.element states)) in
    subst Solid (sym words) (record { begins = refl; ends = ends-either (colon_word ∷ colon_word ∷ word_from kinds.Ident t.element ∷ []) (words_all states) refl (states-end t.states); unspaced = λ rest. refl })

tail-ends : (t : Option tail.Tail) → EndsWell (words_all (tail_spelling t))
tail-ends None = inl refl
tail-ends (Some t) = let s = tail-solid t in inr s.ends

solid-behind : (ps : List part.Part) (t : Option tail.Tail) → AllByRecursion (λ p. P (simple_of p)) ps → list_all (λ p. p) (readable_parts ps) ≡ true → (has_some (readable_parts ps) || is_some t) ≡ true → Solid (words_all (parts_in ps) ++ words_all (tail_spelling t))
solid-behind [] None each h some = absurd (false≢true some)
solid-behind [] (Some t) each h some = tail-solid t
solid-behind (p ∷ ps) t each h some =
    let q = and_parts (is_readable_simple (simple_of p)) (list_all (λ b. b) (readable_parts ps)) h in
    solid-append (words_all (parts_in (p ∷ ps))) (words_all (tail_spelling t))
    (subst Solid (sym (words-append (simple_spelling (simple_of p)) (parts_in ps))) (solid-append (words_all (simple_spelling (simple_of p))) (words_all (parts_in ps)) (each.0 q.0) (parts-end ps each.1 q.1)))
    (tail-ends t)

module _ (no_white : (n rest : List ℕ) → is_name n ≡ true → begins_none white (name_text n ++ rest) ≡ true) where
  compound-solid : (kind : TypeName) (ps : List part.Part) (t : Option tail.Tail) → AllByRecursion (λ p. P (simple_of p)) ps → (has_type kind || (has_some (readable_parts ps) || is_some t)) ≡ true → is_readable_type kind ≡ true → list_all (λ p. p) (readable_parts ps) ≡ true
      → Solid (words_all (type_spelling kind) ++ (words_all (parts_in ps) ++ words_all (tail_spelling t)))
  compound-solid types.None ps t each some k h = solid-behind ps t each h some
  compound-solid types.Universal ps t each some k h =
      solid-append (words_all (type_spelling types.Universal)) (words_all (parts_in ps) ++ words_all (tail_spelling t))
      (subst Solid (sym (words-single kinds.Delim (codes "*") [])) (record { begins = refl; ends = refl; unspaced = λ rest. refl }))
      (well-append (words_all (parts_in ps)) (words_all (tail_spelling t)) (parts-end ps each h) (tail-ends t))
  compound-solid (types.Name n) ps t each some k h =
      solid-append (words_all (type_spelling (types.Name n))) (words_all (parts_in ps) ++ words_all (tail_spelling t))
      (subst Solid (sym (words-single kinds.Ident (name_text n) [])) (record { begins = refl; ends = refl; unspaced = λ rest. ap (λ (t : List ℕ). begins_none white (t ++ rest)) (append-nil (name_text n)) ∙ no_white n rest k }))
      (well-append (words_all (parts_in ps)) (words_all (tail_spelling t)) (parts-end ps each h) (tail-ends t))

  abbrev Q : compound.Compound → Type 0
  Q k = (last : Bool) → is_readable_compound last k ≡ true → Solid (words_all (compound_spelling k))

  compound-at : (k : compound.Compound) → AllByRecursion (λ p. P (simple_of p)) k.parts → Q k
  compound-at k each last h =
      let parts = readable_parts k.parts in
      let some = has_type k.kind || (has_some parts || is_some k.tail) in
      let g : (some && (is_readable_type k.kind && (list_all (λ p. p) parts && is_readable_tail last k.tail))) ≡ true = sym (ap (λ (f : Bool → Bool). f last) (folded-Compound (placed readable) k)) ∙ h in
      let p = and_parts some (is_readable_type k.kind && (list_all (λ p. p) parts && is_readable_tail last k.tail)) g in
      let q = and_parts (is_readable_type k.kind) (list_all (λ p. p) parts && is_readable_tail last k.tail) p.1 in
      let r = and_parts (list_all (λ p. p) parts) (is_readable_tail last k.tail) q.1 in
      subst Solid (sym (compound-words k)) (compound-solid k.kind k.parts k.tail each p.0 q.0 r.0)

  -- Nothing is asked of whole selectors here.
  abbrev R : selector.Selector → Type 0
  R s = Unit {0}

  cases : Cases P Q R
  cases = record {
    class = λ n h. subst Solid (sym (ap words_all (folded-Class (placed spelling) n) ∙ words-single kinds.Delim (codes ".") (ident n ∷ []) ∙ ap (λ (ws : List Word). mark (codes ".") ∷ ws) (words-single kinds.Ident (name_text n) []))) (record { begins = refl; ends = refl; unspaced = λ rest. refl });
    id = λ n h. subst Solid (sym (ap words_all (folded-Id (placed spelling) n) ∙ words-single kinds.Hash (codes "#" ++ name_text n) [])) (record { begins = refl; ends = refl; unspaced = λ rest. refl });
    attribute = λ a h.
        let items = ident a.name ∷ test_spelling a.test a.value in
        subst Solid (sym (ap words_all (folded-Attribute (placed spelling) a) ∙ words-block kinds.Open (codes "[") items))
        (record { begins = refl; ends = ends-behind (word_from kinds.Open (codes "[") ∷ words_all items) (word_from kinds.Close (codes "]") ∷ []) refl; unspaced = λ rest. refl });
    pseudo = λ t h. subst Solid (sym (ap words_all (folded-Pseudo (placed spelling) t) ∙ words-single kinds.Colon (codes ":") (pseudo_spelling t ∷ []))) (colon-solid (pseudo_spelling t ∷ []) (pseudo-ends text_functions t));
    not_of = λ ss each h. call-solid (simple.Not ss) (codes "not(") (list_spelling ss) (folded-Not (placed spelling) ss);
    is_of = λ ss each h. call-solid (simple.Is ss) (codes "is(") (list_spelling ss) (folded-Is (placed spelling) ss);
    where_of = λ ss each h. call-solid (simple.Where ss) (codes "where(") (list_spelling ss) (folded-Where (placed spelling) ss);
    parent = λ h. subst Solid (sym (ap words_all (folded-Parent (placed spelling)) ∙ words-single kinds.Delim (codes "&") [])) (record { begins = refl; ends = refl; unspaced = λ rest. refl });
    local = λ k q h. call-solid (simple.Local k) (codes "local(") (compound_spelling k) (folded-Local (placed spelling) k);
    global = λ k q h. call-solid (simple.Global k) (codes "global(") (compound_spelling k) (folded-Global (placed spelling) k);
    foreign = λ h. absurd (false≢true (sym (folded-Foreign (placed readable)) ∙ h));
    compound = compound-at;
    selector = λ s first each. tt;
  }

  compound-read : (k : compound.Compound) → Q k
  compound-read = by_compounds P Q R cases

  -- Selectors.

  links-end : (dashes : Bool) (ls : List link.Link) → EachLink ls → EndsWell (words_all (links_in dashes ls))
  links-end dashes [] h = inl refl
  links-end dashes (l ∷ ls) h =
      let first = compound_spelling (compound_of l) in
      let links = links_in (ends_in_dashes (compound_text (compound_of l))) ls in
      let s = compound-read (compound_of l) h.0.0 h.0.1 in
      subst EndsWell (sym (words-append (combinator_spelling dashes (combinator_of l)) (first ++ links) ∙ ap (λ (ws : List Word). words_all (combinator_spelling dashes (combinator_of l)) ++ ws) (words-append first links)))
      (inr (ends-behind (words_all (combinator_spelling dashes (combinator_of l))) (words_all first ++ words_all links) (ends-either (words_all first) (words_all links) s.ends (links-end (ends_in_dashes (compound_text (compound_of l))) ls h.1))))

  -- a leading combinator, which is no white space
  led : (nested : Bool) (lead : Option Combinator) (ws : List Word) → is_readable_lead nested lead ≡ true → Solid ws → Solid (words_all (lead_spelling lead) ++ ws)
  led nested None ws h s = s
  led nested (Some combinators.Descendant) ws h s = absurd (false≢true h)
  led nested (Some combinators.Child) ws h s = subst (λ (vs : List Word). Solid (vs ++ ws)) (sym (combinator-same false combinators.Child)) (record { begins = refl; ends = ends-behind (mark (codes ">") ∷ []) ws s.ends; unspaced = λ rest. refl })
  led nested (Some combinators.Next) ws h s = subst (λ (vs : List Word). Solid (vs ++ ws)) (sym (combinator-same false combinators.Next)) (record { begins = refl; ends = ends-behind (mark (codes "+") ∷ []) ws s.ends; unspaced = λ rest. refl })
  led nested (Some combinators.Later) ws h s = subst (λ (vs : List Word). Solid (vs ++ ws)) (sym (combinator-same false combinators.Later)) (record { begins = refl; ends = ends-behind (mark (codes "~") ∷ []) ws s.ends; unspaced = λ rest. refl })

  selector-solid : (nested : Bool) (s : selector.Selector) → is_readable_selector nested s ≡ true → Solid (words_all (selector_spelling s))
  selector-solid nested s h =
      let links = links_in (ends_in_dashes (compound_text s.first)) s.rest in
      let g : (is_readable_lead nested s.lead && are_readable (bare_compound readable s.first) (map (made_link (placed readable)) s.rest)) ≡ true = sym (ap (λ (f : Bool → Bool). f nested) (folded-Selector (placed readable) s)) ∙ h in
      let p = and_parts (is_readable_lead nested s.lead) (are_readable (bare_compound readable s.first) (map (made_link (placed readable)) s.rest)) g in
      let e = links-each (bare_compound readable s.first) s.rest p.1 in
      let front = words_all (compound_spelling s.first) in
      let same : words_all (selector_spelling s) ≡ words_all (lead_spelling s.lead) ++ (front ++ words_all links) =
      ap words_all (folded-Selector (placed spelling) s)
      ∙ words-append (lead_spelling s.lead) (compound_spelling s.first ++ links)
      ∙ ap (λ (ws : List Word). words_all (lead_spelling s.lead) ++ ws) (words-append (compound_spelling s.first) links) in
      subst Solid (sym same) (led nested s.lead (front ++ words_all links) p.0 (solid-append front (words_all links) (compound-read s.first e.0.0 e.0.1) (links-end (ends_in_dashes (compound_text s.first)) s.rest e.1)))

  -- Lists.

  more-end : (nested : Bool) (ss : List selector.Selector) → list_all (is_readable_selector nested) ss ≡ true → EndsWell (words_all (more_in ss))
  more-end nested [] h = inl refl
  more-end nested (s ∷ ss) h =
      let p = and_parts (is_readable_selector nested s) (list_all (is_readable_selector nested) ss) h in
      let here = selector-solid nested s p.0 in
      let first = words_all (selector_spelling s) in
      subst EndsWell (sym (words-single kinds.Comma (codes ",") (selector_spelling s ++ more_in ss) ∙ ap (λ (ws : List Word). word_from kinds.Comma (codes ",") ∷ ws) (words-append (selector_spelling s) (more_in ss))))
      (inr (ends-behind (word_from kinds.Comma (codes ",") ∷ []) (first ++ words_all (more_in ss)) (ends-either first (words_all (more_in ss)) here.ends (more-end nested ss p.1))))

  list-solid : (nested : Bool) (ss : List selector.Selector) → is_readable_list nested ss ≡ true → Solid (words_all (list_spelling ss))
  list-solid nested [] h = absurd (false≢true h)
  list-solid nested (s ∷ ss) h =
      let p = and_parts (is_readable_selector nested s) (list_all (is_readable_selector nested) ss) h in
      subst Solid (sym (words-append (selector_spelling s) (more_in ss))) (solid-append (words_all (selector_spelling s)) (words_all (more_in ss)) (selector-solid nested s p.0) (more-end nested ss p.1))

  pub list-begins : (nested : Bool) (ss : List selector.Selector) → is_readable_list nested ss ≡ true → begins_solid (words_all (list_spelling ss)) ≡ true
  list-begins nested ss h = let s = list-solid nested ss h in s.begins

  pub list-ends : (nested : Bool) (ss : List selector.Selector) → is_readable_list nested ss ≡ true → ends_solid (words_all (list_spelling ss)) ≡ true
  list-ends nested ss h = let s = list-solid nested ss h in s.ends

  -- no white space stands first in the text
  pub list-unspaced : (nested : Bool) (ss : List selector.Selector) (rest : List ℕ) → is_readable_list nested ss ≡ true → begins_none white (list_text ss ++ rest) ≡ true
  list-unspaced nested ss rest h = let s = list-solid nested ss h in s.unspaced rest
