-- How the words of simple selectors, attributes, pseudo-classes and pseudo-elements are read.
use Rattle.std.proofs.Common.{◌≡◌, ℕ, List, [], ◌∷◌, ◌++◌, map, true, false, not, ◌&&◌, inl, inr, refl, sym, ap, ◌∙◌, subst, append_assoc, codes}
use Rattle.std.specs.Prelude.{Some, flat_map}
use Rattle.std.specs.List.{list_all}
use Rattle.std.proofs.lemmas.Bool.{and_parts}
use Rattle.std.proofs.lemmas.Grind.{flat_map-append}
use Rattle.std.proofs.lemmas.List.{append-nil, map-append}
use lib.Pointwise.{bytes_decides}
use Rattle.css_tokens.specs.declared.kind.Kind.{Kind}
use Rattle.css_tokens.specs.declared.kind.Kind.TheVariants as kinds
use Rattle.css_tokens.specs.declared.component.Component.{Component}
use Rattle.css_tokens.specs.Again.{StaysFirst, begins_none, digit, digit_or_dot, word_from}
use Rattle.css_tokens.specs.Characters.{white}
use Rattle.css_tokens.specs.NameText.{name_text}
use Rattle.css_tokens.specs.Names.{is_content, is_name}
use Rattle.css_tokens.specs.Piece.{Piece, Word, word_of, spelled}
use Rattle.css_tokens.specs.StringText.{string_text}
use Rattle.css_tokens.specs.Tokens.{is_url, spells}
use Rattle.css_tokens.specs.Trees.{closing, closing_text, is_text, pieces_all, pieces_of, pieces_of-Single, pieces_of-Block, words_all}
use Rattle.selector_types.specs.declared.selector.Attribute as attribute
use Rattle.selector_types.specs.declared.selector.Tail as tail
use Rattle.selector_types.specs.declared.selector.Test.{Test}
use Rattle.selector_types.specs.declared.selector.Test.TheVariants as tests
use Rattle.selector_types.specs.declared.selector.TypeName.{TypeName}
use Rattle.selector_types.specs.declared.selector.TypeName.TheVariants as types
use Rattle.selector_types.specs.ReadableSelectors.{is_pseudo_text, is_readable_attribute, is_readable_type, is_readable_value, name_in_text}
use Rattle.selector_types.specs.Names.{lowered, pseudo_text}
use Rattle.selector_types.specs.Spelling.{attribute_spelling, block, call, delim, ident, single, state_spelling, tail_spelling, test_spelling, type_spelling, value_spelling}
use Rattle.selector_types.proofs.LowerNames.{lower-name}
use Rattle.selector_types.proofs.WordReads.{Laws, ReadsBefore, Follows, Calm, Stands, Begins, Starts, follows-behind, follows-calm, name-stays, reads-alone, reads-append, reads-first, stands-append, begins-append}

-- The words of components.

pub words-append : (cs ds : List Component) → words_all (cs ++ ds) ≡ words_all cs ++ words_all ds
words-append cs ds = ap (λ (ps : List Piece). map word_of ps) (flat_map-append pieces_of cs ds) ∙ map-append word_of (pieces_all cs) (pieces_all ds)

pub words-single : (kind : Kind) (text : List ℕ) (cs : List Component) → words_all (single kind text ∷ cs) ≡ word_from kind text ∷ words_all cs
words-single kind text cs = ap (λ (ps : List Piece). map word_of (ps ++ pieces_all cs)) (pieces_of-Single (record { kind = kind; text = text; at = 0 }))

-- the words of a block, what stands in it and the token that closes it
abbrev pub around : Kind → List ℕ → List Word → List Word
around kind text ws = word_from kind text ∷ (ws ++ word_from kinds.Close (closing_text text) ∷ [])

pub words-block : (kind : Kind) (text : List ℕ) (items : List Component) → words_all (block kind text items ∷ []) ≡ around kind text (words_all items)
words-block kind text items =
    (let opening : Piece = record { kind = kind; text = text; at = 0 } in
    ap (λ (ps : List Piece). map word_of (ps ++ [])) (pieces_of-Block (record { opening = opening; items = items; close = 0 }))
    ∙ ap (λ (ps : List Piece). map word_of ps) (append-nil (opening ∷ pieces_all items ++ closing opening 0 ∷ []))
    ∙ ap (λ (ws : List Word). word_from kind text ∷ ws) (map-append word_of (pieces_all items) (closing opening 0 ∷ [])))

abbrev pub mark : List ℕ → Word
mark text = word_from kinds.Delim text

abbrev pub colon_word : Word
colon_word = word_from kinds.Colon (codes ":")

abbrev pub name_word : List ℕ → Word
name_word n = word_from kinds.Ident (name_text n)

-- Words that stand in a compound behind others.
pub record IsPart (ws : List Word) : Type 0 where
  pub stands : Stands ws
  pub calm : (rest : List ℕ) → Calm (spelled ws ++ rest)
  pub starts : Starts ws

-- words that are read before a `)`
abbrev pub Inner : List Word → Type 0
Inner ws = (rest : List ℕ) → ReadsBefore ws (codes ")" ++ rest)

pub calm-close : (rest : List ℕ) → Calm (codes ")" ++ rest)
calm-close rest = record { hash = refl; name = refl; ident = refl }

pub inner-stands : (ws : List Word) → Stands ws → Inner ws
inner-stands ws s rest = s (codes ")" ++ rest) (follows-calm (spelled ws) (codes ")" ++ rest) (calm-close rest))

-- a Function that `)` closes
pub record Calls (f : List ℕ) : Type 0 where
  pub spelled_so : spells kinds.Function f ≡ true
  pub other : is_url f ≡ false
  pub closed : closing_text f ≡ codes ")"

-- parts one after another, or none
pub record AreParts (ws : List Word) : Type 0 where
  pub stands : Stands ws
  pub begins : Begins ws

pub parts-none : AreParts []
parts-none = record { stands = λ rest f. refl; begins = inl refl }

pub parts-one : (ws : List Word) → IsPart ws → AreParts ws
parts-one ws p = record { stands = p.stands; begins = inr p.calm }

abbrev shut_word : Word
shut_word = word_from kinds.Close (codes "]")

abbrev string_word : List ℕ → Word
string_word value = word_from kinds.String (string_text value)

-- what stands behind the name of an attribute, up to the bracket
record IsTest (ws : List Word) : Type 0 where
  reads : (rest : List ℕ) → ReadsBefore (ws ++ shut_word ∷ []) rest
  calm : (rest : List ℕ) → Calm (spelled (ws ++ shut_word ∷ []) ++ rest)

alone-text : (text rest : List ℕ) → Follows (text ++ []) rest → Follows text rest
alone-text text rest f = subst (λ (t : List ℕ). Follows t rest) (append-nil text) f

module _ (l : Laws) where
  pub open-stays : (rest : List ℕ) → StaysFirst (word_from kinds.Open (codes "[")) rest
  open-stays = l.marked.1.1.1.1.0

  pub shut-stays : (rest : List ℕ) → StaysFirst (word_from kinds.Close (codes "]")) rest
  shut-stays = l.marked.1.1.1.1.1.0

  pub close-stays : (rest : List ℕ) → StaysFirst (word_from kinds.Close (codes ")")) rest
  close-stays = l.marked.1.1.1.0

  pub colon-stays : (rest : List ℕ) → StaysFirst colon_word rest
  colon-stays = l.marked.1.1.1.1.1.1.0

  pub comma-stays : (rest : List ℕ) → StaysFirst (word_from kinds.Comma (codes ",")) rest
  comma-stays = l.marked.1.1.1.1.1.1.1.1.0

  pub greater-stays : (rest : List ℕ) → StaysFirst (mark (codes ">")) rest
  greater-stays = l.marked.1.1.1.1.1.1.1.1.1.0

  pub star-stays : (rest : List ℕ) → StaysFirst (mark (codes "*")) rest
  star-stays = l.marked.1.1.1.1.1.1.1.1.1.1.0

  pub tilde-stays : (rest : List ℕ) → StaysFirst (mark (codes "~")) rest
  tilde-stays = l.marked.1.1.1.1.1.1.1.1.1.1.1.0

  pub amp-stays : (rest : List ℕ) → StaysFirst (mark (codes "&")) rest
  amp-stays = l.marked.1.1.1.1.1.1.1.1.1.1.1.1.1.0

  pub equals-stays : (rest : List ℕ) → StaysFirst (mark (codes "=")) rest
  equals-stays = l.marked.1.1.1.1.1.1.1.1.1.1.1.1.1.1.0

  pub bar-stays : (rest : List ℕ) → StaysFirst (mark (codes "|")) rest
  bar-stays = l.marked.1.1.1.1.1.1.1.1.1.1.1.1.1.1.1.0

  pub caret-stays : (rest : List ℕ) → StaysFirst (mark (codes "^")) rest
  caret-stays = l.marked.1.1.1.1.1.1.1.1.1.1.1.1.1.1.1.1.0

  pub dollar-stays : (rest : List ℕ) → StaysFirst (mark (codes "$")) rest
  dollar-stays = l.marked.1.1.1.1.1.1.1.1.1.1.1.1.1.1.1.1.1.0

  -- Names.

  pub name-alone : (n : List ℕ) → is_name n ≡ true → Stands (name_word n ∷ [])
  name-alone n h rest f = reads-alone (name_word n) rest (name-stays l n rest h (alone-text (name_text n) rest f)) refl

  name-digit : (n rest : List ℕ) → is_name n ≡ true → begins_none digit (spelled (name_word n ∷ []) ++ rest) ≡ true
  name-digit n rest h = ap (λ (t : List ℕ). begins_none digit (t ++ rest)) (append-nil (name_text n)) ∙ l.no_digit n rest h

  pub part-class : (n : List ℕ) → is_name n ≡ true → IsPart (mark (codes ".") ∷ name_word n ∷ [])
  part-class n h = record {
    stands = λ rest f. reads-first (mark (codes ".")) (name_word n ∷ []) rest (l.dotted (spelled (name_word n ∷ []) ++ rest) (name-digit n rest h)) refl (name-alone n h rest (follows-behind (codes ".") (name_text n ++ []) rest f));
    calm = λ rest. record { hash = refl; name = refl; ident = refl };
    starts = record { white = λ rest. refl; plus = λ rest. l.added_dot (spelled (name_word n ∷ []) ++ rest) (name-digit n rest h) };
  }

  pub part-id : (n : List ℕ) → is_name n ≡ true → IsPart (word_from kinds.Hash (codes "#" ++ name_text n) ∷ [])
  part-id n h = record {
    stands = λ rest f. reads-alone (word_from kinds.Hash (codes "#" ++ name_text n)) rest (l.hashed n rest h f.0) refl;
    calm = λ rest. record { hash = refl; name = refl; ident = refl };
    starts = record { white = λ rest. refl; plus = λ rest. l.added (spelled (word_from kinds.Hash (codes "#" ++ name_text n) ∷ []) ++ rest) refl };
  }

  pub part-parent : IsPart (mark (codes "&") ∷ [])
  part-parent = record {
    stands = λ rest f. reads-alone (mark (codes "&")) rest (amp-stays rest) refl;
    calm = λ rest. record { hash = refl; name = refl; ident = refl };
    starts = record { white = λ rest. refl; plus = λ rest. l.added (codes "&" ++ rest) refl };
  }

  -- what stands behind a colon
  pub part-colon : (ws : List Word) → Stands ws → IsPart (colon_word ∷ ws)
  part-colon ws s = record {
    stands = λ rest f. reads-first colon_word ws rest (colon-stays (spelled ws ++ rest)) refl (s rest (follows-behind (codes ":") (spelled ws) rest f));
    calm = λ rest. record { hash = refl; name = refl; ident = refl };
    starts = record { white = λ rest. refl; plus = λ rest. l.added (codes ":" ++ (spelled ws ++ rest)) refl };
  }

  -- Blocks.

  pub function-reads : (f : List ℕ) (ws : List Word) → Calls f → Inner ws → (rest : List ℕ) → ReadsBefore (around kinds.Function f ws) rest
  function-reads f ws c inner rest =
      let close = word_from kinds.Close (codes ")") in
      subst (λ (t : List ℕ). ReadsBefore (word_from kinds.Function f ∷ (ws ++ word_from kinds.Close t ∷ [])) rest) (sym c.closed)
      (reads-first (word_from kinds.Function f) (ws ++ close ∷ []) rest (l.called f (spelled (ws ++ close ∷ []) ++ rest) c.spelled_so c.other) refl
      (reads-append l ws (close ∷ []) rest (inner rest) (reads-alone close rest (close-stays rest) refl)))

  pub part-call : (f : List ℕ) (argument : List Component) → Calls f → Inner (words_all argument) → IsPart (words_all (call f argument))
  part-call f argument c inner =
      subst IsPart (sym (words-single kinds.Colon (codes ":") (block kinds.Function f argument ∷ []) ∙ ap (λ (ws : List Word). colon_word ∷ ws) (words-block kinds.Function f argument)))
      (part-colon (around kinds.Function f (words_all argument)) (λ rest f'. function-reads f (words_all argument) c inner rest))

  -- Attributes.

  value-words : (value : List ℕ) → words_all (value_spelling value) ≡ mark (codes "=") ∷ string_word value ∷ []
  value-words value =
      words-single kinds.Delim (codes "=") (single kinds.String (string_text value) ∷ [])
      ∙ ap (λ (ws : List Word). mark (codes "=") ∷ ws) (words-single kinds.String (string_text value) [])

  operator-words : (operator value : List ℕ) → words_all (delim operator ∷ value_spelling value) ≡ mark operator ∷ mark (codes "=") ∷ string_word value ∷ []
  operator-words operator value = words-single kinds.Delim operator (value_spelling value) ∙ ap (λ (ws : List Word). mark operator ∷ ws) (value-words value)

  value-reads : (value rest : List ℕ) → is_content value ≡ true → ReadsBefore (mark (codes "=") ∷ string_word value ∷ shut_word ∷ []) rest
  value-reads value rest h =
      reads-first (mark (codes "=")) (string_word value ∷ shut_word ∷ []) rest (equals-stays (spelled (string_word value ∷ shut_word ∷ []) ++ rest)) refl
      (reads-first (string_word value) (shut_word ∷ []) rest (l.quoted (string_text value) (codes "]" ++ rest) (l.stringed value h)) refl
      (reads-alone shut_word rest (shut-stays rest) refl))

  operator-test : (operator value : List ℕ) → ((rest : List ℕ) → StaysFirst (mark operator) rest) → ((rest : List ℕ) → Calm (operator ++ rest)) → is_content value ≡ true → IsTest (words_all (delim operator ∷ value_spelling value))
  operator-test operator value stays calm h =
      let ws = mark (codes "=") ∷ string_word value ∷ [] in
      subst IsTest (sym (operator-words operator value)) (record {
        reads = λ rest. reads-first (mark operator) (ws ++ shut_word ∷ []) rest (stays (spelled (ws ++ shut_word ∷ []) ++ rest)) refl (value-reads value rest h);
        calm = λ rest. subst Calm (sym (append_assoc operator (spelled (ws ++ shut_word ∷ [])) rest)) (calm (spelled (ws ++ shut_word ∷ []) ++ rest));
      })

  test-reads : (test : Test) (value : List ℕ) → is_readable_value test value ≡ true → IsTest (words_all (test_spelling test value))
  test-reads tests.Has value h = record { reads = λ rest. reads-alone shut_word rest (shut-stays rest) refl; calm = λ rest. record { hash = refl; name = refl; ident = refl } }
  test-reads tests.Equals value h = subst IsTest (sym (value-words value)) (record { reads = λ rest. value-reads value rest h; calm = λ rest. record { hash = refl; name = refl; ident = refl } })
  test-reads tests.Word value h = operator-test (codes "~") value tilde-stays (λ rest. record { hash = refl; name = refl; ident = refl }) h
  test-reads tests.Dash value h = operator-test (codes "|") value bar-stays (λ rest. record { hash = refl; name = refl; ident = refl }) h
  test-reads tests.Prefix value h = operator-test (codes "^") value caret-stays (λ rest. record { hash = refl; name = refl; ident = refl }) h
  test-reads tests.Suffix value h = operator-test (codes "$") value dollar-stays (λ rest. record { hash = refl; name = refl; ident = refl }) h
  test-reads tests.Contains value h = operator-test (codes "*") value star-stays (λ rest. record { hash = refl; name = refl; ident = refl }) h

  pub part-attribute : (a : attribute.Attribute) → is_readable_attribute a ≡ true → IsPart (words_all (attribute_spelling a ∷ []))
  part-attribute a h =
      let p = and_parts (is_name a.name) (not a.flag && is_readable_value a.test a.value) h in
      let q = and_parts (not a.flag) (is_readable_value a.test a.value) p.1 in
      let opening = word_from kinds.Open (codes "[") in
      let test = words_all (test_spelling a.test a.value) in
      let behind_test = test-reads a.test a.value q.1 in
      let inside = name_word a.name ∷ (test ++ shut_word ∷ []) in
      let read : (rest : List ℕ) → ReadsBefore (opening ∷ inside) rest = λ rest.
      reads-first opening inside rest (open-stays (spelled inside ++ rest)) refl
      (reads-first (name_word a.name) (test ++ shut_word ∷ []) rest (l.ident a.name (spelled (test ++ shut_word ∷ []) ++ rest) p.0 (let c = behind_test.calm rest in c.ident)) refl (behind_test.reads rest)) in
      subst IsPart (sym (words-block kinds.Open (codes "[") (ident a.name ∷ test_spelling a.test a.value) ∙ ap (around kinds.Open (codes "[")) (words-single kinds.Ident (name_text a.name) (test_spelling a.test a.value))))
      (record {
        stands = λ rest f. read rest;
        calm = λ rest. record { hash = refl; name = refl; ident = refl };
        starts = record { white = λ rest. refl; plus = λ rest. l.added (codes "[" ++ (spelled inside ++ rest)) refl };
      })

  -- Pseudo-classes and pseudo-elements.

  pub pseudo-alone : (text : List ℕ) → is_pseudo_text text ≡ true → Stands (word_from kinds.Ident text ∷ [])
  pseudo-alone text h =
      let n = name_in_text text in
      let p = and_parts (is_name n) (is_text (pseudo_text n) text) h in
      subst (λ (t : List ℕ). Stands (word_from kinds.Ident t ∷ [])) ((bytes_decides (pseudo_text n) text).0 p.1) (name-alone (lowered n) (lower-name n p.0))

  state-words : (text : List ℕ) → words_all (state_spelling text) ≡ colon_word ∷ word_from kinds.Ident text ∷ []
  state-words text = words-single kinds.Colon (codes ":") (single kinds.Ident text ∷ []) ∙ ap (λ (ws : List Word). colon_word ∷ ws) (words-single kinds.Ident text [])

  part-state : (text : List ℕ) → is_pseudo_text text ≡ true → IsPart (words_all (state_spelling text))
  part-state text h = subst IsPart (sym (state-words text)) (part-colon (word_from kinds.Ident text ∷ []) (pseudo-alone text h))

  pub parts-append : (xs ys : List Word) → AreParts xs → AreParts ys → AreParts (xs ++ ys)
  parts-append xs ys p q = record { stands = stands-append l xs ys p.stands q.stands q.begins; begins = begins-append xs ys p.begins q.begins }

  parts-states : (ss : List (List ℕ)) → list_all is_pseudo_text ss ≡ true → AreParts (words_all (flat_map state_spelling ss))
  parts-states [] h = parts-none
  parts-states (s ∷ ss) h =
      let p = and_parts (is_pseudo_text s) (list_all is_pseudo_text ss) h in
      subst AreParts (sym (words-append (state_spelling s) (flat_map state_spelling ss)))
      (parts-append (words_all (state_spelling s)) (words_all (flat_map state_spelling ss)) (parts-one (words_all (state_spelling s)) (part-state s p.0)) (parts-states ss p.1))

  pub part-tail : (t : tail.Tail) → (is_pseudo_text t.element && list_all is_pseudo_text t.states) ≡ true → IsPart (words_all (tail_spelling (Some t)))
  part-tail t h =
      let p = and_parts (is_pseudo_text t.element) (list_all is_pseudo_text t.states) h in
      let element = words_all (state_spelling t.element) in
      let states = words_all (flat_map state_spelling t.states) in
      let both = parts-append element states (parts-one element (part-state t.element p.0)) (parts-states t.states p.1) in
      subst IsPart (sym (words-single kinds.Colon (codes ":") (state_spelling t.element ++ flat_map state_spelling t.states) ∙ ap (λ (ws : List Word). colon_word ∷ ws) (words-append (state_spelling t.element) (flat_map state_spelling t.states))))
      (part-colon (element ++ states) both.stands)

  -- Type selectors.

  pub type-stands : (kind : TypeName) → is_readable_type kind ≡ true → Stands (words_all (type_spelling kind))
  type-stands types.None h = λ rest f. refl
  type-stands types.Universal h = subst Stands (sym (words-single kinds.Delim (codes "*") [])) (λ rest f. reads-alone (mark (codes "*")) rest (star-stays rest) refl)
  type-stands (types.Name n) h = subst Stands (sym (words-single kinds.Ident (name_text n) [])) (name-alone n h)

  pub star-starts : Starts (words_all (type_spelling types.Universal))
  star-starts = subst Starts (sym (words-single kinds.Delim (codes "*") [])) (record { white = λ rest. refl; plus = λ rest. l.added (codes "*" ++ rest) refl })

  pub name-starts : (n : List ℕ) → is_name n ≡ true → Starts (words_all (type_spelling (types.Name n)))
  name-starts n h =
      let same : (rest : List ℕ) → spelled (name_word n ∷ []) ++ rest ≡ name_text n ++ rest = λ rest. ap (λ (t : List ℕ). t ++ rest) (append-nil (name_text n)) in
      subst Starts (sym (words-single kinds.Ident (name_text n) [])) (record {
        white = λ rest. ap (begins_none white) (same rest) ∙ l.no_white n rest h;
        plus = λ rest. l.added (spelled (name_word n ∷ []) ++ rest) (ap (begins_none digit_or_dot) (same rest) ∙ l.no_dot n rest h);
      })
