-- The texts of what selectors are spelled with.
use Rattle.std.proofs.Common.{◌≡◌, ℕ, List, [], ◌∷◌, ◌++◌, map, Bool, true, false, not, refl, sym, ap, ◌∙◌, append_assoc, nat_eq, eqb-true}
use Rattle.std.specs.Prelude.{codes, Option, Some, None, flat_map, if◌then◌else◌, ◌&&◌}
use Rattle.std.specs.Option.{option_and_then, option_map, option_map_or}
use Rattle.std.proofs.lemmas.List.{append-nil, map-append}
use Rattle.std.proofs.lemmas.Grind.{flat_map-append}
use Rattle.css_tokens.specs.declared.kind.Kind.{Kind}
use Rattle.css_tokens.specs.declared.kind.Kind.TheVariants as kinds
use Rattle.css_tokens.specs.declared.component.Component.{Component}
use Rattle.css_tokens.specs.NameText.{name_text}
use Rattle.css_tokens.specs.Piece.{Piece, Word, word_of, spelled}
use Rattle.css_tokens.specs.StringText.{string_text}
use Rattle.css_tokens.specs.Trees.{is_text, pieces_of, pieces_all, words_all, closing, closing_text, pieces_of-Single, pieces_of-Block}
use Rattle.css_tokens.specs.Numbers.{begins_digit}
use Rattle.selector_types.specs.declared.selector.Tail as tail
use Rattle.selector_types.specs.declared.selector.Attribute as attribute
use Rattle.selector_types.specs.declared.selector.Compound as compound
use Rattle.selector_types.specs.declared.selector.Link as link
use Rattle.selector_types.specs.declared.selector.Part as part
use Rattle.selector_types.specs.declared.selector.Selector as selector
use Rattle.selector_types.specs.declared.selector.Simple.{Simple}
use Rattle.selector_types.specs.declared.selector.Simple as simple
use Rattle.selector_types.specs.BareFold.{placed}
use Rattle.selector_types.specs.SelectorFold.{made_part, made_link, simple_of, compound_of, combinator_of, folded-Class, folded-Id, folded-Attribute, folded-Pseudo, folded-Not, folded-Is, folded-Where, folded-Parent, folded-Local, folded-Global, folded-Foreign, folded-Compound, folded-Selector}
use Rattle.selector_types.specs.Private.Texts.{parts_text, links_text, more_text, comma_text, left_text}
use Rattle.selector_types.specs.declared.selector.TypeName.TheVariants as types
use Rattle.selector_types.specs.declared.selector.Test.TheVariants as tests
use Rattle.selector_types.specs.Spelling.{single, ident, space, value_spelling, test_spelling, block, text_of, behind, before_close, before_plus, from_plus, front_spelling, back_spelling, step_spelling, argument_spelling, pseudo_from, pseudo_spelling, text_functions, more_spelling, simple_spelling, compound_spelling, selector_spelling, list_spelling, simple_text, compound_text, selector_text, list_text, spelling, call, attribute_spelling, type_spelling, tail_spelling, state_spelling, links_spelling, lead_spelling, combinator_spelling, ends_in_dashes, delim, word_kind}

-- The text of components is that of the first ones and then that of the others.
pub text-append : (cs ds : List Component) → text_of (cs ++ ds) ≡ text_of cs ++ text_of ds
text-append cs ds =
    ap (λ (ps : List Piece). spelled (map word_of ps)) (flat_map-append pieces_of cs ds)
    ∙ ap (λ (ws : List Word). spelled ws) (map-append word_of (pieces_all cs) (pieces_all ds))
    ∙ flat_map-append (λ (w : Word). w.text) (words_all cs) (words_all ds)

-- one token
pub text-single : (kind : Kind) (text : List ℕ) (cs : List Component) → text_of (single kind text ∷ cs) ≡ text ++ text_of cs
text-single kind text cs = ap (λ (ps : List Piece). spelled (map word_of (ps ++ pieces_all cs))) (pieces_of-Single (record { kind = kind; text = text; at = 0 }))

-- one token alone
pub text-alone : (kind : Kind) (text : List ℕ) → text_of (single kind text ∷ []) ≡ text
text-alone kind text = text-single kind text [] ∙ append-nil text

-- one block
pub text-block : (kind : Kind) (text : List ℕ) (items : List Component) → text_of (block kind text items ∷ []) ≡ text ++ (text_of items ++ closing_text text)
text-block kind text items =
    (let opening : Piece = record { kind = kind; text = text; at = 0 } in
    ap (λ (ps : List Piece). spelled (map word_of (ps ++ []))) (pieces_of-Block (record { opening = opening; items = items; close = 0 }))
    ∙ ap (λ (ps : List Piece). spelled (map word_of ps)) (append-nil (opening ∷ pieces_all items ++ closing opening 0 ∷ []))
    ∙ ap (λ (ws : List Word). text ++ spelled ws) (map-append word_of (pieces_all items) (closing opening 0 ∷ []))
    ∙ ap (λ (t : List ℕ). text ++ t) (flat_map-append (λ (w : Word). w.text) (words_all items) (word_of (closing opening 0) ∷ []))
    ∙ ap (λ (t : List ℕ). text ++ (text_of items ++ t)) (append-nil (closing_text text)))

-- The parts of an argument.

two-plus : (b : ℕ) (text : List ℕ) (plus : Bool) → before_plus text ++ from_plus text ≡ text → (if plus then [] else b ∷ before_plus text) ++ (if plus then b ∷ text else from_plus text) ≡ b ∷ text
two-plus b text true e = refl
two-plus b text false e = ap (λ (t : List ℕ). b ∷ t) e

pub around-plus : (text : List ℕ) → before_plus text ++ from_plus text ≡ text
around-plus [] = refl
around-plus (b ∷ text) = two-plus b text (nat_eq b 43) (around-plus text)

front-at : (b : ℕ) (text : List ℕ) (plus : Bool) → text_of (if plus then delim (b ∷ []) ∷ single kinds.Ident text ∷ [] else single (word_kind (b ∷ text)) (b ∷ text) ∷ []) ≡ b ∷ text
front-at b text true = text-single kinds.Delim (b ∷ []) (single kinds.Ident text ∷ []) ∙ ap (λ (t : List ℕ). b ∷ t) (text-alone kinds.Ident text)
front-at b text false = text-alone (word_kind (b ∷ text)) (b ∷ text)

text-back : (text : List ℕ) → text_of (back_spelling text) ≡ text
text-back [] = refl
text-back (b ∷ text) = text-alone kinds.Number (b ∷ text)

text-step : (text : List ℕ) → text_of (step_spelling text) ≡ text
text-step [] = refl
text-step (b ∷ text) =
    text-append (front_spelling b (before_plus text)) (back_spelling (from_plus text))
    ∙ ap (λ (t : List ℕ). t ++ text_of (back_spelling (from_plus text))) (front-at b (before_plus text) (nat_eq b 43 && not (begins_digit (before_plus text))))
    ∙ ap (λ (t : List ℕ). b ∷ (before_plus text ++ t)) (text-back (from_plus text))
    ∙ ap (λ (t : List ℕ). b ∷ t) (around-plus text)

argument-at : (text : List ℕ) (lang : Bool) → text_of (if lang then single kinds.Ident text ∷ [] else step_spelling text) ≡ text
argument-at text true = text-alone kinds.Ident text
argument-at text false = text-step text

text-argument : (f text : List ℕ) → text_of (argument_spelling f text) ≡ text
text-argument f text = argument-at text (is_text f (codes "lang("))

abbrev pub maybe : Option (List ℕ) → (List ℕ → Type 0) → Type 0
maybe None P = Unit {0}
maybe (Some r) P = P r

behind-more : (p b : ℕ) (front text : List ℕ) (o : Option (List ℕ)) → b ≡ p → maybe o (λ r. text ≡ front ++ r) → maybe o (λ r. b ∷ text ≡ p ∷ (front ++ r))
behind-more p b front text None e k = tt
behind-more p b front text (Some r) e k = ap (λ (n : ℕ). n ∷ text) e ∙ ap (λ (t : List ℕ). p ∷ t) k

behind-at : (p : ℕ) (front : List ℕ) (b : ℕ) (text : List ℕ) (same : Bool) → same ≡ nat_eq b p → maybe (behind front text) (λ r. text ≡ front ++ r) → maybe (if same then behind front text else None) (λ r. b ∷ text ≡ p ∷ (front ++ r))
behind-at p front b text false e h = tt
behind-at p front b text true e h = behind-more p b front text (behind front text) (eqb-true b p (sym e)) h

-- what stands behind a front makes the text with it
pub behind-whole : (front text : List ℕ) → maybe (behind front text) (λ r. text ≡ front ++ r)
behind-whole [] text = refl
behind-whole (p ∷ front) [] = tt
behind-whole (p ∷ front) (b ∷ text) = behind-at p front b text (nat_eq b p) refl (behind-whole front text)

close-last : (b : ℕ) (same : Bool) → same ≡ nat_eq b 41 → maybe (if same then Some [] else None) (λ r. b ∷ [] ≡ r ++ codes ")")
close-last b false e = tt
close-last b true e = ap (λ (n : ℕ). n ∷ []) (eqb-true b 41 (sym e))

close-more : (b c : ℕ) (text : List ℕ) (o : Option (List ℕ)) → maybe o (λ r. c ∷ text ≡ r ++ codes ")") → maybe (option_map (λ front. b ∷ front) o) (λ r. b ∷ c ∷ text ≡ r ++ codes ")")
close-more b c text None k = tt
close-more b c text (Some r) k = ap (λ (t : List ℕ). b ∷ t) k

-- what stands before a last `)` makes the text with it
pub close-whole : (text : List ℕ) → maybe (before_close text) (λ r. text ≡ r ++ codes ")")
close-whole [] = tt
close-whole (b ∷ []) = close-last b (nat_eq b 41) refl
close-whole (b ∷ c ∷ text) = close-more b c text (before_close (c ∷ text)) (close-whole (c ∷ text))

closed-in : (f text rest : List ℕ) (o : Option (List ℕ)) → text ≡ f ++ rest → maybe o (λ r. rest ≡ r ++ codes ")") → maybe o (λ r. text ≡ f ++ (r ++ codes ")"))
closed-in f text rest None e k = tt
closed-in f text rest (Some r) e k = e ∙ ap (λ (t : List ℕ). f ++ t) k

pub argument-in : (f text : List ℕ) (o : Option (List ℕ)) → maybe o (λ r. text ≡ f ++ r) → maybe (option_and_then before_close o) (λ r. text ≡ f ++ (r ++ codes ")"))
argument-in f text None k = tt
argument-in f text (Some r) k = closed-in f text r (before_close r) k (close-whole r)

-- The functions are closed by `)`.
abbrev closes_round : List (List ℕ) → Type 0
closes_round [] = Unit {0}
closes_round (f ∷ fs) = (closing_text f ≡ codes ")") × closes_round fs

text-call : (f text : List ℕ) (fs : List (List ℕ)) (o : Option (List ℕ)) → closing_text f ≡ codes ")" → maybe o (λ r. text ≡ f ++ (r ++ codes ")")) → text_of (pseudo_from fs text ∷ []) ≡ text
    → text_of (option_map_or (λ argument. block kinds.Function f (argument_spelling f argument)) o (pseudo_from fs text) ∷ []) ≡ text
text-call f text fs None e k more = more
text-call f text fs (Some r) e k more =
    text-block kinds.Function f (argument_spelling f r)
    ∙ ap (λ (t : List ℕ). f ++ (t ++ closing_text f)) (text-argument f r)
    ∙ ap (λ (t : List ℕ). f ++ (r ++ t)) e
    ∙ sym k

text-pseudo_from : (fs : List (List ℕ)) (text : List ℕ) → closes_round fs → text_of (pseudo_from fs text ∷ []) ≡ text
text-pseudo_from [] text e = text-alone kinds.Ident text
text-pseudo_from (f ∷ fs) text e =
    text-call f text fs (option_and_then before_close (behind f text)) e.0 (argument-in f text (behind f text) (behind-whole f text)) (text-pseudo_from fs text e.1)

pub text-pseudo : (text : List ℕ) → text_of (pseudo_spelling text ∷ []) ≡ text
text-pseudo text = text-pseudo_from text_functions text (refl, (refl, (refl, (refl, (refl, tt)))))

-- Type selectors, combinators, attributes and tails.

pub text-type-none : text_of (type_spelling types.None) ≡ []
text-type-none = refl

pub text-type-universal : text_of (type_spelling types.Universal) ≡ codes "*"
text-type-universal = text-alone kinds.Delim (codes "*")

pub text-type-name : (name : List ℕ) → text_of (type_spelling (types.Name name)) ≡ name_text name
text-type-name name = text-alone kinds.Ident (name_text name)

pub text-space : text_of (space ∷ []) ≡ codes " "
text-space = text-alone kinds.White (codes " ")

pub text-child : text_of (delim (codes ">") ∷ []) ≡ codes ">"
text-child = text-alone kinds.Delim (codes ">")

pub text-child-dashes : text_of (space ∷ delim (codes ">") ∷ []) ≡ codes " >"
text-child-dashes = text-single kinds.White (codes " ") (delim (codes ">") ∷ []) ∙ ap (λ (t : List ℕ). codes " " ++ t) text-child

pub text-next : text_of (delim (codes "+") ∷ []) ≡ codes "+"
text-next = text-alone kinds.Delim (codes "+")

pub text-later : text_of (delim (codes "~") ∷ []) ≡ codes "~"
text-later = text-alone kinds.Delim (codes "~")

text-value : (value : List ℕ) → text_of (value_spelling value) ≡ codes "=" ++ string_text value
text-value value = text-single kinds.Delim (codes "=") (single kinds.String (string_text value) ∷ []) ∙ ap (λ (t : List ℕ). codes "=" ++ t) (text-alone kinds.String (string_text value))

text-operator : (operator value : List ℕ) → text_of (delim operator ∷ value_spelling value) ≡ operator ++ (codes "=" ++ string_text value)
text-operator operator value = text-single kinds.Delim operator (value_spelling value) ∙ ap (λ (t : List ℕ). operator ++ t) (text-value value)

pub text-has : (value : List ℕ) → text_of (test_spelling tests.Has value) ≡ []
text-has value = refl

pub text-equals : (value : List ℕ) → text_of (test_spelling tests.Equals value) ≡ codes "=" ++ string_text value
text-equals value = text-value value

pub text-word : (value : List ℕ) → text_of (test_spelling tests.Word value) ≡ codes "~=" ++ string_text value
text-word value = text-operator (codes "~") value

pub text-dash : (value : List ℕ) → text_of (test_spelling tests.Dash value) ≡ codes "|=" ++ string_text value
text-dash value = text-operator (codes "|") value

pub text-prefix : (value : List ℕ) → text_of (test_spelling tests.Prefix value) ≡ codes "^=" ++ string_text value
text-prefix value = text-operator (codes "^") value

pub text-suffix : (value : List ℕ) → text_of (test_spelling tests.Suffix value) ≡ codes "$=" ++ string_text value
text-suffix value = text-operator (codes "$") value

pub text-contains : (value : List ℕ) → text_of (test_spelling tests.Contains value) ≡ codes "*=" ++ string_text value
text-contains value = text-operator (codes "*") value

pub ruleset leaf_texts = (text-type-none, text-type-universal, text-type-name, text-space, text-child, text-child-dashes, text-next, text-later, text-has, text-equals, text-word, text-dash, text-prefix, text-suffix, text-contains)

pub text-attribute : (a : attribute.Attribute) → text_of (attribute_spelling a ∷ []) ≡ (codes "[" ++ name_text a.name) ++ (text_of (test_spelling a.test a.value) ++ codes "]")
text-attribute a =
    text-block kinds.Open (codes "[") (ident a.name ∷ test_spelling a.test a.value)
    ∙ ap (λ (t : List ℕ). codes "[" ++ (t ++ codes "]")) (text-single kinds.Ident (name_text a.name) (test_spelling a.test a.value))
    ∙ ap (λ (t : List ℕ). codes "[" ++ t) (append_assoc (name_text a.name) (text_of (test_spelling a.test a.value)) (codes "]"))

-- the text of states
abbrev pub states_text : List (List ℕ) → List ℕ
states_text ss = flat_map (λ s. codes ":" ++ s) ss

text-state : (s : List ℕ) (cs : List Component) → text_of (state_spelling s ++ cs) ≡ (codes ":" ++ s) ++ text_of cs
text-state s cs = text-append (state_spelling s) cs ∙ ap (λ (t : List ℕ). t ++ text_of cs) (text-single kinds.Colon (codes ":") (single kinds.Ident s ∷ []) ∙ ap (λ (t : List ℕ). codes ":" ++ t) (text-alone kinds.Ident s))

text-states : (ss : List (List ℕ)) → text_of (flat_map state_spelling ss) ≡ states_text ss
text-states [] = refl
text-states (s ∷ ss) = text-state s (flat_map state_spelling ss) ∙ ap (λ (t : List ℕ). (codes ":" ++ s) ++ t) (text-states ss)

pub text-tail : (t : tail.Tail) → text_of (tail_spelling (Some t)) ≡ (codes "::" ++ t.element) ++ states_text t.states
text-tail t =
    text-single kinds.Colon (codes ":") (state_spelling t.element ++ flat_map state_spelling t.states)
    ∙ ap (λ (u : List ℕ). codes ":" ++ u) (text-state t.element (flat_map state_spelling t.states) ∙ ap (λ (u : List ℕ). (codes ":" ++ t.element) ++ u) (text-states t.states))

-- Each simple selector.

pub text-Class : (name : List ℕ) → simple_text (simple.Class name) ≡ codes "." ++ name_text name
text-Class name = ap text_of (folded-Class (placed spelling) name) ∙ text-single kinds.Delim (codes ".") (single kinds.Ident (name_text name) ∷ []) ∙ ap (λ (t : List ℕ). codes "." ++ t) (text-alone kinds.Ident (name_text name))

pub text-Id : (name : List ℕ) → simple_text (simple.Id name) ≡ codes "#" ++ name_text name
text-Id name = ap text_of (folded-Id (placed spelling) name) ∙ text-alone kinds.Hash (codes "#" ++ name_text name)

pub text-Attribute : (a : attribute.Attribute) → simple_text (simple.Attribute a) ≡ text_of (attribute_spelling a ∷ [])
text-Attribute a = ap text_of (folded-Attribute (placed spelling) a)

pub text-Pseudo : (text : List ℕ) → simple_text (simple.Pseudo text) ≡ codes ":" ++ text
text-Pseudo text = ap text_of (folded-Pseudo (placed spelling) text) ∙ text-single kinds.Colon (codes ":") (pseudo_spelling text ∷ []) ∙ ap (λ (t : List ℕ). codes ":" ++ t) (text-pseudo text)

-- a Function with this argument behind a colon
text-inside : (name : List ℕ) (argument : List Component) → text_of (call name argument) ≡ codes ":" ++ (name ++ (text_of argument ++ closing_text name))
text-inside name argument = text-single kinds.Colon (codes ":") (block kinds.Function name argument ∷ []) ∙ ap (λ (t : List ℕ). codes ":" ++ t) (text-block kinds.Function name argument)

pub text-Not : (ss : List selector.Selector) → simple_text (simple.Not ss) ≡ codes ":not(" ++ (list_text ss ++ codes ")")
text-Not ss = ap text_of (folded-Not (placed spelling) ss) ∙ text-inside (codes "not(") (list_spelling ss)

pub text-Is : (ss : List selector.Selector) → simple_text (simple.Is ss) ≡ codes ":is(" ++ (list_text ss ++ codes ")")
text-Is ss = ap text_of (folded-Is (placed spelling) ss) ∙ text-inside (codes "is(") (list_spelling ss)

pub text-Where : (ss : List selector.Selector) → simple_text (simple.Where ss) ≡ codes ":where(" ++ (list_text ss ++ codes ")")
text-Where ss = ap text_of (folded-Where (placed spelling) ss) ∙ text-inside (codes "where(") (list_spelling ss)

pub text-Parent : simple_text simple.Parent ≡ codes "&"
text-Parent = ap text_of (folded-Parent (placed spelling)) ∙ text-alone kinds.Delim (codes "&")

pub text-Local : (k : compound.Compound) → simple_text (simple.Local k) ≡ codes ":local(" ++ (compound_text k ++ codes ")")
text-Local k = ap text_of (folded-Local (placed spelling) k) ∙ text-inside (codes "local(") (compound_spelling k)

pub text-Global : (k : compound.Compound) → simple_text (simple.Global k) ≡ codes ":global(" ++ (compound_text k ++ codes ")")
text-Global k = ap text_of (folded-Global (placed spelling) k) ∙ text-inside (codes "global(") (compound_spelling k)

pub text-Foreign : simple_text simple.Foreign ≡ []
text-Foreign = ap text_of (folded-Foreign (placed spelling))

pub ruleset simple_texts = (text-Class, text-Id, text-Attribute, text-Pseudo, text-Not, text-Is, text-Where, text-Parent, text-Local, text-Global, text-Foreign)

-- Compounds.

text-parts : (ps : List part.Part) → text_of (flat_map (λ p. p) (map (λ p. p.0) (map (made_part (placed spelling)) ps))) ≡ parts_text ps
text-parts [] = refl
text-parts (p ∷ ps) =
    text-append (simple_spelling (simple_of p)) (flat_map (λ q. q) (map (λ q. q.0) (map (made_part (placed spelling)) ps)))
    ∙ ap (λ (t : List ℕ). simple_text (simple_of p) ++ t) (text-parts ps)

pub text-compound : (k : compound.Compound) → compound_text k ≡ text_of (type_spelling k.kind) ++ (parts_text k.parts ++ text_of (tail_spelling k.tail))
text-compound k =
    (let parts = flat_map (λ p. p) (map (λ p. p.0) (map (made_part (placed spelling)) k.parts)) in
    ap text_of (folded-Compound (placed spelling) k)
    ∙ text-append (type_spelling k.kind) (parts ++ tail_spelling k.tail)
    ∙ ap (λ (t : List ℕ). text_of (type_spelling k.kind) ++ t) (text-append parts (tail_spelling k.tail))
    ∙ ap (λ (t : List ℕ). text_of (type_spelling k.kind) ++ (t ++ text_of (tail_spelling k.tail))) (text-parts k.parts))

-- Selectors.

text-links : (dashes : Bool) (ls : List link.Link) → text_of (links_spelling dashes (map (made_link (placed spelling)) ls)) ≡ links_text dashes ls
text-links dashes [] = refl
text-links dashes (l ∷ ls) =
    (let k = compound_of l in
    let rest = links_spelling (ends_in_dashes (compound_text k)) (map (made_link (placed spelling)) ls) in
    text-append (combinator_spelling dashes (combinator_of l)) (compound_spelling k ++ rest)
    ∙ ap (λ (t : List ℕ). text_of (combinator_spelling dashes (combinator_of l)) ++ t) (text-append (compound_spelling k) rest ∙ ap (λ (t : List ℕ). compound_text k ++ t) (text-links (ends_in_dashes (compound_text k)) ls)))

pub text-selector : (s : selector.Selector) → selector_text s ≡ text_of (lead_spelling s.lead) ++ (compound_text s.first ++ links_text (ends_in_dashes (compound_text s.first)) s.rest)
text-selector s =
    (let rest = links_spelling (ends_in_dashes (compound_text s.first)) (map (made_link (placed spelling)) s.rest) in
    ap text_of (folded-Selector (placed spelling) s)
    ∙ text-append (lead_spelling s.lead) (compound_spelling s.first ++ rest)
    ∙ ap (λ (t : List ℕ). text_of (lead_spelling s.lead) ++ t) (text-append (compound_spelling s.first) rest ∙ ap (λ (t : List ℕ). compound_text s.first ++ t) (text-links (ends_in_dashes (compound_text s.first)) s.rest)))

-- Lists.

text-more : (ss : List selector.Selector) → text_of (more_spelling (map selector_spelling ss)) ≡ more_text ss
text-more [] = refl
text-more (s ∷ ss) =
    text-single kinds.Comma (codes ",") (selector_spelling s ++ more_spelling (map selector_spelling ss))
    ∙ ap (λ (t : List ℕ). codes "," ++ t) (text-append (selector_spelling s) (more_spelling (map selector_spelling ss)) ∙ ap (λ (t : List ℕ). selector_text s ++ t) (text-more ss))

pub text-list : (s : selector.Selector) (ss : List selector.Selector) → list_text (s ∷ ss) ≡ selector_text s ++ more_text ss
text-list s ss = text-append (selector_spelling s) (more_spelling (map selector_spelling ss)) ∙ ap (λ (t : List ℕ). selector_text s ++ t) (text-more ss)

-- the next selector of what is left
pub text-left : (comma : Bool) (s : selector.Selector) (ss : List selector.Selector) → left_text comma (s ∷ ss) ≡ comma_text comma ++ (selector_text s ++ more_text ss)
text-left true s ss = refl
text-left false s ss = text-list s ss
