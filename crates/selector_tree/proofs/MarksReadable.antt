-- What is read from components has a spelling that is read as it, where nothing in it cannot be written.
use Rattle.std.proofs.Common.{◌≡◌, ℕ, List, [], ◌∷◌, ◌++◌, map, Bool, true, false, not, ◌&&◌, ◌||◌, refl, sym, ap, ap₂, ◌∙◌, subst}
use Rattle.std.specs.Prelude.{codes, Option, Some, None, is_none, is_some, if◌then◌else◌, Result, Ok}
use Rattle.std.specs.List.{AllByRecursion, list_all}
use Rattle.std.specs.Option.{option_map, option_and_then}
use Rattle.std.proofs.lemmas.Bool.{and_parts, false≢true}
use Rattle.std.proofs.lemmas.List.{map-append}
use Rattle.std.proofs.lemmas.List.Folds.{list_all-append, list_all-map}
use Rattle.css_tokens.specs.declared.kind.Kind.{Kind}
use Rattle.css_tokens.specs.declared.kind.Kind.TheVariants as kinds
use Rattle.css_tokens.specs.declared.component.Component.{Component}
use Rattle.css_tokens.specs.declared.component.Component as component
use Rattle.css_tokens.specs.declared.component.Block as block
use Rattle.css_tokens.specs.Names.{is_name, name_of_word}
use Rattle.css_tokens.specs.NameText.{name_text}
use Rattle.css_tokens.specs.Piece.{Piece, word_of}
use Rattle.css_tokens.specs.Trees.{closing, is_text, pieces_of, pieces_all, words_all, pieces_of-Single, pieces_of-Block}
use Rattle.selector_types.specs.declared.selector.Attribute.{Attribute}
use Rattle.selector_types.specs.declared.selector.Compound.{Compound}
use Rattle.selector_types.specs.declared.selector.Link as link
use Rattle.selector_types.specs.declared.selector.Selector.{Selector}
use Rattle.selector_types.specs.declared.selector.Simple.{Simple}
use Rattle.selector_types.specs.declared.selector.Simple as simple
use Rattle.selector_types.specs.declared.selector.Combinator.{Combinator}
use Rattle.selector_types.specs.declared.selector.Combinator.TheVariants as combinators
use Rattle.selector_types.specs.declared.selector.Tail.{Tail}
use Rattle.selector_tree.specs.declared.sign.Callee.{Callee}
use Rattle.selector_tree.specs.declared.sign.Callee.TheVariants as callees
use Rattle.selector_tree.specs.declared.sign.Sign.TheVariants as signs
use Rattle.selector_tokens.specs.Arguments.{an_plus_b, attribute_of, lone_name}
use Rattle.selector_types.specs.BareFold.{placed, bare_selector}
use Rattle.selector_tree.specs.Grammar.{Mark}
use Rattle.selector_types.specs.Names.{is_id, lowered}
use Rattle.selector_types.specs.ReadableSelectors.{has_some, has_type, is_readable_type, is_readable_tail, is_named, is_clean, is_spelled, readable, is_readable_compound, is_readable_selector, is_readable_list, writable, is_writable_compound, is_writable_list, are_readable, is_readable_lead}
use Rattle.selector_types.specs.SelectorFold.{made_link, folded-Id, folded-Attribute, folded-Pseudo, folded-Not, folded-Is, folded-Where, folded-Parent, folded-Local, folded-Global, folded-Selector}
use Rattle.selector_tree.specs.Signs.{kind_sign, is_comment_kind, token_before, tokens_of, read, list_in, is_gap, forgiving_list, has_no_link, lone_compound, compound_in, argued, callee_of, call_by, attribute_sign, opened_sign, mark_of, list_reading, mark_of-Single, mark_of-Block}
use Rattle.selector_tree.proofs.NamesAgain.{name-kept}
use Rattle.selector_tree.proofs.SelectorAgain.{simples_in, compound-asks}
use Rattle.selector_tree.proofs.SignsReadable.{SimpleGood, SignGood, SelectorGood, ListGood, MarkSigns, foreign-good, list-good}
use Rattle.selector_tree.proofs.StepReadable.{IsStep, step-readable}
use Rattle.selector_tree.proofs.TokensReadable.{AreGood, AttributeGood, CalleeGood, IsGood, IsName, Meanings, OfSome, attribute-good, callee-good, lone_name-good, some-also, some-map, some-then}
use Rattle.selector_types.proofs.TreePlaces.{Each, by_components}

-- Marks whose sign is good, and whose token means what can be written.

abbrev MarkGood : Mark → Type 0
MarkGood m = SignGood m.sign × OfSome IsGood m.token

abbrev MarksGood : List Mark → Type 0
MarksGood ms = AllByRecursion MarkGood ms

good-signs : (ms : List Mark) → MarksGood ms → MarkSigns ms
good-signs [] h = tt
good-signs (m ∷ ms) h = (h.0.0, good-signs ms h.1)

before-good : (t : Option Piece) (o : Option (List Piece)) → OfSome IsGood t → OfSome AreGood o → OfSome AreGood (token_before t o)
before-good None o g h = tt
before-good (Some p) o g h = at (is_comment_kind p.kind)
  where
    at : (b : Bool) → OfSome AreGood (if b then o else option_map (λ qs. p ∷ qs) o)
    at true = h
    at false = some-map AreGood AreGood (λ qs. p ∷ qs) (λ qs k. (g, k)) o h

tokens-good : (ms : List Mark) → MarksGood ms → OfSome AreGood (tokens_of ms)
tokens-good [] h = tt
tokens-good (m ∷ ms) h = before-good m.token (tokens_of ms) h.0.1 (tokens-good ms h.1)

-- Simple selectors.

id-good : (name : List ℕ) (at : ℕ) (b : Bool) → (not b || is_name name) ≡ true → SignGood (if b then signs.Whole (simple.Id name) at else signs.Other)
id-good name at true h = λ w. folded-Id (placed readable) name ∙ h
id-good name at false h = tt

parent-good : SimpleGood simple.Parent
parent-good w = folded-Parent (placed readable)

delim-good : (a b c d e f : Bool) (at : ℕ)
    → SignGood (if a then signs.Joint combinators.Child else (if b then signs.Joint combinators.Next else (if c then signs.Joint combinators.Later else (if d then signs.Star else (if e then signs.Dot at else (if f then signs.Whole simple.Parent at else signs.Other))))))
delim-good true b c d e f at = refl
delim-good false true c d e f at = refl
delim-good false false true d e f at = refl
delim-good false false false true e f at = tt
delim-good false false false false true f at = tt
delim-good false false false false false true at = parent-good
delim-good false false false false false false at = tt

kind-good : (k : Kind) (text : List ℕ) (at : ℕ) → is_named k text ≡ true → SignGood (kind_sign k text at)
kind-good kinds.Ident text at h = h
kind-good kinds.Hash text at h = id-good (name_of_word kinds.Hash text) at (is_id text) h
kind-good kinds.Delim text at h = delim-good (is_text text (codes ">")) (is_text text (codes "+")) (is_text text (codes "~")) (is_text text (codes "*")) (is_text text (codes ".")) (is_text text (codes "&")) at
kind-good k text at h = tt

attribute-simple : (a : Attribute) → AttributeGood a → SimpleGood (simple.Attribute a)
attribute-simple a h w = folded-Attribute (placed readable) a ∙ ap₂ ◌&&◌ h.0 (ap₂ ◌&&◌ (sym (folded-Attribute (placed writable) a) ∙ w) h.1)

attribute-sign : (at : ℕ) (o : Option Attribute) → OfSome AttributeGood o → SignGood (attribute_sign at o)
attribute-sign at None h = tt
attribute-sign at (Some a) h = attribute-simple a h

-- Lists in pseudo-classes.

written-list : (ss : List Selector) → list_all (λ s. s) (map (bare_selector writable) ss) ≡ is_writable_list ss
written-list ss = list_all-map (λ (s : Bool). s) (bare_selector writable) ss

each-readable : (ss : List Selector) → list_all (λ s. s false) (map (bare_selector readable) ss) ≡ list_all (is_readable_selector false) ss
each-readable ss = list_all-map (λ (s : Bool → Bool). s false) (bare_selector readable) ss

some-alike : (ss : List Selector) → has_some (map (bare_selector readable) ss) ≡ has_some ss
some-alike [] = refl
some-alike (s ∷ ss) = refl

not-good : (ss : List Selector) → ListGood false ss → SimpleGood (simple.Not ss)
not-good ss h w =
    (let p = and_parts (has_some ss) (list_all (is_readable_selector false) ss) (h (sym (written-list ss) ∙ sym (folded-Not (placed writable) ss) ∙ w)) in
    folded-Not (placed readable) ss ∙ ap₂ ◌&&◌ (some-alike ss ∙ p.0) (each-readable ss ∙ p.1))

-- the same of a list that may be empty
abbrev EachGood : List Selector → Type 0
EachGood ss = is_writable_list ss ≡ true → list_all (is_readable_selector false) ss ≡ true

is-good : (ss : List Selector) → EachGood ss → SimpleGood (simple.Is ss)
is-good ss h w = folded-Is (placed readable) ss ∙ each-readable ss ∙ h (sym (written-list ss) ∙ sym (folded-Is (placed writable) ss) ∙ w)

where-good : (ss : List Selector) → EachGood ss → SimpleGood (simple.Where ss)
where-good ss h w = folded-Where (placed readable) ss ∙ each-readable ss ∙ h (sym (written-list ss) ∙ sym (folded-Where (placed writable) ss) ∙ w)

each-good : (ss : List Selector) → ListGood false ss → EachGood ss
each-good ss h w = (and_parts (has_some ss) (list_all (is_readable_selector false) ss) (h w)).1

-- Compounds in pseudo-classes.

abbrev AloneGood : Compound → Type 0
AloneGood k = is_writable_compound k ≡ true → is_readable_compound false k ≡ true

-- a compound without a pseudo-element need not be the last one
not-last : (k : Compound) → is_none k.tail ≡ true → is_readable_compound true k ≡ true → is_readable_compound false k ≡ true
not-last k n h =
    compound-asks false k
    ∙ ap (λ (b : Bool). (has_type k.kind || (has_some (simples_in k.parts) || is_some k.tail)) && (is_readable_type k.kind && (list_all (λ p. p) (simples_in k.parts) && b))) (alike k.tail n)
    ∙ sym (compound-asks true k) ∙ h
  where
    alike : (t : Option Tail) → is_none t ≡ true → is_readable_tail false t ≡ is_readable_tail true t
    alike None e = refl
    alike (Some t) e = absurd (false≢true e)

first-readable : (k : Compound) (ls : List link.Link) → has_no_link ls ≡ true → are_readable (λ last. is_readable_compound last k) (map (made_link (placed readable)) ls) ≡ true → is_readable_compound true k ≡ true
first-readable k [] n h = h
first-readable k (l ∷ ls) n h = absurd (false≢true n)

first-written : (k : Compound) (ls : List link.Link) → has_no_link ls ≡ true → is_writable_compound k ≡ true → (is_writable_compound k && list_all (λ (l : Combinator × Bool). l.1) (map (made_link (placed writable)) ls)) ≡ true
first-written k [] n h = ap₂ ◌&&◌ h refl
first-written k (l ∷ ls) n h = absurd (false≢true n)

alone-selector : (s : Selector) → (is_none s.first.tail && has_no_link s.rest) ≡ true → SelectorGood false s → AloneGood s.first
alone-selector s e g w =
    (let p = and_parts (is_none s.first.tail) (has_no_link s.rest) e in
    let r = g (folded-Selector (placed writable) s ∙ first-written s.first s.rest p.1 w) in
    let q = and_parts (is_readable_lead false s.lead) (are_readable (λ last. is_readable_compound last s.first) (map (made_link (placed readable)) s.rest)) (sym (ap (λ (f : Bool → Bool). f false) (folded-Selector (placed readable) s)) ∙ r) in
    not-last s.first p.0 (first-readable s.first s.rest p.1 q.1))

lone-good : (ss : List Selector) → ListGood false ss → OfSome AloneGood (lone_compound ss)
lone-good [] h = tt
lone-good (s ∷ []) h = at (is_none s.first.tail && has_no_link s.rest) refl
  where
    one : SelectorGood false s
    one w = (and_parts (is_readable_selector false s) true (h (ap₂ ◌&&◌ w refl))).0

    at : (b : Bool) → b ≡ (is_none s.first.tail && has_no_link s.rest) → OfSome AloneGood (if b then Some s.first else None)
    at true e = alone-selector s (sym e) one
    at false e = tt
lone-good (s ∷ t ∷ ss) h = tt

local-good : (k : Compound) → AloneGood k → SimpleGood (simple.Local k)
local-good k h w = folded-Local (placed readable) k ∙ h (sym (folded-Local (placed writable) k) ∙ w)

global-good : (k : Compound) → AloneGood k → SimpleGood (simple.Global k)
global-good k h w = folded-Global (placed readable) k ∙ h (sym (folded-Global (placed writable) k) ∙ w)

-- Functions.

module _ (means : Meanings) where
  list-in-good : (ms : List Mark) → MarksGood ms → OfSome (ListGood false) (list_in ms)
  list-in-good ms h = list-good means false 0 ms (good-signs ms h)

  forgiving-good : (ms : List Mark) → MarksGood ms → OfSome EachGood (forgiving_list ms)
  forgiving-good ms h = at (list_all (λ m. is_gap m.token) ms)
    where
      at : (b : Bool) → OfSome EachGood (if b then Some [] else list_in ms)
      at true = λ w. refl
      at false = some-also (ListGood false) EachGood each-good (list_in ms) (list-in-good ms h)

  compound-in-good : (ms : List Mark) → MarksGood ms → OfSome AloneGood (compound_in ms)
  compound-in-good ms h = some-then (ListGood false) AloneGood lone_compound lone-good (list_in ms) (list-in-good ms h)

  step-argued : (name : List ℕ) (o : Option (List ℕ)) → CalleeGood callees.Step name → IsStep o → SimpleGood (argued name o)
  step-argued name None g h = foreign-good
  step-argued name (Some a) g h = λ w. folded-Pseudo (placed readable) (name ++ (codes "(" ++ (a ++ codes ")"))) ∙ g a h

  name-argued : (name : List ℕ) (o : Option (List ℕ)) → CalleeGood callees.Lang name → OfSome IsName o → SimpleGood (argued name (option_map name_text o))
  name-argued name None g h = foreign-good
  name-argued name (Some n) g h = λ w. folded-Pseudo (placed readable) (name ++ (codes "(" ++ (name_text n ++ codes ")"))) ∙ g (name_text n) (name-kept means.ident n h)

  then-step : (o : Option (List Piece)) → IsStep (option_and_then an_plus_b o)
  then-step None = tt
  then-step (Some ps) = step-readable ps

  call-good : (callee : Callee) (name : List ℕ) (ms : List Mark) → CalleeGood callee name → MarksGood ms → OfSome SimpleGood (call_by callee name ms)
  call-good callees.Not name ms g h = some-map (ListGood false) SimpleGood (λ ss. simple.Not ss) not-good (list_in ms) (list-in-good ms h)
  call-good callees.Is name ms g h = some-map EachGood SimpleGood (λ ss. simple.Is ss) is-good (forgiving_list ms) (forgiving-good ms h)
  call-good callees.Where name ms g h = some-map EachGood SimpleGood (λ ss. simple.Where ss) where-good (forgiving_list ms) (forgiving-good ms h)
  call-good callees.Local name ms g h = some-map AloneGood SimpleGood (λ k. simple.Local k) local-good (compound_in ms) (compound-in-good ms h)
  call-good callees.Global name ms g h = some-map AloneGood SimpleGood (λ k. simple.Global k) global-good (compound_in ms) (compound-in-good ms h)
  call-good callees.Step name ms g h = step-argued name (option_and_then an_plus_b (tokens_of ms)) g (then-step (tokens_of ms))
  call-good callees.Lang name ms g h = name-argued name (option_and_then lone_name (tokens_of ms)) g (some-then AreGood IsName lone_name lone_name-good (tokens_of ms) (tokens-good ms h))
  call-good callees.Other name ms g h = foreign-good

  opened-good : (k : Kind) (text : List ℕ) (at : ℕ) (ms : List Mark) → MarksGood ms → SignGood (opened_sign k text at ms)
  opened-good kinds.Function text at ms h = (let name = lowered (name_of_word kinds.Function text) in call-good (callee_of name) name ms (callee-good name) h)
  opened-good kinds.Open text at ms h = by (is_text text (codes "["))
    where
      by : (b : Bool) → SignGood (if b then attribute_sign at (option_and_then attribute_of (tokens_of ms)) else signs.Other)
      by true = attribute-sign at (option_and_then attribute_of (tokens_of ms)) (some-then AreGood AttributeGood attribute_of attribute-good (tokens_of ms) (tokens-good ms h))
      by false = tt
  opened-good k text at ms h = tt

  -- Components.

  abbrev are_spelled : List Piece → Bool
  are_spelled ps = list_all is_spelled (map word_of ps)

  spelled-append : (ps qs : List Piece) → are_spelled (ps ++ qs) ≡ true → (are_spelled ps ≡ true) × (are_spelled qs ≡ true)
  spelled-append ps qs h = and_parts (are_spelled ps) (are_spelled qs) (sym (ap (list_all is_spelled) (map-append word_of ps qs) ∙ list_all-append is_spelled (map word_of ps) (map word_of qs)) ∙ h)

  abbrev ComponentGood : Component → Type 0
  ComponentGood c = are_spelled (pieces_of c) ≡ true → MarkGood (mark_of c)

  token-good : (p : Piece) → ComponentGood (component.Single p)
  token-good p h =
      (let g : IsGood p = (and_parts (is_spelled (word_of p)) true (ap are_spelled (sym (pieces_of-Single p)) ∙ h)).0 in
      subst MarkGood (sym (mark_of-Single p)) (kind-good p.kind p.text p.at (and_parts (is_clean p.text) (is_named p.kind p.text) g).1, g))

  marks-good : (cs : List Component) → Each ComponentGood cs → are_spelled (pieces_all cs) ≡ true → MarksGood (map mark_of cs)
  marks-good [] each h = tt
  marks-good (c ∷ cs) each h = (let p = spelled-append (pieces_of c) (pieces_all cs) h in (each.0 p.0, marks-good cs each.1 p.1))

  block-good : (b : block.Block) → Each ComponentGood b.items → ComponentGood (component.Block b)
  block-good b each h =
      (let e : are_spelled (b.opening ∷ (pieces_all b.items ++ closing b.opening b.close ∷ [])) ≡ true = ap are_spelled (sym (pieces_of-Block b)) ∙ h in
      let p = and_parts (is_spelled (word_of b.opening)) (are_spelled (pieces_all b.items ++ closing b.opening b.close ∷ [])) e in
      let q = spelled-append (pieces_all b.items) (closing b.opening b.close ∷ []) p.1 in
      subst MarkGood (sym (mark_of-Block b)) (opened-good b.opening.kind b.opening.text b.opening.at (map mark_of b.items) (marks-good b.items each q.0), tt))

  component-good : (c : Component) → ComponentGood c
  component-good = by_components ComponentGood token-good block-good

  each-component : (cs : List Component) → Each ComponentGood cs
  each-component [] = tt
  each-component (c ∷ cs) = (component-good c, each-component cs)

  -- what is read of words that mean what can be written has a spelling that is read as it, where it can be written
  pub reading-readable : (nested : Bool) (cs : List Component) (end : ℕ) (ss : List Selector) → list_all is_spelled (words_all cs) ≡ true → list_reading nested cs end ≡ Ok ss → is_writable_list ss ≡ true → is_readable_list nested ss ≡ true
  reading-readable nested cs end ss h e w =
      (let ms = map mark_of cs in
      subst (λ (r : Result (List Selector) ℕ). OfSome (ListGood nested) (read r)) e (list-good means nested end ms (good-signs ms (marks-good cs (each-component cs) h))) w)
