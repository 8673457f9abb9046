-- Older browsers read selectors in which nothing stands that cannot be expressed, and nothing that waits for a later stage.
use Rattle.std.specs.Prelude.{ℕ, List, [], ◌∷◌, ◌++◌, flat_map, Bool, true, false, not, ◌&&◌, ◌||◌, Option, Some, None, ◌≡◌, if◌then◌else◌, is_none}
use Rattle.std.specs.List.{AllByRecursion, list_all}
use Rattle.std.specs.Option.{option_map_or}
use Rattle.std.proofs.Common.{refl, sym, subst, ◌∙◌, ap}
use Rattle.std.proofs.lemmas.Bool.{false≢true}
use Rattle.std.proofs.lemmas.List.Folds.{list_all-append}
use Rattle.selector_types.specs.declared.selector.Combinator.{Combinator}
use Rattle.selector_types.specs.declared.selector.Compound as compound
use Rattle.selector_types.specs.declared.selector.Link as link
use Rattle.selector_types.specs.declared.selector.Link.TheOpen.{Class, Id, Attribute, Pseudo, Not, Is, Where, Parent, Local, Global, Foreign}
use Rattle.selector_types.specs.declared.selector.Part as part
use Rattle.selector_types.specs.declared.selector.Selector as selector
use Rattle.selector_types.specs.declared.selector.Simple.{Simple}
use Rattle.selector_types.specs.declared.selector.Simple as simple
use Rattle.selector_types.specs.declared.selector.Simple.TheVariants.{outs-Class, outs-Id, outs-Attribute, outs-Pseudo, outs-Not, outs-Is, outs-Where, outs-Parent, outs-Local, outs-Global, outs-Foreign}
use Rattle.selector_types.specs.declared.selector.TypeName.{TypeName}
use Rattle.selector_types.specs.declared.selector.TypeName.TheVariants as types
use Rattle.selector_types.specs.LoneSimples.{Opened, alone, is_basic, is_one, is_one_of, is_one_scopable, is_one_simple, is_scopable, opens_scoped}
use Rattle.selector_types.specs.PartsFound.{within, parts-Class, parts-Id, parts-Attribute, parts-Pseudo, parts-Not, parts-Compound, parts-Selector}
use Rattle.selector_types.specs.PartsWithin.{simple_parts, compound_parts, selector_parts, list_parts}
use Rattle.selector_types.specs.SelectorFold.{simple_of, compound_of}
use Rattle.selector_types.specs.SelectorInduction.{Cases, by_lists}
use Rattle.css_rules.specs.PlainRules.{is_unled, is_waiting, is_waiting_part, none_waits, opens_waiting}
use Rattle.css_places.specs.declared.finding.Code.{Code}
use Rattle.css_places.specs.declared.finding.Code.TheVariants.{X6, X7, X11}
use Rattle.target_check.specs.Targets.{is_old_opened, is_old_part, is_old_selector, is_old_simple}
use Rattle.findings.specs.Constructs.{code_of, code_opened, list_findings}
use Rattle.findings.proofs.Whole.{Bare, bare-back, bare-front, both, uncoded, unflagged}

left : (a b : Bool) → (a && b) ≡ true → a ≡ true
left true b h = refl
left false b h = absurd (false≢true h)

right : (a b : Bool) → (a && b) ≡ true → b ≡ true
right true b h = h
right false b h = absurd (false≢true h)

abbrev all_old : List part.Part → Bool
all_old ps = list_all is_old_part ps

old-append : (ps qs : List part.Part) → all_old ps ≡ true → all_old qs ≡ true → all_old (ps ++ qs) ≡ true
old-append ps qs h k = list_all-append is_old_part ps qs ∙ both (all_old ps) (all_old qs) h k

-- A list that is one simple selector.

scoped-code : (v : Opened) → opens_scoped v ≡ true → code_opened v ≡ Some X11
scoped-code (Local k) h = refl
scoped-code (Global k) h = refl
scoped-code (Class name) h = absurd (false≢true h)
scoped-code (Id name) h = absurd (false≢true h)
scoped-code (Attribute a) h = absurd (false≢true h)
scoped-code (Pseudo text) h = absurd (false≢true h)
scoped-code (Not ss) h = absurd (false≢true h)
scoped-code (Is ss) h = absurd (false≢true h)
scoped-code (Where ss) h = absurd (false≢true h)
scoped-code Parent h = absurd (false≢true h)
scoped-code Foreign h = absurd (false≢true h)

-- what has no code is neither `:local(..)` nor `:global(..)`
basic-one : (x : Simple) → code_of x ≡ None → is_scopable x ≡ true → is_basic x ≡ true
basic-one x none h = by (is_basic x) refl
  where
    by : (b : Bool) → is_basic x ≡ b → b ≡ true
    by true is = refl
    by false is =
        let scoped = scoped-code (simple.out-Simple x) (sym (ap (λ c. c || opens_scoped (simple.out-Simple x)) is) ∙ h) in
        let clash : None ≡ Some X11 = sym none ∙ scoped in
        absurd (cc clash)

-- the code of `:not` is none where its list is one simple selector
scopable-list : (b : Bool) → (if b then None else Some X7) ≡ None → b ≡ true
scopable-list true h = refl
scopable-list false h = absurd (cc h)

-- a code where none stands
no_code : (o : Option Code) (code : Code) → o ≡ None → o ≡ Some code → ⊥
no_code o code h k = let clash : None ≡ Some code = sym h ∙ k in cc clash

module _ (file : ℕ) where
  -- nothing stands in these parts, and none waits
  record Fine (ps : List part.Part) : Type 0 where
    bare : Bare file ps
    ready : none_waits ps ≡ true

  front : (ps qs : List part.Part) → Fine (ps ++ qs) → Fine ps
  front ps qs fine = record {
    bare = bare-front file ps qs fine.bare;
    ready = left (none_waits ps) (none_waits qs) (sym (list_all-append (λ p. not (is_waiting_part p)) ps qs) ∙ fine.ready);
  }

  back : (ps qs : List part.Part) → Fine (ps ++ qs) → Fine qs
  back ps qs fine = record {
    bare = bare-back file ps qs fine.bare;
    ready = right (none_waits ps) (none_waits qs) (sym (list_all-append (λ p. not (is_waiting_part p)) ps qs) ∙ fine.ready);
  }

  one-of : (kind : TypeName) (ps : List part.Part) → is_one_of is_scopable kind ps ≡ true → Bare file (flat_map within ps) → is_one_of is_basic kind ps ≡ true
  one-of types.Universal [] h bare = h
  one-of types.Universal (p ∷ ps) h bare = h
  one-of (types.Name n) [] h bare = h
  one-of (types.Name n) (p ∷ ps) h bare = h
  one-of types.None [] h bare = h
  one-of types.None (part.Placed x at ∷ []) h bare = basic-one x (uncoded file x at (simple_parts x ++ []) bare) h
  one-of types.None (p ∷ q ∷ ps) h bare = h

  one-compound : (k : compound.Compound) → is_one is_scopable k ≡ true → Bare file (compound_parts k) → is_one is_basic k ≡ true
  one-compound k h bare =
      both (is_none k.tail) (is_one_of is_basic k.kind k.parts)
      (left (is_none k.tail) (is_one_of is_scopable k.kind k.parts) h)
      (one-of k.kind k.parts (right (is_none k.tail) (is_one_of is_scopable k.kind k.parts) h) (subst (Bare file) (parts-Compound k) bare))

  one-alone : (lead : Option Combinator) (rest : List link.Link) (k : compound.Compound) → option_map_or (is_one is_scopable) (alone lead rest k) false ≡ true → Bare file (compound_parts k)
      → option_map_or (is_one is_basic) (alone lead rest k) false ≡ true
  one-alone None [] k h bare = one-compound k h bare
  one-alone None (l ∷ ls) k h bare = h
  one-alone (Some c) ls k h bare = h

  one-list : (ss : List selector.Selector) → is_one_scopable ss ≡ true → Bare file (list_parts ss) → is_one_simple ss ≡ true
  one-list [] h bare = h
  one-list (s ∷ t ∷ ss) h bare = h
  one-list (s ∷ []) h bare =
      let parts = subst (Bare file) (parts-Selector s) (bare-front file (selector_parts s) [] bare) in
      one-alone s.lead s.rest s.first h (bare-front file (compound_parts s.first) (flat_map (λ l. compound_parts (compound_of l)) s.rest) parts)

  -- What is shown of each.

  abbrev P : Simple → Type 0
  P x = (at : ℕ) → Fine (part.Placed x at ∷ simple_parts x) → all_old (part.Placed x at ∷ simple_parts x) ≡ true

  abbrev Q : compound.Compound → Type 0
  Q k = Fine (compound_parts k) → all_old (compound_parts k) ≡ true

  abbrev R : selector.Selector → Type 0
  R s = Fine (selector_parts s) → all_old (selector_parts s) ≡ true

  code-none : (x : Simple) (at : ℕ) → Fine (part.Placed x at ∷ simple_parts x) → code_of x ≡ None
  code-none x at fine = uncoded file x at (simple_parts x) fine.bare

  -- a simple selector that waits does not stand there
  no_wait : (x : Simple) (at : ℕ) → Fine (part.Placed x at ∷ simple_parts x) → is_waiting x ≡ true → ⊥
  no_wait x at fine waits =
      let ready = left (not (is_waiting x)) (none_waits (simple_parts x)) fine.ready in
      let clash : false ≡ true = sym (ap not waits) ∙ ready in
      false≢true clash

  both-old : (x : Simple) → is_old_simple x ≡ true → all_old (simple_parts x) ≡ true → (is_old_simple x && all_old (simple_parts x)) ≡ true
  both-old x h k = both (is_old_simple x) (all_old (simple_parts x)) h k

  members : (ss : List selector.Selector) → AllByRecursion R ss → Fine (list_parts ss) → all_old (list_parts ss) ≡ true
  members [] each fine = refl
  members (s ∷ ss) each fine =
      old-append (selector_parts s) (list_parts ss)
      (each.0 (front (selector_parts s) (list_parts ss) fine))
      (members ss each.1 (back (selector_parts s) (list_parts ss) fine))

  parts : (ps : List part.Part) → AllByRecursion (λ p. P (simple_of p)) ps → Fine (flat_map within ps) → all_old (flat_map within ps) ≡ true
  parts [] each fine = refl
  parts (part.Placed x at ∷ ps) each fine =
      let here = part.Placed x at ∷ simple_parts x in
      old-append here (flat_map within ps)
      (each.0 at (front here (flat_map within ps) fine))
      (parts ps each.1 (back here (flat_map within ps) fine))

  links : (ls : List link.Link) → AllByRecursion (λ l. Q (compound_of l)) ls → Fine (flat_map (λ l. compound_parts (compound_of l)) ls) → all_old (flat_map (λ l. compound_parts (compound_of l)) ls) ≡ true
  links [] each fine = refl
  links (l ∷ ls) each fine =
      let rest = flat_map (λ l. compound_parts (compound_of l)) ls in
      old-append (compound_parts (compound_of l)) rest
      (each.0 (front (compound_parts (compound_of l)) rest fine))
      (links ls each.1 (back (compound_parts (compound_of l)) rest fine))

  not-old : (ss : List selector.Selector) → AllByRecursion R ss → P (simple.Not ss)
  not-old ss each at fine =
      let none = sym (ap code_opened (outs-Not ss)) ∙ code-none (simple.Not ss) at fine in
      let within = subst Fine (parts-Not ss) (back (part.Placed (simple.Not ss) at ∷ []) (simple_parts (simple.Not ss)) fine) in
      both-old (simple.Not ss)
      (ap is_old_opened (outs-Not ss) ∙ one-list ss (scopable-list (is_one_scopable ss) none) within.bare)
      (ap all_old (parts-Not ss) ∙ members ss each within)

  cases : Cases P Q R
  cases = record {
    class = λ n at fine. both-old (simple.Class n) (ap is_old_opened (outs-Class n)) (ap all_old (parts-Class n));
    id = λ n at fine. both-old (simple.Id n) (ap is_old_opened (outs-Id n)) (ap all_old (parts-Id n));
    attribute = λ a at fine. both-old (simple.Attribute a) (ap is_old_opened (outs-Attribute a) ∙ unflagged file a (code-none (simple.Attribute a) at fine)) (ap all_old (parts-Attribute a));
    pseudo = λ n at fine. both-old (simple.Pseudo n) (ap is_old_opened (outs-Pseudo n)) (ap all_old (parts-Pseudo n));
    not_of = not-old;
    is_of = λ ss each at fine. absurd (no_wait (simple.Is ss) at fine (ap opens_waiting (outs-Is ss)));
    where_of = λ ss each at fine. absurd (no_code (code_of (simple.Where ss)) X6 (code-none (simple.Where ss) at fine) (ap code_opened (outs-Where ss)));
    parent = λ at fine. absurd (no_wait simple.Parent at fine (ap opens_waiting outs-Parent));
    local = λ k same at fine. absurd (no_code (code_of (simple.Local k)) X11 (code-none (simple.Local k) at fine) (ap code_opened (outs-Local k)));
    global = λ k same at fine. absurd (no_code (code_of (simple.Global k)) X11 (code-none (simple.Global k) at fine) (ap code_opened (outs-Global k)));
    foreign = λ at fine. absurd (no_code (code_of simple.Foreign) X11 (code-none simple.Foreign at fine) (ap code_opened outs-Foreign));
    compound = λ k each fine. ap all_old (parts-Compound k) ∙ parts k.parts each (subst Fine (parts-Compound k) fine);
    selector = λ s first each fine.
        let rest = flat_map (λ l. compound_parts (compound_of l)) s.rest in
        let both_parts = subst Fine (parts-Selector s) fine in
        ap all_old (parts-Selector s)
        ∙ old-append (compound_parts s.first) rest (first (front (compound_parts s.first) rest both_parts)) (links s.rest each (back (compound_parts s.first) rest both_parts));
  }

  all-old : (ss : List selector.Selector) → AllByRecursion R ss → Fine (list_parts ss) → list_all is_unled ss ≡ true → list_all is_old_selector ss ≡ true
  all-old [] each fine unled = refl
  all-old (s ∷ ss) each fine unled =
      both (is_old_selector s) (list_all is_old_selector ss)
      (both (is_none s.lead) (all_old (selector_parts s)) (left (is_unled s) (list_all is_unled ss) unled) (each.0 (front (selector_parts s) (list_parts ss) fine)))
      (all-old ss each.1 (back (selector_parts s) (list_parts ss) fine) (right (is_unled s) (list_all is_unled ss) unled))

pub list-old : (file : ℕ) (ss : List selector.Selector) → list_findings file ss ≡ [] → list_all is_unled ss ≡ true → none_waits (list_parts ss) ≡ true → list_all is_old_selector ss ≡ true
list-old file ss none unled ready = all-old file ss (by_lists (P file) (Q file) (R file) (cases file) ss) (record { bare = none; ready = ready }) unled
