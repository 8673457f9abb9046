-- Compounds, selectors and lists that are spelled are read again.
use Rattle.std.proofs.Common.{◌≡◌, ℕ, List, [], ◌∷◌, ◌++◌, map, Bool, true, false, not, ◌&&◌, ◌||◌, refl, sym, ap, ap₂, ◌∙◌, append_assoc}
use Rattle.std.specs.Prelude.{codes, Option, Some, None, is_some, flat_map, if◌then◌else◌}
use Rattle.std.specs.List.{AllByRecursion, list_all}
use Rattle.std.specs.Option.{option_map}
use Rattle.std.proofs.lemmas.Bool.{and_parts, false≢true}
use Rattle.std.proofs.lemmas.List.{append-nil}
use Rattle.css_tokens.specs.declared.kind.Kind.TheVariants as kinds
use Rattle.css_tokens.specs.declared.component.Component.{Component}
use Rattle.css_tokens.specs.Names.{is_name}
use Rattle.css_tokens.specs.NameText.{name_text}
use Rattle.css_tokens.specs.Trees.{is_text}
use Rattle.selector_types.specs.declared.selector.Combinator.{Combinator}
use Rattle.selector_types.specs.declared.selector.Combinator.TheVariants as combinators
use Rattle.selector_types.specs.declared.selector.Compound.{Compound}
use Rattle.selector_types.specs.declared.selector.Link as link
use Rattle.selector_types.specs.declared.selector.Part as part
use Rattle.selector_types.specs.declared.selector.Selector.{Selector}
use Rattle.selector_types.specs.declared.selector.Simple.{Simple}
use Rattle.selector_types.specs.declared.selector.Tail.{Tail}
use Rattle.selector_types.specs.declared.selector.TypeName.{TypeName}
use Rattle.selector_types.specs.declared.selector.TypeName.TheVariants as types
use Rattle.selector_tree.specs.declared.sign.Sign.{Sign}
use Rattle.selector_tree.specs.declared.sign.Sign.TheVariants.{White, Comma, Joint, Name, Star, Dot, Colon, Whole}
use Rattle.selector_types.specs.BareFold.{placed}
use Rattle.selector_types.specs.Erased.{erased, erased_simple, erased_compound, erased_part, erased_link, erased-compound, erased-selector}
use Rattle.selector_types.specs.Names.{pseudo_text}
use Rattle.selector_tree.specs.Grammar.{Body, with_part, tailed, states_of, body_of, compound_with, stripped, white_before, spaced, Runs, cut_by, run_before, runs_of, Step, stands_before, with_step, steps_of, link_of, selector_with, lead_of, behind_lead, selector_of_runs, selector_at, Mark, is_gap_sign, is_comma_sign, first_place, selector_of, Member, empty_before, with_mark, cut_at_commas, fault_place, member_reading, first_and, members_reading, marks_reading}
use Rattle.selector_tree.specs.Grammar as grammar
use Rattle.selector_types.specs.ReadableSelectors.{name_in_text, is_pseudo_text, is_readable_type, has_type, has_some, is_readable_tail, is_readable_lead, are_readable, readable, is_readable_simple, is_readable_compound, is_readable_selector}
use Rattle.selector_types.specs.SelectorFold.{made_part, made_link, simple_of, compound_of, combinator_of, folded-Compound, folded-Selector}
use Rattle.selector_tree.specs.Signs.{kind_sign}
use Rattle.selector_types.specs.Spelling.{single, delim, colon, type_spelling, state_spelling, tail_spelling, ends_in_dashes, text_of, combinator_spelling, links_spelling, lead_spelling, spelling, simple_spelling, compound_spelling, selector_spelling}
use Rattle.selector_tree.proofs.PartAgain.{Texts, signs_of, is_inner, begins_part, begins_compound, part-compound, signs-append, sign-single, spaced-inner, stripped-inner, white-inner, lead-inner, behind-inner, runs-inner, in_front, all-both, PartRead, same-text}

-- Combinators.

abbrev combinator_sign : Combinator → Sign
combinator_sign combinators.Descendant = White
combinator_sign c = Joint c

run-combinator : (c : Combinator) (runs : Runs) → run_before (combinator_sign c) runs ≡ cut_by c runs
run-combinator combinators.Descendant runs = refl
run-combinator c runs = refl

-- a combinator before a compound, and clean signs behind it
spaced-combinator : (dashes : Bool) (c : Combinator) (cs : List Component) (ks vs us : List Sign) → begins_compound ks ≡ true → signs_of cs ≡ ks ++ vs → spaced (ks ++ vs) ≡ ks ++ us
    → spaced (signs_of (combinator_spelling dashes c ++ cs)) ≡ combinator_sign c ∷ (ks ++ us)
spaced-combinator dashes combinators.Descendant cs ks vs us b e h =
    ap spaced (sign-single kinds.White (codes " ") cs ∙ ap (λ (ws : List Sign). White ∷ ws) e) ∙ ap white_before h ∙ white-inner ks us b
spaced-combinator true combinators.Child cs ks vs us b e h =
    ap spaced (sign-single kinds.White (codes " ") (delim (codes ">") ∷ cs) ∙ ap (λ (ws : List Sign). White ∷ ws) (sign-single kinds.Delim (codes ">") cs ∙ ap (λ (ws : List Sign). Joint combinators.Child ∷ ws) e))
    ∙ ap (λ (ws : List Sign). Joint combinators.Child ∷ stripped ws) h ∙ ap (λ (ws : List Sign). Joint combinators.Child ∷ ws) (stripped-inner ks us b)
spaced-combinator false combinators.Child cs ks vs us b e h =
    ap spaced (sign-single kinds.Delim (codes ">") cs ∙ ap (λ (ws : List Sign). Joint combinators.Child ∷ ws) e)
    ∙ ap (λ (ws : List Sign). Joint combinators.Child ∷ stripped ws) h ∙ ap (λ (ws : List Sign). Joint combinators.Child ∷ ws) (stripped-inner ks us b)
spaced-combinator dashes combinators.Next cs ks vs us b e h =
    ap spaced (sign-single kinds.Delim (codes "+") cs ∙ ap (λ (ws : List Sign). Joint combinators.Next ∷ ws) e)
    ∙ ap (λ (ws : List Sign). Joint combinators.Next ∷ stripped ws) h ∙ ap (λ (ws : List Sign). Joint combinators.Next ∷ ws) (stripped-inner ks us b)
spaced-combinator dashes combinators.Later cs ks vs us b e h =
    ap spaced (sign-single kinds.Delim (codes "~") cs ∙ ap (λ (ws : List Sign). Joint combinators.Later ∷ ws) e)
    ∙ ap (λ (ws : List Sign). Joint combinators.Later ∷ stripped ws) h ∙ ap (λ (ws : List Sign). Joint combinators.Later ∷ ws) (stripped-inner ks us b)

-- No comma stands in a selector.

abbrev pub no_comma : Sign → Bool
no_comma w = not (is_comma_sign w)

pub inner-comma : (ws : List Sign) → list_all is_inner ws ≡ true → list_all no_comma ws ≡ true
inner-comma [] h = refl
inner-comma (w ∷ ws) h = (let p = and_parts (is_inner w) (list_all is_inner ws) h in at w p.0 (inner-comma ws p.1))
  where
    at : (w : Sign) → is_inner w ≡ true → list_all no_comma ws ≡ true → list_all no_comma (w ∷ ws) ≡ true
    at Comma e k = absurd (false≢true e)
    at w e k = k

comma-combinator : (dashes : Bool) (c : Combinator) → list_all no_comma (signs_of (combinator_spelling dashes c)) ≡ true
comma-combinator dashes combinators.Descendant = ap (list_all no_comma) (sign-single kinds.White (codes " ") [])
comma-combinator true combinators.Child = ap (list_all no_comma) (sign-single kinds.White (codes " ") (delim (codes ">") ∷ []) ∙ ap (λ (ws : List Sign). White ∷ ws) (sign-single kinds.Delim (codes ">") []))
comma-combinator false combinators.Child = ap (list_all no_comma) (sign-single kinds.Delim (codes ">") [])
comma-combinator dashes combinators.Next = ap (list_all no_comma) (sign-single kinds.Delim (codes "+") [])
comma-combinator dashes combinators.Later = ap (list_all no_comma) (sign-single kinds.Delim (codes "~") [])

comma-append : (cs ds : List Component) → list_all no_comma (signs_of cs) ≡ true → list_all no_comma (signs_of ds) ≡ true → list_all no_comma (signs_of (cs ++ ds)) ≡ true
comma-append cs ds h k = ap (list_all no_comma) (signs-append cs ds) ∙ all-both no_comma (signs_of cs) (signs_of ds) h k

-- Tails.

states-signs : (ss : List (List ℕ)) → list_all is_pseudo_text ss ≡ true → (list_all is_inner (signs_of (flat_map state_spelling ss)) ≡ true) × (states_of (signs_of (flat_map state_spelling ss)) ≡ Some ss)
states-signs [] h = (refl, refl)
states-signs (s ∷ ss) h =
    (let p = and_parts (is_pseudo_text s) (list_all is_pseudo_text ss) h in
    let q = and_parts (is_name (name_in_text s)) (is_text (pseudo_text (name_in_text s)) s) p.0 in
    let cs = flat_map state_spelling ss in
    let e : signs_of (colon ∷ single kinds.Ident s ∷ cs) ≡ Colon 0 ∷ Name (name_in_text s) ∷ signs_of cs = sign-single kinds.Colon (codes ":") (single kinds.Ident s ∷ cs) ∙ ap (λ (ws : List Sign). Colon 0 ∷ ws) (sign-single kinds.Ident s cs) in
    let r = states-signs ss p.1 in (
      ap (list_all is_inner) e ∙ r.0,
      ap states_of e ∙ ap (option_map (λ us. pseudo_text (name_in_text s) ∷ us)) r.1 ∙ ap (λ (t : List ℕ). Some (t ∷ ss)) (same-text (pseudo_text (name_in_text s)) s q.1),
    ))

abbrev no_parts : Option Tail → Option Body
no_parts t = Some (record { parts = []; tail = t })

record TailRead (t : Option Tail) : Type 0 where
  begins : is_some t ≡ true → begins_part (signs_of (tail_spelling t)) ≡ true
  inner : list_all is_inner (signs_of (tail_spelling t)) ≡ true
  body : body_of (signs_of (tail_spelling t)) ≡ no_parts t

tail-read : (last : Bool) (t : Option Tail) → is_readable_tail last t ≡ true → TailRead t
tail-read last None h = record { begins = λ e. absurd (false≢true e); inner = refl; body = refl }
tail-read last (Some t) h =
    (let p = and_parts last (is_pseudo_text t.element && list_all is_pseudo_text t.states) h in
    let q = and_parts (is_pseudo_text t.element) (list_all is_pseudo_text t.states) p.1 in
    let n = and_parts (is_name (name_in_text t.element)) (is_text (pseudo_text (name_in_text t.element)) t.element) q.0 in
    let cs = flat_map state_spelling t.states in
    let r = states-signs t.states q.1 in
    let e : signs_of (tail_spelling (Some t)) ≡ Colon 0 ∷ Colon 0 ∷ Name (name_in_text t.element) ∷ signs_of cs =
    sign-single kinds.Colon (codes ":") (colon ∷ single kinds.Ident t.element ∷ cs)
    ∙ ap (λ (ws : List Sign). Colon 0 ∷ ws) (sign-single kinds.Colon (codes ":") (single kinds.Ident t.element ∷ cs) ∙ ap (λ (ws : List Sign). Colon 0 ∷ ws) (sign-single kinds.Ident t.element cs)) in
    record {
      begins = λ i. ap begins_part e;
      inner = ap (list_all is_inner) e ∙ r.0;
      body = ap body_of e ∙ ap (tailed (pseudo_text (name_in_text t.element))) r.1 ∙ ap (λ (u : List ℕ). tailed u (Some t.states)) (same-text (pseudo_text (name_in_text t.element)) t.element n.1);
    })

-- Types.

record TypeRead (kind : TypeName) : Type 0 where
  signs : List Sign
  are : signs_of (type_spelling kind) ≡ signs
  begins : has_type kind ≡ true → begins_compound signs ≡ true
  inner : list_all is_inner signs ≡ true
  none : has_type kind ≡ false → signs ≡ []
  whole : (ws : List Sign) → (has_type kind ≡ false → begins_part ws ≡ true) → grammar.compound_of (signs ++ ws) ≡ compound_with kind (body_of ws)

untyped-whole : (ws : List Sign) → begins_part ws ≡ true → grammar.compound_of ws ≡ compound_with types.None (body_of ws)
untyped-whole [] h = absurd (false≢true h)
untyped-whole (Name n ∷ ws) h = absurd (false≢true h)
untyped-whole (Star ∷ ws) h = absurd (false≢true h)
untyped-whole (w ∷ ws) h = refl

true≢false : true ≡ false → ⊥
true≢false e = false≢true (sym e)

type-read : Texts → (kind : TypeName) → is_readable_type kind ≡ true → TypeRead kind
type-read texts types.None h = record { signs = []; are = refl; begins = λ e. absurd (false≢true e); inner = refl; none = λ e. refl; whole = λ ws b. untyped-whole ws (b refl) }
type-read texts types.Universal h = record { signs = Star ∷ []; are = sign-single kinds.Delim (codes "*") []; begins = λ e. refl; inner = refl; none = λ e. absurd (true≢false e); whole = λ ws b. refl }
type-read texts (types.Name n) h = record {
  signs = Name n ∷ [];
  are = sign-single kinds.Ident (name_text n) [] ∙ ap (λ (m : List ℕ). Name m ∷ []) (texts.ident n h);
  begins = λ e. refl;
  inner = refl;
  none = λ e. absurd (true≢false e);
  whole = λ ws b. refl;
}

-- Compounds.

abbrev pub simples_in : List part.Part → List Bool
simples_in ps = map (λ p. p.0) (map (made_part (placed readable)) ps)

abbrev pub parts_in : List part.Part → List Component
parts_in ps = flat_map (λ p. p) (map (λ p. p.0) (map (made_part (placed spelling)) ps))

abbrev pub P : Simple → Type 0
P x = is_readable_simple x ≡ true → PartRead (erased_simple x) (simple_spelling x)

abbrev pub ks : Compound → List Sign
ks k = signs_of (compound_spelling k)

pub record CompoundRead (k : Compound) : Type 0 where
  pub begins : begins_compound (ks k) ≡ true
  pub inner : list_all is_inner (ks k) ≡ true
  pub whole : grammar.compound_of (ks k) ≡ Some (erased_compound k)

abbrev pub Q : Compound → Type 0
Q k = (last : Bool) → is_readable_compound last k ≡ true → CompoundRead k

pub compound-asks : (last : Bool) (k : Compound) → is_readable_compound last k ≡ ((has_type k.kind || (has_some (simples_in k.parts) || is_some k.tail)) && (is_readable_type k.kind && (list_all (λ p. p) (simples_in k.parts) && is_readable_tail last k.tail)))
compound-asks last k = ap (λ (f : Bool → Bool). f last) (folded-Compound (placed readable) k)

abbrev with_parts : List part.Part → Option Body → Option Body
with_parts ps o = option_map (λ b. record { parts = ps ++ b.parts; tail = b.tail }) o

more-parts : (x : Simple) (ps : List part.Part) (o : Option Body) → with_part x 0 (with_parts ps o) ≡ with_parts (part.Placed x 0 ∷ ps) o
more-parts x ps None = refl
more-parts x ps (Some b) = refl

none-parts : (o : Option Body) → o ≡ with_parts [] o
none-parts None = refl
none-parts (Some b) = refl

record PartsRead (ps : List part.Part) : Type 0 where
  begins : has_some (simples_in ps) ≡ true → (ws : List Sign) → begins_part (signs_of (parts_in ps) ++ ws) ≡ true
  none : has_some (simples_in ps) ≡ false → signs_of (parts_in ps) ≡ []
  inner : list_all is_inner (signs_of (parts_in ps)) ≡ true
  body : (ws : List Sign) → body_of (signs_of (parts_in ps) ++ ws) ≡ with_parts (map erased_part ps) (body_of ws)

begins-more : (ws vs : List Sign) → begins_part ws ≡ true → begins_part (ws ++ vs) ≡ true
begins-more [] vs h = absurd (false≢true h)
begins-more (Dot a ∷ ws) vs h = refl
begins-more (Colon a ∷ ws) vs h = refl
begins-more (Whole x a ∷ ws) vs h = refl
begins-more (w ∷ ws) vs h = absurd (false≢true h)

parts-read : (ps : List part.Part) → AllByRecursion (λ p. P (simple_of p)) ps → list_all (λ p. p) (simples_in ps) ≡ true → PartsRead ps
parts-read [] each h = record { begins = λ e. absurd (false≢true e); none = λ e. refl; inner = refl; body = λ ws. none-parts (body_of ws) }
parts-read (p ∷ ps) each h =
    (let x = simple_of p in
    let q = and_parts (is_readable_simple x) (list_all (λ p. p) (simples_in ps)) h in
    let r = each.0 q.0 in
    let more = parts-read ps each.1 q.1 in
    let us = signs_of (simple_spelling x) in
    let vs = signs_of (parts_in ps) in
    let e : signs_of (parts_in (p ∷ ps)) ≡ us ++ vs = signs-append (simple_spelling x) (parts_in ps) in
    record {
      begins = λ i ws. ap (λ (zs : List Sign). begins_part (zs ++ ws)) e ∙ ap begins_part (append_assoc us vs ws) ∙ begins-more us (vs ++ ws) r.begins;
      none = λ i. absurd (true≢false i);
      inner = ap (list_all is_inner) e ∙ all-both is_inner us vs r.inner more.inner;
      body = λ ws.
          ap (λ (zs : List Sign). body_of (zs ++ ws)) e ∙ ap body_of (append_assoc us vs ws) ∙ r.body (vs ++ ws) ∙ ap (with_part (erased_simple x) 0) (more.body ws)
          ∙ more-parts (erased_simple x) (map erased_part ps) (body_of ws);
    })

or-false : (a b : Bool) → (a || b) ≡ true → a ≡ false → b ≡ true
or-false true b h e = absurd (true≢false e)
or-false false b h e = h

-- a part or a pseudo-element stands first where there is one
rest-begins : (ps : List part.Part) (t : Option Tail) (some : Bool) → has_some (simples_in ps) ≡ some → (some || is_some t) ≡ true → PartsRead ps → TailRead t → begins_part (signs_of (parts_in ps) ++ signs_of (tail_spelling t)) ≡ true
rest-begins ps t true e h r s = r.begins e (signs_of (tail_spelling t))
rest-begins ps t false e h r s = ap (λ (ws : List Sign). begins_part (ws ++ signs_of (tail_spelling t))) (r.none e) ∙ s.begins h

compound-begins : (kind : TypeName) (typed : Bool) (ts ws : List Sign) → has_type kind ≡ typed → (has_type kind ≡ true → begins_compound ts ≡ true) → (has_type kind ≡ false → ts ≡ []) → (has_type kind ≡ false → begins_part ws ≡ true) → begins_compound (ts ++ ws) ≡ true
compound-begins kind true ts ws e b n h = more ts (b e)
  where
    more : (ts : List Sign) → begins_compound ts ≡ true → begins_compound (ts ++ ws) ≡ true
    more [] k = absurd (false≢true k)
    more (t ∷ ts) k = k
compound-begins kind false ts ws e b n h = ap (λ (us : List Sign). begins_compound (us ++ ws)) (n e) ∙ part-compound ws (h e)

pub compound-read : Texts → (k : Compound) → AllByRecursion (λ p. P (simple_of p)) k.parts → Q k
compound-read texts k each last h =
    (let simples = simples_in k.parts in
    let p = and_parts (has_type k.kind || (has_some simples || is_some k.tail)) (is_readable_type k.kind && (list_all (λ p. p) simples && is_readable_tail last k.tail)) (sym (compound-asks last k) ∙ h) in
    let q = and_parts (is_readable_type k.kind) (list_all (λ p. p) simples && is_readable_tail last k.tail) p.1 in
    let r = and_parts (list_all (λ p. p) simples) (is_readable_tail last k.tail) q.1 in
    let kind = type-read texts k.kind q.0 in
    let parts = parts-read k.parts each r.0 in
    let tail = tail-read last k.tail r.1 in
    let ps = signs_of (parts_in k.parts) in
    let ts = signs_of (tail_spelling k.tail) in
    let begins : has_type k.kind ≡ false → begins_part (ps ++ ts) ≡ true = λ e. rest-begins k.parts k.tail (has_some simples) refl (or-false (has_type k.kind) (has_some simples || is_some k.tail) p.0 e) parts tail in
    let e : ks k ≡ kind.signs ++ (ps ++ ts) =
    ap signs_of (folded-Compound (placed spelling) k)
    ∙ signs-append (type_spelling k.kind) (parts_in k.parts ++ tail_spelling k.tail)
    ∙ ap₂ (λ (us vs : List Sign). us ++ vs) kind.are (signs-append (parts_in k.parts) (tail_spelling k.tail)) in
    let body : body_of (ps ++ ts) ≡ Some (record { parts = map erased_part k.parts; tail = k.tail }) =
    parts.body ts ∙ ap (with_parts (map erased_part k.parts)) tail.body
    ∙ ap (λ (qs : List part.Part). (let made : Body = record { parts = qs; tail = k.tail } in Some made)) (append-nil (map erased_part k.parts)) in
    record {
      begins = ap begins_compound e ∙ compound-begins k.kind (has_type k.kind) kind.signs (ps ++ ts) refl kind.begins kind.none begins;
      inner = ap (list_all is_inner) e ∙ all-both is_inner kind.signs (ps ++ ts) kind.inner (all-both is_inner ps ts parts.inner tail.inner);
      whole = ap grammar.compound_of e ∙ kind.whole (ps ++ ts) begins ∙ ap (compound_with k.kind) body ∙ ap Some (sym (erased-compound k));
    })

-- a compound that is not the last has no pseudo-element
pub untailed : (k : Compound) → is_readable_compound false k ≡ true → (erased_compound k).tail ≡ None
untailed k h =
    (let simples = simples_in k.parts in
    let p = and_parts (has_type k.kind || (has_some simples || is_some k.tail)) (is_readable_type k.kind && (list_all (λ p. p) simples && is_readable_tail false k.tail)) (sym (compound-asks false k) ∙ h) in
    let q = and_parts (is_readable_type k.kind) (list_all (λ p. p) simples && is_readable_tail false k.tail) p.1 in
    let r = and_parts (list_all (λ p. p) simples) (is_readable_tail false k.tail) q.1 in
    ap (λ (m : Compound). m.tail) (erased-compound k) ∙ none k.tail r.1)
  where
    none : (t : Option Tail) → is_readable_tail false t ≡ true → t ≡ None
    none None h = refl
    none (Some t) h = absurd (false≢true h)

-- Compounds one behind another.

abbrev read_links : List link.Link → List (Combinator × (Bool → Bool))
read_links ls = map (made_link (placed readable)) ls

abbrev pub links_in : Bool → List link.Link → List Component
links_in dashes ls = links_spelling dashes (map (made_link (placed spelling)) ls)

abbrev clean_links : List link.Link → List Sign
clean_links [] = []
clean_links (l ∷ ls) = combinator_sign (combinator_of l) ∷ (ks (compound_of l) ++ clean_links ls)

abbrev link_run : link.Link → Combinator × List Sign
link_run l = (combinator_of l, ks (compound_of l))

abbrev made_step : link.Link → Step
made_step l = (combinator_of l, erased_compound (compound_of l))

pub record ChainRead (k : Compound) (ls : List link.Link) : Type 0 where
  here : CompoundRead k
  clean : (dashes : Bool) → spaced (ks k ++ signs_of (links_in dashes ls)) ≡ ks k ++ clean_links ls
  runs : runs_of (ks k ++ clean_links ls) ≡ record { first = ks k; rest = map link_run ls }
  steps : steps_of (map link_run ls) ≡ Some (map made_step ls)
  stands : stands_before (erased_compound k).tail (map made_step ls) ≡ true
  comma : (dashes : Bool) → list_all no_comma (signs_of (links_in dashes ls)) ≡ true

-- the runs of a compound and clean signs that are none or begin with a combinator
runs-front : (ws vs : List Sign) (rest : List (Combinator × List Sign)) → list_all is_inner ws ≡ true → runs_of vs ≡ record { first = []; rest = rest } → runs_of (ws ++ vs) ≡ record { first = ws; rest = rest }
runs-front ws vs rest h e =
    runs-inner ws vs h ∙ ap (in_front ws) e ∙ ap (λ (us : List Sign). (let r : Runs = record { first = us; rest = rest } in r)) (append-nil ws)

stands-end : (t : Option Tail) → stands_before t [] ≡ true
stands-end None = refl
stands-end (Some t) = refl

pub chain-end : (k : Compound) → CompoundRead k → ChainRead k []
chain-end k r = record {
  here = r;
  clean = λ dashes. spaced-inner (ks k) [] r.inner;
  runs = runs-front (ks k) [] [] r.inner refl;
  steps = refl;
  stands = stands-end (erased_compound k).tail;
  comma = λ dashes. refl;
}

with-made : (c : Combinator) (k : Compound) (steps : List Step) (b : Bool) → b ≡ true → (if b then Some ((c, k) ∷ steps) else None) ≡ Some ((c, k) ∷ steps)
with-made c k steps true e = refl
with-made c k steps false e = absurd (false≢true e)

chain-more : (k : Compound) (l : link.Link) (ls : List link.Link) → CompoundRead k → (erased_compound k).tail ≡ None → ChainRead (compound_of l) ls → ChainRead k (l ∷ ls)
chain-more k l ls r t more =
    (let c = combinator_of l in
    let m = compound_of l in
    let d = ends_in_dashes (text_of (compound_spelling m)) in
    let us = ks m ++ clean_links ls in
    let step : (dashes : Bool) → spaced (signs_of (links_in dashes (l ∷ ls))) ≡ combinator_sign c ∷ us = λ dashes.
    spaced-combinator dashes c (compound_spelling m ++ links_in d ls) (ks m) (signs_of (links_in d ls)) (clean_links ls) more.here.begins (signs-append (compound_spelling m) (links_in d ls)) (more.clean d) in
    record {
      here = r;
      clean = λ dashes. spaced-inner (ks k) (signs_of (links_in dashes (l ∷ ls))) r.inner ∙ ap (λ (ws : List Sign). ks k ++ ws) (step dashes);
      runs = runs-front (ks k) (clean_links (l ∷ ls)) (map link_run (l ∷ ls)) r.inner (run-combinator c (runs_of us) ∙ ap (cut_by c) more.runs);
      steps =
          ap₂ (λ (o : Option Compound) (ss : Option (List Step)). with_step c o ss) more.here.whole more.steps
          ∙ with-made c (erased_compound m) (map made_step ls) (stands_before (erased_compound m).tail (map made_step ls)) more.stands;
      stands = ap (λ (o : Option Tail). stands_before o (map made_step (l ∷ ls))) t;
      comma = λ dashes.
          comma-append (combinator_spelling dashes c) (compound_spelling m ++ links_in d ls) (comma-combinator dashes c)
          (comma-append (compound_spelling m) (links_in d ls) (inner-comma (ks m) more.here.inner) (more.comma d));
    })

chain-read : (k : Compound) (ls : List link.Link) → Q k → AllByRecursion (λ l. Q (compound_of l)) ls → are_readable (λ last. is_readable_compound last k) (read_links ls) ≡ true → ChainRead k ls
chain-read k [] q each h = chain-end k (q true h)
chain-read k (l ∷ ls) q each h =
    (let p = and_parts (is_readable_compound false k) (are_readable (λ last. is_readable_compound last (compound_of l)) (read_links ls)) h in
    chain-more k l ls (q false p.0) (untailed k p.0) (chain-read (compound_of l) ls each.0 each.1 p.1))

-- Selectors.

links-made : (ls : List link.Link) → map link_of (map made_step ls) ≡ map erased_link ls
links-made [] = refl
links-made (l ∷ ls) = ap (λ (ms : List link.Link). erased_link l ∷ ms) (links-made ls)

abbrev pub made_selector : Option Combinator → Compound → List link.Link → Selector
made_selector lead k ls = record { lead = lead; first = erased_compound k; rest = map erased_link ls; at = 0 }

some-where : (s : Selector) (b : Bool) → b ≡ true → (if b then Some s else None) ≡ Some s
some-where s true e = refl
some-where s false e = absurd (false≢true e)

-- compounds behind a lead
chain-selector : (lead : Option Combinator) (k : Compound) (ls : List link.Link) → ChainRead k ls → selector_of_runs 0 lead (runs_of (ks k ++ clean_links ls)) ≡ Some (made_selector lead k ls)
chain-selector lead k ls r =
    ap (selector_of_runs 0 lead) r.runs
    ∙ ap₂ (λ (o : Option Compound) (ss : Option (List Step)). selector_with 0 lead o ss) r.here.whole r.steps
    ∙ some-where (record { lead = lead; first = erased_compound k; rest = map link_of (map made_step ls); at = 0 }) (stands_before (erased_compound k).tail (map made_step ls)) r.stands
    ∙ ap (λ (ms : List link.Link). (let made : Selector = record { lead = lead; first = erased_compound k; rest = ms; at = 0 } in Some made)) (links-made ls)

abbrev read_clean : Bool → List Sign → Option Selector
read_clean nested ws = selector_of_runs 0 (lead_of nested ws) (runs_of (behind_lead nested ws))

-- without a lead
pub unled-selector : (nested dashes : Bool) (k : Compound) (ls : List link.Link) → ChainRead k ls → selector_at nested 0 (ks k ++ signs_of (links_in dashes ls)) ≡ Some (made_selector None k ls)
unled-selector nested dashes k ls r =
    (let us = ks k ++ clean_links ls in
    ap (λ (ws : List Sign). read_clean nested (stripped ws)) (r.clean dashes)
    ∙ ap (read_clean nested) (stripped-inner (ks k) (clean_links ls) r.here.begins)
    ∙ ap₂ (λ (lead : Option Combinator) (ws : List Sign). selector_of_runs 0 lead (runs_of ws)) (lead-inner nested (ks k) (clean_links ls) r.here.begins) (behind-inner nested (ks k) (clean_links ls) r.here.begins)
    ∙ chain-selector None k ls r)

-- with one
led-selector : (c : Combinator) (dashes : Bool) (k : Compound) (ls : List link.Link) → ChainRead k ls → selector_at true 0 (Joint c ∷ (ks k ++ signs_of (links_in dashes ls))) ≡ Some (made_selector (Some c) k ls)
led-selector c dashes k ls r =
    ap (λ (ws : List Sign). read_clean true (Joint c ∷ stripped ws)) (r.clean dashes)
    ∙ ap (λ (ws : List Sign). read_clean true (Joint c ∷ ws)) (stripped-inner (ks k) (clean_links ls) r.here.begins)
    ∙ chain-selector (Some c) k ls r

joint-led : (c : Combinator) (text : List ℕ) (nested dashes : Bool) (k : Compound) (ls : List link.Link) (cs : List Component) → kind_sign kinds.Delim text 0 ≡ Joint c → nested ≡ true → signs_of cs ≡ ks k ++ signs_of (links_in dashes ls) → ChainRead k ls
    → selector_at nested 0 (signs_of (delim text ∷ cs)) ≡ Some (made_selector (Some c) k ls)
joint-led c text nested dashes k ls cs j n e r =
    ap (λ (b : Bool). selector_at b 0 (signs_of (delim text ∷ cs))) n
    ∙ ap (selector_at true 0) (sign-single kinds.Delim text cs ∙ ap₂ (λ (w : Sign) (ws : List Sign). w ∷ ws) j e)
    ∙ led-selector c dashes k ls r

lead-read : (lead : Option Combinator) (nested dashes : Bool) (k : Compound) (ls : List link.Link) (cs : List Component) → is_readable_lead nested lead ≡ true → signs_of cs ≡ ks k ++ signs_of (links_in dashes ls) → ChainRead k ls
    → selector_at nested 0 (signs_of (lead_spelling lead ++ cs)) ≡ Some (made_selector lead k ls)
lead-read None nested dashes k ls cs h e r = ap (selector_at nested 0) e ∙ unled-selector nested dashes k ls r
lead-read (Some combinators.Descendant) nested dashes k ls cs h e r = absurd (false≢true h)
lead-read (Some combinators.Child) nested dashes k ls cs h e r = joint-led combinators.Child (codes ">") nested dashes k ls cs refl h e r
lead-read (Some combinators.Next) nested dashes k ls cs h e r = joint-led combinators.Next (codes "+") nested dashes k ls cs refl h e r
lead-read (Some combinators.Later) nested dashes k ls cs h e r = joint-led combinators.Later (codes "~") nested dashes k ls cs refl h e r

lead-comma : (lead : Option Combinator) → list_all no_comma (signs_of (lead_spelling lead)) ≡ true
lead-comma None = refl
lead-comma (Some c) = comma-combinator false c

-- without a lead it begins as a compound
lead-begins : (lead : Option Combinator) (cs : List Component) → is_readable_lead false lead ≡ true → begins_compound (signs_of cs) ≡ true → begins_compound (signs_of (lead_spelling lead ++ cs)) ≡ true
lead-begins None cs h b = b
lead-begins (Some combinators.Descendant) cs h b = absurd (false≢true h)
lead-begins (Some combinators.Child) cs h b = absurd (false≢true h)
lead-begins (Some combinators.Next) cs h b = absurd (false≢true h)
lead-begins (Some combinators.Later) cs h b = absurd (false≢true h)

pub record SelectorRead (s : Selector) (nested : Bool) : Type 0 where
  pub whole : selector_at nested 0 (signs_of (selector_spelling s)) ≡ Some (erased s)
  pub comma : list_all no_comma (signs_of (selector_spelling s)) ≡ true
  pub begins : nested ≡ false → begins_compound (signs_of (selector_spelling s)) ≡ true

abbrev pub R : Selector → Type 0
R s = (nested : Bool) → is_readable_selector nested s ≡ true → SelectorRead s nested

begins-front : (ws vs : List Sign) → begins_compound ws ≡ true → begins_compound (ws ++ vs) ≡ true
begins-front [] vs h = absurd (false≢true h)
begins-front (w ∷ ws) vs h = h

pub selector-read : (s : Selector) → Q s.first → AllByRecursion (λ l. Q (compound_of l)) s.rest → R s
selector-read s first each nested h =
    (let p = and_parts (is_readable_lead nested s.lead) (are_readable (λ last. is_readable_compound last s.first) (read_links s.rest)) (sym (ap (λ (f : Bool → Bool). f nested) (folded-Selector (placed readable) s)) ∙ h) in
    let r = chain-read s.first s.rest first each p.1 in
    let d = ends_in_dashes (text_of (compound_spelling s.first)) in
    let cs = compound_spelling s.first ++ links_in d s.rest in
    let e : signs_of cs ≡ ks s.first ++ signs_of (links_in d s.rest) = signs-append (compound_spelling s.first) (links_in d s.rest) in
    let f : selector_spelling s ≡ lead_spelling s.lead ++ cs = folded-Selector (placed spelling) s in
    record {
      whole = ap (λ (ds : List Component). selector_at nested 0 (signs_of ds)) f ∙ lead-read s.lead nested d s.first s.rest cs p.0 e r ∙ ap Some (sym (erased-selector s));
      comma =
          ap (λ (ds : List Component). list_all no_comma (signs_of ds)) f
          ∙ comma-append (lead_spelling s.lead) cs (lead-comma s.lead) (comma-append (compound_spelling s.first) (links_in d s.rest) (inner-comma (ks s.first) r.here.inner) (r.comma d));
      begins = λ n.
          ap (λ (ds : List Component). begins_compound (signs_of ds)) f
          ∙ lead-begins s.lead cs (ap (λ (b : Bool). is_readable_lead b s.lead) (sym n) ∙ p.0) (ap begins_compound e ∙ begins-front (ks s.first) (signs_of (links_in d s.rest)) r.here.begins);
    })
