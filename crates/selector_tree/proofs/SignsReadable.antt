-- What is read from signs has a spelling that is read as it, where nothing in it cannot be written.
use Rattle.std.proofs.Common.{◌≡◌, ℕ, List, [], ◌∷◌, map, Bool, true, false, ◌&&◌, ◌||◌, refl, sym, ap, ap₂, ◌∙◌, subst}
use Rattle.std.specs.Prelude.{Option, Some, None, is_some, unwrap_or, if◌then◌else◌, Result}
use Rattle.std.specs.List.{AllByRecursion, list_all}
use Rattle.std.proofs.lemmas.Bool.{and_parts, false≢true}
use Rattle.selector_types.specs.declared.selector.Combinator.{Combinator}
use Rattle.selector_types.specs.declared.selector.TypeName.{TypeName}
use Rattle.selector_types.specs.declared.selector.TypeName.TheVariants as types
use Rattle.selector_types.specs.declared.selector.Simple.{Simple}
use Rattle.selector_types.specs.declared.selector.Simple as simple
use Rattle.selector_types.specs.declared.selector.Part as part
use Rattle.selector_types.specs.declared.selector.Tail.{Tail}
use Rattle.selector_types.specs.declared.selector.Compound.{Compound}
use Rattle.selector_types.specs.declared.selector.Selector.{Selector}
use Rattle.selector_tree.specs.declared.sign.Sign.{Sign}
use Rattle.selector_tree.specs.declared.sign.Sign.TheVariants.{Comment, White, Joint, Name, Star, Dot, Colon, Whole, Call}
use Rattle.selector_types.specs.BareFold.{BareSteps, placed, bare_compound}
use Rattle.selector_types.specs.Names.{is_old_element, pseudo_text}
use Rattle.selector_tree.specs.Grammar.{Body, with_part, tailed, states_of, body_of, compound_with, stripped, white_before, sign_before, spaced, Runs, run_before, runs_of, Step, stands_before, with_step, steps_of, link_of, selector_with, lead_of, behind_lead, selector_of_runs, selector_at, Mark, is_comma_sign, first_place, selector_of, Member, empty_before, with_mark, cut_at_commas, fault_place, member_reading, first_and, members_reading, marks_reading}
use Rattle.selector_tree.specs.Grammar as grammar
use Rattle.selector_types.specs.ReadableSelectors.{is_pseudo_text, is_readable_type, has_type, has_some, is_readable_tail, is_readable_lead, are_readable, readable, is_readable_simple, is_readable_compound, is_readable_selector, is_readable_list, writable, is_writable_simple, is_writable_compound, is_writable_selector, is_writable_list}
use Rattle.selector_types.specs.SameErased.{linked}
use Rattle.selector_types.specs.SelectorFold.{made_part, made_link, simple_of, folded-Class, folded-Pseudo, folded-Foreign, folded-Compound, folded-Selector}
use Rattle.selector_tree.specs.Signs.{read}
use Rattle.selector_tree.proofs.NamesAgain.{pseudo-kept}
use Rattle.selector_tree.proofs.SelectorAgain.{simples_in, compound-asks}
use Rattle.selector_tree.proofs.SignPlaces.{both_read, read-first}
use Rattle.selector_tree.proofs.TokensReadable.{IsName, Meanings, OfSome, pseudo-readable, some-map}

-- Signs whose names are names, and whose simple selectors have a spelling where they can be written.

abbrev pub SimpleGood : Simple → Type 0
SimpleGood x = is_writable_simple x ≡ true → is_readable_simple x ≡ true

abbrev pub SignGood : Sign → Type 0
SignGood (Name n) = IsName n
SignGood (Joint c) = is_readable_lead true (Some c) ≡ true
SignGood (Whole x at) = SimpleGood x
SignGood (Call x) = OfSome SimpleGood x
SignGood w = Unit {0}

abbrev pub SignsGood : List Sign → Type 0
SignsGood ws = AllByRecursion SignGood ws

stripped-good : (ws : List Sign) → SignsGood ws → SignsGood (stripped ws)
stripped-good [] h = h
stripped-good (White ∷ ws) h = h.1
stripped-good (w ∷ ws) h = h

white-good : (ws : List Sign) → SignsGood ws → SignsGood (white_before ws)
white-good [] h = h
white-good (White ∷ ws) h = h
white-good (Joint c ∷ ws) h = h
white-good (w ∷ ws) h = (tt, h)

before-good : (w : Sign) (ws : List Sign) → SignGood w → SignsGood ws → SignsGood (sign_before w ws)
before-good Comment ws g h = h
before-good White ws g h = white-good ws h
before-good (Joint c) ws g h = (g, stripped-good ws h)
before-good w ws g h = (g, h)

spaced-good : (ws : List Sign) → SignsGood ws → SignsGood (spaced ws)
spaced-good [] h = h
spaced-good (w ∷ ws) h = before-good w (spaced ws) h.0 (spaced-good ws h.1)

abbrev RunGood : Combinator × List Sign → Type 0
RunGood run = SignsGood run.1

abbrev RunsGood : Runs → Type 0
RunsGood runs = SignsGood runs.first × AllByRecursion RunGood runs.rest

run-good : (w : Sign) (runs : Runs) → SignGood w → RunsGood runs → RunsGood (run_before w runs)
run-good White runs g h = (tt, (h.0, h.1))
run-good (Joint c) runs g h = (tt, (h.0, h.1))
run-good w runs g h = ((g, h.0), h.1)

runs-good : (ws : List Sign) → SignsGood ws → RunsGood (runs_of ws)
runs-good [] h = (tt, tt)
runs-good (w ∷ ws) h = run-good w (runs_of ws) h.0 (runs-good ws h.1)

lead-good : (nested : Bool) (ws : List Sign) → SignsGood ws → is_readable_lead nested (lead_of nested ws) ≡ true
lead-good false ws h = refl
lead-good true [] h = refl
lead-good true (Joint c ∷ ws) h = h.0
lead-good true (w ∷ ws) h = refl

behind-good : (nested : Bool) (ws : List Sign) → SignsGood ws → SignsGood (behind_lead nested ws)
behind-good false ws h = h
behind-good true [] h = h
behind-good true (Joint c ∷ ws) h = h.1
behind-good true (w ∷ ws) h = h

-- Compounds.

abbrev BodyGood : Body → Type 0
BodyGood b = AllByRecursion (λ p. SimpleGood (simple_of p)) b.parts × (is_readable_tail true b.tail ≡ true)

abbrev BodySome : Body → Type 0
BodySome b = (has_some b.parts || is_some b.tail) ≡ true

part-good : (x : Simple) (at : ℕ) (o : Option Body) → SimpleGood x → OfSome BodyGood o → OfSome BodyGood (with_part x at o)
part-good x at None g h = tt
part-good x at (Some b) g h = ((g, h.0), h.1)

part-some : (x : Simple) (at : ℕ) (o : Option Body) → OfSome BodySome (with_part x at o)
part-some x at None = tt
part-some x at (Some b) = refl

abbrev StatesGood : List (List ℕ) → Type 0
StatesGood ss = list_all is_pseudo_text ss ≡ true

tailed-good : (element : List ℕ) (o : Option (List (List ℕ))) → is_pseudo_text element ≡ true → OfSome StatesGood o → OfSome BodyGood (tailed element o)
tailed-good element None g h = tt
tailed-good element (Some ss) g h = (tt, ap₂ ◌&&◌ g h)

tailed-some : (element : List ℕ) (o : Option (List (List ℕ))) → OfSome BodySome (tailed element o)
tailed-some element None = tt
tailed-some element (Some ss) = refl

pub foreign-good : SimpleGood simple.Foreign
foreign-good w = absurd (false≢true (sym (folded-Foreign (placed writable)) ∙ w))

body-some : (w : Sign) (ws : List Sign) → OfSome BodySome (body_of (w ∷ ws))
body-some (Dot a) (Name n ∷ ws) = part-some (simple.Class n) a (body_of ws)
body-some (Whole x a) ws = part-some x a (body_of ws)
body-some (Colon a) (Name n ∷ ws) = at (is_old_element (pseudo_text n))
  where
    at : (b : Bool) → OfSome BodySome (if b then tailed (pseudo_text n) (states_of ws) else with_part (simple.Pseudo (pseudo_text n)) a (body_of ws))
    at true = tailed-some (pseudo_text n) (states_of ws)
    at false = part-some (simple.Pseudo (pseudo_text n)) a (body_of ws)
body-some (Colon a) (Call (Some x) ∷ ws) = part-some x a (body_of ws)
body-some (Colon a) (Colon b ∷ Name n ∷ ws) = tailed-some (pseudo_text n) (states_of ws)
body-some (Colon a) (Colon b ∷ Call x ∷ ws) = part-some simple.Foreign a (body_of ws)
body-some w ws = tt

-- the parts have a spelling where they can be written
parts-readable : (ps : List part.Part) → AllByRecursion (λ p. SimpleGood (simple_of p)) ps → list_all (λ p. p) (map (λ p. p.0) (map (made_part (placed writable)) ps)) ≡ true → list_all (λ p. p) (simples_in ps) ≡ true
parts-readable [] each h = refl
parts-readable (p ∷ ps) each h =
    (let q = and_parts (is_writable_simple (simple_of p)) (list_all (λ p. p) (map (λ p. p.0) (map (made_part (placed writable)) ps))) h in
    ap₂ ◌&&◌ (each.0 q.0) (parts-readable ps each.1 q.1))

pub record CompoundGood (k : Compound) : Type 0 where
  pub tail : is_readable_tail true k.tail ≡ true
  pub whole : is_writable_compound k ≡ true → (last : Bool) → is_readable_tail last k.tail ≡ true → is_readable_compound last k ≡ true

simples-some : (ps : List part.Part) → has_some (simples_in ps) ≡ has_some ps
simples-some [] = refl
simples-some (p ∷ ps) = refl

body-compound : (kind : TypeName) (b : Body) → is_readable_type kind ≡ true → (has_type kind || (has_some b.parts || is_some b.tail)) ≡ true → BodyGood b → CompoundGood (record { kind = kind; parts = b.parts; tail = b.tail })
body-compound kind b g some h =
    (let k : Compound = record { kind = kind; parts = b.parts; tail = b.tail } in
    record {
      tail = h.1;
      whole = λ w last t.
          compound-asks last k
          ∙ ap₂ ◌&&◌ (ap (λ (x : Bool). has_type kind || (x || is_some b.tail)) (simples-some b.parts) ∙ some)
          (ap₂ ◌&&◌ g (ap₂ ◌&&◌ (parts-readable b.parts h.0 (sym (folded-Compound (placed writable) k) ∙ w)) t));
    })

abbrev CompoundsGood : Option Compound → Type 0
CompoundsGood o = OfSome CompoundGood o

typed-good : (kind : TypeName) (o : Option Body) → is_readable_type kind ≡ true → has_type kind ≡ true → OfSome BodyGood o → CompoundsGood (compound_with kind o)
typed-good kind None g t h = tt
typed-good kind (Some b) g t h = body-compound kind b g (ap (λ (x : Bool). x || (has_some b.parts || is_some b.tail)) t) h

untyped-good : (o : Option Body) → OfSome BodySome o → OfSome BodyGood o → CompoundsGood (compound_with types.None o)
untyped-good None some h = tt
untyped-good (Some b) some h = body-compound types.None b refl some h

module _ (means : Meanings) where
  states-good : (ws : List Sign) → SignsGood ws → OfSome StatesGood (states_of ws)
  states-good [] h = refl
  states-good (Colon a ∷ Name n ∷ ws) h = some-map StatesGood StatesGood (λ ss. pseudo_text n ∷ ss) (λ ss k. ap₂ ◌&&◌ (pseudo-kept means.ident n h.1.0) k) (states_of ws) (states-good ws h.1.1)
  states-good ws h = tt

  pseudo-good : (n : List ℕ) (at : ℕ) (states : Option (List (List ℕ))) (body : Option Body) → IsName n → OfSome StatesGood states → OfSome BodyGood body
      → OfSome BodyGood (if is_old_element (pseudo_text n) then tailed (pseudo_text n) states else with_part (simple.Pseudo (pseudo_text n)) at body)
  pseudo-good n at states body g s h = by (is_old_element (pseudo_text n)) refl
    where
      by : (b : Bool) → b ≡ is_old_element (pseudo_text n) → OfSome BodyGood (if b then tailed (pseudo_text n) states else with_part (simple.Pseudo (pseudo_text n)) at body)
      by true e = tailed-good (pseudo_text n) states (pseudo-kept means.ident n g) s
      by false e = part-good (simple.Pseudo (pseudo_text n)) at body (λ w. folded-Pseudo (placed readable) (pseudo_text n) ∙ pseudo-readable means n g (sym e)) h

  body-good : (ws : List Sign) → SignsGood ws → OfSome BodyGood (body_of ws)
  body-good [] h = (tt, refl)
  body-good (Dot a ∷ Name n ∷ ws) h = part-good (simple.Class n) a (body_of ws) (λ w. folded-Class (placed readable) n ∙ h.1.0) (body-good ws h.1.1)
  body-good (Whole x a ∷ ws) h = part-good x a (body_of ws) h.0 (body-good ws h.1)
  body-good (Colon a ∷ Name n ∷ ws) h = pseudo-good n a (states_of ws) (body_of ws) h.1.0 (states-good ws h.1.1) (body-good ws h.1.1)
  body-good (Colon a ∷ Call (Some x) ∷ ws) h = part-good x a (body_of ws) h.1.0 (body-good ws h.1.1)
  body-good (Colon a ∷ Colon b ∷ Name n ∷ ws) h = tailed-good (pseudo_text n) (states_of ws) (pseudo-kept means.ident n h.1.1.0) (states-good ws h.1.1.1)
  body-good (Colon a ∷ Colon b ∷ Call x ∷ ws) h = part-good simple.Foreign a (body_of ws) foreign-good (body-good ws h.1.1.1)
  body-good ws h = tt

  compound-good : (ws : List Sign) → SignsGood ws → CompoundsGood (grammar.compound_of ws)
  compound-good [] h = tt
  compound-good (Name n ∷ ws) h = typed-good (types.Name n) (body_of ws) h.0 refl (body-good ws h.1)
  compound-good (Star ∷ ws) h = typed-good types.Universal (body_of ws) refl refl (body-good ws h.1)
  compound-good (w ∷ ws) h = untyped-good (body_of (w ∷ ws)) (body-some w ws) (body-good (w ∷ ws) h)

-- Compounds one behind another.

abbrev asked : List Step → List (Combinator × (Bool → Bool))
asked ls = map (λ l. (l.0, bare_compound readable l.1)) ls

abbrev all_writable : List Step → Bool
all_writable ls = list_all (λ l. is_writable_compound l.1) ls

abbrev ChainGood : Compound → List Step → Type 0
ChainGood k ls = (is_writable_compound k && all_writable ls) ≡ true → are_readable (bare_compound readable k) (asked ls) ≡ true

abbrev StepsGood : List Step → Type 0
StepsGood [] = Unit {0}
StepsGood (l ∷ ls) = ChainGood l.1 ls

no-tail : (t : Option Tail) (l : Step) (ls : List Step) → stands_before t (l ∷ ls) ≡ true → is_readable_tail false t ≡ true
no-tail None l ls h = refl
no-tail (Some t) l ls h = absurd (false≢true h)

chain-good : (k : Compound) (ls : List Step) → CompoundGood k → StepsGood ls → stands_before k.tail ls ≡ true → ChainGood k ls
chain-good k [] g h s w = g.whole (and_parts (is_writable_compound k) true w).0 true g.tail
chain-good k (l ∷ ls) g h s w =
    (let p = and_parts (is_writable_compound k) (all_writable (l ∷ ls)) w in
    ap₂ ◌&&◌ (g.whole p.0 false (no-tail k.tail l ls s)) (h p.1))

step-good : (c : Combinator) (o : Option Compound) (ls : Option (List Step)) → CompoundsGood o → OfSome StepsGood ls → OfSome StepsGood (with_step c o ls)
step-good c None None g h = tt
step-good c None (Some ls) g h = tt
step-good c (Some k) None g h = tt
step-good c (Some k) (Some ls) g h = at (stands_before k.tail ls) refl
  where
    at : (b : Bool) → b ≡ stands_before k.tail ls → OfSome StepsGood (if b then Some ((c, k) ∷ ls) else None)
    at true e = chain-good k ls g h (sym e)
    at false e = tt

-- links as they are asked
asked-links : {M K S : Type 0} (steps : BareSteps M K S) (ls : List Step) → map (made_link (placed steps)) (map link_of ls) ≡ map (λ l. (l.0, bare_compound steps l.1)) ls
asked-links steps [] = refl
asked-links {K = K} steps (l ∷ ls) = ap₂ (λ (x : Combinator × K) (xs : List (Combinator × K)). x ∷ xs) (linked steps l.0 l.1) (asked-links steps ls)

abbrev pub SelectorGood : Bool → Selector → Type 0
SelectorGood nested s = is_writable_selector s ≡ true → is_readable_selector nested s ≡ true

written-links : (ls : List Step) → list_all (λ (l : Combinator × Bool). l.1) (map (λ l. (l.0, bare_compound writable l.1)) ls) ≡ all_writable ls
written-links [] = refl
written-links (l ∷ ls) = ap (λ (b : Bool). is_writable_compound l.1 && b) (written-links ls)

selector-good : (nested : Bool) (at : ℕ) (lead : Option Combinator) (k : Compound) (ls : List Step) → is_readable_lead nested lead ≡ true → ChainGood k ls → SelectorGood nested (record { lead = lead; first = k; rest = map link_of ls; at = at })
selector-good nested at lead k ls l g w =
    (let s : Selector = record { lead = lead; first = k; rest = map link_of ls; at = at } in
    let written = sym (ap (λ (xs : List (Combinator × Bool)). is_writable_compound k && list_all (λ (l : Combinator × Bool). l.1) xs) (asked-links writable ls) ∙ ap (λ (b : Bool). is_writable_compound k && b) (written-links ls)) ∙ sym (folded-Selector (placed writable) s) ∙ w in
    ap (λ (f : Bool → Bool). f nested) (folded-Selector (placed readable) s)
    ∙ ap₂ ◌&&◌ l (ap (are_readable (bare_compound readable k)) (asked-links readable ls) ∙ g written))

with-good : (nested : Bool) (at : ℕ) (lead : Option Combinator) (o : Option Compound) (ls : Option (List Step)) → is_readable_lead nested lead ≡ true → CompoundsGood o → OfSome StepsGood ls → OfSome (SelectorGood nested) (selector_with at lead o ls)
with-good nested at lead None None l g h = tt
with-good nested at lead None (Some ls) l g h = tt
with-good nested at lead (Some k) None l g h = tt
with-good nested at lead (Some k) (Some ls) l g h = by (stands_before k.tail ls) refl
  where
    by : (b : Bool) → b ≡ stands_before k.tail ls → OfSome (SelectorGood nested) (if b then Some (record { lead = lead; first = k; rest = map link_of ls; at = at }) else None)
    by true e = selector-good nested at lead k ls l (chain-good k ls g h (sym e))
    by false e = tt

-- Lists.

abbrev pub ListGood : Bool → List Selector → Type 0
ListGood nested ss = is_writable_list ss ≡ true → is_readable_list nested ss ≡ true

-- the same of what may be no selector
abbrev OthersGood : Bool → List Selector → Type 0
OthersGood nested ss = is_writable_list ss ≡ true → list_all (is_readable_selector nested) ss ≡ true

abbrev pub MarkSigns : List Mark → Type 0
MarkSigns ms = SignsGood (map (λ m. m.sign) ms)

abbrev MemberGood : Member → Type 0
MemberGood m = MarkSigns m.marks

abbrev CutGood : Member × List Member → Type 0
CutGood parts = MemberGood parts.0 × AllByRecursion MemberGood parts.1

cut-good : (ms : List Mark) → MarkSigns ms → CutGood (cut_at_commas ms)
cut-good [] h = (tt, tt)
cut-good (m ∷ ms) h = at (is_comma_sign m.sign) (cut-good ms h.1)
  where
    at : (b : Bool) → CutGood (cut_at_commas ms) → CutGood (if b then (empty_before (Some m.at), (cut_at_commas ms).0 ∷ (cut_at_commas ms).1) else (with_mark m (cut_at_commas ms).0, (cut_at_commas ms).1))
    at true k = (tt, k)
    at false k = ((h.0, k.0), k.1)

both-good : (nested : Bool) (o : Option Selector) (ss : Option (List Selector)) → OfSome (SelectorGood nested) o → OfSome (OthersGood nested) ss → OfSome (ListGood nested) (both_read o ss)
both-good nested None ss g h = tt
both-good nested (Some s) None g h = tt
both-good nested (Some s) (Some ss) g h = λ w. (let p = and_parts (is_writable_selector s) (is_writable_list ss) w in ap₂ ◌&&◌ (g p.0) (h p.1))

-- a list that has a selector has others too
as-others : (nested : Bool) (o : Option (List Selector)) → OfSome (ListGood nested) o → OfSome (OthersGood nested) o
as-others nested None h = tt
as-others nested (Some ss) h = λ w. (and_parts (has_some ss) (list_all (is_readable_selector nested) ss) (h w)).1

module _ (means : Meanings) where
  steps-good : (runs : List (Combinator × List Sign)) → AllByRecursion RunGood runs → OfSome StepsGood (steps_of runs)
  steps-good [] h = tt
  steps-good (r ∷ runs) h = step-good r.0 (grammar.compound_of r.1) (steps_of runs) (compound-good means r.1 h.0) (steps-good runs h.1)

  at-good : (nested : Bool) (at : ℕ) (ws : List Sign) → SignsGood ws → OfSome (SelectorGood nested) (selector_at nested at ws)
  at-good nested at ws h =
      (let clean = stripped (spaced ws) in
      let g = stripped-good (spaced ws) (spaced-good ws h) in
      let runs = runs_of (behind_lead nested clean) in
      let r = runs-good (behind_lead nested clean) (behind-good nested clean g) in
      with-good nested at (lead_of nested clean) (grammar.compound_of runs.first) (steps_of runs.rest) (lead-good nested clean g) (compound-good means runs.first r.0) (steps-good runs.rest r.1))

  first-good : (nested : Bool) (end : ℕ) (m : Member) (list : Result (List Selector) ℕ) → MemberGood m → OfSome (OthersGood nested) (read list) → OfSome (ListGood nested) (read (first_and (member_reading nested end m) list))
  first-good nested end m list g h =
      subst (OfSome (ListGood nested)) (sym (read-first (selector_of nested m.marks) (fault_place end m) list))
      (both-good nested (selector_of nested m.marks) (read list) (at-good nested (unwrap_or (first_place m.marks) 0) (map (λ m. m.sign) m.marks) g) h)

  members-good : (nested : Bool) (end : ℕ) (ms : List Member) → AllByRecursion MemberGood ms → OfSome (OthersGood nested) (read (members_reading nested end ms))
  members-good nested end [] h = λ w. refl
  members-good nested end (m ∷ ms) h = as-others nested (read (first_and (member_reading nested end m) (members_reading nested end ms))) (first-good nested end m (members_reading nested end ms) h.0 (members-good nested end ms h.1))

  -- what is read of such signs has a spelling that is read as it, where it can be written
  pub list-good : (nested : Bool) (end : ℕ) (ms : List Mark) → MarkSigns ms → OfSome (ListGood nested) (read (marks_reading nested ms end))
  list-good nested end ms h =
      (let parts = cut_at_commas ms in
      let g = cut-good ms h in
      first-good nested end parts.0 (members_reading nested end parts.1) g.0 (members-good nested end parts.1 g.1))
