-- What signs and marks read as does not depend on places.
use Rattle.std.proofs.Common.{◌≡◌, ℕ, List, [], ◌∷◌, map, Bool, true, false, not, refl, sym, ap, ap₂, ◌∙◌}
use Rattle.std.specs.Prelude.{Option, Some, None, unwrap_or, if◌then◌else◌, Result, Ok, Err}
use Rattle.std.specs.List.{find}
use Rattle.std.specs.Option.{option_map}
use Rattle.selector_types.specs.declared.selector.Combinator.{Combinator}
use Rattle.selector_types.specs.declared.selector.Link.TheVariants.{outs-Linked}
use Rattle.selector_types.specs.declared.selector.TypeName.{TypeName}
use Rattle.selector_types.specs.declared.selector.TypeName.TheVariants as types
use Rattle.selector_types.specs.declared.selector.Simple.{Simple}
use Rattle.selector_types.specs.declared.selector.Simple as simple
use Rattle.selector_types.specs.declared.selector.Part as part
use Rattle.selector_types.specs.declared.selector.Link as link
use Rattle.selector_types.specs.declared.selector.Tail.{Tail}
use Rattle.selector_types.specs.declared.selector.Compound.{Compound}
use Rattle.selector_types.specs.declared.selector.Selector.{Selector}
use Rattle.selector_tree.specs.declared.sign.Sign.{Sign}
use Rattle.selector_tree.specs.declared.sign.Sign.TheVariants.{Comment, White, Comma, Joint, Name, Star, Dot, Colon, Whole, Call, Other}
use Rattle.selector_types.specs.SelectorFold.{layer_combinator, layer_compound, folded-Class, folded-Pseudo, folded-Foreign}
use Rattle.selector_types.specs.Erased.{erasing, erased, erased_simple, erased_compound, erased_part, erased_link, erased-compound, erased-selector}
use Rattle.selector_types.specs.Names.{is_old_element, pseudo_text}
use Rattle.selector_tree.specs.Grammar.{Body, with_part, tailed, states_of, body_of, compound_with, compound_of, stripped, white_before, sign_before, spaced, Runs, run_before, runs_of, Step, stands_before, with_step, steps_of, link_of, selector_with, lead_of, behind_lead, selector_of_runs, selector_at, Mark, is_gap_sign, is_comma_sign, first_place, selector_of, Member, empty_before, with_mark, cut_at_commas, fault_place, or_fault, member_reading, first_and, members_reading, marks_reading}
use Rattle.selector_tree.specs.Signs.{read}
use Rattle.selector_types.proofs.TreePlaces.{placeless}

-- Signs and marks with each place at 0.

abbrev pub bare_sign : Sign → Sign
bare_sign Comment = Comment
bare_sign White = White
bare_sign Comma = Comma
bare_sign (Joint c) = Joint c
bare_sign (Name n) = Name n
bare_sign Star = Star
bare_sign (Dot a) = Dot 0
bare_sign (Colon a) = Colon 0
bare_sign (Whole x a) = Whole (erased_simple x) 0
bare_sign (Call x) = Call (option_map erased_simple x)
bare_sign Other = Other

abbrev pub bare_signs : List Sign → List Sign
bare_signs ws = map bare_sign ws

abbrev pub bare_mark : Mark → Mark
bare_mark m = record { token = option_map placeless m.token; at = 0; sign = bare_sign m.sign }

-- White space.

stripped-bare : (ws : List Sign) → stripped (bare_signs ws) ≡ bare_signs (stripped ws)
stripped-bare [] = refl
stripped-bare (White ∷ ws) = refl
stripped-bare (w ∷ ws) = refl

white-bare : (ws : List Sign) → white_before (bare_signs ws) ≡ bare_signs (white_before ws)
white-bare [] = refl
white-bare (White ∷ ws) = refl
white-bare (w ∷ ws) = refl

before-bare : (w : Sign) (ws : List Sign) → sign_before (bare_sign w) (bare_signs ws) ≡ bare_signs (sign_before w ws)
before-bare White ws = white-bare ws
before-bare (Joint c) ws = ap (λ (vs : List Sign). Joint c ∷ vs) (stripped-bare ws)
before-bare w ws = refl

spaced-bare : (ws : List Sign) → spaced (bare_signs ws) ≡ bare_signs (spaced ws)
spaced-bare [] = refl
spaced-bare (w ∷ ws) = ap (λ (vs : List Sign). sign_before (bare_sign w) vs) (spaced-bare ws) ∙ before-bare w (spaced ws)

lead-bare : (nested : Bool) (ws : List Sign) → lead_of nested (bare_signs ws) ≡ lead_of nested ws
lead-bare false ws = refl
lead-bare true [] = refl
lead-bare true (White ∷ ws) = refl
lead-bare true (w ∷ ws) = refl

behind-bare : (nested : Bool) (ws : List Sign) → behind_lead nested (bare_signs ws) ≡ bare_signs (behind_lead nested ws)
behind-bare false ws = refl
behind-bare true [] = refl
behind-bare true (White ∷ ws) = refl
behind-bare true (w ∷ ws) = refl

-- Runs.

abbrev bare_run : Combinator × List Sign → Combinator × List Sign
bare_run run = (run.0, bare_signs run.1)

abbrev bare_runs : Runs → Runs
bare_runs runs = record { first = bare_signs runs.first; rest = map bare_run runs.rest }

run-bare : (w : Sign) (runs : Runs) → run_before (bare_sign w) (bare_runs runs) ≡ bare_runs (run_before w runs)
run-bare White runs = refl
run-bare w runs = refl

runs-bare : (ws : List Sign) → runs_of (bare_signs ws) ≡ bare_runs (runs_of ws)
runs-bare [] = refl
runs-bare (w ∷ ws) = ap (λ (r : Runs). run_before (bare_sign w) r) (runs-bare ws) ∙ run-bare w (runs_of ws)

-- Compounds.

abbrev bare_body : Option Body → Option Body
bare_body o = option_map (λ b. record { parts = map erased_part b.parts; tail = b.tail }) o

part-bare : (x y : Simple) (at : ℕ) (o : Option Body) → erased_simple x ≡ y → with_part y 0 (bare_body o) ≡ bare_body (with_part x at o)
part-bare x y at None e = refl
part-bare x y at (Some b) e = ap (λ (z : Simple). (let made : Body = record { parts = part.Placed z 0 ∷ map erased_part b.parts; tail = b.tail } in Some made)) (sym e)

tailed-bare : (element : List ℕ) (o : Option (List (List ℕ))) → tailed element o ≡ bare_body (tailed element o)
tailed-bare element None = refl
tailed-bare element (Some ss) = refl

states-bare : (ws : List Sign) → states_of (bare_signs ws) ≡ states_of ws
states-bare [] = refl
states-bare (Colon a ∷ Name n ∷ ws) = ap (option_map (λ ss. pseudo_text n ∷ ss)) (states-bare ws)
states-bare ws = refl

abbrev pseudo_body : Bool → List ℕ → ℕ → Option (List (List ℕ)) → Option Body → Option Body
pseudo_body old text at states body = if old then tailed text states else with_part (simple.Pseudo text) at body

pseudo-bare : (old : Bool) (text : List ℕ) (at : ℕ) (states : Option (List (List ℕ))) (body : Option Body) → pseudo_body old text 0 states (bare_body body) ≡ bare_body (pseudo_body old text at states body)
pseudo-bare true text at states body = tailed-bare text states
pseudo-bare false text at states body = part-bare (simple.Pseudo text) (simple.Pseudo text) at body (folded-Pseudo erasing text)

body-bare : (ws : List Sign) → body_of (bare_signs ws) ≡ bare_body (body_of ws)
body-bare [] = refl
body-bare (Dot a ∷ Name n ∷ ws) = ap (with_part (simple.Class n) 0) (body-bare ws) ∙ part-bare (simple.Class n) (simple.Class n) a (body_of ws) (folded-Class erasing n)
body-bare (Whole x a ∷ ws) = ap (with_part (erased_simple x) 0) (body-bare ws) ∙ part-bare x (erased_simple x) a (body_of ws) refl
body-bare (Colon a ∷ Name n ∷ ws) =
    ap₂ (λ (states : Option (List (List ℕ))) (body : Option Body). pseudo_body (is_old_element (pseudo_text n)) (pseudo_text n) 0 states body) (states-bare ws) (body-bare ws)
    ∙ pseudo-bare (is_old_element (pseudo_text n)) (pseudo_text n) a (states_of ws) (body_of ws)
body-bare (Colon a ∷ Call (Some x) ∷ ws) = ap (with_part (erased_simple x) 0) (body-bare ws) ∙ part-bare x (erased_simple x) a (body_of ws) refl
body-bare (Colon a ∷ Colon b ∷ Name n ∷ ws) = ap (tailed (pseudo_text n)) (states-bare ws) ∙ tailed-bare (pseudo_text n) (states_of ws)
body-bare (Colon a ∷ Colon b ∷ Call x ∷ ws) = ap (with_part simple.Foreign 0) (body-bare ws) ∙ part-bare simple.Foreign simple.Foreign a (body_of ws) (folded-Foreign erasing)
body-bare ws = refl

kind-bare : (kind : TypeName) (o : Option Body) → compound_with kind (bare_body o) ≡ option_map erased_compound (compound_with kind o)
kind-bare kind None = refl
kind-bare kind (Some b) = ap Some (sym (erased-compound (record { kind = kind; parts = b.parts; tail = b.tail })))

typed-bare : (kind : TypeName) (ws : List Sign) → compound_with kind (body_of (bare_signs ws)) ≡ option_map erased_compound (compound_with kind (body_of ws))
typed-bare kind ws = ap (compound_with kind) (body-bare ws) ∙ kind-bare kind (body_of ws)

compound-bare : (ws : List Sign) → compound_of (bare_signs ws) ≡ option_map erased_compound (compound_of ws)
compound-bare [] = refl
compound-bare (Name n ∷ ws) = typed-bare (types.Name n) ws
compound-bare (Star ∷ ws) = typed-bare types.Universal ws
compound-bare (w ∷ ws) = typed-bare types.None (w ∷ ws)

-- Selectors.

abbrev bare_step : Step → Step
bare_step l = (l.0, erased_compound l.1)

abbrev bare_steps : Option (List Step) → Option (List Step)
bare_steps o = option_map (map bare_step) o

stands-bare : (tail : Option Tail) (ls : List Step) → stands_before tail (map bare_step ls) ≡ stands_before tail ls
stands-bare None ls = refl
stands-bare (Some t) [] = refl
stands-bare (Some t) (l ∷ ls) = refl

tail-bare : (k : Compound) (ls : List Step) → stands_before (erased_compound k).tail (map bare_step ls) ≡ stands_before k.tail ls
tail-bare k ls = ap (λ (m : Compound). stands_before m.tail (map bare_step ls)) (erased-compound k) ∙ stands-bare k.tail ls

step-at : (c : Combinator) (k : Compound) (ls : List Step) (b : Bool) → (if b then Some ((c, erased_compound k) ∷ map bare_step ls) else None) ≡ bare_steps (if b then Some ((c, k) ∷ ls) else None)
step-at c k ls true = refl
step-at c k ls false = refl

step-bare : (c : Combinator) (k : Option Compound) (ls : Option (List Step)) → with_step c (option_map erased_compound k) (bare_steps ls) ≡ bare_steps (with_step c k ls)
step-bare c None None = refl
step-bare c None (Some ls) = refl
step-bare c (Some k) None = refl
step-bare c (Some k) (Some ls) = ap (λ (b : Bool). if b then Some ((c, erased_compound k) ∷ map bare_step ls) else None) (tail-bare k ls) ∙ step-at c k ls (stands_before k.tail ls)

steps-bare : (runs : List (Combinator × List Sign)) → steps_of (map bare_run runs) ≡ bare_steps (steps_of runs)
steps-bare [] = refl
steps-bare (r ∷ runs) =
    ap₂ (λ (k : Option Compound) (ls : Option (List Step)). with_step r.0 k ls) (compound-bare r.1) (steps-bare runs)
    ∙ step-bare r.0 (compound_of r.1) (steps_of runs)

link-bare : (l : Step) → link_of (bare_step l) ≡ erased_link (link_of l)
link-bare l = sym (ap (λ v. link.Linked (layer_combinator v) (erased_compound (layer_compound v))) (outs-Linked l.0 l.1))

links-bare : (ls : List Step) → map link_of (map bare_step ls) ≡ map erased_link (map link_of ls)
links-bare [] = refl
links-bare (l ∷ ls) = ap₂ (λ (m : link.Link) (ms : List link.Link). m ∷ ms) (link-bare l) (links-bare ls)

selector-made : (at : ℕ) (lead : Option Combinator) (k : Compound) (ls : List Step) → (let made : Selector = record { lead = lead; first = erased_compound k; rest = map link_of (map bare_step ls); at = 0 } in made) ≡ erased (record { lead = lead; first = k; rest = map link_of ls; at = at })
selector-made at lead k ls =
    ap (λ (ms : List link.Link). (let made : Selector = record { lead = lead; first = erased_compound k; rest = ms; at = 0 } in made)) (links-bare ls)
    ∙ sym (erased-selector (record { lead = lead; first = k; rest = map link_of ls; at = at }))

selector-at : (at : ℕ) (lead : Option Combinator) (k : Compound) (ls : List Step) (b : Bool)
    → (if b then Some (record { lead = lead; first = erased_compound k; rest = map link_of (map bare_step ls); at = 0 }) else None) ≡ option_map erased (if b then Some (record { lead = lead; first = k; rest = map link_of ls; at = at }) else None)
selector-at at lead k ls true = ap Some (selector-made at lead k ls)
selector-at at lead k ls false = refl

with-bare : (at : ℕ) (lead : Option Combinator) (k : Option Compound) (ls : Option (List Step)) → selector_with 0 lead (option_map erased_compound k) (bare_steps ls) ≡ option_map erased (selector_with at lead k ls)
with-bare at lead None None = refl
with-bare at lead None (Some ls) = refl
with-bare at lead (Some k) None = refl
with-bare at lead (Some k) (Some ls) =
    ap (λ (b : Bool). if b then Some (record { lead = lead; first = erased_compound k; rest = map link_of (map bare_step ls); at = 0 }) else None) (tail-bare k ls)
    ∙ selector-at at lead k ls (stands_before k.tail ls)

selector_runs-bare : (at : ℕ) (lead : Option Combinator) (runs : Runs) → selector_of_runs 0 lead (bare_runs runs) ≡ option_map erased (selector_of_runs at lead runs)
selector_runs-bare at lead runs =
    ap₂ (λ (k : Option Compound) (ls : Option (List Step)). selector_with 0 lead k ls) (compound-bare runs.first) (steps-bare runs.rest)
    ∙ with-bare at lead (compound_of runs.first) (steps_of runs.rest)

clean-bare : (ws : List Sign) → stripped (spaced (bare_signs ws)) ≡ bare_signs (stripped (spaced ws))
clean-bare ws = ap stripped (spaced-bare ws) ∙ stripped-bare (spaced ws)

selector-bare : (nested : Bool) (at : ℕ) (ws : List Sign) → selector_at nested 0 (bare_signs ws) ≡ option_map erased (selector_at nested at ws)
selector-bare nested at ws =
    (let clean = stripped (spaced ws) in
    ap (λ (vs : List Sign). selector_of_runs 0 (lead_of nested vs) (runs_of (behind_lead nested vs))) (clean-bare ws)
    ∙ ap₂ (λ (lead : Option Combinator) (vs : List Sign). selector_of_runs 0 lead (runs_of vs)) (lead-bare nested clean) (behind-bare nested clean)
    ∙ ap (λ (r : Runs). selector_of_runs 0 (lead_of nested clean) r) (runs-bare (behind_lead nested clean))
    ∙ selector_runs-bare at (lead_of nested clean) (runs_of (behind_lead nested clean)))

-- Members.

signs-bare : (ms : List Mark) → map (λ m. m.sign) (map bare_mark ms) ≡ bare_signs (map (λ m. m.sign) ms)
signs-bare [] = refl
signs-bare (m ∷ ms) = ap (λ (ws : List Sign). bare_sign m.sign ∷ ws) (signs-bare ms)

zero-at : (b : Bool) (m : Mark) (o : Option Mark) → unwrap_or (option_map (λ n. n.at) o) 0 ≡ 0 → unwrap_or (option_map (λ n. n.at) (if b then Some (bare_mark m) else o)) 0 ≡ 0
zero-at true m o e = refl
zero-at false m o e = e

pub zero-place : (ms : List Mark) → unwrap_or (first_place (map bare_mark ms)) 0 ≡ 0
zero-place [] = refl
zero-place (m ∷ ms) = zero-at (not (is_gap_sign (bare_sign m.sign))) m (find (λ n. not (is_gap_sign n.sign)) (map bare_mark ms)) (zero-place ms)

member-bare : (nested : Bool) (ms : List Mark) → selector_of nested (map bare_mark ms) ≡ option_map erased (selector_of nested ms)
member-bare nested ms =
    ap₂ (λ (at : ℕ) (ws : List Sign). selector_at nested at ws) (zero-place ms) (signs-bare ms)
    ∙ selector-bare nested (unwrap_or (first_place ms) 0) (map (λ m. m.sign) ms)

abbrev bare_member : Member → Member
bare_member m = record { marks = map bare_mark m.marks; stop = option_map (λ at. 0) m.stop }

abbrev bare_members : Member × List Member → Member × List Member
bare_members parts = (bare_member parts.0, map bare_member parts.1)

comma-bare : (w : Sign) → is_comma_sign (bare_sign w) ≡ is_comma_sign w
comma-bare White = refl
comma-bare w = refl

abbrev cut_before : Mark → Bool → Member × List Member → Member × List Member
cut_before m comma parts = if comma then (empty_before (Some m.at), parts.0 ∷ parts.1) else (with_mark m parts.0, parts.1)

cut-at : (m : Mark) (comma : Bool) (parts : Member × List Member) → cut_before (bare_mark m) comma (bare_members parts) ≡ bare_members (cut_before m comma parts)
cut-at m true parts = refl
cut-at m false parts = refl

cut-bare : (ms : List Mark) → cut_at_commas (map bare_mark ms) ≡ bare_members (cut_at_commas ms)
cut-bare [] = refl
cut-bare (m ∷ ms) =
    ap₂ (λ (b : Bool) (parts : Member × List Member). cut_before (bare_mark m) b parts) (comma-bare m.sign) (cut-bare ms)
    ∙ cut-at m (is_comma_sign m.sign) (cut_at_commas ms)

-- Lists.

-- a selector and the list behind it, where there are both
abbrev pub both_read : Option Selector → Option (List Selector) → Option (List Selector)
both_read None list = None
both_read (Some s) None = None
both_read (Some s) (Some ss) = Some (s ∷ ss)

pub read-first : (o : Option Selector) (place : ℕ) (list : Result (List Selector) ℕ) → read (first_and (or_fault o place) list) ≡ both_read o (read list)
read-first None place list = refl
read-first (Some s) place (Err other) = refl
read-first (Some s) place (Ok ss) = refl

both-bare : (o : Option Selector) (list : Option (List Selector)) → both_read (option_map erased o) (option_map (map erased) list) ≡ option_map (map erased) (both_read o list)
both-bare None list = refl
both-bare (Some s) None = refl
both-bare (Some s) (Some ss) = refl

first-bare : (nested : Bool) (end stop : ℕ) (m : Member) (list others : Result (List Selector) ℕ) → read others ≡ option_map (map erased) (read list)
    → read (first_and (member_reading nested stop (bare_member m)) others) ≡ option_map (map erased) (read (first_and (member_reading nested end m) list))
first-bare nested end stop m list others e =
    read-first (selector_of nested (map bare_mark m.marks)) (fault_place stop (bare_member m)) others
    ∙ ap₂ both_read (member-bare nested m.marks) e
    ∙ both-bare (selector_of nested m.marks) (read list)
    ∙ ap (option_map (map erased)) (sym (read-first (selector_of nested m.marks) (fault_place end m) list))

members-bare : (nested : Bool) (end stop : ℕ) (ms : List Member) → read (members_reading nested stop (map bare_member ms)) ≡ option_map (map erased) (read (members_reading nested end ms))
members-bare nested end stop [] = refl
members-bare nested end stop (m ∷ ms) = first-bare nested end stop m (members_reading nested end ms) (members_reading nested stop (map bare_member ms)) (members-bare nested end stop ms)

-- marks with each place at 0 read as the same list with each place at 0
pub marks-bare : (nested : Bool) (end stop : ℕ) (ms : List Mark) → read (marks_reading nested (map bare_mark ms) stop) ≡ option_map (map erased) (read (marks_reading nested ms end))
marks-bare nested end stop ms =
    ap (λ (parts : Member × List Member). read (first_and (member_reading nested stop parts.0) (members_reading nested stop parts.1))) (cut-bare ms)
    ∙ first-bare nested end stop (cut_at_commas ms).0 (members_reading nested end (cut_at_commas ms).1) (members_reading nested stop (map bare_member (cut_at_commas ms).1)) (members-bare nested end stop (cut_at_commas ms).1)
