-- What is read from left to right is the selector that the grammar gives.
use Rattle.std.proofs.Common.{◌≡◌, ℕ, List, [], ◌∷◌, ◌++◌, map, Bool, true, false, not, cond, refl, sym, ap, ◌∙◌, append_assoc}
use Rattle.std.specs.Prelude.{Option, Some, None, unwrap_or, if◌then◌else◌, Result, Ok, Err}
use Rattle.std.specs.List.{find}
use Rattle.std.specs.Option.{option_map, option_or}
use Rattle.std.proofs.lemmas.List.{append-nil}
use Rattle.selector_types.specs.declared.selector.Combinator.{Combinator}
use Rattle.selector_types.specs.declared.selector.Combinator.TheVariants as combinators
use Rattle.selector_types.specs.declared.selector.TypeName.{TypeName}
use Rattle.selector_types.specs.declared.selector.TypeName.TheVariants as types
use Rattle.selector_types.specs.declared.selector.Simple.{Simple}
use Rattle.selector_types.specs.declared.selector.Simple as simple
use Rattle.selector_types.specs.declared.selector.Part as part
use Rattle.selector_types.specs.declared.selector.Link as link
use Rattle.selector_types.specs.declared.selector.Tail.{Tail}
use Rattle.selector_types.specs.declared.selector.Compound.{Compound}
use Rattle.selector_types.specs.declared.selector.Selector.{Selector}
use Rattle.selector_tree.specs.declared.sign.Sign.{Sign}
use Rattle.selector_tree.specs.declared.sign.Sign.TheVariants.{Comment, White, Comma, Joint, Name, Star, Dot, Colon, Whole, Call, Other}
use Rattle.selector_tree.specs.declared.reading.Front.{Front}
use Rattle.selector_tree.specs.declared.reading.Front.TheVariants.{Nothing, Joined}
use Rattle.selector_tree.specs.declared.reading.Phase.{Phase}
use Rattle.selector_tree.specs.declared.reading.Phase.TheVariants.{Due, Inside, Dotted, Coloned, Doubled, Behind, Failed}
use Rattle.selector_tree.specs.declared.reading.Reading.{Reading}
use Rattle.selector_tree.specs.declared.reading.Pending.{Pending}
use Rattle.selector_types.specs.Names.{is_old_element, pseudo_text}
use Rattle.selector_tree.specs.Grammar.{Body, with_part, tailed, states_of, body_of, compound_with, compound_of, stripped, white_before, sign_before, spaced, Runs, runs_of, Step, stands_before, with_step, steps_of, link_of, selector_with, lead_of, behind_lead, Mark, is_gap_sign, is_comma_sign, first_place, selector_of, Member, empty_before, with_mark, cut_at_commas, or_fault, first_and, members_reading, marks_reading}
use Rattle.selector_tree.specs.Private.ReadingSteps.{joined, chained, of_type, with_simple, with_element, with_state, reading, step, concluded, fresh, pending_step, pending_run, pending_selector, pending_reading, list_from, behind_list}

-- What a reading and the clean signs behind it say.

-- the selector of what was read, this last compound and these steps, where there are both
abbrev selector_from : ℕ → Option Combinator → Front → Option Compound → Option (List Step) → Option Selector
selector_from at lead f None ls = None
selector_from at lead f (Some k) None = None
selector_from at lead f (Some k) (Some ls) = if stands_before k.tail ls then Some (chained at lead f k ls) else None

-- the compound with this body behind it
abbrev more_body : Compound → Option Body → Option Compound
more_body k body = option_map (λ b. record { kind = k.kind; parts = k.parts ++ b.parts; tail = b.tail }) body

-- the compound with these states behind its pseudo-element
abbrev more_states : Compound → Tail → Option (List (List ℕ)) → Option Compound
more_states k t states = option_map (λ ss. record { kind = k.kind; parts = k.parts; tail = Some (record { element = t.element; states = t.states ++ ss }) }) states

-- the compound with what these signs say behind it
abbrev more_of : Option Tail → Compound → List Sign → Option Compound
more_of None k ws = more_body k (body_of ws)
more_of (Some t) k ws = more_states k t (states_of ws)

abbrev due : ℕ → Option Combinator → Front → Runs → Option Selector
due at lead f runs = selector_from at lead f (compound_of runs.first) (steps_of runs.rest)

abbrev inside : ℕ → Option Combinator → Front → Compound → Runs → Option Selector
inside at lead f k runs = selector_from at lead f (more_of k.tail k runs.first) (steps_of runs.rest)

-- the selector that a reading and the clean signs behind it spell
abbrev meaning : ℕ → Phase → Option Combinator → Front → Compound → List Sign → Option Selector
meaning at (Due nested) lead f k ws = due at (option_or (lead_of nested (stripped ws)) lead) f (runs_of (behind_lead nested (stripped ws)))
meaning at Inside lead f k ws = inside at lead f k (runs_of ws)
meaning at (Dotted d) lead f k ws = inside at lead f k (runs_of (Dot d ∷ ws))
meaning at (Coloned d) lead f k ws = inside at lead f k (runs_of (Colon d ∷ ws))
meaning at (Doubled d) lead f k ws = inside at lead f k (runs_of (Colon d ∷ Colon d ∷ ws))
meaning at Behind lead f k ws = inside at lead f k (runs_of (white_before ws))
meaning at Failed lead f k ws = None

abbrev meaning_of : ℕ → Reading → List Sign → Option Selector
meaning_of at r ws = meaning at r.phase r.lead r.front r.compound ws

-- White space.

stripped-white : (ws : List Sign) → stripped (white_before ws) ≡ stripped ws
stripped-white [] = refl
stripped-white (Comment ∷ ws) = refl
stripped-white (White ∷ ws) = refl
stripped-white (Comma ∷ ws) = refl
stripped-white (Joint c ∷ ws) = refl
stripped-white (Name n ∷ ws) = refl
stripped-white (Star ∷ ws) = refl
stripped-white (Dot a ∷ ws) = refl
stripped-white (Colon a ∷ ws) = refl
stripped-white (Whole x a ∷ ws) = refl
stripped-white (Call x ∷ ws) = refl
stripped-white (Other ∷ ws) = refl

white-white : (ws : List Sign) → white_before (white_before ws) ≡ white_before ws
white-white [] = refl
white-white (Comment ∷ ws) = refl
white-white (White ∷ ws) = refl
white-white (Comma ∷ ws) = refl
white-white (Joint c ∷ ws) = refl
white-white (Name n ∷ ws) = refl
white-white (Star ∷ ws) = refl
white-white (Dot a ∷ ws) = refl
white-white (Colon a ∷ ws) = refl
white-white (Whole x a ∷ ws) = refl
white-white (Call x ∷ ws) = refl
white-white (Other ∷ ws) = refl

first-white : (ws : List Sign) → (runs_of (white_before ws)).first ≡ []
first-white [] = refl
first-white (Comment ∷ ws) = refl
first-white (White ∷ ws) = refl
first-white (Comma ∷ ws) = refl
first-white (Joint c ∷ ws) = refl
first-white (Name n ∷ ws) = refl
first-white (Star ∷ ws) = refl
first-white (Dot a ∷ ws) = refl
first-white (Colon a ∷ ws) = refl
first-white (Whole x a ∷ ws) = refl
first-white (Call x ∷ ws) = refl
first-white (Other ∷ ws) = refl

second-colon : (a b : ℕ) (ws : List Sign) → body_of (Colon a ∷ Colon a ∷ ws) ≡ body_of (Colon a ∷ Colon b ∷ ws)
second-colon a b [] = refl
second-colon a b (Comment ∷ ws) = refl
second-colon a b (White ∷ ws) = refl
second-colon a b (Comma ∷ ws) = refl
second-colon a b (Joint c ∷ ws) = refl
second-colon a b (Name n ∷ ws) = refl
second-colon a b (Star ∷ ws) = refl
second-colon a b (Dot d ∷ ws) = refl
second-colon a b (Colon d ∷ ws) = refl
second-colon a b (Whole x d ∷ ws) = refl
second-colon a b (Call x ∷ ws) = refl
second-colon a b (Other ∷ ws) = refl

-- Compounds.

more-none : (kind : TypeName) (parts : List part.Part) → more_of None (record { kind = kind; parts = parts; tail = None }) [] ≡ Some (record { kind = kind; parts = parts; tail = None })
more-none kind parts = ap (λ (ps : List part.Part). (let k : Compound = record { kind = kind; parts = ps; tail = None } in Some k)) (append-nil parts)

more-simple : (k : Compound) (x : Simple) (at : ℕ) (body : Option Body) → more_body (with_simple k x at) body ≡ more_body k (with_part x at body)
more-simple k x at None = refl
more-simple k x at (Some b) = ap (λ (ps : List part.Part). (let made : Compound = record { kind = k.kind; parts = ps; tail = b.tail } in Some made)) (append_assoc k.parts (part.Placed x at ∷ []) b.parts)

more-element : (k : Compound) (name : List ℕ) (states : Option (List (List ℕ))) → more_states (with_element k name) (record { element = name; states = [] }) states ≡ more_body k (tailed name states)
more-element k name None = refl
more-element k name (Some ss) = ap (λ (ps : List part.Part). (let made : Compound = record { kind = k.kind; parts = ps; tail = Some (record { element = name; states = ss }) } in Some made)) (sym (append-nil k.parts))

more-state : (k : Compound) (t : Tail) (name : List ℕ) (states : Option (List (List ℕ))) → more_states (with_state k t name) (record { element = t.element; states = t.states ++ name ∷ [] }) states ≡ more_states k t (option_map (λ ss. name ∷ ss) states)
more-state k t name None = refl
more-state k t name (Some ss) = ap (λ (ns : List (List ℕ)). (let made : Compound = record { kind = k.kind; parts = k.parts; tail = Some (record { element = t.element; states = ns }) } in Some made)) (append_assoc t.states (name ∷ []) ss)

-- Combinators.

chained-joined : (at : ℕ) (lead : Option Combinator) (f : Front) (k : Compound) (c : Combinator) (l : Compound) (ls : List Step) → chained at lead (joined f k c) l ls ≡ chained at lead f k ((c, l) ∷ ls)
chained-joined at lead Nothing k c l ls = refl
chained-joined at lead (Joined first rest before) k c l ls = ap (λ (links : List link.Link). (let s : Selector = record { lead = lead; first = first; rest = links; at = at } in s)) (append_assoc rest (link.Linked before k ∷ []) (link.Linked c l ∷ map link_of ls))

joined-at : (at : ℕ) (lead : Option Combinator) (f : Front) (kind : TypeName) (parts : List part.Part) (c : Combinator) (l : Compound) (ls : List Step) (b : Bool)
    → (if b then Some (chained at lead (joined f (record { kind = kind; parts = parts; tail = None }) c) l ls) else None) ≡ selector_from at lead f (Some (record { kind = kind; parts = parts; tail = None })) (if b then Some ((c, l) ∷ ls) else None)
joined-at at lead f kind parts c l ls true = ap (λ (s : Selector). Some s) (chained-joined at lead f (record { kind = kind; parts = parts; tail = None }) c l ls)
joined-at at lead f kind parts c l ls false = refl

joined-some : (at : ℕ) (lead : Option Combinator) (f : Front) (kind : TypeName) (parts : List part.Part) (c : Combinator) (o : Option Compound) (ls : Option (List Step))
    → selector_from at lead (joined f (record { kind = kind; parts = parts; tail = None }) c) o ls ≡ selector_from at lead f (Some (record { kind = kind; parts = parts; tail = None })) (with_step c o ls)
joined-some at lead f kind parts c None ls = refl
joined-some at lead f kind parts c (Some l) None = refl
joined-some at lead f kind parts c (Some l) (Some ls) = joined-at at lead f kind parts c l ls (stands_before l.tail ls)

-- a combinator behind a compound without a pseudo-element
from-joined : (at : ℕ) (lead : Option Combinator) (f : Front) (kind : TypeName) (parts : List part.Part) (c : Combinator) (o : Option Compound) (ls : Option (List Step))
    → selector_from at lead (joined f (record { kind = kind; parts = parts; tail = None }) c) o ls ≡ selector_from at lead f (more_of None (record { kind = kind; parts = parts; tail = None }) []) (with_step c o ls)
from-joined at lead f kind parts c o ls = joined-some at lead f kind parts c o ls ∙ ap (λ (k : Option Compound). selector_from at lead f k (with_step c o ls)) (sym (more-none kind parts))

stuck-at : (at : ℕ) (lead : Option Combinator) (f : Front) (kind : TypeName) (parts : List part.Part) (t : Tail) (c : Combinator) (l : Compound) (ls : List Step) (b : Bool)
    → None ≡ selector_from at lead f (more_of (Some t) (record { kind = kind; parts = parts; tail = Some t }) []) (if b then Some ((c, l) ∷ ls) else None)
stuck-at at lead f kind parts t c l ls true = refl
stuck-at at lead f kind parts t c l ls false = refl

-- nothing stands behind a compound with a pseudo-element
tail-stuck : (at : ℕ) (lead : Option Combinator) (f : Front) (kind : TypeName) (parts : List part.Part) (t : Tail) (c : Combinator) (o : Option Compound) (ls : Option (List Step))
    → None ≡ selector_from at lead f (more_of (Some t) (record { kind = kind; parts = parts; tail = Some t }) []) (with_step c o ls)
tail-stuck at lead f kind parts t c None ls = refl
tail-stuck at lead f kind parts t c (Some l) None = refl
tail-stuck at lead f kind parts t c (Some l) (Some ls) = stuck-at at lead f kind parts t c l ls (stands_before l.tail ls)

-- One more sign.

-- a name behind a colon
pseudo-at : (at : ℕ) (lead : Option Combinator) (f : Front) (kind : TypeName) (parts : List part.Part) (d : ℕ) (name : List ℕ) (ws : List Sign) (old : Bool)
    → meaning_of at (if old then reading Inside lead f (with_element (record { kind = kind; parts = parts; tail = None }) name) else reading Inside lead f (with_simple (record { kind = kind; parts = parts; tail = None }) (simple.Pseudo name) d)) ws
    ≡ selector_from at lead f (more_body (record { kind = kind; parts = parts; tail = None }) (if old then tailed name (states_of (runs_of ws).first) else with_part (simple.Pseudo name) d (body_of (runs_of ws).first))) (steps_of (runs_of ws).rest)
pseudo-at at lead f kind parts d name ws true = ap (λ (o : Option Compound). selector_from at lead f o (steps_of (runs_of ws).rest)) (more-element (record { kind = kind; parts = parts; tail = None }) name (states_of (runs_of ws).first))
pseudo-at at lead f kind parts d name ws false = ap (λ (o : Option Compound). selector_from at lead f o (steps_of (runs_of ws).rest)) (more-simple (record { kind = kind; parts = parts; tail = None }) (simple.Pseudo name) d (body_of (runs_of ws).first))

part-in : (at : ℕ) (lead : Option Combinator) (f : Front) (k : Compound) (x : Simple) (d : ℕ) (runs : Runs) → selector_from at lead f (more_body (with_simple k x d) (body_of runs.first)) (steps_of runs.rest) ≡ selector_from at lead f (more_body k (with_part x d (body_of runs.first))) (steps_of runs.rest)
part-in at lead f k x d runs = ap (λ (o : Option Compound). selector_from at lead f o (steps_of runs.rest)) (more-simple k x d (body_of runs.first))

meaning-step : (at : ℕ) (w : Sign) (p : Phase) (lead : Option Combinator) (f : Front) (kind : TypeName) (parts : List part.Part) (tail : Option Tail) (ws : List Sign)
    → meaning_of at (step w (reading p lead f (record { kind = kind; parts = parts; tail = tail }))) ws ≡ meaning at p lead f (record { kind = kind; parts = parts; tail = tail }) (sign_before w ws)
meaning-step at Comment (Due true) lead f kind parts None ws = refl
meaning-step at Comment (Due true) lead f kind parts (Some t) ws = refl
meaning-step at Comment (Due false) lead f kind parts None ws = refl
meaning-step at Comment (Due false) lead f kind parts (Some t) ws = refl
meaning-step at Comment Inside lead f kind parts None ws = refl
meaning-step at Comment Inside lead f kind parts (Some t) ws = refl
meaning-step at Comment (Dotted d) lead f kind parts None ws = refl
meaning-step at Comment (Dotted d) lead f kind parts (Some t) ws = refl
meaning-step at Comment (Coloned d) lead f kind parts None ws = refl
meaning-step at Comment (Coloned d) lead f kind parts (Some t) ws = refl
meaning-step at Comment (Doubled d) lead f kind parts None ws = refl
meaning-step at Comment (Doubled d) lead f kind parts (Some t) ws = refl
meaning-step at Comment Behind lead f kind parts None ws = refl
meaning-step at Comment Behind lead f kind parts (Some t) ws = refl
meaning-step at Comment Failed lead f kind parts None ws = refl
meaning-step at Comment Failed lead f kind parts (Some t) ws = refl
meaning-step at White (Due true) lead f kind parts None ws = ap (λ (vs : List Sign). due at (option_or (lead_of true vs) lead) f (runs_of (behind_lead true vs))) (sym (stripped-white ws))
meaning-step at White (Due true) lead f kind parts (Some t) ws = ap (λ (vs : List Sign). due at (option_or (lead_of true vs) lead) f (runs_of (behind_lead true vs))) (sym (stripped-white ws))
meaning-step at White (Due false) lead f kind parts None ws = ap (λ (vs : List Sign). due at (option_or (lead_of false vs) lead) f (runs_of (behind_lead false vs))) (sym (stripped-white ws))
meaning-step at White (Due false) lead f kind parts (Some t) ws = ap (λ (vs : List Sign). due at (option_or (lead_of false vs) lead) f (runs_of (behind_lead false vs))) (sym (stripped-white ws))
meaning-step at White Inside lead f kind parts None ws = refl
meaning-step at White Inside lead f kind parts (Some t) ws = refl
meaning-step at White (Dotted d) lead f kind parts None ws = ap (λ (vs : List Sign). selector_from at lead f (more_of None (record { kind = kind; parts = parts; tail = None }) (Dot d ∷ vs)) (steps_of (runs_of (white_before ws)).rest)) (sym (first-white ws))
meaning-step at White (Dotted d) lead f kind parts (Some t) ws = refl
meaning-step at White (Coloned d) lead f kind parts None ws = ap (λ (vs : List Sign). selector_from at lead f (more_of None (record { kind = kind; parts = parts; tail = None }) (Colon d ∷ vs)) (steps_of (runs_of (white_before ws)).rest)) (sym (first-white ws))
meaning-step at White (Coloned d) lead f kind parts (Some t) ws = ap (λ (vs : List Sign). selector_from at lead f (more_of (Some t) (record { kind = kind; parts = parts; tail = Some t }) (Colon d ∷ vs)) (steps_of (runs_of (white_before ws)).rest)) (sym (first-white ws))
meaning-step at White (Doubled d) lead f kind parts None ws = ap (λ (vs : List Sign). selector_from at lead f (more_of None (record { kind = kind; parts = parts; tail = None }) (Colon d ∷ Colon d ∷ vs)) (steps_of (runs_of (white_before ws)).rest)) (sym (first-white ws))
meaning-step at White (Doubled d) lead f kind parts (Some t) ws = refl
meaning-step at White Behind lead f kind parts None ws = ap (λ (vs : List Sign). inside at lead f (record { kind = kind; parts = parts; tail = None }) (runs_of vs)) (sym (white-white ws))
meaning-step at White Behind lead f kind parts (Some t) ws = ap (λ (vs : List Sign). inside at lead f (record { kind = kind; parts = parts; tail = Some t }) (runs_of vs)) (sym (white-white ws))
meaning-step at White Failed lead f kind parts None ws = refl
meaning-step at White Failed lead f kind parts (Some t) ws = refl
meaning-step at Comma (Due true) lead f kind parts None ws = refl
meaning-step at Comma (Due true) lead f kind parts (Some t) ws = refl
meaning-step at Comma (Due false) lead f kind parts None ws = refl
meaning-step at Comma (Due false) lead f kind parts (Some t) ws = refl
meaning-step at Comma Inside lead f kind parts None ws = refl
meaning-step at Comma Inside lead f kind parts (Some t) ws = refl
meaning-step at Comma (Dotted d) lead f kind parts None ws = refl
meaning-step at Comma (Dotted d) lead f kind parts (Some t) ws = refl
meaning-step at Comma (Coloned d) lead f kind parts None ws = refl
meaning-step at Comma (Coloned d) lead f kind parts (Some t) ws = refl
meaning-step at Comma (Doubled d) lead f kind parts None ws = refl
meaning-step at Comma (Doubled d) lead f kind parts (Some t) ws = refl
meaning-step at Comma Behind lead f kind parts None ws = refl
meaning-step at Comma Behind lead f kind parts (Some t) ws = refl
meaning-step at Comma Failed lead f kind parts None ws = refl
meaning-step at Comma Failed lead f kind parts (Some t) ws = refl
meaning-step at (Joint c) (Due true) lead f kind parts None ws = refl
meaning-step at (Joint c) (Due true) lead f kind parts (Some t) ws = refl
meaning-step at (Joint c) (Due false) lead f kind parts None ws = refl
meaning-step at (Joint c) (Due false) lead f kind parts (Some t) ws = refl
meaning-step at (Joint c) Inside lead f kind parts None ws = from-joined at lead f kind parts c (compound_of (runs_of (stripped ws)).first) (steps_of (runs_of (stripped ws)).rest)
meaning-step at (Joint c) Inside lead f kind parts (Some t) ws = tail-stuck at lead f kind parts t c (compound_of (runs_of (stripped ws)).first) (steps_of (runs_of (stripped ws)).rest)
meaning-step at (Joint c) (Dotted d) lead f kind parts None ws = refl
meaning-step at (Joint c) (Dotted d) lead f kind parts (Some t) ws = refl
meaning-step at (Joint c) (Coloned d) lead f kind parts None ws = refl
meaning-step at (Joint c) (Coloned d) lead f kind parts (Some t) ws = refl
meaning-step at (Joint c) (Doubled d) lead f kind parts None ws = refl
meaning-step at (Joint c) (Doubled d) lead f kind parts (Some t) ws = refl
meaning-step at (Joint c) Behind lead f kind parts None ws = from-joined at lead f kind parts c (compound_of (runs_of (stripped ws)).first) (steps_of (runs_of (stripped ws)).rest)
meaning-step at (Joint c) Behind lead f kind parts (Some t) ws = tail-stuck at lead f kind parts t c (compound_of (runs_of (stripped ws)).first) (steps_of (runs_of (stripped ws)).rest)
meaning-step at (Joint c) Failed lead f kind parts None ws = refl
meaning-step at (Joint c) Failed lead f kind parts (Some t) ws = refl
meaning-step at (Name n) (Due true) lead f kind parts None ws = refl
meaning-step at (Name n) (Due true) lead f kind parts (Some t) ws = refl
meaning-step at (Name n) (Due false) lead f kind parts None ws = refl
meaning-step at (Name n) (Due false) lead f kind parts (Some t) ws = refl
meaning-step at (Name n) Inside lead f kind parts None ws = refl
meaning-step at (Name n) Inside lead f kind parts (Some t) ws = refl
meaning-step at (Name n) (Dotted d) lead f kind parts None ws = part-in at lead f (record { kind = kind; parts = parts; tail = None }) (simple.Class n) d (runs_of ws)
meaning-step at (Name n) (Dotted d) lead f kind parts (Some t) ws = refl
meaning-step at (Name n) (Coloned d) lead f kind parts None ws = pseudo-at at lead f kind parts d (pseudo_text n) ws (is_old_element (pseudo_text n))
meaning-step at (Name n) (Coloned d) lead f kind parts (Some t) ws = ap (λ (o : Option Compound). selector_from at lead f o (steps_of (runs_of ws).rest)) (more-state (record { kind = kind; parts = parts; tail = Some t }) t (pseudo_text n) (states_of (runs_of ws).first))
meaning-step at (Name n) (Doubled d) lead f kind parts None ws = ap (λ (o : Option Compound). selector_from at lead f o (steps_of (runs_of ws).rest)) (more-element (record { kind = kind; parts = parts; tail = None }) (pseudo_text n) (states_of (runs_of ws).first))
meaning-step at (Name n) (Doubled d) lead f kind parts (Some t) ws = refl
meaning-step at (Name n) Behind lead f kind parts None ws = from-joined at lead f kind parts combinators.Descendant (compound_with (types.Name n) (body_of (runs_of ws).first)) (steps_of (runs_of ws).rest)
meaning-step at (Name n) Behind lead f kind parts (Some t) ws = tail-stuck at lead f kind parts t combinators.Descendant (compound_with (types.Name n) (body_of (runs_of ws).first)) (steps_of (runs_of ws).rest)
meaning-step at (Name n) Failed lead f kind parts None ws = refl
meaning-step at (Name n) Failed lead f kind parts (Some t) ws = refl
meaning-step at Star (Due true) lead f kind parts None ws = refl
meaning-step at Star (Due true) lead f kind parts (Some t) ws = refl
meaning-step at Star (Due false) lead f kind parts None ws = refl
meaning-step at Star (Due false) lead f kind parts (Some t) ws = refl
meaning-step at Star Inside lead f kind parts None ws = refl
meaning-step at Star Inside lead f kind parts (Some t) ws = refl
meaning-step at Star (Dotted d) lead f kind parts None ws = refl
meaning-step at Star (Dotted d) lead f kind parts (Some t) ws = refl
meaning-step at Star (Coloned d) lead f kind parts None ws = refl
meaning-step at Star (Coloned d) lead f kind parts (Some t) ws = refl
meaning-step at Star (Doubled d) lead f kind parts None ws = refl
meaning-step at Star (Doubled d) lead f kind parts (Some t) ws = refl
meaning-step at Star Behind lead f kind parts None ws = from-joined at lead f kind parts combinators.Descendant (compound_with types.Universal (body_of (runs_of ws).first)) (steps_of (runs_of ws).rest)
meaning-step at Star Behind lead f kind parts (Some t) ws = tail-stuck at lead f kind parts t combinators.Descendant (compound_with types.Universal (body_of (runs_of ws).first)) (steps_of (runs_of ws).rest)
meaning-step at Star Failed lead f kind parts None ws = refl
meaning-step at Star Failed lead f kind parts (Some t) ws = refl
meaning-step at (Dot a) (Due true) lead f kind parts None ws = refl
meaning-step at (Dot a) (Due true) lead f kind parts (Some t) ws = refl
meaning-step at (Dot a) (Due false) lead f kind parts None ws = refl
meaning-step at (Dot a) (Due false) lead f kind parts (Some t) ws = refl
meaning-step at (Dot a) Inside lead f kind parts None ws = refl
meaning-step at (Dot a) Inside lead f kind parts (Some t) ws = refl
meaning-step at (Dot a) (Dotted d) lead f kind parts None ws = refl
meaning-step at (Dot a) (Dotted d) lead f kind parts (Some t) ws = refl
meaning-step at (Dot a) (Coloned d) lead f kind parts None ws = refl
meaning-step at (Dot a) (Coloned d) lead f kind parts (Some t) ws = refl
meaning-step at (Dot a) (Doubled d) lead f kind parts None ws = refl
meaning-step at (Dot a) (Doubled d) lead f kind parts (Some t) ws = refl
meaning-step at (Dot a) Behind lead f kind parts None ws = from-joined at lead f kind parts combinators.Descendant (compound_with types.None (body_of (Dot a ∷ (runs_of ws).first))) (steps_of (runs_of ws).rest)
meaning-step at (Dot a) Behind lead f kind parts (Some t) ws = tail-stuck at lead f kind parts t combinators.Descendant (compound_with types.None (body_of (Dot a ∷ (runs_of ws).first))) (steps_of (runs_of ws).rest)
meaning-step at (Dot a) Failed lead f kind parts None ws = refl
meaning-step at (Dot a) Failed lead f kind parts (Some t) ws = refl
meaning-step at (Colon a) (Due true) lead f kind parts None ws = refl
meaning-step at (Colon a) (Due true) lead f kind parts (Some t) ws = refl
meaning-step at (Colon a) (Due false) lead f kind parts None ws = refl
meaning-step at (Colon a) (Due false) lead f kind parts (Some t) ws = refl
meaning-step at (Colon a) Inside lead f kind parts None ws = refl
meaning-step at (Colon a) Inside lead f kind parts (Some t) ws = refl
meaning-step at (Colon a) (Dotted d) lead f kind parts None ws = refl
meaning-step at (Colon a) (Dotted d) lead f kind parts (Some t) ws = refl
meaning-step at (Colon a) (Coloned d) lead f kind parts None ws = ap (λ (o : Option Body). selector_from at lead f (more_body (record { kind = kind; parts = parts; tail = None }) o) (steps_of (runs_of ws).rest)) (second-colon d a (runs_of ws).first)
meaning-step at (Colon a) (Coloned d) lead f kind parts (Some t) ws = refl
meaning-step at (Colon a) (Doubled d) lead f kind parts None ws = refl
meaning-step at (Colon a) (Doubled d) lead f kind parts (Some t) ws = refl
meaning-step at (Colon a) Behind lead f kind parts None ws = from-joined at lead f kind parts combinators.Descendant (compound_with types.None (body_of (Colon a ∷ (runs_of ws).first))) (steps_of (runs_of ws).rest)
meaning-step at (Colon a) Behind lead f kind parts (Some t) ws = tail-stuck at lead f kind parts t combinators.Descendant (compound_with types.None (body_of (Colon a ∷ (runs_of ws).first))) (steps_of (runs_of ws).rest)
meaning-step at (Colon a) Failed lead f kind parts None ws = refl
meaning-step at (Colon a) Failed lead f kind parts (Some t) ws = refl
meaning-step at (Whole x a) (Due true) lead f kind parts None ws = part-in at lead f (of_type types.None) x a (runs_of ws)
meaning-step at (Whole x a) (Due true) lead f kind parts (Some t) ws = part-in at lead f (of_type types.None) x a (runs_of ws)
meaning-step at (Whole x a) (Due false) lead f kind parts None ws = part-in at lead f (of_type types.None) x a (runs_of ws)
meaning-step at (Whole x a) (Due false) lead f kind parts (Some t) ws = part-in at lead f (of_type types.None) x a (runs_of ws)
meaning-step at (Whole x a) Inside lead f kind parts None ws = part-in at lead f (record { kind = kind; parts = parts; tail = None }) x a (runs_of ws)
meaning-step at (Whole x a) Inside lead f kind parts (Some t) ws = refl
meaning-step at (Whole x a) (Dotted d) lead f kind parts None ws = refl
meaning-step at (Whole x a) (Dotted d) lead f kind parts (Some t) ws = refl
meaning-step at (Whole x a) (Coloned d) lead f kind parts None ws = refl
meaning-step at (Whole x a) (Coloned d) lead f kind parts (Some t) ws = refl
meaning-step at (Whole x a) (Doubled d) lead f kind parts None ws = refl
meaning-step at (Whole x a) (Doubled d) lead f kind parts (Some t) ws = refl
meaning-step at (Whole x a) Behind lead f kind parts None ws = part-in at lead (joined f (record { kind = kind; parts = parts; tail = None }) combinators.Descendant) (of_type types.None) x a (runs_of ws) ∙ from-joined at lead f kind parts combinators.Descendant (compound_with types.None (with_part x a (body_of (runs_of ws).first))) (steps_of (runs_of ws).rest)
meaning-step at (Whole x a) Behind lead f kind parts (Some t) ws = tail-stuck at lead f kind parts t combinators.Descendant (compound_with types.None (with_part x a (body_of (runs_of ws).first))) (steps_of (runs_of ws).rest)
meaning-step at (Whole x a) Failed lead f kind parts None ws = refl
meaning-step at (Whole x a) Failed lead f kind parts (Some t) ws = refl
meaning-step at (Call (Some x)) (Due true) lead f kind parts None ws = refl
meaning-step at (Call None) (Due true) lead f kind parts None ws = refl
meaning-step at (Call (Some x)) (Due true) lead f kind parts (Some t) ws = refl
meaning-step at (Call None) (Due true) lead f kind parts (Some t) ws = refl
meaning-step at (Call (Some x)) (Due false) lead f kind parts None ws = refl
meaning-step at (Call None) (Due false) lead f kind parts None ws = refl
meaning-step at (Call (Some x)) (Due false) lead f kind parts (Some t) ws = refl
meaning-step at (Call None) (Due false) lead f kind parts (Some t) ws = refl
meaning-step at (Call (Some x)) Inside lead f kind parts None ws = refl
meaning-step at (Call None) Inside lead f kind parts None ws = refl
meaning-step at (Call (Some x)) Inside lead f kind parts (Some t) ws = refl
meaning-step at (Call None) Inside lead f kind parts (Some t) ws = refl
meaning-step at (Call (Some x)) (Dotted d) lead f kind parts None ws = refl
meaning-step at (Call None) (Dotted d) lead f kind parts None ws = refl
meaning-step at (Call (Some x)) (Dotted d) lead f kind parts (Some t) ws = refl
meaning-step at (Call None) (Dotted d) lead f kind parts (Some t) ws = refl
meaning-step at (Call (Some x)) (Coloned d) lead f kind parts None ws = part-in at lead f (record { kind = kind; parts = parts; tail = None }) x d (runs_of ws)
meaning-step at (Call None) (Coloned d) lead f kind parts None ws = refl
meaning-step at (Call (Some x)) (Coloned d) lead f kind parts (Some t) ws = refl
meaning-step at (Call None) (Coloned d) lead f kind parts (Some t) ws = refl
meaning-step at (Call (Some x)) (Doubled d) lead f kind parts None ws = part-in at lead f (record { kind = kind; parts = parts; tail = None }) simple.Foreign d (runs_of ws)
meaning-step at (Call None) (Doubled d) lead f kind parts None ws = part-in at lead f (record { kind = kind; parts = parts; tail = None }) simple.Foreign d (runs_of ws)
meaning-step at (Call (Some x)) (Doubled d) lead f kind parts (Some t) ws = refl
meaning-step at (Call None) (Doubled d) lead f kind parts (Some t) ws = refl
meaning-step at (Call (Some x)) Behind lead f kind parts None ws = refl
meaning-step at (Call None) Behind lead f kind parts None ws = refl
meaning-step at (Call (Some x)) Behind lead f kind parts (Some t) ws = refl
meaning-step at (Call None) Behind lead f kind parts (Some t) ws = refl
meaning-step at (Call (Some x)) Failed lead f kind parts None ws = refl
meaning-step at (Call None) Failed lead f kind parts None ws = refl
meaning-step at (Call (Some x)) Failed lead f kind parts (Some t) ws = refl
meaning-step at (Call None) Failed lead f kind parts (Some t) ws = refl
meaning-step at Other (Due true) lead f kind parts None ws = refl
meaning-step at Other (Due true) lead f kind parts (Some t) ws = refl
meaning-step at Other (Due false) lead f kind parts None ws = refl
meaning-step at Other (Due false) lead f kind parts (Some t) ws = refl
meaning-step at Other Inside lead f kind parts None ws = refl
meaning-step at Other Inside lead f kind parts (Some t) ws = refl
meaning-step at Other (Dotted d) lead f kind parts None ws = refl
meaning-step at Other (Dotted d) lead f kind parts (Some t) ws = refl
meaning-step at Other (Coloned d) lead f kind parts None ws = refl
meaning-step at Other (Coloned d) lead f kind parts (Some t) ws = refl
meaning-step at Other (Doubled d) lead f kind parts None ws = refl
meaning-step at Other (Doubled d) lead f kind parts (Some t) ws = refl
meaning-step at Other Behind lead f kind parts None ws = refl
meaning-step at Other Behind lead f kind parts (Some t) ws = refl
meaning-step at Other Failed lead f kind parts None ws = refl
meaning-step at Other Failed lead f kind parts (Some t) ws = refl

end-tail : (at : ℕ) (lead : Option Combinator) (f : Front) (kind : TypeName) (parts : List part.Part) (t : Tail) → Some (chained at lead f (record { kind = kind; parts = parts; tail = Some t }) []) ≡ inside at lead f (record { kind = kind; parts = parts; tail = Some t }) (runs_of [])
end-tail at lead f kind parts t = ap (λ (ss : List (List ℕ)). (let k : Compound = record { kind = kind; parts = parts; tail = Some (record { element = t.element; states = ss }) } in Some (chained at lead f k []))) (sym (append-nil t.states))

end-parts : (at : ℕ) (lead : Option Combinator) (f : Front) (kind : TypeName) (parts : List part.Part) → Some (chained at lead f (record { kind = kind; parts = parts; tail = None }) []) ≡ inside at lead f (record { kind = kind; parts = parts; tail = None }) (runs_of [])
end-parts at lead f kind parts = ap (λ (o : Option Compound). selector_from at lead f o (Some [])) (sym (more-none kind parts))

meaning-end : (at : ℕ) (p : Phase) (lead : Option Combinator) (f : Front) (kind : TypeName) (parts : List part.Part) (tail : Option Tail) → concluded at p lead f (record { kind = kind; parts = parts; tail = tail }) ≡ meaning at p lead f (record { kind = kind; parts = parts; tail = tail }) []
meaning-end at (Due true) lead f kind parts None = refl
meaning-end at (Due true) lead f kind parts (Some t) = refl
meaning-end at (Due false) lead f kind parts None = refl
meaning-end at (Due false) lead f kind parts (Some t) = refl
meaning-end at Inside lead f kind parts None = end-parts at lead f kind parts
meaning-end at Inside lead f kind parts (Some t) = end-tail at lead f kind parts t
meaning-end at (Dotted d) lead f kind parts None = refl
meaning-end at (Dotted d) lead f kind parts (Some t) = refl
meaning-end at (Coloned d) lead f kind parts None = refl
meaning-end at (Coloned d) lead f kind parts (Some t) = refl
meaning-end at (Doubled d) lead f kind parts None = refl
meaning-end at (Doubled d) lead f kind parts (Some t) = refl
meaning-end at Behind lead f kind parts None = end-parts at lead f kind parts
meaning-end at Behind lead f kind parts (Some t) = end-tail at lead f kind parts t
meaning-end at Failed lead f kind parts None = refl
meaning-end at Failed lead f kind parts (Some t) = refl

run-reading : (at : ℕ) (p : Pending) (ms : List Mark) → (let r = (pending_run p ms).reading in concluded at r.phase r.lead r.front r.compound) ≡ meaning_of at p.reading (spaced (map (λ m. m.sign) ms))
run-reading at p [] = (let k = p.reading.compound in meaning-end at p.reading.phase p.reading.lead p.reading.front k.kind k.parts k.tail)
run-reading at p (m ∷ ms) = (let k = p.reading.compound in run-reading at (pending_step p m.sign m.at) ms ∙ meaning-step at m.sign p.reading.phase p.reading.lead p.reading.front k.kind k.parts k.tail (spaced (map (λ n. n.sign) ms)))

-- The place.

or-place : (o : Option ℕ) (gap : Bool) (m : Mark) (rest : Option Mark) → option_or (option_or o (if gap then None else Some m.at)) (option_map (λ n. n.at) rest) ≡ option_or o (option_map (λ n. n.at) (cond (not gap) (Some m) rest))
or-place None true m rest = refl
or-place None false m rest = refl
or-place (Some x) true m rest = refl
or-place (Some x) false m rest = refl

or-none : (o : Option ℕ) → o ≡ option_or o None
or-none None = refl
or-none (Some x) = refl

run-place : (p : Pending) (ms : List Mark) → (pending_run p ms).place ≡ option_or p.place (first_place ms)
run-place p [] = or-none p.place
run-place p (m ∷ ms) = run-place (pending_step p m.sign m.at) ms ∙ or-place p.place (is_gap_sign m.sign) m (find (λ n. not (is_gap_sign n.sign)) ms)

-- A whole member.

from-nothing : (at : ℕ) (lead : Option Combinator) (o : Option Compound) (ls : Option (List Step)) → selector_from at lead Nothing o ls ≡ selector_with at lead o ls
from-nothing at lead None ls = refl
from-nothing at lead (Some k) None = refl
from-nothing at lead (Some k) (Some ls) = refl

or-lead : (o : Option Combinator) → option_or o None ≡ o
or-lead None = refl
or-lead (Some c) = refl

run-selector : (nested : Bool) (ms : List Mark) → pending_selector (pending_run (fresh nested) ms) ≡ selector_of nested ms
run-selector nested ms =
    (let at = unwrap_or (first_place ms) 0 in
    let ws = stripped (spaced (map (λ m. m.sign) ms)) in
    let runs = runs_of (behind_lead nested ws) in
    ap (λ (o : Option ℕ). let r = (pending_run (fresh nested) ms).reading in concluded (unwrap_or o 0) r.phase r.lead r.front r.compound) (run-place (fresh nested) ms)
    ∙ run-reading at (fresh nested) ms
    ∙ ap (λ (lead : Option Combinator). due at lead Nothing runs) (or-lead (lead_of nested ws))
    ∙ from-nothing at (lead_of nested ws) (compound_of runs.first) (steps_of runs.rest))

run-member : (nested : Bool) (ms : List Mark) (stop : ℕ) → pending_reading (pending_run (fresh nested) ms) stop ≡ or_fault (selector_of nested ms) (unwrap_or (first_place ms) stop)
run-member nested ms stop =
    ap (λ (o : Option Selector). or_fault o (unwrap_or (pending_run (fresh nested) ms).place stop)) (run-selector nested ms)
    ∙ ap (λ (o : Option ℕ). or_fault (selector_of nested ms) (unwrap_or o stop)) (run-place (fresh nested) ms)

-- Lists.

pub list-fresh : (nested : Bool) (ms : List Mark) (end : ℕ) → list_from nested (fresh nested) ms end ≡ marks_reading nested ms end
list-fresh nested ms end = ap (λ (r : Result Selector ℕ). first_and r (members_reading nested end (cut_at_commas ms).1)) (run-member nested (cut_at_commas ms).0.marks (unwrap_or (cut_at_commas ms).0.stop end))

abbrev from_parts : Bool → ℕ → Pending → Member × List Member → Result (List Selector) ℕ
from_parts nested end p parts = first_and (pending_reading (pending_run p parts.0.marks) (unwrap_or parts.0.stop end)) (members_reading nested end parts.1)

abbrev parts_at : Mark → List Mark → Bool → Member × List Member
parts_at m ms comma =
    if comma then (empty_before (Some m.at), (cut_at_commas ms).0 ∷ (cut_at_commas ms).1)
    else (with_mark m (cut_at_commas ms).0, (cut_at_commas ms).1)

pub list-comma : (nested : Bool) (p : Pending) (m : Mark) (ms : List Mark) (end : ℕ) → is_comma_sign m.sign ≡ true → list_from nested p (m ∷ ms) end ≡ first_and (pending_reading p m.at) (marks_reading nested ms end)
list-comma nested p m ms end e = ap (λ (b : Bool). from_parts nested end p (parts_at m ms b)) e

pub list-more : (nested : Bool) (p : Pending) (m : Mark) (ms : List Mark) (end : ℕ) → is_comma_sign m.sign ≡ false → list_from nested p (m ∷ ms) end ≡ list_from nested (pending_step p m.sign m.at) ms end
list-more nested p m ms end e = ap (λ (b : Bool). from_parts nested end p (parts_at m ms b)) e

behind-first : (list : List Selector) (s : Selector) (r : Result (List Selector) ℕ) → behind_list (list ++ s ∷ []) r ≡ behind_list list (first_and (Ok s) r)
behind-first list s (Err place) = refl
behind-first list s (Ok ss) = ap (λ (xs : List Selector). (let r : Result (List Selector) ℕ = Ok xs in r)) (append_assoc list (s ∷ []) ss)

pub behind-none : (r : Result (List Selector) ℕ) → behind_list [] r ≡ r
behind-none (Err place) = refl
behind-none (Ok ss) = refl

-- one turn of the loop over a list at a comma
pub comma-turn : (nested : Bool) (list : List Selector) (p : Pending) (m : Mark) (ms : List Mark) (end : ℕ) (s : Selector) → is_comma_sign m.sign ≡ true → pending_reading p m.at ≡ Ok s
    → behind_list (list ++ s ∷ []) (list_from nested (fresh nested) ms end) ≡ behind_list list (list_from nested p (m ∷ ms) end)
comma-turn nested list p m ms end s comma read =
    ap (λ (r : Result (List Selector) ℕ). behind_list (list ++ s ∷ []) r) (list-fresh nested ms end)
    ∙ behind-first list s (marks_reading nested ms end)
    ∙ ap (λ (r : Result Selector ℕ). behind_list list (first_and r (marks_reading nested ms end))) (sym read)
    ∙ ap (λ (r : Result (List Selector) ℕ). behind_list list r) (sym (list-comma nested p m ms end comma))

-- a member that cannot be read, before a comma
pub comma-fault : (nested : Bool) (list : List Selector) (p : Pending) (m : Mark) (ms : List Mark) (end place : ℕ) → is_comma_sign m.sign ≡ true → pending_reading p m.at ≡ Err place → behind_list list (list_from nested p (m ∷ ms) end) ≡ Err place
comma-fault nested list p m ms end place comma fails =
    ap (λ (r : Result (List Selector) ℕ). behind_list list r) (list-comma nested p m ms end comma)
    ∙ ap (λ (r : Result Selector ℕ). behind_list list (first_and r (marks_reading nested ms end))) fails

-- the last member
pub last-turn : (nested : Bool) (list : List Selector) (p : Pending) (end : ℕ) (s : Selector) → pending_reading p end ≡ Ok s → behind_list list (list_from nested p [] end) ≡ Ok (list ++ s ∷ [])
last-turn nested list p end s read = ap (λ (r : Result Selector ℕ). behind_list list (first_and r (Ok []))) read

pub last-fault : (nested : Bool) (list : List Selector) (p : Pending) (end place : ℕ) → pending_reading p end ≡ Err place → behind_list list (list_from nested p [] end) ≡ Err place
last-fault nested list p end place fails = ap (λ (r : Result Selector ℕ). behind_list list (first_and r (Ok []))) fails

-- one turn at another component
pub more-turn : (nested : Bool) (list : List Selector) (p : Pending) (m : Mark) (ms : List Mark) (end : ℕ) → is_comma_sign m.sign ≡ false → behind_list list (list_from nested (pending_step p m.sign m.at) ms end) ≡ behind_list list (list_from nested p (m ∷ ms) end)
more-turn nested list p m ms end e = ap (λ (r : Result (List Selector) ℕ). behind_list list r) (sym (list-more nested p m ms end e))
