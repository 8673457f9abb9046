-- A selector that is read from left to right, and the list in which it stands (Selectors 4, section 18, Grammar).
use Rattle.std.specs.Prelude.{ℕ, ◌≡◌, List, [], ◌∷◌, ◌++◌, map, Bool, true, false, Option, Some, None, unwrap_or, if◌then◌else◌, Result, Ok, Err}
use Rattle.std.specs.Option.{option_or}
use Rattle.selector_types.specs.declared.selector.Combinator.{Combinator}
use Rattle.selector_types.specs.declared.selector.Combinator.TheVariants as combinators
use Rattle.selector_types.specs.declared.selector.TypeName.{TypeName}
use Rattle.selector_types.specs.declared.selector.TypeName.TheVariants as types
use Rattle.selector_types.specs.declared.selector.Simple.{Simple}
use Rattle.selector_types.specs.declared.selector.Simple as simple
use Rattle.selector_types.specs.declared.selector.Part as part
use Rattle.selector_types.specs.declared.selector.Link as link
use Rattle.selector_types.specs.declared.selector.Tail.{Tail}
use Rattle.selector_types.specs.declared.selector.Compound.{Compound}
use Rattle.selector_types.specs.declared.selector.Selector.{Selector}
use Rattle.selector_tree.specs.declared.sign.Sign.{Sign}
use Rattle.selector_tree.specs.declared.sign.Sign.TheVariants.{Comment, White, Comma, Joint, Name, Star, Dot, Colon, Whole, Call, Other}
use Rattle.selector_tree.specs.declared.reading.Front.{Front}
use Rattle.selector_tree.specs.declared.reading.Front.TheVariants.{Nothing, Joined}
use Rattle.selector_tree.specs.declared.reading.Phase.{Phase}
use Rattle.selector_tree.specs.declared.reading.Phase.TheVariants.{Due, Inside, Dotted, Coloned, Doubled, Behind, Failed}
use Rattle.selector_tree.specs.declared.reading.Reading.{Reading}
use Rattle.selector_tree.specs.declared.reading.Pending.{Pending}
use Rattle.selector_tree.specs.declared.reading.Listing.{Listing}
use Rattle.selector_tree.specs.declared.fault.SelectorFault.{SelectorFault}
use Rattle.selector_tree.specs.Faults.{FaultIs}
use Rattle.selector_types.specs.Names.{is_old_element, pseudo_text}
use Rattle.selector_tree.specs.Grammar.{Mark, Step, is_gap_sign, is_comma_sign, cut_at_commas, marks_reading, link_of, or_fault, first_and, members_reading}

-- one more compound, and the combinator behind it
abbrev pub joined : Front → Compound → Combinator → Front
joined Nothing compound combinator = Joined compound [] combinator
joined (Joined first rest before) compound combinator = Joined first (rest ++ link.Linked before compound ∷ []) combinator

-- the selector of what was read, one more compound, and these steps
abbrev pub chained : ℕ → Option Combinator → Front → Compound → List Step → Selector
chained at lead Nothing compound steps = record { lead = lead; first = compound; rest = map link_of steps; at = at }
chained at lead (Joined first rest before) compound steps = record { lead = lead; first = first; rest = rest ++ link.Linked before compound ∷ map link_of steps; at = at }

-- the compound of this type selector, without other parts
abbrev pub of_type : TypeName → Compound
of_type kind = record { kind = kind; parts = []; tail = None }

-- the compound with one more part, which stands at this place
abbrev pub with_simple : Compound → Simple → ℕ → Compound
with_simple compound x at = record { kind = compound.kind; parts = compound.parts ++ part.Placed x at ∷ []; tail = compound.tail }

-- the compound with this pseudo-element and its states
abbrev pub with_tail : Compound → Tail → Compound
with_tail compound tail = record { kind = compound.kind; parts = compound.parts; tail = Some tail }

-- the compound with this pseudo-element, without a state
abbrev pub with_element : Compound → List ℕ → Compound
with_element compound element = with_tail compound (record { element = element; states = [] })

-- the compound with this pseudo-element and one more state
abbrev pub with_state : Compound → Tail → List ℕ → Compound
with_state compound tail state = with_tail compound (record { element = tail.element; states = tail.states ++ state ∷ [] })

-- how far it is read, its lead, the compounds with a combinator behind them, and the last compound
abbrev pub reading : Phase → Option Combinator → Front → Compound → Reading
reading phase lead front compound = record { phase = phase; lead = lead; front = front; compound = compound }

-- what goes on so where there is no pseudo-element, and else fails
abbrev pub untailed : Option Tail → Reading → Reading → Reading
untailed None next failed = next
untailed (Some t) next failed = failed

-- a combinator behind the last compound
abbrev pub linked : Combinator → Option Combinator → Front → Compound → Reading
linked combinator lead front compound = reading (Due false) lead (joined front compound combinator) (of_type types.None)

-- what a type selector makes of a reading: a compound begins with it
abbrev pub on_type : TypeName → Phase → Option Combinator → Front → Compound → Reading
on_type kind (Due b) lead front compound = reading Inside lead front (of_type kind)
on_type kind Behind lead front compound = untailed compound.tail (reading Inside lead (joined front compound combinators.Descendant) (of_type kind)) (reading Failed lead front compound)
on_type kind phase lead front compound = reading Failed lead front compound

-- what a name behind a colon makes of a reading: a state behind a pseudo-element, and else such an element or a part
abbrev pub on_pseudo : List ℕ → ℕ → Option Tail → Option Combinator → Front → Compound → Reading
on_pseudo name at None lead front compound = if is_old_element name then reading Inside lead front (with_element compound name) else reading Inside lead front (with_simple compound (simple.Pseudo name) at)
on_pseudo name at (Some t) lead front compound = reading Inside lead front (with_state compound t name)

-- what a name makes of a reading
abbrev pub on_name : List ℕ → Phase → Option Combinator → Front → Compound → Reading
on_name name (Dotted at) lead front compound = untailed compound.tail (reading Inside lead front (with_simple compound (simple.Class name) at)) (reading Failed lead front compound)
on_name name (Coloned at) lead front compound = on_pseudo (pseudo_text name) at compound.tail lead front compound
on_name name (Doubled at) lead front compound = untailed compound.tail (reading Inside lead front (with_element compound (pseudo_text name))) (reading Failed lead front compound)
on_name name phase lead front compound = on_type (types.Name name) phase lead front compound

-- what a `.` makes of a reading: the name of a class has to follow
abbrev pub on_dot : ℕ → Phase → Option Combinator → Front → Compound → Reading
on_dot at (Due b) lead front compound = reading (Dotted at) lead front (of_type types.None)
on_dot at Inside lead front compound = reading (Dotted at) lead front compound
on_dot at Behind lead front compound = untailed compound.tail (reading (Dotted at) lead (joined front compound combinators.Descendant) (of_type types.None)) (reading Failed lead front compound)
on_dot at phase lead front compound = reading Failed lead front compound

-- what a colon makes of a reading: a second one, a name or a Function has to follow
abbrev pub on_colon : ℕ → Phase → Option Combinator → Front → Compound → Reading
on_colon at (Due b) lead front compound = reading (Coloned at) lead front (of_type types.None)
on_colon at Inside lead front compound = reading (Coloned at) lead front compound
on_colon at Behind lead front compound = untailed compound.tail (reading (Coloned at) lead (joined front compound combinators.Descendant) (of_type types.None)) (reading Failed lead front compound)
on_colon at (Coloned first) lead front compound = reading (Doubled first) lead front compound
on_colon at phase lead front compound = reading Failed lead front compound

-- what a simple selector makes of a reading: one more part of a compound
abbrev pub on_part : Simple → ℕ → Phase → Option Combinator → Front → Compound → Reading
on_part x at (Due b) lead front compound = reading Inside lead front (with_simple (of_type types.None) x at)
on_part x at Inside lead front compound = untailed compound.tail (reading Inside lead front (with_simple compound x at)) (reading Failed lead front compound)
on_part x at Behind lead front compound = untailed compound.tail (reading Inside lead (joined front compound combinators.Descendant) (with_simple (of_type types.None) x at)) (reading Failed lead front compound)
on_part x at phase lead front compound = reading Failed lead front compound

-- what a Function behind one colon makes of a reading
abbrev pub on_argument : Option Simple → ℕ → Option Combinator → Front → Compound → Reading
on_argument (Some x) at lead front compound = untailed compound.tail (reading Inside lead front (with_simple compound x at)) (reading Failed lead front compound)
on_argument None at lead front compound = reading Failed lead front compound

-- what a Function makes of a reading
abbrev pub on_call : Option Simple → Phase → Option Combinator → Front → Compound → Reading
on_call x (Coloned at) lead front compound = on_argument x at lead front compound
on_call x (Doubled at) lead front compound = untailed compound.tail (reading Inside lead front (with_simple compound simple.Foreign at)) (reading Failed lead front compound)
on_call x phase lead front compound = reading Failed lead front compound

-- what white space makes of a reading: behind a compound it may become a combinator
abbrev pub on_white : Phase → Option Combinator → Front → Compound → Reading
on_white (Due b) lead front compound = reading (Due b) lead front compound
on_white Inside lead front compound = reading Behind lead front compound
on_white Behind lead front compound = reading Behind lead front compound
on_white phase lead front compound = reading Failed lead front compound

-- what `>`, `+` or `~` makes of a reading: a compound has to follow
abbrev pub on_joint : Combinator → Phase → Option Combinator → Front → Compound → Reading
on_joint combinator (Due true) lead front compound = reading (Due false) (Some combinator) front compound
on_joint combinator Inside lead front compound = untailed compound.tail (linked combinator lead front compound) (reading Failed lead front compound)
on_joint combinator Behind lead front compound = untailed compound.tail (linked combinator lead front compound) (reading Failed lead front compound)
on_joint combinator phase lead front compound = reading Failed lead front compound

-- what one more sign makes of a reading
abbrev pub step : Sign → Reading → Reading
step Comment r = r
step White r = on_white r.phase r.lead r.front r.compound
step Comma r = reading Failed r.lead r.front r.compound
step (Joint c) r = on_joint c r.phase r.lead r.front r.compound
step (Name name) r = on_name name r.phase r.lead r.front r.compound
step Star r = on_type types.Universal r.phase r.lead r.front r.compound
step (Dot at) r = on_dot at r.phase r.lead r.front r.compound
step (Colon at) r = on_colon at r.phase r.lead r.front r.compound
step (Whole x at) r = on_part x at r.phase r.lead r.front r.compound
step (Call x) r = on_call x r.phase r.lead r.front r.compound
step Other r = reading Failed r.lead r.front r.compound

-- the selector, where the reading may end here
abbrev pub concluded : ℕ → Phase → Option Combinator → Front → Compound → Option Selector
concluded at Inside lead front compound = Some (chained at lead front compound [])
concluded at Behind lead front compound = Some (chained at lead front compound [])
concluded at phase lead front compound = None

-- nothing is read of the member of the list, which may begin with a combinator or not
abbrev pub fresh : Bool → Pending
fresh nested = record { reading = reading (Due nested) None Nothing (of_type types.None); place = None }

-- what one more component makes of what is pending: its sign, and its place
abbrev pub pending_step : Pending → Sign → ℕ → Pending
pending_step p w at = record { reading = step w p.reading; place = option_or p.place (if is_gap_sign w then None else Some at) }

-- what components in a row make of what is pending
abbrev pub pending_run : Pending → List Mark → Pending
pending_run p [] = p
pending_run p (m ∷ ms) = pending_run (pending_step p m.sign m.at) ms

-- the selector that is read, where the member may end here
abbrev pub pending_selector : Pending → Option Selector
pending_selector p = concluded (unwrap_or p.place 0) p.reading.phase p.reading.lead p.reading.front p.reading.compound

-- the selector, or the fault at the first token that is neither white space nor a comment, else at this stop
abbrev pub pending_reading : Pending → ℕ → Result Selector ℕ
pending_reading p stop = or_fault (pending_selector p) (unwrap_or p.place stop)

-- the reading of a list whose first member has begun with what is pending
abbrev pub list_from : Bool → Pending → List Mark → ℕ → Result (List Selector) ℕ
list_from nested p ms end = first_and (pending_reading (pending_run p (cut_at_commas ms).0.marks) (unwrap_or (cut_at_commas ms).0.stop end)) (members_reading nested end (cut_at_commas ms).1)

-- the reading with these selectors in front
abbrev pub behind_list : List Selector → Result (List Selector) ℕ → Result (List Selector) ℕ
behind_list list (Err place) = Err place
behind_list list (Ok ss) = Ok (list ++ ss)

-- the list with one more selector, and a fresh member; or the fault of the selector
abbrev pub with_member : Bool → List Selector → Result Selector ℕ → Result Listing ℕ
with_member nested list (Err place) = Err place
with_member nested list (Ok s) = Ok (record { list = list ++ s ∷ []; pending = fresh nested })

-- what one more component makes of a list: at a comma the member has to end
abbrev pub listing_step : Bool → Listing → Sign → ℕ → Result Listing ℕ
listing_step nested l w at = if is_comma_sign w then with_member nested l.list (pending_reading l.pending at) else Ok (record { list = l.list; pending = pending_step l.pending w at })

-- the list, where the last member may end here
abbrev pub listing_end : Listing → ℕ → Result (List Selector) ℕ
listing_end l end = behind_list l.list (first_and (pending_reading l.pending end) (Ok []))

-- What is read of components is the list that they spell, wherever it ends; or its fault.
abbrev pub Reads : Bool → Result Listing SelectorFault → List Mark → Type 0
Reads nested (Ok l) ms = (end : ℕ) → listing_end l end ≡ marks_reading nested ms end
Reads nested (Err e) ms = (end : ℕ) → FaultIs e (marks_reading nested ms end)
