-- Selectors and lists of them, read from component values (Selectors 4, section 18, Grammar; CSS Nesting 1, section 3).
use Rattle.std.specs.Prelude.{ℕ, List, [], ◌∷◌, map, Bool, true, false, not, Option, Some, None, unwrap_or, if◌then◌else◌, Result, Ok, Err}
use Rattle.std.specs.List.{find}
use Rattle.std.specs.Option.{option_map}
use Rattle.css_tokens.specs.Piece.{Piece}
use Rattle.selector_types.specs.declared.selector.Combinator.{Combinator}
use Rattle.selector_types.specs.declared.selector.Combinator.TheVariants as combinators
use Rattle.selector_types.specs.declared.selector.TypeName.{TypeName}
use Rattle.selector_types.specs.declared.selector.TypeName.TheVariants as types
use Rattle.selector_types.specs.declared.selector.Simple.{Simple}
use Rattle.selector_types.specs.declared.selector.Simple as simple
use Rattle.selector_types.specs.declared.selector.Part as part
use Rattle.selector_types.specs.declared.selector.Link as link
use Rattle.selector_types.specs.declared.selector.Tail.{Tail}
use Rattle.selector_types.specs.declared.selector.Compound as compound
use Rattle.selector_types.specs.declared.selector.Selector as selector
use Rattle.selector_tree.specs.declared.sign.Sign.{Sign}
use Rattle.selector_tree.specs.declared.sign.Sign.TheVariants.{Comment, White, Comma, Joint, Name, Star, Dot, Colon, Whole, Call}
use Rattle.selector_types.specs.Names.{is_old_element, pseudo_text}

-- Compounds. Their signs hold no comment, white space, comma or combinator.

-- what stands behind the type selector of a compound
pub record Body : Type 0 where
  pub parts : List part.Part
  pub tail : Option Tail

-- the body with one more part in front, where there is a body
abbrev pub with_part : Simple → ℕ → Option Body → Option Body
with_part x at body = option_map (λ b. record { parts = part.Placed x at ∷ b.parts; tail = b.tail }) body

-- the pseudo-element of this name with these states, where there are states
abbrev pub tailed : List ℕ → Option (List (List ℕ)) → Option Body
tailed element states = option_map (λ ss. record { parts = []; tail = Some (record { element = element; states = ss }) }) states

-- A state is a colon and a name.
abbrev pub states_of : List Sign → Option (List (List ℕ))
states_of [] = Some []
states_of (Colon at ∷ Name n ∷ ws) = option_map (λ ss. pseudo_text n ∷ ss) (states_of ws)
states_of ws = None

-- Parts, and then perhaps a pseudo-element with its states. A part is `.` and a name, an id, an attribute selector, `&`, or
-- a colon and a name or a Function. A pseudo-element is two colons and a name, or a colon and one of four names.
abbrev pub body_of : List Sign → Option Body
body_of [] = Some (record { parts = []; tail = None })
body_of (Dot at ∷ Name n ∷ ws) = with_part (simple.Class n) at (body_of ws)
body_of (Whole x at ∷ ws) = with_part x at (body_of ws)
body_of (Colon at ∷ Name n ∷ ws) = if is_old_element (pseudo_text n) then tailed (pseudo_text n) (states_of ws) else with_part (simple.Pseudo (pseudo_text n)) at (body_of ws)
body_of (Colon at ∷ Call (Some x) ∷ ws) = with_part x at (body_of ws)
body_of (Colon at ∷ Colon b ∷ Name n ∷ ws) = tailed (pseudo_text n) (states_of ws)
body_of (Colon at ∷ Colon b ∷ Call x ∷ ws) = with_part simple.Foreign at (body_of ws)
body_of ws = None

-- the compound of this type selector and this body, where there is a body
abbrev pub compound_with : TypeName → Option Body → Option compound.Compound
compound_with kind body = option_map (λ b. record { kind = kind; parts = b.parts; tail = b.tail }) body

-- A compound is a type name or `*` or neither, and then a body. It is not empty.
abbrev pub compound_of : List Sign → Option compound.Compound
compound_of [] = None
compound_of (Name n ∷ ws) = compound_with (types.Name n) (body_of ws)
compound_of (Star ∷ ws) = compound_with types.Universal (body_of ws)
compound_of ws = compound_with types.None (body_of ws)

-- White space. It is a combinator only where it stands between two compounds with nothing but comments beside it.

-- without white space in front
abbrev pub stripped : List Sign → List Sign
stripped (White ∷ ws) = ws
stripped ws = ws

-- White space before more of it, before a combinator and at the end is none.
abbrev pub white_before : List Sign → List Sign
white_before [] = []
white_before (White ∷ ws) = White ∷ ws
white_before (Joint c ∷ ws) = Joint c ∷ ws
white_before ws = White ∷ ws

-- A comment counts as nothing, and white space behind a combinator is none.
abbrev pub sign_before : Sign → List Sign → List Sign
sign_before Comment ws = ws
sign_before White ws = white_before ws
sign_before (Joint c) ws = Joint c ∷ stripped ws
sign_before w ws = w ∷ ws

-- the signs without comments, and without white space that is no combinator, but for white space at the start
abbrev pub spaced : List Sign → List Sign
spaced [] = []
spaced (w ∷ ws) = sign_before w (spaced ws)

-- Selectors.

-- the signs up to the first combinator, and each combinator with the signs behind it
pub record Runs : Type 0 where
  pub first : List Sign
  pub rest : List (Combinator × List Sign)

-- the runs, with this combinator before the first, and nothing before that
abbrev pub cut_by : Combinator → Runs → Runs
cut_by combinator runs = record { first = []; rest = (combinator, runs.first) ∷ runs.rest }

-- the runs, with one more sign in front
abbrev pub run_before : Sign → Runs → Runs
run_before White runs = cut_by combinators.Descendant runs
run_before (Joint c) runs = cut_by c runs
run_before w runs = record { first = w ∷ runs.first; rest = runs.rest }

-- the signs cut at their combinators
abbrev pub runs_of : List Sign → Runs
runs_of [] = record { first = []; rest = [] }
runs_of (w ∷ ws) = run_before w (runs_of ws)

-- a combinator, and the compound behind it
abbrev pub Step : Type 0
Step = Combinator × compound.Compound

-- Nothing stands behind a compound with a pseudo-element.
abbrev pub stands_before : Option Tail → List Step → Bool
stands_before None steps = true
stands_before (Some t) [] = true
stands_before (Some t) (l ∷ steps) = false

-- the steps with one more in front, where there are a compound and steps, and the compound may stand before them
abbrev pub with_step : Combinator → Option compound.Compound → Option (List Step) → Option (List Step)
with_step combinator None steps = None
with_step combinator (Some k) None = None
with_step combinator (Some k) (Some steps) = if stands_before k.tail steps then Some ((combinator, k) ∷ steps) else None

-- combinators, each with the compound that the signs behind it spell, where all spell one
abbrev pub steps_of : List (Combinator × List Sign) → Option (List Step)
steps_of [] = Some []
steps_of (run ∷ runs) = with_step run.0 (compound_of run.1) (steps_of runs)

-- the link of a step
abbrev pub link_of : Step → link.Link
link_of l = link.Linked l.0 l.1

-- the selector of this place, lead, first compound and steps, where there are both, and the compound may stand before them
abbrev pub selector_with : ℕ → Option Combinator → Option compound.Compound → Option (List Step) → Option selector.Selector
selector_with at lead None steps = None
selector_with at lead (Some k) None = None
selector_with at lead (Some k) (Some steps) = if stands_before k.tail steps then Some (record { lead = lead; first = k; rest = map link_of steps; at = at }) else None

-- the combinator that a nested selector begins with, if it begins with one
abbrev pub lead_of : Bool → List Sign → Option Combinator
lead_of true (Joint c ∷ ws) = Some c
lead_of nested ws = None

-- the signs behind it
abbrev pub behind_lead : Bool → List Sign → List Sign
behind_lead true (Joint c ∷ ws) = ws
behind_lead nested ws = ws

-- the selector that the runs spell, where each spells a compound
abbrev pub selector_of_runs : ℕ → Option Combinator → Runs → Option selector.Selector
selector_of_runs at lead runs = selector_with at lead (compound_of runs.first) (steps_of runs.rest)

-- A selector is compounds joined by combinators. A nested one may begin with a combinator.
abbrev pub selector_at : Bool → ℕ → List Sign → Option selector.Selector
selector_at nested at ws = selector_of_runs at (lead_of nested (stripped (spaced ws))) (runs_of (behind_lead nested (stripped (spaced ws))))

-- Lists.

-- What a component value is to the grammar: the token, where it is one and no block; the place of its first token; its sign.
pub record Mark : Type 0 where
  pub token : Option Piece
  pub at : ℕ
  pub sign : Sign

-- white space or a comment?
abbrev pub is_gap_sign : Sign → Bool
is_gap_sign Comment = true
is_gap_sign White = true
is_gap_sign w = false

-- a comma?
abbrev pub is_comma_sign : Sign → Bool
is_comma_sign Comma = true
is_comma_sign w = false

-- the place of the first token that is neither white space nor a comment
abbrev pub first_place : List Mark → Option ℕ
first_place ms = option_map (λ m. m.at) (find (λ m. not (is_gap_sign m.sign)) ms)

-- the selector that these components spell, if they spell one
abbrev pub selector_of : Bool → List Mark → Option selector.Selector
selector_of nested ms = selector_at nested (unwrap_or (first_place ms) 0) (map (λ m. m.sign) ms)

-- what stands between two commas, and the place of the comma behind it, if there is one
pub record Member : Type 0 where
  pub marks : List Mark
  pub stop : Option ℕ

-- a member in which nothing stands, before this comma or the end of the list
abbrev pub empty_before : Option ℕ → Member
empty_before stop = record { marks = []; stop = stop }

-- the member with one more component in front
abbrev pub with_mark : Mark → Member → Member
with_mark mark m = record { marks = mark ∷ m.marks; stop = m.stop }

-- the first member, and the others
abbrev pub cut_at_commas : List Mark → Member × List Member
cut_at_commas [] = (empty_before None, [])
cut_at_commas (m ∷ ms) =
    if is_comma_sign m.sign then (empty_before (Some m.at), (cut_at_commas ms).0 ∷ (cut_at_commas ms).1)
    else (with_mark m (cut_at_commas ms).0, (cut_at_commas ms).1)

-- The place where a member without a reading is refused: its first token that is neither white space nor a comment, or the
-- comma behind it, or the end.
abbrev pub fault_place : ℕ → Member → ℕ
fault_place end m = unwrap_or (first_place m.marks) (unwrap_or m.stop end)

-- the selector, or the place of the fault where there is none
abbrev pub or_fault : Option selector.Selector → ℕ → Result selector.Selector ℕ
or_fault None place = Err place
or_fault (Some s) place = Ok s

-- the selector that a member spells, or the place of its fault
abbrev pub member_reading : Bool → ℕ → Member → Result selector.Selector ℕ
member_reading nested end m = or_fault (selector_of nested m.marks) (fault_place end m)

-- the list with one more selector in front; the first fault where there is one
abbrev pub first_and : Result selector.Selector ℕ → Result (List selector.Selector) ℕ → Result (List selector.Selector) ℕ
first_and (Err place) list = Err place
first_and (Ok s) (Err place) = Err place
first_and (Ok s) (Ok ss) = Ok (s ∷ ss)

-- the selectors of members, or the place of the first fault
abbrev pub members_reading : Bool → ℕ → List Member → Result (List selector.Selector) ℕ
members_reading nested end [] = Ok []
members_reading nested end (m ∷ ms) = first_and (member_reading nested end m) (members_reading nested end ms)

-- The selectors that components spell between commas, or the place of the first member that spells none.
abbrev pub marks_reading : Bool → List Mark → ℕ → Result (List selector.Selector) ℕ
marks_reading nested ms end = first_and (member_reading nested end (cut_at_commas ms).0) (members_reading nested end (cut_at_commas ms).1)
