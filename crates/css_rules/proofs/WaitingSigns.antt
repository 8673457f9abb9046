-- Where nothing in a prelude waits for a later stage, what is read of it has neither `&` nor `:is`.
use Rattle.std.proofs.Common.{◌≡◌, ℕ, List, [], ◌∷◌, map, Bool, true, false, ◌&&◌, cond, Option, Some, None, refl, sym, ◌∙◌, ap, subst, inl, inr, codes}
use Rattle.std.specs.Prelude.{unwrap_or, is_none, Result, Ok, Err}
use Rattle.std.specs.List.{list_all, AllByRecursion}
use Rattle.std.specs.Option.{option_and_then, option_map}
use Rattle.css_tokens.specs.declared.kind.Kind.{Kind}
use Rattle.css_tokens.specs.declared.kind.Kind.TheVariants as kinds
use Rattle.css_tokens.specs.declared.component.Component.{Component, out-Component}
use Rattle.css_tokens.specs.declared.component.Component.TheOpen.{Single, Block}
use Rattle.css_tokens.specs.declared.component.Component.TheVariants.{outs-Single, outs-Block}
use Rattle.css_tokens.specs.declared.component.Component as component
use Rattle.css_tokens.specs.declared.component.Block as block
use Rattle.css_tokens.specs.Names.{name_of_word}
use Rattle.css_tokens.specs.NameText.{name_text}
use Rattle.css_tokens.specs.Piece.{Piece}
use Rattle.css_tokens.specs.Trees.{closing, is_text, pieces_all, pieces_of}
use Rattle.selector_types.specs.declared.selector.Attribute.{Attribute}
use Rattle.selector_types.specs.declared.selector.Combinator.{Combinator}
use Rattle.selector_types.specs.declared.selector.Combinator.TheVariants as combinators
use Rattle.selector_types.specs.declared.selector.TypeName.{TypeName}
use Rattle.selector_types.specs.declared.selector.TypeName.TheVariants as types
use Rattle.selector_types.specs.declared.selector.Compound.{Compound}
use Rattle.selector_types.specs.declared.selector.Part as part
use Rattle.selector_types.specs.declared.selector.Selector.{Selector}
use Rattle.selector_types.specs.declared.selector.Simple.{Simple}
use Rattle.selector_types.specs.declared.selector.Simple as simple
use Rattle.selector_types.specs.declared.selector.Link.TheVariants.{outs-Linked}
use Rattle.selector_tree.specs.declared.sign.Callee.{Callee}
use Rattle.selector_tree.specs.declared.sign.Callee.TheVariants as callees
use Rattle.selector_tree.specs.declared.sign.Sign.{Sign}
use Rattle.selector_tree.specs.declared.sign.Sign.TheVariants.{Comment, White, Comma, Joint, Name, Star, Dot, Colon, Whole, Call, Other}
use Rattle.selector_tokens.specs.Arguments.{an_plus_b, lone_name, attribute_of}
use Rattle.selector_types.specs.BareFold.{placed, bare_simple, bare_compound, bare_selector}
use Rattle.selector_types.specs.Names.{is_id, is_old_element, lowered, pseudo_text}
use Rattle.selector_tree.specs.Grammar.{Body, Mark, Member, Runs, Step, behind_lead, body_of, compound_of, compound_with, cut_at_commas, empty_before, fault_place, first_and, first_place, is_comma_sign, lead_of, link_of, marks_reading, members_reading, or_fault, run_before, runs_of, selector_at, selector_of, selector_with, sign_before, spaced, stands_before, states_of, steps_of, stripped, tailed, white_before, with_mark, with_part, with_step}
use Rattle.selector_types.specs.SelectorFold.{made_part, made_link, layer_compound, simple_of, folded-Class, folded-Id, folded-Attribute, folded-Pseudo, folded-Not, folded-Where, folded-Local, folded-Global, folded-Foreign, folded-Compound, folded-Selector, compound_of as compound_behind}
use Rattle.selector_tree.specs.Signs.{argued, attribute_sign, call_by, call_of, callee_of, compound_in, forgiving_list, has_no_link, is_comment_kind, is_gap, kind_sign, list_in, list_reading, lone_compound, mark_of, mark_of-Single, mark_of-Block, opened_sign, read, tokens_of}
use Rattle.selector_types.specs.Spelling.{list_spelling}
use Rattle.css_rules.specs.declared.waiting.Seen.{Seen}
use Rattle.css_rules.specs.declared.waiting.Seen.TheVariants as seen
use Rattle.css_components.specs.Components.{Layer, is_colon_kind}
use Rattle.css_rules.specs.Private.Waiting.{begun, place_seen, seen_at, seen_over}
use Rattle.css_rules.specs.Refusals.{has_waiting, is_ampersand, is_is}
use Rattle.css_rules.proofs.BoolLemmas.{and-left, and-both}
use Rattle.sheet_types.proofs.PlacesTrees.{Each, by_components}
use Rattle.css_rules.proofs.ValueFacts.{shape_of}
use Rattle.css_rules.proofs.WaitingLemmas.{none-seen, over-Block, over-Single, over-cons, over-waiting}
use Rattle.css_rules.proofs.WaitingTrees.{IsCalm, IsCalmCompound, IsCalmSimple, all_calm, calm, list-quiet}

-- what holds of a value holds of what there is
abbrev OfSome : {X : Type 0} → (X → Type 0) → Option X → Type 0
OfSome P None = Unit {0}
OfSome P (Some x) = P x

abbrev OfOk : {X : Type 0} → (X → Type 0) → Result X ℕ → Type 0
OfOk P (Err at) = Unit {0}
OfOk P (Ok x) = P x

-- Signs that spell neither.

-- behind a colon: a Function is calm, comments aside
abbrev CalmCall : List Sign → Type 0
CalmCall (Comment ∷ ws) = CalmCall ws
CalmCall (Call (Some x) ∷ ws) = IsCalmSimple x
CalmCall ws = Unit {0}

-- a sign before these
abbrev CalmSign : Sign → List Sign → Type 0
CalmSign (Whole x at) ws = IsCalmSimple x
CalmSign (Colon at) ws = CalmCall ws
CalmSign w ws = Unit {0}

abbrev CalmSigns : List Sign → Type 0
CalmSigns [] = Unit {0}
CalmSigns (w ∷ ws) = CalmSign w ws × CalmSigns ws

-- Clean signs.

calm-stripped : (ws : List Sign) → CalmSigns ws → CalmSigns (stripped ws)
calm-stripped [] h = tt
calm-stripped (White ∷ ws) h = h.1
calm-stripped (Comment ∷ ws) h = h
calm-stripped (Comma ∷ ws) h = h
calm-stripped (Joint c ∷ ws) h = h
calm-stripped (Name n ∷ ws) h = h
calm-stripped (Star ∷ ws) h = h
calm-stripped (Dot at ∷ ws) h = h
calm-stripped (Colon at ∷ ws) h = h
calm-stripped (Whole x at ∷ ws) h = h
calm-stripped (Call x ∷ ws) h = h
calm-stripped (Other ∷ ws) h = h

-- white space, or what stands for it, is no Function
record IsWhite (ws vs : List Sign) : Type 0 where
  signs : CalmSigns ws → CalmSigns vs
  call : CalmCall vs

white-calm : (ws : List Sign) → IsWhite ws (white_before ws)
white-calm [] = record { signs = λ h. tt; call = tt }
white-calm (White ∷ ws) = record { signs = λ h. h; call = tt }
white-calm (Joint c ∷ ws) = record { signs = λ h. h; call = tt }
white-calm (Comment ∷ ws) = record { signs = λ h. (tt, h); call = tt }
white-calm (Comma ∷ ws) = record { signs = λ h. (tt, h); call = tt }
white-calm (Name n ∷ ws) = record { signs = λ h. (tt, h); call = tt }
white-calm (Star ∷ ws) = record { signs = λ h. (tt, h); call = tt }
white-calm (Dot at ∷ ws) = record { signs = λ h. (tt, h); call = tt }
white-calm (Colon at ∷ ws) = record { signs = λ h. (tt, h); call = tt }
white-calm (Whole x at ∷ ws) = record { signs = λ h. (tt, h); call = tt }
white-calm (Call x ∷ ws) = record { signs = λ h. (tt, h); call = tt }
white-calm (Other ∷ ws) = record { signs = λ h. (tt, h); call = tt }

-- what is made of signs is as calm as they are
record KeepsCalm (ws vs : List Sign) : Type 0 where
  signs : CalmSigns ws → CalmSigns vs
  call : CalmCall ws → CalmCall vs

calm-before : (w : Sign) (ws vs : List Sign) → KeepsCalm ws vs → KeepsCalm (w ∷ ws) (sign_before w vs)
calm-before Comment ws vs k = record { signs = λ h. k.signs h.1; call = λ h. k.call h }
calm-before White ws vs k = let white = white-calm vs in record { signs = λ h. white.signs (k.signs h.1); call = λ h. white.call }
calm-before (Joint c) ws vs k = record { signs = λ h. (tt, calm-stripped vs (k.signs h.1)); call = λ h. tt }
calm-before Comma ws vs k = record { signs = λ h. (tt, k.signs h.1); call = λ h. tt }
calm-before (Name n) ws vs k = record { signs = λ h. (tt, k.signs h.1); call = λ h. tt }
calm-before Star ws vs k = record { signs = λ h. (tt, k.signs h.1); call = λ h. tt }
calm-before (Dot at) ws vs k = record { signs = λ h. (tt, k.signs h.1); call = λ h. tt }
calm-before (Colon at) ws vs k = record { signs = λ h. (k.call h.0, k.signs h.1); call = λ h. tt }
calm-before (Whole x at) ws vs k = record { signs = λ h. (h.0, k.signs h.1); call = λ h. tt }
calm-before (Call (Some x)) ws vs k = record { signs = λ h. (tt, k.signs h.1); call = λ h. h }
calm-before (Call None) ws vs k = record { signs = λ h. (tt, k.signs h.1); call = λ h. tt }
calm-before Other ws vs k = record { signs = λ h. (tt, k.signs h.1); call = λ h. tt }

calm-spaced : (ws : List Sign) → KeepsCalm ws (spaced ws)
calm-spaced [] = record { signs = λ h. tt; call = λ h. tt }
calm-spaced (w ∷ ws) = calm-before w ws (spaced ws) (calm-spaced ws)

calm-unled : (nested : Bool) (ws : List Sign) → CalmSigns ws → CalmSigns (behind_lead nested ws)
calm-unled false ws h = h
calm-unled true [] h = tt
calm-unled true (Joint c ∷ ws) h = h.1
calm-unled true (White ∷ ws) h = h
calm-unled true (Comment ∷ ws) h = h
calm-unled true (Comma ∷ ws) h = h
calm-unled true (Name n ∷ ws) h = h
calm-unled true (Star ∷ ws) h = h
calm-unled true (Dot at ∷ ws) h = h
calm-unled true (Colon at ∷ ws) h = h
calm-unled true (Whole x at ∷ ws) h = h
calm-unled true (Call x ∷ ws) h = h
calm-unled true (Other ∷ ws) h = h

-- Runs.

abbrev CalmRun : Combinator × List Sign → Type 0
CalmRun r = CalmSigns r.1

record CalmRuns (ws : List Sign) (runs : Runs) : Type 0 where
  first : CalmSigns ws → CalmSigns runs.first
  call : CalmCall ws → CalmCall runs.first
  rest : CalmSigns ws → AllByRecursion CalmRun runs.rest

calm-run : (w : Sign) (ws : List Sign) (runs : Runs) → CalmRuns ws runs → CalmRuns (w ∷ ws) (run_before w runs)
calm-run White ws runs k = record { first = λ h. tt; call = λ h. tt; rest = λ h. (k.first h.1, k.rest h.1) }
calm-run (Joint c) ws runs k = record { first = λ h. tt; call = λ h. tt; rest = λ h. (k.first h.1, k.rest h.1) }
calm-run Comment ws runs k = record { first = λ h. (tt, k.first h.1); call = λ h. k.call h; rest = λ h. k.rest h.1 }
calm-run Comma ws runs k = record { first = λ h. (tt, k.first h.1); call = λ h. tt; rest = λ h. k.rest h.1 }
calm-run (Name n) ws runs k = record { first = λ h. (tt, k.first h.1); call = λ h. tt; rest = λ h. k.rest h.1 }
calm-run Star ws runs k = record { first = λ h. (tt, k.first h.1); call = λ h. tt; rest = λ h. k.rest h.1 }
calm-run (Dot at) ws runs k = record { first = λ h. (tt, k.first h.1); call = λ h. tt; rest = λ h. k.rest h.1 }
calm-run (Colon at) ws runs k = record { first = λ h. (k.call h.0, k.first h.1); call = λ h. tt; rest = λ h. k.rest h.1 }
calm-run (Whole x at) ws runs k = record { first = λ h. (h.0, k.first h.1); call = λ h. tt; rest = λ h. k.rest h.1 }
calm-run (Call (Some x)) ws runs k = record { first = λ h. (tt, k.first h.1); call = λ h. h; rest = λ h. k.rest h.1 }
calm-run (Call None) ws runs k = record { first = λ h. (tt, k.first h.1); call = λ h. tt; rest = λ h. k.rest h.1 }
calm-run Other ws runs k = record { first = λ h. (tt, k.first h.1); call = λ h. tt; rest = λ h. k.rest h.1 }

calm-runs : (ws : List Sign) → CalmRuns ws (runs_of ws)
calm-runs [] = record { first = λ h. tt; call = λ h. tt; rest = λ h. tt }
calm-runs (w ∷ ws) = calm-run w ws (runs_of ws) (calm-runs ws)

-- Compounds.

abbrev CalmPart : part.Part → Type 0
CalmPart p = IsCalmSimple (simple_of p)

abbrev CalmBody : Body → Type 0
CalmBody b = AllByRecursion CalmPart b.parts

calm-part : (x : Simple) (at : ℕ) (o : Option Body) → IsCalmSimple x → OfSome CalmBody o → OfSome CalmBody (with_part x at o)
calm-part x at None g h = tt
calm-part x at (Some b) g h = (g, h)

calm-tailed : (element : List ℕ) (o : Option (List (List ℕ))) → OfSome CalmBody (tailed element o)
calm-tailed element None = tt
calm-tailed element (Some states) = tt

calm-named : (b : Bool) (name : List ℕ) (at : ℕ) (states : Option (List (List ℕ))) (o : Option Body) → OfSome CalmBody o → OfSome CalmBody (cond b (tailed name states) (with_part (simple.Pseudo name) at o))
calm-named true name at states o h = calm-tailed name states
calm-named false name at states o h = calm-part (simple.Pseudo name) at o (folded-Pseudo (placed calm) name) h

calm-body : (ws : List Sign) → CalmSigns ws → OfSome CalmBody (body_of ws)
calm-body [] h = tt
calm-body (Dot at ∷ Name n ∷ ws) h = calm-part (simple.Class n) at (body_of ws) (folded-Class (placed calm) n) (calm-body ws h.1.1)
calm-body (Whole x at ∷ ws) h = calm-part x at (body_of ws) h.0 (calm-body ws h.1)
calm-body (Colon at ∷ Name n ∷ ws) h = calm-named (is_old_element (pseudo_text n)) (pseudo_text n) at (states_of ws) (body_of ws) (calm-body ws h.1.1)
calm-body (Colon at ∷ Call (Some x) ∷ ws) h = calm-part x at (body_of ws) h.0 (calm-body ws h.1.1)
calm-body (Colon at ∷ Colon b ∷ Name n ∷ ws) h = calm-tailed (pseudo_text n) (states_of ws)
calm-body (Colon at ∷ Colon b ∷ Call x ∷ ws) h = calm-part simple.Foreign at (body_of ws) (folded-Foreign (placed calm)) (calm-body ws h.1.1.1)
calm-body ws h = tt

compound-parts : (ps : List part.Part) → AllByRecursion CalmPart ps → list_all (λ (b : Bool). b) (map (λ (p : Bool × ℕ). p.0) (map (made_part (placed calm)) ps)) ≡ true
compound-parts [] h = refl
compound-parts (p ∷ ps) h = and-both (bare_simple calm (simple_of p)) _ h.0 (compound-parts ps h.1)

calm-with : (kind : TypeName) (o : Option Body) → OfSome CalmBody o → OfSome IsCalmCompound (compound_with kind o)
calm-with kind None h = tt
calm-with kind (Some b) h = folded-Compound (placed calm) (record { kind = kind; parts = b.parts; tail = b.tail }) ∙ compound-parts b.parts h

calm-compound : (ws : List Sign) → CalmSigns ws → OfSome IsCalmCompound (compound_of ws)
calm-compound [] h = tt
calm-compound (Name n ∷ ws) h = calm-with (types.Name n) (body_of ws) (calm-body ws h.1)
calm-compound (Star ∷ ws) h = calm-with types.Universal (body_of ws) (calm-body ws h.1)
calm-compound ws h = calm-with types.None (body_of ws) (calm-body ws h)

-- Selectors.

abbrev CalmStep : Step → Type 0
CalmStep l = IsCalmCompound l.1

abbrev CalmSteps : List Step → Type 0
CalmSteps ls = AllByRecursion CalmStep ls

step-at : (c : Combinator) (k : Compound) (ls : List Step) (b : Bool) → IsCalmCompound k → CalmSteps ls → OfSome CalmSteps (cond b (Some ((c, k) ∷ ls)) None)
step-at c k ls true g h = (g, h)
step-at c k ls false g h = tt

calm-step : (c : Combinator) (o : Option Compound) (ls : Option (List Step)) → OfSome IsCalmCompound o → OfSome CalmSteps ls → OfSome CalmSteps (with_step c o ls)
calm-step c None ls g h = tt
calm-step c (Some k) None g h = tt
calm-step c (Some k) (Some ls) g h = step-at c k ls (stands_before k.tail ls) g h

calm-steps : (rs : List (Combinator × List Sign)) → AllByRecursion CalmRun rs → OfSome CalmSteps (steps_of rs)
calm-steps [] h = tt
calm-steps (r ∷ rs) h = calm-step r.0 (compound_of r.1) (steps_of rs) (calm-compound r.1 h.0) (calm-steps rs h.1)

abbrev link_calm : Combinator × Bool → Bool
link_calm l = l.1

selector-links : (ls : List Step) → CalmSteps ls → list_all link_calm (map (made_link (placed calm)) (map link_of ls)) ≡ true
selector-links [] h = refl
selector-links (l ∷ ls) h =
    and-both (bare_compound calm (compound_behind (link_of l))) _
    (ap (λ v. bare_compound calm (layer_compound v)) (outs-Linked l.0 l.1) ∙ h.0)
    (selector-links ls h.1)

selector-at : (at : ℕ) (lead : Option Combinator) (k : Compound) (ls : List Step) (b : Bool) → IsCalmCompound k → CalmSteps ls
    → OfSome IsCalm (cond b (Some (record { lead = lead; first = k; rest = map link_of ls; at = at })) None)
selector-at at lead k ls true g h =
    folded-Selector (placed calm) (record { lead = lead; first = k; rest = map link_of ls; at = at }) ∙ and-both (bare_compound calm k) _ g (selector-links ls h)
selector-at at lead k ls false g h = tt

calm-joined : (at : ℕ) (lead : Option Combinator) (o : Option Compound) (ls : Option (List Step)) → OfSome IsCalmCompound o → OfSome CalmSteps ls → OfSome IsCalm (selector_with at lead o ls)
calm-joined at lead None ls g h = tt
calm-joined at lead (Some k) None g h = tt
calm-joined at lead (Some k) (Some ls) g h = selector-at at lead k ls (stands_before k.tail ls) g h

calm-selector : (nested : Bool) (at : ℕ) (ws : List Sign) → CalmSigns ws → OfSome IsCalm (selector_at nested at ws)
calm-selector nested at ws h =
    let clean = stripped (spaced ws) in
    let vs = behind_lead nested clean in
    let runs = calm-runs vs in
    let all = calm-unled nested clean (calm-stripped (spaced ws) ((calm-spaced ws).signs h)) in
    calm-joined at (lead_of nested clean) (compound_of (runs_of vs).first) (steps_of (runs_of vs).rest)
    (calm-compound (runs_of vs).first (runs.first all))
    (calm-steps (runs_of vs).rest (runs.rest all))

-- Lists.

abbrev signs_in : List Mark → List Sign
signs_in ms = map (λ m. m.sign) ms

abbrev CalmMember : Member → Type 0
CalmMember m = CalmSigns (signs_in m.marks)

record CalmMembers (ws : List Sign) (parts : Member × List Member) : Type 0 where
  first : CalmSigns ws → CalmMember parts.0
  call : CalmCall ws → CalmCall (signs_in parts.0.marks)
  rest : CalmSigns ws → AllByRecursion CalmMember parts.1

abbrev parts_at : Mark → Member × List Member → Bool → Member × List Member
parts_at m parts b = cond b (empty_before (Some m.at), parts.0 ∷ parts.1) (with_mark m parts.0, parts.1)

comma-call : (w : Sign) (ws : List Sign) → is_comma_sign w ≡ true → CalmCall (w ∷ ws) → Unit {0}
comma-call w ws e h = tt

cut-calm : (w : Sign) (at : ℕ) (token : Option Piece) (ws : List Sign) (parts : Member × List Member) → CalmMembers ws parts
    → CalmMembers (w ∷ ws) (parts_at (record { token = token; at = at; sign = w }) parts (is_comma_sign w))
cut-calm Comma at token ws parts k = record { first = λ h. tt; call = λ h. tt; rest = λ h. (k.first h.1, k.rest h.1) }
cut-calm White at token ws parts k = record { first = λ h. (tt, k.first h.1); call = λ h. tt; rest = λ h. k.rest h.1 }
cut-calm (Joint c) at token ws parts k = record { first = λ h. (tt, k.first h.1); call = λ h. tt; rest = λ h. k.rest h.1 }
cut-calm Comment at token ws parts k = record { first = λ h. (tt, k.first h.1); call = λ h. k.call h; rest = λ h. k.rest h.1 }
cut-calm (Name n) at token ws parts k = record { first = λ h. (tt, k.first h.1); call = λ h. tt; rest = λ h. k.rest h.1 }
cut-calm Star at token ws parts k = record { first = λ h. (tt, k.first h.1); call = λ h. tt; rest = λ h. k.rest h.1 }
cut-calm (Dot p) at token ws parts k = record { first = λ h. (tt, k.first h.1); call = λ h. tt; rest = λ h. k.rest h.1 }
cut-calm (Colon p) at token ws parts k = record { first = λ h. (k.call h.0, k.first h.1); call = λ h. tt; rest = λ h. k.rest h.1 }
cut-calm (Whole x p) at token ws parts k = record { first = λ h. (h.0, k.first h.1); call = λ h. tt; rest = λ h. k.rest h.1 }
cut-calm (Call (Some x)) at token ws parts k = record { first = λ h. (tt, k.first h.1); call = λ h. h; rest = λ h. k.rest h.1 }
cut-calm (Call None) at token ws parts k = record { first = λ h. (tt, k.first h.1); call = λ h. tt; rest = λ h. k.rest h.1 }
cut-calm Other at token ws parts k = record { first = λ h. (tt, k.first h.1); call = λ h. tt; rest = λ h. k.rest h.1 }

calm-cut : (ms : List Mark) → CalmMembers (signs_in ms) (cut_at_commas ms)
calm-cut [] = record { first = λ h. tt; call = λ h. tt; rest = λ h. tt }
calm-cut (m ∷ ms) = cut-calm m.sign m.at m.token (signs_in ms) (cut_at_commas ms) (calm-cut ms)

abbrev CalmList : List Selector → Type 0
CalmList ss = all_calm ss ≡ true

member-calm : (o : Option Selector) (place : ℕ) (list : Result (List Selector) ℕ) → OfSome IsCalm o → OfOk CalmList list → OfOk CalmList (first_and (or_fault o place) list)
member-calm None place list g h = tt
member-calm (Some s) place (Err at) g h = tt
member-calm (Some s) place (Ok ss) g h = and-both (bare_selector calm s) (all_calm ss) g h

members-calm : (nested : Bool) (end : ℕ) (ms : List Member) → AllByRecursion CalmMember ms → OfOk CalmList (members_reading nested end ms)
members-calm nested end [] h = refl
members-calm nested end (m ∷ ms) h =
    member-calm (selector_of nested m.marks) (fault_place end m) (members_reading nested end ms)
    (calm-selector nested (unwrap_or (first_place m.marks) 0) (signs_in m.marks) h.0)
    (members-calm nested end ms h.1)

marks-calm : (nested : Bool) (end : ℕ) (ms : List Mark) → CalmSigns (signs_in ms) → OfOk CalmList (marks_reading nested ms end)
marks-calm nested end ms h = let cut = calm-cut ms in members-calm nested end ((cut_at_commas ms).0 ∷ (cut_at_commas ms).1) (cut.first h, cut.rest h)

-- Functions.

list-calm : (ms : List Mark) → CalmSigns (signs_in ms) → OfSome CalmList (list_in ms)
list-calm ms h = at (marks_reading false ms 0) (marks-calm false 0 ms h)
  where
    at : (r : Result (List Selector) ℕ) → OfOk CalmList r → OfSome CalmList (read r)
    at (Err place) k = tt
    at (Ok ss) k = k

forgiving-calm : (ms : List Mark) → CalmSigns (signs_in ms) → OfSome CalmList (forgiving_list ms)
forgiving-calm ms h = at (list_all (λ m. is_gap m.token) ms)
  where
    at : (b : Bool) → OfSome CalmList (cond b (Some []) (list_in ms))
    at true = refl
    at false = list-calm ms h

lone-calm : (ss : List Selector) → CalmList ss → OfSome IsCalmCompound (lone_compound ss)
lone-calm [] h = tt
lone-calm (s ∷ t ∷ ss) h = tt
lone-calm (s ∷ []) h = at (is_none s.first.tail && has_no_link s.rest)
  where
    first : IsCalmCompound s.first
    first = and-left (bare_compound calm s.first) _ (sym (folded-Selector (placed calm) s) ∙ and-left (bare_selector calm s) true h)

    at : (b : Bool) → OfSome IsCalmCompound (cond b (Some s.first) None)
    at true = first
    at false = tt

compound-in-calm : (ms : List Mark) → CalmSigns (signs_in ms) → OfSome IsCalmCompound (compound_in ms)
compound-in-calm ms h = at (list_in ms) (list-calm ms h)
  where
    at : (o : Option (List Selector)) → OfSome CalmList o → OfSome IsCalmCompound (option_and_then lone_compound o)
    at None k = tt
    at (Some ss) k = lone-calm ss k

argued-calm : (name : List ℕ) (o : Option (List ℕ)) → IsCalmSimple (argued name o)
argued-calm name None = folded-Foreign (placed calm)
argued-calm name (Some argument) = folded-Pseudo (placed calm) _

some-calm : {X : Type 0} (P : X → Type 0) (make : X → Simple) (o : Option X) → ((x : X) → P x → IsCalmSimple (make x)) → OfSome P o → OfSome IsCalmSimple (option_map make o)
some-calm P make None k h = tt
some-calm P make (Some x) k h = k x h

abbrev is_is_callee : Callee → Bool
is_is_callee callees.Is = true
is_is_callee c = false

callee-calm : (c : Callee) (name : List ℕ) (ms : List Mark) → is_is_callee c ≡ false → CalmSigns (signs_in ms) → OfSome IsCalmSimple (call_by c name ms)
callee-calm callees.Not name ms e h = some-calm CalmList (λ ss. simple.Not ss) (list_in ms) (λ ss k. folded-Not (placed calm) ss ∙ k) (list-calm ms h)
callee-calm callees.Is name ms e h = absurd (cc e)
callee-calm callees.Where name ms e h = some-calm CalmList (λ ss. simple.Where ss) (forgiving_list ms) (λ ss k. folded-Where (placed calm) ss ∙ k) (forgiving-calm ms h)
callee-calm callees.Local name ms e h = some-calm IsCalmCompound (λ k. simple.Local k) (compound_in ms) (λ x k. folded-Local (placed calm) x ∙ k) (compound-in-calm ms h)
callee-calm callees.Global name ms e h = some-calm IsCalmCompound (λ k. simple.Global k) (compound_in ms) (λ x k. folded-Global (placed calm) x ∙ k) (compound-in-calm ms h)
callee-calm callees.Step name ms e h = argued-calm name (option_and_then an_plus_b (tokens_of ms))
callee-calm callees.Lang name ms e h = argued-calm name (option_map name_text (option_and_then lone_name (tokens_of ms)))
callee-calm callees.Other name ms e h = folded-Foreign (placed calm)

-- a name other than `is`
callee-other : (a b c d e f g h i : Bool) → is_is_callee (cond a callees.Not (cond false callees.Is (cond b callees.Where (cond c callees.Local (cond d callees.Global (cond e callees.Step (cond f callees.Step (cond g callees.Step (cond h callees.Step (cond i callees.Lang callees.Other)))))))))) ≡ false
callee-other true b c d e f g h i = refl
callee-other false true c d e f g h i = refl
callee-other false false true d e f g h i = refl
callee-other false false false true e f g h i = refl
callee-other false false false false true f g h i = refl
callee-other false false false false false true g h i = refl
callee-other false false false false false false true h i = refl
callee-other false false false false false false false true i = refl
callee-other false false false false false false false false true = refl
callee-other false false false false false false false false false = refl

other-callee : (name : List ℕ) → is_text name (codes "is") ≡ false → is_is_callee (callee_of name) ≡ false
other-callee name e =
    let rest = λ (b : Bool). is_is_callee (cond (is_text name (codes "not")) callees.Not (cond b callees.Is (cond (is_text name (codes "where")) callees.Where (cond (is_text name (codes "local")) callees.Local (cond (is_text name (codes "global")) callees.Global (cond (is_text name (codes "nth-child")) callees.Step (cond (is_text name (codes "nth-last-child")) callees.Step (cond (is_text name (codes "nth-of-type")) callees.Step (cond (is_text name (codes "nth-last-of-type")) callees.Step (cond (is_text name (codes "lang")) callees.Lang callees.Other)))))))))) in
    ap rest e
    ∙ callee-other (is_text name (codes "not")) (is_text name (codes "where")) (is_text name (codes "local")) (is_text name (codes "global")) (is_text name (codes "nth-child")) (is_text name (codes "nth-last-child")) (is_text name (codes "nth-of-type")) (is_text name (codes "nth-last-of-type")) (is_text name (codes "lang"))

-- Tokens.

id-calm : (b : Bool) (name : List ℕ) (at : ℕ) (ws : List Sign) → CalmSign (cond b (Whole (simple.Id name) at) Other) ws
id-calm true name at ws = folded-Id (placed calm) name
id-calm false name at ws = tt

delim-calm : (a b c d e f : Bool) (at : ℕ) (ws : List Sign) → f ≡ false
    → CalmSign (cond a (Joint combinators.Child) (cond b (Joint combinators.Next) (cond c (Joint combinators.Later) (cond d Star (cond e (Dot at) (cond f (Whole simple.Parent at) Other)))))) ws
delim-calm true b c d e f at ws h = tt
delim-calm false true c d e f at ws h = tt
delim-calm false false true d e f at ws h = tt
delim-calm false false false true e f at ws h = tt
delim-calm false false false false true f at ws h = tt
delim-calm false false false false false true at ws h = absurd (cc h)
delim-calm false false false false false false at ws h = tt

-- a token that is no `&`, before signs that are calm behind a colon where it is one
token-calm : (k : Kind) (text : List ℕ) (at : ℕ) (ws : List Sign) → is_ampersand k text ≡ false → (is_colon_kind k ≡ true → CalmCall ws) → CalmSign (kind_sign k text at) ws
token-calm kinds.Hash text at ws e f = id-calm (is_id text) (name_of_word kinds.Hash text) at ws
token-calm kinds.Delim text at ws e f = delim-calm (is_text text (codes ">")) (is_text text (codes "+")) (is_text text (codes "~")) (is_text text (codes "*")) (is_text text (codes ".")) (is_text text (codes "&")) at ws e
token-calm kinds.Colon text at ws e f = f refl
token-calm kinds.Comment text at ws e f = tt
token-calm kinds.White text at ws e f = tt
token-calm kinds.Ident text at ws e f = tt
token-calm kinds.Comma text at ws e f = tt
token-calm kinds.Function text at ws e f = tt
token-calm kinds.Url text at ws e f = tt
token-calm kinds.At text at ws e f = tt
token-calm kinds.String text at ws e f = tt
token-calm kinds.Number text at ws e f = tt
token-calm kinds.Percentage text at ws e f = tt
token-calm kinds.Dimension text at ws e f = tt
token-calm kinds.Semicolon text at ws e f = tt
token-calm kinds.Open text at ws e f = tt
token-calm kinds.Close text at ws e f = tt
token-calm kinds.Cdo text at ws e f = tt
token-calm kinds.Cdc text at ws e f = tt

-- behind a colon no token but a comment goes on
token-call : (k : Kind) (text : List ℕ) (at : ℕ) (ws : List Sign) → (is_comment_kind k ≡ true → CalmCall ws) → CalmCall (kind_sign k text at ∷ ws)
token-call kinds.Comment text at ws f = f refl
token-call kinds.Hash text at ws f = by (is_id text)
  where
    by : (b : Bool) → CalmCall (cond b (Whole (simple.Id (name_of_word kinds.Hash text)) at) Other ∷ ws)
    by true = tt
    by false = tt
token-call kinds.Delim text at ws f = by (is_text text (codes ">")) (is_text text (codes "+")) (is_text text (codes "~")) (is_text text (codes "*")) (is_text text (codes ".")) (is_text text (codes "&"))
  where
    by : (a b c d e g : Bool) → CalmCall (cond a (Joint combinators.Child) (cond b (Joint combinators.Next) (cond c (Joint combinators.Later) (cond d Star (cond e (Dot at) (cond g (Whole simple.Parent at) Other))))) ∷ ws)
    by true b c d e g = tt
    by false true c d e g = tt
    by false false true d e g = tt
    by false false false true e g = tt
    by false false false false true g = tt
    by false false false false false true = tt
    by false false false false false false = tt
token-call kinds.Colon text at ws f = tt
token-call kinds.White text at ws f = tt
token-call kinds.Ident text at ws f = tt
token-call kinds.Comma text at ws f = tt
token-call kinds.Function text at ws f = tt
token-call kinds.Url text at ws f = tt
token-call kinds.At text at ws f = tt
token-call kinds.String text at ws f = tt
token-call kinds.Number text at ws f = tt
token-call kinds.Percentage text at ws f = tt
token-call kinds.Dimension text at ws f = tt
token-call kinds.Semicolon text at ws f = tt
token-call kinds.Open text at ws f = tt
token-call kinds.Close text at ws f = tt
token-call kinds.Cdo text at ws f = tt
token-call kinds.Cdc text at ws f = tt

-- Blocks.

attribute-calm : (at : ℕ) (o : Option Attribute) (ws : List Sign) → CalmSign (attribute_sign at o) ws
attribute-calm at None ws = tt
attribute-calm at (Some a) ws = folded-Attribute (placed calm) a

attribute-call : (at : ℕ) (o : Option Attribute) (ws : List Sign) → CalmCall (attribute_sign at o ∷ ws)
attribute-call at None ws = tt
attribute-call at (Some a) ws = tt

some-call : (o : Option Simple) (ws : List Sign) → OfSome IsCalmSimple o → CalmCall (Call o ∷ ws)
some-call None ws h = tt
some-call (Some x) ws h = h

block-calm : (k : Kind) (text : List ℕ) (at : ℕ) (ms : List Mark) (ws : List Sign) → CalmSign (opened_sign k text at ms) ws
block-calm kinds.Open text at ms ws = by (is_text text (codes "["))
  where
    by : (b : Bool) → CalmSign (cond b (attribute_sign at (option_and_then attribute_of (tokens_of ms))) Other) ws
    by true = attribute-calm at (option_and_then attribute_of (tokens_of ms)) ws
    by false = tt
block-calm k text at ms ws = tt

-- behind a colon, where it is no Function named `is`
block-call : (k : Kind) (text : List ℕ) (at : ℕ) (ms : List Mark) (ws : List Sign) → is_is k text ≡ false → CalmSigns (signs_in ms) → CalmCall (opened_sign k text at ms ∷ ws)
block-call kinds.Function text at ms ws e h =
    let name = lowered (name_of_word kinds.Function text) in
    some-call (call_of name ms) ws (callee-calm (callee_of name) name ms (other-callee name e) h)
block-call kinds.Open text at ms ws e h = by (is_text text (codes "["))
  where
    by : (b : Bool) → CalmCall (cond b (attribute_sign at (option_and_then attribute_of (tokens_of ms))) Other ∷ ws)
    by true = attribute-call at (option_and_then attribute_of (tokens_of ms)) ws
    by false = tt
block-call k text at ms ws e h = tt

-- Components over which nothing that waits is seen.

abbrev IsClear : Seen → List Piece → Type 0
IsClear s ps = place_seen (seen_over s ps) ≡ None

clear-start : (s : Seen) (ps : List Piece) → IsClear s ps → place_seen s ≡ None
clear-start seen.Nothing ps h = refl
clear-start (seen.Colon at) ps h = refl
clear-start (seen.Waiting at) ps h = ap place_seen (sym (over-waiting at ps)) ∙ h

-- at `&` something is seen
ampersand-clear : (s : Seen) (p : Piece) → place_seen (seen_at s p) ≡ None → is_ampersand p.kind p.text ≡ false
ampersand-clear s p h = by (is_ampersand p.kind p.text) refl
  where
    no-comment : (k : Kind) (text : List ℕ) → is_ampersand k text ≡ true → (is_comment_kind k ≡ false) × (is_is k text ≡ false)
    no-comment kinds.Delim text e = (refl, refl)
    no-comment k text e = absurd (cc e)

    at-start : (e : is_ampersand p.kind p.text ≡ true) → begun p ≡ seen.Waiting p.at
    at-start e = ap (λ b. cond b (seen.Waiting p.at) (cond (is_colon_kind p.kind) (seen.Colon p.at) seen.Nothing)) e

    clash : (t : Seen) → is_ampersand p.kind p.text ≡ true → place_seen (seen_at t p) ≡ None → ⊥
    clash seen.Nothing e k = let none = sym (ap place_seen (at-start e)) ∙ k in cc none
    clash (seen.Colon at) e k =
        let no = no-comment p.kind p.text e in
        let none = sym (ap (λ b. place_seen (cond b (seen.Colon at) (cond (is_is p.kind p.text) (seen.Waiting at) (begun p)))) no.0 ∙ ap (λ b. place_seen (cond b (seen.Waiting at) (begun p))) no.1 ∙ ap place_seen (at-start e)) ∙ k in
        cc none
    clash (seen.Waiting at) e k = cc k

    by : (b : Bool) → is_ampersand p.kind p.text ≡ b → b ≡ false
    by true e = absurd (clash s e h)
    by false e = refl

-- at a colon it is seen
colon-seen : (s : Seen) (p : Piece) → place_seen (seen_at s p) ≡ None → is_colon_kind p.kind ≡ true → seen_at s p ≡ seen.Colon p.at
colon-seen s p h e = by s h
  where
    a-colon : (k : Kind) (text : List ℕ) → is_colon_kind k ≡ true → (is_ampersand k text ≡ false) × (is_comment_kind k ≡ false) × (is_is k text ≡ false)
    a-colon kinds.Colon text f = (refl, refl, refl)
    a-colon k text f = absurd (cc f)

    no : (is_ampersand p.kind p.text ≡ false) × (is_comment_kind p.kind ≡ false) × (is_is p.kind p.text ≡ false)
    no = a-colon p.kind p.text e

    at-start : begun p ≡ seen.Colon p.at
    at-start = ap (λ b. cond b (seen.Waiting p.at) (cond (is_colon_kind p.kind) (seen.Colon p.at) seen.Nothing)) no.0 ∙ ap (λ b. cond b (seen.Colon p.at) seen.Nothing) e

    by : (t : Seen) → place_seen (seen_at t p) ≡ None → seen_at t p ≡ seen.Colon p.at
    by seen.Nothing k = at-start
    by (seen.Colon at) k =
        ap (λ b. cond b (seen.Colon at) (cond (is_is p.kind p.text) (seen.Waiting at) (begun p))) no.1
        ∙ ap (λ b. cond b (seen.Waiting at) (begun p)) no.2
        ∙ at-start
    by (seen.Waiting at) k = absurd (cc k)

abbrev signs_of : List Component → List Sign
signs_of cs = signs_in (map mark_of cs)

-- what is shown of components: their signs are calm, and so behind a colon
record AreCalm (cs : List Component) : Type 0 where
  signs : (s : Seen) → IsClear s (pieces_all cs) → CalmSigns (signs_of cs)
  call : (at : ℕ) → IsClear (seen.Colon at) (pieces_all cs) → CalmCall (signs_of cs)

-- what is shown of a component: that what stands in its block is calm
abbrev IsCalmWithin : Component → Type 0
IsCalmWithin c = (b : block.Block) → c ≡ component.Block b → IsClear seen.Nothing (pieces_all b.items) → CalmSigns (signs_of b.items)

behind-clear : (s : Seen) (c : Component) (cs : List Component) → IsClear s (pieces_all (c ∷ cs)) → IsClear (seen_over s (pieces_of c)) (pieces_all cs)
behind-clear s c cs h = ap place_seen (sym (over-cons s c cs)) ∙ h

single-calm : (p : Piece) (cs : List Component) → AreCalm cs → AreCalm (component.Single p ∷ cs)
single-calm p cs more = record {
  signs = λ s h.
      let rest = subst (λ t. IsClear t (pieces_all cs)) (over-Single s p) (behind-clear s (component.Single p) cs h) in
      let here = clear-start (seen_at s p) (pieces_all cs) rest in
      subst (λ (m : Mark). CalmSigns (m.sign ∷ signs_of cs)) (sym (mark_of-Single p)) (
        token-calm p.kind p.text p.at (signs_of cs) (ampersand-clear s p here) (λ e. more.call p.at (subst (λ t. IsClear t (pieces_all cs)) (colon-seen s p here e) rest)),
        more.signs (seen_at s p) rest,
      );
  call = λ at h.
      let rest = subst (λ t. IsClear t (pieces_all cs)) (over-Single (seen.Colon at) p) (behind-clear (seen.Colon at) (component.Single p) cs h) in
      subst (λ (m : Mark). CalmCall (m.sign ∷ signs_of cs)) (sym (mark_of-Single p))
      (token-call p.kind p.text p.at (signs_of cs)
      (λ e. more.call at (subst (λ t. IsClear t (pieces_all cs)) (ap (λ b. cond b (seen.Colon at) (cond (is_is p.kind p.text) (seen.Waiting at) (begun p))) e) rest)));
}

-- behind a colon nothing is seen in a block where it is no Function named `is`
opened-clear : (k : Kind) (text : List ℕ) (at n : ℕ) (ps : List Piece) → IsClear (seen_at (seen.Colon at) (record { kind = k; text = text; at = n })) ps → is_is k text ≡ false
opened-clear kinds.Function text at n ps h = by (is_is kinds.Function text) h
  where
    by : (b : Bool) → IsClear (cond b (seen.Waiting at) seen.Nothing) ps → b ≡ false
    by true k = let none = ap place_seen (sym (over-waiting at ps)) ∙ k in absurd (cc none)
    by false k = refl
opened-clear k text at n ps h = refl

-- what is seen behind the first token of a Function
abbrev is_function : Kind → Bool
is_function kinds.Function = true
is_function k = false

function-clear : (k : Kind) (text : List ℕ) (at n : ℕ) (ps : List Piece) → is_function k ≡ true → IsClear (seen_at (seen.Colon at) (record { kind = k; text = text; at = n })) ps → IsClear seen.Nothing ps
function-clear kinds.Function text at n ps e h = by (is_is kinds.Function text) h
  where
    by : (b : Bool) → IsClear (cond b (seen.Waiting at) seen.Nothing) ps → IsClear seen.Nothing ps
    by true k = let none = ap place_seen (sym (over-waiting at ps)) ∙ k in absurd (cc none)
    by false k = k
function-clear k text at n ps e h = absurd (cc e)

block-calls : (k : Kind) (text : List ℕ) (at n : ℕ) (items : List Component) (ws : List Sign) → IsClear (seen_at (seen.Colon at) (record { kind = k; text = text; at = n })) (pieces_all items)
    → (IsClear seen.Nothing (pieces_all items) → CalmSigns (signs_of items)) → CalmCall (opened_sign k text n (map mark_of items) ∷ ws)
block-calls kinds.Function text at n items ws h f =
    block-call kinds.Function text n (map mark_of items) ws (opened-clear kinds.Function text at n (pieces_all items) h) (f (function-clear kinds.Function text at n (pieces_all items) refl h))
block-calls kinds.Open text at n items ws h f = by (is_text text (codes "["))
  where
    by : (b : Bool) → CalmCall (cond b (attribute_sign n (option_and_then attribute_of (tokens_of (map mark_of items)))) Other ∷ ws)
    by true = attribute-call n (option_and_then attribute_of (tokens_of (map mark_of items))) ws
    by false = tt
block-calls k text at n items ws h f = tt

blocks-calm : (b : block.Block) (cs : List Component) → IsCalmWithin (component.Block b) → AreCalm cs → AreCalm (component.Block b ∷ cs)
blocks-calm b cs within more = record {
  signs = λ s h.
      subst (λ (m : Mark). CalmSigns (m.sign ∷ signs_of cs)) (sym (mark_of-Block b)) (
        block-calm b.opening.kind b.opening.text b.opening.at (map mark_of b.items) (signs_of cs),
        more.signs (seen_over s (pieces_of (component.Block b))) (behind-clear s (component.Block b) cs h),
      );
  call = λ at h.
      let start : Seen = seen.Colon at in
      let rest = behind-clear start (component.Block b) cs h in
      let closed = ap place_seen (sym (over-Block start b)) ∙ clear-start (seen_over start (pieces_of (component.Block b))) (pieces_all cs) rest in
      let inner = clear-start (seen_over (seen_at start b.opening) (pieces_all b.items)) (closing b.opening b.close ∷ []) closed in
      subst (λ (m : Mark). CalmCall (m.sign ∷ signs_of cs)) (sym (mark_of-Block b))
      (block-calls b.opening.kind b.opening.text at b.opening.at b.items (signs_of cs) inner (within b refl));
}

components-calm : (cs : List Component) → Each IsCalmWithin cs → AreCalm cs
components-calm [] each = record { signs = λ s h. tt; call = λ at h. tt }
components-calm (c ∷ cs) each =
    let more = components-calm cs each.1 in
    elim (shape_of c) [
      | inl s ↦ subst (λ x. AreCalm (x ∷ cs)) (sym s.1) (single-calm s.0 cs more)
      | inr b ↦ subst (λ x. AreCalm (x ∷ cs)) (sym b.1) (blocks-calm b.0 cs (subst IsCalmWithin b.1 each.0) more)
    ]

-- a token is no block, and a block is one alone
abbrev layer_block : Layer → Option block.Block
layer_block (Single p) = None
layer_block (Block b) = Some b

abbrev block_in : Component → Option block.Block
block_in c = layer_block (out-Component c)

single-block : (p : Piece) (b : block.Block) → component.Single p ≡ component.Block b → ⊥
single-block p b e = let clash : None ≡ Some b = sym (ap layer_block (outs-Single p)) ∙ ap block_in e ∙ ap layer_block (outs-Block b) in cc clash

block-same : (b d : block.Block) → component.Block b ≡ component.Block d → b ≡ d
block-same b d e = let same : Some b ≡ Some d = sym (ap layer_block (outs-Block b)) ∙ ap block_in e ∙ ap layer_block (outs-Block d) in cc same

within-single : (p : Piece) → IsCalmWithin (component.Single p)
within-single p b e = absurd (single-block p b e)

within-block : (b : block.Block) → Each IsCalmWithin b.items → IsCalmWithin (component.Block b)
within-block b each d e clear =
    let same = block-same b d e in
    subst (λ (x : block.Block). CalmSigns (signs_of x.items)) same ((components-calm b.items each).signs seen.Nothing (subst (λ (x : block.Block). IsClear seen.Nothing (pieces_all x.items)) (sym same) clear))

every : (cs : List Component) → Each IsCalmWithin cs
every [] = tt
every (c ∷ cs) = (by_components IsCalmWithin within-single within-block c, every cs)

-- what is read where nothing waits has neither
pub read-calm : (cs : List Component) (ss : List Selector) → has_waiting cs ≡ false → list_reading false cs 0 ≡ Ok ss → all_calm ss ≡ true
read-calm cs ss none is =
    let signs = (components-calm cs (every cs)).signs seen.Nothing (none-seen cs none) in
    subst (OfOk CalmList) is (marks-calm false 0 (map mark_of cs) signs)

-- nothing in its spelling waits either
pub spelling-calm : (cs : List Component) (ss : List Selector) → has_waiting cs ≡ false → list_reading false cs 0 ≡ Ok ss → has_waiting (list_spelling ss) ≡ false
spelling-calm cs ss none is = list-quiet ss (read-calm cs ss none is)
