-- The faults of a selector list stand in order.
use Rattle.std.proofs.Common.{◌≡◌, ℕ, ◌≤◌, List, [], ◌∷◌, ◌++◌, map, Bool, true, false, refl, sym, ◌∙◌, ap, subst, Option, Some, None, inl, inr, arith, nat_lt, IsTrue}
use Rattle.std.specs.Prelude.{unwrap_or, if◌then◌else◌, not, Result, Ok, Err}
use Rattle.std.specs.List.{AllByRecursion, find, filter_map, cons_option}
use Rattle.std.specs.Option.{option_map}
use Rattle.std.proofs.lemmas.Bool.{leb-true}
use Rattle.std.proofs.lemmas.Bool.Decides.{nat_tests}
use Rattle.css_tokens.specs.declared.component.Component.{Component}
use Rattle.css_tokens.specs.declared.component.Component.TheVariants.{outs-Single, outs-Block}
use Rattle.css_tokens.specs.Piece.{Piece}
use Rattle.css_tokens.specs.Pairing.{places_rise}
use Rattle.css_tokens.specs.Trees.{pieces_of, pieces_all, closing, pieces_of-Single, pieces_of-Block}
use Rattle.selector_types.specs.declared.selector.Selector.{Selector}
use Rattle.selector_tree.specs.Grammar.{Mark, Member, is_comma_sign, is_gap_sign, selector_of, empty_before, with_mark, cut_at_commas, fault_place, or_fault, member_reading, first_and, members_reading}
use Rattle.selector_tree.specs.Signs.{mark_of, list_reading}
use Rattle.css_components.specs.Components.{Layer, head, layer_head, place_of}
use Rattle.css_rules.specs.SelectorFaults.{fault_in, list_faults, members_of}
use Rattle.css_rules.proofs.BoolLemmas.{and-left, and-right}
use Rattle.css_rules.proofs.MarkPlaces.{mark-place}
use Rattle.css_rules.proofs.ValueFacts.{shape_of}

-- numbers that rise from the first bound on
abbrev Rising : ℕ → List ℕ → Type 0
Rising low [] = Unit {0}
Rising low (at ∷ places) = (low ≤ at) × Rising at places

rising-lower : (low low' : ℕ) (places : List ℕ) → low' ≤ low → Rising low places → Rising low' places
rising-lower low low' [] h k = tt
rising-lower low low' (at ∷ places) h k = let first : low ≤ at = k.0 in (omega arith, k.1)

rising-each : (low : ℕ) (places : List ℕ) → Rising low places → AllByRecursion (λ other. low ≤ other) places
rising-each low [] h = tt
rising-each low (at ∷ places) h = (h.0, rising-each low places (rising-lower at low places h.0 h.1))

module _ (end : ℕ) where
  -- The tokens.

  abbrev TokensRise : ℕ → List Piece → Type 0
  TokensRise low [] = low ≤ end
  TokensRise low (p ∷ ps) = (low ≤ p.at) × TokensRise p.at ps

  tokens-lower : (low low' : ℕ) (ps : List Piece) → low' ≤ low → TokensRise low ps → TokensRise low' ps
  tokens-lower low low' [] h k = omega arith
  tokens-lower low low' (p ∷ ps) h k = let first : low ≤ p.at = k.0 in (omega arith, k.1)

  tokens-from : (p : Piece) (ps : List Piece) → places_rise (p ∷ ps) end ≡ true → TokensRise p.at ps
  tokens-from p [] h = leb-true p.at end h
  tokens-from p (q ∷ ps) h =
      let here : nat_lt p.at q.at ≡ true = and-left (nat_lt p.at q.at) (places_rise (q ∷ ps) end) h in
      let less : p.at ≤ q.at = grind (arith, nat_tests) in
      (less, tokens-from q ps (and-right (nat_lt p.at q.at) (places_rise (q ∷ ps) end) h))

  tokens-rise : (ps : List Piece) → places_rise ps end ≡ true → TokensRise 0 ps
  tokens-rise [] h = omega arith
  tokens-rise (p ∷ ps) h = (omega arith, tokens-from p ps h)

  tokens-behind : (low : ℕ) (ps qs : List Piece) → TokensRise low (ps ++ qs) → TokensRise low qs
  tokens-behind low [] qs h = h
  tokens-behind low (p ∷ ps) qs h = tokens-lower p.at low qs h.0 (tokens-behind p.at ps qs h.1)

  -- The components.

  abbrev PartsRise : ℕ → List Component → Type 0
  PartsRise low [] = low ≤ end
  PartsRise low (c ∷ cs) = (low ≤ place_of c) × PartsRise (place_of c) cs

  part-first : (low : ℕ) (c : Component) (ps : List Piece) → TokensRise low (pieces_of c ++ ps) → (low ≤ place_of c) × TokensRise (place_of c) ps
  part-first low c ps h = elim (shape_of c) [
    | inl s ↦
        let place : place_of c ≡ s.0.at = ap place_of s.1 ∙ ap (λ (v : Layer). (layer_head v).at) (outs-Single s.0) in
        subst (λ at. (low ≤ at) × TokensRise at ps) (sym place) (subst (λ qs. TokensRise low (qs ++ ps)) (ap pieces_of s.1 ∙ pieces_of-Single s.0) h)
    | inr s ↦
        let place : place_of c ≡ s.0.opening.at = ap place_of s.1 ∙ ap (λ (v : Layer). (layer_head v).at) (outs-Block s.0) in
        let inner = pieces_all s.0.items ++ closing s.0.opening s.0.close ∷ [] in
        let split : TokensRise low (s.0.opening ∷ inner ++ ps) = subst (λ qs. TokensRise low (qs ++ ps)) (ap pieces_of s.1 ∙ pieces_of-Block s.0) h in
        subst (λ at. (low ≤ at) × TokensRise at ps) (sym place) (split.0, tokens-behind s.0.opening.at inner ps split.1)
  ]

  parts-rise : (low : ℕ) (cs : List Component) → TokensRise low (pieces_all cs) → PartsRise low cs
  parts-rise low [] h = h
  parts-rise low (c ∷ cs) h =
      let first = part-first low c (pieces_all cs) h in
      (first.0, parts-rise (place_of c) cs first.1)

  -- The marks.

  abbrev MarksRise : ℕ → List Mark → Type 0
  MarksRise low [] = low ≤ end
  MarksRise low (m ∷ ms) = (low ≤ m.at) × MarksRise m.at ms

  marks-rise : (low : ℕ) (cs : List Component) → PartsRise low cs → MarksRise low (map mark_of cs)
  marks-rise low [] h = h
  marks-rise low (c ∷ cs) h =
      let Rises : ℕ → Type 0 = λ at. (low ≤ at) × MarksRise at (map mark_of cs) in
      subst Rises (sym (mark-place c)) (h.0, marks-rise (place_of c) cs h.1)

  -- The members and their faults.

  abbrev stop_of : Member → ℕ
  stop_of m = unwrap_or m.stop end

  abbrev faults_of : List Member → List ℕ
  faults_of ms = filter_map (λ m. fault_in (member_reading false end m)) ms

  -- where a member is refused if it is, and that the faults behind it follow
  record MembersRise (low : ℕ) (ms : Member × List Member) : Type 0 where
    from : low ≤ fault_place end ms.0
    upto : fault_place end ms.0 ≤ stop_of ms.0
    rest : Rising (stop_of ms.0) (faults_of ms.1)

  fault-more : (low at stop : ℕ) (o : Option Selector) (places : List ℕ) → low ≤ at → at ≤ stop → Rising stop places → Rising low (cons_option (fault_in (or_fault o at)) places)
  fault-more low at stop (Some s) places h k r = rising-lower stop low places (omega arith) r
  fault-more low at stop None places h k r = (h, rising-lower stop at places k r)

  faults-rise : (low : ℕ) (ms : Member × List Member) → MembersRise low ms → Rising low (faults_of (ms.0 ∷ ms.1))
  faults-rise low ms h = fault-more low (fault_place end ms.0) (stop_of ms.0) (selector_of false ms.0.marks) (faults_of ms.1) h.from h.upto h.rest

  abbrev place_in : Option Mark → Option ℕ
  place_in o = option_map (λ (m : Mark). m.at) o

  found-rises : (low : ℕ) (m : Mark) (o : Option Mark) (stop : ℕ) (solid : Bool) → low ≤ m.at → m.at ≤ unwrap_or (place_in o) stop → unwrap_or (place_in o) stop ≤ stop
      → (low ≤ unwrap_or (place_in (if solid then Some m else o)) stop) × (unwrap_or (place_in (if solid then Some m else o)) stop ≤ stop)
  found-rises low m o stop true h k l = (h, omega arith)
  found-rises low m o stop false h k l = (omega arith, l)

  one-more : (low : ℕ) (m : Mark) (ms : Member × List Member) (comma : Bool) → low ≤ m.at → MembersRise m.at ms
      → MembersRise low (if comma then (empty_before (Some m.at), ms.0 ∷ ms.1) else (with_mark m ms.0, ms.1))
  one-more low m ms true h k = record { from = h; upto = omega arith; rest = faults-rise m.at ms k }
  one-more low m ms false h k =
      let place = found-rises low m (find (λ x. not (is_gap_sign x.sign)) ms.0.marks) (stop_of ms.0) (not (is_gap_sign m.sign)) h k.from k.upto in
      record { from = place.0; upto = place.1; rest = k.rest }

  members-rise : (low : ℕ) (ms : List Mark) → MarksRise low ms → MembersRise low (cut_at_commas ms)
  members-rise low [] h = record { from = h; upto = omega arith; rest = tt }
  members-rise low (m ∷ ms) h = one-more low m (cut_at_commas ms) (is_comma_sign m.sign) h.0 (members-rise m.at ms h.1)

  -- The fault that is named is the first of them.

  abbrev first-of : List ℕ → Option ℕ
  first-of [] = None
  first-of (at ∷ places) = Some at

  one-named : (o : Option Selector) (place at : ℕ) (list : Result (List Selector) ℕ) (places : List ℕ) → ((place : ℕ) → list ≡ Err place → first-of places ≡ Some place)
      → first_and (or_fault o place) list ≡ Err at → first-of (cons_option (fault_in (or_fault o place)) places) ≡ Some at
  one-named None place at list places named e = let same : place ≡ at = cc e in ap (λ n. Some n) same
  one-named (Some s) place at (Ok ss) places named e = absurd (cc e)
  one-named (Some s) place at (Err p) places named e = let same : p ≡ at = cc e in named p refl ∙ ap (λ n. Some n) same

  fault-named : (ms : List Member) (at : ℕ) → members_reading false end ms ≡ Err at → first-of (faults_of ms) ≡ Some at
  fault-named [] at e = absurd (cc e)
  fault-named (m ∷ ms) at e = one-named (selector_of false m.marks) (fault_place end m) at (members_reading false end ms) (faults_of ms) (fault-named ms) e

  first-least : (low at : ℕ) (places : List ℕ) → Rising low places → first-of places ≡ Some at → AllByRecursion (λ other. at ≤ other) places
  first-least low at [] h e = tt
  first-least low at (place ∷ places) h e =
      let same : place ≡ at = cc e in
      subst (λ n. AllByRecursion (λ other. n ≤ other) (place ∷ places)) same (omega arith, rising-each place places h.1)

abbrev Least : ℕ → List Component → Type 0
Least end cs = (at : ℕ) → list_reading false cs end ≡ Err at → AllByRecursion (λ other. at ≤ other) (list_faults cs end)

parts-least : (end : ℕ) (cs : List Component) → PartsRise end 0 cs → Least end cs
parts-least end cs h at e =
    let ms = map mark_of cs in
    first-least end 0 at (list_faults cs end) (faults-rise end 0 (cut_at_commas ms) (members-rise end 0 ms (marks-rise end 0 cs h))) (fault-named end (members_of ms) at e)

pub first_fault-least : (cs : List Component) (end at : ℕ) → IsTrue (places_rise (pieces_all cs) end) → list_reading false cs end ≡ Err at → AllByRecursion (λ other. at ≤ other) (list_faults cs end)
first_fault-least cs end at h e = parts-least end cs (parts-rise end 0 cs (tokens-rise end (pieces_all cs) h)) at e

-- A prelude among components.

parts-lower : (end low low' : ℕ) (cs : List Component) → low' ≤ low → PartsRise end low cs → PartsRise end low' cs
parts-lower end low low' [] h k = omega arith
parts-lower end low low' (c ∷ cs) h k = let first : low ≤ place_of c = k.0 in (omega arith, k.1)

parts-behind : (end low : ℕ) (front cs : List Component) → PartsRise end low (front ++ cs) → PartsRise end low cs
parts-behind end low [] cs h = h
parts-behind end low (c ∷ front) cs h = parts-lower end (place_of c) low cs h.0 (parts-behind end (place_of c) front cs h.1)

parts-before : (end low : ℕ) (cs : List Component) (block : Component) (behind : List Component) → PartsRise end low (cs ++ block ∷ behind) → PartsRise (place_of block) low cs
parts-before end low [] block behind h = h.0
parts-before end low (c ∷ cs) block behind h = (h.0, parts-before end (place_of c) cs block behind h.1)

pub first_fault-prelude : (front cs behind : List Component) (block : Component) (end at : ℕ) → IsTrue (places_rise (pieces_all (front ++ (cs ++ block ∷ behind))) end)
    → list_reading false cs (head block).at ≡ Err at → AllByRecursion (λ other. at ≤ other) (list_faults cs (head block).at)
first_fault-prelude front cs behind block end at h e =
    let all = front ++ (cs ++ block ∷ behind) in
    let rise = parts-behind end 0 front (cs ++ block ∷ behind) (parts-rise end 0 all (tokens-rise end (pieces_all all) h)) in
    parts-least (place_of block) cs (parts-before end 0 cs block behind rise) at e
