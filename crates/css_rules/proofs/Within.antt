-- Components whose tokens all stand within a text, and the fault of a selector list made of them.
use Rattle.std.proofs.Common.{◌≡◌, ℕ, ◌≤◌, List, [], ◌∷◌, ◌++◌, map, Bool, true, false, ◌&&◌, not, refl, sym, ◌∙◌, ap, Option, Some, None, MatchOption, inl, inr, nat_le, le-leb}
use Rattle.std.specs.Prelude.{unwrap_or, if◌then◌else◌, Result, Ok, Err}
use Rattle.std.specs.List.{list_all, find, AllByRecursion}
use Rattle.std.specs.Option.{option_map}
use Rattle.std.proofs.lemmas.Bool.{leb-true}
use Rattle.std.proofs.lemmas.List.Folds.{list_all-append}
use Rattle.css_tokens.specs.declared.component.Component.{Component, out-Component}
use Rattle.css_tokens.specs.declared.component.Component as component
use Rattle.css_tokens.specs.declared.component.Block as block
use Rattle.css_tokens.specs.declared.component.Component.TheVariants.{outs-Single}
use Rattle.css_tokens.specs.Piece.{Piece}
use Rattle.css_tokens.specs.Trees.{pieces_of, pieces_all, closing, pieces_of-Single, pieces_of-Block}
use Rattle.selector_types.specs.declared.selector.Selector.{Selector}
use Rattle.selector_tree.specs.Grammar.{Mark, Member, is_comma_sign, is_gap_sign, first_place, selector_of, empty_before, with_mark, cut_at_commas, fault_place, or_fault, member_reading, first_and, members_reading}
use Rattle.selector_tree.specs.Signs.{mark_of, list_reading}
use Rattle.css_components.specs.Components.{head, inside, layer_items}
use Rattle.css_rules.proofs.Heads.{head-Single, head-Block, inside-Block}
use Rattle.css_rules.proofs.MarkPlaces.{mark-place}
use Rattle.css_rules.proofs.BoolLemmas.{and-left, and-right, and-both}
use Rattle.css_rules.proofs.ValueFacts.{shape_of}

module _ (end : ℕ) where
  abbrev pub is_early : Piece → Bool
  is_early p = nat_le p.at end

  -- no token of it stands behind the end
  abbrev pub is_within : Component → Bool
  is_within c = list_all is_early (pieces_of c)

  pub early-each : (ps : List Piece) → AllByRecursion (λ (p : Piece). p.at ≤ end) ps → list_all is_early ps ≡ true
  early-each [] h = refl
  early-each (p ∷ ps) h = and-both (is_early p) (list_all is_early ps) (le-leb p.at end h.0) (early-each ps h.1)

  pub within-all : (cs : List Component) → list_all is_early (pieces_all cs) ≡ true → list_all is_within cs ≡ true
  within-all [] h = refl
  within-all (c ∷ cs) h =
      let both = sym (list_all-append is_early (pieces_of c) (pieces_all cs)) ∙ h in
      let rest = list_all is_early (pieces_all cs) in
      and-both (is_within c) (list_all is_within cs) (and-left (is_within c) rest both) (within-all cs (and-right (is_within c) rest both))

  pub pieces-early : (cs : List Component) → list_all is_within cs ≡ true → list_all is_early (pieces_all cs) ≡ true
  pieces-early [] h = refl
  pieces-early (c ∷ cs) h =
      list_all-append is_early (pieces_of c) (pieces_all cs)
      ∙ and-both (is_within c) (list_all is_early (pieces_all cs)) (and-left (is_within c) (list_all is_within cs) h) (pieces-early cs (and-right (is_within c) (list_all is_within cs) h))

  -- A component's first token, and what stands in a block.

  abbrev behind : block.Block → List Piece
  behind b = pieces_all b.items ++ closing b.opening b.close ∷ []

  single-early : (c : Component) (p : Piece) → c ≡ component.Single p → is_within c ≡ true → (is_early p && true) ≡ true
  single-early c p is h = sym (ap is_within is ∙ ap (list_all is_early) (pieces_of-Single p)) ∙ h

  block-early : (c : Component) (b : block.Block) → c ≡ component.Block b → is_within c ≡ true → (is_early b.opening && list_all is_early (behind b)) ≡ true
  block-early c b is h = sym (ap is_within is ∙ ap (list_all is_early) (pieces_of-Block b)) ∙ h

  head-early : (c : Component) → is_within c ≡ true → is_early (head c) ≡ true
  head-early c h = elim (shape_of c) [
    | inl s ↦ ap (λ x. is_early (head x)) s.1 ∙ ap is_early (head-Single s.0) ∙ and-left (is_early s.0) true (single-early c s.0 s.1 h)
    | inr s ↦ ap (λ x. is_early (head x)) s.1 ∙ ap is_early (head-Block s.0) ∙ and-left (is_early s.0.opening) (list_all is_early (behind s.0)) (block-early c s.0 s.1 h)
  ]

  pub head-within : (c : Component) → is_within c ≡ true → (head c).at ≤ end
  head-within c h = leb-true (head c).at end (head-early c h)

  items-early : (b : block.Block) → list_all is_early (behind b) ≡ true → list_all is_within b.items ≡ true
  items-early b h =
      let last = closing b.opening b.close ∷ [] in
      within-all b.items (and-left (list_all is_early (pieces_all b.items)) (list_all is_early last) (sym (list_all-append is_early (pieces_all b.items) last) ∙ h))

  pub inside-within : (c : Component) → is_within c ≡ true → list_all is_within (inside c) ≡ true
  inside-within c h = elim (shape_of c) [
    | inl s ↦ ap (λ x. list_all is_within (inside x)) s.1 ∙ ap (λ v. list_all is_within (layer_items v)) (outs-Single s.0)
    | inr s ↦ ap (λ x. list_all is_within (inside x)) s.1 ∙ ap (list_all is_within) (inside-Block s.0)
        ∙ items-early s.0 (and-right (is_early s.0.opening) (list_all is_early (behind s.0)) (block-early c s.0 s.1 h))
  ]

  -- The members of a list, and its fault.

  abbrev is_near : Mark → Bool
  is_near m = nat_le m.at end

  marks-near : (cs : List Component) → list_all is_within cs ≡ true → list_all is_near (map mark_of cs) ≡ true
  marks-near [] h = refl
  marks-near (c ∷ cs) h =
      and-both (is_near (mark_of c)) (list_all is_near (map mark_of cs))
      (ap (λ at. nat_le at end) (mark-place c) ∙ head-early c (and-left (is_within c) (list_all is_within cs) h))
      (marks-near cs (and-right (is_within c) (list_all is_within cs) h))

  record IsMember (m : Member) : Type 0 where
    kept : list_all is_near m.marks ≡ true
    stopped : MatchOption m.stop (Unit {0}) (λ place. place ≤ end)

  abbrev AreMembers : Member × List Member → Type 0
  AreMembers ms = IsMember ms.0 × AllByRecursion IsMember ms.1

  one-more : (m : Mark) (ms : Member × List Member) (comma : Bool) → is_near m ≡ true → AreMembers ms
      → AreMembers (if comma then (empty_before (Some m.at), ms.0 ∷ ms.1) else (with_mark m ms.0, ms.1))
  one-more m ms true h k = (record { kept = refl; stopped = leb-true m.at end h }, (k.0, k.1))
  one-more m ms false h k = (record { kept = and-both (is_near m) (list_all is_near ms.0.marks) h k.0.kept; stopped = k.0.stopped }, k.1)

  members-within : (ms : List Mark) → list_all is_near ms ≡ true → AreMembers (cut_at_commas ms)
  members-within [] h = (record { kept = refl; stopped = tt }, tt)
  members-within (m ∷ ms) h =
      one-more m (cut_at_commas ms) (is_comma_sign m.sign) (and-left (is_near m) (list_all is_near ms) h) (members-within ms (and-right (is_near m) (list_all is_near ms) h))

  found-or : (m : Mark) (o : Option Mark) (otherwise : ℕ) (here : Bool) → is_near m ≡ true → unwrap_or (option_map (λ (x : Mark). x.at) o) otherwise ≤ end
      → unwrap_or (option_map (λ (x : Mark). x.at) (if here then Some m else o)) otherwise ≤ end
  found-or m o otherwise true h k = leb-true m.at end h
  found-or m o otherwise false h k = k

  first-within : (ms : List Mark) (otherwise : ℕ) → list_all is_near ms ≡ true → otherwise ≤ end → unwrap_or (first_place ms) otherwise ≤ end
  first-within [] otherwise h k = k
  first-within (m ∷ ms) otherwise h k =
      found-or m (find (λ x. not (is_gap_sign x.sign)) ms) otherwise (not (is_gap_sign m.sign)) (and-left (is_near m) (list_all is_near ms) h)
      (first-within ms otherwise (and-right (is_near m) (list_all is_near ms) h) k)

  stop-within : (o : Option ℕ) (stop : ℕ) → MatchOption o (Unit {0}) (λ place. place ≤ end) → stop ≤ end → unwrap_or o stop ≤ end
  stop-within None stop h k = k
  stop-within (Some place) stop h k = h

  -- where there is no reading, the fault stands within
  abbrev pub FaultWithin : {A : Type 0} → Result A ℕ → Type 0
  FaultWithin (Ok x) = Unit {0}
  FaultWithin (Err place) = place ≤ end

  fault-at : (o : Option Selector) (place : ℕ) → place ≤ end → FaultWithin (or_fault o place)
  fault-at None place h = h
  fault-at (Some s) place h = tt

  first-fault : (r : Result Selector ℕ) (list : Result (List Selector) ℕ) → FaultWithin r → FaultWithin list → FaultWithin (first_and r list)
  first-fault (Err place) list h k = h
  first-fault (Ok s) (Err place) h k = k
  first-fault (Ok s) (Ok ss) h k = tt

  each-fault : (ms : List Member) (stop : ℕ) → AllByRecursion IsMember ms → stop ≤ end → FaultWithin (members_reading false stop ms)
  each-fault [] stop h k = tt
  each-fault (m ∷ ms) stop h k =
      first-fault (member_reading false stop m) (members_reading false stop ms)
      (fault-at (selector_of false m.marks) (fault_place stop m) (first-within m.marks (unwrap_or m.stop stop) h.0.kept (stop-within m.stop stop h.0.stopped k)))
      (each-fault ms stop h.1 k)

  pub fault-within : (cs : List Component) (stop : ℕ) → list_all is_within cs ≡ true → stop ≤ end → FaultWithin (list_reading false cs stop)
  fault-within cs stop h k =
      let ms = map mark_of cs in
      let members = members-within ms (marks-near cs h) in
      each-fault ((cut_at_commas ms).0 ∷ (cut_at_commas ms).1) stop (members.0, members.1) k
