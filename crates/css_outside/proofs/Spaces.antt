-- What is held in spaces, and how much more fits, by the place of a name's space.
use Rattle.std.proofs.Common.{◌≡◌, ◌≢◌, ◌≤◌, ◌<◌, ◌-◌, ◌++◌, ◌∷◌, [], ◌⊎◌, inl, inr, ℕ, Bool, cond, true, false, List, Option, IsSome, is_some, Some, None, length, get_or, set, position, find, string_bytes, max, arith, refl, sym, ap, subst, ◌∙◌}
use Rattle.std.specs.List.{position_or_len, slice_get}
use Rattle.std.specs.Option.{option_map, option_map_or, option_or, unwrap_or}
use Rattle.std.specs.Str.{bytes_eq}
use Rattle.std.proofs.lemmas.Bool.{false_from_ne_true}
use Rattle.std.proofs.lemmas.Option.{slice_get-get_or, slice_get_past}
use Rattle.std.proofs.lemmas.List.Folds.{find_at, find-set, find_past, find-append}
use Rattle.std.proofs.lemmas.List.Sums.{passes_at_first}
use Rattle.std.proofs.lemmas.Slice.Eq.{bytes_eq-Decides}
use Rattle.std.proofs.lemmas.Grind.{common_steps}
use Rattle.css_outside.specs.Names.{bytes_under, Same}
use Rattle.css_outside.specs.Putting.{Puts}
use Rattle.css_outside.specs.Rooms.{TakesRoom, SameRooms, SameOtherRooms}
use Rattle.css_outside.specs.Spaces.{held_of, held_in, is_named, room_in}
use Rattle.css_outside.specs.declared.memory.space.Space.{Space}

place_some : {X : Type 0} (p : X → Bool) (xs : List X) (i : ℕ) → position p xs ≡ Some i → (i ≡ position_or_len p xs) × (i < length xs)
place_some p xs i h = grind (arith, common_steps)

place_none : {X : Type 0} (p : X → Bool) (xs : List X) → position p xs ≡ None → length xs ≤ position_or_len p xs
place_none p xs h = grind (arith, common_steps)

found_at : {X : Type 0} (p : X → Bool) (xs : List X) (i : ℕ) (d : X) → position p xs ≡ Some i → find p xs ≡ Some (get_or xs i d)
found_at p xs i d h =
    let e : (i ≡ position_or_len p xs) × (i < length xs) = place_some p xs i h in
    find_at p xs ∙ ap (slice_get xs) (sym e.0) ∙ slice_get-get_or xs i d e.1

found_none : {X : Type 0} (p : X → Bool) (xs : List X) → position p xs ≡ None → find p xs ≡ None
found_none p xs h = find_at p xs ∙ slice_get_past xs (position_or_len p xs) (place_none p xs h)

passes_at : {X : Type 0} (p : X → Bool) (xs : List X) (i : ℕ) (d : X) → position p xs ≡ Some i → p (get_or xs i d) ≡ true
passes_at p xs i d h =
    let e : (i ≡ position_or_len p xs) × (i < length xs) = place_some p xs i h in
    rw e.0 (passes_at_first p xs d (rw e.0 at e.1))

held_by : Option Space → Option (List ℕ)
held_by found = option_map_or held_of found None

room_by : Option Space → Option ℕ
room_by found = option_map (λ space. space.room) found

pub held_none : (spaces : List Space) (name : List ℕ) → position (is_named name) spaces ≡ None → held_in spaces name ≡ None
unfolding held_by
held_none spaces name h = ap held_by (found_none (is_named name) spaces h)

pub held_at : (spaces : List Space) (name : List ℕ) (i : ℕ) (d : Space) → position (is_named name) spaces ≡ Some i → held_in spaces name ≡ held_of (get_or spaces i d)
unfolding held_by
held_at spaces name i d h = ap held_by (found_at (is_named name) spaces i d h)

pub room_none : (spaces : List Space) (name : List ℕ) → position (is_named name) spaces ≡ None → room_in spaces name ≡ None
unfolding room_by
room_none spaces name h = ap room_by (found_none (is_named name) spaces h)

pub room_at : (spaces : List Space) (name : List ℕ) (i : ℕ) (d : Space) → position (is_named name) spaces ≡ Some i → room_in spaces name ≡ Some (get_or spaces i d).room
unfolding room_by
room_at spaces name i d h = ap room_by (found_at (is_named name) spaces i d h)

named_at : (spaces : List Space) (name : List ℕ) (i : ℕ) (d : Space) → position (is_named name) spaces ≡ Some i → string_bytes (get_or spaces i d).name ≡ name
named_at spaces name i d h = (bytes_eq-Decides (string_bytes (get_or spaces i d).name) name).0 (passes_at (is_named name) spaces i d h)

decided : (name other : List ℕ) → (other ≡ name) ⊎ (other ≢ name)
decided name other = grind (arith, bytes_eq-Decides other name)

max-zero : (n : ℕ) → max n 0 ≡ n
max-zero n = omega arith

-- a space was changed, and kept its name
module _ (spaces : List Space) (name : List ℕ) (i : ℕ) (y d : Space) (place : position (is_named name) spaces ≡ Some i) (is : d ≡ get_or spaces i d) (kept_name : y.name ≡ d.name) where
  same : y.name ≡ (get_or spaces i d).name
  same = kept_name ∙ ap (λ space. space.name) is

  found_set : find (is_named name) (set spaces i y) ≡ Some y
  found_set =
      let e : (i ≡ position_or_len (is_named name) spaces) × (i < length spaces) = place_some (is_named name) spaces i place in
      find-set (is_named name) spaces i y e.0 e.1 (ap (λ n. bytes_eq (string_bytes n) name) same ∙ passes_at (is_named name) spaces i d place)

  found_set_other : (other : List ℕ) → other ≢ name → find (is_named other) (set spaces i y) ≡ find (is_named other) spaces
  found_set_other other ne =
      let own : string_bytes (get_or spaces i d).name ≡ name = named_at spaces name i d place in
      let fails : is_named other (get_or spaces i d) ≡ false = false_from_ne_true _ (λ t. ne (sym ((bytes_eq-Decides (string_bytes (get_or spaces i d).name) other).0 t) ∙ own)) in
      find_past (is_named other) spaces i y d fails (ap (λ n. bytes_eq (string_bytes n) other) same ∙ fails)

  held_set : held_in (set spaces i y) name ≡ held_of y
  unfolding held_by
  held_set = ap held_by found_set

  held_set_other : (other : List ℕ) → other ≢ name → held_in (set spaces i y) other ≡ held_in spaces other
  unfolding held_by
  held_set_other other ne = ap held_by (found_set_other other ne)

  pub room_set : room_in (set spaces i y) name ≡ Some y.room
  unfolding room_by
  room_set = ap room_by found_set

  pub room_set_other : SameOtherRooms name (room_in spaces) (room_in (set spaces i y))
  unfolding room_by
  room_set_other other ne = ap room_by (found_set_other other ne)

  -- bytes were added to it
  module _ (piece : List ℕ) (grown : held_of y ≡ Some (unwrap_or (held_of d) [] ++ piece)) where
    held_added : held_in (set spaces i y) name ≡ Some (bytes_under (held_in spaces) name ++ piece)
    held_added = held_set ∙ grown ∙ ap (λ held. Some (unwrap_or held [] ++ piece)) (ap held_of is ∙ sym (held_at spaces name i d place))

    pub begun : IsSome (held_in (set spaces i y) name)
    begun = ap is_some held_added

    pub added : Puts name piece (held_in spaces) (held_in (set spaces i y))
    added = record {
      others = held_set_other;
      grown = ap (λ held. unwrap_or held []) held_added;
      stays = λ _. begun;
    }

  -- so many bytes of its room were taken
  pub room_taken : (count : ℕ) → y.room ≡ d.room - count → TakesRoom name count (room_in spaces) (room_in (set spaces i y))
  room_taken count less = record {
    own = room_set ∙ ap Some (less ∙ ap (λ space. space.room - count) is) ∙ ap (option_map (λ room. room - count)) (sym (room_at spaces name i d place));
    others = room_set_other;
  }

  -- it has room for so many more bytes
  pub room_widened : (bytes : ℕ) → y.room ≡ max bytes d.room → room_in (set spaces i y) name ≡ Some (max bytes (unwrap_or (room_in spaces name) 0))
  room_widened bytes wide = room_set ∙ ap Some (wide ∙ ap (λ space. max bytes space.room) is ∙ ap (λ room. max bytes (unwrap_or room 0)) (sym (room_at spaces name i d place)))

  -- what it holds stayed
  pub held_kept : held_of y ≡ held_of d → Same (held_in spaces) (held_in (set spaces i y))
  held_kept stays other = elim (decided name other) [ inl here ↦ subst (λ n. held_in (set spaces i y) n ≡ held_in spaces n) (sym here) (held_set ∙ stays ∙ ap held_of is ∙ sym (held_at spaces name i d place)) | inr ne ↦ held_set_other other ne ]

  -- its room stayed
  pub room_kept : y.room ≡ d.room → SameRooms (room_in spaces) (room_in (set spaces i y))
  room_kept stays other = elim (decided name other) [ inl here ↦ subst (λ n. room_in (set spaces i y) n ≡ room_in spaces n) (sym here) (room_set ∙ ap Some (stays ∙ ap (λ space. space.room) is) ∙ sym (room_at spaces name i d place)) | inr ne ↦ room_set_other other ne ]

-- a space was added to which there was no put
none_alone : (y : Space) (other : List ℕ) → held_of y ≡ None → held_by (find (is_named other) (y ∷ [])) ≡ None
unfolding held_by
none_alone y other fresh = elim (is_named other y) as (λ t. held_by (cond t (Some y) None) ≡ None) [ true ↦ fresh | false ↦ refl ]

none_more : (found more : Option Space) → held_by more ≡ None → held_by (option_or found more) ≡ held_by found
unfolding held_by
none_more None more none = none
none_more (Some x) more none = refl

pub held_more : (spaces : List Space) (y : Space) → held_of y ≡ None → Same (held_in spaces) (held_in (spaces ++ y ∷ []))
unfolding held_by
held_more spaces y fresh other = ap held_by (find-append (is_named other) spaces (y ∷ [])) ∙ none_more (find (is_named other) spaces) (find (is_named other) (y ∷ [])) (none_alone y other fresh)

-- a space was added under a name that had none
module _ (spaces : List Space) (name : List ℕ) (y : Space) (none : position (is_named name) spaces ≡ None) (named : string_bytes y.name ≡ name) where
  only : (t : Bool) → t ≡ true → room_by (cond t (Some y) None) ≡ Some y.room
  unfolding room_by
  only t e = ap (λ b. room_by (cond b (Some y) None)) e

  alone : room_in (spaces ++ y ∷ []) name ≡ Some y.room
  unfolding room_by
  alone =
      ap room_by (find-append (is_named name) spaces (y ∷ []) ∙ ap (λ found. option_or found (find (is_named name) (y ∷ []))) (found_none (is_named name) spaces none))
      ∙ only (is_named name y) ((bytes_eq-Decides (string_bytes y.name) name).1 named)

  pub room_more : (bytes : ℕ) → y.room ≡ bytes → room_in (spaces ++ y ∷ []) name ≡ Some (max bytes (unwrap_or (room_in spaces name) 0))
  room_more bytes as_asked = alone ∙ ap Some (as_asked ∙ sym (ap (λ room. max bytes (unwrap_or room 0)) (room_none spaces name none) ∙ max-zero bytes))

  no_more : (found : Option Space) → option_or found None ≡ found
  no_more None = refl
  no_more (Some x) = refl

  pub room_more_other : SameOtherRooms name (room_in spaces) (room_in (spaces ++ y ∷ []))
  unfolding room_by
  room_more_other other ne =
      let fails : is_named other y ≡ false = false_from_ne_true _ (λ t. ne (sym ((bytes_eq-Decides (string_bytes y.name) other).0 t) ∙ named)) in
      ap room_by (find-append (is_named other) spaces (y ∷ []) ∙ ap (λ t. option_or (find (is_named other) spaces) (cond t (Some y) None)) fails ∙ no_more (find (is_named other) spaces))
