-- A writer of several pieces, of which one was refused.
use Rattle.std.proofs.Common.{◌≡◌, ℕ, ◌<◌, ◌+◌, ◌-◌, List, [], ◌∷◌, ◌++◌, length, get_or, take, drop, refl, sym, ap, ◌∙◌, append_assoc, subst}
use Rattle.std.specs.Prelude.{Result, Ok, Err, OnErr, flat_map}
use Rattle.std.proofs.lemmas.Grind.{flat_map-append}
use Rattle.std.proofs.lemmas.List.{append-nil, length-drop, take-append-drop, drop_more}
use Rattle.std.proofs.Math.Seq.{take-length}
use Rattle.css_tokens.specs.Appends.{AppendsFront}

-- nothing was written
pub front_none : (old new text : List ℕ) → new ≡ old → AppendsFront old new text
front_none old new text e = record { front = []; rest = text; split = refl; appended = e ∙ sym (append-nil old) }

-- the first of two pieces was refused
pub front_first : (old new a b : List ℕ) → AppendsFront old new a → AppendsFront old new (a ++ b)
front_first old new a b h = record { front = h.front; rest = h.rest ++ b; split = ap (λ t. t ++ b) h.split ∙ append_assoc h.front h.rest b; appended = h.appended }

-- the first of two pieces was written, and the second refused
pub front_second : (old mid new a b : List ℕ) → mid ≡ old ++ a → AppendsFront mid new b → AppendsFront old new (a ++ b)
front_second old mid new a b e h = record { front = a ++ h.front; rest = h.rest; split = ap (λ t. a ++ t) h.split ∙ sym (append_assoc a h.front h.rest); appended = h.appended ∙ ap (λ t. t ++ h.front) e ∙ append_assoc old a h.front }

pub on_err : {A E : Type 0} (r : Result A E) {P : Type 0} → P → OnErr r P
on_err (Ok x) h = tt
on_err (Err e) h = h

pub on_err_map : {A E : Type 0} (r : Result A E) {P Q : Type 0} → (P → Q) → OnErr r P → OnErr r Q
on_err_map (Ok x) f h = tt
on_err_map (Err e) f h = f h

-- the element of a loop, and those behind it
pub at_item : {X : Type 0} (xs : List X) (i : ℕ) (x : X) → i < length xs → x ≡ get_or xs i x → drop i xs ≡ x ∷ drop (i + 1) xs
at_item xs i x within is = drop_more xs i x within ∙ ap (λ y. y ∷ drop (i + 1) xs) (sym is)

-- all behind the first element, as a pattern on a slice gives it
pub rest_whole : {X : Type 0} (xs : List X) → take (length xs - 1) (drop 1 xs) ≡ drop 1 xs
rest_whole xs = ap (λ n. take n (drop 1 xs)) (sym (length-drop 1 xs)) ∙ take-length (drop 1 xs)

-- the elements before one were written, and a front of its text
pub front_item : {X : Type 0} (text : X → List ℕ) (xs : List X) (i : ℕ) (x : X) → i < length xs → x ≡ get_or xs i x → (old mid new : List ℕ) → mid ≡ old ++ flat_map text (take i xs) → AppendsFront mid new (text x) → AppendsFront old new (flat_map text xs)
front_item text xs i x within is old mid new done front =
    let whole : flat_map text xs ≡ flat_map text (take i xs) ++ (text x ++ flat_map text (drop (i + 1) xs)) =
    ap (flat_map text) (sym (take-append-drop i xs)) ∙ flat_map-append text (take i xs) (drop i xs) ∙ ap (λ ys. flat_map text (take i xs) ++ flat_map text ys) (at_item xs i x within is) in
    subst (AppendsFront old new) (sym whole) (front_second old mid new _ _ done (front_first mid new (text x) _ front))
