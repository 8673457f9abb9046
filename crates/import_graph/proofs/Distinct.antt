-- The paths of all waves are distinct.
use Rattle.std.proofs.Common.{◌≡◌, ℕ, zero, suc, Bool, true, false, List, [], ◌∷◌, ◌++◌, flat_map, append_assoc, append-nil, subst, sym, refl, if◌then◌else◌}
use Rattle.std.specs.List.{list_any, IsDistinct}
use Rattle.std.specs.Str.{bytes_eq}
use Rattle.std.specs.Cmp.Lexicographic.{nat_list_eq_equiv}
use Rattle.import_graph.specs.Waves.{Targets, named_by, new_among, through, wave_of}
use Rattle.import_graph.proofs.Apart.{distinct-more}

new-distinct : (known paths : List (List ℕ)) → IsDistinct bytes_eq known → IsDistinct bytes_eq (known ++ new_among known paths)
new-distinct known [] distinct = subst (IsDistinct bytes_eq) (sym (append-nil known)) distinct
new-distinct known (x ∷ xs) distinct =
    by (list_any (bytes_eq x) known) refl (new-distinct known xs distinct) (λ free. new-distinct (known ++ x ∷ []) xs (distinct-more bytes_eq nat_list_eq_equiv.symm known x distinct free))
  where
    by : (b : Bool) → list_any (bytes_eq x) known ≡ b → IsDistinct bytes_eq (known ++ new_among known xs) → (list_any (bytes_eq x) known ≡ false → IsDistinct bytes_eq ((known ++ x ∷ []) ++ new_among (known ++ x ∷ []) xs))
        → IsDistinct bytes_eq (known ++ (if b then new_among known xs else x ∷ new_among (known ++ x ∷ []) xs))
    by true is same free = same
    by false is same free = subst (IsDistinct bytes_eq) (append_assoc known (x ∷ []) (new_among (known ++ x ∷ []) xs)) (free is)

one-distinct : (path : List ℕ) → IsDistinct bytes_eq (path ∷ [])
unfolding IsDistinct
one-distinct path = (tt, tt)

-- each path stands once in all waves
pub each-once : (targets : Targets) (entry : List ℕ) (number : ℕ) → IsDistinct bytes_eq (through (wave_of targets entry number))
each-once targets entry zero = one-distinct entry
each-once targets entry (suc number) = new-distinct (through (wave_of targets entry number)) (flat_map (named_by targets) (wave_of targets entry number).paths) (each-once targets entry number)
