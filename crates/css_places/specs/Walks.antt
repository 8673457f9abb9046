-- Where components lead, one after another (this project's own, after the URL Standard, section 4.4).
use Rattle.std.specs.Prelude.{ℕ, List, [], ◌∷◌, ◌++◌, ◌≡◌, Bool, true, ◌||◌, codes, Option, Some, None, if◌then◌else◌}
use Rattle.std.specs.Option.{option_map, option_and_then}
use Rattle.css_tokens.specs.Trees.{is_text}
use Rattle.css_places.specs.declared.fault.PathFault.{PathFault}
use Rattle.css_places.specs.declared.fault.PathFault.TheVariants.{AboveRoot, Memory}
use Rattle.css_places.specs.Parts.{components_of, parts_of}
use Rattle.css_places.specs.declared.walk.Above.{Above}
use Rattle.css_places.specs.declared.walk.Above.TheVariants.{Refused, Kept}

-- without the last, where there is one
abbrev pub without_last : List (List ℕ) → Option (List (List ℕ))
without_last [] = None
without_last (component ∷ []) = Some []
without_last (component ∷ next ∷ components) = option_map (λ more. component ∷ more) (without_last (next ∷ components))

-- do these components lead above their root: is there none, or is `..` the last?
abbrev pub leads_above : List (List ℕ) → Bool
leads_above [] = true
leads_above (component ∷ []) = is_text component (codes "..")
leads_above (component ∷ next ∷ components) = leads_above (next ∷ components)

-- One folder up. Where that leads above the root, the step is refused, or kept as `..`.
abbrev pub up : Above → List (List ℕ) → Option (List (List ℕ))
up Refused kept = without_last kept
up Kept kept = if leads_above kept then Some (kept ++ codes ".." ∷ []) else without_last kept

-- One component further: an empty one and `.` lead nowhere, and `..` leads one folder up.
abbrev pub step : Above → List (List ℕ) → List ℕ → Option (List (List ℕ))
step above kept component =
    if is_text component [] || is_text component (codes ".") then Some kept
    else (if is_text component (codes "..") then up above kept else Some (kept ++ component ∷ []))

-- where components lead from there
abbrev pub walk : Above → List (List ℕ) → List (List ℕ) → Option (List (List ℕ))
walk above kept [] = Some kept
walk above kept (component ∷ components) = option_and_then (λ more. walk above more components) (step above kept component)

-- where a path leads, seen from the folder of the file `from`
abbrev pub reached : Above → List ℕ → List ℕ → Option (List (List ℕ))
reached above from path = walk above [] ((parts_of from).folders ++ components_of path)

-- A refusal for want of memory may come at any time. Another one says that the components lead above the root.
abbrev pub FaultIs : {A : Type 0} → PathFault → Option A → Type 0
FaultIs AboveRoot reached = reached ≡ None
FaultIs Memory reached = Unit {0}
FaultIs fault reached = ⊥
