-- The file that a path names, seen from another file.
use Rattle.std.specs.Prelude.{ℕ, List, [], ◌∷◌, ◌++◌, Bool, false, ◌||◌, ◌&&◌, codes, Option, Some, None, Result, Ok, Err, if◌then◌else◌}
use Rattle.css_tokens.specs.Trees.{is_text}
use Rattle.css_places.specs.declared.fault.PathFault.{PathFault}
use Rattle.css_places.specs.declared.fault.PathFault.TheVariants.{Remote, Absolute, AboveRoot, Empty}
use Rattle.css_places.specs.declared.walk.Above.TheVariants.{Refused}
use Rattle.css_places.specs.Parts.{parts_of, path_of}
use Rattle.css_places.specs.Schemes.{begins_with, has_scheme}
use Rattle.css_places.specs.Walks.{reached}

-- the path of the file to which the components lead
abbrev pub file_at : Option (List (List ℕ)) → Result (List ℕ) PathFault
file_at None = Err AboveRoot
file_at (Some []) = Err Empty
file_at (Some (component ∷ components)) = Ok (path_of (component ∷ components))

-- does it begin with two slashes?
abbrev pub begins_twice : List ℕ → Bool
begins_twice [] = false
begins_twice (c ∷ text) = begins_with 47 (c ∷ text) && begins_with 47 text

-- does the name lead to a folder?
abbrev pub is_folder : List ℕ → Bool
is_folder name = is_text name [] || (is_text name (codes ".") || is_text name (codes ".."))

-- The path of the file that the target names, seen from the folder of the file `from`: what it is refused for comes in this order.
abbrev pub resolution : List ℕ → List ℕ → Result (List ℕ) PathFault
resolution from target =
    if is_text target [] then Err Empty
    else (if begins_twice target || has_scheme target then Err Remote
    else (if begins_with 47 target then Err Absolute
    else (if is_folder (parts_of target).name then Err Empty
    else file_at (reached Refused from target))))
