-- What of a sheet is printed.
use Rattle.std.specs.Prelude.{ℕ, List, [], ◌∷◌, ◌++◌, ◌-◌, Bool, true, false, length, take, nat_eq, codes, if◌then◌else◌}
use Rattle.sheet_types.specs.declared.sheet.GroupCondition.{GroupCondition}
use Rattle.sheet_types.specs.SheetTexts.{condition_text}

-- does a text hold a byte?
abbrev pub holds_bytes : List ℕ → Bool
holds_bytes [] = false
holds_bytes (byte ∷ bytes) = true

-- a text without its last byte, where it has this length
abbrev pub taken_back : ℕ → List ℕ → List ℕ
taken_back count text = if nat_eq (length text) count then take (count - 1) text else text

-- the condition of a group, and its block with what is inside on lines of its own
abbrev pub braced_group : GroupCondition → List ℕ → List ℕ
braced_group condition inside = condition_text condition ++ (codes "{" ++ (10 ∷ inside ++ (codes "}" ++ 10 ∷ [])))

-- a block and a line feed
abbrev pub braced_line : List ℕ → List ℕ
braced_line inside = codes "{" ++ (inside ++ (codes "}" ++ 10 ∷ []))
