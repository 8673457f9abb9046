-- Which finding is named: the first by file, then by offset, then by the number of its code.
use Rattle.std.specs.Prelude.{ℕ, List, Bool, ◌||◌, ◌&&◌, Option, Some, None, if◌then◌else◌, fold, nat_eq, nat_le, nat_lt}
use Rattle.css_places.specs.declared.finding.Code.{Code}
use Rattle.css_places.specs.declared.finding.Code.TheVariants.{Syntax, Depth, LateImport, Missing, Unbuilt, X6, X7, X11, X12, X16, X17, X22}
use Rattle.css_places.specs.declared.finding.Finding.{Finding}
use Rattle.css_places.specs.declared.place.Place.{Place}

-- the number of a code; what a file cannot be loaded for has none
abbrev pub code_number : Code → ℕ
code_number Syntax = 0
code_number Depth = 0
code_number LateImport = 0
code_number Missing = 0
code_number Unbuilt = 0
code_number X6 = 6
code_number X7 = 7
code_number X11 = 11
code_number X12 = 12
code_number X16 = 16
code_number X17 = 17
code_number X22 = 22

-- does the place stand before the other: in an earlier file, or in the same one with fewer bytes before it?
abbrev pub stands_before : Place → Place → Bool
stands_before p q = nat_lt p.file q.file || (nat_eq p.file q.file && nat_lt p.offset q.offset)

-- are they one place?
abbrev pub is_place : Place → Place → Bool
is_place p q = nat_eq p.file q.file && nat_eq p.offset q.offset

-- does the finding come first of two in this order?
abbrev pub leads : Finding → Finding → Bool
leads f g = stands_before f.place g.place || (is_place f.place g.place && nat_le (code_number f.code) (code_number g.code))

-- of what was found so far and one more the one that is named
abbrev pub sooner : Option Finding → Finding → Option Finding
sooner None f = Some f
sooner (Some best) f = if leads best f then Some best else Some f

-- of what was found so far and these the one that is named
abbrev pub first_from : Option Finding → List Finding → Option Finding
first_from best fs = fold sooner best fs

-- of these the one that is named, where there is one
abbrev pub first_finding : List Finding → Option Finding
first_finding fs = first_from None fs
