-- What each kind of item becomes, and groups one inside the other from the innermost.
use Rattle.std.proofs.Common.{◌≡◌, ℕ, List, [], ◌∷◌, ◌++◌, refl, ap}
use Rattle.media_spelling.specs.declared.condition.Query.{Query}
use Rattle.sheet_types.specs.declared.sheet.Item.{Item}
use Rattle.media_lower.specs.MediaItems.{in_group, in_groups, lowered-Plain, lowered-Style, lowered-Group, lowered-Passed, lowered-Other}

pub in_groups-last : (at : ℕ) (lists : List (List Query)) (list : List Query) (items : List Item) → in_groups at (lists ++ list ∷ []) items ≡ in_groups at lists (in_group at list items)
in_groups-last at [] list items = refl
in_groups-last at (first ∷ lists) list items = ap (in_group at first) (in_groups-last at lists list items)

pub ruleset last_group = (in_groups-last)

pub ruleset lowered_cases = (lowered-Plain, lowered-Style, lowered-Group, lowered-Passed, lowered-Other)
