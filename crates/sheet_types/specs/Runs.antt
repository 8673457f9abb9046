-- Runs of declarations (CSS Nesting 1, section 2).
use Rattle.std.specs.Prelude.{List, [], ◌∷◌}
use Rattle.sheet_types.specs.declared.sheet.Declaration.{Declaration}
use Rattle.sheet_types.specs.declared.sheet.Item.{Item, Plain}

-- a run of declarations, where there is any
abbrev pub run_of : List Declaration → List Item
run_of [] = []
run_of (d ∷ ds) = Plain (d ∷ ds) ∷ []
