-- Rules and sheets for the worked examples.
use Rattle.std.specs.Prelude.{List, [], ◌∷◌}
use Rattle.sheet_types.specs.declared.sheet.Declaration.{Declaration}
use Rattle.sheet_types.specs.declared.sheet.GroupCondition.{GroupCondition}
use Rattle.sheet_types.specs.declared.sheet.Item.{Item}
use Rattle.sheet_types.specs.declared.sheet.Item as item
use Rattle.sheet_types.specs.declared.sheet.Sheet.{Sheet}
use Rattle.sheet_types.specs.declared.sheet.Style as style
use Rattle.selector_types.specs.declared.selector.Selector.{Selector}

-- a rule of these selectors with one run of declarations
abbrev pub rule_of : List Selector → List Declaration → style.Style
rule_of selectors declarations = record { selectors = selectors; items = item.Plain declarations ∷ []; at = 0 }

-- a rule of these selectors with this rule in it
abbrev pub nested_in : List Selector → style.Style → style.Style
nested_in selectors inner = record { selectors = selectors; items = item.Style inner ∷ []; at = 0 }

-- a sheet of this rule alone
abbrev pub sheet_of_rule : style.Style → Sheet
sheet_of_rule rule = record { imports = []; items = item.Style rule ∷ [] }

-- a sheet of this item alone
abbrev pub sheet_of_item : Item → Sheet
sheet_of_item x = record { imports = []; items = x ∷ [] }

-- a sheet of one group, with this condition and these items
abbrev pub sheet_of_group : GroupCondition → List Item → Sheet
sheet_of_group condition items = sheet_of_item (item.Group (record { condition = condition; items = items; at = 0 }))
