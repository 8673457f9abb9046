-- Groups and rules for the worked examples.
use Prim.Native.String.{String}
use Rattle.std.specs.Prelude.{ℕ, List, [], ◌∷◌}
use Rattle.media_spelling.specs.declared.condition.Query.{Query}
use Rattle.sheet_types.specs.declared.sheet.GroupCondition.TheVariants.{Media}
use Rattle.sheet_types.specs.declared.sheet.Item.{Item, Group}
use Rattle.sheet_types.specs.Samples.{plain, rule, type_at}

-- the rule `p{color:VALUE}`
abbrev pub paragraph : String → Item
paragraph value = rule (type_at 0 "p" ∷ []) (plain "color" value ∷ [])

-- a group at this place with this media list and these items
abbrev pub media_at : ℕ → List Query → List Item → Item
media_at at list items = Group (record { condition = Media list; items = items; at = at })
