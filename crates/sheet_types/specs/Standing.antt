-- Values as they stand in a text (CSS Syntax 3, section 4).
use Rattle.std.specs.Prelude.{List}
use Rattle.std.specs.List.{AllByRecursion}
use Rattle.media_spelling.specs.SupportsValues.{DeclaredValuesStand, ValueStands}
use Rattle.sheet_types.specs.declared.sheet.Declaration.{Declaration}
use Rattle.sheet_types.specs.declared.sheet.GroupCondition.{GroupCondition}
use Rattle.sheet_types.specs.declared.sheet.GroupCondition.TheVariants.{Media, Supports}
use Rattle.sheet_types.specs.declared.sheet.Item.{Item}
use Rattle.sheet_types.specs.Leaves.{Leaf, OfDeclaration, OfList, OfCondition, OfPassed, all_leaves}

-- the value of the declaration stands so
abbrev pub Stands : Declaration → Type 0
Stands d = ValueStands d.value

-- each value that the condition asks for stands so
abbrev pub ConditionStands : GroupCondition → Type 0
ConditionStands (Media queries) = Unit {0}
ConditionStands (Supports condition) = DeclaredValuesStand condition

-- so do the values of what items are made of, and the prelude and the block of a rule that is passed on
abbrev pub LeafStands : Leaf → Type 0
LeafStands (OfDeclaration d) = Stands d
LeafStands (OfList list) = Unit {0}
LeafStands (OfCondition condition) = ConditionStands condition
LeafStands (OfPassed rule) = ValueStands rule.prelude × ValueStands rule.block

-- each value in these items stands so
abbrev pub AllStand : List Item → Type 0
AllStand items = AllByRecursion LeafStands (all_leaves items)
