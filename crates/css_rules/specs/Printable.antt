-- Which items print as a text that reads as them again (CSS Syntax 3, section 10).
use Rattle.std.specs.Prelude.{List, [], ◌∷◌, Bool, true, false, not, ◌≡◌}
use Rattle.std.specs.List.{list_all, list_any, AllByRecursion}
use Rattle.css_tokens.specs.declared.component.Component.{Component}
use Rattle.css_tokens.specs.Trees.{all_formed, words_all}
use Rattle.css_tokens.specs.Names.{is_name}
use Rattle.sheet_types.specs.declared.sheet.Declaration.{Declaration}
use Rattle.sheet_types.specs.declared.sheet.Item.{Item}
use Rattle.selector_types.specs.declared.selector.Selector.{Selector}
use Rattle.selector_types.specs.ReadableSelectors.{is_readable_list, is_spelled, is_writable_list}
use Rattle.selector_types.specs.Spelling.{list_spelling}
use Rattle.media_spelling.specs.declared.condition.Query.{Query}
use Rattle.media_tree.specs.ReadableQueries.{are_readable_queries}
use Rattle.media_tree.specs.ReadValues.{ValuesStand}
use Rattle.media_tree.specs.SupportsAgain.{is_readable_supports}
use Rattle.css_rules.specs.declared.refusal.Sought.TheVariants.{RevertLayerOrUrl}
use Rattle.css_rules.specs.AtRules.{fits_prelude}
use Rattle.css_components.specs.Components.{is_bang, is_braces, is_semicolon, is_custom, is_gap}
use Rattle.css_rules.specs.Declarations.{property_name, may_be_value}
use Rattle.media_spelling.specs.SupportsAgain.{has_no_function}
use Rattle.sheet_types.specs.declared.sheet.GroupCondition.{GroupCondition}
use Rattle.sheet_types.specs.declared.sheet.GroupCondition.TheVariants.{Media, Supports}
use Rattle.sheet_types.specs.Leaves.{Leaf, OfDeclaration, OfList, OfCondition, OfPassed, IsTop, all_leaves}
use Rattle.css_rules.specs.Refusals.{has_sought, has_waiting}
use Rattle.css_rules.specs.Sheets.{is_unbuilt}
use Rattle.sheet_types.specs.declared.sheet.Passed.{Passed}
use Rattle.sheet_types.specs.declared.sheet.Sheet.{Sheet}

-- does neither white space nor a comment stand in front?
abbrev pub begins_solid : List Component → Bool
begins_solid [] = true
begins_solid (c ∷ cs) = not (is_gap c)

-- a declaration whose text reads as it again: no later stage rewrites it, it has a name, and its value fits it, of tokens that spell their kinds, without white space or a comment in front and without a `!` or a `;`
pub record IsPrintableDeclaration (d : Declaration) : Type 0 where
  pub name : is_name d.name ≡ true
  pub property : property_name d.name ≡ d.name
  pub built : is_unbuilt d ≡ false
  pub fits : may_be_value (is_custom d.name) d.value ≡ true
  pub begun : begins_solid d.value ≡ true
  pub bangless : list_any is_bang d.value ≡ false
  pub undivided : list_any is_semicolon d.value ≡ false
  pub formed : all_formed d.value ≡ true
  pub spelled : list_all is_spelled (words_all d.value) ≡ true

-- a selector list whose spelling reads as it again: it has one, in which nothing waits for a later stage
pub record IsPrintableList (list : List Selector) : Type 0 where
  pub readable : is_readable_list false list ≡ true
  pub built : has_waiting (list_spelling list) ≡ false

-- a media query list whose spelling reads as it again: it has one, and each value in it stands as one
pub record AreReadQueries (queries : List Query) : Type 0 where
  pub readable : are_readable_queries queries ≡ true
  pub values : ValuesStand queries

-- a condition whose spelling reads as it again
abbrev pub IsPrintableCondition : GroupCondition → Type 0
IsPrintableCondition (Media queries) = AreReadQueries queries
IsPrintableCondition (Supports condition) = is_readable_supports condition ≡ true

-- components that may stand in a rule that is passed on: no later stage rewrites a token of them, and their tokens spell their kinds
pub record ArePassedOn (cs : List Component) : Type 0 where
  pub built : has_sought RevertLayerOrUrl cs ≡ false
  pub formed : all_formed cs ≡ true
  pub spelled : list_all is_spelled (words_all cs) ≡ true

-- a rule that is passed on and reads as it again: its prelude fits its kind, and no block or `;` ends it
pub record IsPrintablePassed (rule : Passed) : Type 0 where
  pub fits : fits_prelude rule.kind rule.prelude ≡ true
  pub whole : list_any is_braces rule.prelude ≡ false
  pub undivided : list_any is_semicolon rule.prelude ≡ false
  pub prelude : ArePassedOn rule.prelude
  pub block : ArePassedOn rule.block

-- what items are made of, where it reads as it again
abbrev pub IsPrintableLeaf : Leaf → Type 0
IsPrintableLeaf (OfDeclaration d) = IsPrintableDeclaration d
IsPrintableLeaf (OfList list) = IsPrintableList list
IsPrintableLeaf (OfCondition condition) = IsPrintableCondition condition
IsPrintableLeaf (OfPassed rule) = IsPrintablePassed rule

-- items that read as they again: each may stand at the top of a sheet, and all that is printed of them reads as it again
pub record ArePrintable (items : List Item) : Type 0 where
  pub tops : AllByRecursion IsTop items
  pub fine : AllByRecursion IsPrintableLeaf (all_leaves items)

-- Is all kept of a condition? Of a function in a supports condition only its place is.
abbrev pub is_whole_condition : GroupCondition → Bool
is_whole_condition (Media queries) = true
is_whole_condition (Supports condition) = has_no_function condition

-- Is all kept of what an item is made of? Of a foreign function in a selector nothing is, and of the flag of an attribute selector only that it is there.
abbrev pub is_whole : Leaf → Bool
is_whole (OfDeclaration d) = true
is_whole (OfList list) = is_writable_list list
is_whole (OfCondition condition) = is_whole_condition condition
is_whole (OfPassed rule) = true

-- is all kept of each selector list and each condition of a sheet that is printed?
abbrev pub all_whole : Sheet → Bool
all_whole sheet = list_all is_whole (all_leaves sheet.items)
