-- The components that the printed text of printable items is made of, each at the place 0 (CSS Syntax 3, sections 5 and 10).
use Rattle.std.specs.Prelude.{List, [], ◌∷◌, ◌++◌, flat_map, Bool, codes, if◌then◌else◌}
use Rattle.css_tokens.specs.declared.kind.Kind.TheVariants as kinds
use Rattle.css_tokens.specs.declared.component.Component.{Component}
use Rattle.css_tokens.specs.ValueAgain.{value_again}
use Rattle.sheet_types.specs.declared.sheet.Declaration.{Declaration}
use Rattle.sheet_types.specs.declared.sheet.GroupCondition.{GroupCondition}
use Rattle.sheet_types.specs.declared.sheet.GroupCondition.TheVariants.{Media, Supports}
use Rattle.sheet_types.specs.declared.sheet.Item.{Item}
use Rattle.sheet_types.specs.declared.sheet.Passed.{Passed}
use Rattle.media_spelling.specs.Spelling.{queries_spelling, supports_spelling}
use Rattle.sheet_types.specs.ItemFold.{Steps, folded}
use Rattle.sheet_types.specs.PassedRules.{keyword_of}
use Rattle.selector_types.specs.Spelling.{single, block, ident, colon, space, list_spelling}

-- a semicolon
abbrev pub semicolon : Component
semicolon = single kinds.Semicolon (codes ";")

-- a line feed, which is white space
abbrev pub line_feed : Component
line_feed = single kinds.White (10 ∷ [])

-- the components of a value, or one space where there are none
abbrev pub value_or_space : List Component → List Component
value_or_space [] = space ∷ []
value_or_space (c ∷ cs) = c ∷ cs

-- `!important`, where the declaration is important
abbrev pub importance_again : Bool → List Component
importance_again important = if important then single kinds.Delim (codes "!") ∷ single kinds.Ident (codes "important") ∷ [] else []

-- the components of a declaration: its name, a colon, its value, and the mark of importance
abbrev pub declaration_again : Declaration → List Component
declaration_again d = ident d.name ∷ colon ∷ value_or_space (value_again d.value) ++ importance_again d.important

-- the components of further declarations, each behind a semicolon
abbrev pub more_again : List Declaration → List Component
more_again ds = flat_map (λ d. semicolon ∷ declaration_again d) ds

-- the components of declarations with semicolons between them
abbrev pub declarations_again : List Declaration → List Component
declarations_again [] = []
declarations_again (d ∷ ds) = declaration_again d ++ more_again ds

-- a `{}` block
abbrev pub braces : List Component → Component
braces inside = block kinds.Open (codes "{") inside

-- what stands before a `{}` block, the block, and a line feed; nothing where nothing is in the block
abbrev pub braced_again : List Component → List Component → List Component
braced_again front [] = []
braced_again front (c ∷ cs) = front ++ braces (c ∷ cs) ∷ line_feed ∷ []

-- declarations, each with a semicolon behind it
abbrev pub ended_again : List Declaration → List Component
ended_again ds = flat_map (λ d. declaration_again d ++ semicolon ∷ []) ds

-- what stands behind an at-keyword: a space and the components, where there are any
abbrev pub behind_keyword_again : List Component → List Component
behind_keyword_again [] = []
behind_keyword_again (c ∷ cs) = space ∷ c ∷ cs

-- the at-keyword of a group, and its condition
abbrev pub condition_again : GroupCondition → List Component
condition_again (Media queries) = single kinds.At (codes "@media") ∷ behind_keyword_again (queries_spelling queries)
condition_again (Supports condition) = single kinds.At (codes "@supports") ∷ behind_keyword_again (supports_spelling condition)

-- a group round these components; nothing where there are none
abbrev pub group_again : GroupCondition → List Component → List Component
group_again condition [] = []
group_again condition (c ∷ cs) = condition_again condition ++ braces (line_feed ∷ c ∷ cs) ∷ line_feed ∷ []

-- a rule that is passed on: its at-keyword, its prelude and its block, and a line feed
abbrev pub passed_again : Passed → List Component
passed_again rule = single kinds.At (codes "@" ++ keyword_of rule.kind) ∷ behind_keyword_again (value_again rule.prelude) ++ braces (value_again rule.block) ∷ line_feed ∷ []

-- the components of an item that is alone in the block of a style rule, and those of it among others
pub record ItemAgain : Type 0 where
  pub alone : List Component
  pub among : List Component

-- the components of items one after another
abbrev pub among_again : List ItemAgain → List Component
among_again items = flat_map (λ (item : ItemAgain). item.among) items

-- the components of what stands in the block of a style rule
abbrev pub block_again : List ItemAgain → List Component
block_again [] = []
block_again (item ∷ []) = item.alone
block_again (first ∷ second ∷ items) = among_again (first ∷ second ∷ items)

-- an item that is spelled alike alone and among others
abbrev pub either_way_again : List Component → ItemAgain
either_way_again cs = record { alone = cs; among = cs }

-- declarations with semicolons between or behind them, a style rule as its selector list and a block of what is in it, a group as its condition and such a block, and a rule that is passed on; no other at-rule is printed
abbrev pub spelling_again : Steps ItemAgain
spelling_again = record {
  plain = λ ds. record { alone = declarations_again ds; among = ended_again ds };
  style = λ selectors at inner. either_way_again (braced_again (list_spelling selectors) (block_again inner));
  group = λ condition at inner. either_way_again (group_again condition (among_again inner));
  passed = λ rule. either_way_again (passed_again rule);
  other = λ at. either_way_again [];
}

-- the components of an item, alone and among others
abbrev pub spelled_item : Item → ItemAgain
spelled_item = folded spelling_again

-- the components of an item among others
abbrev pub item_again : Item → List Component
item_again x = (spelled_item x).among

-- the components of items one after another
abbrev pub items_again : List Item → List Component
items_again items = flat_map item_again items
