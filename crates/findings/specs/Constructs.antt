-- The constructs that cannot be expressed for older browsers: where each stands, and its code. A part of a selector has at
-- most one.
use Rattle.std.specs.Prelude.{ℕ, List, [], ◌∷◌, ◌++◌, ◌≡◌, map, flat_map, Option, Some, None, if◌then◌else◌}
use Rattle.std.proofs.Common.{◌∙◌, ap}
use Rattle.std.proofs.lemmas.List.Folds.{flat_map-map}
use Rattle.std.specs.List.{filter_map}
use Rattle.std.specs.Option.{option_map}
use Rattle.selector_types.specs.declared.selector.Simple.{Simple}
use Rattle.selector_types.specs.declared.selector.Simple as simple
use Rattle.selector_types.specs.declared.selector.Part as part
use Rattle.selector_types.specs.declared.selector.Selector as selector
use Rattle.selector_types.specs.declared.selector.Link.TheOpen.{Class, Id, Attribute, Pseudo, Not, Is, Where, Parent, Local, Global, Foreign}
use Rattle.selector_types.specs.LoneSimples.{Opened, is_one_scopable}
use Rattle.selector_types.specs.PartsWithin.{list_parts}
use Rattle.sheet_types.specs.declared.sheet.Declaration.{Declaration}
use Rattle.sheet_types.specs.declared.sheet.Import.{Import}
use Rattle.sheet_types.specs.declared.sheet.Item.{Item}
use Rattle.sheet_types.specs.declared.sheet.Item as item
use Rattle.sheet_types.specs.declared.sheet.Group as group
use Rattle.sheet_types.specs.declared.sheet.GroupCondition.{GroupCondition}
use Rattle.sheet_types.specs.declared.sheet.GroupCondition.TheVariants.{Media, Supports}
use Rattle.sheet_types.specs.declared.sheet.Passed.{Passed}
use Rattle.sheet_types.specs.declared.sheet.Style as style
use Rattle.sheet_types.specs.declared.sheet.Sheet.{Sheet}
use Rattle.sheet_types.specs.ItemFold.{Steps, folded, folded-Plain, folded-Style, folded-Group, folded-Passed, folded-Other}
use Rattle.css_places.specs.declared.finding.Code.{Code}
use Rattle.css_places.specs.declared.finding.Code.TheVariants.{Unbuilt, X6, X7, X11, X12, X16, X22}
use Rattle.css_places.specs.declared.finding.Finding.{Finding}
use Rattle.findings.specs.Found.{found_at}
use Rattle.findings.specs.MediaFeatures.{asks_young}
use Rattle.findings.specs.SupportsFunctions.{supports_findings}

-- `:where` (X6), `:not` of other than one simple selector (X7), a functional pseudo-class or pseudo-element of no known name,
-- `:local` and `:global` outside of files with scoped names (X11), an attribute selector with a flag (X22)
abbrev pub code_opened : Opened → Option Code
code_opened (Where ss) = Some X6
code_opened (Not ss) = if is_one_scopable ss then None else Some X7
code_opened (Local k) = Some X11
code_opened (Global k) = Some X11
code_opened Foreign = Some X11
code_opened (Attribute a) = if a.flag then Some X22 else None
code_opened (Class name) = None
code_opened (Id name) = None
code_opened (Pseudo text) = None
code_opened (Is ss) = None
code_opened Parent = None

-- the code of a simple selector that cannot be expressed
abbrev pub code_of : Simple → Option Code
code_of x = code_opened (simple.out-Simple x)

-- what stands at a part of a selector of this file
abbrev pub part_finding : ℕ → part.Part → Option Finding
part_finding file (part.Placed x at) = option_map (found_at file at) (code_of x)

-- what stands in parts of selectors of this file
abbrev pub part_findings : ℕ → List part.Part → List Finding
part_findings file parts = filter_map (part_finding file) parts

-- what stands in a selector list of this file
abbrev pub list_findings : ℕ → List selector.Selector → List Finding
list_findings file ss = part_findings file (list_parts ss)

-- what stands in the condition of a group whose at-keyword stands at this place of this file: where a media feature that older browsers do not know stands under a `not`, X16 at the at-keyword; and each function of a supports condition
abbrev pub condition_findings : ℕ → ℕ → GroupCondition → List Finding
condition_findings file at (Media list) = if asks_young list then found_at file at X16 ∷ [] else []
condition_findings file at (Supports condition) = supports_findings file condition

-- what stands in each kind of item: what stands in the list of a style rule or in the condition of a group, before what stands in the items in it; and an at-rule of another name (X12)
abbrev pub finding : ℕ → Steps (List Finding)
finding file = record {
  plain = λ declarations. [];
  style = λ selectors at inner. list_findings file selectors ++ flat_map (λ (found : List Finding). found) inner;
  group = λ condition at inner. condition_findings file at condition ++ flat_map (λ (found : List Finding). found) inner;
  passed = λ rule. [];
  other = λ at. found_at file at X12 ∷ [];
}

-- what stands in an item of this file
abbrev pub item_findings : ℕ → Item → List Finding
item_findings file = folded (finding file)

-- what stands in items of this file, one after another
abbrev pub items_findings : ℕ → List Item → List Finding
items_findings file items = flat_map (item_findings file) items

-- what stands in the imports of this file: they are not built yet
abbrev pub imports_findings : ℕ → List Import → List Finding
imports_findings file imports = map (λ i. found_at file i.at Unbuilt) imports

-- what stands in a sheet, which is this file
abbrev pub sheet_findings : ℕ → Sheet → List Finding
sheet_findings file sheet = imports_findings file sheet.imports ++ items_findings file sheet.items

-- Equations.

pub found-Plain : (file : ℕ) (ds : List Declaration) → item_findings file (item.Plain ds) ≡ []
found-Plain file ds = folded-Plain (finding file) ds

pub found-Style : (file : ℕ) (s : style.Style) → item_findings file (item.Style s) ≡ list_findings file s.selectors ++ items_findings file s.items
found-Style file s = folded-Style (finding file) s ∙ ap (λ found. list_findings file s.selectors ++ found) (flat_map-map (λ (found : List Finding). found) (item_findings file) s.items)

pub found-Group : (file : ℕ) (g : group.Group) → item_findings file (item.Group g) ≡ condition_findings file g.at g.condition ++ items_findings file g.items
found-Group file g = folded-Group (finding file) g ∙ ap (λ found. condition_findings file g.at g.condition ++ found) (flat_map-map (λ (found : List Finding). found) (item_findings file) g.items)

pub found-Passed : (file : ℕ) (rule : Passed) → item_findings file (item.Passed rule) ≡ []
found-Passed file rule = folded-Passed (finding file) rule

pub found-Other : (file at : ℕ) → item_findings file (item.Other at) ≡ found_at file at X12 ∷ []
found-Other file at = folded-Other (finding file) at
