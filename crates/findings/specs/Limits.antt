-- The limit of a sheet's media query lists, and what is answered of a sheet (this project's own).
use Rattle.std.specs.Prelude.{ℕ, List, [], ◌∷◌, ◌++◌, flat_map, ◌≡◌, Bool, Option, Some, None, if◌then◌else◌, length, nat_lt}
use Rattle.std.specs.List.{list_all, list_any}
use Rattle.std.proofs.Common.{◌∙◌, ap}
use Rattle.std.proofs.lemmas.List.Folds.{flat_map-map}
use Rattle.media_spelling.specs.declared.condition.Query.{Query}
use Rattle.media_clauses.specs.Clauses.{clauses}
use Rattle.media_clauses.specs.Lowered.{is_plain}
use Rattle.sheet_types.specs.declared.sheet.Declaration.{Declaration}
use Rattle.sheet_types.specs.declared.sheet.Group as group
use Rattle.sheet_types.specs.declared.sheet.GroupCondition.{GroupCondition}
use Rattle.sheet_types.specs.declared.sheet.GroupCondition.TheVariants.{Media, Supports}
use Rattle.sheet_types.specs.declared.sheet.Item.{Item}
use Rattle.sheet_types.specs.declared.sheet.Item as item
use Rattle.sheet_types.specs.declared.sheet.Passed.{Passed}
use Rattle.sheet_types.specs.declared.sheet.Sheet.{Sheet}
use Rattle.sheet_types.specs.declared.sheet.Style as style
use Rattle.sheet_types.specs.ItemFold.{Steps, folded, folded-Plain, folded-Style, folded-Group, folded-Passed, folded-Other}
use Rattle.css_places.specs.declared.finding.Finding.{Finding as Found}
use Rattle.css_places.specs.declared.finding.LimitKind.{LimitKind}
use Rattle.css_places.specs.declared.finding.LimitKind.TheVariants.{L8}
use Rattle.findings.specs.Constructs.{sheet_findings}
use Rattle.findings.specs.Firsts.{first_finding}
use Rattle.findings.specs.declared.fault.CheckFault.{CheckFault}
use Rattle.findings.specs.declared.fault.CheckFault.TheVariants.{Finding, Limit}

-- how many clauses a media query list is told by; an empty list, and one of plain queries, is told without clauses
abbrev pub count_of : List Query → ℕ
count_of qs = if list_all is_plain qs then 0 else length (clauses qs)

-- has it more than 64?
abbrev pub is_long : List Query → Bool
is_long qs = nat_lt 64 (count_of qs)

-- the media query list of a group, where it has one
abbrev pub lists_of : GroupCondition → List (List Query)
lists_of (Media qs) = qs ∷ []
lists_of (Supports condition) = []

-- the lists of groups, each before those of the groups in it
abbrev pub listing : Steps (List (List Query))
listing = record {
  plain = λ declarations. [];
  style = λ selectors at inner. flat_map (λ (lists : List (List Query)). lists) inner;
  group = λ condition at inner. lists_of condition ++ flat_map (λ (lists : List (List Query)). lists) inner;
  passed = λ rule. [];
  other = λ at. [];
}

-- the media query lists in an item, at any depth
abbrev pub item_lists : Item → List (List Query)
item_lists = folded listing

-- those in items, one after another
abbrev pub items_lists : List Item → List (List Query)
items_lists items = flat_map item_lists items

-- the limit that a sheet passes: one of its media query lists has more than 64 clauses (L8)
abbrev pub sheet_limit : Sheet → Option LimitKind
sheet_limit sheet = if list_any is_long (items_lists sheet.items) then Some L8 else None

-- a finding, or else a limit, as an answer
abbrev pub fault_of : Option Found → Option LimitKind → Option CheckFault
fault_of (Some finding) limit = Some (Finding finding)
fault_of None (Some limit) = Some (Limit limit)
fault_of None None = None

-- what is answered of a sheet, which is file 0: the finding that is named, or, where none stands, the limit that it passes
abbrev pub first_fault : Sheet → Option CheckFault
first_fault sheet = fault_of (first_finding (sheet_findings 0 sheet)) (sheet_limit sheet)

-- Equations.

pub lists-Plain : (ds : List Declaration) → item_lists (item.Plain ds) ≡ []
lists-Plain ds = folded-Plain listing ds

pub lists-Style : (s : style.Style) → item_lists (item.Style s) ≡ items_lists s.items
lists-Style s = folded-Style listing s ∙ flat_map-map (λ (lists : List (List Query)). lists) item_lists s.items

pub lists-Group : (g : group.Group) → item_lists (item.Group g) ≡ lists_of g.condition ++ items_lists g.items
lists-Group g = folded-Group listing g ∙ ap (λ lists. lists_of g.condition ++ lists) (flat_map-map (λ (lists : List (List Query)). lists) item_lists g.items)

pub lists-Passed : (rule : Passed) → item_lists (item.Passed rule) ≡ []
lists-Passed rule = folded-Passed listing rule

pub lists-Other : (at : ℕ) → item_lists (item.Other at) ≡ []
lists-Other at = folded-Other listing at
