-- Items as they are read: no style rule is nested, and nothing waits for a later stage (CSS Syntax 3, section 9).
use Rattle.std.specs.Prelude.{List, [], ◌∷◌, Bool, true, false, not, ◌&&◌, is_none}
use Rattle.std.specs.List.{list_all}
use Rattle.selector_types.specs.LoneSimples.{Opened}
use Rattle.selector_types.specs.PartsWithin.{list_parts}
use Rattle.selector_types.specs.declared.selector.Link.TheOpen.{Class, Id, Attribute, Pseudo, Not, Is, Where, Parent, Local, Global, Foreign}
use Rattle.selector_types.specs.declared.selector.Part as part
use Rattle.selector_types.specs.declared.selector.Selector.{Selector}
use Rattle.selector_types.specs.declared.selector.Simple.{Simple}
use Rattle.selector_types.specs.declared.selector.Simple as simple
use Rattle.css_rules.specs.Sheets.{is_unbuilt}
use Rattle.media_tree.specs.ReadableQueries.{are_readable_queries}
use Rattle.sheet_types.specs.ItemFold.{Steps, folded}
use Rattle.sheet_types.specs.declared.sheet.GroupCondition.{GroupCondition}
use Rattle.sheet_types.specs.declared.sheet.GroupCondition.TheVariants.{Media, Supports}
use Rattle.sheet_types.specs.declared.sheet.Declaration.{Declaration}
use Rattle.sheet_types.specs.declared.sheet.Item.{Item}

-- Does it wait for a later stage: is it `&` (CSS Nesting 1, section 3) or `:is(..)` (Selectors 4, section 4.2)?
abbrev pub opens_waiting : Opened → Bool
opens_waiting Parent = true
opens_waiting (Is ss) = true
opens_waiting (Class name) = false
opens_waiting (Id name) = false
opens_waiting (Attribute a) = false
opens_waiting (Pseudo text) = false
opens_waiting (Not ss) = false
opens_waiting (Where ss) = false
opens_waiting (Local k) = false
opens_waiting (Global k) = false
opens_waiting Foreign = false

-- the same of a simple selector
abbrev pub is_waiting : Simple → Bool
is_waiting x = opens_waiting (simple.out-Simple x)

-- the same of a part
abbrev pub is_waiting_part : part.Part → Bool
is_waiting_part (part.Placed x at) = is_waiting x

-- does none of the parts wait?
abbrev pub none_waits : List part.Part → Bool
none_waits ps = list_all (λ p. not (is_waiting_part p)) ps

-- does no combinator lead the selector?
abbrev pub is_unled : Selector → Bool
is_unled s = is_none s.lead

-- the declarations are built: no later stage rewrites one of them
abbrev pub are_built : List Declaration → Bool
are_built ds = list_all (λ d. not (is_unbuilt d)) ds

-- a media query list with a spelling that reads as it again, or any supports condition
abbrev pub is_plain_condition : GroupCondition → Bool
is_plain_condition (Media queries) = are_readable_queries queries
is_plain_condition (Supports condition) = true

-- Is an item as it is read: in the block of a style rule, and at the top of a sheet or of a group?
pub record Plain : Type 0 where
  pub within : Bool
  pub top : Bool

-- is there nothing, or one item that is as it is read in the block of a style rule?
abbrev pub is_one_run : List Plain → Bool
is_one_run [] = true
is_one_run (item ∷ []) = item.within
is_one_run (first ∷ second ∷ items) = false

-- The block of a style rule is one run of declarations, none of which a later stage rewrites, or it is empty. No combinator leads a selector of the rule, and none holds `&` or `:is(..)` at any depth. Each item of a group is as at the top of a sheet.
abbrev pub plainness : Steps Plain
plainness = record {
  plain = λ ds. record { within = are_built ds; top = false };
  style = λ selectors at inner. record { within = false; top = list_all is_unled selectors && (none_waits (list_parts selectors) && is_one_run inner) };
  group = λ condition at inner. record { within = false; top = is_plain_condition condition && list_all (λ (item : Plain). item.top) inner };
  passed = λ rule. record { within = false; top = true };
  other = λ at. record { within = false; top = true };
}

-- an item of a sheet that is read
abbrev pub is_plain_item : Item → Bool
is_plain_item x = (folded plainness x).top

-- an item of the block of a style rule that is read
abbrev pub is_plain_run : Item → Bool
is_plain_run x = (folded plainness x).within
