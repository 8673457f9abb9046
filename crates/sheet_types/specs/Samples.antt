-- Declarations and items that are written out, for the worked examples.
use Prim.Native.String.{String}
use Rattle.std.specs.Prelude.{ℕ, List, [], ◌∷◌, true, false, codes}
use Rattle.css_tokens.specs.declared.kind.Kind.TheVariants as kinds
use Rattle.css_tokens.specs.declared.component.Component.{Component}
use Rattle.css_tokens.specs.declared.component.Component as components
use Rattle.selector_types.specs.declared.selector.Selector.{Selector}
use Rattle.selector_types.specs.Samples.{one_at, typed}
use Rattle.sheet_types.specs.declared.sheet.Declaration.{Declaration}
use Rattle.sheet_types.specs.declared.sheet.GroupCondition.{GroupCondition}
use Rattle.sheet_types.specs.declared.sheet.Item.{Item, Style, Plain, Group}
use Rattle.sheet_types.specs.declared.sheet.Passed.{Passed}
use Rattle.sheet_types.specs.declared.sheet.PassedKind.{PassedKind}

-- Selectors.

-- a selector at this place that is a type name alone
abbrev pub type_at : ℕ → String → Selector
type_at at name = one_at at (typed name [])

-- Declarations.

-- a declaration at this place that is not important
abbrev pub unmarked : ℕ → String → List Component → Declaration
unmarked at name value = record { name = codes name; value = value; important = false; at = at }

-- a declaration at this place that is important
abbrev pub marked : ℕ → String → List Component → Declaration
marked at name value = record { name = codes name; value = value; important = true; at = at }

-- Items with each place at 0.

-- a declaration whose value is one Ident and that is not important
abbrev pub plain : String → String → Declaration
plain name value = unmarked 0 name (components.Single (record { kind = kinds.Ident; text = codes value; at = 0 }) ∷ [])

-- a style rule with this selector list and these declarations
abbrev pub rule : List Selector → List Declaration → Item
rule list ds = Style (record { selectors = list; items = Plain ds ∷ []; at = 0 })

-- a style rule with this selector list and nothing in it
abbrev pub empty_rule : List Selector → Item
empty_rule list = Style (record { selectors = list; items = []; at = 0 })

-- a group with this condition and these items
abbrev pub group : GroupCondition → List Item → Item
group condition items = Group (record { condition = condition; items = items; at = 0 })

-- a rule of this kind that is passed on, with this prelude and this block
abbrev pub passed : PassedKind → List Component → List Component → Passed
passed kind prelude block = record { kind = kind; prelude = prelude; block = block; at = 0 }
