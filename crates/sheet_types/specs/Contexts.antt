-- What stands round a declaration (CSS Nesting 1, section 2; CSS Cascading 5, section 6.4; Conditional Rules 3, section 2).
use Rattle.std.specs.Prelude.{List, [], ◌∷◌, ◌++◌}
use Rattle.sheet_types.specs.declared.sheet.GroupCondition.{GroupCondition}
use Rattle.sheet_types.specs.declared.sheet.LayerName.{LayerName}
use Rattle.selector_types.specs.declared.selector.Selector.{Selector}

-- a layer: its name behind those of the layers round it, the outermost first; an empty path is no layer
abbrev pub LayerPath : Type 0
LayerPath = List LayerName

-- the layer, and outermost first the selector lists of the enclosing style rules with their places at 0, and the bare conditions of the enclosing groups
pub record Context : Type 0 where
  pub layer : LayerPath
  pub chain : List (List Selector)
  pub conditions : List GroupCondition

-- the top of a sheet
abbrev pub outside : Context
outside = record { layer = []; chain = []; conditions = [] }

-- inside one more style rule
abbrev pub under_list : List Selector → Context → Context
under_list list c = record { layer = c.layer; chain = c.chain ++ list ∷ []; conditions = c.conditions }

-- inside one more group
abbrev pub under_condition : GroupCondition → Context → Context
under_condition condition c = record { layer = c.layer; chain = c.chain; conditions = c.conditions ++ condition ∷ [] }
