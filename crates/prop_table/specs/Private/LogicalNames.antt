-- Logical properties, each by what of a box it sets and where.
use Rattle.std.specs.Prelude.{Bool, ◌||◌}
use Rattle.std.specs.Prelude.{ℕ, List, [], ◌∷◌, ◌++◌, map, codes}
use Rattle.std.specs.List.{zip}
use Rattle.css_tokens.specs.declared.component.Component.{Component}
use Rattle.css_tokens.specs.Trees.{is_text}
use Rattle.prop_table.specs.LogicalProperties.{border_of}
use Rattle.prop_table.specs.PhysicalProperties.{block_ends, corner, declares, four_shares, is_mixed, ltr_ends, parts_of, radius, side_at, side_of, size_of, two_shares}
use Rattle.std.specs.Prelude.{if◌then◌else◌}
use Rattle.prop_table.specs.declared.declarations.Physical.{Physical}
use Rattle.prop_table.specs.declared.mode.Direction.{Direction}
use Rattle.prop_table.specs.declared.mode.Direction.TheVariants.{Ltr, Rtl}
use Rattle.prop_table.specs.declared.mode.Mode.{Mode}
use Rattle.prop_table.specs.declared.mode.Writing.{Writing}
use Rattle.prop_table.specs.declared.mode.Writing.TheVariants.{HorizontalTb, VerticalRl, VerticalLr}
use Rattle.prop_table.specs.declared.property.Axis.{Axis}
use Rattle.prop_table.specs.declared.property.Axis.TheVariants as axis
use Rattle.prop_table.specs.declared.property.Edge.{Edge}
use Rattle.prop_table.specs.declared.property.Edge.TheVariants.{Start, End}
use Rattle.prop_table.specs.declared.property.Extent.{Extent}
use Rattle.prop_table.specs.declared.property.Extent.TheVariants.{Whole, Least, Greatest}
use Rattle.prop_table.specs.declared.property.Logical.{Logical}
use Rattle.prop_table.specs.declared.property.Logical.TheVariants.{OfSide, OfAxis, Corner, Size, AllSides}
use Rattle.prop_table.specs.declared.property.Part.{Part}
use Rattle.prop_table.specs.declared.property.Part.TheVariants.{Margin, Inset, Padding, BorderWidth, BorderStyle, BorderColor, Border}
use Rattle.prop_table.specs.declared.property.Side.{Side}
use Rattle.prop_table.specs.declared.property.Side.TheVariants.{Top, Right, Bottom, Left}

-- an axis
abbrev pub axis_name : Axis → List ℕ
axis_name axis.Block = codes "block"
axis_name axis.Inline = codes "inline"

-- an end of an axis
abbrev pub edge_name : Edge → List ℕ
edge_name Start = codes "start"
edge_name End = codes "end"

-- a physical side
abbrev pub side_name : Side → List ℕ
side_name Top = codes "top"
side_name Right = codes "right"
side_name Bottom = codes "bottom"
side_name Left = codes "left"

-- a property of a side or an axis
abbrev pub part_name : Part → List ℕ → List ℕ
part_name Margin place = codes "margin-" ++ place
part_name Inset place = codes "inset-" ++ place
part_name Padding place = codes "padding-" ++ place
part_name BorderWidth place = codes "border-" ++ place ++ codes "-width"
part_name BorderStyle place = codes "border-" ++ place ++ codes "-style"
part_name BorderColor place = codes "border-" ++ place ++ codes "-color"
part_name Border place = border_of place

-- the same of a physical side, whose offset has its name
abbrev pub physical_part : Part → List ℕ → List ℕ
physical_part Margin side = part_name Margin side
physical_part Inset side = side
physical_part Padding side = part_name Padding side
physical_part BorderWidth side = part_name BorderWidth side
physical_part BorderStyle side = part_name BorderStyle side
physical_part BorderColor side = part_name BorderColor side
physical_part Border side = part_name Border side

-- a size, or its least or greatest
abbrev pub extent_name : Extent → List ℕ → List ℕ
extent_name Whole size = size
extent_name Least size = codes "min-" ++ size
extent_name Greatest size = codes "max-" ++ size

-- the name of a logical property
abbrev pub logical_name : Logical → List ℕ
logical_name (OfSide part axis end) = part_name part (axis_name axis ++ codes "-" ++ edge_name end)
logical_name (OfAxis part axis) = part_name part (axis_name axis)
logical_name (Corner block_end inline_end) = codes "border-" ++ edge_name block_end ++ codes "-" ++ edge_name inline_end ++ codes "-radius"
logical_name (Size extent axis) = extent_name extent (axis_name axis ++ codes "-size")
logical_name AllSides = codes "inset"

-- the side at an end of an axis
abbrev pub side_in : Mode → Axis → Edge → List ℕ
side_in mode axis end = side_of mode (axis_name axis) (edge_name end)

-- the other end of an axis
abbrev pub other_edge : Edge → Edge
other_edge Start = End
other_edge End = Start

-- the end of the inline axis that lies in ltr where this one lies
abbrev pub ltr_edge : Direction → Edge → Edge
ltr_edge Ltr edge = edge
ltr_edge Rtl edge = other_edge edge

-- the radius of the corner at the top or the bottom and at the left or the right
abbrev pub radius_at : Edge → Edge → List ℕ
radius_at vertical horizontal = radius (side_at (edge_name vertical) (block_ends HorizontalTb)) (side_at (edge_name horizontal) (ltr_ends HorizontalTb))

-- the size along an axis
abbrev pub size_in : Mode → Axis → List ℕ
size_in mode axis = size_of mode.writing (is_text (axis_name axis) (codes "inline"))

-- each of these properties with its share
abbrev pub shared_out : List (List ℕ) → List Component → List Physical
shared_out names parts = map (λ pair. declares pair.0 (pair.1 ∷ [])) (zip names parts)

-- the shares of both sides of an axis, or of all four sides
abbrev pub both_shares : List Component → List Component
both_shares parts = if is_mixed parts then [] else two_shares parts

abbrev pub all_shares : List Component → List Component
all_shares parts = if is_mixed parts then [] else four_shares parts

-- the property of both sides of an axis
abbrev pub both_names : Mode → Part → Axis → List (List ℕ)
both_names mode part axis = physical_part part (side_in mode axis Start) ∷ physical_part part (side_in mode axis End) ∷ []

-- the declarations of an axis: a whole border for both sides, or shares of the value
abbrev pub axis_lowered : Mode → Part → Axis → List Component → List Physical
axis_lowered mode Margin axis value = shared_out (both_names mode Margin axis) (both_shares (parts_of value))
axis_lowered mode Inset axis value = shared_out (both_names mode Inset axis) (both_shares (parts_of value))
axis_lowered mode Padding axis value = shared_out (both_names mode Padding axis) (both_shares (parts_of value))
axis_lowered mode BorderWidth axis value = shared_out (both_names mode BorderWidth axis) (both_shares (parts_of value))
axis_lowered mode BorderStyle axis value = shared_out (both_names mode BorderStyle axis) (both_shares (parts_of value))
axis_lowered mode BorderColor axis value = shared_out (both_names mode BorderColor axis) (both_shares (parts_of value))
axis_lowered mode Border axis value = map (λ name. declares name value) (both_names mode Border axis)

-- the offsets of all four sides
abbrev pub all_names : List (List ℕ)
all_names = codes "top" ∷ codes "right" ∷ codes "bottom" ∷ codes "left" ∷ []

-- the declarations of a logical property
abbrev pub lowered : Mode → Logical → List Component → List Physical
lowered mode (OfSide part axis end) value = declares (physical_part part (side_in mode axis end)) value ∷ []
lowered mode (OfAxis part axis) value = axis_lowered mode part axis value
lowered mode (Corner block_end inline_end) value = declares (corner mode.writing (side_in mode axis.Block block_end) (side_in mode axis.Inline inline_end)) value ∷ []
lowered mode (Size extent axis) value = declares (extent_name extent (size_in mode axis)) value ∷ []
lowered mode AllSides value = shared_out all_names (all_shares (parts_of value))

-- do some values of the property go by the flow of the text?
abbrev pub takes_flow : List ℕ → Bool
takes_flow name = (is_text name (codes "float") || is_text name (codes "clear")) || is_text name (codes "resize")

-- the way in which a box is resized along an axis
abbrev pub way_along : Writing → Axis → List ℕ
way_along HorizontalTb axis.Inline = codes "horizontal"
way_along HorizontalTb axis.Block = codes "vertical"
way_along VerticalRl axis.Inline = codes "vertical"
way_along VerticalRl axis.Block = codes "horizontal"
way_along VerticalLr axis.Inline = codes "vertical"
way_along VerticalLr axis.Block = codes "horizontal"
