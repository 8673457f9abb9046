-- The physical declarations that a logical one stands for (CSS Logical 1, section 4).
use Rattle.std.specs.Prelude.{ℕ, List, [], ◌∷◌, ◌++◌, map, flat_map, Bool, true, false, not, ◌&&◌, ◌||◌, Option, Some, None, codes, if◌then◌else◌, length, nat_lt}
use Rattle.std.specs.List.{filter, find, list_any, zip}
use Rattle.std.specs.Option.{option_map}
use Rattle.std.specs.Str.{str_to_ascii_lowercase}
use lib.Pointwise.{pointwise}
use Rattle.css_tokens.specs.Names.{name_of_word}
use Rattle.css_tokens.specs.Piece.{Piece}
use Rattle.css_tokens.specs.Trees.{is_text}
use Rattle.css_tokens.specs.ValueAgain.{is_solid}
use Rattle.css_tokens.specs.declared.component.Component.{Component, out-Component}
use Rattle.css_tokens.specs.declared.component.Component as component
use Rattle.css_tokens.specs.declared.component.Component.TheOpen.{Component-F, Single, Block}
use Rattle.css_tokens.specs.declared.component.Block as block
use Rattle.css_tokens.specs.declared.kind.Kind.{Kind}
use Rattle.css_tokens.specs.declared.kind.Kind.TheVariants.{Ident}
use Rattle.prop_table.specs.LogicalProperties.{axes, border_of, ends, is_logical, is_split}
use Rattle.prop_table.specs.declared.declarations.Physical.{Physical}
use Rattle.prop_table.specs.declared.mode.Direction.{Direction}
use Rattle.prop_table.specs.declared.mode.Direction.TheVariants.{Ltr, Rtl}
use Rattle.prop_table.specs.declared.mode.Mode.{Mode}
use Rattle.prop_table.specs.declared.mode.Writing.{Writing}
use Rattle.prop_table.specs.declared.mode.Writing.TheVariants.{HorizontalTb, VerticalRl, VerticalLr}

-- Sides.

-- the sides at both ends of an axis
pub record Ends : Type 0 where
  pub start : List ℕ
  pub end : List ℕ

-- the sides of the block axis (CSS Writing Modes 4, section 6.4)
abbrev pub block_ends : Writing → Ends
block_ends HorizontalTb = record { start = codes "top"; end = codes "bottom" }
block_ends VerticalRl = record { start = codes "right"; end = codes "left" }
block_ends VerticalLr = record { start = codes "left"; end = codes "right" }

-- the sides of the inline axis where the direction is ltr
abbrev pub ltr_ends : Writing → Ends
ltr_ends HorizontalTb = record { start = codes "left"; end = codes "right" }
ltr_ends VerticalRl = record { start = codes "top"; end = codes "bottom" }
ltr_ends VerticalLr = record { start = codes "top"; end = codes "bottom" }

-- Where it is rtl they are exchanged.
abbrev pub directed : Direction → Ends → Ends
directed Ltr sides = sides
directed Rtl sides = record { start = sides.end; end = sides.start }

-- the sides of an axis
abbrev pub axis_ends : Mode → List ℕ → Ends
axis_ends mode axis = if is_text axis (codes "block") then block_ends mode.writing else directed mode.direction (ltr_ends mode.writing)

-- one of them
abbrev pub side_at : List ℕ → Ends → List ℕ
side_at end sides = if is_text end (codes "start") then sides.start else sides.end

-- the side at an end of an axis
abbrev pub side_of : Mode → List ℕ → List ℕ → List ℕ
side_of mode axis end = side_at end (axis_ends mode axis)

-- Properties.

-- a row of a table: a logical name, and the physical ones that it stands for
pub record Row : Type 0 where
  pub logical : List ℕ
  pub physical : List (List ℕ)

-- a row of these names
abbrev pub stands_for : List ℕ → List (List ℕ) → Row
stands_for logical physical = record { logical = logical; physical = physical }

-- each logical side with its physical one, and each axis with both of its, the start first
abbrev pub places : Mode → List Row
places mode =
    flat_map (λ axis. map (λ end. stands_for (axis ++ codes "-" ++ end) (side_of mode axis end ∷ [])) ends) axes
    ++ map (λ axis. stands_for axis (map (side_of mode axis) ends)) axes

-- the margin (section 4.2), the offset (4.3), which is physical by the name of the side alone, and the padding (4.4)
abbrev pub space_rows : Row → List Row
space_rows place =
    stands_for (codes "margin-" ++ place.logical) (map (λ side. codes "margin-" ++ side) place.physical)
    ∷ stands_for (codes "inset-" ++ place.logical) place.physical
    ∷ stands_for (codes "padding-" ++ place.logical) (map (λ side. codes "padding-" ++ side) place.physical)
    ∷ []

-- the width, the style and the color of the border (sections 4.5.1 to 4.5.3)
abbrev pub border_part_rows : Row → List Row
border_part_rows place =
    stands_for (codes "border-" ++ place.logical ++ codes "-width") (map (λ side. codes "border-" ++ side ++ codes "-width") place.physical)
    ∷ stands_for (codes "border-" ++ place.logical ++ codes "-style") (map (λ side. codes "border-" ++ side ++ codes "-style") place.physical)
    ∷ stands_for (codes "border-" ++ place.logical ++ codes "-color") (map (λ side. codes "border-" ++ side ++ codes "-color") place.physical)
    ∷ []

-- the three of these at once (section 4.5.4)
abbrev pub border_row : Row → Row
border_row place = stands_for (border_of place.logical) (map border_of place.physical)

-- the corner of the border at the top or the bottom, and at the left or the right
abbrev pub radius : List ℕ → List ℕ → List ℕ
radius vertical horizontal = codes "border-" ++ vertical ++ codes "-" ++ horizontal ++ codes "-radius"

-- the corner between a side of the block axis and one of the inline axis
abbrev pub corner : Writing → List ℕ → List ℕ → List ℕ
corner HorizontalTb block_side inline_side = radius block_side inline_side
corner VerticalRl block_side inline_side = radius inline_side block_side
corner VerticalLr block_side inline_side = radius inline_side block_side

-- each corner by the ends of both axes between which it lies (section 4.6)
abbrev pub corner_rows : Mode → List Row
corner_rows mode =
    flat_map (λ block_end. map (λ inline_end.
    stands_for (codes "border-" ++ block_end ++ codes "-" ++ inline_end ++ codes "-radius")
    (corner mode.writing (side_of mode (codes "block") block_end) (side_of mode (codes "inline") inline_end) ∷ [])) ends) ends

-- the size of a box along the inline axis, or else along the block axis
abbrev pub size_of : Writing → Bool → List ℕ
size_of HorizontalTb is_inline = if is_inline then codes "width" else codes "height"
size_of VerticalRl is_inline = if is_inline then codes "height" else codes "width"
size_of VerticalLr is_inline = if is_inline then codes "height" else codes "width"

-- the size along an axis, and its least and its greatest (section 4.1)
abbrev pub size_rows : Writing → List ℕ → List Row
size_rows writing axis =
    let size = size_of writing (is_text axis (codes "inline")) in
    stands_for (axis ++ codes "-size") (size ∷ [])
    ∷ stands_for (codes "min-" ++ axis ++ codes "-size") ((codes "min-" ++ size) ∷ [])
    ∷ stands_for (codes "max-" ++ axis ++ codes "-size") ((codes "max-" ++ size) ∷ [])
    ∷ []

-- the offsets of all sides (section 4.3), in each mode the same
abbrev pub inset_row : Row
inset_row = stands_for (codes "inset") (codes "top" ∷ codes "right" ∷ codes "bottom" ∷ codes "left" ∷ [])

-- The table: the logical properties in the order of `logical_properties`, each with the physical ones that it stands for in a mode.
abbrev pub rows : Mode → List Row
rows mode =
    flat_map space_rows (places mode)
    ++ (flat_map border_part_rows (places mode) ++ map border_row (places mode) ++ corner_rows mode)
    ++ flat_map (size_rows mode.writing) axes
    ++ inset_row ∷ []

-- what a logical property stands for
abbrev pub physical_names : Mode → List ℕ → List (List ℕ)
physical_names mode name = flat_map (λ row. row.physical) (filter (λ row. is_text name row.logical) (rows mode))

-- Values.

-- the components of a value without white space and comments
abbrev pub parts_of : List Component → List Component
parts_of value = filter is_solid value

-- an identifier?
abbrev pub is_ident_kind : Kind → Bool
is_ident_kind Ident = true
is_ident_kind _ = false

-- is it this keyword, in any case of letters (CSS Values 4, section 4.1)?
abbrev pub is_keyword_token : List ℕ → Piece → Bool
is_keyword_token keyword token = is_ident_kind token.kind && is_text (str_to_ascii_lowercase (name_of_word Ident token.text)) keyword

-- the same of a component, laid open
abbrev pub is_opened_keyword : List ℕ → Component-F Component block.Block → Bool
is_opened_keyword keyword (Single token) = is_keyword_token keyword token
is_opened_keyword keyword (Block b) = false

-- the same of a component
abbrev pub is_keyword : List ℕ → Component → Bool
is_keyword keyword c = is_opened_keyword keyword (out-Component c)

-- the keywords that each property takes, and that stand for a whole value (CSS Values 4, section 4.1.1)
abbrev pub wide_keywords : List (List ℕ)
wide_keywords = codes "initial" ∷ codes "inherit" ∷ codes "unset" ∷ codes "revert" ∷ []

-- does one of these stand beside another part?
abbrev pub is_mixed : List Component → Bool
is_mixed parts = nat_lt 1 (length parts) && list_any (λ part. list_any (λ keyword. is_keyword keyword part) wide_keywords) parts

-- the parts for the start and the end of an axis: one for both, or two
abbrev pub two_shares : List Component → List Component
two_shares (both ∷ []) = both ∷ both ∷ []
two_shares (start ∷ end ∷ []) = start ∷ end ∷ []
two_shares _ = []

-- the parts for the top, the right, the bottom and the left, as of `margin` (CSS Box 4, section 3.2)
abbrev pub four_shares : List Component → List Component
four_shares (all ∷ []) = all ∷ all ∷ all ∷ all ∷ []
four_shares (vertical ∷ horizontal ∷ []) = vertical ∷ horizontal ∷ vertical ∷ horizontal ∷ []
four_shares (top ∷ horizontal ∷ bottom ∷ []) = top ∷ horizontal ∷ bottom ∷ horizontal ∷ []
four_shares (top ∷ right ∷ bottom ∷ left ∷ []) = top ∷ right ∷ bottom ∷ left ∷ []
four_shares _ = []

-- The parts that a split property shares out; none where their number is wrong, or such a keyword stands beside another part.
abbrev pub shares : List ℕ → List Component → List Component
shares name parts = if is_mixed parts then [] else (if is_text name (codes "inset") then four_shares parts else two_shares parts)

-- The values of `float` and `clear` that the flow of the text gives a meaning (sections 2.2 and 2.3), and those of `resize` (2.4).
abbrev pub side_keywords : List (List ℕ)
side_keywords = codes "inline-start" ∷ codes "inline-end" ∷ []

abbrev pub axis_keywords : List (List ℕ)
axis_keywords = codes "inline" ∷ codes "block" ∷ []

-- what they mean, in this order: in each writing mode the sides that lines have where they are laid from top to bottom
abbrev pub line_sides : Direction → List (List ℕ)
line_sides direction = map (λ end. side_at end (directed direction (ltr_ends HorizontalTb))) ends

-- the ways in which a box is resized along its inline axis and its block axis
abbrev pub resized : Writing → List (List ℕ)
resized HorizontalTb = codes "horizontal" ∷ codes "vertical" ∷ []
resized VerticalRl = codes "vertical" ∷ codes "horizontal" ∷ []
resized VerticalLr = codes "vertical" ∷ codes "horizontal" ∷ []

-- those of the keywords that the property takes
abbrev pub flow_keywords : List ℕ → List (List ℕ)
flow_keywords name =
    if is_text name (codes "float") || is_text name (codes "clear") then side_keywords
    else (if is_text name (codes "resize") then axis_keywords else [])

-- what they mean, in their order
abbrev pub meanings : Mode → List ℕ → List (List ℕ)
meanings mode name = if is_text name (codes "resize") then resized mode.writing else line_sides mode.direction

-- what a component means, if it is one of these keywords
abbrev pub meaning_among : List (List ℕ) → List (List ℕ) → Component → Option (List ℕ)
meaning_among keywords meant part = option_map (λ pair. pair.1) (find (λ pair. is_keyword pair.0 part) (zip keywords meant))

-- what a part of the value of this property means, if it is such a keyword
abbrev pub meaning : Mode → List ℕ → Component → Option (List ℕ)
meaning mode name part = meaning_among (flow_keywords name) (meanings mode name) part

-- where a component begins, laid open
abbrev pub opened_place : Component-F Component block.Block → ℕ
opened_place (Single token) = token.at
opened_place (Block b) = b.opening.at

-- an identifier in the place of a component
abbrev pub put_for : Component → List ℕ → Component
put_for part text = component.Single (record { kind = Ident; text = text; at = opened_place (out-Component part) })

-- the value, or in its place what its part means
abbrev pub replaced : List Component → Component → Option (List ℕ) → List Component
replaced value part None = value
replaced value part (Some text) = put_for part text ∷ []

-- the value of these parts, the keyword of the flow as what it means where it is the only part
abbrev pub value_by_parts : Mode → List ℕ → List Component → List Component → List Component
value_by_parts mode name value (part ∷ []) = replaced value part (meaning mode name part)
value_by_parts mode name value _ = value

-- the value of a property that is not logical
abbrev pub physical_value : Mode → List ℕ → List Component → List Component
physical_value mode name value = value_by_parts mode name value (parts_of value)

-- Declarations.

-- a declaration of this name and value
abbrev pub declares : List ℕ → List Component → Physical
declares name value = record { name = name; value = value }

-- A split property gives each side its share, any other logical property the whole value.
abbrev pub physical_logical : Mode → List ℕ → List Component → List Physical
physical_logical mode name value =
    if is_split name then map (λ pair. declares pair.0 (pair.1 ∷ [])) (zip (physical_names mode name) (shares name (parts_of value)))
    else map (λ side. declares side value) (physical_names mode name)

-- The physical declarations that a declaration stands for in a mode. One of no logical property stands for itself, a keyword of the flow aside.
abbrev pub physical : Mode → List ℕ → List Component → List Physical
physical mode name value =
    if is_logical name then physical_logical mode name value
    else declares name (physical_value mode name value) ∷ []

-- is the only part of the value a keyword of the flow?
abbrev pub is_flow_part : List ℕ → List Component → Bool
is_flow_part name (part ∷ []) = list_any (λ keyword. is_keyword keyword part) (flow_keywords name)
is_flow_part name _ = false

-- does a property that is not logical get a value that the flow of the text gives a meaning?
abbrev pub is_flow_value : List ℕ → List Component → Bool
is_flow_value name value = is_flow_part name (parts_of value)

-- Is it a declaration of no logical property and without such a value?
abbrev pub is_physical : Physical → Bool
is_physical d = not (is_logical d.name) && not (is_flow_value d.name d.value)

-- what each of these declarations stands for in a mode
abbrev pub physical_all : Mode → List Physical → List Physical
physical_all mode ds = flat_map (λ d. physical mode d.name d.value) ds

-- does the row stand for several properties, and for no whole borders?
abbrev pub is_shared_row : Row → Bool
is_shared_row row = nat_lt 1 (length row.physical) && not (list_any (is_text row.logical) (map border_of axes))

-- does the property stand for other ones where lines are laid from right to left than where they are laid from top to bottom?
abbrev pub depends_on_mode : List ℕ → Bool
depends_on_mode name =
    not (pointwise is_text
    (physical_names (record { writing = HorizontalTb; direction = Ltr }) name)
    (physical_names (record { writing = VerticalRl; direction = Ltr }) name))
