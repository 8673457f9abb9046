-- The logical properties: those that name the sides of a box by the flow of its text (CSS Logical 1, section 4).
use Rattle.std.specs.Prelude.{ℕ, List, [], ◌∷◌, ◌++◌, map, flat_map, Bool, codes}
use Rattle.std.specs.List.{list_any}
use Rattle.css_tokens.specs.Trees.{is_text}

-- the axes of a box
abbrev pub axes : List (List ℕ)
axes = codes "block" ∷ codes "inline" ∷ []

-- the ends of an axis
abbrev pub ends : List (List ℕ)
ends = codes "start" ∷ codes "end" ∷ []

-- the sides of a box: both ends of each axis
abbrev pub sides : List (List ℕ)
sides = flat_map (λ axis. map (λ end. axis ++ codes "-" ++ end) ends) axes

-- the margin (section 4.2), the offset (4.3) and the padding (4.4) of a side or an axis
abbrev pub spaces_of : List ℕ → List (List ℕ)
spaces_of place = (codes "margin-" ++ place) ∷ (codes "inset-" ++ place) ∷ (codes "padding-" ++ place) ∷ []

-- the width, the style and the color of the border of a side or an axis (sections 4.5.1 to 4.5.3)
abbrev pub border_parts_of : List ℕ → List (List ℕ)
border_parts_of place = (codes "border-" ++ place ++ codes "-width") ∷ (codes "border-" ++ place ++ codes "-style") ∷ (codes "border-" ++ place ++ codes "-color") ∷ []

-- the three of these at once (section 4.5.4)
abbrev pub border_of : List ℕ → List ℕ
border_of place = codes "border-" ++ place

-- the size along an axis, and its least and its greatest (section 4.1)
abbrev pub sizes_of : List ℕ → List (List ℕ)
sizes_of axis = (axis ++ codes "-size") ∷ (codes "min-" ++ axis ++ codes "-size") ∷ (codes "max-" ++ axis ++ codes "-size") ∷ []

-- the corners of a border, each between an end of the block axis and one of the inline axis (section 4.6)
abbrev pub corners : List (List ℕ)
corners = flat_map (λ block_end. map (λ inline_end. codes "border-" ++ block_end ++ codes "-" ++ inline_end ++ codes "-radius") ends) ends

-- the borders of sides and axes, and their corners (sections 4.5 and 4.6)
abbrev pub borders : List (List ℕ)
borders = flat_map border_parts_of (sides ++ axes) ++ map border_of (sides ++ axes) ++ corners

-- The logical properties. `inset` is among them: it has physical sides, and is short for four properties that older browsers read.
abbrev pub logical_properties : List (List ℕ)
logical_properties =
    flat_map spaces_of (sides ++ axes)
    ++ borders
    ++ flat_map sizes_of axes
    ++ codes "inset" ∷ []

-- is it the name of one of these properties?
abbrev pub is_logical : List ℕ → Bool
is_logical name = list_any (is_text name) logical_properties

-- the properties among them that share the components of their value out to sides: each axis to two, and `inset` to four (sections 4.2 to 4.5)
abbrev pub split_properties : List (List ℕ)
split_properties = flat_map spaces_of axes ++ flat_map border_parts_of axes ++ codes "inset" ∷ []

-- is it the name of one of these properties?
abbrev pub is_split : List ℕ → Bool
is_split name = list_any (is_text name) split_properties
