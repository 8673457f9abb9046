-- Sides and corners, by the ends of the axes.
use Rattle.std.specs.Prelude.{ℕ, List}
use Rattle.std.proofs.Common.{◌≡◌, refl, sym}
use Rattle.prop_table.specs.PhysicalProperties.{block_ends, corner, directed, Ends, ltr_ends, side_at}
use Rattle.prop_table.specs.Private.LogicalNames.{edge_name, ltr_edge, other_edge, radius_at, side_in}
use Rattle.prop_table.specs.declared.mode.Direction.{Direction}
use Rattle.prop_table.specs.declared.mode.Direction.TheVariants.{Ltr, Rtl}
use Rattle.prop_table.specs.declared.mode.Mode.{Mode}
use Rattle.prop_table.specs.declared.mode.Writing.{Writing}
use Rattle.prop_table.specs.declared.mode.Writing.TheVariants.{HorizontalTb, VerticalRl, VerticalLr}
use Rattle.prop_table.specs.declared.property.Axis.TheVariants.{Block, Inline}
use Rattle.prop_table.specs.declared.property.Edge.{Edge}
use Rattle.prop_table.specs.declared.property.Edge.TheVariants.{Start, End}

directed-told : (direction : Direction) (edge : Edge) (sides : Ends) → side_at (edge_name (ltr_edge direction edge)) sides ≡ side_at (edge_name edge) (directed direction sides)
directed-told Ltr Start sides = refl
directed-told Ltr End sides = refl
directed-told Rtl Start sides = refl
directed-told Rtl End sides = refl

pub inline-told : (mode : Mode) (edge : Edge) → side_in mode Inline edge ≡ side_at (edge_name (ltr_edge mode.direction edge)) (ltr_ends mode.writing)
inline-told mode edge = sym (directed-told mode.direction edge (ltr_ends mode.writing))

pub block-told : (mode : Mode) (edge : Edge) → side_in mode Block edge ≡ side_at (edge_name edge) (block_ends mode.writing)
block-told mode edge = refl

pub ruleset sides_told = (inline-told, block-told)

-- the radius of a corner, by the writing mode
abbrev pub radius_in : Writing → Edge → Edge → List ℕ
radius_in HorizontalTb block inline = radius_at block inline
radius_in VerticalRl block inline = radius_at inline (other_edge block)
radius_in VerticalLr block inline = radius_at inline block

corner-by : (writing : Writing) (direction : Direction) (block inline : Edge)
    → corner writing (side_at (edge_name block) (block_ends writing)) (side_at (edge_name inline) (directed direction (ltr_ends writing))) ≡ radius_in writing block (ltr_edge direction inline)
corner-by HorizontalTb Ltr Start Start = refl
corner-by HorizontalTb Ltr Start End = refl
corner-by HorizontalTb Ltr End Start = refl
corner-by HorizontalTb Ltr End End = refl
corner-by HorizontalTb Rtl Start Start = refl
corner-by HorizontalTb Rtl Start End = refl
corner-by HorizontalTb Rtl End Start = refl
corner-by HorizontalTb Rtl End End = refl
corner-by VerticalRl Ltr Start Start = refl
corner-by VerticalRl Ltr Start End = refl
corner-by VerticalRl Ltr End Start = refl
corner-by VerticalRl Ltr End End = refl
corner-by VerticalRl Rtl Start Start = refl
corner-by VerticalRl Rtl Start End = refl
corner-by VerticalRl Rtl End Start = refl
corner-by VerticalRl Rtl End End = refl
corner-by VerticalLr Ltr Start Start = refl
corner-by VerticalLr Ltr Start End = refl
corner-by VerticalLr Ltr End Start = refl
corner-by VerticalLr Ltr End End = refl
corner-by VerticalLr Rtl Start Start = refl
corner-by VerticalLr Rtl Start End = refl
corner-by VerticalLr Rtl End Start = refl
corner-by VerticalLr Rtl End End = refl

pub corner-told : (mode : Mode) (block inline : Edge) → corner mode.writing (side_in mode Block block) (side_in mode Inline inline) ≡ radius_in mode.writing block (ltr_edge mode.direction inline)
corner-told mode block inline = corner-by mode.writing mode.direction block inline

pub ruleset corners_told = (corner-told)
