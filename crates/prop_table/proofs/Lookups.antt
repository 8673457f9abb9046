-- What each logical property stands for, looked up in the table.
use Rattle.std.specs.Prelude.{ℕ, List}
use Rattle.std.proofs.Common.{◌≡◌, ◌∙◌, ap, refl, sym}
use Rattle.css_tokens.specs.declared.component.Component.{Component}
use Rattle.prop_table.specs.PhysicalProperties.{physical}
use Rattle.prop_table.specs.Private.LogicalNames.{logical_name, lowered}
use Rattle.prop_table.specs.declared.mode.Mode.{Mode}
use Rattle.prop_table.specs.declared.property.Axis.{Axis}
use Rattle.prop_table.specs.declared.property.Axis.TheVariants.{Block, Inline}
use Rattle.prop_table.specs.declared.property.Edge.{Edge}
use Rattle.prop_table.specs.declared.property.Edge.TheVariants.{Start, End}
use Rattle.prop_table.specs.declared.property.Extent.{Extent}
use Rattle.prop_table.specs.declared.property.Extent.TheVariants.{Whole, Least, Greatest}
use Rattle.prop_table.specs.declared.property.Logical.{Logical}
use Rattle.prop_table.specs.declared.property.Logical.TheVariants.{OfSide, OfAxis, Corner, Size, AllSides}
use Rattle.prop_table.specs.declared.property.Part.{Part}
use Rattle.prop_table.specs.declared.property.Part.TheVariants.{Margin, Inset, Padding, BorderWidth, BorderStyle, BorderColor, Border}

-- Does the table say so?
abbrev pub IsTold : Logical → Type 0
IsTold property = (mode : Mode) (value : List Component) → physical mode (logical_name property) value ≡ lowered mode property value

side-told : (part : Part) (axis : Axis) (edge : Edge) → IsTold (OfSide part axis edge)
side-told Margin Block Start mode value = refl
side-told Margin Block End mode value = refl
side-told Margin Inline Start mode value = refl
side-told Margin Inline End mode value = refl
side-told Inset Block Start mode value = refl
side-told Inset Block End mode value = refl
side-told Inset Inline Start mode value = refl
side-told Inset Inline End mode value = refl
side-told Padding Block Start mode value = refl
side-told Padding Block End mode value = refl
side-told Padding Inline Start mode value = refl
side-told Padding Inline End mode value = refl
side-told BorderWidth Block Start mode value = refl
side-told BorderWidth Block End mode value = refl
side-told BorderWidth Inline Start mode value = refl
side-told BorderWidth Inline End mode value = refl
side-told BorderStyle Block Start mode value = refl
side-told BorderStyle Block End mode value = refl
side-told BorderStyle Inline Start mode value = refl
side-told BorderStyle Inline End mode value = refl
side-told BorderColor Block Start mode value = refl
side-told BorderColor Block End mode value = refl
side-told BorderColor Inline Start mode value = refl
side-told BorderColor Inline End mode value = refl
side-told Border Block Start mode value = refl
side-told Border Block End mode value = refl
side-told Border Inline Start mode value = refl
side-told Border Inline End mode value = refl

axis-told : (part : Part) (axis : Axis) → IsTold (OfAxis part axis)
axis-told Margin Block mode value = refl
axis-told Margin Inline mode value = refl
axis-told Inset Block mode value = refl
axis-told Inset Inline mode value = refl
axis-told Padding Block mode value = refl
axis-told Padding Inline mode value = refl
axis-told BorderWidth Block mode value = refl
axis-told BorderWidth Inline mode value = refl
axis-told BorderStyle Block mode value = refl
axis-told BorderStyle Inline mode value = refl
axis-told BorderColor Block mode value = refl
axis-told BorderColor Inline mode value = refl
axis-told Border Block mode value = refl
axis-told Border Inline mode value = refl

corner-told : (block_edge inline_edge : Edge) → IsTold (Corner block_edge inline_edge)
corner-told Start Start mode value = refl
corner-told Start End mode value = refl
corner-told End Start mode value = refl
corner-told End End mode value = refl

size-told : (extent : Extent) (axis : Axis) → IsTold (Size extent axis)
size-told Whole Block mode value = refl
size-told Whole Inline mode value = refl
size-told Least Block mode value = refl
size-told Least Inline mode value = refl
size-told Greatest Block mode value = refl
size-told Greatest Inline mode value = refl

pub told : (property : Logical) → IsTold property
told (OfSide part axis edge) = side-told part axis edge
told (OfAxis part axis) = axis-told part axis
told (Corner block_edge inline_edge) = corner-told block_edge inline_edge
told (Size extent axis) = size-told extent axis
told AllSides = λ mode value. refl

-- the same of the property of this name
pub told-named : (name : List ℕ) (property : Logical) → name ≡ logical_name property → (mode : Mode) (value : List Component)
    → lowered mode property value ≡ physical mode name value
told-named name property is mode value = sym (ap (λ n. physical mode n value) is ∙ told property mode value)
