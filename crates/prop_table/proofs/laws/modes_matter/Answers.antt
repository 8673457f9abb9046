use Rattle.std.proofs.Common.{◌∙◌, refl, sym}
use Rattle.prop_table.proofs.Lookups.{told}
use Rattle.prop_table.specs.declared.property.Logical.TheVariants.{AllSides}
use Rattle.prop_table.proofs.laws.modes_matter.Goals as goal

pub returns : goal.returns
returns c = record { all = refl; inset = λ mode other value. told AllSides mode value ∙ sym (told AllSides other value) }
