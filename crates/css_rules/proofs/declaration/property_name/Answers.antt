use Rattle.std.proofs.Common.{◌∙◌, sym, ap, not, ◌&&◌}
use Rattle.std.specs.List.{list_any}
use Rattle.std.specs.Char.{is_ascii_uppercase}
use Rattle.css_components.specs.Components.{is_custom}
use Rattle.css_rules.proofs.DeclarationLemmas.{name_kept}
use Rattle.css_rules.proofs.declaration.property_name.Goals as goal

pub returns : goal.returns
returns c =
    name_kept c.args.name
    (ap (λ name. not (is_custom name) && list_any is_ascii_uppercase name) (sym c.as_str.ensures) ∙ sym c.is_lowered.ensures ∙ c.if-is_lowered.false)
