-- What rules are at the front of a sheet, told one after another.
use Rattle.std.specs.Prelude.{List, [], ◌∷◌, if◌then◌else◌}
use Rattle.css_tokens.specs.declared.component.Component.{Component}
use Rattle.css_rules.specs.declared.head.Part.{Part}
use Rattle.css_rules.specs.declared.head.Part.TheVariants as parts
use Rattle.css_rules.specs.declared.head.Role.{Role}
use Rattle.css_rules.specs.declared.head.Role.TheVariants as roles
use Rattle.css_rules.specs.Cuts.{Cut}
use Rattle.css_rules.specs.Heads.{is_charset, is_import, items_in}

-- what a rule is that no `@charset` rule may be
abbrev pub role_behind : List Component → Role
role_behind front = if is_import front then roles.Import else roles.Item

-- what the next rule is
abbrev pub role_in : Part → Cut → Role
role_in parts.Start rule = if is_charset rule then roles.Charset else role_behind rule.front
role_in parts.Imports rule = role_behind rule.front
role_in parts.Items rule = roles.Item

-- how far the front has been read behind such a rule
abbrev pub part_behind : Role → Part
part_behind roles.Charset = parts.Imports
part_behind roles.Import = parts.Imports
part_behind roles.Item = parts.Items

-- how far it has been read, by the items that were read
abbrev pub part_with : List Cut → Part
part_with [] = parts.Imports
part_with (item ∷ items) = parts.Items

-- how far these rules go
abbrev pub part_of : List Cut → Part
part_of [] = parts.Start
part_of (rule ∷ rules) = part_with (items_in (rule ∷ rules))
