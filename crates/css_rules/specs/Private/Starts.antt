-- How a rule begins, told one component after another (CSS Syntax 3, section 5.4).
use Rattle.std.specs.Prelude.{List, [], ◌∷◌, Bool, ◌||◌, if◌then◌else◌}
use Rattle.css_tokens.specs.declared.component.Component.{Component}
use Rattle.css_rules.specs.declared.sheet_builder.Start.{Start}
use Rattle.css_rules.specs.declared.sheet_builder.Start.TheVariants.{Nothing, AtRule, Other}
use Rattle.css_components.specs.Components.{is_at_keyword, is_braces, is_gap, is_semicolon}
use Rattle.css_components.specs.Trimming.{trimmed_start}

-- how components begin that have no white space and comments at the start
abbrev pub begun : List Component → Start
begun [] = Nothing
begun (c ∷ cs) = if is_at_keyword c then AtRule else Other

-- how a rule of these components begins
abbrev pub start_of : List Component → Start
start_of cs = begun (trimmed_start cs)

-- how it begins with one more component
abbrev pub start_with : Start → Component → Start
start_with Nothing c = if is_gap c then Nothing else (if is_at_keyword c then AtRule else Other)
start_with AtRule c = AtRule
start_with Other c = Other

-- does the component end a rule that begins so?
abbrev pub ends_begun : Start → Component → Bool
ends_begun AtRule c = is_braces c || is_semicolon c
ends_begun _ c = is_braces c
