-- Lists of component values without white space and comments at their ends (CSS Syntax 3, section 5.4).
use Rattle.std.specs.Prelude.{List, [], ◌∷◌, if◌then◌else◌}
use Rattle.std.specs.List.{list_all}
use Rattle.css_tokens.specs.declared.component.Component.{Component}
use Rattle.css_components.specs.Components.{is_gap}

-- without white space and comments at the start
abbrev pub trimmed_start : List Component → List Component
trimmed_start [] = []
trimmed_start (c ∷ cs) = if is_gap c then trimmed_start cs else c ∷ cs

-- without white space and comments at the end
abbrev pub trimmed_end : List Component → List Component
trimmed_end [] = []
trimmed_end (c ∷ cs) = if list_all is_gap (c ∷ cs) then [] else c ∷ trimmed_end cs

-- without white space and comments at either end
abbrev pub trimmed : List Component → List Component
trimmed cs = trimmed_end (trimmed_start cs)
