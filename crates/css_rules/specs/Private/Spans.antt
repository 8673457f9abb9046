-- Where components stand among others, and the declarations whose values stand there.
use Rattle.std.specs.Prelude.{ℕ, List, ◌+◌, ◌-◌, ◌≡◌, ◌≤◌, drop, length, slice_range}
use Rattle.css_tokens.specs.declared.component.Component.{Component}
use Rattle.css_rules.specs.declared.cuts.Span.{Span}
use Rattle.css_rules.specs.declared.declaration.Found.{Found}
use Rattle.sheet_types.specs.declared.sheet.Declaration.{Declaration}

-- the list has these places
abbrev pub IsWithin : Span → List Component → Type 0
IsWithin span cs = (span.from ≤ span.to) × (span.to ≤ length cs)

-- the list ends with these components
pub record StandsLast (cs rest : List Component) : Type 0 where
  pub short : length rest ≤ length cs
  pub stands : drop (length cs - length rest) cs ≡ rest

-- what stands at these places
abbrev pub at_span : List Component → Span → List Component
at_span cs span = slice_range cs span.from span.to

-- the declaration that was found among these components
abbrev pub declared_in : List Component → Found → Declaration
declared_in cs found = record { name = found.name; value = at_span cs found.value; important = found.important; at = found.at }

-- the same places behind so many more components
abbrev pub span_behind : ℕ → Span → Span
span_behind count span = record { from = count + span.from; to = count + span.to }

-- the same among components of which so many more stand in front
abbrev pub behind : ℕ → Found → Found
behind count found = record { name = found.name; value = span_behind count found.value; important = found.important; at = found.at }
