-- Where rules and items end (CSS Syntax 3, sections 5.4 and 9).
use Rattle.std.specs.Prelude.{List, [], ◌∷◌, Bool, false, ◌&&◌, ◌||◌, not, Option, Some, None}
use Rattle.css_tokens.specs.declared.component.Component.{Component}
use Rattle.css_components.specs.Components.{inside, is_at_keyword, is_semicolon, is_braces}
use Rattle.css_components.specs.Trimming.{trimmed_start}
use Rattle.css_rules.specs.Declarations.{begins_custom}

-- does it begin with an at-keyword?
abbrev pub begins_at_rule : List Component → Bool
begins_at_rule [] = false
begins_at_rule (c ∷ cs) = is_at_keyword c

-- Among rules a `{}` block ends a rule, and `;` an at-rule alone.
abbrev pub ends_rule : List Component → Component → Bool
ends_rule before c = is_braces c || (is_semicolon c && begins_at_rule (trimmed_start before))

-- In the block of a style rule `;` ends an item, and so does a `{}` block, but for that of a custom property.
abbrev pub ends_item : List Component → Component → Bool
ends_item before c = is_semicolon c || (is_braces c && not (begins_custom (trimmed_start before)))

-- is the mark a `{}` block?
abbrev pub ends_in_braces : Option Component → Bool
ends_in_braces None = false
ends_in_braces (Some mark) = is_braces mark

-- is the mark a semicolon?
abbrev pub ends_in_semicolon : Option Component → Bool
ends_in_semicolon None = false
ends_in_semicolon (Some mark) = is_semicolon mark

-- what stands in the block that ends a rule, where one does
abbrev pub block_of : Option Component → List Component
block_of None = []
block_of (Some mark) = inside mark
