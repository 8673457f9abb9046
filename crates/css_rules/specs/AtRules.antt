-- At-rules, told by their keywords and by what stands behind these (CSS Syntax 3, section 9; Conditional Rules 3, section 2; CSS
-- Animations 1, section 3; CSS Counter Styles 3, section 2).
use Rattle.std.specs.Prelude.{List, [], ◌∷◌, Bool, true, false, ◌||◌, ℕ, codes, Option, Some, None, if◌then◌else◌}
use Rattle.std.specs.Option.{option_map}
use Rattle.std.specs.Str.{str_to_ascii_lowercase}
use Rattle.css_tokens.specs.declared.component.Component.{Component}
use Rattle.css_tokens.specs.Trees.{is_text}
use Rattle.media_tree.specs.Queries.{queries_reading}
use Rattle.media_tree.specs.SupportsReading.{supports_reading}
use Rattle.sheet_types.specs.declared.sheet.GroupCondition.{GroupCondition}
use Rattle.sheet_types.specs.declared.sheet.GroupCondition.TheVariants as conditions
use Rattle.sheet_types.specs.declared.sheet.PassedKind.{PassedKind}
use Rattle.sheet_types.specs.declared.sheet.PassedKind.TheVariants.{FontFace, Keyframes, WebkitKeyframes, MozKeyframes, Page, CounterStyle}
use Rattle.sheet_types.specs.PassedRules.{keyword_of}
use Rattle.css_rules.specs.declared.at_rule.AtKeyword.{AtKeyword}
use Rattle.css_rules.specs.declared.at_rule.AtKeyword.TheVariants.{Media, Supports, PassedOn, Import, Charset, Layer, Unknown}
use Rattle.css_rules.specs.declared.at_rule.AtRule.{AtRule}
use Rattle.css_rules.specs.declared.at_rule.AtRule.TheVariants as rules
use Rattle.css_components.specs.Components.{head, is_ident, is_string, name_of}
use Rattle.css_components.specs.Trimming.{trimmed}

-- the at-keyword of this name, which is in lower case
abbrev pub keyword_named : List ℕ → AtKeyword
keyword_named name =
    if is_text name (codes "media") then Media
    else if is_text name (codes "supports") then Supports
    else if is_text name (keyword_of FontFace) then PassedOn FontFace
    else if is_text name (keyword_of Keyframes) then PassedOn Keyframes
    else if is_text name (keyword_of WebkitKeyframes) then PassedOn WebkitKeyframes
    else if is_text name (keyword_of MozKeyframes) then PassedOn MozKeyframes
    else if is_text name (keyword_of Page) then PassedOn Page
    else if is_text name (keyword_of CounterStyle) then PassedOn CounterStyle
    else if is_text name (codes "import") then Import
    else if is_text name (codes "charset") then Charset
    else if is_text name (codes "layer") then Layer
    else Unknown

-- the at-keyword that an at-rule begins with
abbrev pub keyword_in : List Component → AtKeyword
keyword_in [] = Unknown
keyword_in (c ∷ cs) = keyword_named (str_to_ascii_lowercase (name_of (head c)))

-- what stands behind it, without white space and comments at both ends
abbrev pub behind_keyword : List Component → List Component
behind_keyword [] = []
behind_keyword (c ∷ cs) = trimmed cs

-- is one component alone, and does it pass this test?
abbrev pub is_one : (Component → Bool) → List Component → Bool
is_one test [] = false
is_one test (c ∷ []) = test c
is_one test (c ∷ d ∷ cs) = false

-- The name of keyframes is one identifier or string, that of a counter style one identifier. The others may have any prelude.
abbrev pub fits_prelude : PassedKind → List Component → Bool
fits_prelude FontFace prelude = true
fits_prelude Keyframes prelude = is_one (λ c. is_ident c || is_string c) prelude
fits_prelude WebkitKeyframes prelude = is_one (λ c. is_ident c || is_string c) prelude
fits_prelude MozKeyframes prelude = is_one (λ c. is_ident c || is_string c) prelude
fits_prelude Page prelude = true
fits_prelude CounterStyle prelude = is_one is_ident prelude

-- a group under this condition, where there is one
abbrev pub grouped : Option GroupCondition → AtRule
grouped None = rules.Unread
grouped (Some condition) = rules.Group condition

-- The at-rule of this keyword, with this between the keyword and its block. An import stands here too late, and `@charset` is a rule of another name.
abbrev pub with_block : AtKeyword → List Component → AtRule
with_block Media prelude = grouped (option_map conditions.Media (queries_reading prelude))
with_block Supports prelude = grouped (option_map conditions.Supports (supports_reading prelude))
with_block (PassedOn kind) prelude = if fits_prelude kind prelude then rules.PassedOn kind prelude else rules.Unread
with_block Import prelude = rules.Import
with_block Charset prelude = rules.Unknown
with_block Layer prelude = rules.Waiting
with_block Unknown prelude = rules.Unknown

-- The same where no block ends it. Groups and rules that are passed on have a block.
abbrev pub without_block : AtKeyword → AtRule
without_block Media = rules.Unread
without_block Supports = rules.Unread
without_block (PassedOn kind) = rules.Unread
without_block Import = rules.Import
without_block Charset = rules.Unknown
without_block Layer = rules.Waiting
without_block Unknown = rules.Unknown

-- the at-rule that begins with these components; does a block end it?
abbrev pub at_rule_of : List Component → Bool → AtRule
at_rule_of rule has_block = if has_block then with_block (keyword_in rule) (behind_keyword rule) else without_block (keyword_in rule)
