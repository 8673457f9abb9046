-- The rules at the front of a sheet: `@charset`, and imports (CSS Syntax 3, section 9; CSS Cascading 5, section 2).
use Rattle.std.specs.Prelude.{ℕ, List, [], ◌∷◌, Bool, true, false, ◌&&◌, codes, Option, Some, None, if◌then◌else◌}
use Rattle.css_tokens.specs.declared.component.Component.{Component}
use Rattle.sheet_types.specs.declared.sheet.Import.{Import}
use Rattle.import_rules.specs.Imports.{import_reading}
use Rattle.import_rules.specs.declared.import.ImportRule.{ImportRule}
use Rattle.import_rules.specs.declared.import.ImportRule.TheVariants.{Read, Waiting, Unread}
use Rattle.css_components.specs.Components.{head, is_keyword, is_string, name_of}
use Rattle.css_components.specs.Trimming.{trimmed}
use Rattle.css_rules.specs.declared.at_rule.AtKeyword.{AtKeyword}
use Rattle.css_rules.specs.declared.at_rule.AtKeyword.TheVariants as keywords
use Rattle.css_rules.specs.declared.refusal.Refusal.{Refusal}
use Rattle.css_rules.specs.AtRules.{behind_keyword, is_one, keyword_in}
use Rattle.css_rules.specs.Cuts.{Cut}
use Rattle.css_rules.specs.Places.{first_place}
use Rattle.css_rules.specs.Refusals.{syntax, unbuilt}
use Rattle.css_rules.specs.RuleEnds.{begins_at_rule, ends_in_semicolon}

-- is it the keyword of an import?
abbrev pub is_import_keyword : AtKeyword → Bool
is_import_keyword keywords.Import = true
is_import_keyword _ = false

-- is it `@charset`?
abbrev pub is_charset_keyword : AtKeyword → Bool
is_charset_keyword keywords.Charset = true
is_charset_keyword _ = false

-- does a rule of these components begin with `@import`?
abbrev pub is_import : List Component → Bool
is_import front = begins_at_rule (trimmed front) && is_import_keyword (keyword_in (trimmed front))

-- the string `utf-8` alone, in any case of letters
abbrev pub names_utf8 : List Component → Bool
names_utf8 cs = is_one (λ c. is_string c && is_keyword (codes "utf-8") (name_of (head c))) cs

-- The `@charset` rule names `utf-8` and ends with a semicolon.
abbrev pub is_charset : Cut → Bool
is_charset cut = (begins_at_rule (trimmed cut.front) && ends_in_semicolon cut.mark) && (is_charset_keyword (keyword_in (trimmed cut.front)) && names_utf8 (behind_keyword (trimmed cut.front)))

-- the rules of a sheet behind the `@charset` rule, which may stand first
abbrev pub behind_charset : List Cut → List Cut
behind_charset [] = []
behind_charset (rule ∷ rules) = if is_charset rule then rules else rule ∷ rules

-- the imports that rules begin with
abbrev pub first_imports : List Cut → List Cut
first_imports [] = []
first_imports (rule ∷ rules) = if is_import rule.front then rule ∷ first_imports rules else []

-- the rules behind these
abbrev pub behind_imports : List Cut → List Cut
behind_imports [] = []
behind_imports (rule ∷ rules) = if is_import rule.front then behind_imports rules else rule ∷ rules

-- the imports of a sheet stand in front, behind the `@charset` rule
abbrev pub imports_in : List Cut → List Cut
imports_in rules = first_imports (behind_charset rules)

-- and then its items
abbrev pub items_in : List Cut → List Cut
items_in rules = behind_imports (behind_charset rules)

-- What an import is read as. A semicolon ends it.
abbrev pub import_rule_of : Cut → ImportRule
import_rule_of cut = if ends_in_semicolon cut.mark then import_reading (first_place (trimmed cut.front) 0) (behind_keyword (trimmed cut.front)) else Unread

-- the import, where it is read
abbrev pub read_as_import : ImportRule → Option (List Import)
read_as_import (Read i) = Some (i ∷ [])
read_as_import Waiting = None
read_as_import Unread = None

-- the import that a rule is
abbrev pub import_of : Cut → Option (List Import)
import_of cut = read_as_import (import_rule_of cut)

-- what an import at this place is refused for: that it waits for a later stage, or that it cannot be read
abbrev pub refused_import : ℕ → ImportRule → List Refusal
refused_import at (Read i) = []
refused_import at Waiting = unbuilt at ∷ []
refused_import at Unread = syntax at ∷ []

-- the same of the rule
abbrev pub import_refusals : Cut → List Refusal
import_refusals cut = refused_import (first_place (trimmed cut.front) 0) (import_rule_of cut)
