-- Imports as they are read (CSS Cascading 5, section 2).
use Rattle.std.specs.Prelude.{ℕ, List, [], ◌∷◌, Bool, true, false, not, ◌&&◌, ◌||◌, codes, Option, Some, None, if◌then◌else◌}
use Rattle.std.specs.Option.{option_map}
use Rattle.css_tokens.specs.declared.kind.Kind.{Kind}
use Rattle.css_tokens.specs.declared.kind.Kind.TheVariants.{Function, Url}
use Rattle.css_tokens.specs.declared.component.Component.{Component}
use Rattle.media_spelling.specs.declared.condition.Query.{Query}
use Rattle.media_spelling.specs.declared.supports.Supports.{Supports}
use Rattle.media_tree.specs.Queries.{queries_reading}
use Rattle.media_tree.specs.SupportsReading.{supports_inside}
use Rattle.css_components.specs.Components.{head, inside, is_ident, is_keyword, is_single, is_string, name_of}
use Rattle.css_components.specs.Trimming.{trimmed, trimmed_start}
use Rattle.import_rules.specs.declared.import.ImportRule.{ImportRule}
use Rattle.import_rules.specs.declared.import.ImportRule.TheVariants.{Read, Waiting, Unread}

-- a Url?
abbrev pub is_url_kind : Kind → Bool
is_url_kind Url = true
is_url_kind _ = false

-- a Function?
abbrev pub is_function_kind : Kind → Bool
is_function_kind Function = true
is_function_kind _ = false

-- a Url
abbrev pub is_url : Component → Bool
is_url c = is_single c && is_url_kind (head c).kind

-- a function of this name, in any case of letters
abbrev pub is_function : List ℕ → Component → Bool
is_function name c = not (is_single c) && (is_function_kind (head c).kind && is_keyword name (name_of (head c)))

-- the content of a string that stands alone
abbrev pub lone_string : List Component → Option (List ℕ)
lone_string [] = None
lone_string (c ∷ []) = if is_string c then Some (name_of (head c)) else None
lone_string (c ∷ d ∷ cs) = None

-- The target of an import is a string, a Url, or the one string in a function `url(`.
abbrev pub target_of : Component → Option (List ℕ)
target_of c = if is_string c || is_url c then Some (name_of (head c)) else (if is_function (codes "url") c then lone_string (trimmed (inside c)) else None)

-- Does a layer stand in front: the keyword `layer`, or a function `layer(`?
abbrev pub begins_layer : List Component → Bool
begins_layer [] = false
begins_layer (c ∷ cs) = if is_ident c then is_keyword (codes "layer") (name_of (head c)) else is_function (codes "layer") c

-- the import at this place of this target under these conditions, where both have a reading
abbrev pub imported : ℕ → List ℕ → Option (Option Supports) → Option (List Query) → ImportRule
imported at target None media = Unread
imported at target (Some supports) None = Unread
imported at target (Some supports) (Some media) = Read (record { target = target; supports = supports; media = media; at = at })

-- What stands in `supports(`, where the import has it, is a supports condition, or a declaration as one stands in parentheses. A media query list follows.
abbrev pub conditioned : ℕ → List ℕ → List Component → ImportRule
conditioned at target [] = imported at target (Some None) (queries_reading [])
conditioned at target (c ∷ cs) =
    if is_function (codes "supports") c then imported at target (option_map Some (supports_inside (inside c))) (queries_reading cs)
    else imported at target (Some None) (queries_reading (c ∷ cs))

-- what stands behind the target, where there is one; a layer waits for a later stage
abbrev pub behind_target : ℕ → Option (List ℕ) → List Component → ImportRule
behind_target at None rest = Unread
behind_target at (Some target) rest = if begins_layer rest then Waiting else conditioned at target rest

-- The import at this place that these components spell, which stand between `@import` and the semicolon without white space at their ends: a target, perhaps a layer, perhaps `supports(..)`, and a media query list.
abbrev pub import_reading : ℕ → List Component → ImportRule
import_reading at [] = Unread
import_reading at (c ∷ cs) = behind_target at (target_of c) (trimmed_start cs)
