-- What a sheet is refused for, and which refusal is named.
use Rattle.std.specs.Prelude.{ℕ, List, [], ◌∷◌, Bool, true, false, ◌||◌, ◌&&◌, codes, Option, Some, None, is_some, if◌then◌else◌, nat_eq, nat_lt, nat_le, find}
use Rattle.std.specs.List.{list_any, starts_with}
use Rattle.css_tokens.specs.declared.kind.Kind.{Kind}
use Rattle.css_tokens.specs.declared.kind.Kind.TheVariants.{Ident, Function, Url, Delim}
use Rattle.css_tokens.specs.declared.component.Component.{Component}
use Rattle.css_tokens.specs.Piece.{Piece}
use Rattle.css_tokens.specs.Names.{name_of_word}
use Rattle.css_tokens.specs.Trees.{pieces_all, is_text}
use Rattle.selector_tree.specs.Signs.{is_comment_kind}
use Rattle.css_rules.specs.declared.refusal.Cause.{Cause}
use Rattle.css_rules.specs.declared.refusal.Cause.TheVariants.{Unbuilt, LateImport, Syntax}
use Rattle.css_rules.specs.declared.refusal.Refusal.{Refusal}
use Rattle.css_rules.specs.declared.refusal.Sought.{Sought}
use Rattle.css_rules.specs.declared.refusal.Sought.TheVariants.{RevertLayer, RevertLayerOrUrl}
use Rattle.css_components.specs.Components.{is_colon_kind, is_custom, is_keyword}

-- it cannot be read, at this place
abbrev pub syntax : ℕ → Refusal
syntax at = record { at = at; cause = Syntax }

-- it is not built yet, at this place
abbrev pub unbuilt : ℕ → Refusal
unbuilt at = record { at = at; cause = Unbuilt }

-- it is an import that stands too late, at this place
abbrev pub late_import : ℕ → Refusal
late_import at = record { at = at; cause = LateImport }

-- The order of causes. Of two at one place the lower is named: what is not built yet, then an import that stands too late, and then what cannot be read.
abbrev pub rank : Cause → ℕ
rank Unbuilt = 0
rank LateImport = 1
rank Syntax = 2

-- The order of refusals: by place, and at one place by cause.
abbrev pub leads : Refusal → Refusal → Bool
leads r s = nat_lt r.at s.at || (nat_eq r.at s.at && nat_le (rank r.cause) (rank s.cause))

-- of two refusals the one that is named
abbrev pub sooner : Refusal → Refusal → Refusal
sooner r s = if leads r s then r else s

-- the refusal that is named of two, each of which may be missing
abbrev pub sooner_of : Option Refusal → Option Refusal → Option Refusal
sooner_of None other = other
sooner_of (Some a) None = Some a
sooner_of (Some a) (Some b) = Some (sooner a b)

-- of all these refusals the one that is named, where there is any: the first in their order
abbrev pub first_refusal : List Refusal → Option Refusal
first_refusal [] = None
first_refusal (refusal ∷ refusals) = sooner_of (Some refusal) (first_refusal refusals)

-- the nesting selector `&` (CSS Nesting 1, section 3)
abbrev pub is_ampersand : Kind → List ℕ → Bool
is_ampersand Delim text = is_text text (codes "&")
is_ampersand _ text = false

-- a Function named `is`, in any case of letters (Selectors 4, section 4.2)
abbrev pub is_is : Kind → List ℕ → Bool
is_is Function text = is_keyword (codes "is") (name_of_word Function text)
is_is _ text = false

-- Do the tokens begin with a Function named `is`? A comment counts as nothing.
abbrev pub begins_is : List Piece → Bool
begins_is [] = false
begins_is (token ∷ tokens) = if is_comment_kind token.kind then begins_is tokens else is_is token.kind token.text

-- does this token, with these behind it, wait for a later stage: is it `&`, or the colon of `:is(`?
abbrev pub waits_before : Piece → List Piece → Bool
waits_before token tokens = is_ampersand token.kind token.text || (is_colon_kind token.kind && begins_is tokens)

-- the first token that waits so
abbrev pub first_waiting : List Piece → Option Piece
first_waiting [] = None
first_waiting (token ∷ tokens) = if waits_before token tokens then Some token else first_waiting tokens

-- Does a token of the components wait so, at any depth?
abbrev pub has_waiting : List Component → Bool
has_waiting cs = is_some (first_waiting (pieces_all cs))

-- the keyword `revert-layer`, in any case of letters (CSS Cascading 5, section 7.3.5)
abbrev pub is_revert_layer : Kind → List ℕ → Bool
is_revert_layer Ident text = is_keyword (codes "revert-layer") (name_of_word Ident text)
is_revert_layer _ text = false

-- a Url, or a Function named `url` in any case of letters (CSS Syntax 3, section 4.3.4)
abbrev pub is_url : Kind → List ℕ → Bool
is_url Url text = true
is_url Function text = is_keyword (codes "url") (name_of_word Function text)
is_url _ text = false

-- is it a token of this construct, which is not built yet?
abbrev pub is_sought : Sought → Piece → Bool
is_sought RevertLayer token = is_revert_layer token.kind token.text
is_sought RevertLayerOrUrl token = is_revert_layer token.kind token.text || is_url token.kind token.text

-- is it among the tokens of these components, at any depth?
abbrev pub has_sought : Sought → List Component → Bool
has_sought sought cs = list_any (is_sought sought) (pieces_all cs)

-- what is not built yet in the value of a property of this name
abbrev pub sought_for : List ℕ → Sought
sought_for name = if is_custom name then RevertLayer else RevertLayerOrUrl

-- the refusal of this token as not built yet, where there is a token
abbrev pub unbuilt_at : Option Piece → List Refusal
unbuilt_at None = []
unbuilt_at (Some token) = unbuilt token.at ∷ []

-- the refusal at the first such token of these components, at any depth, where there is one
abbrev pub sought_in : Sought → List Component → List Refusal
sought_in sought cs = unbuilt_at (find (is_sought sought) (pieces_all cs))

-- the refusal at the first token of a prelude that waits for a later stage, at any depth, where there is one
abbrev pub waiting_in : List Component → List Refusal
waiting_in cs = unbuilt_at (first_waiting (pieces_all cs))

-- does the text hold the word?
abbrev pub holds : List ℕ → List ℕ → Bool
holds word [] = starts_with nat_eq [] word
holds word (c ∷ text) = starts_with nat_eq (c ∷ text) word || holds word text

-- The properties that later stages rewrite (CSS Logical 1), told by the name alone: each name that holds `inline` or `block` counts, a custom one too.
abbrev pub is_unbuilt_property : List ℕ → Bool
is_unbuilt_property name =
    holds (codes "inline") name || (holds (codes "block") name || (starts_with nat_eq name (codes "inset")
    || (starts_with nat_eq name (codes "border-start-") || (starts_with nat_eq name (codes "border-end-")
    || (is_text name (codes "float") || (is_text name (codes "clear") || (is_text name (codes "resize") || is_text name (codes "composes"))))))))
