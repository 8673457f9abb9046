-- Media query lists as they are read (Media Queries 4, section 3).
use Rattle.std.specs.Prelude.{ℕ, List, [], ◌∷◌, map, Bool, true, false, ◌&&◌, codes, Option, Some, None, if◌then◌else◌}
use Rattle.std.specs.List.{list_any}
use Rattle.std.specs.Option.{option_map, option_or}
use Rattle.css_tokens.specs.declared.component.Component.{Component}
use Rattle.css_tokens.specs.declared.component.Block as block
use Rattle.css_tokens.specs.Trees.{is_text}
use Rattle.media_spelling.specs.declared.condition.Condition.{Condition}
use Rattle.media_spelling.specs.declared.condition.Condition as condition
use Rattle.media_spelling.specs.declared.condition.Prefix.{Prefix}
use Rattle.media_spelling.specs.declared.condition.Prefix.TheVariants as prefixes
use Rattle.media_spelling.specs.declared.condition.Query.{Query}
use Rattle.media_tree.specs.declared.sign.Sign.{Sign}
use Rattle.media_tree.specs.declared.sign.Sign.TheVariants.{Comma, Not, Only, And, Or, Name, Other}
use Rattle.media_tree.specs.ComponentSigns as component_signs
use Rattle.media_tree.specs.Conditions.{Makes, condition_of, solid, token_sign, within}
use Rattle.media_tree.specs.Features.{feature_of}
use Rattle.media_tree.specs.Marks.{is_open_kind}

-- media conditions
abbrev pub makes : Makes Condition
makes = record { and_of = λ cs. condition.And cs; or_of = λ cs. condition.Or cs; not_of = λ c. condition.Not c }

-- What stands in parentheses: a condition, or a media feature. A condition in further parentheses is that condition.
abbrev pub inside_of : List Component → List (Sign Condition) → Option Condition
inside_of cs ws = option_or (condition_of makes (solid ws)) (feature_of cs)

-- is it a block in parentheses, and no Function?
abbrev pub is_parens : block.Block → Bool
is_parens b = is_open_kind b.opening.kind && is_text b.opening.text (codes "(")

-- the sign of a block
abbrev pub block_sign : block.Block → List (Sign Condition) → Sign Condition
block_sign b ws = if is_parens b then within (inside_of b.items ws) else Other

-- what a component value is to the grammar of media queries
abbrev pub sign_of : Component → Sign Condition
sign_of = component_signs.sign_of token_sign block_sign

-- Queries. Their signs hold no white space, comment or comma.

-- the query with this condition, where there is one
abbrev pub with_condition : Prefix → Option (List ℕ) → Option Condition → Option Query
with_condition prefix media None = None
with_condition prefix media (Some c) = Some (record { prefix = prefix; media = media; condition = Some c })

-- is it `or`?
abbrev pub is_or : Sign Condition → Bool
is_or Or = true
is_or w = false

-- the condition behind a media type: no `or` stands there outside parentheses
abbrev pub conjunction_of : List (Sign Condition) → Option Condition
conjunction_of ws = if list_any is_or ws then None else condition_of makes ws

-- the query of this prefix and media type, and perhaps a condition behind `and`
abbrev pub typed : Prefix → List ℕ → List (Sign Condition) → Option Query
typed prefix media [] = Some (record { prefix = prefix; media = Some media; condition = None })
typed prefix media (And ∷ ws) = with_condition prefix (Some media) (conjunction_of ws)
typed prefix media ws = None

-- A query begins with a media type, which may have a prefix; or it is a condition.
abbrev pub query_of : List (Sign Condition) → Option Query
query_of (Not ∷ Name media ∷ ws) = typed prefixes.Not media ws
query_of (Only ∷ Name media ∷ ws) = typed prefixes.Only media ws
query_of (Name media ∷ ws) = typed prefixes.Plain media ws
query_of ws = with_condition prefixes.Plain None (condition_of makes ws)

-- Lists.

-- what stands before the first comma, and what stands behind each comma up to the next
pub record Members : Type 0 where
  pub first : List (Sign Condition)
  pub rest : List (List (Sign Condition))

-- the signs cut at their commas
abbrev pub members_of : List (Sign Condition) → Members
members_of [] = record { first = []; rest = [] }
members_of (Comma ∷ ws) = record { first = []; rest = (members_of ws).first ∷ (members_of ws).rest }
members_of (w ∷ ws) = record { first = w ∷ (members_of ws).first; rest = (members_of ws).rest }

-- the queries with one more in front, where there are both
abbrev pub query_before : Option Query → Option (List Query) → Option (List Query)
query_before None qs = None
query_before (Some q) qs = option_map (λ rs. q ∷ rs) qs

-- the queries that all of these members are
abbrev pub all_queries : List (List (Sign Condition)) → Option (List Query)
all_queries [] = Some []
all_queries (ws ∷ members) = query_before (query_of ws) (all_queries members)

-- A list is empty, or has queries with commas between them.
abbrev pub queries_of : List (Sign Condition) → Option (List Query)
queries_of [] = Some []
queries_of (w ∷ ws) = query_before (query_of (members_of (w ∷ ws)).first) (all_queries (members_of (w ∷ ws)).rest)

-- The media query list that component values spell, where they spell one.
abbrev pub queries_reading : List Component → Option (List Query)
queries_reading cs = queries_of (solid (map sign_of cs))
