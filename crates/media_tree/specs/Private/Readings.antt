-- Conditions, queries and lists that are read from left to right (Media Queries 4, section 3).
use Rattle.std.specs.Prelude.{ℕ, List, [], ◌∷◌, ◌++◌, Option, Some, None, if◌then◌else◌}
use Rattle.std.specs.List.{list_any}
use Rattle.std.specs.Option.{option_map}
use Rattle.media_spelling.specs.declared.condition.Condition.{Condition}
use Rattle.media_spelling.specs.declared.condition.Prefix.{Prefix}
use Rattle.media_spelling.specs.declared.condition.Prefix.TheVariants as prefixes
use Rattle.media_spelling.specs.declared.condition.Query.{Query}
use Rattle.media_tree.specs.declared.sign.Sign.{Sign}
use Rattle.media_tree.specs.declared.sign.Sign.TheVariants.{Gap, Comma, Not, Only, And, Or, Name, Within, Other}
use Rattle.media_tree.specs.declared.reading.Reading.{Reading}
use Rattle.media_tree.specs.declared.reading.Reading.TheVariants as readings
use Rattle.media_tree.specs.declared.query.Pending.{Pending}
use Rattle.media_tree.specs.declared.query.Pending.TheVariants as pendings
use Rattle.media_tree.specs.declared.query.Listing.{Listing}
use Rattle.media_tree.specs.declared.query.Listing.TheVariants as listings
use Rattle.media_tree.specs.Conditions.{Makes, and_row, condition_of, or_row}
use Rattle.media_tree.specs.Queries.{Members, all_queries, conjunction_of, is_or, makes, members_of, queries_of, query_before, query_of, typed, with_condition}

module _ {C : Type 0} where
  -- what `not` makes of a condition that is being read
  abbrev pub on_not : Reading C → Reading C
  on_not readings.Begin = readings.Negative
  on_not r = readings.Failed

  -- what `and` makes of it
  abbrev pub on_and : Reading C → Reading C
  on_and (readings.Lone c) = readings.AndDue (c ∷ [])
  on_and (readings.AndRow cs) = readings.AndDue cs
  on_and r = readings.Failed

  -- what `or` makes of it
  abbrev pub on_or : Reading C → Reading C
  on_or (readings.Lone c) = readings.OrDue (c ∷ [])
  on_or (readings.OrRow cs) = readings.OrDue cs
  on_or r = readings.Failed

  -- what a condition in parentheses makes of it
  abbrev pub on_within : C → Reading C → Reading C
  on_within c readings.Begin = readings.Lone c
  on_within c readings.Negative = readings.Negation c
  on_within c (readings.AndDue cs) = readings.AndRow (cs ++ c ∷ [])
  on_within c (readings.OrDue cs) = readings.OrRow (cs ++ c ∷ [])
  on_within c r = readings.Failed

  -- what one more sign makes of it
  abbrev pub step : Sign C → Reading C → Reading C
  step Gap r = r
  step Not r = on_not r
  step And r = on_and r
  step Or r = on_or r
  step (Within c) r = on_within c r
  step w r = readings.Failed

  -- the condition, where it may end here
  abbrev pub finished : Makes C → Reading C → Option C
  finished m (readings.Lone c) = Some c
  finished m (readings.Negation c) = Some (m.not_of c)
  finished m (readings.AndRow cs) = Some (m.and_of cs)
  finished m (readings.OrRow cs) = Some (m.or_of cs)
  finished m r = None

  -- the condition of what is read and these signs behind it, none of which is white space or a comment
  abbrev pub continued : Makes C → Reading C → List (Sign C) → Option C
  continued m readings.Begin ws = condition_of m ws
  continued m readings.Negative ws = condition_of m (Not ∷ ws)
  continued m (readings.Negation c) ws = condition_of m (Not ∷ Within c ∷ ws)
  continued m (readings.Lone c) ws = condition_of m (Within c ∷ ws)
  continued m (readings.AndRow cs) ws = option_map (λ ds. m.and_of (cs ++ ds)) (and_row ws)
  continued m (readings.AndDue cs) ws = option_map (λ ds. m.and_of (cs ++ ds)) (and_row (And ∷ ws))
  continued m (readings.OrRow cs) ws = option_map (λ ds. m.or_of (cs ++ ds)) (or_row ws)
  continued m (readings.OrDue cs) ws = option_map (λ ds. m.or_of (cs ++ ds)) (or_row (Or ∷ ws))
  continued m readings.Failed ws = None

-- what one more sign makes of a query of which nothing is read
abbrev pub start_step : Sign Condition → Pending
start_step Not = pendings.Negative
start_step Only = pendings.Only
start_step (Name media) = pendings.Typed prefixes.Plain media
start_step w = pendings.Untyped (step w readings.Begin)

-- the same behind `not`
abbrev pub negative_step : Sign Condition → Pending
negative_step (Name media) = pendings.Typed prefixes.Not media
negative_step w = pendings.Untyped (step w readings.Negative)

-- the same behind `only`
abbrev pub only_step : Sign Condition → Pending
only_step (Name media) = pendings.Typed prefixes.Only media
only_step w = pendings.Failed

-- the same behind a media type
abbrev pub typed_step : Prefix → List ℕ → Sign Condition → Pending
typed_step prefix media And = pendings.Both prefix media readings.Begin
typed_step prefix media w = pendings.Failed

-- the same behind a media type and `and`
abbrev pub both_step : Prefix → List ℕ → Reading Condition → Sign Condition → Pending
both_step prefix media r Or = pendings.Failed
both_step prefix media r w = pendings.Both prefix media (step w r)

-- what one more sign that is neither white space nor a comment makes of a query that is being read
abbrev pub query_step : Sign Condition → Pending → Pending
query_step w pendings.Start = start_step w
query_step w pendings.Negative = negative_step w
query_step w pendings.Only = only_step w
query_step w (pendings.Typed prefix media) = typed_step prefix media w
query_step w (pendings.Both prefix media r) = both_step prefix media r w
query_step w (pendings.Untyped r) = pendings.Untyped (step w r)
query_step w pendings.Failed = pendings.Failed

-- the query, where it may end here
abbrev pub query_end : Pending → Option Query
query_end (pendings.Typed prefix media) = Some (record { prefix = prefix; media = Some media; condition = None })
query_end (pendings.Both prefix media r) = with_condition prefix (Some media) (finished makes r)
query_end (pendings.Untyped r) = with_condition prefixes.Plain None (finished makes r)
query_end p = None

-- the query of what is read and these signs behind it
abbrev pub query_from : Pending → List (Sign Condition) → Option Query
query_from pendings.Start ws = query_of ws
query_from pendings.Negative ws = query_of (Not ∷ ws)
query_from pendings.Only ws = query_of (Only ∷ ws)
query_from (pendings.Typed prefix media) ws = typed prefix media ws
query_from (pendings.Both prefix media r) ws = with_condition prefix (Some media) (if list_any is_or ws then None else continued makes r ws)
query_from (pendings.Untyped r) ws = with_condition prefixes.Plain None (continued makes r ws)
query_from pendings.Failed ws = None

-- the list with one more query, and a fresh one; a list of which a query fails has failed
abbrev pub with_query : List Query → Option Query → Listing
with_query list None = listings.Begun list pendings.Failed
with_query list (Some q) = listings.Begun (list ++ q ∷ []) pendings.Start

-- what one more sign makes of a list of which something is read: at a comma the query has to end
abbrev pub begun_step : List Query → Pending → Sign Condition → Listing
begun_step list p Gap = listings.Begun list p
begun_step list p Comma = with_query list (query_end p)
begun_step list p w = listings.Begun list (query_step w p)

-- what one more sign makes of a list of which nothing is read
abbrev pub empty_step : Sign Condition → Listing
empty_step Gap = listings.Empty
empty_step w = begun_step [] pendings.Start w

-- what one more sign makes of a list that is being read
abbrev pub list_step : Sign Condition → Listing → Listing
list_step w listings.Empty = empty_step w
list_step w (listings.Begun list p) = begun_step list p w

-- the list with one more query at its end, where there is one
abbrev pub ended : List Query → Option Query → Option (List Query)
ended list None = None
ended list (Some q) = Some (list ++ q ∷ [])

-- the list, where its last query may end here
abbrev pub list_end : Listing → Option (List Query)
list_end listings.Empty = Some []
list_end (listings.Begun list p) = ended list (query_end p)

-- the queries of the pending one and the signs behind it
abbrev pub queries_from : Pending → List (Sign Condition) → Option (List Query)
queries_from p ws = query_before (query_from p (members_of ws).first) (all_queries (members_of ws).rest)

-- the list of what is read and these signs behind it
abbrev pub list_from : Listing → List (Sign Condition) → Option (List Query)
list_from listings.Empty ws = queries_of ws
list_from (listings.Begun list p) ws = option_map (λ qs. list ++ qs) (queries_from p ws)
