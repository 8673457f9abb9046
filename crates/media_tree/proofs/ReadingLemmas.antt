-- A condition, a query and a list that are read from left to right are those that the grammar gives.
use Rattle.std.proofs.Common.{◌≡◌, ℕ, List, [], ◌∷◌, ◌++◌, Bool, true, false, refl, sym, ap, ◌∙◌, append_assoc}
use Rattle.std.specs.Prelude.{Option, Some, None, if◌then◌else◌}
use Rattle.std.specs.List.{list_any}
use Rattle.std.specs.Option.{option_map}
use Rattle.std.proofs.lemmas.Bool.{false≢true}
use Rattle.std.proofs.lemmas.List.{append-nil}
use Rattle.media_spelling.specs.declared.condition.Condition.{Condition}
use Rattle.media_spelling.specs.declared.condition.Prefix.TheVariants as prefixes
use Rattle.media_spelling.specs.declared.condition.Query.{Query}
use Rattle.media_tree.specs.declared.sign.Sign.{Sign}
use Rattle.media_tree.specs.declared.sign.Sign.TheVariants.{Gap, Comma, Not, Only, And, Or, Name, Within, Other}
use Rattle.media_tree.specs.declared.reading.Reading.{Reading}
use Rattle.media_tree.specs.declared.reading.Reading.TheVariants as readings
use Rattle.media_tree.specs.declared.query.Pending.{Pending}
use Rattle.media_tree.specs.declared.query.Pending.TheVariants as pendings
use Rattle.media_tree.specs.declared.query.Listing.{Listing}
use Rattle.media_tree.specs.declared.query.Listing.TheVariants as listings
use Rattle.media_tree.specs.Conditions.{Makes, and_row, condition_of, or_row, solid}
use Rattle.media_tree.specs.Queries.{all_queries, is_or, makes, members_of, queries_of, query_before, query_of, with_condition}
use Rattle.media_tree.specs.Private.Readings.{begun_step, continued, empty_step, ended, finished, list_end, list_from, list_step, queries_from, query_end, query_from, query_step, step, with_query}

module _ {C : Type 0} where
  -- neither white space nor a comment
  abbrev pub is_solid : Sign C → Bool
  is_solid Gap = false
  is_solid w = true

  and-more : (m : Makes C) (cs : List C) (c : C) (o : Option (List C)) → option_map (λ ds. m.and_of ((cs ++ c ∷ []) ++ ds)) o ≡ option_map (λ ds. m.and_of (cs ++ ds)) (option_map (λ ds. c ∷ ds) o)
  and-more m cs c None = refl
  and-more m cs c (Some ds) = ap (λ (xs : List C). Some (m.and_of xs)) (append_assoc cs (c ∷ []) ds)

  or-more : (m : Makes C) (cs : List C) (c : C) (o : Option (List C)) → option_map (λ ds. m.or_of ((cs ++ c ∷ []) ++ ds)) o ≡ option_map (λ ds. m.or_of (cs ++ ds)) (option_map (λ ds. c ∷ ds) o)
  or-more m cs c None = refl
  or-more m cs c (Some ds) = ap (λ (xs : List C). Some (m.or_of xs)) (append_assoc cs (c ∷ []) ds)

  -- one more sign of a condition
  pub turn : (m : Makes C) (w : Sign C) (r : Reading C) (ws : List (Sign C)) → is_solid w ≡ true → continued m (step w r) ws ≡ continued m r (w ∷ ws)
  turn m Gap r ws h = absurd (false≢true h)
  turn m (Within c) (readings.AndDue cs) ws h = and-more m cs c (and_row ws)
  turn m (Within c) (readings.OrDue cs) ws h = or-more m cs c (or_row ws)
  turn m (Within c) r ws h = refl
  turn m Comma readings.Begin ws h = refl
  turn m Comma r ws h = refl
  turn m Not readings.Begin ws h = refl
  turn m Not r ws h = refl
  turn m Only readings.Begin ws h = refl
  turn m Only r ws h = refl
  turn m And readings.Begin ws h = refl
  turn m And r ws h = refl
  turn m Or readings.Begin ws h = refl
  turn m Or r ws h = refl
  turn m (Name n) readings.Begin ws h = refl
  turn m (Name n) r ws h = refl
  turn m Other readings.Begin ws h = refl
  turn m Other r ws h = refl

  -- the same, where white space and comments are left out
  pub step-reads : (m : Makes C) (w : Sign C) (r : Reading C) (ws : List (Sign C)) → continued m (step w r) (solid ws) ≡ continued m r (solid (w ∷ ws))
  step-reads m Gap r ws = refl
  step-reads m w r ws = turn m w r (solid ws) refl

  -- the end of a condition
  pub end-reads : (m : Makes C) (r : Reading C) → finished m r ≡ continued m r []
  end-reads m (readings.AndRow cs) = ap (λ (xs : List C). Some (m.and_of xs)) (sym (append-nil cs))
  end-reads m (readings.OrRow cs) = ap (λ (xs : List C). Some (m.or_of xs)) (sym (append-nil cs))
  end-reads m r = refl

-- one more sign of a query
query-reads : (w : Sign Condition) (p : Pending) (ws : List (Sign Condition)) → is_solid w ≡ true → query_from (query_step w p) ws ≡ query_from p (w ∷ ws)
query-reads Gap p ws h = absurd (false≢true h)
query-reads Or (pendings.Both prefix media r) ws h = refl
query-reads w (pendings.Both prefix media r) ws h = ap (λ (o : Option Condition). with_condition prefix (Some media) (if list_any is_or ws then None else o)) (turn makes w r ws h)
query-reads w (pendings.Untyped r) ws h = ap (λ (o : Option Condition). with_condition prefixes.Plain None o) (turn makes w r ws h)
query-reads w p ws h = refl

-- the end of a query
query-ends : (p : Pending) → query_end p ≡ query_from p []
query-ends (pendings.Both prefix media r) = ap (λ (o : Option Condition). with_condition prefix (Some media) o) (end-reads makes r)
query-ends (pendings.Untyped r) = ap (λ (o : Option Condition). with_condition prefixes.Plain None o) (end-reads makes r)
query-ends p = refl

-- a query and the list behind it, where the list is read or not
list-more : (list : List Query) (q : Query) (o : Option (List Query)) → option_map (λ qs. (list ++ q ∷ []) ++ qs) o ≡ option_map (λ qs. list ++ qs) (option_map (λ qs. q ∷ qs) o)
list-more list q None = refl
list-more list q (Some qs) = ap (λ (xs : List Query). Some xs) (append_assoc list (q ∷ []) qs)

comma-at : (list : List Query) (o : Option Query) (ws : List (Sign Condition)) → list_from (with_query list o) ws ≡ option_map (λ qs. list ++ qs) (query_before o (queries_from pendings.Start ws))
comma-at list None ws = refl
comma-at list (Some q) ws = list-more list q (queries_from pendings.Start ws)

-- one more sign of a list of which something is read
begun-reads : (list : List Query) (p : Pending) (w : Sign Condition) (ws : List (Sign Condition)) → list_from (begun_step list p w) (solid ws) ≡ option_map (λ qs. list ++ qs) (queries_from p (solid (w ∷ ws)))
begun-reads list p Gap ws = refl
begun-reads list p Comma ws = comma-at list (query_end p) (solid ws) ∙ ap (λ (o : Option Query). option_map (λ qs. list ++ qs) (query_before o (queries_from pendings.Start (solid ws)))) (query-ends p)
begun-reads list p w ws = ap (λ (o : Option Query). option_map (λ qs. list ++ qs) (query_before o (all_queries (members_of (solid ws)).rest))) (query-reads w p (members_of (solid ws)).first refl)

behind-none : (o : Option (List Query)) → option_map (λ qs. [] ++ qs) o ≡ o
behind-none None = refl
behind-none (Some qs) = refl

empty-reads : (w : Sign Condition) (ws : List (Sign Condition)) → list_from (empty_step w) (solid ws) ≡ queries_of (solid (w ∷ ws))
empty-reads Gap ws = refl
empty-reads w ws = begun-reads [] pendings.Start w ws ∙ behind-none (queries_from pendings.Start (solid (w ∷ ws)))

-- one more sign of a list
pub list-reads : (w : Sign Condition) (l : Listing) (ws : List (Sign Condition)) → list_from (list_step w l) (solid ws) ≡ list_from l (solid (w ∷ ws))
list-reads w listings.Empty ws = empty-reads w ws
list-reads w (listings.Begun list p) ws = begun-reads list p w ws

ended-at : (list : List Query) (o : Option Query) → ended list o ≡ option_map (λ qs. list ++ qs) (query_before o (Some []))
ended-at list None = refl
ended-at list (Some q) = refl

-- the end of a list
pub list-ends : (l : Listing) → list_end l ≡ list_from l []
list-ends listings.Empty = refl
list-ends (listings.Begun list p) = ended-at list (query_end p) ∙ ap (λ (o : Option Query). option_map (λ qs. list ++ qs) (query_before o (Some []))) (query-ends p)
