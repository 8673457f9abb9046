-- A media query list that is spelled out is read as it.
use Rattle.std.proofs.Common.{◌≡◌, ℕ, List, [], ◌∷◌, ◌++◌, map, Bool, true, false, ◌&&◌, ◌||◌, not, refl, sym, ap, ◌∙◌, subst}
use Rattle.std.specs.Prelude.{Option, Some, None, codes, flat_map, if◌then◌else◌}
use Rattle.std.specs.List.{list_all, list_any}
use Rattle.std.proofs.lemmas.Bool.{and_parts, false≢true}
use Rattle.std.proofs.lemmas.List.{append-nil}
use Rattle.css_tokens.specs.declared.kind.Kind.TheVariants as kinds
use Rattle.css_tokens.specs.declared.component.Component.{Component}
use Rattle.css_tokens.specs.Names.{is_name, name_of_word}
use Rattle.css_tokens.specs.NameText.{name_text}
use Rattle.css_tokens.specs.Trees.{is_text}
use Rattle.media_spelling.specs.declared.condition.Condition.{Condition}
use Rattle.media_spelling.specs.declared.condition.Prefix.{Prefix}
use Rattle.media_spelling.specs.declared.condition.Prefix.TheVariants as prefixes
use Rattle.media_spelling.specs.declared.condition.Query.{Query}
use Rattle.media_tree.specs.declared.sign.Sign.{Sign}
use Rattle.media_tree.specs.declared.sign.Sign.TheVariants.{Gap, Comma, Not, Only, And, Or, Name, Within, Other}
use Rattle.media_spelling.specs.Components.{comma, ident, keyword, space}
use Rattle.media_tree.specs.Conditions.{condition_of, name_sign, solid}
use Rattle.media_tree.specs.Marks.{lowered}
use Rattle.media_tree.specs.Queries.{Members, all_queries, conjunction_of, makes, members_of, queries_of, queries_reading, query_before, query_of, sign_of, typed, with_condition}
use Rattle.media_tree.specs.ReadableQueries.{are_readable_queries, barred_types, is_lower_name, is_readable_behind, is_readable_condition, is_readable_query, is_readable_type, is_readable_typed}
use Rattle.media_spelling.specs.Spelling.{condition_spelling, more_spelling, prefix_spelling, queries_spelling, query_spelling, spelled_condition, typed_spelling}
use Rattle.media_tree.proofs.ConditionsAgain.{Holds, Leaves, conditions-again, is_comma, sign-and, sign-comma, sign-not, sign-only, sign-space, signs-append, signs-cons, signs_of}
use Rattle.media_tree.proofs.SignEquations.{query-Single}
use Rattle.media_tree.proofs.TextLemmas.{same-text}

-- the text of a name means that name
abbrev pub Means : Type 0
Means = (n : List ℕ) → is_name n ≡ true → name_of_word kinds.Ident (name_text n) ≡ n

-- the sign of a name in lower case
pub sign-ident : Means → (n : List ℕ) → is_lower_name n ≡ true → sign_of (ident n) ≡ name_sign n
sign-ident means n h =
    (let p = and_parts (is_name n) (is_text (lowered n) n) h in
    query-Single (record { kind = kinds.Ident; text = name_text n; at = 0 })
    ∙ ap (λ (m : List ℕ). name_sign (lowered m)) (means n p.0)
    ∙ ap (λ (m : List ℕ). name_sign m) (same-text (lowered n) n p.1))

-- the sign of a name that is one of five keywords or none
abbrev keyword_or : List ℕ → Bool → Bool → Bool → Bool → Bool → Sign Condition
keyword_or n a b c d e = if a then Not else (if b then Only else (if c then And else (if d then Or else (if e then Other else Name n))))

name-at : (n : List ℕ) (a b c d e : Bool) → not (a || (b || (c || (d || (e || false))))) ≡ true → keyword_or n a b c d e ≡ Name n
name-at n true b c d e h = absurd (false≢true h)
name-at n false true c d e h = absurd (false≢true h)
name-at n false false true d e h = absurd (false≢true h)
name-at n false false false true e h = absurd (false≢true h)
name-at n false false false false true h = absurd (false≢true h)
name-at n false false false false false h = refl

-- the sign of a media type
sign-type : Means → (n : List ℕ) → is_readable_type n ≡ true → sign_of (ident n) ≡ Name n
sign-type means n h =
    (let p = and_parts (is_lower_name n) (not (list_any (is_text n) barred_types)) h in
    sign-ident means n p.0
    ∙ name-at n (is_text n (codes "not")) (is_text n (codes "only")) (is_text n (codes "and")) (is_text n (codes "or")) (is_text n (codes "layer")) p.1)

-- Queries.

-- a query that is a condition
query-of-condition : (ws : List (Sign Condition)) (c : Condition) → condition_of makes ws ≡ Some c → query_of ws ≡ Some (record { prefix = prefixes.Plain; media = None; condition = Some c })
query-of-condition (Not ∷ Name m ∷ ws) c e = cc
query-of-condition (Only ∷ Name m ∷ ws) c e = cc
query-of-condition (Name m ∷ ws) c e = cc
query-of-condition ws c e = ap (λ (o : Option Condition). with_condition prefixes.Plain None o) e

-- it is read as this query, and there is no comma outside parentheses
record QueryHolds (q : Query) : Type 0 where
  read : query_of (signs_of (query_spelling q)) ≡ Some q
  quiet : list_any is_comma (signs_of (query_spelling q)) ≡ false

-- the signs of a prefix
abbrev prefix_signs : Prefix → List (Sign Condition)
prefix_signs prefixes.Plain = []
prefix_signs prefixes.Not = Not ∷ []
prefix_signs prefixes.Only = Only ∷ []

signs-prefix : (p : Prefix) → signs_of (prefix_spelling p) ≡ prefix_signs p
signs-prefix prefixes.Plain = refl
signs-prefix prefixes.Not = signs-append (keyword (codes "not") ∷ []) (space ∷ []) ∙ ap (λ (ws : List (Sign Condition)). ws ++ signs_of (space ∷ [])) (signs-cons (keyword (codes "not")) Not [] sign-not) ∙ ap (λ (ws : List (Sign Condition)). Not ∷ ws) (signs-cons space Gap [] sign-space)
signs-prefix prefixes.Only = signs-append (keyword (codes "only") ∷ []) (space ∷ []) ∙ ap (λ (ws : List (Sign Condition)). ws ++ signs_of (space ∷ [])) (signs-cons (keyword (codes "only")) Only [] sign-only) ∙ ap (λ (ws : List (Sign Condition)). Only ∷ ws) (signs-cons space Gap [] sign-space)

read-typed : (p : Prefix) (m : List ℕ) (ws : List (Sign Condition)) → query_of (prefix_signs p ++ Name m ∷ ws) ≡ typed p m ws
read-typed prefixes.Plain m ws = refl
read-typed prefixes.Not m ws = refl
read-typed prefixes.Only m ws = refl

quiet-typed : (p : Prefix) (m : List ℕ) (ws : List (Sign Condition)) → list_any is_comma (prefix_signs p ++ Name m ∷ ws) ≡ list_any is_comma ws
quiet-typed prefixes.Plain m ws = refl
quiet-typed prefixes.Not m ws = refl
quiet-typed prefixes.Only m ws = refl

-- a query with a media type, from the signs behind it
typed-holds : (p : Prefix) (m : List ℕ) (c : Option Condition) (rest : List Component) (ws : List (Sign Condition)) → sign_of (ident m) ≡ Name m
    → typed_spelling (Some m) c ≡ ident m ∷ rest → signs_of rest ≡ ws → typed p m ws ≡ Some (record { prefix = p; media = Some m; condition = c }) → list_any is_comma ws ≡ false
    → QueryHolds (record { prefix = p; media = Some m; condition = c })
typed-holds p m c rest ws name spelled signs e quiet =
    (let all : signs_of (prefix_spelling p ++ typed_spelling (Some m) c) ≡ prefix_signs p ++ Name m ∷ ws =
    signs-append (prefix_spelling p) (typed_spelling (Some m) c)
    ∙ ap (λ (vs : List (Sign Condition)). vs ++ signs_of (typed_spelling (Some m) c)) (signs-prefix p)
    ∙ ap (λ (cs : List Component). prefix_signs p ++ signs_of cs) spelled
    ∙ ap (λ (vs : List (Sign Condition)). prefix_signs p ++ vs) (signs-cons (ident m) (Name m) rest name ∙ ap (λ (vs : List (Sign Condition)). Name m ∷ vs) signs) in
    record {
      read = ap query_of all ∙ read-typed p m ws ∙ e;
      quiet = ap (list_any is_comma) all ∙ quiet-typed p m ws ∙ quiet;
    })

-- the signs of `and` and a condition behind a media type
and-behind : (cs : List Component) → signs_of (space ∷ keyword (codes "and") ∷ space ∷ cs) ≡ And ∷ signs_of cs
and-behind cs =
    signs-cons space Gap (keyword (codes "and") ∷ space ∷ cs) sign-space
    ∙ signs-append (keyword (codes "and") ∷ []) (space ∷ cs)
    ∙ ap (λ (ws : List (Sign Condition)). ws ++ signs_of (space ∷ cs)) (signs-cons (keyword (codes "and")) And [] sign-and)
    ∙ ap (λ (ws : List (Sign Condition)). And ∷ ws) (signs-cons space Gap cs sign-space)

untyped-holds : (c : Condition) → Holds (spelled_condition c) c → QueryHolds (record { prefix = prefixes.Plain; media = None; condition = Some c })
untyped-holds c h = record { read = query-of-condition (signs_of (condition_spelling c)) c h.alone; quiet = h.alone_quiet }

both-holds : (p : Prefix) (m : List ℕ) (c : Condition) → sign_of (ident m) ≡ Name m → Holds (spelled_condition c) c → QueryHolds (record { prefix = p; media = Some m; condition = Some c })
both-holds p m c name h =
    (let behind = (spelled_condition c).behind in
    typed-holds p m (Some c) (space ∷ keyword (codes "and") ∷ space ∷ behind) (And ∷ signs_of behind) name refl (and-behind behind)
    (ap (λ (o : Option Condition). with_condition p (Some m) o) h.behind) h.behind_quiet)

module _ (means : Means) (leaves : Leaves) where
  typed-again : (p : Prefix) (media : Option (List ℕ)) (c : Option Condition) → is_readable_typed p media c ≡ true → QueryHolds (record { prefix = p; media = media; condition = c })
  typed-again p (Some m) None r =
      (let q = and_parts (is_readable_type m) true r in
      typed-holds p m None [] [] (sign-type means m q.0) refl refl refl refl)
  typed-again p (Some m) (Some c) r =
      (let q = and_parts (is_readable_type m) (is_readable_condition c) r in
      both-holds p m c (sign-type means m q.0) (conditions-again leaves c q.1))
  typed-again prefixes.Plain None (Some c) r = untyped-holds c (conditions-again leaves c r)
  typed-again p None c r = absurd (false≢true r)

  query-again : (q : Query) → is_readable_query q ≡ true → QueryHolds q
  query-again q r = typed-again q.prefix q.media q.condition r

-- Lists.

-- signs without a comma are one member
members-quiet : (ws : List (Sign Condition)) → list_any is_comma ws ≡ false → members_of ws ≡ record { first = ws; rest = [] }
members-quiet [] h = refl
members-quiet (Comma ∷ ws) h = absurd (false≢true (sym h))
members-quiet (w ∷ ws) h = ap (λ (m : Members). (let made : Members = record { first = w ∷ m.first; rest = m.rest } in made)) (members-quiet ws h)

-- up to a comma
members-comma : (ws rest : List (Sign Condition)) → list_any is_comma ws ≡ false → members_of (ws ++ Comma ∷ rest) ≡ record { first = ws; rest = (members_of rest).first ∷ (members_of rest).rest }
members-comma [] rest h = refl
members-comma (Comma ∷ ws) rest h = absurd (false≢true (sym h))
members-comma (w ∷ ws) rest h = ap (λ (m : Members). (let made : Members = record { first = w ∷ m.first; rest = m.rest } in made)) (members-comma ws rest h)

-- the signs of further queries
more-signs : (q : Query) (qs : List Query) → signs_of (more_spelling (map query_spelling (q ∷ qs))) ≡ Comma ∷ signs_of (query_spelling q ++ more_spelling (map query_spelling qs))
more-signs q qs = signs-cons comma Comma (query_spelling q ++ more_spelling (map query_spelling qs)) sign-comma

-- each is read as it is
abbrev AllHold : List Query → Type 0
AllHold [] = Unit {0}
AllHold (q ∷ qs) = QueryHolds q × AllHold qs

-- the queries of a row are its members
members-row : (q : Query) (qs : List Query) → AllHold (q ∷ qs) → members_of (signs_of (query_spelling q ++ more_spelling (map query_spelling qs))) ≡ record { first = signs_of (query_spelling q); rest = map (λ p. signs_of (query_spelling p)) qs }
members-row q [] h =
    ap members_of (signs-append (query_spelling q) [] ∙ append-nil (signs_of (query_spelling q)))
    ∙ members-quiet (signs_of (query_spelling q)) h.0.quiet
members-row q (p ∷ qs) h =
    ap members_of (signs-append (query_spelling q) (more_spelling (map query_spelling (p ∷ qs))) ∙ ap (λ (ws : List (Sign Condition)). signs_of (query_spelling q) ++ ws) (more-signs p qs))
    ∙ members-comma (signs_of (query_spelling q)) (signs_of (query_spelling p ++ more_spelling (map query_spelling qs))) h.0.quiet
    ∙ ap (λ (m : Members). (let made : Members = record { first = signs_of (query_spelling q); rest = m.first ∷ m.rest } in made)) (members-row p qs h.1)

all-read : (qs : List Query) → AllHold qs → all_queries (map (λ p. signs_of (query_spelling p)) qs) ≡ Some qs
all-read [] h = refl
all-read (q ∷ qs) h = ap (λ (o : Option Query). query_before o (all_queries (map (λ p. signs_of (query_spelling p)) qs))) h.0.read ∙ ap (λ (o : Option (List Query)). query_before (Some q) o) (all-read qs h.1)

-- a list of which the first member is a query
begun : (ws : List (Sign Condition)) (m : Members) (q : Query) (qs : List Query) → members_of ws ≡ m → query_of m.first ≡ Some q → all_queries m.rest ≡ Some qs → queries_of ws ≡ Some (q ∷ qs)
begun [] m q qs e one more = (let first : query_of [] ≡ Some q = ap (λ (n : Members). query_of n.first) e ∙ one in cc)
begun (w ∷ ws) m q qs e one more =
    ap (λ (n : Members). query_before (query_of n.first) (all_queries n.rest)) e
    ∙ ap (λ (o : Option Query). query_before o (all_queries m.rest)) one
    ∙ ap (λ (o : Option (List Query)). query_before (Some q) o) more

module _ (means : Means) (leaves : Leaves) where
  all-hold : (qs : List Query) → are_readable_queries qs ≡ true → AllHold qs
  all-hold [] r = tt
  all-hold (q ∷ qs) r = (let p = and_parts (is_readable_query q) (are_readable_queries qs) r in (query-again means leaves q p.0, all-hold qs p.1))

  -- A readable list is read as it.
  pub queries-again : (qs : List Query) → are_readable_queries qs ≡ true → queries_reading (queries_spelling qs) ≡ Some qs
  queries-again [] r = refl
  queries-again (q ∷ qs) r =
      (let h = all-hold (q ∷ qs) r in
      begun (signs_of (query_spelling q ++ more_spelling (map query_spelling qs))) (record { first = signs_of (query_spelling q); rest = map (λ p. signs_of (query_spelling p)) qs }) q qs
      (members-row q qs h) h.0.read (all-read qs h.1))
