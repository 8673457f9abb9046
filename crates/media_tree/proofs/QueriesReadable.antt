-- What is read as a media query list is readable, and each value in it stands as one.
use Rattle.std.proofs.Common.{◌≡◌, ℕ, List, [], ◌∷◌, ◌++◌, map, Bool, true, false, ◌&&◌, ◌||◌, not, refl, sym, ap, ap₂, ◌∙◌, subst}
use Rattle.std.specs.Prelude.{Option, Some, None, codes, flat_map, if◌then◌else◌}
use Rattle.std.specs.List.{AllByRecursion, list_all, list_any}
use Rattle.css_tokens.specs.declared.kind.Kind.{Kind}
use Rattle.css_tokens.specs.declared.kind.Kind.TheVariants as kinds
use Rattle.css_tokens.specs.declared.component.Component.{Component}
use Rattle.css_tokens.specs.Names.{name_of_word}
use Rattle.css_tokens.specs.Trees.{all_formed, is_text, words_all}
use Rattle.media_spelling.specs.declared.condition.Condition.{Condition}
use Rattle.media_spelling.specs.declared.condition.Prefix.{Prefix}
use Rattle.media_spelling.specs.declared.condition.Prefix.TheVariants as prefixes
use Rattle.media_spelling.specs.declared.condition.Query.{Query}
use Rattle.media_spelling.specs.ConditionFold.{folded-And, folded-Or, folded-Not}
use Rattle.media_tree.specs.declared.sign.Sign.{Sign}
use Rattle.media_tree.specs.declared.sign.Sign.TheVariants.{Gap, Comma, Not, Only, And, Or, Name, Within, Other}
use Rattle.media_tree.specs.ComponentInduction.{Each, by_components}
use Rattle.media_tree.specs.Conditions.{condition_of, kind_sign, solid, within}
use Rattle.media_tree.specs.Features.{feature_of}
use Rattle.media_tree.specs.Marks.{lowered}
use Rattle.media_tree.specs.Queries.{Members, all_queries, conjunction_of, inside_of, is_or, is_parens, makes, members_of, queries_of, queries_reading, query_before, query_of, sign_of, typed, with_condition}
use Rattle.media_tree.specs.ReadValues.{StandsAsValue, ValuesStand, values, values_behind, values_in, values_of}
use Rattle.media_tree.specs.ReadableQueries.{are_readable_queries, is_readable_condition, is_readable_query, is_readable_type, readable}
use Rattle.media_tree.specs.SpelledWords.{AreRead, is_spelled}
use Rattle.media_tree.proofs.FeaturesReadable.{IsFine, ReadLaws, feature-fine, token-lower}
use Rattle.media_tree.proofs.ListsHold.{each-append}
use Rattle.media_tree.proofs.PartsOfTexts.{token-good}
use Rattle.media_tree.proofs.PartsRead.{Splits, Stands, all-stand, inside-stand}
use Rattle.media_tree.proofs.ReadConditions.{InWithin, Kept, OfSome, condition-kept, some-or}
use Rattle.media_tree.proofs.SignEquations.{query-Single, query-Block}

-- Rows of conditions.

abbrev AllStand : List (List ℕ) → Type 0
AllStand vs = AllByRecursion StandsAsValue vs

rows-readable : (cs : List Condition) → AllByRecursion IsFine cs → list_all (λ b. b) (map is_readable_condition cs) ≡ true
rows-readable [] h = refl
rows-readable (c ∷ cs) h = (let first = h.0 in ap₂ ◌&&◌ first.readable (rows-readable cs h.1))

rows-stand : (cs : List Condition) → AllByRecursion IsFine cs → AllStand (flat_map (λ v. v) (map values_in cs))
rows-stand [] h = tt
rows-stand (c ∷ cs) h = (let first = h.0 in each-append StandsAsValue (values_in c) (flat_map (λ v. v) (map values_in cs)) first.values (rows-stand cs h.1))

rows-kept : Kept makes IsFine
rows-kept = record {
  and_of = λ c d cs h. record {
    readable = folded-And readable (c ∷ d ∷ cs) ∙ rows-readable (c ∷ d ∷ cs) h;
    values = subst AllStand (sym (folded-And values (c ∷ d ∷ cs))) (rows-stand (c ∷ d ∷ cs) h);
  };
  or_of = λ c d cs h. record {
    readable = folded-Or readable (c ∷ d ∷ cs) ∙ rows-readable (c ∷ d ∷ cs) h;
    values = subst AllStand (sym (folded-Or values (c ∷ d ∷ cs))) (rows-stand (c ∷ d ∷ cs) h);
  };
  not_of = λ c h. record { readable = folded-Not readable c ∙ h.readable; values = subst AllStand (sym (folded-Not values c)) h.values };
}

-- Signs.

-- the condition that stands in parentheses is fine, and a name is a media type
abbrev IsKept : Sign Condition → Type 0
IsKept (Within c) = IsFine c
IsKept (Name n) = is_readable_type n ≡ true
IsKept w = Unit {0}

abbrev AllKept : List (Sign Condition) → Type 0
AllKept ws = AllByRecursion IsKept ws

kept-within : (w : Sign Condition) → IsKept w → InWithin IsFine w
kept-within (Within c) h = h
kept-within w h = tt

all-within : (ws : List (Sign Condition)) → AllKept ws → AllByRecursion (InWithin IsFine) ws
all-within [] h = tt
all-within (w ∷ ws) h = (kept-within w h.0, all-within ws h.1)

solid-kept : (ws : List (Sign Condition)) → AllKept ws → AllKept (solid ws)
solid-kept [] h = tt
solid-kept (Gap ∷ ws) h = solid-kept ws h.1
solid-kept (w ∷ ws) h = (h.0, solid-kept ws h.1)

condition-fine : (ws : List (Sign Condition)) → AllKept ws → OfSome IsFine (condition_of makes ws)
condition-fine ws h = condition-kept IsFine makes rows-kept ws (all-within ws h)

-- the sign of a name that is one of five keywords or none
abbrev keyword_or : List ℕ → Bool → Bool → Bool → Bool → Bool → Sign Condition
keyword_or n a b c d e = if a then Not else (if b then Only else (if c then And else (if d then Or else (if e then Other else Name n))))

name-kept : (n : List ℕ) (a b c d e : Bool) → (not (a || (b || (c || (d || (e || false))))) ≡ true → is_readable_type n ≡ true) → IsKept (keyword_or n a b c d e)
name-kept n true b c d e h = tt
name-kept n false true c d e h = tt
name-kept n false false true d e h = tt
name-kept n false false false true e h = tt
name-kept n false false false false true h = tt
name-kept n false false false false false h = h refl

-- Queries.

-- a readable query of which each value stands as one
record IsGood (q : Query) : Type 0 where
  readable : is_readable_query q ≡ true
  values : AllStand (values_behind q.condition)

behind-good : (p : Prefix) (m : List ℕ) (o : Option Condition) → is_readable_type m ≡ true → OfSome IsFine o → OfSome IsGood (with_condition p (Some m) o)
behind-good p m None h k = tt
behind-good p m (Some c) h k = record { readable = ap₂ ◌&&◌ h k.readable; values = k.values }

alone-good : (o : Option Condition) → OfSome IsFine o → OfSome IsGood (with_condition prefixes.Plain None o)
alone-good None k = tt
alone-good (Some c) k = record { readable = k.readable; values = k.values }

conjunction-fine : (b : Bool) (ws : List (Sign Condition)) → AllKept ws → OfSome IsFine (if b then None else condition_of makes ws)
conjunction-fine true ws h = tt
conjunction-fine false ws h = condition-fine ws h

typed-good : (p : Prefix) (m : List ℕ) (ws : List (Sign Condition)) → is_readable_type m ≡ true → AllKept ws → OfSome IsGood (typed p m ws)
typed-good p m [] h k = record { readable = ap (λ (b : Bool). b && true) h; values = tt }
typed-good p m (And ∷ ws) h k = behind-good p m (conjunction_of ws) h (conjunction-fine (list_any is_or ws) ws k.1)
typed-good p m ws h k = tt

query-good : (ws : List (Sign Condition)) → AllKept ws → OfSome IsGood (query_of ws)
query-good (Not ∷ Name m ∷ ws) h = typed-good prefixes.Not m ws h.1.0 h.1.1
query-good (Only ∷ Name m ∷ ws) h = typed-good prefixes.Only m ws h.1.0 h.1.1
query-good (Name m ∷ ws) h = typed-good prefixes.Plain m ws h.0 h.1
query-good ws h = alone-good (condition_of makes ws) (condition-fine ws h)

-- Lists.

record MembersKept (m : Members) : Type 0 where
  first : AllKept m.first
  rest : AllByRecursion AllKept m.rest

members-kept : (ws : List (Sign Condition)) → AllKept ws → MembersKept (members_of ws)
members-kept [] h = record { first = tt; rest = tt }
members-kept (Comma ∷ ws) h = (let more = members-kept ws h.1 in record { first = tt; rest = (more.first, more.rest) })
members-kept (w ∷ ws) h = (let more = members-kept ws h.1 in record { first = (h.0, more.first); rest = more.rest })

record AreGood (qs : List Query) : Type 0 where
  readable : are_readable_queries qs ≡ true
  values : ValuesStand qs

before-good : (o : Option Query) (p : Option (List Query)) → OfSome IsGood o → OfSome AreGood p → OfSome AreGood (query_before o p)
before-good None p h k = tt
before-good (Some q) None h k = tt
before-good (Some q) (Some qs) h k = record { readable = ap₂ ◌&&◌ h.readable k.readable; values = each-append StandsAsValue (values_behind q.condition) (values_of qs) h.values k.values }

all-good : (ms : List (List (Sign Condition))) → AllByRecursion AllKept ms → OfSome AreGood (all_queries ms)
all-good [] h = record { readable = refl; values = tt }
all-good (ws ∷ ms) h = before-good (query_of ws) (all_queries ms) (query-good ws h.0) (all-good ms h.1)

list-good : (ws : List (Sign Condition)) → AllKept ws → OfSome AreGood (queries_of ws)
list-good [] h = record { readable = refl; values = tt }
list-good (w ∷ ws) h =
    (let members = members-kept (w ∷ ws) h in
    let m = members_of (w ∷ ws) in
    before-good (query_of m.first) (all_queries m.rest) (query-good m.first members.first) (all-good m.rest members.rest))

module _ (laws : ReadLaws) (splits : Splits) where
  kind-kept : (k : Kind) (t : List ℕ) → is_spelled (record { kind = k; text = t }) ≡ true → IsKept (kind_sign k t)
  kind-kept kinds.Ident t h =
      (let n = lowered (name_of_word kinds.Ident t) in
      name-kept n (is_text n (codes "not")) (is_text n (codes "only")) (is_text n (codes "and")) (is_text n (codes "or")) (is_text n (codes "layer"))
      (λ e. ap₂ ◌&&◌ (token-lower laws kinds.Ident t h) e))
  kind-kept k t h = tt

  within-kept : (o : Option Condition) → OfSome IsFine o → IsKept (within o)
  within-kept None h = tt
  within-kept (Some c) h = h

  parens-kept : (b : Bool) (o : Option Condition) → OfSome IsFine o → IsKept (if b then within o else Other)
  parens-kept true o h = within-kept o h
  parens-kept false o h = tt

  abbrev SignKept : Component → Type 0
  SignKept c = Stands c → IsKept (sign_of c)

  signs-kept : (cs : List Component) → Each SignKept cs → Each Stands cs → AllKept (map sign_of cs)
  signs-kept [] h g = tt
  signs-kept (c ∷ cs) h g = (h.0 g.0, signs-kept cs h.1 g.1)

  sign-kept : (c : Component) → SignKept c
  sign-kept c =
      by_components SignKept
      (λ p g. subst IsKept (sym (query-Single p)) (kind-kept p.kind p.text (token-good p g.good)))
      (λ b each g.
      let inside = inside-stand splits b g in
      let signs = map sign_of b.items in
      let read = condition-fine (solid signs) (solid-kept signs (signs-kept b.items each inside)) in
      subst IsKept (sym (query-Block b))
      (parens-kept (is_parens b) (inside_of b.items signs) (some-or IsFine (condition_of makes (solid signs)) (feature_of b.items) read (feature-fine laws b.items inside))))
      c

  each-kept : (cs : List Component) → Each SignKept cs
  each-kept [] = tt
  each-kept (c ∷ cs) = (sign-kept c, each-kept cs)

  reading-good : (cs : List Component) → all_formed cs ≡ true → list_all is_spelled (words_all cs) ≡ true → AreRead cs → OfSome AreGood (queries_reading cs)
  reading-good cs f w read = (let signs = map sign_of cs in list-good (solid signs) (solid-kept signs (signs-kept cs (each-kept cs) (all-stand splits cs f w read))))

  -- What is read is readable.
  pub queries-readable : (cs : List Component) (qs : List Query) → all_formed cs ≡ true → list_all is_spelled (words_all cs) ≡ true → AreRead cs → queries_reading cs ≡ Some qs → are_readable_queries qs ≡ true
  queries-readable cs qs f w read e = (let good : AreGood qs = subst (OfSome AreGood) e (reading-good cs f w read) in good.readable)

  -- Each value in what is read stands as one.
  pub values-stand : (cs : List Component) (qs : List Query) → all_formed cs ≡ true → list_all is_spelled (words_all cs) ≡ true → AreRead cs → queries_reading cs ≡ Some qs → ValuesStand qs
  values-stand cs qs f w read e = (let good : AreGood qs = subst (OfSome AreGood) e (reading-good cs f w read) in good.values)
