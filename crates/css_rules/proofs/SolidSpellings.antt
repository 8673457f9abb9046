-- The spelling of a condition begins and ends with neither white space nor a comment.
use Rattle.std.proofs.Common.{◌≡◌, ℕ, List, [], ◌∷◌, ◌++◌, map, Bool, true, false, ◌&&◌, not, Option, Some, None, refl, sym, ◌∙◌, ap, subst, cond, codes}
use Rattle.std.specs.List.{AllByRecursion, list_all}
use Rattle.std.proofs.lemmas.Bool.{and_parts, false≢true}
use Rattle.std.proofs.lemmas.List.{append-nil}
use Rattle.css_tokens.specs.declared.component.Component.{Component}
use Rattle.css_tokens.specs.declared.component.Component as component
use Rattle.css_tokens.specs.declared.component.Block.{Block}
use Rattle.css_tokens.specs.declared.kind.Kind.{Kind}
use Rattle.css_tokens.specs.declared.kind.Kind.TheVariants as kinds
use Rattle.css_tokens.specs.NameText.{name_text}
use Rattle.css_tokens.specs.Values.{is_gap as is_gap_kind}
use Rattle.media_spelling.specs.Components.{comma, ident, keyword, parens, single, space}
use Rattle.media_spelling.specs.ConditionFold as condition_fold
use Rattle.media_spelling.specs.ConditionInduction as condition_induction
use Rattle.media_spelling.specs.Spelling.{Spelled, declaration_spelling, enclosed, feature_spelling, further, joined, more_spelling, prefix_spelling, queries_spelling, query_spelling, range_spelling, spelled_condition, spelled_supports, spelling, supports_spelling, supports_steps, typed_spelling}
use Rattle.media_spelling.specs.SupportsFold as supports_fold
use Rattle.media_spelling.specs.SupportsInduction as supports_induction
use Rattle.media_spelling.specs.declared.condition.Condition.{Condition}
use Rattle.media_spelling.specs.declared.condition.Prefix.{Prefix}
use Rattle.media_spelling.specs.declared.condition.Prefix.TheVariants as prefixes
use Rattle.media_spelling.specs.declared.condition.Query.{Query}
use Rattle.media_spelling.specs.declared.supports.Supports.{Supports}
use Rattle.media_tree.specs.ReadableQueries.{are_readable_queries, has_two, is_readable_condition, is_readable_query, is_readable_type, is_readable_typed, readable}
use Rattle.sheet_types.proofs.ItemShapes.{IsSome, some-left, some-right}
use Rattle.css_components.specs.Components.{is_gap}
use Rattle.css_components.specs.Trimming.{trimmed_end}
use Rattle.css_rules.specs.Printable.{begins_solid}
use Rattle.css_rules.proofs.CutLemmas.{trimmed_end-other}
use Rattle.css_rules.proofs.Heads.{gap-Block, gap-Single}

-- neither white space nor a comment stands at either end
pub record IsSolid (cs : List Component) : Type 0 where
  pub begins : begins_solid cs ≡ true
  pub ends : trimmed_end cs ≡ cs

-- what keeps its end holds something solid
pub some-solid : (cs : List Component) → IsSome cs → trimmed_end cs ≡ cs → list_all is_gap cs ≡ false
some-solid [] some e = absurd some
some-solid (c ∷ cs) some e = at (list_all is_gap (c ∷ cs)) e
  where
    at : (b : Bool) → cond b [] (c ∷ trimmed_end cs) ≡ c ∷ cs → b ≡ false
    at true h = absurd (cc h)
    at false h = refl

and-none : (a b : Bool) → b ≡ false → (a && b) ≡ false
and-none true b e = e
and-none false b e = refl

-- one more component in front
pub ends-cons : (c : Component) (cs : List Component) → IsSome cs → trimmed_end cs ≡ cs → trimmed_end (c ∷ cs) ≡ c ∷ cs
ends-cons c cs some e =
    ap (λ b. cond b [] (c ∷ trimmed_end cs)) (and-none (is_gap c) (list_all is_gap cs) (some-solid cs some e)) ∙ ap (λ ds. c ∷ ds) e

ends-behind : (xs ys : List Component) → IsSome ys → trimmed_end ys ≡ ys → trimmed_end (xs ++ ys) ≡ xs ++ ys
ends-behind [] ys some e = e
ends-behind (x ∷ xs) ys some e = ends-cons x (xs ++ ys) (some-right xs ys some) (ends-behind xs ys some e)

ends-append : (xs ys : List Component) → trimmed_end xs ≡ xs → trimmed_end ys ≡ ys → trimmed_end (xs ++ ys) ≡ xs ++ ys
ends-append xs [] e f = ap trimmed_end (append-nil xs) ∙ e ∙ sym (append-nil xs)
ends-append xs (y ∷ ys) e f = ends-behind xs (y ∷ ys) tt f

begins-append : (xs ys : List Component) → begins_solid xs ≡ true → begins_solid ys ≡ true → begins_solid (xs ++ ys) ≡ true
begins-append [] ys b c = c
begins-append (x ∷ xs) ys b c = b

begins-some : (xs ys : List Component) → IsSome xs → begins_solid xs ≡ true → begins_solid (xs ++ ys) ≡ true
begins-some [] ys some b = absurd some
begins-some (x ∷ xs) ys some b = b

solid-append : (xs ys : List Component) → IsSolid xs → IsSolid ys → IsSolid (xs ++ ys)
solid-append xs ys a b = record { begins = begins-append xs ys a.begins b.begins; ends = ends-append xs ys a.ends b.ends }

pub solid-nothing : IsSolid []
solid-nothing = record { begins = refl; ends = refl }

-- one component that is solid
solid-one : (c : Component) → is_gap c ≡ false → IsSolid (c ∷ [])
solid-one c e = record { begins = ap not e; ends = trimmed_end-other [] c e }

token-solid : (kind : Kind) (text : List ℕ) → is_gap_kind kind ≡ false → is_gap (single kind text) ≡ false
token-solid kind text e = gap-Single (record { kind = kind; text = text; at = 0 }) ∙ e

parens-solid : (items : List Component) → IsSolid (parens items ∷ [])
parens-solid items = solid-one (parens items) (gap-Block (record { opening = record { kind = kinds.Open; text = codes "("; at = 0 }; items = items; close = 0 }))

-- How a condition is spelled: what stands for it inside another one is solid and something.
record AreSolid (s : Spelled) : Type 0 where
  alone : IsSolid s.alone
  inside : IsSolid s.inside
  some : IsSome s.inside
  behind : IsSolid s.behind

abbrev joint_of : List ℕ → List Component
joint_of joint = space ∷ keyword joint ∷ space ∷ []

further-ends : (joint : List ℕ) (ss : List Spelled) → AllByRecursion AreSolid ss → trimmed_end (further joint ss) ≡ further joint ss
further-ends joint [] each = refl
further-ends joint (s ∷ ss) each =
    ends-append (joint_of joint ++ s.inside) (further joint ss) (ends-behind (joint_of joint) s.inside each.0.some each.0.inside.ends) (further-ends joint ss each.1)

joined-solid : (joint : List ℕ) (ss : List Spelled) → AllByRecursion AreSolid ss → IsSolid (joined joint ss)
joined-solid joint [] each = solid-nothing
joined-solid joint (s ∷ ss) each = record {
  begins = begins-some s.inside (further joint ss) each.0.some each.0.inside.begins;
  ends = ends-append s.inside (further joint ss) each.0.inside.ends (further-ends joint ss each.1);
}

-- what stands behind `not` and the like
behind-word : (text : List ℕ) (cs : List Component) → IsSome cs → IsSolid cs → IsSolid (keyword text ∷ space ∷ cs)
behind-word text cs some solid = record {
  begins = ap not (token-solid kinds.Ident text refl);
  ends = ends-behind (keyword text ∷ space ∷ []) cs some solid.ends;
}

compound-solid : (cs : List Component) → IsSolid cs → AreSolid (record { alone = cs; inside = parens cs ∷ []; behind = cs })
compound-solid cs solid = record { alone = solid; inside = parens-solid cs; some = tt; behind = solid }

alternative-solid : (cs : List Component) → IsSolid cs → AreSolid (record { alone = cs; inside = parens cs ∷ []; behind = parens cs ∷ [] })
alternative-solid cs solid = record { alone = solid; inside = parens-solid cs; some = tt; behind = parens-solid cs }

enclosed-solid : (c : Component) → IsSolid (c ∷ []) → AreSolid (enclosed c)
enclosed-solid c solid = record { alone = solid; inside = solid; some = tt; behind = solid }

-- Supports conditions.

abbrev IsSpelled : Supports → Type 0
IsSpelled s = AreSolid (spelled_supports s)

all-spelled : (cs : List Supports) → supports_induction.Each IsSpelled cs → AllByRecursion AreSolid (map spelled_supports cs)
all-spelled [] each = tt
all-spelled (c ∷ cs) each = (each.0, all-spelled cs each.1)

spelled : (s : Supports) → IsSpelled s
spelled s =
    supports_induction.by_supports IsSpelled (record {
      and_of = λ cs each. let solid = joined-solid (codes "and") (map spelled_supports cs) (all-spelled cs each) in subst AreSolid (sym (supports_fold.folded-And supports_steps cs)) (compound-solid (joined (codes "and") (map spelled_supports cs)) solid);
      or_of = λ cs each. let solid = joined-solid (codes "or") (map spelled_supports cs) (all-spelled cs each) in subst AreSolid (sym (supports_fold.folded-Or supports_steps cs)) (compound-solid (joined (codes "or") (map spelled_supports cs)) solid);
      not_of = λ c one. let inside = (spelled_supports c).inside in subst AreSolid (sym (supports_fold.folded-Not supports_steps c)) (compound-solid (keyword (codes "not") ∷ space ∷ inside) (behind-word (codes "not") inside one.some one.inside));
      declared = λ name value. subst AreSolid (sym (supports_fold.folded-Declared supports_steps name value)) (enclosed-solid (declaration_spelling name value) (parens-solid _));
      function = λ at.
          let b : Block = record { opening = record { kind = kinds.Function; text = codes "f("; at = 0 }; items = []; close = 0 } in
          subst AreSolid (sym (supports_fold.folded-Function supports_steps at)) (enclosed-solid (component.Block b) (solid-one (component.Block b) (gap-Block b)));
    }) s

pub supports-solid : (s : Supports) → IsSolid (supports_spelling s)
supports-solid s = (spelled s).alone

-- Media conditions: one that is readable is something.

-- each way of spelling it is something
record IsSpelledCondition (s : Spelled) : Type 0 where
  solid : AreSolid s
  alone : IsSome s.alone
  behind : IsSome s.behind

abbrev IsCondition : Condition → Type 0
IsCondition c = is_readable_condition c ≡ true → IsSpelledCondition (spelled_condition c)

all-conditions : (cs : List Condition) → condition_induction.Each IsCondition cs → list_all (λ b. b) (map is_readable_condition cs) ≡ true → AllByRecursion AreSolid (map spelled_condition cs)
all-conditions [] each h = tt
all-conditions (c ∷ cs) each h =
    let parts = and_parts (is_readable_condition c) (list_all (λ b. b) (map is_readable_condition cs)) h in
    ((each.0 parts.0).solid, all-conditions cs each.1 parts.1)

joined-some : (joint : List ℕ) (cs : List Condition) → has_two (map is_readable_condition cs) ≡ true → AllByRecursion AreSolid (map spelled_condition cs) → IsSome (joined joint (map spelled_condition cs))
joined-some joint [] two each = absurd (false≢true two)
joined-some joint (c ∷ cs) two each = some-left (spelled_condition c).inside (further joint (map spelled_condition cs)) each.0.some

spelled-condition : (c : Condition) → IsCondition c
spelled-condition c =
    condition_induction.by_conditions IsCondition (record {
      and_of = λ cs each h.
          let parts = and_parts (has_two (map is_readable_condition cs)) _ (sym (condition_fold.folded-And readable cs) ∙ h) in
          let all = all-conditions cs each parts.1 in
          let spelling_of = joined (codes "and") (map spelled_condition cs) in
          let some = joined-some (codes "and") cs parts.0 all in
          subst IsSpelledCondition (sym (condition_fold.folded-And spelling cs)) (record { solid = compound-solid spelling_of (joined-solid (codes "and") (map spelled_condition cs) all); alone = some; behind = some });
      or_of = λ cs each h.
          let parts = and_parts (has_two (map is_readable_condition cs)) _ (sym (condition_fold.folded-Or readable cs) ∙ h) in
          let all = all-conditions cs each parts.1 in
          let spelling_of = joined (codes "or") (map spelled_condition cs) in
          subst IsSpelledCondition (sym (condition_fold.folded-Or spelling cs)) (record { solid = alternative-solid spelling_of (joined-solid (codes "or") (map spelled_condition cs) all); alone = joined-some (codes "or") cs parts.0 all; behind = tt });
      not_of = λ d one h.
          let inner = (one (sym (condition_fold.folded-Not readable d) ∙ h)).solid in
          let inside = (spelled_condition d).inside in
          subst IsSpelledCondition (sym (condition_fold.folded-Not spelling d)) (record { solid = compound-solid (keyword (codes "not") ∷ space ∷ inside) (behind-word (codes "not") inside inner.some inner.inside); alone = tt; behind = tt });
      feature = λ f h. subst IsSpelledCondition (sym (condition_fold.folded-Feature spelling f)) (record { solid = enclosed-solid (feature_spelling f) (parens-solid _); alone = tt; behind = tt });
      range = λ r h. subst IsSpelledCondition (sym (condition_fold.folded-Range spelling r)) (record { solid = enclosed-solid (range_spelling r) (parens-solid _); alone = tt; behind = tt });
    }) c

-- Media queries.

-- solid, and something
record IsThere (cs : List Component) : Type 0 where
  solid : IsSolid cs
  some : IsSome cs

typed-there : (prefix : Prefix) (media : Option (List ℕ)) (c : Option Condition) → is_readable_typed prefix media c ≡ true → IsThere (typed_spelling media c)
typed-there prefix (Some media) None h = record { solid = solid-one (ident media) (token-solid kinds.Ident (name_text media) refl); some = tt }
typed-there prefix (Some media) (Some c) h =
    let parts = and_parts (is_readable_type media) (is_readable_condition c) h in
    let one = spelled-condition c parts.1 in
    record {
      solid = record {
        begins = ap not (token-solid kinds.Ident (name_text media) refl);
        ends = ends-behind (ident media ∷ space ∷ keyword (codes "and") ∷ space ∷ []) (spelled_condition c).behind one.behind one.solid.behind.ends;
      };
      some = tt;
    }
typed-there prefixes.Plain None (Some c) h = let one = spelled-condition c h in record { solid = one.solid.alone; some = one.alone }
typed-there prefixes.Not None (Some c) h = absurd (false≢true h)
typed-there prefixes.Only None (Some c) h = absurd (false≢true h)
typed-there prefixes.Plain None None h = absurd (false≢true h)
typed-there prefixes.Not None None h = absurd (false≢true h)
typed-there prefixes.Only None None h = absurd (false≢true h)

prefixed-solid : (prefix : Prefix) (cs : List Component) → IsThere cs → IsSolid (prefix_spelling prefix ++ cs)
prefixed-solid prefixes.Plain cs there = there.solid
prefixed-solid prefixes.Not cs there = behind-word (codes "not") cs there.some there.solid
prefixed-solid prefixes.Only cs there = behind-word (codes "only") cs there.some there.solid

query-solid : (q : Query) → is_readable_query q ≡ true → IsSolid (query_spelling q)
query-solid q h = prefixed-solid q.prefix (typed_spelling q.media q.condition) (typed-there q.prefix q.media q.condition h)

more-solid : (qs : List Query) → are_readable_queries qs ≡ true → IsSolid (more_spelling (map query_spelling qs))
more-solid [] h = solid-nothing
more-solid (q ∷ qs) h =
    let parts = and_parts (is_readable_query q) (are_readable_queries qs) h in
    solid-append (comma ∷ query_spelling q) (more_spelling (map query_spelling qs))
    (solid-append (comma ∷ []) (query_spelling q) (solid-one comma (token-solid kinds.Comma (codes ",") refl)) (query-solid q parts.0))
    (more-solid qs parts.1)

pub queries-solid : (qs : List Query) → are_readable_queries qs ≡ true → IsSolid (queries_spelling qs)
queries-solid [] h = solid-nothing
queries-solid (q ∷ qs) h =
    let parts = and_parts (is_readable_query q) (are_readable_queries qs) h in
    solid-append (query_spelling q) (more_spelling (map query_spelling qs)) (query-solid q parts.0) (more-solid qs parts.1)
