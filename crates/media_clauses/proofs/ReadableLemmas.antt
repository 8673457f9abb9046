-- In what is read each range is one of a feature that takes a range.
use Rattle.std.proofs.Common.{◌≡◌, ℕ, List, [], ◌∷◌, true, ◌&&◌, map, refl, ◌∙◌, sym}
use Rattle.std.specs.Prelude.{Option, Some, None}
use Rattle.std.specs.List.{list_all}
use Rattle.std.specs.Option.{option_map_or}
use Rattle.std.proofs.lemmas.Bool.{and_from, false≢true}
use Rattle.media_spelling.specs.declared.condition.Condition.{Condition}
use Rattle.media_spelling.specs.declared.condition.Prefix.{Prefix}
use Rattle.media_spelling.specs.declared.condition.Prefix.TheVariants.{Plain, Only, Not}
use Rattle.media_spelling.specs.declared.condition.Query.{Query}
use Rattle.media_spelling.specs.ConditionFold.{folded-And, folded-Or, folded-Not, folded-Feature, folded-Range}
use Rattle.media_spelling.specs.ConditionInduction.{Each, by_conditions}
use Rattle.prop_table.specs.OldFeatures.{is_range_feature}
use Rattle.media_tree.specs.ReadableQueries.{are_readable_bounds, are_readable_queries, has_two, is_lower_name, is_readable_condition, is_readable_query, is_readable_type, is_readable_typed, readable}
use Rattle.media_clauses.specs.KnownRanges.{has_known_ranges, have_known_ranges, known_ranges}
use Rattle.media_clauses.proofs.BoolLemmas.{and-left, and-right}
use Rattle.media_clauses.proofs.SideLemmas.{known-And, known-Or}

-- one that is read
abbrev Known : Condition → Type 0
Known c = is_readable_condition c ≡ true → has_known_ranges c ≡ true

each-known : (cs : List Condition) → Each Known cs → list_all (λ b. b) (map is_readable_condition cs) ≡ true → list_all has_known_ranges cs ≡ true
each-known [] hs e = refl
each-known (c ∷ cs) hs e =
    and_from (has_known_ranges c) (list_all has_known_ranges cs)
    (hs.0 (and-left (is_readable_condition c) (list_all (λ b. b) (map is_readable_condition cs)) e))
    (each-known cs hs.1 (and-right (is_readable_condition c) (list_all (λ b. b) (map is_readable_condition cs)) e))

-- several that are joined
joined-known : (cs : List Condition) → Each Known cs → (has_two (map is_readable_condition cs) && list_all (λ b. b) (map is_readable_condition cs)) ≡ true → list_all has_known_ranges cs ≡ true
joined-known cs hs e = each-known cs hs (and-right (has_two (map is_readable_condition cs)) (list_all (λ b. b) (map is_readable_condition cs)) e)

condition-known : (c : Condition) → Known c
condition-known = by_conditions Known (record {
  and_of = λ cs hs e. known-And cs ∙ joined-known cs hs (sym (folded-And readable cs) ∙ e);
  or_of = λ cs hs e. known-Or cs ∙ joined-known cs hs (sym (folded-Or readable cs) ∙ e);
  not_of = λ c h e. folded-Not known_ranges c ∙ h (sym (folded-Not readable c) ∙ e);
  feature = λ f e. folded-Feature known_ranges f;
  range = λ r e. folded-Range known_ranges r ∙ and-left (is_range_feature r.name) (is_lower_name r.name && are_readable_bounds r.first r.second) (sym (folded-Range readable r) ∙ e);
})

typed-known : (p : Prefix) (media : Option (List ℕ)) (c : Option Condition) → is_readable_typed p media c ≡ true → option_map_or has_known_ranges c true ≡ true
typed-known p media None e = refl
typed-known p (Some media) (Some c) e = condition-known c (and-right (is_readable_type media) (is_readable_condition c) e)
typed-known Plain None (Some c) e = condition-known c e
typed-known Only None (Some c) e = absurd (false≢true e)
typed-known Not None (Some c) e = absurd (false≢true e)

pub list-known : (qs : List Query) → are_readable_queries qs ≡ true → have_known_ranges qs ≡ true
list-known [] e = refl
list-known (q ∷ qs) e =
    and_from (option_map_or has_known_ranges q.condition true) (have_known_ranges qs)
    (typed-known q.prefix q.media q.condition (and-left (is_readable_query q) (are_readable_queries qs) e))
    (list-known qs (and-right (is_readable_query q) (are_readable_queries qs) e))
