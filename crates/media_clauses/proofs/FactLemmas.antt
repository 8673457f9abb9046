-- Facts, literals and ranges: what tells them holds where they do.
use Rattle.std.proofs.Common.{◌≡◌, ℕ, List, [], ◌∷◌, ◌++◌, Bool, true, not, ◌&&◌, map, refl, ◌∙◌, ap, arith}
use Rattle.std.proofs.lemmas.Int.{ints}
use Rattle.std.specs.Prelude.{ℤ, int_lt, int_le, codes, Option, Some, None}
use Rattle.std.specs.List.{list_all}
use Rattle.cascade_spec.specs.declared.environment.Environment.{Environment}
use Rattle.cascade_spec.specs.Truth.{Compared, bound_holds, compared, number_of, range_holds, valued_holds}
use Rattle.media_spelling.specs.declared.condition.Bound.{Bound}
use Rattle.media_spelling.specs.declared.condition.Range.{Range}
use Rattle.media_spelling.specs.declared.condition.Relation.{Relation}
use Rattle.media_spelling.specs.declared.condition.Relation.TheVariants.{Less, LessEqual, Greater, GreaterEqual, Equal}
use Rattle.prop_table.specs.OldFeatures.{is_range_feature}
use Rattle.media_clauses.specs.declared.clause.Literal.{Literal}
use Rattle.media_clauses.specs.Clauses.{alone, bound_feature, bound_literal, bounds, range_literals, turned}
use Rattle.media_clauses.specs.Holding.{clause_holds, clauses_hold, fact_holds, literal_holds}
use Rattle.media_clauses.proofs.BoolLemmas.{and-true, any-map, any-not, any-same, both, or-false, signed-not}

-- a range feature before a colon, and behind `min-` and `max-`
compared-plain : (name : List ℕ) → is_range_feature name ≡ true → compared name ≡ Some (record { name = name; relation = Equal })
compared-plain name known = rw known refl

compared-min : (name : List ℕ) → is_range_feature name ≡ true → compared (codes "min-" ++ name) ≡ Some (record { name = name; relation = GreaterEqual })
compared-min name known = rw known refl

compared-max : (name : List ℕ) → is_range_feature name ≡ true → compared (codes "max-" ++ name) ≡ Some (record { name = name; relation = LessEqual })
compared-max name known = rw known refl

-- below is not at most, from the other side
lt-not-le : (m v : ℤ) → not (int_le v m) ≡ int_lt m v
lt-not-le m v = grind (arith, ints)

module _ (env : Environment) where
  -- a bound is told by its literal
  pub bound-literal : (name value : List ℕ) (r : Relation) → is_range_feature name ≡ true
      → literal_holds env (bound_literal name (record { relation = r; value = value })) ≡ bound_holds env name (record { relation = r; value = value })
  bound-literal name value GreaterEqual known = ap (valued_holds env (bound_feature name (record { relation = GreaterEqual; value = value })) value) (compared-min name known)
  bound-literal name value LessEqual known = ap (valued_holds env (bound_feature name (record { relation = LessEqual; value = value })) value) (compared-max name known)
  bound-literal name value Equal known = ap (valued_holds env (bound_feature name (record { relation = Equal; value = value })) value) (compared-plain name known)
  bound-literal name value Less known =
      ap (λ (o : Option Compared). not (valued_holds env (bound_feature name (record { relation = Less; value = value })) value o)) (compared-min name known)
      ∙ lt-not-le (number_of env.numbers name) (number_of env.values value)
  bound-literal name value Greater known =
      ap (λ (o : Option Compared). not (valued_holds env (bound_feature name (record { relation = Greater; value = value })) value o)) (compared-max name known)
      ∙ lt-not-le (number_of env.values value) (number_of env.numbers name)

  -- a range holds where each of its literals does
  bounds-hold : (name : List ℕ) (first : Bound) (second : Option Bound) → is_range_feature name ≡ true
      → list_all (literal_holds env) (map (bound_literal name) (bounds first second)) ≡ range_holds env (record { name = name; first = first; second = second })
  bounds-hold name first None known = ap (λ (b : Bool). b && true) (bound-literal name first.value first.relation known)
  bounds-hold name first (Some second) known =
      both (literal_holds env (bound_literal name first)) (literal_holds env (bound_literal name second) && true) (bound_holds env name first) (bound_holds env name second)
      (bound-literal name first.value first.relation known)
      (and-true (literal_holds env (bound_literal name second)) ∙ bound-literal name second.value second.relation known)

  pub range-literals : (r : Range) → is_range_feature r.name ≡ true → list_all (literal_holds env) (range_literals r) ≡ range_holds env r
  range-literals r known = bounds-hold r.name r.first r.second known

  -- clauses of one literal each
  pub alone-hold : (ls : List Literal) → clauses_hold env (map alone ls) ≡ list_all (literal_holds env) ls
  alone-hold [] = refl
  alone-hold (l ∷ ls) = both (clause_holds env (alone l)) (clauses_hold env (map alone ls)) (literal_holds env l) (list_all (literal_holds env) ls) (or-false (literal_holds env l)) (alone-hold ls)

  -- the clause of the literals turned round
  pub turned-holds : (ls : List Literal) → clause_holds env (record { literals = map turned ls }) ≡ not (list_all (literal_holds env) ls)
  turned-holds ls =
      any-map (literal_holds env) turned ls
      ∙ any-same (λ l. literal_holds env (turned l)) (λ l. not (literal_holds env l)) (λ l. signed-not l.positive (fact_holds env l.fact)) ls
      ∙ any-not (literal_holds env) ls
