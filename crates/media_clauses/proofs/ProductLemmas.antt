-- A product holds where one of its lists does.
use Rattle.std.proofs.Common.{◌≡◌, List, [], ◌∷◌, Bool, ◌||◌, map, refl, ◌∙◌, ap, sym}
use Rattle.std.specs.Prelude.{fold}
use Rattle.std.specs.List.{list_any}
use Rattle.std.proofs.lemmas.List.Folds.{list_all-append, list_any-append}
use Rattle.cascade_spec.specs.declared.environment.Environment.{Environment}
use Rattle.media_clauses.specs.declared.clause.Clause.{Clause}
use Rattle.media_clauses.specs.Clauses.{joined, never, product, products}
use Rattle.media_clauses.specs.Holding.{clause_holds, clauses_hold, literal_holds}
use Rattle.media_clauses.proofs.BoolLemmas.{and-or, both, or-and, or-assoc, or-false, or-true}

module _ (env : Environment) where
  -- one clause joined to each of several
  pub joined-hold : (p : Clause) (qs : List Clause) → clauses_hold env (map (joined p) qs) ≡ (clause_holds env p || clauses_hold env qs)
  joined-hold p [] = sym (or-true (clause_holds env p))
  joined-hold p (q ∷ qs) =
      both (clause_holds env (joined p q)) (clauses_hold env (map (joined p) qs)) (clause_holds env p || clause_holds env q) (clause_holds env p || clauses_hold env qs)
      (list_any-append (literal_holds env) p.literals q.literals)
      (joined-hold p qs)
      ∙ or-and (clause_holds env p) (clause_holds env q) (clauses_hold env qs)

  pub product-holds : (ps qs : List Clause) → clauses_hold env (product ps qs) ≡ (clauses_hold env ps || clauses_hold env qs)
  product-holds [] qs = refl
  product-holds (p ∷ ps) qs =
      list_all-append (clause_holds env) (map (joined p) qs) (product ps qs)
      ∙ both (clauses_hold env (map (joined p) qs)) (clauses_hold env (product ps qs)) (clause_holds env p || clauses_hold env qs) (clauses_hold env ps || clauses_hold env qs) (joined-hold p qs) (product-holds ps qs)
      ∙ and-or (clause_holds env p) (clauses_hold env ps) (clauses_hold env qs)

  -- a product of further lists
  further-hold : (acc : List Clause) (lists : List (List Clause)) → clauses_hold env (fold product acc lists) ≡ (clauses_hold env acc || list_any (clauses_hold env) lists)
  further-hold acc [] = sym (or-false (clauses_hold env acc))
  further-hold acc (l ∷ ls) =
      further-hold (product acc l) ls
      ∙ ap (λ (b : Bool). b || list_any (clauses_hold env) ls) (product-holds acc l)
      ∙ or-assoc (clauses_hold env acc) (clauses_hold env l) (list_any (clauses_hold env) ls)

  pub products-hold : (lists : List (List Clause)) → clauses_hold env (products lists) ≡ list_any (clauses_hold env) lists
  products-hold lists = further-hold (never ∷ []) lists
