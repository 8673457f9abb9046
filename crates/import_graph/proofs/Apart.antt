-- No file has two numbers.
use Rattle.std.proofs.Common.{◌≡◌, ℕ, zero, suc, Bool, true, false, ◌||◌, List, [], ◌∷◌, ◌++◌, length, Option, Some, None, ap, ◌∙◌, sym, refl, true≢false, nat_eq, arith, if◌then◌else◌}
use Rattle.std.specs.List.{list_any, AllByRecursion, IsDistinct}
use Rattle.std.specs.Option.{option_map_or}
use Rattle.std.proofs.lemmas.Bool.Decides.{nat_tests}
use Rattle.import_graph.specs.Order.{next_new, numbered_from, targets_at, module_order}

or-none : (a b : Bool) → (a || b) ≡ false → (a ≡ false) × (b ≡ false)
or-none true b h = absurd (true≢false h)
or-none false b h = (refl, h)

all-more : {A : Type 0} (P : A → Type 0) (xs : List A) (x : A) → AllByRecursion P xs → P x → AllByRecursion P (xs ++ x ∷ [])
all-more P [] x all one = (one, tt)
all-more P (y ∷ ys) x all one = (all.0, all-more P ys x all.1 one)

pub distinct-more : {A : Type 0} (eq : A → A → Bool) (symm : (x y : A) → eq x y ≡ eq y x) (xs : List A) (x : A) → IsDistinct eq xs → list_any (eq x) xs ≡ false → IsDistinct eq (xs ++ x ∷ [])
unfolding IsDistinct
distinct-more eq symm [] x distinct free = (tt, tt)
distinct-more eq symm (y ∷ ys) x distinct free =
    let parts = or-none (eq x y) (list_any (eq x) ys) free in
    (all-more (λ z. eq y z ≡ false) ys x distinct.0 (symm y x ∙ parts.0), distinct-more eq symm ys x distinct.1 parts.1)

module _ {A : Type 0} (eq : A → A → Bool) (targets : A → Option (List A)) where
  -- the file that is numbered next has no number yet
  next-free : (numbered todo : List A) (next : A × List A) → next_new eq targets numbered todo ≡ Some next → list_any (eq next.0) numbered ≡ false
  next-free numbered [] next is = absurd (cc is)
  next-free numbered (file ∷ todo) next is = by (list_any (eq file) numbered) (targets file) refl is (next-free numbered todo next)
    where
      by : (b : Bool) (found : Option (List A)) → list_any (eq file) numbered ≡ b
          → (if b then next_new eq targets numbered todo else option_map_or (λ named. Some (file, named ++ todo)) found (next_new eq targets numbered todo)) ≡ Some next
          → (next_new eq targets numbered todo ≡ Some next → list_any (eq next.0) numbered ≡ false) → list_any (eq next.0) numbered ≡ false
      by true found has is later = later is
      by false None has is later = later is
      by false (Some named) has is later = let here : file ≡ next.0 = cc is in ap (λ (f : A). list_any (eq f) numbered) (sym here) ∙ has

  pub numbered-apart : (symm : (x y : A) → eq x y ≡ eq y x) (more : ℕ) (numbered todo : List A) → IsDistinct eq numbered → IsDistinct eq (numbered_from eq targets more numbered todo)
  numbered-apart symm zero numbered todo distinct = distinct
  numbered-apart symm (suc more) numbered todo distinct = by (next_new eq targets numbered todo) refl (numbered-apart symm more)
    where
      by : (next : Option (A × List A)) → next_new eq targets numbered todo ≡ next → ((now rest : List A) → IsDistinct eq now → IsDistinct eq (numbered_from eq targets more now rest))
          → IsDistinct eq (elim next [ None ↦ numbered | Some p ↦ numbered_from eq targets more (numbered ++ p.0 ∷ []) p.1 ])
      by None is later = distinct
      by (Some p) is later = later (numbered ++ p.0 ∷ []) p.1 (distinct-more eq symm numbered p.0 distinct (next-free numbered todo p is))

nat-symmetric : (x y : ℕ) → nat_eq x y ≡ nat_eq y x
nat-symmetric x y = by (nat_eq x y) (nat_eq y x) refl refl
  where
    by : (a b : Bool) → nat_eq x y ≡ a → nat_eq y x ≡ b → a ≡ b
    by true true there back = refl
    by false false there back = refl
    by true false there back = grind (arith, nat_tests)
    by false true there back = grind (arith, nat_tests)

none-distinct : IsDistinct nat_eq []
unfolding IsDistinct
none-distinct = tt

pub order-apart : (targets : List (Option (List ℕ))) → IsDistinct nat_eq (module_order targets)
order-apart targets = numbered-apart nat_eq (targets_at targets) nat-symmetric (length targets) [] (0 ∷ []) none-distinct
