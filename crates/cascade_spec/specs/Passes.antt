-- What passes show of themselves: lemmas for what a pass keeps.
use Rattle.std.specs.Prelude.{List, [], ◌∷◌, ◌++◌, flat_map, ◌≡◌}
use Rattle.std.specs.List.{AllByRecursion}
use Rattle.std.proofs.Common.{refl, sym, ◌∙◌, ap, subst}
use Rattle.std.proofs.lemmas.Grind.{flat_map-append}
use Rattle.sheet_types.specs.declared.sheet.Item.{Item}
use Rattle.sheet_types.specs.Contexts.{outside}
use Rattle.sheet_types.specs.Statements.{say_all}
use Rattle.cascade_spec.specs.Cascade.{Question}
use Rattle.cascade_spec.specs.Contents.{IsKept}

all-append : (P : Item → Type 0) (xs ys : List Item) → AllByRecursion P xs → AllByRecursion P ys → AllByRecursion P (xs ++ ys)
all-append P [] ys p r = r
all-append P (x ∷ xs) ys p r = (p.0, all-append P xs ys p.1 r)

-- P is what the first pass takes and f what it gives, Q and g are those of the second.
module _ (P Q : Item → Type 0) (f g : Item → List Item) where
  -- an item that the first pass takes, and for which it gives items that the second takes
  abbrev pub IsTakenByBoth : Item → Type 0
  IsTakenByBoth x = P x × AllByRecursion Q (f x)

  pub first-taken : (xs : List Item) → AllByRecursion IsTakenByBoth xs → AllByRecursion P xs
  first-taken [] all = tt
  first-taken (x ∷ xs) all = (all.0.0, first-taken xs all.1)

  pub second-taken : (xs : List Item) → AllByRecursion IsTakenByBoth xs → AllByRecursion Q (flat_map f xs)
  second-taken [] all = tt
  second-taken (x ∷ xs) all = all-append Q (f x) (flat_map f xs) all.0.1 (second-taken xs all.1)

  pub lowered-both : (xs : List Item) → flat_map (λ x. flat_map g (f x)) xs ≡ flat_map g (flat_map f xs)
  lowered-both [] = refl
  lowered-both (x ∷ xs) = ap (λ ys. flat_map g (f x) ++ ys) (lowered-both xs) ∙ sym (flat_map-append g (f x) (flat_map f xs))

  -- Two passes keep what each of them keeps.
  pub keeps-both : (xs : List Item) → AllByRecursion IsTakenByBoth xs → (q : Question)
      → (AllByRecursion P xs → IsKept q (say_all xs outside) (say_all (flat_map f xs) outside))
      → (AllByRecursion Q (flat_map f xs) → IsKept q (say_all (flat_map f xs) outside) (say_all (flat_map g (flat_map f xs)) outside))
      → IsKept q (say_all xs outside) (say_all (flat_map (λ x. flat_map g (f x)) xs) outside)
  keeps-both xs all q one two =
      let first = one (first-taken xs all) in
      let second = two (second-taken xs all) in
      subst (λ ys. IsKept q (say_all xs outside) (say_all ys outside)) (sym (lowered-both xs))
      (record { winner = second.winner ∙ first.winner; passed = second.passed ∙ first.passed })

-- Items, each given as it is, are the items.
pub given-each : (xs : List Item) → flat_map (λ x. x ∷ []) xs ≡ xs
given-each [] = refl
given-each (x ∷ xs) = ap (λ ys. x ∷ ys) (given-each xs)

pub keeps-each : (xs : List Item) (q : Question) → IsKept q (say_all xs outside) (say_all (flat_map (λ x. x ∷ []) xs) outside)
keeps-each xs q = subst (λ ys. IsKept q (say_all xs outside) (say_all ys outside)) (sym (given-each xs)) (record { winner = refl; passed = refl })
