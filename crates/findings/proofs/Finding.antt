-- What stands first in selectors, from what stands first in what they hold.
use Rattle.std.specs.Prelude.{flat_map}
use Rattle.std.proofs.lemmas.Option.{none-some}
use Rattle.std.proofs.Common.{arith, cond, refl, Bool, true, false, Some, None, ℕ, List, [], ◌∷◌, ◌++◌, ◌+◌, ◌<◌, ◌≡◌, Option, length, get_or, take, suc, sym, ◌∙◌, ap}
use Rattle.std.proofs.Math.Seq.{take-suc}
use Rattle.std.proofs.lemmas.Grind.{flat_map-append}
use Rattle.std.proofs.lemmas.List.{append-nil}
use Rattle.std.proofs.lemmas.List.Sums.{fold-append}
use Rattle.std.proofs.lemmas.List.Elements.{filter_map-append}
use Rattle.selector_types.specs.PartsFound.{parts-Class, parts-Id, parts-Attribute, parts-Pseudo, parts-Not, parts-Is, parts-Where, parts-Parent, parts-Local, parts-Global, parts-Foreign, parts-Compound, parts-Selector}
use Rattle.selector_types.specs.declared.selector.Part as part
use Rattle.css_places.specs.declared.finding.Finding.{Finding}
use Rattle.findings.specs.Constructs.{found-Plain, found-Style, found-Group, found-Passed, found-Other, part_finding, part_findings}
use Rattle.findings.specs.Firsts.{first_from, first_finding, leads, sooner}

-- what comes first of parts one after the other
pub first-append : (file : ℕ) (best : Option Finding) (ps qs : List part.Part) → first_from best (part_findings file (ps ++ qs)) ≡ first_from (first_from best (part_findings file ps)) (part_findings file qs)
first-append file best ps qs =
    ap (first_from best) (filter_map-append (part_finding file) ps qs)
    ∙ fold-append sooner best (part_findings file ps) (part_findings file qs)

-- what comes first of the parts of one item more
pub first-next : {X : Type 0} (file : ℕ) (best : Option Finding) (g : X → List part.Part) (xs : List X) (i : ℕ) (x : X) → i < length xs → x ≡ get_or xs i x → first_from best (part_findings file (flat_map g (take (i + 1) xs))) ≡ first_from (first_from best (part_findings file (flat_map g (take i xs)))) (part_findings file (g x))
first-next file best g xs i x within is =
    ap (λ ps. first_from best (part_findings file ps)) taken ∙ first-append file best (flat_map g (take i xs)) (g x)
  where
    one-more : i + 1 ≡ suc i
    one-more = omega arith

    taken : flat_map g (take (i + 1) xs) ≡ flat_map g (take i xs) ++ g x
    taken =
        ap (λ n. flat_map g (take n xs)) one-more
        ∙ ap (flat_map g) (take-suc xs i x within ∙ ap (λ y. take i xs ++ y ∷ []) (sym is))
        ∙ flat_map-append g (take i xs) (x ∷ [])
        ∙ ap (λ ps. flat_map g (take i xs) ++ ps) (append-nil (g x))

pub ruleset simple_parts = (parts-Class, parts-Id, parts-Attribute, parts-Pseudo, parts-Not, parts-Is, parts-Where, parts-Parent, parts-Local, parts-Global, parts-Foreign)

pub ruleset joined = (first-append, parts-Compound, parts-Selector)

-- what stands in each kind of item
pub ruleset found = (found-Plain, found-Style, found-Group, found-Passed, found-Other)

-- what comes first of findings one after the other
pub found-append : (best : Option Finding) (fs gs : List Finding) → first_from best (fs ++ gs) ≡ first_from (first_from best fs) gs
found-append best fs gs = fold-append sooner best fs gs

-- what comes first of what stands in one item more
pub found-next : {X : Type 0} (best : Option Finding) (g : X → List Finding) (xs : List X) (i : ℕ) (x : X) → i < length xs → x ≡ get_or xs i x → first_from best (flat_map g (take (i + 1) xs)) ≡ first_from (first_from best (flat_map g (take i xs))) (g x)
found-next best g xs i x within is =
    ap (first_from best) taken ∙ found-append best (flat_map g (take i xs)) (g x)
  where
    one-more : i + 1 ≡ suc i
    one-more = omega arith

    taken : flat_map g (take (i + 1) xs) ≡ flat_map g (take i xs) ++ g x
    taken =
        ap (λ n. flat_map g (take n xs)) one-more
        ∙ ap (flat_map g) (take-suc xs i x within ∙ ap (λ y. take i xs ++ y ∷ []) (sym is))
        ∙ flat_map-append g (take i xs) (x ∷ [])
        ∙ ap (λ fs. flat_map g (take i xs) ++ fs) (append-nil (g x))

-- of findings that were found or stand behind, one is named
found-some : (f : Finding) (fs : List Finding) → (best : Finding) × (first_from (Some f) fs ≡ Some best)
found-some f [] = (f, refl)
found-some f (g ∷ gs) = by (leads f g) (found-some f gs) (found-some g gs)
  where
    by : (b : Bool) → ((best : Finding) × (first_from (Some f) gs ≡ Some best)) → ((best : Finding) × (first_from (Some g) gs ≡ Some best)) → (best : Finding) × (first_from (cond b (Some f) (Some g)) gs ≡ Some best)
    by true kept taken = kept
    by false kept taken = taken

-- Where none is named there is none.
pub none-stands : (fs : List Finding) → first_finding fs ≡ None → fs ≡ []
none-stands [] none = refl
none-stands (f ∷ fs) none = absurd (none-some (found-some f fs).0 (sym none ∙ (found-some f fs).1))
