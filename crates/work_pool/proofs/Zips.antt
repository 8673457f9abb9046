-- Items and answers, one more of each at a time.
use Rattle.std.proofs.Common.{◌≡◌, ℕ, ◌+◌, ◌<◌, List, [], ◌∷◌, ◌++◌, length, take, subst, sym, get_or, refl}
use Rattle.std.specs.List.{AllZip}
use Rattle.std.specs.Borrow.{Bor}
use Rattle.std.specs.Fn.{FnReturnsAt}
use denote.Param.Members.{Shared}
use Rattle.std.proofs.lemmas.List.{take_more}

-- one more at the end of each
zip-more : {A B : Type 0} (R : A → B → Type 0) (xs : List A) (ys : List B) (x : A) (y : B) → AllZip R xs ys → R x y → AllZip R (xs ++ x ∷ []) (ys ++ y ∷ [])
zip-more R [] [] x y all one = (one, tt)
zip-more R [] (b ∷ bs) x y all one = absurd all
zip-more R (a ∷ rest) [] x y all one = absurd all
zip-more R (a ∷ rest) (b ∷ bs) x y all one = (all.0, zip-more R rest bs x y all.1 one)

-- one more, the item at a place
pub zip-step : {A B : Type 0} (R : A → B → Type 0) (xs : List A) (ys : List B) (i : ℕ) (x : A) (y : B) → i < length xs → x ≡ get_or xs i x → AllZip R (take i xs) ys → R x y
    → AllZip R (take (i + 1) xs) (ys ++ y ∷ [])
zip-step R xs ys i x y within is all one =
    subst (λ front. AllZip R front (ys ++ y ∷ [])) (sym (take_more xs i x within)) (zip-more R (take i xs) ys (get_or xs i x) y all (subst (λ z. R z y) is one))

-- what a call at a reference answered, the work may answer on what the reference points to
pub answered-at : {F T R : Type 0} (g : Shared F (Bor T × Unit {0}) R) (work : F) (item : Bor T) (answer : R) {named : R} → g.post work (item, tt) answer → answer ≡ named
    → FnReturnsAt g work item.now named
answered-at g work item answer call is = record { shown = item; shows = refl; says = record { met = subst (λ r. g.post work (item, tt) r) is call } }
