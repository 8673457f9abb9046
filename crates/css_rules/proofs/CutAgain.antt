-- Lists that are joined by marks are cut at them again.
use Rattle.std.proofs.Common.{◌≡◌, List, [], ◌∷◌, ◌++◌, Bool, true, false, ◌&&◌, ◌||◌, not, Some, None, refl, ◌∙◌, ap, cond}
use Rattle.std.specs.List.{list_any, list_all}
use Rattle.css_tokens.specs.declared.component.Component.{Component}
use Rattle.css_components.specs.Components.{is_gap}
use Rattle.css_components.specs.Trimming.{trimmed_end}
use Rattle.css_rules.specs.Cuts.{cuts_at}
use Rattle.css_rules.proofs.CutLemmas.{front-cut, goes_on, or-left, or-right, whole-cut}

-- what holds no mark goes on
plain-goes : (test : Component → Bool) (before xs : List Component) → list_any test xs ≡ false → goes_on (λ b c. test c) before xs ≡ true
plain-goes test before [] none = refl
plain-goes test before (x ∷ xs) none =
    ap (λ b. not b && goes_on (λ b c. test c) (before ++ x ∷ []) xs) (or-left (test x) (list_any test xs) none)
    ∙ plain-goes test (before ++ x ∷ []) xs (or-right (test x) (list_any test xs) none)

-- so it is the front of the first cut
pub cuts-front : (test : Component → Bool) (xs : List Component) (m : Component) (ys : List Component) → list_any test xs ≡ false → test m ≡ true
    → cuts_at test (xs ++ m ∷ ys) ≡ record { front = xs; mark = Some m } ∷ cuts_at test ys
cuts-front test xs m ys none marked = front-cut (λ b c. test c) [] xs m ys (plain-goes test [] xs none) marked

pub cuts-whole : (test : Component → Bool) (xs : List Component) → list_any test xs ≡ false → cuts_at test xs ≡ record { front = xs; mark = None } ∷ []
cuts-whole test xs none = whole-cut (λ b c. test c) [] xs (plain-goes test [] xs none)

pub any-append : (test : Component → Bool) (xs ys : List Component) → list_any test xs ≡ false → list_any test ys ≡ false → list_any test (xs ++ ys) ≡ false
any-append test [] ys a b = b
any-append test (x ∷ xs) ys a b =
    ap (λ here. here || list_any test (xs ++ ys)) (or-left (test x) (list_any test xs) a)
    ∙ any-append test xs ys (or-right (test x) (list_any test xs) a) b

-- a list that is not empty has a last component
pub last_of : (c : Component) (cs : List Component) → (front : List Component) × ((last : Component) × (c ∷ cs ≡ front ++ last ∷ []))
last_of c [] = ([], (c, refl))
last_of c (d ∷ cs) = let more = last_of d cs in (c ∷ more.0, (more.1.0, ap (λ rest. c ∷ rest) more.1.1))

-- a component that is no gap stays in front
pub trimmed_end-solid : (c : Component) (cs : List Component) → is_gap c ≡ false → trimmed_end (c ∷ cs) ≡ c ∷ trimmed_end cs
trimmed_end-solid c cs solid = ap (λ b. cond (b && list_all is_gap cs) [] (c ∷ trimmed_end cs)) solid

-- trimming takes nothing in
pub any-trimmed_end : (test : Component → Bool) (cs : List Component) → list_any test cs ≡ false → list_any test (trimmed_end cs) ≡ false
any-trimmed_end test [] none = refl
any-trimmed_end test (c ∷ cs) none = at (list_all is_gap (c ∷ cs)) (any-trimmed_end test cs (or-right (test c) (list_any test cs) none))
  where
    at : (b : Bool) → list_any test (trimmed_end cs) ≡ false → list_any test (cond b [] (c ∷ trimmed_end cs)) ≡ false
    at true rest = refl
    at false rest = ap (λ here. here || list_any test (trimmed_end cs)) (or-left (test c) (list_any test cs) none) ∙ rest
