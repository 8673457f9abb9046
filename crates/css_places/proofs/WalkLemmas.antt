-- The last of the components, and where they lead.
use Rattle.std.proofs.Common.{◌≡◌, ℕ, List, [], ◌∷◌, ◌++◌, Bool, true, false, ◌||◌, codes, Option, Some, None, refl, ap, sym, inl, inr}
use Rattle.std.specs.Prelude.{is_some}
use Rattle.std.proofs.lemmas.Bool.{cases_Bool}
use Rattle.std.specs.Option.{option_map, option_and_then}
use Rattle.std.proofs.lemmas.List.{map-append}
use Rattle.css_tokens.specs.Trees.{is_text}
use Rattle.css_places.specs.declared.walk.Above.{Above}
use Rattle.css_places.specs.Walks.{without_last, leads_above, reached, step, up, walk}
use Rattle.css_places.specs.Parts.{components_of, parts_of}
use Rattle.css_places.specs.declared.walk.Above.TheVariants.{Kept}

pub last-off : (components : List (List ℕ)) (last : List ℕ) → without_last (components ++ last ∷ []) ≡ Some components
last-off [] last = refl
last-off (c ∷ []) last = refl
last-off (c ∷ d ∷ components) last = ap (option_map (λ more. c ∷ more)) (last-off (d ∷ components) last)

pub last-above : (components : List (List ℕ)) (last : List ℕ) → leads_above (components ++ last ∷ []) ≡ is_text last (codes "..")
last-above [] last = refl
last-above (c ∷ []) last = refl
last-above (c ∷ d ∷ components) last = last-above (d ∷ components) last

pub ruleset last_parts = (last-off, last-above, map-append)

-- Components lead where the first of them lead, and from there the others.
pub walk-append : (above : Above) (kept xs ys : List (List ℕ)) → walk above kept (xs ++ ys) ≡ option_and_then (λ more. walk above more ys) (walk above kept xs)
walk-append above kept [] ys = refl
walk-append above kept (x ∷ xs) ys = from (step above kept x) (λ more. walk-append above more xs ys)
  where
    from : (next : Option (List (List ℕ))) → ((more : List (List ℕ)) → walk above more (xs ++ ys) ≡ option_and_then (λ further. walk above further ys) (walk above more xs))
        → option_and_then (λ more. walk above more (xs ++ ys)) next ≡ option_and_then (λ more. walk above more ys) (option_and_then (λ more. walk above more xs) next)
    from None rest = refl
    from (Some more) rest = rest more

pub ruleset walks = (walk-append)

-- Where a step above the root is kept, each step leads somewhere.
last-some : (c : List ℕ) (components : List (List ℕ)) → is_some (without_last (c ∷ components)) ≡ true
last-some c [] = refl
last-some c (d ∷ components) = mapped (without_last (d ∷ components)) (last-some d components)
  where
    mapped : (o : Option (List (List ℕ))) → is_some o ≡ true → is_some (option_map (λ more. c ∷ more) o) ≡ true
    mapped None some = some
    mapped (Some more) some = refl

up-some : (kept : List (List ℕ)) → is_some (up Kept kept) ≡ true
up-some [] = refl
up-some (c ∷ kept) = elim (cases_Bool (leads_above (c ∷ kept))) [
  | inl e ↦ rw e refl
  | inr e ↦ rw e (last-some c kept)
]

step-some : (kept : List (List ℕ)) (component : List ℕ) → is_some (step Kept kept component) ≡ true
step-some kept component = elim (cases_Bool (is_text component [] || is_text component (codes "."))) [
  | inl e ↦ rw e refl
  | inr e ↦ rw e (elim (cases_Bool (is_text component (codes ".."))) [
    | inl f ↦ rw f (up-some kept)
    | inr f ↦ rw f refl
  ])
]

walk-some : (kept components : List (List ℕ)) → is_some (walk Kept kept components) ≡ true
walk-some kept [] = refl
walk-some kept (c ∷ components) = from (step Kept kept c) (step-some kept c) (λ more. walk-some more components)
  where
    from : (next : Option (List (List ℕ))) → is_some next ≡ true → ((more : List (List ℕ)) → is_some (walk Kept more components) ≡ true)
        → is_some (option_and_then (λ more. walk Kept more components) next) ≡ true
    from None some rest = absurd (cc some)
    from (Some more) some rest = rest more

pub kept-reached : (from path : List ℕ) → is_some (reached Kept from path) ≡ true
kept-reached from path = walk-some [] ((parts_of from).folders ++ components_of path)
