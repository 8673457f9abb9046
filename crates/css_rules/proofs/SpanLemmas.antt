-- Places of components among others.
use Rattle.std.proofs.Common.{◌≡◌, ℕ, suc, get_or, Result, Ok, Err, OnOk, ◌+◌, ◌-◌, ◌<◌, ◌≤◌, List, [], ◌∷◌, ◌++◌, Option, Some, None, IfSome, refl, sym, ◌∙◌, ap, arith, length, take, drop, slice_range, cond, option_map, true, false, inl, inr, subst, nat_le, Bool, if◌then◌else◌}
use Rattle.std.proofs.lemmas.List.{drop-drop, drop-take, take-take, length-drop, length-take-le, get_or-drop}
use Rattle.std.proofs.lemmas.Bool.{cases_Bool}
use Rattle.std.specs.List.{list_all}
use Rattle.css_tokens.specs.declared.component.Component.{Component}
use Rattle.css_rules.specs.declared.cuts.Span.{Span}
use Rattle.css_rules.specs.declared.declaration.Found.{Found}
use Rattle.sheet_types.specs.declared.sheet.Declaration.{Declaration}
use Rattle.css_components.specs.Components.{is_colon, is_gap}
use Rattle.css_components.specs.Trimming.{trimmed, trimmed_start, trimmed_end}
use Rattle.css_rules.specs.Cuts.{cuts}
use Rattle.css_rules.specs.Declarations.{after_colon}
use Rattle.css_rules.specs.Private.Spans.{IsWithin, StandsLast, at_span, behind, declared_in}
use Rattle.css_rules.proofs.CutLemmas.{cuts_left, trimmed_start-gap, trimmed_start-other}

-- a slice of what stands from a place on
pub slice-of_rest : {X : Type 0} (xs ys : List X) (n a b : ℕ) → drop n xs ≡ ys → slice_range xs (n + a) (n + b) ≡ slice_range ys a b
slice-of_rest xs ys n a b e =
    let count : (n + b) - (n + a) ≡ b - a = omega arith in
    ap (λ k. take k (drop (n + a) xs)) count
    ∙ ap (take (b - a)) (sym (drop-drop a n xs))
    ∙ ap (λ zs. take (b - a) (drop a zs)) e

-- what is the same from a place on is the same further on
pub left-past : {X : Type 0} (xs ys : List X) (to end : ℕ) → to ≤ end → drop to xs ≡ drop to ys → drop end xs ≡ drop end ys
left-past xs ys to end le e =
    let more : end ≡ to + (end - to) = omega arith in
    ap (λ k. drop k xs) more
    ∙ sym (drop-drop (end - to) to xs)
    ∙ ap (drop (end - to)) e
    ∙ drop-drop (end - to) to ys
    ∙ ap (λ k. drop k ys) (sym more)

pub same-at : {X : Type 0} (xs ys : List X) (i : ℕ) (d : X) → drop i xs ≡ drop i ys → get_or xs i d ≡ get_or ys i d
same-at xs ys i d e =
    let none : i + 0 ≡ i = omega arith in
    ap (λ k. get_or xs k d) (sym none)
    ∙ sym (get_or-drop i xs 0 d)
    ∙ ap (λ zs. get_or zs 0 d) e
    ∙ get_or-drop i ys 0 d
    ∙ ap (λ k. get_or ys k d) none

pub where-ok : {A E : Type 0} (result : Result A E) (P : Type 0) → P → OnOk result P
where-ok (Ok x) P p = p
where-ok (Err e) P p = tt

-- a slice of a slice
pub slice-of_slice : {X : Type 0} (xs : List X) (f t a b : ℕ) → a ≤ b → b ≤ t - f → slice_range (slice_range xs f t) a b ≡ slice_range xs (f + a) (f + b)
slice-of_slice xs f t a b le within =
    let whole : t - f ≡ a + ((t - f) - a) = omega arith in
    ap (λ k. take (b - a) (drop a (take k (drop f xs)))) whole
    ∙ ap (take (b - a)) (drop-take a ((t - f) - a) (drop f xs))
    ∙ take-take (b - a) ((t - f) - a) (drop a (drop f xs)) (omega arith)
    ∙ sym (slice-of_rest xs (drop f xs) f a b refl)

-- a slice of a front
pub slice-of_front : {X : Type 0} (xs : List X) (end a b : ℕ) → a ≤ b → b ≤ end → slice_range (take end xs) a b ≡ slice_range xs a b
slice-of_front xs end a b le within =
    let whole : end ≡ a + (end - a) = omega arith in
    ap (λ k. take (b - a) (drop a (take k xs))) whole
    ∙ ap (take (b - a)) (drop-take a (end - a) xs)
    ∙ take-take (b - a) (end - a) (drop a xs) (omega arith)

pub span-of_front : (cs : List Component) (end : ℕ) (span : Span) → end ≤ length cs → IsWithin span (take end cs) → (at_span (take end cs) span ≡ at_span cs span) × IsWithin span cs
span-of_front cs end span le within =
    let long : length (take end cs) ≡ end = length-take-le end cs le in (
      slice-of_front cs end span.from span.to within.0 (omega (arith, within.1, long)),
      (within.0, omega (arith, within.1, long, le)),
    )

pub slice-length : {X : Type 0} (xs : List X) (f t : ℕ) → t ≤ length xs → length (slice_range xs f t) ≡ t - f
slice-length xs f t le = length-take-le (t - f) (drop f xs) (simp (length-drop) (omega (arith, le)))

pub last-more : (c : Component) (cs rest : List Component) → StandsLast cs rest → StandsLast (c ∷ cs) rest
last-more c cs rest last =
    let one : length (c ∷ cs) - length rest ≡ suc (length cs - length rest) = omega (arith, last.short) in record {
      short = omega (arith, last.short);
      stands = ap (λ n. drop n (c ∷ cs)) one ∙ last.stands;
    }

pub last-whole : (cs : List Component) → StandsLast cs cs
last-whole cs = let none : length cs - length cs ≡ 0 = omega arith in record { short = omega arith; stands = ap (λ n. drop n cs) none }

pub start-last : (cs : List Component) → StandsLast cs (trimmed_start cs)
start-last [] = last-whole []
start-last (c ∷ cs) = elim (cases_Bool (is_gap c)) [
  | inl gap ↦ subst (StandsLast (c ∷ cs)) (sym (trimmed_start-gap c cs gap)) (last-more c cs (trimmed_start cs) (start-last cs))
  | inr other ↦ subst (StandsLast (c ∷ cs)) (sym (trimmed_start-other c cs other)) (last-whole (c ∷ cs))
]

pub start-last-of : (cs rest : List Component) → rest ≡ trimmed_start cs → StandsLast cs rest
start-last-of cs rest is = subst (StandsLast cs) (sym is) (start-last cs)

pub last-last : (xs ys zs : List Component) → StandsLast xs ys → StandsLast ys zs → StandsLast xs zs
last-last xs ys zs first second =
    let both : length xs - length zs ≡ (length xs - length ys) + (length ys - length zs) = omega (arith, first.short, second.short) in record {
      short = omega (arith, first.short, second.short);
      stands =
          ap (λ n. drop n xs) both
          ∙ sym (drop-drop (length ys - length zs) (length xs - length ys) xs)
          ∙ ap (drop (length ys - length zs)) first.stands
          ∙ second.stands;
    }

-- what follows a colon stands at the end
colon-last : (cs tail : List Component) → after_colon cs ≡ Some tail → StandsLast cs tail
colon-last [] tail e = absurd (cc e)
colon-last (c ∷ cs) tail e = elim (cases_Bool (is_colon c)) [
  | inl colon ↦
      let same : cs ≡ tail = cc (sym (ap (λ b. cond b (Some cs) None) colon) ∙ e) in
      subst (StandsLast (c ∷ cs)) same (last-more c cs cs (last-whole cs))
  | inr other ↦ absurd (cc (sym (ap (λ b. cond b (Some cs) None) other) ∙ e))
]

rest-last : (cs : List Component) → 1 ≤ length cs → StandsLast cs (drop 1 cs)
rest-last [] some = absurd (omega (arith, some))
rest-last (c ∷ cs) some = last-more c cs cs (last-whole cs)

-- so does what follows a name and a colon
pub tail-last : (cs start tail : List Component) → 1 ≤ length cs → start ≡ trimmed_start (drop 1 cs) → after_colon start ≡ Some tail → StandsLast cs tail
tail-last cs start tail some is e =
    last-last cs start tail (last-last cs (drop 1 cs) start (rest-last cs some) (start-last-of (drop 1 cs) start is)) (colon-last start tail e)

-- What is left without the gaps at the end stands at the front.
pub record StandsFirst (cs front : List Component) : Type 0 where
  pub short : length front ≤ length cs
  pub stands : take (length front) cs ≡ front

pub end-first : (cs : List Component) → StandsFirst cs (trimmed_end cs)
end-first [] = record { short = omega arith; stands = refl }
end-first (c ∷ cs) = elim (cases_Bool (list_all is_gap (c ∷ cs))) [
  | inl gaps ↦ subst (StandsFirst (c ∷ cs)) (sym (ap (λ b. cond b [] (c ∷ trimmed_end cs)) gaps)) (record { short = omega arith; stands = refl })
  | inr other ↦
      let first = end-first cs in
      subst (StandsFirst (c ∷ cs)) (sym (ap (λ b. cond b [] (c ∷ trimmed_end cs)) other)) (record { short = omega (arith, first.short); stands = ap (λ xs. c ∷ xs) first.stands })
]

-- where what is trimmed stands
pub trimmed-at : (cs rest front : List Component) (from to : ℕ) → rest ≡ trimmed_start cs → front ≡ trimmed_end rest → from ≡ length cs - length rest → to ≡ from + length front
    → (slice_range cs from to ≡ trimmed cs) × (from ≤ to) × (to ≤ length cs)
trimmed-at cs rest front from to is_rest is_front is_from is_to =
    let last : StandsLast cs rest = start-last-of cs rest is_rest in
    let first : StandsFirst rest front = subst (StandsFirst rest) (sym is_front) (end-first rest) in
    let count : to - from ≡ length front = omega (arith, is_to) in (
      ap (λ n. take n (drop from cs)) count
          ∙ ap (λ n. take (length front) (drop n cs)) is_from
          ∙ ap (take (length front)) last.stands
          ∙ first.stands
          ∙ is_front
          ∙ ap trimmed_end is_rest,
      omega (arith, is_to),
      omega (arith, is_to, is_from, last.short, first.short),
    )

-- a declaration among those that stand last
pub found-last : (cs tail : List Component) (found : Found) → StandsLast cs tail → declared_in cs (behind (length cs - length tail) found) ≡ declared_in tail found
found-last cs tail found last =
    ap (λ value. record { name = found.name; value = value; important = found.important; at = found.at })
    (slice-of_rest cs tail (length cs - length tail) found.value.from found.value.to last.stands)

pub found-last-of : (cs tail : List Component) (found shifted : Found) → shifted ≡ behind (length cs - length tail) found → StandsLast cs tail → declared_in cs shifted ≡ declared_in tail found
found-last-of cs tail found shifted is last = ap (declared_in cs) is ∙ found-last cs tail found last

pub within-last : (cs tail : List Component) (found : Found) → StandsLast cs tail → IsWithin found.value tail → IsWithin (behind (length cs - length tail) found).value cs
within-last cs tail found last within = (omega (arith, within.0), omega (arith, within.1, last.short))

-- Declarations in a slice.

pub found-inside : (cs : List Component) (from to : ℕ) (found : Found) → to ≤ length cs → IsWithin found.value (slice_range cs from to)
    → declared_in cs (behind from found) ≡ declared_in (slice_range cs from to) found
found-inside cs from to found within inside =
    ap (λ value. record { name = found.name; value = value; important = found.important; at = found.at })
    (sym (slice-of_slice cs from to found.value.from found.value.to inside.0 (omega (arith, inside.1, slice-length cs from to within))))

pub found-option : (cs : List Component) (from to : ℕ) (found : Option Found) → to ≤ length cs → IfSome found (λ f. IsWithin f.value (slice_range cs from to))
    → option_map (declared_in cs) (option_map (behind from) found) ≡ option_map (declared_in (slice_range cs from to)) found
found-option cs from to None within inside = refl
found-option cs from to (Some found) within inside = ap Some (found-inside cs from to found within inside)

-- its value ends where the slice does, or before
pub below-option : (cs : List Component) (from to : ℕ) (found : Option Found) → from ≤ to → to ≤ length cs → IfSome found (λ f. IsWithin f.value (slice_range cs from to))
    → IfSome (option_map (behind from) found) (λ f. (f.value.from ≤ f.value.to) × (f.value.to ≤ to))
below-option cs from to None le within inside = tt
below-option cs from to (Some found) le within inside = (omega (arith, inside.0), omega (arith, le, inside.1, slice-length cs from to within))

pub within-option : (cs : List Component) (to : ℕ) (found : Option Found) → to ≤ length cs → IfSome found (λ f. (f.value.from ≤ f.value.to) × (f.value.to ≤ to)) → IfSome found (λ f. IsWithin f.value cs)
within-option cs to None within below = tt
within-option cs to (Some found) within below = (below.0, omega (arith, below.1, within))

pub past-option : (to more : ℕ) (found : Option Found) → to ≤ more → IfSome found (λ f. (f.value.from ≤ f.value.to) × (f.value.to ≤ to)) → IfSome found (λ f. f.value.to ≤ more)
past-option to more None le below = tt
past-option to more (Some found) le below = omega (arith, below.1, le)

-- what is left depends on nothing before it
pub cuts_left-same : (ends : List Component → Component → Bool) (xs ys : List Component) (n : ℕ) → length xs ≡ length ys → drop n xs ≡ drop n ys → cuts_left ends xs n ≡ cuts_left ends ys n
cuts_left-same ends xs ys n long same =
    ap (λ k. cond (nat_le n k) (cuts ends (drop n xs)) []) long
    ∙ ap (λ zs. cond (nat_le n (length ys)) (cuts ends zs) []) same
