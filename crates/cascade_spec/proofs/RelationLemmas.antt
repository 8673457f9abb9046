-- The combinators hold along chains of parents and of earlier siblings, of any length.
use Rattle.std.proofs.Common.{◌≡◌, ℕ, zero, suc, ◌<◌, ◌≤◌, Bool, true, false, ◌&&◌, ◌||◌, Option, Some, None, refl, sym, ◌∙◌, ap, subst, arith, inl, inr, slice_get, length, eqb-true, eq-or-lt_of_le, ◌⊎◌, if◌then◌else◌, eq-eqb}
use Rattle.std.specs.Option.{option_and_then, option_map_or}
use Rattle.std.proofs.lemmas.Option.{slice_get_within}
use Rattle.cascade_spec.specs.declared.document.Document.{Document}
use Rattle.cascade_spec.specs.declared.document.Element.{Element}
use Rattle.selector_types.specs.declared.selector.Combinator.TheVariants.{Descendant, Child, Next, Later}
use Rattle.cascade_spec.specs.Elements.{parent_of, same_number, of_ancestors, previous_among, of_siblings_among, is_related}
use Rattle.cascade_spec.specs.Relations.{steps_from, IsReached, IsPrevious, previous_of, ParentsComeFirst, HoldsOfOne}

-- a test of what there may be holds of what there is
of-some : (test : ℕ → Bool) (o : Option ℕ) → option_map_or test o false ≡ true → (m : ℕ) × (o ≡ Some m) × (test m ≡ true)
of-some test None h = absurd (cc h)
of-some test (Some m) h = (m, refl, h)

in-some : (test : ℕ → Bool) (o : Option ℕ) (m : ℕ) → o ≡ Some m → test m ≡ true → option_map_or test o false ≡ true
in-some test o m e h = ap (λ p. option_map_or test p false) e ∙ h

or-cases : (a b : Bool) → (a || b) ≡ true → (a ≡ true) ⊎ (b ≡ true)
or-cases true b h = inl refl
or-cases false b h = inr h

or-left : (a b : Bool) → a ≡ true → (a || b) ≡ true
or-left true b h = refl
or-left false b h = absurd (cc h)

or-right : (a b : Bool) → b ≡ true → (a || b) ≡ true
or-right true b h = refl
or-right false b h = h

and-parts : (a b : Bool) → (a && b) ≡ true → (a ≡ true) × (b ≡ true)
and-parts true b h = (refl, h)
and-parts false b h = absurd (cc h)

below-or-at : (a b : ℕ) → a < suc b → (a < b) ⊎ (a ≡ b)
below-or-at a b h = at (eq-or-lt_of_le {n = a} {m = b} (omega arith))
  where
    at : (a ≡ b) ⊎ (a < b) → (a < b) ⊎ (a ≡ b)
    at (inl same) = inr same
    at (inr below) = inl below

below-or-same : (a b : ℕ) → a ≤ b → (a < b) ⊎ (b ≡ a)
below-or-same a b h = at (eq-or-lt_of_le {n = a} {m = b} h)
  where
    at : (a ≡ b) ⊎ (a < b) → (a < b) ⊎ (b ≡ a)
    at (inl same) = inr (sym same)
    at (inr below) = inl below

some-one : (a b : ℕ) → Some a ≡ Some b → a ≡ b
some-one a b e = cc e

-- The parent.
pub child-holds : (doc : Document) (test : ℕ → Bool) (n : ℕ) → HoldsOfOne (is_related doc Child test n) test (λ m. parent_of doc n ≡ Some m)
child-holds doc test n = record {
  found = λ h. of-some test (parent_of doc n) h;
  held = λ m e h. in-some test (parent_of doc n) m e h;
}

-- one step more at the front
step-more : (step : ℕ → Option ℕ) (m p n : ℕ) → step n ≡ Some p → IsReached step m p → IsReached step m n
step-more step m p n e reached = (suc reached.0, ap (option_and_then (steps_from step (suc reached.0))) e ∙ reached.1)

step-once : (step : ℕ → Option ℕ) (m n : ℕ) → step n ≡ Some m → IsReached step m n
step-once step m n e = (0, ap (option_and_then (steps_from step 0)) e)

-- what is reached by one step or more is behind the first step, or is where it leads
module _ (step : ℕ → Option ℕ) where
  pub first-step : (o : Option ℕ) (count m n : ℕ) → step n ≡ o → steps_from step (suc count) n ≡ Some m
      → (p : ℕ) × (step n ≡ Some p) × (steps_from step count p ≡ Some m)
  first-step None count m n e h = let bad : None ≡ Some m = sym (ap (option_and_then (steps_from step count)) e) ∙ h in absurd (cc bad)
  first-step (Some p) count m n e h = (p, e, sym (ap (option_and_then (steps_from step count)) e) ∙ h)

-- Ancestors.
module _ (doc : Document) (test : ℕ → Bool) where
  ancestor-found : (steps n : ℕ) → of_ancestors doc test steps n ≡ true → (m : ℕ) × IsReached (parent_of doc) m n × (test m ≡ true)
  ancestor-found zero n h = absurd (cc h)
  ancestor-found (suc steps) n h = at (ancestor-found steps) (of-some (λ m. test m || of_ancestors doc test steps m) (parent_of doc n) h)
    where
      at : ((p : ℕ) → of_ancestors doc test steps p ≡ true → (m : ℕ) × IsReached (parent_of doc) m p × (test m ≡ true))
          → (p : ℕ) × (parent_of doc n ≡ Some p) × ((test p || of_ancestors doc test steps p) ≡ true)
          → (m : ℕ) × IsReached (parent_of doc) m n × (test m ≡ true)
      at more found = by_case (or-cases (test found.0) (of_ancestors doc test steps found.0) found.2)
        where
          by_case : (test found.0 ≡ true) ⊎ (of_ancestors doc test steps found.0 ≡ true) → (m : ℕ) × IsReached (parent_of doc) m n × (test m ≡ true)
          by_case (inl here) = (found.0, step-once (parent_of doc) found.0 n found.1, here)
          by_case (inr above) = let it = more found.0 above in (it.0, step-more (parent_of doc) it.0 found.0 n found.1 it.1, it.2)

  module _ (first : ParentsComeFirst doc) where
    ancestor-held : (count steps m n : ℕ) → n ≤ steps → steps_from (parent_of doc) (suc count) n ≡ Some m → test m ≡ true → of_ancestors doc test steps n ≡ true
    ancestor-held count zero m n small reached h =
        let up = first-step (parent_of doc) (parent_of doc n) count m n refl reached in
        let lower : up.0 < n = first n up.0 up.1 in
        absurd (omega arith)
    ancestor-held zero (suc steps) m n small reached h =
        let up = first-step (parent_of doc) (parent_of doc n) 0 m n refl reached in
        let is : up.0 ≡ m = some-one up.0 m up.2 in
        in-some (λ p. test p || of_ancestors doc test steps p) (parent_of doc n) up.0 up.1
        (or-left (test up.0) (of_ancestors doc test steps up.0) (ap test is ∙ h))
    ancestor-held (suc count) (suc steps) m n small reached h =
        let up = first-step (parent_of doc) (parent_of doc n) (suc count) m n refl reached in
        let lower : up.0 < n = first n up.0 up.1 in
        in-some (λ p. test p || of_ancestors doc test steps p) (parent_of doc n) up.0 up.1
        (or-right (test up.0) (of_ancestors doc test steps up.0) (ancestor-held count steps m up.0 (omega arith) up.2 h))

    -- an element with a parent is one of the document
    has-element : (o : Option Element) (n p : ℕ) → slice_get doc.elements n ≡ o → parent_of doc n ≡ Some p → n < length doc.elements
    has-element None n p e is = let bad : None ≡ Some p = sym (ap (option_and_then (λ (x : Element). x.parent)) e) ∙ is in absurd (cc bad)
    has-element (Some x) n p e is = slice_get_within doc.elements n x e

    pub descendant-holds : (n : ℕ) → HoldsOfOne (is_related doc Descendant test n) test (λ m. IsReached (parent_of doc) m n)
    descendant-holds n = record {
      found = λ h. ancestor-found (length doc.elements) n h;
      held = λ m reached h.
          let up = first-step (parent_of doc) (parent_of doc n) reached.0 m n refl reached.1 in
          let within : n < length doc.elements = has-element (slice_get doc.elements n) n up.0 refl up.1 in
          ancestor-held reached.0 (length doc.elements) m n (omega arith) reached.1 h;
    }

-- Siblings.
same-one : (a b : Option ℕ) → same_number a b ≡ true → a ≡ b
same-one None None h = refl
same-one None (Some b) h = absurd (cc h)
same-one (Some a) None h = absurd (cc h)
same-one (Some a) (Some b) h = ap Some (eqb-true a b h)

one-same : (a : Option ℕ) → same_number a a ≡ true
one-same None = refl
one-same (Some a) = eq-eqb a a refl

module _ (doc : Document) where
  abbrev Sibling : ℕ → ℕ → Type 0
  Sibling m n = parent_of doc m ≡ parent_of doc n

  sibling-test : (m n : ℕ) → Sibling m n → same_number (parent_of doc m) (parent_of doc n) ≡ true
  sibling-test m n e = ap (λ p. same_number p (parent_of doc n)) e ∙ one-same (parent_of doc n)

  -- the nearest among the first elements
  pub record IsNearest (m n bound : ℕ) : Type 0 where
    pub before : m < bound
    pub sibling : Sibling m n
    pub nearest : (k : ℕ) → m < k → k < bound → Sibling k n → ⊥

  test-apart : (m n : ℕ) → same_number (parent_of doc m) (parent_of doc n) ≡ false → Sibling m n → ⊥
  test-apart m n f e = let bad : true ≡ false = sym (sibling-test m n e) ∙ f in absurd (cc bad)

  nearest-found : (n bound m : ℕ) → previous_among doc n bound ≡ Some m → IsNearest m n bound
  nearest-found n zero m e = absurd (cc e)
  nearest-found n (suc j) m e = at (nearest-found n j m) (same_number (parent_of doc j) (parent_of doc n)) refl
    where
      at : (previous_among doc n j ≡ Some m → IsNearest m n j) → (b : Bool) → same_number (parent_of doc j) (parent_of doc n) ≡ b → IsNearest m n (suc j)
      at lower true t =
          let is : Some j ≡ Some m = sym (ap (λ b. if b then Some j else previous_among doc n j) t) ∙ e in
          let same : j ≡ m = some-one j m is in
          subst (λ i. IsNearest i n (suc j)) same
          (record { before = omega arith; sibling = same-one (parent_of doc j) (parent_of doc n) t; nearest = λ k more less is_sibling. absurd (omega arith) })
      at lower false f =
          let it = lower (sym (ap (λ b. if b then Some j else previous_among doc n j) f) ∙ e) in
          record {
            before = let below : m < j = it.before in omega arith;
            sibling = it.sibling;
            nearest = λ k more less is_sibling. over k more less is_sibling it f;
          }
        where
          over : (k : ℕ) → m < k → k < suc j → Sibling k n → IsNearest m n j → same_number (parent_of doc j) (parent_of doc n) ≡ false → ⊥
          over k more less is_sibling it f = last (below-or-at k j less)
            where
              last : (k < j) ⊎ (k ≡ j) → ⊥
              last (inl below) = it.nearest k more below is_sibling
              last (inr same) = test-apart j n f (subst (λ i. Sibling i n) same is_sibling)

  pub previous-is : (n m : ℕ) → previous_of doc n ≡ Some m → IsPrevious doc m n
  previous-is n m e =
      let it = nearest-found n n m e in
      record { before = it.before; sibling = it.sibling; nearest = it.nearest }

  -- where there is a sibling before, there is a nearest one, no earlier than it
  nearest-is : (n bound m : ℕ) → m < bound → Sibling m n → (p : ℕ) × (previous_among doc n bound ≡ Some p) × (m ≤ p)
  nearest-is n zero m less is = absurd (omega arith)
  nearest-is n (suc j) m less is = at (nearest-is n j m) (same_number (parent_of doc j) (parent_of doc n)) refl
    where
      at : (m < j → Sibling m n → (p : ℕ) × (previous_among doc n j ≡ Some p) × (m ≤ p)) → (b : Bool) → same_number (parent_of doc j) (parent_of doc n) ≡ b
          → (p : ℕ) × (previous_among doc n (suc j) ≡ Some p) × (m ≤ p)
      at lower true t = (j, ap (λ b. if b then Some j else previous_among doc n j) t, omega arith)
      at lower false f =
          let it = lower (below (below-or-at m j less)) is in
          (it.0, ap (λ b. if b then Some j else previous_among doc n j) f ∙ it.1, it.2)
        where
          below : (m < j) ⊎ (m ≡ j) → m < j
          below (inl h) = h
          below (inr same) = absurd (test-apart j n f (subst (λ i. Sibling i n) same is))

  pub is-previous : (n m : ℕ) → IsPrevious doc m n → previous_of doc n ≡ Some m
  is-previous n m is =
      let it = nearest-is n n m is.before is.sibling in
      let other = nearest-found n n it.0 it.1 in
      it.1 ∙ ap Some (same it other (below-or-same m it.0 it.2))
    where
      same : (it : (p : ℕ) × (previous_among doc n n ≡ Some p) × (m ≤ p)) → IsNearest it.0 n n → (m < it.0) ⊎ (it.0 ≡ m) → it.0 ≡ m
      same it other (inl more) = absurd (is.nearest it.0 more other.before other.sibling)
      same it other (inr e) = e

  -- what is reached from sibling to sibling is a sibling before
  reached-before : (count m n : ℕ) → steps_from (previous_of doc) (suc count) n ≡ Some m → (m < n) × Sibling m n
  reached-before zero m n reached =
      let up = first-step (previous_of doc) (previous_of doc n) 0 m n refl reached in
      let is : up.0 ≡ m = some-one up.0 m up.2 in
      let it = previous-is n up.0 up.1 in
      subst (λ i. (i < n) × Sibling i n) is (it.before, it.sibling)
  reached-before (suc count) m n reached =
      let up = first-step (previous_of doc) (previous_of doc n) (suc count) m n refl reached in
      let it = previous-is n up.0 up.1 in
      let lower = reached-before count m up.0 up.2 in
      let first : m < up.0 = lower.0 in
      let second : up.0 < n = it.before in
      (omega arith, lower.1 ∙ it.sibling)

  -- and each sibling before is reached
  sibling-reached : (fuel m n : ℕ) → n ≤ fuel → m < n → Sibling m n → IsReached (previous_of doc) m n
  sibling-reached zero m n small less is = absurd (omega arith)
  sibling-reached (suc fuel) m n small less is = at (sibling-reached fuel) (nearest-is n n m less is)
    where
      at : ((m p : ℕ) → p ≤ fuel → m < p → Sibling m p → IsReached (previous_of doc) m p) → (p : ℕ) × (previous_among doc n n ≡ Some p) × (m ≤ p) → IsReached (previous_of doc) m n
      at further it = by_case (previous-is n it.0 it.1) (below-or-same m it.0 it.2)
        where
          by_case : IsPrevious doc it.0 n → (m < it.0) ⊎ (it.0 ≡ m) → IsReached (previous_of doc) m n
          by_case p (inr same) = step-once (previous_of doc) m n (it.1 ∙ ap Some same)
          by_case p (inl more) =
              let below : it.0 < n = p.before in
              step-more (previous_of doc) m it.0 n it.1
              (further m it.0 (omega arith) more (is ∙ sym p.sibling))

  module _ (test : ℕ → Bool) where
    among-found : (n bound : ℕ) → of_siblings_among doc test n bound ≡ true → (m : ℕ) × (m < bound) × Sibling m n × (test m ≡ true)
    among-found n zero h = absurd (cc h)
    among-found n (suc j) h =
        at (among-found n j) (or-cases (same_number (parent_of doc j) (parent_of doc n) && test j) (of_siblings_among doc test n j) h)
      where
        at : (of_siblings_among doc test n j ≡ true → (m : ℕ) × (m < j) × Sibling m n × (test m ≡ true))
            → ((same_number (parent_of doc j) (parent_of doc n) && test j) ≡ true) ⊎ (of_siblings_among doc test n j ≡ true)
            → (m : ℕ) × (m < suc j) × Sibling m n × (test m ≡ true)
        at lower (inl here) =
            let both = and-parts (same_number (parent_of doc j) (parent_of doc n)) (test j) here in
            (j, omega arith, same-one (parent_of doc j) (parent_of doc n) both.0, both.1)
        at lower (inr there) = let it = lower there in let less : it.0 < j = it.1 in (it.0, omega arith, it.2, it.3)

    among-held : (n bound m : ℕ) → m < bound → Sibling m n → test m ≡ true → of_siblings_among doc test n bound ≡ true
    among-held n zero m less is h = absurd (omega arith)
    among-held n (suc j) m less is h = at (among-held n j m) (below-or-at m j less)
      where
        at : (m < j → Sibling m n → test m ≡ true → of_siblings_among doc test n j ≡ true) → (m < j) ⊎ (m ≡ j) → of_siblings_among doc test n (suc j) ≡ true
        at lower (inl below) = or-right (same_number (parent_of doc j) (parent_of doc n) && test j) (of_siblings_among doc test n j) (lower below is h)
        at lower (inr same) =
            let there : same_number (parent_of doc j) (parent_of doc n) ≡ true = sibling-test j n (subst (λ i. Sibling i n) same is) in
            let tested : test j ≡ true = ap test (sym same) ∙ h in
            let here : (same_number (parent_of doc j) (parent_of doc n) && test j) ≡ true = ap (λ b. b && test j) there ∙ tested in
            or-left (same_number (parent_of doc j) (parent_of doc n) && test j) (of_siblings_among doc test n j) here

    pub next-holds : (n : ℕ) → HoldsOfOne (is_related doc Next test n) test (λ m. previous_of doc n ≡ Some m)
    next-holds n = record {
      found = λ h. of-some test (previous_of doc n) h;
      held = λ m e h. in-some test (previous_of doc n) m e h;
    }

    pub later-holds : (n : ℕ) → HoldsOfOne (is_related doc Later test n) test (λ m. IsReached (previous_of doc) m n)
    later-holds n = record {
      found = λ h. let it = among-found n n h in (it.0, sibling-reached n it.0 n (omega arith) it.1 it.2, it.3);
      held = λ m reached h. let it = reached-before reached.0 m n reached.1 in among-held n n m it.0 it.1 h;
    }
