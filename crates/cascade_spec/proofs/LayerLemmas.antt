-- Layers have the order of the standard.
use Rattle.std.proofs.Common.{◌≡◌, ℕ, zero, suc, ◌+◌, ◌<◌, ◌≤◌, List, [], ◌∷◌, ◌++◌, length, Bool, true, false, ◌&&◌, Some, refl, sym, ◌∙◌, ap, subst, arith, if◌then◌else◌, append_assoc, append-nil, eqb-true, eq-eqb}
use Rattle.std.specs.Ordering.{nat_cmp, ordering_then}
use Rattle.std.specs.Cmp.{nat_cmp_is}
use Rattle.std.specs.Cmp.Lexicographic.{slice_cmp, same_text}
use Rattle.std.specs.declared.cmp.Ordering.TheVariants.{Less, Equal}
use Rattle.sheet_types.specs.Contexts.{LayerPath}
use Rattle.sheet_types.specs.declared.sheet.LayerName.{LayerName}
use Rattle.sheet_types.specs.declared.sheet.LayerName.TheVariants.{Named, Anonymous}
use Rattle.css_tokens.specs.Trees.{is_text}
use Rattle.cascade_spec.specs.Layers.{same_layer, is_mention, first_mention, steps_of}
use Rattle.cascade_spec.specs.LayerOrder.{IsFirstMention, AreOrdered}

less : (a b : ℕ) → a < b → nat_cmp a b ≡ Less
less a b h = sym (nat_cmp_is a b Less h)

same : (a : ℕ) → nat_cmp a a ≡ Equal
same a = sym (nat_cmp_is a a Equal refl)

-- where a first mention stands, it is the one that is computed
pub first-is : (mentions : List LayerPath) (path : LayerPath) (i : ℕ) → IsFirstMention mentions path i → first_mention mentions path ≡ i
first-is [] path i is = absurd (cc is.stands.1)
first-is (mention ∷ mentions) path i is = at (first-is mentions path) i is (is_mention mention path) refl
  where
    earlier : (i : ℕ) → IsFirstMention (mention ∷ mentions) path (suc i) → IsFirstMention mentions path i
    earlier i is = record {
      stands = is.stands;
      first = λ j other stands mentioned. let below : suc i ≤ suc j = is.first (suc j) other stands mentioned in omega arith;
    }

    at : ((i : ℕ) → IsFirstMention mentions path i → first_mention mentions path ≡ i) → (i : ℕ) → IsFirstMention (mention ∷ mentions) path i → (b : Bool) → is_mention mention path ≡ b → first_mention (mention ∷ mentions) path ≡ i
    at rest i is true t =
        let none : i ≤ 0 = is.first 0 mention refl t in
        let zero_is : 0 ≡ i = omega arith in
        ap (λ b. if b then 0 else 1 + first_mention mentions path) t ∙ zero_is
    at rest zero is false f =
        let stands : Some mention ≡ Some is.stands.0 = is.stands.1 in
        let one : mention ≡ is.stands.0 = cc stands in
        let bad : true ≡ false = sym is.stands.2 ∙ ap (λ m. is_mention m path) (sym one) ∙ f in
        absurd (cc bad)
    at rest (suc i) is false f =
        let later : first_mention mentions path ≡ i = rest i (earlier i is) in
        let next : 1 + first_mention mentions path ≡ suc i = omega arith in
        ap (λ b. if b then 0 else 1 + first_mention mentions path) f ∙ next

pub within-mentions : (mentions : List LayerPath) (path : LayerPath) → first_mention mentions path ≤ length mentions
within-mentions [] path = omega arith
within-mentions (mention ∷ mentions) path = at (within-mentions mentions path) (is_mention mention path) refl
  where
    at : first_mention mentions path ≤ length mentions → (b : Bool) → is_mention mention path ≡ b → first_mention (mention ∷ mentions) path ≤ suc (length mentions)
    at rest true t = subst (λ n. n ≤ suc (length mentions)) (sym (ap (λ b. if b then 0 else 1 + first_mention mentions path) t)) (omega arith)
    at rest false f = subst (λ n. n ≤ suc (length mentions)) (sym (ap (λ b. if b then 0 else 1 + first_mention mentions path) f)) (omega arith)

-- behind equal heads the rest decides
same-head : (n : ℕ) (xs ys : List ℕ) → slice_cmp nat_cmp (n ∷ xs) (n ∷ ys) ≡ slice_cmp nat_cmp xs ys
same-head n xs ys = ap (λ o. ordering_then o (slice_cmp nat_cmp xs ys)) (same n)

less-head : (m n : ℕ) (xs ys : List ℕ) → m < n → slice_cmp nat_cmp (m ∷ xs) (n ∷ ys) ≡ Less
less-head m n xs ys h = ap (λ o. ordering_then o (slice_cmp nat_cmp xs ys)) (less m n h)

module _ (mentions : List LayerPath) where
  differ-from : (begun before a b : LayerPath) (x y : LayerName)
      → first_mention mentions ((begun ++ before) ++ x ∷ []) < first_mention mentions ((begun ++ before) ++ y ∷ [])
      → slice_cmp nat_cmp (steps_of mentions begun (before ++ x ∷ a)) (steps_of mentions begun (before ++ y ∷ b)) ≡ Less
  differ-from begun [] a b x y h =
      less-head (first_mention mentions (begun ++ x ∷ [])) (first_mention mentions (begun ++ y ∷ [])) (steps_of mentions (begun ++ x ∷ []) a) (steps_of mentions (begun ++ y ∷ []) b)
      (subst (λ p. first_mention mentions (p ++ x ∷ []) < first_mention mentions (p ++ y ∷ [])) (append-nil begun) h)
  differ-from begun (step ∷ before) a b x y h =
      same-head (first_mention mentions (begun ++ step ∷ [])) (steps_of mentions (begun ++ step ∷ []) (before ++ x ∷ a)) (steps_of mentions (begun ++ step ∷ []) (before ++ y ∷ b))
      ∙ differ-from (begun ++ step ∷ []) before a b x y
      (subst (λ p. first_mention mentions (p ++ x ∷ []) < first_mention mentions (p ++ y ∷ [])) (sym (append_assoc begun (step ∷ []) before)) h)

  prefix-from : (begun path : LayerPath) (x : LayerName) (a : LayerPath)
      → slice_cmp nat_cmp (steps_of mentions begun (path ++ x ∷ a)) (steps_of mentions begun path) ≡ Less
  prefix-from begun [] x a =
      let most = within-mentions mentions (begun ++ x ∷ []) in
      less-head (first_mention mentions (begun ++ x ∷ [])) (length mentions + 1) (steps_of mentions (begun ++ x ∷ []) a) [] (omega arith)
  prefix-from begun (step ∷ path) x a =
      same-head (first_mention mentions (begun ++ step ∷ [])) (steps_of mentions (begun ++ step ∷ []) (path ++ x ∷ a)) (steps_of mentions (begun ++ step ∷ []) path)
      ∙ prefix-from (begun ++ step ∷ []) path x a

-- a mention of two names in one place has the same name there
text-same : (a b : List ℕ) → is_text a b ≡ true → a ≡ b
text-same a b h = same_text a b (sym h)

name-same : (a b : LayerName) → same_layer a b ≡ true → a ≡ b
name-same (Named a) (Named b) h = ap Named (text-same a b h)
name-same (Anonymous a) (Anonymous b) h = ap Anonymous (eqb-true a b h)
name-same (Named a) (Anonymous b) h = absurd (cc h)
name-same (Anonymous a) (Named b) h = absurd (cc h)

and-parts : (a b : Bool) → (a && b) ≡ true → (a ≡ true) × (b ≡ true)
and-parts true b h = (refl, h)
and-parts false b h = absurd (cc h)

one-name : (mention before : LayerPath) (x y : LayerName) → is_mention mention (before ++ x ∷ []) ≡ true → is_mention mention (before ++ y ∷ []) ≡ true → x ≡ y
one-name [] [] x y h k = absurd (cc h)
one-name [] (step ∷ before) x y h k = absurd (cc h)
one-name (name ∷ mention) [] x y h k =
    let first = name-same name x (and-parts (same_layer name x) (is_mention mention []) h).0 in
    let second = name-same name y (and-parts (same_layer name y) (is_mention mention []) k).0 in
    sym first ∙ second
one-name (name ∷ mention) (step ∷ before) x y h k =
    one-name mention before x y
    (and-parts (same_layer name step) (is_mention mention (before ++ x ∷ [])) h).1
    (and-parts (same_layer name step) (is_mention mention (before ++ y ∷ [])) k).1

same-name : (a : LayerName) → same_layer a a ≡ true
same-name (Named a) = self-text a
  where
    self-text : (text : List ℕ) → is_text text text ≡ true
    self-text [] = refl
    self-text (b ∷ text) = ap (λ same. same && is_text text text) (eq-eqb b b refl) ∙ self-text text
same-name (Anonymous a) = eq-eqb a a refl

pub ordered : (mentions : List LayerPath) → AreOrdered mentions
ordered mentions = record {
  differing = λ before a b x y i j at_x at_y h.
      differ-from mentions [] before a b x y
      (let x_is = first-is mentions (before ++ x ∷ []) i at_x in
      let y_is = first-is mentions (before ++ y ∷ []) j at_y in
      omega arith);
  apart = λ before x y i differ at_x at_y.
      let one : at_x.stands.0 ≡ at_y.stands.0 = some-same (sym at_x.stands.1 ∙ at_y.stands.1) in
      let both : is_mention at_x.stands.0 (before ++ y ∷ []) ≡ true = ap (λ m. is_mention m (before ++ y ∷ [])) one ∙ at_y.stands.2 in
      let name : x ≡ y = one-name at_x.stands.0 before x y at_x.stands.2 both in
      let bad : true ≡ false = sym (same-name x) ∙ ap (same_layer x) name ∙ differ in
      absurd (cc bad);
  prefix = λ path x a. prefix-from mentions [] path x a;
}
  where
    some-same : {A : Type 0} {a b : A} → Some a ≡ Some b → a ≡ b
    some-same e = cc e
