-- Numbers, dimensions and identifiers before what may stand between a value and a relation: a `>`, or a space.
use Rattle.std.proofs.Common.{◌≡◌, ℕ, ◌-◌, List, [], ◌∷◌, ◌++◌, length, take, drop, Bool, true, false, not, ◌||◌, nat_eq, eqb-true, refl, sym, inl, inr, ap, ap₂, ◌∙◌, subst, Some, codes}
use Rattle.std.proofs.lemmas.Bool.{cases_Bool, false≢true, not-true}
use Rattle.std.proofs.lemmas.List.{map-append, take-append-drop}
use Rattle.std.specs.List.{ends_with}
use lib.Pointwise.{bytes_decides}
use Rattle.css_tokens.specs.declared.class.Class.{Class}
use Rattle.css_tokens.specs.declared.class.Class.TheVariants as class
use Rattle.css_tokens.specs.declared.kind.Kind.{Kind}
use Rattle.css_tokens.specs.declared.kind.Kind.TheVariants as kind
use Rattle.css_tokens.specs.declared.machine.State.{State}
use Rattle.css_tokens.specs.declared.machine.State.TheVariants as state
use Rattle.css_tokens.specs.Again.{StaysFirst, bang, begins_none, takes, word_from}
use Rattle.css_tokens.specs.Characters.{class_of, has, is_class, other_than}
use Rattle.css_tokens.specs.Kinds.{is_kind}
use Rattle.css_tokens.specs.Private.Machine.{next, ended}
use Rattle.css_tokens.specs.Tokens.{classes_of, names, spells}
use Rattle.css_tokens.proofs.Again.{dies_at}
use Rattle.css_tokens.proofs.DecodedNames.{dead_end}
use Rattle.css_tokens.proofs.Derivatives.{is_class-eq}
use Rattle.css_tokens.proofs.IdentStarts.{dash-class}
use Rattle.css_tokens.proofs.MachineStates.{all_pass, each_class, each_state, each_step, implied, is_dead, is_dead-eq}
use Rattle.css_tokens.proofs.Runs.{run, same_inside}
use Rattle.css_tokens.proofs.Stays.{aside_from, not_function, spelled_state, stays_by, stays_in}
use Rattle.css_tokens.proofs.Takes.{dark_aside, run-append}
use Rattle.css_tokens.proofs.TakesSpace.{never_takes, space_kind}

-- all that is no `>`
abbrev no_greater : List Class
no_greater = other_than (class.Greater ∷ [])

-- Before `>`.

pub number_before_greater : (u rest : List ℕ) → spells kind.Number u ≡ true → StaysFirst (word_from kind.Number u) (codes ">" ++ rest)
number_before_greater u rest h = stays_in u kind.Number no_greater (codes ">" ++ rest) refl refl refl refl refl h refl refl

pub dimension_before_greater : (u rest : List ℕ) → spells kind.Dimension u ≡ true → StaysFirst (word_from kind.Dimension u) (codes ">" ++ rest)
dimension_before_greater u rest h = stays_in u kind.Dimension no_greater (codes ">" ++ rest) refl refl refl refl refl h refl refl

-- The state behind two dashes is that of the text `--` alone.

abbrev is_two : State → Bool
is_two state.MinusMinus = true
is_two s = false

is_two-eq : (s : State) → is_two s ≡ true → s ≡ state.MinusMinus
is_two-eq state.MinusMinus h = refl
is_two-eq s h = absurd (cc h)

-- a state from which none comes to two dashes
abbrev is_far : State → Bool
is_far state.Start = false
is_far state.Minus = false
is_far state.MinusMinus = false
is_far s = true

run-far : (s : State) (t : List Class) → is_far s ≡ true → is_far (run s t) ≡ true
run-far s [] h = h
run-far s (x ∷ t) h = run-far (next s x) t (implied (is_far s) (is_far (next s x)) h (each_step (λ r c. not (is_far r) || is_far (next r c)) refl s x))

never-far : (s : State) (t : List Class) → is_far s ≡ true → run s t ≡ state.MinusMinus → ⊥
never-far s t h e = (let f : is_far state.MinusMinus ≡ true = sym (ap is_far e) ∙ run-far s t h in cc)

left_out : (a b : Bool) → a ≡ false → (a || b) ≡ true → b ≡ true
left_out true b h k = cc
left_out false b h k = k

dash-byte : (b : ℕ) → is_class class.Minus (class_of b) ≡ true → b ≡ 45
dash-byte b h = eqb-true b 45 (dash-class b ∙ h)

-- a state from which a dash alone does not lead far
abbrev NearDash : State → Type 0
NearDash s = (x : Class) → is_class class.Minus x ≡ false → is_far (next s x) ≡ true

from-start : NearDash state.Start
from-start x f = left_out (is_class class.Minus x) (is_far (next state.Start x)) f (each_class (λ c. is_class class.Minus c || is_far (next state.Start c)) refl x)

from-minus : NearDash state.Minus
from-minus x f = left_out (is_class class.Minus x) (is_far (next state.Minus x)) f (each_class (λ c. is_class class.Minus c || is_far (next state.Minus c)) refl x)

-- the first byte is a dash
first-dash : (s : State) (b : ℕ) (u : List ℕ) → NearDash s → run (next s (class_of b)) (classes_of u) ≡ state.MinusMinus → is_class class.Minus (class_of b) ≡ true
first-dash s b u near e =
    elim (cases_Bool (is_class class.Minus (class_of b))) [
      | inl f ↦ f
      | inr f ↦ absurd (never-far (next s (class_of b)) (classes_of u) (near (class_of b) f) e)
    ]

-- what is read behind it
behind-dash : (s : State) (b : ℕ) (u : List ℕ) → is_class class.Minus (class_of b) ≡ true → run (next s (class_of b)) (classes_of u) ≡ state.MinusMinus → run (next s class.Minus) (classes_of u) ≡ state.MinusMinus
behind-dash s b u f e = ap (λ c. run (next s c) (classes_of u)) (is_class-eq class.Minus (class_of b) f) ∙ e

no-more : (u : List ℕ) → run state.MinusMinus (classes_of u) ≡ state.MinusMinus → u ≡ []
no-more [] e = refl
no-more (b ∷ u) e = absurd (never-far (next state.MinusMinus (class_of b)) (classes_of u) (each_class (λ c. is_far (next state.MinusMinus c)) refl (class_of b)) e)

one-dash : (u : List ℕ) → run state.Minus (classes_of u) ≡ state.MinusMinus → u ≡ 45 ∷ []
one-dash [] e = absurd (cc e)
one-dash (b ∷ u) e =
    let f = first-dash state.Minus b u from-minus e in
    ap₂ (λ (x : ℕ) (xs : List ℕ). x ∷ xs) (dash-byte b f) (no-more u (behind-dash state.Minus b u f e))

two-dashes : (u : List ℕ) → run state.Start (classes_of u) ≡ state.MinusMinus → u ≡ 45 ∷ 45 ∷ []
two-dashes [] e = absurd (cc e)
two-dashes (b ∷ u) e =
    let f = first-dash state.Start b u from-start e in
    ap₂ (λ (x : ℕ) (xs : List ℕ). x ∷ xs) (dash-byte b f) (one-dash u (behind-dash state.Start b u f e))

not-two : (u : List ℕ) → (u ≡ codes "--" → ⊥) → is_two (run state.Start (classes_of u)) ≡ false
not-two u n = elim (cases_Bool (is_two (run state.Start (classes_of u)))) [
  | inl e ↦ absurd (n (two-dashes u (is_two-eq (run state.Start (classes_of u)) e)))
  | inr e ↦ e
]

pub ident_before_greater : (u rest : List ℕ) → spells kind.Ident u ≡ true → (u ≡ codes "--" → ⊥) → StaysFirst (word_from kind.Ident u) (codes ">" ++ rest)
ident_before_greater u rest h n =
    let s = run state.Start (classes_of u) in
    let i = spelled_state u kind.Ident refl h in
    let ends : (is_two s || is_dead (next s class.Greater)) ≡ true =
    implied (names kind.Ident (ended s [])) _ (ap (names kind.Ident) i) (each_state (λ r. not (names kind.Ident (ended r [])) || (is_two r || is_dead (next r class.Greater))) refl s) in
    let dead : next s class.Greater ≡ state.Dead = is_dead-eq (next s class.Greater) (left_out (is_two s) _ (not-two u n) ends) in
    let dies : dies_at s no_greater = λ x m g. subst (λ c. next s c ≡ state.Dead) (is_class-eq class.Greater x (left_out (has no_greater x) _ m (each_class (λ c. has no_greater c || is_class class.Greater c) refl x))) dead in
    stays_by u kind.Ident no_greater (codes ">" ++ rest) dies i (aside_from s kind.Ident refl i) (not_function u kind.Ident refl i) refl (dark_aside s class.Greater refl)

-- Before a space.

-- all that is no space
abbrev no_blank : List Class
no_blank = other_than (class.Blank ∷ [])

-- a number takes no space
pub number_before_space : (u rest : List ℕ) → spells kind.Number u ≡ true → StaysFirst (word_from kind.Number u) (codes " " ++ rest)
number_before_space u rest h = stays_in u kind.Number no_blank (codes " " ++ rest) refl refl refl refl refl h refl (never_takes kind.Number u refl)

-- neither does a word that ends in two dashes
dashes-take : (k : Kind) (v : List ℕ) → all_pass (λ r. not (names k (ended (next (next r class.Minus) class.Blank) []))) ≡ true → takes (word_from k (v ++ 45 ∷ 45 ∷ [])) (codes " ") ≡ false
dashes-take k v h =
    let s = run state.Start (classes_of v) in
    let ends : run state.Start (classes_of (v ++ 45 ∷ 45 ∷ [])) ≡ next (next s class.Minus) class.Minus =
    ap (run state.Start) (map-append class_of v (45 ∷ 45 ∷ [])) ∙ run-append state.Start (classes_of v) (class.Minus ∷ class.Minus ∷ []) in
    ap (names k) (space_kind (v ++ 45 ∷ 45 ∷ []) ∙ ap (λ r. ended (next r class.Blank) []) ends)
    ∙ not-true (names k (ended (next (next (next s class.Minus) class.Minus) class.Blank) [])) (each_state (λ r. not (names k (ended (next (next r class.Minus) class.Blank) []))) h (next s class.Minus))

dashed : (u : List ℕ) → ends_with nat_eq u (codes "--") ≡ true → (v : List ℕ) × (u ≡ v ++ 45 ∷ 45 ∷ [])
dashed u h =
    let n = length u - 2 in
    (take n u, sym (take-append-drop n u) ∙ ap (λ t. take n u ++ t) (sym ((bytes_decides (codes "--") (drop n u)).0 h)))

dashed-takes : (k : Kind) (u rest : List ℕ) → all_pass (λ r. not (names k (ended (next (next r class.Minus) class.Blank) []))) ≡ true → ends_with nat_eq u (codes "--") ≡ true → takes (word_from k u) (codes " " ++ rest) ≡ false
dashed-takes k u rest h e =
    let d = dashed u e in
    subst (λ t. takes (word_from k t) (codes " ") ≡ false) (sym d.1) (dashes-take k d.0 h)

pub ident_before_space : (u rest : List ℕ) → spells kind.Ident u ≡ true → ends_with nat_eq u (codes "--") ≡ true → StaysFirst (word_from kind.Ident u) (codes " " ++ rest)
ident_before_space u rest h e = stays_in u kind.Ident no_blank (codes " " ++ rest) refl refl refl refl refl h refl (dashed-takes kind.Ident u rest refl e)

pub dimension_before_space : (u rest : List ℕ) → spells kind.Dimension u ≡ true → ends_with nat_eq u (codes "--") ≡ true → StaysFirst (word_from kind.Dimension u) (codes " " ++ rest)
dimension_before_space u rest h e = stays_in u kind.Dimension no_blank (codes " " ++ rest) refl refl refl refl refl h refl (dashed-takes kind.Dimension u rest refl e)

-- Behind a `<`.

-- nothing but a Delim begins with `!`
bang-alone : (k : Kind) (t : List Class) → is_kind k kind.Delim ≡ false → ended (run (state.End kind.Delim) t) [] ≡ Some k → ⊥
bang-alone k [] n h = (let e : k ≡ kind.Delim = sym (same_inside kind.Delim k h) in false≢true (sym n ∙ ap (λ j. is_kind j kind.Delim) e))
bang-alone k (x ∷ t) n h = dead_end (next (state.End kind.Delim) x) t k refl h

pub no-bang : (k : Kind) (u rest : List ℕ) → is_kind k kind.Delim ≡ false → is_kind k kind.Url ≡ false → spells k u ≡ true → begins_none bang (u ++ rest) ≡ true
no-bang k [] rest n l h = (let e = spelled_state [] k l h in cc)
no-bang k (b ∷ u) rest n l h =
    elim (cases_Bool (is_class class.Bang (class_of b))) [
      | inl e ↦ absurd (bang-alone k (classes_of u) n (ap (λ c. ended (run (next state.Start c) (classes_of u)) []) (is_class-eq class.Bang (class_of b) e) ∙ spelled_state (b ∷ u) k l h))
      | inr e ↦ ap (λ x. not (x || false)) e
    ]
