-- What the machine has read after a text, and the longest front from there on.
use Rattle.std.proofs.Common.{◌≡◌, ℕ, suc, zero, ◌+◌, ◌≤◌, List, [], ◌∷◌, ◌++◌, length, not, refl, sym, inl, inr, ap, ap₂, ◌∙◌, Option, Some, None, arith, add-one, zero-le}
use Rattle.std.proofs.lemmas.Bool.{cases_Bool}
use Rattle.std.specs.Option.{option_map}
use Rattle.css_tokens.specs.declared.class.Class.{Class}
use Rattle.css_tokens.specs.declared.class.Class.TheVariants as class
use Rattle.css_tokens.specs.declared.kind.Kind.{Kind}
use Rattle.css_tokens.specs.declared.machine.State.{State}
use Rattle.css_tokens.specs.declared.machine.State.TheVariants as state
use Rattle.css_tokens.specs.Kinds.{kind_of, begins}
use Rattle.css_tokens.specs.Private.Machine.{next, ended, rows}
use Rattle.css_tokens.specs.Tokens.{longer, as_front, or_else}
use Rattle.css_tokens.proofs.Derivatives.{kind_of-derived}
use Rattle.css_tokens.proofs.MachineRows.{rows-next, ended-kind_of}
use Rattle.css_tokens.proofs.Fronts.{longest_in, longest_in-nil, longest_in-step}

abbrev pub run : State → List Class → State
run s [] = s
run s (x ∷ t) = run (next s x) t

-- the kind of a text by the table is the one where the machine comes to
pub kind_of-run : (s : State) (t after : List Class) → kind_of (rows s) t after ≡ ended (run s t) after
kind_of-run s [] after = sym (ended-kind_of s after)
kind_of-run s (x ∷ t) after = kind_of-derived x (rows s) t after ∙ ap (λ r. kind_of r t after) (sym (rows-next s x)) ∙ kind_of-run (next s x) t after

pub same_inside : {A : Type 0} (a b : A) → Some a ≡ Some b → a ≡ b
same_inside a b h = cc

-- a front of one character more, or the empty one
abbrev pub one_more : Option (Kind × ℕ) → Option Kind → Option (Kind × ℕ)
one_more found here = or_else (option_map (longer 1) found) (option_map (as_front 0) here)

as_suc : (k : Kind) (n : ℕ) → longer 1 (k, n) ≡ (k, suc n)
as_suc k n = ap (λ (m : ℕ). (k, m)) (add-one n)

pub found_later : (found : Option (Kind × ℕ)) (here : Option Kind) (k : Kind) (n : ℕ) → one_more found here ≡ Some (k, suc n) → found ≡ Some (k, n)
found_later None None k n h = cc
found_later None (Some j) k n h = let e : 0 ≡ suc n = ap (λ (x : Kind × ℕ). x.1) (same_inside (j, 0) (k, suc n) h) in absurd (omega arith)
found_later (Some f) here k n h =
    let e = same_inside (f.0, suc f.1) (k, suc n) (ap Some (sym (as_suc f.0 f.1)) ∙ h) in
    let m : f.1 ≡ n = let s : suc f.1 ≡ suc n = ap (λ (x : Kind × ℕ). x.1) e in omega arith in
    ap Some (ap₂ (λ (a : Kind) (b : ℕ). (a, b)) (ap (λ (x : Kind × ℕ). x.0) e) m)

pub found_here : (found : Option (Kind × ℕ)) (here : Option Kind) (k : Kind) → one_more found here ≡ Some (k, 0) → here ≡ Some k
found_here None None k h = cc
found_here None (Some j) k h = ap Some (ap (λ (x : Kind × ℕ). x.0) (same_inside (j, 0) (k, 0) h))
found_here (Some f) here k h = let e : f.1 + 1 ≡ 0 = ap (λ (x : Kind × ℕ). x.1) (same_inside (longer 1 f) (k, 0) h) in absurd (omega arith)

pub found_within : (found : Option (Kind × ℕ)) (here : Option Kind) (k : Kind) (n m : ℕ) → ((j : Kind) (i : ℕ) → found ≡ Some (j, i) → i ≤ m) → one_more found here ≡ Some (k, n) → n ≤ suc m
found_within None None k n m w h = cc
found_within None (Some j) k n m w h = let e : 0 ≡ n = ap (λ (x : Kind × ℕ). x.1) (same_inside (j, 0) (k, n) h) in omega arith
found_within (Some f) here k n m w h = let e : f.1 + 1 ≡ n = ap (λ (x : Kind × ℕ). x.1) (same_inside (longer 1 f) (k, n) h) in let v = w f.0 f.1 refl in omega arith

pub longest_within : (s : State) (t : List Class) (k : Kind) (n : ℕ) → longest_in s t ≡ Some (k, n) → n ≤ length t
longest_within s [] k zero h = zero-le
longest_within s [] k (suc n) h = let f = found_later None (ended s []) k n (sym (longest_in-nil s) ∙ h) in cc
longest_within s (x ∷ t) k n h = found_within (longest_in (next s x) t) (ended s (x ∷ t)) k n (length t) (longest_within (next s x) t) (sym (longest_in-step s x t) ∙ h)

-- the longest front of a text and what follows it is the text where nothing longer is found from there on
pub reach : (s : State) (u a : List Class) (k : Kind) → longest_in s (u ++ a) ≡ Some (k, length u) → longest_in (run s u) a ≡ Some (k, 0)
reach s [] a k h = h
reach s (x ∷ u) a k h = reach (next s x) u a k (found_later (longest_in (next s x) (u ++ a)) (ended s (x ∷ u ++ a)) k (length u) (sym (longest_in-step s x (u ++ a)) ∙ h))

pub reached : (s : State) (u a : List Class) (k : Kind) → longest_in (run s u) a ≡ Some (k, 0) → longest_in s (u ++ a) ≡ Some (k, length u)
reached s [] a k h = h
reached s (x ∷ u) a k h =
    longest_in-step s x (u ++ a)
    ∙ ap (λ o. one_more o (ended s (x ∷ u ++ a))) (reached (next s x) u a k h)
    ∙ ap Some (as_suc k (length u))

pub longest-ended : (s : State) (a : List Class) (k : Kind) → longest_in s a ≡ Some (k, 0) → ended s a ≡ Some k
longest-ended s [] k h = found_here None (ended s []) k (sym (longest_in-nil s) ∙ h)
longest-ended s (x ∷ a) k h = found_here (longest_in (next s x) a) (ended s (x ∷ a)) k (sym (longest_in-step s x a) ∙ h)

-- what follows only ever takes a kind away
pub ended_aside : (s : State) (after : List Class) (k : Kind) → ended s after ≡ Some k → ended s [] ≡ Some k
ended_aside state.Slash after k h = elim (cases_Bool (not (begins (class.Star ∷ []) after))) [ inl e ↦ rw e at h | inr e ↦ let f : None ≡ Some k = rw e at h in cc ]
ended_aside s after k h = h
