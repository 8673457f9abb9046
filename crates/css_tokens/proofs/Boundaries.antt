-- A token of a text in UTF-8 ends where a character does.
use Rattle.std.proofs.Common.{◌≡◌, ℕ, suc, zero, ◌+◌, ◌<◌, ◌≤◌, List, [], ◌∷◌, length, take, drop, get_or, Bool, true, false, ◌||◌, not, refl, sym, inl, inr, ap, ap₂, ◌∙◌, subst, Option, Some, None, is_some, arith, add-one, add_comm, ◌&&◌, ltb, ltb-true, ltb-false, drop-cons}
use Rattle.std.proofs.lemmas.Bool.{cases_Bool}
use Rattle.std.proofs.lemmas.Bool.Decides.{nat_tests}
use Rattle.std.proofs.lemmas.Str.{IsUtf8-drop, IsCharBoundary-start, IsCharBoundary-from_rest, IsCharBoundary-end, IsCharBoundary-before_ascii, IsCharBoundary-after_ascii}
use Rattle.std.specs.Str.{IsUtf8, IsCharBoundary}
use Rattle.css_tokens.specs.declared.class.Class.{Class}
use Rattle.css_tokens.specs.declared.class.Class.TheVariants as class
use Rattle.css_tokens.specs.declared.kind.Kind.{Kind}
use Rattle.css_tokens.specs.declared.machine.State.{State}
use Rattle.css_tokens.specs.declared.machine.State.TheVariants as state
use Rattle.css_tokens.specs.Characters.{class_of}
use Rattle.css_tokens.specs.Private.Machine.{next, ended}
use Rattle.css_tokens.specs.Kinds.{table, url_table}
use Rattle.css_tokens.specs.Tokens.{classes_of, longer, first_front, front_of, url_rule, is_url, quote_follows}
use Rattle.css_tokens.proofs.Reading.{mapped, chained}
use Rattle.css_tokens.proofs.Fronts.{longest_in, longest_in-nil, longest_in-step}
use Rattle.css_tokens.proofs.MachineStates.{implied, each_state}
use Rattle.css_tokens.proofs.Runs.{run, one_more, longest-ended, ended_aside, same_inside}
use Rattle.css_tokens.proofs.Spelling.{front_reached, front_within}

-- the states in which a name or white space goes on
abbrev pub is_lasting : State → Bool
is_lasting state.Name = true
is_lasting state.AtName = true
is_lasting state.HashName = true
is_lasting state.Unit = true
is_lasting state.White = true
is_lasting s = false

-- where a kind ends in a byte from 80 hexadecimal on, it goes on with a further one
abbrev goes_on : State → Bool
goes_on s = not (is_some (ended (next s class.High) [])) || is_lasting (next (next s class.High) class.High)

high_goes_on : (s : State) → goes_on s ≡ true
high_goes_on s = each_state goes_on refl s

lasting_ended : (s : State) (after : List Class) → is_lasting s ≡ true → is_some (ended s after) ≡ true
lasting_ended state.Name after h = refl
lasting_ended state.AtName after h = refl
lasting_ended state.HashName after h = refl
lasting_ended state.Unit after h = refl
lasting_ended state.White after h = refl
lasting_ended s after h = cc

some_or : (found : Option (Kind × ℕ)) (here : Option Kind) → is_some here ≡ true → one_more found here ≡ None → ⊥
some_or None None h e = cc
some_or None (Some k) h e = cc
some_or (Some f) here h e = cc

pub lasting_found : (s : State) (t : List Class) → is_lasting s ≡ true → longest_in s t ≡ None → ⊥
lasting_found s [] h e = some_or None (ended s []) (lasting_ended s [] h) (sym (longest_in-nil s) ∙ e)
lasting_found s (x ∷ t) h e = some_or (longest_in (next s x) t) (ended s (x ∷ t)) (lasting_ended s (x ∷ t) h) (sym (longest_in-step s x t) ∙ e)

pub none_later : (found : Option (Kind × ℕ)) (here : Option Kind) (k : Kind) → one_more found here ≡ Some (k, 0) → found ≡ None
none_later None here k h = refl
none_later (Some f) here k h = let e : longer 1 f ≡ (k, 0) = cc in let i : f.1 + 1 ≡ 0 = ap (λ (x : Kind × ℕ). x.1) e in absurd (omega arith)

-- behind a character from U+0080 on no token ends before a further byte of its kind
high_twice : (s : State) (t : List Class) (k : Kind) → longest_in (next s class.High) (class.High ∷ t) ≡ Some (k, 0) → ⊥
high_twice s t k h =
    let r = next s class.High in
    let e : ended r [] ≡ Some k = ended_aside r (class.High ∷ t) k (longest-ended r (class.High ∷ t) k h) in
    let l : is_lasting (next r class.High) ≡ true = implied (is_some (ended r [])) (is_lasting (next r class.High)) (ap is_some e) (high_goes_on s) in
    lasting_found (next r class.High) t l (none_later (longest_in (next r class.High) t) (ended r (class.High ∷ t)) k (sym (longest_in-step r class.High t) ∙ h))

pub high_class : (b : ℕ) → 128 ≤ b → class_of b ≡ class.High
high_class b h = grind (arith, nat_tests)

pub run_last : (s : State) (t : List ℕ) (m : ℕ) → m < length t → run s (classes_of (take (suc m) t)) ≡ next (run s (classes_of (take m t))) (class_of (get_or t m 0))
run_last s [] m h = absurd (omega arith)
run_last s (x ∷ t) zero h = refl
run_last s (x ∷ t) (suc m) h = run_last (next s (class_of x)) t m (omega arith)

pub front_boundary : (s : State) (t : List ℕ) (k : Kind) (m : ℕ) → IsUtf8 t → longest_in s (classes_of t) ≡ Some (k, suc m) → IsCharBoundary t (suc m)
front_boundary s t k m u h =
    let w = front_within s t k (suc m) h in
    elim (cases_Bool (ltb (suc m) (length t))) [
      | inr e ↦ let f : suc m ≡ length t = let g = ltb-false (suc m) (length t) e in omega arith in subst (IsCharBoundary t) (sym f) (IsCharBoundary-end t)
      | inl e ↦
          let l = ltb-true (suc m) (length t) e in
          elim (cases_Bool (ltb (get_or t (suc m) 0) 128)) [
            | inl a ↦ IsCharBoundary-before_ascii t (suc m) l (ltb-true (get_or t (suc m) 0) 128 a)
            | inr a ↦ elim (cases_Bool (ltb (get_or t m 0) 128)) [
              | inl b ↦ subst (IsCharBoundary t) (add-one m) (IsCharBoundary-after_ascii t m u (omega arith) (ltb-true (get_or t m 0) 128 b))
              | inr b ↦
                  let x : class_of (get_or t (suc m) 0) ≡ class.High = high_class (get_or t (suc m) 0) (ltb-false (get_or t (suc m) 0) 128 a) in
                  let y : class_of (get_or t m 0) ≡ class.High = high_class (get_or t m 0) (ltb-false (get_or t m 0) 128 b) in
                  let r = run s (classes_of (take m t)) in
                  let i : run s (classes_of (take (suc m) t)) ≡ next r class.High = run_last s t m (omega arith) ∙ ap (next r) y in
                  let d : classes_of (drop (suc m) t) ≡ class.High ∷ classes_of (drop (suc (suc m)) t) = ap classes_of (drop-cons t (suc m) 0 l) ∙ ap (λ c. c ∷ classes_of (drop (suc (suc m)) t)) x in
                  absurd (high_twice r (classes_of (drop (suc (suc m)) t)) k (sym (ap₂ longest_in i d) ∙ front_reached s t k (suc m) h))
            ]
          ]
    ]

pub front_boundary-add : (s : State) (t : List ℕ) (k : Kind) (m : ℕ) → IsUtf8 t → longest_in s (classes_of t) ≡ Some (k, 1 + m) → IsCharBoundary t (1 + m)
front_boundary-add s t k m u h =
    let e : 1 + m ≡ suc m = omega arith in
    subst (IsCharBoundary t) (sym e) (front_boundary s t k m u (h ∙ ap (λ (n : ℕ). Some (k, n)) e))

boundary_by : (s : State) (t : List ℕ) (k : Kind) (n : ℕ) → IsUtf8 t → longest_in s (classes_of t) ≡ Some (k, n) → IsCharBoundary t n
boundary_by s t k zero u h = IsCharBoundary-start t u
boundary_by s t k (suc m) u h = front_boundary s t k m u h

rule_boundary : (t : List ℕ) (f g : Kind × ℕ) → IsUtf8 t → longest_in state.Start (classes_of t) ≡ Some f → url_rule t f ≡ Some g → IsCharBoundary t g.1
rule_boundary t f g u h r =
    let b = boundary_by state.Start t f.0 f.1 u h in
    elim (cases_Bool (is_url (take f.1 t) && not (quote_follows (classes_of (drop f.1 t))))) [
      | inl e ↦
          let m = mapped (longer f.1) (front_of url_table (drop f.1 t)) g (rw e at r) in
          let c = boundary_by state.UrlStart (drop f.1 t) m.0.0 m.0.1 (IsUtf8-drop t f.1 u b) m.1 in
          let i : f.1 + m.0.1 ≡ g.1 = add_comm f.1 m.0.1 ∙ ap (λ (x : Kind × ℕ). x.1) m.2 in
          subst (IsCharBoundary t) i (IsCharBoundary-from_rest t f.1 m.0.1 (front_within state.Start t f.0 f.1 h) c)
      | inr e ↦ let i : Some f ≡ Some g = rw e at r in subst (λ (x : Kind × ℕ). IsCharBoundary t x.1) (same_inside f g i) b
    ]

-- the first token ends where a character does
pub first_boundary : (t : List ℕ) (g : Kind × ℕ) → IsUtf8 t → Some g ≡ first_front t → IsCharBoundary t g.1
first_boundary t g u h =
    let c = chained (url_rule t) (front_of table t) g (sym h) in
    rule_boundary t c.0 g u c.1 c.2
