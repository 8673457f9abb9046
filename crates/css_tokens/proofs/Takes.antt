-- When a word goes on with white space: by the state that the machine comes to.
use Rattle.std.proofs.Common.{◌≡◌, ℕ, List, [], ◌∷◌, ◌++◌, Bool, true, false, not, ◌&&◌, ◌||◌, refl, sym, inl, inr, ap, ◌∙◌, Option, Some, None}
use Rattle.std.proofs.lemmas.Bool.{cases_Bool}
use Rattle.std.proofs.lemmas.List.{map-append}
use Rattle.css_tokens.specs.declared.class.Class.{Class}
use Rattle.css_tokens.specs.declared.kind.Kind.{Kind}
use Rattle.css_tokens.specs.declared.machine.State.{State}
use Rattle.css_tokens.specs.declared.machine.State.TheVariants as state
use Rattle.css_tokens.specs.Characters.{class_of, has, white}
use Rattle.css_tokens.specs.Kinds.{kind_of, table}
use Rattle.css_tokens.specs.Private.Machine.{next, ended}
use Rattle.css_tokens.specs.Piece.{Word}
use Rattle.css_tokens.specs.Tokens.{classes_of, names}
use Rattle.css_tokens.specs.Again.{is_solid, takes}
use Rattle.css_tokens.proofs.Kept.{has_solid, same, same-eq, state_takes, state_takes_first}
use Rattle.css_tokens.proofs.MachineStates.{implied, each_step}
use Rattle.css_tokens.proofs.Runs.{run, kind_of-run}

-- only white space is taken
abbrev takes_white : State → Class → Bool
takes_white s x = not (state_takes s x) || has white x

pub dark_aside : (s : State) (x : Class) → has white x ≡ false → state_takes s x ≡ false
dark_aside s x h =
    not_first (state_takes s x) (has white x) h (each_step takes_white refl s x)
  where
    not_first : (a b : Bool) → b ≡ false → (not a || b) ≡ true → a ≡ false
    not_first true true e k = cc
    not_first true false e k = cc
    not_first false b e k = refl

-- and it is where the kind stays the same
abbrev same_kind : Option Kind → Option Kind → Bool
same_kind None o = false
same_kind (Some k) o = names k o

abbrev names_on : State → Class → Bool
names_on s x = not (has_solid (ended s [])) || (not (has white x) || same (state_takes s x) (same_kind (ended s []) (ended (next s x) [])))

takes_named : (s : State) (x : Class) (k : Kind) → ended s [] ≡ Some k → is_solid k ≡ true → has white x ≡ true → state_takes s x ≡ names k (ended (next s x) [])
takes_named s x k e h w =
    same-eq (state_takes s x) (same_kind (ended s []) (ended (next s x) [])) (implied (has white x) _ w (implied (has_solid (ended s [])) _ (ap has_solid e ∙ h) (each_step names_on refl s x)))
    ∙ ap (λ o. same_kind o (ended (next s x) [])) e

pub run-append : (s : State) (a b : List Class) → run s (a ++ b) ≡ run (run s a) b
run-append s [] b = refl
run-append s (x ∷ a) b = run-append (next s x) a b

-- the machine and the table agree on what a word takes
pub state_takes-word : (w : Word) (b : List ℕ) → ended (run state.Start (classes_of w.text)) [] ≡ Some w.kind → is_solid w.kind ≡ true → state_takes_first (run state.Start (classes_of w.text)) (classes_of b) ≡ takes w b
state_takes-word w [] e h = refl
state_takes-word w (c ∷ b) e h =
    let s = run state.Start (classes_of w.text) in
    elim (cases_Bool (has white (class_of c))) [
      | inl i ↦
          takes_named s (class_of c) w.kind e h i
          ∙ ap (names w.kind) (sym (kind_of-run state.Start (classes_of (w.text ++ c ∷ [])) [] ∙ ap (λ r. ended (run state.Start r) []) (map-append class_of w.text (c ∷ [])) ∙ ap (λ r. ended r []) (run-append state.Start (classes_of w.text) (class_of c ∷ []))))
          ∙ sym (ap (λ x. x && names w.kind (kind_of table (classes_of (w.text ++ c ∷ [])) [])) i)
      | inr i ↦ dark_aside s (class_of c) i ∙ sym (ap (λ x. x && names w.kind (kind_of table (classes_of (w.text ++ c ∷ [])) [])) i)
    ]
