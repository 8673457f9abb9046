-- A first token ends in no `\` that nothing stands behind.
use Rattle.std.proofs.Common.{◌≡◌, ℕ, List, [], ◌∷◌, ◌++◌, Bool, true, false, not, ◌&&◌, ◌||◌, refl, sym, inl, inr, ap, ◌∙◌, Some, is_some}
use Rattle.std.proofs.lemmas.Bool.{and_parts, not-true, false≢true}
use Rattle.std.proofs.lemmas.List.{map-append}
use Rattle.css_tokens.specs.declared.class.Class.{Class}
use Rattle.css_tokens.specs.declared.class.Class.TheVariants as class
use Rattle.css_tokens.specs.declared.kind.Kind.{Kind}
use Rattle.css_tokens.specs.declared.kind.Kind.TheVariants as kind
use Rattle.css_tokens.specs.declared.machine.State.{State}
use Rattle.css_tokens.specs.declared.machine.State.TheVariants as state
use Rattle.css_tokens.specs.Characters.{class_of, is_class}
use Rattle.css_tokens.specs.Private.Machine.{next, ended}
use Rattle.css_tokens.specs.Piece.{Word}
use Rattle.css_tokens.specs.Tokens.{classes_of, is_url}
use Rattle.css_tokens.specs.Again.{StaysFirst, is_odd}
use Rattle.css_tokens.proofs.Again.{comes_to}
use Rattle.css_tokens.proofs.Firsts.{first_cases}
use Rattle.css_tokens.proofs.Kept.{is_begun, same}
use Rattle.css_tokens.proofs.MachineStates.{implied, is_dead, each_state, each_step}
use Rattle.css_tokens.proofs.Runs.{run, longest-ended, ended_aside}
use Rattle.css_tokens.proofs.UrlNames.{url_state}

-- The flag is the state's, where nothing is dead and no comment is open.

abbrev is_comment : State → Bool
is_comment state.Comment = true
is_comment state.CommentStar = true
is_comment s = false

abbrev is_flagged : State → Bool → Bool
is_flagged s f = is_dead s || (is_comment s || same f (is_begun s))

abbrev keeps_flag : Bool → State → Class → Bool
keeps_flag f s x = not (is_flagged s f) || is_flagged (next s x) (is_class class.Backslash x && not f)

flag_next : (s : State) (f : Bool) (x : Class) → is_flagged s f ≡ true → is_flagged (next s x) (is_class class.Backslash x && not f) ≡ true
flag_next s true x h = implied (is_flagged s true) _ h (each_step (keeps_flag true) refl s x)
flag_next s false x h = implied (is_flagged s false) _ h (each_step (keeps_flag false) refl s x)

flag_run : (s : State) (f : Bool) (c : List Class) → is_flagged s f ≡ true → is_flagged (run s c) (is_odd f c) ≡ true
flag_run s f [] h = h
flag_run s f (x ∷ c) h = flag_run (next s x) (is_class class.Backslash x && not f) c (flag_next s f x h)

abbrev ends_even : State → Bool
ends_even s = not (is_some (ended s [])) || not (is_flagged s true)

flag_end : (s : State) (f : Bool) (after : List Class) (k : Kind) → is_flagged s f ≡ true → ended s after ≡ Some k → f ≡ false
flag_end s false after k h e = refl
flag_end s true after k h e =
    let n = implied (is_some (ended s [])) (not (is_flagged s true)) (ap is_some (ended_aside s after k e)) (each_state ends_even refl s) in
    absurd (false≢true (sym (not-true (is_flagged s true) n) ∙ h))

pub odd-append : (f : Bool) (c d : List Class) → is_odd f (c ++ d) ≡ is_odd (is_odd f c) d
odd-append f [] d = refl
odd-append f (x ∷ c) d = odd-append (is_class class.Backslash x && not f) c d

run_even : (s : State) (c after : List Class) (k : Kind) → is_flagged s false ≡ true → ended (run s c) after ≡ Some k → is_odd false c ≡ false
run_even s c after k h e = flag_end (run s c) (is_odd false c) after k (flag_run s false c h) e

-- no `\` is left open at the end of a first token
pub first_even : (w : Word) (a : List ℕ) → StaysFirst w a → is_odd false (classes_of w.text) ≡ false
first_even w a f =
    elim (first_cases w a f) [
      | inl t ↦ run_even state.Start (classes_of w.text) (classes_of a) w.kind refl (longest-ended (run state.Start (classes_of w.text)) (classes_of a) w.kind (comes_to state.Start w.text a w.kind t.found))
      | inr u ↦
          let p = and_parts (is_url u.name) _ u.ruled in
          let name : is_odd false (classes_of u.name) ≡ false = run_even state.Start (classes_of u.name) [] kind.Function refl (ap (λ s. ended s []) (url_state u.name p.0)) in
          let inside : is_odd false (classes_of u.inside) ≡ false = run_even state.UrlStart (classes_of u.inside) (classes_of a) w.kind refl (longest-ended (run state.UrlStart (classes_of u.inside)) (classes_of a) w.kind (comes_to state.UrlStart u.inside a w.kind u.closed)) in
          ap (is_odd false) (ap classes_of u.whole ∙ map-append class_of u.name u.inside) ∙ odd-append false (classes_of u.name) (classes_of u.inside) ∙ ap (λ b. is_odd b (classes_of u.inside)) name ∙ inside
    ]
