-- A text that is read up to a stop is read so before another stop, where that is no white space and no quote is lost.
use Rattle.std.proofs.Common.{◌≡◌, List, ℕ, [], ◌∷◌, ◌++◌, Bool, true, false, not, ◌&&◌, ◌||◌, ◌⊎◌, refl, sym, inl, inr, ap, ◌∙◌, Some, None, is_some, codes}
use Rattle.std.proofs.lemmas.Bool.{and_from, and_parts, cases_Bool, false≢true, not-true, or_cases}
use Rattle.std.proofs.lemmas.List.{map-append}
use Rattle.css_tokens.specs.declared.class.Class.{Class}
use Rattle.css_tokens.specs.declared.kind.Kind.{Kind}
use Rattle.css_tokens.specs.declared.kind.Kind.TheVariants as kind
use Rattle.css_tokens.specs.declared.machine.State.{State}
use Rattle.css_tokens.specs.declared.machine.State.TheVariants as state
use Rattle.css_tokens.specs.Again.{StaysFirst, begins_none, is_odd, is_solid, is_stop, takes}
use Rattle.css_tokens.specs.Characters.{class_of, white}
use Rattle.css_tokens.specs.Kinds.{begins}
use Rattle.css_tokens.specs.Piece.{Word, spelled}
use Rattle.css_tokens.specs.Private.Machine.{next, ended}
use Rattle.css_tokens.specs.Tokens.{ReadsTo, classes_of, names}
use Rattle.css_tokens.proofs.Again.{comes_from, comes_to, is_end, is_end-eq, kept_alike, none_next, ruled_kept, url_kept}
use Rattle.css_tokens.proofs.Beginnings.{Quotes, quotes_behind}
use Rattle.css_tokens.proofs.Boundaries.{none_later}
use Rattle.css_tokens.proofs.Evens.{first_even, odd-append}
use Rattle.css_tokens.proofs.Firsts.{ByTable, as_url, by_table, first_cases}
use Rattle.css_tokens.proofs.Fronts.{longest_in, longest_in-step}
use Rattle.css_tokens.proofs.GapLemmas.{kind_cases}
use Rattle.css_tokens.proofs.Kept.{calm_ended, has_solid, is_calm, no_kind, state_takes, state_takes_first}
use Rattle.css_tokens.proofs.MachineStates.{each_state, each_step, implied}
use Rattle.css_tokens.proofs.Runs.{ended_aside, longest-ended, run}
use Rattle.css_tokens.proofs.Stays.{dies_by, none_taken}
use Rattle.css_tokens.proofs.Takes.{state_takes-word}
use Rattle.css_tokens.proofs.UrlNames.{end_longest}
use Rattle.css_tokens.proofs.ValueReads.{ReadFirst, chain_of, dark_takes, is_state_white, reads_of, solid_kind, state_white-eq, white_none}
use Rattle.css_tokens.proofs.Walk.{Chain}

-- A first token takes nothing of what follows it: with what it would take it would be longer.

abbrev takes_on : State → Class → Bool
takes_on s x = has_solid (ended s []) && state_takes s x

abbrev lasts : State → Bool
lasts s = is_calm s && is_some (ended s [])

lasting : (s : State) (t : List Class) → lasts s ≡ true → longest_in s t ≡ None → ⊥
lasting s t h n =
    let p = and_parts (is_calm s) (is_some (ended s [])) h in
    false≢true (sym (ap is_some (sym (calm_ended s t p.0) ∙ no_kind s t n)) ∙ p.1)

takes_nothing : (s : State) (t : List Class) (k : Kind) → is_solid k ≡ true → longest_in s t ≡ Some (k, 0) → state_takes_first s t ≡ false
takes_nothing s [] k e h = refl
takes_nothing s (x ∷ t) k e h =
    elim (cases_Bool (state_takes s x)) [
      | inr n ↦ n
      | inl y ↦
          let solid : has_solid (ended s []) ≡ true = ap has_solid (ended_aside s (x ∷ t) k (longest-ended s (x ∷ t) k h)) ∙ e in
          let on = implied (takes_on s x) (lasts (next s x)) (and_from (has_solid (ended s [])) (state_takes s x) solid y) (each_step (λ r c. not (takes_on r c) || lasts (next r c)) refl s x) in
          absurd (lasting (next s x) t on (none_later (longest_in (next s x) t) (ended s (x ∷ t)) k (sym (longest_in-step s x t) ∙ h)))
    ]

same_taken : (w : Word) (m a b : List ℕ) → takes w (m ++ a) ≡ false → takes w b ≡ false → takes w (m ++ b) ≡ false
same_taken w [] a b h k = k
same_taken w (x ∷ m) a b h k = h

-- White space goes on with white space alone, and a comment with nothing.

same_dark : (m a b : List ℕ) → begins_none white (m ++ a) ≡ true → begins_none white b ≡ true → begins_none white (m ++ b) ≡ true
same_dark [] a b h k = k
same_dark (x ∷ m) a b h k = h

whole_or_white : (s : State) → ended s [] ≡ Some kind.White → (s ≡ state.White) ⊎ (s ≡ state.End kind.White)
whole_or_white s e =
    elim (or_cases (is_state_white s) (is_end s) (implied (names kind.White (ended s [])) (is_state_white s || is_end s) (ap (names kind.White) e) (each_state (λ r. not (names kind.White (ended r [])) || (is_state_white r || is_end r)) refl s))) [
      | inl h ↦ inl (state_white-eq s h)
      | inr h ↦ inr (is_end-eq s kind.White h e)
    ]

white_before : (t : List ℕ) → begins_none white t ≡ true → longest_in state.White (classes_of t) ≡ Some (kind.White, 0)
white_before t h = none_next state.White white kind.White (dies_by state.White white refl) refl (λ after. refl) (classes_of t) (not-true (begins white (classes_of t)) h) (none_taken state.White (λ x. refl) (classes_of t))

white_on : (s : State) (m a b : List ℕ) → begins_none white b ≡ true → ended s [] ≡ Some kind.White → longest_in s (classes_of (m ++ a)) ≡ Some (kind.White, 0) → longest_in s (classes_of (m ++ b)) ≡ Some (kind.White, 0)
white_on s m a b d e f =
    elim (whole_or_white s e) [
      | inl i ↦
          let h : begins_none white (m ++ a) ≡ true = white_none (classes_of (m ++ a)) (ap (λ q. longest_in q (classes_of (m ++ a))) (sym i) ∙ f) in
          ap (λ q. longest_in q (classes_of (m ++ b))) i ∙ white_before (m ++ b) (same_dark m a b h d)
      | inr i ↦ ap (λ q. longest_in q (classes_of (m ++ b))) i ∙ end_longest kind.White (classes_of (m ++ b))
    ]

comment_on : (s : State) (t : List Class) → ended s [] ≡ Some kind.Comment → longest_in s t ≡ Some (kind.Comment, 0)
comment_on s t e =
    let h = implied (names kind.Comment (ended s [])) (is_end s) (ap (names kind.Comment) e) (each_state (λ r. not (names kind.Comment (ended r [])) || is_end r) refl s) in
    ap (λ q. longest_in q t) (is_end-eq s kind.Comment h e) ∙ end_longest kind.Comment t

module _ (s r : List ℕ) (stop_s : is_stop (classes_of s) ≡ true) (stop_r : is_stop (classes_of r) ≡ true) (dark_r : begins_none white r ≡ true) (quote : Quotes s → Quotes r) where
  found_on : (w : Word) (m : List ℕ) → is_odd false (classes_of m) ≡ false → ByTable w (m ++ s) → longest_in (run state.Start (classes_of w.text)) (classes_of (m ++ r)) ≡ Some (w.kind, 0)
  found_on w m o t =
      let p = run state.Start (classes_of w.text) in
      let f = comes_to state.Start w.text (m ++ s) w.kind t.found in
      let e = ended_aside p (classes_of (m ++ s)) w.kind (longest-ended p (classes_of (m ++ s)) w.kind f) in
      elim (kind_cases w.kind) [
        | inl k ↦ white_on p m s r dark_r (e ∙ ap Some k) (f ∙ ap (λ j. Some (j, 0)) k) ∙ ap (λ j. Some (j, 0)) (sym k)
        | inr other ↦ elim other [
          | inl k ↦ comment_on p (classes_of (m ++ r)) (e ∙ ap Some k) ∙ ap (λ j. Some (j, 0)) (sym k)
          | inr g ↦
              let h = solid_kind w.kind g in
              let none : takes w (m ++ s) ≡ false = sym (state_takes-word w (m ++ s) e h) ∙ takes_nothing p (classes_of (m ++ s)) w.kind h f in
              kept_alike p (m ++ s) (m ++ r) w.kind h
              (record { same = m; left = s; right = r; whole_left = refl; whole_right = refl; even = o; stop_left = stop_s; stop_right = stop_r })
              (state_takes-word w (m ++ r) e h ∙ same_taken w m s r none (dark_takes w r dark_r)) f
        ]
      ]

  word_on : (w : Word) (m : List ℕ) → is_odd false (classes_of m) ≡ false → StaysFirst w (m ++ s) → StaysFirst w (m ++ r)
  word_on w m o f =
      elim (first_cases w (m ++ s) f) [
        | inl t ↦ by_table w (m ++ r) (record {
          found = comes_from state.Start w.text (m ++ r) w.kind (found_on w m o t);
          ruled = ruled_kept w.text (m ++ s) (m ++ r) (λ u. quotes_behind m s r quote) t.ruled;
        })
        | inr u ↦ as_url w (m ++ r) (url_kept w (m ++ s) (m ++ r) u)
      ]

  -- the words end in no `\` that nothing stands behind
  chain_even : (ws : List Word) → Chain ReadFirst ws s → is_odd false (classes_of (spelled ws)) ≡ false
  chain_even [] h = refl
  chain_even (w ∷ ws) h =
      ap (is_odd false) (map-append class_of w.text (spelled ws))
      ∙ odd-append false (classes_of w.text) (classes_of (spelled ws))
      ∙ ap (λ b. is_odd b (classes_of (spelled ws))) (first_even w (spelled ws ++ s) h.0.0)
      ∙ chain_even ws h.1

  chain_on : (ws : List Word) → Chain ReadFirst ws s → Chain ReadFirst ws r
  chain_on [] h = tt
  chain_on (w ∷ ws) h = ((word_on w (spelled ws) (chain_even ws h.1) h.0.0, h.0.1), chain_on ws h.1)

  pub reads_before : (ws : List Word) → ReadsTo (spelled ws ++ s) ws s → ReadsTo (spelled ws ++ r) ws r
  reads_before ws h = reads_of ws r (chain_on ws (chain_of ws s h))

pub before_parenthesis : (xs : List Word) (s r : List ℕ) → ReadsTo (spelled xs ++ (codes ")" ++ s)) xs (codes ")" ++ s) → ReadsTo (spelled xs ++ (codes ")" ++ r)) xs (codes ")" ++ r)
before_parenthesis xs s r h = reads_before (codes ")" ++ s) (codes ")" ++ r) refl refl refl (λ q. cc) xs h

pub before_square : (xs : List Word) (s r : List ℕ) → ReadsTo (spelled xs ++ (codes "]" ++ s)) xs (codes "]" ++ s) → ReadsTo (spelled xs ++ (codes "]" ++ r)) xs (codes "]" ++ r)
before_square xs s r h = reads_before (codes "]" ++ s) (codes "]" ++ r) refl refl refl (λ q. cc) xs h

pub before_brace : (xs : List Word) (s r : List ℕ) → ReadsTo (spelled xs ++ (codes "}" ++ s)) xs (codes "}" ++ s) → ReadsTo (spelled xs ++ (codes "}" ++ r)) xs (codes "}" ++ r)
before_brace xs s r h = reads_before (codes "}" ++ s) (codes "}" ++ r) refl refl refl (λ q. cc) xs h
