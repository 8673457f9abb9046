-- The first token of a text stays first where what follows it changes behind a stop.
use Rattle.std.proofs.Common.{◌≡◌, List, [], ◌∷◌, ◌++◌, Bool, true, false, not, ◌&&◌, ◌||◌, ◌⊎◌, refl, sym, inl, inr, ap, ap₂, ◌∙◌, Option, Some, None, is_some, ℕ, ◌+◌, arith, if◌then◌else◌}
use Rattle.std.proofs.lemmas.Bool.{cases_Bool, and_parts, or_cases, not-true, false≢true}
use Rattle.std.specs.Option.{option_map}
use Rattle.css_tokens.specs.declared.class.Class.{Class}
use Rattle.css_tokens.specs.declared.class.Class.TheVariants as class
use Rattle.css_tokens.specs.declared.kind.Kind.{Kind}
use Rattle.css_tokens.specs.declared.kind.Kind.TheVariants as kind
use Rattle.css_tokens.specs.declared.machine.State.{State}
use Rattle.css_tokens.specs.declared.machine.State.TheVariants as state
use Rattle.css_tokens.specs.declared.machine.Holder.TheVariants as holder
use Rattle.css_tokens.specs.declared.machine.Escape.TheVariants as escape
use Rattle.css_tokens.specs.Characters.{has, is_class, white}
use Rattle.css_tokens.specs.Kinds.{starts}
use Rattle.css_tokens.specs.Private.Machine.{next, ended}
use Rattle.css_tokens.specs.Tokens.{as_front}
use Rattle.css_tokens.specs.Again.{stops, is_stop, is_odd, is_solid}
use Rattle.css_tokens.proofs.Derivatives.{is_class-eq}
use Rattle.css_tokens.proofs.MachineStates.{implied, is_dead, is_dead-eq, each_state, each_step}
use Rattle.css_tokens.proofs.Fronts.{longest_in, longest_in-nil, longest_in-step, longest_in-dead}
use Rattle.css_tokens.proofs.Runs.{one_more, longest-ended, ended_aside, same_inside}

-- a state in which no white space, comment or string, and no inside of a Url, is open
abbrev pub is_calm : State → Bool
is_calm state.Start = false
is_calm state.White = false
is_calm state.Slash = false
is_calm state.Comment = false
is_calm state.CommentStar = false
is_calm state.DoubleQuoted = false
is_calm state.SingleQuoted = false
is_calm state.UrlStart = false
is_calm state.UrlWhite = false
is_calm state.UrlText = false
is_calm state.UrlAfter = false
is_calm (state.Escaped holder.DoubleQuoted e) = false
is_calm (state.Escaped holder.SingleQuoted e) = false
is_calm (state.Escaped holder.UrlText e) = false
is_calm s = true

abbrev is_bang : State → Bool
is_bang state.LessBang = true
is_bang s = false

-- a `\` has been read, and nothing behind it
abbrev pub is_begun : State → Bool
is_begun (state.Escaped i escape.Begun) = true
is_begun s = false

-- would the character belong to the escape that was read: white space, or an LF behind a CR?
abbrev pub state_takes : State → Class → Bool
state_takes (state.Escaped i escape.Begun) x = false
state_takes (state.Escaped i escape.Return) x = is_class class.Feed x
state_takes (state.Escaped i e) x = has white x
state_takes s x = false

is_bang-eq : (s : State) → is_bang s ≡ true → s ≡ state.LessBang
is_bang-eq state.LessBang h = refl
is_bang-eq s h = cc

calm_next : (s : State) (x : Class) → is_calm s ≡ true → is_calm (next s x) ≡ true
calm_next s x h = implied (is_calm s) (is_calm (next s x)) h (each_step (λ r c. not (is_calm r) || is_calm (next r c)) refl s x)

-- at a stop that it doesn't take a calm state dies
abbrev is_stopped : State → Class → Bool
is_stopped s x = (is_calm s && not (is_begun s)) && (has stops x && not (state_takes s x))

stop_dead : (s : State) (x : Class) → is_stopped s x ≡ true → next s x ≡ state.Dead
stop_dead s x h = is_dead-eq (next s x) (implied (is_stopped s x) (is_dead (next s x)) h (each_step (λ r c. not (is_stopped r c) || is_dead (next r c)) refl s x))

abbrev after_bang : State → Bool
after_bang s = is_dead (next s class.Bang) || is_bang (next s class.Bang)

bang_next : (s : State) → (is_calm s && not (is_begun s)) ≡ true → (next s class.Bang ≡ state.Dead) ⊎ (next s class.Bang ≡ state.LessBang)
bang_next s h =
    elim (or_cases (is_dead (next s class.Bang)) (is_bang (next s class.Bang)) (implied (is_calm s && not (is_begun s)) (after_bang s) h (each_state (λ r. not (is_calm r && not (is_begun r)) || after_bang r) refl s))) [
      | inl e ↦ inl (is_dead-eq (next s class.Bang) e)
      | inr e ↦ inr (is_bang-eq (next s class.Bang) e)
    ]

-- what state_takes has a kind
abbrev kind_takes : State → Class → Bool
kind_takes s x = is_calm s && state_takes s x

take_kind : (s : State) (x : Class) → kind_takes s x ≡ true → is_some (ended s []) ≡ true
take_kind s x h = implied (kind_takes s x) (is_some (ended s [])) h (each_step (λ r c. not (kind_takes r c) || is_some (ended r [])) refl s x)

pub calm_ended : (s : State) (after : List Class) → is_calm s ≡ true → ended s after ≡ ended s []
calm_ended state.Slash after h = cc
calm_ended s after h = refl

bang_dead : (x : Class) → is_class class.Minus x ≡ false → next state.LessBang x ≡ state.Dead
bang_dead class.Minus h = cc
bang_dead x h = refl

bang_nothing : (t : List Class) → starts t class.Minus ≡ false → longest_in state.LessBang t ≡ None
bang_nothing [] h = longest_in-nil state.LessBang
bang_nothing (x ∷ t) h =
    longest_in-step state.LessBang x t
    ∙ ap (λ s. one_more (longest_in s t) None) (bang_dead x h)
    ∙ ap (λ o. one_more o None) (longest_in-dead t)

bang_behind : (s : State) (t : List Class) → (is_calm s && not (is_begun s)) ≡ true → starts t class.Minus ≡ false → longest_in (next s class.Bang) t ≡ None
bang_behind s t h k =
    elim (bang_next s h) [
      | inl e ↦ ap (λ r. longest_in r t) e ∙ longest_in-dead t
      | inr e ↦ ap (λ r. longest_in r t) e ∙ bang_nothing t k
    ]

-- does the state take what the text begins with?
abbrev pub state_takes_first : State → List Class → Bool
state_takes_first s [] = false
state_takes_first s (x ∷ t) = state_takes s x

joined : (a b : Bool) → a ≡ true → b ≡ true → (a && b) ≡ true
joined a b h k = ap₂ ◌&&◌ h k

nothing_behind : (s : State) (x : Class) (t : List Class) → is_calm s ≡ true → is_begun s ≡ false → state_takes s x ≡ false → is_stop (x ∷ t) ≡ true → longest_in (next s x) t ≡ None
nothing_behind s x t h n o k =
    elim (or_cases (has stops x) (is_class class.Bang x && not (starts t class.Minus)) k) [
      | inl e ↦ ap (λ r. longest_in r t) (stop_dead s x (joined (is_calm s && not (is_begun s)) _ (joined (is_calm s) _ h (ap not n)) (joined (has stops x) _ e (ap not o)))) ∙ longest_in-dead t
      | inr e ↦
          let p = and_parts (is_class class.Bang x) (not (starts t class.Minus)) e in
          let b = is_class-eq class.Bang x p.0 in
          ap (λ c. longest_in (next s c) t) (sym b) ∙ bang_behind s t (joined (is_calm s) _ h (ap not n)) (not-true (starts t class.Minus) p.1)
    ]

stop_here : (s : State) (t : List Class) → is_calm s ≡ true → is_begun s ≡ false → state_takes_first s t ≡ false → is_stop t ≡ true → longest_in s t ≡ option_map (as_front 0) (ended s [])
stop_here s [] h n o k = longest_in-nil s
stop_here s (x ∷ t) h n o k = longest_in-step s x t ∙ ap₂ one_more (nothing_behind s x t h n o k) (calm_ended s (x ∷ t) h)

takes_none : (s : State) (t : List Class) → is_calm s ≡ true → ended s [] ≡ None → state_takes_first s t ≡ false
takes_none s [] h e = refl
takes_none s (x ∷ t) h e =
    elim (cases_Bool (state_takes s x)) [
      | inl i ↦ absurd (false≢true (sym (ap is_some e) ∙ take_kind s x (joined (is_calm s) (state_takes s x) h i)))
      | inr i ↦ i
    ]

abbrev pub same : Bool → Bool → Bool
same true b = b
same false b = not b

pub same-eq : (a b : Bool) → same a b ≡ true → a ≡ b
same-eq true true h = refl
same-eq true false h = cc
same-eq false true h = cc
same-eq false false h = refl

abbrev in_step : State → Class → Bool
in_step s c = not (is_calm s) || (is_dead (next s c) || same (is_class class.Backslash c && not (is_begun s)) (is_begun (next s c)))

-- the flag says whether the state has just read a `\`
abbrev Flagged : State → Bool → Type 0
Flagged s f = (s ≡ state.Dead) ⊎ (f ≡ is_begun s)

dead_stays : (x : Class) → next state.Dead x ≡ state.Dead
dead_stays x = refl

flag_next : (s : State) (x : Class) (f : Bool) → is_calm s ≡ true → Flagged s f → Flagged (next s x) (is_class class.Backslash x && not f)
flag_next s x f h (inl e) = inl (ap (λ r. next r x) e)
flag_next s x f h (inr e) =
    elim (or_cases (is_dead (next s x)) (same (is_class class.Backslash x && not (is_begun s)) (is_begun (next s x))) (implied (is_calm s) _ h (each_step in_step refl s x))) [
      | inl d ↦ inl (is_dead-eq (next s x) d)
      | inr d ↦ inr (ap (λ b. is_class class.Backslash x && not b) e ∙ same-eq (is_class class.Backslash x && not (is_begun s)) (is_begun (next s x)) d)
    ]

none_found : (found : Option (Kind × ℕ)) (here : Option Kind) → one_more found here ≡ None → (found ≡ None) × (here ≡ None)
none_found None None h = (refl, refl)
none_found None (Some k) h = cc
none_found (Some f) here h = cc

pub no_kind : (s : State) (a : List Class) → longest_in s a ≡ None → (ended s a ≡ None)
no_kind s [] h = (none_found None (ended s []) (sym (longest_in-nil s) ∙ h)).1
no_kind s (x ∷ a) h = (none_found (longest_in (next s x) a) (ended s (x ∷ a)) (sym (longest_in-step s x a) ∙ h)).1

-- where nothing is found up to one stop, nothing is found up to another
none_kept : (s : State) (c a b : List Class) (f : Bool) → is_calm s ≡ true → Flagged s f → is_odd f c ≡ false → is_stop b ≡ true → longest_in s (c ++ a) ≡ None → longest_in s (c ++ b) ≡ None
none_kept s [] a b f h (inl d) o k n = ap (λ r. longest_in r b) d ∙ longest_in-dead b
none_kept s [] a b f h (inr d) o k n =
    let e : ended s [] ≡ None = sym (calm_ended s a h) ∙ no_kind s a n in
    stop_here s b h (sym d ∙ o) (takes_none s b h e) k ∙ ap (option_map (as_front 0)) e
none_kept s (x ∷ c) a b f h g o k n =
    let p = none_found (longest_in (next s x) (c ++ a)) (ended s (x ∷ c ++ a)) (sym (longest_in-step s x (c ++ a)) ∙ n) in
    longest_in-step s x (c ++ b)
    ∙ ap₂ one_more (none_kept (next s x) c a b (is_class class.Backslash x && not f) (calm_next s x h) (flag_next s x f h g) o k p.0) (calm_ended s (x ∷ c ++ b) h ∙ sym (calm_ended s (x ∷ c ++ a) h) ∙ p.1)

none_later : (found : Option (Kind × ℕ)) (here : Option Kind) (k : Kind) → one_more found here ≡ Some (k, 0) → found ≡ None
none_later None here k h = refl
none_later (Some f) here k h = let e : (f.0, f.1 + 1) ≡ (k, 0) = cc in let i : f.1 + 1 ≡ 0 = ap (λ (x : Kind × ℕ). x.1) e in absurd (omega arith)

-- a calm token is kept
pub calm_kept : (s : State) (c a b : List Class) (k : Kind) → is_calm s ≡ true → is_begun s ≡ false → is_odd false c ≡ false → state_takes_first s (c ++ b) ≡ false → is_stop b ≡ true → longest_in s (c ++ a) ≡ Some (k, 0) → longest_in s (c ++ b) ≡ Some (k, 0)
calm_kept s [] a b k h n o w g f = stop_here s b h n w g ∙ ap (option_map (as_front 0)) (sym (calm_ended s a h) ∙ longest-ended s a k f)
calm_kept s (x ∷ c) a b k h n o w g f =
    let l = none_later (longest_in (next s x) (c ++ a)) (ended s (x ∷ c ++ a)) k (sym (longest_in-step s x (c ++ a)) ∙ f) in
    let e : ended s (x ∷ c ++ a) ≡ Some k = longest-ended s (x ∷ c ++ a) k f in
    longest_in-step s x (c ++ b)
    ∙ ap₂ one_more (none_kept (next s x) c a b (is_class class.Backslash x && not false) (calm_next s x h) (flag_next s x false h (inr (sym n))) o g l) (calm_ended s (x ∷ c ++ b) h ∙ sym (calm_ended s (x ∷ c ++ a) h) ∙ e)

-- a Delim `/` stays one where no `*` follows
slash_dead : (x : Class) → is_class class.Star x ≡ false → next state.Slash x ≡ state.Dead
slash_dead class.Star h = cc
slash_dead x h = refl

or_nothing : (b : Bool) → b ≡ false → (b || false) ≡ false
or_nothing true h = cc
or_nothing false h = refl

abbrev slash_kind : Bool → Option Kind
slash_kind b = if b then Some kind.Delim else None

pub slash_here : (t : List Class) → starts t class.Star ≡ false → longest_in state.Slash t ≡ Some (kind.Delim, 0)
slash_here [] h = longest_in-nil state.Slash
slash_here (x ∷ t) h =
    longest_in-step state.Slash x t
    ∙ ap₂ one_more (ap (λ s. longest_in s t) (slash_dead x h) ∙ longest_in-dead t) (ap (λ b. slash_kind (not b)) (or_nothing (is_class class.Star x) h))

slash_star : (t : List Class) (k : Kind) → longest_in state.Slash t ≡ Some (k, 0) → (starts t class.Star ≡ false) × (kind.Delim ≡ k)
slash_star t k h =
    elim (cases_Bool (starts t class.Star)) [
      | inl e ↦ let f : slash_kind (not (starts t class.Star || false)) ≡ Some k = longest-ended state.Slash t k h in let g : None ≡ Some k = rw e at f in cc
      | inr e ↦ let f : slash_kind (not (starts t class.Star || false)) ≡ Some k = longest-ended state.Slash t k h in let g : Some kind.Delim ≡ Some k = rw e at f in (e, same_inside kind.Delim k g)
    ]

stop_no_star : (t : List Class) → is_stop t ≡ true → starts t class.Star ≡ false
stop_no_star [] h = refl
stop_no_star (class.Star ∷ t) h = cc
stop_no_star (x ∷ t) h = refl

slash_same : (c a b : List Class) (k : Kind) → is_stop b ≡ true → longest_in state.Slash (c ++ a) ≡ Some (k, 0) → longest_in state.Slash (c ++ b) ≡ Some (k, 0)
slash_same [] a b k l h = slash_here b (stop_no_star b l) ∙ ap (λ j. Some (j, 0)) (slash_star a k h).1
slash_same (x ∷ c) a b k l h = let p = slash_star (x ∷ c ++ a) k h in slash_here (x ∷ c ++ b) p.0 ∙ ap (λ j. Some (j, 0)) p.1

abbrev is_slash : State → Bool
is_slash state.Slash = true
is_slash s = false

is_slash-eq : (s : State) → is_slash s ≡ true → s ≡ state.Slash
is_slash-eq state.Slash h = refl
is_slash-eq s h = cc

abbrev pub has_solid : Option Kind → Bool
has_solid None = false
has_solid (Some k) = is_solid k

calm_or_slash : (s : State) (after : List Class) (k : Kind) → ended s after ≡ Some k → is_solid k ≡ true → (is_calm s ≡ true) ⊎ (s ≡ state.Slash)
calm_or_slash s after k h e =
    let f : has_solid (ended s []) ≡ true = ap has_solid (ended_aside s after k h) ∙ e in
    elim (or_cases (is_calm s) (is_slash s) (implied (has_solid (ended s [])) (is_calm s || is_slash s) f (each_state (λ r. not (has_solid (ended r [])) || (is_calm r || is_slash r)) refl s))) [
      | inl i ↦ inl i
      | inr i ↦ inr (is_slash-eq s i)
    ]

-- where a kind ends, no `\` is open
pub ended_whole : (s : State) (after : List Class) (k : Kind) → ended s after ≡ Some k → is_begun s ≡ false
ended_whole s after k h = not-true (is_begun s) (implied (is_some (ended s [])) (not (is_begun s)) (ap is_some (ended_aside s after k h)) (each_state (λ r. not (is_some (ended r [])) || not (is_begun r)) refl s))

-- a token that is not white space or a comment is kept
pub kept : (s : State) (c a b : List Class) (k : Kind) → is_solid k ≡ true → is_odd false c ≡ false → state_takes_first s (c ++ b) ≡ false → is_stop b ≡ true → longest_in s (c ++ a) ≡ Some (k, 0) → longest_in s (c ++ b) ≡ Some (k, 0)
kept s c a b k e o w g h =
    let f = longest-ended s (c ++ a) k h in
    elim (calm_or_slash s (c ++ a) k f e) [
      | inl i ↦ calm_kept s c a b k i (ended_whole s (c ++ a) k f) o w g h
      | inr i ↦ ap (λ r. longest_in r (c ++ b)) i ∙ slash_same c a b k g (ap (λ r. longest_in r (c ++ a)) (sym i) ∙ h)
    ]
