-- The longest front of a text, by the steps of the machine.
use Rattle.std.proofs.Common.{◌≡◌, ℕ, ◌+◌, ◌-◌, ◌<◌, List, [], ◌∷◌, length, take, drop, get_or, refl, sym, ap, ap₂, ◌∙◌, Option, Some, None, add-one, arith, drop-cons}
use Rattle.std.proofs.Math.Path.{fun_ext}
use Rattle.std.proofs.lemmas.List.{drop_all, take_rest}
use Rattle.std.specs.Option.{option_map}
use Rattle.css_tokens.specs.declared.class.Class.{Class}
use Rattle.css_tokens.specs.declared.kind.Kind.{Kind}
use Rattle.css_tokens.specs.declared.machine.State.{State}
use Rattle.css_tokens.specs.declared.machine.State.TheVariants as state
use Rattle.css_tokens.specs.Characters.{class_of}
use Rattle.css_tokens.specs.Kinds.{kind_of}
use Rattle.css_tokens.specs.Private.Machine.{rows, next, ended}
use Rattle.css_tokens.specs.Tokens.{longest, or_else, as_front, longer, classes_of}
use Rattle.css_tokens.proofs.Derivatives.{kind_of-derived}
use Rattle.css_tokens.proofs.MachineRows.{rows-next, ended-kind_of}

-- the longest front from a state on
abbrev pub longest_in : State → List Class → Option (Kind × ℕ)
longest_in s t = longest (kind_of (rows s)) t

pub longest_in-nil : (s : State) → longest_in s [] ≡ option_map (as_front 0) (ended s [])
longest_in-nil s = ap (option_map (as_front 0)) (sym (ended-kind_of s []))

pub longest_in-step : (s : State) (x : Class) (t : List Class) → longest_in s (x ∷ t) ≡ or_else (option_map (longer 1) (longest_in (next s x) t)) (option_map (as_front 0) (ended s (x ∷ t)))
longest_in-step s x t =
    ap₂ (λ (a b : Option (Kind × ℕ)). or_else (option_map (longer 1) a) b)
    (ap (λ f. longest f t) (fun_ext (λ front. fun_ext (λ after. kind_of-derived x (rows s) front after ∙ ap (λ r. kind_of r front after) (sym (rows-next s x))))))
    (ap (option_map (as_front 0)) (sym (ended-kind_of s (x ∷ t))))

pub longest_in-dead : (t : List Class) → longest_in state.Dead t ≡ None
longest_in-dead [] = refl
longest_in-dead (x ∷ t) = longest_in-step state.Dead x t ∙ ap (λ o. or_else (option_map (longer 1) o) None) (longest_in-dead t)

-- a front behind n characters, or else the best before
abbrev pub after_best : ℕ → Option (Kind × ℕ) → Option (Kind × ℕ) → Option (Kind × ℕ)
after_best n found best = or_else (option_map (longer n) found) best

move_front : (n : ℕ) (found best : Option (Kind × ℕ)) (here : Option Kind) → after_best n (or_else (option_map (longer 1) found) (option_map (as_front 0) here)) best ≡ after_best (n + 1) found (or_else (option_map (as_front n) here) best)
move_front n (Some f) best here = ap (λ (m : ℕ). Some (f.0, m)) (omega arith)
move_front n None best (Some k) = ap (λ (m : ℕ). Some (k, m)) (omega arith)
move_front n None best None = refl

-- one more character read
pub read_more : (s : State) (text : List ℕ) (i : ℕ) (best : Option (Kind × ℕ)) → i < length text →
    after_best i (longest_in s (classes_of (drop i text))) best
    ≡ after_best (i + 1) (longest_in (next s (class_of (get_or text i 0))) (classes_of (drop (i + 1) text))) (or_else (option_map (as_front i) (ended s (classes_of (drop i text)))) best)
read_more s text i best h =
    let e : drop i text ≡ get_or text i 0 ∷ drop (i + 1) text = rw (add-one, drop-cons text i 0) in
    ap (λ t. after_best i (longest_in s (classes_of t)) best) e
    ∙ ap (λ o. after_best i o best) (longest_in-step s (class_of (get_or text i 0)) (classes_of (drop (i + 1) text)))
    ∙ move_front i (longest_in (next s (class_of (get_or text i 0))) (classes_of (drop (i + 1) text))) best (ended s (class_of (get_or text i 0) ∷ classes_of (drop (i + 1) text)))
    ∙ ap (λ t. after_best (i + 1) (longest_in (next s (class_of (get_or text i 0))) (classes_of (drop (i + 1) text))) (or_else (option_map (as_front i) (ended s (classes_of t))) best)) (sym e)

pub read_dead : (n : ℕ) (t : List Class) (best : Option (Kind × ℕ)) → after_best n (longest_in state.Dead t) best ≡ best
read_dead n t best = ap (λ o. after_best n o best) (longest_in-dead t)

-- the same, of what the calls of one turn give
pub read_turn : (s s' : State) (text : List ℕ) (i : ℕ) (best best' all : Option (Kind × ℕ)) (here : Option Kind) (x : Class) → i < length text →
    all ≡ after_best i (longest_in s (classes_of (drop i text))) best →
    here ≡ ended s (classes_of (take (length text - i) (drop i text))) → best' ≡ or_else (option_map (as_front i) here) best → x ≡ class_of (get_or text i 0) → s' ≡ next s x →
    all ≡ after_best (i + 1) (longest_in s' (classes_of (drop (i + 1) text))) best'
read_turn s s' text i best best' all here x h before e f g j =
    before ∙ read_more s text i best h
    ∙ ap₂ (λ (t : State) (b : Option (Kind × ℕ)). after_best (i + 1) (longest_in t (classes_of (drop (i + 1) text))) b)
    (sym (j ∙ ap (next s) g))
    (sym (f ∙ ap (λ k. or_else (option_map (as_front i) k) best) (e ∙ ap (λ t. ended s (classes_of t)) (take_rest text i))))

-- and where nothing can follow
pub read_end : (s : State) (n : ℕ) (t : List Class) (best all : Option (Kind × ℕ)) → s ≡ state.Dead → all ≡ after_best n (longest_in s t) best → best ≡ all
read_end s n t best all e h = sym (h ∙ ap (λ r. after_best n (longest_in r t) best) e ∙ read_dead n t best)

-- and at the end of the text
here_as : (n : ℕ) (o : Option Kind) (best : Option (Kind × ℕ)) → after_best n (option_map (as_front 0) o) best ≡ or_else (option_map (as_front n) o) best
here_as n None best = refl
here_as n (Some k) best = ap (λ (m : ℕ). Some (k, m)) (omega arith)

pub read_last : (s : State) (text : List ℕ) (i : ℕ) (best all last : Option (Kind × ℕ)) (here : Option Kind) → i ≡ length text → all ≡ after_best i (longest_in s (classes_of (drop i text))) best → here ≡ ended s [] → last ≡ or_else (option_map (as_front (length text)) here) best → last ≡ all
read_last s text i best all last here w h e f =
    f ∙ ap (λ k. or_else (option_map (as_front (length text)) k) best) e
    ∙ sym (h
    ∙ ap (λ (n : ℕ). after_best n (longest_in s (classes_of (drop n text))) best) w
    ∙ ap (λ t. after_best (length text) (longest_in s (classes_of t)) best) (drop_all (length text) text (omega arith))
    ∙ ap (λ o. after_best (length text) o best) (longest_in-nil s)
    ∙ here_as (length text) (ended s []) best)
