-- A Function named `url` is the first front whatever follows it.
use Rattle.std.proofs.Common.{◌≡◌, ℕ, suc, List, [], ◌∷◌, ◌++◌, length, Bool, true, false, not, ◌||◌, refl, sym, ap, ◌∙◌, Some}
use Rattle.std.proofs.lemmas.Bool.{and_parts}
use Rattle.std.proofs.lemmas.List.{map-append}
use Rattle.css_tokens.specs.declared.class.Class.{Class}
use Rattle.css_tokens.specs.declared.kind.Kind.{Kind}
use Rattle.css_tokens.specs.declared.kind.Kind.TheVariants as kind
use Rattle.css_tokens.specs.declared.machine.State.{State}
use Rattle.css_tokens.specs.declared.machine.State.TheVariants as state
use Rattle.css_tokens.specs.Characters.{class_of}
use Rattle.css_tokens.specs.Kinds.{kind_of, table}
use Rattle.css_tokens.specs.Private.Machine.{ended}
use Rattle.css_tokens.specs.Tokens.{classes_of, is_url, names}
use Rattle.css_tokens.proofs.Fronts.{longest_in, longest_in-nil, longest_in-step, longest_in-dead}
use Rattle.css_tokens.proofs.MachineStates.{implied, each_state}
use Rattle.css_tokens.proofs.Runs.{run, one_more, kind_of-run, reached}

abbrev is_function_end : State → Bool
is_function_end (state.End kind.Function) = true
is_function_end s = false

function_end-eq : (s : State) → is_function_end s ≡ true → s ≡ state.End kind.Function
function_end-eq (state.End kind.Function) h = refl
function_end-eq s h = cc

-- a whole token finds nothing longer
pub end_longest : (k : Kind) (t : List Class) → longest_in (state.End k) t ≡ Some (k, 0)
end_longest k [] = longest_in-nil (state.End k)
end_longest k (x ∷ t) = longest_in-step (state.End k) x t ∙ ap (λ o. one_more o (Some k)) (longest_in-dead t)

pub classes_length : (t : List ℕ) → length (classes_of t) ≡ length t
classes_length [] = refl
classes_length (x ∷ t) = ap suc (classes_length t)

-- the machine has read it to its end
pub url_state : (p : List ℕ) → is_url p ≡ true → run state.Start (classes_of p) ≡ state.End kind.Function
url_state p h =
    let e = (and_parts (names kind.Function (kind_of table (classes_of p) [])) _ h).0 in
    let r = run state.Start (classes_of p) in
    let f : names kind.Function (ended r []) ≡ true = ap (names kind.Function) (sym (kind_of-run state.Start (classes_of p) [])) ∙ e in
    function_end-eq r (implied (names kind.Function (ended r [])) (is_function_end r) f (each_state (λ s. not (names kind.Function (ended s [])) || is_function_end s) refl r))

pub url_found : (p a : List ℕ) → is_url p ≡ true → longest_in state.Start (classes_of (p ++ a)) ≡ Some (kind.Function, length p)
url_found p a h =
    ap (longest_in state.Start) (map-append class_of p a)
    ∙ reached state.Start (classes_of p) (classes_of a) kind.Function (ap (λ s. longest_in s (classes_of a)) (url_state p h) ∙ end_longest kind.Function (classes_of a))
    ∙ ap (λ (n : ℕ). Some (kind.Function, n)) (classes_length p)
