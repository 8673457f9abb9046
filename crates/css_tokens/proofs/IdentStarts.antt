-- What stands behind the `#` of a Hash spells an Ident where it would start one.
use Rattle.std.proofs.Common.{◌≡◌, ℕ, ◌≤◌, List, [], ◌∷◌, ◌++◌, Bool, true, false, not, ◌&&◌, ◌||◌, ◌⊎◌, inl, inr, ltb, refl, sym, ap, ap₂, ◌∙◌, Some, arith, codes, nat_eq, ltb-true, ltb-false}
use Rattle.std.specs.List.{list_all}
use Rattle.std.proofs.lemmas.Bool.{cases_Bool, agree_below_at, not-true, or_cases}
use Rattle.std.proofs.lemmas.Bool.Decides.{nat_tests}
use Rattle.css_tokens.specs.declared.class.Class.{Class}
use Rattle.css_tokens.specs.declared.class.Class.TheVariants as class
use Rattle.css_tokens.specs.declared.kind.Kind.TheVariants as kind
use Rattle.css_tokens.specs.declared.machine.Escape.{Escape}
use Rattle.css_tokens.specs.declared.machine.Escape.TheVariants as escape
use Rattle.css_tokens.specs.declared.machine.Holder.TheVariants as holder
use Rattle.css_tokens.specs.declared.machine.State.{State}
use Rattle.css_tokens.specs.declared.machine.State.TheVariants as state
use Rattle.css_tokens.specs.Characters.{class_of, classes, has, is_class}
use Rattle.css_tokens.specs.Kinds.{is_kind, kind_of, table}
use Rattle.css_tokens.specs.Names.{is_name_start, starts_behind_dash, starts_ident}
use Rattle.css_tokens.specs.Private.Machine.{next, ended}
use Rattle.css_tokens.specs.Tokens.{classes_of, names, spells}
use Rattle.css_tokens.proofs.ContentLemmas.{is_high}
use Rattle.css_tokens.proofs.DecodedNames.{dead_end}
use Rattle.css_tokens.proofs.MachineStates.{all_pass, each_class, each_state, each_step, implied, is_dead, is_dead-eq}
use Rattle.css_tokens.proofs.NameSpelling.{high_class}
use Rattle.css_tokens.proofs.Runs.{run, kind_of-run}
use Rattle.css_tokens.proofs.Stays.{spelled_state}

-- The classes that would start an identifier.

abbrev starters : List Class
starters = class.Exponent ∷ class.Hex ∷ class.Letter ∷ class.High ∷ class.Backslash ∷ []

abbrev behind_dash : List Class → Bool
behind_dash [] = false
behind_dash (x ∷ s) = is_class class.Minus x || has starters x

abbrev starts : List Class → Bool
starts [] = false
starts (x ∷ s) = has starters x || (is_class class.Minus x && behind_dash s)

abbrev starts_byte : ℕ → Bool
starts_byte b = has starters (class_of b)

abbrev dash_byte : ℕ → Bool
dash_byte b = is_class class.Minus (class_of b)

abbrev is_dash : ℕ → Bool
is_dash b = nat_eq b 45

from_high : (b : ℕ) → 128 ≤ b → is_high b ≡ true
from_high b h = grind (arith, nat_tests)

start-high : (b : ℕ) → 128 ≤ b → is_name_start b ≡ true
start-high b h = grind (arith, nat_tests)

dash-high : (b : ℕ) → 128 ≤ b → is_dash b ≡ false
dash-high b h = grind (arith, nat_tests)

start-class : (b : ℕ) → is_name_start b ≡ starts_byte b
start-class b = elim (cases_Bool (ltb b 128)) [
  | inl e ↦ agree_below_at is_name_start starts_byte 128 b refl (ltb-true b 128 e)
  | inr e ↦ let h = ltb-false b 128 e in start-high b h ∙ sym (ap (has starters) (high_class b (from_high b h)))
]

pub dash-class : (b : ℕ) → is_dash b ≡ dash_byte b
dash-class b = elim (cases_Bool (ltb b 128)) [
  | inl e ↦ agree_below_at is_dash dash_byte 128 b refl (ltb-true b 128 e)
  | inr e ↦ let h = ltb-false b 128 e in dash-high b h ∙ sym (ap (is_class class.Minus) (high_class b (from_high b h)))
]

behind-classes : (t : List ℕ) → starts_behind_dash t ≡ behind_dash (classes_of t)
behind-classes [] = refl
behind-classes (b ∷ t) = ap₂ ◌||◌ (dash-class b) (start-class b)

starts-classes : (t : List ℕ) → starts_ident t ≡ starts (classes_of t)
starts-classes [] = refl
starts-classes (b ∷ t) = ap₂ ◌||◌ (start-class b) (ap₂ ◌&&◌ (dash-class b) (behind-classes t))

-- A Hash and an Ident go on alike.

abbrev is_escape : Escape → Escape → Bool
is_escape escape.Begun escape.Begun = true
is_escape escape.Hex1 escape.Hex1 = true
is_escape escape.Hex2 escape.Hex2 = true
is_escape escape.Hex3 escape.Hex3 = true
is_escape escape.Hex4 escape.Hex4 = true
is_escape escape.Hex5 escape.Hex5 = true
is_escape escape.Hex6 escape.Hex6 = true
is_escape escape.Return escape.Return = true
is_escape e f = false

-- where a Hash comes to the first state, does an Ident of the same text come to the second?
abbrev alike : State → State → Bool
alike state.HashName state.Name = true
alike state.HashName state.MinusMinus = true
alike (state.Escaped holder.HashName e) (state.Escaped holder.Name f) = is_escape e f
alike s u = false

-- so it does after one more character, where the Hash goes on
abbrev goes_on : State → State → Bool
goes_on s u = list_all (λ c. is_dead (next s c) || alike (next s c) (next u c)) classes

-- and where the Hash ends, the Ident does
abbrev ends_so : State → State → Bool
ends_so s u = not (names kind.Hash (ended s [])) || names kind.Ident (ended u [])

each_alike : (test : State → State → Bool) → all_pass (λ s. all_pass (λ u. not (alike s u) || test s u)) ≡ true → (s u : State) → alike s u ≡ true → test s u ≡ true
each_alike test h s u a = implied (alike s u) (test s u) a (each_state (λ v. not (alike s v) || test s v) (each_state (λ r. all_pass (λ v. not (alike r v) || test r v)) h s) u)

alike-next : (s u : State) (c : Class) → alike s u ≡ true → (next s c ≡ state.Dead) ⊎ (alike (next s c) (next u c) ≡ true)
alike-next s u c a = elim (or_cases (is_dead (next s c)) (alike (next s c) (next u c)) (each_class (λ d. is_dead (next s d) || alike (next s d) (next u d)) (each_alike goes_on refl s u a) c)) [
  | inl e ↦ inl (is_dead-eq (next s c) e)
  | inr e ↦ inr e
]

alike-ended : (s u : State) → alike s u ≡ true → ended s [] ≡ Some kind.Hash → names kind.Ident (ended u []) ≡ true
alike-ended s u a h = implied (names kind.Hash (ended s [])) (names kind.Ident (ended u [])) (ap (names kind.Hash) h) (each_alike ends_so refl s u a)

alike-run : (s u : State) (t : List Class) → alike s u ≡ true → ended (run s t) [] ≡ Some kind.Hash → names kind.Ident (ended (run u t) []) ≡ true
alike-run s u [] a h = alike-ended s u a h
alike-run s u (c ∷ t) a h = elim (alike-next s u c a) [
  | inl e ↦ absurd (dead_end (next s c) t kind.Hash e h)
  | inr e ↦ alike-run (next s c) (next u c) t e h
]

-- What begins as a number is no Ident.

abbrev is_numeric : State → Bool
is_numeric state.Integer = true
is_numeric state.Fraction = true
is_numeric state.UnitMinus = true
is_numeric state.Unit = true
is_numeric state.Point = true
is_numeric state.Exponent = true
is_numeric state.ExponentPlus = true
is_numeric state.ExponentMinus = true
is_numeric state.ExponentDigits = true
is_numeric state.ExponentDash = true
is_numeric state.PlusDigits = true
is_numeric (state.Escaped holder.Unit e) = true
is_numeric (state.End k) = not (is_kind k kind.Ident)
is_numeric state.Dead = true
is_numeric s = false

numeric-run : (s : State) (t : List Class) → is_numeric s ≡ true → names kind.Ident (ended (run s t) []) ≡ false
numeric-run s [] n = not-true (names kind.Ident (ended s [])) (implied (is_numeric s) (not (names kind.Ident (ended s []))) n (each_state (λ r. not (is_numeric r) || not (names kind.Ident (ended r []))) refl s))
numeric-run s (c ∷ t) n = numeric-run (next s c) t (implied (is_numeric s) (is_numeric (next s c)) n (each_step (λ r d. not (is_numeric r) || is_numeric (next r d)) refl s c))

-- Behind a first `-`, and from the first character on.

dash_starts : (s : List Class) → ended (run state.HashName s) [] ≡ Some kind.Hash → names kind.Ident (ended (run state.Minus s) []) ≡ behind_dash s
dash_starts [] h = refl
dash_starts (class.Minus ∷ s) h = alike-run state.HashName state.MinusMinus s refl h
dash_starts (class.Exponent ∷ s) h = alike-run state.HashName state.Name s refl h
dash_starts (class.Hex ∷ s) h = alike-run state.HashName state.Name s refl h
dash_starts (class.Letter ∷ s) h = alike-run state.HashName state.Name s refl h
dash_starts (class.High ∷ s) h = alike-run state.HashName state.Name s refl h
dash_starts (class.Backslash ∷ s) h = alike-run (state.Escaped holder.HashName escape.Begun) (state.Escaped holder.Name escape.Begun) s refl h
dash_starts (class.Digit ∷ s) h = numeric-run state.Integer s refl
dash_starts (x ∷ s) h = absurd (dead_end state.Dead s kind.Hash refl h)

first_starts : (s : List Class) → ended (run state.Hash s) [] ≡ Some kind.Hash → names kind.Ident (ended (run state.Start s) []) ≡ starts s
first_starts [] h = cc
first_starts (class.Minus ∷ s) h = dash_starts s h
first_starts (class.Exponent ∷ s) h = alike-run state.HashName state.Name s refl h
first_starts (class.Hex ∷ s) h = alike-run state.HashName state.Name s refl h
first_starts (class.Letter ∷ s) h = alike-run state.HashName state.Name s refl h
first_starts (class.High ∷ s) h = alike-run state.HashName state.Name s refl h
first_starts (class.Backslash ∷ s) h = alike-run (state.Escaped holder.HashName escape.Begun) (state.Escaped holder.Name escape.Begun) s refl h
first_starts (class.Digit ∷ s) h = numeric-run state.Integer s refl
first_starts (x ∷ s) h = absurd (dead_end state.Dead s kind.Hash refl h)

or-false : (a : Bool) → (a || false) ≡ a
or-false true = refl
or-false false = refl

ident_names : (t : List ℕ) → spells kind.Ident t ≡ names kind.Ident (ended (run state.Start (classes_of t)) [])
unfolding spells
ident_names t = or-false (names kind.Ident (kind_of table (classes_of t) [])) ∙ ap (names kind.Ident) (kind_of-run state.Start (classes_of t) [])

-- what stands behind the `#` of a Hash spells an Ident where it would start one
pub hash_idents : (t : List ℕ) → spells kind.Hash (codes "#" ++ t) ≡ true → spells kind.Ident t ≡ starts_ident t
hash_idents t h = ident_names t ∙ first_starts (classes_of t) (spelled_state (codes "#" ++ t) kind.Hash refl h) ∙ sym (starts-classes t)
