-- A `/` and a `<` before a text that makes no comment and no `<!--` of them, and words that end a text.
use Rattle.std.proofs.Common.{◌≡◌, ℕ, List, [], ◌∷◌, ◌++◌, Bool, true, false, not, ◌&&◌, ◌||◌, refl, inl, inr, ap, ◌∙◌, Some, codes}
use Rattle.std.proofs.lemmas.Bool.{cases_Bool, not-true}
use Rattle.std.specs.Option.{option_map}
use Rattle.css_tokens.specs.declared.class.Class.{Class}
use Rattle.css_tokens.specs.declared.class.Class.TheVariants as class
use Rattle.css_tokens.specs.declared.kind.Kind.{Kind}
use Rattle.css_tokens.specs.declared.kind.Kind.TheVariants as kind
use Rattle.css_tokens.specs.declared.machine.State.TheVariants as state
use Rattle.css_tokens.specs.Again.{StaysFirst, word_from, begins_none, star, bang}
use Rattle.css_tokens.specs.Characters.{class_of, is_class}
use Rattle.css_tokens.specs.Kinds.{begins, is_kind, starts}
use Rattle.css_tokens.specs.Private.Machine.{next, ended}
use Rattle.css_tokens.specs.Tokens.{as_front, classes_of, quote_follows, spells}
use Rattle.css_tokens.proofs.Again.{comes_from}
use Rattle.css_tokens.proofs.DecodedNames.{dead_end}
use Rattle.css_tokens.proofs.Derivatives.{is_class-eq}
use Rattle.css_tokens.proofs.Firsts.{by_table}
use Rattle.css_tokens.proofs.Fronts.{longest_in-nil}
use Rattle.css_tokens.proofs.Kept.{slash_here}
use Rattle.css_tokens.proofs.Runs.{run}
use Rattle.css_tokens.proofs.Stays.{dies_by, none_taken, not_function, spelled_state, stays_by}

first_false : (b : Bool) → (b || false) ≡ false → b ≡ false
first_false true h = cc
first_false false h = refl

pub slash_stays : (rest : List ℕ) → begins_none star rest ≡ true → StaysFirst (word_from kind.Delim (codes "/")) rest
slash_stays rest h = by_table (word_from kind.Delim (codes "/")) rest (record {
  found = comes_from state.Start (codes "/") rest kind.Delim (slash_here (classes_of rest) (first_false (starts (classes_of rest) class.Star) (not-true (begins star (classes_of rest)) h)));
  ruled = refl;
})

pub less_stays : (rest : List ℕ) → begins_none bang rest ≡ true → StaysFirst (word_from kind.Delim (codes "<")) rest
less_stays rest h = stays_by (codes "<") kind.Delim bang rest (dies_by state.Less bang refl) refl (λ after. refl) refl h (none_taken state.Less (λ x. refl) (classes_of rest))

pub less_before_equals : (rest : List ℕ) → StaysFirst (word_from kind.Delim (codes "<")) (codes "=" ++ rest)
less_before_equals rest = less_stays (codes "=" ++ rest) refl

-- no Number begins with `*`
star_alone : (t : List Class) → ended (run (state.End kind.Delim) t) [] ≡ Some kind.Number → ⊥
star_alone [] h = cc
star_alone (x ∷ t) h = dead_end (next (state.End kind.Delim) x) t kind.Number refl h

pub number_no_star : (u rest : List ℕ) → spells kind.Number u ≡ true → begins_none star (u ++ rest) ≡ true
number_no_star [] rest h = let e = spelled_state [] kind.Number refl h in cc
number_no_star (b ∷ u) rest h =
    elim (cases_Bool (is_class class.Star (class_of b))) [
      | inl e ↦ absurd (star_alone (classes_of u) (ap (λ c. ended (run (next state.Start c) (classes_of u)) []) (is_class-eq class.Star (class_of b) e) ∙ spelled_state (b ∷ u) kind.Number refl h))
      | inr e ↦ ap (λ x. not (x || false)) e
    ]

-- a word that ends a text
pub alone_stays : (k : Kind) (u : List ℕ) → is_kind k kind.Url ≡ false → is_kind k kind.Function ≡ false → spells k u ≡ true → StaysFirst (word_from k u) []
alone_stays k u l f h =
    let e = spelled_state u k l h in
    by_table (word_from k u) [] (record {
      found = comes_from state.Start u [] k (longest_in-nil (run state.Start (classes_of u)) ∙ ap (option_map (as_front 0)) e);
      ruled = ap (λ b. b && not (quote_follows [])) (not_function u k f e);
    })
