-- What may follow a word so that it stays the first token.
use Rattle.std.proofs.Common.{◌≡◌, ℕ, List, [], ◌∷◌, Bool, true, false, not, ◌&&◌, ◌||◌, refl, sym, inl, inr, ap, ap₂, ◌∙◌, subst, Option, Some, None, codes}
use Rattle.std.proofs.lemmas.Bool.{cases_Bool, not-true, or_cases, false≢true}
use Rattle.std.specs.List.{list_all}
use Rattle.css_tokens.specs.declared.class.Class.{Class}
use Rattle.css_tokens.specs.declared.class.Class.TheVariants as class
use Rattle.css_tokens.specs.declared.kind.Kind.{Kind}
use Rattle.css_tokens.specs.declared.kind.Kind.TheVariants as kind
use Rattle.css_tokens.specs.declared.machine.State.{State}
use Rattle.css_tokens.specs.declared.machine.State.TheVariants as state
use Rattle.css_tokens.specs.Characters.{classes, has, white}
use Rattle.css_tokens.specs.Kinds.{begins, is_kind, table, kind_of}
use Rattle.css_tokens.specs.Private.Machine.{next, ended}
use Rattle.css_tokens.specs.Tokens.{classes_of, is_url, quote_follows, spells, names}
use Rattle.css_tokens.specs.Again.{StaysFirst, word_from, begins_none, after_ident, is_solid, more_name, takes}
use Rattle.css_tokens.proofs.Fronts.{longest_in}
use Rattle.css_tokens.proofs.Firsts.{by_table}
use Rattle.css_tokens.proofs.MachineStates.{implied, is_dead, is_dead-eq, is_kind-eq, all_pass, each_class, each_state, each_step}
use Rattle.css_tokens.proofs.Runs.{run, kind_of-run, same_inside}
use Rattle.css_tokens.proofs.Spelling.{is_kind-refl}
use Rattle.css_tokens.proofs.Again.{comes_from, none_next, dies_at, ended_mark, is_end, is_end-eq}
use Rattle.css_tokens.proofs.Kept.{state_takes, state_takes_first}
use Rattle.css_tokens.proofs.Takes.{state_takes-word}
use Rattle.css_tokens.proofs.UrlNames.{end_longest, url_state}

-- a word before a text that does not go on with it
pub stays_by : (u : List ℕ) (k : Kind) (set : List Class) (rest : List ℕ) → dies_at (run state.Start (classes_of u)) set → ended (run state.Start (classes_of u)) [] ≡ Some k → ((after : List Class) → ended (run state.Start (classes_of u)) after ≡ ended (run state.Start (classes_of u)) []) → is_url u ≡ false → begins_none set rest ≡ true → state_takes_first (run state.Start (classes_of u)) (classes_of rest) ≡ false → StaysFirst (word_from k u) rest
stays_by u k set rest d e f n h g = by_table (word_from k u) rest (record {
  found = comes_from state.Start u rest k (none_next (run state.Start (classes_of u)) set k d e f (classes_of rest) (not-true (begins set (classes_of rest)) h) g);
  ruled = ap (λ b. b && not (quote_follows (classes_of rest))) n;
})

-- a state goes on with nothing but the set
left_out : (a b : Bool) → a ≡ false → (a || b) ≡ true → b ≡ true
left_out true b h k = cc
left_out false b h k = k

pub dies_by : (s : State) (set : List Class) → list_all (λ c. has set c || is_dead (next s c)) classes ≡ true → dies_at s set
dies_by s set h x n g = is_dead-eq (next s x) (left_out (has set x) (is_dead (next s x)) n (each_class (λ c. has set c || is_dead (next s c)) h x))

-- a state that takes nothing
pub none_taken : (s : State) → ((x : Class) → state_takes s x ≡ false) → (t : List Class) → state_takes_first s t ≡ false
none_taken s n [] = refl
none_taken s n (x ∷ t) = n x

pub dot_stays : (rest : List ℕ) → begins_none (class.Digit ∷ []) rest ≡ true → StaysFirst (word_from kind.Delim (codes ".")) rest
dot_stays rest h = stays_by (codes ".") kind.Delim (class.Digit ∷ []) rest (dies_by state.Dot (class.Digit ∷ []) refl) refl (λ after. refl) refl h (none_taken state.Dot (λ x. refl) (classes_of rest))

pub plus_stays : (rest : List ℕ) → begins_none (class.Digit ∷ class.Dot ∷ []) rest ≡ true → StaysFirst (word_from kind.Delim (codes "+")) rest
plus_stays rest h = stays_by (codes "+") kind.Delim (class.Digit ∷ class.Dot ∷ []) rest (dies_by state.Plus (class.Digit ∷ class.Dot ∷ []) refl) refl (λ after. refl) refl h (none_taken state.Plus (λ x. refl) (classes_of rest))

pub space_stays : (rest : List ℕ) → begins_none white rest ≡ true → StaysFirst (word_from kind.White (codes " ")) rest
space_stays rest h = stays_by (codes " ") kind.White white rest (dies_by state.White white refl) refl (λ after. refl) refl h (none_taken state.White (λ x. refl) (classes_of rest))

pub feed_stays : (rest : List ℕ) → begins_none white rest ≡ true → StaysFirst (word_from kind.White (10 ∷ [])) rest
feed_stays rest h = stays_by (10 ∷ []) kind.White white rest (dies_by state.White white refl) refl (λ after. refl) refl h (none_taken state.White (λ x. refl) (classes_of rest))

-- the state that a spelled word comes to has its kind
pub names-eq : (k : Kind) (o : Option Kind) → names k o ≡ true → o ≡ Some k
names-eq k None h = cc
names-eq k (Some j) h = ap Some (sym (is_kind-eq k j h))

pub spelled_state : (u : List ℕ) (k : Kind) → is_kind k kind.Url ≡ false → spells k u ≡ true → ended (run state.Start (classes_of u)) [] ≡ Some k
unfolding spells
spelled_state u k f h =
    elim (or_cases (names k (kind_of table (classes_of u) [])) _ h) [
      | inl e ↦ sym (kind_of-run state.Start (classes_of u) []) ∙ names-eq k (kind_of table (classes_of u) []) e
      | inr e ↦ let g = rw f at e in cc
    ]

pub not_function : (u : List ℕ) (k : Kind) → is_kind k kind.Function ≡ false → ended (run state.Start (classes_of u)) [] ≡ Some k → is_url u ≡ false
not_function u k f h =
    elim (cases_Bool (is_url u)) [
      | inl e ↦
          let g : Some kind.Function ≡ Some k = ap (λ s. ended s []) (sym (url_state u e)) ∙ h in
          let i : kind.Function ≡ k = cc in
          let j : is_kind kind.Function kind.Function ≡ false = subst (λ x. is_kind x kind.Function ≡ false) (sym i) f in
          cc
      | inr e ↦ e
    ]

-- what a state that has the kind does
abbrev Stays : State → List Class → Type 0
Stays s set = dies_at s set × ((after : List Class) → ended s after ≡ ended s [])

abbrev goes_on_with : Kind → List Class → State → Class → Bool
goes_on_with k set s c = not (names k (ended s [])) || (has set c || (state_takes s c || is_dead (next s c)))

pub aside_from : (s : State) (k : Kind) → is_kind k kind.Delim ≡ false → ended s [] ≡ Some k → (after : List Class) → ended s after ≡ ended s []
aside_from state.Slash k n h after = absurd (false≢true (sym n ∙ ap (λ j. is_kind j kind.Delim) (sym (same_inside kind.Delim k h))))
aside_from s k n h after = refl

state_stays : (s : State) (k : Kind) (set : List Class) → is_kind k kind.Delim ≡ false → all_pass (λ r. list_all (goes_on_with k set r) classes) ≡ true → ended s [] ≡ Some k → Stays s set
state_stays s k set n h e = (
  λ x m g. is_dead-eq (next s x) (left_out (state_takes s x) (is_dead (next s x)) g (left_out (has set x) _ m (implied (names k (ended s [])) _ (ap (names k) e ∙ is_kind-refl k) (each_step (goes_on_with k set) h s x)))),
  aside_from s k n e,
)

-- a word of this kind before a text that begins with none of the set, and with nothing that the word takes
pub stays_in : (u : List ℕ) (k : Kind) (set : List Class) (rest : List ℕ) → is_kind k kind.Delim ≡ false → is_kind k kind.Function ≡ false → is_kind k kind.Url ≡ false → is_solid k ≡ true → all_pass (λ r. list_all (goes_on_with k set r) classes) ≡ true → spells k u ≡ true → begins_none set rest ≡ true → takes (word_from k u) rest ≡ false → StaysFirst (word_from k u) rest
stays_in u k set rest d f l s h e n g =
    let i = spelled_state u k l e in
    let w = state_stays (run state.Start (classes_of u)) k set d h i in
    stays_by u k set rest w.0 i w.1 (not_function u k f i) n (state_takes-word (word_from k u) rest i s ∙ g)

-- an Ident before a text that begins with no name character, `\`, `(` or `>`
pub ident_stays : (u rest : List ℕ) → spells kind.Ident u ≡ true → begins_none after_ident rest ≡ true → takes (word_from kind.Ident u) rest ≡ false → StaysFirst (word_from kind.Ident u) rest
ident_stays u rest h n g = stays_in u kind.Ident after_ident rest refl refl refl refl refl h n g

-- a Hash or an At before a text that begins with no name character or `\`
pub hash_stays : (u rest : List ℕ) → spells kind.Hash u ≡ true → begins_none more_name rest ≡ true → takes (word_from kind.Hash u) rest ≡ false → StaysFirst (word_from kind.Hash u) rest
hash_stays u rest h n g = stays_in u kind.Hash more_name rest refl refl refl refl refl h n g

pub at_stays : (u rest : List ℕ) → spells kind.At u ≡ true → begins_none more_name rest ≡ true → takes (word_from kind.At u) rest ≡ false → StaysFirst (word_from kind.At u) rest
at_stays u rest h n g = stays_in u kind.At more_name rest refl refl refl refl refl h n g

-- a kind that is the end of its token
abbrev is_whole : Kind → State → Bool
is_whole k s = not (names k (ended s [])) || is_end s

whole_state : (u : List ℕ) (k : Kind) → all_pass (is_whole k) ≡ true → ended (run state.Start (classes_of u)) [] ≡ Some k → run state.Start (classes_of u) ≡ state.End k
whole_state u k h e =
    let s = run state.Start (classes_of u) in
    is_end-eq s k (implied (names k (ended s [])) (is_end s) (ap (names k) e ∙ is_kind-refl k) (each_state (is_whole k) h s)) e

-- a String before any text, and a Function not named `url`
pub string_stays : (u rest : List ℕ) → spells kind.String u ≡ true → StaysFirst (word_from kind.String u) rest
string_stays u rest h =
    let e = spelled_state u kind.String refl h in
    ended_mark u kind.String (whole_state u kind.String refl e) (not_function u kind.String refl e) rest

pub function_stays : (u rest : List ℕ) → spells kind.Function u ≡ true → is_url u ≡ false → StaysFirst (word_from kind.Function u) rest
function_stays u rest h n = ended_mark u kind.Function (whole_state u kind.Function refl (spelled_state u kind.Function refl h)) n rest

-- a Function named `url` before a quote, with white space between them or not
pub url_stays : (u rest : List ℕ) → is_url u ≡ true → quote_follows (classes_of rest) ≡ true → StaysFirst (word_from kind.Function u) rest
url_stays u rest h q = by_table (word_from kind.Function u) rest (record {
  found = comes_from state.Start u rest kind.Function (ap (λ s. longest_in s (classes_of rest)) (url_state u h) ∙ end_longest kind.Function (classes_of rest));
  ruled = ap₂ (λ (a b : Bool). a && not b) h q;
})
