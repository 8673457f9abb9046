-- Numbers and dimensions before a text that does not go on with them.
use Rattle.std.proofs.Common.{◌≡◌, ℕ, List, [], ◌∷◌, ◌++◌, Bool, true, false, not, ◌||◌, refl, sym, inl, inr, ap, ◌∙◌, subst, Some, nat_eq, append_assoc, arith}
use Rattle.std.proofs.lemmas.Bool.{agree_below_at, and_parts, or_cases}
use Rattle.std.proofs.lemmas.Bool.Decides.{nat_tests}
use Rattle.std.specs.Char.{is_ascii_digit}
use Rattle.std.specs.List.{list_all}
use Rattle.css_tokens.specs.declared.class.Class.{Class}
use Rattle.css_tokens.specs.declared.class.Class.TheVariants as class
use Rattle.css_tokens.specs.declared.kind.Kind.{Kind}
use Rattle.css_tokens.specs.declared.kind.Kind.TheVariants as kind
use Rattle.css_tokens.specs.declared.machine.State.{State}
use Rattle.css_tokens.specs.declared.machine.State.TheVariants as state
use Rattle.css_tokens.specs.Again.{StaysFirst, word_from, begins_none, more_name}
use Rattle.css_tokens.specs.Characters.{class_of}
use Rattle.css_tokens.specs.Kinds.{is_kind}
use Rattle.css_tokens.specs.Numbers.{after_number, is_digits, is_sign}
use Rattle.css_tokens.specs.PlainNames.{is_plain}
use Rattle.css_tokens.specs.Private.Machine.{next, ended}
use Rattle.css_tokens.specs.Tokens.{classes_of}
use Rattle.css_tokens.proofs.Again.{dies_at}
use Rattle.css_tokens.proofs.Kept.{state_takes_first}
use Rattle.css_tokens.proofs.NameSpelling.{run_more}
use Rattle.css_tokens.proofs.PlainNameLemmas.{plain-ascii}
use Rattle.css_tokens.proofs.Runs.{run}
use Rattle.css_tokens.proofs.Stays.{dies_by, none_taken, not_function, stays_by}

digit_class : (b : ℕ) → is_ascii_digit b ≡ true → class_of b ≡ class.Digit
digit_class b h = grind (arith, nat_tests)

-- digits keep the state of an integer
run-digits : (ds : List ℕ) → list_all is_ascii_digit ds ≡ true → run state.Integer (classes_of ds) ≡ state.Integer
run-digits [] h = refl
run-digits (d ∷ ds) h =
    let p = and_parts (is_ascii_digit d) (list_all is_ascii_digit ds) h in
    ap (λ c. run (next state.Integer c) (classes_of ds)) (digit_class d p.0) ∙ run-digits ds p.1

-- a sign and a digit begin an integer
begun : (sign : List ℕ) → is_sign sign ≡ true → next (run state.Start (classes_of sign)) class.Digit ≡ state.Integer
begun [] h = refl
begun (b ∷ []) h =
    elim (or_cases (nat_eq b 43) (nat_eq b 45) h) [
      | inl e ↦ (let is : class_of b ≡ class.Plus = grind (arith, nat_tests) in ap (λ c. next (next state.Start c) class.Digit) is)
      | inr e ↦ (let is : class_of b ≡ class.Minus = grind (arith, nat_tests) in ap (λ c. next (next state.Start c) class.Digit) is)
    ]
begun (b ∷ c ∷ text) h = absurd (cc h)

-- a sign and digits are an integer
integer : (sign ds : List ℕ) → is_sign sign ≡ true → is_digits ds ≡ true → run state.Start (classes_of (sign ++ ds)) ≡ state.Integer
integer sign [] s h = absurd (cc h)
integer sign (d ∷ ds) s h =
    let p = and_parts (is_ascii_digit d) (list_all is_ascii_digit (d ∷ ds)) h in
    let q = and_parts (is_ascii_digit d) (list_all is_ascii_digit ds) p.1 in
    run_more state.Start sign (d ∷ ds)
    ∙ ap (λ c. run (next (run state.Start (classes_of sign)) c) (classes_of ds)) (digit_class d p.0)
    ∙ ap (λ t. run t (classes_of ds)) (begun sign s)
    ∙ run-digits ds q.1

abbrev is_unit : State → Bool
is_unit state.Unit = true
is_unit s = false

is_unit-eq : (s : State) → is_unit s ≡ true → s ≡ state.Unit
is_unit-eq state.Unit h = refl
is_unit-eq s h = absurd (cc h)

-- does the character keep the state of a unit, where it is one of a name below U+0080?
abbrev keeps_unit : ℕ → Bool
keeps_unit b = not (is_plain b) || is_unit (next state.Unit (class_of b))

plain_unit : (b : ℕ) → is_plain b ≡ true → next state.Unit (class_of b) ≡ state.Unit
plain_unit b h =
    elim (or_cases (not (is_plain b)) (is_unit (next state.Unit (class_of b))) (agree_below_at keeps_unit (λ b. true) 128 b refl (plain-ascii b h))) [
      | inl e ↦ absurd (cc (e, h))
      | inr e ↦ is_unit-eq (next state.Unit (class_of b)) e
    ]

run-unit : (w : List ℕ) → list_all is_plain w ≡ true → run state.Unit (classes_of w) ≡ state.Unit
run-unit [] h = refl
run-unit (b ∷ w) h =
    let p = and_parts (is_plain b) (list_all is_plain w) h in
    ap (λ s. run s (classes_of w)) (plain_unit b p.0) ∙ run-unit w p.1

-- a word that comes to this state, of which nothing may be taken
stays_at : (s : State) (u : List ℕ) (k : Kind) (set : List Class) (rest : List ℕ) → run state.Start (classes_of u) ≡ s → is_kind k kind.Function ≡ false → dies_at s set → ended s [] ≡ Some k → ((after : List Class) → ended s after ≡ ended s []) → begins_none set rest ≡ true → state_takes_first s (classes_of rest) ≡ false → StaysFirst (word_from k u) rest
stays_at s u k set rest at f d e aside n g =
    let named = subst (λ t. ended t [] ≡ Some k) (sym at) e in
    stays_by u k set rest
    (subst (λ t. dies_at t set) (sym at) d)
    named
    (subst (λ t. (after : List Class) → ended t after ≡ ended t []) (sym at) aside)
    (not_function u k f named)
    n
    (subst (λ t. state_takes_first t (classes_of rest) ≡ false) (sym at) g)

-- a Number of a sign and digits, before a text that it does not go on with
pub number_stays : (sign ds rest : List ℕ) → is_sign sign ≡ true → is_digits ds ≡ true → begins_none after_number rest ≡ true → StaysFirst (word_from kind.Number (sign ++ ds)) rest
number_stays sign ds rest s h n =
    stays_at state.Integer (sign ++ ds) kind.Number after_number rest (integer sign ds s h) refl (dies_by state.Integer after_number refl) refl (λ after. refl) n (none_taken state.Integer (λ x. refl) (classes_of rest))

-- a Dimension of these and a unit that begins with `n`, before a text that begins with no name character or `\`
pub dimension_stays : (sign ds w rest : List ℕ) → is_sign sign ≡ true → is_digits ds ≡ true → list_all is_plain w ≡ true → begins_none more_name rest ≡ true → StaysFirst (word_from kind.Dimension (sign ++ (ds ++ 110 ∷ w))) rest
dimension_stays sign ds w rest s h plain n =
    stays_at state.Unit (sign ++ (ds ++ 110 ∷ w)) kind.Dimension more_name rest at refl (dies_by state.Unit more_name refl) refl (λ after. refl) n (none_taken state.Unit (λ x. refl) (classes_of rest))
  where
    at : run state.Start (classes_of (sign ++ (ds ++ 110 ∷ w))) ≡ state.Unit
    at =
        ap (λ t. run state.Start (classes_of t)) (sym (append_assoc sign ds (110 ∷ w)))
        ∙ run_more state.Start (sign ++ ds) (110 ∷ w)
        ∙ ap (λ t. run t (classes_of (110 ∷ w))) (integer sign ds s h)
        ∙ run-unit w plain
