-- The first token of a text, where its first character and a run of characters tell it.
use Rattle.std.proofs.Common.{◌≡◌, ℕ, suc, zero, ◌+◌, ◌≤◌, List, [], ◌∷◌, length, take, drop, get_or, Bool, true, false, not, ◌&&◌, ◌||◌, refl, sym, inl, inr, ap, ap₂, ◌∙◌, Some, arith, add-one}
use Rattle.std.proofs.lemmas.Bool.{cases_Bool}
use Rattle.std.proofs.lemmas.List.{drop-map}
use Rattle.std.specs.Option.{option_map}
use Rattle.css_tokens.specs.declared.class.Class.{Class}
use Rattle.css_tokens.specs.declared.class.Class.TheVariants as class
use Rattle.css_tokens.specs.declared.kind.Kind.{Kind}
use Rattle.css_tokens.specs.declared.kind.Kind.TheVariants as kind
use Rattle.css_tokens.specs.declared.machine.State.{State}
use Rattle.css_tokens.specs.declared.machine.State.TheVariants as state
use Rattle.css_tokens.specs.declared.front.Set.TheVariants as set
use Rattle.css_tokens.specs.Characters.{class_of, has, name, name_start, white}
use Rattle.css_tokens.specs.Contents.{is_url_name}
use Rattle.css_tokens.specs.Kinds.{is_kind}
use Rattle.css_tokens.specs.Private.Machine.{next, ended}
use Rattle.css_tokens.specs.Private.Runs.{in_set, is_headed, run_length}
use Rattle.css_tokens.specs.Tokens.{as_front, classes_of, first_front, quote_follows}
use Rattle.css_tokens.proofs.Fronts.{longest_in, longest_in-nil, longest_in-step, longest_in-dead}
use Rattle.css_tokens.proofs.MachineStates.{each_class, is_dead, is_dead-eq}
use Rattle.css_tokens.proofs.Runs.{one_more}
use Rattle.css_tokens.proofs.Spelling.{first_by}
use Rattle.css_tokens.proofs.UrlNames.{end_longest}

-- one character more before what is found
found_step : (s r : State) (x : Class) (t : List Class) (k : Kind) (n : ℕ) → next s x ≡ r → longest_in r t ≡ Some (k, n) → longest_in s (x ∷ t) ≡ Some (k, suc n)
found_step s r x t k n e f =
    longest_in-step s x t
    ∙ ap (λ o. one_more o (ended s (x ∷ t))) (ap (λ q. longest_in q t) e ∙ f)
    ∙ ap (λ (m : ℕ). Some (k, m)) (add-one n)

-- a run in which the state stays, before what is found
run_on : (s : State) (xs : List Class) → ((x : Class) → has xs x ≡ true → next s x ≡ s) → (t : List Class) (k : Kind) (m : ℕ) → longest_in s (drop (run_length xs t) t) ≡ Some (k, m) → longest_in s t ≡ Some (k, run_length xs t + m)
run_on s xs stays [] k m h = h ∙ ap (λ (n : ℕ). Some (k, n)) (omega arith)
run_on s xs stays (x ∷ t) k m h = elim (cases_Bool (has xs x)) [
  | inl e ↦
      let g : longest_in s (drop (run_length xs t) t) ≡ Some (k, m) = rw e at h in
      let f : longest_in s (x ∷ t) ≡ Some (k, suc (run_length xs t + m)) = found_step s s x t k (run_length xs t + m) (stays x e) (run_on s xs stays t k m g) in
      let i : suc (run_length xs t + m) ≡ suc (run_length xs t) + m = omega arith in
      rw e (f ∙ ap (λ (n : ℕ). Some (k, n)) i)
  | inr e ↦ let g : longest_in s (x ∷ t) ≡ Some (k, m) = rw e at h in rw e (g ∙ ap (λ (n : ℕ). Some (k, n)) (omega arith))
]

run_stops : (xs t : List Class) → is_headed xs (drop (run_length xs t) t) ≡ false
run_stops xs [] = refl
run_stops xs (x ∷ t) = elim (cases_Bool (has xs x)) [
  | inl e ↦ rw e (run_stops xs t)
  | inr e ↦ rw e e
]

-- does the state go on with nothing but these two sets?
abbrev dies_behind : State → List Class → List Class → Class → Bool
dies_behind s xs more c = has xs c || (has more c || is_dead (next s c))

left_out : (a b c : Bool) → a ≡ false → b ≡ false → (a || (b || c)) ≡ true → c ≡ true
left_out true b c h k l = cc
left_out false true c h k l = cc
left_out false false c h k l = l

-- nothing longer, where the text goes on with neither set
ends_here : (s : State) (xs more : List Class) (k : Kind) → ((c : Class) → dies_behind s xs more c ≡ true) → ((after : List Class) → ended s after ≡ Some k) → (t : List Class) → is_headed xs t ≡ false → is_headed more t ≡ false → longest_in s t ≡ Some (k, 0)
ends_here s xs more k dies here [] g h = longest_in-nil s ∙ ap (option_map (as_front 0)) (here [])
ends_here s xs more k dies here (x ∷ t) g h =
    let d = is_dead-eq (next s x) (left_out (has xs x) (has more x) (is_dead (next s x)) g h (dies x)) in
    longest_in-step s x t ∙ ap₂ one_more (ap (λ q. longest_in q t) d ∙ longest_in-dead t) (here (x ∷ t))

-- the step into a state, the run in which it stays, and what is found behind it
enter_on : (s r : State) (xs : List Class) → ((x : Class) → has xs x ≡ true → next r x ≡ r) → (x : Class) (t : List Class) (k : Kind) (m : ℕ) → next s x ≡ r → has xs x ≡ true → longest_in r (drop (run_length xs (x ∷ t)) (x ∷ t)) ≡ Some (k, m) → longest_in s (x ∷ t) ≡ Some (k, run_length xs (x ∷ t) + m)
enter_on s r xs stays x t k m e h f =
    let g : longest_in r (drop (run_length xs t) t) ≡ Some (k, m) = rw h at f in
    let i : suc (run_length xs t + m) ≡ suc (run_length xs t) + m = omega arith in
    rw h (found_step s r x t k (run_length xs t + m) e (run_on r xs stays t k m g) ∙ ap (λ (n : ℕ). Some (k, n)) i)

-- and where nothing is
enter_end : (s r : State) (xs more : List Class) (k : Kind) → ((x : Class) → has xs x ≡ true → next r x ≡ r) → ((c : Class) → dies_behind r xs more c ≡ true) → ((after : List Class) → ended r after ≡ Some k) → (x : Class) (t : List Class) → next s x ≡ r → has xs x ≡ true → is_headed more (drop (run_length xs (x ∷ t)) (x ∷ t)) ≡ false → longest_in s (x ∷ t) ≡ Some (k, run_length xs (x ∷ t))
enter_end s r xs more k stays dies here x t e h f =
    enter_on s r xs stays x t k 0 e h (ends_here r xs more k dies here (drop (run_length xs (x ∷ t)) (x ∷ t)) (run_stops xs (x ∷ t)) f)
    ∙ ap (λ (n : ℕ). Some (k, n)) (omega arith)

-- the states in which runs are read
in_white : (x : Class) → has white x ≡ true → next state.White x ≡ state.White
in_white class.Blank h = refl
in_white class.Feed h = refl
in_white class.Return h = refl
in_white class.FormFeed h = refl
in_white x h = cc

to_white : (x : Class) → has white x ≡ true → next state.Start x ≡ state.White
to_white class.Blank h = refl
to_white class.Feed h = refl
to_white class.Return h = refl
to_white class.FormFeed h = refl
to_white x h = cc

in_name : (x : Class) → has name x ≡ true → next state.Name x ≡ state.Name
in_name class.Exponent h = refl
in_name class.Hex h = refl
in_name class.Letter h = refl
in_name class.High h = refl
in_name class.Digit h = refl
in_name class.Minus h = refl
in_name x h = cc

to_name : (x : Class) → has name_start x ≡ true → (next state.Start x ≡ state.Name) × (has name x ≡ true)
to_name class.Exponent h = (refl, refl)
to_name class.Hex h = (refl, refl)
to_name class.Letter h = (refl, refl)
to_name class.High h = (refl, refl)
to_name x h = cc

in_hash : (x : Class) → has name x ≡ true → next state.HashName x ≡ state.HashName
in_hash class.Exponent h = refl
in_hash class.Hex h = refl
in_hash class.Letter h = refl
in_hash class.High h = refl
in_hash class.Digit h = refl
in_hash class.Minus h = refl
in_hash x h = cc

to_hash : (x : Class) → has name x ≡ true → next state.Hash x ≡ state.HashName
to_hash class.Exponent h = refl
to_hash class.Hex h = refl
to_hash class.Letter h = refl
to_hash class.High h = refl
to_hash class.Digit h = refl
to_hash class.Minus h = refl
to_hash x h = cc

in_unit : (x : Class) → has name x ≡ true → next state.Unit x ≡ state.Unit
in_unit class.Exponent h = refl
in_unit class.Hex h = refl
in_unit class.Letter h = refl
in_unit class.High h = refl
in_unit class.Digit h = refl
in_unit class.Minus h = refl
in_unit x h = cc

to_unit : (x : Class) → has (in_set set.UnitStart) x ≡ true → (next state.Integer x ≡ state.Unit) × (has name x ≡ true)
to_unit class.Hex h = (refl, refl)
to_unit class.Letter h = (refl, refl)
to_unit x h = cc

in_digits : (x : Class) → has (in_set set.Digits) x ≡ true → (next state.Integer x ≡ state.Integer) × (next state.Start x ≡ state.Integer)
in_digits class.Digit h = (refl, refl)
in_digits x h = cc

-- the fronts of the classes
white_found : (t : List Class) → is_headed white t ≡ true → longest_in state.Start t ≡ Some (kind.White, run_length white t)
white_found [] h = cc
white_found (x ∷ t) h = enter_end state.Start state.White white [] kind.White in_white (each_class (dies_behind state.White white []) refl) (λ after. refl) x t (to_white x h) h (none_headed (drop (run_length white (x ∷ t)) (x ∷ t)))
  where
    none_headed : (t : List Class) → is_headed [] t ≡ false
    none_headed [] = refl
    none_headed (x ∷ t) = refl

name_found : (t : List Class) → is_headed name_start t ≡ true → is_headed (in_set set.AfterIdent) (drop (run_length name t) t) ≡ false → longest_in state.Start t ≡ Some (kind.Ident, run_length name t)
name_found [] h g = cc
name_found (x ∷ t) h g = let n = to_name x h in enter_end state.Start state.Name name (in_set set.AfterIdent) kind.Ident in_name (each_class (dies_behind state.Name name (in_set set.AfterIdent)) refl) (λ after. refl) x t n.0 n.1 g

abbrev pub kind_of_hash : ℕ → Kind
kind_of_hash zero = kind.Delim
kind_of_hash (suc n) = kind.Hash

hash_more : (t : List Class) → is_headed (in_set set.Escape) (drop (run_length name t) t) ≡ false → longest_in state.Hash t ≡ Some (kind_of_hash (run_length name t), run_length name t)
hash_more [] g = longest_in-nil state.Hash
hash_more (x ∷ t) g = elim (cases_Bool (has name x)) [
  | inl e ↦
      let f : longest_in state.Hash (x ∷ t) ≡ Some (kind.Hash, run_length name (x ∷ t)) = enter_end state.Hash state.HashName name (in_set set.Escape) kind.Hash in_hash (each_class (dies_behind state.HashName name (in_set set.Escape)) refl) (λ after. refl) x t (to_hash x e) e g in
      f ∙ ap (λ j. Some (j, run_length name (x ∷ t))) (rw e refl)
  | inr e ↦
      let i : is_headed (in_set set.Escape) (x ∷ t) ≡ false = rw e at g in
      let n : run_length name (x ∷ t) ≡ 0 = rw e refl in
      ends_here state.Hash name (in_set set.Escape) kind.Delim (each_class (dies_behind state.Hash name (in_set set.Escape)) refl) (λ after. refl) (x ∷ t) e i
      ∙ ap (λ (m : ℕ). Some (kind_of_hash m, m)) (sym n)
]

number_found : (t : List Class) → is_headed (in_set set.Digits) t ≡ true → is_headed (in_set set.AfterInteger) (drop (run_length (in_set set.Digits) t) t) ≡ false → longest_in state.Start t ≡ Some (kind.Number, run_length (in_set set.Digits) t)
number_found [] h g = cc
number_found (x ∷ t) h g = enter_end state.Start state.Integer (in_set set.Digits) (in_set set.AfterInteger) kind.Number (λ y i. (in_digits y i).0) (each_class (dies_behind state.Integer (in_set set.Digits) (in_set set.AfterInteger)) refl) (λ after. refl) x t (in_digits x h).1 h g

number_on : (t : List Class) (k : Kind) (m : ℕ) → is_headed (in_set set.Digits) t ≡ true → longest_in state.Integer (drop (run_length (in_set set.Digits) t) t) ≡ Some (k, m) → longest_in state.Start t ≡ Some (k, run_length (in_set set.Digits) t + m)
number_on [] k m h f = cc
number_on (x ∷ t) k m h f = enter_on state.Start state.Integer (in_set set.Digits) (λ y i. (in_digits y i).0) x t k m (in_digits x h).1 h f

percent_found : (t : List Class) → is_headed (in_set set.Percent) t ≡ true → longest_in state.Integer t ≡ Some (kind.Percentage, 1)
percent_found [] h = cc
percent_found (class.Percent ∷ t) h = found_step state.Integer (state.End kind.Percentage) class.Percent t kind.Percentage 0 refl (end_longest kind.Percentage t)
percent_found (x ∷ t) h = cc

unit_found : (t : List Class) → is_headed (in_set set.UnitStart) t ≡ true → is_headed (in_set set.Escape) (drop (run_length name t) t) ≡ false → longest_in state.Integer t ≡ Some (kind.Dimension, run_length name t)
unit_found [] h g = cc
unit_found (x ∷ t) h g = let n = to_unit x h in enter_end state.Integer state.Unit name (in_set set.Escape) kind.Dimension in_unit (each_class (dies_behind state.Unit name (in_set set.Escape)) refl) (λ after. refl) x t n.0 n.1 g

dot_more : (t : List Class) → is_headed (in_set set.Digits) t ≡ false → longest_in state.Dot t ≡ Some (kind.Delim, 0)
dot_more t g = ends_here state.Dot (in_set set.Digits) (in_set set.Digits) kind.Delim (each_class (dies_behind state.Dot (in_set set.Digits) (in_set set.Digits)) refl) (λ after. refl) t g g

-- a front of the table that is no Function is the first token
pub first_of : (t : List ℕ) (k : Kind) (n : ℕ) → is_kind kind.Function k ≡ false → longest_in state.Start (classes_of t) ≡ Some (k, n) → Some (k, n) ≡ first_front t
first_of t k n f h =
    first_by t (take n t) (drop n t) (k, n) false (sym h) refl refl
    (ap (λ b. (b && is_url_name (take n t)) && not (quote_follows (classes_of (drop n t)))) (sym f))

pub white_first : (t : List ℕ) (n : ℕ) → is_headed white (classes_of t) ≡ true → n ≡ run_length white (classes_of t) → Some (kind.White, n) ≡ first_front t
white_first t n h e = first_of t kind.White n refl (white_found (classes_of t) h ∙ ap (λ (m : ℕ). Some (kind.White, m)) (sym e))

-- the text behind a run
behind_run : (xs more : List Class) (t rest : List ℕ) (n : ℕ) (b : Bool) → n ≡ run_length xs (classes_of t) → rest ≡ drop n t → is_headed more (classes_of rest) ≡ b → is_headed more (drop (run_length xs (classes_of t)) (classes_of t)) ≡ b
behind_run xs more t rest n b e f g =
    ap (λ (m : ℕ). is_headed more (drop m (classes_of t))) (sym e)
    ∙ ap (is_headed more) (sym (ap classes_of f ∙ sym (drop-map class_of n t)))
    ∙ g

pub name_first : (t rest : List ℕ) (n : ℕ) → is_headed name_start (classes_of t) ≡ true → n ≡ run_length name (classes_of t) → rest ≡ drop n t → is_headed (in_set set.AfterIdent) (classes_of rest) ≡ false → Some (kind.Ident, n) ≡ first_front t
name_first t rest n h e f g = first_of t kind.Ident n refl (name_found (classes_of t) h (behind_run name (in_set set.AfterIdent) t rest n false e f g) ∙ ap (λ (m : ℕ). Some (kind.Ident, m)) (sym e))

pub hash_named : (n : ℕ) → (n ≡ 0 → ⊥) → kind_of_hash n ≡ kind.Hash
hash_named zero f = absurd (f refl)
hash_named (suc n) f = refl

hash_kinds : (n : ℕ) → is_kind kind.Function (kind_of_hash n) ≡ false
hash_kinds zero = refl
hash_kinds (suc n) = refl

hash_step : (c : List Class) (k : Kind) (n : ℕ) → is_headed (in_set set.Hash) c ≡ true → longest_in state.Hash (drop 1 c) ≡ Some (k, n) → longest_in state.Start c ≡ Some (k, suc n)
hash_step [] k n h f = cc
hash_step (class.Hash ∷ c) k n h f = found_step state.Start state.Hash class.Hash c k n refl f
hash_step (x ∷ c) k n h f = cc

pub hash_first : (t behind rest : List ℕ) (n : ℕ) → is_headed (in_set set.Hash) (classes_of t) ≡ true → behind ≡ drop 1 t → n ≡ run_length name (classes_of behind) → rest ≡ drop n behind → is_headed (in_set set.Escape) (classes_of rest) ≡ false → Some (kind_of_hash n, n + 1) ≡ first_front t
hash_first t behind rest n h b e f g =
    first_of t (kind_of_hash n) (n + 1) (hash_kinds n)
    (hash_step (classes_of t) (kind_of_hash n) n h
    (ap (longest_in state.Hash) (sym (ap classes_of b ∙ sym (drop-map class_of 1 t)))
    ∙ hash_more (classes_of behind) (behind_run name (in_set set.Escape) behind rest n false e f g)
    ∙ ap (λ (m : ℕ). Some (kind_of_hash m, m)) (sym e))
    ∙ ap (λ (m : ℕ). Some (kind_of_hash n, m)) (sym (add-one n)))

dot_step : (c : List Class) (k : Kind) (n : ℕ) → is_headed (in_set set.Dot) c ≡ true → longest_in state.Dot (drop 1 c) ≡ Some (k, n) → longest_in state.Start c ≡ Some (k, suc n)
dot_step [] k n h f = cc
dot_step (class.Dot ∷ c) k n h f = found_step state.Start state.Dot class.Dot c k n refl f
dot_step (x ∷ c) k n h f = cc

pub dot_first : (t rest : List ℕ) → is_headed (in_set set.Dot) (classes_of t) ≡ true → rest ≡ drop 1 t → is_headed (in_set set.Digits) (classes_of rest) ≡ false → Some (kind.Delim, 1) ≡ first_front t
dot_first t rest h f g =
    first_of t kind.Delim 1 refl
    (dot_step (classes_of t) kind.Delim 0 h
    (ap (longest_in state.Dot) (sym (ap classes_of f ∙ sym (drop-map class_of 1 t))) ∙ dot_more (classes_of rest) g))

pub number_first : (t rest : List ℕ) (n : ℕ) → is_headed (in_set set.Digits) (classes_of t) ≡ true → n ≡ run_length (in_set set.Digits) (classes_of t) → rest ≡ drop n t → is_headed (in_set set.AfterInteger) (classes_of rest) ≡ false → Some (kind.Number, n) ≡ first_front t
number_first t rest n h e f g = first_of t kind.Number n refl (number_found (classes_of t) h (behind_run (in_set set.Digits) (in_set set.AfterInteger) t rest n false e f g) ∙ ap (λ (m : ℕ). Some (kind.Number, m)) (sym e))

-- a number with what is found behind its digits
number_with : (t rest : List ℕ) (n m : ℕ) (k : Kind) → is_kind kind.Function k ≡ false → is_headed (in_set set.Digits) (classes_of t) ≡ true → n ≡ run_length (in_set set.Digits) (classes_of t) → rest ≡ drop n t → longest_in state.Integer (classes_of rest) ≡ Some (k, m) → Some (k, n + m) ≡ first_front t
number_with t rest n m k i h e f g =
    first_of t k (n + m) i
    (number_on (classes_of t) k m h
    (ap (λ (j : ℕ). longest_in state.Integer (drop j (classes_of t))) (sym e)
    ∙ ap (longest_in state.Integer) (sym (ap classes_of f ∙ sym (drop-map class_of n t)))
    ∙ g)
    ∙ ap (λ (j : ℕ). Some (k, j + m)) (sym e))

pub percent_first : (t rest : List ℕ) (n : ℕ) → is_headed (in_set set.Digits) (classes_of t) ≡ true → n ≡ run_length (in_set set.Digits) (classes_of t) → rest ≡ drop n t → is_headed (in_set set.Percent) (classes_of rest) ≡ true → Some (kind.Percentage, n + 1) ≡ first_front t
percent_first t rest n h e f g = number_with t rest n 1 kind.Percentage refl h e f (percent_found (classes_of rest) g)

pub unit_first : (t rest after : List ℕ) (n m : ℕ) → is_headed (in_set set.Digits) (classes_of t) ≡ true → n ≡ run_length (in_set set.Digits) (classes_of t) → rest ≡ drop n t → is_headed (in_set set.UnitStart) (classes_of rest) ≡ true → m ≡ run_length name (classes_of rest) → after ≡ drop m rest → is_headed (in_set set.Escape) (classes_of after) ≡ false → Some (kind.Dimension, n + m) ≡ first_front t
unit_first t rest after n m h e f u i j g =
    number_with t rest n m kind.Dimension refl h e f
    (unit_found (classes_of rest) u (behind_run name (in_set set.Escape) rest after m false i j g) ∙ ap (λ (l : ℕ). Some (kind.Dimension, l)) (sym i))

-- a first character of a set
pub headed_by : (xs : List Class) (t : List ℕ) (x : Class) → 1 ≤ length t → x ≡ class_of (get_or t 0 0) → has xs x ≡ true → is_headed xs (classes_of t) ≡ true
headed_by xs [] x l h e = absurd (omega arith)
headed_by xs (b ∷ t) x l h e = ap (has xs) (sym h) ∙ e

pub mark_first : (t : List ℕ) (k : Kind) (x : Class) → 1 ≤ length t → x ≡ class_of (get_or t 0 0) → next state.Start x ≡ state.End k → is_kind kind.Function k ≡ false → Some (k, 1) ≡ first_front t
mark_first [] k x l h e f = absurd (omega arith)
mark_first (b ∷ t) k x l h e f = first_of (b ∷ t) k 1 f (found_step state.Start (state.End k) (class_of b) (classes_of t) k 0 (ap (next state.Start) (sym h) ∙ e) (end_longest k (classes_of t)))
