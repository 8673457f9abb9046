-- The text of a name spells an Ident, with `#` before it a Hash, and what may stand next to it.
use Rattle.std.proofs.Common.{◌≡◌, ℕ, ◌<◌, ◌≤◌, List, [], ◌∷◌, ◌++◌, Bool, true, false, not, ◌&&◌, ◌||◌, ◌⊎◌, ltb, eqb, cond, refl, sym, ap, ap₂, ◌∙◌, subst, inl, inr, Some, None, codes, arith, nat_eq, ltb-true, ltb-false}
use Rattle.std.specs.Fmt.{digits}
use Rattle.std.specs.List.{list_all, flat_map}
use Rattle.std.specs.Str.{IsUtf8, chars, is_utf8}
use Rattle.std.proofs.lemmas.Bool.{cases_Bool, and_parts, not-true, eqb-true, false≢true, agree_below_at}
use Rattle.std.proofs.lemmas.Bool.Decides.{nat_tests}
use Rattle.std.proofs.lemmas.List.{map-append}
use Rattle.std.proofs.lemmas.Str.{IsUtf8-from_is_utf8, encodes-chars}
use lib.Pointwise.{bytes_decides}
use lib.Utf8.{encode, encodes}
use Rattle.css_tokens.specs.declared.class.Class.{Class}
use Rattle.css_tokens.specs.declared.class.Class.TheVariants as class
use Rattle.css_tokens.specs.declared.kind.Kind.TheVariants as kind
use Rattle.css_tokens.specs.declared.machine.State.{State}
use Rattle.css_tokens.specs.declared.machine.State.TheVariants as state
use Rattle.css_tokens.specs.Again.{StaysFirst, word_from, begins_none, after_ident, after_name, more_name, digit, digit_or_dot}
use Rattle.css_tokens.specs.Characters.{class_of, white}
use Rattle.css_tokens.specs.Contents.{content, never}
use Rattle.css_tokens.specs.Kinds.{begins, kind_of, table}
use Rattle.css_tokens.specs.NameText.{char_text, first_text, code_escape, name_text, chars_text, after_dash}
use Rattle.css_tokens.specs.Names.{is_name}
use Rattle.css_tokens.specs.Private.Machine.{next, ended}
use Rattle.css_tokens.specs.Tokens.{classes_of, names, spells}
use Rattle.css_tokens.specs.Trees.{is_text}
use Rattle.css_tokens.proofs.Again.{comes_from, begun, dies_at}
use Rattle.css_tokens.proofs.ContentLemmas.{AreHigh, always, by_table, high_encode, high_first, high_itself, is_charred, is_high, name_content}
use Rattle.css_tokens.proofs.Firsts as firsts
use Rattle.css_tokens.proofs.Fronts.{longest_in, longest_in-nil, longest_in-step, longest_in-dead}
use Rattle.css_tokens.proofs.Kept.{state_takes}
use Rattle.css_tokens.proofs.NameTextLemmas.{name_text-chars}
use Rattle.css_tokens.proofs.Runs.{run, kind_of-run, one_more}
use Rattle.css_tokens.proofs.Stays.{stays_by, dies_by, none_taken, not_function}
use Rattle.css_tokens.proofs.Takes.{run-append}

pub run_more : (s : State) (a b : List ℕ) → run s (classes_of (a ++ b)) ≡ run (run s (classes_of a)) (classes_of b)
run_more s a b = ap (run s) (map-append class_of a b) ∙ run-append s (classes_of a) (classes_of b)

-- The characters from U+0080 on.

pub high_class : (b : ℕ) → is_high b ≡ true → class_of b ≡ class.High
high_class b h = grind (arith, nat_tests)

high_stays : (s : State) (bs : List ℕ) → next s class.High ≡ s → list_all is_high bs ≡ true → run s (classes_of bs) ≡ s
high_stays s [] e h = refl
high_stays s (b ∷ bs) e h =
    let p = and_parts (is_high b) (list_all is_high bs) h in
    ap (λ c. run (next s c) (classes_of bs)) (high_class b p.0) ∙ ap (λ r. run r (classes_of bs)) e ∙ high_stays s bs e p.1

high_into : (s t : State) (bs : List ℕ) → next s class.High ≡ t → next t class.High ≡ t → AreHigh bs → run s (classes_of bs) ≡ t
high_into s t bs e f h =
    let p = and_parts (is_high h.0) (list_all is_high h.1) (subst (λ x. list_all is_high x ≡ true) h.2 h.3) in
    ap (λ x. run s (classes_of x)) h.2
    ∙ ap (λ c. run (next s c) (classes_of h.1)) (high_class h.0 p.0)
    ∙ ap (λ r. run r (classes_of h.1)) e
    ∙ high_stays t h.1 f p.1

-- A character, whose text takes the machine from one state into another.

record Into (s t : State) (text : ℕ → List ℕ) : Type 0 where
  high : next s class.High ≡ t
  more : next t class.High ≡ t
  mark : run s (classes_of (code_escape 0xFEFF)) ≡ t
  same : (c : ℕ) → 128 ≤ c → text c ≡ char_text c
  table : (c : ℕ) → c < 128 → nat_eq c 0 ≡ false → run s (classes_of (text c)) ≡ t

high_char : (c : ℕ) (s t : State) (text : ℕ → List ℕ) → Into s t text → 128 ≤ c → run s (classes_of (char_text c)) ≡ t
high_char c s t text i h = elim (cases_Bool (nat_eq c 0xFEFF)) [
  | inl e ↦ subst (λ (x : ℕ). run s (classes_of (char_text x)) ≡ t) (sym (eqb-true c 0xFEFF e)) i.mark
  | inr e ↦ ap (λ x. run s (classes_of x)) (high_itself c h (λ g. false≢true (sym e ∙ ap (λ (x : ℕ). nat_eq x 0xFEFF) g))) ∙ high_into s t (encode c) i.high i.more (high_encode c h)
]

char_into : (s t : State) (text : ℕ → List ℕ) → Into s t text → (c : ℕ) → nat_eq c 0 ≡ false → run s (classes_of (text c)) ≡ t
char_into s t text i c n = elim (cases_Bool (ltb c 128)) [
  | inl e ↦ i.table c (ltb-true c 128 e) n
  | inr e ↦ let l = ltb-false c 128 e in ap (λ x. run s (classes_of x)) (i.same c l) ∙ high_char c s t text i l
]

chars_stay : (t : State) → Into t t char_text → (cs : List ℕ) → is_charred cs ≡ true → run t (classes_of (flat_map char_text cs)) ≡ t
chars_stay t i [] h = refl
chars_stay t i (c ∷ cs) h =
    let p = and_parts (not (nat_eq c 0)) (is_charred cs) h in
    run_more t (char_text c) (flat_map char_text cs)
    ∙ ap (λ r. run r (classes_of (flat_map char_text cs))) (char_into t t char_text i c (not-true (nat_eq c 0) p.0))
    ∙ chars_stay t i cs p.1

-- The tables of the ASCII characters.

abbrev is_state_name : State → Bool
is_state_name state.Name = true
is_state_name s = false

state_name-eq : (s : State) → is_state_name s ≡ true → s ≡ state.Name
state_name-eq state.Name h = refl
state_name-eq s h = cc

abbrev is_state_hash : State → Bool
is_state_hash state.HashName = true
is_state_hash s = false

state_hash-eq : (s : State) → is_state_hash s ≡ true → s ≡ state.HashName
state_hash-eq state.HashName h = refl
state_hash-eq s h = cc

abbrev to_name : State → (ℕ → List ℕ) → ℕ → Bool
to_name s text c = nat_eq c 0 || is_state_name (run s (classes_of (text c)))

abbrev to_hash : State → (ℕ → List ℕ) → ℕ → Bool
to_hash s text c = nat_eq c 0 || is_state_hash (run s (classes_of (text c)))

-- the text of a first character, `-` aside
abbrev first_letter : ℕ → List ℕ
first_letter c = cond (eqb c 45) (codes "a") (first_text c)

high_letter : (c : ℕ) → 128 ≤ c → first_letter c ≡ char_text c
high_letter c h = let e : eqb c 45 ≡ false = grind (arith, nat_tests) in ap (λ b. cond b (codes "a") (first_text c)) e ∙ high_first c h

name_table : (c : ℕ) → c < 128 → to_name state.Name char_text c ≡ true
unfolding digits encode
name_table c l = agree_below_at (to_name state.Name char_text) always 128 c refl l

dashes_table : (c : ℕ) → c < 128 → to_name state.MinusMinus char_text c ≡ true
unfolding digits encode
dashes_table c l = agree_below_at (to_name state.MinusMinus char_text) always 128 c refl l

start_table : (c : ℕ) → c < 128 → to_name state.Start first_letter c ≡ true
unfolding digits encode
start_table c l = agree_below_at (to_name state.Start first_letter) always 128 c refl l

minus_table : (c : ℕ) → c < 128 → to_name state.Minus first_letter c ≡ true
unfolding digits encode
minus_table c l = agree_below_at (to_name state.Minus first_letter) always 128 c refl l

hash_table : (c : ℕ) → c < 128 → to_hash state.HashName char_text c ≡ true
unfolding digits encode
hash_table c l = agree_below_at (to_hash state.HashName char_text) always 128 c refl l

first_table : (c : ℕ) → c < 128 → to_hash state.HashName first_text c ≡ true
unfolding digits encode
first_table c l = agree_below_at (to_hash state.HashName first_text) always 128 c refl l

begin_table : (c : ℕ) → c < 128 → to_hash state.Hash first_text c ≡ true
unfolding digits encode
begin_table c l = agree_below_at (to_hash state.Hash first_text) always 128 c refl l

named_by : (s : State) (text : ℕ → List ℕ) (c : ℕ) → nat_eq c 0 ≡ false → to_name s text c ≡ true → run s (classes_of (text c)) ≡ state.Name
named_by s text c n h = state_name-eq (run s (classes_of (text c))) (by_table (nat_eq c 0) _ n h)

hashed_by : (s : State) (text : ℕ → List ℕ) (c : ℕ) → nat_eq c 0 ≡ false → to_hash s text c ≡ true → run s (classes_of (text c)) ≡ state.HashName
hashed_by s text c n h = state_hash-eq (run s (classes_of (text c))) (by_table (nat_eq c 0) _ n h)

in_name : Into state.Name state.Name char_text
unfolding digits
in_name = record { high = refl; more = refl; mark = refl; same = λ c l. refl; table = λ c l n. named_by state.Name char_text c n (name_table c l) }

in_dashes : Into state.MinusMinus state.Name char_text
unfolding digits
in_dashes = record { high = refl; more = refl; mark = refl; same = λ c l. refl; table = λ c l n. named_by state.MinusMinus char_text c n (dashes_table c l) }

in_start : Into state.Start state.Name first_letter
unfolding digits
in_start = record { high = refl; more = refl; mark = refl; same = high_letter; table = λ c l n. named_by state.Start first_letter c n (start_table c l) }

in_minus : Into state.Minus state.Name first_letter
unfolding digits
in_minus = record { high = refl; more = refl; mark = refl; same = high_letter; table = λ c l n. named_by state.Minus first_letter c n (minus_table c l) }

in_hash : Into state.HashName state.HashName char_text
unfolding digits
in_hash = record { high = refl; more = refl; mark = refl; same = λ c l. refl; table = λ c l n. hashed_by state.HashName char_text c n (hash_table c l) }

first_hash : Into state.HashName state.HashName first_text
unfolding digits
first_hash = record { high = refl; more = refl; mark = refl; same = high_first; table = λ c l n. hashed_by state.HashName first_text c n (first_table c l) }

begin_hash : Into state.Hash state.HashName first_text
unfolding digits
begin_hash = record { high = refl; more = refl; mark = refl; same = high_first; table = λ c l n. hashed_by state.Hash first_text c n (begin_table c l) }

-- What a name is.

some_name : (n : List ℕ) → is_name n ≡ true → (n ≡ [] → ⊥) × (IsUtf8 n) × (is_charred (chars n) ≡ true)
some_name [] h = cc
some_name (b ∷ bs) h =
    let p = and_parts (is_utf8 (b ∷ bs)) (is_charred (chars (b ∷ bs))) h in
    (λ e. cc, IsUtf8-from_is_utf8 (b ∷ bs) p.0, p.1)

letter_text : (c : ℕ) → eqb c 45 ≡ false → first_letter c ≡ first_text c
letter_text c e = ap (λ b. cond b (codes "a") (first_text c)) e

-- Into the name state, or behind the two dashes of the name `--`.

abbrev IsRead : State → List ℕ → Type 0
IsRead s t = (s ≡ state.Name) ⊎ ((s ≡ state.MinusMinus) × (t ≡ codes "--"))

behind_dashes : (cs : List ℕ) → is_charred cs ≡ true → IsRead (run state.MinusMinus (classes_of (flat_map char_text cs))) (45 ∷ 45 ∷ flat_map char_text cs)
behind_dashes [] h = inr (refl, refl)
behind_dashes (c ∷ cs) h =
    let p = and_parts (not (nat_eq c 0)) (is_charred cs) h in
    inl (run_more state.MinusMinus (char_text c) (flat_map char_text cs)
    ∙ ap (λ r. run r (classes_of (flat_map char_text cs))) (char_into state.MinusMinus state.Name char_text in_dashes c (not-true (nat_eq c 0) p.0))
    ∙ chars_stay state.Name in_name cs p.1)

from_letter : (s : State) (c : ℕ) (cs : List ℕ) → Into s state.Name first_letter → eqb c 45 ≡ false → is_charred (c ∷ cs) ≡ true → run s (classes_of (first_text c ++ flat_map char_text cs)) ≡ state.Name
from_letter s c cs i e h =
    let p = and_parts (not (nat_eq c 0)) (is_charred cs) h in
    run_more s (first_text c) (flat_map char_text cs)
    ∙ ap (λ r. run r (classes_of (flat_map char_text cs))) (ap (λ x. run s (classes_of x)) (sym (letter_text c e)) ∙ char_into s state.Name first_letter i c (not-true (nat_eq c 0) p.0))
    ∙ chars_stay state.Name in_name cs p.1

minus_minus : (cs : List ℕ) → is_charred cs ≡ true → IsRead (run state.Minus (classes_of (first_text 45 ++ flat_map char_text cs))) (45 ∷ (first_text 45 ++ flat_map char_text cs))
unfolding encode
minus_minus cs h = behind_dashes cs h

behind_minus : (cs : List ℕ) → (cs ≡ [] → ⊥) → is_charred cs ≡ true → IsRead (run state.Minus (classes_of (after_dash cs))) (45 ∷ after_dash cs)
behind_minus [] f h = absurd (f refl)
behind_minus (c ∷ cs) f h =
    elim (cases_Bool (eqb c 45)) [
      | inl e ↦ subst (λ (x : ℕ). IsRead (run state.Minus (classes_of (after_dash (x ∷ cs)))) (45 ∷ after_dash (x ∷ cs))) (sym (eqb-true c 45 e)) (minus_minus cs (and_parts (not (nat_eq c 0)) (is_charred cs) h).1)
      | inr e ↦ inl (from_letter state.Minus c cs in_minus e h)
    ]

from_dash : (cs : List ℕ) → (cs ≡ [] → ⊥) → is_charred cs ≡ true → IsRead (run state.Start (classes_of (first_text 45 ++ after_dash cs))) (first_text 45 ++ after_dash cs)
unfolding encode
from_dash cs f h = behind_minus cs f h

text_read : (cs : List ℕ) → (cs ≡ [] → ⊥) → (cs ≡ 45 ∷ [] → ⊥) → is_charred cs ≡ true → IsRead (run state.Start (classes_of (chars_text cs))) (chars_text cs)
text_read [] f g h = absurd (f refl)
text_read (c ∷ cs) f g h =
    elim (cases_Bool (eqb c 45)) [
      | inl e ↦
          let i = eqb-true c 45 e in
          subst (λ (x : ℕ). IsRead (run state.Start (classes_of (chars_text (x ∷ cs)))) (chars_text (x ∷ cs))) (sym i)
          (from_dash cs (λ z. g (ap₂ (λ (x : ℕ) (xs : List ℕ). x ∷ xs) i z)) (and_parts (not (nat_eq c 0)) (is_charred cs) h).1)
      | inr e ↦ inl (ap (λ b. run state.Start (classes_of (first_text c ++ (cond b (after_dash cs) (flat_map char_text cs))))) e ∙ from_letter state.Start c cs in_start e h)
    ]

no_chars : (n : List ℕ) → IsUtf8 n → chars n ≡ [] → n ≡ []
no_chars n u e = sym (encodes-chars n u) ∙ ap encodes e

one_dash : (n : List ℕ) → IsUtf8 n → chars n ≡ 45 ∷ [] → n ≡ codes "-"
unfolding encode
one_dash n u e = sym (encodes-chars n u) ∙ ap encodes e

-- the machine reads the text of a name to its end
name_read : (n : List ℕ) → is_name n ≡ true → IsRead (run state.Start (classes_of (name_text n))) (name_text n)
name_read n h =
    let s = some_name n h in
    elim (cases_Bool (is_text n (codes "-"))) [
      | inl e ↦ let i = (bytes_decides n (codes "-")).0 e in subst (λ (m : List ℕ). IsRead (run state.Start (classes_of (name_text m))) (name_text m)) (sym i) (inl refl)
      | inr e ↦
          subst (λ t. IsRead (run state.Start (classes_of t)) t) (sym (name_text-chars n e))
          (text_read (chars n) (λ z. s.0 (no_chars n s.1 z)) (λ z. false≢true (sym e ∙ ap (λ m. is_text m (codes "-")) (one_dash n s.1 z))) s.2)
    ]

read_ended : (s : State) (t : List ℕ) → IsRead s t → ended s [] ≡ Some kind.Ident
read_ended s t (inl e) = ap (λ r. ended r []) e
read_ended s t (inr e) = ap (λ r. ended r []) e.0

pub or_true : (a b : Bool) → a ≡ true → (a || b) ≡ true
or_true a b h = ap (λ x. x || b) h

-- the text of a name spells an Ident
pub name_spells : (n : List ℕ) → is_name n ≡ true → spells kind.Ident (name_text n) ≡ true
unfolding spells
name_spells n h = or_true (names kind.Ident (kind_of table (classes_of (name_text n)) [])) _ (ap (names kind.Ident) (kind_of-run state.Start (classes_of (name_text n)) [] ∙ read_ended _ (name_text n) (name_read n h)))

-- Behind a `#`.

dash_hash : (s : State) (cs : List ℕ) → Into s state.HashName first_text → (b : Bool) → (c : ℕ) → is_charred (c ∷ cs) ≡ true → run s (classes_of (first_text c ++ (cond b (after_dash cs) (flat_map char_text cs)))) ≡ state.HashName
dash_hash s cs i b c h =
    let p = and_parts (not (nat_eq c 0)) (is_charred cs) h in
    run_more s (first_text c) (cond b (after_dash cs) (flat_map char_text cs))
    ∙ ap (λ r. run r (classes_of (cond b (after_dash cs) (flat_map char_text cs)))) (char_into s state.HashName first_text i c (not-true (nat_eq c 0) p.0))
    ∙ rest_hash b cs p.1
  where
    after_hash : (cs : List ℕ) → is_charred cs ≡ true → run state.HashName (classes_of (after_dash cs)) ≡ state.HashName
    after_hash [] h = refl
    after_hash (c ∷ cs) h =
        let p = and_parts (not (nat_eq c 0)) (is_charred cs) h in
        run_more state.HashName (first_text c) (flat_map char_text cs)
        ∙ ap (λ r. run r (classes_of (flat_map char_text cs))) (char_into state.HashName state.HashName first_text first_hash c (not-true (nat_eq c 0) p.0))
        ∙ chars_stay state.HashName in_hash cs p.1

    rest_hash : (b : Bool) (cs : List ℕ) → is_charred cs ≡ true → run state.HashName (classes_of (cond b (after_dash cs) (flat_map char_text cs))) ≡ state.HashName
    rest_hash true cs h = after_hash cs h
    rest_hash false cs h = chars_stay state.HashName in_hash cs h

text_hash : (cs : List ℕ) → (cs ≡ [] → ⊥) → is_charred cs ≡ true → run state.Hash (classes_of (chars_text cs)) ≡ state.HashName
text_hash [] f h = absurd (f refl)
text_hash (c ∷ cs) f h = dash_hash state.Hash cs begin_hash (eqb c 45) c h

hash_read : (n : List ℕ) → is_name n ≡ true → run state.Hash (classes_of (name_text n)) ≡ state.HashName
hash_read n h =
    let s = some_name n h in
    elim (cases_Bool (is_text n (codes "-"))) [
      | inl e ↦ let i = (bytes_decides n (codes "-")).0 e in subst (λ (m : List ℕ). run state.Hash (classes_of (name_text m)) ≡ state.HashName) (sym i) refl
      | inr e ↦ ap (λ t. run state.Hash (classes_of t)) (name_text-chars n e) ∙ text_hash (chars n) (λ z. s.0 (no_chars n s.1 z)) s.2
    ]

-- `#` and the text of a name spell a Hash
pub name_hash : (n : List ℕ) → is_name n ≡ true → spells kind.Hash (codes "#" ++ name_text n) ≡ true
unfolding spells
name_hash n h = or_true (names kind.Hash (kind_of table (classes_of (codes "#" ++ name_text n)) [])) _ (ap (names kind.Hash) (kind_of-run state.Start (classes_of (codes "#" ++ name_text n)) [] ∙ ap (λ s. ended s []) (hash_read n h)))

-- the text of a name means the name
pub name_again : (n : List ℕ) → is_name n ≡ true → content never (name_text n) ≡ n
name_again n h = let s = some_name n h in name_content n s.1 s.2

-- What the text of a name begins with.

abbrev is_some : List ℕ → Bool
is_some [] = false
is_some (b ∷ bs) = true

head_more : (set : List Class) (t more : List ℕ) → is_some t ≡ true → begins_none set t ≡ true → begins_none set (t ++ more) ≡ true
head_more set [] more h k = cc
head_more set (b ∷ t) more h k = k

abbrev is_head : List Class → ℕ → Bool
is_head set c = nat_eq c 0 || (is_some (first_text c) && begins_none set (first_text c))

module _ (set : List Class) (high : not (begins set (class.High ∷ [])) ≡ true) (mark : (is_some (code_escape 0xFEFF) && begins_none set (code_escape 0xFEFF)) ≡ true) (slash : begins_none set (92 ∷ 45 ∷ []) ≡ true) (table : (c : ℕ) → c < 128 → is_head set c ≡ true) where
  high_head : (bs : List ℕ) → AreHigh bs → (is_some bs && begins_none set bs) ≡ true
  high_head bs h =
      let p = and_parts (is_high h.0) (list_all is_high h.1) (subst (λ x. list_all is_high x ≡ true) h.2 h.3) in
      ap (λ x. is_some x && begins_none set x) h.2 ∙ ap (λ c. not (begins set (c ∷ classes_of h.1))) (high_class h.0 p.0) ∙ high

  char_head : (c : ℕ) → nat_eq c 0 ≡ false → (is_some (first_text c) && begins_none set (first_text c)) ≡ true
  char_head c n = elim (cases_Bool (ltb c 128)) [
    | inl e ↦ by_table (nat_eq c 0) _ n (table c (ltb-true c 128 e))
    | inr e ↦
        let l = ltb-false c 128 e in
        ap (λ t. is_some t && begins_none set t) (high_first c l)
        ∙ elim (cases_Bool (nat_eq c 0xFEFF)) [
          | inl f ↦ subst (λ (x : ℕ). (is_some (char_text x) && begins_none set (char_text x)) ≡ true) (sym (eqb-true c 0xFEFF f)) mark
          | inr f ↦ ap (λ t. is_some t && begins_none set t) (high_itself c l (λ g. false≢true (sym f ∙ ap (λ (x : ℕ). nat_eq x 0xFEFF) g))) ∙ high_head (encode c) (high_encode c l)
        ]
  ]

  text_head : (cs rest : List ℕ) → (cs ≡ [] → ⊥) → is_charred cs ≡ true → begins_none set (chars_text cs ++ rest) ≡ true
  text_head [] rest f h = absurd (f refl)
  text_head (c ∷ cs) rest f h =
      let p = and_parts (not (nat_eq c 0)) (is_charred cs) h in
      let q = and_parts (is_some (first_text c)) (begins_none set (first_text c)) (char_head c (not-true (nat_eq c 0) p.0)) in
      head_twice (first_text c) (cond (eqb c 45) (after_dash cs) (flat_map char_text cs)) rest q.0 q.1
    where
      head_twice : (t more rest : List ℕ) → is_some t ≡ true → begins_none set t ≡ true → begins_none set ((t ++ more) ++ rest) ≡ true
      head_twice [] more rest h k = cc
      head_twice (b ∷ t) more rest h k = k

  name_head : (n rest : List ℕ) → is_name n ≡ true → begins_none set (name_text n ++ rest) ≡ true
  name_head n rest h =
      let s = some_name n h in
      elim (cases_Bool (is_text n (codes "-"))) [
        | inl e ↦ let i = (bytes_decides n (codes "-")).0 e in subst (λ (m : List ℕ). begins_none set (name_text m ++ rest) ≡ true) (sym i) slash
        | inr e ↦ ap (λ t. begins_none set (t ++ rest)) (name_text-chars n e) ∙ text_head (chars n) rest (λ z. s.0 (no_chars n s.1 z)) s.2
      ]

digit_heads : (c : ℕ) → c < 128 → is_head digit c ≡ true
unfolding digits encode
digit_heads c l = agree_below_at (is_head digit) always 128 c refl l

dot_heads : (c : ℕ) → c < 128 → is_head digit_or_dot c ≡ true
unfolding digits encode
dot_heads c l = agree_below_at (is_head digit_or_dot) always 128 c refl l

white_heads : (c : ℕ) → c < 128 → is_head white c ≡ true
unfolding digits encode
white_heads c l = agree_below_at (is_head white) always 128 c refl l

-- no digit, no `.` and no white space
pub name_digit : (n rest : List ℕ) → is_name n ≡ true → begins_none digit (name_text n ++ rest) ≡ true
name_digit n rest h = name_head digit refl refl refl digit_heads n rest h

pub name_dot : (n rest : List ℕ) → is_name n ≡ true → begins_none digit_or_dot (name_text n ++ rest) ≡ true
name_dot n rest h = name_head digit_or_dot refl refl refl dot_heads n rest h

pub name_white : (n rest : List ℕ) → is_name n ≡ true → begins_none white (name_text n ++ rest) ≡ true
name_white n rest h = name_head white refl refl refl white_heads n rest h

-- What the text of a name stays before.

read_stays : (t rest : List ℕ) (set : List Class) (s : State) → run state.Start (classes_of t) ≡ s → ((x : Class) → state_takes s x ≡ false) → ended s [] ≡ Some kind.Ident → ((after : List Class) → ended s after ≡ ended s []) → dies_at s set → begins_none set rest ≡ true → StaysFirst (word_from kind.Ident t) rest
read_stays t rest set s e n k a d h =
    let i : ended (run state.Start (classes_of t)) [] ≡ Some kind.Ident = ap (λ r. ended r []) e ∙ k in
    stays_by t kind.Ident set rest (subst (λ r. dies_at r set) (sym e) d) i (λ after. ap (λ r. ended r after) e ∙ a after ∙ ap (λ r. ended r []) (sym e)) (not_function t kind.Ident refl i) h (none_taken (run state.Start (classes_of t)) (subst (λ r. (x : Class) → state_takes r x ≡ false) (sym e) n) (classes_of rest))

pub name_stays : (n rest : List ℕ) → is_name n ≡ true → begins_none after_ident rest ≡ true → StaysFirst (word_from kind.Ident (name_text n)) rest
name_stays n rest h k =
    elim (name_read n h) [
      | inl e ↦ read_stays (name_text n) rest after_ident state.Name e (λ x. refl) refl (λ after. refl) (dies_by state.Name after_ident refl) k
      | inr e ↦ read_stays (name_text n) rest after_ident state.MinusMinus e.0 (λ x. refl) refl (λ after. refl) (dies_by state.MinusMinus after_ident refl) k
    ]

-- other than `--` before a `>` too
pub name_child : (n rest : List ℕ) → is_name n ≡ true → (name_text n ≡ codes "--" → ⊥) → begins_none after_name rest ≡ true → StaysFirst (word_from kind.Ident (name_text n)) rest
name_child n rest h f k =
    elim (name_read n h) [
      | inl e ↦ read_stays (name_text n) rest after_name state.Name e (λ x. refl) refl (λ after. refl) (dies_by state.Name after_name refl) k
      | inr e ↦ absurd (f e.1)
    ]

pub name_hash_stays : (n rest : List ℕ) → is_name n ≡ true → begins_none more_name rest ≡ true → StaysFirst (word_from kind.Hash (codes "#" ++ name_text n)) rest
name_hash_stays n rest h k =
    let t = codes "#" ++ name_text n in
    let e : run state.Start (classes_of t) ≡ state.HashName = hash_read n h in
    let i : ended (run state.Start (classes_of t)) [] ≡ Some kind.Hash = ap (λ r. ended r []) e in
    stays_by t kind.Hash more_name rest (subst (λ r. dies_at r more_name) (sym e) (dies_by state.HashName more_name refl)) i (λ after. ap (λ r. ended r after) e ∙ ap (λ r. ended r []) (sym e)) (not_function t kind.Hash refl i) k (none_taken (run state.Start (classes_of t)) (subst (λ r. (x : Class) → state_takes r x ≡ false) (sym e) (λ x. refl)) (classes_of rest))

-- A `+` before a `.` that begins no number.

point_none : (t : List Class) → begins (class.Digit ∷ []) t ≡ false → longest_in state.Point t ≡ None
point_none [] h = longest_in-nil state.Point
point_none (x ∷ t) h =
    longest_in-step state.Point x t
    ∙ ap (λ o. one_more o None) (ap (λ s. longest_in s t) (dies_by state.Point (class.Digit ∷ []) refl x (begun (class.Digit ∷ []) x t h) refl) ∙ longest_in-dead t)

pub plus_dot_stays : (rest : List ℕ) → begins_none digit rest ≡ true → StaysFirst (word_from kind.Delim (codes "+")) (codes "." ++ rest)
plus_dot_stays rest h =
    let r = codes "." ++ rest in
    firsts.by_table (word_from kind.Delim (codes "+")) r (record {
      found = comes_from state.Start (codes "+") r kind.Delim (longest_in-step state.Plus class.Dot (classes_of rest) ∙ ap (λ o. one_more o (Some kind.Delim)) (point_none (classes_of rest) (not-true (begins (class.Digit ∷ []) (classes_of rest)) h)));
      ruled = refl;
    })
