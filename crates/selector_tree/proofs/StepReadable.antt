-- What is read as AN+B is AN+B without white space.
use Rattle.std.proofs.Common.{◌≡◌, ℕ, List, [], ◌∷◌, ◌++◌, length, take, drop, Bool, true, false, not, ◌&&◌, ◌||◌, refl, sym, ap, ap₂, ◌∙◌, subst, inl, inr, arith, codes, nat_eq, eqb-true, take-append-drop}
use Rattle.std.specs.Prelude.{Option, Some, None, if◌then◌else◌}
use Rattle.std.specs.Char.{is_ascii_digit, to_ascii_lowercase}
use Rattle.std.specs.Option.{option_map, option_map_or}
use Rattle.std.proofs.lemmas.Bool.{and_parts, or_cases, false≢true}
use Rattle.std.proofs.lemmas.Bool.Decides.{nat_tests}
use Rattle.std.proofs.lemmas.List.{append-nil}
use lib.Pointwise.{bytes_decides}
use Rattle.css_tokens.specs.declared.kind.Kind.{Kind}
use Rattle.css_tokens.specs.declared.kind.Kind.TheVariants as kinds
use Rattle.css_tokens.specs.Names.{name_of_word}
use Rattle.css_tokens.specs.Piece.{Piece}
use Rattle.css_tokens.specs.Trees.{is_text}
use Rattle.css_tokens.specs.Numbers.{begins_digit}
use Rattle.selector_types.specs.AnPlusB.{after_digits, after_spaces, is_an_plus_b, is_blank, is_integer, is_offset, is_step, is_word}
use Rattle.selector_tokens.specs.Arguments.{an_plus_b, kind_text, text_before, texts_of, unspaced}
use Rattle.selector_types.specs.Names.{has_space, lowered}
use Rattle.selector_types.specs.ReadableSelectors.{is_step_text}
use Rattle.selector_types.specs.Spelling.{unsigned}

-- A text without its spaces.

abbrev closed : List ℕ → List ℕ
closed [] = []
closed (b ∷ text) = if nat_eq b 32 then closed text else b ∷ closed text

closed-at : (b : ℕ) (text : List ℕ) → nat_eq b 32 ≡ false → closed (b ∷ text) ≡ b ∷ closed text
closed-at b text e = ap (λ (x : Bool). if x then closed text else b ∷ closed text) e

closed-space : (text : List ℕ) → has_space (closed text) ≡ false
closed-space [] = refl
closed-space (b ∷ text) = at (nat_eq b 32) refl (closed-space text)
  where
    at : (x : Bool) → x ≡ nat_eq b 32 → has_space (closed text) ≡ false → has_space (if x then closed text else b ∷ closed text) ≡ false
    at true e h = h
    at false e h = ap (λ (y : Bool). y || has_space (closed text)) (sym e) ∙ h

closed-append : (xs ys : List ℕ) → closed (xs ++ ys) ≡ closed xs ++ closed ys
closed-append [] ys = refl
closed-append (x ∷ xs) ys = at (nat_eq x 32) (closed-append xs ys)
  where
    at : (b : Bool) → closed (xs ++ ys) ≡ closed xs ++ closed ys → (if b then closed (xs ++ ys) else x ∷ closed (xs ++ ys)) ≡ (if b then closed xs else x ∷ closed xs) ++ closed ys
    at true e = e
    at false e = ap (λ (t : List ℕ). x ∷ t) e

or-none : (a b : Bool) → (a || b) ≡ false → (a ≡ false) × (b ≡ false)
or-none true b h = absurd (false≢true (sym h))
or-none false b h = (refl, h)

closed-same : (text : List ℕ) → has_space text ≡ false → closed text ≡ text
closed-same [] h = refl
closed-same (b ∷ text) h = (let p = or-none (nat_eq b 32) (has_space text) h in closed-at b text p.0 ∙ ap (λ (t : List ℕ). b ∷ t) (closed-same text p.1))

closed-blank : (text : List ℕ) → is_blank text ≡ true → closed text ≡ []
closed-blank [] h = refl
closed-blank (b ∷ text) h = (let p = and_parts (nat_eq b 32) (is_blank text) h in ap (λ (x : Bool). if x then closed text else b ∷ closed text) p.0 ∙ closed-blank text p.1)

closed-after : (text : List ℕ) → closed (after_spaces text) ≡ closed text
closed-after [] = refl
closed-after (b ∷ text) = at (nat_eq b 32) refl (closed-after text)
  where
    at : (x : Bool) → x ≡ nat_eq b 32 → closed (after_spaces text) ≡ closed text → closed (if x then after_spaces text else b ∷ text) ≡ (if x then closed text else b ∷ closed text)
    at true e h = h
    at false e h = closed-at b text (sym e)

after-closed : (text : List ℕ) → after_spaces (closed text) ≡ closed text
after-closed [] = refl
after-closed (b ∷ text) = at (nat_eq b 32) refl (after-closed text)
  where
    at : (x : Bool) → x ≡ nat_eq b 32 → after_spaces (closed text) ≡ closed text → after_spaces (if x then closed text else b ∷ closed text) ≡ (if x then closed text else b ∷ closed text)
    at true e h = h
    at false e h = ap (λ (y : Bool). if y then after_spaces (closed text) else b ∷ closed text) (sym e)

lower-space : (b : ℕ) → nat_eq (to_ascii_lowercase b) 32 ≡ nat_eq b 32
lower-space b = grind (arith, nat_tests)

lowered-closed : (text : List ℕ) → lowered (closed text) ≡ closed (lowered text)
lowered-closed [] = refl
lowered-closed (b ∷ text) =
    at (nat_eq b 32) (lowered-closed text) ∙ ap (λ (x : Bool). if x then closed (lowered text) else to_ascii_lowercase b ∷ closed (lowered text)) (sym (lower-space b))
  where
    at : (x : Bool) → lowered (closed text) ≡ closed (lowered text) → lowered (if x then closed text else b ∷ closed text) ≡ (if x then closed (lowered text) else to_ascii_lowercase b ∷ closed (lowered text))
    at true e = e
    at false e = ap (λ (t : List ℕ). to_ascii_lowercase b ∷ t) e

-- The parts of AN+B without their spaces.

digit-space : (b : ℕ) → is_ascii_digit b ≡ true → nat_eq b 32 ≡ false
digit-space b h = grind (arith, nat_tests)

is-space : (b c : ℕ) → nat_eq b c ≡ true → nat_eq c 32 ≡ false → nat_eq b 32 ≡ false
is-space b c e h = ap (λ (x : ℕ). nat_eq x 32) (eqb-true b c e) ∙ h

sign-space : (b : ℕ) → (nat_eq b 43 || nat_eq b 45) ≡ true → nat_eq b 32 ≡ false
sign-space b h = elim (or_cases (nat_eq b 43) (nat_eq b 45) h) [
  | inl e ↦ is-space b 43 e refl
  | inr e ↦ is-space b 45 e refl
]

begins-closed : (text : List ℕ) → begins_digit text ≡ true → begins_digit (closed text) ≡ true
begins-closed [] h = h
begins-closed (b ∷ text) h = ap begins_digit (closed-at b text (digit-space b h)) ∙ h

-- blanks behind digits are gone
blank-closed : (text : List ℕ) → is_blank (after_digits text) ≡ true → is_blank (after_digits (closed text)) ≡ true
blank-closed [] h = refl
blank-closed (b ∷ text) h = at (is_ascii_digit b) refl (blank-closed text) h
  where
    at : (x : Bool) → x ≡ is_ascii_digit b → (is_blank (after_digits text) ≡ true → is_blank (after_digits (closed text)) ≡ true) → is_blank (if x then after_digits text else b ∷ text) ≡ true → is_blank (after_digits (closed (b ∷ text))) ≡ true
    at true e more k =
        ap (λ (t : List ℕ). is_blank (after_digits t)) (closed-at b text (digit-space b (sym e)))
        ∙ ap (λ (y : Bool). is_blank (if y then after_digits (closed text) else b ∷ closed text)) (sym e)
        ∙ more k
    at false e more k = ap (λ (t : List ℕ). is_blank (after_digits t)) (closed-blank (b ∷ text) k)

integer-closed : (text : List ℕ) → is_integer text ≡ true → is_integer (closed text) ≡ true
integer-closed text h =
    (let p = and_parts (begins_digit text) (is_blank (after_digits text)) h in
    ap₂ ◌&&◌ (begins-closed text p.0) (blank-closed text p.1))

offset-closed : (text : List ℕ) → is_offset text ≡ true → is_offset (closed text) ≡ true
offset-closed [] h = refl
offset-closed (b ∷ text) h =
    (let p = and_parts (nat_eq b 43 || nat_eq b 45) (is_integer (after_spaces text)) h in
    ap is_offset (closed-at b text (sign-space b p.0))
    ∙ ap₂ ◌&&◌ p.0 (ap is_integer (after-closed text ∙ sym (closed-after text)) ∙ integer-closed (after_spaces text) p.1))

step-closed : (b : ℕ) (text : List ℕ) → is_step (b ∷ text) ≡ true → is_step (b ∷ closed text) ≡ true
step-closed b text h =
    (let p = and_parts (nat_eq b 110) (is_offset (after_spaces text)) h in
    ap₂ ◌&&◌ p.0 (ap is_offset (after-closed text ∙ sym (closed-after text)) ∙ offset-closed (after_spaces text) p.1))

n-digit : (b : ℕ) → nat_eq b 110 ≡ true → is_ascii_digit b ≡ false
n-digit b e = ap is_ascii_digit (eqb-true b 110 e)

count-closed : (text : List ℕ) → is_step (after_digits text) ≡ true → is_step (after_digits (closed text)) ≡ true
count-closed [] h = absurd (false≢true h)
count-closed (b ∷ text) h = at (is_ascii_digit b) refl (count-closed text) h
  where
    at : (x : Bool) → x ≡ is_ascii_digit b → (is_step (after_digits text) ≡ true → is_step (after_digits (closed text)) ≡ true) → is_step (if x then after_digits text else b ∷ text) ≡ true → is_step (after_digits (closed (b ∷ text))) ≡ true
    at true e more k =
        ap (λ (t : List ℕ). is_step (after_digits t)) (closed-at b text (digit-space b (sym e)))
        ∙ ap (λ (y : Bool). is_step (if y then after_digits (closed text) else b ∷ closed text)) (sym e)
        ∙ more k
    at false e more k =
        (let n = (and_parts (nat_eq b 110) (is_offset (after_spaces text)) k).0 in
        ap (λ (t : List ℕ). is_step (after_digits t)) (closed-at b text (is-space b 110 n refl))
        ∙ ap (λ (y : Bool). is_step (if y then after_digits (closed text) else b ∷ closed text)) (sym e)
        ∙ step-closed b text k)

-- a text that begins with no space has its sign where it has it
abbrev begins_space : List ℕ → Bool
begins_space [] = false
begins_space (b ∷ text) = nat_eq b 32

unsigned-closed : (text : List ℕ) → begins_space text ≡ false → unsigned (closed text) ≡ closed (unsigned text)
unsigned-closed [] h = refl
unsigned-closed (b ∷ text) h = ap unsigned (closed-at b text h) ∙ at (nat_eq b 43 || nat_eq b 45)
  where
    at : (x : Bool) → (if x then closed text else b ∷ closed text) ≡ closed (if x then text else b ∷ text)
    at true = refl
    at false = sym (closed-at b text h)

after-begins : (text : List ℕ) → begins_space (after_spaces text) ≡ false
after-begins [] = refl
after-begins (b ∷ text) = at (nat_eq b 32) refl (after-begins text)
  where
    at : (x : Bool) → x ≡ nat_eq b 32 → begins_space (after_spaces text) ≡ false → begins_space (if x then after_spaces text else b ∷ text) ≡ false
    at true e h = h
    at false e h = sym e

word-closed : (word text : List ℕ) → closed word ≡ word → is_word word word ≡ true → is_word word text ≡ true → is_word word (closed text) ≡ true
word-closed word text c w h =
    (let n = length word in
    let p = and_parts (is_text (take n text) word) (is_blank (drop n text)) h in
    let e : closed text ≡ word ++ [] =
    ap closed (sym (take-append-drop n text)) ∙ closed-append (take n text) (drop n text)
    ∙ ap₂ (λ (xs ys : List ℕ). xs ++ ys) (ap closed ((bytes_decides (take n text) word).0 p.0) ∙ c) (closed-blank (drop n text) p.1) in
    ap (is_word word) e ∙ nothing word w)
  where
    nothing : (word : List ℕ) → is_word word word ≡ true → is_word word (word ++ []) ≡ true
    nothing word w = ap (is_word word) (append-nil word) ∙ w

or-left : (a b : Bool) → a ≡ true → (a || b) ≡ true
or-left true b e = refl
or-left false b e = absurd (false≢true e)

or-right : (a b : Bool) → b ≡ true → (a || b) ≡ true
or-right true b e = refl
or-right false b e = e

an_plus_b-closed : (text : List ℕ) → begins_space text ≡ false → is_an_plus_b text ≡ true → is_an_plus_b (closed text) ≡ true
an_plus_b-closed text s h =
    (let t = closed text in
    let u = unsigned text in
    let e : unsigned t ≡ closed u = unsigned-closed text s in
    let odd = is_word (codes "odd") in
    let even = is_word (codes "even") in
    elim (or_cases ((odd text || even text) || is_integer u) (is_step (after_digits u)) h) [
      | inr k ↦ or-right ((odd t || even t) || is_integer (unsigned t)) (is_step (after_digits (unsigned t))) (ap (λ (v : List ℕ). is_step (after_digits v)) e ∙ count-closed u k)
      | inl k ↦ or-left ((odd t || even t) || is_integer (unsigned t)) (is_step (after_digits (unsigned t))) (elim (or_cases (odd text || even text) (is_integer u) k) [
        | inr i ↦ or-right (odd t || even t) (is_integer (unsigned t)) (ap is_integer e ∙ integer-closed u i)
        | inl w ↦ or-left (odd t || even t) (is_integer (unsigned t)) (elim (or_cases (odd text) (even text) w) [
          | inl i ↦ or-left (odd t) (even t) (word-closed (codes "odd") text refl refl i)
          | inr i ↦ or-right (odd t) (even t) (word-closed (codes "even") text refl refl i)
        ])
      ])
    ])

-- Tokens.

-- what a token is with white space as a space, and as nothing
abbrev IsClosed : Option (List ℕ) → Option (List ℕ) → Type 0
IsClosed (Some t) o = o ≡ Some (closed t)
IsClosed None o = Unit {0}

unspaced-closed : (text : List ℕ) → IsClosed (unspaced text) (unspaced text)
unspaced-closed text = at (has_space text) refl
  where
    at : (x : Bool) → x ≡ has_space text → IsClosed (if x then None else Some text) (if x then None else Some text)
    at true e = tt
    at false e = ap Some (sym (closed-same text (sym e)))

delim-closed : (text : List ℕ) → IsClosed (if is_text text (codes "+") || is_text text (codes "-") then Some text else None) (if is_text text (codes "+") || is_text text (codes "-") then Some text else None)
delim-closed text = at (is_text text (codes "+")) (is_text text (codes "-")) refl refl
  where
    at : (x y : Bool) → x ≡ is_text text (codes "+") → y ≡ is_text text (codes "-") → IsClosed (if x || y then Some text else None) (if x || y then Some text else None)
    at true y e f = ap Some (sym (closed-same text (ap has_space ((bytes_decides text (codes "+")).0 (sym e)))))
    at false true e f = ap Some (sym (closed-same text (ap has_space ((bytes_decides text (codes "-")).0 (sym f)))))
    at false false e f = tt

kind-closed : (k : Kind) (text : List ℕ) → IsClosed (kind_text (codes " ") k text) (kind_text [] k text)
kind-closed kinds.White text = refl
kind-closed kinds.Ident text = unspaced-closed (name_of_word kinds.Ident text)
kind-closed kinds.Number text = unspaced-closed text
kind-closed kinds.Dimension text = unspaced-closed text
kind-closed kinds.Delim text = delim-closed text
kind-closed k text = tt

before-closed : (a b c d : Option (List ℕ)) → IsClosed a b → IsClosed c d → IsClosed (text_before a c) (text_before b d)
before-closed None b c d h k = tt
before-closed (Some t) b None d h k = tt
before-closed (Some t) b (Some u) d h k = ap₂ text_before h k ∙ ap Some (sym (closed-append t u))

texts-closed : (ps : List Piece) → IsClosed (texts_of (codes " ") ps) (texts_of [] ps)
texts-closed [] = refl
texts-closed (p ∷ ps) = before-closed (kind_text (codes " ") p.kind p.text) (kind_text [] p.kind p.text) (texts_of (codes " ") ps) (texts_of [] ps) (kind-closed p.kind p.text) (texts-closed ps)

-- what is read as AN+B
abbrev pub IsStep : Option (List ℕ) → Type 0
IsStep None = Unit {0}
IsStep (Some text) = is_step_text text ≡ true

abbrev read_step : Option (List ℕ) → Option (List ℕ) → Option (List ℕ)
read_step spaced close = if option_map_or (λ t. is_an_plus_b (after_spaces (lowered t))) spaced false then option_map lowered close else None

step-text : (t : List ℕ) → is_an_plus_b (after_spaces (lowered t)) ≡ true → is_step_text (lowered (closed t)) ≡ true
step-text t h =
    (let u = after_spaces (lowered t) in
    let e : lowered (closed t) ≡ closed u = lowered-closed t ∙ sym (closed-after (lowered t)) in
    ap is_step_text e ∙ ap₂ ◌&&◌ (an_plus_b-closed u (after-begins (lowered t)) h) (ap not (closed-space u)))

step-at : (spaced close : Option (List ℕ)) → IsClosed spaced close → IsStep (read_step spaced close)
step-at None close h = tt
step-at (Some t) close h = subst (λ (o : Option (List ℕ)). IsStep (read_step (Some t) o)) (sym h) (at (is_an_plus_b (after_spaces (lowered t))) refl)
  where
    at : (x : Bool) → x ≡ is_an_plus_b (after_spaces (lowered t)) → IsStep (if x then Some (lowered (closed t)) else None)
    at true e = step-text t (sym e)
    at false e = tt

pub step-readable : (ps : List Piece) → IsStep (an_plus_b ps)
step-readable ps = step-at (texts_of (codes " ") ps) (texts_of [] ps) (texts-closed ps)
