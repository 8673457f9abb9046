-- AN+B without white space is read again.
use Rattle.std.proofs.Common.{◌≡◌, ℕ, List, [], ◌∷◌, ◌++◌, length, take, drop, Bool, true, false, not, ◌&&◌, ◌||◌, refl, sym, ap, ap₂, ◌∙◌, subst, inl, inr, arith, codes, nat_eq, eqb-true, take-append-drop}
use Rattle.std.specs.Prelude.{Option, Some, None, if◌then◌else◌}
use Rattle.std.specs.Char.{is_ascii_digit, to_ascii_lowercase}
use Rattle.std.specs.List.{list_all}
use Rattle.std.specs.Option.{option_map, option_map_or, option_and_then}
use Rattle.std.proofs.lemmas.Bool.{and_parts, or_cases, false≢true}
use Rattle.std.proofs.lemmas.Bool.Decides.{nat_tests}
use Rattle.std.proofs.lemmas.List.{append-nil}
use Rattle.std.proofs.lemmas.List.Folds.{list_all-append, list_any-append}
use lib.Pointwise.{bytes_decides}
use Rattle.css_tokens.specs.Contents.{content, never}
use Rattle.css_tokens.specs.declared.kind.Kind.{Kind}
use Rattle.css_tokens.specs.declared.kind.Kind.TheVariants as kinds
use Rattle.css_tokens.specs.declared.component.Component.{Component}
use Rattle.css_tokens.specs.Piece.{Piece}
use Rattle.css_tokens.specs.Trees.{is_text}
use Rattle.css_tokens.specs.Numbers.{begins_digit}
use Rattle.selector_types.specs.AnPlusB.{after_digits, after_spaces, is_an_plus_b, is_blank, is_integer, is_offset, is_step, is_word}
use Rattle.selector_tokens.specs.Arguments.{an_plus_b, kind_text, text_before, texts_of, unspaced}
use Rattle.selector_tree.specs.Grammar.{Mark}
use Rattle.selector_types.specs.Names.{has_space, lowered}
use Rattle.selector_types.specs.ReadableSelectors.{is_step_text}
use Rattle.selector_tree.specs.Signs.{is_comment_kind, token_before, tokens_of}
use Rattle.selector_types.specs.Spelling.{single, delim, before_plus, from_plus, unsigned, word_kind, back_spelling, step_spelling}
use Rattle.selector_tree.proofs.PartAgain.{marks_of, mark-single}
use Rattle.selector_types.proofs.SpellingTexts.{around-plus}

-- Bytes other than `\` and upper case letters.

abbrev is_calm : ℕ → Bool
is_calm b = not (nat_eq b 92) && nat_eq (to_ascii_lowercase b) b

abbrev are_calm : List ℕ → Bool
are_calm text = list_all is_calm text

calm-digit : (b : ℕ) → is_ascii_digit b ≡ true → is_calm b ≡ true
calm-digit b h = grind (arith, nat_tests)

calm-is : (b c : ℕ) → nat_eq b c ≡ true → is_calm c ≡ true → is_calm b ≡ true
calm-is b c e h = ap is_calm (eqb-true b c e) ∙ h

calm-sign : (b : ℕ) → (nat_eq b 43 || nat_eq b 45) ≡ true → is_calm b ≡ true
calm-sign b h = elim (or_cases (nat_eq b 43) (nat_eq b 45) h) [
  | inl e ↦ calm-is b 43 e refl
  | inr e ↦ calm-is b 45 e refl
]

-- a text is calm where it is so behind bytes that are
calm-behind : (b : ℕ) (text rest : List ℕ) (test : Bool) → (test ≡ true → is_calm b ≡ true) → (are_calm rest ≡ true → are_calm text ≡ true) → are_calm (if test then rest else b ∷ text) ≡ true → are_calm (b ∷ text) ≡ true
calm-behind b text rest true one more h = ap₂ ◌&&◌ (one refl) (more h)
calm-behind b text rest false one more h = h

calm-digits : (text : List ℕ) → are_calm (after_digits text) ≡ true → are_calm text ≡ true
calm-digits [] h = refl
calm-digits (b ∷ text) h = calm-behind b text (after_digits text) (is_ascii_digit b) (calm-digit b) (calm-digits text) h

calm-spaces : (text : List ℕ) → are_calm (after_spaces text) ≡ true → are_calm text ≡ true
calm-spaces [] h = refl
calm-spaces (b ∷ text) h = calm-behind b text (after_spaces text) (nat_eq b 32) (λ e. calm-is b 32 e refl) (calm-spaces text) h

calm-unsigned : (text : List ℕ) → are_calm (unsigned text) ≡ true → are_calm text ≡ true
calm-unsigned [] h = refl
calm-unsigned (b ∷ text) h = calm-behind b text text (nat_eq b 43 || nat_eq b 45) (calm-sign b) (λ k. k) h

calm-blank : (text : List ℕ) → is_blank text ≡ true → are_calm text ≡ true
calm-blank [] h = refl
calm-blank (b ∷ text) h = (let p = and_parts (nat_eq b 32) (is_blank text) h in ap₂ ◌&&◌ (calm-is b 32 p.0 refl) (calm-blank text p.1))

calm-word : (word text : List ℕ) → are_calm word ≡ true → is_word word text ≡ true → are_calm text ≡ true
calm-word word text k h =
    (let n = length word in
    let p = and_parts (is_text (take n text) word) (is_blank (drop n text)) h in
    ap are_calm (sym (take-append-drop n text))
    ∙ list_all-append is_calm (take n text) (drop n text)
    ∙ ap₂ ◌&&◌ (ap are_calm ((bytes_decides (take n text) word).0 p.0) ∙ k) (calm-blank (drop n text) p.1))

calm-integer : (text : List ℕ) → is_integer text ≡ true → are_calm text ≡ true
calm-integer text h = calm-digits text (calm-blank (after_digits text) (and_parts (begins_digit text) (is_blank (after_digits text)) h).1)

calm-offset : (text : List ℕ) → is_offset text ≡ true → are_calm text ≡ true
calm-offset [] h = refl
calm-offset (b ∷ text) h =
    (let p = and_parts (nat_eq b 43 || nat_eq b 45) (is_integer (after_spaces text)) h in
    ap₂ ◌&&◌ (calm-sign b p.0) (calm-spaces text (calm-integer (after_spaces text) p.1)))

calm-step : (text : List ℕ) → is_step text ≡ true → are_calm text ≡ true
calm-step [] h = absurd (false≢true h)
calm-step (b ∷ text) h =
    (let p = and_parts (nat_eq b 110) (is_offset (after_spaces text)) h in
    ap₂ ◌&&◌ (calm-is b 110 p.0 refl) (calm-spaces text (calm-offset (after_spaces text) p.1)))

calm-text : (text : List ℕ) → is_an_plus_b text ≡ true → are_calm text ≡ true
calm-text text h =
    (let u = unsigned text in
    let odd = is_word (codes "odd") text in
    let even = is_word (codes "even") text in
    elim (or_cases ((odd || even) || is_integer u) (is_step (after_digits u)) h) [
      | inr s ↦ calm-unsigned text (calm-digits u (calm-step (after_digits u) s))
      | inl s ↦ elim (or_cases (odd || even) (is_integer u) s) [
        | inr i ↦ calm-unsigned text (calm-integer u i)
        | inl w ↦ elim (or_cases odd even w) [
          | inl e ↦ calm-word (codes "odd") text refl e
          | inr e ↦ calm-word (codes "even") text refl e
        ]
      ]
    ])

calm-lowered : (text : List ℕ) → are_calm text ≡ true → lowered text ≡ text
calm-lowered [] h = refl
calm-lowered (b ∷ text) h =
    (let p = and_parts (is_calm b) (are_calm text) h in
    let q = and_parts (not (nat_eq b 92)) (nat_eq (to_ascii_lowercase b) b) p.0 in
    ap₂ (λ (x : ℕ) (xs : List ℕ). x ∷ xs) (eqb-true (to_ascii_lowercase b) b q.1) (calm-lowered text p.1))

-- without a `\` a text means itself
calm-content : (text : List ℕ) → are_calm text ≡ true → content never text ≡ text
calm-content [] h = refl
calm-content (b ∷ text) h =
    (let p = and_parts (is_calm b) (are_calm text) h in
    let q = and_parts (not (nat_eq b 92)) (nat_eq (to_ascii_lowercase b) b) p.0 in
    at (nat_eq b 92) q.0 refl ∙ ap (λ (t : List ℕ). b ∷ t) (calm-content text p.1))
  where
    at : (x : Bool) → not x ≡ true → x ≡ nat_eq b 92 → content never (b ∷ text) ≡ b ∷ content never text
    at true e f = absurd (false≢true e)
    at false e f = rw (sym f) refl

-- Without spaces.

spaces-none : (text : List ℕ) → has_space text ≡ false → after_spaces text ≡ text
spaces-none [] h = refl
spaces-none (b ∷ text) h = at (nat_eq b 32) h
  where
    at : (x : Bool) → (x || has_space text) ≡ false → (if x then after_spaces text else b ∷ text) ≡ b ∷ text
    at true e = absurd (false≢true (sym e))
    at false e = refl

or-none : (a b : Bool) → (a || b) ≡ false → (a ≡ false) × (b ≡ false)
or-none true b h = absurd (false≢true (sym h))
or-none false b h = (refl, h)

unspaced-same : (text : List ℕ) → has_space text ≡ false → unspaced text ≡ Some text
unspaced-same text h = ap (λ (b : Bool). if b then None else Some text) h

-- Tokens.

-- the components are tokens of these texts, one after another
record StepTokens (cs : List Component) (text : List ℕ) : Type 0 where
  pieces : List Piece
  are : tokens_of (marks_of cs) ≡ Some pieces
  texts : (white : List ℕ) → texts_of white pieces ≡ Some text

no-tokens : StepTokens [] []
no-tokens = record { pieces = []; are = refl; texts = λ white. refl }

more-tokens : (k : Kind) (w : List ℕ) (cs : List Component) (text : List ℕ) → is_comment_kind k ≡ false → ((white : List ℕ) → kind_text white k w ≡ Some w) → StepTokens cs text → StepTokens (single k w ∷ cs) (w ++ text)
more-tokens k w cs text c h r =
    (let p : Piece = record { kind = k; text = w; at = 0 } in
    record {
      pieces = p ∷ r.pieces;
      are =
          ap (λ (m : Mark). token_before m.token (tokens_of (marks_of cs))) (mark-single k w)
          ∙ ap (λ (b : Bool). if b then tokens_of (marks_of cs) else option_map (λ qs. p ∷ qs) (tokens_of (marks_of cs))) c
          ∙ ap (option_map (λ qs. p ∷ qs)) r.are;
      texts = λ white. ap₂ text_before (h white) (r.texts white);
    })

-- a word is read as its text, whichever its kind
word-tokens : (w : List ℕ) (digit whole : Bool) (cs : List Component) (text : List ℕ) → are_calm w ≡ true → has_space w ≡ false → StepTokens cs text
    → StepTokens (single (if digit then (if whole then kinds.Number else kinds.Dimension) else kinds.Ident) w ∷ cs) (w ++ text)
word-tokens w true true cs text c s r = more-tokens kinds.Number w cs text refl (λ white. unspaced-same w s) r
word-tokens w true false cs text c s r = more-tokens kinds.Dimension w cs text refl (λ white. unspaced-same w s) r
word-tokens w false whole cs text c s r = more-tokens kinds.Ident w cs text refl (λ white. ap unspaced (calm-content w c) ∙ unspaced-same w s) r

plus-text : (b : ℕ) → nat_eq b 43 ≡ true → (white : List ℕ) → kind_text white kinds.Delim (b ∷ []) ≡ Some (b ∷ [])
plus-text b e white = subst (λ (c : ℕ). kind_text white kinds.Delim (c ∷ []) ≡ Some (c ∷ [])) (sym (eqb-true b 43 e)) refl

front-at : (b : ℕ) (w : List ℕ) (plus digit : Bool) (cs : List Component) (text : List ℕ) → plus ≡ nat_eq b 43 → are_calm (b ∷ w) ≡ true → has_space (b ∷ w) ≡ false → StepTokens cs text
    → StepTokens ((if plus && not digit then delim (b ∷ []) ∷ single kinds.Ident w ∷ [] else single (word_kind (b ∷ w)) (b ∷ w) ∷ []) ++ cs) ((b ∷ w) ++ text)
front-at b w true false cs text e c s r =
    more-tokens kinds.Delim (b ∷ []) (single kinds.Ident w ∷ cs) (w ++ text) refl (plus-text b (sym e))
    (word-tokens w false false cs text (and_parts (is_calm b) (are_calm w) c).1 (or-none (nat_eq b 32) (has_space w) s).1 r)
front-at b w true true cs text e c s r = word-tokens (b ∷ w) (begins_digit (unsigned (b ∷ w))) (list_all is_ascii_digit (unsigned (b ∷ w))) cs text c s r
front-at b w false digit cs text e c s r = word-tokens (b ∷ w) (begins_digit (unsigned (b ∷ w))) (list_all is_ascii_digit (unsigned (b ∷ w))) cs text c s r

back-tokens : (text : List ℕ) → has_space text ≡ false → StepTokens (back_spelling text) text
back-tokens [] s = no-tokens
back-tokens (b ∷ text) s = subst (StepTokens (single kinds.Number (b ∷ text) ∷ [])) (append-nil (b ∷ text)) (more-tokens kinds.Number (b ∷ text) [] [] refl (λ white. unspaced-same (b ∷ text) s) no-tokens)

step-tokens : (text : List ℕ) → are_calm text ≡ true → has_space text ≡ false → StepTokens (step_spelling text) text
step-tokens [] c s = no-tokens
step-tokens (b ∷ text) c s =
    (let f = before_plus text in
    let g = from_plus text in
    let e : f ++ g ≡ text = around-plus text in
    let calm = and_parts (are_calm (b ∷ f)) (are_calm g) (sym (list_all-append is_calm (b ∷ f) g) ∙ ap (λ (t : List ℕ). are_calm (b ∷ t)) e ∙ c) in
    let clear = or-none (has_space (b ∷ f)) (has_space g) (sym (list_any-append (λ x. nat_eq x 32) (b ∷ f) g) ∙ ap (λ (t : List ℕ). has_space (b ∷ t)) e ∙ s) in
    subst (StepTokens (step_spelling (b ∷ text))) (ap (λ (t : List ℕ). b ∷ t) e)
    (front-at b f (nat_eq b 43) (begins_digit f) (back_spelling g) g refl calm.0 clear.0 (back-tokens g clear.1)))

not-false : (b : Bool) → not b ≡ true → b ≡ false
not-false true h = absurd (false≢true h)
not-false false h = refl

pub step-again : (text : List ℕ) → is_step_text text ≡ true → option_and_then an_plus_b (tokens_of (marks_of (step_spelling text))) ≡ Some text
step-again text h =
    (let p = and_parts (is_an_plus_b text) (not (has_space text)) h in
    let s = not-false (has_space text) p.1 in
    let c = calm-text text p.0 in
    let r = step-tokens text c s in
    let lower = calm-lowered text c in
    ap (option_and_then an_plus_b) r.are
    ∙ ap₂ (λ (spaced close : Option (List ℕ)). if option_map_or (λ t. is_an_plus_b (after_spaces (lowered t))) spaced false then option_map lowered close else None) (r.texts (codes " ")) (r.texts [])
    ∙ ap (λ (b : Bool). if b then Some (lowered text) else None) (ap (λ (t : List ℕ). is_an_plus_b (after_spaces t)) lower ∙ ap is_an_plus_b (spaces-none text s) ∙ p.0)
    ∙ ap Some lower)
