-- How the words of AN+B are read.
use Rattle.std.proofs.Common.{◌≡◌, ℕ, ◌<◌, List, [], ◌∷◌, ◌++◌, Bool, true, false, not, ◌&&◌, ◌||◌, inl, inr, nat_eq, cond, refl, sym, ap, ap₂, ◌∙◌, subst, append_assoc, arith, codes, eqb-true}
use Rattle.std.specs.Char.{is_ascii_digit}
use Rattle.std.specs.List.{list_all}
use Rattle.std.specs.Str.{IsAscii}
use Rattle.std.proofs.lemmas.Bool.{and_parts, or_cases, false≢true}
use Rattle.std.proofs.lemmas.Bool.Decides.{nat_tests}
use Rattle.std.proofs.lemmas.List.{append-nil}
use Rattle.std.proofs.lemmas.List.Folds.{list_all-append}
use Rattle.std.proofs.lemmas.Str.{IsUtf8-from_ascii, chars-IsAscii, is_utf8-from_IsUtf8}
use Rattle.std.proofs.lemmas.Str.Ascii.{IsAscii-cons, IsAscii-nil}
use Rattle.css_tokens.specs.declared.kind.Kind.{Kind}
use Rattle.css_tokens.specs.declared.kind.Kind.TheVariants as kinds
use Rattle.css_tokens.specs.Again.{StaysFirst, word_from}
use Rattle.css_tokens.specs.Names.{is_name}
use Rattle.css_tokens.specs.Piece.{Word, spelled}
use Rattle.css_tokens.specs.PlainNames.{is_plain, is_plain_name}
use Rattle.css_tokens.specs.Trees.{words_all}
use Rattle.css_tokens.specs.Numbers.{begins_digit, is_digits, is_sign}
use Rattle.selector_types.specs.ReadableSelectors.{is_step_text}
use Rattle.selector_types.specs.Spelling.{back_spelling, before_plus, delim, from_plus, front_spelling, single, step_spelling, unsigned, word_kind}
use Rattle.selector_types.proofs.PartReads.{Inner, mark, words-append, words-single}
use Rattle.selector_types.proofs.StepTexts.{IsMarked, step-cases}
use Rattle.selector_types.proofs.WordReads.{Calm, Laws, reads-alone, reads-first}

-- Texts without `+`, and those of name characters.

abbrev is_solo : List ℕ → Bool
is_solo text = list_all (λ b. not (nat_eq b 43)) text

abbrev are_plain : List ℕ → Bool
are_plain text = list_all is_plain text

solo-from : (text : List ℕ) → are_plain text ≡ true → is_solo text ≡ true
solo-from [] h = refl
solo-from (b ∷ text) h = let p = and_parts (is_plain b) (are_plain text) h in ap₂ ◌&&◌ (one b p.0) (solo-from text p.1)
  where
    one : (b : ℕ) → is_plain b ≡ true → not (nat_eq b 43) ≡ true
    one b h = grind (arith, nat_tests)

digits-plain : (ds : List ℕ) → list_all is_ascii_digit ds ≡ true → are_plain ds ≡ true
digits-plain [] h = refl
digits-plain (b ∷ ds) h = let p = and_parts (is_ascii_digit b) (list_all is_ascii_digit ds) h in ap₂ ◌&&◌ (one b p.0) (digits-plain ds p.1)
  where
    one : (b : ℕ) → is_ascii_digit b ≡ true → is_plain b ≡ true
    one b h = grind (arith, nat_tests)

plain-append : (xs ys : List ℕ) → are_plain xs ≡ true → are_plain ys ≡ true → are_plain (xs ++ ys) ≡ true
plain-append xs ys h k = list_all-append is_plain xs ys ∙ ap₂ ◌&&◌ h k

minus-plain : (w : List ℕ) → IsMarked 45 w → are_plain w ≡ true
minus-plain w (inl e) = ap are_plain e
minus-plain w (inr m) = ap are_plain m.2 ∙ digits-plain m.0 (and_parts (begins_digit m.0) (list_all is_ascii_digit m.0) m.1).1

plain-ascii : (text : List ℕ) → are_plain text ≡ true → IsAscii text
plain-ascii [] h = IsAscii-nil
plain-ascii (b ∷ text) h = let p = and_parts (is_plain b) (are_plain text) h in IsAscii-cons b text (one b p.0) (plain-ascii text p.1)
  where
    one : (b : ℕ) → is_plain b ≡ true → b < 128
    one b h = grind (arith, nat_tests)

plain-filled : (text : List ℕ) → are_plain text ≡ true → list_all (λ c. not (nat_eq c 0)) text ≡ true
plain-filled [] h = refl
plain-filled (b ∷ text) h = let p = and_parts (is_plain b) (are_plain text) h in ap₂ ◌&&◌ (one b p.0) (plain-filled text p.1)
  where
    one : (b : ℕ) → is_plain b ≡ true → not (nat_eq b 0) ≡ true
    one b h = grind (arith, nat_tests)

-- what has name characters alone is a name
plain-name : (b : ℕ) (text : List ℕ) → are_plain (b ∷ text) ≡ true → is_name (b ∷ text) ≡ true
plain-name b text h =
    let a = plain-ascii (b ∷ text) h in
    ap₂ ◌&&◌ (is_utf8-from_IsUtf8 (b ∷ text) (IsUtf8-from_ascii (b ∷ text) a)) (ap (list_all (λ c. not (nat_eq c 0))) (chars-IsAscii (b ∷ text) a) ∙ plain-filled (b ∷ text) h)

-- Cuts at a `+`.

before-plus : (w back : List ℕ) → is_solo w ≡ true → IsMarked 43 back → before_plus (w ++ back) ≡ w
before-plus [] back h (inl e) = ap before_plus e
before-plus [] back h (inr m) = ap before_plus m.2
before-plus (b ∷ w) back h m =
    let p = and_parts (not (nat_eq b 43)) (is_solo w) h in
    at (nat_eq b 43) p.0 ∙ ap (λ (t : List ℕ). b ∷ t) (before-plus w back p.1 m)
  where
    at : (x : Bool) → not x ≡ true → cond x [] (b ∷ before_plus (w ++ back)) ≡ b ∷ before_plus (w ++ back)
    at true e = absurd (false≢true e)
    at false e = refl

from-plus : (w back : List ℕ) → is_solo w ≡ true → IsMarked 43 back → from_plus (w ++ back) ≡ back
from-plus [] back h (inl e) = ap from_plus e ∙ sym e
from-plus [] back h (inr m) = ap from_plus m.2 ∙ sym m.2
from-plus (b ∷ w) back h m =
    let p = and_parts (not (nat_eq b 43)) (is_solo w) h in
    at (nat_eq b 43) p.0 ∙ from-plus w back p.1 m
  where
    at : (x : Bool) → not x ≡ true → cond x (b ∷ (w ++ back)) (from_plus (w ++ back)) ≡ from_plus (w ++ back)
    at true e = absurd (false≢true e)
    at false e = refl

-- the words of what stands before the `+`, and then those of what begins with it
step-words : (b : ℕ) (w back : List ℕ) → is_solo w ≡ true → IsMarked 43 back → words_all (step_spelling (b ∷ (w ++ back))) ≡ words_all (front_spelling b w) ++ words_all (back_spelling back)
step-words b w back h m =
    ap₂ (λ (x y : List ℕ). words_all (front_spelling b x ++ back_spelling y)) (before-plus w back h m) (from-plus w back h m)
    ∙ words-append (front_spelling b w) (back_spelling back)

front-words : (b : ℕ) (w : List ℕ) (kind : Kind) → (nat_eq b 43 && not (begins_digit w)) ≡ false → word_kind (b ∷ w) ≡ kind → words_all (front_spelling b w) ≡ word_from kind (b ∷ w) ∷ []
front-words b w kind e k =
    ap (λ (x : Bool). words_all (cond x (delim (b ∷ []) ∷ single kinds.Ident w ∷ []) (single (word_kind (b ∷ w)) (b ∷ w) ∷ []))) e
    ∙ words-single (word_kind (b ∷ w)) (b ∷ w) []
    ∙ ap (λ (j : Kind). word_from j (b ∷ w) ∷ []) k

-- The kinds of words.

kind-number : (text : List ℕ) → is_digits (unsigned text) ≡ true → word_kind text ≡ kinds.Number
kind-number text h =
    let p = and_parts (begins_digit (unsigned text)) (list_all is_ascii_digit (unsigned text)) h in
    ap (λ (x : Bool). cond x (cond (list_all is_ascii_digit (unsigned text)) kinds.Number kinds.Dimension) kinds.Ident) p.0
    ∙ ap (λ (x : Bool). cond x kinds.Number kinds.Dimension) p.1

kind-dimension : (text : List ℕ) → begins_digit (unsigned text) ≡ true → list_all is_ascii_digit (unsigned text) ≡ false → word_kind text ≡ kinds.Dimension
kind-dimension text h k =
    ap (λ (x : Bool). cond x (cond (list_all is_ascii_digit (unsigned text)) kinds.Number kinds.Dimension) kinds.Ident) h
    ∙ ap (λ (x : Bool). cond x kinds.Number kinds.Dimension) k

-- digits and then `n` are not digits alone
not-digits : (ds w : List ℕ) → list_all is_ascii_digit (ds ++ 110 ∷ w) ≡ false
not-digits [] w = refl
not-digits (d ∷ ds) w = at (is_ascii_digit d) (not-digits ds w)
  where
    at : (x : Bool) → list_all is_ascii_digit (ds ++ 110 ∷ w) ≡ false → (x && list_all is_ascii_digit (ds ++ 110 ∷ w)) ≡ false
    at true e = e
    at false e = refl

digit-unsigned : (d : ℕ) (text : List ℕ) → is_ascii_digit d ≡ true → unsigned (d ∷ text) ≡ d ∷ text
digit-unsigned d text h = ap (λ (x : Bool). cond x text (d ∷ text)) (no_sign d h)
  where
    no_sign : (d : ℕ) → is_ascii_digit d ≡ true → (nat_eq d 43 || nat_eq d 45) ≡ false
    no_sign d h = grind (arith, nat_tests)

sign-unsigned : (b : ℕ) (text : List ℕ) → (nat_eq b 43 || nat_eq b 45) ≡ true → unsigned (b ∷ text) ≡ text
sign-unsigned b text h = ap (λ (x : Bool). cond x text (b ∷ text)) h

digit-front : (d : ℕ) (w : List ℕ) → is_ascii_digit d ≡ true → (nat_eq d 43 && not (begins_digit w)) ≡ false
digit-front d w h = ap (λ (x : Bool). x && not (begins_digit w)) (no_plus d h)
  where
    no_plus : (d : ℕ) → is_ascii_digit d ≡ true → nat_eq d 43 ≡ false
    no_plus d h = grind (arith, nat_tests)

sign-front : (b : ℕ) (w : List ℕ) → begins_digit w ≡ true → (nat_eq b 43 && not (begins_digit w)) ≡ false
sign-front b w h = ap (λ (x : Bool). nat_eq b 43 && not x) h ∙ none (nat_eq b 43)
  where
    none : (x : Bool) → (x && false) ≡ false
    none true = refl
    none false = refl

module _ (l : Laws) where
  -- what begins with the `+`, before a `)`
  record IsBack (ws : List Word) : Type 0 where
    reads : Inner ws
    calm : (rest : List ℕ) → Calm (spelled ws ++ (codes ")" ++ rest))

  back-reads : (back : List ℕ) → IsMarked 43 back → IsBack (words_all (back_spelling back))
  back-reads back (inl e) = subst (λ (t : List ℕ). IsBack (words_all (back_spelling t))) (sym e) (record { reads = λ rest. refl; calm = λ rest. record { hash = refl; name = refl; ident = refl } })
  back-reads back (inr m) =
      subst (λ (t : List ℕ). IsBack (words_all (back_spelling t))) (sym m.2)
      (subst IsBack (sym (words-single kinds.Number (43 ∷ m.0) [])) (record {
        reads = λ rest. reads-alone (word_from kinds.Number (43 ∷ m.0)) (codes ")" ++ rest) (l.numbered (43 ∷ []) m.0 rest refl m.1) refl;
        calm = λ rest. record { hash = refl; name = refl; ident = refl };
      }))

  -- a name before it
  name-first : (b : ℕ) (w : List ℕ) (ws : List Word) → is_plain_name (b ∷ w) ≡ true → are_plain (b ∷ w) ≡ true → IsBack ws → Inner (word_from kinds.Ident (b ∷ w) ∷ ws)
  name-first b w ws h k back rest =
      let text = l.plained (b ∷ w) h in
      let calm = back.calm rest in
      reads-first (word_from kinds.Ident (b ∷ w)) ws (codes ")" ++ rest)
      (subst (λ (t : List ℕ). StaysFirst (word_from kinds.Ident t) (spelled ws ++ (codes ")" ++ rest))) text (l.ident (b ∷ w) (spelled ws ++ (codes ")" ++ rest)) (plain-name b w k) calm.ident)) refl (back.reads rest)

  dimension-first : (sign ds w : List ℕ) (ws : List Word) → is_sign sign ≡ true → is_digits ds ≡ true → are_plain w ≡ true → IsBack ws → Inner (word_from kinds.Dimension (sign ++ (ds ++ 110 ∷ w)) ∷ ws)
  dimension-first sign ds w ws s d h back rest =
      let calm = back.calm rest in
      reads-first (word_from kinds.Dimension (sign ++ (ds ++ 110 ∷ w))) ws (codes ")" ++ rest) (l.measured sign ds w (spelled ws ++ (codes ")" ++ rest)) s d h calm.hash) refl (back.reads rest)

  word-inner : (b : ℕ) (w : List ℕ) → words_all (step_spelling (b ∷ w)) ≡ word_from kinds.Ident (b ∷ w) ∷ [] → is_plain_name (b ∷ w) ≡ true → are_plain (b ∷ w) ≡ true → Inner (words_all (step_spelling (b ∷ w)))
  word-inner b w e h k = subst Inner (sym e) (name-first b w [] h k (record { reads = λ rest. refl; calm = λ rest. record { hash = refl; name = refl; ident = refl } }))

  -- Numbers.

  number-inner : (sign ds : List ℕ) → is_sign sign ≡ true → is_digits ds ≡ true → Inner (words_all (step_spelling (sign ++ ds)))
  number-inner sign [] s d = absurd (false≢true d)
  number-inner [] (d ∷ ds) s h =
      let p = and_parts (is_ascii_digit d) (list_all is_ascii_digit (d ∷ ds)) h in
      let q = and_parts (is_ascii_digit d) (list_all is_ascii_digit ds) p.1 in
      let same = step-words d ds [] (solo-from ds (digits-plain ds q.1)) (inl refl) ∙ append-nil (words_all (front_spelling d ds)) ∙ front-words d ds kinds.Number (digit-front d ds p.0) (kind-number (d ∷ ds) (ap is_digits (digit-unsigned d ds p.0) ∙ h)) in
      subst Inner (sym (ap (λ (t : List ℕ). words_all (step_spelling (d ∷ t))) (sym (append-nil ds)) ∙ same)) (λ rest. reads-alone (word_from kinds.Number (d ∷ ds)) (codes ")" ++ rest) (l.numbered [] (d ∷ ds) rest refl h) refl)
  number-inner (b ∷ []) (d ∷ ds) s h =
      let p = and_parts (is_ascii_digit d) (list_all is_ascii_digit (d ∷ ds)) h in
      let w = d ∷ ds in
      let same = step-words b w [] (solo-from w (digits-plain w p.1)) (inl refl) ∙ append-nil (words_all (front_spelling b w)) ∙ front-words b w kinds.Number (sign-front b w p.0) (kind-number (b ∷ w) (ap is_digits (sign-unsigned b w s) ∙ h)) in
      subst Inner (sym (ap (λ (t : List ℕ). words_all (step_spelling (b ∷ t))) (sym (append-nil w)) ∙ same)) (λ rest. reads-alone (word_from kinds.Number (b ∷ w)) (codes ")" ++ rest) (l.numbered (b ∷ []) w rest s h) refl)
  number-inner (b ∷ c ∷ sign) (d ∷ ds) s h = absurd (false≢true s)

  -- Steps.

  -- the first word alone, and what begins with the `+`
  single-inner : (b : ℕ) (w back : List ℕ) (kind : Kind) → are_plain w ≡ true → IsMarked 43 back → (nat_eq b 43 && not (begins_digit w)) ≡ false → word_kind (b ∷ w) ≡ kind → ((ws : List Word) → IsBack ws → Inner (word_from kind (b ∷ w) ∷ ws)) → Inner (words_all (step_spelling (b ∷ (w ++ back))))
  single-inner b w back kind h m e k reads =
      subst Inner (sym (step-words b w back (solo-from w h) m ∙ ap (λ (ws : List Word). ws ++ words_all (back_spelling back)) (front-words b w kind e k)))
      (reads (words_all (back_spelling back)) (back-reads back m))

  -- `n` behind a sign or none
  bare-inner : (sign minus plus : List ℕ) → is_sign sign ≡ true → IsMarked 45 minus → IsMarked 43 plus → Inner (words_all (step_spelling (sign ++ 110 ∷ (minus ++ plus))))
  bare-inner [] minus plus s m p =
      let h = minus-plain minus m in
      single-inner 110 minus plus kinds.Ident h p refl refl (λ ws back. name-first 110 minus ws h h back)
  bare-inner (b ∷ []) minus plus s m p = elim (or_cases (nat_eq b 43) (nat_eq b 45) s) [
    | inl e ↦ subst (λ (x : ℕ). Inner (words_all (step_spelling (x ∷ 110 ∷ (minus ++ plus))))) (sym (eqb-true b 43 e)) plus_first
    | inr e ↦ subst (λ (x : ℕ). Inner (words_all (step_spelling (x ∷ 110 ∷ (minus ++ plus))))) (sym (eqb-true b 45 e)) minus_first
  ]
    where
      h : are_plain minus ≡ true
      h = minus-plain minus m

      minus_first : Inner (words_all (step_spelling (45 ∷ 110 ∷ (minus ++ plus))))
      minus_first = single-inner 45 (110 ∷ minus) plus kinds.Ident h p refl refl (λ ws back. name-first 45 (110 ∷ minus) ws h h back)

      plus_first : Inner (words_all (step_spelling (43 ∷ 110 ∷ (minus ++ plus))))
      plus_first =
          let w = 110 ∷ minus in
          let back = words_all (back_spelling plus) in
          let front : words_all (front_spelling 43 w) ≡ mark (codes "+") ∷ word_from kinds.Ident w ∷ [] = words-single kinds.Delim (codes "+") (single kinds.Ident w ∷ []) ∙ ap (λ (ws : List Word). mark (codes "+") ∷ ws) (words-single kinds.Ident w []) in
          let behind = word_from kinds.Ident w ∷ back in
          subst Inner (sym (step-words 43 w plus (solo-from w h) p ∙ ap (λ (ws : List Word). ws ++ back) front))
          (λ rest. reads-first (mark (codes "+")) behind (codes ")" ++ rest) (l.added (spelled behind ++ (codes ")" ++ rest)) refl) refl (name-first 110 minus back h h (back-reads plus p) rest))
  bare-inner (b ∷ c ∷ sign) minus plus s m p = absurd (false≢true s)

  counted-inner : (sign ds minus plus : List ℕ) → is_sign sign ≡ true → is_digits ds ≡ true → IsMarked 45 minus → IsMarked 43 plus → Inner (words_all (step_spelling (sign ++ (ds ++ 110 ∷ (minus ++ plus)))))
  counted-inner sign [] minus plus s d m p = absurd (false≢true d)
  counted-inner [] (d ∷ ds) minus plus s h m p =
      let q = and_parts (is_ascii_digit d) (list_all is_ascii_digit (d ∷ ds)) h in
      let r = and_parts (is_ascii_digit d) (list_all is_ascii_digit ds) q.1 in
      let w = ds ++ 110 ∷ minus in
      let k = minus-plain minus m in
      subst (λ (t : List ℕ). Inner (words_all (step_spelling (d ∷ t)))) (append_assoc ds (110 ∷ minus) plus)
      (single-inner d w plus kinds.Dimension (plain-append ds (110 ∷ minus) (digits-plain ds r.1) k) p (digit-front d w q.0)
      (kind-dimension (d ∷ w) (ap begins_digit (digit-unsigned d w q.0) ∙ q.0) (ap (list_all is_ascii_digit) (digit-unsigned d w q.0) ∙ not-digits (d ∷ ds) minus))
      (λ ws back. dimension-first [] (d ∷ ds) minus ws refl h k back))
  counted-inner (b ∷ []) (d ∷ ds) minus plus s h m p =
      let q = and_parts (is_ascii_digit d) (list_all is_ascii_digit (d ∷ ds)) h in
      let w = (d ∷ ds) ++ 110 ∷ minus in
      let k = minus-plain minus m in
      subst (λ (t : List ℕ). Inner (words_all (step_spelling (b ∷ t)))) (append_assoc (d ∷ ds) (110 ∷ minus) plus)
      (single-inner b w plus kinds.Dimension (plain-append (d ∷ ds) (110 ∷ minus) (digits-plain (d ∷ ds) q.1) k) p (sign-front b w q.0)
      (kind-dimension (b ∷ w) (ap begins_digit (sign-unsigned b w s) ∙ q.0) (ap (list_all is_ascii_digit) (sign-unsigned b w s) ∙ not-digits (d ∷ ds) minus))
      (λ ws back. dimension-first (b ∷ []) (d ∷ ds) minus ws s h k back))
  counted-inner (b ∷ c ∷ sign) (d ∷ ds) minus plus s h m p = absurd (false≢true s)

  pub step-inner : (text : List ℕ) → is_step_text text ≡ true → Inner (words_all (step_spelling text))
  step-inner text h = elim (step-cases text h) [
    | inl w ↦ elim w [
      | inl e ↦ subst (λ (t : List ℕ). Inner (words_all (step_spelling t))) (sym e) (word-inner 111 (codes "dd") (words-single kinds.Ident (codes "odd") []) refl refl)
      | inr e ↦ subst (λ (t : List ℕ). Inner (words_all (step_spelling t))) (sym e) (word-inner 101 (codes "ven") (words-single kinds.Ident (codes "even") []) refl refl)
    ]
    | inr n ↦ elim n [
      | inl g ↦ subst (λ (t : List ℕ). Inner (words_all (step_spelling t))) (sym g.whole) (number-inner g.sign g.digits g.is_one g.are_digits)
      | inr g ↦ subst (λ (t : List ℕ). Inner (words_all (step_spelling t))) (sym g.whole) (stepped g.digits g.sign g.minus g.plus g.is_one g.are_digits g.is_minus g.is_plus)
    ]
  ]
    where
      stepped : (ds sign minus plus : List ℕ) → is_sign sign ≡ true → list_all is_ascii_digit ds ≡ true → IsMarked 45 minus → IsMarked 43 plus → Inner (words_all (step_spelling (sign ++ (ds ++ 110 ∷ (minus ++ plus)))))
      stepped [] sign minus plus s d m p = bare-inner sign minus plus s m p
      stepped (d ∷ ds) sign minus plus s h m p = counted-inner sign (d ∷ ds) minus plus s (ap₂ ◌&&◌ (and_parts (is_ascii_digit d) (list_all is_ascii_digit ds) h).0 h) m p
