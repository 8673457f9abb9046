-- A content that is compared with a word as it is decoded.
use Rattle.std.proofs.Common.{◌≡◌, ℕ, ◌+◌, ◌/◌, ◌<◌, ◌≤◌, List, [], ◌∷◌, ◌++◌, map, length, drop, get_or, Bool, true, false, ltb, cond, refl, sym, inl, inr, ap, ◌∙◌, subst, arith, nat_eq, ltb-true, add-one, drop-cons, Option, Some, None}
use Rattle.std.specs.Prelude.{◌==◌}
use Rattle.std.proofs.lemmas.Bool.{cases_Bool, and_parts}
use Rattle.std.proofs.lemmas.Bool.Decides.{nat_tests}
use Rattle.std.specs.Char.{is_ascii, to_ascii_lowercase}
use Rattle.std.specs.List.{list_all}
use lib.Pointwise.{pointwise}
use lib.Utf8.{encode, next}
use Rattle.css_tokens.specs.declared.content.Part.{Part}
use Rattle.css_tokens.specs.declared.content.Step.{Step}
use Rattle.css_tokens.specs.Contents.{content, content_from, flush, never, step}
use Rattle.css_tokens.specs.Private.Contents.{taken}
use Rattle.css_tokens.specs.Private.Keywords.{is_done, left_after}

-- what is left behind one text and then another
abbrev pub then_after : List ℕ → Option (List ℕ) → Option (List ℕ)
then_after text None = None
then_after text (Some word) = left_after word text

pub left-append : (word xs ys : List ℕ) → left_after word (xs ++ ys) ≡ then_after ys (left_after word xs)
left-append word [] ys = refl
left-append [] (b ∷ xs) ys = refl
left-append (w ∷ word) (b ∷ xs) ys = elim (cases_Bool (nat_eq (to_ascii_lowercase b) w)) [
  | inl e ↦ rw e (left-append word xs ys)
  | inr e ↦ rw e refl
]

-- no byte from 80 hexadecimal on is one of an ASCII word
lower-high : (b w : ℕ) → 128 ≤ b → is_ascii w ≡ true → nat_eq (to_ascii_lowercase b) w ≡ false
lower-high b w h k = grind (arith, nat_tests)

begins-high : (word : List ℕ) (b : ℕ) (bs : List ℕ) → list_all is_ascii word ≡ true → 128 ≤ b → left_after word (b ∷ bs) ≡ None
begins-high [] b bs ascii h = refl
begins-high (w ∷ word) b bs ascii h = rw (lower-high b w h (and_parts (is_ascii w) (list_all is_ascii word) ascii).0) refl

pub left-high : (word : List ℕ) (c : ℕ) → list_all is_ascii word ≡ true → 128 ≤ c → left_after word (encode c) ≡ None
unfolding encode
left-high word c ascii h =
    elim (cases_Bool (ltb c 128)) [
      | inl e ↦ let k = ltb-true c 128 e in absurd (omega arith)
      | inr e ↦ rw e (elim (cases_Bool (ltb c 2048)) [
        | inl f ↦ rw f (begins-high word (192 + c / 64) (next c ∷ []) ascii (omega arith))
        | inr f ↦ rw f (elim (cases_Bool (ltb c 65536)) [
          | inl g ↦ rw g (begins-high word (224 + c / 4096) (next (c / 64) ∷ next c ∷ []) ascii (omega arith))
          | inr g ↦ rw g (begins-high word (240 + c / 262144) (next (c / 4096) ∷ next (c / 64) ∷ next c ∷ []) ascii (omega arith))
        ])
      ])
    ]

pub ruleset keyword_steps = (left-append, left-high)

-- what is left of an ASCII word is one
pub ascii-left : (word text rest : List ℕ) → list_all is_ascii word ≡ true → left_after word text ≡ Some rest → list_all is_ascii rest ≡ true
ascii-left word [] rest ascii is = let same : word ≡ rest = cc is in subst (λ (t : List ℕ). list_all is_ascii t ≡ true) same ascii
ascii-left [] (b ∷ text) rest ascii is = absurd (cc is)
ascii-left (w ∷ word) (b ∷ text) rest ascii is = by (nat_eq (to_ascii_lowercase b) w) (ascii-left word text rest (and_parts (is_ascii w) (list_all is_ascii word) ascii).1) is
  where
    by : (same : Bool) → (left_after word text ≡ Some rest → list_all is_ascii rest ≡ true) → cond same (left_after word text) None ≡ Some rest → list_all is_ascii rest ≡ true
    by true more e = more e
    by false more e = absurd (cc e)

-- nothing is left where the text is the word
whole : (word text : List ℕ) → is_done (left_after word text) ≡ pointwise nat_eq (map to_ascii_lowercase text) word
whole [] [] = refl
whole [] (b ∷ text) = refl
whole (w ∷ word) [] = refl
whole (w ∷ word) (b ∷ text) = elim (cases_Bool (nat_eq (to_ascii_lowercase b) w)) [
  | inl e ↦ rw e (whole word text)
  | inr e ↦ rw e refl
]

pub empty-done : (word : List ℕ) → (length word == 0) ≡ is_done (Some word)
empty-done [] = refl
empty-done (w ∷ word) = grind arith

-- what is left of the word, and what is left of the text
abbrev pub From : List ℕ → List ℕ → List ℕ → Part → List ℕ → Type 0
From text word left p rest = left_after word (content never text) ≡ left_after left (content_from never p rest)

-- one byte more
from-next : (text word left : List ℕ) (i b : ℕ) (p : Part) (s : Step) → i < length text → b ≡ get_or text i 0 → taken s b ≡ step never p b → From text word left p (drop i text)
    → left_after word (content never text) ≡ then_after (content_from never s.part (drop (i + 1) text)) (left_after left (taken s b).1)
from-next text word left i b p s w e f h =
    let d : drop i text ≡ b ∷ drop (i + 1) text = rw (e, add-one, drop-cons text i 0) in
    h ∙ ap (λ t. left_after left (content_from never p t)) d
    ∙ ap (λ (x : Part × List ℕ). left_after left (x.1 ++ content_from never x.0 (drop (i + 1) text))) (sym f)
    ∙ left-append left (taken s b).1 (content_from never s.part (drop (i + 1) text))

pub from-turn : (text word left rest : List ℕ) (i b : ℕ) (p : Part) (s : Step) → i < length text → b ≡ get_or text i 0 → taken s b ≡ step never p b
    → left_after left (taken s b).1 ≡ Some rest → From text word left p (drop i text) → From text word rest s.part (drop (i + 1) text)
from-turn text word left rest i b p s w e f g h = from-next text word left i b p s w e f h ∙ ap (then_after (content_from never s.part (drop (i + 1) text))) g

pub from-other : (text word left : List ℕ) (i b : ℕ) (p : Part) (s : Step) → i < length text → b ≡ get_or text i 0 → taken s b ≡ step never p b
    → left_after left (taken s b).1 ≡ None → From text word left p (drop i text) → false ≡ pointwise nat_eq (map to_ascii_lowercase (content never text)) word
from-other text word left i b p s w e f g h =
    sym (ap is_done (from-next text word left i b p s w e f h ∙ ap (then_after (content_from never s.part (drop (i + 1) text))) g))
    ∙ whole word (content never text)

pub from-end : (text word left : List ℕ) (p : Part) → From text word left p [] → is_done (left_after left (flush p)) ≡ pointwise nat_eq (map to_ascii_lowercase (content never text)) word
from-end text word left p h = ap is_done (sym h) ∙ whole word (content never text)
