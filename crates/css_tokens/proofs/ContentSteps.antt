-- A content that is compared with `url` as it is decoded.
use Rattle.std.proofs.Common.{◌≡◌, ℕ, zero, suc, ◌+◌, ◌-◌, ◌*◌, ◌/◌, ◌<◌, ◌≤◌, List, [], ◌∷◌, ◌++◌, map, length, drop, get_or, true, false, ◌&&◌, ltb, cond, refl, sym, inl, inr, ap, ap₂, ◌∙◌, subst, arith, codes, nat_eq, ltb-true, nat_lt, add-one, drop-cons}
use Rattle.std.proofs.lemmas.Bool.{cases_Bool, and_parts, lt-ltb}
use Rattle.std.proofs.lemmas.Bool.Decides.{nat_tests}
use Rattle.std.specs.Char.{to_ascii_lowercase}
use lib.Pointwise.{pointwise}
use lib.Utf8.{encode, next}
use Rattle.css_tokens.specs.declared.content.Part.{Part}
use Rattle.css_tokens.specs.declared.content.Part.TheVariants.{Digits}
use Rattle.css_tokens.specs.declared.content.Step.{Step}
use Rattle.css_tokens.specs.declared.content.Letters.{Letters}
use Rattle.css_tokens.specs.declared.content.Letters.TheVariants.{Nothing, U, Ur, Url, Other}
use Rattle.css_tokens.specs.Contents.{content, content_from, flush, is_paren, is_url_name, step}
use Rattle.css_tokens.specs.Private.Contents.{is_bounded, is_whole, letters_after, next_letter, room, taken}

letters_other : (t : List ℕ) → letters_after Other t ≡ Other
letters_other [] = refl
letters_other (b ∷ t) = letters_other t

pub letters-append : (l : Letters) (xs ys : List ℕ) → letters_after l (xs ++ ys) ≡ letters_after (letters_after l xs) ys
letters-append l [] ys = refl
letters-append l (b ∷ xs) ys = letters-append (next_letter l b) xs ys

-- no byte from 80 hexadecimal on is one of the letters
lower-high : (b n : ℕ) → 128 ≤ b → n < 128 → nat_eq (to_ascii_lowercase b) n ≡ false
lower-high b n h k = grind (arith, nat_tests)

next-high : (l : Letters) (b : ℕ) → 128 ≤ b → next_letter l b ≡ Other
next-high Nothing b h = ap (λ x. cond x U Other) (lower-high b 117 h (omega arith))
next-high U b h = ap (λ x. cond x Ur Other) (lower-high b 114 h (omega arith))
next-high Ur b h = ap (λ x. cond x Url Other) (lower-high b 108 h (omega arith))
next-high Url b h = refl
next-high Other b h = refl

begins-high : (l : Letters) (b : ℕ) (bs : List ℕ) → 128 ≤ b → letters_after l (b ∷ bs) ≡ Other
begins-high l b bs h = ap (λ m. letters_after m bs) (next-high l b h) ∙ letters_other bs

pub letters-high : (l : Letters) (c : ℕ) → 128 ≤ c → letters_after l (encode c) ≡ Other
unfolding encode
letters-high l c h =
    elim (cases_Bool (ltb c 128)) [
      | inl e ↦ let k = ltb-true c 128 e in absurd (omega arith)
      | inr e ↦ rw e (elim (cases_Bool (ltb c 2048)) [
        | inl f ↦ rw f (begins-high l (192 + c / 64) (next c ∷ []) (omega arith))
        | inr f ↦ rw f (elim (cases_Bool (ltb c 65536)) [
          | inl g ↦ rw g (begins-high l (224 + c / 4096) (next (c / 64) ∷ next c ∷ []) (omega arith))
          | inr g ↦ rw g (begins-high l (240 + c / 262144) (next (c / 4096) ∷ next (c / 64) ∷ next c ∷ []) (omega arith))
        ])
      ])
    ]

pub ruleset letter_steps = (letters-append, letters-high)

-- the letters are those of `url` where the text is
whole_url : (t : List ℕ) → is_whole (letters_after Url t) ≡ pointwise nat_eq (map to_ascii_lowercase t) []
whole_url [] = refl
whole_url (b ∷ t) = ap is_whole (letters_other t)

whole_ur : (t : List ℕ) → is_whole (letters_after Ur t) ≡ pointwise nat_eq (map to_ascii_lowercase t) (codes "l")
whole_ur [] = refl
whole_ur (b ∷ t) = elim (cases_Bool (nat_eq (to_ascii_lowercase b) 108)) [
  | inl e ↦ rw e (whole_url t)
  | inr e ↦ rw e (ap is_whole (letters_other t))
]

whole_u : (t : List ℕ) → is_whole (letters_after U t) ≡ pointwise nat_eq (map to_ascii_lowercase t) (codes "rl")
whole_u [] = refl
whole_u (b ∷ t) = elim (cases_Bool (nat_eq (to_ascii_lowercase b) 114)) [
  | inl e ↦ rw e (whole_ur t)
  | inr e ↦ rw e (ap is_whole (letters_other t))
]

whole_nothing : (t : List ℕ) → is_whole (letters_after Nothing t) ≡ pointwise nat_eq (map to_ascii_lowercase t) (codes "url")
whole_nothing [] = refl
whole_nothing (b ∷ t) = elim (cases_Bool (nat_eq (to_ascii_lowercase b) 117)) [
  | inl e ↦ rw e (whole_u t)
  | inr e ↦ rw e (ap is_whole (letters_other t))
]

-- the letters of a name, from what is left of it
abbrev pub From : List ℕ → Letters → Part → List ℕ → Type 0
From text l p rest = letters_after Nothing (content is_paren text) ≡ letters_after l (content_from is_paren p rest)

pub from_turn : (text : List ℕ) (i b : ℕ) (l m : Letters) (p : Part) (s : Step) → i < length text → b ≡ get_or text i 0 → taken s b ≡ step is_paren p b → m ≡ letters_after l (taken s b).1 → From text l p (drop i text) → From text m s.part (drop (i + 1) text)
from_turn text i b l m p s w e f g h =
    let d : drop i text ≡ b ∷ drop (i + 1) text = rw (e, add-one, drop-cons text i 0) in
    h ∙ ap (λ t. letters_after l (content_from is_paren p t)) d
    ∙ ap (λ (x : Part × List ℕ). letters_after l (x.1 ++ content_from is_paren x.0 (drop (i + 1) text))) (sym f)
    ∙ letters-append l (taken s b).1 (content_from is_paren s.part (drop (i + 1) text))
    ∙ ap (λ k. letters_after k (content_from is_paren s.part (drop (i + 1) text))) (sym g)

pub from_other : (text : List ℕ) (p : Part) (rest : List ℕ) (l : Letters) → l ≡ Other → From text l p rest → false ≡ is_url_name text
from_other text p rest l e h = sym (sym (whole_nothing (content is_paren text)) ∙ ap is_whole (h ∙ ap (λ k. letters_after k (content_from is_paren p rest)) e ∙ letters_other (content_from is_paren p rest)))

pub from_end : (text : List ℕ) (p : Part) (l m : Letters) → m ≡ letters_after l (flush p) → From text l p [] → is_whole m ≡ is_url_name text
from_end text p l m e h = ap is_whole (e ∙ sym h) ∙ whole_nothing (content is_paren text)

room-within : (more : ℕ) → room more ≤ 0x100_0000
room-within zero = omega arith
room-within (suc more) = let h = room-within more in omega arith

-- a further digit finds room
pub bounded_more : (more v d : ℕ) → is_bounded (Digits more v) ≡ true → 0 < more → d < 16 → is_bounded (Digits (more - 1) (v * 16 + d)) ≡ true
bounded_more zero v d h l k = absurd (omega arith)
bounded_more (suc more) v d h l k =
    let p = and_parts (nat_lt v (room more / 16)) (nat_lt v 0x100_0000) h in
    let a = ltb-true v (room more / 16) p.0 in
    let w = room-within more in
    let e : suc more - 1 ≡ more = omega arith in
    subst (λ (n : ℕ). is_bounded (Digits n (v * 16 + d)) ≡ true) (sym e)
    (ap₂ ◌&&◌ (lt-ltb (v * 16 + d) (room more) (omega arith)) (lt-ltb (v * 16 + d) 0x100_0000 (omega arith)))
