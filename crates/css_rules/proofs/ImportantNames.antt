-- What means `important` begins with no `-`, so that a `!` before it is a stop.
use Rattle.std.proofs.Common.{◌≡◌, ◌<◌, ◌≤◌, ℕ, arith, List, [], ◌∷◌, ◌++◌, Bool, true, false, ◌||◌, refl, subst, sym, inl, inr, codes, nat_eq, ltb, ltb-true, ltb-false}
use Rattle.std.proofs.lemmas.Bool.{agree_below_at, cases_Bool, eqb-true, false≢true}
use Rattle.std.proofs.lemmas.Bool.Decides.{nat_tests}
use Rattle.std.specs.Str.{chars, is_utf8}
use lib.Utf8.{encode}
use Rattle.css_tokens.specs.declared.kind.Kind.{Kind}
use Rattle.css_tokens.specs.declared.kind.Kind.TheVariants as kinds
use Rattle.css_tokens.specs.Again.{is_stop}
use Rattle.css_tokens.specs.Names.{is_name, name_of_word}
use Rattle.css_tokens.specs.Tokens.{classes_of}
use Rattle.css_components.specs.Components.{is_ident_kind, is_keyword}

-- below 128 by a table
abbrev stops_or_dash : ℕ → Bool
stops_or_dash b = nat_eq b 45 || is_stop (classes_of (33 ∷ b ∷ []))

abbrev always : ℕ → Bool
always b = true

low-before : (b : ℕ) → b < 128 → stops_or_dash b ≡ true
low-before b l = agree_below_at stops_or_dash always 128 b refl l

high-before : (b : ℕ) → 128 ≤ b → is_stop (classes_of (33 ∷ b ∷ [])) ≡ true
high-before b h = grind (arith, nat_tests)

or-right : (a b : Bool) → a ≡ false → (a || b) ≡ true → b ≡ true
or-right true b e h = absurd (false≢true (sym e))
or-right false b e h = h

bang-before : (b : ℕ) (t : List ℕ) → nat_eq b 45 ≡ false → is_stop (classes_of (33 ∷ b ∷ t)) ≡ true
bang-before b t e = elim (cases_Bool (ltb b 128)) [
  | inl l ↦ or-right (nat_eq b 45) (is_stop (classes_of (33 ∷ b ∷ []))) e (low-before b (ltb-true b 128 l))
  | inr l ↦ high-before b (ltb-false b 128 l)
]

no-dash : (b : ℕ) (u : List ℕ) → is_keyword (codes "important") (name_of_word kinds.Ident (b ∷ u)) ≡ true → nat_eq b 45 ≡ false
no-dash b u h = elim (cases_Bool (nat_eq b 45)) [
  | inl e ↦ absurd (false≢true (subst (λ (x : ℕ). is_keyword (codes "important") (name_of_word kinds.Ident (x ∷ u)) ≡ true) (eqb-true b 45 e) h))
  | inr e ↦ e
]

pub important-stop : (k : Kind) (u rest : List ℕ) → is_ident_kind k ≡ true → is_keyword (codes "important") (name_of_word k u) ≡ true → is_stop (classes_of (codes "!" ++ (u ++ rest))) ≡ true
important-stop kinds.Ident [] rest i h = absurd (false≢true h)
important-stop kinds.Ident (b ∷ u) rest i h = bang-before b (u ++ rest) (no-dash b u h)
important-stop k u rest i h = absurd (false≢true i)

-- it is a name
pub important-name : is_name (codes "important") ≡ true
unfolding is_utf8 chars encode
important-name = refl
