-- What is left of a pattern fits what is left of a text.
use Rattle.std.proofs.Common.{◌≡◌, suc, zero, nat_eq, List, [], ◌∷◌, Bool, true, false, ◌||◌, ◌&&◌, inl, inr, refl, sym, ap, ap₂, ◌∙◌, subst, eqb-true, get_or, not, Option, Some, if◌then◌else◌}
use Rattle.std.proofs.lemmas.Bool.{cases_Bool, and_parts, or_cases}
use Rattle.std.proofs.Math.Path.{fun_ext}
use Rattle.css_tokens.specs.declared.class.Class.{Class}
use Rattle.css_tokens.specs.declared.class.Class.TheVariants as class
use Rattle.css_tokens.specs.declared.kind.Kind.{Kind}
use Rattle.css_tokens.specs.Characters.{has, is_class, place_of, classes, in_text}
use Rattle.css_tokens.specs.Patterns.{Pattern, Never, Empty, One, Many, Either, Then, Closed, Star, UpTo, fits, any_cut, any_cuts, is_repeated}
use Rattle.css_tokens.specs.Kinds.{Row, begins, kind_of}
use Rattle.css_tokens.specs.Private.Machine.{is_set, is_pattern, holds, is_never, is_blank, either, followed, derive, derived}

-- each class stands in its place
pub at_place : (c : Class) → get_or classes (place_of c) class.Blank ≡ c
at_place class.Blank = refl
at_place class.Feed = refl
at_place class.Return = refl
at_place class.FormFeed = refl
at_place class.DoubleQuote = refl
at_place class.SingleQuote = refl
at_place class.Hash = refl
at_place class.Star = refl
at_place class.Plus = refl
at_place class.Minus = refl
at_place class.Dot = refl
at_place class.Slash = refl
at_place class.Digit = refl
at_place class.Exponent = refl
at_place class.Hex = refl
at_place class.Letter = refl
at_place class.Less = refl
at_place class.Greater = refl
at_place class.Bang = refl
at_place class.At = refl
at_place class.Percent = refl
at_place class.Colon = refl
at_place class.Semicolon = refl
at_place class.Comma = refl
at_place class.OpenParen = refl
at_place class.Open = refl
at_place class.CloseParen = refl
at_place class.Close = refl
at_place class.Symbol = refl
at_place class.Backslash = refl
at_place class.High = refl
at_place class.Control = refl

-- classes, sets and patterns that pass the test of their names are the same
pub is_class-eq : (a b : Class) → is_class a b ≡ true → a ≡ b
is_class-eq a b h = sym (at_place a) ∙ ap (λ n. get_or classes n class.Blank) (eqb-true (place_of a) (place_of b) h) ∙ at_place b

pub is_set-eq : (a b : List Class) → is_set a b ≡ true → a ≡ b
is_set-eq [] [] h = refl
is_set-eq [] (y ∷ ys) h = cc
is_set-eq (x ∷ xs) [] h = cc
is_set-eq (x ∷ xs) (y ∷ ys) h = let p = and_parts (is_class x y) (is_set xs ys) h in ap₂ ◌∷◌ (is_class-eq x y p.0) (is_set-eq xs ys p.1)

pub is_pattern-eq : (p q : Pattern) → is_pattern p q ≡ true → p ≡ q
is_pattern-eq Never Never h = refl
is_pattern-eq Empty Empty h = refl
is_pattern-eq (One a) (One b) h = ap One (is_set-eq a b h)
is_pattern-eq (Many a) (Many b) h = ap Many (is_set-eq a b h)
is_pattern-eq (Either p q) (Either r s) h = let e = and_parts (is_pattern p r) (is_pattern q s) h in ap₂ Either (is_pattern-eq p r e.0) (is_pattern-eq q s e.1)
is_pattern-eq (Then p q) (Then r s) h = let e = and_parts (is_pattern p r) (is_pattern q s) h in ap₂ Then (is_pattern-eq p r e.0) (is_pattern-eq q s e.1)
is_pattern-eq (Closed true) (Closed true) h = refl
is_pattern-eq (Closed false) (Closed false) h = refl
is_pattern-eq (Star p) (Star q) h = ap Star (is_pattern-eq p q h)
is_pattern-eq (UpTo n a) (UpTo m b) h = let e = and_parts (nat_eq n m) (is_set a b) h in ap₂ UpTo (eqb-true n m e.0) (is_set-eq a b e.1)
is_pattern-eq p q h = cc

is_never-eq : (p : Pattern) → is_never p ≡ true → p ≡ Never
is_never-eq Never h = refl
is_never-eq p h = cc

is_blank-eq : (p : Pattern) → is_blank p ≡ true → p ≡ Empty
is_blank-eq Empty h = refl
is_blank-eq p h = cc

or_false : (b : Bool) → b ≡ (b || false)
or_false true = refl
or_false false = refl

absorbed : (a b : Bool) → (b ≡ true → a ≡ true) → a ≡ (a || b)
absorbed true b h = refl
absorbed false true h = h refl
absorbed false false h = refl

same_fits : (p q : Pattern) (s : List Class) → is_pattern p q ≡ true → fits q s ≡ true → fits p s ≡ true
same_fits p q s h f = subst (λ r. fits r s ≡ true) (sym (is_pattern-eq p q h)) f

or_left : (a b : Bool) → a ≡ true → (a || b) ≡ true
or_left true b h = refl
or_left false b h = cc

or_right : (a b : Bool) → b ≡ true → (a || b) ≡ true
or_right true b h = refl
or_right false b h = h

none_cut : (p q : Pattern) (s : List Class) → fits p [] ≡ true → fits q s ≡ true → any_cut (fits p) (fits q) s ≡ true
none_cut p q [] h f = ap₂ ◌&&◌ h f
none_cut p q (x ∷ s) h f = or_left (fits p [] && fits q (x ∷ s)) _ (ap₂ ◌&&◌ h f)

holds-fits : (p q : Pattern) (s : List Class) → holds p q ≡ true → fits q s ≡ true → fits p s ≡ true
holds-fits (Either a b) q s h f =
    elim (or_cases (is_pattern (Either a b) q) (holds a q || holds b q) h) [
      | inl e ↦ same_fits (Either a b) q s e f
      | inr e ↦ elim (or_cases (holds a q) (holds b q) e) [
        | inl i ↦ or_left (fits a s) (fits b s) (holds-fits a q s i f)
        | inr i ↦ or_right (fits a s) (fits b s) (holds-fits b q s i f)
      ]
    ]
holds-fits Never q s h f = same_fits Never q s h f
holds-fits Empty q s h f = same_fits Empty q s h f
holds-fits (One a) q s h f = same_fits (One a) q s h f
holds-fits (Many a) q s h f = same_fits (Many a) q s h f
holds-fits (Then a b) q s h f =
    elim (or_cases (is_pattern (Then a b) q) (fits a [] && holds b q) h) [
      | inl e ↦ same_fits (Then a b) q s e f
      | inr e ↦ let p = and_parts (fits a []) (holds b q) e in none_cut a b s p.0 (holds-fits b q s p.1 f)
    ]
holds-fits (Closed b) q s h f = same_fits (Closed b) q s h f
holds-fits (Star a) q s h f = same_fits (Star a) q s h f
holds-fits (UpTo n a) q s h f = same_fits (UpTo n a) q s h f

fits-either : (p q : Pattern) (s : List Class) → fits (either p q) s ≡ (fits p s || fits q s)
fits-either p q s =
    elim (cases_Bool (is_never p)) [
      | inl e ↦ rw e (rw (is_never-eq p e))
      | inr e ↦ rw e (elim (cases_Bool (is_never q)) [
        | inl f ↦ rw f (or_false (fits p s) ∙ ap (λ r. fits p s || fits r s) (sym (is_never-eq q f)))
        | inr f ↦ rw f (elim (cases_Bool (holds p q)) [
          | inl g ↦ rw g (absorbed (fits p s) (fits q s) (holds-fits p q s g))
          | inr g ↦ rw g
        ])
      ])
    ]

any_cut-never : (rest : List Class → Bool) (s : List Class) → any_cut (fits Never) rest s ≡ false
any_cut-never rest [] = refl
any_cut-never rest (x ∷ s) = any_cut-never rest s

any_cut-empty : (rest : List Class → Bool) (s : List Class) → any_cut (fits Empty) rest s ≡ rest s
any_cut-empty rest [] = refl
any_cut-empty rest (x ∷ s) = ap (λ b. rest (x ∷ s) || b) (any_cut-never rest s) ∙ sym (or_false (rest (x ∷ s)))

fits-followed : (p q : Pattern) (s : List Class) → fits (followed p q) s ≡ any_cut (fits p) (fits q) s
fits-followed p q s =
    elim (cases_Bool (is_never p)) [
      | inl e ↦ rw e (sym (ap (λ r. any_cut (fits r) (fits q) s) (is_never-eq p e) ∙ any_cut-never (fits q) s))
      | inr e ↦ rw e (elim (cases_Bool (is_blank p)) [
        | inl f ↦ rw f (sym (ap (λ r. any_cut (fits r) (fits q) s) (is_blank-eq p f) ∙ any_cut-empty (fits q) s))
        | inr f ↦ rw f
      ])
    ]

fits-if : (b : Bool) (p : Pattern) (s : List Class) → (b && fits p s) ≡ fits (if b then p else Never) s
fits-if true p s = refl
fits-if false p s = refl

fits-if_else : (b c : Bool) (p q : Pattern) (s : List Class) → (if b then fits p s else (c && fits q s)) ≡ fits (if b then p else (if c then q else Never)) s
fits-if_else true c p q s = refl
fits-if_else false c p q s = fits-if c q s

or_swap : (a b : Bool) → (a || b) ≡ (b || a)
or_swap true true = refl
or_swap true false = refl
or_swap false true = refl
or_swap false false = refl

and_true : (b : Bool) → b ≡ (b && true)
and_true true = refl
and_true false = refl

-- the pieces behind the first are pieces again
cuts-cut : (piece front : List Class → Bool) (s : List Class) → any_cuts piece front s ≡ any_cut front (is_repeated piece) s
cuts-cut piece front [] = and_true (front [])
cuts-cut piece front (x ∷ s) = ap (λ b. (front [] && any_cuts piece (λ t. piece (x ∷ t)) s) || b) (cuts-cut piece (λ t. front (x ∷ t)) s)

-- the derivative fits what is left of the text
pub fits-derive : (x : Class) (p : Pattern) (s : List Class) → fits p (x ∷ s) ≡ fits (derive x p) s
fits-derive x Never s = refl
fits-derive x Empty s = refl
fits-derive x (One set) s = fits-if (has set x) Empty s
fits-derive x (Many set) s = fits-if (has set x) (Many set) s
fits-derive x (Either p q) s = ap₂ ◌||◌ (fits-derive x p s) (fits-derive x q s) ∙ sym (fits-either (derive x p) (derive x q) s)
fits-derive x (Then p q) s =
    or_swap (fits p [] && fits q (x ∷ s)) (any_cut (λ t. fits p (x ∷ t)) (fits q) s)
    ∙ ap₂ ◌||◌ (ap (λ f. any_cut f (fits q) s) (fun_ext (fits-derive x p)) ∙ sym (fits-followed (derive x p) q s))
    (ap (λ b. fits p [] && b) (fits-derive x q s) ∙ fits-if (fits p []) (derive x q) s)
    ∙ sym (fits-either (followed (derive x p) q) (if fits p [] then derive x q else Never) s)
fits-derive x (Star p) s = cuts-cut (fits p) (λ t. fits p (x ∷ t)) s ∙ ap (λ f. any_cut f (fits (Star p)) s) (fun_ext (fits-derive x p)) ∙ sym (fits-followed (derive x p) (Star p) s)
fits-derive x (UpTo zero set) s = refl
fits-derive x (UpTo (suc n) set) s = fits-if (has set x) (UpTo n set) s
fits-derive x (Closed starred) s = fits-if_else (starred && is_class x class.Slash) (has in_text x) Empty (Closed (is_class x class.Star)) s

never_fits : (p : Pattern) (s : List Class) → is_never p ≡ true → fits p s ≡ false
never_fits p s h = ap (λ r. fits r s) (is_never-eq p h)

-- and so do tables
pub kind_of-derived : (x : Class) (rows : List Row) (s after : List Class) → kind_of rows (x ∷ s) after ≡ kind_of (derived x rows) s after
kind_of-derived x [] s after = refl
kind_of-derived x (r ∷ rows) s after =
    elim (cases_Bool (is_never (derive x r.pattern))) [
      | inl e ↦ rw e (ap (λ b. if b && not (begins r.barred after) then Some r.kind else kind_of rows (x ∷ s) after) (fits-derive x r.pattern s ∙ never_fits (derive x r.pattern) s e) ∙ kind_of-derived x rows s after)
      | inr e ↦ rw e (ap₂ (λ (b : Bool) (k : Option Kind). if b && not (begins r.barred after) then Some r.kind else k) (fits-derive x r.pattern s) (kind_of-derived x rows s after))
    ]
