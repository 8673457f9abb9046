-- Patterns of characters, and the texts that they fit; they stand for the diagrams of CSS Syntax 3, section 4.1.
use Rattle.std.specs.Prelude.{ℕ, suc, zero, List, [], ◌∷◌, Bool, true, false, ◌||◌, ◌&&◌, if◌then◌else◌}
use Rattle.std.specs.List.{list_all}
use Rattle.css_tokens.specs.declared.class.Class.{Class}
use Rattle.css_tokens.specs.declared.class.Class.TheVariants as class
use Rattle.css_tokens.specs.Characters.{has, is_class, in_text}

-- `Never` fits no text, `Empty` the empty one, `One` a character of the set, `Many` any number of them, `Either` what one of two fits, and `Then` one after the other.
-- `Star` fits any number of what its pattern fits, one after the other, and `UpTo` at most so many characters of the set.
-- `Closed` fits what follows the `/*` of a comment: up to and including the first `*/`. Its flag says that a `*` stands right before.
pub data Pattern : Type 0 where
  Never : Pattern
  Empty : Pattern
  One : List Class → Pattern
  Many : List Class → Pattern
  Either : Pattern → Pattern → Pattern
  Then : Pattern → Pattern → Pattern
  Closed : Bool → Pattern
  Star : Pattern → Pattern
  UpTo : ℕ → List Class → Pattern

-- one pattern or the other
infixr 30 ◌∣◌
abbrev pub ◌∣◌ : Pattern → Pattern → Pattern
p ∣ q = Either p q

-- one pattern and then the other
infixr 40 ◌⋅◌
abbrev pub ◌⋅◌ : Pattern → Pattern → Pattern
p ⋅ q = Then p q

-- nothing, or what p fits
abbrev pub optional : Pattern → Pattern
optional p = p ∣ Empty

-- one or more characters of the set
abbrev pub some : List Class → Pattern
some set = One set ⋅ Many set

-- is the text empty?
abbrev pub is_empty : List Class → Bool
is_empty [] = true
is_empty (x ∷ s) = false

-- is there one character, and of the set?
abbrev pub is_one : List Class → List Class → Bool
is_one set [] = false
is_one set (x ∷ s) = has set x && is_empty s

-- can the text be cut so that the front passes the one test and the rest the other?
abbrev pub any_cut : (List Class → Bool) → (List Class → Bool) → List Class → Bool
any_cut front rest [] = front [] && rest []
any_cut front rest (x ∷ s) = (front [] && rest (x ∷ s)) || any_cut (λ t. front (x ∷ t)) rest s

-- can the text be cut into pieces of which the first passes the test `front`, and the others the test `piece`, none of these empty?
abbrev pub any_cuts : (List Class → Bool) → (List Class → Bool) → List Class → Bool
any_cuts piece front [] = front []
any_cuts piece front (x ∷ s) = (front [] && any_cuts piece (λ t. piece (x ∷ t)) s) || any_cuts piece (λ t. front (x ∷ t)) s

-- is the text one piece after another that pass the test?
abbrev pub is_repeated : (List Class → Bool) → List Class → Bool
is_repeated piece [] = true
is_repeated piece (x ∷ s) = any_cuts piece (λ t. piece (x ∷ t)) s

-- are there at most n characters, all of the set?
abbrev pub is_up_to : ℕ → List Class → List Class → Bool
is_up_to n set [] = true
is_up_to zero set (x ∷ s) = false
is_up_to (suc n) set (x ∷ s) = has set x && is_up_to n set s

-- does the first `*/` end the text?
abbrev pub is_closed : Bool → List Class → Bool
is_closed starred [] = false
is_closed starred (x ∷ s) = if starred && is_class x class.Slash then is_empty s else (has in_text x && is_closed (is_class x class.Star) s)

-- does the pattern fit the whole text?
abbrev pub fits : Pattern → List Class → Bool
fits Never s = false
fits Empty s = is_empty s
fits (One set) s = is_one set s
fits (Many set) s = list_all (has set) s
fits (Either p q) s = fits p s || fits q s
fits (Then p q) s = any_cut (fits p) (fits q) s
fits (Closed starred) s = is_closed starred s
fits (Star p) s = is_repeated (fits p) s
fits (UpTo n set) s = is_up_to n set s
