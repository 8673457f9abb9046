-- What the texts of names mean: what is kept of a name is kept of that again.
use Rattle.std.proofs.Common.{◌≡◌, ℕ, List, [], ◌∷◌, true, ◌&&◌, refl, ap, ap₂, ◌∙◌, arith}
use Rattle.std.specs.Char.{to_ascii_lowercase}
use Rattle.std.proofs.lemmas.Bool.Decides.{nat_tests}
use lib.Pointwise.{bytes_decides}
use Rattle.css_tokens.specs.NameText.{name_text}
use Rattle.css_tokens.specs.Names.{is_name, name_of_word}
use Rattle.css_tokens.specs.Trees.{is_text}
use Rattle.css_tokens.specs.declared.kind.Kind.TheVariants as kinds
use Rattle.selector_types.specs.Names.{lowered, pseudo_text}
use Rattle.selector_types.specs.ReadableSelectors.{name_in_text, is_name_text, is_pseudo_text}
use Rattle.selector_types.proofs.LowerNames.{lower-name}

-- A name in lower case is in lower case.

lower-byte : (b : ℕ) → to_ascii_lowercase (to_ascii_lowercase b) ≡ to_ascii_lowercase b
lower-byte b = grind (arith, nat_tests)

pub lower-twice : (n : List ℕ) → lowered (lowered n) ≡ lowered n
lower-twice [] = refl
lower-twice (b ∷ n) = ap₂ (λ (x : ℕ) (xs : List ℕ). x ∷ xs) (lower-byte b) (lower-twice n)

-- The text of a name is one, and so is what is kept of a name.

alike-text : (a b : List ℕ) → a ≡ b → is_text a b ≡ true
alike-text a b e = (bytes_decides a b).1 e

abbrev Means : Type 0
Means = (n : List ℕ) → is_name n ≡ true → name_of_word kinds.Ident (name_text n) ≡ n

pub name-kept : Means → (n : List ℕ) → is_name n ≡ true → is_name_text (name_text n) ≡ true
name-kept means n h =
    (let e = means n h in
    ap₂ ◌&&◌ (ap is_name e ∙ h) (alike-text (name_text (name_in_text (name_text n))) (name_text n) (ap name_text e)))

pub pseudo-kept : Means → (n : List ℕ) → is_name n ≡ true → is_pseudo_text (pseudo_text n) ≡ true
pseudo-kept means n h =
    (let k = lower-name n h in
    let e = means (lowered n) k in
    ap₂ ◌&&◌ (ap is_name e ∙ k) (alike-text (pseudo_text (name_in_text (pseudo_text n))) (pseudo_text n) (ap pseudo_text e ∙ ap name_text (lower-twice n))))
