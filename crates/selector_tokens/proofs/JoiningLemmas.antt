-- Lists that are put together from left to right.
use Rattle.std.proofs.Common.{◌≡◌, ℕ, List, [], ◌∷◌, ◌++◌, refl, sym, ap, ◌∙◌, append_assoc}
use Rattle.std.specs.Prelude.{Option, Some, None}
use Rattle.std.specs.Option.{option_map}
use Rattle.std.proofs.lemmas.List.{append-nil, take_min, drop_min}
use Rattle.css_tokens.specs.Piece.{Piece}
use Rattle.selector_tokens.specs.Arguments.{kind_text, text_before, texts_of}

-- what is put together so far, in front of the rest
abbrev pub onto : {A : Type 0} → List A → Option (List A) → Option (List A)
onto front rest = option_map (λ r. front ++ r) rest

pub onto-none : {A : Type 0} (o : Option (List A)) → onto [] o ≡ o
onto-none None = refl
onto-none (Some r) = refl

pub onto-more : {A : Type 0} (front more : List A) (o : Option (List A)) → onto (front ++ more) o ≡ onto front (onto more o)
onto-more front more None = refl
onto-more front more (Some r) = ap (λ xs. Some xs) (append_assoc front more r)

-- one more token of AN+B
pub text-turn : (white joined text : List ℕ) (p : Piece) (ps : List Piece) → kind_text white p.kind p.text ≡ Some text → onto (joined ++ text) (texts_of white ps) ≡ onto joined (texts_of white (p ∷ ps))
text-turn white joined text p ps e = onto-more joined text (texts_of white ps) ∙ ap (λ (o : Option (List ℕ)). onto joined (text_before o (texts_of white ps))) (sym e)

-- a token that cannot stand in it
pub text-fails : (white joined : List ℕ) (p : Piece) (ps : List Piece) → kind_text white p.kind p.text ≡ None → onto joined (texts_of white (p ∷ ps)) ≡ None
text-fails white joined p ps e = ap (λ (o : Option (List ℕ)). onto joined (text_before o (texts_of white ps))) e

pub text-ends : (white joined : List ℕ) → onto joined (texts_of white []) ≡ Some joined
text-ends white joined = ap (λ (t : List ℕ). Some t) (append-nil joined)

-- a list cut at a place, or at its end where it is shorter
pub ruleset cuts = (take_min, drop_min)
