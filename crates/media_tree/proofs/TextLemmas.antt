-- Texts that are the same, and the items of a loop.
use Rattle.std.proofs.Common.{◌≡◌, ℕ, ◌<◌, ◌+◌, List, [], ◌∷◌, true, suc, length, get_or, drop, refl, sym, ap, ◌∙◌, nat_eq, eqb-true, add-one, drop-cons}
use Rattle.std.proofs.lemmas.Bool.{and_parts, false≢true}
use Rattle.css_tokens.specs.Trees.{is_text}

pub same-text : (a b : List ℕ) → is_text a b ≡ true → a ≡ b
same-text [] [] h = refl
same-text [] (y ∷ b) h = absurd (false≢true h)
same-text (x ∷ a) [] h = absurd (false≢true h)
same-text (x ∷ a) (y ∷ b) h =
    (let p = and_parts (nat_eq x y) (is_text a b) h in
    ap (λ (n : ℕ). n ∷ a) (eqb-true x y p.0) ∙ ap (λ (t : List ℕ). y ∷ t) (same-text a b p.1))

-- the element of a loop, and those behind it
pub at-item : {X : Type 0} (xs : List X) (i : ℕ) (x : X) → i < length xs → x ≡ get_or xs i x → drop i xs ≡ x ∷ drop (i + 1) xs
at-item xs i x h e = rw add-one (drop-cons xs i x h ∙ ap (λ y. y ∷ drop (suc i) xs) (sym e))
