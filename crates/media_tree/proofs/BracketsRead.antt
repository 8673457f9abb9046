-- What is read up to a closing bracket is read so whatever follows the bracket.
use Rattle.std.proofs.Common.{◌≡◌, ℕ, List, [], ◌∷◌, ◌++◌, Bool, true, false, refl, sym, ap, ◌∙◌, subst, append_assoc, codes}
use Rattle.std.specs.Prelude.{if◌then◌else◌}
use Rattle.std.proofs.Math.Seq.{drop-append_seam}
use Rattle.std.proofs.lemmas.Grind.{flat_map-append}
use Rattle.std.proofs.lemmas.List.{append-nil}
use Rattle.css_tokens.specs.declared.kind.Kind.TheVariants as kinds
use Rattle.css_tokens.specs.Again.{StaysFirst, word_from}
use Rattle.css_tokens.specs.Piece.{Piece, Word, spelled, word_of}
use Rattle.css_tokens.specs.Tokens.{ReadsTo}
use Rattle.css_tokens.specs.Trees.{closing, closing_text, is_text}
use Rattle.media_tree.proofs.PartsRead.{Splits}

-- what is ensured of a closing bracket
pub record Bracket (t : List ℕ) : Type 0 where
  pub stays : (rest : List ℕ) → StaysFirst (word_from kinds.Close t) rest
  pub reads : (xs : List Word) (s r : List ℕ) → ReadsTo (spelled xs ++ (t ++ s)) xs (t ++ s) → ReadsTo (spelled xs ++ (t ++ r)) xs (t ++ r)

-- the three of them, and that readings are composed
pub record Brackets : Type 0 where
  pub parenthesis : Bracket (codes ")")
  pub square : Bracket (codes "]")
  pub brace : Bracket (codes "}")
  pub composes : (xs ys : List Word) (s r : List ℕ) → ReadsTo (spelled xs ++ s) xs s → ReadsTo s ys r → ReadsTo (spelled xs ++ s) (xs ++ ys) r

either : (a b : Bool) → Brackets → Bracket (if a then codes "]" else (if b then codes "}" else codes ")"))
either true b l = l.square
either false true l = l.brace
either false false l = l.parenthesis

module _ (l : Brackets) (splits : Splits) where
  -- words up to and with a closing bracket
  bracket-closed : (t : List ℕ) → Bracket t → (xs : List Word) (s r : List ℕ) → ReadsTo (spelled (xs ++ word_from kinds.Close t ∷ []) ++ s) (xs ++ word_from kinds.Close t ∷ []) s
      → ReadsTo (spelled (xs ++ word_from kinds.Close t ∷ []) ++ r) (xs ++ word_from kinds.Close t ∷ []) r
  bracket-closed t b xs s r h =
      (let w = word_from kinds.Close t in
      let there = subst (λ (u : List ℕ). ReadsTo (spelled xs ++ (u ++ s)) xs (u ++ s)) (append-nil t) (splits.front xs (w ∷ []) s h) in
      let here = b.reads xs s r there in
      let last : ReadsTo (t ++ r) (w ∷ []) r = (b.stays r, refl, drop-append_seam t r) in
      let whole : spelled (xs ++ w ∷ []) ++ r ≡ spelled xs ++ (t ++ r) =
      ap (λ (u : List ℕ). u ++ r) (flat_map-append (λ (v : Word). v.text) xs (w ∷ []))
      ∙ append_assoc (spelled xs) (t ++ []) r
      ∙ ap (λ (u : List ℕ). spelled xs ++ (u ++ r)) (append-nil t) in
      subst (λ (u : List ℕ). ReadsTo u (xs ++ w ∷ []) r) (sym whole) (l.composes xs (w ∷ []) (t ++ r) r here last))

  -- words up to and with the token that closes what this token opens
  pub closed : (xs : List Word) (p : Piece) (close : ℕ) (s r : List ℕ) → ReadsTo (spelled (xs ++ word_of (closing p close) ∷ []) ++ s) (xs ++ word_of (closing p close) ∷ []) s
      → ReadsTo (spelled (xs ++ word_of (closing p close) ∷ []) ++ r) (xs ++ word_of (closing p close) ∷ []) r
  closed xs p close s r h = bracket-closed (closing_text p.text) (either (is_text p.text (codes "[")) (is_text p.text (codes "{")) l) xs s r h
