-- Components whose words are read one after another in some text, and the parts of their lists.
use Rattle.std.proofs.Common.{◌≡◌, ℕ, List, [], ◌∷◌, ◌++◌, true, subst}
use Rattle.std.specs.List.{list_all}
use Rattle.css_tokens.specs.declared.component.Component.{Component}
use Rattle.css_tokens.specs.declared.component.Component as component
use Rattle.css_tokens.specs.declared.component.Block as block
use Rattle.css_tokens.specs.Piece.{Word, spelled, word_of}
use Rattle.css_tokens.specs.Tokens.{ReadsTo}
use Rattle.css_tokens.specs.Trees.{all_formed, closing, words_all}
use Rattle.media_tree.specs.ComponentInduction.{Each}
use Rattle.media_tree.specs.SpelledWords.{AreRead, is_spelled}
use Rattle.media_tree.proofs.PartsOfTexts.{Good, all-good, inside-good, words-block, words-cons, words_of}

-- what is ensured of readings: they split anywhere
pub record Splits : Type 0 where
  pub front : (xs ys : List Word) (s : List ℕ) → ReadsTo (spelled (xs ++ ys) ++ s) (xs ++ ys) s → ReadsTo (spelled xs ++ (spelled ys ++ s)) xs (spelled ys ++ s)
  pub back : (xs ys : List Word) (s : List ℕ) → ReadsTo (spelled (xs ++ ys) ++ s) (xs ++ ys) s → ReadsTo (spelled ys ++ s) ys s

-- a well formed component of words that are spelled, and are read in some text
pub record Stands (c : Component) : Type 0 where
  pub good : Good c
  pub behind : List ℕ
  pub reads : ReadsTo (spelled (words_of c) ++ behind) (words_of c) behind

module _ (splits : Splits) where
  all-stand-before : (cs : List Component) (s : List ℕ) → Each Good cs → ReadsTo (spelled (words_all cs) ++ s) (words_all cs) s → Each Stands cs
  all-stand-before [] s g r = tt
  all-stand-before (c ∷ cs) s g r =
      (let q = subst (λ (ws : List Word). ReadsTo (spelled ws ++ s) ws s) (words-cons c cs) r in (
        record { good = g.0; behind = spelled (words_all cs) ++ s; reads = splits.front (words_of c) (words_all cs) s q },
        all-stand-before cs s g.1 (splits.back (words_of c) (words_all cs) s q),
      ))

  pub all-stand : (cs : List Component) → all_formed cs ≡ true → list_all is_spelled (words_all cs) ≡ true → AreRead cs → Each Stands cs
  all-stand cs f w read = all-stand-before cs read.behind (all-good cs f w) read.reads

  -- the components in a block
  pub inside-stand : (b : block.Block) → Stands (component.Block b) → Each Stands b.items
  inside-stand b stands =
      (let inner = words_all b.items in
      let last : List Word = word_of (closing b.opening b.close) ∷ [] in
      let whole = subst (λ (ws : List Word). ReadsTo (spelled ws ++ stands.behind) ws stands.behind) (words-block b) stands.reads in
      let items = splits.front inner last stands.behind (splits.back (word_of b.opening ∷ []) (inner ++ last) stands.behind whole) in
      all-stand-before b.items (spelled last ++ stands.behind) (inside-good b stands.good) items)
