-- Lists of components whose tokens are read one after another in a text.
use Rattle.std.proofs.Common.{◌≡◌, ℕ, zero, suc, List, [], ◌∷◌, ◌++◌, map, true, refl, sym, ◌∙◌, ap, subst, append_assoc, length, take, drop, codes, Option, Some, None, inl, inr}
use Rattle.std.specs.Option.{option_map}
use Rattle.std.proofs.lemmas.List.{map-append, append-nil}
use Rattle.std.proofs.lemmas.List.Concat.{flat_map-append}
use Rattle.css_tokens.specs.declared.component.Component.{Component}
use Rattle.css_tokens.specs.declared.component.Component as component
use Rattle.css_tokens.specs.declared.component.Block as block
use Rattle.css_tokens.specs.declared.component.Component.TheVariants.{outs-Single}
use Rattle.css_tokens.specs.declared.kind.Kind.{Kind}
use Rattle.css_tokens.specs.Again.{StaysFirst, is_end_kind, is_stop}
use Rattle.css_tokens.specs.Piece.{Piece, Word, word_of, spelled}
use Rattle.css_tokens.specs.Tokens.{First, ReadsTo, classes_of, first_front, word}
use Rattle.css_tokens.specs.Trees.{closing, pieces_of, pieces_all, pieces_of-Single, pieces_of-Block, words_all}
use Rattle.css_tokens.specs.Values.{is_gap as is_gap_word}
use Rattle.css_components.specs.Components.{inside, layer_items}
use Rattle.css_rules.proofs.Heads.{inside-Block}
use Rattle.css_rules.proofs.ValueFacts.{shape_of}

-- what the token crate ensures of readings and stops
pub record ReadingLaws : Type 0 where
  pub front : (xs ys : List Word) (s : List ℕ) → ReadsTo (spelled (xs ++ ys) ++ s) (xs ++ ys) s → ReadsTo (spelled xs ++ (spelled ys ++ s)) xs (spelled ys ++ s)
  pub back : (xs ys : List Word) (s : List ℕ) → ReadsTo (spelled (xs ++ ys) ++ s) (xs ++ ys) s → ReadsTo (spelled ys ++ s) ys s
  pub stops : (w : Word) (rest : List ℕ) → StaysFirst w rest → is_end_kind w.kind ≡ true → is_stop (classes_of (w.text ++ rest)) ≡ true
  pub bang_gap : (w : Word) (rest : List ℕ) → StaysFirst w rest → is_gap_word w.kind ≡ true → is_stop (classes_of (codes "!" ++ (w.text ++ rest))) ≡ true

-- A text that reads as words is what they spell.

take-front : (n : ℕ) (xs : List ℕ) → take n xs ++ drop (length (take n xs)) xs ≡ xs
take-front zero xs = refl
take-front (suc n) [] = refl
take-front (suc n) (x ∷ xs) = ap (λ t. x ∷ t) (take-front n xs)

first-front : (text : List ℕ) (w : Word) → First text w → w.text ++ drop (length w.text) text ≡ text
first-front text w first = at (first_front text) first
  where
    at : (o : Option (Kind × ℕ)) → option_map (word text) o ≡ Some w → w.text ++ drop (length w.text) text ≡ text
    at None e = absurd (cc e)
    at (Some f) e =
        let same : word text f ≡ w = cc in
        subst (λ (u : List ℕ). u ++ drop (length u) text ≡ text) (ap (λ (v : Word). v.text) same) (take-front f.1 text)

pub text-spelled : (text : List ℕ) (ws : List Word) (rest : List ℕ) → ReadsTo text ws rest → text ≡ spelled ws ++ rest
text-spelled text [] rest e = e
text-spelled text (w ∷ ws) rest reads =
    sym (first-front text w reads.0)
    ∙ ap (λ t. w.text ++ t) (text-spelled (drop (length w.text) text) ws rest reads.2)
    ∙ sym (append_assoc w.text (spelled ws) rest)

-- Words and components that are read before a text.

abbrev pub AreRead : List Word → List ℕ → Type 0
AreRead ws s = ReadsTo (spelled ws ++ s) ws s

abbrev pub IsStop : List Word → List ℕ → Type 0
IsStop ws s = is_stop (classes_of (spelled ws ++ s)) ≡ true

-- its tokens are read before this text
pub record StandsAt (xs : List Component) (s : List ℕ) : Type 0 where
  pub reads : AreRead (words_all xs) s

-- and so they are before some text that begins with a stop
pub record StandsBefore (xs : List Component) : Type 0 where
  pub behind : List ℕ
  pub stop : is_stop (classes_of behind) ≡ true
  pub reads : AreRead (words_all xs) behind

words-append : (xs ys : List Component) → words_all (xs ++ ys) ≡ words_all xs ++ words_all ys
words-append xs ys = ap (map word_of) (flat_map-append pieces_of xs ys) ∙ map-append word_of (pieces_all xs) (pieces_all ys)

pub words-Single : (p : Piece) (xs : List Component) → words_all (component.Single p ∷ xs) ≡ word_of p ∷ words_all xs
words-Single p xs = ap (λ (ps : List Piece). map word_of (ps ++ pieces_all xs)) (pieces_of-Single p)

words-Block : (b : block.Block) → words_all (component.Block b ∷ []) ≡ word_of b.opening ∷ words_all b.items ++ word_of (closing b.opening b.close) ∷ []
words-Block b =
    let last = closing b.opening b.close ∷ [] in
    ap (map word_of) (append-nil (pieces_of (component.Block b)) ∙ pieces_of-Block b)
    ∙ ap (λ (ws : List Word). word_of b.opening ∷ ws) (map-append word_of (pieces_all b.items) last)

inside-Single : (p : Piece) → inside (component.Single p) ≡ []
inside-Single p = ap layer_items (outs-Single p)

-- the first word stays first
pub first-stays : (w : Word) (ws : List Word) (s : List ℕ) → AreRead (w ∷ ws) s → StaysFirst w (spelled ws ++ s)
first-stays w ws s reads = subst (λ (t : List ℕ). First t w) (append_assoc w.text (spelled ws) s) reads.0

-- nothing stands before any text
pub stands-nothing : (s : List ℕ) → is_stop (classes_of s) ≡ true → StandsBefore []
stands-nothing s stop = record { behind = s; stop = stop; reads = refl }

module _ (laws : ReadingLaws) where
  pub stands-front : (xs ys : List Component) (s : List ℕ) → StandsAt (xs ++ ys) s → StandsAt xs (spelled (words_all ys) ++ s)
  stands-front xs ys s stands = record { reads = laws.front (words_all xs) (words_all ys) s (subst (λ (ws : List Word). AreRead ws s) (words-append xs ys) stands.reads) }

  pub stands-back : (xs ys : List Component) (s : List ℕ) → StandsAt (xs ++ ys) s → StandsAt ys s
  stands-back xs ys s stands = record { reads = laws.back (words_all xs) (words_all ys) s (subst (λ (ws : List Word). AreRead ws s) (words-append xs ys) stands.reads) }

  pub stands-tail : (c : Component) (cs : List Component) (s : List ℕ) → StandsAt (c ∷ cs) s → StandsAt cs s
  stands-tail c cs s stands = stands-back (c ∷ []) cs s stands

  word-stop : (w : Word) (ws : List Word) (s : List ℕ) → AreRead (w ∷ ws) s → is_end_kind w.kind ≡ true → IsStop (w ∷ ws) s
  word-stop w ws s reads ends =
      subst (λ (t : List ℕ). is_stop (classes_of t) ≡ true) (sym (append_assoc w.text (spelled ws) s))
      (laws.stops w (spelled ws ++ s) (first-stays w ws s reads) ends)

  -- a token that ends a value begins a stop
  pub single-stop : (p : Piece) (xs : List Component) (s : List ℕ) → is_end_kind p.kind ≡ true → StandsAt (component.Single p ∷ xs) s → IsStop (words_all (component.Single p ∷ xs)) s
  single-stop p xs s ends stands =
      let words = words-Single p xs in
      subst (λ (ws : List Word). IsStop ws s) (sym words)
      (word-stop (word_of p) (words_all xs) s (subst (λ (ws : List Word). AreRead ws s) words stands.reads) ends)

  -- what is in a block stands before the token that closes it
  block-inside : (b : block.Block) (s : List ℕ) → StandsAt (component.Block b ∷ []) s → StandsBefore b.items
  block-inside b s stands =
      let last = word_of (closing b.opening b.close) in
      let all = subst (λ (ws : List Word). AreRead ws s) (words-Block b) stands.reads in
      let items = laws.back (word_of b.opening ∷ []) (words_all b.items ++ last ∷ []) s all in
      record {
        behind = spelled (last ∷ []) ++ s;
        stop = word-stop last [] s (laws.back (words_all b.items) (last ∷ []) s items) refl;
        reads = laws.front (words_all b.items) (last ∷ []) s items;
      }

  pub stands-inside : (c : Component) (s : List ℕ) → StandsAt (c ∷ []) s → StandsBefore (inside c)
  stands-inside c s stands = elim (shape_of c) [
    | inl single ↦ subst (λ (xs : List Component). StandsBefore xs) (sym (ap inside single.1 ∙ inside-Single single.0)) (stands-nothing [] refl)
    | inr b ↦ subst (λ (xs : List Component). StandsBefore xs) (sym (ap inside b.1 ∙ inside-Block b.0)) (block-inside b.0 s (subst (λ (d : Component). StandsAt (d ∷ []) s) b.1 stands))
  ]
