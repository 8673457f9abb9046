-- Components of a text that is read, and the parts of their lists.
use Rattle.std.proofs.Common.{◌≡◌, ℕ, suc, zero, List, [], ◌∷◌, ◌++◌, map, Bool, true, false, ◌&&◌, take, drop, refl, sym, ap, ap₂, ◌∙◌, cond}
use Rattle.std.specs.List.{list_all}
use Rattle.std.specs.Str.{is_utf8}
use Rattle.std.proofs.lemmas.Bool.{and_parts}
use Rattle.std.proofs.lemmas.List.{map-append}
use Rattle.std.proofs.lemmas.List.Folds.{list_all-append}
use Rattle.css_tokens.specs.declared.component.Component.{Component}
use Rattle.css_tokens.specs.declared.component.Component as component
use Rattle.css_tokens.specs.declared.component.Block as block
use Rattle.css_tokens.specs.Piece.{Piece, Word, word_of}
use Rattle.css_tokens.specs.Tokens.{spells}
use Rattle.css_tokens.specs.Trees.{all_formed, closing, is_formed, is_formed-Block, opens, pieces_all, pieces_of, pieces_of-Single, pieces_of-Block, words_all}
use Rattle.media_tree.specs.ComponentInduction.{Each}
use Rattle.media_tree.specs.Marks.{is_gap, trimmed, trimmed_end, trimmed_start}
use Rattle.media_tree.specs.SpelledWords.{is_spelled}
use Rattle.media_tree.specs.SupportsAgain.{is_utf8_value}

abbrev pub words_of : Component → List Word
words_of c = map word_of (pieces_of c)

-- a well formed component of words that are spelled
pub record Good (c : Component) : Type 0 where
  pub formed : is_formed c ≡ true
  pub spelled : list_all is_spelled (words_of c) ≡ true

-- the words of a component and of those behind it
pub words-cons : (c : Component) (cs : List Component) → words_all (c ∷ cs) ≡ words_of c ++ words_all cs
words-cons c cs = map-append word_of (pieces_of c) (pieces_all cs)

-- the words of a block
pub words-block : (b : block.Block) → words_of (component.Block b) ≡ word_of b.opening ∷ (words_all b.items ++ word_of (closing b.opening b.close) ∷ [])
words-block b =
    ap (λ (ps : List Piece). map word_of ps) (pieces_of-Block b)
    ∙ ap (λ (ws : List Word). word_of b.opening ∷ ws) (map-append word_of (pieces_all b.items) (closing b.opening b.close ∷ []))

pub all-good : (cs : List Component) → all_formed cs ≡ true → list_all is_spelled (words_all cs) ≡ true → Each Good cs
all-good [] f s = tt
all-good (c ∷ cs) f s =
    let p = and_parts (is_formed c) (all_formed cs) f in
    let e : list_all is_spelled (words_all (c ∷ cs)) ≡ (list_all is_spelled (words_of c) && list_all is_spelled (words_all cs)) =
    ap (list_all is_spelled) (words-cons c cs) ∙ list_all-append is_spelled (words_of c) (words_all cs) in
    let q = and_parts (list_all is_spelled (words_of c)) (list_all is_spelled (words_all cs)) (sym e ∙ s) in
    (record { formed = p.0; spelled = q.0 }, all-good cs p.1 q.1)

pub all-formed : (cs : List Component) → Each Good cs → all_formed cs ≡ true
all-formed [] g = refl
all-formed (c ∷ cs) g = ap (λ (b : Bool). b && all_formed cs) g.0.formed ∙ all-formed cs g.1

-- words that are spelled are in UTF-8
words-utf8 : (ws : List Word) → list_all is_spelled ws ≡ true → list_all (λ w. is_utf8 w.text) ws ≡ true
words-utf8 [] h = refl
words-utf8 (w ∷ ws) h =
    let p = and_parts (is_spelled w) (list_all is_spelled ws) h in
    ap₂ ◌&&◌ (and_parts (is_utf8 w.text) (spells w.kind w.text) p.0).0 (words-utf8 ws p.1)

pub all-utf8 : (cs : List Component) → Each Good cs → is_utf8_value cs ≡ true
all-utf8 [] g = refl
all-utf8 (c ∷ cs) g =
    ap (list_all (λ w. is_utf8 w.text)) (words-cons c cs)
    ∙ list_all-append (λ w. is_utf8 w.text) (words_of c) (words_all cs)
    ∙ ap₂ ◌&&◌ (words-utf8 (words_of c) g.0.spelled) (all-utf8 cs g.1)

-- the token is spelled
pub token-good : (p : Piece) → Good (component.Single p) → is_spelled (word_of p) ≡ true
token-good p g = (and_parts (is_spelled (word_of p)) true (sym (ap (λ (ps : List Piece). list_all is_spelled (map word_of ps)) (pieces_of-Single p)) ∙ g.spelled)).0

-- the components in a block
pub inside-good : (b : block.Block) → Good (component.Block b) → Each Good b.items
inside-good b g =
    let f = and_parts (opens b.opening.kind) (all_formed b.items) (sym (is_formed-Block b) ∙ g.formed) in
    let last : List Word = word_of (closing b.opening b.close) ∷ [] in
    let e = words-block b in
    let s = and_parts (is_spelled (word_of b.opening)) (list_all is_spelled (words_all b.items ++ last)) (sym (ap (list_all is_spelled) e) ∙ g.spelled) in
    let t = and_parts (list_all is_spelled (words_all b.items)) (list_all is_spelled last) (sym (list_all-append is_spelled (words_all b.items) last) ∙ s.1) in
    all-good b.items f.1 t.0

-- Parts of lists.

module _ (P : Component → Type 0) where
  pub each-take : (n : ℕ) (cs : List Component) → Each P cs → Each P (take n cs)
  each-take zero cs h = tt
  each-take (suc n) [] h = tt
  each-take (suc n) (c ∷ cs) h = (h.0, each-take n cs h.1)

  pub each-drop : (n : ℕ) (cs : List Component) → Each P cs → Each P (drop n cs)
  each-drop zero cs h = h
  each-drop (suc n) [] h = tt
  each-drop (suc n) (c ∷ cs) h = each-drop n cs h.1

  either : (b : Bool) (xs ys : List Component) → Each P xs → Each P ys → Each P (cond b xs ys)
  either true xs ys h k = h
  either false xs ys h k = k

  pub each-start : (cs : List Component) → Each P cs → Each P (trimmed_start cs)
  each-start [] h = tt
  each-start (c ∷ cs) h = either (is_gap c) (trimmed_start cs) (c ∷ cs) (each-start cs h.1) h

  pub each-end : (cs : List Component) → Each P cs → Each P (trimmed_end cs)
  each-end [] h = tt
  each-end (c ∷ cs) h = either (list_all is_gap (c ∷ cs)) [] (c ∷ trimmed_end cs) tt (h.0, each-end cs h.1)

  pub each-trimmed : (cs : List Component) → Each P cs → Each P (trimmed cs)
  each-trimmed cs h = each-end (trimmed_start cs) (each-start cs h)
