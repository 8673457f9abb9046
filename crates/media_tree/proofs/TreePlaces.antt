-- Components with each place at 0: those that have the same words are the same.
use Rattle.std.proofs.Common.{◌≡◌, List, [], ◌∷◌, ◌++◌, map, ◌&&◌, refl, sym, ◌∙◌, ap, IsTrue}
use Rattle.std.proofs.lemmas.List.{map-append}
use Rattle.css_tokens.specs.declared.component.Component.{Component}
use Rattle.css_tokens.specs.declared.component.Component as component
use Rattle.css_tokens.specs.declared.component.Block as block
use Rattle.css_tokens.specs.Piece.{Piece, Word, word_of}
use Rattle.media_tree.specs.ComponentInduction.{Each, by_components}
pub use Rattle.media_spelling.specs.Places.{bare, bare_block, bare-Single, bare-Block, block_bare, component_bare, placeless}
use Rattle.css_tokens.specs.Trees.{opens, closing, pieces_of, pieces_all, words_all, is_formed, all_formed, pieces_of-Single, pieces_of-Block, is_formed-Single, is_formed-Block}

pub every : (P : Component → Type 0) → ((c : Component) → P c) → (cs : List Component) → Each P cs
every P holds [] = tt
every P holds (c ∷ cs) = (holds c, every P holds cs)

-- Its tokens are the same but for their places.

abbrev HasPieces : Component → Type 0
HasPieces c = pieces_of (bare c) ≡ map placeless (pieces_of c)

pieces-each : (cs : List Component) → Each HasPieces cs → pieces_all (map bare cs) ≡ map placeless (pieces_all cs)
pieces-each [] each = refl
pieces-each (c ∷ cs) each =
    ap (λ ps. ps ++ pieces_all (map bare cs)) each.0
    ∙ ap (λ ps. map placeless (pieces_of c) ++ ps) (pieces-each cs each.1)
    ∙ sym (map-append placeless (pieces_of c) (pieces_all cs))

pieces-block : (b : block.Block) → Each HasPieces b.items → HasPieces (component.Block b)
pieces-block b each =
    ap pieces_of (bare-Block b)
    ∙ pieces_of-Block (bare_block b)
    ∙ ap (λ ps. placeless b.opening ∷ ps ++ closing (placeless b.opening) 0 ∷ []) (pieces-each b.items each)
    ∙ ap (λ ps. placeless b.opening ∷ ps) (sym (map-append placeless (pieces_all b.items) (closing b.opening b.close ∷ [])))
    ∙ ap (map placeless) (sym (pieces_of-Block b))

pieces-bare : (c : Component) → HasPieces c
pieces-bare = by_components HasPieces (λ p. ap pieces_of (bare-Single p) ∙ pieces_of-Single (placeless p) ∙ ap (map placeless) (sym (pieces_of-Single p))) pieces-block

pieces_all-bare : (cs : List Component) → pieces_all (map bare cs) ≡ map placeless (pieces_all cs)
pieces_all-bare cs = pieces-each cs (every HasPieces pieces-bare cs)

abbrev piece_of : Word → Piece
piece_of w = record { kind = w.kind; text = w.text; at = 0 }

pieces-words : (ps : List Piece) → map placeless ps ≡ map piece_of (map word_of ps)
pieces-words [] = refl
pieces-words (p ∷ ps) = ap (λ qs. placeless p ∷ qs) (pieces-words ps)

-- Well formed components stay so.

abbrev StaysFormed : Component → Type 0
StaysFormed c = is_formed (bare c) ≡ is_formed c

formed-each : (cs : List Component) → Each StaysFormed cs → all_formed (map bare cs) ≡ all_formed cs
formed-each [] each = refl
formed-each (c ∷ cs) each = ap (λ b. b && all_formed (map bare cs)) each.0 ∙ ap (λ b. is_formed c && b) (formed-each cs each.1)

formed-block : (b : block.Block) → Each StaysFormed b.items → StaysFormed (component.Block b)
formed-block b each = ap is_formed (bare-Block b) ∙ is_formed-Block (bare_block b) ∙ ap (λ formed. opens b.opening.kind && formed) (formed-each b.items each) ∙ sym (is_formed-Block b)

formed-bare : (c : Component) → StaysFormed c
formed-bare = by_components StaysFormed (λ p. ap is_formed (bare-Single p) ∙ is_formed-Single (placeless p) ∙ sym (is_formed-Single p)) formed-block

pub all_formed-bare : (cs : List Component) → all_formed (map bare cs) ≡ all_formed cs
all_formed-bare cs = formed-each cs (every StaysFormed formed-bare cs)

-- what is ensured of tokens: they make one list of components at most
abbrev pub OnePairing : Type 0
OnePairing = (a b : List Component) → pieces_all a ≡ pieces_all b → IsTrue (all_formed a) → IsTrue (all_formed b) → a ≡ b

-- components with the same words are the same but for their places
pub same-bare : OnePairing → (a b : List Component) → words_all a ≡ words_all b → IsTrue (all_formed a) → IsTrue (all_formed b) → map bare a ≡ map bare b
same-bare one a b words formed_a formed_b =
    one (map bare a) (map bare b)
    (pieces_all-bare a ∙ pieces-words (pieces_all a) ∙ ap (map piece_of) words ∙ sym (pieces-words (pieces_all b)) ∙ sym (pieces_all-bare b))
    (all_formed-bare a ∙ formed_a)
    (all_formed-bare b ∙ formed_b)

without-place : (ps : List Piece) → map word_of (map placeless ps) ≡ map word_of ps
without-place [] = refl
without-place (p ∷ ps) = ap (λ (ws : List Word). word_of p ∷ ws) (without-place ps)

-- the words are the same
pub words-bare : (cs : List Component) → words_all (map bare cs) ≡ words_all cs
words-bare cs = ap (λ (ps : List Piece). map word_of ps) (pieces_all-bare cs) ∙ without-place (pieces_all cs)
