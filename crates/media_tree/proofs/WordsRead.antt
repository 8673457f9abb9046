-- Components whose text is read as their words.
use Rattle.std.proofs.Common.{◌≡◌, ℕ, List, [], ◌∷◌, ◌++◌, map, false, length, drop, refl, sym, ap, ◌∙◌, subst, append_assoc}
use Rattle.std.proofs.Math.Seq.{drop-append_seam}
use Rattle.std.proofs.lemmas.Grind.{flat_map-append}
use Rattle.std.proofs.lemmas.List.{map-append, append-nil}
use Rattle.css_tokens.specs.declared.kind.Kind.{Kind}
use Rattle.css_tokens.specs.declared.component.Component.{Component}
use Rattle.css_tokens.specs.Again.{StaysFirst, word_from}
use Rattle.css_tokens.specs.Piece.{Piece, Word, spelled, word_of}
use Rattle.css_tokens.specs.Tokens.{First, ReadsTo, is_refused}
use Rattle.css_tokens.specs.Trees.{pieces_all, pieces_of, pieces_of-Single, words_all}
use Rattle.media_spelling.specs.Components.{single, text_of}

-- the text of these components, before this rest, is read as their words
abbrev pub ReadsOn : List Component → List ℕ → Type 0
ReadsOn cs rest = ReadsTo (text_of cs ++ rest) (words_all cs) rest

pub words-append : (cs ds : List Component) → words_all (cs ++ ds) ≡ words_all cs ++ words_all ds
words-append cs ds = ap (λ (ps : List Piece). map word_of ps) (flat_map-append pieces_of cs ds) ∙ map-append word_of (pieces_all cs) (pieces_all ds)

pub text-append : (cs ds : List Component) → text_of (cs ++ ds) ≡ text_of cs ++ text_of ds
text-append cs ds = ap (λ (ws : List Word). spelled ws) (words-append cs ds) ∙ flat_map-append (λ (w : Word). w.text) (words_all cs) (words_all ds)

pub words-single : (k : Kind) (t : List ℕ) (cs : List Component) → words_all (single k t ∷ cs) ≡ word_from k t ∷ words_all cs
words-single k t cs = ap (λ (ps : List Piece). map word_of (ps ++ pieces_all cs)) (pieces_of-Single (record { kind = k; text = t; at = 0 }))

pub text-single : (k : Kind) (t : List ℕ) (cs : List Component) → text_of (single k t ∷ cs) ≡ t ++ text_of cs
text-single k t cs = ap (λ (ws : List Word). spelled ws) (words-single k t cs)

-- the text of a token and what stands behind it, before this rest
pub text-first : (k : Kind) (t : List ℕ) (cs : List Component) (rest : List ℕ) → text_of (single k t ∷ cs) ++ rest ≡ t ++ (text_of cs ++ rest)
text-first k t cs rest = ap (λ (u : List ℕ). u ++ rest) (text-single k t cs) ∙ append_assoc t (text_of cs) rest

-- one word more in front
pub word-first : (w : Word) (ws : List Word) (rest : List ℕ) → StaysFirst w (spelled ws ++ rest) → is_refused w.kind ≡ false → ReadsTo (spelled ws ++ rest) ws rest → ReadsTo (spelled (w ∷ ws) ++ rest) (w ∷ ws) rest
word-first w ws rest first kind more =
    let whole : spelled (w ∷ ws) ++ rest ≡ w.text ++ (spelled ws ++ rest) = append_assoc w.text (spelled ws) rest in (
      subst (λ (t : List ℕ). First t w) (sym whole) first,
      kind,
      subst (λ (t : List ℕ). ReadsTo t ws rest) (sym (ap (drop (length w.text)) whole ∙ drop-append_seam w.text (spelled ws ++ rest))) more,
    )

-- nothing more to read
pub on-nothing : (rest : List ℕ) → ReadsOn [] rest
on-nothing rest = refl

-- one token more in front
pub on-single : (k : Kind) (t : List ℕ) (cs : List Component) (rest : List ℕ) → is_refused k ≡ false → StaysFirst (word_from k t) (text_of cs ++ rest) → ReadsOn cs rest → ReadsOn (single k t ∷ cs) rest
on-single k t cs rest kind first more =
    subst (λ (ws : List Word). ReadsTo (spelled ws ++ rest) ws rest) (sym (words-single k t cs)) (word-first (word_from k t) (words_all cs) rest first kind more)

-- components that are read to the end of their text
pub whole-text : (cs : List Component) → ReadsOn cs [] → ReadsTo (text_of cs) (words_all cs) []
whole-text cs r = subst (λ (t : List ℕ). ReadsTo t (words_all cs) []) (append-nil (text_of cs)) r
