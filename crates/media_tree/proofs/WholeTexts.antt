-- The words of a text that is read are spelled, and are read one after another.
use Rattle.std.proofs.Common.{◌≡◌, ℕ, zero, suc, List, [], ◌∷◌, ◌++◌, Bool, true, ◌&&◌, not, length, take, drop, refl, sym, ap, ap₂, ◌∙◌, subst, append_assoc}
use Rattle.std.specs.Prelude.{Option, Some, None}
use Rattle.std.specs.List.{list_all, list_any}
use Rattle.std.specs.Option.{option_map}
use Rattle.std.specs.Str.{is_utf8}
use Rattle.std.proofs.lemmas.Bool.{and_parts}
use Rattle.css_tokens.specs.declared.kind.Kind.{Kind}
use Rattle.css_tokens.specs.declared.component.Component.{Component}
use Rattle.css_tokens.specs.Piece.{Word, spelled}
use Rattle.css_tokens.specs.Tokens.{Reads, ReadsTo, first_front, is_control, spells, word}
use Rattle.css_tokens.specs.Trees.{words_all}
use Rattle.media_tree.specs.SpelledWords.{AreRead, is_spelled}

-- A text that is read as words is what they spell.

take-front : (n : ℕ) (xs : List ℕ) → take n xs ++ drop (length (take n xs)) xs ≡ xs
take-front zero xs = refl
take-front (suc n) [] = refl
take-front (suc n) (x ∷ xs) = ap (λ (t : List ℕ). x ∷ t) (take-front n xs)

front-at : (t : List ℕ) (w : Word) (o : Option (Kind × ℕ)) → option_map (word t) o ≡ Some w → w.text ++ drop (length w.text) t ≡ t
front-at t w None e = absurd (cc e)
front-at t w (Some f) e =
    (let same : word t f ≡ w = cc in
    subst (λ (u : List ℕ). u ++ drop (length u) t ≡ t) (ap (λ (v : Word). v.text) same) (take-front f.1 t))

text-spelled : (t : List ℕ) (ws : List Word) (rest : List ℕ) → ReadsTo t ws rest → t ≡ spelled ws ++ rest
text-spelled t [] rest e = e
text-spelled t (w ∷ ws) rest r =
    sym (front-at t w (first_front t) r.0)
    ∙ ap (λ (u : List ℕ). w.text ++ u) (text-spelled (drop (length w.text) t) ws rest r.2)
    ∙ sym (append_assoc w.text (spelled ws) rest)

-- Each of its words is spelled.

abbrev is_clean : Word → Bool
is_clean w = is_utf8 w.text && not (list_any is_control w.text)

abbrev spells_kind : Word → Bool
spells_kind w = spells w.kind w.text

both-spelled : (ws : List Word) → list_all is_clean ws ≡ true → list_all spells_kind ws ≡ true → list_all is_spelled ws ≡ true
both-spelled [] h k = refl
both-spelled (w ∷ ws) h k =
    let p = and_parts (is_clean w) (list_all is_clean ws) h in
    let q = and_parts (spells_kind w) (list_all spells_kind ws) k in
    let utf8 = (and_parts (is_utf8 w.text) (not (list_any is_control w.text)) p.0).0 in
    ap₂ ◌&&◌ (ap₂ ◌&&◌ utf8 q.0) (both-spelled ws p.1 q.1)

-- what is ensured of the words of a text
pub record TextWords : Type 0 where
  pub clean : (t : List ℕ) (ws : List Word) → Reads t ws → list_all is_clean ws ≡ true
  pub spell : (t : List ℕ) (ws : List Word) (s : List ℕ) → ReadsTo t ws s → list_all spells_kind ws ≡ true

pub all-spelled : TextWords → (t : List ℕ) (cs : List Component) → Reads t (words_all cs) → list_all is_spelled (words_all cs) ≡ true
all-spelled words t cs r = both-spelled (words_all cs) (words.clean t (words_all cs) r) (words.spell _ (words_all cs) [] r.1)

pub all-read : (t : List ℕ) (cs : List Component) → Reads t (words_all cs) → AreRead cs
all-read t cs r = record { behind = []; reads = subst (λ (u : List ℕ). ReadsTo u (words_all cs) []) (text-spelled _ (words_all cs) [] r.1) r.1 }
