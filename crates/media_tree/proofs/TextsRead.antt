-- A text that is read as the words of components spells these components, places aside.
use Rattle.std.proofs.Common.{◌≡◌, ℕ, ◌≤◌, ◌<◌, suc, zero, List, [], ◌∷◌, ◌++◌, map, Bool, true, false, ◌&&◌, not, length, drop, refl, sym, ap, ap₂, ◌∙◌, arith, append_assoc, length-drop}
use Rattle.std.specs.Prelude.{Option, if◌then◌else◌}
use Rattle.std.proofs.Math.Bool.{and-false}
use Rattle.std.proofs.lemmas.Bool.{and_parts, false≢true}
use Rattle.std.proofs.lemmas.List.{append-nil}
use lib.Pointwise.{bytes_decides}
use Rattle.css_tokens.specs.declared.kind.Kind.{Kind}
use Rattle.css_tokens.specs.declared.kind.Kind.TheVariants as kinds
use Rattle.css_tokens.specs.declared.component.Component.{Component}
use Rattle.css_tokens.specs.declared.component.Component as component
use Rattle.css_tokens.specs.declared.component.Block as block
use Rattle.css_tokens.specs.Piece.{Piece, Word, spelled, word_of}
use Rattle.css_tokens.specs.Tokens.{First, ReadsTo, spells}
use Rattle.css_tokens.specs.Trees.{all_formed, closes, closing, is_formed, is_formed-Single, is_formed-Block, is_text, opens, pieces_of-Single, words_all}
use Rattle.media_spelling.specs.Components.{single, text_of}
use Rattle.media_spelling.specs.TextComponents.{Levels, level_before, levels_of, opened, or_word, text_components, word_and, words_in, words_up_to}
use Rattle.media_tree.specs.ComponentInduction.{Each, by_components}
use Rattle.media_tree.proofs.PartsOfTexts.{words-block, words-cons, words_of}
use Rattle.media_tree.proofs.TreePlaces.{all_formed-bare, bare, bare-Single, bare-Block, every, words-bare}
use Rattle.media_tree.proofs.WordsRead.{text-single}

-- Words.

none-spelled : (k : Kind) → spells k [] ≡ false
unfolding spells
none-spelled k = and-false _

-- what is ensured of first tokens: they spell their kind
abbrev pub FirstSpells : Type 0
FirstSpells = (t : List ℕ) (w : Word) → First t w → spells w.kind w.text ≡ true

some-long : (t : List ℕ) (k : Kind) → spells k t ≡ true → 0 < length t
some-long [] k h = absurd (false≢true (sym (none-spelled k) ∙ h))
some-long (b ∷ t) k h = omega arith

module _ (spelled_first : FirstSpells) where
  words-read : (n : ℕ) (t : List ℕ) (ws : List Word) → length t ≤ n → ReadsTo t ws [] → words_up_to n t ≡ ws
  words-read zero t [] short r = refl
  words-read zero [] (w ∷ ws) short r = absurd (cc (r.0))
  words-read zero (b ∷ t) (w ∷ ws) short r = absurd (omega arith)
  words-read (suc n) t [] short r = ap (words_up_to (suc n)) r
  words-read (suc n) t (w ∷ ws) short r =
      let some = some-long w.text w.kind (spelled_first t w r.0) in
      let shorter : length (drop (length w.text) t) ≤ n = omega (arith, length-drop (length w.text) t) in
      ap (λ (o : Option Word). word_and o (λ v. words_up_to n (drop (length v.text) t))) r.0
      ∙ ap (λ (vs : List Word). w ∷ vs) (words-read n (drop (length w.text) t) ws shorter r.2)

-- Components.

-- what stands on the level of the words, with these components in front
abbrev behind : List Component → Levels → Levels
behind cs l = record { here = cs ++ l.here; outer = l.outer }

abbrev Leveled : Component → Type 0
Leveled c = (ws : List Word) → is_formed c ≡ true → levels_of (words_of c ++ ws) ≡ behind (bare c ∷ []) (levels_of ws)

level-token : (w : Word) (l : Levels) (o c : Bool) → (not o && not c) ≡ true
    → (if c then (let up : Levels = record { here = []; outer = l.here ∷ l.outer } in up) else (if o then opened w l.here l.outer else record { here = single w.kind w.text ∷ l.here; outer = l.outer })) ≡ behind (single w.kind w.text ∷ []) l
level-token w l true c h = absurd (false≢true h)
level-token w l false true h = absurd (false≢true h)
level-token w l false false h = refl

single-leveled : (p : Piece) → Leveled (component.Single p)
single-leveled p ws h =
    ap (λ (ps : List Piece). levels_of (map word_of ps ++ ws)) (pieces_of-Single p)
    ∙ level-token (word_of p) (levels_of ws) (opens p.kind) (closes p.kind) (sym (is_formed-Single p) ∙ h)
    ∙ ap (λ (c : Component). behind (c ∷ []) (levels_of ws)) (sym (bare-Single p))

items-leveled : (cs : List Component) → Each Leveled cs → (ws : List Word) → all_formed cs ≡ true → levels_of (words_all cs ++ ws) ≡ behind (map bare cs) (levels_of ws)
items-leveled [] each ws h = refl
items-leveled (c ∷ cs) each ws h =
    let p = and_parts (is_formed c) (all_formed cs) h in
    let e : words_all (c ∷ cs) ++ ws ≡ words_of c ++ (words_all cs ++ ws) = ap (λ (vs : List Word). vs ++ ws) (words-cons c cs) ∙ append_assoc (words_of c) (words_all cs) ws in
    ap levels_of e
    ∙ each.0 (words_all cs ++ ws) p.0
    ∙ ap (behind (bare c ∷ [])) (items-leveled cs each.1 ws p.1)

opens-only : (k : Kind) → opens k ≡ true → closes k ≡ false
opens-only kinds.Open h = refl
opens-only kinds.Function h = refl
opens-only k h = absurd (false≢true h)

-- an opening token, before what stands in its block and behind it
level-opening : (w : Word) (items : List Component) (l : Levels) → opens w.kind ≡ true
    → level_before w (record { here = items ++ []; outer = l.here ∷ l.outer }) ≡ behind (component.Block (record { opening = record { kind = w.kind; text = w.text; at = 0 }; items = items; close = 0 }) ∷ []) l
level-opening w items l h =
    let whole : Levels = record { here = items ++ []; outer = l.here ∷ l.outer } in
    ap (λ (b : Bool). if b then (let up : Levels = record { here = []; outer = (items ++ []) ∷ whole.outer } in up) else (if opens w.kind then opened w (items ++ []) whole.outer else record { here = single w.kind w.text ∷ (items ++ []); outer = whole.outer })) (opens-only w.kind h)
    ∙ ap (λ (b : Bool). if b then opened w (items ++ []) whole.outer else (let flat : Levels = record { here = single w.kind w.text ∷ (items ++ []); outer = whole.outer } in flat)) h
    ∙ ap (λ (cs : List Component). behind (component.Block (record { opening = record { kind = w.kind; text = w.text; at = 0 }; items = cs; close = 0 }) ∷ []) l) (append-nil items)

block-leveled : (b : block.Block) → Each Leveled b.items → Leveled (component.Block b)
block-leveled b each ws h =
    let p = and_parts (opens b.opening.kind) (all_formed b.items) (sym (is_formed-Block b) ∙ h) in
    let last = word_of (closing b.opening b.close) in
    let inner = words_all b.items in
    let e : words_of (component.Block b) ++ ws ≡ word_of b.opening ∷ (inner ++ last ∷ ws) =
    ap (λ (vs : List Word). vs ++ ws) (words-block b) ∙ ap (λ (vs : List Word). word_of b.opening ∷ vs) (append_assoc inner (last ∷ []) ws) in
    ap levels_of e
    ∙ ap (level_before (word_of b.opening)) (items-leveled b.items each (last ∷ ws) p.1)
    ∙ level-opening (word_of b.opening) (map bare b.items) (levels_of ws) p.0
    ∙ ap (λ (c : Component). behind (c ∷ []) (levels_of ws)) (sym (bare-Block b))

leveled : (c : Component) → Leveled c
leveled = by_components Leveled single-leveled block-leveled

all-leveled : (cs : List Component) → all_formed cs ≡ true → (levels_of (words_all cs)).here ≡ map bare cs
all-leveled cs h =
    ap (λ (ws : List Word). (levels_of ws).here) (sym (append-nil (words_all cs)))
    ∙ ap (λ (l : Levels). l.here) (items-leveled cs (every Leveled leveled cs) [] h)
    ∙ append-nil (map bare cs)

word-or : (cs : List Component) (t : List ℕ) (formed same : Bool) → formed ≡ true → same ≡ true → (if formed && same then cs else single kinds.Ident t ∷ []) ≡ cs
word-or cs t formed same f s = ap₂ (λ (x y : Bool). if x && y then cs else single kinds.Ident t ∷ []) f s

module _ (spelled_first : FirstSpells) where
  -- A text that reads as the words of these components spells them.
  pub text-read : (cs : List Component) (t : List ℕ) → all_formed cs ≡ true → text_of cs ≡ t → ReadsTo t (words_all cs) [] → text_components t ≡ map bare cs
  unfolding text_components
  text-read cs t h e r =
      let words : words_in t ≡ words_all cs = words-read spelled_first (length t) t (words_all cs) (omega arith) r in
      let here : (levels_of (words_in t)).here ≡ map bare cs = ap (λ (ws : List Word). (levels_of ws).here) words ∙ all-leveled cs h in
      let text : text_of (map bare cs) ≡ t = ap (λ (ws : List Word). spelled ws) (words-bare cs) ∙ e in
      ap (λ (ds : List Component). or_word ds t) here
      ∙ word-or (map bare cs) t (all_formed (map bare cs)) (is_text (text_of (map bare cs)) t) (all_formed-bare cs ∙ h) ((bytes_decides (text_of (map bare cs)) t).1 text)

-- The components of a text have that text.

word-or-text : (cs : List Component) (t : List ℕ) (fits : Bool) → (fits ≡ true → text_of cs ≡ t) → text_of (if fits then cs else single kinds.Ident t ∷ []) ≡ t
word-or-text cs t true h = h refl
word-or-text cs t false h = text-single kinds.Ident t [] ∙ append-nil t

pub text-components : (t : List ℕ) → text_of (text_components t) ≡ t
unfolding text_components
text-components t =
    let cs = (levels_of (words_in t)).here in
    word-or-text cs t (all_formed cs && is_text (text_of cs) t)
    (λ fits. (bytes_decides (text_of cs) t).0 (and_parts (all_formed cs) (is_text (text_of cs) t) fits).1)
