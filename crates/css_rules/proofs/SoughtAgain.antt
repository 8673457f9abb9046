-- What is not sought in a value is not sought in its printed form.
use Rattle.std.proofs.Common.{◌≡◌, ℕ, List, [], ◌∷◌, map, Bool, true, false, ◌&&◌, ◌||◌, refl, sym, ◌∙◌, ap, cond}
use Rattle.std.specs.List.{list_any}
use Rattle.css_tokens.specs.declared.kind.Kind.{Kind}
use Rattle.css_tokens.specs.declared.kind.Kind.TheVariants as kinds
use Rattle.css_tokens.specs.declared.component.Component.{Component}
use Rattle.css_tokens.specs.Piece.{Piece, Word, word_of}
use Rattle.css_tokens.specs.Trees.{pieces_all, words_all, all_formed}
use Rattle.css_tokens.specs.Values.{is_gap, is_white, short_text, short_word, before_run, single_gaps, after_gap, before_gap, word_kind, printed_words, shortened_words, parted, parting_word, behind_taking, takes_space}
use Rattle.css_tokens.specs.ValueAgain.{value_again}
use Rattle.css_rules.specs.declared.refusal.Sought.{Sought}
use Rattle.css_rules.specs.declared.refusal.Sought.TheVariants.{RevertLayer, RevertLayerOrUrl}
use Rattle.css_rules.specs.Refusals.{is_sought, has_sought}
use Rattle.css_rules.proofs.DeclarationLemmas.{or_false_left, or_false_right}
use Rattle.css_rules.proofs.ValueFacts.{ValueLaws}

-- is a word sought?
abbrev pub word_sought : Sought → Word → Bool
word_sought sought w = is_sought sought (record { kind = w.kind; text = w.text; at = 0 })

sought-place : (sought : Sought) (p : Piece) → word_sought sought (word_of p) ≡ is_sought sought p
sought-place RevertLayer p = refl
sought-place RevertLayerOrUrl p = refl

-- whether a token is sought is told by its word
pub sought-words : (sought : Sought) (cs : List Component) → has_sought sought cs ≡ list_any (word_sought sought) (words_all cs)
sought-words sought cs = same (pieces_all cs)
  where
    same : (ps : List Piece) → list_any (is_sought sought) ps ≡ list_any (word_sought sought) (map word_of ps)
    same [] = refl
    same (p ∷ ps) = ap (λ b. b || list_any (is_sought sought) ps) (sym (sought-place sought p)) ∙ ap (λ b. word_sought sought (word_of p) || b) (same ps)

short-sought : (sought : Sought) (k : Kind) (text : List ℕ) → word_sought sought (record { kind = k; text = short_text k text }) ≡ word_sought sought (record { kind = k; text = text })
short-sought RevertLayer kinds.Ident text = refl
short-sought RevertLayer _ text = refl
short-sought RevertLayerOrUrl kinds.Ident text = refl
short-sought RevertLayerOrUrl kinds.Function text = refl
short-sought RevertLayerOrUrl kinds.Url text = refl
short-sought RevertLayerOrUrl _ text = refl

module _ (test : Word → Bool) where
  any-before_run : (w : Word) (ws : List Word) → test w ≡ false → list_any test ws ≡ false → list_any test (before_run word_kind w ws) ≡ false
  any-before_run w [] e f = ap (λ b. b || false) e
  any-before_run w (v ∷ ws) e f = at (is_gap w.kind && is_gap v.kind) (is_white w.kind)
    where
      at : (gaps white : Bool) → list_any test (cond gaps ((cond white w v) ∷ ws) (w ∷ v ∷ ws)) ≡ false
      at true true = ap (λ b. b || list_any test ws) e ∙ or_false_right (test v) (list_any test ws) f
      at true false = f
      at false white = ap (λ b. b || (test v || list_any test ws)) e ∙ f

  pub any-single_gaps : (ws : List Word) → list_any test ws ≡ false → list_any test (single_gaps word_kind ws) ≡ false
  any-single_gaps [] e = refl
  any-single_gaps (w ∷ ws) e = any-before_run w (single_gaps word_kind ws) (or_false_left (test w) (list_any test ws) e) (any-single_gaps ws (or_false_right (test w) (list_any test ws) e))

  pub any-after_gap : (ws : List Word) → list_any test ws ≡ false → list_any test (after_gap word_kind ws) ≡ false
  any-after_gap [] e = refl
  any-after_gap (w ∷ ws) e = at (is_gap w.kind)
    where
      at : (gap : Bool) → list_any test (cond gap ws (w ∷ ws)) ≡ false
      at true = or_false_right (test w) (list_any test ws) e
      at false = e

  pub any-before_gap : (ws : List Word) → list_any test ws ≡ false → list_any test (before_gap word_kind ws) ≡ false
  any-before_gap [] e = refl
  any-before_gap (w ∷ []) e = at (is_gap w.kind)
    where
      at : (gap : Bool) → list_any test (cond gap [] (w ∷ [])) ≡ false
      at true = refl
      at false = e
  any-before_gap (w ∷ v ∷ ws) e =
      ap (λ b. b || list_any test (before_gap word_kind (v ∷ ws))) (or_false_left (test w) (list_any test (v ∷ ws)) e)
      ∙ any-before_gap (v ∷ ws) (or_false_right (test w) (list_any test (v ∷ ws)) e)

  any-behind : (takes : Bool) (ws : List Word) → test parting_word ≡ false → list_any test ws ≡ false → list_any test (behind_taking word_kind parting_word takes ws) ≡ false
  any-behind false ws e f = f
  any-behind true [] e f = refl
  any-behind true (w ∷ ws) e f = at (is_white w.kind)
    where
      at : (white : Bool) → list_any test (cond white (parting_word ∷ w ∷ ws) (w ∷ ws)) ≡ false
      at true = ap (λ b. b || list_any test (w ∷ ws)) e ∙ f
      at false = f

  pub any-parted : (ws : List Word) → test parting_word ≡ false → list_any test ws ≡ false → list_any test (parted word_kind parting_word takes_space ws) ≡ false
  any-parted [] e f = refl
  any-parted (w ∷ ws) e f =
      ap (λ b. b || list_any test (behind_taking word_kind parting_word (takes_space w) (parted word_kind parting_word takes_space ws))) (or_false_left (test w) (list_any test ws) f)
      ∙ any-behind (takes_space w) (parted word_kind parting_word takes_space ws) e (any-parted ws e (or_false_right (test w) (list_any test ws) f))

parting-unsought : (sought : Sought) → word_sought sought parting_word ≡ false
parting-unsought RevertLayer = refl
parting-unsought RevertLayerOrUrl = refl

any-short : (sought : Sought) (ws : List Word) → list_any (word_sought sought) (map short_word ws) ≡ list_any (word_sought sought) ws
any-short sought [] = refl
any-short sought (w ∷ ws) = ap (λ b. b || list_any (word_sought sought) (map short_word ws)) (short-sought sought w.kind w.text) ∙ ap (λ b. word_sought sought w || b) (any-short sought ws)

-- the printed words hold no sought word where the words hold none
any-printed : (sought : Sought) (ws : List Word) → list_any (word_sought sought) ws ≡ false → list_any (word_sought sought) (printed_words ws) ≡ false
any-printed sought ws none =
    let short = map short_word ws in
    let spaced = single_gaps word_kind short in
    any-parted (word_sought sought) (shortened_words ws) (parting-unsought sought)
    (any-before_gap (word_sought sought) (after_gap word_kind spaced)
    (any-after_gap (word_sought sought) spaced (any-single_gaps (word_sought sought) short (any-short sought ws ∙ none))))

pub unsought-again : ValueLaws → (sought : Sought) (v : List Component) → all_formed v ≡ true → has_sought sought v ≡ false → has_sought sought (value_again v) ≡ false
unsought-again laws sought v formed none =
    sought-words sought (value_again v)
    ∙ ap (list_any (word_sought sought)) (laws.words v formed)
    ∙ any-printed sought (words_all v) (sym (sought-words sought v) ∙ none)
