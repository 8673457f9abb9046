-- Laws of a value that is printed and read again.
use Rattle.std.proofs.Common.{◌≡◌, List, [], ◌∷◌, ◌++◌, map, Bool, not, cond, refl, ap, sym, ◌∙◌, subst, inl, inr, true, false, codes}
use Rattle.std.specs.List.{filter}
use Rattle.css_tokens.specs.declared.kind.Kind.{Kind}
use Rattle.css_tokens.specs.declared.component.Component.{Component}
use Rattle.css_tokens.specs.Piece.{Word, spelled}
use Rattle.css_tokens.specs.Trees.{words_all, all_formed}
use Rattle.css_tokens.specs.declared.kind.Kind.TheVariants.{Comment}
use Rattle.css_tokens.specs.Again.{takes}
use Rattle.css_tokens.specs.Values.{is_gap, single_gaps, after_gap, before_gap, word_kind, short_word, shortened_words, printed_words, parting_word, takes_space, value_words, value_text}
use Rattle.css_tokens.specs.ValueAgain.{head_kind, head_kind-Single, shortened, all_shortened, value_shortened, parting, parted_within, takes_last, again, value_again, is_solid}
use Rattle.css_tokens.proofs.GapLemmas.{kind_cases}
use Rattle.css_tokens.proofs.ValueLemmas.{singled, short_word-solid}
use Rattle.css_tokens.proofs.AgainLemmas.{head_kind-shortened, value_shortened_formed}
use Rattle.css_tokens.proofs.AgainWords.{words_value_shortened}
use Rattle.css_tokens.proofs.PartedLists.{parted_has, parted_starts, parted_ends, filter-parted, single-parted}
use Rattle.css_tokens.proofs.PartedWords.{parted_words, words_parted, all_parted_formed, head_kind-parted}
use Rattle.css_tokens.proofs.Rebuilt.{both}
use Rattle.std.proofs.lemmas.Bool.{not-true}
use Rattle.css_tokens.proofs.SingleGaps.{EachOf, StartsSolid, EndsSolid, single_gaps_no_runs, after_gap_no_runs, after_gap_starts, after_gap-same, before_gap_starts, before_gap_no_runs, before_gap_ends, before_gap-same, last_solid, filter-single_gaps, filter-after_gap, filter-before_gap, single_gaps_have, after_gap_has, before_gap_has}

abbrev pub IsShort : Word → Type 0
IsShort w = short_word w ≡ w

pub short-short : (w : Word) → IsShort (short_word w)
short-short w = elim (kind_cases w.kind) [
  | inl e ↦ subst (λ (k : Kind). IsShort (short_word (record { kind = k; text = w.text }))) (sym e) refl
  | inr other ↦ elim other [
    | inl e ↦ subst (λ (k : Kind). IsShort (short_word (record { kind = k; text = w.text }))) (sym e) refl
    | inr e ↦ ap short_word (short_word-solid w e)
  ]
]

pub all_short : (ws : List Word) → EachOf IsShort (map short_word ws)
all_short [] = tt
all_short (w ∷ ws) = (short-short w, all_short ws)

map_short-same : (ws : List Word) → EachOf IsShort ws → map short_word ws ≡ ws
map_short-same [] h = refl
map_short-same (w ∷ ws) h = ap (λ v. v ∷ map short_word ws) h.0 ∙ ap (λ vs. w ∷ vs) (map_short-same ws h.1)

-- what takes a space is no gap
pub takes_solid : (w : Word) → takes_space w ≡ true → is_gap w.kind ≡ false
takes_solid w h = not-true (is_gap w.kind) (both (not (is_gap w.kind)) (takes w (codes " ")) h).0

pub shortened_short : (ws : List Word) → EachOf IsShort (shortened_words ws)
shortened_short ws = before_gap_has word_kind IsShort (after_gap word_kind (singled ws)) (after_gap_has word_kind IsShort (singled ws) (single_gaps_have word_kind IsShort (map short_word ws) (all_short ws)))

-- words that print are printed so again
pub printed_words-printed : (ws : List Word) → printed_words (printed_words ws) ≡ printed_words ws
printed_words-printed ws =
    let runs = single_gaps_no_runs word_kind (map short_word ws) in
    let words = shortened_words ws in
    let starts = before_gap_starts word_kind (after_gap word_kind (singled ws)) (after_gap_starts word_kind (singled ws) runs) in
    let no_runs = after_gap_no_runs word_kind (singled ws) runs in
    let ends = before_gap_ends word_kind (after_gap word_kind (singled ws)) no_runs in
    let short : EachOf IsShort words = before_gap_has word_kind IsShort (after_gap word_kind (singled ws)) (after_gap_has word_kind IsShort (singled ws) (single_gaps_have word_kind IsShort (map short_word ws) (all_short ws))) in
    ap (λ vs. parted_words (before_gap word_kind (after_gap word_kind (single_gaps word_kind vs)))) (map_short-same (printed_words ws) (parted_has word_kind parting_word takes_space IsShort refl words short))
    ∙ ap (λ vs. parted_words (before_gap word_kind (after_gap word_kind vs))) (single-parted word_kind parting_word takes_space refl refl takes_solid words (before_gap_no_runs word_kind (after_gap word_kind (singled ws)) no_runs))
    ∙ ap (λ vs. parted_words (before_gap word_kind vs)) (after_gap-same word_kind words starts)
    ∙ ap parted_words (before_gap-same word_kind words ends)

-- the words of the printed components are the printed words
pub words_value_again : (v : List Component) → all_formed v ≡ true → words_all (value_again v) ≡ value_words v
words_value_again v e = words_parted (value_shortened v) (value_shortened_formed v e) ∙ ap parted_words (words_value_shortened v e)

pub value_again_formed : (v : List Component) → all_formed v ≡ true → all_formed (value_again v) ≡ true
value_again_formed v e = all_parted_formed (value_shortened v) (value_shortened_formed v e)

-- the text prints as itself
pub value_words-again : (v : List Component) → all_formed v ≡ true → value_words (value_again v) ≡ value_words v
value_words-again v e = ap printed_words (words_value_again v e) ∙ printed_words-printed (words_all v)

pub value_text-again : (v : List Component) → all_formed v ≡ true → value_text (value_again v) ≡ value_text v
value_text-again v e = ap (λ ws. spelled (printed_words ws)) (words_value_again v e) ∙ ap spelled (printed_words-printed (words_all v))

-- the components other than white space and comments stay, in order
module _ (f : Component → Component) (same : (c : Component) → head_kind (f c) ≡ head_kind c) where
  taken : (b : Bool) (c : Component) (cs : List Component) → cond b (f c ∷ map f cs) (map f cs) ≡ map f (cond b (c ∷ cs) cs)
  taken true c cs = refl
  taken false c cs = refl

  filter-map : (cs : List Component) → filter is_solid (map f cs) ≡ map f (filter is_solid cs)
  filter-map [] = refl
  filter-map (c ∷ cs) =
      ap (λ k. cond (not (is_gap k)) (f c ∷ filter is_solid (map f cs)) (filter is_solid (map f cs))) (same c)
      ∙ ap (λ ds. cond (is_solid c) (f c ∷ ds) ds) (filter-map cs)
      ∙ taken (is_solid c) c (filter is_solid cs)

map-map : (cs : List Component) → map parted_within (map shortened cs) ≡ map again cs
map-map [] = refl
map-map (c ∷ cs) = ap (λ ds. again c ∷ ds) (map-map cs)

pub filter-value_again : (v : List Component) → filter is_solid (value_again v) ≡ map again (filter is_solid v)
filter-value_again v =
    filter-parted head_kind parting takes_last (ap is_gap (head_kind-Single (record { kind = Comment; text = codes "/**/"; at = 0 }))) (map parted_within (value_shortened v))
    ∙ filter-map parted_within head_kind-parted (value_shortened v)
    ∙ ap (map parted_within) (filter-before_gap head_kind (after_gap head_kind (all_shortened v)) ∙ filter-after_gap head_kind (all_shortened v) ∙ filter-single_gaps head_kind (map shortened v) ∙ filter-map shortened head_kind-shortened v)
    ∙ map-map (filter is_solid v)

solid_of : (k : Kind) → is_gap k ≡ false → not (is_gap k) ≡ true
solid_of k e = ap not e

map_starts : (cs : List Component) → StartsSolid head_kind cs → StartsSolid head_kind (map parted_within cs)
map_starts [] h = h
map_starts (c ∷ cs) h = ap is_gap (head_kind-parted c) ∙ h

map_ends : (cs : List Component) → EndsSolid head_kind cs → EndsSolid head_kind (map parted_within cs)
map_ends [] h = h
map_ends (c ∷ []) h = ap is_gap (head_kind-parted c) ∙ h
map_ends (c ∷ d ∷ ds) h = map_ends (d ∷ ds) h

pub value_again_starts : (v : List Component) (c : Component) (cs : List Component) → value_again v ≡ c ∷ cs → is_solid c ≡ true
value_again_starts v c cs e = solid_of (head_kind c) (subst (StartsSolid head_kind) e (parted_starts head_kind parting takes_last (map parted_within (value_shortened v)) (map_starts (value_shortened v) (before_gap_starts head_kind (after_gap head_kind (all_shortened v)) (after_gap_starts head_kind (all_shortened v) (single_gaps_no_runs head_kind (map shortened v)))))))

pub value_again_ends : (v : List Component) (cs : List Component) (c : Component) → value_again v ≡ cs ++ c ∷ [] → is_solid c ≡ true
value_again_ends v cs c e = solid_of (head_kind c) (last_solid head_kind cs c (subst (EndsSolid head_kind) e (parted_ends head_kind parting takes_last (map parted_within (value_shortened v)) (map_ends (value_shortened v) (before_gap_ends head_kind (after_gap head_kind (all_shortened v)) (after_gap_no_runs head_kind (all_shortened v) (single_gaps_no_runs head_kind (map shortened v))))))))
