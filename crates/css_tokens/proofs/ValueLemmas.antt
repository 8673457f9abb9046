-- What is written word by word is what a value prints as.
use Rattle.std.proofs.Common.{◌≡◌, ℕ, List, [], ◌∷◌, ◌++◌, map, Bool, true, false, cond, refl, ap, sym, ◌∙◌, subst, append_assoc, codes, inl, inr}
use Rattle.css_tokens.specs.declared.kind.Kind.{Kind}
use Rattle.css_tokens.specs.declared.kind.Kind.TheVariants.{White, Comment}
use Rattle.css_tokens.specs.declared.value.Pending.{Pending}
use Rattle.css_tokens.specs.declared.value.Pending.TheVariants.{Start, Nothing, Space, AfterEscape, EscapeComment, EscapeSpace}
use Rattle.css_tokens.specs.declared.value.Pending.TheVariants as pending
use Rattle.css_tokens.specs.Piece.{Word, spelled}
use Rattle.css_tokens.specs.Values.{is_gap, before_run, single_gaps, after_gap, before_gap, word_kind, short_word, behind_taking, parted, parting_word, takes_space, printed_words}
use Rattle.css_tokens.specs.Private.Pendings.{texts_after, pending_text, after_solid, after_waiting_gap}
use Rattle.css_tokens.proofs.PartedLists.{without_white}
use Rattle.css_tokens.proofs.GapLemmas.{kind_cases, not_white, run_solid, run_before_solid, run-run, after_gap-run, before_gap-solid, after_gap-solid}

abbrev pub space : Word
space = record { kind = White; text = codes " " }

abbrev pub comment : Word
comment = record { kind = Comment; text = codes "/**/" }

-- the words with short gaps, each run as one
abbrev pub singled : List Word → List Word
singled ws = single_gaps word_kind (map short_word ws)

pub short_word-solid : (w : Word) → is_gap w.kind ≡ false → short_word w ≡ w
short_word-solid w e = ap (λ text. record { kind = w.kind; text = text }) (ap (λ b. cond b (codes " ") (cond (is_gap w.kind) (codes "/**/") w.text)) (not_white w.kind e) ∙ ap (λ b. cond b (codes "/**/") w.text) e)

pub singled-solid : (w : Word) (ws : List Word) → is_gap w.kind ≡ false → singled (w ∷ ws) ≡ w ∷ singled ws
singled-solid w ws e = ap (λ v. before_run word_kind v (singled ws)) (short_word-solid w e) ∙ run_solid word_kind w (singled ws) e

-- the words that are still to be printed, behind what waits
abbrev shown : Pending → List Word → List Word
shown Start ws = before_gap word_kind (after_gap word_kind ws)
shown Nothing ws = before_gap word_kind ws
shown pending.Comment ws = before_gap word_kind (before_run word_kind comment ws)
shown Space ws = before_gap word_kind (before_run word_kind space ws)
shown AfterEscape ws = before_gap word_kind ws
shown EscapeComment ws = before_gap word_kind (before_run word_kind comment ws)
shown EscapeSpace ws = before_gap word_kind (before_run word_kind space ws)

-- does the word before take a space?
abbrev is_open : Pending → Bool
is_open AfterEscape = true
is_open EscapeComment = true
is_open EscapeSpace = true
is_open p = false

abbrev words_behind : Bool → List Word → List Word
words_behind b ws = behind_taking word_kind parting_word b (parted word_kind parting_word takes_space ws)

abbrev Shows : Pending → List Word → Type 0
Shows p ws = texts_after p ws ≡ spelled (words_behind (is_open p) (shown p (singled ws)))

abbrev told : Bool → List Word → List ℕ
told b ws = spelled (words_behind b (before_gap word_kind ws))

white_shows : (p : Pending) (text : List ℕ) (ws : List Word) → ((q : Pending) → Shows q ws) → Shows p (record { kind = White; text = text } ∷ ws)
white_shows Start text ws h = h Start ∙ ap (told false) (sym (after_gap-run word_kind space (singled ws) refl))
white_shows Nothing text ws h = h Space
white_shows pending.Comment text ws h = h Space ∙ ap (told false) (sym (run-run word_kind comment space (singled ws) refl refl))
white_shows Space text ws h = h Space ∙ ap (told false) (sym (run-run word_kind space space (singled ws) refl refl))
white_shows AfterEscape text ws h = h EscapeSpace
white_shows EscapeComment text ws h = h EscapeSpace ∙ ap (told true) (sym (run-run word_kind comment space (singled ws) refl refl))
white_shows EscapeSpace text ws h = h EscapeSpace ∙ ap (told true) (sym (run-run word_kind space space (singled ws) refl refl))

comment_shows : (p : Pending) (text : List ℕ) (ws : List Word) → ((q : Pending) → Shows q ws) → Shows p (record { kind = Comment; text = text } ∷ ws)
comment_shows Start text ws h = h Start ∙ ap (told false) (sym (after_gap-run word_kind comment (singled ws) refl))
comment_shows Nothing text ws h = h pending.Comment
comment_shows pending.Comment text ws h = h pending.Comment ∙ ap (told false) (sym (run-run word_kind comment comment (singled ws) refl refl))
comment_shows Space text ws h = h Space ∙ ap (told false) (sym (run-run word_kind space comment (singled ws) refl refl))
comment_shows AfterEscape text ws h = h EscapeComment
comment_shows EscapeComment text ws h = h EscapeComment ∙ ap (told true) (sym (run-run word_kind comment comment (singled ws) refl refl))
comment_shows EscapeSpace text ws h = h EscapeSpace ∙ ap (told true) (sym (run-run word_kind space comment (singled ws) refl refl))

-- a word that is no gap, and what is parted behind it
abbrev solid_text : Word → List Word → List ℕ
solid_text w ws = w.text ++ spelled (words_behind (takes_space w) (before_gap word_kind ws))

parted_solid : (b : Bool) (w : Word) (vs : List Word) → is_gap w.kind ≡ false → words_behind b (w ∷ vs) ≡ w ∷ words_behind (takes_space w) vs
parted_solid b w vs e = without_white word_kind parting_word takes_space b w (words_behind (takes_space w) vs) (not_white w.kind e)

-- behind what waits, a word that is no gap and what follows it
shown-solid : (p : Pending) (w : Word) (ws : List Word) → is_gap w.kind ≡ false → spelled (words_behind (is_open p) (shown p (w ∷ ws))) ≡ pending_text p ++ solid_text w ws
shown-solid Start w ws e = ap (told false) (after_gap-solid word_kind w ws e) ∙ ap (λ vs. spelled (words_behind false vs)) (before_gap-solid word_kind w ws e)
shown-solid Nothing w ws e = ap (λ vs. spelled (words_behind false vs)) (before_gap-solid word_kind w ws e)
shown-solid pending.Comment w ws e = ap (told false) (run_before_solid word_kind comment w ws refl e) ∙ ap (λ vs. codes "/**/" ++ spelled (words_behind false vs)) (before_gap-solid word_kind w ws e)
shown-solid Space w ws e = ap (told false) (run_before_solid word_kind space w ws refl e) ∙ ap (λ vs. codes " " ++ spelled (words_behind false vs)) (before_gap-solid word_kind w ws e)
shown-solid AfterEscape w ws e = ap (λ vs. spelled (words_behind true vs)) (before_gap-solid word_kind w ws e) ∙ ap spelled (parted_solid true w (before_gap word_kind ws) e)
shown-solid EscapeComment w ws e = ap (told true) (run_before_solid word_kind comment w ws refl e) ∙ ap (λ vs. codes "/**/" ++ spelled (words_behind false vs)) (before_gap-solid word_kind w ws e)
shown-solid EscapeSpace w ws e = ap (told true) (run_before_solid word_kind space w ws refl e) ∙ ap (λ vs. codes "/**/ " ++ spelled (words_behind false vs)) (before_gap-solid word_kind w ws e)

after_shows : (b : Bool) (ws : List Word) → ((q : Pending) → Shows q ws) → texts_after (after_solid b) ws ≡ spelled (words_behind b (before_gap word_kind (singled ws)))
after_shows true ws h = h AfterEscape
after_shows false ws h = h Nothing

solid_shows : (p : Pending) (w : Word) (ws : List Word) → is_gap w.kind ≡ false → ((q : Pending) → Shows q ws) → Shows p (w ∷ ws)
solid_shows p w ws e h =
    ap (λ b. (cond b [] (pending_text p ++ w.text)) ++ texts_after (cond b (after_waiting_gap p w.kind) (after_solid (takes_space w))) ws) e
    ∙ ap (λ t. (pending_text p ++ w.text) ++ t) (after_shows (takes_space w) ws h)
    ∙ append_assoc (pending_text p) w.text (spelled (words_behind (takes_space w) (before_gap word_kind (singled ws))))
    ∙ sym (ap (λ vs. spelled (words_behind (is_open p) (shown p vs))) (singled-solid w ws e) ∙ shown-solid p w (singled ws) e)

word_shows : (p : Pending) (w : Word) (ws : List Word) → ((q : Pending) → Shows q ws) → Shows p (w ∷ ws)
word_shows p w ws h = elim (kind_cases w.kind) [
  | inl e ↦ subst (λ (k : Kind). Shows p (record { kind = k; text = w.text } ∷ ws)) (sym e) (white_shows p w.text ws h)
  | inr other ↦ elim other [
    | inl e ↦ subst (λ (k : Kind). Shows p (record { kind = k; text = w.text } ∷ ws)) (sym e) (comment_shows p w.text ws h)
    | inr e ↦ solid_shows p w ws e h
  ]
]

shows : (ws : List Word) (p : Pending) → Shows p ws
shows [] Start = refl
shows [] Nothing = refl
shows [] pending.Comment = refl
shows [] Space = refl
shows [] AfterEscape = refl
shows [] EscapeComment = refl
shows [] EscapeSpace = refl
shows (w ∷ ws) p = word_shows p w ws (shows ws)

pub texts_after_start : (ws : List Word) → texts_after Start ws ≡ spelled (printed_words ws)
texts_after_start ws = shows ws Start
