-- The words of parted components are parted words.
use Rattle.std.proofs.Common.{◌≡◌, ℕ, List, [], ◌∷◌, ◌++◌, Bool, true, false, ◌&&◌, not, cond, refl, ap, sym, ◌∙◌, subst, append_assoc, inl, inr, codes}
use Rattle.std.proofs.lemmas.Bool.{not-true}
use Rattle.std.proofs.lemmas.List.{append-nil, map-append}
use Rattle.css_tokens.specs.declared.kind.Kind.{Kind}
use Rattle.css_tokens.specs.declared.kind.Kind.TheVariants as kind
use Rattle.css_tokens.specs.declared.class.Class.TheVariants as class
use Rattle.css_tokens.specs.declared.component.Component.{Component}
use Rattle.css_tokens.specs.declared.component.Component as component
use Rattle.css_tokens.specs.declared.component.Block.{Block}
use Rattle.css_tokens.specs.declared.machine.State.{State}
use Rattle.css_tokens.specs.declared.machine.State.TheVariants as state
use Rattle.css_tokens.specs.Again.{takes}
use Rattle.css_tokens.specs.Characters.{class_of}
use Rattle.css_tokens.specs.Kinds.{kind_of, table}
use Rattle.css_tokens.specs.Private.Machine.{next, ended}
use Rattle.css_tokens.specs.Piece.{Piece, Word, word_of}
use Rattle.css_tokens.specs.Tokens.{classes_of, names}
use Rattle.css_tokens.specs.Trees.{opens, closing, words_all, is_formed, is_formed-Single, is_formed-Block, all_formed}
use Rattle.css_tokens.specs.Values.{is_white, is_gap, behind_taking, parted, parting_word, takes_space, word_kind}
use Rattle.css_tokens.specs.ValueAgain.{head_kind, head_kind-Block, takes_last, takes_last-Single, takes_last-Block, parting, parted_within, parted_within-Single, parted_within-Block, all_parted}
use Rattle.css_tokens.proofs.AgainLemmas.{words_of, words_of-Single, shape, joined}
use Rattle.css_tokens.proofs.AgainWords.{first_word}
use Rattle.css_tokens.proofs.GapLemmas.{bool_cases}
use Rattle.css_tokens.proofs.MachineStates.{all_pass, each_state}
use Rattle.css_tokens.proofs.PartedLists.{without_white}
use Rattle.css_tokens.proofs.Rebuilt.{both}
use Rattle.css_tokens.proofs.Runs.{run, kind_of-run}
use Rattle.css_tokens.proofs.Takes.{run-append}
use Rattle.css_tokens.proofs.TreeInduction.{Each, by_trees}
use Rattle.css_tokens.proofs.WritingLemmas.{words_all-cons, words_of-Block}

-- No bracket takes a space.

abbrev no_space : Kind → State → Bool
no_space k s = not (names k (ended (next s class.Blank) []))

kind_takes_none : (k : Kind) (w : Word) → w.kind ≡ k → all_pass (no_space k) ≡ true → takes_space w ≡ false
kind_takes_none k w e h =
    let n = not-true (names k (ended (next (run state.Start (classes_of w.text)) class.Blank) [])) (each_state (no_space k) h (run state.Start (classes_of w.text))) in
    let spelled : takes w (codes " ") ≡ false =
    ap (λ (j : Kind). names j (kind_of table (classes_of (w.text ++ 32 ∷ [])) [])) e
    ∙ ap (names k) (kind_of-run state.Start (classes_of (w.text ++ 32 ∷ [])) [] ∙ ap (λ c. ended (run state.Start c) []) (map-append class_of w.text (32 ∷ [])) ∙ ap (λ r. ended r []) (run-append state.Start (classes_of w.text) (class.Blank ∷ []))) ∙ n in
    no_more (not (is_gap w.kind)) (takes w (codes " ")) spelled
  where
    no_more : (a b : Bool) → b ≡ false → (a && b) ≡ false
    no_more true b h = h
    no_more false b h = refl

pub open_takes_none : (w : Word) (k : Kind) → w.kind ≡ k → opens k ≡ true → takes_space w ≡ false
open_takes_none w kind.Function e h = kind_takes_none kind.Function w e refl
open_takes_none w kind.Open e h = kind_takes_none kind.Open w e refl
open_takes_none w k e h = cc

close_takes_none : (opening : Piece) (close : ℕ) → takes_space (word_of (closing opening close)) ≡ false
close_takes_none opening close = kind_takes_none kind.Close (word_of (closing opening close)) refl refl

abbrev pub parted_words : List Word → List Word
parted_words ws = parted word_kind parting_word takes_space ws

abbrev behind_word : Bool → List Word → List Word
behind_word b ws = behind_taking word_kind parting_word b ws

behind_nil : (b : Bool) → behind_word b [] ≡ []
behind_nil true = refl
behind_nil false = refl

-- the words do not begin with white space
abbrev IsDarkFirst : List Word → Type 0
IsDarkFirst [] = Unit {0}
IsDarkFirst (w ∷ ws) = is_white w.kind ≡ false

dark_behind : (b : Bool) (ys : List Word) → IsDarkFirst ys → behind_word b ys ≡ ys
dark_behind b [] h = behind_nil b
dark_behind b (y ∷ ys) h = without_white word_kind parting_word takes_space b y ys h

words_parting : words_of parting ≡ parting_word ∷ []
words_parting = words_of-Single (record { kind = kind.Comment; text = codes "/**/"; at = 0 })

-- behind the same flag, components and their words
words-behind : (b : Bool) (ds : List Component) (ys : List Word) → IsDarkFirst ys → behind_word b (words_all ds ++ ys) ≡ words_all (behind_taking head_kind parting b ds) ++ ys
words-behind false ds ys h = refl
words-behind true [] ys h = dark_behind true ys h
words-behind true (d ∷ ds) ys h =
    let first = first_word d in
    let form : words_all (d ∷ ds) ++ ys ≡ first.0 ∷ ((first.1 ++ words_all ds) ++ ys) = ap (λ ws. ws ++ ys) (words_all-cons d ds ∙ ap (λ ws. ws ++ words_all ds) first.2) in
    ap (behind_word true) form
    ∙ elim (bool_cases (is_white (head_kind d))) [
      | inl e ↦
          ap (λ b. cond b (parting_word ∷ first.0 ∷ ((first.1 ++ words_all ds) ++ ys)) (first.0 ∷ ((first.1 ++ words_all ds) ++ ys))) (ap is_white first.3 ∙ e)
          ∙ ap (λ ws. parting_word ∷ ws) (sym form)
          ∙ sym (ap (λ b. words_all (cond b (parting ∷ d ∷ ds) (d ∷ ds)) ++ ys) e ∙ ap (λ ws. ws ++ ys) (words_all-cons parting (d ∷ ds) ∙ ap (λ ws. ws ++ words_all (d ∷ ds)) words_parting))
      | inr e ↦
          ap (λ b. cond b (parting_word ∷ first.0 ∷ ((first.1 ++ words_all ds) ++ ys)) (first.0 ∷ ((first.1 ++ words_all ds) ++ ys))) (ap is_white first.3 ∙ e)
          ∙ sym form
          ∙ sym (ap (λ b. words_all (cond b (parting ∷ d ∷ ds) (d ∷ ds)) ++ ys) e)
    ]

takes_last-parted : (c : Component) → takes_last (parted_within c) ≡ takes_last c
takes_last-parted c = elim (shape c) [
  | inl s ↦ subst (λ (d : Component). takes_last (parted_within d) ≡ takes_last d) (sym s.1) (ap takes_last (parted_within-Single s.0))
  | inr s ↦ subst (λ (d : Component). takes_last (parted_within d) ≡ takes_last d) (sym s.1) (ap takes_last (parted_within-Block s.0) ∙ takes_last-Block (record { opening = s.0.opening; items = all_parted s.0.items; close = s.0.close }) ∙ sym (takes_last-Block s.0))
]

pub head_kind-parted : (c : Component) → head_kind (parted_within c) ≡ head_kind c
head_kind-parted c = elim (shape c) [
  | inl s ↦ subst (λ (d : Component). head_kind (parted_within d) ≡ head_kind d) (sym s.1) (ap head_kind (parted_within-Single s.0))
  | inr s ↦ subst (λ (d : Component). head_kind (parted_within d) ≡ head_kind d) (sym s.1) (ap head_kind (parted_within-Block s.0) ∙ head_kind-Block (record { opening = s.0.opening; items = all_parted s.0.items; close = s.0.close }) ∙ sym (head_kind-Block s.0))
]

-- what a component's words are before others
abbrev PartsApart : Component → Type 0
PartsApart c = is_formed c ≡ true → (rest : List Word) → parted_words (words_of c ++ rest) ≡ words_of (parted_within c) ++ behind_word (takes_last c) (parted_words rest)

list_parts : (cs : List Component) → Each PartsApart cs → all_formed cs ≡ true → (rest : List Word) → IsDarkFirst (parted_words rest) → parted_words (words_all cs ++ rest) ≡ words_all (all_parted cs) ++ parted_words rest
list_parts [] each formed rest h = refl
list_parts (c ∷ cs) each formed rest h =
    let f = both (is_formed c) (all_formed cs) formed in
    ap (λ ws. parted_words (ws ++ rest)) (words_all-cons c cs) ∙ ap parted_words (append_assoc (words_of c) (words_all cs) rest)
    ∙ each.0 f.0 (words_all cs ++ rest)
    ∙ ap (λ ws. words_of (parted_within c) ++ behind_word (takes_last c) ws) (list_parts cs each.1 f.1 rest h)
    ∙ ap (λ ws. words_of (parted_within c) ++ ws) (words-behind (takes_last c) (all_parted cs) (parted_words rest) h)
    ∙ sym (append_assoc (words_of (parted_within c)) (words_all (behind_taking head_kind parting (takes_last c) (all_parted cs))) (parted_words rest))
    ∙ ap (λ ws. ws ++ parted_words rest) (sym (words_all-cons (parted_within c) (behind_taking head_kind parting (takes_last c) (all_parted cs))))
    ∙ ap (λ b. words_all (parted_within c ∷ behind_taking head_kind parting b (all_parted cs)) ++ parted_words rest) (sym (takes_last-parted c))

single_parts : (p : Piece) → PartsApart (component.Single p)
single_parts p e rest =
    ap (λ ws. parted_words (ws ++ rest)) (words_of-Single p)
    ∙ ap (λ b. word_of p ∷ behind_word b (parted_words rest)) (sym (takes_last-Single p))
    ∙ ap (λ ws. ws ++ behind_word (takes_last (component.Single p)) (parted_words rest)) (sym (ap words_of (parted_within-Single p) ∙ words_of-Single p))

block_parts : (opening : Piece) (items : List Component) (close : ℕ) → Each PartsApart items → PartsApart (component.Block (record { opening = opening; items = items; close = close }))
block_parts opening items close each e rest =
    let b : Block = record { opening = opening; items = items; close = close } in
    let f = both (opens opening.kind) (all_formed items) (sym (is_formed-Block b) ∙ e) in
    let last : Word = word_of (closing opening close) in
    let none = close_takes_none opening close in
    let ended : parted_words (last ∷ rest) ≡ last ∷ parted_words rest = ap (λ t. last ∷ behind_word t (parted_words rest)) none in
    let inner = words_all (all_parted items) in
    ap (λ ws. parted_words (ws ++ rest)) (words_of-Block b)
    ∙ ap (λ t. word_of opening ∷ behind_word t (parted_words ((words_all items ++ last ∷ []) ++ rest))) (open_takes_none (word_of opening) opening.kind refl f.0)
    ∙ ap (λ ws. word_of opening ∷ parted_words ws) (append_assoc (words_all items) (last ∷ []) rest)
    ∙ ap (λ ws. word_of opening ∷ ws) (list_parts items each f.1 (last ∷ rest) refl ∙ ap (λ ws. inner ++ ws) ended ∙ sym (append_assoc inner (last ∷ []) (parted_words rest)))
    ∙ ap (λ ws. ws ++ parted_words rest) (sym (ap words_of (parted_within-Block b) ∙ words_of-Block (record { opening = opening; items = all_parted items; close = close })))
    ∙ ap (λ t. words_of (parted_within (component.Block b)) ++ behind_word t (parted_words rest)) (sym (takes_last-Block b))

parts_apart : (c : Component) → PartsApart c
parts_apart = by_trees PartsApart single_parts block_parts

each_parts : (cs : List Component) → Each PartsApart cs
each_parts [] = tt
each_parts (c ∷ cs) = (parts_apart c, each_parts cs)

pub words_parted : (cs : List Component) → all_formed cs ≡ true → words_all (all_parted cs) ≡ parted_words (words_all cs)
words_parted cs e = sym (ap parted_words (sym (append-nil (words_all cs))) ∙ list_parts cs (each_parts cs) e [] tt ∙ append-nil (words_all (all_parted cs)))

-- Parted components are well formed.

behind_formed : (b : Bool) (ds : List Component) → all_formed ds ≡ true → all_formed (behind_taking head_kind parting b ds) ≡ true
behind_formed false ds h = h
behind_formed true [] h = h
behind_formed true (d ∷ ds) h = elim (bool_cases (is_white (head_kind d))) [
  | inl e ↦ ap (λ b. all_formed (cond b (parting ∷ d ∷ ds) (d ∷ ds))) e ∙ joined (is_formed parting) (all_formed (d ∷ ds)) (is_formed-Single (record { kind = kind.Comment; text = codes "/**/"; at = 0 })) h
  | inr e ↦ ap (λ b. all_formed (cond b (parting ∷ d ∷ ds) (d ∷ ds))) e ∙ h
]

abbrev StaysFormed : Component → Type 0
StaysFormed c = is_formed c ≡ true → is_formed (parted_within c) ≡ true

list_formed : (cs : List Component) → Each StaysFormed cs → all_formed cs ≡ true → all_formed (all_parted cs) ≡ true
list_formed [] each e = refl
list_formed (c ∷ cs) each e =
    let h = both (is_formed c) (all_formed cs) e in
    joined (is_formed (parted_within c)) (all_formed (behind_taking head_kind parting (takes_last (parted_within c)) (all_parted cs))) (each.0 h.0) (behind_formed (takes_last (parted_within c)) (all_parted cs) (list_formed cs each.1 h.1))

stays_formed : (c : Component) → StaysFormed c
stays_formed = by_trees StaysFormed (λ p e. ap is_formed (parted_within-Single p) ∙ e) (λ opening items close each e. (
    let b : Block = record { opening = opening; items = items; close = close } in
    let h = both (opens opening.kind) (all_formed items) (sym (is_formed-Block b) ∙ e) in
    ap is_formed (parted_within-Block b) ∙ is_formed-Block (record { opening = opening; items = all_parted items; close = close }) ∙ joined (opens opening.kind) (all_formed (all_parted items)) h.0 (list_formed items each h.1)))

each_stays : (cs : List Component) → Each StaysFormed cs
each_stays [] = tt
each_stays (c ∷ cs) = (stays_formed c, each_stays cs)

pub all_parted_formed : (cs : List Component) → all_formed cs ≡ true → all_formed (all_parted cs) ≡ true
all_parted_formed cs e = list_formed cs (each_stays cs) e
