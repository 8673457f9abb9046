-- What holds of each component of a list holds of those in its parts.
use Rattle.std.proofs.Common.{◌≡◌, ℕ, List, [], ◌∷◌, ◌++◌, map, Bool, true, false, ◌&&◌, ◌||◌, not, refl, sym, ◌∙◌, ap, subst, cond, inl, inr, MatchOption}
use Rattle.std.specs.List.{list_all, list_any, AllByRecursion}
use Rattle.std.proofs.lemmas.Bool.{false≢true, cases_Bool}
use Rattle.std.proofs.lemmas.List.{map-append}
use Rattle.std.proofs.lemmas.List.Folds.{flat_map-map, list_all-map, list_all-append}
use Rattle.css_tokens.specs.declared.component.Component.{Component, out-Component}
use Rattle.css_tokens.specs.declared.component.Component as component
use Rattle.css_tokens.specs.declared.component.Block as block
use Rattle.css_tokens.specs.declared.component.Component.TheOpen.{Component-F, Single, Block}
use Rattle.css_tokens.specs.declared.component.Component.TheFolds.{fold-Component, fold_out-Component}
use Rattle.css_tokens.specs.declared.kind.Kind.{Kind}
use Rattle.css_tokens.specs.declared.kind.Kind.TheVariants as kinds
use Rattle.css_tokens.specs.Piece.{Piece, Word, word_of}
use Rattle.css_tokens.specs.Names.{is_name, name_of_word}
use Rattle.css_tokens.specs.Trees.{pieces_of, pieces_all, words_all, closing, component_pieces, block_pieces, component_formed, block_formed, is_formed, all_formed, opens}
use Rattle.css_components.specs.Components.{Layer, head, inside, layer_head, layer_items, layer_is_single, is_ident, is_ident_kind, is_gap, name_of}
use Rattle.css_components.specs.Trimming.{trimmed, trimmed_start, trimmed_end}
use Rattle.css_rules.specs.Cuts.{Cut, cuts_behind, with_front}
use Rattle.css_rules.specs.Printable.{begins_solid}
use Rattle.selector_types.specs.ReadableSelectors.{is_spelled, is_named, is_clean}
use Rattle.css_rules.proofs.CutLemmas.{not-true, cuts-unmarked, cuts-marked, trimmed_start-gap, trimmed_start-other}
use Rattle.css_rules.proofs.CutAgain.{trimmed_end-solid}
use Rattle.css_rules.proofs.Heads.{single-piece}
use Rattle.css_rules.proofs.BoolLemmas.{and-left, and-right, and-both}

-- Trimmed lists.

pub none-any : (test : Component → Bool) (cs : List Component) → list_all (λ c. not (test c)) cs ≡ true → list_any test cs ≡ false
none-any test [] e = refl
none-any test (c ∷ cs) e =
    ap (λ b. b || list_any test cs) (not-true (test c) (and-left (not (test c)) (list_all (λ x. not (test x)) cs) e))
    ∙ none-any test cs (and-right (not (test c)) (list_all (λ x. not (test x)) cs) e)

at-gap : (test : Component → Bool) (gap : Bool) (xs ys : List Component) → list_all test xs ≡ true → list_all test ys ≡ true → list_all test (cond gap xs ys) ≡ true
at-gap test true xs ys e f = e
at-gap test false xs ys e f = f

pub all-start : (test : Component → Bool) (cs : List Component) → list_all test cs ≡ true → list_all test (trimmed_start cs) ≡ true
all-start test [] e = refl
all-start test (c ∷ cs) e = at-gap test (is_gap c) (trimmed_start cs) (c ∷ cs) (all-start test cs (and-right (test c) (list_all test cs) e)) e

pub all-end : (test : Component → Bool) (cs : List Component) → list_all test cs ≡ true → list_all test (trimmed_end cs) ≡ true
all-end test [] e = refl
all-end test (c ∷ cs) e =
    let rest = all-end test cs (and-right (test c) (list_all test cs) e) in
    at-gap test (list_all is_gap (c ∷ cs)) [] (c ∷ trimmed_end cs) refl (and-both (test c) (list_all test (trimmed_end cs)) (and-left (test c) (list_all test cs) e) rest)

pub all-trimmed : (test : Component → Bool) (cs : List Component) → list_all test cs ≡ true → list_all test (trimmed cs) ≡ true
all-trimmed test cs e = all-end test (trimmed_start cs) (all-start test cs e)

pub trimmed-begins : (cs : List Component) → begins_solid (trimmed cs) ≡ true
trimmed-begins [] = refl
trimmed-begins (c ∷ cs) = elim (cases_Bool (is_gap c)) [
  | inl gap ↦ ap (λ xs. begins_solid (trimmed_end xs)) (trimmed_start-gap c cs gap) ∙ trimmed-begins cs
  | inr solid ↦ ap (λ xs. begins_solid (trimmed_end xs)) (trimmed_start-other c cs solid) ∙ ap begins_solid (trimmed_end-solid c cs solid) ∙ ap not solid
]

-- Cuts.

-- its front and its mark pass the test, and no mark stands in its front
pub record IsPart (test mark : Component → Bool) (cut : Cut) : Type 0 where
  pub kept : list_all test cut.front ≡ true
  pub unmarked : list_all (λ c. not (mark c)) cut.front ≡ true
  pub closed : MatchOption cut.mark (Unit {0}) (λ c. test c ≡ true)

longer : (test mark : Component → Bool) (c : Component) (cs : List Cut) → test c ≡ true → mark c ≡ false → AllByRecursion (IsPart test mark) cs → AllByRecursion (IsPart test mark) (with_front c cs)
longer test mark c [] kept unmarked each = tt
longer test mark c (cut ∷ cs) kept unmarked each = (
  record {
    kept = and-both (test c) (list_all test cut.front) kept each.0.kept;
    unmarked = and-both (not (mark c)) (list_all (λ x. not (mark x)) cut.front) (ap not unmarked) each.0.unmarked;
    closed = each.0.closed;
  },
  each.1,
)

-- where a mark ends whatever stands before it
pub parts-cuts : (test mark : Component → Bool) (ends : List Component → Component → Bool) → ((before : List Component) (c : Component) → mark c ≡ true → ends before c ≡ true)
    → (before cs : List Component) → list_all test cs ≡ true → AllByRecursion (IsPart test mark) (cuts_behind ends before cs)
parts-cuts test mark ends always before [] e = (record { kept = refl; unmarked = refl; closed = tt }, tt)
parts-cuts test mark ends always before (c ∷ cs) e =
    let more = and-right (test c) (list_all test cs) e in
    let here = and-left (test c) (list_all test cs) e in
    elim (cases_Bool (ends before c)) [
      | inl marked ↦ subst (λ (xs : List Cut). AllByRecursion (IsPart test mark) xs) (sym (cuts-marked ends before c cs marked))
          (record { kept = refl; unmarked = refl; closed = here }, parts-cuts test mark ends always [] cs more)
      | inr unmarked ↦ subst (λ (xs : List Cut). AllByRecursion (IsPart test mark) xs) (sym (cuts-unmarked ends before c cs unmarked))
          (longer test mark c (cuts_behind ends (before ++ c ∷ []) cs) here (no-mark (mark c) refl unmarked) (parts-cuts test mark ends always (before ++ c ∷ []) cs more))
    ]
  where
    no-mark : (b : Bool) → mark c ≡ b → ends before c ≡ false → b ≡ false
    no-mark true is other = sym (always before c is) ∙ other
    no-mark false is other = refl

-- Components that are well formed and whose words pass a test.

abbrev pub sound_by : (Word → Bool) → Component → Bool
sound_by good c = is_formed c && list_all good (map word_of (pieces_of c))

-- Their Idents spell Idents.
abbrev pub is_sound : Component → Bool
is_sound c = sound_by is_spelled c

good-append : (good : Word → Bool) (a b : List Piece) → list_all good (map word_of (a ++ b)) ≡ (list_all good (map word_of a) && list_all good (map word_of b))
good-append good a b = ap (list_all good) (map-append word_of a b) ∙ list_all-append good (map word_of a) (map word_of b)

pub all-sound : (good : Word → Bool) (cs : List Component) → all_formed cs ≡ true → list_all good (words_all cs) ≡ true → list_all (sound_by good) cs ≡ true
all-sound good [] f s = refl
all-sound good (c ∷ cs) f s =
    let both = sym (good-append good (pieces_of c) (pieces_all cs)) ∙ s in
    let here = list_all good (map word_of (pieces_of c)) in
    let rest = list_all good (words_all cs) in
    and-both (sound_by good c) (list_all (sound_by good) cs)
    (and-both (is_formed c) here (and-left (is_formed c) (all_formed cs) f) (and-left here rest both))
    (all-sound good cs (and-right (is_formed c) (all_formed cs) f) (and-right here rest both))

pub sound-formed : (good : Word → Bool) (cs : List Component) → list_all (sound_by good) cs ≡ true → all_formed cs ≡ true
sound-formed good [] e = refl
sound-formed good (c ∷ cs) e =
    and-both (is_formed c) (all_formed cs)
    (and-left (is_formed c) (list_all good (map word_of (pieces_of c))) (and-left (sound_by good c) (list_all (sound_by good) cs) e))
    (sound-formed good cs (and-right (sound_by good c) (list_all (sound_by good) cs) e))

pub sound-spelled : (good : Word → Bool) (cs : List Component) → list_all (sound_by good) cs ≡ true → list_all good (words_all cs) ≡ true
sound-spelled good [] e = refl
sound-spelled good (c ∷ cs) e =
    good-append good (pieces_of c) (pieces_all cs)
    ∙ and-both (list_all good (map word_of (pieces_of c))) (list_all good (words_all cs))
    (and-right (is_formed c) (list_all good (map word_of (pieces_of c))) (and-left (sound_by good c) (list_all (sound_by good) cs) e))
    (sound-spelled good cs (and-right (sound_by good c) (list_all (sound_by good) cs) e))

-- What stands in a block is so.

abbrev layer_pieces : Component-F Component block.Block → List Piece
layer_pieces v = component_pieces (component.map-Component Component block.Block (List Piece) (List Piece) (fold-Component (List Piece) (List Piece) component_pieces block_pieces) (block.fold-Block (List Piece) (List Piece) component_pieces block_pieces) v)

block-pieces : (c : Component) (b : block.Block) → out-Component c ≡ Block b → pieces_of c ≡ b.opening ∷ pieces_all b.items ++ closing b.opening b.close ∷ []
block-pieces c b e =
    fold_out-Component (List Piece) (List Piece) component_pieces block_pieces c
    ∙ ap layer_pieces e
    ∙ block.fold_out-Block (List Piece) (List Piece) component_pieces block_pieces b
    ∙ ap (λ inner. b.opening ∷ inner ++ closing b.opening b.close ∷ []) (flat_map-map (λ pieces. pieces) pieces_of b.items)

abbrev layer_formed : Component-F Component block.Block → Bool
layer_formed v = component_formed (component.map-Component Component block.Block Bool Bool (fold-Component Bool Bool component_formed block_formed) (block.fold-Block Bool Bool component_formed block_formed) v)

block-formed : (c : Component) (b : block.Block) → out-Component c ≡ Block b → is_formed c ≡ (opens b.opening.kind && all_formed b.items)
block-formed c b e =
    fold_out-Component Bool Bool component_formed block_formed c
    ∙ ap layer_formed e
    ∙ block.fold_out-Block Bool Bool component_formed block_formed b
    ∙ ap (λ r. opens b.opening.kind && r) (list_all-map (λ formed. formed) is_formed b.items)

pub formed-inside : (c : Component) → is_formed c ≡ true → all_formed (inside c) ≡ true
formed-inside c e = at (out-Component c) refl
  where
    at : (v : Layer) → out-Component c ≡ v → all_formed (layer_items v) ≡ true
    at (Single p) is = refl
    at (Block b) is = and-right (opens b.opening.kind) (all_formed b.items) (sym (block-formed c b is) ∙ e)

items-good : (good : Word → Bool) (c : Component) (b : block.Block) → out-Component c ≡ Block b → list_all good (map word_of (pieces_of c)) ≡ true → list_all good (words_all b.items) ≡ true
items-good good c b e s =
    let last = closing b.opening b.close ∷ [] in
    let all = sym (ap (λ ps. list_all good (map word_of ps)) (block-pieces c b e)) ∙ s in
    let items = and-right (good (word_of b.opening)) (list_all good (map word_of (pieces_all b.items ++ last))) all in
    and-left (list_all good (words_all b.items)) (list_all good (map word_of last)) (sym (good-append good (pieces_all b.items) last) ∙ items)

pub sound-inside : (good : Word → Bool) (c : Component) → sound_by good c ≡ true → list_all (sound_by good) (inside c) ≡ true
sound-inside good c e = all-sound good (inside c) (formed-inside c (and-left (is_formed c) (list_all good (map word_of (pieces_of c))) e)) (at (out-Component c) refl)
  where
    at : (v : Layer) → out-Component c ≡ v → list_all good (words_all (layer_items v)) ≡ true
    at (Single p) is = refl
    at (Block b) is = items-good good c b is (and-right (is_formed c) (list_all good (map word_of (pieces_of c))) e)

-- An Ident has a name.

ident-kind : (k : Kind) (text : List ℕ) → is_ident_kind k ≡ true → is_named k text ≡ true → is_name (name_of_word k text) ≡ true
ident-kind kinds.Ident text is e = e
ident-kind k text is e = absurd (false≢true is)

pub sound-ident : (c : Component) → is_sound c ≡ true → is_ident c ≡ true → is_name (name_of (head c)) ≡ true
sound-ident c e is = at (out-Component c) refl is
  where
    at : (v : Layer) → out-Component c ≡ v → (layer_is_single v && is_ident_kind (layer_head v).kind) ≡ true → is_name (name_of (layer_head v)) ≡ true
    at (Block b) o i = absurd (false≢true i)
    at (Single p) o i =
        let all = sym (ap (λ ps. list_all is_spelled (map word_of ps)) (single-piece c p o)) ∙ and-right (is_formed c) (list_all is_spelled (map word_of (pieces_of c))) e in
        ident-kind p.kind p.text i (and-right (is_clean p.text) (is_named p.kind p.text) (and-left (is_spelled (word_of p)) true all))
