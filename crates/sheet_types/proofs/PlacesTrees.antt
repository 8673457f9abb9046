-- Components with each place at 0: what holds of a component from what holds of those in it, and its tokens.
use Rattle.std.proofs.Common.{◌≡◌, List, [], ◌∷◌, ◌++◌, map, Bool, true, false, cond, ◌&&◌, refl, sym, ◌∙◌, ap, subst, IsTrue, codes}
use Rattle.std.proofs.lemmas.List.{map-append}
use Rattle.css_tokens.specs.declared.component.Component.{Component, roll-Component, ind-Component}
use Rattle.css_tokens.specs.declared.component.Component as component
use Rattle.css_tokens.specs.declared.component.Block as block
use Rattle.css_tokens.specs.declared.component.Component.TheOpen.{Component-F, Single, Block}
use Rattle.css_tokens.specs.declared.component.Component.TheVariants.{rolls-Single, rolls-Block}
use Rattle.css_tokens.specs.Piece.{Piece, Word, word_of, spelled}
use Rattle.css_tokens.specs.Trees.{opens, closing, pieces_of, pieces_all, words_all, is_formed, all_formed, pieces_of-Single, pieces_of-Block, is_formed-Single, is_formed-Block}
use Rattle.css_tokens.specs.declared.kind.Kind.{Kind}
use Rattle.css_tokens.specs.declared.kind.Kind.TheVariants.{Comment}
use Rattle.css_tokens.specs.Values.{is_gap, is_white, before_run, single_gaps, after_gap, before_gap, parted, behind_taking, value_text, printed_words}
use Rattle.css_tokens.specs.ValueAgain.{head_kind, shortened, all_shortened, value_shortened, parted_within, all_parted, parting, takes_last, value_again, short_piece, head_kind-Single, head_kind-Block, shortened-Single, shortened-Block, parted_within-Single, parted_within-Block, takes_last-Single, takes_last-Block}
use Rattle.sheet_types.specs.Erased.{placeless, bare_value, erased, erased_block, erased-Single, erased-Block}

-- the piece of a word at the place 0
abbrev pub piece_of : Word → Piece
piece_of w = record { kind = w.kind; text = w.text; at = 0 }

-- Induction.

-- P holds of each
abbrev pub Each : (P : Component → Type 0) → List Component → Type 0
Each P [] = Unit {0}
Each P (c ∷ cs) = P c × Each P cs

every : (P : Component → Type 0) → ((c : Component) → P c) → (cs : List Component) → Each P cs
every P holds [] = tt
every P holds (c ∷ cs) = (holds c, every P holds cs)

each_of : (P : Component → Type 0) (ys : List ((c : Component) × P c)) → Each P (map (λ e. e.0) ys)
each_of P [] = tt
each_of P (y ∷ ys) = (y.1, each_of P ys)

abbrev made : (P : Component → Type 0) (Q : block.Block → Type 0) → Component-F ((c : Component) × P c) ((b : block.Block) × Q b) → Component-F Component block.Block
made P Q = component.map-Component ((c : Component) × P c) ((b : block.Block) × Q b) Component block.Block (λ e. e.0) (λ e. e.0)

component_step : (P : Component → Type 0) (Q : block.Block → Type 0)
    (single : (p : Piece) → P (component.Single p))
    (around : (b : block.Block) → Q b → P (component.Block b))
    (y : Component-F ((c : Component) × P c) ((b : block.Block) × Q b)) → P (roll-Component (made P Q y))
component_step P Q single around (Single p) = subst P (sym (rolls-Single p)) (single p)
component_step P Q single around (Block e) = subst P (sym (rolls-Block e.0)) (around e.0 e.1)

-- what holds of tokens, and of a block from what holds of those in it, holds of every component
pub by_components :
    (P : Component → Type 0)
    (single : (p : Piece) → P (component.Single p))
    (around : (b : block.Block) → Each P b.items → P (component.Block b))
    (c : Component) → P c
by_components P single around c =
    let Q : block.Block → Type 0 = λ b. Each P b.items in
    ind-Component P Q
    (λ x y is. subst (λ z. P (roll-Component z)) is (component_step P Q single around y))
    (λ x y is. subst (λ z. Each P z.items) is (each_of P y.items))
    c

-- Its tokens are the same but for their places.

abbrev HasPieces : Component → Type 0
HasPieces c = pieces_of (erased c) ≡ map placeless (pieces_of c)

pieces-each : (cs : List Component) → Each HasPieces cs → pieces_all (map erased cs) ≡ map placeless (pieces_all cs)
pieces-each [] each = refl
pieces-each (c ∷ cs) each =
    ap (λ ps. ps ++ pieces_all (map erased cs)) each.0
    ∙ ap (λ ps. map placeless (pieces_of c) ++ ps) (pieces-each cs each.1)
    ∙ sym (map-append placeless (pieces_of c) (pieces_all cs))

pieces-block : (b : block.Block) → Each HasPieces b.items → HasPieces (component.Block b)
pieces-block b each =
    ap pieces_of (erased-Block b)
    ∙ pieces_of-Block (erased_block b)
    ∙ ap (λ ps. placeless b.opening ∷ ps ++ closing (placeless b.opening) 0 ∷ []) (pieces-each b.items each)
    ∙ ap (λ ps. placeless b.opening ∷ ps) (sym (map-append placeless (pieces_all b.items) (closing b.opening b.close ∷ [])))
    ∙ ap (map placeless) (sym (pieces_of-Block b))

pieces-erased : (c : Component) → HasPieces c
pieces-erased = by_components HasPieces (λ p. ap pieces_of (erased-Single p) ∙ pieces_of-Single (placeless p) ∙ ap (map placeless) (sym (pieces_of-Single p))) pieces-block

pieces_all-erased : (cs : List Component) → pieces_all (map erased cs) ≡ map placeless (pieces_all cs)
pieces_all-erased cs = pieces-each cs (every HasPieces pieces-erased cs)

words-placeless : (ps : List Piece) → map word_of (map placeless ps) ≡ map word_of ps
words-placeless [] = refl
words-placeless (p ∷ ps) = ap (λ ws. word_of p ∷ ws) (words-placeless ps)

pieces-words : (ps : List Piece) → map placeless ps ≡ map piece_of (map word_of ps)
pieces-words [] = refl
pieces-words (p ∷ ps) = ap (λ qs. placeless p ∷ qs) (pieces-words ps)

-- it has the same words, and so the same text as a value
pub words-erased : (cs : List Component) → words_all (map erased cs) ≡ words_all cs
words-erased cs = ap (map word_of) (pieces_all-erased cs) ∙ words-placeless (pieces_all cs)

pub text-erased : (cs : List Component) → value_text (map erased cs) ≡ value_text cs
text-erased cs = ap (λ ws. spelled (printed_words ws)) (words-erased cs)

-- Well formed components stay so.

abbrev StaysFormed : Component → Type 0
StaysFormed c = is_formed (erased c) ≡ is_formed c

formed-each : (cs : List Component) → Each StaysFormed cs → all_formed (map erased cs) ≡ all_formed cs
formed-each [] each = refl
formed-each (c ∷ cs) each = ap (λ b. b && all_formed (map erased cs)) each.0 ∙ ap (λ b. is_formed c && b) (formed-each cs each.1)

formed-block : (b : block.Block) → Each StaysFormed b.items → StaysFormed (component.Block b)
formed-block b each = ap is_formed (erased-Block b) ∙ is_formed-Block (erased_block b) ∙ ap (λ formed. opens b.opening.kind && formed) (formed-each b.items each) ∙ sym (is_formed-Block b)

formed-erased : (c : Component) → StaysFormed c
formed-erased = by_components StaysFormed (λ p. ap is_formed (erased-Single p) ∙ is_formed-Single (placeless p) ∙ sym (is_formed-Single p)) formed-block

pub all_formed-erased : (cs : List Component) → all_formed (map erased cs) ≡ all_formed cs
all_formed-erased cs = formed-each cs (every StaysFormed formed-erased cs)

-- what is ensured of tokens: they make one list of components at most
abbrev pub OnePairing : Type 0
OnePairing = (a b : List Component) → pieces_all a ≡ pieces_all b → IsTrue (all_formed a) → IsTrue (all_formed b) → a ≡ b

-- components with the same words are the same but for their places
pub same-erased : OnePairing → (a b : List Component) → words_all a ≡ words_all b → IsTrue (all_formed a) → IsTrue (all_formed b) → map erased a ≡ map erased b
same-erased one a b words formed_a formed_b =
    one (map erased a) (map erased b)
    (pieces_all-erased a ∙ pieces-words (pieces_all a) ∙ ap (map piece_of) words ∙ sym (pieces-words (pieces_all b)) ∙ sym (pieces_all-erased b))
    (all_formed-erased a ∙ formed_a)
    (all_formed-erased b ∙ formed_b)

-- White space and comments are the same but for places.

module _ {X : Type 0} (kind : X → Kind) (f : X → X) (same : (x : X) → kind (f x) ≡ kind x) where
  run-step : (x y : X) (ys : List X) (gaps white : Bool) → cond gaps (cond white (f x) (f y) ∷ map f ys) (f x ∷ f y ∷ map f ys) ≡ map f (cond gaps (cond white x y ∷ ys) (x ∷ y ∷ ys))
  run-step x y ys true true = refl
  run-step x y ys true false = refl
  run-step x y ys false white = refl

  run-map : (x : X) (ys : List X) → before_run kind (f x) (map f ys) ≡ map f (before_run kind x ys)
  run-map x [] = refl
  run-map x (y ∷ ys) =
      ap (λ k. cond (is_gap k && is_gap (kind (f y))) (cond (is_white k) (f x) (f y) ∷ map f ys) (f x ∷ f y ∷ map f ys)) (same x)
      ∙ ap (λ k. cond (is_gap (kind x) && is_gap k) (cond (is_white (kind x)) (f x) (f y) ∷ map f ys) (f x ∷ f y ∷ map f ys)) (same y)
      ∙ run-step x y ys (is_gap (kind x) && is_gap (kind y)) (is_white (kind x))

  pub single_gaps-map : (xs : List X) → single_gaps kind (map f xs) ≡ map f (single_gaps kind xs)
  single_gaps-map [] = refl
  single_gaps-map (x ∷ xs) = ap (before_run kind (f x)) (single_gaps-map xs) ∙ run-map x (single_gaps kind xs)

  pub after_gap-map : (xs : List X) → after_gap kind (map f xs) ≡ map f (after_gap kind xs)
  after_gap-map [] = refl
  after_gap-map (x ∷ xs) = ap (λ k. cond (is_gap k) (map f xs) (f x ∷ map f xs)) (same x) ∙ at (is_gap (kind x))
    where
      at : (b : Bool) → cond b (map f xs) (f x ∷ map f xs) ≡ map f (cond b xs (x ∷ xs))
      at true = refl
      at false = refl

  pub before_gap-map : (xs : List X) → before_gap kind (map f xs) ≡ map f (before_gap kind xs)
  before_gap-map [] = refl
  before_gap-map (x ∷ []) = ap (λ k. cond (is_gap k) [] (f x ∷ [])) (same x) ∙ at (is_gap (kind x))
    where
      at : (b : Bool) → cond b [] (f x ∷ []) ≡ map f (cond b [] (x ∷ []))
      at true = refl
      at false = refl
  before_gap-map (x ∷ y ∷ ys) = ap (λ zs. f x ∷ zs) (before_gap-map (y ∷ ys))

kind-erased : (c : Component) → head_kind (erased c) ≡ head_kind c
kind-erased =
    by_components (λ c. head_kind (erased c) ≡ head_kind c)
    (λ p. ap head_kind (erased-Single p) ∙ head_kind-Single (placeless p) ∙ sym (head_kind-Single p))
    (λ b each. ap head_kind (erased-Block b) ∙ head_kind-Block (erased_block b) ∙ sym (head_kind-Block b))

abbrev ShortErased : Component → Type 0
ShortErased c = shortened (erased c) ≡ erased (shortened c)

short-each : (cs : List Component) → Each ShortErased cs → map shortened (map erased cs) ≡ map erased (map shortened cs)
short-each [] each = refl
short-each (c ∷ cs) each = ap (λ d. d ∷ map shortened (map erased cs)) each.0 ∙ ap (λ ds. erased (shortened c) ∷ ds) (short-each cs each.1)

all-short_erased : (cs : List Component) → Each ShortErased cs → all_shortened (map erased cs) ≡ map erased (all_shortened cs)
all-short_erased cs each = ap (single_gaps head_kind) (short-each cs each) ∙ single_gaps-map head_kind erased kind-erased (map shortened cs)

short-erased : (c : Component) → ShortErased c
short-erased =
    by_components ShortErased
    (λ p. ap shortened (erased-Single p) ∙ shortened-Single (placeless p) ∙ sym (ap erased (shortened-Single p) ∙ erased-Single (short_piece p)))
    (λ b each.
    let made : block.Block = record { opening = b.opening; items = all_shortened b.items; close = b.close } in
    ap shortened (erased-Block b) ∙ shortened-Block (erased_block b)
    ∙ ap (λ cs. component.Block (record { opening = placeless b.opening; items = cs; close = 0 })) (all-short_erased b.items each)
    ∙ sym (ap erased (shortened-Block b) ∙ erased-Block made))

-- and what is parted of them

takes-erased : (c : Component) → takes_last (erased c) ≡ takes_last c
takes-erased =
    by_components (λ c. takes_last (erased c) ≡ takes_last c)
    (λ p. ap takes_last (erased-Single p) ∙ takes_last-Single (placeless p) ∙ sym (takes_last-Single p))
    (λ b each. ap takes_last (erased-Block b) ∙ takes_last-Block (erased_block b) ∙ sym (takes_last-Block b))

behind-erased : (takes : Bool) (cs : List Component) → behind_taking head_kind parting takes (map erased cs) ≡ map erased (behind_taking head_kind parting takes cs)
behind-erased false cs = refl
behind-erased true [] = refl
behind-erased true (c ∷ cs) =
    ap (λ k. cond (is_white k) (parting ∷ erased c ∷ map erased cs) (erased c ∷ map erased cs)) (kind-erased c) ∙ at (is_white (head_kind c))
  where
    at : (b : Bool) → cond b (parting ∷ erased c ∷ map erased cs) (erased c ∷ map erased cs) ≡ map erased (cond b (parting ∷ c ∷ cs) (c ∷ cs))
    at true = ap (λ d. d ∷ erased c ∷ map erased cs) (sym (erased-Single (piece_of (record { kind = Comment; text = codes "/**/" }))))
    at false = refl

parted-erased : (cs : List Component) → parted head_kind parting takes_last (map erased cs) ≡ map erased (parted head_kind parting takes_last cs)
parted-erased [] = refl
parted-erased (c ∷ cs) =
    ap (λ rest. erased c ∷ behind_taking head_kind parting (takes_last (erased c)) rest) (parted-erased cs)
    ∙ ap (λ b. erased c ∷ behind_taking head_kind parting b (map erased (parted head_kind parting takes_last cs))) (takes-erased c)
    ∙ ap (λ rest. erased c ∷ rest) (behind-erased (takes_last c) (parted head_kind parting takes_last cs))

abbrev PartErased : Component → Type 0
PartErased c = parted_within (erased c) ≡ erased (parted_within c)

part-each : (cs : List Component) → Each PartErased cs → map parted_within (map erased cs) ≡ map erased (map parted_within cs)
part-each [] each = refl
part-each (c ∷ cs) each = ap (λ d. d ∷ map parted_within (map erased cs)) each.0 ∙ ap (λ ds. erased (parted_within c) ∷ ds) (part-each cs each.1)

all-part_erased : (cs : List Component) → Each PartErased cs → all_parted (map erased cs) ≡ map erased (all_parted cs)
all-part_erased cs each = ap (parted head_kind parting takes_last) (part-each cs each) ∙ parted-erased (map parted_within cs)

part-erased : (c : Component) → PartErased c
part-erased =
    by_components PartErased
    (λ p. ap parted_within (erased-Single p) ∙ parted_within-Single (placeless p) ∙ sym (ap erased (parted_within-Single p) ∙ erased-Single p))
    (λ b each.
    let made : block.Block = record { opening = b.opening; items = all_parted b.items; close = b.close } in
    ap parted_within (erased-Block b) ∙ parted_within-Block (erased_block b)
    ∙ ap (λ cs. component.Block (record { opening = placeless b.opening; items = cs; close = 0 })) (all-part_erased b.items each)
    ∙ sym (ap erased (parted_within-Block b) ∙ erased-Block made))

abbrev ErasedTwice : Component → Type 0
ErasedTwice c = erased (erased c) ≡ erased c

twice-each : (cs : List Component) → Each ErasedTwice cs → map erased (map erased cs) ≡ map erased cs
twice-each [] each = refl
twice-each (c ∷ cs) each = ap (λ d. d ∷ map erased (map erased cs)) each.0 ∙ ap (λ ds. erased c ∷ ds) (twice-each cs each.1)

erased-twice : (c : Component) → ErasedTwice c
erased-twice =
    by_components ErasedTwice
    (λ p. ap erased (erased-Single p) ∙ erased-Single (placeless p) ∙ sym (erased-Single p))
    (λ b each.
    ap erased (erased-Block b) ∙ erased-Block (erased_block b)
    ∙ ap (λ cs. component.Block (record { opening = placeless b.opening; items = cs; close = 0 })) (twice-each b.items each)
    ∙ sym (erased-Block b))

-- a value is the same where the places of its tokens are at 0
pub bare_value-erased : (v : List Component) → bare_value (map erased v) ≡ bare_value v
bare_value-erased v =
    ap (λ cs. map erased (all_parted (before_gap head_kind (after_gap head_kind cs)))) (all-short_erased v (every ShortErased short-erased v))
    ∙ ap (λ cs. map erased (all_parted (before_gap head_kind cs))) (after_gap-map head_kind erased kind-erased (all_shortened v))
    ∙ ap (λ cs. map erased (all_parted cs)) (before_gap-map head_kind erased kind-erased (after_gap head_kind (all_shortened v)))
    ∙ ap (map erased) (all-part_erased (value_shortened v) (every PartErased part-erased (value_shortened v)))
    ∙ twice-each (value_again v) (every ErasedTwice erased-twice (value_again v))
