-- Components can be rebuilt from their tokens.
use Rattle.std.proofs.Common.{◌≡◌, ℕ, List, [], ◌∷◌, ◌++◌, Bool, true, false, ◌&&◌, not, cond, if◌then◌else◌, refl, ap, sym, ◌∙◌, append_assoc}
use Rattle.std.proofs.lemmas.List.{append-nil}
use Rattle.css_tokens.specs.declared.component.Component.{Component}
use Rattle.css_tokens.specs.declared.component.Component as component
use Rattle.css_tokens.specs.Piece.{Piece}
use Rattle.css_tokens.specs.Trees.{opens, closes, closing, pieces_of, pieces_all, pieces_of-Single, pieces_of-Block, is_formed, is_formed-Single, is_formed-Block, all_formed}
use Rattle.css_tokens.proofs.TreeInduction.{Each, by_trees}

-- the open blocks, the innermost first, each with what stands before it, and what stands in the innermost
pub record Half : Type 0 where
  pub outer : List (List Component × Piece)
  pub items : List Component

abbrev pub close_half : List (List Component × Piece) → List Component → ℕ → Half
close_half [] items at = record { outer = []; items = items }
close_half (o ∷ outer) items at = record { outer = outer; items = o.0 ++ component.Block (record { opening = o.1; items = items; close = at }) ∷ [] }

abbrev pub step : Half → Piece → Half
step h t = if opens t.kind then record { outer = (h.items, t) ∷ h.outer; items = [] } else (if closes t.kind then close_half h.outer h.items t.at else record { outer = h.outer; items = h.items ++ component.Single t ∷ [] })

abbrev run : Half → List Piece → Half
run h [] = h
run h (t ∷ ts) = run (step h t) ts

abbrev pub put : Half → List Component → Half
put h cs = record { outer = h.outer; items = h.items ++ cs }

abbrev IsRebuilt : Component → Type 0
IsRebuilt c = is_formed c ≡ true → (h : Half) (rest : List Piece) → run h (pieces_of c ++ rest) ≡ run (put h (c ∷ [])) rest

pub both : (a b : Bool) → (a && b) ≡ true → (a ≡ true) × (b ≡ true)
both true b e = (refl, e)
both false b e = cc

pub not_true : (a : Bool) → not a ≡ true → a ≡ false
not_true true e = cc
not_true false e = refl

single_rebuilt : (p : Piece) → IsRebuilt (component.Single p)
single_rebuilt p e h rest =
    let plain = both (not (opens p.kind)) (not (closes p.kind)) (sym (is_formed-Single p) ∙ e) in
    ap (λ ps. run h (ps ++ rest)) (pieces_of-Single p)
    ∙ ap (λ b. run (cond b (record { outer = (h.items, p) ∷ h.outer; items = [] }) (cond (closes p.kind) (close_half h.outer h.items p.at) (put h (component.Single p ∷ [])))) rest) (not_true (opens p.kind) plain.0)
    ∙ ap (λ b. run (cond b (close_half h.outer h.items p.at) (put h (component.Single p ∷ []))) rest) (not_true (closes p.kind) plain.1)

all_rebuilt : (cs : List Component) → Each IsRebuilt cs → all_formed cs ≡ true → (h : Half) (rest : List Piece) → run h (pieces_all cs ++ rest) ≡ run (put h cs) rest
all_rebuilt [] each e h rest = ap (λ items. run (record { outer = h.outer; items = items }) rest) (sym (append-nil h.items))
all_rebuilt (c ∷ cs) each e h rest =
    let formed = both (is_formed c) (all_formed cs) e in
    ap (run h) (append_assoc (pieces_of c) (pieces_all cs) rest)
    ∙ each.0 formed.0 h (pieces_all cs ++ rest)
    ∙ all_rebuilt cs each.1 formed.1 (put h (c ∷ [])) rest
    ∙ ap (λ items. run (record { outer = h.outer; items = items }) rest) (append_assoc h.items (c ∷ []) cs)

block_rebuilt : (opening : Piece) (items : List Component) (close : ℕ) → Each IsRebuilt items → IsRebuilt (component.Block (record { opening = opening; items = items; close = close }))
block_rebuilt opening items close each e h rest =
    let block : component.Component = component.Block (record { opening = opening; items = items; close = close }) in
    let formed = both (opens opening.kind) (all_formed items) (sym (is_formed-Block (record { opening = opening; items = items; close = close })) ∙ e) in
    let tail : (pieces_all items ++ closing opening close ∷ []) ++ rest ≡ pieces_all items ++ (closing opening close ∷ rest) = append_assoc (pieces_all items) (closing opening close ∷ []) rest in
    let inside : Half = record { outer = (h.items, opening) ∷ h.outer; items = [] } in
    ap (λ ps. run h (ps ++ rest)) (pieces_of-Block (record { opening = opening; items = items; close = close }))
    ∙ ap (λ ps. run (step h opening) ps) tail
    ∙ ap (λ b. run (cond b inside (cond (closes opening.kind) (close_half h.outer h.items opening.at) (put h (component.Single opening ∷ [])))) (pieces_all items ++ (closing opening close ∷ rest))) formed.0
    ∙ all_rebuilt items each formed.1 inside (closing opening close ∷ rest)

rebuilt : (c : Component) → IsRebuilt c
rebuilt = by_trees IsRebuilt single_rebuilt block_rebuilt

each_rebuilt : (cs : List Component) → Each IsRebuilt cs
each_rebuilt [] = tt
each_rebuilt (c ∷ cs) = (rebuilt c, each_rebuilt cs)

whole : (cs : List Component) → all_formed cs ≡ true → (run (record { outer = []; items = [] }) (pieces_all cs)).items ≡ cs
whole cs e =
    let empty : Half = record { outer = []; items = [] } in
    ap (λ ps. (run empty ps).items) (sym (append-nil (pieces_all cs))) ∙ ap (λ h. h.items) (all_rebuilt cs (each_rebuilt cs) e empty [])

-- tokens make one list of components at most
pub same_components : (a b : List Component) → pieces_all a ≡ pieces_all b → all_formed a ≡ true → all_formed b ≡ true → a ≡ b
same_components a b e f g = sym (whole a f) ∙ ap (λ ps. (run (record { outer = []; items = [] }) ps).items) e ∙ whole b g
