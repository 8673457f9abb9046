-- A nest without an open block holds one component, where a block was open behind each front of its tokens.
use Rattle.std.proofs.Common.{◌≡◌, ℕ, ◌<◌, List, [], ◌∷◌, ◌++◌, true, false, ◌&&◌, not, cond, Some, None, map, length, take, reverse, unwrap_or, option_and_then, refl, ap, sym, ◌∙◌, subst, arith}
use Rattle.std.specs.List.{flat_map, list_all}
use Rattle.std.proofs.lemmas.List.{append-nil, length-append}
use Rattle.std.proofs.Math.Seq.{take-append_seam}
use lib.Pointwise.{bytes_decides}
use Rattle.css_tokens.specs.declared.component.Component.{Component}
use Rattle.css_tokens.specs.declared.component.Component as component
use Rattle.css_tokens.specs.declared.pairing.Nest.{Nest}
use Rattle.css_tokens.specs.Pairing.{awaited, awaited_after, closed_by, depth, IsShallow, IsPaired}
use Rattle.css_tokens.specs.Piece.{Piece}
use Rattle.css_tokens.specs.Private.ComponentReading.{IsOneBlock, HoldsOne}
use Rattle.css_tokens.specs.Private.Nests.{nest_pieces, nest_awaited, opened_pieces, opened_closing, opened_formed}
use Rattle.css_tokens.specs.Trees.{opens, closes, closing, closing_text, pieces_of, pieces_all, pieces_of-Single, pieces_of-Block, is_formed, is_formed-Single, is_formed-Block, all_formed}
use Rattle.css_tokens.proofs.PairingLemmas.{awaited_after-append, IsShallow_push}
use Rattle.css_tokens.proofs.Rebuilt.{both, not_true}
use Rattle.css_tokens.proofs.SomePairing.{nothing_shallow}
use Rattle.css_tokens.proofs.TreeInduction.{Each, by_trees}

-- the tokens of the component close all that they open
abbrev IsClosed : Component → Type 0
IsClosed c = is_formed c ≡ true → (waiting : List (List ℕ)) → awaited_after waiting (pieces_of c) ≡ Some waiting

single_closed : (p : Piece) → IsClosed (component.Single p)
single_closed p e waiting =
    let plain = both (not (opens p.kind)) (not (closes p.kind)) (sym (is_formed-Single p) ∙ e) in
    ap (awaited_after waiting) (pieces_of-Single p)
    ∙ ap (λ b. option_and_then (λ (next : List (List ℕ)). Some next) (cond b (Some (closing_text p.text ∷ waiting)) (cond (closes p.kind) (closed_by p.text waiting) (Some waiting)))) (not_true (opens p.kind) plain.0)
    ∙ ap (λ b. option_and_then (λ (next : List (List ℕ)). Some next) (cond b (closed_by p.text waiting) (Some waiting))) (not_true (closes p.kind) plain.1)

each_closed : (cs : List Component) → Each IsClosed cs → all_formed cs ≡ true → (waiting : List (List ℕ)) → awaited_after waiting (pieces_all cs) ≡ Some waiting
each_closed [] each e waiting = refl
each_closed (c ∷ cs) each e waiting =
    let formed = both (is_formed c) (all_formed cs) e in
    awaited_after-append waiting (pieces_of c) (pieces_all cs)
    ∙ ap (option_and_then (λ next. awaited_after next (pieces_all cs))) (each.0 formed.0 waiting)
    ∙ each_closed cs each.1 formed.1 waiting

block_closed : (opening : Piece) (items : List Component) (close : ℕ) → Each IsClosed items → IsClosed (component.Block (record { opening = opening; items = items; close = close }))
block_closed opening items close each e waiting =
    let formed = both (opens opening.kind) (all_formed items) (sym (is_formed-Block (record { opening = opening; items = items; close = close })) ∙ e) in
    let last : List Piece = closing opening close ∷ [] in
    let inner : List (List ℕ) = closing_text opening.text ∷ waiting in
    ap (awaited_after waiting) (pieces_of-Block (record { opening = opening; items = items; close = close }))
    ∙ ap (λ b. option_and_then (λ next. awaited_after next (pieces_all items ++ last)) (cond b (Some inner) (cond (closes opening.kind) (closed_by opening.text waiting) (Some waiting)))) formed.0
    ∙ awaited_after-append inner (pieces_all items) last
    ∙ ap (option_and_then (λ next. awaited_after next last)) (each_closed items each formed.1 inner)
    ∙ ap (λ b. option_and_then (λ (next : List (List ℕ)). Some next) (cond b (Some waiting) None)) ((bytes_decides (closing_text opening.text) (closing_text opening.text)).1 refl)

closed : (c : Component) → IsClosed c
closed = by_trees IsClosed single_closed block_closed

-- a single token is paired
pub single_paired : (p : Piece) → opens p.kind ≡ false → closes p.kind ≡ false → IsPaired (pieces_of (component.Single p))
single_paired p o k =
    let formed : is_formed (component.Single p) ≡ true = is_formed-Single p ∙ ap (λ b. not b && not (closes p.kind)) o ∙ ap not k in
    let all : awaited (pieces_of (component.Single p)) ≡ Some [] = single_closed p formed [] in
    let none : depth (p ∷ []) ≡ 0 = ap (λ o. length (unwrap_or o [])) (ap awaited (sym (pieces_of-Single p)) ∙ all) in
    record { all_closed = all; shallow = subst IsShallow (sym (pieces_of-Single p)) (IsShallow_push [] p nothing_shallow (omega arith)) }

-- a component has a token
pub pieces_some : (c : Component) → 0 < length (pieces_of c)
pieces_some c = by_trees (λ d. 0 < length (pieces_of d))
    (λ p. let e = ap length (pieces_of-Single p) in omega (arith, e))
    (λ opening items close each. let e = ap length (pieces_of-Block (record { opening = opening; items = items; close = close })) in omega (arith, e))
    c

one_component : (cs : List Component) → all_formed cs ≡ true → 0 < length (pieces_all cs) → IsOneBlock (pieces_all cs) → (c : Component) × (cs ≡ c ∷ [])
one_component [] f some one = absurd (omega arith)
one_component (c ∷ []) f some one = (c, refl)
one_component (c ∷ d ∷ cs) f some one =
    let n = length (pieces_of c) in
    let behind : List Piece = pieces_all (d ∷ cs) in
    let whole : take n (pieces_of c ++ behind) ≡ pieces_of c = take-append_seam (pieces_of c) behind in
    let less : n < length (pieces_of c ++ behind) = omega (arith, length-append (pieces_of c) behind, length-append (pieces_of d) (pieces_all cs), pieces_some d) in
    let deep : 0 < depth (take n (pieces_of c ++ behind)) = one n (pieces_some c) less in
    let flat : depth (take n (pieces_of c ++ behind)) ≡ 0 = ap depth whole ∙ ap (λ o. length (unwrap_or o [])) (closed c (both (is_formed c) (all_formed (d ∷ cs)) f).0 []) in
    absurd (omega arith)

only_one : (xs : List Component) (a b : Component) → xs ++ a ∷ [] ≡ b ∷ [] → (xs ≡ []) × (a ≡ b)
only_one [] a b e = (refl, cc)
only_one (x ∷ xs) a b e = let l = ap length e in absurd (omega (arith, l, length-append xs (a ∷ [])))

module _ (n : Nest) (holds : HoldsOne n) (shut : n.outer.items ≡ []) where
  all_pieces : nest_pieces n ≡ pieces_all n.items
  all_pieces = ap (λ outer. flat_map opened_pieces outer ++ pieces_all n.items) shut

  items_formed : all_formed n.items ≡ true
  items_formed = ap (λ outer. list_all opened_formed outer && all_formed n.items) (sym shut) ∙ holds.formed

  none_awaited : nest_awaited n ≡ []
  none_awaited = ap (λ outer. map opened_closing (reverse outer)) shut

  pub nest_paired : IsPaired (nest_pieces n)
  nest_paired = record { all_closed = holds.matched ∙ ap Some none_awaited; shallow = holds.shallow }

  items_one : 0 < length (nest_pieces n) → (c : Component) × (n.items ≡ c ∷ [])
  items_one some = one_component n.items items_formed (subst (λ ps. 0 < length ps) all_pieces some) (subst IsOneBlock all_pieces holds.one)

  module _ (some : 0 < length (nest_pieces n)) (xs : List Component) (c : Component) (last : n.items ≡ xs ++ c ∷ []) where
    only : (xs ≡ []) × (c ≡ (items_one some).0)
    only = only_one xs c (items_one some).0 (sym last ∙ (items_one some).1)

    pub nothing_left : xs ≡ []
    nothing_left = only.0

    is_items : n.items ≡ c ∷ []
    is_items = last ∙ ap (λ ys. ys ++ c ∷ []) nothing_left

    pub taken_pieces : pieces_of c ≡ nest_pieces n
    taken_pieces = sym (all_pieces ∙ ap pieces_all is_items ∙ append-nil (pieces_of c))

    pub taken_formed : is_formed c ≡ true
    taken_formed = (both (is_formed c) true (sym (ap all_formed is_items) ∙ items_formed)).0

  pub not_empty : 0 < length (nest_pieces n) → n.items ≡ [] → ⊥
  not_empty some e = let one = (items_one some).1 in cc
