-- Tokens are paired, or have a fault of brackets; and paired tokens make components.
use Rattle.std.proofs.Common.{◌≡◌, ℕ, zero, suc, ◌≤◌, ◌⊎◌, inl, inr, List, [], ◌∷◌, ◌++◌, map, length, take, Bool, true, false, ◌&&◌, not, Option, Some, None, unwrap_or, option_and_then, if◌then◌else◌, refl, sym, ap, ◌∙◌, subst, arith, append_assoc}
use Rattle.std.specs.Cmp.Lexicographic.{same_text}
use Rattle.std.specs.List.{flat_map, list_all}
use Rattle.std.proofs.lemmas.Bool.{cases_lt}
use Rattle.std.proofs.lemmas.Grind.{flat_map-append}
use Rattle.std.proofs.lemmas.List.{append-nil}
use Rattle.std.proofs.lemmas.List.Folds.{list_all-append}
use Rattle.css_tokens.specs.declared.component.Component.{Component}
use Rattle.css_tokens.specs.declared.component.Component as component
use Rattle.css_tokens.specs.Piece.{Piece}
use Rattle.css_tokens.specs.Pairing.{awaited, awaited_after, awaited_next, closed_by, depth, IsShallow, IsPaired, IsSoundBefore, IsMismatch, IsTooDeep, IsUnclosed}
use Rattle.css_tokens.specs.Trees.{opens, closes, closing, closing_text, is_text, pieces_of, pieces_all, pieces_of-Single, pieces_of-Block, is_formed, is_formed-Single, is_formed-Block, all_formed}
use Rattle.css_tokens.proofs.NestLemmas.{closing_is}
use Rattle.css_tokens.proofs.PairingLemmas.{awaited_push, IsShallow_push}
use Rattle.css_tokens.proofs.Rebuilt.{Half, close_half, put, step}
use Rattle.css_tokens.proofs.Runs.{same_inside}

-- Each token keeps all sound, or is the first fault.

abbrev Judged : List Piece → ℕ → Type 0
Judged ts end = IsPaired ts ⊎ ((o : ℕ) × (IsMismatch ts o ⊎ (IsUnclosed ts end o ⊎ IsTooDeep ts o)))

-- what is awaited after a token that opens, or else closes, or else does neither
abbrev awaited_by : Bool → Bool → List ℕ → List (List ℕ) → Option (List (List ℕ))
awaited_by opening closing text waiting = if opening then Some (closing_text text ∷ waiting) else (if closing then closed_by text waiting else Some waiting)

closed_less : (text : List ℕ) (waiting next : List (List ℕ)) → closed_by text waiting ≡ Some next → length next ≤ suc (length waiting)
closed_less text [] next e = cc
closed_less text (innermost ∷ outer) next e = elim (is_text text innermost) as (λ same. (if same then Some outer else None) ≡ Some next → length next ≤ suc (length (innermost ∷ outer))) [
  | true ↦ λ h. let n = ap length (same_inside outer next h) in omega (arith, n)
  | false ↦ λ h. cc
] e

one_deeper : (opening closing : Bool) (text : List ℕ) (waiting next : List (List ℕ)) → awaited_by opening closing text waiting ≡ Some next → length next ≤ suc (length waiting)
one_deeper true closing text waiting next e = let n = ap length (same_inside (closing_text text ∷ waiting) next e) in omega (arith, n)
one_deeper false true text waiting next e = closed_less text waiting next e
one_deeper false false text waiting next e = let n = ap length (same_inside waiting next e) in omega (arith, n)

module _ (front : List Piece) (t : Piece) (rest : List Piece) (waiting : List (List ℕ)) (matched : awaited front ≡ Some waiting) (shallow : IsShallow front) where
  sound : IsSoundBefore (front ++ t ∷ rest) front t t.at
  sound = record { rest = rest; split = refl; waiting = waiting; matched = matched; shallow = shallow; place = refl }

  pub mismatched : awaited_next waiting t ≡ None → IsMismatch (front ++ t ∷ rest) t.at
  mismatched e = record { front = front; token = t; before = sound; none = awaited_push front t waiting matched ∙ e }

  depth_next : (next : List (List ℕ)) → awaited_next waiting t ≡ Some next → depth (front ++ t ∷ []) ≡ length next
  depth_next next e = ap (λ o. length (unwrap_or o [])) (awaited_push front t waiting matched ∙ e)

  pub too_deep : (next : List (List ℕ)) → awaited_next waiting t ≡ Some next → length next ≡ 65 → IsTooDeep (front ++ t ∷ rest) t.at
  too_deep next e n = record { front = front; token = t; before = sound; deep = depth_next next e ∙ n }

  pub still_shallow : (next : List (List ℕ)) → awaited_next waiting t ≡ Some next → length next ≤ 64 → IsShallow (front ++ t ∷ [])
  still_shallow next e h = IsShallow_push front t shallow (rw (depth_next next e) h)

judged_end : (ts : List Piece) (end : ℕ) (waiting : List (List ℕ)) → awaited ts ≡ Some waiting → IsShallow ts → Judged ts end
judged_end ts end [] matched shallow = inl (record { all_closed = matched; shallow = shallow })
judged_end ts end (innermost ∷ outer) matched shallow = inr (end, inr (inl (record { innermost = innermost; outer = outer; unclosed = matched; shallow = shallow; place = refl })))

judged_next : (front : List Piece) (t : Piece) (rest : List Piece) (end : ℕ) (waiting : List (List ℕ)) → awaited front ≡ Some waiting → IsShallow front → length waiting ≤ 64
    → (o : Option (List (List ℕ))) → awaited_next waiting t ≡ o
    → ((next : List (List ℕ)) → awaited (front ++ t ∷ []) ≡ Some next → IsShallow (front ++ t ∷ []) → length next ≤ 64 → Judged (front ++ t ∷ rest) end)
    → Judged (front ++ t ∷ rest) end
judged_next front t rest end waiting matched shallow l None e later = inr (t.at, inl (mismatched front t rest waiting matched shallow e))
judged_next front t rest end waiting matched shallow l (Some next) e later = elim (cases_lt 64 (length next)) [
  | inl m ↦ (let n : length next ≡ 65 = omega (arith, one_deeper (opens t.kind) (closes t.kind) t.text waiting next e) in inr (t.at, inr (inr (too_deep front t rest waiting matched shallow next e n))))
  | inr m ↦ later next (awaited_push front t waiting matched ∙ e) (still_shallow front t rest waiting matched shallow next e m) m
]

judged_from : (rest front : List Piece) (end : ℕ) (waiting : List (List ℕ)) → awaited front ≡ Some waiting → IsShallow front → length waiting ≤ 64 → Judged (front ++ rest) end
judged_from [] front end waiting matched shallow l = subst (λ ts. Judged ts end) (sym (append-nil front)) (judged_end front end waiting matched shallow)
judged_from (t ∷ rest) front end waiting matched shallow l =
    judged_next front t rest end waiting matched shallow l (awaited_next waiting t) refl
    (λ next m s k. subst (λ ts. Judged ts end) (append_assoc front (t ∷ []) rest) (judged_from rest (front ++ t ∷ []) end next m s k))

pub nothing_shallow : IsShallow []
nothing_shallow n = elim n as (λ m. depth (take m []) ≤ 64) [ zero ↦ omega arith | suc m ↦ omega arith ]

-- tokens are paired, or have a fault of brackets
pub paired_or_fault : (ts : List Piece) (end : ℕ) → Judged ts end
paired_or_fault ts end = judged_from ts [] end [] refl nothing_shallow (omega arith)

-- What half-made components hold, and what one token adds.

-- the tokens of the open blocks so far
abbrev outer_pieces : List (List Component × Piece) → List Piece
outer_pieces [] = []
outer_pieces (o ∷ outer) = outer_pieces outer ++ (pieces_all o.0 ++ o.1 ∷ [])

-- all tokens so far
abbrev half_pieces : Half → List Piece
half_pieces h = outer_pieces h.outer ++ pieces_all h.items

abbrev closing_of : List Component × Piece → List ℕ
closing_of o = closing_text o.1.text

-- the closing texts awaited, the innermost first
abbrev half_awaited : Half → List (List ℕ)
half_awaited h = map closing_of h.outer

abbrev open_formed : List Component × Piece → Bool
open_formed o = opens o.1.kind && all_formed o.0

-- each part so far is well formed
abbrev half_formed : Half → Bool
half_formed h = list_all open_formed h.outer && all_formed h.items

-- the new half holds one token more
record Adds (old new : Half) (t : Piece) (next : List (List ℕ)) : Type 0 where
  pieces : half_pieces new ≡ half_pieces old ++ t ∷ []
  awaits : half_awaited new ≡ next
  formed : half_formed old ≡ true → half_formed new ≡ true

abbrev opened_half : Half → Piece → Half
opened_half h t = record { outer = (h.items, t) ∷ h.outer; items = [] }

-- the half after a token that opens, or else closes, or else does neither
abbrev step_by : Bool → Bool → Half → Piece → Half
step_by opening closing h t = if opening then opened_half h t else (if closing then close_half h.outer h.items t.at else put h (component.Single t ∷ []))

opened_well : (opening outer items : Bool) → opening ≡ true → (outer && items) ≡ true → (((opening && items) && outer) && true) ≡ true
opened_well true true true e h = refl
opened_well _ _ _ e h = cc

opened_adds : (h : Half) (t : Piece) (next : List (List ℕ)) → opens t.kind ≡ true → Some (closing_text t.text ∷ half_awaited h) ≡ Some next → Adds h (opened_half h t) t next
opened_adds h t next k e = record {
  pieces = append-nil (outer_pieces h.outer ++ (pieces_all h.items ++ t ∷ [])) ∙ sym (append_assoc (outer_pieces h.outer) (pieces_all h.items) (t ∷ []));
  awaits = same_inside (closing_text t.text ∷ half_awaited h) next e;
  formed = λ f. opened_well (opens t.kind) (list_all open_formed h.outer) (all_formed h.items) k f;
}

single_well : (opening closing outer items : Bool) → opening ≡ false → closing ≡ false → (outer && items) ≡ true → (outer && (items && ((not opening && not closing) && true))) ≡ true
single_well false false true true e f h = refl
single_well _ _ _ _ e f h = cc

single_adds : (h : Half) (t : Piece) (next : List (List ℕ)) → opens t.kind ≡ false → closes t.kind ≡ false → Some (half_awaited h) ≡ Some next → Adds h (put h (component.Single t ∷ [])) t next
single_adds h t next k l e =
    let single : component.Component = component.Single t in
    let pieces : pieces_all (h.items ++ single ∷ []) ≡ pieces_all h.items ++ t ∷ [] = flat_map-append pieces_of h.items (single ∷ []) ∙ ap (λ r. pieces_all h.items ++ (r ++ [])) (pieces_of-Single t) in
    let formed : all_formed (h.items ++ single ∷ []) ≡ (all_formed h.items && ((not (opens t.kind) && not (closes t.kind)) && true)) = list_all-append is_formed h.items (single ∷ []) ∙ ap (λ r. all_formed h.items && (r && true)) (is_formed-Single t) in
    record {
      pieces = ap (λ r. outer_pieces h.outer ++ r) pieces ∙ sym (append_assoc (outer_pieces h.outer) (pieces_all h.items) (t ∷ []));
      awaits = same_inside (half_awaited h) next e;
      formed = λ f. ap (λ r. list_all open_formed h.outer && r) formed ∙ single_well (opens t.kind) (closes t.kind) (list_all open_formed h.outer) (all_formed h.items) k l f;
    }

block_well : (opening before outer items : Bool) → (((opening && before) && outer) && items) ≡ true → (outer && (before && ((opening && items) && true))) ≡ true
block_well true true true true h = refl
block_well _ _ _ _ h = cc

abbrev half : List (List Component × Piece) → List Component → Half
half outer items = record { outer = outer; items = items }

module _ (o : List Component × Piece) (outer : List (List Component × Piece)) (items : List Component) (t : Piece) where
  abbrev block : component.Component
  block = component.Block (record { opening = o.1; items = items; close = t.at })

  closed_pieces : closes t.kind ≡ true → t.text ≡ closing_of o → half_pieces (close_half (o ∷ outer) items t.at) ≡ half_pieces (half (o ∷ outer) items) ++ t ∷ []
  closed_pieces k e =
      let last : flat_map pieces_of (block ∷ []) ≡ o.1 ∷ pieces_all items ++ t ∷ [] = append-nil (pieces_of block) ∙ pieces_of-Block _ ∙ ap (λ close. o.1 ∷ pieces_all items ++ close ∷ []) (closing_is t o.1 k e) in
      let inside : pieces_all (o.0 ++ block ∷ []) ≡ pieces_all o.0 ++ (o.1 ∷ pieces_all items ++ t ∷ []) = flat_map-append pieces_of o.0 (block ∷ []) ∙ ap (λ r. pieces_all o.0 ++ r) last in
      ap (λ r. outer_pieces outer ++ r) inside ∙ sym (simp append_assoc)

  closed_formed : half_formed (half (o ∷ outer) items) ≡ true → half_formed (close_half (o ∷ outer) items t.at) ≡ true
  closed_formed f =
      let inside : all_formed (o.0 ++ block ∷ []) ≡ (all_formed o.0 && ((opens o.1.kind && all_formed items) && true)) = list_all-append is_formed o.0 (block ∷ []) ∙ ap (λ r. all_formed o.0 && (r && true)) (is_formed-Block _) in
      ap (λ r. list_all open_formed outer && r) inside ∙ block_well (opens o.1.kind) (all_formed o.0) (list_all open_formed outer) (all_formed items) f

  block_adds : (next : List (List ℕ)) (same : Bool) → closes t.kind ≡ true → is_text t.text (closing_of o) ≡ same → (if same then Some (map closing_of outer) else None) ≡ Some next → Adds (half (o ∷ outer) items) (close_half (o ∷ outer) items t.at) t next
  block_adds next true k i e = record { pieces = closed_pieces k (same_text t.text (closing_of o) (sym i)); awaits = same_inside (map closing_of outer) next e; formed = closed_formed }
  block_adds next false k i e = cc

closed_adds : (outer : List (List Component × Piece)) (items : List Component) (t : Piece) (next : List (List ℕ)) → closes t.kind ≡ true → closed_by t.text (map closing_of outer) ≡ Some next → Adds (half outer items) (close_half outer items t.at) t next
closed_adds [] items t next k e = cc
closed_adds (o ∷ outer) items t next k e = block_adds o outer items t next (is_text t.text (closing_of o)) k refl e

step_adds : (opening closing : Bool) (h : Half) (t : Piece) (next : List (List ℕ)) → opens t.kind ≡ opening → closes t.kind ≡ closing → awaited_by opening closing t.text (half_awaited h) ≡ Some next → Adds h (step_by opening closing h t) t next
step_adds true closing h t next k l e = opened_adds h t next k e
step_adds false true h t next k l e = closed_adds h.outer h.items t next l e
step_adds false false h t next k l e = single_adds h t next k l e

-- components have these tokens
abbrev Made : List Piece → Type 0
Made ts = (cs : List Component) × (pieces_all cs ≡ ts) × (all_formed cs ≡ true)

made_end : (outer : List (List Component × Piece)) (items : List Component) → map closing_of outer ≡ [] → half_formed (half outer items) ≡ true → Made (half_pieces (half outer items) ++ [])
made_end [] items e f = (items, sym (append-nil (pieces_all items)), f)
made_end (o ∷ outer) items e f = cc

made_next : (h : Half) (t : Piece) (ts : List Piece) (o : Option (List (List ℕ))) → awaited_next (half_awaited h) t ≡ o → option_and_then (λ next. awaited_after next ts) o ≡ Some [] → half_formed h ≡ true
    → ((new : Half) → awaited_after (half_awaited new) ts ≡ Some [] → half_formed new ≡ true → Made (half_pieces new ++ ts))
    → Made (half_pieces h ++ t ∷ ts)
made_next h t ts None e closed f later = cc
made_next h t ts (Some next) e closed f later =
    let new = step h t in
    let adds : Adds h new t next = step_adds (opens t.kind) (closes t.kind) h t next refl refl e in
    subst Made (ap (λ ps. ps ++ ts) adds.pieces ∙ append_assoc (half_pieces h) (t ∷ []) ts)
    (later new (ap (λ waiting. awaited_after waiting ts) adds.awaits ∙ closed) (adds.formed f))

made_from : (ts : List Piece) (h : Half) → awaited_after (half_awaited h) ts ≡ Some [] → half_formed h ≡ true → Made (half_pieces h ++ ts)
made_from [] h closed f = made_end h.outer h.items (same_inside (half_awaited h) [] closed) f
made_from (t ∷ ts) h closed f = made_next h t ts (awaited_next (half_awaited h) t) refl closed f (λ new c g. made_from ts new c g)

-- paired tokens make components
pub paired_made : (ts : List Piece) → IsPaired ts → Made ts
paired_made ts m = made_from ts (half [] []) m.all_closed refl
