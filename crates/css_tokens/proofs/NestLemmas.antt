-- What a closing token adds to a nest.
use Rattle.std.proofs.Common.{◌≡◌, ℕ, [], ◌∷◌, ◌++◌, Bool, true, ◌&&◌, refl, ap, sym, ◌∙◌, append_assoc, length, reverse, Some, if◌then◌else◌, arith}
use Rattle.std.specs.List.{flat_map, list_all}
use Rattle.std.proofs.lemmas.Grind.{flat_map-append}
use Rattle.std.proofs.lemmas.List.Folds.{list_all-append}
use Rattle.std.proofs.lemmas.List.{append-nil, length-map, length-reverse}
use Rattle.css_tokens.specs.declared.kind.Kind.{Kind}
use Rattle.css_tokens.specs.declared.kind.Kind.TheVariants.{Close}
use Rattle.css_tokens.specs.declared.component.Component as component
use Rattle.css_tokens.specs.declared.pairing.Nest.{Nest}
use Rattle.css_tokens.specs.declared.pairing.Opened.{Opened}
use Rattle.css_tokens.specs.Piece.{Piece}
use Rattle.css_tokens.specs.Trees.{closes, closing, closing_text, opens, pieces_of, pieces_all, pieces_of-Block, is_formed-Block, all_formed, is_formed}
use Rattle.css_tokens.specs.Pairing.{closed_by}
use Rattle.css_tokens.specs.Private.Nests.{nest_pieces, nest_formed, nest_awaited, opened_closing, IsOneTooDeep, opened_pieces, opened_formed}

is_close : (k : Kind) → closes k ≡ true → k ≡ Close
is_close Close e = refl
is_close _ e = cc

pub closing_is : (t opening : Piece) → closes t.kind ≡ true → t.text ≡ closing_text opening.text → closing opening t.at ≡ t
closing_is t opening k e = λ i. record { kind = sym (is_close t.kind k) i; text = sym e i; at = t.at }

regrouped : (a b c d : Bool) → ((a && ((b && c) && true)) && d) ≡ true → (a && (c && ((b && d) && true))) ≡ true
regrouped true true true true h = refl
regrouped _ _ _ _ h = cc

module _ (old new : Nest) (o : Opened) (t : Piece)
    (outer : old.outer.items ≡ new.outer.items ++ o ∷ [])
    (items : new.items ≡ o.before ++ component.Block (record { opening = o.opening; items = old.items; close = t.at }) ∷ [])
  where
    pub nest_pieces_end : closes t.kind ≡ true → t.text ≡ closing_text o.opening.text → nest_pieces new ≡ nest_pieces old ++ t ∷ []
    nest_pieces_end k e =
        let block : component.Component = component.Block (record { opening = o.opening; items = old.items; close = t.at }) in
        let last : flat_map pieces_of (block ∷ []) ≡ o.opening ∷ pieces_all old.items ++ t ∷ [] =
        append-nil (pieces_of block) ∙ pieces_of-Block _ ∙ ap (λ close. o.opening ∷ pieces_all old.items ++ close ∷ []) (closing_is t o.opening k e) in
        let inside : pieces_all new.items ≡ pieces_all o.before ++ (o.opening ∷ pieces_all old.items ++ t ∷ []) =
        ap pieces_all items ∙ flat_map-append pieces_of o.before (block ∷ []) ∙ ap (λ r. pieces_all o.before ++ r) last in
        let around : flat_map opened_pieces old.outer.items ≡ flat_map opened_pieces new.outer.items ++ (pieces_all o.before ++ o.opening ∷ []) =
        ap (flat_map opened_pieces) outer ∙ flat_map-append opened_pieces new.outer.items (o ∷ []) ∙ ap (λ r. flat_map opened_pieces new.outer.items ++ r) (append-nil (opened_pieces o)) in
        ap (λ r. flat_map opened_pieces new.outer.items ++ r) inside ∙ sym (ap (λ r. (r ++ pieces_all old.items) ++ t ∷ []) around ∙ simp append_assoc)

    pub nest_formed_end : nest_formed old ≡ true → nest_formed new ≡ true
    nest_formed_end h =
        let block : component.Component = component.Block (record { opening = o.opening; items = old.items; close = t.at }) in
        let inside : all_formed new.items ≡ (all_formed o.before && ((opens o.opening.kind && all_formed old.items) && true)) =
        ap all_formed items ∙ list_all-append is_formed o.before (block ∷ []) ∙ ap (λ r. all_formed o.before && (r && true)) (is_formed-Block _) in
        let around : list_all opened_formed old.outer.items ≡ (list_all opened_formed new.outer.items && ((opens o.opening.kind && all_formed o.before) && true)) =
        ap (list_all opened_formed) outer ∙ list_all-append opened_formed new.outer.items (o ∷ []) in
        ap (λ r. list_all opened_formed new.outer.items && r) inside ∙ regrouped (list_all opened_formed new.outer.items) (opens o.opening.kind) (all_formed o.before) (all_formed old.items) (sym (ap (λ r. r && all_formed old.items) around) ∙ h)

pub length-nest_awaited : (n : Nest) → length (nest_awaited n) ≡ length n.outer.items
length-nest_awaited n = length-map (reverse n.outer.items) opened_closing ∙ length-reverse n.outer.items

pub one_too_deep : (n : Nest) (t : Piece) (at : ℕ) → at ≡ t.at → opens t.kind ≡ true → length n.outer.items ≡ 64 → IsOneTooDeep (nest_awaited n) t at
one_too_deep n t at place e h = (
  place,
  closing_text t.text ∷ nest_awaited n,
  ap (λ b. if b then Some (closing_text t.text ∷ nest_awaited n) else (if closes t.kind then closed_by t.text (nest_awaited n) else Some (nest_awaited n))) e,
  omega (arith, length-nest_awaited n),
)
