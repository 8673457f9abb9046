-- What the components of a printed value have in common with those of the value.
use Rattle.std.proofs.Common.{◌≡◌, ℕ, List, [], ◌∷◌, ◌++◌, map, Bool, true, false, ◌&&◌, ◌||◌, not, refl, sym, ◌∙◌, ap, cond, IsTrue, filter, inl, inr, ◌⊎◌, codes}
use Rattle.std.specs.List.{list_any}
use Rattle.std.proofs.lemmas.Bool.{cases_Bool}
use Rattle.css_tokens.specs.declared.kind.Kind.{Kind}
use Rattle.css_tokens.specs.declared.kind.Kind.TheVariants as kinds
use Rattle.css_tokens.specs.declared.component.Component.{Component, out-Component, roll-Component, roll-out-Component}
use Rattle.css_tokens.specs.declared.component.Component as component
use Rattle.css_tokens.specs.declared.component.Block as block
use Rattle.css_tokens.specs.declared.component.Component.TheOpen.{Single, Block}
use Rattle.css_tokens.specs.declared.component.Component.TheVariants.{rolls-Single, rolls-Block}
use Rattle.css_tokens.specs.Piece.{Piece}
use Rattle.css_tokens.specs.Trees.{words_all, all_formed, is_formed, opens, is_formed-Block, is_text}
use Rattle.css_tokens.specs.Values.{is_gap as is_gap_kind, short_text, value_words, value_text}
use Rattle.css_tokens.specs.ValueAgain.{is_solid, short_piece, again, all_again, value_again, again-Single, again-Block, head_kind-Single, head_kind-Block}
use Rattle.css_tokens.specs.Values.{is_gap as is_gap_kind}
use Rattle.css_components.specs.Components.{Layer, is_gap, is_semicolon, is_bang, is_braces, is_semicolon_kind, is_delim_kind}
use Rattle.css_components.specs.Trimming.{trimmed, trimmed_end}
use Rattle.css_rules.proofs.CutLemmas.{not-true, trimmed_start-other, trimmed_end-other}
use Rattle.css_rules.proofs.CutAgain.{last_of}
use Rattle.sheet_types.proofs.PlacesTrees.{OnePairing}
use Rattle.css_rules.proofs.Heads.{gap-Single, gap-Block, semicolon-Single, semicolon-Block, bang-Single, bang-Block, braces-Single, braces-Block}

-- what the token crate ensures of printed values
pub record ValueLaws : Type 0 where
  pub words : (v : List Component) → IsTrue (all_formed v) → words_all (value_again v) ≡ value_words v
  pub formed : (v : List Component) → IsTrue (all_formed v) → IsTrue (all_formed (value_again v))
  pub text : (v : List Component) → IsTrue (all_formed v) → value_text (value_again v) ≡ value_text v
  pub twice : (v : List Component) → IsTrue (all_formed v) → value_words (value_again v) ≡ value_words v
  pub one : OnePairing
  pub solid : (v : List Component) → filter is_solid (value_again v) ≡ map again (filter is_solid v)
  pub starts : (v cs : List Component) (c : Component) → value_again v ≡ c ∷ cs → IsTrue (is_solid c)
  pub ends : (v cs : List Component) (c : Component) → value_again v ≡ cs ++ c ∷ [] → IsTrue (is_solid c)

-- a component is a token or a block
pub shape_of : (c : Component) → ((p : Piece) × (c ≡ component.Single p)) ⊎ ((b : block.Block) × (c ≡ component.Block b))
shape_of c = at (out-Component c) refl
  where
    at : (o : Layer) → out-Component c ≡ o → ((p : Piece) × (c ≡ component.Single p)) ⊎ ((b : block.Block) × (c ≡ component.Block b))
    at (Single p) e = inl (p, sym (roll-out-Component c) ∙ ap roll-Component e ∙ rolls-Single p)
    at (Block b) e = inr (b, sym (roll-out-Component c) ∙ ap roll-Component e ∙ rolls-Block b)

and_left : (a b : Bool) → (a && b) ≡ true → a ≡ true
and_left true b e = refl
and_left false b e = e

and_right : (a b : Bool) → (a && b) ≡ true → b ≡ true
and_right true b e = e
and_right false b e = cc

-- A test of the first layer that holds of no gap, and that sees no difference in what is printed.
pub record IsLayerTest (test : Component → Bool) : Type 0 where
  pub of_solid : (c : Component) → is_formed c ≡ true → is_solid c ≡ false → test c ≡ false
  pub same : (c : Component) → test (again c) ≡ test c

module _ (test : Component → Bool) (layer : IsLayerTest test) where
  any-filter : (xs : List Component) → all_formed xs ≡ true → list_any test (filter is_solid xs) ≡ list_any test xs
  any-filter [] formed = refl
  any-filter (x ∷ xs) formed =
      let rest = any-filter xs (and_right (is_formed x) (all_formed xs) formed) in
      elim (cases_Bool (is_solid x)) [
        | inl solid ↦ ap (λ b. list_any test (cond b (x ∷ filter is_solid xs) (filter is_solid xs))) solid ∙ ap (λ b. test x || b) rest
        | inr gap ↦
            ap (λ b. list_any test (cond b (x ∷ filter is_solid xs) (filter is_solid xs))) gap
            ∙ rest
            ∙ ap (λ b. b || list_any test xs) (sym (layer.of_solid x (and_left (is_formed x) (all_formed xs) formed) gap))
      ]

  any-again : (xs : List Component) → list_any test (map again xs) ≡ list_any test xs
  any-again [] = refl
  any-again (x ∷ xs) = ap (λ b. b || list_any test (map again xs)) (layer.same x) ∙ ap (λ b. test x || b) (any-again xs)

  -- it holds of a component of the printed value exactly where it does of one of the value
  pub any-value : ValueLaws → (v : List Component) → all_formed v ≡ true → list_any test (value_again v) ≡ list_any test v
  any-value laws v formed =
      sym (any-filter (value_again v) (laws.formed v formed))
      ∙ ap (list_any test) (laws.solid v)
      ∙ any-again (filter is_solid v)
      ∙ any-filter v formed

solid-Single : (p : Piece) → is_solid (component.Single p) ≡ not (is_gap_kind p.kind)
solid-Single p = ap (λ k. not (is_gap_kind k)) (head_kind-Single p)

not_false : (b : Bool) → not b ≡ false → b ≡ true
not_false true e = refl
not_false false e = sym e

gap_no_semicolon : (k : Kind) → is_gap_kind k ≡ true → is_semicolon_kind k ≡ false
gap_no_semicolon kinds.Semicolon e = sym e
gap_no_semicolon _ e = refl

gap_no_delim : (k : Kind) (b : Bool) → is_gap_kind k ≡ true → (is_delim_kind k && b) ≡ false
gap_no_delim kinds.Delim b e = absurd (cc e)
gap_no_delim _ b e = refl

delim_short : (k : Kind) (text : List ℕ) → (is_delim_kind k && is_text (short_text k text) (codes "!")) ≡ (is_delim_kind k && is_text text (codes "!"))
delim_short kinds.Delim text = refl
delim_short _ text = refl

pub semicolon_layer : IsLayerTest is_semicolon
semicolon_layer = record {
  of_solid = λ c formed gap. elim (shape_of c) [
    | inl s ↦ ap is_semicolon s.1 ∙ semicolon-Single s.0 ∙ gap_no_semicolon s.0.kind (not_false (is_gap_kind s.0.kind) (sym (solid-Single s.0) ∙ sym (ap is_solid s.1) ∙ gap))
    | inr b ↦ ap is_semicolon b.1 ∙ semicolon-Block b.0
  ];
  same = λ c. elim (shape_of c) [
    | inl s ↦ ap (λ d. is_semicolon (again d)) s.1 ∙ ap is_semicolon (again-Single s.0) ∙ semicolon-Single (short_piece s.0) ∙ sym (semicolon-Single s.0) ∙ sym (ap is_semicolon s.1)
    | inr b ↦ ap (λ d. is_semicolon (again d)) b.1 ∙ ap is_semicolon (again-Block b.0) ∙ semicolon-Block (record { opening = b.0.opening; items = all_again b.0.items; close = b.0.close }) ∙ sym (semicolon-Block b.0) ∙ sym (ap is_semicolon b.1)
  ];
}

pub bang_layer : IsLayerTest is_bang
bang_layer = record {
  of_solid = λ c formed gap. elim (shape_of c) [
    | inl s ↦ ap is_bang s.1 ∙ bang-Single s.0 ∙ gap_no_delim s.0.kind (is_text s.0.text (codes "!")) (not_false (is_gap_kind s.0.kind) (sym (solid-Single s.0) ∙ sym (ap is_solid s.1) ∙ gap))
    | inr b ↦ ap is_bang b.1 ∙ bang-Block b.0
  ];
  same = λ c. elim (shape_of c) [
    | inl s ↦ ap (λ d. is_bang (again d)) s.1 ∙ ap is_bang (again-Single s.0) ∙ bang-Single (short_piece s.0) ∙ delim_short s.0.kind s.0.text ∙ sym (bang-Single s.0) ∙ sym (ap is_bang s.1)
    | inr b ↦ ap (λ d. is_bang (again d)) b.1 ∙ ap is_bang (again-Block b.0) ∙ bang-Block (record { opening = b.0.opening; items = all_again b.0.items; close = b.0.close }) ∙ sym (bang-Block b.0) ∙ sym (ap is_bang b.1)
  ];
}

opens_no_gap : (k : Kind) → opens k ≡ true → is_gap_kind k ≡ false
opens_no_gap kinds.White e = sym e
opens_no_gap kinds.Comment e = sym e
opens_no_gap _ e = refl

pub braces_layer : IsLayerTest is_braces
braces_layer = record {
  of_solid = λ c formed gap. elim (shape_of c) [
    | inl s ↦ ap is_braces s.1 ∙ braces-Single s.0
    | inr b ↦
        let opened = and_left (opens b.0.opening.kind) (all_formed b.0.items) (sym (is_formed-Block b.0) ∙ sym (ap is_formed b.1) ∙ formed) in
        let solid = ap is_solid b.1 ∙ ap (λ k. not (is_gap_kind k)) (head_kind-Block b.0) ∙ ap not (opens_no_gap b.0.opening.kind opened) in
        absurd (cc (solid, gap))
  ];
  same = λ c. elim (shape_of c) [
    | inl s ↦ ap (λ d. is_braces (again d)) s.1 ∙ ap is_braces (again-Single s.0) ∙ braces-Single (short_piece s.0) ∙ sym (braces-Single s.0) ∙ sym (ap is_braces s.1)
    | inr b ↦ ap (λ d. is_braces (again d)) b.1 ∙ ap is_braces (again-Block b.0) ∙ braces-Block (record { opening = b.0.opening; items = all_again b.0.items; close = b.0.close }) ∙ sym (braces-Block b.0) ∙ sym (ap is_braces b.1)
  ];
}

-- what is solid is no gap
pub solid_no_gap : (c : Component) → is_solid c ≡ true → is_gap c ≡ false
solid_no_gap c solid = elim (shape_of c) [
  | inl s ↦ ap is_gap s.1 ∙ gap-Single s.0 ∙ kinds_agree s.0.kind (sym (solid-Single s.0) ∙ sym (ap is_solid s.1) ∙ solid)
  | inr b ↦ ap is_gap b.1 ∙ gap-Block b.0
]
  where
    kinds_agree : (k : Kind) → not (is_gap_kind k) ≡ true → is_gap_kind k ≡ false
    kinds_agree k e = not-true (is_gap_kind k) e

-- a printed value begins and ends with no gap
pub trimmed-value : ValueLaws → (v : List Component) → trimmed (value_again v) ≡ value_again v
trimmed-value laws v = at (value_again v) refl
  where
    at : (va : List Component) → value_again v ≡ va → trimmed va ≡ va
    at [] e = refl
    at (c ∷ cs) e =
        let last = last_of c cs in
        ap trimmed_end (trimmed_start-other c cs (solid_no_gap c (laws.starts v cs c e)))
        ∙ ap trimmed_end last.1.1
        ∙ trimmed_end-other last.0 last.1.0 (solid_no_gap last.1.0 (laws.ends v last.0 last.1.0 (e ∙ last.1.1)))
        ∙ sym last.1.1

pub trimmed_end-value : ValueLaws → (v : List Component) → trimmed_end (value_again v) ≡ value_again v
trimmed_end-value laws v = at (value_again v) refl
  where
    at : (va : List Component) → value_again v ≡ va → trimmed_end va ≡ va
    at [] e = refl
    at (c ∷ cs) e =
        let last = last_of c cs in
        ap trimmed_end last.1.1
        ∙ trimmed_end-other last.0 last.1.0 (solid_no_gap last.1.0 (laws.ends v last.0 last.1.0 (e ∙ last.1.1)))
        ∙ sym last.1.1

-- a well formed component that is no gap is solid
no_gap_solid : (c : Component) → is_formed c ≡ true → is_gap c ≡ false → is_solid c ≡ true
no_gap_solid c formed other = elim (shape_of c) [
  | inl s ↦ ap is_solid s.1 ∙ solid-Single s.0 ∙ kinds_agree s.0.kind (sym (gap-Single s.0) ∙ sym (ap is_gap s.1) ∙ other)
  | inr b ↦
      let opened = and_left (opens b.0.opening.kind) (all_formed b.0.items) (sym (is_formed-Block b.0) ∙ sym (ap is_formed b.1) ∙ formed) in
      ap is_solid b.1 ∙ ap (λ k. not (is_gap_kind k)) (head_kind-Block b.0) ∙ ap not (opens_no_gap b.0.opening.kind opened)
]
  where
    kinds_agree : (k : Kind) → is_gap_kind k ≡ false → not (is_gap_kind k) ≡ true
    kinds_agree k e = ap not e

-- a value that begins with no gap prints as something
pub printed-some : ValueLaws → (c : Component) (cs : List Component) → all_formed (c ∷ cs) ≡ true → is_gap c ≡ false → (first : Component) × ((rest : List Component) × (value_again (c ∷ cs) ≡ first ∷ rest))
printed-some laws c cs formed other = at (value_again (c ∷ cs)) refl
  where
    at : (va : List Component) → value_again (c ∷ cs) ≡ va → (first : Component) × ((rest : List Component) × (va ≡ first ∷ rest))
    at (first ∷ rest) e = (first, (rest, refl))
    at [] e =
        let solid = no_gap_solid c (and_left (is_formed c) (all_formed cs) formed) other in
        let same = sym (ap (filter is_solid) e) ∙ laws.solid (c ∷ cs) ∙ ap (λ b. map again (cond b (c ∷ filter is_solid cs) (filter is_solid cs))) solid in
        absurd (cc same)
