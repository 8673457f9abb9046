-- Tests of a component see no difference where its places are at 0.
use Rattle.std.proofs.Common.{◌≡◌, map, Bool, ◌&&◌, not, refl, sym, ◌∙◌, ap, inl, inr, codes}
use Rattle.css_tokens.specs.declared.component.Component.{Component, out-Component}
use Rattle.css_tokens.specs.declared.component.Component.TheOpen.{Single, Block}
use Rattle.css_tokens.specs.declared.component.Component.TheVariants.{outs-Single, outs-Block}
use Rattle.css_tokens.specs.Piece.{Piece}
use Rattle.css_tokens.specs.Trees.{is_text}
use Rattle.css_tokens.specs.Values.{is_gap as is_gap_kind}
use Rattle.css_components.specs.Components.{Layer, layer_head, layer_is_single, layer_items, head, inside, is_gap, is_ident, is_string, is_at_keyword, is_colon, is_semicolon, is_bang, is_braces, is_ident_kind, is_string_kind, is_at_kind, is_colon_kind, is_semicolon_kind, is_delim_kind}
use Rattle.css_rules.proofs.ValueFacts.{shape_of}
use Rattle.sheet_types.specs.Erased.{placeless, erased, erased_block, erased-Single, erased-Block}

abbrev erased_layer : Layer → Layer
erased_layer (Single p) = Single (placeless p)
erased_layer (Block b) = Block (erased_block b)

out-erased : (c : Component) → out-Component (erased c) ≡ erased_layer (out-Component c)
out-erased c = elim (shape_of c) [
  | inl s ↦ ap (λ d. out-Component (erased d)) s.1 ∙ ap out-Component (erased-Single s.0) ∙ outs-Single (placeless s.0) ∙ ap erased_layer (sym (outs-Single s.0)) ∙ ap (λ d. erased_layer (out-Component d)) (sym s.1)
  | inr b ↦ ap (λ d. out-Component (erased d)) b.1 ∙ ap out-Component (erased-Block b.0) ∙ outs-Block (erased_block b.0) ∙ ap erased_layer (sym (outs-Block b.0)) ∙ ap (λ d. erased_layer (out-Component d)) (sym b.1)
]

head-layer : (v : Layer) → layer_head (erased_layer v) ≡ placeless (layer_head v)
head-layer (Single p) = refl
head-layer (Block b) = refl

items-layer : (v : Layer) → layer_items (erased_layer v) ≡ map erased (layer_items v)
items-layer (Single p) = refl
items-layer (Block b) = refl

single-layer : (v : Layer) → layer_is_single (erased_layer v) ≡ layer_is_single v
single-layer (Single p) = refl
single-layer (Block b) = refl

pub head-erased : (c : Component) → head (erased c) ≡ placeless (head c)
head-erased c = ap layer_head (out-erased c) ∙ head-layer (out-Component c)

pub inside-erased : (c : Component) → inside (erased c) ≡ map erased (inside c)
inside-erased c = ap layer_items (out-erased c) ∙ items-layer (out-Component c)

single-erased : (c : Component) → layer_is_single (out-Component (erased c)) ≡ layer_is_single (out-Component c)
single-erased c = ap layer_is_single (out-erased c) ∙ single-layer (out-Component c)

-- a test of whether it is a token alone, and of what it begins with
tested : (test : Bool → Piece → Bool) → ((b : Bool) (p : Piece) → test b (placeless p) ≡ test b p)
    → (c : Component) → test (layer_is_single (out-Component (erased c))) (head (erased c)) ≡ test (layer_is_single (out-Component c)) (head c)
tested test same c =
    ap (λ b. test b (head (erased c))) (single-erased c)
    ∙ ap (test (layer_is_single (out-Component c))) (head-erased c)
    ∙ same (layer_is_single (out-Component c)) (head c)

pub gap-erased : (c : Component) → is_gap (erased c) ≡ is_gap c
gap-erased = tested (λ b p. b && is_gap_kind p.kind) (λ b p. refl)

pub ident-erased : (c : Component) → is_ident (erased c) ≡ is_ident c
ident-erased = tested (λ b p. b && is_ident_kind p.kind) (λ b p. refl)

pub string-erased : (c : Component) → is_string (erased c) ≡ is_string c
string-erased = tested (λ b p. b && is_string_kind p.kind) (λ b p. refl)

pub at-erased : (c : Component) → is_at_keyword (erased c) ≡ is_at_keyword c
at-erased = tested (λ b p. b && is_at_kind p.kind) (λ b p. refl)

pub colon-erased : (c : Component) → is_colon (erased c) ≡ is_colon c
colon-erased = tested (λ b p. b && is_colon_kind p.kind) (λ b p. refl)

pub semicolon-erased : (c : Component) → is_semicolon (erased c) ≡ is_semicolon c
semicolon-erased = tested (λ b p. b && is_semicolon_kind p.kind) (λ b p. refl)

pub bang-erased : (c : Component) → is_bang (erased c) ≡ is_bang c
bang-erased = tested (λ b p. b && (is_delim_kind p.kind && is_text p.text (codes "!"))) (λ b p. refl)

pub braces-erased : (c : Component) → is_braces (erased c) ≡ is_braces c
braces-erased = tested (λ b p. not b && is_text p.text (codes "{")) (λ b p. refl)
