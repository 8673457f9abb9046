-- Tests of components see no difference where their places are at 0.
use Rattle.std.proofs.Common.{◌≡◌, ℕ, List, [], ◌∷◌, map, Bool, true, false, ◌&&◌, not, refl, sym, ◌∙◌, ap, ap₂, inl, inr}
use Rattle.std.specs.Prelude.{if◌then◌else◌}
use Rattle.std.specs.List.{list_all}
use Rattle.css_tokens.specs.declared.component.Component.{Component, out-Component}
use Rattle.css_tokens.specs.declared.component.Component.TheOpen.{Single, Block}
use Rattle.css_tokens.specs.declared.component.Component.TheVariants.{outs-Single, outs-Block}
use Rattle.css_tokens.specs.Piece.{Piece}
use Rattle.css_tokens.specs.Values.{is_gap as is_gap_kind}
use Rattle.css_components.specs.Components.{Layer, head, inside, is_gap, is_ident, is_ident_kind, is_keyword, is_string, is_string_kind, layer_head, layer_is_single, layer_items, name_of}
use Rattle.css_components.specs.Trimming.{trimmed, trimmed_end, trimmed_start}
use Rattle.media_spelling.specs.Places.{bare, bare_block, bare-Single, bare-Block, placeless}
use Rattle.import_rules.specs.Imports.{is_function, is_function_kind, is_url, is_url_kind}
use Rattle.import_rules.proofs.Shapes.{shape_of}

abbrev bare_layer : Layer → Layer
bare_layer (Single p) = Single (placeless p)
bare_layer (Block b) = Block (bare_block b)

out-bare : (c : Component) → out-Component (bare c) ≡ bare_layer (out-Component c)
out-bare c = elim (shape_of c) [
  | inl s ↦ ap (λ d. out-Component (bare d)) s.1 ∙ ap out-Component (bare-Single s.0) ∙ outs-Single (placeless s.0) ∙ ap bare_layer (sym (outs-Single s.0)) ∙ ap (λ d. bare_layer (out-Component d)) (sym s.1)
  | inr b ↦ ap (λ d. out-Component (bare d)) b.1 ∙ ap out-Component (bare-Block b.0) ∙ outs-Block (bare_block b.0) ∙ ap bare_layer (sym (outs-Block b.0)) ∙ ap (λ d. bare_layer (out-Component d)) (sym b.1)
]

head-layer : (v : Layer) → layer_head (bare_layer v) ≡ placeless (layer_head v)
head-layer (Single p) = refl
head-layer (Block b) = refl

items-layer : (v : Layer) → layer_items (bare_layer v) ≡ map bare (layer_items v)
items-layer (Single p) = refl
items-layer (Block b) = refl

single-layer : (v : Layer) → layer_is_single (bare_layer v) ≡ layer_is_single v
single-layer (Single p) = refl
single-layer (Block b) = refl

pub head-bare : (c : Component) → head (bare c) ≡ placeless (head c)
head-bare c = ap layer_head (out-bare c) ∙ head-layer (out-Component c)

pub inside-bare : (c : Component) → inside (bare c) ≡ map bare (inside c)
inside-bare c = ap layer_items (out-bare c) ∙ items-layer (out-Component c)

single-bare : (c : Component) → layer_is_single (out-Component (bare c)) ≡ layer_is_single (out-Component c)
single-bare c = ap layer_is_single (out-bare c) ∙ single-layer (out-Component c)

-- a test of whether it is a token alone, and of what it begins with
tested : (test : Bool → Piece → Bool) → ((b : Bool) (p : Piece) → test b (placeless p) ≡ test b p)
    → (c : Component) → test (layer_is_single (out-Component (bare c))) (head (bare c)) ≡ test (layer_is_single (out-Component c)) (head c)
tested test same c =
    ap (λ b. test b (head (bare c))) (single-bare c)
    ∙ ap (test (layer_is_single (out-Component c))) (head-bare c)
    ∙ same (layer_is_single (out-Component c)) (head c)

gap-bare : (c : Component) → is_gap (bare c) ≡ is_gap c
gap-bare = tested (λ b p. b && is_gap_kind p.kind) (λ b p. refl)

pub ident-bare : (c : Component) → is_ident (bare c) ≡ is_ident c
ident-bare = tested (λ b p. b && is_ident_kind p.kind) (λ b p. refl)

pub string-bare : (c : Component) → is_string (bare c) ≡ is_string c
string-bare = tested (λ b p. b && is_string_kind p.kind) (λ b p. refl)

pub url-bare : (c : Component) → is_url (bare c) ≡ is_url c
url-bare = tested (λ b p. b && is_url_kind p.kind) (λ b p. refl)

pub function-bare : (name : List ℕ) (c : Component) → is_function name (bare c) ≡ is_function name c
function-bare name = tested (λ b p. not b && (is_function_kind p.kind && is_keyword name (name_of p))) (λ b p. refl)

-- Lists without white space and comments at their ends.

either : (b : Bool) (xs ys : List Component) → (if b then map bare xs else map bare ys) ≡ map bare (if b then xs else ys)
either true xs ys = refl
either false xs ys = refl

pub start-bare : (cs : List Component) → trimmed_start (map bare cs) ≡ map bare (trimmed_start cs)
start-bare [] = refl
start-bare (c ∷ cs) =
    ap₂ (λ (b : Bool) (rest : List Component). if b then rest else bare c ∷ map bare cs) (gap-bare c) (start-bare cs)
    ∙ either (is_gap c) (trimmed_start cs) (c ∷ cs)

gaps-bare : (cs : List Component) → list_all is_gap (map bare cs) ≡ list_all is_gap cs
gaps-bare [] = refl
gaps-bare (c ∷ cs) = ap₂ ◌&&◌ (gap-bare c) (gaps-bare cs)

end-bare : (cs : List Component) → trimmed_end (map bare cs) ≡ map bare (trimmed_end cs)
end-bare [] = refl
end-bare (c ∷ cs) =
    ap₂ (λ (b : Bool) (rest : List Component). if b then [] else bare c ∷ rest) (gaps-bare (c ∷ cs)) (end-bare cs)
    ∙ either (list_all is_gap (c ∷ cs)) [] (c ∷ trimmed_end cs)

pub trimmed-bare : (cs : List Component) → trimmed (map bare cs) ≡ map bare (trimmed cs)
trimmed-bare cs = ap trimmed_end (start-bare cs) ∙ end-bare (trimmed_start cs)
