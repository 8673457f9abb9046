-- What no component of a selector's spelling is, as none of its words ends or begins a rule.
use Rattle.std.proofs.Common.{◌≡◌, List, [], ◌∷◌, map, Bool, true, false, ◌&&◌, ◌||◌, not, refl, sym, ◌∙◌, ap, inl, inr, codes}
use Rattle.std.specs.List.{list_all, list_any}
use Rattle.std.proofs.lemmas.Bool.{and_parts, false≢true}
use Rattle.std.proofs.lemmas.List.{map-append}
use Rattle.std.proofs.lemmas.List.Folds.{list_all-append}
use Rattle.css_tokens.specs.declared.kind.Kind.{Kind}
use Rattle.css_tokens.specs.declared.kind.Kind.TheVariants as kinds
use Rattle.css_tokens.specs.declared.component.Component.{Component}
use Rattle.css_tokens.specs.declared.component.Component as component
use Rattle.css_tokens.specs.declared.component.Block as block
use Rattle.css_tokens.specs.Piece.{Piece, Word, word_of}
use Rattle.css_tokens.specs.Trees.{all_formed, is_formed, is_formed-Block, is_text, opens, pieces_all, pieces_of, pieces_of-Block, pieces_of-Single, words_all}
use Rattle.selector_types.specs.Preludes.{is_prelude_kind, is_prelude_word}
use Rattle.css_components.specs.Components.{is_at_keyword, is_at_kind, is_braces, is_semicolon, is_semicolon_kind}
use Rattle.css_rules.proofs.CutLemmas.{not-true}
use Rattle.css_rules.proofs.Heads.{at-Single, at-Block, braces-Single, braces-Block, semicolon-Single, semicolon-Block}
use Rattle.css_rules.proofs.ValueFacts.{shape_of}

abbrev are_plain : List Word → Bool
are_plain ws = list_all is_prelude_word ws

-- a test that holds of no such token, and of no such block
record IsForeign (test : Component → Bool) : Type 0 where
  of_single : (p : Piece) → is_prelude_word (word_of p) ≡ true → test (component.Single p) ≡ false
  of_block : (b : block.Block) → opens b.opening.kind ≡ true → is_prelude_word (word_of b.opening) ≡ true → test (component.Block b) ≡ false

module _ (test : Component → Bool) (foreign : IsForeign test) where
  none-of : (c : Component) → is_formed c ≡ true → are_plain (map word_of (pieces_of c)) ≡ true → test c ≡ false
  none-of c f h = elim (shape_of c) [
    | inl s ↦ ap test s.1 ∙ foreign.of_single s.0 (and_parts (is_prelude_word (word_of s.0)) true (sym (ap (λ x. are_plain (map word_of (pieces_of x))) s.1 ∙ ap (λ ps. are_plain (map word_of ps)) (pieces_of-Single s.0)) ∙ h)).0
    | inr b ↦
        ap test b.1
        ∙ foreign.of_block b.0 (and_parts (opens b.0.opening.kind) (all_formed b.0.items) (sym (ap is_formed b.1 ∙ is_formed-Block b.0) ∙ f)).0
        (and_parts (is_prelude_word (word_of b.0.opening)) _ (sym (ap (λ x. are_plain (map word_of (pieces_of x))) b.1 ∙ ap (λ ps. are_plain (map word_of ps)) (pieces_of-Block b.0)) ∙ h)).0
  ]

  none-in : (cs : List Component) → all_formed cs ≡ true → are_plain (words_all cs) ≡ true → list_any test cs ≡ false
  none-in [] f h = refl
  none-in (c ∷ cs) f h =
      let formed = and_parts (is_formed c) (all_formed cs) f in
      let words = and_parts (are_plain (map word_of (pieces_of c))) (are_plain (words_all cs)) (sym (ap are_plain (map-append word_of (pieces_of c) (pieces_all cs)) ∙ list_all-append is_prelude_word (map word_of (pieces_of c)) (words_all cs)) ∙ h) in
      ap (λ b. b || list_any test cs) (none-of c formed.0 words.0) ∙ none-in cs formed.1 words.1

-- no `{}` block, no semicolon and no at-keyword

open-block : (b : block.Block) → opens b.opening.kind ≡ true → is_prelude_word (word_of b.opening) ≡ true → is_braces (component.Block b) ≡ false
open-block b o h =
    let brace = is_text b.opening.text (codes "{") in
    braces-Block b
    ∙ not-true brace (ap (λ x. not (x && brace)) (sym o) ∙ (and_parts (is_prelude_kind b.opening.kind) (not (opens b.opening.kind && brace)) h).1)

pub no-braces : (cs : List Component) → all_formed cs ≡ true → are_plain (words_all cs) ≡ true → list_any is_braces cs ≡ false
no-braces = none-in is_braces (record { of_single = λ p h. braces-Single p; of_block = open-block })

no-semicolon-kind : (k : Kind) → is_prelude_kind k ≡ true → is_semicolon_kind k ≡ false
no-semicolon-kind kinds.Semicolon h = absurd (false≢true h)
no-semicolon-kind k h = refl

pub no-semicolon : (cs : List Component) → all_formed cs ≡ true → are_plain (words_all cs) ≡ true → list_any is_semicolon cs ≡ false
no-semicolon = none-in is_semicolon (record {
  of_single = λ p h. semicolon-Single p ∙ no-semicolon-kind p.kind (and_parts (is_prelude_kind p.kind) (not (opens p.kind && is_text p.text (codes "{"))) h).0;
  of_block = λ b o h. semicolon-Block b;
})

no-at-kind : (k : Kind) → is_prelude_kind k ≡ true → is_at_kind k ≡ false
no-at-kind kinds.At h = absurd (false≢true h)
no-at-kind k h = refl

pub no-at : (cs : List Component) → all_formed cs ≡ true → are_plain (words_all cs) ≡ true → list_any is_at_keyword cs ≡ false
no-at = none-in is_at_keyword (record {
  of_single = λ p h. at-Single p ∙ no-at-kind p.kind (and_parts (is_prelude_kind p.kind) (not (opens p.kind && is_text p.text (codes "{"))) h).0;
  of_block = λ b o h. at-Block b;
})
