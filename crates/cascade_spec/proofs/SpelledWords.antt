-- The words of a text are pieces of it that can be written again.
use Rattle.std.proofs.Common.{◌≡◌, ℕ, List, [], ◌∷◌, Bool, true, false, ◌&&◌, ◌||◌, not, refl, ap₂}
use Rattle.std.specs.List.{list_all, list_any}
use Rattle.std.specs.Str.{IsUtf8, is_utf8}
use Rattle.std.proofs.lemmas.Bool.{and_parts}
use Rattle.std.proofs.lemmas.Str.{IsUtf8-from_is_utf8}
use Rattle.css_tokens.specs.declared.kind.Kind.{Kind}
use Rattle.css_tokens.specs.declared.kind.Kind.TheVariants as kinds
use Rattle.css_tokens.specs.Names.{is_content, is_name, name_of_word}
use Rattle.css_tokens.specs.Piece.{Word}
use Rattle.css_tokens.specs.Tokens.{Reads, ReadsTo, after_mark, is_control, spells}
use Rattle.selector_types.specs.Names.{is_id}
use Rattle.selector_types.specs.ReadableSelectors.{is_clean, is_named, is_spelled}

-- what the token crate ensures of names
pub record NameLaws : Type 0 where
  pub decoded : (t : List ℕ) → IsUtf8 t → spells kinds.Ident t ≡ true → is_name (name_of_word kinds.Ident t) ≡ true
  pub hash_decoded : (t : List ℕ) → IsUtf8 t → spells kinds.Hash t ≡ true → is_name (name_of_word kinds.Hash t) ≡ true
  pub string_decoded : (t : List ℕ) → IsUtf8 t → spells kinds.String t ≡ true → is_content (name_of_word kinds.String t) ≡ true
  pub clean : (t : List ℕ) (ws : List Word) → Reads t ws → list_all (λ w. is_clean w.text) ws ≡ true
  pub spelled : (t : List ℕ) (ws : List Word) (rest : List ℕ) → ReadsTo t ws rest → list_all (λ w. spells w.kind w.text) ws ≡ true

or-true : (a b : Bool) → b ≡ true → (a || b) ≡ true
or-true true b e = refl
or-true false b e = e

named-word : NameLaws → (k : Kind) (u : List ℕ) → IsUtf8 u → spells k u ≡ true → is_named k u ≡ true
named-word laws kinds.Ident u whole h = laws.decoded u whole h
named-word laws kinds.Hash u whole h = or-true (not (is_id u)) (is_name (name_of_word kinds.Hash u)) (laws.hash_decoded u whole h)
named-word laws kinds.String u whole h = laws.string_decoded u whole h
named-word laws _ u whole h = refl

words-good : NameLaws → (ws : List Word) → list_all (λ w. is_clean w.text) ws ≡ true → list_all (λ w. spells w.kind w.text) ws ≡ true → list_all is_spelled ws ≡ true
words-good laws [] clean spelled = refl
words-good laws (w ∷ ws) clean spelled =
    let c = and_parts (is_clean w.text) (list_all (λ x. is_clean x.text) ws) clean in
    let s = and_parts (spells w.kind w.text) (list_all (λ x. spells x.kind x.text) ws) spelled in
    let whole = IsUtf8-from_is_utf8 w.text (and_parts (is_utf8 w.text) (not (list_any is_control w.text)) c.0).0 in
    ap₂ ◌&&◌ (ap₂ ◌&&◌ c.0 (named-word laws w.kind w.text whole s.0)) (words-good laws ws c.1 s.1)

pub words-spelled : NameLaws → (t : List ℕ) (ws : List Word) → Reads t ws → list_all is_spelled ws ≡ true
words-spelled laws t ws reads = words-good laws ws (laws.clean t ws reads) (laws.spelled (after_mark t) ws [] reads.1)
