-- A declaration in parentheses that is spelled out is read as it, its value as it prints.
use Rattle.std.proofs.Common.{◌≡◌, ℕ, List, [], ◌∷◌, ◌++◌, map, Bool, true, false, not, refl, sym, ap, ◌∙◌}
use Rattle.std.specs.Prelude.{Option, Some, None, codes, IsTrue, if◌then◌else◌}
use Rattle.std.proofs.lemmas.Bool.{false≢true}
use Rattle.css_tokens.specs.declared.kind.Kind.{Kind}
use Rattle.css_tokens.specs.declared.kind.Kind.TheVariants as kinds
use Rattle.css_tokens.specs.declared.component.Component.{Component}
use Rattle.css_tokens.specs.declared.component.Component.TheVariants.{outs-Single, outs-Block}
use Rattle.css_tokens.specs.Names.{is_name, name_of_word}
use Rattle.css_tokens.specs.NameText.{name_text}
use Rattle.css_tokens.specs.Trees.{all_formed, is_text}
use Rattle.css_tokens.specs.ValueAgain.{head_kind-Single, is_solid, value_again}
use Rattle.css_tokens.specs.Values.{is_gap as is_gap_kind, value_text}
use Rattle.media_spelling.specs.declared.supports.Supports.{Supports}
use Rattle.media_spelling.specs.declared.supports.Supports as supports
use Rattle.media_tree.specs.declared.mark.Mark.{Mark}
use Rattle.media_tree.specs.declared.mark.Mark.TheVariants as marks
use Rattle.media_tree.specs.declared.sign.Sign.{Sign}
use Rattle.media_tree.specs.declared.sign.Sign.TheVariants.{Not, Only, And, Or, Name, Other}
use Rattle.media_spelling.specs.Components.{colon, ident, parens, single}
use Rattle.media_tree.specs.ComponentInduction.{by_components}
use Rattle.media_tree.specs.Conditions.{condition_of, name_sign, solid}
use Rattle.media_tree.specs.Marks.{is_gap, is_gap_mark, layer_mark, lowered, mark_of, token_mark, trimmed, trimmed_end}
use Rattle.media_spelling.specs.Spelling.{value_spelling}
use Rattle.media_tree.specs.SupportsReading.{declaration_from, declaration_of, declared, declared_by, declared_from, is_colon_mark, is_custom, layer_name, makes, may_be_value, name_of, property_name, sign_of}
use Rattle.media_tree.proofs.DeclarationParts.{declaration-parts}
use Rattle.media_tree.proofs.SignEquations.{supports-Single}
use Rattle.media_tree.proofs.TextLemmas.{same-text}
use Rattle.media_tree.proofs.SupportsAgain.{Leaf, declaration-sign, signs_of}
use Rattle.media_tree.proofs.TrimLemmas.{trimmed_end-other, trimmed_start-other}

-- White space and comments.

delim-gap : (a b c d e : Bool) → is_gap_mark (if a then marks.Less else (if b then marks.Greater else (if c then marks.Equals else (if d then marks.Slash else (if e then marks.Bang else marks.Other))))) ≡ false
delim-gap true b c d e = refl
delim-gap false true c d e = refl
delim-gap false false true d e = refl
delim-gap false false false true e = refl
delim-gap false false false false true = refl
delim-gap false false false false false = refl

kind-gap : (k : Kind) (t : List ℕ) → not (is_gap_kind k) ≡ true → is_gap_mark (token_mark k t) ≡ false
kind-gap kinds.White t h = absurd (false≢true h)
kind-gap kinds.Comment t h = absurd (false≢true h)
kind-gap kinds.Delim t h = delim-gap (is_text t (codes "<")) (is_text t (codes ">")) (is_text t (codes "=")) (is_text t (codes "/")) (is_text t (codes "!"))
kind-gap k t h = refl

braces-gap : (b : Bool) → is_gap_mark (if b then marks.Braces else marks.Other) ≡ false
braces-gap true = refl
braces-gap false = refl

-- what is neither white space nor a comment to values is neither here
not-gap : (c : Component) → is_solid c ≡ true → is_gap c ≡ false
not-gap c =
    by_components (λ x. is_solid x ≡ true → is_gap x ≡ false)
    (λ p h. ap (λ v. is_gap_mark (layer_mark v)) (outs-Single p) ∙ kind-gap p.kind p.text (sym (ap (λ (k : Kind). not (is_gap_kind k)) (head_kind-Single p)) ∙ h))
    (λ b each h. ap (λ v. is_gap_mark (layer_mark v)) (outs-Block b) ∙ braces-gap (is_text b.opening.text (codes "{")))
    c

-- a list that is not empty has a last component
last-of : (c : Component) (cs : List Component) → (front : List Component) × (last : Component) × (c ∷ cs ≡ front ++ last ∷ [])
last-of c [] = ([], c, refl)
last-of c (d ∷ cs) = (let r = last-of d cs in (c ∷ r.0, r.1, ap (λ (xs : List Component). c ∷ xs) r.2))

-- what has neither white space nor a comment at an end is not trimmed
trimmed-whole : (ds : List Component) → ((cs : List Component) (c : Component) → ds ≡ c ∷ cs → is_gap c ≡ false) → ((cs : List Component) (c : Component) → ds ≡ cs ++ c ∷ [] → is_gap c ≡ false) → trimmed ds ≡ ds
trimmed-whole [] starts ends = refl
trimmed-whole (c ∷ cs) starts ends =
    (let r = last-of c cs in
    ap trimmed_end (trimmed_start-other c cs (starts cs c refl))
    ∙ ap trimmed_end r.2
    ∙ trimmed_end-other r.0 r.1 (ends r.0 r.1 r.2)
    ∙ sym r.2)

-- Declarations.

mark-single : (k : Kind) (t : List ℕ) → mark_of (single k t) ≡ token_mark k t
mark-single k t = ap layer_mark (outs-Single (record { kind = k; text = t; at = 0 }))

-- it begins with no condition
none-at : (n : List ℕ) (a b c d e : Bool) (ws : List (Sign Supports)) → condition_of makes (solid ((if a then Not else (if b then Only else (if c then And else (if d then Or else (if e then Other else Name n))))) ∷ Other ∷ ws)) ≡ None
none-at n true b c d e ws = refl
none-at n false true c d e ws = refl
none-at n false false true d e ws = refl
none-at n false false false true e ws = refl
none-at n false false false false true ws = refl
none-at n false false false false false ws = refl

no-condition : (n : List ℕ) (value : List Component) → condition_of makes (signs_of (ident n ∷ colon ∷ value)) ≡ None
no-condition n value =
    (let m = lowered (name_of_word kinds.Ident (name_text n)) in
    ap (λ (w : Sign Supports). condition_of makes (solid (w ∷ map sign_of (colon ∷ value)))) (supports-Single (record { kind = kinds.Ident; text = name_text n; at = 0 }))
    ∙ ap (λ (w : Sign Supports). condition_of makes (solid (name_sign m ∷ w ∷ map sign_of value))) (supports-Single (record { kind = kinds.Colon; text = codes ":"; at = 0 }))
    ∙ none-at m (is_text m (codes "not")) (is_text m (codes "only")) (is_text m (codes "and")) (is_text m (codes "or")) (is_text m (codes "layer")) (map sign_of value))

value-as : (value : List Component) → all_formed value ≡ true → value_spelling value ≡ value_again value
value-as value h = ap (λ (b : Bool). if b then value_again value else single kinds.Ident (value_text value) ∷ []) h

-- what the printed components of a value begin and end with
pub record Ends : Type 0 where
  pub starts : (v cs : List Component) (c : Component) → value_again v ≡ c ∷ cs → IsTrue (is_solid c)
  pub ends : (v cs : List Component) (c : Component) → value_again v ≡ cs ++ c ∷ [] → IsTrue (is_solid c)

module _ (means : (n : List ℕ) → is_name n ≡ true → name_of_word kinds.Ident (name_text n) ≡ n) (at_ends : Ends) where
  whole-value : (v : List Component) → trimmed (value_again v) ≡ value_again v
  whole-value v = trimmed-whole (value_again v) (λ cs c e. not-gap c (at_ends.starts v cs c e)) (λ cs c e. not-gap c (at_ends.ends v cs c e))

  declaration-read : (n : List ℕ) (value : List Component) → is_name n ≡ true → property_name n ≡ n → trimmed value ≡ value → may_be_value (is_custom n) value ≡ true → declaration_of (ident n ∷ colon ∷ value) ≡ Some (supports.Declared n value)
  declaration-read n value named property whole may =
      (let first : is_gap (ident n) ≡ false = ap is_gap_mark (mark-single kinds.Ident (name_text n)) in
      let second : is_gap colon ≡ false = ap is_gap_mark (mark-single kinds.Colon (codes ":")) in
      let name : name_of (ident n) ≡ Some n = ap layer_name (outs-Single (record { kind = kinds.Ident; text = name_text n; at = 0 })) ∙ ap (λ (m : List ℕ). Some m) (means n named) in
      ap declaration_from (trimmed_start-other (ident n) (colon ∷ value) first)
      ∙ ap (λ (o : Option (List ℕ)). declared_by o (colon ∷ value)) name
      ∙ ap (declared_from n) (trimmed_start-other colon value second)
      ∙ ap (λ (m : Mark). if is_colon_mark m then declared n (trimmed value) else None) (mark-single kinds.Colon (codes ":"))
      ∙ ap (declared n) whole
      ∙ ap (λ (b : Bool). if b then Some (supports.Declared (property_name n) value) else None) may
      ∙ ap (λ (m : List ℕ). Some (supports.Declared m value)) property)

  -- Readable declarations are read as they print.
  pub declarations-again : Leaf
  declarations-again name value r =
      (let parts = declaration-parts name value r in
      let spelled = value-as value parts.formed in
      ap (λ (cs : List Component). sign_of (parens (ident name ∷ colon ∷ cs))) spelled
      ∙ declaration-sign (ident name ∷ colon ∷ value_again value) (supports.Declared name (value_again value)) (no-condition name (value_again value))
      (declaration-read name (value_again value) parts.named (same-text (property_name name) name parts.same) (whole-value value) parts.may))
