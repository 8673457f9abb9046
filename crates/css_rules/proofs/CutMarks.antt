-- What ends a rule or an item is told by how it begins.
use Rattle.std.proofs.Common.{◌≡◌, List, [], ◌∷◌, ◌++◌, Bool, true, false, ◌&&◌, ◌||◌, not, Some, None, refl, sym, ◌∙◌, ap, cond, inl, inr, is_some}
use Rattle.std.proofs.Math.Bool.{and-false}
use Rattle.std.proofs.lemmas.Bool.{false≢true, cases_Bool}
use Rattle.css_tokens.specs.declared.component.Component.{Component}
use Rattle.css_tokens.specs.declared.kind.Kind.{Kind}
use Rattle.css_tokens.specs.declared.kind.Kind.TheVariants as kinds
use Rattle.css_tokens.specs.Values.{is_gap as is_gap_kind}
use Rattle.css_rules.specs.declared.cuts.Mark.TheVariants.{Braces, Semicolon, BracesOrSemicolon}
use Rattle.css_components.specs.Components.{head, is_single, is_gap, is_ident, is_ident_kind, is_at_keyword, is_at_kind, is_colon, is_colon_kind, is_semicolon, is_semicolon_kind, is_braces, is_custom, name_of}
use Rattle.css_components.specs.Trimming.{trimmed_start}
use Rattle.css_rules.specs.Declarations.{after_colon, begins_custom}
use Rattle.css_rules.specs.Private.Marks.{EndsAt, is_mark}
use Rattle.css_rules.specs.RuleEnds.{begins_at_rule, ends_rule, ends_item}
use Rattle.css_rules.proofs.CutLemmas.{not-true, trimmed_start-gap, trimmed_start-other}
use Rattle.css_rules.proofs.BoolLemmas.{and-left, and-right}

-- Semicolons and blocks.

gap-kind : (k : Kind) → is_semicolon_kind k ≡ true → is_gap_kind k ≡ false
gap-kind kinds.Semicolon e = refl
gap-kind k e = absurd (false≢true e)

at-kind : (k : Kind) → is_semicolon_kind k ≡ true → is_at_kind k ≡ false
at-kind kinds.Semicolon e = refl
at-kind k e = absurd (false≢true e)

semicolon-gap : (c : Component) → is_semicolon c ≡ true → is_gap c ≡ false
semicolon-gap c e = ap (λ b. is_single c && b) (gap-kind (head c).kind (and-right (is_single c) (is_semicolon_kind (head c).kind) e)) ∙ and-false (is_single c)

semicolon-at : (c : Component) → is_semicolon c ≡ true → is_at_keyword c ≡ false
semicolon-at c e = ap (λ b. is_single c && b) (at-kind (head c).kind (and-right (is_single c) (is_semicolon_kind (head c).kind) e)) ∙ and-false (is_single c)

block-single : (c : Component) → is_braces c ≡ true → is_single c ≡ false
block-single c e = not-true (is_single c) (and-left (not (is_single c)) _ e)

block-gap : (c : Component) → is_braces c ≡ true → is_gap c ≡ false
block-gap c e = ap (λ b. b && is_gap_kind (head c).kind) (block-single c e)

block-ident : (c : Component) → is_braces c ≡ true → is_ident c ≡ false
block-ident c e = ap (λ b. b && is_ident_kind (head c).kind) (block-single c e)

block-colon : (c : Component) → is_braces c ≡ true → is_colon c ≡ false
block-colon c e = ap (λ b. b && is_colon_kind (head c).kind) (block-single c e)

-- How it begins is seen before the mark.

rule-start : (before : List Component) (c : Component) (behind : List Component) → is_semicolon c ≡ true → begins_at_rule (trimmed_start before) ≡ begins_at_rule (trimmed_start (before ++ c ∷ behind))
rule-start [] c behind s = sym (ap begins_at_rule (trimmed_start-other c behind (semicolon-gap c s)) ∙ semicolon-at c s)
rule-start (b ∷ bs) c behind s = elim (cases_Bool (is_gap b)) [
  | inl gap ↦ ap begins_at_rule (trimmed_start-gap b bs gap) ∙ rule-start bs c behind s ∙ sym (ap begins_at_rule (trimmed_start-gap b (bs ++ c ∷ behind) gap))
  | inr other ↦ ap begins_at_rule (trimmed_start-other b bs other) ∙ sym (ap begins_at_rule (trimmed_start-other b (bs ++ c ∷ behind) other))
]

abbrev has_colon : List Component → Bool
has_colon cs = is_some (after_colon cs)

some-at : (b : Bool) (xs ys : List Component) → is_some (cond b (Some xs) None) ≡ is_some (cond b (Some ys) None)
some-at true xs ys = refl
some-at false xs ys = refl

colon-start : (before : List Component) (c : Component) (behind : List Component) → is_braces c ≡ true → has_colon (trimmed_start before) ≡ has_colon (trimmed_start (before ++ c ∷ behind))
colon-start [] c behind s = sym (ap has_colon (trimmed_start-other c behind (block-gap c s)) ∙ ap (λ b. is_some (cond b (Some behind) None)) (block-colon c s))
colon-start (b ∷ bs) c behind s = elim (cases_Bool (is_gap b)) [
  | inl gap ↦ ap has_colon (trimmed_start-gap b bs gap) ∙ colon-start bs c behind s ∙ sym (ap has_colon (trimmed_start-gap b (bs ++ c ∷ behind) gap))
  | inr other ↦ ap has_colon (trimmed_start-other b bs other) ∙ some-at (is_colon b) bs (bs ++ c ∷ behind) ∙ sym (ap has_colon (trimmed_start-other b (bs ++ c ∷ behind) other))
]

item-start : (before : List Component) (c : Component) (behind : List Component) → is_braces c ≡ true → begins_custom (trimmed_start before) ≡ begins_custom (trimmed_start (before ++ c ∷ behind))
item-start [] c behind s =
    sym (ap begins_custom (trimmed_start-other c behind (block-gap c s)) ∙ ap (λ b. b && (is_custom (name_of (head c)) && has_colon (trimmed_start behind))) (block-ident c s))
item-start (b ∷ bs) c behind s = elim (cases_Bool (is_gap b)) [
  | inl gap ↦ ap begins_custom (trimmed_start-gap b bs gap) ∙ item-start bs c behind s ∙ sym (ap begins_custom (trimmed_start-gap b (bs ++ c ∷ behind) gap))
  | inr other ↦
      ap begins_custom (trimmed_start-other b bs other)
      ∙ ap (λ colon. is_ident b && (is_custom (name_of (head b)) && colon)) (colon-start bs c behind s)
      ∙ sym (ap begins_custom (trimmed_start-other b (bs ++ c ∷ behind) other))
]

-- So it tells the mark.

or-false : (b : Bool) → (b || false) ≡ b
or-false true = refl
or-false false = refl

or-true : (b : Bool) → (b || true) ≡ true
or-true true = refl
or-true false = refl

pub rule-at : (cs : List Component) → begins_at_rule (trimmed_start cs) ≡ true → EndsAt ends_rule (is_mark BracesOrSemicolon) cs
rule-at cs begins before c behind e = elim (cases_Bool (is_semicolon c)) [
  | inl s ↦
      ap (λ b. is_braces c || (is_semicolon c && b)) (rule-start before c behind s ∙ ap (λ all. begins_at_rule (trimmed_start all)) e ∙ begins)
      ∙ ap (λ b. is_braces c || (b && true)) s ∙ sym (ap (λ b. is_braces c || b) s)
  | inr other ↦ ap (λ b. is_braces c || (b && begins_at_rule (trimmed_start before))) other ∙ sym (ap (λ b. is_braces c || b) other)
]

pub rule-plain : (cs : List Component) → begins_at_rule (trimmed_start cs) ≡ false → EndsAt ends_rule (is_mark Braces) cs
rule-plain cs begins before c behind e = elim (cases_Bool (is_semicolon c)) [
  | inl s ↦
      ap (λ b. is_braces c || (is_semicolon c && b)) (rule-start before c behind s ∙ ap (λ all. begins_at_rule (trimmed_start all)) e ∙ begins)
      ∙ ap (λ b. is_braces c || b) (and-false (is_semicolon c)) ∙ or-false (is_braces c)
  | inr other ↦ ap (λ b. is_braces c || (b && begins_at_rule (trimmed_start before))) other ∙ or-false (is_braces c)
]

pub item-custom : (cs : List Component) → begins_custom (trimmed_start cs) ≡ true → EndsAt ends_item (is_mark Semicolon) cs
item-custom cs begins before c behind e = elim (cases_Bool (is_braces c)) [
  | inl s ↦
      ap (λ b. is_semicolon c || (is_braces c && not b)) (item-start before c behind s ∙ ap (λ all. begins_custom (trimmed_start all)) e ∙ begins)
      ∙ ap (λ b. is_semicolon c || b) (and-false (is_braces c)) ∙ or-false (is_semicolon c)
  | inr other ↦ ap (λ b. is_semicolon c || (b && not (begins_custom (trimmed_start before)))) other ∙ or-false (is_semicolon c)
]

pub item-other : (cs : List Component) → begins_custom (trimmed_start cs) ≡ false → EndsAt ends_item (is_mark BracesOrSemicolon) cs
item-other cs begins before c behind e = elim (cases_Bool (is_braces c)) [
  | inl s ↦
      ap (λ b. is_semicolon c || (is_braces c && not b)) (item-start before c behind s ∙ ap (λ all. begins_custom (trimmed_start all)) e ∙ begins)
      ∙ ap (λ b. is_semicolon c || (b && true)) s ∙ or-true (is_semicolon c) ∙ sym (ap (λ b. b || is_semicolon c) s)
  | inr other ↦ ap (λ b. is_semicolon c || (b && not (begins_custom (trimmed_start before)))) other ∙ or-false (is_semicolon c) ∙ sym (ap (λ b. b || is_semicolon c) other)
]
