-- What a rule is that has a reading: nothing, a style rule, a group, a rule that is passed on, or an at-rule of another name.
use Rattle.std.proofs.Common.{◌≡◌, ℕ, List, [], ◌∷◌, Bool, true, false, ◌||◌, Option, Some, None, refl, cond, option_map, inl, inr}
use Rattle.css_tokens.specs.declared.component.Component.{Component}
use Rattle.media_spelling.specs.declared.condition.Query.{Query}
use Rattle.media_spelling.specs.declared.supports.Supports.{Supports as Condition}
use Rattle.media_tree.specs.Queries.{queries_reading}
use Rattle.media_tree.specs.SupportsReading.{supports_reading}
use Rattle.sheet_types.specs.declared.sheet.GroupCondition.{GroupCondition}
use Rattle.sheet_types.specs.declared.sheet.GroupCondition.TheVariants as conditions
use Rattle.sheet_types.specs.declared.sheet.Item.{Item}
use Rattle.sheet_types.specs.declared.sheet.Item as item
use Rattle.sheet_types.specs.declared.sheet.PassedKind.{PassedKind}
use Rattle.css_rules.specs.declared.at_rule.AtKeyword.{AtKeyword}
use Rattle.css_rules.specs.declared.at_rule.AtKeyword.TheVariants.{Media, Supports, PassedOn, Import, Charset, Layer, Unknown}
use Rattle.css_rules.specs.declared.at_rule.AtRule.TheVariants as rules
use Rattle.css_rules.specs.declared.refusal.Sought.TheVariants.{RevertLayerOrUrl}
use Rattle.css_rules.specs.AtRules.{at_rule_of, behind_keyword, fits_prelude, grouped, keyword_in, with_block, without_block}
use Rattle.css_components.specs.Components.{inside, is_braces}
use Rattle.css_components.specs.Trimming.{trimmed}
use Rattle.css_rules.specs.Cuts.{Cut}
use Rattle.css_rules.specs.NestedRules.{in_block}
use Rattle.css_rules.specs.Refusals.{has_sought}
use Rattle.css_rules.specs.RuleEnds.{begins_at_rule, block_of, ends_in_braces}
use Rattle.css_rules.specs.Places.{first_place}
use Rattle.css_rules.specs.Sheets.{at_rule_items, reading, rule_of, rules_of, style_of}
use Rattle.css_rules.proofs.CutLemmas.{or-left, or-right}
use Rattle.css_rules.proofs.RuleShapes.{IsStyled, style-shape, unless-some}

-- Shapes.

-- the components are read as this condition
abbrev pub ReadsCondition : List Component → GroupCondition → Type 0
ReadsCondition prelude (conditions.Media queries) = queries_reading prelude ≡ Some queries
ReadsCondition prelude (conditions.Supports condition) = supports_reading prelude ≡ Some condition

-- what stands behind the keyword of an at-rule
abbrev pub prelude_in : Cut → List Component
prelude_in cut = behind_keyword (trimmed cut.front)

-- an at-rule that ends with a `{}` block
pub record HasBlock (cut : Cut) : Type 0 where
  pub begins : begins_at_rule (trimmed cut.front) ≡ true
  pub block : Component
  pub mark : cut.mark ≡ Some block
  pub braces : is_braces block ≡ true

-- one group is read of the rule
pub record IsGroup (cut : Cut) (items : List Item) : Type 0 where
  pub ends : HasBlock cut
  pub condition : GroupCondition
  pub read : ReadsCondition (prelude_in cut) condition
  pub inner : List Item
  pub within : rules_of (inside ends.block) ≡ Some inner
  pub at : ℕ
  pub is : items ≡ item.Group (record { condition = condition; items = inner; at = at }) ∷ []

-- one rule that is passed on is read of it
pub record IsPassed (cut : Cut) (items : List Item) : Type 0 where
  pub ends : HasBlock cut
  pub kind : PassedKind
  pub fits : fits_prelude kind (prelude_in cut) ≡ true
  pub prelude : has_sought RevertLayerOrUrl (prelude_in cut) ≡ false
  pub block : has_sought RevertLayerOrUrl (inside ends.block) ≡ false
  pub at : ℕ
  pub is : items ≡ item.Passed (record { kind = kind; prelude = prelude_in cut; block = inside ends.block; at = at }) ∷ []

-- an at-rule of another name is read of it
pub record IsOther (items : List Item) : Type 0 where
  pub at : ℕ
  pub is : items ≡ item.Other at ∷ []

-- what follows from each shape
pub record ShapeCases (cut : Cut) (items : List Item) (Q : Type 0) : Type 0 where
  pub nothing : items ≡ [] → Q
  pub style : IsStyled cut items → Q
  pub group : IsGroup cut items → Q
  pub passed : IsPassed cut items → Q
  pub other : IsOther items → Q

-- At-rules.

module _ (cut : Cut) (items : List Item) (Q : Type 0) (cases : ShapeCases cut items Q) where
  abbrev place : ℕ
  place = first_place (trimmed cut.front) 0

  -- without a block only one of another name is read
  blockless : (keyword : AtKeyword) (block : List Component) (inner : Option (List Item)) → at_rule_items place (without_block keyword) block inner ≡ Some items → Q
  blockless Media block inner h = absurd (cc h)
  blockless Supports block inner h = absurd (cc h)
  blockless (PassedOn kind) block inner h = absurd (cc h)
  blockless Import block inner h = absurd (cc h)
  blockless Charset block inner h = cases.other (record { at = place; is = cc h })
  blockless Layer block inner h = absurd (cc h)
  blockless Unknown block inner h = cases.other (record { at = place; is = cc h })

  module _ (ends : HasBlock cut) where
    group : (condition : GroupCondition) → ReadsCondition (prelude_in cut) condition → (o : Option (List Item)) → rules_of (inside ends.block) ≡ o
        → at_rule_items place (rules.Group condition) (inside ends.block) o ≡ Some items → Q
    group condition read None within h = absurd (cc h)
    group condition read (Some inner) within h = cases.group (record { ends = ends; condition = condition; read = read; inner = inner; within = within; at = place; is = cc h })

    media : (o : Option (List Query)) → queries_reading (prelude_in cut) ≡ o → at_rule_items place (grouped (option_map conditions.Media o)) (inside ends.block) (rules_of (inside ends.block)) ≡ Some items → Q
    media None read h = absurd (cc h)
    media (Some queries) read h = group (conditions.Media queries) read (rules_of (inside ends.block)) refl h

    supports : (o : Option Condition) → supports_reading (prelude_in cut) ≡ o → at_rule_items place (grouped (option_map conditions.Supports o)) (inside ends.block) (rules_of (inside ends.block)) ≡ Some items → Q
    supports None read h = absurd (cc h)
    supports (Some condition) read h = group (conditions.Supports condition) read (rules_of (inside ends.block)) refl h

    passed : (kind : PassedKind) (fits : Bool) → fits_prelude kind (prelude_in cut) ≡ fits
        → at_rule_items place (cond fits (rules.PassedOn kind (prelude_in cut)) rules.Unread) (inside ends.block) (rules_of (inside ends.block)) ≡ Some items → Q
    passed kind false fits h = absurd (cc h)
    passed kind true fits h =
        let prelude = has_sought RevertLayerOrUrl (prelude_in cut) in
        let block = has_sought RevertLayerOrUrl (inside ends.block) in
        let rule = item.Passed (record { kind = kind; prelude = prelude_in cut; block = inside ends.block; at = place }) in
        let calm = unless-some (prelude || block) (Some (rule ∷ [])) items h in
        cases.passed (record { ends = ends; kind = kind; fits = fits; prelude = or-left prelude block calm.0; block = or-right prelude block calm.0; at = place; is = cc (calm.1) })

    blocked : (keyword : AtKeyword) → at_rule_items place (with_block keyword (prelude_in cut)) (inside ends.block) (rules_of (inside ends.block)) ≡ Some items → Q
    blocked Media h = media (queries_reading (prelude_in cut)) refl h
    blocked Supports h = supports (supports_reading (prelude_in cut)) refl h
    blocked (PassedOn kind) h = passed kind (fits_prelude kind (prelude_in cut)) refl h
    blocked Import h = absurd (cc h)
    blocked Charset h = cases.other (record { at = place; is = cc h })
    blocked Layer h = absurd (cc h)
    blocked Unknown h = cases.other (record { at = place; is = cc h })

  at_rule : begins_at_rule (trimmed cut.front) ≡ true → (o : Option Component) → cut.mark ≡ o
      → at_rule_items place (at_rule_of (trimmed cut.front) (ends_in_braces o)) (block_of o) (in_block reading rules_of o) ≡ Some items → Q
  at_rule begins None mark h = blockless (keyword_in (trimmed cut.front)) [] (Some []) h
  at_rule begins (Some block) mark h = at (is_braces block) refl h
    where
      at : (b : Bool) → is_braces block ≡ b
          → at_rule_items place (cond b (with_block (keyword_in (trimmed cut.front)) (prelude_in cut)) (without_block (keyword_in (trimmed cut.front)))) (inside block) (cond b (rules_of (inside block)) (Some [])) ≡ Some items → Q
      at false braces h = blockless (keyword_in (trimmed cut.front)) (inside block) (Some []) h
      at true braces h = blocked (record { begins = begins; block = block; mark = mark; braces = braces }) (keyword_in (trimmed cut.front)) h

  style : style_of cut.front cut.mark ≡ Some items → Q
  style h = elim (style-shape cut items h) [ inl none ↦ cases.nothing none | inr s ↦ cases.style s ]

  pub rule-shape : rule_of cut ≡ Some items → Q
  rule-shape h = at (begins_at_rule (trimmed cut.front)) refl h
    where
      at : (b : Bool) → begins_at_rule (trimmed cut.front) ≡ b
          → cond b (at_rule_items place (at_rule_of (trimmed cut.front) (ends_in_braces cut.mark)) (block_of cut.mark) (in_block reading rules_of cut.mark)) (style_of cut.front cut.mark) ≡ Some items → Q
      at true begins h = at_rule begins cut.mark refl h
      at false begins h = style h
