-- Rules that are read as items, none of them an at-rule of another name, begin with neither `@charset` nor an import.
use Rattle.std.proofs.Common.{◌≡◌, ℕ, List, [], ◌∷◌, ◌++◌, Bool, true, false, ◌&&◌, ◌||◌, Option, Some, None, option_map, refl, sym, ◌∙◌, ap, cond, inl, inr, flat_map}
use Rattle.std.specs.List.{list_any}
use Rattle.std.proofs.lemmas.Bool.{cases_Bool, false≢true}
use Rattle.css_tokens.specs.declared.component.Component.{Component}
use Rattle.selector_types.specs.declared.selector.Selector.{Selector}
use Rattle.sheet_types.specs.declared.sheet.Declaration.{Declaration}
use Rattle.sheet_types.specs.declared.sheet.GroupCondition.{GroupCondition}
use Rattle.sheet_types.specs.declared.sheet.Item.{Item}
use Rattle.sheet_types.specs.declared.sheet.Item as item
use Rattle.sheet_types.specs.declared.sheet.Group as group
use Rattle.sheet_types.specs.declared.sheet.Passed.{Passed}
use Rattle.sheet_types.specs.declared.sheet.Style as style
use Rattle.sheet_types.specs.BareItems.{bare_items, bare_item-Other, filled_item, filled_items, filled_item-Plain, filled_item-Style, filled_item-Group, filled_item-Passed, filled_item-Other, group_round, importless, rule_round}
use Rattle.sheet_types.specs.ItemFold.{Steps, folded, folded-Plain, folded-Style, folded-Group, folded-Passed, folded-Other}
use Rattle.sheet_types.specs.ItemInduction.{Cases, by_items}
use Rattle.sheet_types.specs.Runs.{run_of}
use Rattle.css_components.specs.Trimming.{trimmed}
use Rattle.css_rules.specs.declared.at_rule.AtKeyword.{AtKeyword}
use Rattle.css_rules.specs.declared.at_rule.AtKeyword.TheVariants as keywords
use Rattle.css_rules.specs.AtRules.{at_rule_of, behind_keyword, keyword_in, with_block, without_block}
use Rattle.css_rules.specs.Cuts.{Cut}
use Rattle.css_rules.specs.Heads.{behind_imports, first_imports, is_charset, is_charset_keyword, is_import, is_import_keyword, imports_in, items_in, names_utf8}
use Rattle.css_rules.specs.NestedRules.{in_block}
use Rattle.css_rules.specs.Places.{first_place}
use Rattle.css_rules.specs.ReadAll.{joined, read_all}
use Rattle.css_rules.specs.RuleEnds.{begins_at_rule, block_of, ends_in_braces, ends_in_semicolon}
use Rattle.css_rules.specs.Sheets.{at_rule_items, reading, rule_of, rules_of, sheet_with, style_of}
use Rattle.css_rules.proofs.BareLemmas.{bare_import_of, bare_rule_of}
use Rattle.css_rules.proofs.BoolLemmas.{and-left, and-right}
use Rattle.css_rules.proofs.HeadLemmas.{behind-item, first-item}
use Rattle.css_rules.proofs.ReadAllLemmas.{joined-some}

-- At-rules of another name.

abbrev telling : Steps Bool
telling = record {
  plain = λ ds. false;
  style = λ selectors at inner. false;
  group = λ condition at inner. false;
  passed = λ rule. false;
  other = λ at. true;
}

-- an at-rule of another name?
abbrev pub is_other : Item → Bool
is_other = folded telling

any-append : (xs ys : List Item) → list_any is_other xs ≡ false → list_any is_other ys ≡ false → list_any is_other (xs ++ ys) ≡ false
any-append [] ys e f = f
any-append (x ∷ xs) ys e f = at (is_other x) refl (λ rest. any-append xs ys rest f)
  where
    at : (b : Bool) → is_other x ≡ b → (list_any is_other xs ≡ false → list_any is_other (xs ++ ys) ≡ false) → list_any is_other ((x ∷ xs) ++ ys) ≡ false
    at true is more = absurd (false≢true (sym e ∙ ap (λ b. b || list_any is_other xs) is))
    at false is more = ap (λ b. b || list_any is_other (xs ++ ys)) is ∙ more (sym (ap (λ b. b || list_any is_other xs) is) ∙ e)

abbrev IsKept : Item → Type 0
IsKept x = list_any is_other (filled_item x) ≡ false

one-kept : (x : Item) → is_other x ≡ false → list_any is_other (x ∷ []) ≡ false
one-kept x e = ap (λ b. b || false) e

run-kept : (ds : List Declaration) → list_any is_other (run_of ds) ≡ false
run-kept [] = refl
run-kept (d ∷ ds) = one-kept (item.Plain (d ∷ ds)) (folded-Plain telling (d ∷ ds))

rule-kept : (list : List Selector) (at : ℕ) (xs : List Item) → list_any is_other (rule_round list at xs) ≡ false
rule-kept list at [] = refl
rule-kept list at (x ∷ xs) =
    let s : style.Style = record { selectors = list; items = x ∷ xs; at = at } in
    one-kept (item.Style s) (folded-Style telling s)

group-kept : (c : GroupCondition) (at : ℕ) (xs : List Item) → list_any is_other (group_round c at xs) ≡ false
group-kept c at [] = refl
group-kept c at (x ∷ xs) =
    let g : group.Group = record { condition = c; items = x ∷ xs; at = at } in
    one-kept (item.Group g) (folded-Group telling g)

kept-cases : Cases IsKept
kept-cases = record {
  plain = λ ds. ap (list_any is_other) (filled_item-Plain ds) ∙ run-kept ds;
  style = λ s each. ap (list_any is_other) (filled_item-Style s) ∙ rule-kept s.selectors s.at (filled_items s.items);
  group = λ g each. ap (list_any is_other) (filled_item-Group g) ∙ group-kept g.condition g.at (filled_items g.items);
  passed = λ rule. ap (list_any is_other) (filled_item-Passed rule) ∙ one-kept (item.Passed rule) (folded-Passed telling rule);
  other = λ at. ap (list_any is_other) (filled_item-Other at);
}

-- none is left where what declares nothing is left out
pub filled-no_other : (xs : List Item) → list_any is_other (filled_items xs) ≡ false
filled-no_other [] = refl
filled-no_other (x ∷ xs) = any-append (filled_item x) (filled_items xs) (by_items IsKept kept-cases x) (filled-no_other xs)

-- The first rule.

charset-keyword : (k : AtKeyword) → is_charset_keyword k ≡ true → k ≡ keywords.Charset
charset-keyword keywords.Charset e = refl
charset-keyword k e = absurd (false≢true e)

import-keyword : (k : AtKeyword) → is_import_keyword k ≡ true → k ≡ keywords.Import
import-keyword keywords.Import e = refl
import-keyword k e = absurd (false≢true e)

-- an at-rule of this keyword
abbrev read_at : Cut → AtKeyword → Option (List Item)
read_at cut keyword =
    let rule = trimmed cut.front in
    at_rule_items (first_place rule 0) (cond (ends_in_braces cut.mark) (with_block keyword (behind_keyword rule)) (without_block keyword)) (block_of cut.mark) (in_block reading rules_of cut.mark)

at-keyword : (cut : Cut) (keyword : AtKeyword) → begins_at_rule (trimmed cut.front) ≡ true → keyword_in (trimmed cut.front) ≡ keyword → rule_of cut ≡ read_at cut keyword
at-keyword cut keyword begins is = ap (λ b. cond b (read_at cut (keyword_in (trimmed cut.front))) (style_of cut.front cut.mark)) begins ∙ ap (read_at cut) is

charset-read : (cut : Cut) → is_charset cut ≡ true → bare_rule_of cut ≡ Some (item.Other 0 ∷ [])
charset-read cut e =
    let rule = trimmed cut.front in
    let front = begins_at_rule rule && ends_in_semicolon cut.mark in
    let named = is_charset_keyword (keyword_in rule) && names_utf8 (behind_keyword rule) in
    let begins = and-left (begins_at_rule rule) (ends_in_semicolon cut.mark) (and-left front named e) in
    let keyword = charset-keyword (keyword_in rule) (and-left (is_charset_keyword (keyword_in rule)) (names_utf8 (behind_keyword rule)) (and-right front named e)) in
    ap (option_map bare_items) (at-keyword cut keywords.Charset begins keyword ∙ at (ends_in_braces cut.mark)) ∙ ap (λ (x : Item). Some (x ∷ [])) (bare_item-Other (first_place rule 0))
  where
    at : (b : Bool)
        → at_rule_items (first_place (trimmed cut.front) 0) (cond b (with_block keywords.Charset (behind_keyword (trimmed cut.front))) (without_block keywords.Charset)) (block_of cut.mark) (in_block reading rules_of cut.mark)
        ≡ Some (item.Other (first_place (trimmed cut.front) 0) ∷ [])
    at true = refl
    at false = refl

import-read : (cut : Cut) → is_import cut.front ≡ true → bare_rule_of cut ≡ None
import-read cut e =
    let rule = trimmed cut.front in
    let keyword = import-keyword (keyword_in rule) (and-right (begins_at_rule rule) (is_import_keyword (keyword_in rule)) e) in
    ap (option_map bare_items) (at-keyword cut keywords.Import (and-left (begins_at_rule rule) (is_import_keyword (keyword_in rule)) e) keyword ∙ at (ends_in_braces cut.mark))
  where
    at : (b : Bool)
        → at_rule_items (first_place (trimmed cut.front) 0) (cond b (with_block keywords.Import (behind_keyword (trimmed cut.front))) (without_block keywords.Import)) (block_of cut.mark) (in_block reading rules_of cut.mark)
        ≡ None
    at true = refl
    at false = refl

abbrev heads_or : Option (List Item) → List Item
heads_or None = []
heads_or (Some xs) = xs

-- what is read so is a sheet of these items
pub headless : (rules : List Cut) (items : List Item) → read_all bare_rule_of rules ≡ Some items → list_any is_other items ≡ false
    → sheet_with (read_all bare_import_of (imports_in rules)) (read_all bare_rule_of (items_in rules)) ≡ Some (importless items)
headless [] items read none = ap (sheet_with (Some [])) read
headless (rule ∷ rules) items read none =
    let both = joined-some (bare_rule_of rule) (read_all bare_rule_of rules) items read in
    elim (cases_Bool (is_charset rule)) [
      | inl charset ↦ absurd (
          let here : both.front ≡ item.Other 0 ∷ [] = ap heads_or (sym both.first ∙ charset-read rule charset) in
          let whole : items ≡ item.Other 0 ∷ both.back = both.whole ∙ ap (λ xs. xs ++ both.back) here in
          false≢true (sym none ∙ ap (list_any is_other) whole ∙ ap (λ b. b || list_any is_other both.back) (folded-Other telling 0)))
      | inr plain ↦ elim (cases_Bool (is_import rule.front)) [
        | inl import ↦ absurd (let clash = sym (import-read rule import) ∙ both.first in cc clash)
        | inr other ↦
            ap (λ b. sheet_with (read_all bare_import_of (first b)) (read_all bare_rule_of (behind b))) plain
            ∙ ap (λ rs. sheet_with (read_all bare_import_of rs) (read_all bare_rule_of (behind false))) (first-item rule rules other)
            ∙ ap (λ rs. sheet_with (Some []) (read_all bare_rule_of rs)) (behind-item rule rules other)
            ∙ ap (sheet_with (Some [])) read
      ]
    ]
  where
    first : Bool → List Cut
    first b = first_imports (cond b rules (rule ∷ rules))

    behind : Bool → List Cut
    behind b = behind_imports (cond b rules (rule ∷ rules))
