-- The tree that is read of a sheet, places aside, does not depend on the places of its tokens.
use Rattle.std.proofs.Common.{◌≡◌, ℕ, List, [], ◌∷◌, map, Bool, true, false, ◌||◌, ◌&&◌, cond, Option, Some, None, option_map, refl, sym, ◌∙◌, ap, IsTrue, MatchOption}
use Rattle.css_tokens.specs.declared.component.Component.{Component}
use Rattle.css_tokens.specs.Trees.{words_all, all_formed, is_formed}
use Rattle.std.specs.List.{AllByRecursion}
use Rattle.selector_types.specs.declared.selector.Selector.{Selector}
use Rattle.sheet_types.specs.declared.sheet.Declaration.{Declaration}
use Rattle.sheet_types.specs.declared.sheet.Item.{Item}
use Rattle.sheet_types.specs.declared.sheet.Item as item
use Rattle.selector_types.specs.Erased.{erased as erased_selector}
use Rattle.selector_tree.specs.Signs.{list_in, mark_of}
use Rattle.sheet_types.specs.BareItems.{bared, bare_items, bare_sheet}
use Rattle.css_components.specs.Components.{inside, is_braces, is_semicolon}
use Rattle.css_components.specs.Trimming.{trimmed, trimmed_start}
use Rattle.css_rules.specs.Cuts.{Cut, cuts}
use Rattle.css_rules.specs.ReadAll.{joined, read_all}
use Rattle.css_rules.specs.Refusals.{has_waiting}
use Rattle.css_rules.specs.AtRules.{at_rule_of, behind_keyword}
use Rattle.css_rules.specs.NestedRules.{in_block}
use Rattle.css_rules.specs.Places.{first_place}
use Rattle.css_rules.specs.Sheets.{at_rule_items, declarations_of, prelude_of, reading, rules_of, style_with, leftover, style_of, sheet_of, sheet_with}
use Rattle.css_rules.specs.RuleEnds.{begins_at_rule, block_of, ends_in_braces, ends_rule}
use Rattle.sheet_types.specs.Runs.{run_of}
use Rattle.css_rules.proofs.BareLemmas.{bare-rule, bare-rules_of, bare-sheet_of, bare_import_of, bare_rule_of}
use Rattle.css_rules.proofs.BoolLemmas.{and-right}
use Rattle.css_rules.proofs.FromSourceParts.{IsPart, all-trimmed, formed-inside, parts-cuts}
use Rattle.css_rules.proofs.NestedRules.{InBlocks, OfMark, by_blocks, in-blocks}
use Rattle.css_rules.specs.Heads.{imports_in, items_in}
use Rattle.css_rules.proofs.HeadLemmas.{each-import, each-item}
use Rattle.css_rules.proofs.PlacesHeads.{ImportPlaces, imports-erased, items-erased, read-imports-erased}
use Rattle.css_rules.proofs.PlacesAtRules.{ConditionPlaces, at_rule_items-erased}
use Rattle.sheet_types.proofs.PlacesTrees.{OnePairing, all_formed-erased, same-erased, words-erased}
use Rattle.css_rules.proofs.WaitingLemmas.{waiting-words}
use Rattle.sheet_types.specs.Erased.{erased}
use Rattle.css_rules.proofs.PlacesLayers.{inside-erased}
use Rattle.css_rules.proofs.PlacesCuts.{erased_cut, erased_declaration, at_rule-erased, cuts-erased, declarations-erased, bareds-erased, ends_rule-erased, trimmed-erased}

-- the style rule of these lists, places aside, where there are both
abbrev bare_by : Option (List Selector) → Option (List Declaration) → Option (List Item)
bare_by None ds = None
bare_by (Some list) None = None
bare_by (Some list) (Some ds) = Some (item.Style (record { selectors = list; items = run_of ds; at = 0 }) ∷ [])

style-bare : (at : ℕ) (o : Option (List Selector)) (p : Option (List Declaration)) → option_map bare_items (style_with at o p) ≡ bare_by (option_map (map erased_selector) o) (option_map (map bared) p)
style-bare at None p = refl
style-bare at (Some list) None = refl
style-bare at (Some list) (Some ds) = ap (λ (x : Item). Some (x ∷ [])) (bare-rule list ds at)

declarations-bare : (o : Option (List Declaration)) → option_map (map bared) (option_map (map erased_declaration) o) ≡ option_map (map bared) o
declarations-bare None = refl
declarations-bare (Some ds) = ap Some (bareds-erased ds)

-- what is ensured of selector lists: the same words are read as the same selectors, places aside
abbrev pub ListPlaces : Type 0
ListPlaces = (a b : List Component) → words_all a ≡ words_all b → IsTrue (all_formed a) → IsTrue (all_formed b) → option_map (map erased_selector) (list_in (map mark_of a)) ≡ option_map (map erased_selector) (list_in (map mark_of b))

prelude-erased : ListPlaces → (cs : List Component) → all_formed cs ≡ true → option_map (map erased_selector) (prelude_of (map erased cs)) ≡ option_map (map erased_selector) (prelude_of cs)
prelude-erased places cs formed =
    let read : Bool → Option (List Selector) → Option (List Selector) = λ b o. option_map (map erased_selector) (cond b None o) in
    ap (λ b. read b (list_in (map mark_of (map erased cs)))) (waiting-words (map erased cs) cs (words-erased cs))
    ∙ at (has_waiting cs)
  where
    at : (b : Bool) → option_map (map erased_selector) (cond b None (list_in (map mark_of (map erased cs)))) ≡ option_map (map erased_selector) (cond b None (list_in (map mark_of cs)))
    at true = refl
    at false = places (map erased cs) cs (words-erased cs) (all_formed-erased cs ∙ formed) formed

leftover-erased : (cs : List Component) → option_map bare_items (leftover (map erased cs)) ≡ option_map bare_items (leftover cs)
leftover-erased [] = refl
leftover-erased (c ∷ cs) = refl

style-erased : ListPlaces → (prelude : List Component) (mark : Option Component) → all_formed prelude ≡ true → option_map bare_items (style_of (map erased prelude) (option_map erased mark)) ≡ option_map bare_items (style_of prelude mark)
style-erased places prelude None formed = ap (λ cs. option_map bare_items (leftover cs)) (trimmed-erased prelude) ∙ leftover-erased (trimmed prelude)
style-erased places prelude (Some block) formed =
    style-bare _ (prelude_of (map erased prelude)) (declarations_of (inside (erased block)))
    ∙ ap (λ o. bare_by o (option_map (map bared) (declarations_of (inside (erased block))))) (prelude-erased places prelude formed)
    ∙ ap (λ cs. bare_by (option_map (map erased_selector) (prelude_of prelude)) (option_map (map bared) (declarations_of cs))) (inside-erased block)
    ∙ ap (bare_by (option_map (map erased_selector) (prelude_of prelude)))
    (ap (option_map (map bared)) (declarations-erased (inside block)) ∙ declarations-bare (declarations_of (inside block)))
    ∙ sym (style-bare _ (prelude_of prelude) (declarations_of (inside block)))

-- what is ensured of all that stands before blocks
pub record PreludePlaces : Type 0 where
  pub lists : ListPlaces
  pub conditions : ConditionPlaces
  pub imports : ImportPlaces

-- Its rules are read as the same, places aside.
abbrev IsSame : List Component → Type 0
IsSame cs = all_formed cs ≡ true → option_map bare_items (rules_of (map erased cs)) ≡ option_map bare_items (rules_of cs)

block-same : (mark : Option Component) → MatchOption mark (Unit {0}) (λ c. is_formed c ≡ true) → MatchOption mark (Unit {0}) (λ c. IsSame (inside c))
    → MatchOption mark (Unit {0}) (λ c. option_map bare_items (rules_of (map erased (inside c))) ≡ option_map bare_items (rules_of (inside c)))
block-same None formed same = tt
block-same (Some c) formed same = same (formed-inside c formed)

behind-formed : (cs : List Component) → all_formed cs ≡ true → all_formed (behind_keyword cs) ≡ true
behind-formed [] formed = refl
behind-formed (c ∷ cs) formed = all-trimmed is_formed cs (and-right (is_formed c) (all_formed cs) formed)

rule-erased : PreludePlaces → (cut : Cut) → IsPart is_formed is_braces cut → OfMark (λ c. IsSame (inside c)) cut → bare_rule_of (erased_cut cut) ≡ bare_rule_of cut
rule-erased places cut part same =
    let mark = option_map erased cut.mark in
    let inner = in_block reading rules_of mark in
    let style = style_of (map erased cut.front) mark in
    ap (λ (cs : List Component). option_map bare_items (cond (begins_at_rule cs) (at_rule_items (first_place cs 0) (at_rule_of cs (ends_in_braces mark)) (block_of mark) inner) style)) (trimmed-erased cut.front)
    ∙ ap (λ b. option_map bare_items (cond b (at_rule_items (first_place (map erased (trimmed cut.front)) 0) (at_rule_of (map erased (trimmed cut.front)) (ends_in_braces mark)) (block_of mark) inner) style))
    (at_rule-erased (trimmed cut.front))
    ∙ at (begins_at_rule (trimmed cut.front))
  where
    at : (b : Bool)
        → option_map bare_items (cond b (at_rule_items (first_place (map erased (trimmed cut.front)) 0) (at_rule_of (map erased (trimmed cut.front)) (ends_in_braces (option_map erased cut.mark)))
        (block_of (option_map erased cut.mark)) (in_block reading rules_of (option_map erased cut.mark))) (style_of (map erased cut.front) (option_map erased cut.mark)))
        ≡ option_map bare_items (cond b (at_rule_items (first_place (trimmed cut.front) 0) (at_rule_of (trimmed cut.front) (ends_in_braces cut.mark)) (block_of cut.mark) (in_block reading rules_of cut.mark))
        (style_of cut.front cut.mark))
    at true =
        at_rule_items-erased places.conditions (first_place (map erased (trimmed cut.front)) 0) (first_place (trimmed cut.front) 0) (trimmed cut.front) cut.mark
        (behind-formed (trimmed cut.front) (all-trimmed is_formed cut.front part.kept)) (block-same cut.mark part.closed same)
    at false = style-erased places.lists cut.front cut.mark part.kept

rules-erased : PreludePlaces → (ks : List Cut) → AllByRecursion (IsPart is_formed is_braces) ks → InBlocks IsSame ks → read_all bare_rule_of (map erased_cut ks) ≡ read_all bare_rule_of ks
rules-erased places [] each within = refl
rules-erased places (k ∷ ks) each within =
    ap (λ o. joined o (read_all bare_rule_of (map erased_cut ks))) (rule-erased places k each.0 within.0)
    ∙ ap (joined (bare_rule_of k)) (rules-erased places ks each.1 within.1)

block-erased : PreludePlaces → (cs : List Component) → InBlocks IsSame (cuts ends_rule cs) → IsSame cs
block-erased places cs within formed =
    bare-rules_of (map erased cs)
    ∙ ap (read_all bare_rule_of) (cuts-erased ends_rule ends_rule-erased [] cs)
    ∙ rules-erased places (cuts ends_rule cs) (parts-cuts is_formed is_braces ends_rule (λ before c s. ap (λ b. b || (is_semicolon c && begins_at_rule (trimmed_start before))) s) [] cs formed) within
    ∙ sym (bare-rules_of cs)

-- a sheet is read as the same tree with each place at 0
sheet-erased : PreludePlaces → (cs : List Component) → all_formed cs ≡ true → option_map bare_sheet (sheet_of (map erased cs)) ≡ option_map bare_sheet (sheet_of cs)
sheet-erased places cs formed =
    let rules = cuts ends_rule cs in
    let parts = parts-cuts is_formed is_braces ends_rule (λ before c s. ap (λ b. b || (is_semicolon c && begins_at_rule (trimmed_start before))) s) [] cs formed in
    bare-sheet_of (map erased cs)
    ∙ ap (λ all. sheet_with (read_all bare_import_of (imports_in all)) (read_all bare_rule_of (items_in all))) (cuts-erased ends_rule ends_rule-erased [] cs)
    ∙ ap (λ all. sheet_with (read_all bare_import_of all) (read_all bare_rule_of (items_in (map erased_cut rules)))) (imports-erased rules)
    ∙ ap (λ all. sheet_with (read_all bare_import_of (map erased_cut (imports_in rules))) (read_all bare_rule_of all)) (items-erased rules)
    ∙ ap (λ o. sheet_with o (read_all bare_rule_of (map erased_cut (items_in rules)))) (read-imports-erased places.imports (imports_in rules) (each-import (IsPart is_formed is_braces) rules parts))
    ∙ ap (sheet_with (read_all bare_import_of (imports_in rules)))
    (rules-erased places (items_in rules) (each-item (IsPart is_formed is_braces) rules parts) (in-blocks IsSame (by_blocks IsSame (block-erased places)) (items_in rules)))
    ∙ sym (bare-sheet_of cs)

-- the same words have the same tree, or none has
pub sheet-places : OnePairing → PreludePlaces → (a b : List Component) → words_all a ≡ words_all b → IsTrue (all_formed a) → IsTrue (all_formed b) → option_map bare_sheet (sheet_of a) ≡ option_map bare_sheet (sheet_of b)
sheet-places one places a b words formed_a formed_b =
    sym (sheet-erased places a formed_a)
    ∙ ap (λ cs. option_map bare_sheet (sheet_of cs)) (same-erased one a b words formed_a formed_b)
    ∙ sheet-erased places b formed_b
