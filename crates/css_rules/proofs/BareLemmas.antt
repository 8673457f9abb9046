-- Items and sheets, places aside.
use Rattle.std.proofs.Common.{◌≡◌, ℕ, List, [], ◌∷◌, map, Option, Some, None, option_map, refl, ◌∙◌, ap}
use Rattle.std.proofs.lemmas.List.{map-append, map-id}
use Rattle.css_tokens.specs.declared.component.Component.{Component}
use Rattle.selector_types.specs.Erased.{erased}
use Rattle.selector_types.specs.declared.selector.Selector.{Selector}
use Rattle.sheet_types.specs.declared.sheet.Declaration.{Declaration}
use Rattle.sheet_types.specs.declared.sheet.Import.{Import}
use Rattle.sheet_types.specs.declared.sheet.Item.{Item}
use Rattle.sheet_types.specs.declared.sheet.Item as item
use Rattle.sheet_types.specs.BareItems.{bared, bare_import, bare_item, bare_items, bare_sheet, bare_item-Plain, bare_item-Style}
use Rattle.css_rules.specs.Cuts.{Cut, cuts}
use Rattle.css_rules.specs.ReadAll.{read_all}
use Rattle.css_rules.specs.Heads.{import_of, imports_in, items_in}
use Rattle.css_rules.specs.Sheets.{rule_of, rules_of, sheet_of, sheet_with}
use Rattle.css_rules.specs.RuleEnds.{ends_rule}
use Rattle.sheet_types.specs.Runs.{run_of}
use Rattle.css_rules.proofs.NestedRules.{rules-read}
use Rattle.css_rules.proofs.ReadAllLemmas.{mapped-all}

pub bare-run_of : (ds : List Declaration) → bare_items (run_of ds) ≡ run_of (map bared ds)
bare-run_of [] = refl
bare-run_of (d ∷ ds) = ap (λ (x : Item). x ∷ []) (bare_item-Plain (d ∷ ds))

-- a rule with one run of declarations, or none
pub bare-rule : (list : List Selector) (ds : List Declaration) (at : ℕ)
    → bare_item (item.Style (record { selectors = list; items = run_of ds; at = at })) ≡ item.Style (record { selectors = map erased list; items = run_of (map bared ds); at = 0 })
bare-rule list ds at =
    bare_item-Style (record { selectors = list; items = run_of ds; at = at })
    ∙ ap (λ (xs : List Item). item.Style (record { selectors = map erased list; items = xs; at = 0 })) (bare-run_of ds)

-- what is read of a rule
abbrev pub bare_rule_of : Cut → Option (List Item)
bare_rule_of cut = option_map bare_items (rule_of cut)

-- the rules that components spell, one by one
pub bare-rules_of : (cs : List Component) → option_map bare_items (rules_of cs) ≡ read_all bare_rule_of (cuts ends_rule cs)
bare-rules_of cs =
    ap (option_map bare_items) (rules-read cs)
    ∙ mapped-all bare_items rule_of bare_rule_of (λ cut. cut) refl (λ xs ys. map-append bare_item xs ys) (λ cut. refl) (cuts ends_rule cs)
    ∙ ap (read_all bare_rule_of) (map-id (cuts ends_rule cs))

-- what is read of an import
abbrev pub bare_import_of : Cut → Option (List Import)
bare_import_of cut = option_map (map bare_import) (import_of cut)

-- the imports and the items of a sheet, one by one
pub bare-sheet_of : (cs : List Component) → option_map bare_sheet (sheet_of cs) ≡ sheet_with (read_all bare_import_of (imports_in (cuts ends_rule cs))) (read_all bare_rule_of (items_in (cuts ends_rule cs)))
bare-sheet_of cs =
    let imports = imports_in (cuts ends_rule cs) in
    let items = items_in (cuts ends_rule cs) in
    at (read_all import_of imports) (read_all rule_of items)
    ∙ ap (λ o. sheet_with o (option_map bare_items (read_all rule_of items)))
    (mapped-all (map bare_import) import_of bare_import_of (λ cut. cut) refl (λ xs ys. map-append bare_import xs ys) (λ cut. refl) imports ∙ ap (read_all bare_import_of) (map-id imports))
    ∙ ap (sheet_with (read_all bare_import_of imports))
    (mapped-all bare_items rule_of bare_rule_of (λ cut. cut) refl (λ xs ys. map-append bare_item xs ys) (λ cut. refl) items ∙ ap (read_all bare_rule_of) (map-id items))
  where
    at : (o : Option (List Import)) (p : Option (List Item)) → option_map bare_sheet (sheet_with o p) ≡ sheet_with (option_map (map bare_import) o) (option_map bare_items p)
    at None p = refl
    at (Some imports) None = refl
    at (Some imports) (Some items) = refl
