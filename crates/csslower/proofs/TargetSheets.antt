-- A text that reads as what the items of a sheet without findings become is one that older browsers read.
use Rattle.std.proofs.Common.{◌≡◌, ℕ, List, [], ◌∷◌, ◌++◌, map, flat_map, false, not, IsTrue, sym, ◌∙◌, ap}
use Rattle.std.specs.List.{list_all}
use Rattle.std.proofs.lemmas.Bool.{and_from}
use Rattle.selector_types.specs.Erased.{erased}
use Rattle.selector_types.specs.PartsWithin.{list_parts}
use Rattle.selector_types.specs.declared.selector.Selector.{Selector}
use Rattle.sheet_types.specs.BareItems.{bare_import}
use Rattle.sheet_types.specs.declared.sheet.Declaration.{Declaration}
use Rattle.sheet_types.specs.declared.sheet.Item.{Item}
use Rattle.sheet_types.specs.declared.sheet.Sheet.{Sheet}
use Rattle.css_rules.specs.PlainRules.{is_plain_item, is_unled, none_waits}
use Rattle.css_rules.specs.Sheets.{is_unbuilt}
use Rattle.cascade_spec.specs.Readings.{HasSheet, ReadsAsItems}
use Rattle.findings.specs.Constructs.{imports_findings, items_findings, list_findings, sheet_findings}
use Rattle.media_lower.specs.MediaItems.{has_old_lists, lowered_item}
use Rattle.target_check.specs.Targets.{has_some, is_old_declaration, is_old_item, is_old_selector}
use Rattle.csslower.specs.TargetTexts.{IsTargetText}
use Rattle.csslower.proofs.ErasedTwice.{all-erased-twice}
use Rattle.csslower.proofs.TargetBare.{BareLaws, ages, items-read, some-map}
use Rattle.csslower.proofs.TargetItems.{ItemLaws, items-become}

back-none : {X : Type 0} (xs ys : List X) → xs ++ ys ≡ [] → ys ≡ []
back-none [] ys none = none
back-none (x ∷ xs) ys none = absurd (cc none)

-- what the lower crates ensure
pub record TargetLaws : Type 0 where
  pub plain : (source : List ℕ) (sheet : Sheet) → HasSheet source sheet → IsTrue (list_all is_plain_item sheet.items)
  pub old : (file : ℕ) (ss : List Selector) → list_findings file ss ≡ [] → IsTrue (list_all is_unled ss) → IsTrue (none_waits (list_parts ss)) → IsTrue (list_all is_old_selector ss)
  pub lists : (x : Item) → IsTrue (list_all has_old_lists (lowered_item x))
  pub built : (d : Declaration) → is_unbuilt d ≡ false → IsTrue (is_old_declaration d)
  pub alike : (ss ts : List Selector) → map erased ss ≡ map erased ts → list_all is_old_selector ss ≡ list_all is_old_selector ts

module _ (laws : TargetLaws) where
  bare-old : (ss : List Selector) → list_all is_old_selector (map erased ss) ≡ list_all is_old_selector ss
  bare-old ss = laws.alike (map erased ss) ss (all-erased-twice ss)

  bare_laws : BareLaws
  bare_laws = record { built = laws.built; bare = bare-old }

  item_laws : ItemLaws
  item_laws = record { old = laws.old 0; lists = laws.lists; bare = bare-old }

  pub target-text : (source text : List ℕ) (sheet : Sheet) → HasSheet source sheet → sheet_findings 0 sheet ≡ [] → ReadsAsItems text (flat_map lowered_item sheet.items) → IsTargetText text
  target-text source text sheet has none reads =
      let found = back-none (imports_findings 0 sheet.imports) (items_findings 0 sheet.items) none in
      let old = items-become item_laws sheet.items (laws.plain source sheet has) found in
      record {
        readable = reads.readable;
        target = λ new is_new.
            let same = reads.same new is_new in
            and_from (not (has_some new.imports)) (list_all is_old_item new.items)
            (ap not (sym (some-map bare_import new.imports) ∙ ap (λ (made : Sheet). has_some made.imports) same))
            (items-read bare_laws new.items (laws.plain text new is_new) (ap (λ (made : Sheet). list_all ages made.items) same ∙ old));
      }
