-- What a list of components without refusals is read as is printable.
use Rattle.std.proofs.Common.{◌≡◌, ℕ, List, [], ◌∷◌, ◌++◌, map, true, false, refl, sym, ◌∙◌, ap, subst, Some, IsTrue}
use Rattle.std.specs.List.{list_all, AllByRecursion}
use Rattle.std.proofs.lemmas.List.Folds.{list_all-append}
use Rattle.std.specs.Prelude.{Ok}
use Rattle.std.proofs.lemmas.List.Concat.{flat_map-append}
use Rattle.css_tokens.specs.declared.component.Component.{Component}
use Rattle.css_tokens.specs.Trees.{all_formed, words_all}
use Rattle.media_tree.specs.SpelledWords.{AreRead}
use Rattle.selector_types.specs.declared.selector.Selector.{Selector}
use Rattle.sheet_types.specs.declared.sheet.Sheet.{Sheet}
use Rattle.sheet_types.specs.declared.sheet.Declaration.{Declaration}
use Rattle.sheet_types.specs.declared.sheet.Group as group
use Rattle.sheet_types.specs.declared.sheet.GroupCondition.{GroupCondition}
use Rattle.sheet_types.specs.declared.sheet.Item.{Item}
use Rattle.sheet_types.specs.declared.sheet.Item as item
use Rattle.sheet_types.specs.declared.sheet.Passed.{Passed}
use Rattle.sheet_types.specs.declared.sheet.Style as style
use Rattle.selector_tree.specs.Signs.{list_reading}
use Rattle.selector_types.specs.Spelling.{list_spelling}
use Rattle.css_components.specs.Components.{inside}
use Rattle.css_rules.specs.Cuts.{Cut}
use Rattle.sheet_types.specs.Leaves.{IsTop, Leaf, OfDeclaration, all_leaves, group_leaves, leaves, rule_leaves}
use Rattle.css_rules.specs.Printable.{is_whole, is_whole_condition, all_whole, IsPrintableCondition, IsPrintableDeclaration, IsPrintableLeaf, ArePrintable}
use Rattle.css_rules.specs.Refusals.{has_waiting}
use Rattle.selector_types.specs.ReadableSelectors.{is_readable_list, is_spelled, is_writable_list}
use Rattle.css_rules.specs.Sheets.{sheet_of}
use Rattle.sheet_types.specs.Runs.{run_of}
use Rattle.css_rules.proofs.BoolLemmas.{and-left, and-right}
use Rattle.css_rules.proofs.ConditionsRead.{ConditionLaws, condition-printable}
use Rattle.css_rules.proofs.FromSourceDeclarations.{each-append, block-printable}
use Rattle.css_rules.proofs.FromSourceParts.{is_sound, all-sound, sound-formed, sound-spelled}
use Rattle.css_rules.proofs.GroupLeaves.{leaves-Group, leaves-Passed, leaves-Other, top-Group, top-Passed, top-Other}
use Rattle.sheet_types.proofs.ItemShapes.{leaves-hold, only-leaves, rule-top}
use Rattle.css_rules.proofs.ListsRead.{list-found}
use Rattle.css_rules.proofs.RuleShapes.{IsStyled, prelude-shape}
use Rattle.css_rules.proofs.SourceRules.{AreStopped, IsReadPassed, ReadCases, sheet-holds}
use Rattle.css_rules.proofs.StandLists.{ReadingLaws}
use Rattle.css_rules.proofs.WaitingSigns.{spelling-calm}

-- what is ensured of selector lists: what is read can be spelled, where nothing in it cannot be written
abbrev pub ListReadable : Type 0
ListReadable = (cs : List Component) (ss : List Selector) → IsTrue (list_all is_spelled (words_all cs)) → list_reading false cs 0 ≡ Ok ss → IsTrue (is_writable_list ss) → IsTrue (is_readable_list false ss)

-- it has a spelling where it can be written, and nothing in it waits
record IsFine (list : List Selector) : Type 0 where
  readable : is_writable_list list ≡ true → is_readable_list false list ≡ true
  built : has_waiting (list_spelling list) ≡ false

-- items are printable where their selectors are whole
abbrev WholePrintable : List Item → Type 0
WholePrintable items = list_all is_whole (all_leaves items) ≡ true → ArePrintable items

rule-leaves-fine : (list : List Selector) (ds : List Declaration) → IsFine list → AllByRecursion IsPrintableDeclaration ds
    → list_all is_whole (rule_leaves list (map OfDeclaration ds)) ≡ true → AllByRecursion IsPrintableLeaf (rule_leaves list (map OfDeclaration ds))
rule-leaves-fine list [] fine each whole = tt
rule-leaves-fine list (d ∷ ds) fine each whole =
    let writable = and-left (is_writable_list list) (list_all is_whole (map OfDeclaration (d ∷ ds))) whole in
    leaves-hold IsPrintableLeaf list (d ∷ ds) (record { readable = fine.readable writable; built = fine.built }) each

style-printable : (s : style.Style) (ds : List Declaration) → s.items ≡ run_of ds → IsFine s.selectors → AllByRecursion IsPrintableDeclaration ds → WholePrintable (item.Style s ∷ [])
style-printable s ds is fine each whole =
    let same = only-leaves s ds is in
    record {
      tops = (rule-top s ds is, tt);
      fine = subst (AllByRecursion IsPrintableLeaf) (sym same) (rule-leaves-fine s.selectors ds fine each (sym (ap (list_all is_whole) same) ∙ whole));
    }

both-printable : (xs ys : List Item) → WholePrintable xs → WholePrintable ys → WholePrintable (xs ++ ys)
both-printable xs ys h k whole =
    let apart = flat_map-append leaves xs ys in
    let parts = sym (ap (list_all is_whole) apart ∙ list_all-append is_whole (all_leaves xs) (all_leaves ys)) ∙ whole in
    let a = h (and-left (list_all is_whole (all_leaves xs)) (list_all is_whole (all_leaves ys)) parts) in
    let b = k (and-right (list_all is_whole (all_leaves xs)) (list_all is_whole (all_leaves ys)) parts) in
    record {
      tops = each-append IsTop xs ys a.tops b.tops;
      fine = subst (AllByRecursion IsPrintableLeaf) (sym apart) (each-append IsPrintableLeaf (all_leaves xs) (all_leaves ys) a.fine b.fine);
    }

-- Groups and other at-rules.

group-whole : (c : GroupCondition) (ls : List Leaf) → list_all is_whole (group_leaves c ls) ≡ true → list_all is_whole ls ≡ true
group-whole c [] whole = refl
group-whole c (l ∷ ls) whole = and-right (is_whole_condition c) (list_all is_whole (l ∷ ls)) whole

group-fine : (c : GroupCondition) (ls : List Leaf) → (is_whole_condition c ≡ true → IsPrintableCondition c) → AllByRecursion IsPrintableLeaf ls → list_all is_whole (group_leaves c ls) ≡ true
    → AllByRecursion IsPrintableLeaf (group_leaves c ls)
group-fine c [] fine each whole = tt
group-fine c (l ∷ ls) fine each whole = (fine (and-left (is_whole_condition c) (list_all is_whole (l ∷ ls)) whole), each)

group-printable : (g : group.Group) → (is_whole_condition g.condition ≡ true → IsPrintableCondition g.condition) → WholePrintable g.items → WholePrintable (item.Group g ∷ [])
group-printable g fine inner whole =
    let same = leaves-Group g in
    let all = sym (ap (list_all is_whole) same) ∙ whole in
    let within = inner (group-whole g.condition (all_leaves g.items) all) in
    record {
      tops = (top-Group g within.tops, tt);
      fine = subst (AllByRecursion IsPrintableLeaf) (sym same) (group-fine g.condition (all_leaves g.items) fine within.fine all);
    }

passed-printable : (rule : Passed) → IsReadPassed is_spelled rule → WholePrintable (item.Passed rule ∷ [])
passed-printable rule r whole = record {
  tops = (top-Passed rule, tt);
  fine = subst (AllByRecursion IsPrintableLeaf) (sym (leaves-Passed rule)) (
    record {
      fits = r.fits;
      whole = r.whole;
      undivided = r.undivided;
      prelude = record { built = r.calm_prelude; formed = sound-formed is_spelled rule.prelude r.prelude.sound; spelled = sound-spelled is_spelled rule.prelude r.prelude.sound };
      block = record { built = r.calm_block; formed = sound-formed is_spelled rule.block r.block.sound; spelled = sound-spelled is_spelled rule.block r.block.sound };
    },
    tt,
  );
}

other-printable : (at : ℕ) → WholePrintable (item.Other at ∷ [])
other-printable at whole = record { tops = (top-Other at, tt); fine = subst (AllByRecursion IsPrintableLeaf) (sym (leaves-Other at)) tt }

-- Sheets.

-- what is ensured of what is read
pub record SourceLaws : Type 0 where
  pub lists : ListReadable
  pub conditions : ConditionLaws
  pub reading : ReadingLaws

module _ (laws : SourceLaws) where
  style-read : (cut : Cut) (items : List Item) (s : IsStyled cut items) → list_all is_sound cut.front ≡ true → AreStopped is_spelled (inside s.block) → WholePrintable items
  style-read cut items s sound block =
      let prelude = prelude-shape cut.front s.list s.prelude in
      let read = list-found cut.front s.list prelude.spelled in
      subst WholePrintable (sym s.is)
      (style-printable (record { selectors = s.list; items = run_of s.ds; at = s.at }) s.ds refl
      (record { readable = laws.lists cut.front s.list (sound-spelled is_spelled cut.front sound) read; built = spelling-calm cut.front s.list prelude.built read })
      (block-printable (inside s.block) s.ds block.sound s.inner))

  cases : ReadCases is_spelled WholePrintable
  cases = record {
    nothing = λ whole. record { tops = tt; fine = tt };
    both = both-printable;
    style = style-read;
    group = λ g prelude stopped read inner. group-printable g (condition-printable laws.conditions g.condition prelude stopped read) inner;
    passed = passed-printable;
    other = other-printable;
  }

  pub sheet-printable : (cs : List Component) (sheet : Sheet) → sheet_of cs ≡ Some sheet → all_formed cs ≡ true → list_all is_spelled (words_all cs) ≡ true → AreRead cs → all_whole sheet ≡ true → ArePrintable sheet.items
  sheet-printable cs sheet e formed spelled read =
      sheet-holds laws.reading is_spelled WholePrintable cases cs sheet
      (record { sound = all-sound is_spelled cs formed spelled; behind = read.behind; stands = record { reads = read.reads } })
      e
