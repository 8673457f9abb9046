-- The items of a sheet are the rules of what stands behind its imports.
use Rattle.std.proofs.Common.{◌≡◌, List, [], ◌∷◌, ◌++◌, Bool, ◌&&◌, true, false, Option, Some, None, refl, sym, ◌∙◌, ap, subst, cond, inl, inr, append_assoc}
use Rattle.std.proofs.lemmas.Bool.{cases_Bool, false≢true}
use Rattle.css_tokens.specs.declared.component.Component.{Component}
use Rattle.sheet_types.specs.declared.sheet.Import.{Import}
use Rattle.sheet_types.specs.declared.sheet.Item.{Item}
use Rattle.sheet_types.specs.declared.sheet.Sheet.{Sheet}
use Rattle.css_components.specs.Trimming.{trimmed}
use Rattle.css_rules.specs.AtRules.{behind_keyword, keyword_in}
use Rattle.css_rules.specs.Cuts.{Cut, cuts, cuts_behind, with_front}
use Rattle.css_rules.specs.Heads.{behind_charset, behind_imports, first_imports, import_of, imports_in, is_charset, is_charset_keyword, is_import, items_in, names_utf8, read_as_import}
use Rattle.css_rules.specs.Places.{first_place}
use Rattle.css_rules.specs.ReadAll.{read_all}
use Rattle.import_rules.specs.Imports.{import_reading}
use Rattle.import_rules.specs.declared.import.ImportRule.TheVariants.{Unread}
use Rattle.css_rules.specs.RuleEnds.{begins_at_rule, ends_in_semicolon, ends_rule}
use Rattle.css_rules.specs.Sheets.{rule_of, rules_of, sheet_of, sheet_with}
use Rattle.css_rules.proofs.BoolLemmas.{and-left, and-right}
use Rattle.css_rules.proofs.CutLemmas.{cuts-marked, cuts-unmarked, first_cut}
use Rattle.css_rules.proofs.HeadLemmas.{behind-import, behind-item, first-import}
use Rattle.css_rules.proofs.NestedRules.{rules-read}
use Rattle.css_rules.proofs.ReadAllLemmas.{joined-some}

-- Behind a cut that a mark ends.

abbrev first_of : List Cut → List Component
first_of [] = []
first_of (cut ∷ cuts) = cut.front

abbrev mark_of : List Cut → Option Component
mark_of [] = None
mark_of (cut ∷ cuts) = cut.mark

abbrev more_of : List Cut → List Cut
more_of [] = []
more_of (cut ∷ cuts) = cuts

-- these components are the front of a cut, the mark and others, of which the further cuts are made
record EndsAtMark (ends : List Component → Component → Bool) (xs : List Component) (more : List Cut) : Type 0 where
  front : List Component
  rest : List Component
  split : xs ≡ front ++ rest
  cut : more ≡ cuts ends rest

behind-mark : (ends : List Component → Component → Bool) (before xs : List Component) (cut : Cut) (more : List Cut) (m : Component) → cuts_behind ends before xs ≡ cut ∷ more → cut.mark ≡ Some m → EndsAtMark ends xs more
behind-mark ends before [] cut more m e marked = absurd (let none : Some m ≡ None = sym marked ∙ sym (ap mark_of e) in cc none)
behind-mark ends before (x ∷ xs) cut more m e marked = elim (cases_Bool (ends before x)) [
  | inl ends_here ↦ record { front = x ∷ []; rest = xs; split = refl; cut = ap more_of (sym e ∙ cuts-marked ends before x xs ends_here) }
  | inr goes ↦
      let next = first_cut ends (before ++ x ∷ []) xs in
      let same : record { front = x ∷ next.0.front; mark = next.0.mark } ∷ next.1.0 ≡ cut ∷ more = sym (cuts-unmarked ends before x xs goes ∙ ap (with_front x) next.1.1) ∙ e in
      let found = behind-mark ends (before ++ x ∷ []) xs next.0 next.1.0 m next.1.1 (ap mark_of same ∙ marked) in
      record { front = x ∷ found.front; rest = found.rest; split = ap (λ ys. x ∷ ys) found.split; cut = sym (ap more_of same) ∙ found.cut }
]

-- Rules that are those of what stands behind some of the components.

pub record AreRest (cs : List Component) (rules : List Cut) : Type 0 where
  pub front : List Component
  pub rest : List Component
  pub split : cs ≡ front ++ rest
  pub is : rules ≡ cuts ends_rule rest

all-rest : (cs : List Component) → AreRest cs (cuts ends_rule cs)
all-rest cs = record { front = []; rest = cs; split = refl; is = refl }

rest-behind : (cs : List Component) (rule : Cut) (rules : List Cut) (m : Component) → rule.mark ≡ Some m → AreRest cs (rule ∷ rules) → AreRest cs rules
rest-behind cs rule rules m marked r =
    let found = behind-mark ends_rule [] r.rest rule rules m (sym r.is) marked in
    record {
      front = r.front ++ found.front;
      rest = found.rest;
      split = r.split ∙ ap (λ xs. r.front ++ xs) found.split ∙ sym (append_assoc r.front found.front found.rest);
      is = found.cut;
    }

-- The `@charset` rule and the imports that are read end with a semicolon.

semicolon-mark : (o : Option Component) → ends_in_semicolon o ≡ true → (m : Component) × (o ≡ Some m)
semicolon-mark None e = absurd (false≢true e)
semicolon-mark (Some m) e = (m, refl)

charset-mark : (rule : Cut) → is_charset rule ≡ true → (m : Component) × (rule.mark ≡ Some m)
charset-mark rule e =
    let begins = begins_at_rule (trimmed rule.front) in
    let ends = ends_in_semicolon rule.mark in
    let named = is_charset_keyword (keyword_in (trimmed rule.front)) && names_utf8 (behind_keyword (trimmed rule.front)) in
    semicolon-mark rule.mark (and-right begins ends (and-left (begins && ends) named e))

import-mark : (rule : Cut) (imports : List Import) → import_of rule ≡ Some imports → (m : Component) × (rule.mark ≡ Some m)
import-mark rule imports e = at rule.mark refl
  where
    at : (o : Option Component) → rule.mark ≡ o → (m : Component) × (rule.mark ≡ Some m)
    at None is = absurd (
        let read : Bool → Option (List Import) = λ ends. read_as_import (cond ends (import_reading (first_place (trimmed rule.front) 0) (behind_keyword (trimmed rule.front))) Unread) in
        let none = sym (ap (λ o. read (ends_in_semicolon o)) is) ∙ e in
        cc none)
    at (Some m) is = (m, is)

charset-rest : (cs : List Component) (rules : List Cut) → AreRest cs rules → AreRest cs (behind_charset rules)
charset-rest cs [] r = r
charset-rest cs (rule ∷ rules) r = at (is_charset rule) refl
  where
    at : (b : Bool) → is_charset rule ≡ b → AreRest cs (cond b rules (rule ∷ rules))
    at true e = (let m = charset-mark rule e in rest-behind cs rule rules m.0 m.1 r)
    at false e = r

imports-rest : (cs : List Component) (rules : List Cut) (imports : List Import) → read_all import_of (first_imports rules) ≡ Some imports → AreRest cs rules → AreRest cs (behind_imports rules)
imports-rest cs [] imports e r = r
imports-rest cs (rule ∷ rules) imports e r = elim (cases_Bool (is_import rule.front)) [
  | inl is ↦
      let both = joined-some (import_of rule) (read_all import_of (first_imports rules)) imports (sym (ap (read_all import_of) (first-import rule rules is)) ∙ e) in
      let m = import-mark rule both.front both.first in
      subst (AreRest cs) (sym (behind-import rule rules is)) (imports-rest cs rules both.back both.second (rest-behind cs rule rules m.0 m.1 r))
  | inr other ↦ subst (AreRest cs) (sym (behind-item rule rules other)) r
]

-- Sheets.

abbrev imports_or : Option Sheet → List Import
imports_or None = []
imports_or (Some sheet) = sheet.imports

abbrev items_or : Option Sheet → List Item
items_or None = []
items_or (Some sheet) = sheet.items

-- what a sheet is read from: its imports, and the rules of what stands behind them
pub record IsSheet (cs : List Component) (sheet : Sheet) : Type 0 where
  pub imports : read_all import_of (imports_in (cuts ends_rule cs)) ≡ Some sheet.imports
  pub behind : AreRest cs (items_in (cuts ends_rule cs))
  pub items : rules_of behind.rest ≡ Some sheet.items

pub sheet-shape : (cs : List Component) (sheet : Sheet) → sheet_of cs ≡ Some sheet → IsSheet cs sheet
sheet-shape cs sheet e = at (read_all import_of (imports_in (cuts ends_rule cs))) (read_all rule_of (items_in (cuts ends_rule cs))) refl refl e
  where
    at : (o : Option (List Import)) (p : Option (List Item)) → read_all import_of (imports_in (cuts ends_rule cs)) ≡ o → read_all rule_of (items_in (cuts ends_rule cs)) ≡ p → sheet_with o p ≡ Some sheet → IsSheet cs sheet
    at None p first second h = absurd (cc h)
    at (Some imports) None first second h = absurd (cc h)
    at (Some imports) (Some items) first second h =
        let same_imports : imports ≡ sheet.imports = ap imports_or h in
        let same_items : items ≡ sheet.items = ap items_or h in
        let rest = imports-rest cs (behind_charset (cuts ends_rule cs)) imports first (charset-rest cs (cuts ends_rule cs) (all-rest cs)) in
        record {
          imports = first ∙ ap Some same_imports;
          behind = rest;
          items = rules-read rest.rest ∙ ap (read_all rule_of) (sym rest.is) ∙ second ∙ ap Some same_items;
        }
