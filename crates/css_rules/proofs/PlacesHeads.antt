-- The front of a sheet is told by words alone.
use Rattle.std.proofs.Common.{◌≡◌, ℕ, List, [], ◌∷◌, map, Bool, true, false, ◌&&◌, Option, Some, None, option_map, refl, sym, ◌∙◌, ap, cond, codes, IsTrue}
use Rattle.std.specs.List.{AllByRecursion}
use Rattle.css_tokens.specs.Piece.{Piece}
use Rattle.css_tokens.specs.Trees.{all_formed, is_formed, words_all}
use Rattle.css_tokens.specs.declared.component.Component.{Component}
use Rattle.import_rules.specs.Imports.{import_reading}
use Rattle.import_rules.specs.BareRules.{bare_rule}
use Rattle.import_rules.specs.declared.import.ImportRule.{ImportRule}
use Rattle.import_rules.specs.declared.import.ImportRule.TheVariants.{Read, Waiting, Unread}
use Rattle.sheet_types.specs.declared.sheet.Import.{Import}
use Rattle.sheet_types.specs.BareItems.{bare_import}
use Rattle.sheet_types.specs.Erased.{erased}
use Rattle.css_components.specs.Components.{head, is_braces, is_keyword, is_string, name_of}
use Rattle.css_components.specs.Trimming.{trimmed}
use Rattle.css_rules.specs.AtRules.{behind_keyword, keyword_in}
use Rattle.css_rules.specs.Cuts.{Cut}
use Rattle.css_rules.specs.Heads.{behind_charset, behind_imports, first_imports, import_of, import_rule_of, imports_in, is_charset, is_charset_keyword, is_import, is_import_keyword, items_in, names_utf8, read_as_import}
use Rattle.css_rules.specs.Places.{first_place}
use Rattle.css_rules.specs.ReadAll.{joined, read_all}
use Rattle.css_rules.specs.RuleEnds.{begins_at_rule, ends_in_semicolon}
use Rattle.css_rules.proofs.BareLemmas.{bare_import_of}
use Rattle.css_rules.proofs.BoolLemmas.{and-right}
use Rattle.css_rules.proofs.FromSourceParts.{IsPart, all-trimmed}
use Rattle.css_rules.proofs.PlacesAtRules.{behind-erased, keyword-erased, one-erased}
use Rattle.css_rules.proofs.PlacesCuts.{at_rule-erased, erased_cut, trimmed-erased}
use Rattle.css_rules.proofs.PlacesLayers.{head-erased, semicolon-erased, string-erased}
use Rattle.sheet_types.proofs.PlacesTrees.{all_formed-erased, words-erased}

semicolon-mark : (o : Option Component) → ends_in_semicolon (option_map erased o) ≡ ends_in_semicolon o
semicolon-mark None = refl
semicolon-mark (Some mark) = semicolon-erased mark

abbrev is_utf8_string : Component → Bool
is_utf8_string c = is_string c && is_keyword (codes "utf-8") (name_of (head c))

utf8-erased : (c : Component) → is_utf8_string (erased c) ≡ is_utf8_string c
utf8-erased c = ap (λ b. b && is_keyword (codes "utf-8") (name_of (head (erased c)))) (string-erased c) ∙ ap (λ (p : Piece). is_string c && is_keyword (codes "utf-8") (name_of p)) (head-erased c)

import-erased : (front : List Component) → is_import (map erased front) ≡ is_import front
import-erased front =
    ap (λ cs. begins_at_rule cs && is_import_keyword (keyword_in cs)) (trimmed-erased front)
    ∙ ap (λ b. b && is_import_keyword (keyword_in (map erased (trimmed front)))) (at_rule-erased (trimmed front))
    ∙ ap (λ k. begins_at_rule (trimmed front) && is_import_keyword k) (keyword-erased (trimmed front))

charset-erased : (cut : Cut) → is_charset (erased_cut cut) ≡ is_charset cut
charset-erased cut =
    let rule = trimmed cut.front in
    let ends = ends_in_semicolon cut.mark in
    ap (λ cs. (begins_at_rule cs && ends_in_semicolon (option_map erased cut.mark)) && (is_charset_keyword (keyword_in cs) && names_utf8 (behind_keyword cs))) (trimmed-erased cut.front)
    ∙ ap (λ b. (b && ends_in_semicolon (option_map erased cut.mark)) && (is_charset_keyword (keyword_in (map erased rule)) && names_utf8 (behind_keyword (map erased rule)))) (at_rule-erased rule)
    ∙ ap (λ b. (begins_at_rule rule && b) && (is_charset_keyword (keyword_in (map erased rule)) && names_utf8 (behind_keyword (map erased rule)))) (semicolon-mark cut.mark)
    ∙ ap (λ k. (begins_at_rule rule && ends) && (is_charset_keyword k && names_utf8 (behind_keyword (map erased rule)))) (keyword-erased rule)
    ∙ ap (λ cs. (begins_at_rule rule && ends) && (is_charset_keyword (keyword_in rule) && names_utf8 cs)) (behind-erased rule)
    ∙ ap (λ b. (begins_at_rule rule && ends) && (is_charset_keyword (keyword_in rule) && b)) (one-erased is_utf8_string utf8-erased (behind_keyword rule))

charsets-erased : (rules : List Cut) → behind_charset (map erased_cut rules) ≡ map erased_cut (behind_charset rules)
charsets-erased [] = refl
charsets-erased (rule ∷ rules) = ap (λ b. cond b (map erased_cut rules) (map erased_cut (rule ∷ rules))) (charset-erased rule) ∙ at (is_charset rule)
  where
    at : (b : Bool) → cond b (map erased_cut rules) (map erased_cut (rule ∷ rules)) ≡ map erased_cut (cond b rules (rule ∷ rules))
    at true = refl
    at false = refl

firsts-erased : (rules : List Cut) → first_imports (map erased_cut rules) ≡ map erased_cut (first_imports rules)
firsts-erased [] = refl
firsts-erased (rule ∷ rules) =
    ap (λ b. cond b (erased_cut rule ∷ first_imports (map erased_cut rules)) []) (import-erased rule.front)
    ∙ ap (λ more. cond (is_import rule.front) (erased_cut rule ∷ more) []) (firsts-erased rules)
    ∙ at (is_import rule.front)
  where
    at : (b : Bool) → cond b (erased_cut rule ∷ map erased_cut (first_imports rules)) [] ≡ map erased_cut (cond b (rule ∷ first_imports rules) [])
    at true = refl
    at false = refl

behinds-erased : (rules : List Cut) → behind_imports (map erased_cut rules) ≡ map erased_cut (behind_imports rules)
behinds-erased [] = refl
behinds-erased (rule ∷ rules) =
    ap (λ b. cond b (behind_imports (map erased_cut rules)) (map erased_cut (rule ∷ rules))) (import-erased rule.front)
    ∙ ap (λ more. cond (is_import rule.front) more (map erased_cut (rule ∷ rules))) (behinds-erased rules)
    ∙ at (is_import rule.front)
  where
    at : (b : Bool) → cond b (map erased_cut (behind_imports rules)) (map erased_cut (rule ∷ rules)) ≡ map erased_cut (cond b (behind_imports rules) (rule ∷ rules))
    at true = refl
    at false = refl

-- the same rules are imports
pub imports-erased : (rules : List Cut) → imports_in (map erased_cut rules) ≡ map erased_cut (imports_in rules)
imports-erased rules = ap first_imports (charsets-erased rules) ∙ firsts-erased (behind_charset rules)

-- and the same are items
pub items-erased : (rules : List Cut) → items_in (map erased_cut rules) ≡ map erased_cut (items_in rules)
items-erased rules = ap behind_imports (charsets-erased rules) ∙ behinds-erased (behind_charset rules)

-- what is ensured of imports: the same words are read as the same import, places aside
abbrev pub ImportPlaces : Type 0
ImportPlaces = (a b : List Component) (m n : ℕ) → words_all a ≡ words_all b → IsTrue (all_formed a) → IsTrue (all_formed b) → bare_rule (import_reading m a) ≡ bare_rule (import_reading n b)

bare-read : (rule : ImportRule) → option_map (map bare_import) (read_as_import rule) ≡ read_as_import (bare_rule rule)
bare-read (Read i) = refl
bare-read Waiting = refl
bare-read Unread = refl

behind-formed : (cs : List Component) → all_formed cs ≡ true → all_formed (behind_keyword cs) ≡ true
behind-formed [] formed = refl
behind-formed (c ∷ cs) formed = all-trimmed is_formed cs (and-right (is_formed c) (all_formed cs) formed)

rule-erased : ImportPlaces → (cut : Cut) → all_formed cut.front ≡ true → bare_rule (import_rule_of (erased_cut cut)) ≡ bare_rule (import_rule_of cut)
rule-erased places cut formed =
    let rule = trimmed cut.front in
    ap (λ b. bare_rule (cond b (import_reading (first_place (trimmed (map erased cut.front)) 0) (behind_keyword (trimmed (map erased cut.front)))) Unread)) (semicolon-mark cut.mark)
    ∙ at (ends_in_semicolon cut.mark)
  where
    read : bare_rule (import_reading (first_place (trimmed (map erased cut.front)) 0) (behind_keyword (trimmed (map erased cut.front)))) ≡ bare_rule (import_reading (first_place (trimmed cut.front) 0) (behind_keyword (trimmed cut.front)))
    read =
        let kept = behind-formed (trimmed cut.front) (all-trimmed is_formed cut.front formed) in
        ap (λ cs. bare_rule (import_reading (first_place (trimmed (map erased cut.front)) 0) cs)) (ap behind_keyword (trimmed-erased cut.front) ∙ behind-erased (trimmed cut.front))
        ∙ places (map erased (behind_keyword (trimmed cut.front))) (behind_keyword (trimmed cut.front)) (first_place (trimmed (map erased cut.front)) 0) (first_place (trimmed cut.front) 0)
        (words-erased (behind_keyword (trimmed cut.front))) (all_formed-erased (behind_keyword (trimmed cut.front)) ∙ kept) kept

    at : (b : Bool) → bare_rule (cond b (import_reading (first_place (trimmed (map erased cut.front)) 0) (behind_keyword (trimmed (map erased cut.front)))) Unread)
        ≡ bare_rule (cond b (import_reading (first_place (trimmed cut.front) 0) (behind_keyword (trimmed cut.front))) Unread)
    at true = read
    at false = refl

-- imports are read as the same, places aside
pub read-imports-erased : ImportPlaces → (rules : List Cut) → AllByRecursion (IsPart is_formed is_braces) rules → read_all bare_import_of (map erased_cut rules) ≡ read_all bare_import_of rules
read-imports-erased places [] each = refl
read-imports-erased places (rule ∷ rules) each =
    ap (λ o. joined o (read_all bare_import_of (map erased_cut rules)))
    (bare-read (import_rule_of (erased_cut rule)) ∙ ap read_as_import (rule-erased places rule each.0.kept) ∙ sym (bare-read (import_rule_of rule)))
    ∙ ap (joined (bare_import_of rule)) (read-imports-erased places rules each.1)
