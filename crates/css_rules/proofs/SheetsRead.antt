-- Components have a sheet exactly where it is refused for nothing, part by part.
use Rattle.std.proofs.Common.{◌≡◌, ◌≢◌, ℕ, List, [], ◌∷◌, ◌++◌, Bool, true, false, ◌||◌, Option, Some, None, MatchOption, refl, sym, ◌∙◌, ap, subst, cond, length, map, flat_map, ◌≤◌, arith}
use Rattle.std.specs.Prelude.{is_some, Result, Ok, Err}
use Rattle.css_tokens.specs.Piece.{Piece}
use Rattle.css_tokens.specs.Trees.{pieces_all}
use Rattle.css_tokens.specs.declared.component.Component.{Component}
use Rattle.css_rules.specs.declared.refusal.Refusal.{Refusal}
use Rattle.selector_types.specs.declared.selector.Selector.{Selector}
use Rattle.sheet_types.specs.declared.sheet.Declaration.{Declaration}
use Rattle.import_rules.specs.declared.import.ImportRule.{ImportRule}
use Rattle.import_rules.specs.declared.import.ImportRule.TheVariants.{Read, Waiting, Unread}
use Rattle.sheet_types.specs.declared.sheet.Import.{Import}
use Rattle.sheet_types.specs.declared.sheet.Sheet.{Sheet}
use Rattle.css_rules.specs.declared.at_rule.AtRule.{AtRule}
use Rattle.css_rules.specs.declared.at_rule.AtRule.TheVariants as rules
use Rattle.css_rules.specs.declared.refusal.Sought.TheVariants.{RevertLayerOrUrl}
use Rattle.sheet_types.specs.declared.sheet.Item.{Item, Group, Passed}
use Rattle.css_rules.specs.AtRules.{at_rule_of}
use Rattle.css_rules.specs.Heads.{import_of, import_refusals, import_rule_of, imports_in, items_in, read_as_import, refused_import}
use Rattle.css_rules.specs.NestedRules.{in_block}
use Rattle.css_rules.specs.ReadAll.{read_all}
use Rattle.css_components.specs.Components.{head, inside, is_braces}
use Rattle.css_components.specs.Trimming.{trimmed}
use Rattle.css_rules.specs.Cuts.{Cut, cuts}
use Rattle.css_rules.specs.Declarations.{declaration_of}
use Rattle.css_rules.specs.Refusals.{first_refusal, first_waiting, unbuilt, unbuilt_at, waiting_in, has_sought, sought_for, sought_in, is_unbuilt_property}
use Rattle.selector_tree.specs.Signs.{list_in, list_reading, mark_of, read}
use Rattle.css_rules.specs.Places.{first_place}
use Rattle.css_rules.specs.Sheets.{at_rule_items, at_rule_refusals, reading, refusing, is_unbuilt, built, plain_item, is_rule, item_of, declarations_of, prelude_of, style_with, leftover, style_of, rule_of, rules_of, sheet_of, declaration_refusals, plain_refusals, mark_place, item_refusals, block_refusals, unread, prelude_refusals, leftover_refusals, style_refusals, rule_refusals, rules_refusals, sheet_refusals, sheet_with}
use Rattle.css_rules.specs.RuleEnds.{begins_at_rule, block_of, ends_in_braces, ends_rule, ends_item}
use Rattle.css_rules.proofs.ListsRead.{list-given, list-read}
use Rattle.css_rules.proofs.ReadAllLemmas.{Told, left-none, right-none, told-all, told-joined, told-mapped, told-read, told-refused}
use Rattle.css_rules.proofs.NestedRules.{InBlocks, by_blocks, rules-read, rules-refused}
use Rattle.css_rules.proofs.SoughtTold.{sought-none, sought-some}
use Rattle.css_rules.proofs.RefusalLemmas.{first_refusal-none}
use Rattle.std.specs.Option.{option_to_list}

-- Declarations.

-- the refusal of a property, and that of its value
declared-told : (d : Declaration) (property value : Bool) (at : ℕ) (rest : List Refusal) → Told (cond value None (Some d)) rest
    → Told (cond (property || value) None (Some (d ∷ []))) ((cond property (unbuilt at ∷ []) []) ++ rest)
declared-told d true value at rest told = λ e. cc e
declared-told d false true at rest told = told
declared-told d false false at rest told = told

sought-told : (d : Declaration) (b : Bool) → has_sought (sought_for d.name) d.value ≡ b → Told (cond b None (Some d)) (sought_in (sought_for d.name) d.value)
sought-told d true e =
    let found = sought-some (sought_for d.name) d.value e in
    λ none. (let clash = sym found.2 ∙ none in cc clash)
sought-told d false e = sought-none (sought_for d.name) d.value e

built-told : (o : Option Declaration) (at : ℕ) → Told (built o) (declaration_refusals at o)
built-told None at = λ e. cc e
built-told (Some d) at =
    declared-told d (is_unbuilt_property d.name) (has_sought (sought_for d.name) d.value) at (sought_in (sought_for d.name) d.value)
    (sought-told d (has_sought (sought_for d.name) d.value) refl)

plain-told : (cs : List Component) → Told (plain_item cs) (plain_refusals cs)
plain-told [] = refl
plain-told (c ∷ cs) = built-told (declaration_of (c ∷ cs)) (head c).at

-- what waits for a later stage, or is told otherwise
waits-told : {A : Type 0} (b : Bool) (at : ℕ) (o : Option A) (rs : List Refusal) → Told o rs → Told (cond b None o) (cond b (unbuilt at ∷ []) rs)
waits-told true at o rs told = λ e. cc e
waits-told false at o rs told = told

item-told : (cut : Cut) → Told (item_of cut) (item_refusals cut)
item-told cut =
    waits-told (is_rule cut) (first_place (trimmed cut.front) (mark_place cut.mark)) (plain_item (trimmed cut.front)) (plain_refusals (trimmed cut.front)) (plain-told (trimmed cut.front))

pub block-told : (block : List Component) → Told (declarations_of block) (block_refusals block)
block-told block = told-all item_of item_refusals item-told (cuts ends_item block)

-- Preludes.

unread-told : (r : Result (List Selector) ℕ) → Told (read r) (unread r)
unread-told (Err at) = λ e. cc e
unread-told (Ok list) = refl

waiting-told : (waiting : Option Piece) (o : Option (List Selector)) (rs : List Refusal) → Told o rs → Told (cond (is_some waiting) None o) (unbuilt_at waiting ++ rs)
waiting-told None o rs told = told
waiting-told (Some token) o rs told = λ e. cc e

pub prelude-told : (prelude : List Component) (end : ℕ) → Told (prelude_of prelude) (prelude_refusals prelude end)
prelude-told prelude end =
    let reading = list_reading false prelude end in
    waiting-told (first_waiting (pieces_all prelude)) (list_in (map mark_of prelude)) (unread reading)
    (subst (λ (o : Option (List Selector)). Told o (unread reading)) (list-read prelude end) (unread-told reading))

-- Rules.

leftover-told : (cs : List Component) → Told (leftover cs) (leftover_refusals cs)
leftover-told [] = refl
leftover-told (c ∷ cs) = λ e. cc e

with-told : (at : ℕ) (o : Option (List Selector)) (p : Option (List Declaration)) (rs ss : List Refusal) → Told o rs → Told p ss → Told (style_with at o p) (rs ++ ss)
with-told at None p rs ss h k = λ e. h (left-none rs ss e)
with-told at (Some list) None rs ss h k = λ e. k (right-none rs ss e)
with-told at (Some list) (Some ds) rs ss h k = ap (λ r. r ++ ss) h ∙ k

style-told : (prelude : List Component) (mark : Option Component) → Told (style_of prelude mark) (style_refusals prelude mark)
style-told prelude None = leftover-told (trimmed prelude)
style-told prelude (Some block) =
    with-told (first_place (trimmed prelude) (head block).at) (prelude_of prelude) (declarations_of (inside block)) (prelude_refusals prelude (head block).at) (block_refusals (inside block))
    (prelude-told prelude (head block).at) (block-told (inside block))

-- one of two
choice-told : {A : Type 0} (b : Bool) (o p : Option A) (rs ss : List Refusal) → Told o rs → Told p ss → Told (cond b o p) (cond b rs ss)
choice-told true o p rs ss h k = h
choice-told false o p rs ss h k = k

-- a rule that is passed on, by what stands before its block and in it
passed-told : (x : Item) (prelude block : List Component) (a b : Bool) → has_sought RevertLayerOrUrl prelude ≡ a → has_sought RevertLayerOrUrl block ≡ b
    → Told (cond (a || b) None (Some (x ∷ []))) (sought_in RevertLayerOrUrl prelude ++ sought_in RevertLayerOrUrl block)
passed-told x prelude block true b before within =
    let found = sought-some RevertLayerOrUrl prelude before in
    λ none. (let clash = sym found.2 ∙ left-none (sought_in RevertLayerOrUrl prelude) (sought_in RevertLayerOrUrl block) none in cc clash)
passed-told x prelude block false true before within =
    let found = sought-some RevertLayerOrUrl block within in
    λ none. (let clash = sym found.2 ∙ right-none (sought_in RevertLayerOrUrl prelude) (sought_in RevertLayerOrUrl block) none in cc clash)
passed-told x prelude block false false before within =
    ap (λ rs. rs ++ sought_in RevertLayerOrUrl block) (sought-none RevertLayerOrUrl prelude before) ∙ sought-none RevertLayerOrUrl block within

at-rule-told : (at : ℕ) (rule : AtRule) (block : List Component) (inner : Option (List Item)) (rs : List Refusal) → Told inner rs → Told (at_rule_items at rule block inner) (at_rule_refusals at rule block rs)
at-rule-told at (rules.Group condition) block inner rs told = told-mapped (λ items. Group (record { condition = condition; items = items; at = at }) ∷ []) inner rs told
at-rule-told at (rules.PassedOn kind prelude) block inner rs told =
    passed-told (Passed (record { kind = kind; prelude = prelude; block = block; at = at })) prelude block (has_sought RevertLayerOrUrl prelude) (has_sought RevertLayerOrUrl block) refl refl
at-rule-told at rules.Import block inner rs told = λ e. cc e
at-rule-told at rules.Waiting block inner rs told = λ e. cc e
at-rule-told at rules.Unknown block inner rs told = refl
at-rule-told at rules.Unread block inner rs told = λ e. cc e

-- components that have a sheet exactly where it is refused for nothing
abbrev IsTold : List Component → Type 0
IsTold cs = Told (rules_of cs) (rules_refusals cs)

block-rules-told : (mark : Option Component) → MatchOption mark (Unit {0}) (λ c. IsTold (inside c)) → Told (in_block reading rules_of mark) (in_block refusing rules_refusals mark)
block-rules-told None told = refl
block-rules-told (Some mark) told = choice-told (is_braces mark) (rules_of (inside mark)) (Some []) (rules_refusals (inside mark)) [] told refl

rule-told : (cut : Cut) → MatchOption cut.mark (Unit {0}) (λ c. IsTold (inside c)) → Told (rule_of cut) (rule_refusals cut)
rule-told cut told =
    let rule = trimmed cut.front in
    let at_rule = at_rule_of rule (ends_in_braces cut.mark) in
    let inner = in_block reading rules_of cut.mark in
    let refused = in_block refusing rules_refusals cut.mark in
    choice-told (begins_at_rule rule) (at_rule_items (first_place rule 0) at_rule (block_of cut.mark) inner) (style_of cut.front cut.mark)
    (at_rule_refusals (first_place rule 0) at_rule (block_of cut.mark) refused) (style_refusals cut.front cut.mark)
    (at-rule-told (first_place rule 0) at_rule (block_of cut.mark) inner refused (block-rules-told cut.mark told))
    (style-told cut.front cut.mark)

all-told : (cs : List Cut) → InBlocks IsTold cs → Told (read_all rule_of cs) (flat_map rule_refusals cs)
all-told [] told = refl
all-told (cut ∷ cs) told = told-joined (rule_of cut) (read_all rule_of cs) (rule_refusals cut) (flat_map rule_refusals cs) (rule-told cut told.0) (all-told cs told.1)

rules-told : (cs : List Component) → IsTold cs
rules-told cs =
    by_blocks IsTold
    (λ cs told.
    subst (λ o. Told o (rules_refusals cs)) (sym (rules-read cs))
    (subst (λ rs. Told (read_all rule_of (cuts ends_rule cs)) rs) (sym (rules-refused cs)) (all-told (cuts ends_rule cs) told)))
    cs

-- Sheets.

each-told : (cut : Cut) → Told (rule_of cut) (rule_refusals cut)
each-told cut = rule-told cut (at cut.mark)
  where
    at : (mark : Option Component) → MatchOption mark (Unit {0}) (λ c. IsTold (inside c))
    at None = tt
    at (Some mark) = rules-told (inside mark)

import-told : (cut : Cut) → Told (import_of cut) (import_refusals cut)
import-told cut = at (import_rule_of cut)
  where
    at : (rule : ImportRule) → Told (read_as_import rule) (refused_import (first_place (trimmed cut.front) 0) rule)
    at (Read i) = refl
    at Waiting = λ e. cc e
    at Unread = λ e. cc e

both-told : (o : Option (List Import)) (p : Option (List Item)) (rs ss : List Refusal) → Told o rs → Told p ss → Told (sheet_with o p) (rs ++ ss)
both-told None p rs ss h k = λ e. h (left-none rs ss e)
both-told (Some imports) None rs ss h k = λ e. k (right-none rs ss e)
both-told (Some imports) (Some items) rs ss h k = ap (λ r. r ++ ss) h ∙ k

sheet-told : (cs : List Component) → Told (sheet_of cs) (sheet_refusals cs)
sheet-told cs =
    let imports = imports_in (cuts ends_rule cs) in
    let items = items_in (cuts ends_rule cs) in
    both-told (read_all import_of imports) (read_all rule_of items) (flat_map import_refusals imports) (flat_map rule_refusals items)
    (told-all import_of import_refusals import-told imports) (told-all rule_of rule_refusals each-told items)

pub sheet-read : (cs : List Component) (sheet : Sheet) → sheet_of cs ≡ Some sheet → sheet_refusals cs ≡ []
sheet-read cs sheet e = told-read (sheet_of cs) sheet (sheet_refusals cs) (sheet-told cs) e

pub sheet-refused : (cs : List Component) → sheet_of cs ≡ None → sheet_refusals cs ≢ []
sheet-refused cs e = told-refused (sheet_of cs) (sheet_refusals cs) (sheet-told cs) e

-- What the readers find.

pub built-found : (o : Option Declaration) (at : ℕ) → first_refusal (declaration_refusals at o) ≡ None → built o ≡ Some (option_to_list o)
built-found None at none = absurd (cc none)
built-found (Some d) at none = at_unbuilt (is_unbuilt d) refl
  where
    told : built (Some d) ≡ None → declaration_refusals at (Some d) ≢ []
    told = told-refused (built (Some d)) (declaration_refusals at (Some d)) (built-told (Some d) at)

    at_unbuilt : (b : Bool) → is_unbuilt d ≡ b → built (Some d) ≡ Some (d ∷ [])
    at_unbuilt true e = absurd (told (ap (λ b. cond b None (Some (d ∷ []))) e) (first_refusal-none (declaration_refusals at (Some d)) none))
    at_unbuilt false e = ap (λ b. cond b None (Some (d ∷ []))) e

pub plain-found : (cs : List Component) (o : Option Declaration) (at : ℕ) → 1 ≤ length cs → o ≡ declaration_of cs → first_refusal (declaration_refusals at o) ≡ None → plain_item cs ≡ Some (option_to_list o)
plain-found [] o at some is none = absurd (omega (arith, some))
plain-found (c ∷ cs) o at some is none = ap built (sym is) ∙ built-found o at none

none-waits : (waiting : Option Piece) → first_refusal (unbuilt_at waiting) ≡ None → is_some waiting ≡ false
none-waits None e = refl
none-waits (Some token) e = absurd (cc e)

pub prelude-found : (prelude : List Component) (end : ℕ) (list : List Selector) → first_refusal (waiting_in prelude) ≡ None → list_reading false prelude end ≡ Ok list → prelude_of prelude ≡ Some list
prelude-found prelude end list none e =
    ap (λ b. cond b None (list_in (map mark_of prelude))) (none-waits (first_waiting (pieces_all prelude)) none)
    ∙ list-given prelude end list e
