-- What a sheet is refused for stands within its text.
use Rattle.std.proofs.Common.{◌≡◌, ℕ, ◌≤◌, List, [], ◌∷◌, Bool, true, false, ◌&&◌, ◌||◌, not, Option, Some, None, MatchOption, flat_map, arith, refl, sym, ap, subst}
use Rattle.std.specs.Prelude.{if◌then◌else◌, Result, Ok, Err}
use Rattle.std.specs.List.{list_all, find, AllByRecursion}
use Rattle.std.proofs.lemmas.Bool.{leb-true}
use Rattle.css_tokens.specs.declared.component.Component.{Component}
use Rattle.css_tokens.specs.Piece.{Piece}
use Rattle.css_tokens.specs.Trees.{pieces_all}
use Rattle.css_rules.specs.declared.refusal.Refusal.{Refusal}
use Rattle.css_rules.specs.declared.refusal.Sought.{Sought}
use Rattle.selector_types.specs.declared.selector.Selector.{Selector}
use Rattle.selector_tree.specs.Signs.{list_reading}
use Rattle.sheet_types.specs.declared.sheet.Declaration.{Declaration}
use Rattle.css_components.specs.Components.{head, inside, is_ident, is_colon, is_bang, is_semicolon, is_braces, is_custom, name_of}
use Rattle.css_components.specs.Trimming.{trimmed, trimmed_start}
use Rattle.css_rules.specs.Cuts.{Cut, cuts, cuts_at}
use Rattle.css_rules.specs.Declarations.{property_name, after_colon, may_be_value, is_important, value_of, declared, declared_after, declaration_of, begins_custom}
use Rattle.css_rules.specs.Refusals.{leads, sooner, sooner_of, unbuilt, first_refusal, is_sought, unbuilt_at, waits_before, first_waiting, waiting_in, sought_for, sought_in, is_unbuilt_property}
use Rattle.css_rules.specs.Places.{first_place}
use Rattle.css_rules.specs.Sheets.{at_rule_refusals, refusing, mark_place, is_rule, declaration_refusals, plain_refusals, item_refusals, block_refusals, unread, prelude_refusals, leftover_refusals, style_refusals, rule_refusals, rules_refusals, sheet_refusals}
use Rattle.css_rules.specs.RuleEnds.{begins_at_rule, block_of, ends_in_braces, ends_rule, ends_item}
use Rattle.css_rules.proofs.FromSourceDeclarations.{each-append}
use Rattle.css_rules.proofs.FromSourceParts.{all-start, all-trimmed, IsPart, parts-cuts}
use Rattle.css_rules.proofs.BoolLemmas.{and-left, and-right}
use Rattle.std.specs.Option.{option_map}
use Rattle.media_tree.specs.Queries.{queries_reading}
use Rattle.media_tree.specs.SupportsReading.{supports_reading}
use Rattle.sheet_types.specs.declared.sheet.GroupCondition.{GroupCondition}
use Rattle.sheet_types.specs.declared.sheet.GroupCondition.TheVariants as conditions
use Rattle.sheet_types.specs.declared.sheet.PassedKind.{PassedKind}
use Rattle.css_rules.specs.declared.at_rule.AtKeyword.{AtKeyword}
use Rattle.css_rules.specs.declared.at_rule.AtKeyword.TheVariants.{Media, Supports, PassedOn, Import, Charset, Layer, Unknown}
use Rattle.css_rules.specs.declared.at_rule.AtRule.{AtRule}
use Rattle.css_rules.specs.declared.at_rule.AtRule.TheVariants as rules
use Rattle.css_rules.specs.declared.refusal.Sought.TheVariants.{RevertLayerOrUrl}
use Rattle.css_rules.specs.Heads.{import_refusals, import_rule_of, imports_in, items_in, refused_import}
use Rattle.import_rules.specs.declared.import.ImportRule.{ImportRule}
use Rattle.import_rules.specs.declared.import.ImportRule.TheVariants.{Read, Waiting, Unread}
use Rattle.css_rules.proofs.HeadLemmas.{each-import, each-item}
use Rattle.css_rules.specs.AtRules.{at_rule_of, behind_keyword, fits_prelude, grouped, keyword_in, with_block, without_block}
use Rattle.css_rules.specs.NestedRules.{in_block}
use Rattle.css_rules.proofs.NestedRules.{InBlocks, by_blocks, rules-refused, in-blocks}
use Rattle.css_rules.proofs.Within.{is_early, is_within, early-each, within-all, pieces-early, head-within, inside-within, FaultWithin, fault-within}

module _ (end : ℕ) where
  abbrev IsWithin : Refusal → Type 0
  IsWithin r = r.at ≤ end

  abbrev AreWithin : List Refusal → Type 0
  AreWithin rs = AllByRecursion IsWithin rs

  abbrev all_within : List Component → Bool
  all_within cs = list_all (is_within end) cs

  -- Sought tokens.

  found-or : (p : Piece) (o : Option Piece) (here : Bool) → p.at ≤ end → AreWithin (unbuilt_at o) → AreWithin (unbuilt_at (if here then Some p else o))
  found-or p o true h k = (h, tt)
  found-or p o false h k = k

  found-within : (test : Piece → Bool) (ps : List Piece) → list_all (is_early end) ps ≡ true → AreWithin (unbuilt_at (find test ps))
  found-within test [] h = tt
  found-within test (p ∷ ps) h =
      found-or p (find test ps) (test p) (leb-true p.at end (and-left (is_early end p) (list_all (is_early end) ps) h))
      (found-within test ps (and-right (is_early end p) (list_all (is_early end) ps) h))

  sought-within : (sought : Sought) (cs : List Component) → all_within cs ≡ true → AreWithin (sought_in sought cs)
  sought-within sought cs h = found-within (is_sought sought) (pieces_all cs) (pieces-early end cs h)

  -- Values of declarations.

  abbrev ReadsWithin : Option (List Component × Bool) → Type 0
  ReadsWithin o = MatchOption o (Unit {0}) (λ value. all_within value.0 ≡ true)

  abbrev DeclaresWithin : Option Declaration → Type 0
  DeclaresWithin o = MatchOption o (Unit {0}) (λ d. all_within d.value ≡ true)

  marked-within : (b important : Bool) (v : List Component) → all_within v ≡ true → ReadsWithin (if b then Some (v, important) else None)
  marked-within true important v h = h
  marked-within false important v h = tt

  value-within : (cs : List Cut) → AllByRecursion (IsPart (is_within end) is_bang) cs → ReadsWithin (value_of cs)
  value-within [] h = tt
  value-within (value ∷ []) h = all-trimmed (is_within end) value.front h.0.kept
  value-within (value ∷ mark ∷ []) h = marked-within (is_important (trimmed mark.front)) true (trimmed value.front) (all-trimmed (is_within end) value.front h.0.kept)
  value-within (value ∷ mark ∷ more ∷ cs) h = tt

  made-within : (name : Piece) (v : List Component × Bool) (b : Bool) → all_within v.0 ≡ true
      → DeclaresWithin (if b then Some (record { name = property_name (name_of name); value = v.0; important = v.1; at = name.at }) else None)
  made-within name v true h = h
  made-within name v false h = tt

  declared-within : (name : Piece) (o : Option (List Component × Bool)) → ReadsWithin o → DeclaresWithin (declared name o)
  declared-within name None h = tt
  declared-within name (Some v) h = made-within name v (may_be_value (is_custom (name_of name)) v.0) h

  abbrev TailWithin : Option (List Component) → Type 0
  TailWithin o = MatchOption o (Unit {0}) (λ tail. all_within tail ≡ true)

  colon-at : (cs : List Component) (b : Bool) → all_within cs ≡ true → TailWithin (if b then Some cs else None)
  colon-at cs true h = h
  colon-at cs false h = tt

  tail-within : (cs : List Component) → all_within cs ≡ true → TailWithin (after_colon cs)
  tail-within [] h = tt
  tail-within (c ∷ cs) h = colon-at cs (is_colon c) (and-right (is_within end c) (all_within cs) h)

  after-within : (name : Piece) (o : Option (List Component)) → TailWithin o → DeclaresWithin (declared_after name o)
  after-within name None h = tt
  after-within name (Some tail) h = declared-within name (value_of (cuts_at is_bang tail)) (value-within (cuts_at is_bang tail) (parts-cuts (is_within end) is_bang (λ b c. is_bang c) (λ b c e. e) [] tail h))

  named-within : (b : Bool) (o : Option Declaration) → DeclaresWithin o → DeclaresWithin (if b then o else None)
  named-within true o h = h
  named-within false o h = tt

  declaration-within : (cs : List Component) → all_within cs ≡ true → DeclaresWithin (declaration_of cs)
  declaration-within [] h = tt
  declaration-within (c ∷ cs) h =
      let rest = all-start (is_within end) cs (and-right (is_within end c) (all_within cs) h) in
      named-within (is_ident c) (declared_after (head c) (after_colon (trimmed_start cs))) (after-within (head c) (after_colon (trimmed_start cs)) (tail-within (trimmed_start cs) rest))

  -- Items of a block.

  or-unbuilt : (b : Bool) (at : ℕ) (rest : List Refusal) → at ≤ end → AreWithin rest → AreWithin (if b then unbuilt at ∷ [] else rest)
  or-unbuilt true at rest h k = (h, tt)
  or-unbuilt false at rest h k = k

  refused-within : (at : ℕ) (o : Option Declaration) → at ≤ end → DeclaresWithin o → AreWithin (declaration_refusals at o)
  refused-within at None h k = (h, tt)
  refused-within at (Some d) h k =
      each-append IsWithin (if is_unbuilt_property d.name then unbuilt at ∷ [] else []) (sought_in (sought_for d.name) d.value)
      (or-unbuilt (is_unbuilt_property d.name) at [] h tt)
      (sought-within (sought_for d.name) d.value k)

  plain-within : (cs : List Component) → all_within cs ≡ true → AreWithin (plain_refusals cs)
  plain-within [] h = tt
  plain-within (c ∷ cs) h =
      refused-within (head c).at (declaration_of (c ∷ cs)) (head-within end c (and-left (is_within end c) (all_within cs) h)) (declaration-within (c ∷ cs) h)

  mark-within : (o : Option Component) → MatchOption o (Unit {0}) (λ c. is_within end c ≡ true) → mark_place o ≤ end
  mark-within None h = omega arith
  mark-within (Some c) h = head-within end c h

  start-within : (cs : List Component) (otherwise : ℕ) → all_within cs ≡ true → otherwise ≤ end → first_place cs otherwise ≤ end
  start-within [] otherwise h k = k
  start-within (c ∷ cs) otherwise h k = head-within end c (and-left (is_within end c) (all_within cs) h)

  item-within : (cut : Cut) → IsPart (is_within end) is_semicolon cut → AreWithin (item_refusals cut)
  item-within cut part =
      let words = all-trimmed (is_within end) cut.front part.kept in
      or-unbuilt (is_rule cut) (first_place (trimmed cut.front) (mark_place cut.mark)) (plain_refusals (trimmed cut.front))
      (start-within (trimmed cut.front) (mark_place cut.mark) words (mark-within cut.mark part.closed))
      (plain-within (trimmed cut.front) words)

  items-within : (cs : List Cut) → AllByRecursion (IsPart (is_within end) is_semicolon) cs → AreWithin (flat_map item_refusals cs)
  items-within [] h = tt
  items-within (cut ∷ cs) h = each-append IsWithin (item_refusals cut) (flat_map item_refusals cs) (item-within cut h.0) (items-within cs h.1)

  block-within : (block : List Component) → all_within block ≡ true → AreWithin (block_refusals block)
  block-within block h =
      items-within (cuts ends_item block)
      (parts-cuts (is_within end) is_semicolon ends_item (λ before c s. ap (λ b. b || (is_braces c && not (begins_custom (trimmed_start before)))) s) [] block h)

  -- Preludes and rules.

  waiting-found : (ps : List Piece) → list_all (is_early end) ps ≡ true → AreWithin (unbuilt_at (first_waiting ps))
  waiting-found [] h = tt
  waiting-found (p ∷ ps) h =
      found-or p (first_waiting ps) (waits_before p ps) (leb-true p.at end (and-left (is_early end p) (list_all (is_early end) ps) h))
      (waiting-found ps (and-right (is_early end p) (list_all (is_early end) ps) h))

  unread-within : (r : Result (List Selector) ℕ) → FaultWithin end r → AreWithin (unread r)
  unread-within (Err at) h = (h, tt)
  unread-within (Ok list) h = tt

  prelude-within : (prelude : List Component) (stop : ℕ) → all_within prelude ≡ true → stop ≤ end → AreWithin (prelude_refusals prelude stop)
  prelude-within prelude stop h k =
      each-append IsWithin (waiting_in prelude) (unread (list_reading false prelude stop))
      (waiting-found (pieces_all prelude) (pieces-early end prelude h))
      (unread-within (list_reading false prelude stop) (fault-within end prelude stop h k))

  leftover-within : (cs : List Component) → all_within cs ≡ true → AreWithin (leftover_refusals cs)
  leftover-within [] h = tt
  leftover-within (c ∷ cs) h = (head-within end c (and-left (is_within end c) (all_within cs) h), tt)

  style-within : (prelude : List Component) (mark : Option Component) → all_within prelude ≡ true → MatchOption mark (Unit {0}) (λ c. is_within end c ≡ true) → AreWithin (style_refusals prelude mark)
  style-within prelude None h m = leftover-within (trimmed prelude) (all-trimmed (is_within end) prelude h)
  style-within prelude (Some block) h m =
      each-append IsWithin (prelude_refusals prelude (head block).at) (block_refusals (inside block))
      (prelude-within prelude (head block).at h (head-within end block m))
      (block-within (inside block) (inside-within end block m))

  -- where an at-rule that is passed on has its prelude
  abbrev HasPrelude : AtRule → Type 0
  HasPrelude (rules.Group condition) = Unit {0}
  HasPrelude (rules.PassedOn kind prelude) = all_within prelude ≡ true
  HasPrelude rules.Import = Unit {0}
  HasPrelude rules.Waiting = Unit {0}
  HasPrelude rules.Unknown = Unit {0}
  HasPrelude rules.Unread = Unit {0}

  grouped-prelude : (o : Option GroupCondition) → HasPrelude (grouped o)
  grouped-prelude None = tt
  grouped-prelude (Some condition) = tt

  fitting-prelude : (b : Bool) (kind : PassedKind) (prelude : List Component) → all_within prelude ≡ true → HasPrelude (if b then rules.PassedOn kind prelude else rules.Unread)
  fitting-prelude true kind prelude h = h
  fitting-prelude false kind prelude h = tt

  block-prelude : (keyword : AtKeyword) (prelude : List Component) → all_within prelude ≡ true → HasPrelude (with_block keyword prelude)
  block-prelude Media prelude h = grouped-prelude (option_map conditions.Media (queries_reading prelude))
  block-prelude Supports prelude h = grouped-prelude (option_map conditions.Supports (supports_reading prelude))
  block-prelude (PassedOn kind) prelude h = fitting-prelude (fits_prelude kind prelude) kind prelude h
  block-prelude Import prelude h = tt
  block-prelude Charset prelude h = tt
  block-prelude Layer prelude h = tt
  block-prelude Unknown prelude h = tt

  bare-prelude : (keyword : AtKeyword) → HasPrelude (without_block keyword)
  bare-prelude Media = tt
  bare-prelude Supports = tt
  bare-prelude (PassedOn kind) = tt
  bare-prelude Import = tt
  bare-prelude Charset = tt
  bare-prelude Layer = tt
  bare-prelude Unknown = tt

  behind-within : (rule : List Component) → all_within rule ≡ true → all_within (behind_keyword rule) ≡ true
  behind-within [] h = refl
  behind-within (c ∷ cs) h = all-trimmed (is_within end) cs (and-right (is_within end c) (all_within cs) h)

  told-prelude : (rule : List Component) (has_block : Bool) → all_within rule ≡ true → HasPrelude (at_rule_of rule has_block)
  told-prelude rule true h = block-prelude (keyword_in rule) (behind_keyword rule) (behind-within rule h)
  told-prelude rule false h = bare-prelude (keyword_in rule)

  at-rule-within : (at : ℕ) (rule : AtRule) (block : List Component) (inner : List Refusal) → at ≤ end → HasPrelude rule → all_within block ≡ true → AreWithin inner → AreWithin (at_rule_refusals at rule block inner)
  at-rule-within at (rules.Group condition) block inner h prelude within each = each
  at-rule-within at (rules.PassedOn kind prelude) block inner h before within each =
      each-append IsWithin (sought_in RevertLayerOrUrl prelude) (sought_in RevertLayerOrUrl block) (sought-within RevertLayerOrUrl prelude before) (sought-within RevertLayerOrUrl block within)
  at-rule-within at rules.Import block inner h prelude within each = (h, tt)
  at-rule-within at rules.Waiting block inner h prelude within each = (h, tt)
  at-rule-within at rules.Unknown block inner h prelude within each = tt
  at-rule-within at rules.Unread block inner h prelude within each = (h, tt)

  choice-within : (b : Bool) (rs ss : List Refusal) → AreWithin rs → AreWithin ss → AreWithin (if b then rs else ss)
  choice-within true rs ss h k = h
  choice-within false rs ss h k = k

  -- components within the text whose refusals stand within it
  abbrev StandWithin : List Component → Type 0
  StandWithin cs = all_within cs ≡ true → AreWithin (rules_refusals cs)

  mark-block-within : (mark : Option Component) → MatchOption mark (Unit {0}) (λ c. is_within end c ≡ true) → all_within (block_of mark) ≡ true
  mark-block-within None h = refl
  mark-block-within (Some mark) h = inside-within end mark h

  mark-rules-within : (mark : Option Component) → MatchOption mark (Unit {0}) (λ c. StandWithin (inside c)) → MatchOption mark (Unit {0}) (λ c. is_within end c ≡ true) → AreWithin (in_block refusing rules_refusals mark)
  mark-rules-within None each h = tt
  mark-rules-within (Some mark) each h = choice-within (is_braces mark) (rules_refusals (inside mark)) [] (each (inside-within end mark h)) tt

  rule-within : (cut : Cut) → MatchOption cut.mark (Unit {0}) (λ c. StandWithin (inside c)) → IsPart (is_within end) is_braces cut → AreWithin (rule_refusals cut)
  rule-within cut each part =
      let rule = trimmed cut.front in
      let kept = all-trimmed (is_within end) cut.front part.kept in
      let at_rule = at_rule_of rule (ends_in_braces cut.mark) in
      let inner = in_block refusing rules_refusals cut.mark in
      choice-within (begins_at_rule rule) (at_rule_refusals (first_place rule 0) at_rule (block_of cut.mark) inner) (style_refusals cut.front cut.mark)
      (at-rule-within (first_place rule 0) at_rule (block_of cut.mark) inner (start-within rule 0 kept (omega arith)) (told-prelude rule (ends_in_braces cut.mark) kept)
      (mark-block-within cut.mark part.closed) (mark-rules-within cut.mark each part.closed))
      (style-within cut.front cut.mark part.kept part.closed)

  rules-within : (cs : List Cut) → InBlocks StandWithin cs → AllByRecursion (IsPart (is_within end) is_braces) cs → AreWithin (flat_map rule_refusals cs)
  rules-within [] each h = tt
  rules-within (cut ∷ cs) each h = each-append IsWithin (rule_refusals cut) (flat_map rule_refusals cs) (rule-within cut each.0 h.0) (rules-within cs each.1 h.1)

  blocks-within : (cs : List Component) → StandWithin cs
  blocks-within cs =
      by_blocks StandWithin
      (λ cs each h.
      subst AreWithin (sym (rules-refused cs))
      (rules-within (cuts ends_rule cs) each
      (parts-cuts (is_within end) is_braces ends_rule (λ before c s. ap (λ b. b || (is_semicolon c && begins_at_rule (trimmed_start before))) s) [] cs h)))
      cs

  -- The one that is named.

  either-within : (b : Bool) (q r : Refusal) → IsWithin q → IsWithin r → IsWithin (if b then q else r)
  either-within true q r h k = h
  either-within false q r h k = k

  sooner-within : (q r : Refusal) → IsWithin q → IsWithin r → IsWithin (sooner q r)
  sooner-within q r h k = either-within (leads q r) q r h k

  abbrev NamesWithin : Option Refusal → Type 0
  NamesWithin o = MatchOption o (Unit {0}) IsWithin

  sooner_of-within : (r : Refusal) (o : Option Refusal) → IsWithin r → NamesWithin o → NamesWithin (sooner_of (Some r) o)
  sooner_of-within r None h k = h
  sooner_of-within r (Some q) h k = sooner-within r q h k

  first-within : (rs : List Refusal) → AreWithin rs → NamesWithin (first_refusal rs)
  first-within [] h = tt
  first-within (r ∷ rs) h = sooner_of-within r (first_refusal rs) h.0 (first-within rs h.1)

  -- Sheets.

  import-within : (at : ℕ) (rule : ImportRule) → at ≤ end → AreWithin (refused_import at rule)
  import-within at (Read i) h = tt
  import-within at Waiting h = (h, tt)
  import-within at Unread h = (h, tt)

  imports-within : (cs : List Cut) → AllByRecursion (IsPart (is_within end) is_braces) cs → AreWithin (flat_map import_refusals cs)
  imports-within [] h = tt
  imports-within (cut ∷ cs) h =
      let kept = all-trimmed (is_within end) cut.front h.0.kept in
      each-append IsWithin (import_refusals cut) (flat_map import_refusals cs)
      (import-within (first_place (trimmed cut.front) 0) (import_rule_of cut) (start-within (trimmed cut.front) 0 kept (omega arith)))
      (imports-within cs h.1)

  whole-within : (cs : List Component) → all_within cs ≡ true → AreWithin (sheet_refusals cs)
  whole-within cs h =
      let rules = cuts ends_rule cs in
      let parts = parts-cuts (is_within end) is_braces ends_rule (λ before c s. ap (λ b. b || (is_semicolon c && begins_at_rule (trimmed_start before))) s) [] cs h in
      each-append IsWithin (flat_map import_refusals (imports_in rules)) (flat_map rule_refusals (items_in rules))
      (imports-within (imports_in rules) (each-import (IsPart (is_within end) is_braces) rules parts))
      (rules-within (items_in rules) (in-blocks StandWithin blocks-within (items_in rules)) (each-item (IsPart (is_within end) is_braces) rules parts))

pub refusals-within : (cs : List Component) (end : ℕ) → AllByRecursion (λ (p : Piece). p.at ≤ end) (pieces_all cs) → AllByRecursion (λ (r : Refusal). r.at ≤ end) (sheet_refusals cs)
refusals-within cs end h = whole-within end cs (within-all end cs (early-each end (pieces_all cs) h))

pub first_refusal-within : (cs : List Component) (end : ℕ) (r : Refusal) → AllByRecursion (λ (p : Piece). p.at ≤ end) (pieces_all cs) → first_refusal (sheet_refusals cs) ≡ Some r → r.at ≤ end
first_refusal-within cs end r h e = subst (λ o. MatchOption o (Unit {0}) (λ q. q.at ≤ end)) e (first-within end (sheet_refusals cs) (refusals-within cs end h))
