-- Sheets (CSS Syntax 3, sections 5.4 and 9; Conditional Rules 3, section 2), and the places of what they are refused for.
use Rattle.std.specs.Prelude.{ℕ, List, [], ◌∷◌, ◌++◌, ◌≡◌, IsTrue, Bool, false, ◌&&◌, ◌||◌, not, Option, Some, None, Result, Ok, Err, if◌then◌else◌, flat_map, map}
use Rattle.std.specs.List.{AllByRecursion, Contains}
use Rattle.std.specs.Option.{option_map}
use Rattle.css_tokens.specs.declared.component.Component.{Component}
use Rattle.css_rules.specs.declared.refusal.Refusal.{Refusal}
use Rattle.selector_types.specs.declared.selector.Selector.{Selector}
use Rattle.selector_tree.specs.Signs.{list_in, list_reading, mark_of}
use Rattle.sheet_types.specs.declared.sheet.Declaration.{Declaration}
use Rattle.sheet_types.specs.Runs.{run_of}
use Rattle.sheet_types.specs.declared.sheet.Import.{Import}
use Rattle.sheet_types.specs.declared.sheet.Item.{Item, Style, Group, Passed, Other}
use Rattle.sheet_types.specs.declared.sheet.Sheet.{Sheet}
use Rattle.css_rules.specs.declared.reader.RuleFault.{RuleFault}
use Rattle.css_rules.specs.declared.reader.RuleFault.TheVariants as faults
use Rattle.css_components.specs.Components.{place_of, inside}
use Rattle.css_components.specs.Trimming.{trimmed}
use Rattle.css_rules.specs.Cuts.{Cut, cuts}
use Rattle.css_rules.specs.Declarations.{declaration_of}
use Rattle.css_rules.specs.declared.at_rule.AtRule.{AtRule}
use Rattle.css_rules.specs.declared.at_rule.AtRule.TheVariants as rules
use Rattle.css_rules.specs.declared.refusal.Sought.TheVariants.{RevertLayerOrUrl}
use Rattle.css_rules.specs.AtRules.{at_rule_of}
use Rattle.css_rules.specs.Heads.{import_of, import_refusals, imports_in, items_in}
use Rattle.css_rules.specs.NestedRules.{Making, in_block, made}
use Rattle.css_rules.specs.Places.{first_place}
use Rattle.css_rules.specs.ReadAll.{read_all}
use Rattle.css_rules.specs.RuleEnds.{begins_at_rule, block_of, ends_in_braces, ends_item, ends_rule}
use Rattle.css_rules.specs.Refusals.{syntax, late_import, unbuilt, leads, has_sought, has_waiting, sought_for, sought_in, waiting_in, is_unbuilt_property}

-- Blocks.

-- Does a later stage rewrite its property, or a token of its value?
abbrev pub is_unbuilt : Declaration → Bool
is_unbuilt d = is_unbuilt_property d.name || has_sought (sought_for d.name) d.value

-- the declaration, where no later stage rewrites it
abbrev pub built : Option Declaration → Option (List Declaration)
built None = None
built (Some d) = if is_unbuilt d then None else Some (d ∷ [])

-- An item that is no rule is a declaration, or nothing.
abbrev pub plain_item : List Component → Option (List Declaration)
plain_item [] = Some []
plain_item (c ∷ cs) = built (declaration_of (c ∷ cs))

-- Is an item a rule? An at-rule begins with its at-keyword, and a nested rule ends with its `{}` block.
abbrev pub is_rule : Cut → Bool
is_rule cut = begins_at_rule (trimmed cut.front) || ends_in_braces cut.mark

-- An item of a style rule's block. A rule in it has no reading yet.
abbrev pub item_of : Cut → Option (List Declaration)
item_of cut = if is_rule cut then None else plain_item (trimmed cut.front)

-- the declarations of a block, where each item has a reading
abbrev pub declarations_of : List Component → Option (List Declaration)
declarations_of block = read_all item_of (cuts ends_item block)

-- Rules.

-- A prelude is a selector list, in which no selector begins with a combinator. With an `&` or `:is(` in it, at any depth, it has no reading yet.
abbrev pub prelude_of : List Component → Option (List Selector)
prelude_of prelude = if has_waiting prelude then None else list_in (map mark_of prelude)

-- the style rule at this place of these selectors and these declarations, where there are both
abbrev pub style_with : ℕ → Option (List Selector) → Option (List Declaration) → Option (List Item)
style_with at None declarations = None
style_with at (Some selectors) None = None
style_with at (Some selectors) (Some declarations) = Some (Style (record { selectors = selectors; items = run_of declarations; at = at }) ∷ [])

-- What no block follows is no rule, but for nothing at all.
abbrev pub leftover : List Component → Option (List Item)
leftover [] = Some []
leftover (c ∷ cs) = None

-- A style rule is a prelude and a `{}` block.
abbrev pub style_of : List Component → Option Component → Option (List Item)
style_of prelude None = leftover (trimmed prelude)
style_of prelude (Some block) = style_with (first_place (trimmed prelude) (place_of block)) (prelude_of prelude) (declarations_of (inside block))

-- The items of an at-rule at this place, of this block, in which rules are read as these items. A group has them. A rule that is passed on has no reading yet with a Url or `revert-layer` in it, and none has an import, which stands here too late, or what waits for a later stage.
abbrev pub at_rule_items : ℕ → AtRule → List Component → Option (List Item) → Option (List Item)
at_rule_items at (rules.Group condition) block inner = option_map (λ items. Group (record { condition = condition; items = items; at = at }) ∷ []) inner
at_rule_items at (rules.PassedOn kind prelude) block inner =
    if has_sought RevertLayerOrUrl prelude || has_sought RevertLayerOrUrl block then None
    else Some (Passed (record { kind = kind; prelude = prelude; block = block; at = at }) ∷ [])
at_rule_items at rules.Import block inner = None
at_rule_items at rules.Waiting block inner = None
at_rule_items at rules.Unknown block inner = Some (Other at ∷ [])
at_rule_items at rules.Unread block inner = None

-- the items of a rule, where the rules in its block are read as these items
abbrev pub rule_with : Cut → Option (List Item) → Option (List Item)
rule_with cut inner =
    if begins_at_rule (trimmed cut.front)
    then at_rule_items (first_place (trimmed cut.front) 0) (at_rule_of (trimmed cut.front) (ends_in_braces cut.mark)) (block_of cut.mark) inner
    else style_of cut.front cut.mark

-- rules one after another, where each has a reading
abbrev pub reading : Making (Option (List Item))
reading = record { of_rule = rule_with; of_all = read_all (λ items. items) }

-- the items of rules
abbrev pub rules_of : List Component → Option (List Item)
rules_of cs = made reading cs

-- the items of a rule
abbrev pub rule_of : Cut → Option (List Item)
rule_of cut = rule_with cut (in_block reading rules_of cut.mark)

-- the sheet of these imports and these items, where there are both
abbrev pub sheet_with : Option (List Import) → Option (List Item) → Option Sheet
sheet_with None items = None
sheet_with (Some imports) None = None
sheet_with (Some imports) (Some items) = Some (record { imports = imports; items = items })

-- the sheet that the components spell, if they spell one
abbrev pub sheet_of : List Component → Option Sheet
sheet_of cs = sheet_with (read_all import_of (imports_in (cuts ends_rule cs))) (read_all rule_of (items_in (cuts ends_rule cs)))

-- Refusals.

-- What a declaration is refused for: that it cannot be read, or that its property or a token of its value waits for a later stage.
abbrev pub declaration_refusals : ℕ → Option Declaration → List Refusal
declaration_refusals at None = syntax at ∷ []
declaration_refusals at (Some d) = (if is_unbuilt_property d.name then unbuilt at ∷ [] else []) ++ sought_in (sought_for d.name) d.value

-- what an item that is no rule is refused for
abbrev pub plain_refusals : List Component → List Refusal
plain_refusals [] = []
plain_refusals (c ∷ cs) = declaration_refusals (place_of c) (declaration_of (c ∷ cs))

-- the place of the mark, or 0 where the list ends
abbrev pub mark_place : Option Component → ℕ
mark_place None = 0
mark_place (Some mark) = place_of mark

-- What an item of a style rule's block is refused for. A rule in it waits for a later stage, at its first component.
abbrev pub item_refusals : Cut → List Refusal
item_refusals cut = if is_rule cut then unbuilt (first_place (trimmed cut.front) (mark_place cut.mark)) ∷ [] else plain_refusals (trimmed cut.front)

-- what the items of a style rule's block are refused for
abbrev pub block_refusals : List Component → List Refusal
block_refusals block = flat_map item_refusals (cuts ends_item block)

-- the refusal at the place where a selector list cannot be read
abbrev pub unread : Result (List Selector) ℕ → List Refusal
unread (Ok list) = []
unread (Err at) = syntax at ∷ []

-- what a prelude is refused for: the first `&` or `:is(` in it, at any depth, and its first selector that cannot be read
abbrev pub prelude_refusals : List Component → ℕ → List Refusal
prelude_refusals prelude end = waiting_in prelude ++ unread (list_reading false prelude end)

-- what stands behind the last `{}` block is refused for: it is no rule, unless it is white space and comments alone
abbrev pub leftover_refusals : List Component → List Refusal
leftover_refusals [] = []
leftover_refusals (c ∷ cs) = syntax (place_of c) ∷ []

-- what a rule that is no at-rule is refused for: its prelude and its block, or that no block follows
abbrev pub style_refusals : List Component → Option Component → List Refusal
style_refusals prelude None = leftover_refusals (trimmed prelude)
style_refusals prelude (Some block) = prelude_refusals prelude (place_of block) ++ block_refusals (inside block)

-- What an at-rule at this place is refused for, of this block, in which the rules are refused for these: a group for what stands in it, a rule that is passed on for a Url or `revert-layer` in it, any other where it is an import, waits for a later stage or cannot be read.
abbrev pub at_rule_refusals : ℕ → AtRule → List Component → List Refusal → List Refusal
at_rule_refusals at (rules.Group condition) block inner = inner
at_rule_refusals at (rules.PassedOn kind prelude) block inner = sought_in RevertLayerOrUrl prelude ++ sought_in RevertLayerOrUrl block
at_rule_refusals at rules.Import block inner = late_import at ∷ []
at_rule_refusals at rules.Waiting block inner = unbuilt at ∷ []
at_rule_refusals at rules.Unknown block inner = []
at_rule_refusals at rules.Unread block inner = syntax at ∷ []

-- what a rule is refused for, where the rules in its block are refused for these
abbrev pub refusals_with : Cut → List Refusal → List Refusal
refusals_with cut inner =
    if begins_at_rule (trimmed cut.front)
    then at_rule_refusals (first_place (trimmed cut.front) 0) (at_rule_of (trimmed cut.front) (ends_in_braces cut.mark)) (block_of cut.mark) inner
    else style_refusals cut.front cut.mark

-- rules one after another, with all that they are refused for
abbrev pub refusing : Making (List Refusal)
refusing = record { of_rule = refusals_with; of_all = flat_map (λ refusals. refusals) }

-- what rules are refused for
abbrev pub rules_refusals : List Component → List Refusal
rules_refusals cs = made refusing cs

-- what a rule is refused for
abbrev pub rule_refusals : Cut → List Refusal
rule_refusals cut = refusals_with cut (in_block refusing rules_refusals cut.mark)

-- what rules at the top of a sheet are refused for, in its imports and in its items
abbrev pub cut_refusals : List Cut → List Refusal
cut_refusals rules = flat_map import_refusals (imports_in rules) ++ flat_map rule_refusals (items_in rules)

-- what a sheet is refused for
abbrev pub sheet_refusals : List Component → List Refusal
sheet_refusals cs = cut_refusals (cuts ends_rule cs)

-- a fault names this refusal, unless memory ran out
abbrev pub IsNamed : RuleFault → Option Refusal → Type 0
IsNamed (faults.Syntax at) refusal = refusal ≡ Some (syntax at)
IsNamed (faults.Unbuilt at) refusal = refusal ≡ Some (unbuilt at)
IsNamed (faults.LateImport at) refusal = refusal ≡ Some (late_import at)
IsNamed faults.Memory refusal = Unit {0}

-- the refusal is one of these, and none of them stands before it, nor at its place for a cause that is named rather
abbrev pub IsFirst : Refusal → List Refusal → Type 0
IsFirst refusal refusals = Contains refusals refusal × AllByRecursion (λ other. IsTrue (leads refusal other)) refusals

-- a fault names the first of these refusals, unless memory ran out
abbrev pub IsLeast : RuleFault → List Refusal → Type 0
IsLeast (faults.Syntax at) refusals = IsFirst (syntax at) refusals
IsLeast (faults.Unbuilt at) refusals = IsFirst (unbuilt at) refusals
IsLeast (faults.LateImport at) refusals = IsFirst (late_import at) refusals
IsLeast faults.Memory refusals = Unit {0}
