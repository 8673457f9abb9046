-- How selectors and sheets that are written out compute.
use Rattle.std.specs.Prelude.{ℕ, List, ◌++◌, flat_map, ◌≡◌, Option, ◌&&◌}
use Rattle.std.specs.List.{list_all, list_any}
use Rattle.css_tokens.specs.declared.component.Component.TheVariants.{outs-Single}
use Rattle.media_spelling.specs.SupportsFold.{folded-And, folded-Or, folded-Not, folded-Declared, folded-Function}
use Rattle.media_spelling.specs.declared.condition.Bound.{Bound}
use Rattle.media_spelling.specs.declared.condition.Condition as condition
use Rattle.media_spelling.specs.declared.condition.Condition.TheOpen as open_condition
use Rattle.media_spelling.specs.declared.condition.Condition.TheVariants.{outs-And, outs-Or, outs-Not as outs-Negation, outs-Feature, outs-Range}
use Rattle.sheet_types.specs.declared.sheet.GroupCondition.{GroupCondition}
use Rattle.sheet_types.specs.declared.sheet.Item.{Item}
use Rattle.sheet_types.specs.declared.sheet.Item as item
use Rattle.selector_types.specs.declared.selector.Combinator.{Combinator}
use Rattle.selector_types.specs.declared.selector.TypeName.{TypeName}
use Rattle.selector_types.specs.declared.selector.Selector.{Selector}
use Rattle.selector_types.specs.declared.selector.Tail as tail
use Rattle.selector_types.specs.declared.selector.Compound as compound
use Rattle.selector_types.specs.declared.selector.Link as link
use Rattle.selector_types.specs.declared.selector.Part as part
use Rattle.selector_types.specs.declared.selector.Simple.TheVariants.{outs-Class, outs-Id, outs-Attribute, outs-Pseudo, outs-Not, outs-Is, outs-Where, outs-Parent, outs-Local, outs-Global, outs-Foreign}
use Rattle.selector_types.specs.PartsFound.{parts-Class, parts-Id, parts-Attribute, parts-Pseudo, parts-Not, parts-Is, parts-Where, parts-Parent, parts-Local, parts-Global, parts-Foreign, parts-Compound, parts-Selector, within}
use Rattle.selector_types.specs.PartsWithin.{compound_parts, selector_parts}
use Rattle.selector_types.specs.SelectorFold.{compound_of}
use Rattle.target_check.specs.Targets.{declares, has_some, is_old_condition, is_old_item, is_old_selector, is_run}
use Rattle.target_check.proofs.Parts.{fills, old-Plain, old-Style, old-Group, old-Passed, old-Other, runs}

pub made-compound : (kind : TypeName) (ps : List part.Part) (tail : Option tail.Tail) → compound_parts (record { kind = kind; parts = ps; tail = tail }) ≡ flat_map within ps
made-compound kind ps tail = parts-Compound (record { kind = kind; parts = ps; tail = tail })

pub made-selector : (lead : Option Combinator) (first : compound.Compound) (rest : List link.Link) (at : ℕ) → selector_parts (record { lead = lead; first = first; rest = rest; at = at }) ≡ compound_parts first ++ flat_map (λ l. compound_parts (compound_of l)) rest
made-selector lead first rest at = parts-Selector (record { lead = lead; first = first; rest = rest; at = at })

-- how a media condition lies open
pub ruleset conditions = (outs-And, outs-Or, outs-Negation, outs-Feature, outs-Range)

pub out-feature : (name : List ℕ) (value : Option (List ℕ)) → condition.out-Condition (condition.Feature (record { name = name; value = value })) ≡ open_condition.Feature (record { name = name; value = value })
out-feature name value = outs-Feature (record { name = name; value = value })

pub out-range : (name : List ℕ) (first : Bound) (second : Option Bound) → condition.out-Condition (condition.Range (record { name = name; first = first; second = second })) ≡ open_condition.Range (record { name = name; first = first; second = second })
out-range name first second = outs-Range (record { name = name; first = first; second = second })

-- a style rule and a group that are written out
pub old-rule : (selectors : List Selector) (inner : List Item) (at : ℕ)
    → is_old_item (item.Style (record { selectors = selectors; items = inner; at = at })) ≡ (list_all is_old_selector selectors && (list_all is_run inner && list_any declares inner))
old-rule selectors inner at = old-Style (record { selectors = selectors; items = inner; at = at })

pub old-group : (condition : GroupCondition) (inner : List Item) (at : ℕ)
    → is_old_item (item.Group (record { condition = condition; items = inner; at = at })) ≡ (is_old_condition condition && (has_some inner && list_all is_old_item inner))
old-group condition inner at = old-Group (record { condition = condition; items = inner; at = at })

pub ruleset computing = (outs-Single, runs, fills, old-Plain, old-rule, old-group, old-Passed, old-Other, outs-And, outs-Or, outs-Negation, out-feature, out-range, folded-And, folded-Or, folded-Not, folded-Declared, folded-Function, outs-Class, outs-Id, outs-Attribute, outs-Pseudo, outs-Not, outs-Is, outs-Where, outs-Parent, outs-Local, outs-Global, outs-Foreign, parts-Class, parts-Id, parts-Attribute, parts-Pseudo, parts-Not, parts-Is, parts-Where, parts-Parent, parts-Local, parts-Global, parts-Foreign, made-compound, made-selector)
