-- How items that are written out compute.
use Rattle.std.proofs.Common.{◌≡◌, ℕ, List, map}
use Rattle.media_spelling.specs.SupportsFold.{folded-And, folded-Or, folded-Not, folded-Declared, folded-Function}
use Rattle.media_spelling.proofs.Computing.{computing as media_computing}
use Rattle.selector_types.proofs.Computing.{computing as selector_computing}
use Rattle.selector_types.specs.declared.selector.Selector.{Selector}
use Rattle.sheet_types.specs.Conditions.{bare_condition}
use Rattle.sheet_types.specs.Contexts.{Context, under_condition}
use Rattle.sheet_types.specs.Erased.{erased-Single}
use Rattle.sheet_types.specs.Statements.{say_all, says, says-Plain, says-Group, says-Passed, says-Other}
use Rattle.sheet_types.specs.ItemFold.{Steps, folded, folded-Plain, folded-Style, folded-Group, folded-Passed, folded-Other}
use Rattle.sheet_types.specs.declared.sheet.Declaration.{Declaration}
use Rattle.sheet_types.specs.declared.sheet.GroupCondition.{GroupCondition}
use Rattle.sheet_types.specs.declared.sheet.Item.{Item}
use Rattle.sheet_types.specs.declared.sheet.Item as item
use Rattle.sheet_types.specs.declared.sheet.Passed.{Passed}

-- what is made of items that are written out
pub made-plain : {A : Type 0} (steps : Steps A) (ds : List Declaration) → folded steps (item.Plain ds) ≡ steps.plain ds
made-plain steps ds = folded-Plain steps ds

pub made-rule : {A : Type 0} (steps : Steps A) (selectors : List Selector) (inner : List Item) (at : ℕ)
    → folded steps (item.Style (record { selectors = selectors; items = inner; at = at })) ≡ steps.style selectors at (map (folded steps) inner)
made-rule steps selectors inner at = folded-Style steps (record { selectors = selectors; items = inner; at = at })

pub made-group : {A : Type 0} (steps : Steps A) (condition : GroupCondition) (inner : List Item) (at : ℕ)
    → folded steps (item.Group (record { condition = condition; items = inner; at = at })) ≡ steps.group condition at (map (folded steps) inner)
made-group steps condition inner at = folded-Group steps (record { condition = condition; items = inner; at = at })

pub made-passed : {A : Type 0} (steps : Steps A) (rule : Passed) → folded steps (item.Passed rule) ≡ steps.passed rule
made-passed steps rule = folded-Passed steps rule

pub made-other : {A : Type 0} (steps : Steps A) (at : ℕ) → folded steps (item.Other at) ≡ steps.other at
made-other steps at = folded-Other steps at

-- what a group that is written out says
pub group-says : (condition : GroupCondition) (inner : List Item) (at : ℕ) (c : Context)
    → says (item.Group (record { condition = condition; items = inner; at = at })) c ≡ say_all inner (under_condition (bare_condition condition) c)
group-says condition inner at c = says-Group (record { condition = condition; items = inner; at = at }) c

-- the equations by which the worked examples compute
pub ruleset computing = (selector_computing, media_computing, made-plain, made-rule, made-group, made-passed, made-other, says-Plain, group-says, says-Passed, says-Other, erased-Single, folded-And, folded-Or, folded-Not, folded-Declared, folded-Function)
