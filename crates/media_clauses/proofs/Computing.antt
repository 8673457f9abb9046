-- How conditions that are written out compute.
use Rattle.std.proofs.Common.{◌≡◌, ℕ, List}
use Rattle.std.specs.Prelude.{Option}
use Rattle.media_spelling.specs.declared.condition.Bound.{Bound}
use Rattle.media_spelling.specs.declared.condition.Condition.{out-Condition}
use Rattle.media_spelling.specs.declared.condition.Condition as condition
use Rattle.media_spelling.specs.declared.condition.Condition.TheOpen as open_condition
use Rattle.media_spelling.specs.declared.condition.Condition.TheVariants.{outs-And, outs-Or, outs-Not, outs-Feature, outs-Range}
use Rattle.media_spelling.specs.ConditionFold.{Steps, folded, folded-And, folded-Or, folded-Not, folded-Feature, folded-Range}

-- a feature and a range
pub made-feature : {A : Type 0} (steps : Steps A) (name : List ℕ) (value : Option (List ℕ))
    → folded steps (condition.Feature (record { name = name; value = value })) ≡ steps.feature (record { name = name; value = value })
made-feature steps name value = folded-Feature steps (record { name = name; value = value })

pub made-range : {A : Type 0} (steps : Steps A) (name : List ℕ) (first : Bound) (second : Option Bound)
    → folded steps (condition.Range (record { name = name; first = first; second = second })) ≡ steps.range (record { name = name; first = first; second = second })
made-range steps name first second = folded-Range steps (record { name = name; first = first; second = second })

pub out-feature : (name : List ℕ) (value : Option (List ℕ))
    → out-Condition (condition.Feature (record { name = name; value = value })) ≡ open_condition.Feature (record { name = name; value = value })
out-feature name value = outs-Feature (record { name = name; value = value })

pub out-range : (name : List ℕ) (first : Bound) (second : Option Bound)
    → out-Condition (condition.Range (record { name = name; first = first; second = second })) ≡ open_condition.Range (record { name = name; first = first; second = second })
out-range name first second = outs-Range (record { name = name; first = first; second = second })

-- the equations by which the worked examples compute
pub ruleset computing = (folded-And, folded-Or, folded-Not, made-feature, made-range, outs-And, outs-Or, outs-Not, out-feature, out-range)
