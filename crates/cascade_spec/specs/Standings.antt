-- What the surroundings of a declaration are in a world.
use Rattle.std.specs.Prelude.{Bool}
use Rattle.sheet_types.specs.Contexts.{LayerPath, Context}
use Rattle.cascade_spec.specs.Worlds.{World}
use Rattle.cascade_spec.specs.Surroundings.{Around, around_all}
use Rattle.cascade_spec.specs.Truth.{all_hold}

-- whether the conditions of all groups hold, the layer, and what the selector lists are for a declaration in them
pub record Standing : Type 0 where
  pub holds : Bool
  pub layer : LayerPath
  pub around : Around

-- what a context is in a world; nothing else of it is looked at
abbrev pub standing_of : World → Context → Standing
standing_of world c = record { holds = all_hold world.environment c.conditions; layer = c.layer; around = around_all world c.chain }
