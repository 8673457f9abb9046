-- What the least pass is proved by.
use Rattle.cascade_spec.specs.Passes.{given-each}

pub ruleset given = (given-each)
