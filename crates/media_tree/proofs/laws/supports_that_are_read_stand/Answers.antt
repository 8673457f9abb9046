use Rattle.media_tree.proofs.SupportsStand.{StandLaws, inside-stands, supports-stand}
use Rattle.media_tree.proofs.laws.supports_that_are_read_stand.Goals as goal

abbrev laws : goal.After-values_again → StandLaws
laws c =
    let again = c.values_again.ensures in
    record { splits = record { front = again.front; back = again.back }; stops = again.stops }

pub returns-clause-reading : goal.returns-clause-reading
returns-clause-reading c = supports-stand (laws c)

pub returns-clause-inside : goal.returns-clause-inside
returns-clause-inside c = inside-stands (laws c)
