use Rattle.selector_types.proofs.PreludeWords.{list-begins, list-ends, list-stands, list-unspaced}
use Rattle.selector_types.proofs.laws.selectors_stand_in_a_prelude.Goals as goal

pub returns : goal.returns
returns c =
    let white = c.names_stay.ensures.white in
    record { words = list-stands; begins = list-begins white; ends = list-ends white; text = list-unspaced white }
