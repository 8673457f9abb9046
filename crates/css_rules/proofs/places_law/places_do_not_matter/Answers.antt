use Rattle.std.proofs.Common.{false}
use Rattle.css_rules.proofs.Places.{ListPlaces, sheet-places}
use Rattle.css_rules.proofs.places_law.places_do_not_matter.Goals as goal

pub returns : goal.returns
returns c =
    let lists : ListPlaces = λ a b words formed_a formed_b. c.places_are_not_read.ensures false a b 0 0 words formed_a formed_b in
    sheet-places c.one_pairing.ensures (record { lists = lists; conditions = record { queries = c.places_of_queries_are_not_read.ensures; supports = c.places_of_supports_are_not_read.ensures.reading }; imports = c.places_of_imports_are_not_read.ensures })
