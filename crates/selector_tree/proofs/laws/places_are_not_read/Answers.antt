use Rattle.std.proofs.Common.{List, sym, ◌∙◌, ap}
use Rattle.css_tokens.specs.declared.component.Component.{Component}
use Rattle.selector_tree.specs.Signs.{list_reading, read}
use Rattle.selector_tree.proofs.MarkPlaces.{reading-bare}
use Rattle.selector_types.proofs.TreePlaces.{same-bare}
use Rattle.selector_tree.proofs.laws.places_are_not_read.Goals as goal

pub returns : goal.returns
returns c = λ nested a b end stop words formed_a formed_b.
    sym (reading-bare nested a end 0)
    ∙ ap (λ (cs : List Component). read (list_reading nested cs 0)) (same-bare c.one_pairing.ensures a b words formed_a formed_b)
    ∙ reading-bare nested b stop 0
