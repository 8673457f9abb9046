use Rattle.std.proofs.Common.{◌∙◌, ap, sym, List}
use Rattle.std.specs.Option.{option_map}
use Rattle.css_tokens.specs.declared.component.Component.{Component}
use Rattle.media_spelling.specs.Places.{bare_supports}
use Rattle.media_tree.specs.SupportsReading.{supports_inside, supports_reading}
use Rattle.media_tree.proofs.SupportsPlaces.{inside-bare, reading-bare}
use Rattle.media_tree.proofs.TreePlaces.{same-bare}
use Rattle.media_tree.proofs.laws.places_of_supports_are_not_read.Goals as goal

pub returns-clause-reading : goal.returns-clause-reading
returns-clause-reading c = λ a b words formed_a formed_b.
    sym (reading-bare a)
    ∙ ap (λ (cs : List Component). option_map bare_supports (supports_reading cs)) (same-bare c.one_pairing.ensures a b words formed_a formed_b)
    ∙ reading-bare b

pub returns-clause-inside : goal.returns-clause-inside
returns-clause-inside c = λ a b words formed_a formed_b.
    sym (inside-bare a)
    ∙ ap (λ (cs : List Component). option_map bare_supports (supports_inside cs)) (same-bare c.one_pairing.ensures a b words formed_a formed_b)
    ∙ inside-bare b
