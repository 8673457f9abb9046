use Rattle.std.proofs.Common.{◌∙◌, ap, sym, List}
use Rattle.css_tokens.specs.declared.component.Component.{Component}
use Rattle.media_tree.specs.Queries.{queries_reading}
use Rattle.media_tree.proofs.QueryPlaces.{reading-bare}
use Rattle.media_tree.proofs.TreePlaces.{same-bare}
use Rattle.media_tree.proofs.laws.places_of_queries_are_not_read.Goals as goal

pub returns : goal.returns
returns c = λ a b words formed_a formed_b.
    sym (reading-bare a) ∙ ap (λ (cs : List Component). queries_reading cs) (same-bare c.one_pairing.ensures a b words formed_a formed_b) ∙ reading-bare b
