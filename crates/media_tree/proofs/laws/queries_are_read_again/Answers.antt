use Rattle.std.proofs.Common.{◌∙◌, ap, sym, List}
use Rattle.css_tokens.specs.declared.component.Component.{Component}
use Rattle.media_tree.specs.Queries.{queries_reading}
use Rattle.media_spelling.specs.Spelling.{queries_spelling}
use Rattle.media_tree.proofs.FeaturesAgain.{leaves-again}
use Rattle.media_tree.proofs.QueriesAgain.{queries-again}
use Rattle.media_tree.proofs.QueryPlaces.{reading-bare}
use Rattle.media_tree.proofs.TreePlaces.{same-bare}
use Rattle.media_tree.proofs.laws.queries_are_read_again.Goals as goal

pub returns-clause-formed : goal.returns-clause-formed
returns-clause-formed c = c.spellings_are_formed.ensures.queries

pub returns-clause-same : goal.returns-clause-same
returns-clause-same c = λ qs cs r formed words.
    sym (reading-bare cs)
    ∙ ap (λ (ds : List Component). queries_reading ds) (same-bare c.one_pairing.ensures cs (queries_spelling qs) words formed (c.spellings_are_formed.ensures.queries qs))
    ∙ reading-bare (queries_spelling qs)
    ∙ queries-again c.names_spell.ensures.again (leaves-again c.names_spell.ensures.again) qs r
