use Rattle.std.proofs.Common.{◌∙◌, ap, sym}
use Rattle.selector_tree.specs.Signs.{list_reading, read}
use Rattle.selector_types.specs.Spelling.{list_spelling}
use Rattle.selector_tree.proofs.ListAgain.{list-again}
use Rattle.selector_tree.proofs.MarkPlaces.{reading-bare}
use Rattle.selector_tree.proofs.MarksReadable.{reading-readable}
use Rattle.css_tokens.specs.NameText.{name_text}
use Rattle.selector_types.proofs.SpellingHolds.{list-formed, list-bare}
use Rattle.selector_tree.proofs.StepAgain.{step-again}
use Rattle.selector_types.proofs.TreePlaces.{same-bare}
use Rattle.selector_tree.proofs.laws.selectors_are_read_again.Goals as goal

pub returns-clause-formed : goal.returns-clause-formed
returns-clause-formed c = list-formed

pub returns-clause-same : goal.returns-clause-same
returns-clause-same c nested ss cs end readable formed words =
    sym (reading-bare nested cs end 0)
    ∙ ap (λ ds. read (list_reading nested ds 0)) (same-bare c.one_pairing.ensures cs (list_spelling ss) words formed (list-formed ss) ∙ list-bare ss)
    ∙ list-again (record { ident = c.names_spell.ensures.again; hash = c.names_spell.ensures.hash_again; starts = λ n h. sym (c.ids_spell.ensures (name_text n) (c.names_spell.ensures.hash n h)) ∙ c.names_spell.ensures.ident n h; string = c.strings_spell.ensures.again; step = step-again }) nested ss 0 readable

pub returns-clause-readable : goal.returns-clause-readable
returns-clause-readable c = reading-readable (record { ident = c.names_spell.ensures.again; stays = c.names_stay.ensures.ident; function = c.words_again.ensures.function })
