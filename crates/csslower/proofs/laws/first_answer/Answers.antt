use Rattle.csslower.proofs.FirstAnswers.{AnswerLaws, has_first}
use Rattle.csslower.proofs.laws.first_answer.Goals as goal

pub returns : goal.returns
returns c =
    let laws : AnswerLaws = record { read = c.some_reading.ensures; paired = c.some_pairing.ensures.either; components = c.some_pairing.ensures.components; readable = c.sheets_have_readings_or_refusals.ensures.refused; named = c.the_first_finding_is_named.ensures.some; one = c.one_finding.ensures.one; either = c.one_finding.ensures.either; within = c.one_finding.ensures.within; accepted = c.one_finding.ensures.accepted } in
    has_first laws
