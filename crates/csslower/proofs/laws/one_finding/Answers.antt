use Rattle.csslower.proofs.OneFinding.{ReadingLaws, finding_one, finding_none, finding_within, limit_none}
use Rattle.csslower.proofs.laws.one_finding.Goals as goal

pub returns : goal.returns
returns c =
    let reading = c.one_reading.ensures in
    let brackets = c.one_bracket_fault.ensures in
    let laws : ReadingLaws = record {
      one = reading.one;
      place = reading.place;
      either = reading.either;
      brackets = brackets.one;
      paired = brackets.either;
      pairing = c.one_pairing.ensures;
      unrefused = c.sheets_have_readings_or_refusals.ensures.read;
    } in
    record {
      one = finding_one laws;
      either = finding_none laws;
      within = finding_within laws;
      accepted = limit_none laws;
    }
