use Rattle.css_rules.proofs.SheetsRead.{sheet-read, sheet-refused}
use Rattle.css_rules.proofs.reading_law.sheets_have_readings_or_refusals.Goals as goal

pub returns : goal.returns
returns c = record { read = sheet-read; refused = sheet-refused }
