use Rattle.findings.proofs.Whole.{sheet-importless, sheet-whole}
use Rattle.findings.proofs.whole_law.clean_sheets_are_whole.Goals as goal

pub returns : goal.returns
returns c = record { importless = sheet-importless; whole = sheet-whole }
