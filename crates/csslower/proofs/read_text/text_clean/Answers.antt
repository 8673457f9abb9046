use Rattle.std.proofs.Common.{Some, ◌∙◌, ap}
use Rattle.csslower.proofs.CheckFaults.{checked-finding, checked-limit}
use Rattle.csslower.proofs.read_text.text_clean.Goals as goal

pub returns-in-Err-Finding-clause-refused : goal.returns-in-Err-Finding-clause-refused
returns-in-Err-Finding-clause-refused c =
    checked-finding c.args.text.now c.args.sheet.now c.in-Err-Finding.finding c.requires.spelled (c.in-Err-Finding.ensures.fault ∙ ap (λ fault. Some fault) c.in-Err-Finding.field-0-is)

pub returns-in-Err-Limit-clause-refused : goal.returns-in-Err-Limit-clause-refused
returns-in-Err-Limit-clause-refused c =
    checked-limit c.the_first_finding_is_named.ensures.some c.args.text.now c.args.sheet.now c.in-Err-Limit.kind c.requires.spelled (c.in-Err-Limit.ensures.fault ∙ ap (λ fault. Some fault) c.in-Err-Limit.field-0-is)
