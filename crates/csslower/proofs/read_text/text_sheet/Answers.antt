use Rattle.std.proofs.Common.{subst}
use Rattle.csslower.proofs.TextFaults.{syntax_finding, depth_finding, unbuilt_finding, late_finding}
use Rattle.sheet_reader.specs.Texts.{IsFirstFault}
use Rattle.csslower.proofs.read_text.text_sheet.Goals as goal

pub returns-in-Err-Syntax-clause-refused : goal.returns-in-Err-Syntax-clause-refused
returns-in-Err-Syntax-clause-refused c =
    syntax_finding c.args.text.now c.in-Err-Syntax.offset (subst (IsFirstFault c.args.text.now) c.in-Err-Syntax.field-0-is c.in-Err-Syntax.ensures.fault)

pub returns-in-Err-Depth-clause-refused : goal.returns-in-Err-Depth-clause-refused
returns-in-Err-Depth-clause-refused c =
    depth_finding c.args.text.now c.in-Err-Depth.offset (subst (IsFirstFault c.args.text.now) c.in-Err-Depth.field-0-is c.in-Err-Depth.ensures.fault)

pub returns-in-Err-Unbuilt-clause-refused : goal.returns-in-Err-Unbuilt-clause-refused
returns-in-Err-Unbuilt-clause-refused c =
    unbuilt_finding c.args.text.now c.in-Err-Unbuilt.offset (subst (IsFirstFault c.args.text.now) c.in-Err-Unbuilt.field-0-is c.in-Err-Unbuilt.ensures.fault)

pub returns-in-Err-LateImport-clause-refused : goal.returns-in-Err-LateImport-clause-refused
returns-in-Err-LateImport-clause-refused c =
    late_finding c.args.text.now c.in-Err-LateImport.offset (subst (IsFirstFault c.args.text.now) c.in-Err-LateImport.field-0-is c.in-Err-LateImport.ensures.fault)
