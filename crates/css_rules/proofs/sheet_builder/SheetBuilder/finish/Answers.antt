use Rattle.std.proofs.Common.{◌∙◌, sym}
use Rattle.css_rules.specs.Sheets.{sheet_refusals}
use Rattle.css_rules.proofs.NamedFaults.{fault-least, fault-named}
use Rattle.css_rules.proofs.RefusalLemmas.{first_refusal-none}
use Rattle.css_rules.proofs.SheetBuilderLemmas.{taken-read}
use Rattle.css_rules.proofs.sheet_builder.SheetBuilder.finish.Goals as goal

pub returns-in-None-clause-found : goal.returns-in-None-clause-found
returns-in-None-clause-found c = λ taken has.
    let read = taken-read c.args.self c.end_rule.new.self taken c.in_ok-end_rule.ensures.read has in
    read.sheet c.in-None.is

pub returns-in-None-clause-faultless : goal.returns-in-None-clause-faultless
returns-in-None-clause-faultless c = λ taken has.
    let read = taken-read c.args.self c.end_rule.new.self taken c.in_ok-end_rule.ensures.read has in
    first_refusal-none (sheet_refusals taken) (sym read.refusal ∙ c.in-None.is)

pub returns-clause-fault : goal.returns-clause-fault
returns-clause-fault c = λ taken has.
    let read = taken-read c.args.self c.end_rule.new.self taken c.in_ok-end_rule.ensures.read has in
    fault-named (sheet_refusals taken) c.in-Some.refusal _ c.fault_of.ensures (sym read.refusal ∙ c.in-Some.is)

pub returns-clause-least : goal.returns-clause-least
returns-clause-least c = λ taken has.
    let read = taken-read c.args.self c.end_rule.new.self taken c.in_ok-end_rule.ensures.read has in
    let refusals = sheet_refusals taken in
    let law = c.the_first_refusal_is_named.ensures in
    let r = c.in-Some.refusal in
    let is = sym read.refusal ∙ c.in-Some.is in
    fault-least refusals r _ c.fault_of.ensures (law.stands refusals r is, law.first refusals r is)
