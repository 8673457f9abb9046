use Rattle.std.proofs.Common.{List, ℕ, [], Option, IfSome, map, sym, subst}
use Rattle.std.specs.Option.{unwrap_or}
use Rattle.css_outside.specs.Counts.{Rose}
use Rattle.css_outside.specs.Names.{Told}
use Rattle.csslower.specs.Answers.{LimitFits, RefusalFits, WritingFits}
use Rattle.csslower.specs.Leaving.{WinnersFit, AsksFor}
use Rattle.csslower.specs.Saying.{Said}
use Rattle.csslower.specs.Writing.{standard}
use Rattle.csslower.proofs.FirstAnswers.{FirstOfEntry}
use Rattle.csslower.proofs.Usages.{usage_none, usage_some}
use Rattle.csslower.proofs.run.run.Goals as goal

pub returns-in-Some-clause-usage : goal.returns-in-Some-clause-usage
returns-in-Some-clause-usage g c = usage_some (map (λ word. word.now) c.args.words.now) c.in-Some.path.now c.run_entry.result (sym c.in-Some.ensures) c.run_entry.ensures.command

pub returns-in-Some-clause-winners : goal.returns-in-Some-clause-winners
returns-in-Some-clause-winners g c =
    subst (λ (entry : Option (List ℕ)). IfSome (g.F.Files.told c.args.files.now) (λ sources. WinnersFit standard (unwrap_or entry []) sources (g.O.Outbox.held c.args.out.now) (g.O.Outbox.held c.run_entry.new.out) c.run_entry.result)) c.in-Some.ensures c.run_entry.ensures.winners

pub returns-in-Some-clause-limit : goal.returns-in-Some-clause-limit
returns-in-Some-clause-limit g c =
    subst (λ (entry : Option (List ℕ)). IfSome (g.F.Files.told c.args.files.now) (λ sources. LimitFits (unwrap_or entry []) sources c.run_entry.result)) c.in-Some.ensures c.run_entry.ensures.limit

pub returns-in-Some-clause-refused : goal.returns-in-Some-clause-refused
returns-in-Some-clause-refused g c =
    subst (λ (entry : Option (List ℕ)). IfSome (g.F.Files.told c.args.files.now) (λ sources. RefusalFits (unwrap_or entry []) sources c.run_entry.result)) c.in-Some.ensures c.run_entry.ensures.refused

pub returns-in-Some-clause-accepted : goal.returns-in-Some-clause-accepted
returns-in-Some-clause-accepted g c =
    subst (λ (entry : Option (List ℕ)). IfSome (g.F.Files.told c.args.files.now) (λ sources. WritingFits (unwrap_or entry []) sources c.run_entry.result)) c.in-Some.ensures c.run_entry.ensures.accepted

pub returns-in-Some-clause-exactly : goal.returns-in-Some-clause-exactly
returns-in-Some-clause-exactly g c = λ reads writes memory.
    subst (λ (entry : Option (List ℕ)). IfSome (g.F.Files.told c.args.files.now) (λ sources. FirstOfEntry entry sources c.run_entry.result)) c.in-Some.ensures (c.run_entry.ensures.exactly reads writes memory)

pub returns-in-Some-clause-one_answer : goal.returns-in-Some-clause-one_answer
returns-in-Some-clause-one_answer g c = c.first_answer.ensures (map (λ word. word.now) c.args.words.now)

pub returns-in-Some-clause-asked : goal.returns-in-Some-clause-asked
returns-in-Some-clause-asked g c =
    subst (λ (entry : Option (List ℕ)). IfSome (g.F.Files.told c.args.files.now) (λ told. AsksFor (unwrap_or entry []) (g.F.Files.asked c.args.files.now) (g.F.Files.asked c.run_entry.new.files) c.run_entry.result)) c.in-Some.ensures c.run_entry.ensures.asked

pub returns-in-Some-clause-said : goal.returns-in-Some-clause-said
returns-in-Some-clause-said g c =
    let failed : Type 0 = Rose (g.O.Outbox.message_faults c.args.out.now) (g.O.Outbox.message_faults c.run_entry.new.out) in
    subst (λ (entry : Option (List ℕ)). Told (g.O.Outbox.held c.args.out.now) (g.O.Outbox.held c.run_entry.new.out) (Said standard (unwrap_or entry []) (g.F.Files.told c.args.files.now) failed c.run_entry.result)) c.in-Some.ensures c.run_entry.ensures.said

pub returns-in-None-clause-usage : goal.returns-in-None-clause-usage
returns-in-None-clause-usage g c = usage_none (map (λ word. word.now) c.args.words.now) (sym c.in-None.ensures)

pub returns-in-None-clause-one_answer : goal.returns-in-None-clause-one_answer
returns-in-None-clause-one_answer g c = c.first_answer.ensures (map (λ word. word.now) c.args.words.now)
