use Rattle.css_outside.specs.Counts.{Rose}
use Rattle.csslower.specs.Answers.{LimitFits, RefusalFits, WritingFits, IsFirstOfSources}
use Rattle.csslower.specs.Leaving.{WinnersFit}
use Rattle.csslower.specs.Writing.{standard}
use Rattle.csslower.proofs.Alike.{of_told, limit, refusal, writing, first, winners, said}
use Rattle.csslower.proofs.run.run_entry.Goals as goal

pub returns-in-Whole-clause-winners : goal.returns-in-Whole-clause-winners
returns-in-Whole-clause-winners g c =
    let before = g.O.Outbox.held c.args.out.now in
    let now = g.O.Outbox.held c.judge.new.out in
    of_told (g.F.Files.told c.args.files.now) c.args.path.now c.in-Whole.source c.as_slice.result.now (λ files. WinnersFit standard c.args.path.now files before now c.judge.result) c.as_slice.ensures c.in-Whole.ensures.loaded
    (λ files is. winners c.args.path.now c.as_slice.result.now files is standard before now c.judge.result c.judge.ensures.winners)

pub returns-in-Whole-clause-limit : goal.returns-in-Whole-clause-limit
returns-in-Whole-clause-limit g c =
    of_told (g.F.Files.told c.args.files.now) c.args.path.now c.in-Whole.source c.as_slice.result.now (λ files. LimitFits c.args.path.now files c.judge.result) c.as_slice.ensures c.in-Whole.ensures.loaded
    (λ files is. limit c.args.path.now c.as_slice.result.now files is c.judge.result c.judge.ensures.limit)

pub returns-in-Whole-clause-refused : goal.returns-in-Whole-clause-refused
returns-in-Whole-clause-refused g c =
    of_told (g.F.Files.told c.args.files.now) c.args.path.now c.in-Whole.source c.as_slice.result.now (λ files. RefusalFits c.args.path.now files c.judge.result) c.as_slice.ensures c.in-Whole.ensures.loaded
    (λ files is. refusal c.args.path.now c.as_slice.result.now files is c.judge.result c.judge.ensures.refused)

pub returns-in-Whole-clause-accepted : goal.returns-in-Whole-clause-accepted
returns-in-Whole-clause-accepted g c =
    of_told (g.F.Files.told c.args.files.now) c.args.path.now c.in-Whole.source c.as_slice.result.now (λ files. WritingFits c.args.path.now files c.judge.result) c.as_slice.ensures c.in-Whole.ensures.loaded
    (λ files is. writing c.args.path.now c.as_slice.result.now files is c.judge.result c.judge.ensures.accepted)

pub returns-in-Whole-clause-exactly : goal.returns-in-Whole-clause-exactly
returns-in-Whole-clause-exactly g c = λ reads writes memory.
    of_told (g.F.Files.told c.args.files.now) c.args.path.now c.in-Whole.source c.as_slice.result.now (λ files. IsFirstOfSources c.args.path.now files c.judge.result) c.as_slice.ensures c.in-Whole.ensures.loaded
    (λ files is. first c.args.path.now c.as_slice.result.now files is c.judge.result (c.judge.ensures.exactly writes memory))

pub returns-in-Whole-clause-said : goal.returns-in-Whole-clause-said
returns-in-Whole-clause-said g c =
    said (g.F.Files.told c.args.files.now) standard c.args.path.now c.in-Whole.source c.as_slice.result.now (Rose (g.O.Outbox.message_faults c.args.out.now) (g.O.Outbox.message_faults c.judge.new.out)) c.judge.result (g.O.Outbox.held c.args.out.now) (g.O.Outbox.held c.judge.new.out) c.as_slice.ensures c.in-Whole.ensures.loaded c.judge.ensures.said
