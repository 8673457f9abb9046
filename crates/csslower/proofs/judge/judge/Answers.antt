use Rattle.std.proofs.Common.{Some, sym, subst, ◌∙◌}
use Rattle.csslower.specs.Answers.{IsFirstOfSources, LimitFits}
use Rattle.csslower.specs.Private.Loading.{alike}
use Rattle.csslower.specs.Private.TextFaults.{IsTextFault}
use Rattle.csslower.proofs.LimitsPassed.{passed-short}
use Rattle.csslower.proofs.judge.judge.Goals as goal

pub returns-in-Ok-clause-said : goal.returns-in-Ok-clause-said
returns-in-Ok-clause-said g c = c.write.ensures.said c.args.path.now (Some (alike c.args.source.now))

pub returns-in-Err-Limit-clause-limit : goal.returns-in-Err-Limit-clause-limit
returns-in-Err-Limit-clause-limit g c =
    let passes = subst (IsTextFault c.args.source.now) c.in-Err-Limit.field-0-is c.in-Err-Limit.ensures.refused in
    subst (LimitFits c.args.path.now (alike c.args.source.now)) (sym c.exceed.ensures.answer)
    (passed-short c.args.path.now c.args.source.now c.in-Err-Limit.kind (sym c.is_scoped.ensures ∙ c.if-is_scoped.false) c.requires passes)

pub returns-in-Err-Limit-clause-exactly : goal.returns-in-Err-Limit-clause-exactly
returns-in-Err-Limit-clause-exactly g c = λ writes memory.
    let passes = subst (IsTextFault c.args.source.now) c.in-Err-Limit.field-0-is c.in-Err-Limit.ensures.refused in
    subst (IsFirstOfSources c.args.path.now (alike c.args.source.now)) (sym c.exceed.ensures.answer)
    (passed-short c.args.path.now c.args.source.now c.in-Err-Limit.kind (sym c.is_scoped.ensures ∙ c.if-is_scoped.false) c.requires passes)
