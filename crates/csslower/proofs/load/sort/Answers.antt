use Rattle.std.proofs.Common.{◌∙◌, sym, subst, ℕ, ◌<◌, ◌≤◌}
use Rattle.csslower.proofs.Loads.{missing, long, whole}
use Rattle.csslower.proofs.load.sort.Goals as goal

pub returns-in-Some-clause-loaded : goal.returns-in-Some-clause-loaded
returns-in-Some-clause-loaded c = λ file e.
    long 4194305 c.in-Some.bytes file (sym c.in-Some.is ∙ e) (subst (λ (n : ℕ). 4194304 < n) c.len.ensures c.if-len-gt4194304.true)

pub returns-in-Some-2-clause-loaded : goal.returns-in-Some-2-clause-loaded
returns-in-Some-2-clause-loaded c = λ file e.
    whole 4194304 c.in-Some.bytes file (sym c.in-Some.is ∙ e) (subst (λ (n : ℕ). n ≤ 4194304) c.len.ensures c.if-len-gt4194304.false)

pub returns-in-None-clause-loaded : goal.returns-in-None-clause-loaded
returns-in-None-clause-loaded c = λ file e. missing 4194305 file (sym c.in-None.is ∙ e)
