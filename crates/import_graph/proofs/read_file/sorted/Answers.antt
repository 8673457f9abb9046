use Rattle.std.proofs.Common.{◌∙◌, sym, subst, ℕ, ◌<◌, ◌≤◌, refl}
use Rattle.import_graph.proofs.Sorting.{missing, long, whole}
use Rattle.import_graph.proofs.read_file.sorted.Goals as goal

pub returns-in-Some : goal.returns-in-Some
returns-in-Some c = λ file e. long 4194305 c.in-Some.bytes file (sym c.in-Some.is ∙ e) (subst (λ (n : ℕ). 4194304 < n) c.len.ensures c.if-len-gt4194304.true)

pub returns-in-Some-2 : goal.returns-in-Some-2
returns-in-Some-2 c = λ file e. whole 4194304 c.in-Some.bytes file (sym c.in-Some.is ∙ e) (subst (λ (n : ℕ). n ≤ 4194304) c.len.ensures c.if-len-gt4194304.false) refl

pub returns-in-None : goal.returns-in-None
returns-in-None c = λ file e. missing 4194305 file (sym c.in-None.is ∙ e)
