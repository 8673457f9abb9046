use Rattle.std.proofs.Common.{IfSome, map, string_bytes, drop}
use Rattle.std.specs.Vec.Iter.{into_iter_items}
use Rattle.csslower.specs.Answers.{UsageFits, First}
use Rattle.csslower.proofs.Usages.{of_ok}
use Rattle.csslower.proofs.args.run_args.Goals as goal

pub returns-in-Ok-clause-usage : goal.returns-in-Ok-clause-usage
returns-in-Ok-clause-usage g c = λ memory.
    of_ok c.args.args c.in-Ok.args (λ args. UsageFits (map string_bytes (drop 1 (into_iter_items args))) c.run_named.result) c.in-Ok.is (c.run_named.ensures.usage memory)

pub returns-in-Ok-clause-exactly : goal.returns-in-Ok-clause-exactly
returns-in-Ok-clause-exactly g c = λ reads writes memory.
    of_ok c.args.args c.in-Ok.args (λ args. IfSome (g.F.Files.told c.args.files.now) (λ sources. First (map string_bytes (drop 1 (into_iter_items args))) sources c.run_named.result)) c.in-Ok.is (c.run_named.ensures.exactly reads writes memory)
