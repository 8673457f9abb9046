use Rattle.import_graph.proofs.ReadingOn.{read-last-at}
use Rattle.import_graph.proofs.read_wave.read_wave.Goals as goal

pub returns-in-Err-clause-read : goal.returns-in-Err-clause-read
returns-in-Err-clause-read g c =
    read-last-at (g.F.Files.told c.args.files.now) (g.F.Files.told c.loop-path.files) c.args.paths.now c.loop-path.path-index c.path-item.result (g.F.Files.asked c.args.files.now) (g.F.Files.asked c.loop-path.files) (g.F.Files.asked c.read_next.new.files) c.args.read.now c.loop-path.read c.read_next.new.read c.in-Err.fault
    c.loop-path-test.true c.path-item.is c.loop-path.invariant.told c.loop-path.invariant.read c.in-Err.ensures.read
