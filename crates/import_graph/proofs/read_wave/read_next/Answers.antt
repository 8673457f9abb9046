use Rattle.import_graph.proofs.ReadingOn.{failed}
use Rattle.import_graph.proofs.read_wave.read_next.Goals as goal

pub returns-in-Err-Failed-clause-read : goal.returns-in-Err-Failed-clause-read
returns-in-Err-Failed-clause-read g c =
    failed (g.F.Files.told c.args.files.now) c.args.path.now c.as_str.result.now c.in_ok-copy.copy (g.F.Files.asked c.args.files.now) (g.F.Files.asked c.read_file.new.files) c.args.read.now c.args.read.now c.read_file.result
    c.read_file.ensures.asked (cc) c.as_str.ensures c.in_ok-copy.ensures
