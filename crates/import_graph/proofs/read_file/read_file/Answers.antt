use Rattle.import_graph.proofs.Sorting.{read-as}
use Rattle.import_graph.proofs.read_file.read_file.Goals as goal

pub returns-clause-found : goal.returns-clause-found
returns-clause-found g c = read-as (g.F.Files.told c.args.files.now) c.args.path.now c.in_ok-found.found c.sorted.result c.in_ok-found.ensures.bytes c.sorted.ensures
