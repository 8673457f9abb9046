use Rattle.csslower.proofs.Loads.{loaded}
use Rattle.csslower.proofs.load.read_whole.Goals as goal

pub returns-in-Ok-clause-loaded : goal.returns-in-Ok-clause-loaded
returns-in-Ok-clause-loaded g c = loaded (g.F.Files.told c.args.files.now) c.args.path.now c.in-Ok.found c.sort.result c.in-Ok.ensures.bytes c.sort.ensures.loaded
