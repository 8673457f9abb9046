use Rattle.std.proofs.Common.{◌≡◌, take, IfSome, Ok}
use Rattle.import_graph.specs.Asking.{Reads}
use Rattle.import_graph.specs.Growing.{Follows}
use Rattle.import_graph.proofs.read_wave.read_wave.Given as goal

abbrev pub invariant-loop-path : goal.invariant-loop-path
invariant-loop-path g l = record {
  told : g.F.Files.told l.files ≡ g.F.Files.told l.fn.files;
  count : g.F.Files.faults l.files ≡ g.F.Files.faults l.fn.files;
  read : IfSome (g.F.Files.told l.fn.files) (λ told. Reads told (take l.path-index l.paths) (g.F.Files.asked l.fn.files) (g.F.Files.asked l.files) l.fn.read l.read (Ok tt));
  follow : Follows (take l.path-index l.paths) l.fn.read l.read;
}
