use Rattle.std.proofs.Common.{◌≡◌, ◌≤◌, ◌-◌, length, map, IfSome}
use Rattle.std.specs.List.{AllZip}
use Rattle.import_graph.specs.Files.{names_of}
use Rattle.import_graph.specs.Places.{IsPlaced}
use Rattle.import_graph.proofs.WaveSteps.{IsInOrder, IsReading, IsSoFar}
use Rattle.import_graph.proofs.gathering.gather.Given as goal

abbrev pub invariant-waves : goal.invariant-waves
invariant-waves g l = record {
  told : g.F.Files.told l.files ≡ g.F.Files.told l.fn.files;
  count : g.F.Files.faults l.files ≡ g.F.Files.faults l.fn.files;
  ordered : IsInOrder l.reading;
  few : length l.reading.files ≤ 1024;
  waves : IsReading (g.T.Targets.names l.targets) l.entry l.reading;
  placed : AllZip (IsPlaced l.reading.known.keys) (map (names_of (g.T.Targets.names l.targets)) l.reading.files) l.reading.places;
  so_far : IfSome (g.F.Files.told l.fn.files) (λ told. IsSoFar told (g.F.Files.asked l.fn.files) (g.F.Files.asked l.files) l.reading.files);
}

abbrev pub decreases-waves : goal.decreases-waves
decreases-waves g l = 1025 - length l.reading.files
