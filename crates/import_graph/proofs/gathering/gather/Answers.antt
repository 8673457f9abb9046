use Rattle.std.proofs.Common.{◌<◌, ◌≤◌, ◌∙◌, refl, length, arith, subst, sym, map, List, ℕ}
use Rattle.std.specs.List.{AllZip, IsDistinct}
use Rattle.std.specs.Str.{bytes_eq}
use Rattle.import_graph.specs.Files.{names_of}
use Rattle.import_graph.specs.Places.{IsPlaced, named_in}
use Rattle.import_graph.specs.Waves.{new_among}
use Rattle.import_graph.specs.declared.gathering.Gathered.{Gathered}
use Rattle.import_graph.proofs.Placing.{targets-more}
use Rattle.import_graph.proofs.Sound.{sound}
use Rattle.import_graph.proofs.WaveSteps.{all-read, asks-all, asks-cut, asks-front, grown-count, grown-order, reached, reading-step, so-far-step}
use Rattle.import_graph.proofs.gathering.gather.Goals as goal

pub returns-then-len-gt-MOST_PATHS-clause-asked : goal.returns-then-len-gt-MOST_PATHS-clause-asked
returns-then-len-gt-MOST_PATHS-clause-asked g c =
    let many : 1024 < length c.waves.reading.known.keys = omega (arith, c.len-in-waves-2.ensures.len, c.if-len-gt-MOST_PATHS.true) in
    asks-cut (g.T.Targets.names c.args.targets.now) c.args.entry.now c.waves.reading c.waves.invariant.ordered c.waves.invariant.few c.waves.invariant.waves (λ (gathered : Gathered). gathered.files)
    (g.F.Files.told c.args.files.now) (g.F.Files.asked c.args.files.now) (g.F.Files.asked c.waves.files) c.waves.invariant.so_far many

pub waves-smaller : goal.waves-smaller
waves-smaller g c =
    let read = grown-count (g.T.Targets.names c.args.targets.now) c.waves.reading c.next_wave.new.reading c.waves.invariant.ordered c.in-Ok.ensures.grown in
    omega (arith, read, c.waves-test.true, c.len-in-waves.ensures.len, c.len.ensures, c.waves.invariant.few)

pub waves-preserved : goal.waves-preserved
waves-preserved g c =
    let naming = g.T.Targets.names c.args.targets.now in
    let few : length c.waves.reading.known.keys ≤ 1024 = omega (arith, c.len-in-waves-2.ensures.len, c.if-len-gt-MOST_PATHS.false) in
    let read = grown-count naming c.waves.reading c.next_wave.new.reading c.waves.invariant.ordered c.in-Ok.ensures.grown in
    let grown = c.in-Ok.ensures.grown in
    record {
      told = c.next_wave.ensures.told ∙ c.waves.invariant.told;
      count = c.in-Ok.ensures.no_cause ∙ c.waves.invariant.count;
      ordered = grown-order naming c.waves.reading c.next_wave.new.reading c.waves.invariant.ordered grown;
      few = omega (arith, few, read);
      waves = reading-step naming c.waves.reading c.next_wave.new.reading c.waves.invariant.ordered grown c.args.entry.now c.waves.invariant.waves;
      placed = targets-more (names_of naming) c.waves.reading.known.keys c.next_wave.new.reading.known.keys c.waves.reading.files grown.more c.next_wave.new.reading.files c.waves.reading.places c.next_wave.new.reading.places
          (new_among c.waves.reading.known.keys (named_in (map (names_of naming) grown.more))) c.waves.invariant.placed grown.learnt grown.added grown.placed;
      so_far = so-far-step naming c.waves.reading c.next_wave.new.reading c.waves.invariant.ordered grown (g.F.Files.told c.args.files.now) (g.F.Files.told c.waves.files) (g.F.Files.asked c.args.files.now) (g.F.Files.asked c.waves.files) (g.F.Files.asked c.next_wave.new.files)
          c.waves.invariant.told c.waves.invariant.so_far c.in-Ok.ensures.read;
    }

pub returns-in-Err-clause-asked : goal.returns-in-Err-clause-asked
returns-in-Err-clause-asked g c =
    let short : length c.waves.reading.known.keys ≤ 1024 = omega (arith, c.len-in-waves-2.ensures.len, c.if-len-gt-MOST_PATHS.false) in
    asks-front (g.T.Targets.names c.args.targets.now) c.args.entry.now c.waves.reading c.waves.invariant.ordered c.waves.invariant.few c.waves.invariant.waves (λ (gathered : Gathered). gathered.files)
    (g.F.Files.told c.args.files.now) (g.F.Files.asked c.args.files.now) (g.F.Files.asked c.waves.files) c.waves.invariant.so_far (g.F.Files.told c.waves.files) (g.F.Files.asked c.next_wave.new.files) c.next_wave.new.reading.files c.in-Err.fault
    c.waves.invariant.told short c.in-Err.ensures.read

pub returns-clause-asked : goal.returns-clause-asked
returns-clause-asked g c =
    let ended : length c.waves.reading.known.keys ≤ length c.waves.reading.files = omega (arith, c.len-in-waves.ensures.len, c.len.ensures, c.waves-test.false) in
    asks-all (g.T.Targets.names c.args.targets.now) c.args.entry.now c.waves.reading c.waves.invariant.ordered c.waves.invariant.few c.waves.invariant.waves (λ (gathered : Gathered). gathered.files)
    (g.F.Files.told c.args.files.now) (g.F.Files.asked c.args.files.now) (g.F.Files.asked c.waves.files) c.waves.invariant.so_far (record { files = c.waves.reading.files; targets = c.waves.reading.places }) refl ended

pub returns-clause-waves : goal.returns-clause-waves
returns-clause-waves g c =
    let ended : length c.waves.reading.known.keys ≤ length c.waves.reading.files = omega (arith, c.len-in-waves.ensures.len, c.len.ensures, c.waves-test.false) in
    reached (g.T.Targets.names c.args.targets.now) c.args.entry.now c.waves.reading c.waves.invariant.ordered c.waves.invariant.few c.waves.invariant.waves ended

pub returns-clause-sound : goal.returns-clause-sound
returns-clause-sound g c =
    let ended : length c.waves.reading.known.keys ≤ length c.waves.reading.files = omega (arith, c.len-in-waves.ensures.len, c.len.ensures, c.waves-test.false) in
    sound (g.T.Targets.names c.args.targets.now) c.waves.reading.files (subst (IsDistinct bytes_eq) (sym (all-read c.waves.reading c.waves.invariant.ordered ended)) c.len-in-waves.ensures.unique)

pub returns-clause-targets : goal.returns-clause-targets
returns-clause-targets g c =
    let ended : length c.waves.reading.known.keys ≤ length c.waves.reading.files = omega (arith, c.len-in-waves.ensures.len, c.len.ensures, c.waves-test.false) in
    subst (λ (known : List (List ℕ)). AllZip (IsPlaced known) (map (names_of (g.T.Targets.names c.args.targets.now)) c.waves.reading.files) c.waves.reading.places) (sym (all-read c.waves.reading c.waves.invariant.ordered ended)) c.waves.invariant.placed
