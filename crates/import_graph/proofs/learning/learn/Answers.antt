use Rattle.import_graph.proofs.NewPaths.{learnt-one}
use Rattle.import_graph.proofs.Placing.{placed-more}
use Rattle.import_graph.proofs.learning.learn.Goals as goal

pub loop-path-preserved : goal.loop-path-preserved
loop-path-preserved c = record {
  known = learnt-one c.args.known.now.keys c.loop-path.known.keys c.place_of.new.known.keys c.args.paths.now c.loop-path.path-index c.path-item.result c.loop-path-test.true c.path-item.is c.loop-path.invariant.known c.in_ok-place_of.ensures.known;
  placed = placed-more c.loop-path.known.keys c.place_of.new.known.keys c.args.paths.now c.loop-path.places c.push.new.self c.loop-path.path-index c.in_ok-place_of.field-0 c.path-item.result c.loop-path-test.true c.path-item.is c.loop-path.invariant.placed c.in_ok-place_of.ensures.known c.in_ok-place_of.ensures.place c.in_ok-push.ensures.ok;
}
