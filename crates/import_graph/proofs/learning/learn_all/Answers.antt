use Rattle.std.proofs.Common.{[]}
use Rattle.std.specs.Option.{unwrap_or}
use Rattle.import_graph.specs.Waves.{new_among}
use Rattle.import_graph.proofs.NewPaths.{learnt-more}
use Rattle.import_graph.proofs.Placing.{places-more}
use Rattle.import_graph.proofs.learning.learn_all.Goals as goal

pub loop-list-preserved : goal.loop-list-preserved
loop-list-preserved c = record {
  known = learnt-more (λ list. unwrap_or list []) c.args.known.now.keys c.loop-list.known.keys c.learn_list.new.known.keys c.args.lists.now c.loop-list.list-index c.list-item.result c.loop-list-test.true c.list-item.is c.loop-list.invariant.known c.in_ok-learn_list.ensures.known;
  places = places-more c.loop-list.known.keys c.learn_list.new.known.keys c.args.lists.now c.args.places.now c.loop-list.places c.push.new.self c.loop-list.list-index c.list-item.result c.in_ok-learn_list.field-0 (new_among c.loop-list.known.keys (unwrap_or c.list-item.result [])) c.loop-list-test.true c.list-item.is c.loop-list.invariant.places c.in_ok-learn_list.ensures.known c.in_ok-learn_list.ensures.places c.in_ok-push.ensures.ok;
}
