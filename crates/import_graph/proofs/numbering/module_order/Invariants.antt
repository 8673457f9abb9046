use Rattle.std.proofs.Common.{◌≡◌, ◌+◌, List, [], ◌∷◌, ℕ, reverse, length, nat_eq}
use Rattle.import_graph.specs.Order.{targets_at}
use Rattle.import_graph.proofs.Numbers.{Numbers}
use Rattle.import_graph.proofs.OrderSteps.{left, Tell, unset}
use Rattle.import_graph.proofs.numbering.module_order.Given as goal

abbrev pub invariant-files : goal.invariant-files
invariant-files l = record {
  order : (all : List ℕ) → Numbers nat_eq (targets_at l.targets) l.order (reverse l.todo.items) all → Numbers nat_eq (targets_at l.targets) [] (0 ∷ []) all;
  tells : Tell l.is_numbered.items l.order;
  sized : length l.is_numbered.items ≡ length l.targets;
  counted : length l.order + unset l.is_numbered.items ≡ length l.targets;
}

abbrev pub decreases-files : goal.decreases-files
decreases-files l = length l.todo.items + left l.is_numbered.items l.targets
