use Rattle.std.proofs.Common.{◌≡◌, ◌≤◌, ℕ, List, Option, [], ◌∷◌, length, map, nat_eq, subst}
use Rattle.import_graph.specs.Files.{paths_of}
use Rattle.import_graph.specs.Order.{numbered_from, targets_at}
use Rattle.import_graph.specs.Places.{path_at, path_order}
use Rattle.import_graph.proofs.PathOrder.{order-paths}
use Rattle.import_graph.proofs.WaveSteps.{order-told}
use Rattle.import_graph.proofs.loading.load_files.Goals as goal

pub returns-in_ok-order-in-Ok-clause-order : goal.returns-in_ok-order-in-Ok-clause-order
returns-in_ok-order-in-Ok-clause-order g c = λ told agrees.
    order-paths (g.T.Targets.names c.args.targets.now) told c.args.entry.now c.in-Ok.gathered.files c.in-Ok.gathered.targets (c.in-Ok.ensures.waves told agrees) agrees c.in-Ok.ensures.targets c.in_ok-order-in-Ok.order
    (subst (λ (places : List (Option (List ℕ))). (more : ℕ) → length places ≤ more → numbered_from nat_eq (targets_at places) more [] (0 ∷ []) ≡ c.in_ok-order-in-Ok.order) c.as_slice.ensures c.in_ok-order-in-Ok.ensures.enough)

pub returns-in_ok-order-in-Ok-clause-numbered : goal.returns-in_ok-order-in-Ok-clause-numbered
returns-in_ok-order-in-Ok-clause-numbered g c =
    order-told (g.T.Targets.names c.args.targets.now) (g.F.Files.told c.args.files.now) c.args.entry.now (g.F.Files.asked c.args.files.now) (g.F.Files.asked c.gather.new.files) c.in-Ok.gathered (λ targets. map (path_at (paths_of c.in-Ok.gathered.files)) c.in_ok-order-in-Ok.order ≡ path_order targets c.args.entry.now) c.in-Ok.ensures.asked
    (λ told agrees.
    order-paths (g.T.Targets.names c.args.targets.now) told c.args.entry.now c.in-Ok.gathered.files c.in-Ok.gathered.targets (c.in-Ok.ensures.waves told agrees) agrees c.in-Ok.ensures.targets c.in_ok-order-in-Ok.order
    (subst (λ (places : List (Option (List ℕ))). (more : ℕ) → length places ≤ more → numbered_from nat_eq (targets_at places) more [] (0 ∷ []) ≡ c.in_ok-order-in-Ok.order) c.as_slice.ensures c.in_ok-order-in-Ok.ensures.enough))
