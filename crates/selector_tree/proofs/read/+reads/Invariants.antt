use Rattle.std.proofs.Common.{◌≡◌, ℕ, drop, map}
use Rattle.selector_tree.specs.Grammar.{marks_reading}
use Rattle.selector_tree.specs.Signs.{mark_of}
use Rattle.selector_tree.specs.Private.ReadingSteps.{behind_list, list_from}
use Rattle.selector_tree.proofs.read.+reads.Given as goal

abbrev pub invariant-listing_of-loop-component : goal.invariant-listing_of-loop-component
invariant-listing_of-loop-component l = (end : ℕ) → behind_list l.listing.list (list_from l.nested l.listing.pending (map mark_of (drop l.component-index l.components)) end) ≡ marks_reading l.nested (map mark_of l.components) end
