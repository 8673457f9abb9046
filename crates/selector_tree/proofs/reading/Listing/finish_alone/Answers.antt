use Rattle.selector_tree.specs.Private.ReadingSteps.{pending_reading}
use Rattle.selector_tree.proofs.ListingReads.{not-alone}
use Rattle.selector_tree.proofs.reading.Listing.finish_alone.Goals as goal

pub returns-then-not-is_empty : goal.returns-then-not-is_empty
returns-then-not-is_empty c = not-alone c.args.self.list (pending_reading c.args.self.pending 0) c.is_empty.result c.is_empty.ensures c.if-not-is_empty.true
