use Rattle.selector_types.proofs.CountLemmas.{count-compound, count-selector}
use Rattle.selector_types.proofs.count.+counts.Goals as goal

pub of_compound-returns : goal.of_compound-returns
of_compound-returns t c = cc (c.both.ensures, c.both-kind.ensures, c.of_type.ensures, c.of_tail.ensures, c.of_parts-parts.ensures, c.as_slice.ensures, count-compound c.args.parent c.args.compound.now)

pub specificity-returns : goal.specificity-returns
specificity-returns t c = cc (c.both.ensures, c.of_compound-first.ensures, c.of_links-rest.ensures, c.as_slice.ensures, count-selector c.args.parent c.args.selector.now)
