use Rattle.css_tokens.proofs.Verdicts.{mismatch_named, unclosed_named, depth_named}
use Rattle.css_tokens.proofs.pairing.components.Goals as goal

pub returns-clause-mismatch : goal.returns-clause-mismatch
returns-clause-mismatch c o m = mismatch_named c.args.tokens.now c.args.end o c.paired.result c.paired.ensures.ok c.paired.ensures.syntax c.paired.ensures.depth m

pub returns-clause-unclosed : goal.returns-clause-unclosed
returns-clause-unclosed c o m = unclosed_named c.args.tokens.now c.args.end o c.paired.result c.paired.ensures.ok c.paired.ensures.syntax c.paired.ensures.depth m

pub returns-clause-deep : goal.returns-clause-deep
returns-clause-deep c o m = depth_named c.args.tokens.now c.args.end o c.paired.result c.paired.ensures.ok c.paired.ensures.syntax c.paired.ensures.depth m
