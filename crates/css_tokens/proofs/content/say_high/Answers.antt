use Rattle.std.proofs.Common.{refl, sym, ◌∙◌}
use Rattle.css_tokens.proofs.Said.{says_over, says_high}
use Rattle.css_tokens.proofs.content.say_high.Goals as goal

pub returns-then-is_over-clause-says : goal.returns-then-is_over-clause-says
returns-then-is_over-clause-says c = says_over c.args.end c.args.part c.args.c c.requires (sym c.is_over.ensures ∙ c.if-is_over.true)

pub returns : goal.returns
returns c = record {
  says = says_high c.args.end c.args.part c.args.c _ c.requires (sym c.is_over.ensures ∙ c.if-is_over.false) c.flush.ensures;
  bounded = refl;
}
