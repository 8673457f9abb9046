use Rattle.std.proofs.Common.{◌∙◌, sym}
use Rattle.css_rules.proofs.RefusalLemmas.{holds-here}
use Rattle.css_rules.proofs.reader.holds.Goals as goal

pub loop-from-preserved : goal.loop-from-preserved
loop-from-preserved c =
    sym (holds-here c.args.word.now c.args.text.now c.loop-from.from _ c.loop-from-test.true (sym c.starts_with.ensures.value ∙ c.if-starts_with.false))
    ∙ c.loop-from.invariant
