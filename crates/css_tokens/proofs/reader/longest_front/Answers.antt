use Rattle.std.proofs.Common.{◌+◌, drop, arith}
use Rattle.std.proofs.lemmas.Grind.{common_steps}
use Rattle.css_tokens.specs.Tokens.{classes_of}
use Rattle.css_tokens.proofs.Fronts.{read_turn, read_end, read_last}
use Rattle.css_tokens.proofs.reader.longest_front.Goals as goal

pub returns-in-Dead-clause-value : goal.returns-in-Dead-clause-value
returns-in-Dead-clause-value c =
    read_end _ (c.loop-i.i + 1) (classes_of (drop (c.loop-i.i + 1) c.args.text.now)) _ _ c.in-Dead.is
    (read_turn _ _ c.args.text.now c.loop-i.i _ _ _ _ _ (omega arith) c.loop-i.invariant.value c.kind_at.ensures c.better-best.ensures c.classify.ensures c.step-state.ensures)

pub loop-i-preserved : goal.loop-i-preserved
loop-i-preserved c = record {
  value = read_turn _ _ c.args.text.now c.loop-i.i _ _ _ _ _ (omega arith) c.loop-i.invariant.value c.kind_at.ensures c.better-best.ensures c.classify.ensures c.step-state.ensures;
  within = grind (arith, common_steps);
}

pub returns-clause-value : goal.returns-clause-value
returns-clause-value c = read_last _ c.args.text.now c.loop-i.i _ _ _ _ (omega arith) c.loop-i.invariant.value c.kind_at-2.ensures c.better.ensures
