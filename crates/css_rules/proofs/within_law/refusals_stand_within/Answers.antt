use Rattle.css_rules.proofs.WithinRefusals.{refusals-within, first_refusal-within}
use Rattle.css_rules.proofs.within_law.refusals_stand_within.Goals as goal

pub returns : goal.returns
returns c = record { all = refusals-within; named = first_refusal-within }
