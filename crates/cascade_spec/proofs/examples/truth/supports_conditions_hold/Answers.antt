use Rattle.std.proofs.Common.{rules}
use Rattle.std.specs.Str.{chars}
use lib.Utf8.{encode}
use Rattle.media_spelling.proofs.Computing.{computing}
use Rattle.cascade_spec.proofs.TruthComputing.{supported}
use Rattle.cascade_spec.proofs.examples.truth.supports_conditions_hold.Goals as goal

pub returns-clause-listed : goal.returns-clause-listed
unfolding chars encode
returns-clause-listed c = simp (supported, computing) (search (rules, supported, computing))

pub returns-clause-other_value : goal.returns-clause-other_value
unfolding chars encode
returns-clause-other_value c = simp (supported, computing) (search (rules, supported, computing))

pub returns-clause-other_name : goal.returns-clause-other_name
unfolding chars encode
returns-clause-other_name c = simp (supported, computing) (search (rules, supported, computing))

pub returns-clause-both : goal.returns-clause-both
unfolding chars encode
returns-clause-both c = simp (supported, computing) (search (rules, supported, computing))

pub returns-clause-either : goal.returns-clause-either
unfolding chars encode
returns-clause-either c = simp (supported, computing) (search (rules, supported, computing))

pub returns-clause-negation : goal.returns-clause-negation
unfolding chars encode
returns-clause-negation c = simp (supported, computing) (search (rules, supported, computing))

pub returns-clause-function : goal.returns-clause-function
unfolding chars encode
returns-clause-function c = simp supported (search (rules, supported))

pub returns-clause-both_listed : goal.returns-clause-both_listed
unfolding chars encode
returns-clause-both_listed c = simp (supported, computing) (search (rules, supported, computing))

pub returns-clause-neither : goal.returns-clause-neither
unfolding chars encode
returns-clause-neither c = simp (supported, computing) (search (rules, supported, computing))

pub returns-clause-negation_of_what_is_listed : goal.returns-clause-negation_of_what_is_listed
unfolding chars encode
returns-clause-negation_of_what_is_listed c = simp (supported, computing) (search (rules, supported, computing))
