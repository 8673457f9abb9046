use Rattle.std.proofs.Common.{subst}
use Rattle.media_tree.proofs.ReadConditions.{OfSome}
use Rattle.import_rules.proofs.ImportsStand.{IsCondition, IsSound, StandLaws, import-sound}
use Rattle.import_rules.proofs.laws.imports_that_are_read_stand.Goals as goal

abbrev laws : goal.After-queries_that_are_read_are_readable → StandLaws
laws c =
    record {
      splits = record { front = c.values_again.ensures.front; back = c.values_again.ensures.back };
      supports_stand = c.supports_that_are_read_stand.ensures.inside;
      supports_readable = c.supports_that_are_read_are_readable.ensures.inside;
      readable = c.queries_that_are_read_are_readable.ensures.readable;
      values = c.queries_that_are_read_are_readable.ensures.values;
    }

pub returns-clause-supports_values : goal.returns-clause-supports_values
returns-clause-supports_values c = λ at cs i s formed spelled read is has.
    (subst (OfSome IsCondition) has (subst IsSound is (import-sound (laws c) at cs (record { formed = formed; spelled = spelled; read = read }))).0).stands

pub returns-clause-readable_supports : goal.returns-clause-readable_supports
returns-clause-readable_supports c = λ at cs i s formed spelled read is has.
    (subst (OfSome IsCondition) has (subst IsSound is (import-sound (laws c) at cs (record { formed = formed; spelled = spelled; read = read }))).0).readable

pub returns-clause-readable_media : goal.returns-clause-readable_media
returns-clause-readable_media c = λ at cs i formed spelled read is.
    (subst IsSound is (import-sound (laws c) at cs (record { formed = formed; spelled = spelled; read = read }))).1.readable

pub returns-clause-media_values : goal.returns-clause-media_values
returns-clause-media_values c = λ at cs i formed spelled read is.
    (subst IsSound is (import-sound (laws c) at cs (record { formed = formed; spelled = spelled; read = read }))).1.stands
