use Rattle.csslower.proofs.TargetSheets.{TargetLaws, target-text}
use Rattle.csslower.proofs.target_law.lowered_sheets_are_targets.Goals as goal

pub returns : goal.returns
returns c =
    let laws : TargetLaws = record {
      plain = c.sheets_of_texts.ensures.plain;
      old = c.clean_selectors_are_old.ensures;
      lists = c.media_lists_become_old.ensures;
      built = c.built_declarations_are_old.ensures.old;
      alike = c.places_are_not_looked_at.ensures;
    } in
    target-text laws
