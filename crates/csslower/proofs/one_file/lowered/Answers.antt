use Rattle.csslower.proofs.one_file.lowered.Goals as goal

pub lower-requires : goal.lower-requires
lower-requires c =
    let sheet = c.args.sheet in
    c.plain_items_are_taken.ensures sheet.items (c.sheets_of_texts.ensures.plain c.requires.0 sheet c.requires.1)

pub returns-clause-kept : goal.returns-clause-kept
returns-clause-kept c = λ q. c.in_ok-made.ensures.kept q tt
