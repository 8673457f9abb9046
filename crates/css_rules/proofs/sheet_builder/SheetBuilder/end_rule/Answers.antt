use Rattle.std.proofs.Common.{◌∙◌, ap, refl}
use Rattle.css_rules.specs.Private.Roles.{role_in}
use Rattle.css_rules.proofs.SheetBuilderLemmas.{role-read}
use Rattle.css_rules.proofs.sheet_builder.SheetBuilder.end_rule.Goals as goal

pub returns-clause-read : goal.returns-clause-read
returns-clause-read c = λ rules read.
    let mark = c.args.mark in
    role-read c.args.self.now c.add_rule.new.self _ rules (record { front = c.args.self.now.current; mark = mark }) c.in_ok-role.role
    (c.in_ok-role.ensures ∙ ap (λ front. role_in c.args.self.now.part (record { front = front; mark = mark })) c.as_slice.ensures)
    c.behind-self.ensures
    refl refl refl
    c.in_ok-add_rule.ensures.ok
    read
