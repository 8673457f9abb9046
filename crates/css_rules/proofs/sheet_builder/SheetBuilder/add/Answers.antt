use Rattle.std.proofs.Common.{List, [], ◌∷◌, ◌++◌, ◌≡◌, ◌∙◌, sym, refl, true, OnOk, Some, Result, Ok, Err}
use Rattle.css_tokens.specs.declared.component.Component.{Component}
use Rattle.css_rules.specs.declared.sheet_builder.SheetBuilder.{SheetBuilder}
use Rattle.css_rules.specs.declared.sheet_builder.Start.TheVariants.{Nothing}
use Rattle.css_rules.specs.Cuts.{Cut}
use Rattle.css_rules.specs.SheetBuilding.{HasRead, HasTaken}
use Rattle.css_rules.specs.Private.Starts.{ends_begun}
use Rattle.css_rules.proofs.SheetBuilderLemmas.{taken-ending, taken-going}
use Rattle.css_rules.proofs.sheet_builder.SheetBuilder.add.Goals as goal

-- where the rule that it ends was read
ending : {E : Type 0} (result : Result (Unit {0}) E) (old new : SheetBuilder) (c : Component) → ends_begun old.start c ≡ true → OnOk result (new.current ≡ []) → OnOk result (new.start ≡ Nothing)
    → OnOk result ((rules : List Cut) → HasRead old rules → HasRead new (rules ++ record { front = old.current; mark = Some c } ∷ []))
    → OnOk result ((taken : List Component) → HasTaken old taken → HasTaken new (taken ++ c ∷ []))
ending (Ok done) old new c ends current start read = λ taken. taken-ending old new taken c ends current start read
ending (Err fault) old new c ends current start read = tt

pub returns-then-is_ended_by-clause-ok : goal.returns-then-is_ended_by-clause-ok
returns-then-is_ended_by-clause-ok c =
    ending c.end_rule.result c.args.self.now c.end_rule.new.self c.args.component (sym c.is_ended_by.ensures ∙ c.if-is_ended_by.true) c.end_rule.ensures.current c.end_rule.ensures.start c.end_rule.ensures.read

pub returns-clause-ok : goal.returns-clause-ok
returns-clause-ok c = λ taken.
    taken-going c.args.self.now _ taken c.args.component (sym c.is_ended_by.ensures ∙ c.if-is_ended_by.false) c.in_ok-push.ensures.ok c.with-start.ensures refl refl refl refl
