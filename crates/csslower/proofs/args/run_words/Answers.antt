use Rattle.std.proofs.Common.{List, ℕ, IfSome, map, ap, subst, ◌∙◌}
use Rattle.csslower.specs.Answers.{UsageFits, First}
use Rattle.csslower.proofs.args.run_words.Goals as goal

pub returns-in-Ok-clause-usage : goal.returns-in-Ok-clause-usage
returns-in-Ok-clause-usage g c = λ memory.
    subst (λ (texts : List (List ℕ)). UsageFits texts c.run.result) (ap (map (λ text. text.now)) c.as_slice.ensures.value ∙ c.in-Ok.ensures) c.run.ensures.usage

pub returns-in-Ok-clause-exactly : goal.returns-in-Ok-clause-exactly
returns-in-Ok-clause-exactly g c = λ reads writes memory.
    subst (λ (texts : List (List ℕ)). IfSome (g.F.Files.told c.args.files.now) (λ sources. First texts sources c.run.result)) (ap (map (λ text. text.now)) c.as_slice.ensures.value ∙ c.in-Ok.ensures) (c.run.ensures.exactly reads writes memory)
