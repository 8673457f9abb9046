use Rattle.std.proofs.Common.{◌≡◌, ◌∙◌, rules, []}
use Rattle.std.specs.Str.{IsUtf8}
use Rattle.std.specs.Str.Lines.{lines}
use Rattle.graph_tests.proofs.Texts.{of-text, of-no-text}
use Rattle.graph_tests.proofs.lines.LinesTargets.of.Goals as goal

pub returns-in_ok-paths-in-Ok : goal.returns-in_ok-paths-in-Ok
returns-in_ok-paths-in-Ok c =
    let text : IsUtf8 c.args.bytes.now = search rules in
    let same : c.in_ok-paths-in-Ok.paths ≡ lines c.args.bytes.now = search rules in
    same ∙ of-text c.args.bytes.now (lines c.args.bytes.now) [] text

pub returns-in-Err : goal.returns-in-Err
returns-in-Err c =
    let none : c.new.result ≡ [] = search rules in
    none ∙ of-no-text c.args.bytes.now (lines c.args.bytes.now) [] c.in-Err.ensures.cases.0
