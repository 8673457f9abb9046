use Rattle.std.proofs.Common.{rules, ◌≡◌, ◌∙◌, ap, subst, List, ℕ, false, ◌||◌}
use Rattle.std.specs.Prelude.{Option, Some, IfOk, codes}
use Rattle.css_components.specs.Components.{is_string}
use Rattle.import_rules.specs.Imports.{is_url, lone_string}
use Rattle.import_rules.proofs.FunctionLemmas.{found_in, target-in}
use Rattle.import_rules.proofs.import.target_of.Goals as goal

pub returns-in-Some : goal.returns-in-Some
returns-in-Some c =
    let component = c.args.component.now in
    let items = c.in-Some.inside.now in
    let other : (is_string component || is_url component) ≡ false = search rules in
    let found : Some items ≡ found_in (codes "url") component = search rules in
    subst (λ (o : Option (List ℕ)). IfOk c.lone_string.result (λ f. f ≡ o)) (ap lone_string c.trimmed.ensures ∙ target-in component items other found) c.lone_string.ensures
