use Rattle.std.proofs.Common.{◌≡◌, ◌∙◌, ap, rules, List, ℕ}
use Rattle.std.specs.Prelude.{Some}
use Rattle.std.specs.Str.{IsUtf8}
use Rattle.media_tree.proofs.Utf8Lemmas.{in-utf8, not-in-utf8}
use Rattle.media_tree.proofs.feature.in_utf8.Goals as goal

pub returns-in_ok-to_owned-in-Ok : goal.returns-in_ok-to_owned-in-Ok
returns-in_ok-to_owned-in-Ok c =
    let u : IsUtf8 c.args.bytes.now = search rules in
    let e : c.owned.result ≡ c.args.bytes.now = search rules in
    ap (λ (t : List ℕ). Some t) e ∙ in-utf8 c.args.bytes.now u

pub returns-in-Err : goal.returns-in-Err
returns-in-Err c = not-in-utf8 c.args.bytes.now c.in-Err.ensures.cases.0
