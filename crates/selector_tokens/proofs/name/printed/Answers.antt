use Rattle.std.proofs.Common.{◌≡◌, sym, ap, ◌∙◌, subst, List, ℕ, ◌++◌}
use Rattle.std.specs.Str.{IsUtf8}
use Rattle.css_tokens.specs.NameText.{name_text}
use Rattle.selector_tokens.proofs.NameTexts.{name_text-utf8}
use Rattle.selector_tokens.proofs.name.printed.Goals as goal

pub returns : goal.returns
returns c =
    let made : c.as_slice.result.now ≡ name_text c.args.name.now = c.as_slice.ensures ∙ c.in_ok-write_name.ensures.ok ∙ ap (λ (t : List ℕ). t ++ name_text c.args.name.now) c.new-out.ensures in
    absurd (c.in-Err.ensures.cases.0 (subst IsUtf8 (sym made) (name_text-utf8 c.args.name.now c.utf8.name)))
