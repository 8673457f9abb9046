use Rattle.std.proofs.Common.{sym, ap, ◌∙◌, nat_eq}
use Rattle.std.specs.List.{list_any}
use Rattle.css_tokens.proofs.TakesSpace.{never_takes, unescaped_takes}
use Rattle.css_tokens.proofs.value.takes_space.Goals as goal

pub returns-then-not-may_take : goal.returns-then-not-may_take
returns-then-not-may_take c = sym (never_takes c.args.kind c.args.text.now (sym c.may_take.ensures ∙ c.if-not-may_take.true))

pub returns-then-not-has_escape : goal.returns-then-not-has_escape
returns-then-not-has_escape c = sym (unescaped_takes c.args.kind c.args.text.now (sym c.may_take.ensures ∙ c.if-not-may_take.false) (ap (list_any (nat_eq 92)) (sym c.as_bytes.ensures.value) ∙ sym c.has_escape.ensures ∙ c.if-not-has_escape.true))
