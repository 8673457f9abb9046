use Rattle.std.proofs.Common.{◌∙◌, sym, ap}
use Rattle.std.specs.List.{list_any}
use Rattle.std.specs.Char.{is_ascii_uppercase}
use Rattle.media_tree.proofs.NameLemmas.{lower-same}
use Rattle.media_tree.proofs.mark.lowered.Goals as goal

pub returns : goal.returns
returns c = sym (lower-same c.args.name (sym (ap (list_any is_ascii_uppercase) c.as_str.ensures) ∙ sym c.has_capitals.ensures ∙ c.if-has_capitals.false))
