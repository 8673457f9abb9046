use Rattle.std.proofs.Common.{◌∙◌, sym, ap}
use Rattle.css_outside.specs.Spaces.{held_of}
use Rattle.css_outside.proofs.Spaces.{held_none, held_at}
use Rattle.css_outside.proofs.memory.spaces.held_under.Goals as goal

pub returns-in-Some : goal.returns-in-Some
returns-in-Some c = c.held.ensures ∙ ap held_of c.index-spaces-at.is ∙ sym (held_at c.args.spaces.now c.args.name.now c.in-Some.at c.index-spaces-at.result (sym c.place.ensures ∙ c.in-Some.is))

pub returns-in-None : goal.returns-in-None
returns-in-None c = sym (held_none c.args.spaces.now c.args.name.now (sym c.place.ensures ∙ c.in-None.is))
