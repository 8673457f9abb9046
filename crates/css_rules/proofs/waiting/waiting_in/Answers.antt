use Rattle.std.proofs.Common.{◌∙◌, sym, ap, Some}
use Rattle.css_rules.specs.Private.Waiting.{place_seen}
use Rattle.css_rules.proofs.WaitingLemmas.{refused-found, unrefused-found}
use Rattle.css_rules.proofs.waiting.waiting_in.Goals as goal

pub returns-in-Some : goal.returns-in-Some
returns-in-Some c =
    ap Some c.unbuilt.ensures
    ∙ sym (refused-found c.args.prelude.now c.in-Some.at (ap place_seen (sym c.in_ok-seen.ensures) ∙ sym c.place.ensures ∙ c.in-Some.is))

pub returns-in-None : goal.returns-in-None
returns-in-None c = sym (unrefused-found c.args.prelude.now (ap place_seen (sym c.in_ok-seen.ensures) ∙ sym c.place.ensures ∙ c.in-None.is))
