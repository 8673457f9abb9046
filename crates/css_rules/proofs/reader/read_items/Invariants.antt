use Rattle.std.proofs.Common.{◌≡◌, ◌≤◌, ◌+◌, ◌-◌, ◌++◌, length, flat_map, None, option_map}
use Rattle.css_rules.specs.ReadAll.{read_all}
use Rattle.css_rules.specs.Refusals.{first_refusal, sooner_of}
use Rattle.css_rules.specs.Sheets.{item_of, declarations_of, item_refusals, block_refusals}
use Rattle.css_rules.specs.RuleEnds.{ends_item}
use Rattle.css_rules.proofs.CutLemmas.{cuts_left}
use Rattle.css_rules.proofs.reader.read_items.Given as goal

-- what was read so far and what is left make the whole
abbrev pub invariant-loop-from : goal.invariant-loop-from
invariant-loop-from l =
    let left = cuts_left ends_item l.block l.from in
    (l.from ≤ length l.block + 1)
    × (sooner_of l.refusal (first_refusal (flat_map item_refusals left)) ≡ first_refusal (block_refusals l.fn.block))
    × (l.refusal ≡ None → option_map (λ more. l.declarations ++ more) (read_all item_of left) ≡ declarations_of l.fn.block)

abbrev pub decreases-loop-from : goal.decreases-loop-from
decreases-loop-from l = length l.block + 1 - l.from
