use Rattle.std.proofs.Common.{◌≡◌, ◌≤◌, ◌+◌, ◌-◌, ◌*◌, ◌++◌, drop, length, flat_map, None, option_map, vec_items}
use Rattle.css_tokens.specs.Trees.{pieces_all}
use Rattle.css_rules.specs.ReadAll.{read_all}
use Rattle.css_rules.specs.Refusals.{first_refusal, sooner_of}
use Rattle.css_rules.specs.Sheets.{rule_of, rules_of, rule_refusals, rules_refusals}
use Rattle.css_rules.specs.RuleEnds.{ends_rule}
use Rattle.css_rules.proofs.CutLemmas.{cuts_left}
use Rattle.css_rules.proofs.RulesReader.{mark_size}
use Rattle.css_rules.proofs.rules.+rules.Given as goal

-- The measure is how many tokens are still to be read. A block has fewer than its group, and each other call is nearer to it.

abbrev pub decreases-read_rules : goal.decreases-read_rules
decreases-read_rules l = 4 * length (pieces_all l.rules) + 3

abbrev pub decreases-read_rule : goal.decreases-read_rule
decreases-read_rule l = 4 * mark_size l.mark + 2

abbrev pub decreases-read_at_rule : goal.decreases-read_at_rule
decreases-read_at_rule l = 4 * mark_size l.mark + 1

abbrev pub decreases-read_group : goal.decreases-read_group
decreases-read_group l = 4 * length (pieces_all l.block) + 4

-- what was read so far and what is left make the whole
abbrev pub invariant-read_rules-loop-from : goal.invariant-read_rules-loop-from
invariant-read_rules-loop-from l =
    let left = cuts_left ends_rule (vec_items l.components) l.from in
    (l.from ≤ length (vec_items l.components) + 1)
    × (length (pieces_all (drop l.from (vec_items l.components))) ≤ length (pieces_all l.fn.rules))
    × (sooner_of l.refusal (first_refusal (flat_map rule_refusals left)) ≡ first_refusal (rules_refusals l.fn.rules))
    × (l.refusal ≡ None → option_map (λ more. l.items ++ more) (read_all rule_of left) ≡ rules_of l.fn.rules)

abbrev pub decreases-read_rules-loop-from : goal.decreases-read_rules-loop-from
decreases-read_rules-loop-from l = length (vec_items l.components) + 1 - l.from
