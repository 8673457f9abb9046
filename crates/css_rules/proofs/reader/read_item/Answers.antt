use Rattle.std.proofs.Common.{◌≡◌, ◌∙◌, sym, ap, cond, false, ◌||◌, None, Some, option_map}
use Rattle.std.specs.Option.{option_copied, option_to_list}
use Rattle.css_components.specs.Trimming.{trimmed}
use Rattle.css_rules.specs.Private.Spans.{declared_in}
use Rattle.css_rules.specs.Sheets.{plain_item}
use Rattle.css_rules.specs.RuleEnds.{begins_at_rule, ends_in_braces}
use Rattle.css_rules.proofs.SpanLemmas.{found-option}
use Rattle.css_rules.proofs.reader.read_item.Goals as goal

pub returns-clause-value : goal.returns-clause-value
returns-clause-value c none =
    let front = c.args.front.now in
    let place = c.trimmed_span-place.result in
    let items = c.trimmed_span-place.ensures.items in
    let plain = ap (λ cs. begins_at_rule cs || ends_in_braces (option_copied c.args.mark)) (sym items) ∙ sym c.is_rule.ensures ∙ c.if-is_rule.false in
    ap (λ b. cond b None (plain_item (trimmed front))) plain
    ∙ ap plain_item (sym items)
    ∙ c.in_ok-value.ensures.value none
    ∙ ap (λ o. Some (option_to_list o)) (sym (found-option front place.from place.to _ c.trimmed_span-place.ensures.within.1 c.in_ok-value.ensures.within))
    ∙ ap (λ o. Some (option_to_list (option_map (declared_in front) o))) (sym c.behind.ensures)
