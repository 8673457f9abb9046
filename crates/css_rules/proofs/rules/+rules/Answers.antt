use Rattle.std.proofs.Common.{◌∙◌, sym, ap, arith, slice_range, slice_get, ◌≡◌, ◌≤◌, ◌+◌, ◌-◌, ◌++◌, ◌∷◌, subst, length, take, drop, vec_items}
use Rattle.std.proofs.lemmas.List.{take_rest}
use Rattle.std.specs.Option.{option_to_list}
use Rattle.css_tokens.specs.Trees.{pieces_all}
use Rattle.css_rules.specs.AtRules.{at_rule_of}
use Rattle.css_rules.specs.Cuts.{Cut}
use Rattle.css_rules.specs.Private.Marks.{EndsAt, IsFirstMark, is_mark}
use Rattle.css_rules.specs.Refusals.{first_refusal}
use Rattle.css_rules.specs.RuleEnds.{ends_rule}
use Rattle.css_rules.specs.Sheets.{rule_of, rule_refusals}
use Rattle.css_rules.proofs.CutLemmas.{cuts_left, cuts_left-step, first-cut}
use Rattle.css_rules.proofs.ReaderLemmas.{refusal-turn, items-turn}
use Rattle.css_rules.proofs.RefusalLemmas.{sooner_of-none_left, sooner_of-none_right}
use Rattle.css_rules.proofs.RulesReader.{IsTaken, group-shorter, left-shorter, mark-at, mark-below, mark-taken, start-read, start-refused}
use Rattle.css_rules.proofs.SpanLemmas.{cuts_left-same}
use Rattle.css_rules.proofs.rules.+rules.Goals as goal

pub read_at_rule-read_group-requires : goal.read_at_rule-read_group-requires
read_at_rule-read_group-requires t c =
    let is = ap (at_rule_of c.args.rule.now) (sym c.ends_in_braces-has_block.ensures) ∙ sym c.in_ok-condition.ensures ∙ c.in-Group.is in
    let shorter = group-shorter c.args.rule.now c.args.mark c.in-Group.condition is in
    let same = ap (λ cs. length (pieces_all cs)) c.into_block.ensures in (omega (arith, shorter, same), tt)

pub read_rules-loop-from-init : goal.read_rules-loop-from-init
read_rules-loop-from-init t c =
    let same = c.into_vec-components.ensures in
    let count = ap (λ cs. length (pieces_all cs)) same in (
      omega arith,
      omega (arith, count),
      start-refused (vec_items c.into_vec-components.result) c.args.rules same,
      λ none. start-read (vec_items c.into_vec-components.result) c.args.rules c.new-items.result same c.new-items.ensures,
    )

pub read_rules-read_rule-requires : goal.read_rules-read_rule-requires
read_rules-read_rule-requires t c =
    let text = vec_items c.loop-from.components in
    let end = c.end_of_cut-end.result in
    let mark = mark-at c.deref_mut.result.now text end c.take_mark-mark.result c.deref_mut.ensures.value c.take_mark-mark.ensures.taken in
    let below = mark-below text c.loop-from.from end (length (pieces_all c.args.rules)) c.take_mark-mark.result c.end_of_cut-end.ensures.after mark c.loop-from.invariant.1 in (omega (arith, below), tt)

pub read_rules-loop-from-preserved : goal.read_rules-loop-from-preserved
read_rules-loop-from-preserved t c =
    let text = vec_items c.loop-from.components in
    let from = c.loop-from.from in
    let end = c.end_of_cut-end.result in
    let test = is_mark c.rule_mark.result in
    let ended = c.end_of_cut-end.ensures in
    let within : end ≤ length text = subst (λ xs. end ≤ length xs) c.as_slice.ensures.value ended.within in
    let ends =
    first-cut ends_rule test text from end ended.after within (subst (λ xs. IsFirstMark test xs from end) c.as_slice.ensures.value ended.first)
    (subst (EndsAt ends_rule test) (take_rest c.deref.result.now from ∙ ap (drop from) c.deref.ensures.value) c.rule_mark.ensures) in
    let old = c.deref_mut.result.now in
    let new = c.take_mark-mark.new.components in
    let written = take end old ++ (new ++ drop (length old - end) (drop end old)) in
    let rest = drop (length written) c.loop-from.components.items in
    let now = take c.loop-from.components.len (written ++ rest) in
    let inside : end ≤ length old = subst (λ xs. end ≤ length xs) (sym c.deref_mut.ensures.value) within in
    let taken =
    subst (λ xs. IsTaken xs now end) c.deref_mut.ensures.value
    (mark-taken c.loop-from.components.len end old new rest (omega (arith, c.deref_mut.ensures.len)) inside c.take_mark-mark.ensures.behind c.take_mark-mark.ensures.length) in
    let mark = mark-at old text end c.take_mark-mark.result c.deref_mut.ensures.value c.take_mark-mark.ensures.taken in
    let cut : Cut = record { front = slice_range text from end; mark = slice_get text end } in
    let front = ap (λ xs. slice_range xs from end) c.deref-in-loop-from.ensures.value ∙ taken.front from ended.after in
    let here : Cut = record { front = slice_range c.deref-in-loop-from.result.now from end; mark = c.take_mark-mark.result } in
    let same : here ≡ cut =
    ap (λ xs. record { front = xs; mark = c.take_mark-mark.result }) front ∙ ap (λ o. record { front = slice_range text from end; mark = o }) mark in
    let first =
    cuts_left-step ends_rule text from end (omega arith) within ends
    ∙ ap (λ cuts. cut ∷ cuts) (cuts_left-same ends_rule text now (end + 1) (sym taken.long) (sym taken.behind)) in
    let left = ap (λ xs. length (pieces_all xs)) taken.behind in (
      omega (arith, within, taken.long),
      omega (arith, left, left-shorter text from (end + 1) (omega (arith, ended.after)), c.loop-from.invariant.1),
      refusal-turn rule_refusals (cuts_left ends_rule text from) (cuts_left ends_rule now (end + 1)) cut c.loop-from.refusal c.in_ok-rule.rule.refusal c.sooner_of-refusal.result _
          first (c.in_ok-rule.ensures.refusal ∙ ap (λ cut. first_refusal (rule_refusals cut)) same) c.sooner_of-refusal.ensures c.loop-from.invariant.2,
      λ none.
          let both = sym c.sooner_of-refusal.ensures ∙ none in
          items-turn rule_of (cuts_left ends_rule text from) (cuts_left ends_rule now (end + 1)) cut c.loop-from.items (option_to_list c.in_ok-rule.rule.value) c.push_some.new.list _
          first
          (sym (ap rule_of same) ∙ c.in_ok-rule.ensures.value (sooner_of-none_right c.loop-from.refusal c.in_ok-rule.rule.refusal both))
          c.in_ok-push_some.ensures.ok
          (c.loop-from.invariant.3 (sooner_of-none_left c.loop-from.refusal c.in_ok-rule.rule.refusal both)),
    )
