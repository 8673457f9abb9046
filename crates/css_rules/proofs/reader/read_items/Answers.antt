use Rattle.std.proofs.Common.{◌∙◌, sym, ap, arith, slice_range, slice_get, ◌+◌, ◌∷◌, option_map}
use Rattle.std.specs.Option.{option_to_list}
use Rattle.css_rules.specs.Cuts.{Cut}
use Rattle.css_rules.specs.Private.Spans.{declared_in}
use Rattle.css_rules.specs.Sheets.{item_of, item_refusals}
use Rattle.css_rules.specs.RuleEnds.{ends_item}
use Rattle.css_rules.proofs.CutLemmas.{cuts_left, cuts_left-step}
use Rattle.css_rules.proofs.SpanLemmas.{cuts_left-same, past-option, within-option}
use Rattle.css_rules.proofs.RefusalLemmas.{sooner_of-none_left, sooner_of-none_right}
use Rattle.css_rules.proofs.ReaderLemmas.{refusal-turn, items-turn}
use Rattle.css_rules.proofs.reader.read_items.Goals as goal

pub push_found-requires : goal.push_found-requires
push_found-requires c = within-option c.loop-from.block c.in_ok-next.next.end c.in_ok-next.next.value c.in_ok-next.ensures.within c.in_ok-next.ensures.found

pub loop-from-preserved : goal.loop-from-preserved
loop-from-preserved c =
    let text = c.loop-from.block in
    let new = c.push_found.new.components in
    let from = c.loop-from.from in
    let next = c.in_ok-next.next in
    let told = c.in_ok-next.ensures in
    let cut : Cut = record { front = slice_range text from next.end; mark = slice_get text next.end } in
    let first =
    cuts_left-step ends_item text from next.end (omega arith) told.within told.ends
    ∙ ap (λ cuts. cut ∷ cuts) (cuts_left-same ends_item text new (next.end + 1) (sym c.in_ok-push_found.ensures.length) (sym (c.in_ok-push_found.ensures.left (next.end + 1) (past-option next.end (next.end + 1) next.value (omega arith) told.found)))) in (
      omega (arith, told.within, c.in_ok-push_found.ensures.length),
      refusal-turn item_refusals (cuts_left ends_item text from) (cuts_left ends_item new (next.end + 1)) cut c.loop-from.refusal next.refusal c.sooner_of-refusal.result _
          first told.refusal c.sooner_of-refusal.ensures c.loop-from.invariant.1,
      λ none.
          let both = sym c.sooner_of-refusal.ensures ∙ none in
          items-turn item_of (cuts_left ends_item text from) (cuts_left ends_item new (next.end + 1)) cut c.loop-from.declarations (option_to_list (option_map (declared_in text) next.value)) c.push_found.new.declarations _
          first
          (told.value (sooner_of-none_right c.loop-from.refusal next.refusal both))
          c.in_ok-push_found.ensures.pushed
          (c.loop-from.invariant.2 (sooner_of-none_left c.loop-from.refusal next.refusal both)),
    )
