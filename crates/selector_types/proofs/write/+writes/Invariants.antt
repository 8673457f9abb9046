use Rattle.std.proofs.Common.{drop}
use Rattle.selector_types.specs.Private.Texts.{parts_text, links_text, left_text}
use Rattle.selector_types.specs.Spelling.{list_text}
use Rattle.selector_types.proofs.WritingLemmas.{IsWritten}
use Rattle.selector_types.proofs.write.+writes.Given as goal

abbrev pub invariant-write_parts-loop-part : goal.invariant-write_parts-loop-part
invariant-write_parts-loop-part l = IsWritten l.initial.out l.out (parts_text l.parts) (parts_text (drop l.part-index l.parts))

abbrev pub invariant-write_links-loop-link : goal.invariant-write_links-loop-link
invariant-write_links-loop-link l = IsWritten l.initial.out l.out (links_text l.first_dashes l.links) (links_text l.dashes (drop l.link-index l.links))

abbrev pub invariant-write_list-loop-selector : goal.invariant-write_list-loop-selector
invariant-write_list-loop-selector l = IsWritten l.initial.out l.out (list_text l.list) (left_text l.comma (drop l.selector-index l.list))
