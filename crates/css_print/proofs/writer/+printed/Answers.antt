use Rattle.std.proofs.Common.{◌∙◌, sym, ap}
use Rattle.std.specs.Prelude.{flat_map}
use Rattle.css_print.specs.Private.Printed.{holds_bytes}
use Rattle.css_print.proofs.Printing.{held-group, held-plain, held-style, text-other, text-passed, text_among}
use Rattle.css_print.proofs.writer.+printed.Goals as goal

pub is_printed-returns-in-Style : goal.is_printed-returns-in-Style
is_printed-returns-in-Style t c =
    c.is_any_printed.ensures ∙ ap (λ items. holds_bytes (flat_map text_among items)) c.as_slice.ensures
    ∙ sym (held-style c.in-Style.style) ∙ ap (λ item. holds_bytes (text_among item)) (sym c.in-Style.is)

pub is_printed-returns-in-Plain : goal.is_printed-returns-in-Plain
is_printed-returns-in-Plain t c = held-plain c.in-Plain.declarations c.is_empty.result c.is_empty.ensures ∙ ap (λ item. holds_bytes (text_among item)) (sym c.in-Plain.is)

pub is_printed-returns-in-Group : goal.is_printed-returns-in-Group
is_printed-returns-in-Group t c =
    c.is_any_printed-in-Group.ensures ∙ ap (λ items. holds_bytes (flat_map text_among items)) c.as_slice-in-Group.ensures
    ∙ sym (held-group c.in-Group.group) ∙ ap (λ item. holds_bytes (text_among item)) (sym c.in-Group.is)

pub is_printed-returns-in-Passed : goal.is_printed-returns-in-Passed
is_printed-returns-in-Passed t c = sym (ap holds_bytes (text-passed c.in-Passed.field-0)) ∙ ap (λ item. holds_bytes (text_among item)) (sym c.in-Passed.is)

pub is_printed-returns-in-Other : goal.is_printed-returns-in-Other
is_printed-returns-in-Other t c = sym (ap holds_bytes (text-other c.in-Other.field-0)) ∙ ap (λ item. holds_bytes (text_among item)) (sym c.in-Other.is)
