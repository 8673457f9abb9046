use Rattle.std.proofs.Common.{◌++◌}
use Rattle.std.specs.Prelude.{codes, Some}
use Rattle.selector_types.specs.Spelling.{text_of, tail_spelling}
use Rattle.selector_types.proofs.SpellingTexts.{states_text, text-tail}
use Rattle.selector_types.proofs.WritingLemmas.{start, more, last, within, within_last, on_err, on_err_map, on_ok_map}
use Rattle.selector_types.proofs.write.write_element.Goals as goal

pub returns-in_err-write_behind-clause-err : goal.returns-in_err-write_behind-clause-err
returns-in_err-write_behind-clause-err c =
    let t = c.args.tail.now in
    on_err c.from_residual.result (within (codes "::" ++ t.element) (states_text t.states) (start c.args.out.now (text_of (tail_spelling (Some t)))) (text-tail t) c.in_err-write_behind.ensures.err)

pub returns-clause-ok : goal.returns-clause-ok
returns-clause-ok c =
    let t = c.args.tail.now in
    let named = more (codes "::" ++ t.element) (states_text t.states) (start c.args.out.now (text_of (tail_spelling (Some t)))) (text-tail t) c.in_ok-write_behind.ensures.ok in
    on_ok_map c.write_states.result (last named) (rw c.as_slice.ensures at c.write_states.ensures.ok)

pub returns-clause-err : goal.returns-clause-err
returns-clause-err c =
    let t = c.args.tail.now in
    let named = more (codes "::" ++ t.element) (states_text t.states) (start c.args.out.now (text_of (tail_spelling (Some t)))) (text-tail t) c.in_ok-write_behind.ensures.ok in
    on_err_map c.write_states.result (within_last named) (rw c.as_slice.ensures at c.write_states.ensures.err)
