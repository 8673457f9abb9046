use Rattle.media_spelling.specs.Spelling.{queries_text}
use Rattle.media_spelling.specs.Private.Texts.{left_text, more_text, query_text, wanted_text}
use Rattle.media_spelling.proofs.SpellingTexts.{text-left, text-queries}
use Rattle.media_spelling.proofs.WritingLemmas.{IsWritten, start, more, within, on_err, at-item}
use Rattle.std.proofs.Common.{drop, ap, ◌∙◌, ◌+◌, List, ℕ, refl, ◌++◌, subst}
use Rattle.std.specs.Prelude.{codes}
use Rattle.media_spelling.specs.declared.condition.Query.{Query}
use Rattle.media_spelling.proofs.write.write_queries.Goals as goal

pub loop-query-init : goal.loop-query-init
loop-query-init c = subst (λ (t : List ℕ). IsWritten c.args.out.now c.args.out.now (queries_text c.args.list.now) t) (text-queries c.args.list.now) (start c.args.out.now (queries_text c.args.list.now))

pub returns-in_err-write_wanted-clause-err : goal.returns-in_err-write_wanted-clause-err
returns-in_err-write_wanted-clause-err c =
    let x = c.query-item.result in
    let rest = drop (c.loop-query.query-index + 1) c.args.list.now in
    let here = at-item c.args.list.now c.loop-query.query-index x c.loop-query-test.true c.query-item.is in
    let cut = ap (λ (xs : List Query). left_text c.loop-query.wanted (codes ",") query_text xs) here ∙ text-left c.loop-query.wanted (codes ",") query_text x rest in
    on_err c.from_residual.result (within (wanted_text c.loop-query.wanted (codes ",")) (query_text x ++ more_text (codes ",") query_text rest) c.loop-query.invariant cut c.in_err-write_wanted.ensures.err)

pub returns-in_err-write_query-clause-err : goal.returns-in_err-write_query-clause-err
returns-in_err-write_query-clause-err c =
    let x = c.query-item.result in
    let rest = drop (c.loop-query.query-index + 1) c.args.list.now in
    let here = at-item c.args.list.now c.loop-query.query-index x c.loop-query-test.true c.query-item.is in
    let cut = ap (λ (xs : List Query). left_text c.loop-query.wanted (codes ",") query_text xs) here ∙ text-left c.loop-query.wanted (codes ",") query_text x rest in
    let parted = more (wanted_text c.loop-query.wanted (codes ",")) (query_text x ++ more_text (codes ",") query_text rest) c.loop-query.invariant cut c.in_ok-write_wanted.ensures.ok in
    on_err c.from_residual-in_err-write_query.result (within (query_text x) (more_text (codes ",") query_text rest) parted refl c.in_err-write_query.ensures.err)

pub loop-query-preserved : goal.loop-query-preserved
loop-query-preserved c =
    let x = c.query-item.result in
    let rest = drop (c.loop-query.query-index + 1) c.args.list.now in
    let here = at-item c.args.list.now c.loop-query.query-index x c.loop-query-test.true c.query-item.is in
    let cut = ap (λ (xs : List Query). left_text c.loop-query.wanted (codes ",") query_text xs) here ∙ text-left c.loop-query.wanted (codes ",") query_text x rest in
    let parted = more (wanted_text c.loop-query.wanted (codes ",")) (query_text x ++ more_text (codes ",") query_text rest) c.loop-query.invariant cut c.in_ok-write_wanted.ensures.ok in
    more (query_text x) (more_text (codes ",") query_text rest) parted refl c.in_ok-write_query.ensures.ok
