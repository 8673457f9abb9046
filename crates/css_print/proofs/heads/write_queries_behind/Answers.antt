use Rattle.media_spelling.specs.Spelling.{queries_text}
use Rattle.css_print.proofs.Fronts.{on_err_map}
use Rattle.css_print.proofs.Spaces.{refused}
use Rattle.css_print.proofs.heads.write_queries_behind.Goals as goal

pub returns-clause-err : goal.returns-clause-err
returns-clause-err c =
    on_err_map c.write_queries-written.result
    (λ front. refused c.args.out.now c.push.new.self c.write_queries-written.new.out c.take_back.new.out (queries_text c.args.list.now) c.len-count.result c.in_ok-push.ensures.ok c.len-count.ensures front c.take_back.ensures)
    c.write_queries-written.ensures.err
