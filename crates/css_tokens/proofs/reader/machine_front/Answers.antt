use Rattle.std.proofs.Common.{sym, ap, ◌∙◌}
use Rattle.std.specs.Option.{option_map}
use Rattle.css_tokens.specs.Kinds.{url_table}
use Rattle.css_tokens.specs.Tokens.{front_of, longer}
use Rattle.css_tokens.proofs.Spelling.{by_rule, first_by}
use Rattle.css_tokens.proofs.reader.machine_front.Goals as goal

pub returns-in_err-inside-clause-value : goal.returns-in_err-inside-clause-value
returns-in_err-inside-clause-value c =
    let text = c.args.text.now in
    let f = c.in_ok-front.front in
    c.from_residual-in_err-inside.ensures
    ∙ ap (option_map (longer f.1)) (c.in_err-inside.ensures.value ∙ ap (front_of url_table) c.split_at.ensures.back)
    ∙ ap (by_rule text f) (sym c.if-begins_url.true)
    ∙ first_by text _ _ f c.begins_url.result c.in_ok-front.ensures.value c.split_at.ensures.front c.split_at.ensures.back c.begins_url.ensures

pub returns-then-begins_url-clause-value : goal.returns-then-begins_url-clause-value
returns-then-begins_url-clause-value c =
    let text = c.args.text.now in
    let f = c.in_ok-front.front in
    ap (option_map (longer f.1)) (c.in_ok-inside.ensures.value ∙ ap (front_of url_table) c.split_at.ensures.back)
    ∙ ap (by_rule text f) (sym c.if-begins_url.true)
    ∙ first_by text _ _ f c.begins_url.result c.in_ok-front.ensures.value c.split_at.ensures.front c.split_at.ensures.back c.begins_url.ensures

pub returns-clause-value : goal.returns-clause-value
returns-clause-value c =
    let text = c.args.text.now in
    let f = c.in_ok-front.front in
    ap (by_rule text f) (sym c.if-begins_url.false)
    ∙ first_by text _ _ f c.begins_url.result c.in_ok-front.ensures.value c.split_at.ensures.front c.split_at.ensures.back c.begins_url.ensures
