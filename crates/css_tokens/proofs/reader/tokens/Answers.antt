use Rattle.std.proofs.Common.{◌≡◌, drop, ap, sym, ◌∙◌, None}
use Rattle.std.proofs.lemmas.List.{take_rest}
use Rattle.css_tokens.specs.Tokens.{bad_place}
use Rattle.css_tokens.proofs.OneReading.{reads_or_stops, stops_at_one}
use Rattle.css_tokens.proofs.Reading.{named_by, faults_of, reads_of, whole_of}
use Rattle.css_tokens.proofs.reader.tokens.Goals as goal

pub returns-in-Ok-clause-whole : goal.returns-in-Ok-clause-whole
returns-in-Ok-clause-whole c =
    let text = c.args.text.now in
    let mark = c.mark_length-mark.result in
    let rest = take_rest text mark in
    let good : bad_place (drop mark text) ≡ None = ap bad_place (sym rest) ∙ c.in-Ok.ensures.ok.1 in
    whole_of text c.in-Ok.rest.now mark c.mark_length-mark.ensures.value (c.in-Ok.ensures.ok.0 ∙ rest) good c.all_tokens.result c.all_tokens.ensures.read

pub returns-in-Ok-clause-named : goal.returns-in-Ok-clause-named
returns-in-Ok-clause-named c =
    let text = c.args.text.now in
    let mark = c.mark_length-mark.result in
    let rest = take_rest text mark in
    let read = c.in-Ok.ensures.ok.0 ∙ rest in
    let good : bad_place (drop mark text) ≡ None = ap bad_place (sym rest) ∙ c.in-Ok.ensures.ok.1 in
    named_by text c.all_tokens.result (reads_or_stops text) (stops_at_one text)
    (reads_of text c.in-Ok.rest.now mark c.mark_length-mark.ensures.value read good c.all_tokens.result c.all_tokens.ensures.read)
    (faults_of text c.in-Ok.rest.now mark c.mark_length-mark.ensures.value read good c.all_tokens.result c.all_tokens.ensures.fault)
