use Rattle.std.proofs.Common.{[], ◌∷◌, ◌++◌, length, refl, ap, ◌∙◌, string_bytes}
use Rattle.std.specs.Str.{chars}
use Rattle.std.proofs.lemmas.Iterator.{YieldsList-from_chars}
use Rattle.std.proofs.lemmas.Iterator.Consumers.{YieldsList-turn, YieldsList-end}
use Rattle.std.proofs.lemmas.List.{length_push}
use Rattle.std.proofs.lemmas.Str.{encodes-chars}
use lib.Utf8.{encodes}
use Rattle.css_tokens.specs.declared.content.Part.TheVariants.{Outside}
use Rattle.css_tokens.specs.Contents.{content, content_from}
use Rattle.css_tokens.specs.Private.Contents.{ends_of, escaped_text}
use Rattle.css_tokens.proofs.Said.{said_turn, said_end}
use Rattle.css_tokens.proofs.content.decode.Goals as goal

pub loop-c-init : goal.loop-c-init
loop-c-init c =
    let ends = ends_of c.args.end in
    record {
      bounded = refl;
      decoded = ap (λ t. t ++ content_from ends Outside (encodes (chars c.args.text.now))) c.new-out.ensures.bytes ∙ ap (content ends) (encodes-chars c.args.text.now c.utf8.text);
    }

pub loop-c-preserved : goal.loop-c-preserved
loop-c-preserved c =
    let text = c.args.text.now in
    let t = YieldsList-turn (YieldsList-from_chars text c.utf8.text cc) c.loop-c.yielded _ c.loop-c.yielded_by _ _ c.in-Some.c c.in-Some.is c.next.ensures.steps in
    record {
      bounded = c.say-said.ensures.bounded;
      decoded = said_turn (ends_of c.args.end) (content (ends_of c.args.end) text) (string_bytes c.loop-c.out) (string_bytes c.push_some.new.out) (string_bytes c.push_some-in-loop-c.new.out) (chars text) (length c.loop-c.yielded) (length (c.loop-c.yielded ++ c.in-Some.c ∷ [])) c.in-Some.c c.loop-c.part c.say-said.result c.loop-c.invariant.decoded t (length_push c.loop-c.yielded c.in-Some.c) c.say-said.ensures.says c.in_ok-push_some.ensures c.in_ok-push_some-2.ensures;
    }

pub returns : goal.returns
returns c =
    let text = c.args.text.now in
    let t = YieldsList-end (YieldsList-from_chars text c.utf8.text cc) c.loop-c.yielded _ c.loop-c.yielded_by _ _ c.in-None.is c.next.ensures.steps in
    said_end (ends_of c.args.end) (content (ends_of c.args.end) text) (string_bytes c.loop-c.out) (string_bytes c.push_some-2.new.out) (chars text) (length c.loop-c.yielded) c.loop-c.part (escaped_text c.flush.result) c.loop-c.invariant.decoded t.1 c.flush.ensures c.in_ok-push_some-3.ensures
