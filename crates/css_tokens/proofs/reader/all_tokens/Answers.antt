use Rattle.std.proofs.Common.{length, ap, arith, rules, subst, sym}
use Rattle.std.specs.Str.{IsCharBoundary}
use Rattle.css_tokens.specs.Piece.{Piece}
use Rattle.css_tokens.proofs.Reading.{turn_fits, turn_reads, turn_placed, turn_size}
use Rattle.css_tokens.proofs.reader.all_tokens.Goals as goal

pub overflow_cast-at : goal.overflow_cast-at
overflow_cast-at c =
    let n = ap (λ (p : Piece). length p.text) c.token.view_is in
    let f = turn_fits c.args.start c.args.text.now c.loop-rest.tokens c.loop-rest.rest.now c.in-Some.token c.loop-rest.at _ c.requires c.loop-rest.invariant.read c.in-Some.ensures.token c.loop-rest.invariant.at n in
    omega (arith, f)

pub overflow_add-at : goal.overflow_add-at
overflow_add-at c =
    let n = ap (λ (p : Piece). length p.text) c.token.view_is in
    let f = turn_fits c.args.start c.args.text.now c.loop-rest.tokens c.loop-rest.rest.now c.in-Some.token c.loop-rest.at _ c.requires c.loop-rest.invariant.read c.in-Some.ensures.token c.loop-rest.invariant.at n in
    omega (arith, f)

pub loop-rest-preserved : goal.loop-rest-preserved
loop-rest-preserved c =
    let n = ap (λ (p : Piece). length p.text) c.token.view_is in
    record {
      text = search rules;
      read = turn_reads c.args.text.now c.loop-rest.tokens _ c.loop-rest.rest.now _ c.in-Some.token _ c.loop-rest.invariant.read c.in-Some.ensures.token c.in_ok-push.ensures.ok n c.split_at.ensures.back;
      placed = turn_placed c.args.start c.loop-rest.tokens _ c.in-Some.token c.loop-rest.at c.loop-rest.invariant.placed c.loop-rest.invariant.at c.in-Some.ensures.placed c.in_ok-push.ensures.ok;
      at = turn_size c.args.start c.loop-rest.tokens _ c.in-Some.token c.loop-rest.at _ c.loop-rest.invariant.at n c.in_ok-push.ensures.ok;
    }

pub split_at-requires : goal.split_at-requires
split_at-requires c =
    let n = ap (λ (p : Piece). length p.text) c.token.view_is in
    subst (IsCharBoundary c.loop-rest.rest.now) (sym n) c.in-Some.ensures.token.cut
