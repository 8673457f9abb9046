use Rattle.std.proofs.Common.{rules, arith, ◌≡◌, ◌<◌, List, length, inl, inr, subst, sym}
use Rattle.css_tokens.specs.Piece.{Piece}
use Rattle.css_tokens.specs.Pairing.{awaited_next, IsMismatch, IsTooDeep, IsUnclosed}
use Rattle.css_tokens.specs.Private.Nests.{nest_awaited}
use Rattle.css_tokens.proofs.NestLemmas.{length-nest_awaited}
use Rattle.css_tokens.proofs.PairingLemmas.{unclosed_at, mismatch_at, deep_at, matched_more, shallow_more, pieces_more}
use Rattle.css_tokens.proofs.pairing.paired.Goals as goal

pub returns-in_err-take-clause-syntax : goal.returns-in_err-take-clause-syntax
returns-in_err-take-clause-syntax c o e =
    let ts : List Piece = c.args.tokens.now in
    let t : Piece = c.token-item.result in
    let i = c.loop-token.token-index in
    let l : i < length ts = search rules in
    let m = c.take.ensures.mismatch o (search rules) in
    inl (subst (IsMismatch ts) (sym m.0) (mismatch_at ts i t l c.token-item.is (nest_awaited c.loop-token.nest) c.loop-token.invariant.matched c.loop-token.invariant.shallow m.1))

pub returns-in_err-take-clause-depth : goal.returns-in_err-take-clause-depth
returns-in_err-take-clause-depth c o e =
    let ts : List Piece = c.args.tokens.now in
    let t : Piece = c.token-item.result in
    let i = c.loop-token.token-index in
    let l : i < length ts = search rules in
    let m = c.take.ensures.deep o (search rules) in
    subst (IsTooDeep ts) (sym m.0) (deep_at ts i t l c.token-item.is (nest_awaited c.loop-token.nest) c.loop-token.invariant.matched c.loop-token.invariant.shallow m.1 m.2 m.3)

pub loop-token-preserved : goal.loop-token-preserved
loop-token-preserved c =
    let ts : List Piece = c.args.tokens.now in
    let t : Piece = c.token-item.result in
    let i = c.loop-token.token-index in
    let l : i < length ts = search rules in
    let next : awaited_next (nest_awaited c.loop-token.nest) t ≡ _ = c.in_ok-take.ensures.awaited in
    record {
      pieces = pieces_more ts i t l c.token-item.is (nest_awaited c.loop-token.nest) c.loop-token.invariant.matched c.loop-token.invariant.shallow _ _ c.loop-token.invariant.pieces c.in_ok-take.ensures.pieces;
      matched = matched_more ts i t l c.token-item.is (nest_awaited c.loop-token.nest) c.loop-token.invariant.matched c.loop-token.invariant.shallow _ next;
      shallow = shallow_more ts i t l c.token-item.is (nest_awaited c.loop-token.nest) c.loop-token.invariant.matched c.loop-token.invariant.shallow _ next c.in_ok-take.ensures.shallow;
      within = c.in_ok-take.ensures.shallow;
      formed = c.in_ok-take.ensures.formed c.loop-token.invariant.formed;
    }

pub returns-clause-syntax : goal.returns-clause-syntax
returns-clause-syntax c o e =
    let ts : List Piece = c.args.tokens.now in
    let place : o ≡ c.args.end = search rules in
    let some : 0 < length c.loop-token.nest.outer.items = search rules in
    inr (subst (IsUnclosed ts c.args.end) (sym place) (unclosed_at ts c.args.end c.loop-token.token-index (nest_awaited c.loop-token.nest) (search rules) c.loop-token.invariant.matched c.loop-token.invariant.shallow (omega (arith, length-nest_awaited c.loop-token.nest))))
