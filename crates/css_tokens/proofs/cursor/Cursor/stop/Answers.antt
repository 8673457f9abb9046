use Rattle.std.proofs.Common.{◌≡◌, ◌+◌, ◌++◌, ◌∷◌, [], length, ap, arith, rules}
use Rattle.css_tokens.proofs.ComponentReadingLemmas.{emptied, read_further, stops_further, read_out}
use Rattle.css_tokens.proofs.cursor.Cursor.stop.Goals as goal

pub loop-cursor-preserved : goal.loop-cursor-preserved
loop-cursor-preserved c =
    let so_far = c.loop-cursor.invariant.read in
    let end = c.loop-cursor.invariant.end in
    let step = c.in-Some.ensures.end in
    record {
      read = (so_far.0 ++ c.in-Some._token ∷ [], λ before. read_further before so_far.0 c.in-Some._token _ _ _ _ _ _ (so_far.1 before) (c.in-Some.ensures.read (before ++ so_far.0)));
      end = omega arith;
    }

pub returns-in_default-clause-some : goal.returns-in_default-clause-some
returns-in_default-clause-some c =
    let so_far = c.loop-cursor.invariant.read in
    λ before. stops_further before so_far.0 _ _ _ _ _ (so_far.1 before) c.in_default.ensures.none c.in_default.ensures.stays

pub returns-clause-none : goal.returns-clause-none
returns-clause-none c =
    let so_far = c.loop-cursor.invariant.read in
    let none : length c.loop-cursor.cursor.rest.now ≡ 0 = search rules in
    let empty : c.loop-cursor.cursor.rest.now ≡ [] = emptied c.loop-cursor.cursor.rest.now none in
    let end = c.loop-cursor.invariant.end in
    let last : c.loop-cursor.cursor.at ≡ c.args.self.at + length c.args.self.rest.now = omega (arith, ap length empty) in
    (so_far.0, λ before. read_out before so_far.0 _ _ _ _ _ (so_far.1 before) empty last)
