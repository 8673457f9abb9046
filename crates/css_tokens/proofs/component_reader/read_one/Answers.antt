use Rattle.std.proofs.Common.{◌≡◌, [], false, arith, rules, subst, sym}
use Rattle.css_tokens.specs.Private.ComponentReading.{ReadsUpTo, IsFaultBehind}
use Rattle.css_tokens.specs.Trees.{closes, opens, pieces_of-Single}
use Rattle.css_tokens.proofs.ComponentReadingLemmas.{fails_with, read_first, some_read}
use Rattle.css_tokens.proofs.OneComponent.{single_paired}
use Rattle.css_tokens.proofs.component_reader.read_one.Goals as goal

pub returns-then-not-closes-clause-read : goal.returns-then-not-closes-clause-read
returns-then-not-closes-clause-read c = λ start text begins.
    subst (λ ps. ReadsUpTo start text ps c.next.new.self.rest.now c.next.new.self.at) (sym (pieces_of-Single c.in-Some.token)) (c.in-Some.ensures.read [] start text begins)

pub returns-then-not-closes-clause-paired : goal.returns-then-not-closes-clause-paired
returns-then-not-closes-clause-paired c =
    let unopened : opens c.in-Some.token.kind ≡ false = search rules in
    let unclosing : closes c.in-Some.token.kind ≡ false = search rules in
    single_paired c.in-Some.token unopened unclosing

pub returns-in_err-take_block-clause-fault : goal.returns-in_err-take_block-clause-fault
returns-in_err-take_block-clause-fault c =
    let first = read_first c.args.nest.now c.take.new.nest c.in-Some.token _ _ _ _ c.requires.nothing c.in_ok-take.ensures.pieces (c.in-Some.ensures.read []) in
    let failed = c.from_residual-in_err-take_block.ensures in
    fails_with _ _ (λ f. IsFaultBehind [] c.args.cursor.now.rest.now c.args.cursor.now.at f) failed.0 failed.1
    (λ start text begins. c.in_err-take_block.ensures.fault start text (first start text begins))

pub take_out-requires-clause-some : goal.take_out-requires-clause-some
take_out-requires-clause-some c =
    let first = read_first c.args.nest.now c.take.new.nest c.in-Some.token _ _ _ _ c.requires.nothing c.in_ok-take.ensures.pieces (c.in-Some.ensures.read []) in
    let forward = c.in-Some.ensures.forward in
    let more = c.in_ok-take_block.ensures.forward in
    some_read _ c.args.cursor.now.rest.now c.take_block.new.cursor.rest.now c.args.cursor.now.at c.take_block.new.cursor.at
    (λ start text begins. c.in_ok-take_block.ensures.read start text (first start text begins))
    (omega arith)

pub returns-clause-read : goal.returns-clause-read
returns-clause-read c =
    let first = read_first c.args.nest.now c.take.new.nest c.in-Some.token _ _ _ _ c.requires.nothing c.in_ok-take.ensures.pieces (c.in-Some.ensures.read []) in
    λ start text begins.
    subst (λ ps. ReadsUpTo start text ps c.take_block.new.cursor.rest.now c.take_block.new.cursor.at) (sym c.take_out.ensures.pieces)
    (c.in_ok-take_block.ensures.read start text (first start text begins))
