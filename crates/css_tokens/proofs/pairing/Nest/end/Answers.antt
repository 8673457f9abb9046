use Rattle.std.proofs.Common.{rules, ◌≡◌, ◌++◌, ◌∷◌, []}
use Rattle.std.proofs.lemmas.Slice.Eq.{bytes_eq-Decides}
use Rattle.css_tokens.specs.declared.pairing.Nest.{Nest}
use Rattle.css_tokens.specs.declared.pairing.Opened.{Opened}
use Rattle.css_tokens.specs.declared.component.Component as component
use Rattle.css_tokens.specs.Trees.{closing_text}
use Rattle.css_tokens.proofs.NestLemmas.{nest_pieces_end, nest_formed_end}
use Rattle.css_tokens.proofs.pairing.Nest.end.Goals as goal

pub returns-clause-pieces : goal.returns-clause-pieces
returns-clause-pieces c =
    let old : Nest = c.args.self.now in
    let new : Nest = record { outer = c.pop.new.self; items = c.push-2.new.self; spare = c.push.new.self } in
    let o : Opened = record { before = c.in-Some.opened.before; opening = c.in-Some.opened.opening } in
    let e1 : old.outer.items ≡ new.outer.items ++ o ∷ [] = search rules in
    let e2 : new.items ≡ o.before ++ component.Block (record { opening = o.opening; items = old.items; close = c.args.token.now.at }) ∷ [] = search rules in
    let e3 : c.args.token.now.text ≡ closing_text o.opening.text = search (rules, bytes_eq-Decides) in
    nest_pieces_end old new o c.args.token.now e1 e2 c.requires e3

pub returns-clause-formed : goal.returns-clause-formed
returns-clause-formed c =
    let old : Nest = c.args.self.now in
    let new : Nest = record { outer = c.pop.new.self; items = c.push-2.new.self; spare = c.push.new.self } in
    let o : Opened = record { before = c.in-Some.opened.before; opening = c.in-Some.opened.opening } in
    let e1 : old.outer.items ≡ new.outer.items ++ o ∷ [] = search rules in
    let e2 : new.items ≡ o.before ++ component.Block (record { opening = o.opening; items = old.items; close = c.args.token.now.at }) ∷ [] = search rules in
    nest_formed_end old new o c.args.token.now e1 e2
