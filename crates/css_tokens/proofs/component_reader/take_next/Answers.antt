use Rattle.std.proofs.Common.{◌≡◌, [], length, subst, sym, rules}
use Rattle.css_tokens.specs.declared.pairing.ComponentFault.TheVariants.{Syntax}
use Rattle.css_tokens.specs.Private.ComponentReading.{IsFaultBehind}
use Rattle.css_tokens.specs.Private.Nests.{nest_pieces}
use Rattle.css_tokens.proofs.ComponentReadingLemmas.{emptied, read_taken, unclosed_behind}
use Rattle.css_tokens.proofs.component_reader.take_next.Goals as goal

pub returns-then-is_empty-clause-fault : goal.returns-then-is_empty-clause-fault
returns-then-is_empty-clause-fault c =
    let cursor = c.args.cursor.now in
    let none : length cursor.rest.now ≡ 0 = search rules in
    let empty : cursor.rest.now ≡ [] = emptied cursor.rest.now none in
    subst (λ rest. IsFaultBehind (nest_pieces c.args.nest.now) rest cursor.at (Syntax cursor.at)) (sym empty) (unclosed_behind c.args.nest.now cursor.at c.requires.holds c.requires.unclosed)

pub returns-clause-read : goal.returns-clause-read
returns-clause-read c = read_taken c.take.result _ _ c.in-Some.token _ _ _ _ c.take.ensures.pieces (c.in-Some.ensures.read (nest_pieces c.args.nest.now))
