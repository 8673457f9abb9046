use Rattle.std.specs.Prelude.{List, ◌≡◌, IfOk}
use Rattle.std.proofs.Common.{subst}
use Rattle.prop_table.specs.declared.declarations.Physical.{Physical}
use Rattle.prop_table.proofs.Lookups.{told-named}
use Rattle.prop_table.proofs.lower.physical.Goals as goal

pub returns-in-Some : goal.returns-in-Some
returns-in-Some c =
    subst (λ (x : List Physical). IfOk c.of_logical.result (λ list. list ≡ x))
    (told-named c.args.name.now c.in-Some.property c.in-Some.ensures.some c.args.mode c.args.value.now)
    c.of_logical.ensures
