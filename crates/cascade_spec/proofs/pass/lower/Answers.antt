use Rattle.std.proofs.Common.{List, sym, subst}
use Rattle.sheet_types.specs.declared.sheet.Item.{Item}
use Rattle.sheet_types.specs.Contexts.{outside}
use Rattle.sheet_types.specs.Statements.{say_all}
use Rattle.cascade_spec.specs.Contents.{IsKept}
use Rattle.cascade_spec.proofs.pass.lower.Goals as goal

pub returns : goal.returns
returns g c =
    record {
      lowered = c.in_ok-made.ensures.items;
      imports = c.in_ok-made.ensures.imports;
      kept = λ q premise.
          subst (λ (ys : List Item). IsKept q (say_all c.args.sheet.items outside) (say_all ys outside)) (sym c.in_ok-made.ensures.items)
          (g.met.P.Pass.keeps c.args.pass.now c.args.sheet.items c.requires q premise);
    }
