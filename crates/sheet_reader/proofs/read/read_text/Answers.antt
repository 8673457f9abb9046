use Rattle.std.proofs.Common.{◌≡◌, ◌∙◌, List, [], ◌∷◌, ◌++◌, Err, rules, subst}
use Rattle.css_tokens.specs.Components.{HasRead}
use Rattle.css_tokens.specs.Components as texts
use Rattle.css_tokens.specs.declared.component.Component.{Component}
use Rattle.sheet_reader.proofs.Named.{named}
use Rattle.sheet_reader.specs.Private.Faults.{of_components}
use Rattle.sheet_reader.proofs.read.read_text.Goals as goal

pub returns-in_err-component-clause-fault : goal.returns-in_err-component-clause-fault
returns-in_err-component-clause-fault c =
    let taken = c.loop-builder.invariant.taken in
    let fault = c.in_err-component.field-0.0 in
    let is : c.from_residual-in_err-component.result ≡ Err (of_components fault) = search rules in
    named c.args.text.now fault c.from_residual-in_err-component.result is
    (subst (λ text. texts.IsFirstFault text fault) c.loop-builder.invariant.text (c.in_err-component.ensures.fault taken.0 taken.1))

pub loop-builder-preserved : goal.loop-builder-preserved
loop-builder-preserved c =
    let taken = c.loop-builder.invariant.taken in
    let read : (done : List Component) → HasRead c.loop-builder.reader done → HasRead c.next.new.self (done ++ c.in-Some.component ∷ []) = search rules in
    record {
      text = c.next.ensures.text ∙ c.loop-builder.invariant.text;
      within = c.next.ensures.within;
      taken = (taken.0 ++ c.in-Some.component ∷ [], read taken.0 taken.1, c.in_ok-add.ensures.ok taken.0 taken.2);
    }
