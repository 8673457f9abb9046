use Rattle.std.proofs.Common.{◌≡◌, drop, length, sym, ap, subst, arith, length-drop}
use Rattle.css_tokens.specs.Components.{HasRead, IsFirstFault}
use Rattle.css_tokens.specs.Progress.{Progress}
use Rattle.css_tokens.proofs.ProgressLemmas.{progress, left_behind, reads_one_more, first_fault_of}
use Rattle.css_tokens.proofs.component_reader.ComponentReader.next.Goals as goal

pub invariant_of-self : goal.invariant_of-self
invariant_of-self c =
    let stands = c.self.invariant in
    let rest = c.self.inside.cursor.rest.now in
    let end = c.in-Ok.ensures.end in
    let size : length rest ≡ length (drop c.self.inside.cursor.at c.self.inside.text.now) = ap length stands.rest_is in
    record {
      short = stands.short;
      within = omega (arith, length-drop c.self.inside.cursor.at c.self.inside.text.now);
      rest_is = left_behind c.self.inside.text.now rest c.self.inside.cursor.at stands.rest_is c.in-Ok.component c.read_one.new.cursor.rest.now c.read_one.new.cursor.at c.in-Ok.ensures.read;
      nothing = c.in-Ok.ensures.nothing;
    }

pub returns-in-Ok-clause-some : goal.returns-in-Ok-clause-some
returns-in-Ok-clause-some c =
    let stands = c.self.invariant in
    λ done read. reads_one_more (progress c.self.inside.text.now c.self.inside.cursor.at) done (subst (λ (p : Progress). HasRead p done) (sym c.self.view_is) read) c.self.inside.cursor.rest.now stands.rest_is stands.within c.in-Ok.component c.read_one.new.cursor.rest.now c.read_one.new.cursor.at c.in-Ok.ensures.read c.in-Ok.ensures.formed c.in-Ok.ensures.paired

pub returns-in-Err-clause-fault : goal.returns-in-Err-clause-fault
returns-in-Err-clause-fault c =
    let stands = c.self.invariant in
    let text : c.self.inside.text.now ≡ c.args.self.now.text = ap (λ (p : Progress). p.text) c.self.view_is in
    λ done read. subst (λ text. IsFirstFault text c.in-Err.fault) text
    (first_fault_of (progress c.self.inside.text.now c.self.inside.cursor.at) done (subst (λ (p : Progress). HasRead p done) (sym c.self.view_is) read) c.self.inside.cursor.rest.now stands.rest_is stands.within c.in-Err.fault c.in-Err.ensures.fault)
