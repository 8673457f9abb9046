use Rattle.std.proofs.Common.{take, [], arith, sym, ap, ap₂, ◌∙◌, ℕ, add-one}
use Rattle.std.proofs.lemmas.List.{take_all}
use Rattle.css_tokens.specs.declared.class.Class.{Class}
use Rattle.css_tokens.specs.declared.class.Class.TheVariants as class
use Rattle.css_tokens.specs.declared.machine.State.{State}
use Rattle.css_tokens.specs.declared.machine.State.TheVariants as state
use Rattle.css_tokens.specs.Private.Machine.{next, ended}
use Rattle.css_tokens.specs.Tokens.{classes_of}
use Rattle.css_tokens.proofs.Boundaries.{run_last}
use Rattle.css_tokens.proofs.Runs.{run}
use Rattle.css_tokens.proofs.TakesSpace.{space_kind}
use Rattle.css_tokens.proofs.value.kind_with_space.Goals as goal

pub loop-byte-preserved : goal.loop-byte-preserved
loop-byte-preserved c =
    let text = c.args.text.now in
    let i = c.loop-byte.byte-index in
    c.step-state.ensures ∙ ap₂ (λ (s : State) (x : Class). next s x) c.loop-byte.invariant c.classify.ensures
    ∙ sym (ap (λ (n : ℕ). run state.Start (classes_of (take n text))) (add-one i) ∙ run_last state.Start text i (omega arith))

pub returns : goal.returns
returns c =
    let text = c.args.text.now in
    c.kind_at.ensures
    ∙ ap (λ s. ended s []) (c.step.ensures ∙ ap (λ s. next s class.Blank) (c.loop-byte.invariant ∙ ap (λ t. run state.Start (classes_of t)) (take_all c.loop-byte.byte-index text (omega arith))))
    ∙ sym (space_kind text)
