use Rattle.std.proofs.Common.{Some, ap, sym, ◌+◌, ◌∙◌}
use Rattle.css_tokens.specs.declared.kind.Kind.{Kind}
use Rattle.css_tokens.proofs.PlainFronts.{hash_first, hash_named, kind_of_hash}
use Rattle.css_tokens.proofs.front.hash.Goals as goal
use Rattle.css_tokens.proofs.front.hash.Goals.{then-length-eq0, else-length-eq0}

pub returns-clause-value : goal.returns-clause-value
returns-clause-value c =
    let n = c.run_length-length.result in
    let f = hash_first c.args.text.now c.split_at.result.1.now c.split_at-2.result.1.now n c.requires c.split_at.ensures.back c.run_length-length.ensures.value c.split_at-2.ensures.back (sym c.is_headed.ensures ∙ c.if-is_headed.false) in
    elim c.if-length-eq0.branch [
      | then-length-eq0 w ↦ ap (λ (k : Kind). Some (k, n + 1)) (w.kind-is ∙ sym (ap kind_of_hash w.if-length-eq0.true)) ∙ f
      | else-length-eq0 w ↦ ap (λ (k : Kind). Some (k, n + 1)) (w.kind-is ∙ sym (hash_named n w.if-length-eq0.false)) ∙ f
    ]
