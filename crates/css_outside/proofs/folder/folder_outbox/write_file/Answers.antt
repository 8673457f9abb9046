use Rattle.std.proofs.Common.{◌∙◌, ap, string_bytes}
use Rattle.std.proofs.Math.Seq.{map-set_same}
use Rattle.css_outside.proofs.folder.folder_outbox.write_file.Goals as goal

pub returns-clause-ready : goal.returns-clause-ready
returns-clause-ready c =
    map-set_same (λ output. string_bytes output.name) c.args.outputs.now.items c.in_ok-at.at c.write.new.self c.index_mut.result.now
    (ap string_bytes (c.write.ensures.name ∙ ap (λ output. output.name) c.index_mut.ensures.value))
