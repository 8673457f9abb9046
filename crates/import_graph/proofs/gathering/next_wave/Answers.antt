use Rattle.std.proofs.Common.{rules, arith, ◌≡◌, ◌-◌, ◌∙◌, drop, take, length, take_all, length-drop}
use Rattle.import_graph.proofs.ReadingOn.{refused-later}
use Rattle.import_graph.proofs.gathering.next_wave.Goals as goal

pub returns-in_err-lists-clause-read : goal.returns-in_err-lists-clause-read
returns-in_err-lists-clause-read g c =
    let keys = c.args.reading.now.known.keys in
    let read = length c.args.reading.now.files in
    let ahead : take (length c.as_slice.result.now - c.len-start.result) (drop c.len-start.result c.as_slice.result.now) ≡ drop read keys =
    (λ i. take (length (c.as_slice.ensures.keys i) - c.len-start.ensures i) (drop (c.len-start.ensures i) (c.as_slice.ensures.keys i))) ∙ take_all (length keys - read) (drop read keys) (omega (arith, length-drop read keys)) in
    refused-later (g.F.Files.told c.args.files.now) _ (drop read keys) (g.F.Files.asked c.args.files.now) (g.F.Files.asked c.read_wave.new.files) c.args.reading.now.files c.read_wave.new.read tt c.read_wave.new.read _ ahead (search rules) c.in-Ok.ensures.read

pub returns-in_err-learn_all-clause-read : goal.returns-in_err-learn_all-clause-read
returns-in_err-learn_all-clause-read g c =
    let keys = c.args.reading.now.known.keys in
    let read = length c.args.reading.now.files in
    let ahead : take (length c.as_slice.result.now - c.len-start.result) (drop c.len-start.result c.as_slice.result.now) ≡ drop read keys =
    (λ i. take (length (c.as_slice.ensures.keys i) - c.len-start.ensures i) (drop (c.len-start.ensures i) (c.as_slice.ensures.keys i))) ∙ take_all (length keys - read) (drop read keys) (omega (arith, length-drop read keys)) in
    refused-later (g.F.Files.told c.args.files.now) _ (drop read keys) (g.F.Files.asked c.args.files.now) (g.F.Files.asked c.read_wave.new.files) c.args.reading.now.files c.read_wave.new.read tt c.read_wave.new.read _ ahead (search rules) c.in-Ok.ensures.read
