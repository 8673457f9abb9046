use Rattle.std.proofs.Common.{take, Ok}
use Rattle.css_tokens.specs.Trees.{words_all}
use Rattle.css_tokens.specs.Private.Pendings.{Writes}
use Rattle.css_tokens.proofs.value.+write_components.Given as goal

abbrev pub invariant-write_components-loop-item : goal.invariant-write_components-loop-item
invariant-write_components-loop-item l = Writes l.fn.pending (words_all (take l.item-index l.items)) l.fn.out l.out (Ok l.waiting)
