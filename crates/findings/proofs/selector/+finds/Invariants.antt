use Rattle.std.proofs.Common.{◌≡◌, take}
use Rattle.std.specs.Prelude.{◌∷◌, flat_map}
use Rattle.selector_types.specs.PartsWithin.{compound_parts, selector_parts, simple_parts}
use Rattle.selector_types.specs.SelectorFold.{compound_of, simple_of}
use Rattle.findings.specs.Constructs.{part_findings}
use Rattle.findings.specs.Firsts.{first_from}
use Rattle.findings.proofs.selector.+finds.Given as goal

-- the finding that is named of those so far
abbrev pub invariant-in_list-loop-selector : goal.invariant-in_list-loop-selector
invariant-in_list-loop-selector l = l.best ≡ first_from l.initial.best (part_findings l.file (flat_map selector_parts (take l.selector-index l.list)))

abbrev pub invariant-in_links-loop-link : goal.invariant-in_links-loop-link
invariant-in_links-loop-link l = l.best ≡ first_from l.initial.best (part_findings l.file (flat_map (λ x. compound_parts (compound_of x)) (take l.link-index l.links)))

abbrev pub invariant-in_parts-loop-part : goal.invariant-in_parts-loop-part
invariant-in_parts-loop-part l = l.best ≡ first_from l.initial.best (part_findings l.file (flat_map (λ p. p ∷ simple_parts (simple_of p)) (take l.part-index l.parts)))
