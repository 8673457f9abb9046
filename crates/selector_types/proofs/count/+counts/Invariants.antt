use Rattle.std.proofs.Common.{◌≡◌, take, map}
use Rattle.selector_types.specs.SelectorFold.{compound_of, simple_of}
use Rattle.selector_types.specs.Specificities.{greatest, sum_of, simple_specificity, compound_specificity, selector_specificity}
use Rattle.selector_types.proofs.count.+counts.Given as goal

-- the sum of what the links so far count
abbrev pub invariant-of_links-loop-link : goal.invariant-of_links-loop-link
invariant-of_links-loop-link l = l.sum ≡ sum_of (map (λ x. compound_specificity l.parent (compound_of x)) (take l.link-index l.links))

abbrev pub invariant-of_parts-loop-part : goal.invariant-of_parts-loop-part
invariant-of_parts-loop-part l = l.sum ≡ sum_of (map (λ x. simple_specificity l.parent (simple_of x)) (take l.part-index l.parts))

abbrev pub invariant-greatest_of-loop-selector : goal.invariant-greatest_of-loop-selector
invariant-greatest_of-loop-selector l = l.most ≡ greatest (map (selector_specificity l.parent) (take l.selector-index l.list))
