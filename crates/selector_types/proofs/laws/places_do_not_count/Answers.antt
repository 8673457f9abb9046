use Rattle.selector_types.specs.SameErased.{same-but-places}
use Rattle.selector_types.specs.Specificities.{counting}
use Rattle.selector_types.specs.Spelling.{spelling}
use Rattle.selector_types.proofs.laws.places_do_not_count.Goals as goal

pub returns-clause-specificity : goal.returns-clause-specificity
returns-clause-specificity c = λ most s t same. same-but-places (counting most) s t same

pub returns-clause-spelling : goal.returns-clause-spelling
returns-clause-spelling c = λ s t same. same-but-places spelling s t same
