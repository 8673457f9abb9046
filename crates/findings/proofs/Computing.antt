-- How findings of selectors that are written out compute.
use Rattle.std.specs.Prelude.{ℕ, List, ◌++◌, flat_map, ◌≡◌, Option}
use Rattle.selector_types.specs.declared.selector.Combinator.{Combinator}
use Rattle.selector_types.specs.declared.selector.TypeName.{TypeName}
use Rattle.selector_types.specs.declared.selector.Tail as tail
use Rattle.selector_types.specs.declared.selector.Compound as compound
use Rattle.selector_types.specs.declared.selector.Link as link
use Rattle.selector_types.specs.declared.selector.Part as part
use Rattle.selector_types.specs.declared.selector.Simple.TheVariants.{outs-Class, outs-Id, outs-Attribute, outs-Pseudo, outs-Not, outs-Is, outs-Where, outs-Parent, outs-Local, outs-Global, outs-Foreign}
use Rattle.selector_types.specs.PartsFound.{parts-Class, parts-Id, parts-Attribute, parts-Pseudo, parts-Not, parts-Is, parts-Where, parts-Parent, parts-Local, parts-Global, parts-Foreign, parts-Compound, parts-Selector, within}
use Rattle.selector_types.specs.PartsWithin.{compound_parts, selector_parts}
use Rattle.selector_types.specs.SelectorFold.{compound_of}
use Rattle.media_clauses.proofs.Computing.{computing as media_computing}
use Rattle.media_spelling.specs.SupportsFold.{folded-And as supports-And, folded-Or as supports-Or, folded-Not as supports-Not, folded-Declared as supports-Declared, folded-Function as supports-Function}
use Rattle.sheet_types.proofs.Computing.{made-plain, made-rule, made-group, made-passed, made-other}

pub made-compound : (kind : TypeName) (ps : List part.Part) (tail : Option tail.Tail) → compound_parts (record { kind = kind; parts = ps; tail = tail }) ≡ flat_map within ps
made-compound kind ps tail = parts-Compound (record { kind = kind; parts = ps; tail = tail })

pub made-selector : (lead : Option Combinator) (first : compound.Compound) (rest : List link.Link) (at : ℕ) → selector_parts (record { lead = lead; first = first; rest = rest; at = at }) ≡ compound_parts first ++ flat_map (λ l. compound_parts (compound_of l)) rest
made-selector lead first rest at = parts-Selector (record { lead = lead; first = first; rest = rest; at = at })

pub ruleset computing = (media_computing, supports-And, supports-Or, supports-Not, supports-Declared, supports-Function, made-plain, made-rule, made-group, made-passed, made-other, outs-Class, outs-Id, outs-Attribute, outs-Pseudo, outs-Not, outs-Is, outs-Where, outs-Parent, outs-Local, outs-Global, outs-Foreign, parts-Class, parts-Id, parts-Attribute, parts-Pseudo, parts-Not, parts-Is, parts-Where, parts-Parent, parts-Local, parts-Global, parts-Foreign, made-compound, made-selector)
