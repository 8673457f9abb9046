-- What a sheet builder keeps of the components that it has taken.
use Rattle.std.specs.Prelude.{List, [], ◌∷◌, ◌++◌, ◌≡◌, None, Some}
use Rattle.css_tokens.specs.declared.component.Component.{Component}
use Rattle.css_rules.specs.declared.sheet_builder.SheetBuilder.{SheetBuilder}
use Rattle.css_rules.specs.Cuts.{Cut, cuts}
use Rattle.css_rules.specs.ReadAll.{read_all}
use Rattle.css_rules.specs.Refusals.{first_refusal}
use Rattle.css_rules.specs.Heads.{import_of, imports_in, items_in}
use Rattle.css_rules.specs.Sheets.{cut_refusals, rule_of}
use Rattle.css_rules.specs.RuleEnds.{ends_rule}
use Rattle.css_rules.specs.Private.Roles.{part_of}
use Rattle.css_rules.specs.Private.Starts.{start_of}

-- It has read these rules: it keeps the first of their refusals, their imports and their items where there is none, and how far they go.
pub record HasRead (builder : SheetBuilder) (rules : List Cut) : Type 0 where
  pub refusal : builder.refusal ≡ first_refusal (cut_refusals rules)
  pub imports : builder.refusal ≡ None → read_all import_of (imports_in rules) ≡ Some builder.imports
  pub items : builder.refusal ≡ None → read_all rule_of (items_in rules) ≡ Some builder.items
  pub part : builder.part ≡ part_of rules

-- It has taken these components: it has read the rules that ended, and keeps what stands behind them.
pub record HasTaken (builder : SheetBuilder) (taken : List Component) : Type 0 where
  pub rules : List Cut
  pub cut : cuts ends_rule taken ≡ rules ++ record { front = builder.current; mark = None } ∷ []
  pub read : HasRead builder rules
  pub start : builder.start ≡ start_of builder.current
