-- What a sheet builder does with one more rule.
use Rattle.std.specs.Prelude.{List, ◌++◌, ◌≡◌, None, Some}
use Rattle.sheet_types.specs.declared.sheet.Import.{Import}
use Rattle.sheet_types.specs.declared.sheet.Item.{Item}
use Rattle.css_rules.specs.declared.head.Role.{Role}
use Rattle.css_rules.specs.declared.head.Role.TheVariants as roles
use Rattle.css_rules.specs.declared.sheet_builder.SheetBuilder.{SheetBuilder}
use Rattle.css_rules.specs.Cuts.{Cut}
use Rattle.css_rules.specs.Heads.{import_of, import_refusals}
use Rattle.css_rules.specs.Refusals.{first_refusal, sooner_of}
use Rattle.css_rules.specs.Sheets.{rule_of, rule_refusals}

-- It has added the import that a rule is: it keeps the first refusal, and where there is none the import behind those before.
pub record HasAddedImport (old new : SheetBuilder) (rule : Cut) : Type 0 where
  pub refusal : new.refusal ≡ sooner_of old.refusal (first_refusal (import_refusals rule))
  pub imports : new.refusal ≡ None → (more : List Import) × (import_of rule ≡ Some more) × (new.imports ≡ old.imports ++ more)
  pub items : new.items ≡ old.items

-- It has added the items of a rule so.
pub record HasAddedItem (old new : SheetBuilder) (rule : Cut) : Type 0 where
  pub refusal : new.refusal ≡ sooner_of old.refusal (first_refusal (rule_refusals rule))
  pub items : new.refusal ≡ None → (more : List Item) × (rule_of rule ≡ Some more) × (new.items ≡ old.items ++ more)
  pub imports : new.imports ≡ old.imports

-- It has added nothing.
pub record HasAddedNothing (old new : SheetBuilder) : Type 0 where
  pub refusal : new.refusal ≡ old.refusal
  pub imports : new.imports ≡ old.imports
  pub items : new.items ≡ old.items

-- It has added what a rule in this role adds.
abbrev pub HasAdded : Role → SheetBuilder → SheetBuilder → Cut → Type 0
HasAdded roles.Charset old new rule = HasAddedNothing old new
HasAdded roles.Import old new rule = HasAddedImport old new rule
HasAdded roles.Item old new rule = HasAddedItem old new rule
