-- The front of a sheet, with one more rule behind its rules.
use Rattle.std.proofs.Common.{◌≡◌, List, [], ◌∷◌, ◌++◌, Bool, true, false, refl, sym, ◌∙◌, ap, subst, cond, inl, inr, append_assoc}
use Rattle.std.specs.List.{AllByRecursion}
use Rattle.std.proofs.lemmas.Bool.{cases_Bool}
use Rattle.std.proofs.lemmas.List.{append-nil}
use Rattle.css_rules.specs.declared.head.Role.{Role}
use Rattle.css_rules.specs.declared.head.Role.TheVariants as roles
use Rattle.css_rules.specs.Cuts.{Cut}
use Rattle.css_rules.specs.Heads.{behind_charset, behind_imports, first_imports, imports_in, is_charset, is_import, items_in}
use Rattle.css_rules.specs.Private.Roles.{part_behind, part_of, part_with, role_behind, role_in}

-- Imports in front.

pub first-import : (rule : Cut) (rules : List Cut) → is_import rule.front ≡ true → first_imports (rule ∷ rules) ≡ rule ∷ first_imports rules
first-import rule rules e = ap (λ b. cond b (rule ∷ first_imports rules) []) e

pub first-item : (rule : Cut) (rules : List Cut) → is_import rule.front ≡ false → first_imports (rule ∷ rules) ≡ []
first-item rule rules e = ap (λ b. cond b (rule ∷ first_imports rules) []) e

pub behind-import : (rule : Cut) (rules : List Cut) → is_import rule.front ≡ true → behind_imports (rule ∷ rules) ≡ behind_imports rules
behind-import rule rules e = ap (λ b. cond b (behind_imports rules) (rule ∷ rules)) e

pub behind-item : (rule : Cut) (rules : List Cut) → is_import rule.front ≡ false → behind_imports (rule ∷ rules) ≡ rule ∷ rules
behind-item rule rules e = ap (λ b. cond b (behind_imports rules) (rule ∷ rules)) e

-- the rule, where it is an import
abbrev where_import : Cut → List Cut
where_import rule = cond (is_import rule.front) (rule ∷ []) []

-- the rule, where it is none
abbrev where_item : Cut → List Cut
where_item rule = cond (is_import rule.front) [] (rule ∷ [])

none-behind : (x : Cut) (xs : List Cut) → is_import x.front ≡ true → behind_imports (x ∷ xs) ≡ [] → behind_imports xs ≡ []
none-behind x xs e none = sym (behind-import x xs e) ∙ none

first-more : (rules : List Cut) (rule : Cut) → behind_imports rules ≡ [] → first_imports (rules ++ rule ∷ []) ≡ first_imports rules ++ where_import rule
first-more [] rule none = refl
first-more (x ∷ xs) rule none = elim (cases_Bool (is_import x.front)) [
  | inl e ↦
      first-import x (xs ++ rule ∷ []) e
      ∙ ap (λ more. x ∷ more) (first-more xs rule (none-behind x xs e none))
      ∙ sym (ap (λ here. here ++ where_import rule) (first-import x xs e))
  | inr e ↦ absurd (let clash = sym (behind-item x xs e) ∙ none in cc clash)
]

behind-more : (rules : List Cut) (rule : Cut) → behind_imports rules ≡ [] → behind_imports (rules ++ rule ∷ []) ≡ where_item rule
behind-more [] rule none = refl
behind-more (x ∷ xs) rule none = elim (cases_Bool (is_import x.front)) [
  | inl e ↦ behind-import x (xs ++ rule ∷ []) e ∙ behind-more xs rule (none-behind x xs e none)
  | inr e ↦ absurd (let clash = sym (behind-item x xs e) ∙ none in cc clash)
]

first-past : (rules : List Cut) (rule item : Cut) (items : List Cut) → behind_imports rules ≡ item ∷ items → first_imports (rules ++ rule ∷ []) ≡ first_imports rules
first-past [] rule item items some = absurd (cc some)
first-past (x ∷ xs) rule item items some = elim (cases_Bool (is_import x.front)) [
  | inl e ↦
      first-import x (xs ++ rule ∷ []) e
      ∙ ap (λ more. x ∷ more) (first-past xs rule item items (sym (behind-import x xs e) ∙ some))
      ∙ sym (first-import x xs e)
  | inr e ↦ first-item x (xs ++ rule ∷ []) e ∙ sym (first-item x xs e)
]

behind-past : (rules : List Cut) (rule item : Cut) (items : List Cut) → behind_imports rules ≡ item ∷ items → behind_imports (rules ++ rule ∷ []) ≡ behind_imports rules ++ rule ∷ []
behind-past [] rule item items some = absurd (cc some)
behind-past (x ∷ xs) rule item items some = elim (cases_Bool (is_import x.front)) [
  | inl e ↦
      behind-import x (xs ++ rule ∷ []) e
      ∙ behind-past xs rule item items (sym (behind-import x xs e) ∙ some)
      ∙ sym (ap (λ here. here ++ rule ∷ []) (behind-import x xs e))
  | inr e ↦ behind-item x (xs ++ rule ∷ []) e ∙ sym (ap (λ here. here ++ rule ∷ []) (behind-item x xs e))
]

-- What holds of each rule holds of the imports and of the items.

each-charset : (P : Cut → Type 0) (rules : List Cut) → AllByRecursion P rules → AllByRecursion P (behind_charset rules)
each-charset P [] each = tt
each-charset P (rule ∷ rules) each = at (is_charset rule)
  where
    at : (b : Bool) → AllByRecursion P (cond b rules (rule ∷ rules))
    at true = each.1
    at false = each

each-first : (P : Cut → Type 0) (rules : List Cut) → AllByRecursion P rules → AllByRecursion P (first_imports rules)
each-first P [] each = tt
each-first P (rule ∷ rules) each = at (is_import rule.front) (each.0, each-first P rules each.1)
  where
    at : (b : Bool) → AllByRecursion P (rule ∷ first_imports rules) → AllByRecursion P (cond b (rule ∷ first_imports rules) [])
    at true more = more
    at false more = tt

each-behind : (P : Cut → Type 0) (rules : List Cut) → AllByRecursion P rules → AllByRecursion P (behind_imports rules)
each-behind P [] each = tt
each-behind P (rule ∷ rules) each = at (is_import rule.front) (each-behind P rules each.1)
  where
    at : (b : Bool) → AllByRecursion P (behind_imports rules) → AllByRecursion P (cond b (behind_imports rules) (rule ∷ rules))
    at true more = more
    at false more = each

pub each-import : (P : Cut → Type 0) (rules : List Cut) → AllByRecursion P rules → AllByRecursion P (imports_in rules)
each-import P rules each = each-first P (behind_charset rules) (each-charset P rules each)

pub each-item : (P : Cut → Type 0) (rules : List Cut) → AllByRecursion P rules → AllByRecursion P (items_in rules)
each-item P rules each = each-behind P (behind_charset rules) (each-charset P rules each)

-- One more rule.

-- what a rule in this role adds to the imports and to the items
abbrev pub import_here : Role → Cut → List Cut
import_here roles.Charset rule = []
import_here roles.Import rule = rule ∷ []
import_here roles.Item rule = []

abbrev pub item_here : Role → Cut → List Cut
item_here roles.Charset rule = []
item_here roles.Import rule = []
item_here roles.Item rule = rule ∷ []

-- no item stands before an import
abbrev pub IsBefore : Role → List Cut → Type 0
IsBefore roles.Charset items = Unit {0}
IsBefore roles.Import items = items ≡ []
IsBefore roles.Item items = Unit {0}

-- a rule behind these, in this role
pub record Next (rules : List Cut) (rule : Cut) (role : Role) : Type 0 where
  pub imports : imports_in (rules ++ rule ∷ []) ≡ imports_in rules ++ import_here role rule
  pub items : items_in (rules ++ rule ∷ []) ≡ items_in rules ++ item_here role rule
  pub part : part_of (rules ++ rule ∷ []) ≡ part_behind role
  pub before : IsBefore role (items_in rules)

-- the first rule
next-charset : (rule : Cut) → is_charset rule ≡ true → Next [] rule roles.Charset
next-charset rule e =
    let items : items_in (rule ∷ []) ≡ [] = ap (λ b. behind_imports (cond b [] (rule ∷ []))) e in
    record { imports = ap (λ b. first_imports (cond b [] (rule ∷ []))) e; items = items; part = ap part_with items; before = tt }

next-first_import : (rule : Cut) → is_charset rule ≡ false → is_import rule.front ≡ true → Next [] rule roles.Import
next-first_import rule e f =
    let items : items_in (rule ∷ []) ≡ [] = ap (λ b. behind_imports (cond b [] (rule ∷ []))) e ∙ behind-import rule [] f in
    record { imports = ap (λ b. first_imports (cond b [] (rule ∷ []))) e ∙ first-import rule [] f; items = items; part = ap part_with items; before = refl }

next-first_item : (rule : Cut) → is_charset rule ≡ false → is_import rule.front ≡ false → Next [] rule roles.Item
next-first_item rule e f =
    let items : items_in (rule ∷ []) ≡ rule ∷ [] = ap (λ b. behind_imports (cond b [] (rule ∷ []))) e ∙ behind-item rule [] f in
    record { imports = ap (λ b. first_imports (cond b [] (rule ∷ []))) e ∙ first-item rule [] f; items = items; part = ap part_with items; before = tt }

-- a later one
charset-more : (r : Cut) (rs : List Cut) (rule : Cut) → behind_charset ((r ∷ rs) ++ rule ∷ []) ≡ behind_charset (r ∷ rs) ++ rule ∷ []
charset-more r rs rule = at (is_charset r)
  where
    at : (b : Bool) → cond b (rs ++ rule ∷ []) (r ∷ rs ++ rule ∷ []) ≡ cond b rs (r ∷ rs) ++ rule ∷ []
    at true = refl
    at false = refl

next-import : (r : Cut) (rs : List Cut) (rule : Cut) → items_in (r ∷ rs) ≡ [] → is_import rule.front ≡ true → Next (r ∷ rs) rule roles.Import
next-import r rs rule none f =
    let before = behind_charset (r ∷ rs) in
    let items : items_in ((r ∷ rs) ++ rule ∷ []) ≡ [] = ap behind_imports (charset-more r rs rule) ∙ behind-more before rule none ∙ ap (λ b. cond b [] (rule ∷ [])) f in
    record {
      imports = ap first_imports (charset-more r rs rule) ∙ first-more before rule none ∙ ap (λ b. first_imports before ++ cond b (rule ∷ []) []) f;
      items = items ∙ sym (ap (λ xs. xs ++ []) none);
      part = ap part_with items;
      before = none;
    }

next-item : (r : Cut) (rs : List Cut) (rule : Cut) → items_in (r ∷ rs) ≡ [] → is_import rule.front ≡ false → Next (r ∷ rs) rule roles.Item
next-item r rs rule none f =
    let before = behind_charset (r ∷ rs) in
    let items : items_in ((r ∷ rs) ++ rule ∷ []) ≡ rule ∷ [] = ap behind_imports (charset-more r rs rule) ∙ behind-more before rule none ∙ ap (λ b. cond b [] (rule ∷ [])) f in
    record {
      imports = ap first_imports (charset-more r rs rule) ∙ first-more before rule none ∙ ap (λ b. first_imports before ++ cond b (rule ∷ []) []) f;
      items = items ∙ sym (ap (λ xs. xs ++ rule ∷ []) none);
      part = ap part_with items;
      before = tt;
    }

next-further : (r : Cut) (rs : List Cut) (rule item : Cut) (items : List Cut) → items_in (r ∷ rs) ≡ item ∷ items → Next (r ∷ rs) rule roles.Item
next-further r rs rule item items some =
    let before = behind_charset (r ∷ rs) in
    let more : items_in ((r ∷ rs) ++ rule ∷ []) ≡ items_in (r ∷ rs) ++ rule ∷ [] = ap behind_imports (charset-more r rs rule) ∙ behind-past before rule item items some in
    record {
      imports = ap first_imports (charset-more r rs rule) ∙ first-past before rule item items some ∙ sym (append-nil (first_imports before));
      items = more;
      part = ap part_with (more ∙ ap (λ xs. xs ++ rule ∷ []) some);
      before = tt;
    }

-- behind an import or not
next-behind : (rules : List Cut) (rule : Cut) → (is_import rule.front ≡ true → Next rules rule roles.Import) → (is_import rule.front ≡ false → Next rules rule roles.Item) → Next rules rule (role_behind rule.front)
next-behind rules rule import item = elim (cases_Bool (is_import rule.front)) [
  | inl f ↦ subst (λ b. Next rules rule (cond b roles.Import roles.Item)) (sym f) (import f)
  | inr f ↦ subst (λ b. Next rules rule (cond b roles.Import roles.Item)) (sym f) (item f)
]

-- a rule behind others, in the role that it has there
pub next : (rules : List Cut) (rule : Cut) → Next rules rule (role_in (part_of rules) rule)
next [] rule = elim (cases_Bool (is_charset rule)) [
  | inl e ↦ subst (λ b. Next [] rule (cond b roles.Charset (role_behind rule.front))) (sym e) (next-charset rule e)
  | inr e ↦ subst (λ b. Next [] rule (cond b roles.Charset (role_behind rule.front))) (sym e) (next-behind [] rule (next-first_import rule e) (next-first_item rule e))
]
next (r ∷ rs) rule = at (items_in (r ∷ rs)) refl
  where
    at : (items : List Cut) → items_in (r ∷ rs) ≡ items → Next (r ∷ rs) rule (role_in (part_with items) rule)
    at [] none = next-behind (r ∷ rs) rule (next-import r rs rule none) (next-item r rs rule none)
    at (item ∷ items) some = next-further r rs rule item items some
