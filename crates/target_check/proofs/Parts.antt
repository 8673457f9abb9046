-- What holds of all parts, from what holds of the parts of what they stand in.
use Rattle.std.specs.Prelude.{flat_map}
use Rattle.std.specs.List.{list_all, list_any}
use Rattle.std.proofs.Common.{arith, ℕ, List, [], ◌∷◌, ◌++◌, ◌+◌, ◌<◌, ◌≡◌, Bool, true, false, ◌&&◌, refl, length, get_or, take, suc, sym, ◌∙◌, ap}
use Rattle.std.proofs.Math.Seq.{take-suc}
use Rattle.std.proofs.lemmas.Grind.{flat_map-append}
use Rattle.std.proofs.lemmas.List.{append-nil}
use Rattle.std.proofs.lemmas.List.Folds.{list_all-append, list_all-map}
use Rattle.css_tokens.specs.declared.component.Component.{Component}
use Rattle.sheet_types.specs.declared.sheet.Declaration.{Declaration}
use Rattle.sheet_types.specs.declared.sheet.Group.{Group}
use Rattle.sheet_types.specs.declared.sheet.Item as item
use Rattle.sheet_types.specs.declared.sheet.Passed.{Passed}
use Rattle.sheet_types.specs.declared.sheet.Style.{Style}
use Rattle.selector_types.specs.PartsFound.{parts-Class, parts-Id, parts-Attribute, parts-Pseudo, parts-Not, parts-Is, parts-Where, parts-Parent, parts-Local, parts-Global, parts-Foreign, parts-Compound, parts-Selector}
use Rattle.selector_types.specs.declared.selector.Part as part
use Rattle.selector_types.specs.declared.selector.Simple.TheVariants.{outs-Class, outs-Id, outs-Attribute, outs-Pseudo, outs-Not, outs-Is, outs-Where, outs-Parent, outs-Local, outs-Global, outs-Foreign}
use Rattle.target_check.specs.Targets.{Age, age-Plain, age-Style, age-Group, age-Passed, age-Other, declares, has_some, is_old_condition, is_old_declaration, is_old_item, is_old_part, is_old_selector, is_run}

-- how each simple selector lies open
pub ruleset opened = (outs-Class, outs-Id, outs-Attribute, outs-Pseudo, outs-Not, outs-Is, outs-Where, outs-Parent, outs-Local, outs-Global, outs-Foreign)

pub all-append : (ps qs : List part.Part) → list_all is_old_part (ps ++ qs) ≡ (list_all is_old_part ps && list_all is_old_part qs)
all-append ps qs = list_all-append is_old_part ps qs

and-swap : (a b : Bool) → (a && b) ≡ (b && a)
and-swap true true = refl
and-swap true false = refl
and-swap false true = refl
and-swap false false = refl

-- what holds of the parts of one item more
pub all-next : {X : Type 0} (g : X → List part.Part) (xs : List X) (i : ℕ) (x : X) → i < length xs → x ≡ get_or xs i x
    → list_all is_old_part (flat_map g (take (i + 1) xs)) ≡ (list_all is_old_part (g x) && list_all is_old_part (flat_map g (take i xs)))
all-next g xs i x within is =
    ap (list_all is_old_part) taken ∙ all-append (flat_map g (take i xs)) (g x) ∙ and-swap (list_all is_old_part (flat_map g (take i xs))) (list_all is_old_part (g x))
  where
    one-more : i + 1 ≡ suc i
    one-more = omega arith

    taken : flat_map g (take (i + 1) xs) ≡ flat_map g (take i xs) ++ g x
    taken =
        ap (λ n. flat_map g (take n xs)) one-more
        ∙ ap (flat_map g) (take-suc xs i x within ∙ ap (λ y. take i xs ++ y ∷ []) (sym is))
        ∙ flat_map-append g (take i xs) (x ∷ [])
        ∙ ap (λ ps. flat_map g (take i xs) ++ ps) (append-nil (g x))

pub ruleset simple_found = (parts-Class, parts-Id, parts-Attribute, parts-Pseudo, parts-Not, parts-Is, parts-Where, parts-Parent, parts-Local, parts-Global, parts-Foreign)

pub ruleset joined = (all-append, parts-Compound, parts-Selector)

-- Items.

pub run-Plain : (ds : List Declaration) → is_run (item.Plain ds) ≡ list_all is_old_declaration ds
run-Plain ds = ap (λ (a : Age). a.run) (age-Plain ds)

pub run-Style : (s : Style) → is_run (item.Style s) ≡ false
run-Style s = ap (λ (a : Age). a.run) (age-Style s)

pub run-Group : (g : Group) → is_run (item.Group g) ≡ false
run-Group g = ap (λ (a : Age). a.run) (age-Group g)

pub run-Passed : (rule : Passed) → is_run (item.Passed rule) ≡ false
run-Passed rule = ap (λ (a : Age). a.run) (age-Passed rule)

pub run-Other : (at : ℕ) → is_run (item.Other at) ≡ false
run-Other at = ap (λ (a : Age). a.run) (age-Other at)

-- which items are declarations that older browsers know
pub ruleset runs = (run-Plain, run-Style, run-Group, run-Passed, run-Other)

pub declares-Plain : (ds : List Declaration) → declares (item.Plain ds) ≡ has_some ds
declares-Plain ds = ap (λ (a : Age). a.declares) (age-Plain ds)

pub declares-Style : (s : Style) → declares (item.Style s) ≡ false
declares-Style s = ap (λ (a : Age). a.declares) (age-Style s)

pub declares-Group : (g : Group) → declares (item.Group g) ≡ false
declares-Group g = ap (λ (a : Age). a.declares) (age-Group g)

pub declares-Passed : (rule : Passed) → declares (item.Passed rule) ≡ false
declares-Passed rule = ap (λ (a : Age). a.declares) (age-Passed rule)

pub declares-Other : (at : ℕ) → declares (item.Other at) ≡ false
declares-Other at = ap (λ (a : Age). a.declares) (age-Other at)

-- which items declare anything
pub ruleset fills = (declares-Plain, declares-Style, declares-Group, declares-Passed, declares-Other)

pub old-Plain : (ds : List Declaration) → is_old_item (item.Plain ds) ≡ false
old-Plain ds = ap (λ (a : Age). a.old) (age-Plain ds)

pub old-Style : (s : Style) → is_old_item (item.Style s) ≡ (list_all is_old_selector s.selectors && (list_all is_run s.items && list_any declares s.items))
old-Style s = ap (λ (a : Age). a.old) (age-Style s)

pub old-Group : (g : Group) → is_old_item (item.Group g) ≡ (is_old_condition g.condition && (has_some g.items && list_all is_old_item g.items))
old-Group g = ap (λ (a : Age). a.old) (age-Group g)

pub old-Passed : (rule : Passed) → is_old_item (item.Passed rule) ≡ true
old-Passed rule = ap (λ (a : Age). a.old) (age-Passed rule)

pub old-Other : (at : ℕ) → is_old_item (item.Other at) ≡ false
old-Other at = ap (λ (a : Age). a.old) (age-Other at)

-- which items of a sheet or a group older browsers read
pub ruleset olds = (old-Plain, old-Style, old-Group, old-Passed, old-Other)
