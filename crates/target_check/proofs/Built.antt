-- A declaration that is read is one that older browsers know.
use Rattle.std.specs.Prelude.{codes}
use Rattle.std.specs.List.{list_all, list_any}
use Rattle.std.proofs.Common.{◌≡◌, ℕ, List, [], ◌∷◌, Bool, true, false, ◌&&◌, ◌||◌, not, refl, sym, ◌∙◌, ap}
use Rattle.std.proofs.lemmas.Bool.{and_parts}
use Rattle.std.proofs.lemmas.Slice.Eq.{bytes_eq-Decides}
use Rattle.css_tokens.specs.Trees.{is_text}
use Rattle.css_rules.specs.Refusals.{has_sought, is_unbuilt_property, sought_for}
use Rattle.css_rules.specs.Sheets.{is_unbuilt}
use Rattle.sheet_types.specs.declared.sheet.Declaration.{Declaration}
use Rattle.prop_table.specs.LogicalProperties.{is_logical, logical_properties}
use Rattle.target_check.specs.Targets.{is_axis, is_flow_value, is_old_declaration, is_old_property, is_side}

-- the name is this word, so what holds of the word holds of it
same-waits : (name word : List ℕ) → is_text name word ≡ true → is_unbuilt_property word ≡ true → is_unbuilt_property name ≡ true
same-waits name word is waits = ap is_unbuilt_property ((bytes_eq-Decides name word).0 is) ∙ waits

-- and what holds of each word of a list, where the name is one of them
one-waits : (name : List ℕ) (words : List (List ℕ)) → list_any (is_text name) words ≡ true → list_all is_unbuilt_property words ≡ true → is_unbuilt_property name ≡ true
one-waits name [] is waits = absurd (cc is)
one-waits name (word ∷ words) is waits =
    let rest = (and_parts (is_unbuilt_property word) (list_all is_unbuilt_property words) waits).1 in
    by (is_text name word) refl (λ (h : list_any (is_text name) words ≡ true). one-waits name words h rest) is
  where
    by : (here : Bool) → is_text name word ≡ here → (list_any (is_text name) words ≡ true → is_unbuilt_property name ≡ true) → (here || list_any (is_text name) words) ≡ true → is_unbuilt_property name ≡ true
    by true e more h = same-waits name word e (and_parts (is_unbuilt_property word) (list_all is_unbuilt_property words) waits).0
    by false e more h = more h

pub logical-waits : (name : List ℕ) → is_logical name ≡ true → is_unbuilt_property name ≡ true
logical-waits name is = one-waits name logical_properties is refl

-- so are `float`, `clear` and `resize`
flow-waits : (name : List ℕ) (float clear resize side axis : Bool)
    → (float ≡ true → is_unbuilt_property name ≡ true) → (clear ≡ true → is_unbuilt_property name ≡ true) → (resize ≡ true → is_unbuilt_property name ≡ true)
    → (((float || clear) && side) || (resize && axis)) ≡ true → is_unbuilt_property name ≡ true
flow-waits name true clear resize side axis f c r is = f refl
flow-waits name false true resize side axis f c r is = c refl
flow-waits name false false true side axis f c r is = r refl
flow-waits name false false false side axis f c r is = absurd (cc is)

fails : (a b : Bool) → (a ≡ true → b ≡ true) → b ≡ false → not a ≡ true
fails true b h is = let clash : true ≡ false = sym (h refl) ∙ is in absurd (cc clash)
fails false b h is = refl

first-false : (a b : Bool) → (a || b) ≡ false → a ≡ false
first-false true b none = none
first-false false b none = refl

both : (a b : Bool) → a ≡ true → b ≡ true → (a && b) ≡ true
both a b h k = ap (λ c. c && b) h ∙ k

pub built-old : (d : Declaration) → is_unbuilt d ≡ false → is_old_declaration d ≡ true
built-old d built =
    let name = d.name in
    let value = d.value in
    let waits = is_unbuilt_property name in
    let built_name : waits ≡ false = first-false waits (has_sought (sought_for name) value) built in
    let composes = fails (is_text name (codes "composes")) waits (λ (is : is_text name (codes "composes") ≡ true). same-waits name (codes "composes") is refl) built_name in
    let logical = fails (is_logical name) waits (logical-waits name) built_name in
    let flow = fails (is_flow_value name value) waits (flow-waits name (is_text name (codes "float")) (is_text name (codes "clear")) (is_text name (codes "resize")) (is_side value) (is_axis value)
    (λ (is : is_text name (codes "float") ≡ true). same-waits name (codes "float") is refl)
    (λ (is : is_text name (codes "clear") ≡ true). same-waits name (codes "clear") is refl)
    (λ (is : is_text name (codes "resize") ≡ true). same-waits name (codes "resize") is refl)) built_name in
    both (is_old_property name) (not (is_flow_value name value)) (both (not (is_text name (codes "composes"))) (not (is_logical name)) composes logical) flow
