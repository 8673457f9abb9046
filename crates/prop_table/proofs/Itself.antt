-- What physical declarations are, and what they stand for.
use Rattle.std.specs.Prelude.{ℕ, List, [], ◌∷◌, Bool, true, false, ◌||◌, Option, Some, None}
use Rattle.std.specs.List.{find, list_any, zip}
use Rattle.std.specs.Option.{option_map}
use Rattle.std.proofs.Common.{◌≡◌, ◌∙◌, ap, cond, refl, sym}
use Rattle.std.proofs.lemmas.Bool.{false≢true}
use Rattle.css_tokens.specs.declared.component.Component.{Component}
use Rattle.prop_table.specs.LogicalProperties.{is_logical}
use Rattle.prop_table.specs.PhysicalProperties.{declares, flow_keywords, is_flow_part, is_flow_value, is_keyword, meaning_among, meanings, parts_of, physical, physical_logical, physical_value, replaced, value_by_parts}
use Rattle.prop_table.specs.declared.mode.Mode.{Mode}

-- Of keywords that a component is none of, it has no meaning.
no-pair : (b r : Bool) (pair : List ℕ × List ℕ) (rest : Option (List ℕ × List ℕ)) → (b || r) ≡ false → (r ≡ false → option_map (λ p. p.1) rest ≡ None)
    → option_map (λ p. p.1) (cond b (Some pair) rest) ≡ None
no-pair true r pair rest h none = absurd (false≢true (sym h))
no-pair false r pair rest h none = none h

no-meaning : (part : Component) (keywords meant : List (List ℕ)) → list_any (λ keyword. is_keyword keyword part) keywords ≡ false → meaning_among keywords meant part ≡ None
no-meaning part [] meant h = refl
no-meaning part (k ∷ ks) [] h = refl
no-meaning part (k ∷ ks) (m ∷ ms) h =
    no-pair (is_keyword k part) (list_any (λ keyword. is_keyword keyword part) ks) (k, m) (find (λ pair. is_keyword pair.0 part) (zip ks ms)) h (no-meaning part ks ms)

kept-by-parts : (mode : Mode) (name : List ℕ) (value parts : List Component) → is_flow_part name parts ≡ false → value_by_parts mode name value parts ≡ value
kept-by-parts mode name value [] h = refl
kept-by-parts mode name value (part ∷ []) h = ap (replaced value part) (no-meaning part (flow_keywords name) (meanings mode name) h)
kept-by-parts mode name value (part ∷ more ∷ rest) h = refl

-- A value that is no keyword of the flow is kept.
pub kept-value : (mode : Mode) (name : List ℕ) (value : List Component) → is_flow_value name value ≡ false → physical_value mode name value ≡ value
kept-value mode name value h = kept-by-parts mode name value (parts_of value) h

-- A declaration of no logical property stands for one.
pub not-logical-told : (mode : Mode) (name : List ℕ) (value : List Component) → is_logical name ≡ false → physical mode name value ≡ declares name (physical_value mode name value) ∷ []
not-logical-told mode name value h = ap (λ b. cond b (physical_logical mode name value) (declares name (physical_value mode name value) ∷ [])) h

pub old-itself : (mode : Mode) (name : List ℕ) (value : List Component) → is_logical name ≡ false → is_flow_value name value ≡ false → physical mode name value ≡ declares name value ∷ []
old-itself mode name value old plain = not-logical-told mode name value old ∙ ap (λ v. declares name v ∷ []) (kept-value mode name value plain)
