-- Whether conditions that are written out hold.
use Rattle.std.proofs.Common.{◌≡◌, ℕ, List, [], ◌∷◌, ◌++◌, Bool, false, map, not, ◌∙◌, ap, refl}
use Rattle.std.specs.Prelude.{codes, Option, Some, None}
use Rattle.std.specs.List.{list_all, list_any}
use Rattle.css_tokens.specs.declared.kind.Kind.TheVariants as kinds
use Rattle.css_tokens.specs.declared.component.Component.{Component}
use Rattle.css_tokens.specs.NameText.{name_text}
use Rattle.css_tokens.specs.Trees.{is_text}
use Rattle.media_spelling.specs.declared.condition.Bound.{Bound}
use Rattle.media_spelling.specs.declared.condition.Condition.{Condition}
use Rattle.media_spelling.specs.declared.condition.Condition as condition
use Rattle.media_spelling.specs.declared.supports.Supports.{Supports}
use Rattle.media_spelling.specs.declared.supports.Supports as supports
use Rattle.media_spelling.specs.Components.{colon, ident, text_of}
use Rattle.media_spelling.specs.ConditionFold as condition_fold
use Rattle.media_spelling.specs.Spelling.{feature_value}
use Rattle.media_spelling.specs.SupportsFold as supports_fold
use Rattle.media_spelling.specs.TextComponents.{text_components}
use Rattle.media_spelling.proofs.SpellingTexts.{text-components, text-single}
use Rattle.cascade_spec.specs.declared.environment.Environment.{Environment}
use Rattle.cascade_spec.specs.Truth.{Compared, bound_holds, compared, condition_holds, condition_truth, is_supported, range_holds, supports_hold, supports_truth, valued_holds}

-- the text of a feature without parentheses
bare-text : (name : List ℕ) → text_of (ident name ∷ []) ≡ name_text name ++ []
bare-text name = text-single kinds.Ident (name_text name) []

valued-text : (name value : List ℕ) → text_of (ident name ∷ feature_value (Some value)) ≡ name_text name ++ (codes ":" ++ value)
valued-text name value =
    text-single kinds.Ident (name_text name) (feature_value (Some value))
    ∙ ap (λ (t : List ℕ). name_text name ++ t) (text-single kinds.Colon (codes ":") (text_components value) ∙ ap (λ (t : List ℕ). codes ":" ++ t) (text-components value))

-- whether a feature with a value holds, by what its name compares
abbrev pub told : Environment → List ℕ → List ℕ → Option Compared → Bool
told env name value (Some c) = bound_holds env c.name (record { relation = c.relation; value = value })
told env name value None = list_any (is_text (name_text name ++ (codes ":" ++ value))) env.features

valued-told : (env : Environment) (name value : List ℕ) (o : Option Compared) → valued_holds env (record { name = name; value = Some value }) value o ≡ told env name value o
valued-told env name value (Some c) = refl
valued-told env name value None = ap (λ (t : List ℕ). list_any (is_text t) env.features) (valued-text name value)

pub truth-valued : (env : Environment) (name value : List ℕ) → condition_holds env (condition.Feature (record { name = name; value = Some value })) ≡ told env name value (compared name)
truth-valued env name value = condition_fold.folded-Feature (condition_truth env) (record { name = name; value = Some value }) ∙ valued-told env name value (compared name)

pub truth-bare : (env : Environment) (name : List ℕ) → condition_holds env (condition.Feature (record { name = name; value = None })) ≡ list_any (is_text (name_text name ++ [])) env.features
truth-bare env name = condition_fold.folded-Feature (condition_truth env) (record { name = name; value = None }) ∙ ap (λ (t : List ℕ). list_any (is_text t) env.features) (bare-text name)

pub truth-Range : (env : Environment) (name : List ℕ) (first : Bound) (second : Option Bound)
    → condition_holds env (condition.Range (record { name = name; first = first; second = second })) ≡ range_holds env (record { name = name; first = first; second = second })
truth-Range env name first second = condition_fold.folded-Range (condition_truth env) (record { name = name; first = first; second = second })

pub truth-And : (env : Environment) (cs : List Condition) → condition_holds env (condition.And cs) ≡ list_all (λ b. b) (map (condition_holds env) cs)
truth-And env cs = condition_fold.folded-And (condition_truth env) cs

pub truth-Or : (env : Environment) (cs : List Condition) → condition_holds env (condition.Or cs) ≡ list_any (λ b. b) (map (condition_holds env) cs)
truth-Or env cs = condition_fold.folded-Or (condition_truth env) cs

pub truth-Not : (env : Environment) (c : Condition) → condition_holds env (condition.Not c) ≡ not (condition_holds env c)
truth-Not env c = condition_fold.folded-Not (condition_truth env) c

pub ruleset truths = (truth-And, truth-Or, truth-Not, truth-bare, truth-valued, truth-Range)

pub supported-And : (env : Environment) (cs : List Supports) → supports_hold env (supports.And cs) ≡ list_all (λ b. b) (map (supports_hold env) cs)
supported-And env cs = supports_fold.folded-And (supports_truth env) cs

pub supported-Or : (env : Environment) (cs : List Supports) → supports_hold env (supports.Or cs) ≡ list_any (λ b. b) (map (supports_hold env) cs)
supported-Or env cs = supports_fold.folded-Or (supports_truth env) cs

pub supported-Not : (env : Environment) (c : Supports) → supports_hold env (supports.Not c) ≡ not (supports_hold env c)
supported-Not env c = supports_fold.folded-Not (supports_truth env) c

pub supported-Declared : (env : Environment) (name : List ℕ) (value : List Component) → supports_hold env (supports.Declared name value) ≡ is_supported env name value
supported-Declared env name value = supports_fold.folded-Declared (supports_truth env) name value

pub supported-Function : (env : Environment) (at : ℕ) → supports_hold env (supports.Function at) ≡ false
supported-Function env at = supports_fold.folded-Function (supports_truth env) at

pub ruleset supported = (supported-And, supported-Or, supported-Not, supported-Declared, supported-Function)
