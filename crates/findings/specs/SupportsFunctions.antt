-- The functions of supports conditions (Conditional Rules 4, section 2).
use Rattle.std.specs.Prelude.{ℕ, List, [], ◌∷◌, flat_map, ◌≡◌}
use Rattle.std.proofs.Common.{◌∙◌}
use Rattle.std.proofs.lemmas.List.Folds.{flat_map-map}
use Rattle.css_tokens.specs.declared.component.Component.{Component}
use Rattle.media_spelling.specs.SupportsFold.{Steps, folded, folded-And, folded-Or, folded-Not, folded-Declared, folded-Function}
use Rattle.media_spelling.specs.declared.supports.Supports.{Supports}
use Rattle.media_spelling.specs.declared.supports.Supports as supports
use Rattle.css_places.specs.declared.finding.Code.TheVariants.{X17}
use Rattle.css_places.specs.declared.finding.Finding.{Finding}
use Rattle.findings.specs.Found.{found_at}

-- each function at its place, one after another
abbrev pub calling : ℕ → Steps (List Finding)
calling file = record {
  and_of = λ inner. flat_map (λ (found : List Finding). found) inner;
  or_of = λ inner. flat_map (λ (found : List Finding). found) inner;
  not_of = λ found. found;
  declared = λ name value. [];
  function = λ at. found_at file at X17 ∷ [];
}

-- what stands in a supports condition of this file: its functions (X17)
abbrev pub supports_findings : ℕ → Supports → List Finding
supports_findings file = folded (calling file)

-- Equations.

pub called-And : (file : ℕ) (cs : List Supports) → supports_findings file (supports.And cs) ≡ flat_map (supports_findings file) cs
called-And file cs = folded-And (calling file) cs ∙ flat_map-map (λ (found : List Finding). found) (supports_findings file) cs

pub called-Or : (file : ℕ) (cs : List Supports) → supports_findings file (supports.Or cs) ≡ flat_map (supports_findings file) cs
called-Or file cs = folded-Or (calling file) cs ∙ flat_map-map (λ (found : List Finding). found) (supports_findings file) cs

pub called-Not : (file : ℕ) (c : Supports) → supports_findings file (supports.Not c) ≡ supports_findings file c
called-Not file c = folded-Not (calling file) c

pub called-Declared : (file : ℕ) (name : List ℕ) (value : List Component) → supports_findings file (supports.Declared name value) ≡ []
called-Declared file name value = folded-Declared (calling file) name value

pub called-Function : (file at : ℕ) → supports_findings file (supports.Function at) ≡ found_at file at X17 ∷ []
called-Function file at = folded-Function (calling file) at
