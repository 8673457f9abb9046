-- How conditions and components that are written out compute.
use Rattle.std.proofs.Common.{◌≡◌, ℕ, List, [], ◌∷◌, ◌++◌, map, ap}
use Rattle.std.specs.Prelude.{Option, codes}
use Rattle.css_tokens.specs.declared.component.Component.{Component}
use Rattle.css_tokens.specs.declared.component.Component as component
use Rattle.css_tokens.specs.declared.component.Component.TheOpen.{Component-F, Single, Block}
use Rattle.css_tokens.specs.declared.component.Component.TheVariants.{outs-Single, outs-Block}
use Rattle.css_tokens.specs.Piece.{Piece}
use Rattle.css_tokens.specs.Trees.{closing, pieces_all, pieces_of, pieces_of-Single, pieces_of-Block, is_formed-Single}
use Rattle.css_tokens.specs.ValueAgain.{shortened-Single, parted_within-Single, takes_last-Single, head_kind-Single}
use Rattle.css_tokens.specs.declared.kind.Kind.TheVariants as kinds
use Rattle.media_spelling.specs.declared.condition.Bound.{Bound}
use Rattle.media_spelling.specs.declared.condition.Condition.{Condition}
use Rattle.media_spelling.specs.declared.condition.Condition as condition
use Rattle.media_spelling.specs.declared.supports.Supports.{Supports}
use Rattle.media_spelling.specs.declared.supports.Supports as supports_condition
use Rattle.media_spelling.specs.Components.{block}
use Rattle.media_spelling.specs.Spelling.{Spelled, alternative, compound, declaration_spelling, enclosed, feature_spelling, joined, negated, range_spelling, spelled_condition, spelled_supports, spelling, supports_steps}
use Rattle.media_spelling.specs.ConditionFold as condition_fold
use Rattle.media_spelling.specs.SupportsFold as supports_fold

-- a block that is written out: its tokens, and what it is laid open
pub made-pieces : (opening : Piece) (items : List Component) (close : ℕ)
    → pieces_of (component.Block (record { opening = opening; items = items; close = close })) ≡ opening ∷ pieces_all items ++ closing opening close ∷ []
made-pieces opening items close = pieces_of-Block (record { opening = opening; items = items; close = close })

pub made-out : (opening : Piece) (items : List Component) (close : ℕ)
    → component.out-Component (component.Block (record { opening = opening; items = items; close = close })) ≡ Block (record { opening = opening; items = items; close = close })
made-out opening items close = outs-Block (record { opening = opening; items = items; close = close })

-- how each kind of condition is spelled in each place
pub alone-And : (cs : List Condition) → (spelled_condition (condition.And cs)).alone ≡ (let s : Spelled = compound (joined (codes "and") (map spelled_condition cs)) in s.alone)
alone-And cs = ap (λ (s : Spelled). s.alone) (condition_fold.folded-And spelling cs)

pub inside-And : (cs : List Condition) → (spelled_condition (condition.And cs)).inside ≡ (let s : Spelled = compound (joined (codes "and") (map spelled_condition cs)) in s.inside)
inside-And cs = ap (λ (s : Spelled). s.inside) (condition_fold.folded-And spelling cs)

pub behind-And : (cs : List Condition) → (spelled_condition (condition.And cs)).behind ≡ (let s : Spelled = compound (joined (codes "and") (map spelled_condition cs)) in s.behind)
behind-And cs = ap (λ (s : Spelled). s.behind) (condition_fold.folded-And spelling cs)

pub alone-Or : (cs : List Condition) → (spelled_condition (condition.Or cs)).alone ≡ (let s : Spelled = alternative (joined (codes "or") (map spelled_condition cs)) in s.alone)
alone-Or cs = ap (λ (s : Spelled). s.alone) (condition_fold.folded-Or spelling cs)

pub inside-Or : (cs : List Condition) → (spelled_condition (condition.Or cs)).inside ≡ (let s : Spelled = alternative (joined (codes "or") (map spelled_condition cs)) in s.inside)
inside-Or cs = ap (λ (s : Spelled). s.inside) (condition_fold.folded-Or spelling cs)

pub behind-Or : (cs : List Condition) → (spelled_condition (condition.Or cs)).behind ≡ (let s : Spelled = alternative (joined (codes "or") (map spelled_condition cs)) in s.behind)
behind-Or cs = ap (λ (s : Spelled). s.behind) (condition_fold.folded-Or spelling cs)

pub alone-Not : (c : Condition) → (spelled_condition (condition.Not c)).alone ≡ (let s : Spelled = compound (negated (spelled_condition c)) in s.alone)
alone-Not c = ap (λ (s : Spelled). s.alone) (condition_fold.folded-Not spelling c)

pub inside-Not : (c : Condition) → (spelled_condition (condition.Not c)).inside ≡ (let s : Spelled = compound (negated (spelled_condition c)) in s.inside)
inside-Not c = ap (λ (s : Spelled). s.inside) (condition_fold.folded-Not spelling c)

pub behind-Not : (c : Condition) → (spelled_condition (condition.Not c)).behind ≡ (let s : Spelled = compound (negated (spelled_condition c)) in s.behind)
behind-Not c = ap (λ (s : Spelled). s.behind) (condition_fold.folded-Not spelling c)

pub alone-Feature : (name : List ℕ) (value : Option (List ℕ)) → (spelled_condition (condition.Feature (record { name = name; value = value }))).alone ≡ (let s : Spelled = enclosed (feature_spelling (record { name = name; value = value })) in s.alone)
alone-Feature name value = ap (λ (s : Spelled). s.alone) (condition_fold.folded-Feature spelling (record { name = name; value = value }))

pub inside-Feature : (name : List ℕ) (value : Option (List ℕ)) → (spelled_condition (condition.Feature (record { name = name; value = value }))).inside ≡ (let s : Spelled = enclosed (feature_spelling (record { name = name; value = value })) in s.inside)
inside-Feature name value = ap (λ (s : Spelled). s.inside) (condition_fold.folded-Feature spelling (record { name = name; value = value }))

pub behind-Feature : (name : List ℕ) (value : Option (List ℕ)) → (spelled_condition (condition.Feature (record { name = name; value = value }))).behind ≡ (let s : Spelled = enclosed (feature_spelling (record { name = name; value = value })) in s.behind)
behind-Feature name value = ap (λ (s : Spelled). s.behind) (condition_fold.folded-Feature spelling (record { name = name; value = value }))

pub alone-Range : (name : List ℕ) (first : Bound) (second : Option Bound) → (spelled_condition (condition.Range (record { name = name; first = first; second = second }))).alone ≡ (let s : Spelled = enclosed (range_spelling (record { name = name; first = first; second = second })) in s.alone)
alone-Range name first second = ap (λ (s : Spelled). s.alone) (condition_fold.folded-Range spelling (record { name = name; first = first; second = second }))

pub inside-Range : (name : List ℕ) (first : Bound) (second : Option Bound) → (spelled_condition (condition.Range (record { name = name; first = first; second = second }))).inside ≡ (let s : Spelled = enclosed (range_spelling (record { name = name; first = first; second = second })) in s.inside)
inside-Range name first second = ap (λ (s : Spelled). s.inside) (condition_fold.folded-Range spelling (record { name = name; first = first; second = second }))

pub behind-Range : (name : List ℕ) (first : Bound) (second : Option Bound) → (spelled_condition (condition.Range (record { name = name; first = first; second = second }))).behind ≡ (let s : Spelled = enclosed (range_spelling (record { name = name; first = first; second = second })) in s.behind)
behind-Range name first second = ap (λ (s : Spelled). s.behind) (condition_fold.folded-Range spelling (record { name = name; first = first; second = second }))

pub supports-alone-And : (cs : List Supports) → (spelled_supports (supports_condition.And cs)).alone ≡ (let s : Spelled = compound (joined (codes "and") (map spelled_supports cs)) in s.alone)
supports-alone-And cs = ap (λ (s : Spelled). s.alone) (supports_fold.folded-And supports_steps cs)

pub supports-inside-And : (cs : List Supports) → (spelled_supports (supports_condition.And cs)).inside ≡ (let s : Spelled = compound (joined (codes "and") (map spelled_supports cs)) in s.inside)
supports-inside-And cs = ap (λ (s : Spelled). s.inside) (supports_fold.folded-And supports_steps cs)

pub supports-alone-Or : (cs : List Supports) → (spelled_supports (supports_condition.Or cs)).alone ≡ (let s : Spelled = compound (joined (codes "or") (map spelled_supports cs)) in s.alone)
supports-alone-Or cs = ap (λ (s : Spelled). s.alone) (supports_fold.folded-Or supports_steps cs)

pub supports-inside-Or : (cs : List Supports) → (spelled_supports (supports_condition.Or cs)).inside ≡ (let s : Spelled = compound (joined (codes "or") (map spelled_supports cs)) in s.inside)
supports-inside-Or cs = ap (λ (s : Spelled). s.inside) (supports_fold.folded-Or supports_steps cs)

pub supports-alone-Not : (c : Supports) → (spelled_supports (supports_condition.Not c)).alone ≡ (let s : Spelled = compound (negated (spelled_supports c)) in s.alone)
supports-alone-Not c = ap (λ (s : Spelled). s.alone) (supports_fold.folded-Not supports_steps c)

pub supports-inside-Not : (c : Supports) → (spelled_supports (supports_condition.Not c)).inside ≡ (let s : Spelled = compound (negated (spelled_supports c)) in s.inside)
supports-inside-Not c = ap (λ (s : Spelled). s.inside) (supports_fold.folded-Not supports_steps c)

pub supports-alone-Declared : (name : List ℕ) (value : List Component) → (spelled_supports (supports_condition.Declared name value)).alone ≡ (let s : Spelled = enclosed (declaration_spelling name value) in s.alone)
supports-alone-Declared name value = ap (λ (s : Spelled). s.alone) (supports_fold.folded-Declared supports_steps name value)

pub supports-inside-Declared : (name : List ℕ) (value : List Component) → (spelled_supports (supports_condition.Declared name value)).inside ≡ (let s : Spelled = enclosed (declaration_spelling name value) in s.inside)
supports-inside-Declared name value = ap (λ (s : Spelled). s.inside) (supports_fold.folded-Declared supports_steps name value)

pub supports-alone-Function : (at : ℕ) → (spelled_supports (supports_condition.Function at)).alone ≡ (let s : Spelled = enclosed (block kinds.Function (codes "f(") []) in s.alone)
supports-alone-Function at = ap (λ (s : Spelled). s.alone) (supports_fold.folded-Function supports_steps at)

pub supports-inside-Function : (at : ℕ) → (spelled_supports (supports_condition.Function at)).inside ≡ (let s : Spelled = enclosed (block kinds.Function (codes "f(") []) in s.inside)
supports-inside-Function at = ap (λ (s : Spelled). s.inside) (supports_fold.folded-Function supports_steps at)

-- the equations by which the worked examples compute
pub ruleset computing = (outs-Single, made-out, pieces_of-Single, made-pieces, is_formed-Single, shortened-Single, parted_within-Single, takes_last-Single, head_kind-Single, alone-And, inside-And, behind-And, alone-Or, inside-Or, behind-Or, alone-Not, inside-Not, behind-Not, alone-Feature, inside-Feature, behind-Feature, alone-Range, inside-Range, behind-Range, supports-alone-And, supports-inside-And, supports-alone-Or, supports-inside-Or, supports-alone-Not, supports-inside-Not, supports-alone-Declared, supports-inside-Declared, supports-alone-Function, supports-inside-Function)
