-- Layers, rules, groups and questions over a small document, for the examples.
use Rattle.std.specs.Prelude.{ℕ, List, [], ◌∷◌, ◌++◌, map, flat_map, Bool, true, false, codes}
use Prim.Native.String.{String}
use Rattle.css_tokens.specs.declared.kind.Kind.TheVariants as kinds
use Rattle.css_tokens.specs.declared.component.Component as component
use Rattle.media_spelling.specs.Samples.{media}
use Rattle.media_spelling.specs.declared.condition.Prefix.TheVariants.{Plain}
use Rattle.sheet_types.specs.declared.sheet.GroupCondition.{GroupCondition}
use Rattle.sheet_types.specs.declared.sheet.GroupCondition.TheVariants.{Media}
use Rattle.sheet_types.specs.declared.sheet.LayerName.TheVariants as LayerName
use Rattle.sheet_types.specs.Contexts.{LayerPath, Context, outside}
use Rattle.sheet_types.specs.Statements.{BareDeclaration, BarePassed, Statement, Declares, Mentions}
use Rattle.selector_types.specs.declared.selector.Compound.{Compound}
use Rattle.selector_types.specs.declared.selector.Selector.{Selector}
use Rattle.selector_types.specs.declared.triple.Specificity.{Specificity}
use Rattle.selector_types.specs.Samples.{every, one}
use Rattle.cascade_spec.specs.Matching.{Subject, alone}
use Rattle.cascade_spec.specs.Standings.{Standing, standing_of}
use Rattle.cascade_spec.specs.Entries.{Entry}
use Rattle.cascade_spec.specs.Cascade.{Question, Shown}
use Rattle.cascade_spec.specs.SelectorSamples.{page, either}

-- Layers.

-- a layer of this name
abbrev pub layer : String → LayerPath
layer name = LayerName.Named (codes name) ∷ []

-- a layer in a layer, the outer name first
abbrev pub sublayer : String → String → LayerPath
sublayer name inner = LayerName.Named (codes name) ∷ LayerName.Named (codes inner) ∷ []

-- a layer in a layer in a layer, the outermost name first
abbrev pub innermost : String → String → String → LayerPath
innermost name inner last = LayerName.Named (codes name) ∷ LayerName.Named (codes inner) ∷ LayerName.Named (codes last) ∷ []

-- the anonymous layer of this number
abbrev pub unnamed : ℕ → LayerPath
unnamed number = LayerName.Anonymous number ∷ []

-- the layers that `@layer reset, base, base.theme` mentions
abbrev pub mentions : List LayerPath
mentions = layer "reset" ∷ layer "base" ∷ sublayer "base" "theme" ∷ []

-- the layers that `@layer reset, base, base.theme, base.reset, base.theme.dark, base.theme.light, reset` mentions
abbrev pub more_mentions : List LayerPath
more_mentions =
    layer "reset" ∷ layer "base" ∷ sublayer "base" "theme" ∷ sublayer "base" "reset" ∷ innermost "base" "theme" "dark" ∷ innermost "base" "theme" "light" ∷ layer "reset" ∷ []

-- what a declaration in a layer shows
abbrev pub seen : LayerPath → Specificity → String → Shown
seen path specific value = record { layer = path; specific = specific; value = codes value }

-- Rules.

-- the top of a sheet
abbrev pub at_top : Standing
at_top = standing_of page outside

-- a physical declaration that is not important, and one that is
abbrev pub entry : String → String → Entry
entry name value = record { name = codes name; value = codes value; important = false }

abbrev pub important_entry : String → String → Entry
important_entry name value = record { name = codes name; value = codes value; important = true }

-- a declaration whose value is one token of this text
abbrev pub declared : Bool → String → String → BareDeclaration
declared important name value = record { name = codes name; value = component.Single (record { kind = kinds.Ident; text = codes value; at = 0 }) ∷ []; important = important }

-- a declaration that is not important, and one that is
abbrev pub normal : String → String → BareDeclaration
normal name value = declared false name value

abbrev pub important : String → String → BareDeclaration
important name value = declared true name value

-- declarations inside these selector lists, in no layer
abbrev pub inside_lists : List (List Selector) → List BareDeclaration → List Statement
inside_lists chain declarations = map (Declares (record { layer = []; chain = chain; conditions = [] })) declarations

-- a rule whose selector is one compound
abbrev pub rule : Compound → List BareDeclaration → List Statement
rule k declarations = inside_lists ((one k ∷ []) ∷ []) declarations

-- a rule `#b, .a`
abbrev pub list_rule : List BareDeclaration → List Statement
list_rule declarations = inside_lists (either ∷ []) declarations

-- a rule in a rule `#b, .a`
abbrev pub nested_rule : Compound → List BareDeclaration → List Statement
nested_rule k declarations = inside_lists (either ∷ (one k ∷ []) ∷ []) declarations

-- a sheet of these rules
abbrev pub given : List (List Statement) → List Statement
given rules = flat_map (λ rule. rule) rules

-- a sheet that mentions these layers in their order, and then says this
abbrev pub layered : List LayerPath → List Statement → List Statement
layered order statements = map (Mentions outside) order ++ statements

-- a declaration in a rule `*` in this layer
abbrev pub in_layer : LayerPath → BareDeclaration → Statement
in_layer path d = Declares (record { layer = path; chain = (one every ∷ []) ∷ []; conditions = [] }) d

-- the condition of an `@media` rule with this media type
abbrev pub on : String → GroupCondition
on name = Media (media Plain name ∷ [])

-- the top of a sheet inside groups with these conditions, the outermost first
abbrev pub inside_groups : List GroupCondition → Context
inside_groups conditions = record { layer = []; chain = []; conditions = conditions }

-- a declaration in a rule `*` inside groups with these conditions, the outermost first
abbrev pub under : List GroupCondition → BareDeclaration → Statement
under conditions d = Declares (record { layer = []; chain = (one every ∷ []) ∷ []; conditions = conditions }) d

-- a rule that is passed on
abbrev pub passed : String → String → String → BarePassed
passed keyword prelude block = record { keyword = codes keyword; prelude = codes prelude; block = codes block }

-- a `@font-face` with this block
abbrev pub face : String → BarePassed
face block = passed "font-face" "" block

-- what a longhand of a subject is, among declarations of the importance
abbrev pub asked_of : Subject → Bool → String → Question
asked_of subject important longhand = record { world = page; subject = subject; longhand = codes longhand; important = important }

-- what a longhand of the paragraph `.a.red` is, among declarations of the importance
abbrev pub asked : Bool → String → Question
asked important longhand = asked_of (alone 3) important longhand
