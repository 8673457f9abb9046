-- The values that a supports condition asks for, and that each stands in a text (Conditional Rules 3, section 6; CSS Syntax 3, section 4).
use Rattle.std.specs.Prelude.{ℕ, List, [], ◌∷◌, ◌++◌, ◌≡◌, true, flat_map}
use Rattle.std.specs.List.{AllByRecursion}
use Rattle.css_tokens.specs.Again.{is_stop}
use Rattle.css_tokens.specs.Piece.{spelled}
use Rattle.css_tokens.specs.Tokens.{ReadsTo, classes_of}
use Rattle.css_tokens.specs.Trees.{words_all}
use Rattle.css_tokens.specs.declared.component.Component.{Component}
use Rattle.media_spelling.specs.declared.supports.Supports.{Supports}
use Rattle.media_spelling.specs.SupportsFold.{Steps, folded}

-- the value of a declaration, and those of the conditions in a condition, in order
abbrev pub gathering : Steps (List (List Component))
gathering = record {
  and_of = λ inner. flat_map (λ (values : List (List Component)). values) inner;
  or_of = λ inner. flat_map (λ (values : List (List Component)). values) inner;
  not_of = λ values. values;
  declared = λ name value. value ∷ [];
  function = λ at. [];
}

-- the values of all declarations in a supports condition
abbrev pub supports_values : Supports → List (List Component)
supports_values = folded gathering

-- the tokens of the value are read one after another in some text, before a stop
pub record ValueStands (value : List Component) : Type 0 where
  pub behind : List ℕ
  pub stop : is_stop (classes_of behind) ≡ true
  pub reads : ReadsTo (spelled (words_all value) ++ behind) (words_all value) behind

-- each value that the condition asks for stands so
abbrev pub DeclaredValuesStand : Supports → Type 0
DeclaredValuesStand s = AllByRecursion ValueStands (supports_values s)
