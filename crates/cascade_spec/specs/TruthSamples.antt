-- A device for the worked examples, and what holds on it.
use Prim.Native.String.{String}
use Rattle.std.specs.Prelude.{ℕ, List, [], ◌∷◌, ℤ, pos, Bool, codes}
use Rattle.media_spelling.specs.declared.condition.Condition.{Condition}
use Rattle.media_spelling.specs.declared.condition.Query.{Query}
use Rattle.media_spelling.specs.declared.supports.Supports.{Supports}
use Rattle.cascade_spec.specs.declared.environment.Environment.{Environment}
use Rattle.cascade_spec.specs.Truth.{condition_holds, queries_hold, supports_hold}

-- a name or a value, and its number
abbrev pub numbered : String → ℕ → List ℕ × ℤ
numbered text number = (codes text, pos number)

-- A screen 700px wide, with 8 bits for each color, in a browser that takes `display:grid`. What is listed for `color` a second time
-- counts for nothing.
abbrev pub screen : Environment
screen = record {
  media = codes "screen";
  numbers = numbered "width" 700 ∷ numbered "color" 8 ∷ numbered "color" 0 ∷ numbered "monochrome" 0 ∷ [];
  values = numbered "400px" 400 ∷ numbered "700px" 700 ∷ numbered "900px" 900 ∷ numbered "8" 8 ∷ numbered "0" 0 ∷ [];
  features = codes "color" ∷ codes "orientation:landscape" ∷ codes "min-orientation:portrait" ∷ [];
  supports = codes "display:grid" ∷ [];
  unknown = [];
  rejected = [];
  shorthands = [];
}

-- does the condition hold on it?
abbrev pub here : Condition → Bool
here c = condition_holds screen c

-- does the media list?
abbrev pub list_here : List Query → Bool
list_here qs = queries_hold screen qs

-- does the supports condition?
abbrev pub supported_here : Supports → Bool
supported_here s = supports_hold screen s
