-- What the statements of a sheet show to a question (CSS Cascading 5, section 6): three lists, of entries, of mentions of layers and of passed rules.
use Rattle.std.specs.Prelude.{ℕ, List, [], ◌∷◌, ◌++◌, flat_map, Bool, ◌&&◌, Option, None, if◌then◌else◌}
use Rattle.std.specs.List.{filter_map, list_any}
use Rattle.std.specs.Option.{option_map}
use Rattle.css_tokens.specs.Trees.{is_text}
use Rattle.sheet_types.specs.Contexts.{LayerPath}
use Rattle.sheet_types.specs.Statements.{BareDeclaration, BarePassed, Statement, Declares, Passes, Mentions}
use Rattle.cascade_spec.specs.Worlds.{World}
use Rattle.cascade_spec.specs.Standings.{Standing, standing_of}
use Rattle.cascade_spec.specs.Entries.{Entry, entries_of, is_active, value_set}
use Rattle.cascade_spec.specs.Cascade.{Question, Shown, same_importance, winning}

-- does the entry have the importance that is asked for, is it active, and does it match the subject?
abbrev pub applies : Question → Standing → Entry → Bool
applies q s e = same_importance e.important q.important && (is_active q.world.environment s e && s.around.holds q.subject)

-- what an entry that stands so shows to a question, where it applies and sets the longhand
abbrev pub entry_shows : Question → Standing → Entry → Option Shown
entry_shows q s e =
    if applies q s e
    then option_map (λ value. record { layer = s.layer; specific = s.around.specific q.subject; value = value }) (value_set q.world.environment e q.longhand)
    else None

-- what the entries of a declaration that stands so show
abbrev pub declaration_shows : Question → Standing → BareDeclaration → List Shown
declaration_shows q s d = filter_map (entry_shows q s) (entries_of q.world d)

-- what the entries of a statement show
abbrev pub entries_shown : Question → Statement → List Shown
entries_shown q (Declares c d) = declaration_shows q (standing_of q.world c) d
entries_shown q (Passes c rule) = []
entries_shown q (Mentions c path) = []

-- what stands so, where its conditions hold
abbrev pub where_holding : {A : Type 0} → Standing → A → List A
where_holding s x = if s.holds then x ∷ [] else []

-- the layer that a statement mentions, where the conditions round it hold
abbrev pub layers_shown : World → Statement → List LayerPath
layers_shown world (Declares c d) = []
layers_shown world (Passes c rule) = []
layers_shown world (Mentions c path) = where_holding (standing_of world c) path

-- the rule that a statement passes on, where the conditions round it hold
abbrev pub passed_shown : World → Statement → List BarePassed
passed_shown world (Declares c d) = []
passed_shown world (Passes c rule) = where_holding (standing_of world c) rule
passed_shown world (Mentions c path) = []

-- what several statements show, in order of position: of their entries, the layers that they mention, and the rules that they pass on
pub record Showing : Type 0 where
  pub entries : List Shown
  pub layers : List LayerPath
  pub passed : List BarePassed

-- what these statements show
abbrev pub showing : Question → List Statement → Showing
showing q statements = record {
  entries = flat_map (entries_shown q) statements;
  layers = flat_map (layers_shown q.world) statements;
  passed = flat_map (passed_shown q.world) statements;
}

-- the one after the other
abbrev pub joined : Showing → Showing → Showing
joined a b = record { entries = a.entries ++ b.entries; layers = a.layers ++ b.layers; passed = a.passed ++ b.passed }

-- the winning value among what is shown, where there is one
abbrev pub winner_among : Bool → Showing → Option (List ℕ)
winner_among important s = option_map (λ (x : Shown). x.value) (winning important s.layers s.entries)

-- are the two passed rules equal?
abbrev pub same_rule : BarePassed → BarePassed → Bool
same_rule a b = is_text a.keyword b.keyword && (is_text a.prelude b.prelude && is_text a.block b.block)

-- each rule after which no equal one stands
abbrev pub last_ones : List BarePassed → List BarePassed
last_ones [] = []
last_ones (rule ∷ rules) = if list_any (same_rule rule) rules then last_ones rules else rule ∷ last_ones rules
