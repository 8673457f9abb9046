-- The entries of a sheet, and which of them are active (CSS Cascading 5, section 6).
use Rattle.std.specs.Prelude.{ℕ, List, [], ◌∷◌, Bool, ◌&&◌, not, Option, Some, None, if◌then◌else◌, find}
use Rattle.std.specs.List.{list_any}
use Rattle.css_tokens.specs.Trees.{is_text}
use Rattle.css_tokens.specs.Values.{value_text}
use Rattle.sheet_types.specs.Statements.{BareDeclaration}
use Rattle.cascade_spec.specs.declared.environment.Environment.{Environment}
use Rattle.cascade_spec.specs.declared.environment.Shorthand.{Shorthand}
use Rattle.cascade_spec.specs.Worlds.{World}
use Rattle.cascade_spec.specs.Standings.{Standing}

-- a physical declaration
pub record Entry : Type 0 where
  pub name : List ℕ
  pub value : List ℕ
  pub important : Bool

-- the physical declarations of a declaration: itself, with the text of its value
abbrev pub entries_of : World → BareDeclaration → List Entry
entries_of world d = record { name = d.name; value = value_text d.value; important = d.important } ∷ []

-- does the browser reject the declaration?
abbrev pub is_rejected : Environment → Entry → Bool
is_rejected env e = list_any (λ pair. is_text pair.0 e.name && is_text pair.1 e.value) env.rejected

-- Does the declaration count? The conditions of the groups round it are to hold; the browser drops a rule for a pseudo-class or pseudo-element that it does not know, and rejects some declarations.
abbrev pub is_active : Environment → Standing → Entry → Bool
is_active env s e = s.holds && (not s.around.dropped && not (is_rejected env e))

-- the value of the last pair with this name
abbrev pub last_value : List ℕ → List (List ℕ × List ℕ) → Option (List ℕ)
last_value name [] = None
last_value name (pair ∷ pairs) = later (last_value name pairs)
  where
    later : Option (List ℕ) → Option (List ℕ)
    later (Some value) = Some value
    later None = if is_text pair.0 name then Some pair.1 else None

-- the row of a declaration, the first that has its name and value
abbrev pub row_of : Environment → Entry → Option Shorthand
row_of env e = find (λ (row : Shorthand). is_text row.name e.name && is_text row.value e.value) env.shorthands

-- what an entry sets a longhand to, by this row or without one
abbrev pub value_by : Option Shorthand → Entry → List ℕ → Option (List ℕ)
value_by (Some row) e longhand = last_value longhand row.sets
value_by None e longhand = if is_text e.name longhand then Some e.value else None

-- What an entry sets a longhand to: by its row, or its own longhand to its value.
abbrev pub value_set : Environment → Entry → List ℕ → Option (List ℕ)
value_set env e longhand = value_by (row_of env e) e longhand
