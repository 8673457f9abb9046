-- Which words are a command, and what they ask for.
use Rattle.std.specs.Prelude.{ℕ, Bool, ◌||◌, List, [], ◌∷◌, Option, Some, None, is_none, unwrap_or, if◌then◌else◌, codes, nat_eq, length}
use Rattle.std.specs.List.{list_any, starts_with, ends_with}
use Rattle.std.specs.Str.{bytes_eq}
use Rattle.css_outside.specs.Names.{Names}
use Rattle.csslower.specs.Writing.{standard}
use Rattle.csslower.specs.declared.status.WordKind.{WordKind}
use Rattle.csslower.specs.declared.status.WordKind.TheVariants.{Words}

-- does the word hold this byte?
abbrev pub holds : ℕ → List ℕ → Bool
holds byte word = list_any (λ b. nat_eq b byte) word

-- does the word name the folder itself, or the one above it?
abbrev pub is_folder : List ℕ → Bool
is_folder word = bytes_eq word (codes ".") || bytes_eq word (codes "..")

-- Can the word not name the entry? It is empty, holds a `/` or a `:`, begins with `-`, or names a folder.
abbrev pub is_no_entry : List ℕ → Bool
is_no_entry word = nat_eq (length word) 0 || holds 47 word || holds 58 word || starts_with nat_eq word (codes "-") || is_folder word

-- the entry that the words name: a command is exactly one word that can name it
abbrev pub entry_of : List (List ℕ) → Option (List ℕ)
entry_of [] = None
entry_of (word ∷ []) = if is_no_entry word then None else Some word
entry_of (word ∷ next ∷ others) = None

-- what is wrong with the words, where they are no command
abbrev pub usage_of : List (List ℕ) → Option WordKind
usage_of words = if is_none (entry_of words) then Some Words else None

-- the path of the entry; it is empty where the words are no command
abbrev pub entry_path : List (List ℕ) → List ℕ
entry_path words = unwrap_or (entry_of words) []

-- the sources: the files, where they are told
abbrev pub sources_of : List (List ℕ) → Option Names → Option Names
sources_of words told = told

-- the name of the output that gets the stylesheet: standard output
abbrev pub stylesheet_name : List (List ℕ) → List ℕ
stylesheet_name words = standard

-- is this the path of a file whose names are scoped?
abbrev pub is_scoped : List ℕ → Bool
is_scoped path = ends_with nat_eq path (codes ".module.css")
