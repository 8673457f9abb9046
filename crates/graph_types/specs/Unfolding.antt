-- What a graph of files unfolds to (CSS Cascading 5, section 2).
use Rattle.std.specs.Prelude.{ℕ, zero, suc, List, [], ◌∷◌, ◌++◌, ◌+◌, Option, None, Some, if◌then◌else◌, length, nat_eq, slice_get, sum, map}
use Rattle.std.specs.List.{list_any}
use Rattle.media_spelling.specs.declared.condition.Query.{Query}
use Rattle.media_spelling.specs.declared.supports.Supports.{Supports}
use Rattle.sheet_types.specs.declared.sheet.GroupCondition.{GroupCondition}
use Rattle.sheet_types.specs.declared.sheet.GroupCondition.TheVariants as conditions
use Rattle.sheet_types.specs.declared.sheet.Import.{Import}
use Rattle.graph_types.specs.declared.graph.Graph.{Graph}
use Rattle.graph_types.specs.declared.graph.Instance.{Instance}
use Rattle.graph_types.specs.declared.graph.InstancePart.{InstancePart}
use Rattle.graph_types.specs.declared.graph.InstancePart.TheVariants.{Head, Body}
use Rattle.graph_types.specs.declared.graph.SourceFile.{SourceFile}

-- a supports condition, where there is one
abbrev pub supports_conditions : Option Supports → List GroupCondition
supports_conditions None = []
supports_conditions (Some condition) = conditions.Supports condition ∷ []

-- a media list, where it is not empty
abbrev pub media_conditions : List Query → List GroupCondition
media_conditions [] = []
media_conditions (query ∷ queries) = conditions.Media (query ∷ queries) ∷ []

-- what has to hold for an import, outermost first
abbrev pub import_conditions : Import → List GroupCondition
import_conditions import = supports_conditions import.supports ++ media_conditions import.media

-- the imports of a file of the graph
abbrev pub imports_in : Option SourceFile → List Import
imports_in None = []
imports_in (Some file) = file.sheet.imports

-- the numbers of the files that they name
abbrev pub targets_in : Option SourceFile → List ℕ
targets_in None = []
targets_in (Some file) = file.targets

-- what visits of targets give in order, each under what holds round the imports and under its import's conditions
abbrev pub target_visits : (List GroupCondition → ℕ → List Instance) → List GroupCondition → List Import → List ℕ → List Instance
target_visits visit around [] targets = []
target_visits visit around (import ∷ imports) [] = []
target_visits visit around (import ∷ imports) (target ∷ targets) = visit (around ++ import_conditions import) target ++ target_visits visit around imports targets

-- an instance that is a part of this file
abbrev pub instance : InstancePart → List GroupCondition → ℕ → Instance
instance part around file = record { file = file; part = part; conditions = around }

-- what a visit of a file gives where this many more files may stand on the chain of visits that are open
abbrev pub visits : ℕ → Graph → List ℕ → List GroupCondition → ℕ → List Instance
visits zero graph chain around file = []
visits (suc more) graph chain around file =
    if list_any (nat_eq file) chain
    then []
    else instance Head around file ∷ target_visits (visits more graph (file ∷ chain)) around (imports_in (slice_get graph.files file)) (targets_in (slice_get graph.files file)) ++ instance Body around file ∷ []

-- the instances of a graph in the order in which their contents stand: a visit of the entry
unfoldable pub unfolded : Graph → List Instance
unfolded graph = visits (length graph.files) graph [] [] 0

-- an instance, where it is a Body
abbrev pub body_part : InstancePart → Instance → List Instance
body_part Head instance = []
body_part Body instance = instance ∷ []

-- those that are Bodies
abbrev pub bodies : List Instance → List Instance
bodies [] = []
bodies (instance ∷ instances) = body_part instance.part instance ++ bodies instances

-- how many bytes a file of the graph has
abbrev pub length_in : Option SourceFile → ℕ
length_in None = 0
length_in (Some file) = length file.bytes.now

-- how many bytes the files of the Bodies have together, each as often as it is there
abbrev pub total_length : Graph → List Instance → ℕ
total_length graph instances = sum (map (λ body. length_in (slice_get graph.files body.file)) (bodies instances))
