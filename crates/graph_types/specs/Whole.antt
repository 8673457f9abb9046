-- Graphs whose files are all there.
use Rattle.std.specs.Prelude.{ℕ, ◌≡◌, ◌<◌, ◌≤◌, ◌^◌, length, All}
use Rattle.graph_types.specs.declared.graph.Graph.{Graph}
use Rattle.graph_types.specs.declared.graph.SourceFile.{SourceFile}

-- a file has one target for each import, each one of so many files, and at most 4,194,304 bytes
pub record IsLinked (files : ℕ) (file : SourceFile) : Type 0 where
  pub each : length file.targets ≡ length file.sheet.imports
  pub within : All (λ target. target < files) file.targets
  pub short : length file.bytes.now ≤ 4194304

-- there is an entry, there are fewer than 2^32 files, and each is linked
pub record IsWhole (graph : Graph) : Type 0 where
  pub entry : 0 < length graph.files
  pub few : length graph.files < 2 ^ 32
  pub linked : All (IsLinked (length graph.files)) graph.files
