-- What can be told of all paths once files were read.
use Rattle.std.proofs.Common.{◌≡◌, Bool, false, List, [], ◌∷◌, None, ap, ◌∙◌, if◌then◌else◌}
use Rattle.std.specs.List.{AllByRecursion, IsDistinct}
use Rattle.std.specs.Str.{bytes_eq}
use Rattle.std.specs.Cmp.Lexicographic.{nat_list_eq_equiv}
use Rattle.import_graph.specs.Files.{Naming, Agrees, IsSound, names_of, paths_of}
use Rattle.import_graph.specs.Waves.{Targets}
use Rattle.import_graph.specs.declared.found.ReadFile.{ReadFile}

module _ (naming : Naming) where
  -- what the first file of a path names
  abbrev lookup : List ReadFile → Targets
  lookup [] path = None
  lookup (file ∷ files) path = if bytes_eq file.path path then names_of naming file else lookup files path

  passed : (file : ReadFile) (files others : List ReadFile) → AllByRecursion (λ path. bytes_eq file.path path ≡ false) (paths_of others) → Agrees naming (lookup files) others → Agrees naming (lookup (file ∷ files)) others
  passed file files [] apart agrees = tt
  passed file files (other ∷ others) apart agrees =
      (ap (λ (b : Bool). if b then names_of naming file else lookup files other.path) apart.0 ∙ agrees.0, passed file files others apart.1 agrees.1)

  looked-up : (files : List ReadFile) → IsDistinct bytes_eq (paths_of files) → Agrees naming (lookup files) files
  unfolding IsDistinct
  looked-up [] distinct = tt
  looked-up (file ∷ files) distinct =
      (ap (λ (b : Bool). if b then names_of naming file else lookup files file.path) (nat_list_eq_equiv.refl file.path), passed file files files distinct.0 (looked-up files distinct.1))

  pub sound : (files : List ReadFile) → IsDistinct bytes_eq (paths_of files) → IsSound naming files
  sound files distinct = (lookup files, looked-up files distinct)
