-- Items that read as they again, and each value of which stands in a text.
use Rattle.std.proofs.Common.{List, [], ◌∷◌}
use Rattle.std.specs.List.{AllByRecursion}
use Rattle.sheet_types.specs.declared.sheet.Declaration.{Declaration}
use Rattle.sheet_types.specs.declared.sheet.Item.{Item}
use Rattle.sheet_types.specs.Leaves.{Leaf, OfDeclaration, all_leaves}
use Rattle.sheet_types.specs.Standing.{AllStand, LeafStands, Stands}
use Rattle.sheet_types.proofs.ItemShapes.{TopCases, by_tops}
use Rattle.css_rules.specs.Printable.{ArePrintable, IsPrintableDeclaration, IsPrintableLeaf}

-- a leaf that is printable and stands
abbrev pub IsReady : Leaf → Type 0
IsReady leaf = IsPrintableLeaf leaf × LeafStands leaf

pub each-printable : (ds : List Declaration) → AllByRecursion (λ d. IsReady (OfDeclaration d)) ds → AllByRecursion IsPrintableDeclaration ds
each-printable [] each = tt
each-printable (d ∷ ds) each = (each.0.0, each-printable ds each.1)

pub each-stands : (ds : List Declaration) → AllByRecursion (λ d. IsReady (OfDeclaration d)) ds → AllByRecursion Stands ds
each-stands [] each = tt
each-stands (d ∷ ds) each = (each.0.1, each-stands ds each.1)

each-ready : (ls : List Leaf) → AllByRecursion IsPrintableLeaf ls → AllByRecursion LeafStands ls → AllByRecursion IsReady ls
each-ready [] p stands = tt
each-ready (l ∷ ls) p stands = ((p.0, stands.0), each-ready ls p.1 stands.1)

-- what holds of each item of such
pub by_ready : (P : Item → Type 0) → TopCases IsReady P → (xs : List Item) → ArePrintable xs → AllStand xs → AllByRecursion P xs
by_ready P cases xs p stands = by_tops IsReady P cases xs p.tops (each-ready (all_leaves xs) p.fine stands)
