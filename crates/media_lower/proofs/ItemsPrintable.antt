-- Items that print as a text which reads as them again become such items, and their values stand in a text as before.
use Rattle.std.proofs.Common.{List, [], ◌∷◌, flat_map, true, ◌≡◌, IsTrue}
use Rattle.std.specs.List.{AllByRecursion, list_all}
use Rattle.media_spelling.specs.declared.condition.Query.{Query}
use Rattle.media_tree.specs.ReadValues.{ValuesStand}
use Rattle.media_tree.specs.ReadableQueries.{are_readable_queries}
use Rattle.media_tree.proofs.ListsHold.{each-of}
use Rattle.sheet_types.specs.declared.sheet.GroupCondition.TheVariants.{Media}
use Rattle.sheet_types.specs.declared.sheet.Item.{Item}
use Rattle.sheet_types.specs.Leaves.{OfCondition}
use Rattle.sheet_types.specs.Standing.{AllStand, LeafStands}
use Rattle.css_rules.specs.Printable.{AreReadQueries, ArePrintable, IsPrintableLeaf}
use Rattle.media_clauses.specs.Lowered.{lowered}
use Rattle.media_clauses.proofs.BoolLemmas.{and-left, and-right}
use Rattle.media_lower.specs.MediaItems.{lowered_item}
use Rattle.media_lower.proofs.LeavesKept.{items-are, items-tops}

-- what is ensured of lowered lists
pub record ReadableLists : Type 0 where
  pub readable : (qs : List Query) → IsTrue (are_readable_queries qs) → IsTrue (list_all are_readable_queries (lowered qs))
  pub values : (qs : List Query) → ValuesStand qs → AllByRecursion ValuesStand (lowered qs)

both-read : (lists : List (List Query)) → list_all are_readable_queries lists ≡ true → AllByRecursion ValuesStand lists → AllByRecursion AreReadQueries lists
both-read [] e h = tt
both-read (qs ∷ lists) e h = (
  record { readable = and-left (are_readable_queries qs) (list_all are_readable_queries lists) e; values = h.0 },
  both-read lists (and-right (are_readable_queries qs) (list_all are_readable_queries lists) e) h.1,
)

pub items-printable : ReadableLists → (xs : List Item) → ArePrintable xs → ArePrintable (flat_map lowered_item xs)
items-printable laws xs h = record {
  tops = items-tops xs h.tops;
  fine = items-are IsPrintableLeaf (λ list p. both-read (lowered list) (laws.readable list p.readable) (laws.values list p.values)) xs h.fine;
}

pub items-stand : (xs : List Item) → AllStand xs → AllStand (flat_map lowered_item xs)
items-stand xs h = items-are LeafStands (λ list p. each-of (λ l. LeafStands (OfCondition (Media l))) (λ l. tt) (lowered list)) xs h
