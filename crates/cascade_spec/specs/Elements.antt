-- How the elements of a document stand to each other (Selectors 4, section 15).
use Rattle.std.specs.Prelude.{ℕ, zero, suc, length, slice_get, Bool, true, false, ◌&&◌, ◌||◌, Option, Some, None, if◌then◌else◌, nat_eq}
use Rattle.std.specs.Option.{option_and_then, option_map_or}
use Rattle.selector_types.specs.declared.selector.Combinator.{Combinator}
use Rattle.selector_types.specs.declared.selector.Combinator.TheVariants.{Descendant, Child, Next, Later}
use Rattle.cascade_spec.specs.declared.document.Element.{Element}
use Rattle.cascade_spec.specs.declared.document.Document.{Document}

-- the parent of an element, where it has one
abbrev pub parent_of : Document → ℕ → Option ℕ
parent_of doc n = option_and_then (λ (e : Element). e.parent) (slice_get doc.elements n)

-- are both the same number, or both none?
abbrev pub same_number : Option ℕ → Option ℕ → Bool
same_number None None = true
same_number (Some a) (Some b) = nat_eq a b
same_number None (Some b) = false
same_number (Some a) None = false

-- does the test hold of the parent?
abbrev pub of_parent : Document → (ℕ → Bool) → ℕ → Bool
of_parent doc test n = option_map_or test (parent_of doc n) false

-- does it hold of one of so many ancestors, from the parent upwards?
abbrev pub of_ancestors : Document → (ℕ → Bool) → ℕ → ℕ → Bool
of_ancestors doc test zero n = false
of_ancestors doc test (suc steps) n = option_map_or (λ m. test m || of_ancestors doc test steps m) (parent_of doc n) false

-- The nearest of the first elements that has the same parent. Elements without a parent are siblings.
abbrev pub previous_among : Document → ℕ → ℕ → Option ℕ
previous_among doc n zero = None
previous_among doc n (suc m) = if same_number (parent_of doc m) (parent_of doc n) then Some m else previous_among doc n m

-- does the test hold of one of the first elements that has the same parent?
abbrev pub of_siblings_among : Document → (ℕ → Bool) → ℕ → ℕ → Bool
of_siblings_among doc test n zero = false
of_siblings_among doc test n (suc m) = (same_number (parent_of doc m) (parent_of doc n) && test m) || of_siblings_among doc test n m

-- does the test hold of an element that stands so to this one?
abbrev pub is_related : Document → Combinator → (ℕ → Bool) → ℕ → Bool
is_related doc Descendant test n = of_ancestors doc test (length doc.elements) n
is_related doc Child test n = of_parent doc test n
is_related doc Next test n = option_map_or test (previous_among doc n n) false
is_related doc Later test n = of_siblings_among doc test n n
