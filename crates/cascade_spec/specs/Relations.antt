-- Which elements stand so to another as a combinator says, in the words of the standard (Selectors 4, section 15).
use Rattle.std.specs.Prelude.{ℕ, zero, suc, ◌<◌, ◌≡◌, ◌≢◌, Bool, IsTrue, Option, Some}
use Rattle.std.specs.Option.{option_and_then}
use Rattle.cascade_spec.specs.declared.document.Document.{Document}
use Rattle.cascade_spec.specs.Elements.{parent_of, previous_among}

-- where so many steps lead from an element, if they lead to one
abbrev pub steps_from : (ℕ → Option ℕ) → ℕ → ℕ → Option ℕ
steps_from step zero n = Some n
steps_from step (suc count) n = option_and_then (steps_from step count) (step n)

-- m is reached from n by one step or more
abbrev pub IsReached : (ℕ → Option ℕ) → ℕ → ℕ → Type 0
IsReached step m n = (count : ℕ) × (steps_from step (suc count) n ≡ Some m)

-- m is the sibling that stands nearest before n. Elements without a parent are siblings.
pub record IsPrevious (doc : Document) (m n : ℕ) : Type 0 where
  pub before : m < n
  pub sibling : parent_of doc m ≡ parent_of doc n
  pub nearest : (k : ℕ) → m < k → k < n → parent_of doc k ≢ parent_of doc n

-- the sibling that stands nearest before an element, where there is one
abbrev pub previous_of : Document → ℕ → Option ℕ
previous_of doc n = previous_among doc n n

-- each parent has a smaller number than its child
abbrev pub ParentsComeFirst : Document → Type 0
ParentsComeFirst doc = (n m : ℕ) → parent_of doc n ≡ Some m → m < n

-- it holds exactly where the test holds of an element that stands so
pub record HoldsOfOne (holds : Bool) (test : ℕ → Bool) (Stands : ℕ → Type 0) : Type 0 where
  pub found : IsTrue holds → (m : ℕ) × Stands m × IsTrue (test m)
  pub held : (m : ℕ) → Stands m → IsTrue (test m) → IsTrue holds
