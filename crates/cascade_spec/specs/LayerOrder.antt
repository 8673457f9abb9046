-- The order of layers in the words of the standard (CSS Cascading 5, section 6.4).
use Rattle.std.specs.Prelude.{ℕ, ◌<◌, ◌≤◌, ◌≡◌, List, [], ◌∷◌, ◌++◌, IsTrue, false, Some, slice_get}
use Rattle.std.specs.declared.cmp.Ordering.TheVariants.{Less}
use Rattle.sheet_types.specs.Contexts.{LayerPath}
use Rattle.sheet_types.specs.declared.sheet.LayerName.{LayerName}
use Rattle.cascade_spec.specs.Layers.{same_layer, is_mention, layer_cmp}

-- the path is mentioned first at this place
pub record IsFirstMention (mentions : List LayerPath) (path : LayerPath) (i : ℕ) : Type 0 where
  pub stands : (mention : LayerPath) × (slice_get mentions i ≡ Some mention) × IsTrue (is_mention mention path)
  pub first : (j : ℕ) (mention : LayerPath) → slice_get mentions j ≡ Some mention → IsTrue (is_mention mention path) → i ≤ j

-- Of two paths that differ first at some step, the one whose prefix up to that step is mentioned first is lower, and a
-- path is lower than its prefixes.
pub record AreOrdered (mentions : List LayerPath) : Type 0 where
  pub differing : (before a b : LayerPath) (x y : LayerName) (i j : ℕ)
      → IsFirstMention mentions (before ++ x ∷ []) i → IsFirstMention mentions (before ++ y ∷ []) j → i < j
      → layer_cmp mentions (before ++ x ∷ a) (before ++ y ∷ b) ≡ Less
  pub apart : (before : LayerPath) (x y : LayerName) (i : ℕ) → same_layer x y ≡ false
      → IsFirstMention mentions (before ++ x ∷ []) i → IsFirstMention mentions (before ++ y ∷ []) i → ⊥
  pub prefix : (path : LayerPath) (x : LayerName) (a : LayerPath) → layer_cmp mentions (path ++ x ∷ a) path ≡ Less
