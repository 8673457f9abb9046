-- How specific selectors are (Selectors 4, section 17; CSS Nesting 1, section 3.1).
use Rattle.std.specs.Prelude.{ℕ, ◌+◌, List, [], ◌∷◌, map, length, fold, Option, Some, None, if◌then◌else◌}
use Rattle.std.specs.Ordering.{nat_cmp, is_lt}
use Rattle.std.specs.declared.cmp.Ordering.{Ordering}
use Rattle.std.specs.Cmp.Lexicographic.{slice_cmp}
use Prim.Native.Nat.{min}
use Rattle.selector_types.specs.declared.triple.Specificity.{Specificity}
use Rattle.selector_types.specs.declared.selector.TypeName.TheVariants as types
use Rattle.selector_types.specs.declared.selector.TypeName.{TypeName}
use Rattle.selector_types.specs.declared.selector.Tail as tail
use Rattle.selector_types.specs.declared.selector.Simple.{Simple}
use Rattle.selector_types.specs.declared.selector.Compound as compound
use Rattle.selector_types.specs.declared.selector.Selector as selector
use Rattle.selector_types.specs.BareFold.{BareSteps, bare_simple, bare_compound, bare_selector}

-- the number, or 65,536 where it is greater
abbrev pub capped : ℕ → ℕ
capped n = min n 65536

-- the specificity of nothing
abbrev pub nothing : Specificity
nothing = record { a = 0; b = 0; c = 0 }

-- the sum of two
abbrev pub plus : Specificity → Specificity → Specificity
plus s t = record { a = capped (s.a + t.a); b = capped (s.b + t.b); c = capped (s.c + t.c) }

-- the sum of several
abbrev pub sum_of : List Specificity → Specificity
sum_of ss = fold plus nothing ss

-- ids are compared first, then classes, then types
abbrev pub specificity_cmp : Specificity → Specificity → Ordering
specificity_cmp s t = slice_cmp nat_cmp (s.a ∷ s.b ∷ s.c ∷ []) (t.a ∷ t.b ∷ t.c ∷ [])

-- the greater of two
abbrev pub greater_of : Specificity → Specificity → Specificity
greater_of s t = if is_lt (specificity_cmp s t) then t else s

-- the greatest of several, or nothing
abbrev pub greatest : List Specificity → Specificity
greatest ss = fold greater_of nothing ss

-- what one id counts
abbrev pub one_id : Specificity
one_id = record { a = 1; b = 0; c = 0 }

-- what one class, attribute or pseudo-class counts
abbrev pub one_class : Specificity
one_class = record { a = 0; b = 1; c = 0 }

-- what one type name or pseudo-element counts
abbrev pub one_type : Specificity
one_type = record { a = 0; b = 0; c = 1 }

-- a type name counts as one type, `*` as nothing
abbrev pub type_specificity : TypeName → Specificity
type_specificity types.None = nothing
type_specificity types.Universal = nothing
type_specificity (types.Name name) = one_type

-- a pseudo-element counts as one type, each state as one class
abbrev pub tail_specificity : Option tail.Tail → Specificity
tail_specificity None = nothing
tail_specificity (Some t) = record { a = 0; b = capped (length t.states); c = 1 }

-- What each counts, where the most specific selector of the list around counts `most`: `:not` and `:is` as their most
-- specific member, `:where` and `*` as nothing, `&` as `most`; all else adds.
abbrev pub counting : Specificity → BareSteps Specificity Specificity Specificity
counting most = record {
  class = λ n. one_class;
  id = λ n. one_id;
  attribute = λ a. one_class;
  pseudo = λ n. one_class;
  not_of = greatest;
  is_of = greatest;
  where_of = λ ss. nothing;
  parent = most;
  local = λ k. k;
  global = λ k. k;
  foreign = nothing;
  compound = λ kind parts tail. plus (plus (type_specificity kind) (tail_specificity tail)) (sum_of parts);
  selector = λ lead first rest. plus first (sum_of (map (λ l. l.1) rest));
}

-- how specific a simple selector, a compound or a selector is
abbrev pub simple_specificity : Specificity → Simple → Specificity
simple_specificity most = bare_simple (counting most)

abbrev pub compound_specificity : Specificity → compound.Compound → Specificity
compound_specificity most = bare_compound (counting most)

abbrev pub selector_specificity : Specificity → selector.Selector → Specificity
selector_specificity most = bare_selector (counting most)
