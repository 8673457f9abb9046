-- Where items may stand, and what they are made of: declarations, selector lists, conditions and rules that are passed on.
use Rattle.std.specs.Prelude.{List, [], ◌∷◌, map, flat_map, Bool, true, false, ◌≡◌}
use Rattle.std.specs.List.{list_all}
use Rattle.selector_types.specs.declared.selector.Selector.{Selector}
use Rattle.sheet_types.specs.declared.sheet.Declaration.{Declaration}
use Rattle.sheet_types.specs.declared.sheet.GroupCondition.{GroupCondition}
use Rattle.sheet_types.specs.declared.sheet.Item.{Item}
use Rattle.sheet_types.specs.declared.sheet.Passed.{Passed}
use Rattle.sheet_types.specs.ItemFold.{Steps, folded}

-- Where items stand.

-- may an item stand alone in the block of a style rule, and may it stand at the top of a sheet or of a group?
pub record Seat : Type 0 where
  pub alone : Bool
  pub top : Bool

-- is there a declaration?
abbrev pub declares : List Declaration → Bool
declares [] = false
declares (d ∷ ds) = true

-- is there nothing, or one item that may stand alone?
abbrev pub is_lone : List Seat → Bool
is_lone [] = true
is_lone (seat ∷ []) = seat.alone
is_lone (first ∷ second ∷ seats) = false

-- Declarations stand alone in a block. A style rule stands at the top, where it is empty or what stands in it stands there alone; so does a group, where each item in it may stand at the top, and so do rules that are passed on and other at-rules.
abbrev pub seating : Steps Seat
seating = record {
  plain = λ ds. record { alone = declares ds; top = false };
  style = λ selectors at inner. record { alone = false; top = is_lone inner };
  group = λ condition at inner. record { alone = false; top = list_all (λ (seat : Seat). seat.top) inner };
  passed = λ rule. record { alone = false; top = true };
  other = λ at. record { alone = false; top = true };
}

-- where an item may stand
abbrev pub seat : Item → Seat
seat = folded seating

-- may it stand at the top of a sheet or of a group?
abbrev pub IsTop : Item → Type 0
IsTop x = (seat x).top ≡ true

-- What items are made of.

-- a declaration, the selector list of a style rule, the condition of a group, or a rule that is passed on
pub data Leaf : Type 0 where
  OfDeclaration : Declaration → Leaf
  OfList : List Selector → Leaf
  OfCondition : GroupCondition → Leaf
  OfPassed : Passed → Leaf

-- what is printed of a style rule: its list and what is printed in it, or nothing where nothing is
abbrev pub rule_leaves : List Selector → List Leaf → List Leaf
rule_leaves list [] = []
rule_leaves list (leaf ∷ leaves) = OfList list ∷ leaf ∷ leaves

-- the same of a group: its condition and what is printed in it
abbrev pub group_leaves : GroupCondition → List Leaf → List Leaf
group_leaves condition [] = []
group_leaves condition (leaf ∷ leaves) = OfCondition condition ∷ leaf ∷ leaves

abbrev pub leafing : Steps (List Leaf)
leafing = record {
  plain = λ ds. map OfDeclaration ds;
  style = λ selectors at inner. rule_leaves selectors (flat_map (λ (leaves : List Leaf). leaves) inner);
  group = λ condition at inner. group_leaves condition (flat_map (λ (leaves : List Leaf). leaves) inner);
  passed = λ rule. OfPassed rule ∷ [];
  other = λ at. [];
}

-- the declarations and passed rules of an item at any depth, and the selector lists and conditions of the rules and groups that declare anything
abbrev pub leaves : Item → List Leaf
leaves = folded leafing

-- those of items
abbrev pub all_leaves : List Item → List Leaf
all_leaves items = flat_map leaves items
