-- What the selector lists round a rule are for it: which subjects they match, how specific they are, and whether the browser drops the rule (Selectors 4, sections 3.9 (Invalid Selectors) and 17; CSS Nesting 1, section 3).
use Rattle.std.specs.Prelude.{List, map, Bool, true, false, ◌||◌, Option, Some, None, if◌then◌else◌, fold}
use Rattle.std.specs.List.{filter_map, list_any}
use Rattle.selector_types.specs.declared.selector.Selector.{Selector}
use Rattle.selector_types.specs.declared.triple.Specificity.{Specificity}
use Rattle.selector_types.specs.Specificities.{greatest, nothing, selector_specificity}
use Rattle.cascade_spec.specs.Worlds.{World}
use Rattle.cascade_spec.specs.Matching.{Subject, Fit, whole_fit}
use Rattle.cascade_spec.specs.Implied.{implied}

-- What the selector lists round a rule are for a rule in them: which subjects they match, how specific they are for a
-- subject, how specific their most specific member is, and whether the browser drops the rule, since it does not know a
-- pseudo-class or pseudo-element in one of them. At the top of a sheet there are none.
pub record Around : Type 0 where
  pub nested : Bool
  pub holds : Subject → Bool
  pub specific : Subject → Specificity
  pub most : Specificity
  pub dropped : Bool

-- the top of a sheet, where no rule is around: `&` matches nothing, and counts nothing
abbrev pub top : Around
top = record { nested = false; holds = λ subject. false; specific = λ subject. nothing; most = nothing; dropped = false }

-- a selector of a rule's list: what it is in the world, and how specific it is
pub record Member : Type 0 where
  pub fit : Fit
  pub specific : Specificity

-- what a selector of a rule's list is inside what is round the rule, with the `&` that is implied
abbrev pub member_of : World → Around → Selector → Member
member_of world around s = record {
  fit = whole_fit world around.holds (implied around.nested s);
  specific = selector_specificity around.most (implied around.nested s);
}

-- how specific a member is for a subject that it matches
abbrev pub specific_for : Subject → Member → Option Specificity
specific_for subject m = if m.fit.holds subject then Some m.specific else None

-- a list of these members: any of them may match, the most specific of those that do counts, and one that the browser does not know drops the rule
abbrev pub gathered : Bool → List Member → Around
gathered dropped members = record {
  nested = true;
  holds = λ subject. list_any (λ (m : Member). m.fit.holds subject) members;
  specific = λ subject. greatest (filter_map (specific_for subject) members);
  most = greatest (map (λ (m : Member). m.specific) members);
  dropped = dropped || list_any (λ (m : Member). m.fit.unknown) members;
}

-- a rule's list inside what is round it
abbrev pub within : World → Around → List Selector → Around
within world around list = gathered around.dropped (map (member_of world around) list)

-- what the selector lists of the enclosing style rules, the outermost first, are for a rule in them
abbrev pub around_all : World → List (List Selector) → Around
around_all world chain = fold (within world) top chain
