-- Where the selectors of a list cannot be read (Selectors 4, section 18, Grammar).
use Rattle.std.specs.Prelude.{ℕ, List, ◌∷◌, map, false, Option, Some, None, Result, Ok, Err}
use Rattle.std.specs.List.{filter_map}
use Rattle.css_tokens.specs.declared.component.Component.{Component}
use Rattle.selector_types.specs.declared.selector.Selector.{Selector}
use Rattle.selector_tree.specs.Grammar.{Mark, Member, cut_at_commas, member_reading}
use Rattle.selector_tree.specs.Signs.{mark_of}

-- the place of the fault, where there is no reading
abbrev pub fault_in : Result Selector ℕ → Option ℕ
fault_in (Ok s) = None
fault_in (Err at) = Some at

-- what stands between the commas of a list
abbrev pub members_of : List Mark → List Member
members_of ms = (cut_at_commas ms).0 ∷ (cut_at_commas ms).1

-- the places at which the selectors of a list cannot be read that ends at this place
abbrev pub list_faults : List Component → ℕ → List ℕ
list_faults cs end = filter_map (λ m. fault_in (member_reading false end m)) (members_of (map mark_of cs))
