-- Media lists in which each range is one of a feature that takes a range, as in every list that is read (Media Queries 4, section 2.4.3).
use Rattle.std.specs.Prelude.{List, Bool, true}
use Rattle.std.specs.List.{list_all}
use Rattle.std.specs.Option.{option_map_or}
use Rattle.media_spelling.specs.declared.condition.Condition.{Condition}
use Rattle.media_spelling.specs.declared.condition.Query.{Query}
use Rattle.media_spelling.specs.ConditionFold.{Steps, folded}
use Rattle.prop_table.specs.OldFeatures.{is_range_feature}

-- Is this so of each kind of condition?
abbrev pub known_ranges : Steps Bool
known_ranges = record {
  and_of = λ bs. list_all (λ b. b) bs;
  or_of = λ bs. list_all (λ b. b) bs;
  not_of = λ b. b;
  feature = λ f. true;
  range = λ r. is_range_feature r.name;
}

-- a condition
abbrev pub has_known_ranges : Condition → Bool
has_known_ranges = folded known_ranges

-- a media list
abbrev pub have_known_ranges : List Query → Bool
have_known_ranges qs = list_all (λ (q : Query). option_map_or has_known_ranges q.condition true) qs
