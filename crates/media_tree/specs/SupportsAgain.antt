-- Which supports conditions are read again (Conditional Rules 3, section 6).
use Rattle.std.specs.Prelude.{ℕ, List, Bool, false, ◌&&◌}
use Rattle.std.specs.List.{list_all}
use Rattle.std.specs.Str.{is_utf8}
use Rattle.css_tokens.specs.declared.component.Component.{Component}
use Rattle.css_tokens.specs.Names.{is_name}
use Rattle.css_tokens.specs.Trees.{all_formed, is_text, words_all}
use Rattle.css_tokens.specs.ValueAgain.{value_again}
use Rattle.media_spelling.specs.declared.supports.Supports.{Supports}
use Rattle.media_tree.specs.ReadableQueries.{has_two}
use Rattle.media_spelling.specs.SupportsFold.{Steps, folded}
use Rattle.media_tree.specs.SupportsReading.{is_custom, may_be_value, property_name}

-- is each token of the value in UTF-8?
abbrev pub is_utf8_value : List Component → Bool
is_utf8_value value = list_all (λ w. is_utf8 w.text) (words_all value)

-- a property with a value that it may have
abbrev pub is_readable_declaration : List ℕ → List Component → Bool
is_readable_declaration name value = is_name name && (is_text (property_name name) name && (all_formed value && (is_utf8_value value && may_be_value (is_custom name) (value_again value))))

-- Has each kind of condition a spelling that is read as it? Of functions nothing but a place is kept.
abbrev pub readable : Steps Bool
readable = record {
  and_of = λ bs. has_two bs && list_all (λ b. b) bs;
  or_of = λ bs. has_two bs && list_all (λ b. b) bs;
  not_of = λ b. b;
  declared = is_readable_declaration;
  function = λ at. false;
}

-- a supports condition
abbrev pub is_readable_supports : Supports → Bool
is_readable_supports = folded readable
