-- Media features as they are read (Media Queries 4, section 3).
use Rattle.std.specs.Prelude.{ℕ, List, [], ◌∷◌, ◌++◌, Bool, true, false, not, ◌&&◌, ◌||◌, codes, take, drop, length, unwrap_or, Option, Some, None, if◌then◌else◌, nat_eq}
use Rattle.std.specs.List.{list_any, position}
use Rattle.std.specs.Option.{option_map, option_or}
use Rattle.std.specs.Str.{is_utf8}
use Rattle.css_tokens.specs.declared.kind.Kind.{Kind}
use Rattle.css_tokens.specs.declared.kind.Kind.TheVariants as kinds
use Rattle.css_tokens.specs.declared.component.Component.{Component, out-Component}
use Rattle.css_tokens.specs.declared.component.Component.TheOpen.{Component-F, Single, Block}
use Rattle.css_tokens.specs.Trees.{is_text}
use Rattle.css_tokens.specs.Values.{value_text}
use Rattle.media_spelling.specs.declared.condition.Condition.{Condition}
use Rattle.media_spelling.specs.declared.condition.Condition as condition
use Rattle.media_spelling.specs.declared.condition.Relation.{Relation}
use Rattle.media_spelling.specs.declared.condition.Relation.TheVariants as relations
use Rattle.media_tree.specs.declared.mark.Mark.{Mark}
use Rattle.media_tree.specs.declared.mark.Mark.TheVariants as marks
use Rattle.media_tree.specs.declared.mark.Separator.{Separator}
use Rattle.media_tree.specs.declared.mark.Separator.TheVariants as separators
use Rattle.media_tree.specs.Marks.{Layer, ident_name, is_gap, is_white, mark_of, trimmed, trimmed_start}
use Rattle.media_spelling.specs.Spelling.{turned}
use Rattle.prop_table.specs.OldFeatures.{is_range_feature}

-- Values.

-- the text of a Number
abbrev pub token_number : Kind → List ℕ → Option (List ℕ)
token_number kinds.Number text = Some text
token_number k text = None

-- the same of a component, laid open
abbrev pub layer_number : Layer → Option (List ℕ)
layer_number (Single p) = token_number p.kind p.text
layer_number (Block b) = None

-- the text of a component that is a Number
abbrev pub number_text : Component → Option (List ℕ)
number_text c = layer_number (out-Component c)

-- the text of a token that is a value by itself
abbrev pub token_value : Kind → List ℕ → Option (List ℕ)
token_value kinds.Number text = Some text
token_value kinds.Dimension text = Some text
token_value kinds.Ident text = Some text
token_value k text = None

-- The text, which is in UTF-8, as the texts of all tokens are.
abbrev pub in_utf8 : List ℕ → Option (List ℕ)
in_utf8 text = if is_utf8 text then Some text else None

-- the text of a Function with what stands in it
abbrev pub block_value : Kind → Component → Option (List ℕ)
block_value kinds.Function c = in_utf8 (value_text (c ∷ []))
block_value k c = None

-- the same of a component and what it is, laid open
abbrev pub layer_value : Component → Layer → Option (List ℕ)
layer_value c (Single p) = token_value p.kind p.text
layer_value c (Block b) = block_value b.opening.kind c

-- the text of one component that is a value: a Number, a Dimension, an Ident or a Function
abbrev pub single_value : Component → Option (List ℕ)
single_value c = layer_value c (out-Component c)

-- neither white space nor a comment
abbrev pub is_solid : Component → Bool
is_solid c = not (is_gap c)

-- how many of the first components are white space and comments
abbrev pub gap_length : List Component → ℕ
gap_length cs = unwrap_or (position is_solid cs) (length cs)

-- is there no component, or white space among them?
abbrev pub goes_unseen : List Component → Bool
goes_unseen cs = if nat_eq (length cs) 0 then true else list_any is_white cs

-- Comments alone beside the `/` of a ratio print as `/**/`, and white space as nothing.
abbrev pub gap_text : List Component → List ℕ
gap_text cs = if goes_unseen (take (gap_length cs) cs) then [] else codes "/**/"

-- the text of a ratio whose second number is the one component left
abbrev pub ratio_end : List ℕ → List ℕ → List ℕ → List Component → Option (List ℕ)
ratio_end n before behind [] = None
ratio_end n before behind (c ∷ []) = option_map (λ d. n ++ (before ++ (codes "/" ++ (behind ++ d)))) (number_text c)
ratio_end n before behind (c ∷ d ∷ cs) = None

-- a `/`?
abbrev pub is_slash_mark : Mark → Bool
is_slash_mark marks.Slash = true
is_slash_mark m = false

-- the text of a ratio, of which the first number is read
abbrev pub ratio_behind : List ℕ → List ℕ → List Component → Option (List ℕ)
ratio_behind n before [] = None
ratio_behind n before (c ∷ cs) = if is_slash_mark (mark_of c) then ratio_end n before (gap_text cs) (trimmed_start cs) else None

-- a ratio: two numbers with `/` between them
abbrev pub ratio : Option (List ℕ) → List Component → Option (List ℕ)
ratio None cs = None
ratio (Some n) cs = ratio_behind n (gap_text cs) (trimmed_start cs)

-- the text of a value that these components are
abbrev pub value_of : List Component → Option (List ℕ)
value_of [] = None
value_of (c ∷ []) = single_value c
value_of (c ∷ d ∷ cs) = ratio (number_text c) (d ∷ cs)

-- the text of a value that stands there with nothing but white space and comments beside it
abbrev pub value_in : List Component → Option (List ℕ)
value_in cs = value_of (trimmed cs)

-- the name that this component is, and no other
abbrev pub lone_name : List Component → Option (List ℕ)
lone_name [] = None
lone_name (c ∷ []) = ident_name c
lone_name (c ∷ d ∷ cs) = None

-- the name that stands there with nothing but white space and comments beside it
abbrev pub name_in : List Component → Option (List ℕ)
name_in cs = lone_name (trimmed cs)

-- What parts names and values.

-- a colon, or what begins a relation?
abbrev pub is_separator_mark : Mark → Bool
is_separator_mark marks.Colon = true
is_separator_mark marks.Less = true
is_separator_mark marks.Greater = true
is_separator_mark marks.Equals = true
is_separator_mark m = false

-- a colon, or what begins a relation
abbrev pub is_separator : Component → Bool
is_separator c = is_separator_mark (mark_of c)

-- how many components stand before the first separator
abbrev pub front_length : List Component → ℕ
front_length cs = unwrap_or (position is_separator cs) (length cs)

-- what stands before the first separator
abbrev pub front_of : List Component → List Component
front_of cs = take (front_length cs) cs

-- the first separator and what stands behind it
abbrev pub rest_of : List Component → List Component
rest_of cs = drop (front_length cs) cs

-- is it `=`?
abbrev pub is_equals_mark : Mark → Bool
is_equals_mark marks.Equals = true
is_equals_mark m = false

-- is the first component `=`?
abbrev pub begins_equals : List Component → Bool
begins_equals [] = false
begins_equals (c ∷ cs) = is_equals_mark (mark_of c)

-- the relation of `<` or `<=`, and of `>` or `>=`
abbrev pub with_equals : Relation → Relation → Bool → Separator
with_equals bare wide true = separators.Relation wide
with_equals bare wide false = separators.Relation bare

-- the separator that begins with this mark, where `=` touches it or does not
abbrev pub separator_at : Mark → Bool → Separator
separator_at marks.Colon equals = separators.Colon
separator_at marks.Less equals = with_equals relations.Less relations.LessEqual equals
separator_at marks.Greater equals = with_equals relations.Greater relations.GreaterEqual equals
separator_at marks.Equals equals = separators.Relation relations.Equal
separator_at m equals = separators.None

-- is it the first of two Delims that make one relation?
abbrev pub takes_equals : Mark → Bool → Bool
takes_equals marks.Less equals = equals
takes_equals marks.Greater equals = equals
takes_equals m equals = false

-- the separator that the components begin with
abbrev pub separator_of : List Component → Separator
separator_of [] = separators.None
separator_of (c ∷ cs) = separator_at (mark_of c) (begins_equals cs)

-- without the first component
abbrev pub behind_one : List Component → List Component
behind_one [] = []
behind_one (c ∷ cs) = cs

-- what stands behind the separator that the components begin with
abbrev pub behind_separator : List Component → List Component
behind_separator [] = []
behind_separator (c ∷ cs) = if takes_equals (mark_of c) (begins_equals cs) then behind_one cs else cs

-- Features.

-- a feature in the boolean context
abbrev pub boolean : Option (List ℕ) → Option Condition
boolean None = None
boolean (Some name) = Some (condition.Feature (record { name = name; value = None }))

-- a feature in the plain context
abbrev pub plain : Option (List ℕ) → Option (List ℕ) → Option Condition
plain None value = None
plain (Some name) None = None
plain (Some name) (Some value) = Some (condition.Feature (record { name = name; value = Some value }))

-- a range with one bound
abbrev pub ray : Option (List ℕ) → Relation → Option (List ℕ) → Option Condition
ray None r value = None
ray (Some name) r None = None
ray (Some name) r (Some value) = if is_range_feature name then Some (condition.Range (record { name = name; first = record { relation = r; value = value }; second = None })) else None

-- The name stands before the relation where it may, and else behind it.
abbrev pub one_bound : List Component → Relation → List Component → Option Condition
one_bound left r right = option_or (ray (name_in left) r (value_in right)) (ray (name_in right) (turned r) (value_in left))

-- is it `<` or `<=`?
abbrev pub is_rising : Relation → Bool
is_rising relations.Less = true
is_rising relations.LessEqual = true
is_rising r = false

-- is it `>` or `>=`?
abbrev pub is_falling : Relation → Bool
is_falling relations.Greater = true
is_falling relations.GreaterEqual = true
is_falling r = false

-- do both relations go the same way?
abbrev pub is_same_way : Relation → Relation → Bool
is_same_way r s = (is_rising r && is_rising s) || (is_falling r && is_falling s)

-- a range with two bounds
abbrev pub interval : Option (List ℕ) → Relation → Option (List ℕ) → Relation → Option (List ℕ) → Option Condition
interval None r name s high = None
interval (Some low) r None s high = None
interval (Some low) r (Some name) s None = None
interval (Some low) r (Some name) s (Some high) =
    if is_range_feature name && is_same_way r s
    then Some (condition.Range (record { name = name; first = record { relation = turned r; value = low }; second = Some (record { relation = s; value = high }) }))
    else None

-- what two or three sections say, with a relation between the first two
abbrev pub ranged : List Component → Relation → List Component → Separator → List Component → Option Condition
ranged left r middle separators.None right = one_bound left r middle
ranged left r middle separators.Colon right = None
ranged left r middle (separators.Relation s) right = interval (value_in left) r (name_in middle) s (value_in right)

-- what sections say, by the separator behind the first
abbrev pub sections : List Component → Separator → List Component → Option Condition
sections left separators.None rest = boolean (name_in left)
sections left separators.Colon rest = plain (name_in left) (value_in rest)
sections left (separators.Relation r) rest = ranged left r (front_of rest) (separator_of (rest_of rest)) (behind_separator (rest_of rest))

-- The media feature that these components are: a name, a name and a value with a colon between them, or a name and one or
-- two values with relations between them.
abbrev pub feature_of : List Component → Option Condition
feature_of cs = sections (front_of cs) (separator_of (rest_of cs)) (behind_separator (rest_of cs))
