-- What stands in `[]`, in `:nth-..()` and in `:lang()` (Selectors 4, sections 6, 7.2 and 18; CSS Syntax 3, section 6). The
-- tokens are those without comments.
use Rattle.std.specs.Prelude.{ℕ, List, [], ◌∷◌, ◌++◌, Bool, true, false, ◌||◌, ◌&&◌, codes, Option, Some, None, if◌then◌else◌}
use Rattle.std.specs.List.{list_all}
use Rattle.std.specs.Option.{option_and_then, option_map, option_map_or}
use Rattle.css_tokens.specs.declared.kind.Kind.{Kind}
use Rattle.css_tokens.specs.declared.kind.Kind.TheVariants as kinds
use Rattle.css_tokens.specs.Names.{name_of_word}
use Rattle.css_tokens.specs.Piece.{Piece}
use Rattle.css_tokens.specs.Trees.{is_text}
use Rattle.selector_types.specs.declared.selector.Attribute.{Attribute}
use Rattle.selector_types.specs.declared.selector.Test.{Test}
use Rattle.selector_types.specs.declared.selector.Test.TheVariants as tests
use Rattle.selector_types.specs.Names.{has_space, lowered}
use Rattle.selector_types.specs.AnPlusB.{after_spaces, is_an_plus_b}

-- white space?
abbrev pub is_white_kind : Kind → Bool
is_white_kind kinds.White = true
is_white_kind k = false

-- an identifier?
abbrev pub is_ident_kind : Kind → Bool
is_ident_kind kinds.Ident = true
is_ident_kind k = false

-- a Delim?
abbrev pub is_delim_kind : Kind → Bool
is_delim_kind kinds.Delim = true
is_delim_kind k = false

-- the tokens without white space in front
abbrev pub after_white : List Piece → List Piece
after_white [] = []
after_white (p ∷ ps) = if is_white_kind p.kind then after_white ps else p ∷ ps

-- is there no token but white space?
abbrev pub is_white : List Piece → Bool
is_white ps = list_all (λ p. is_white_kind p.kind) ps

-- the name that an identifier spells
abbrev pub name_in : Piece → Option (List ℕ)
name_in p = if is_ident_kind p.kind then Some (name_of_word p.kind p.text) else None

-- Attribute selectors.

-- is it the Delim of this text?
abbrev pub is_delim : List ℕ → Piece → Bool
is_delim text p = is_delim_kind p.kind && is_text p.text text

-- the test whose operator is a Delim of this text before a `=`
abbrev pub test_before_equals : List ℕ → Option Test
test_before_equals text =
    if is_text text (codes "~") then Some tests.Word
    else (if is_text text (codes "|") then Some tests.Dash
    else (if is_text text (codes "^") then Some tests.Prefix
    else (if is_text text (codes "$") then Some tests.Suffix
    else (if is_text text (codes "*") then Some tests.Contains
    else None))))

-- the test of an operator that begins with this token and goes on with a `=`
abbrev pub test_of : Piece → Option Test
test_of p = if is_delim_kind p.kind then test_before_equals p.text else None

-- A value is a name or the content of a String.
abbrev pub value_in_kind : Kind → List ℕ → Option (List ℕ)
value_in_kind kinds.Ident text = Some (name_of_word kinds.Ident text)
value_in_kind kinds.String text = Some (name_of_word kinds.String text)
value_in_kind k text = None

-- is it `i` or `s`, in any case of letters?
abbrev pub is_flag : Piece → Bool
is_flag p = is_ident_kind p.kind && (is_text (lowered (name_of_word p.kind p.text)) (codes "i") || is_text (lowered (name_of_word p.kind p.text)) (codes "s"))

-- behind a value: nothing, or a flag
abbrev pub flagged : List ℕ → Test → List ℕ → List Piece → Option Attribute
flagged name test value [] = Some (record { name = name; test = test; value = value; flag = false })
flagged name test value (p ∷ ps) = if is_flag p && is_white ps then Some (record { name = name; test = test; value = value; flag = true }) else None

-- behind an operator: a value
abbrev pub valued : List ℕ → Test → List Piece → Option Attribute
valued name test [] = None
valued name test (p ∷ ps) = option_and_then (λ value. flagged name test value (after_white ps)) (value_in_kind p.kind p.text)

-- behind the first Delim of an operator: `=`
abbrev pub operated : List ℕ → Test → List Piece → Option Attribute
operated name test [] = None
operated name test (p ∷ ps) = if is_delim (codes "=") p then valued name test (after_white ps) else None

-- behind the name: nothing, or an operator
abbrev pub named : List ℕ → List Piece → Option Attribute
named name [] = Some (record { name = name; test = tests.Has; value = []; flag = false })
named name (p ∷ ps) =
    if is_delim (codes "=") p then valued name tests.Equals (after_white ps)
    else option_and_then (λ test. operated name test ps) (test_of p)

-- white space, and then a name
abbrev pub begun : List Piece → Option Attribute
begun [] = None
begun (p ∷ ps) = option_and_then (λ name. named name (after_white ps)) (name_in p)

-- An attribute selector is a name, or a name, an operator, a value and perhaps a flag. White space may stand at both ends,
-- round the operator and before the flag.
abbrev pub attribute_of : List Piece → Option Attribute
attribute_of ps = begun (after_white ps)

-- Names as arguments.

-- a name alone
abbrev pub lone : List Piece → Option (List ℕ)
lone [] = None
lone (p ∷ ps) = if is_white ps then name_in p else None

-- A name, white space at both ends aside.
abbrev pub lone_name : List Piece → Option (List ℕ)
lone_name ps = lone (after_white ps)

-- AN+B.

-- the text; none that has a space, since that is no white space between tokens
abbrev pub unspaced : List ℕ → Option (List ℕ)
unspaced text = if has_space text then None else Some text

-- the text of a token of AN+B, where white space has this one
abbrev pub kind_text : List ℕ → Kind → List ℕ → Option (List ℕ)
kind_text white kinds.White text = Some white
kind_text white kinds.Ident text = unspaced (name_of_word kinds.Ident text)
kind_text white kinds.Number text = unspaced text
kind_text white kinds.Dimension text = unspaced text
kind_text white kinds.Delim text = if is_text text (codes "+") || is_text text (codes "-") then Some text else None
kind_text white k text = None

-- the text with one more in front, where there are both
abbrev pub text_before : Option (List ℕ) → Option (List ℕ) → Option (List ℕ)
text_before None rest = None
text_before (Some text) rest = option_map (λ r. text ++ r) rest

-- the texts of tokens one after another
abbrev pub texts_of : List ℕ → List Piece → Option (List ℕ)
texts_of white [] = Some []
texts_of white (p ∷ ps) = text_before (kind_text white p.kind p.text) (texts_of white ps)

-- The canonical text of AN+B: in lower case and without white space.
abbrev pub an_plus_b : List Piece → Option (List ℕ)
an_plus_b ps =
    if option_map_or (λ text. is_an_plus_b (after_spaces (lowered text))) (texts_of (codes " ") ps) false
    then option_map lowered (texts_of [] ps)
    else None
