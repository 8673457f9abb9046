-- How selectors are spelled: the component values that each is written with (Selectors 4, section 18, Grammar; CSSOM,
-- section 5.2; this project's own choice of white space). Texts and words are derived from these.
use Rattle.std.specs.Prelude.{ℕ, List, [], ◌∷◌, ◌++◌, map, flat_map, Bool, true, false, not, ◌||◌, ◌&&◌, if◌then◌else◌, codes, nat_eq, Option, Some, None}
use Rattle.std.specs.List.{ends_with, list_all}
use Rattle.std.specs.Char.{is_ascii_digit}
use Rattle.std.specs.Option.{option_and_then, option_map, option_map_or}
use Rattle.css_tokens.specs.declared.kind.Kind.{Kind}
use Rattle.css_tokens.specs.declared.kind.Kind.TheVariants as kinds
use Rattle.css_tokens.specs.declared.component.Component.{Component}
use Rattle.css_tokens.specs.declared.component.Component as component
use Rattle.css_tokens.specs.NameText.{name_text}
use Rattle.css_tokens.specs.Piece.{spelled}
use Rattle.css_tokens.specs.StringText.{string_text}
use Rattle.css_tokens.specs.Trees.{is_text, words_all}
use Rattle.css_tokens.specs.Numbers.{begins_digit}
use Rattle.selector_types.specs.declared.selector.Combinator.{Combinator}
use Rattle.selector_types.specs.declared.selector.Combinator.TheVariants.{Descendant, Child, Next, Later}
use Rattle.selector_types.specs.declared.selector.Test.{Test}
use Rattle.selector_types.specs.declared.selector.Test.TheVariants as tests
use Rattle.selector_types.specs.declared.selector.TypeName.{TypeName}
use Rattle.selector_types.specs.declared.selector.TypeName.TheVariants as types
use Rattle.selector_types.specs.declared.selector.Attribute as attribute
use Rattle.selector_types.specs.declared.selector.Tail as tail
use Rattle.selector_types.specs.declared.selector.Selector as selector
use Rattle.selector_types.specs.declared.selector.Compound as compound
use Rattle.selector_types.specs.declared.selector.Simple.{Simple}
use Rattle.selector_types.specs.BareFold.{BareSteps, bare_simple, bare_compound, bare_selector}

-- Tokens and blocks, each at the place 0.

-- a token that opens and closes nothing
abbrev pub single : Kind → List ℕ → Component
single kind text = component.Single (record { kind = kind; text = text; at = 0 })

-- a block: the token that opens it, and what stands in it
abbrev pub block : Kind → List ℕ → List Component → Component
block kind text items = component.Block (record { opening = record { kind = kind; text = text; at = 0 }; items = items; close = 0 })

-- the identifier that spells this name
abbrev pub ident : List ℕ → Component
ident name = single kinds.Ident (name_text name)

-- the Delim of this text
abbrev pub delim : List ℕ → Component
delim text = single kinds.Delim text

-- one space
abbrev pub space : Component
space = single kinds.White (codes " ")

-- a comma
abbrev pub comma : Component
comma = single kinds.Comma (codes ",")

-- a colon
abbrev pub colon : Component
colon = single kinds.Colon (codes ":")

-- the text of components
abbrev pub text_of : List Component → List ℕ
text_of cs = spelled (words_all cs)

-- Type selectors and attributes.

-- the type selector; nothing where none is written
abbrev pub type_spelling : TypeName → List Component
type_spelling types.None = []
type_spelling types.Universal = delim (codes "*") ∷ []
type_spelling (types.Name name) = ident name ∷ []

-- `=`, and the value as a string
abbrev pub value_spelling : List ℕ → List Component
value_spelling value = delim (codes "=") ∷ single kinds.String (string_text value) ∷ []

-- the operator and the value; nothing where the test takes none
abbrev pub test_spelling : Test → List ℕ → List Component
test_spelling tests.Has value = []
test_spelling tests.Equals value = value_spelling value
test_spelling tests.Word value = delim (codes "~") ∷ value_spelling value
test_spelling tests.Dash value = delim (codes "|") ∷ value_spelling value
test_spelling tests.Prefix value = delim (codes "^") ∷ value_spelling value
test_spelling tests.Suffix value = delim (codes "$") ∷ value_spelling value
test_spelling tests.Contains value = delim (codes "*") ∷ value_spelling value

-- an attribute selector in its brackets, without its flag
abbrev pub attribute_spelling : attribute.Attribute → Component
attribute_spelling a = block kinds.Open (codes "[") (ident a.name ∷ test_spelling a.test a.value)

-- Pseudo-classes with an argument that is a name or AN+B. Their text is kept as it is spelled.

-- the text behind this front, where it begins so
abbrev pub behind : List ℕ → List ℕ → Option (List ℕ)
behind [] text = Some text
behind (p ∷ front) [] = None
behind (p ∷ front) (b ∷ text) = if nat_eq b p then behind front text else None

-- the text before a last `)`
abbrev pub before_close : List ℕ → Option (List ℕ)
before_close [] = None
before_close (b ∷ []) = if nat_eq b 41 then Some [] else None
before_close (b ∷ c ∷ text) = option_map (λ front. b ∷ front) (before_close (c ∷ text))

-- the functions whose argument is a name or AN+B
abbrev pub text_functions : List (List ℕ)
text_functions = codes "nth-child(" ∷ codes "nth-last-child(" ∷ codes "nth-of-type(" ∷ codes "nth-last-of-type(" ∷ codes "lang(" ∷ []

-- what stands before the first `+`
abbrev pub before_plus : List ℕ → List ℕ
before_plus [] = []
before_plus (b ∷ text) = if nat_eq b 43 then [] else b ∷ before_plus text

-- the first `+` and what stands behind it
abbrev pub from_plus : List ℕ → List ℕ
from_plus [] = []
from_plus (b ∷ text) = if nat_eq b 43 then b ∷ text else from_plus text

-- without a sign in front
abbrev pub unsigned : List ℕ → List ℕ
unsigned [] = []
unsigned (b ∷ text) = if nat_eq b 43 || nat_eq b 45 then text else b ∷ text

-- a Number where there are digits alone behind a sign, a Dimension where a digit stands first there, else an Ident
abbrev pub word_kind : List ℕ → Kind
word_kind text = if begins_digit (unsigned text) then (if list_all is_ascii_digit (unsigned text) then kinds.Number else kinds.Dimension) else kinds.Ident

-- what begins with this byte and has no later `+`: a `+` that no digit follows is a Delim
abbrev pub front_spelling : ℕ → List ℕ → List Component
front_spelling b text =
    if nat_eq b 43 && not (begins_digit text) then delim (b ∷ []) ∷ single kinds.Ident text ∷ []
    else single (word_kind (b ∷ text)) (b ∷ text) ∷ []

-- nothing, or the Number that begins with a `+`
abbrev pub back_spelling : List ℕ → List Component
back_spelling [] = []
back_spelling (b ∷ text) = single kinds.Number (b ∷ text) ∷ []

-- AN+B: what stands before a later `+`, and what begins with that
abbrev pub step_spelling : List ℕ → List Component
step_spelling [] = []
step_spelling (b ∷ text) = front_spelling b (before_plus text) ++ back_spelling (from_plus text)

-- the argument of this function: of `lang(` a name, and of the others AN+B
abbrev pub argument_spelling : List ℕ → List ℕ → List Component
argument_spelling f text = if is_text f (codes "lang(") then single kinds.Ident text ∷ [] else step_spelling text

-- one of these functions with its argument, or else a name
abbrev pub pseudo_from : List (List ℕ) → List ℕ → Component
pseudo_from [] text = single kinds.Ident text
pseudo_from (f ∷ fs) text =
    option_map_or (λ argument. block kinds.Function f (argument_spelling f argument)) (option_and_then before_close (behind f text)) (pseudo_from fs text)

-- a pseudo-class, without its colon
abbrev pub pseudo_spelling : List ℕ → Component
pseudo_spelling text = pseudo_from text_functions text

-- a name of this text behind a colon
abbrev pub state_spelling : List ℕ → List Component
state_spelling text = colon ∷ single kinds.Ident text ∷ []

-- a pseudo-element behind two colons and its states; nothing where there is none
abbrev pub tail_spelling : Option tail.Tail → List Component
tail_spelling None = []
tail_spelling (Some t) = colon ∷ state_spelling t.element ++ flat_map state_spelling t.states

-- Selectors.

-- a Function with this argument behind a colon
abbrev pub call : List ℕ → List Component → List Component
call name argument = colon ∷ block kinds.Function name argument ∷ []

-- does the text end in `--`?
abbrev pub ends_in_dashes : List ℕ → Bool
ends_in_dashes text = ends_with nat_eq text (codes "--")

-- a `>`: one space stands before it behind `--`, since `-->` would be read as one token
abbrev pub child_spelling : Bool → List Component
child_spelling true = space ∷ delim (codes ">") ∷ []
child_spelling false = delim (codes ">") ∷ []

-- a combinator, where the text before it ends in `--` or does not
abbrev pub combinator_spelling : Bool → Combinator → List Component
combinator_spelling dashes Descendant = space ∷ []
combinator_spelling dashes Child = child_spelling dashes
combinator_spelling dashes Next = delim (codes "+") ∷ []
combinator_spelling dashes Later = delim (codes "~") ∷ []

-- combinators, each with the compound behind it, where the text before them ends in `--` or does not
abbrev pub links_spelling : Bool → List (Combinator × List Component) → List Component
links_spelling dashes [] = []
links_spelling dashes (l ∷ ls) = combinator_spelling dashes l.0 ++ (l.1 ++ links_spelling (ends_in_dashes (text_of l.1)) ls)

-- a leading combinator, where there is one
abbrev pub lead_spelling : Option Combinator → List Component
lead_spelling None = []
lead_spelling (Some combinator) = combinator_spelling false combinator

-- further selectors, each behind a comma
abbrev pub more_spelling : List (List Component) → List Component
more_spelling ss = flat_map (λ s. comma ∷ s) ss

-- selectors with commas between them
abbrev pub commas_between : List (List Component) → List Component
commas_between [] = []
commas_between (s ∷ ss) = s ++ more_spelling ss

-- How each is spelled from what stands in it. `Foreign`, of which nothing is kept, has no spelling.
abbrev pub spelling : BareSteps (List Component) (List Component) (List Component)
spelling = record {
  class = λ name. delim (codes ".") ∷ ident name ∷ [];
  id = λ name. single kinds.Hash (codes "#" ++ name_text name) ∷ [];
  attribute = λ a. attribute_spelling a ∷ [];
  pseudo = λ text. colon ∷ pseudo_spelling text ∷ [];
  not_of = λ ss. call (codes "not(") (commas_between ss);
  is_of = λ ss. call (codes "is(") (commas_between ss);
  where_of = λ ss. call (codes "where(") (commas_between ss);
  parent = delim (codes "&") ∷ [];
  local = λ k. call (codes "local(") k;
  global = λ k. call (codes "global(") k;
  foreign = [];
  compound = λ kind parts tail. type_spelling kind ++ (flat_map (λ p. p) parts ++ tail_spelling tail);
  selector = λ lead first rest. lead_spelling lead ++ (first ++ links_spelling (ends_in_dashes (text_of first)) rest);
}

-- the components that a simple selector is spelled with
abbrev pub simple_spelling : Simple → List Component
simple_spelling = bare_simple spelling

-- the components of a compound
abbrev pub compound_spelling : compound.Compound → List Component
compound_spelling = bare_compound spelling

-- the components of a selector
abbrev pub selector_spelling : selector.Selector → List Component
selector_spelling = bare_selector spelling

-- the components of a selector list
abbrev pub list_spelling : List selector.Selector → List Component
list_spelling ss = commas_between (map selector_spelling ss)

-- Texts.

-- the text of a simple selector
abbrev pub simple_text : Simple → List ℕ
simple_text x = text_of (simple_spelling x)

-- the text of a compound
abbrev pub compound_text : compound.Compound → List ℕ
compound_text k = text_of (compound_spelling k)

-- the text of a selector
abbrev pub selector_text : selector.Selector → List ℕ
selector_text s = text_of (selector_spelling s)

-- the text of a selector list
abbrev pub list_text : List selector.Selector → List ℕ
list_text ss = text_of (list_spelling ss)
