-- Which selectors have a spelling that is read as them (Selectors 4, section 18, Grammar).
use Rattle.std.specs.Prelude.{ℕ, List, [], ◌∷◌, Bool, true, false, not, ◌||◌, ◌&&◌, if◌then◌else◌, codes, Option, Some, None, is_some}
use Rattle.std.specs.List.{list_all, list_any}
use Rattle.std.specs.Option.{option_and_then, option_map_or}
use Rattle.std.specs.Str.{is_utf8}
use Rattle.css_tokens.specs.declared.kind.Kind.{Kind}
use Rattle.css_tokens.specs.declared.kind.Kind.TheVariants as kinds
use Rattle.css_tokens.specs.Names.{is_content, is_name, name_of_word}
use Rattle.css_tokens.specs.NameText.{name_text}
use Rattle.css_tokens.specs.Piece.{Word}
use Rattle.css_tokens.specs.Tokens.{is_control}
use Rattle.css_tokens.specs.Trees.{is_text}
use Rattle.selector_types.specs.declared.selector.Attribute.{Attribute}
use Rattle.selector_types.specs.declared.selector.Combinator.{Combinator}
use Rattle.selector_types.specs.declared.selector.Combinator.TheVariants as combinators
use Rattle.selector_types.specs.declared.selector.Compound.{Compound}
use Rattle.selector_types.specs.declared.selector.Selector.{Selector}
use Rattle.selector_types.specs.declared.selector.Simple.{Simple}
use Rattle.selector_types.specs.declared.selector.Tail.{Tail}
use Rattle.selector_types.specs.declared.selector.Test.{Test}
use Rattle.selector_types.specs.declared.selector.Test.TheVariants as tests
use Rattle.selector_types.specs.declared.selector.TypeName.{TypeName}
use Rattle.selector_types.specs.declared.selector.TypeName.TheVariants as types
use Rattle.selector_types.specs.AnPlusB.{is_an_plus_b}
use Rattle.selector_types.specs.BareFold.{BareSteps, bare_simple, bare_compound, bare_selector}
use Rattle.selector_types.specs.Names.{has_space, is_id, is_old_element, pseudo_text}
use Rattle.selector_types.specs.Spelling.{before_close, behind, text_functions}

-- Texts.

-- the name that a text spells as an identifier
abbrev pub name_in_text : List ℕ → List ℕ
name_in_text text = name_of_word kinds.Ident text

-- is it how a name prints?
abbrev pub is_name_text : List ℕ → Bool
is_name_text text = is_name (name_in_text text) && is_text (name_text (name_in_text text)) text

-- is it what is kept of the name of a pseudo-class or a pseudo-element?
abbrev pub is_pseudo_text : List ℕ → Bool
is_pseudo_text text = is_name (name_in_text text) && is_text (pseudo_text (name_in_text text)) text

-- is it AN+B without white space?
abbrev pub is_step_text : List ℕ → Bool
is_step_text text = is_an_plus_b text && not (has_space text)

-- is it what is kept of the argument of this function: of `lang(` a name, and of the others AN+B?
abbrev pub is_argument_text : List ℕ → List ℕ → Bool
is_argument_text f text = if is_text f (codes "lang(") then is_name_text text else is_step_text text

-- is it one of these functions with its argument, or else the name of a pseudo-class?
abbrev pub is_pseudo_of : List (List ℕ) → List ℕ → Bool
is_pseudo_of [] text = is_pseudo_text text && not (is_old_element text)
is_pseudo_of (f ∷ fs) text = option_map_or (is_argument_text f) (option_and_then before_close (behind f text)) (is_pseudo_of fs text)

-- is it what is kept of a pseudo-class? The four pseudo-elements that may have one colon are none.
abbrev pub is_readable_pseudo : List ℕ → Bool
is_readable_pseudo text = is_pseudo_of text_functions text

-- Attributes.

-- is there no value where the test takes none, and else one that a string may mean?
abbrev pub is_readable_value : Test → List ℕ → Bool
is_readable_value tests.Has [] = true
is_readable_value tests.Has (b ∷ value) = false
is_readable_value test value = is_content value

-- A flag has no spelling.
abbrev pub is_readable_attribute : Attribute → Bool
is_readable_attribute a = is_name a.name && (not a.flag && is_readable_value a.test a.value)

-- Compounds.

-- is it no type selector, `*`, or a name?
abbrev pub is_readable_type : TypeName → Bool
is_readable_type types.None = true
is_readable_type types.Universal = true
is_readable_type (types.Name name) = is_name name

-- is a type selector written?
abbrev pub has_type : TypeName → Bool
has_type types.None = false
has_type types.Universal = true
has_type (types.Name name) = true

-- is there something in the list?
abbrev pub has_some : {A : Type 0} → List A → Bool
has_some [] = false
has_some (x ∷ xs) = true

-- no pseudo-element; or one with its states, where the compound is the last one
abbrev pub is_readable_tail : Bool → Option Tail → Bool
is_readable_tail last None = true
is_readable_tail last (Some t) = last && (is_pseudo_text t.element && list_all is_pseudo_text t.states)

-- Selectors.

-- no combinator; or one other than white space, where the selector is nested
abbrev pub is_readable_lead : Bool → Option Combinator → Bool
is_readable_lead nested None = true
is_readable_lead nested (Some combinators.Descendant) = false
is_readable_lead nested (Some combinator) = nested

-- compounds, the first of which is asked as the last one where no other stands behind it
abbrev pub are_readable : (Bool → Bool) → List (Combinator × (Bool → Bool)) → Bool
are_readable first [] = first true
are_readable first (l ∷ rest) = first false && are_readable l.1 rest

-- Has it a spelling that is read as it? Of a compound it is asked where it is the last one and where it is not, of a selector
-- where it is nested and where it is not. Those in the argument of a pseudo-class are not.
abbrev pub readable : BareSteps Bool (Bool → Bool) (Bool → Bool)
readable = record {
  class = is_name;
  id = is_name;
  attribute = is_readable_attribute;
  pseudo = is_readable_pseudo;
  not_of = λ ss. has_some ss && list_all (λ s. s false) ss;
  is_of = λ ss. list_all (λ s. s false) ss;
  where_of = λ ss. list_all (λ s. s false) ss;
  parent = true;
  local = λ k. k false;
  global = λ k. k false;
  foreign = false;
  compound = λ kind parts tail last. (has_type kind || (has_some parts || is_some tail)) && (is_readable_type kind && (list_all (λ p. p) parts && is_readable_tail last tail));
  selector = λ lead first rest nested. is_readable_lead nested lead && are_readable first rest;
}

-- a simple selector
abbrev pub is_readable_simple : Simple → Bool
is_readable_simple = bare_simple readable

-- a compound, where it is the last one or not
abbrev pub is_readable_compound : Bool → Compound → Bool
is_readable_compound last k = bare_compound readable k last

-- a selector, which is nested or not
abbrev pub is_readable_selector : Bool → Selector → Bool
is_readable_selector nested s = bare_selector readable s nested

-- There is a selector, and each has a spelling that is read as it.
abbrev pub is_readable_list : Bool → List Selector → Bool
is_readable_list nested ss = has_some ss && list_all (is_readable_selector nested) ss

-- Selectors without what cannot be written: without `Foreign`, of which nothing is kept, and without flags.
abbrev pub writable : BareSteps Bool Bool Bool
writable = record {
  class = λ name. true;
  id = λ name. true;
  attribute = λ a. not a.flag;
  pseudo = λ text. true;
  not_of = λ ss. list_all (λ s. s) ss;
  is_of = λ ss. list_all (λ s. s) ss;
  where_of = λ ss. list_all (λ s. s) ss;
  parent = true;
  local = λ k. k;
  global = λ k. k;
  foreign = false;
  compound = λ kind parts tail. list_all (λ p. p) parts;
  selector = λ lead first rest. first && list_all (λ l. l.1) rest;
}

-- a simple selector
abbrev pub is_writable_simple : Simple → Bool
is_writable_simple = bare_simple writable

-- a compound
abbrev pub is_writable_compound : Compound → Bool
is_writable_compound = bare_compound writable

-- a selector
abbrev pub is_writable_selector : Selector → Bool
is_writable_selector = bare_selector writable

-- each selector of a list
abbrev pub is_writable_list : List Selector → Bool
is_writable_list ss = list_all is_writable_selector ss

-- Words.

-- The name of an Ident and that of an id is one, and a String means a content; any other token may have any text.
abbrev pub is_named : Kind → List ℕ → Bool
is_named kinds.Ident text = is_name (name_of_word kinds.Ident text)
is_named kinds.Hash text = not (is_id text) || is_name (name_of_word kinds.Hash text)
is_named kinds.String text = is_content (name_of_word kinds.String text)
is_named k text = true

-- is it in UTF-8, without control characters?
abbrev pub is_clean : List ℕ → Bool
is_clean text = is_utf8 text && not (list_any is_control text)

-- the word is a piece of a text, and what it means can be written
abbrev pub is_spelled : Word → Bool
is_spelled w = is_clean w.text && is_named w.kind w.text
