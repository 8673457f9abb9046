use Rattle.std.proofs.Common.{◌≡◌, List, [], ◌∷◌, ap, ◌∙◌, codes, rules}
use Rattle.std.specs.Fmt.{digits}
use Rattle.std.specs.Str.{chars}
use lib.Utf8.{encode}
use Rattle.css_tokens.specs.declared.kind.Kind.TheVariants as kinds
use Rattle.selector_types.specs.declared.selector.Compound.{Compound}
use Rattle.selector_types.specs.declared.selector.Selector.{Selector}
use Rattle.selector_types.specs.declared.selector.Simple as simple
use Rattle.selector_types.specs.Samples.{every, one, only, part_at, pseudo, untyped}
use Rattle.selector_types.specs.Spelling.{call, colon, comma, compound_spelling, delim, list_spelling, list_text, single, text_of}
use Rattle.selector_types.proofs.Computing.{computing}
use Rattle.selector_types.proofs.examples.texts.Goals as goal

-- the text of a call, from the components of its argument
not_text : (ss : List Selector) → list_text (only (simple.Not ss) ∷ []) ≡ text_of (call (codes "not(") (list_spelling ss))
not_text ss = simp computing (search (rules, computing))

local_text : (k : Compound) → list_text (only (simple.Local k) ∷ []) ≡ text_of (call (codes "local(") (compound_spelling k))
local_text k = simp computing (search (rules, computing))

two_spelled : list_spelling (only (pseudo "hover") ∷ one every ∷ []) ≡ colon ∷ single kinds.Ident (codes "hover") ∷ comma ∷ delim (codes "*") ∷ []
two_spelled = simp computing (search (rules, computing))

parent_spelled : list_spelling (only simple.Parent ∷ []) ≡ delim (codes "&") ∷ []
parent_spelled = simp computing (search (rules, computing))

where_spelled : (ss : List Selector) → compound_spelling (untyped (part_at 0 (simple.Where ss) ∷ [])) ≡ call (codes "where(") (list_spelling ss)
where_spelled ss = simp computing (search (rules, computing))

not_called : text_of (call (codes "not(") (colon ∷ single kinds.Ident (codes "hover") ∷ comma ∷ delim (codes "*") ∷ [])) ≡ codes ":not(:hover,*)"
not_called = simp computing (search (rules, computing))

local_called : text_of (call (codes "local(") (call (codes "where(") (delim (codes "&") ∷ []))) ≡ codes ":local(:where(&))"
local_called = simp computing (search (rules, computing))

pub returns-clause-class_name : goal.returns-clause-class_name
returns-clause-class_name c = simp computing (search (rules, computing))

pub returns-clause-class_that_begins_with_a_digit : goal.returns-clause-class_that_begins_with_a_digit
unfolding digits chars encode
returns-clause-class_that_begins_with_a_digit c = simp computing (search (rules, computing))

pub returns-clause-attribute_alone : goal.returns-clause-attribute_alone
returns-clause-attribute_alone c = simp computing (search (rules, computing))

pub returns-clause-two_selectors : goal.returns-clause-two_selectors
returns-clause-two_selectors c = simp computing (search (rules, computing))

pub returns-clause-descendant : goal.returns-clause-descendant
returns-clause-descendant c = simp computing (search (rules, computing))

pub returns-clause-child : goal.returns-clause-child
returns-clause-child c = simp computing (search (rules, computing))

pub returns-clause-child_behind_dashes : goal.returns-clause-child_behind_dashes
returns-clause-child_behind_dashes c = simp computing (search (rules, computing))

pub returns-clause-next : goal.returns-clause-next
returns-clause-next c = simp computing (search (rules, computing))

pub returns-clause-later : goal.returns-clause-later
returns-clause-later c = simp computing (search (rules, computing))

pub returns-clause-step : goal.returns-clause-step
returns-clause-step c = simp computing (search (rules, computing))

pub returns-clause-element : goal.returns-clause-element
returns-clause-element c = simp computing (search (rules, computing))

pub returns-clause-not_of_two : goal.returns-clause-not_of_two
returns-clause-not_of_two c = not_text (only (pseudo "hover") ∷ one every ∷ []) ∙ ap (λ cs. text_of (call (codes "not(") cs)) two_spelled ∙ not_called

pub returns-clause-empty_is : goal.returns-clause-empty_is
returns-clause-empty_is c = simp computing (search (rules, computing))

pub returns-clause-where_in_local : goal.returns-clause-where_in_local
returns-clause-where_in_local c =
    local_text (untyped (part_at 0 (simple.Where (only simple.Parent ∷ [])) ∷ []))
    ∙ ap (λ cs. text_of (call (codes "local(") cs)) (where_spelled (only simple.Parent ∷ []) ∙ ap (call (codes "where(")) parent_spelled)
    ∙ local_called

pub returns-clause-lang_of_a_plus : goal.returns-clause-lang_of_a_plus
returns-clause-lang_of_a_plus c = simp computing (search (rules, computing))

pub returns-clause-step_of_two : goal.returns-clause-step_of_two
returns-clause-step_of_two c = simp computing (search (rules, computing))
