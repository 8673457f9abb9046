-- The texts of parts, links and further selectors, as they are written one after another.
use Rattle.std.specs.Prelude.{ℕ, List, [], ◌∷◌, ◌++◌, Bool, true, false, flat_map, codes}
use Rattle.selector_types.specs.declared.selector.Link as link
use Rattle.selector_types.specs.declared.selector.Part as part
use Rattle.selector_types.specs.declared.selector.Selector as selector
use Rattle.selector_types.specs.SelectorFold.{simple_of, compound_of, combinator_of}
use Rattle.selector_types.specs.Spelling.{text_of, simple_text, compound_text, selector_text, list_text, combinator_spelling, ends_in_dashes}

-- the text of the parts
abbrev pub parts_text : List part.Part → List ℕ
parts_text ps = flat_map (λ p. simple_text (simple_of p)) ps

-- the text of links, where the text before them ends in `--` or does not
abbrev pub links_text : Bool → List link.Link → List ℕ
links_text dashes [] = []
links_text dashes (l ∷ ls) = text_of (combinator_spelling dashes (combinator_of l)) ++ (compound_text (compound_of l) ++ links_text (ends_in_dashes (compound_text (compound_of l))) ls)

-- the text of further selectors, each behind a comma
abbrev pub more_text : List selector.Selector → List ℕ
more_text ss = flat_map (λ s. codes "," ++ selector_text s) ss

-- a comma, where one is wanted
abbrev pub comma_text : Bool → List ℕ
comma_text true = codes ","
comma_text false = []

-- what is left of a list, of which a comma stands before each selector or before each but the first
abbrev pub left_text : Bool → List selector.Selector → List ℕ
left_text true ss = more_text ss
left_text false ss = list_text ss
