-- The pseudo-classes and pseudo-elements of Selectors 3.
use Rattle.std.specs.Prelude.{ℕ, List, [], ◌∷◌, Bool, ◌||◌, codes, nat_eq}
use Rattle.std.specs.List.{before_first, list_any}
use Rattle.css_tokens.specs.Trees.{is_text}

-- the pseudo-classes (section 6.6), but for `:not`, which is no name of a pseudo-class here
abbrev pub old_classes : List (List ℕ)
old_classes =
    codes "root" ∷ codes "first-child" ∷ codes "last-child" ∷ codes "first-of-type" ∷ codes "last-of-type" ∷ codes "only-child" ∷ codes "only-of-type"
    ∷ codes "empty" ∷ codes "link" ∷ codes "visited" ∷ codes "active" ∷ codes "hover" ∷ codes "focus" ∷ codes "target"
    ∷ codes "enabled" ∷ codes "disabled" ∷ codes "checked"
    ∷ codes "nth-child" ∷ codes "nth-last-child" ∷ codes "nth-of-type" ∷ codes "nth-last-of-type" ∷ codes "lang" ∷ []

-- the pseudo-elements (section 7)
abbrev pub old_elements : List (List ℕ)
old_elements = codes "first-line" ∷ codes "first-letter" ∷ codes "before" ∷ codes "after" ∷ []

-- is it the name of one of these pseudo-classes?
abbrev pub is_old_class : List ℕ → Bool
is_old_class name = list_any (is_text name) old_classes

-- is it the name of one of these pseudo-elements?
abbrev pub is_old_element : List ℕ → Bool
is_old_element name = list_any (is_text name) old_elements

-- what stands before the first `(`; all of the text where there is none
abbrev pub name_before_argument : List ℕ → List ℕ
name_before_argument text = before_first (λ b. nat_eq b 40) text

-- does Selectors 3 have the pseudo-class or pseudo-element of this text, whatever its argument?
abbrev pub is_old_pseudo : List ℕ → Bool
is_old_pseudo text = is_old_class (name_before_argument text) || is_old_element (name_before_argument text)
