-- A selector list is read or not wherever it ends.
use Rattle.std.proofs.Common.{◌≡◌, ℕ, List, [], ◌∷◌, map, Bool, false, Option, Some, None, refl, sym, ◌∙◌, ap, option_map}
use Rattle.std.specs.Prelude.{Result, Ok, Err}
use Rattle.css_tokens.specs.declared.component.Component.{Component}
use Rattle.selector_types.specs.declared.selector.Selector.{Selector}
use Rattle.selector_tree.specs.Grammar.{Mark, Member, or_fault, first_and, fault_place, members_reading, marks_reading, cut_at_commas, selector_of}
use Rattle.selector_tree.specs.Signs.{list_in, list_reading, mark_of, read}

pub first-alike : (o : Option Selector) (p q : ℕ) (l m : Result (List Selector) ℕ) → read l ≡ read m → read (first_and (or_fault o p) l) ≡ read (first_and (or_fault o q) m)
first-alike None p q l m e = refl
first-alike (Some s) p q (Err a) (Err b) e = refl
first-alike (Some s) p q (Err a) (Ok ts) e = absurd (cc e)
first-alike (Some s) p q (Ok ss) (Err b) e = absurd (cc e)
first-alike (Some s) p q (Ok ss) (Ok ts) e = ap (option_map (λ (xs : List Selector). s ∷ xs)) e

members-alike : (nested : Bool) (a b : ℕ) (ms : List Member) → read (members_reading nested a ms) ≡ read (members_reading nested b ms)
members-alike nested a b [] = refl
members-alike nested a b (m ∷ ms) =
    first-alike (selector_of nested m.marks) (fault_place a m) (fault_place b m) (members_reading nested a ms) (members_reading nested b ms) (members-alike nested a b ms)

pub marks-alike : (nested : Bool) (a b : ℕ) (ms : List Mark) → read (marks_reading nested ms a) ≡ read (marks_reading nested ms b)
marks-alike nested a b ms = members-alike nested a b ((cut_at_commas ms).0 ∷ (cut_at_commas ms).1)

-- the list of a prelude, read up to any place
pub list-read : (cs : List Component) (end : ℕ) → read (list_reading false cs end) ≡ list_in (map mark_of cs)
list-read cs end = marks-alike false end 0 (map mark_of cs)

pub list-given : (cs : List Component) (end : ℕ) (list : List Selector) → list_reading false cs end ≡ Ok list → list_in (map mark_of cs) ≡ Some list
list-given cs end list e = sym (list-read cs end) ∙ ap read e

pub list-found : (cs : List Component) (list : List Selector) → list_in (map mark_of cs) ≡ Some list → list_reading false cs 0 ≡ Ok list
list-found cs list e = at (list_reading false cs 0) e
  where
    at : (r : Result (List Selector) ℕ) → read r ≡ Some list → r ≡ Ok list
    at (Err place) h = absurd (cc h)
    at (Ok ss) h = let same : ss ≡ list = cc h in ap (λ (xs : List Selector). Ok xs) same
