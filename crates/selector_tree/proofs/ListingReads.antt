-- A list that is read from left to right is the list that the grammar gives.
use Rattle.std.proofs.Common.{◌≡◌, ℕ, List, [], ◌∷◌, Bool, true, false, refl, sym, ap, ◌∙◌, subst}
use Rattle.std.specs.Prelude.{Result, Ok, Err, None, if◌then◌else◌, IsTrue, ◌↔◌}
use Rattle.std.specs.Option.{option_and_then}
use Rattle.std.proofs.lemmas.Bool.{false≢true}
use Rattle.selector_types.specs.declared.selector.Selector.{Selector}
use Rattle.selector_tree.specs.declared.fault.SelectorFault.{SelectorFault}
use Rattle.selector_tree.specs.declared.fault.SelectorFault.TheVariants as faults
use Rattle.selector_tree.specs.declared.reading.Listing.{Listing}
use Rattle.selector_tree.specs.Faults.{FaultIs}
use Rattle.selector_tree.specs.Grammar.{Mark, is_comma_sign, first_and}
use Rattle.selector_tree.specs.Signs.{lone_compound, read}
use Rattle.selector_tree.specs.Private.ReadingSteps.{behind_list, list_from, listing_step, pending_reading, pending_step, with_member}
use Rattle.selector_tree.proofs.SignsRead.{comma-turn, comma-fault, more-turn}

-- the list of what is read and the marks behind it
abbrev after : Bool → Result Listing ℕ → List Mark → ℕ → Result (List Selector) ℕ
after nested (Err place) ms end = Err place
after nested (Ok l) ms end = behind_list l.list (list_from nested l.pending ms end)

member-at : (nested : Bool) (l : Listing) (m : Mark) (ms : List Mark) (end : ℕ) (r : Result Selector ℕ) → is_comma_sign m.sign ≡ true → pending_reading l.pending m.at ≡ r
    → after nested (with_member nested l.list r) ms end ≡ behind_list l.list (list_from nested l.pending (m ∷ ms) end)
member-at nested l m ms end (Ok s) comma e = comma-turn nested l.list l.pending m ms end s comma e
member-at nested l m ms end (Err place) comma e = sym (comma-fault nested l.list l.pending m ms end place comma e)

step-at : (nested : Bool) (l : Listing) (m : Mark) (ms : List Mark) (end : ℕ) (comma : Bool) → is_comma_sign m.sign ≡ comma
    → after nested (if comma then with_member nested l.list (pending_reading l.pending m.at) else Ok (record { list = l.list; pending = pending_step l.pending m.sign m.at })) ms end ≡ behind_list l.list (list_from nested l.pending (m ∷ ms) end)
step-at nested l m ms end true comma = member-at nested l m ms end (pending_reading l.pending m.at) comma refl
step-at nested l m ms end false comma = more-turn nested l.list l.pending m ms end comma

-- one more mark
pub step-reads : (nested : Bool) (l next : Listing) (m : Mark) (ms : List Mark) (end : ℕ) → listing_step nested l m.sign m.at ≡ Ok next
    → behind_list next.list (list_from nested next.pending ms end) ≡ behind_list l.list (list_from nested l.pending (m ∷ ms) end)
step-reads nested l next m ms end e = ap (λ (r : Result Listing ℕ). after nested r ms end) (sym e) ∙ step-at nested l m ms end (is_comma_sign m.sign) refl

step-fails : (nested : Bool) (l : Listing) (m : Mark) (ms : List Mark) (end place : ℕ) → listing_step nested l m.sign m.at ≡ Err place → behind_list l.list (list_from nested l.pending (m ∷ ms) end) ≡ Err place
step-fails nested l m ms end place e = sym (step-at nested l m ms end (is_comma_sign m.sign) refl) ∙ ap (λ (r : Result Listing ℕ). after nested r ms end) e

-- a mark that ends a member which cannot be read
pub step-fault : (nested : Bool) (l : Listing) (m : Mark) (ms : List Mark) (end : ℕ) (fault : SelectorFault) → FaultIs fault (listing_step nested l m.sign m.at) → FaultIs fault (behind_list l.list (list_from nested l.pending (m ∷ ms) end))
step-fault nested l m ms end (faults.Syntax place) e = step-fails nested l m ms end place e
step-fault nested l m ms end faults.Memory e = tt

-- Lists in Functions.

-- a list with a whole member and one more is not one selector
pub two-members : (s : Selector) (ss : List Selector) (r : Result Selector ℕ) → option_and_then lone_compound (read (behind_list (s ∷ ss) (first_and r (Ok [])))) ≡ None
two-members s [] (Err place) = refl
two-members s [] (Ok t) = refl
two-members s (u ∷ ss) (Err place) = refl
two-members s (u ∷ ss) (Ok t) = refl

-- more than one selector
pub not-alone : (list : List Selector) (r : Result Selector ℕ) (b : Bool) → (IsTrue b ↔ (list ≡ [])) → b ≡ false → None ≡ option_and_then lone_compound (read (behind_list list (first_and r (Ok []))))
not-alone [] r b h e = absurd (false≢true (subst (λ (x : Bool). x ≡ true) e (h.1 refl)))
not-alone (s ∷ ss) r b h e = sym (two-members s ss r)
