-- The machine goes by the table: each step leaves what is left of the rows.
use Rattle.std.proofs.Common.{◌≡◌, List, [], ◌∷◌, Bool, true, false, ◌&&◌, ◌||◌, not, refl, sym, ap, ap₂, ◌∙◌, nat_eq, Option, Some, None, if◌then◌else◌}
use Rattle.std.proofs.lemmas.Bool.{and_parts}
use Rattle.std.specs.List.{list_all}
use lib.Pointwise.{pointwise}
use Rattle.css_tokens.specs.declared.class.Class.{Class}
use Rattle.css_tokens.specs.declared.kind.Kind.{Kind}
use Rattle.css_tokens.specs.declared.machine.State.{State}
use Rattle.css_tokens.specs.declared.machine.State.TheVariants as state
use Rattle.css_tokens.specs.Patterns.{Pattern, fits}
use Rattle.css_tokens.specs.Kinds.{Row, kind_of, begins, place_of_kind, is_kind}
use Rattle.css_tokens.specs.Private.Machine.{is_set, is_pattern, derived, rows, next, ended}
use Rattle.css_tokens.proofs.Derivatives.{is_set-eq, is_pattern-eq}
use Rattle.css_tokens.proofs.MachineStates.{is_kind-eq, each_state, each_step}

abbrev is_row : Row → Row → Bool
is_row a b = nat_eq (place_of_kind a.kind) (place_of_kind b.kind) && (is_pattern a.pattern b.pattern && is_set a.barred b.barred)

abbrev row_of : Kind → Pattern → List Class → Row
row_of k p b = record { kind = k; pattern = p; barred = b }

is_row-eq : (a b : Row) → is_row a b ≡ true → a ≡ b
is_row-eq a b h =
    let p = and_parts (nat_eq (place_of_kind a.kind) (place_of_kind b.kind)) (is_pattern a.pattern b.pattern && is_set a.barred b.barred) h in
    let q = and_parts (is_pattern a.pattern b.pattern) (is_set a.barred b.barred) p.1 in
    ap (λ k. row_of k a.pattern a.barred) (is_kind-eq a.kind b.kind p.0)
    ∙ ap (λ r. row_of b.kind r a.barred) (is_pattern-eq a.pattern b.pattern q.0)
    ∙ ap (λ s. row_of b.kind b.pattern s) (is_set-eq a.barred b.barred q.1)

are_rows-eq : (a b : List Row) → pointwise is_row a b ≡ true → a ≡ b
are_rows-eq [] [] h = refl
are_rows-eq [] (y ∷ ys) h = cc
are_rows-eq (x ∷ xs) [] h = cc
are_rows-eq (x ∷ xs) (y ∷ ys) h = let p = and_parts (is_row x y) (pointwise is_row xs ys) h in ap₂ ◌∷◌ (is_row-eq x y p.0) (are_rows-eq xs ys p.1)

abbrev steps_well : State → Class → Bool
steps_well s c = pointwise is_row (rows (next s c)) (derived c (rows s))

-- each step leaves what is left of the rows
pub rows-next : (s : State) (c : Class) → rows (next s c) ≡ derived c (rows s)
rows-next s c = are_rows-eq (rows (next s c)) (derived c (rows s)) (each_step steps_well refl s c)

-- does no row that fits the empty text bar what may follow it?
abbrev bars_nothing : List Row → Bool
bars_nothing rows = list_all (λ r. not (fits r.pattern []) || is_set r.barred []) rows

unbarred : (b : Bool) (set after : List Class) → (not b || is_set set []) ≡ true → (b && not (begins set after)) ≡ b
unbarred false set after h = refl
unbarred true set after h = ap (λ s. not (begins s after)) (is_set-eq set [] h)

kind_of-after : (rows : List Row) (after : List Class) → bars_nothing rows ≡ true → kind_of rows [] after ≡ kind_of rows [] []
kind_of-after [] after h = refl
kind_of-after (r ∷ rows) after h =
    let p = and_parts (not (fits r.pattern []) || is_set r.barred []) (bars_nothing rows) h in
    ap₂ (λ (b : Bool) (k : Option Kind). if b then Some r.kind else k)
    (unbarred (fits r.pattern []) r.barred after p.0 ∙ sym (unbarred (fits r.pattern []) r.barred [] p.0))
    (kind_of-after rows after p.1)

abbrev is_same : Option Kind → Option Kind → Bool
is_same None None = true
is_same (Some a) (Some b) = is_kind a b
is_same a b = false

is_same-eq : (a b : Option Kind) → is_same a b ≡ true → a ≡ b
is_same-eq None None h = refl
is_same-eq (Some a) (Some b) h = ap Some (is_kind-eq a b h)
is_same-eq a b h = cc

abbrev ends_well : State → Bool
ends_well state.Slash = true
ends_well s = bars_nothing (rows s) && is_same (ended s []) (kind_of (rows s) [] [])

ended-after : (s : State) (after : List Class) → ends_well s ≡ true → ended s after ≡ kind_of (rows s) [] after
ended-after state.Slash after h = refl
ended-after s after h = let p = and_parts (bars_nothing (rows s)) (is_same (ended s []) (kind_of (rows s) [] [])) h in is_same-eq (ended s []) (kind_of (rows s) [] []) p.1 ∙ sym (kind_of-after (rows s) after p.0)

-- the kind that the machine names is the one of the table
pub ended-kind_of : (s : State) (after : List Class) → ended s after ≡ kind_of (rows s) [] after
ended-kind_of s after = ended-after s after (each_state ends_well refl s)
