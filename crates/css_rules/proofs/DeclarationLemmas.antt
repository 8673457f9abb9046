-- Names of properties.
use Rattle.std.proofs.Common.{◌≡◌, ℕ, List, [], ◌∷◌, Bool, true, false, not, ◌&&◌, inl, inr, refl, sym, ◌∙◌, ap, arith, cond, ◌||◌, Some, None, ◌+◌, ◌<◌, ◌≤◌, length, take, drop, slice_range, ◌-◌}
use Rattle.std.specs.List.{list_any}
use Rattle.std.specs.Char.{is_ascii_uppercase, to_ascii_lowercase}
use Rattle.std.specs.Str.{str_to_ascii_lowercase}
use Rattle.std.proofs.lemmas.Bool.{cases_Bool, false≢true}
use Rattle.std.proofs.lemmas.Bool.Decides.{nat_tests}
use Rattle.css_tokens.specs.declared.component.Component.{Component}
use Rattle.css_components.specs.Components.{is_bang, is_custom}
use Rattle.css_components.specs.Trimming.{trimmed}
use Rattle.css_rules.specs.Cuts.{Cut, cuts, cuts_at}
use Rattle.css_rules.specs.Private.Marks.{IsFirstMark}
use Rattle.css_rules.specs.Declarations.{value_of, is_important, property_name}
use Rattle.css_rules.proofs.CutLemmas.{first_cut, plain-cut, EndsCut-at_mark, EndsCut-at_end}

pub or_false_left : (a b : Bool) → (a || b) ≡ false → a ≡ false
or_false_left true b e = e
or_false_left false b e = refl

pub or_false_right : (a b : Bool) → (a || b) ≡ false → b ≡ false
or_false_right true b e = cc
or_false_right false b e = e

lower-one : (b : ℕ) → is_ascii_uppercase b ≡ false → to_ascii_lowercase b ≡ b
lower-one b e = grind (arith, nat_tests)

-- a text without capitals is in lower case
pub lower-same : (bs : List ℕ) → list_any is_ascii_uppercase bs ≡ false → str_to_ascii_lowercase bs ≡ bs
lower-same [] e = refl
lower-same (b ∷ bs) e =
    let here = lower-one b (or_false_left (is_ascii_uppercase b) (list_any is_ascii_uppercase bs) e) in
    let rest = lower-same bs (or_false_right (is_ascii_uppercase b) (list_any is_ascii_uppercase bs) e) in
    ap (λ x. x ∷ str_to_ascii_lowercase bs) here ∙ ap (λ xs. b ∷ xs) rest

-- the name of a property is kept in lower case where that differs, and else as it is
pub name_kept : (name : List ℕ) → (not (is_custom name) && list_any is_ascii_uppercase name) ≡ false → name ≡ property_name name
name_kept name e = elim (cases_Bool (is_custom name)) [
  | inl custom ↦ sym (ap (λ b. cond b name (str_to_ascii_lowercase name)) custom)
  | inr other ↦ sym (ap (λ b. cond b name (str_to_ascii_lowercase name)) other ∙ lower-same name (sym (ap (λ b. not b && list_any is_ascii_uppercase name) other) ∙ e))
]

pub name_lowered : (name : List ℕ) → (not (is_custom name) && list_any is_ascii_uppercase name) ≡ true → str_to_ascii_lowercase name ≡ property_name name
name_lowered name e = elim (cases_Bool (is_custom name)) [
  | inl custom ↦ absurd (false≢true (sym (ap (λ b. not b && list_any is_ascii_uppercase name) custom) ∙ e))
  | inr other ↦ sym (ap (λ b. cond b name (str_to_ascii_lowercase name)) other)
]

abbrev bang_ends : List Component → Component → Bool
bang_ends before c = is_bang c

-- a second `!` leaves no value
pub value_of-many : (value mark : Cut) (ends : List Component → Component → Bool) (cs : List Component) → value_of (value ∷ mark ∷ cuts ends cs) ≡ None
value_of-many value mark ends cs = ap (λ rest. value_of (value ∷ mark ∷ rest)) (first_cut ends [] cs).1.1

-- without a `!` all is the value
pub value_of-plain : (tail : List Component) (end : ℕ) → end ≡ length tail → IsFirstMark is_bang tail 0 end → value_of (cuts_at is_bang tail) ≡ Some (trimmed (take end tail), false)
value_of-plain tail end whole first =
    let past : length tail ≤ end = omega arith in
    let within : end ≤ length tail = omega arith in
    let same : end - 0 ≡ end = omega arith in
    ap value_of (EndsCut-at_end bang_ends tail 0 end past (plain-cut is_bang tail 0 end (omega arith) within first))
    ∙ ap (λ n. Some (trimmed (take n tail), false)) same

-- what stands behind the first `!` decides
pub value_of-second : (tail : List Component) (end next : ℕ) → end < length tail → IsFirstMark is_bang tail 0 end → end + 1 ≤ next → next < length tail → IsFirstMark is_bang tail (end + 1) next → value_of (cuts_at is_bang tail) ≡ None
value_of-second tail end next first_inside first after second_inside second =
    let one = EndsCut-at_mark bang_ends tail 0 end first_inside (plain-cut is_bang tail 0 end (omega arith) (omega arith) first) in
    let two = EndsCut-at_mark bang_ends tail (end + 1) next second_inside (plain-cut is_bang tail (end + 1) next after (omega arith) second) in
    ap value_of one.1
    ∙ ap (λ rest. value_of (record { front = slice_range tail 0 end; mark = Some one.0 } ∷ rest)) two.1
    ∙ value_of-many (record { front = slice_range tail 0 end; mark = Some one.0 }) (record { front = slice_range tail (end + 1) next; mark = Some two.0 }) bang_ends (drop (next + 1) tail)

pub value_of-marked : (tail : List Component) (end next : ℕ) (b : Bool) → end < length tail → IsFirstMark is_bang tail 0 end → end + 1 ≤ next → next ≤ length tail → length tail ≤ next → IsFirstMark is_bang tail (end + 1) next
    → is_important (trimmed (slice_range tail (end + 1) next)) ≡ b → value_of (cuts_at is_bang tail) ≡ cond b (Some (trimmed (take end tail), true)) None
value_of-marked tail end next b first_inside first after within second_past second important =
    let one = EndsCut-at_mark bang_ends tail 0 end first_inside (plain-cut is_bang tail 0 end (omega arith) (omega arith) first) in
    let two = EndsCut-at_end bang_ends tail (end + 1) next second_past (plain-cut is_bang tail (end + 1) next after within second) in
    let whole : end - 0 ≡ end = omega arith in
    ap value_of one.1
    ∙ ap (λ rest. value_of (record { front = slice_range tail 0 end; mark = Some one.0 } ∷ rest)) two
    ∙ ap (λ i. cond i (Some (trimmed (slice_range tail 0 end), true)) None) important
    ∙ ap (λ n. cond b (Some (trimmed (take n tail), true)) None) whole
