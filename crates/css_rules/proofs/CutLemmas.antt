-- Lists cut at marks, and trimmed.
use Rattle.std.proofs.Common.{◌≡◌, ℕ, ◌+◌, ◌-◌, ◌<◌, ◌≤◌, List, [], ◌∷◌, ◌++◌, Bool, true, false, Option, Some, None, refl, sym, ◌∙◌, ap, subst, arith, length, take, drop, get_or, slice_range, cond, ◌&&◌, ◌||◌, not, append_assoc, add-one, slice_get, MatchOption, inl, inr, if◌then◌else◌, nat_le, le-leb}
use Rattle.std.proofs.Math.Seq.{drop-cons, drop-length}
use Rattle.std.proofs.lemmas.List.{take_more, get_or-drop, length-drop, append-nil}
use Rattle.std.proofs.lemmas.Option.{slice_get-get_or, slice_get_past, slice_get_cases, slice_get_within}
use Rattle.std.proofs.lemmas.List.Folds.{list_all-append, drop_split}
use Rattle.std.proofs.lemmas.Bool.{cases_Bool}
use Rattle.std.proofs.lemmas.Bool.Decides.{nat_tests}
use Rattle.std.proofs.Math.Bool.{and-true, and-false}
use Rattle.std.specs.List.{list_all, list_any}
use Rattle.css_tokens.specs.declared.component.Component.{Component}
use Rattle.css_components.specs.Components.{is_gap}
use Rattle.css_components.specs.Trimming.{trimmed_start, trimmed_end}
use Rattle.css_rules.specs.Cuts.{Cut, cuts, cuts_behind, with_front}
use Rattle.css_rules.specs.Private.Marks.{EndsAt, EndsCut, IsFirstMark}
use Rattle.css_rules.proofs.BoolLemmas.{and-left, and-right, and-both}

pub not-true : (b : Bool) → not b ≡ true → b ≡ false
not-true true e = sym e
not-true false e = refl

pub or-left : (a b : Bool) → (a || b) ≡ false → a ≡ false
or-left true b e = e
or-left false b e = refl

pub or-right : (a b : Bool) → (a || b) ≡ false → b ≡ false
or-right true b e = cc
or-right false b e = e

-- what ends nothing goes before the next cut
pub cuts-unmarked : (ends : List Component → Component → Bool) (before : List Component) (c : Component) (cs : List Component) → ends before c ≡ false
    → cuts_behind ends before (c ∷ cs) ≡ with_front c (cuts_behind ends (before ++ c ∷ []) cs)
cuts-unmarked ends before c cs unmarked = ap (λ b. cond b (record { front = []; mark = Some c } ∷ cuts ends cs) (with_front c (cuts_behind ends (before ++ c ∷ []) cs))) unmarked

pub cuts-marked : (ends : List Component → Component → Bool) (before : List Component) (c : Component) (cs : List Component) → ends before c ≡ true
    → cuts_behind ends before (c ∷ cs) ≡ record { front = []; mark = Some c } ∷ cuts ends cs
cuts-marked ends before c cs marked = ap (λ b. cond b (record { front = []; mark = Some c } ∷ cuts ends cs) (with_front c (cuts_behind ends (before ++ c ∷ []) cs))) marked

-- Does none of the components end what stands before it?
abbrev pub goes_on : (List Component → Component → Bool) → List Component → List Component → Bool
goes_on ends before [] = true
goes_on ends before (c ∷ cs) = not (ends before c) && goes_on ends (before ++ c ∷ []) cs

-- then they are the front of the first cut
pub front-cut : (ends : List Component → Component → Bool) (before xs : List Component) (m : Component) (ys : List Component) → goes_on ends before xs ≡ true → ends (before ++ xs) m ≡ true
    → cuts_behind ends before (xs ++ m ∷ ys) ≡ record { front = xs; mark = Some m } ∷ cuts ends ys
front-cut ends before [] m ys goes marked = cuts-marked ends before m ys (ap (λ b. ends b m) (sym (append-nil before)) ∙ marked)
front-cut ends before (x ∷ xs) m ys goes marked =
    let behind = before ++ x ∷ [] in
    cuts-unmarked ends before x (xs ++ m ∷ ys) (not-true (ends before x) (and-left (not (ends before x)) (goes_on ends behind xs) goes))
    ∙ ap (with_front x) (front-cut ends behind xs m ys (and-right (not (ends before x)) (goes_on ends behind xs) goes) (ap (λ b. ends b m) (append_assoc before (x ∷ []) xs) ∙ marked))

pub whole-cut : (ends : List Component → Component → Bool) (before xs : List Component) → goes_on ends before xs ≡ true → cuts_behind ends before xs ≡ record { front = xs; mark = None } ∷ []
whole-cut ends before [] goes = refl
whole-cut ends before (x ∷ xs) goes =
    let behind = before ++ x ∷ [] in
    cuts-unmarked ends before x xs (not-true (ends before x) (and-left (not (ends before x)) (goes_on ends behind xs) goes))
    ∙ ap (with_front x) (whole-cut ends behind xs (and-right (not (ends before x)) (goes_on ends behind xs) goes))

-- what holds no mark goes on
agree-goes : (ends : List Component → Component → Bool) (test : Component → Bool) (before xs rest : List Component) → EndsAt ends test (before ++ (xs ++ rest)) → list_any test xs ≡ false → goes_on ends before xs ≡ true
agree-goes ends test before [] rest agrees none = refl
agree-goes ends test before (x ∷ xs) rest agrees none =
    let behind = before ++ x ∷ [] in
    and-both (not (ends before x)) (goes_on ends behind xs)
    (ap not (agrees before x (xs ++ rest) refl ∙ or-left (test x) (list_any test xs) none))
    (agree-goes ends test behind xs rest (λ b c more e. agrees b c more (e ∙ append_assoc before (x ∷ []) (xs ++ rest))) (or-right (test x) (list_any test xs) none))

-- what is left begins with the next component
drop-more : {X : Type 0} (xs : List X) (i : ℕ) (d : X) → i < length xs → drop i xs ≡ get_or xs i d ∷ drop (i + 1) xs
drop-more xs i d lt = drop-cons xs i d lt ∙ ap (λ n. get_or xs i d ∷ drop n xs) (sym (add-one i))

-- one more component of a slice
pub slice_range-more : {X : Type 0} (xs : List X) (a b : ℕ) (d : X) → a ≤ b → b < length xs → slice_range xs a (b + 1) ≡ slice_range xs a b ++ get_or xs b d ∷ []
slice_range-more xs a b d le lt =
    let one : b + 1 - a ≡ (b - a) + 1 = omega arith in
    let inside : b - a < length (drop a xs) = simp (length-drop) (omega arith) in
    let at : a + (b - a) ≡ b = omega arith in
    rw one (take_more (drop a xs) (b - a) d inside ∙ ap (λ x. take (b - a) (drop a xs) ++ x ∷ []) (get_or-drop a xs (b - a) d ∙ ap (λ i. get_or xs i d) at))

pub trimmed_start-gap : (c : Component) (cs : List Component) → is_gap c ≡ true → trimmed_start (c ∷ cs) ≡ trimmed_start cs
trimmed_start-gap c cs gap = ap (λ b. cond b (trimmed_start cs) (c ∷ cs)) gap

pub trimmed_start-other : (c : Component) (cs : List Component) → is_gap c ≡ false → trimmed_start (c ∷ cs) ≡ c ∷ cs
trimmed_start-other c cs other = ap (λ b. cond b (trimmed_start cs) (c ∷ cs)) other

all-gaps-gap : (cs : List Component) (c : Component) → is_gap c ≡ true → list_all is_gap (cs ++ c ∷ []) ≡ list_all is_gap cs
all-gaps-gap cs c gap = list_all-append is_gap cs (c ∷ []) ∙ ap (λ b. list_all is_gap cs && (b && true)) gap ∙ and-true _

all-gaps-other : (cs : List Component) (c : Component) → is_gap c ≡ false → list_all is_gap (cs ++ c ∷ []) ≡ false
all-gaps-other cs c other = list_all-append is_gap cs (c ∷ []) ∙ ap (λ b. list_all is_gap cs && (b && true)) other ∙ and-false _

-- a gap at the end goes
pub trimmed_end-gap : (cs : List Component) (c : Component) → is_gap c ≡ true → trimmed_end (cs ++ c ∷ []) ≡ trimmed_end cs
trimmed_end-gap [] c gap = ap (λ b. cond (b && true) [] (c ∷ [])) gap
trimmed_end-gap (x ∷ cs) c gap =
    ap (λ b. cond b [] (x ∷ trimmed_end (cs ++ c ∷ []))) (all-gaps-gap (x ∷ cs) c gap)
    ∙ ap (λ rest. cond (list_all is_gap (x ∷ cs)) [] (x ∷ rest)) (trimmed_end-gap cs c gap)

-- anything else keeps all before it
pub trimmed_end-other : (cs : List Component) (c : Component) → is_gap c ≡ false → trimmed_end (cs ++ c ∷ []) ≡ cs ++ c ∷ []
trimmed_end-other [] c other = ap (λ b. cond (b && true) [] (c ∷ [])) other
trimmed_end-other (x ∷ cs) c other =
    ap (λ b. cond b [] (x ∷ trimmed_end (cs ++ c ∷ []))) (all-gaps-other (x ∷ cs) c other)
    ∙ ap (λ rest. x ∷ rest) (trimmed_end-other cs c other)

pub marked-at : (test : Component → Bool) (cs : List Component) (to : ℕ) (d : Component) → to < length cs → test (get_or cs to d) ≡ true → MatchOption (slice_get cs to) (Unit {0}) (λ c. test c ≡ true)
marked-at test cs to d lt marked = subst (λ o. MatchOption o (Unit {0}) (λ c. test c ≡ true)) (sym (slice_get-get_or cs to d lt)) marked

pub past-at : (test : Component → Bool) (cs : List Component) (to : ℕ) → length cs ≤ to → MatchOption (slice_get cs to) (Unit {0}) (λ c. test c ≡ true)
past-at test cs to past = subst (λ o. MatchOption o (Unit {0}) (λ c. test c ≡ true)) (sym (slice_get_past cs to past)) tt

-- what stands at the place and behind it
drop-at : (cs : List Component) (to : ℕ) (m : Component) → slice_get cs to ≡ Some m → drop to cs ≡ m ∷ drop (to + 1) cs
drop-at cs to m is =
    let inside : to < length cs = omega (arith, slice_get_within cs to m is) in
    let same : get_or cs to m ≡ m = (let found = sym (slice_get-get_or cs to m inside) ∙ is in cc found) in
    drop-more cs to m inside ∙ ap (λ c. c ∷ drop (to + 1) cs) same

-- the first mark ends the first cut
pub first-cut : (ends : List Component → Component → Bool) (test : Component → Bool) (cs : List Component) (from to : ℕ) → from ≤ to → to ≤ length cs → IsFirstMark test cs from to → EndsAt ends test (drop from cs)
    → EndsCut ends cs from to
first-cut ends test cs from to le within first agrees = at (slice_get cs to) refl first.at
  where
    front : List Component
    front = slice_range cs from to

    split : drop from cs ≡ slice_range cs from to ++ drop to cs
    split = drop_split cs from to le

    goes : goes_on ends [] (slice_range cs from to) ≡ true
    goes = agree-goes ends test [] (slice_range cs from to) (drop to cs) (λ b c more e. agrees b c more (e ∙ sym split)) first.before

    at : (o : Option Component) → slice_get cs to ≡ o → MatchOption o (Unit {0}) (λ c. test c ≡ true) → MatchOption o
        (cuts ends (drop from cs) ≡ record { front = slice_range cs from to; mark = None } ∷ [])
        (λ c. cuts ends (drop from cs) ≡ record { front = slice_range cs from to; mark = Some c } ∷ cuts ends (drop (to + 1) cs))
    at None none marked =
        let past : length cs ≤ to = elim (slice_get_cases cs to).1 [ inl found ↦ absurd (cc (none, found.2)) | inr le ↦ le.0 ] in
        let all : to ≡ length cs = omega arith in
        ap (cuts ends) (split ∙ ap (λ rest. slice_range cs from to ++ rest) (ap (λ n. drop n cs) all ∙ drop-length cs) ∙ append-nil (slice_range cs from to))
        ∙ whole-cut ends [] (slice_range cs from to) goes
    at (Some m) is marked =
        ap (cuts ends) (split ∙ ap (λ rest. slice_range cs from to ++ rest) (drop-at cs to m is))
        ∙ front-cut ends [] (slice_range cs from to) m (drop (to + 1) cs) goes
        (agrees (slice_range cs from to) m (drop (to + 1) cs) (ap (λ rest. slice_range cs from to ++ rest) (sym (drop-at cs to m is)) ∙ sym split) ∙ marked)

-- the same where a test of the component alone ends a cut
pub plain-cut : (test : Component → Bool) (cs : List Component) (from to : ℕ) → from ≤ to → to ≤ length cs → IsFirstMark test cs from to → EndsCut (λ before c. test c) cs from to
plain-cut test cs from to le within first = first-cut (λ before c. test c) test cs from to le within first (λ before c behind e. refl)

-- there is always a first cut
pub first_cut : (ends : List Component → Component → Bool) (before cs : List Component) → (cut : Cut) × ((rest : List Cut) × (cuts_behind ends before cs ≡ cut ∷ rest))
first_cut ends before [] = (record { front = []; mark = None }, ([], refl))
first_cut ends before (c ∷ cs) =
    let more = first_cut ends (before ++ c ∷ []) cs in
    elim (cases_Bool (ends before c)) [
      | inl marked ↦ (record { front = []; mark = Some c }, (cuts ends cs, cuts-marked ends before c cs marked))
      | inr unmarked ↦ (record { front = c ∷ more.0.front; mark = more.0.mark }, (more.1.0, cuts-unmarked ends before c cs unmarked ∙ ap (with_front c) more.1.1))
    ]

-- What the first cut is, where it ends before the list does: the mark is some component.
pub EndsCut-at_mark : (ends : List Component → Component → Bool) (cs : List Component) (from to : ℕ) → to < length cs → EndsCut ends cs from to
    → (mark : Component) × (cuts ends (drop from cs) ≡ record { front = slice_range cs from to; mark = Some mark } ∷ cuts ends (drop (to + 1) cs))
EndsCut-at_mark ends cs from to lt is_cut = at_mark (slice_get cs to) refl is_cut
  where
    at_mark : (o : Option Component) → slice_get cs to ≡ o → MatchOption o
        (cuts ends (drop from cs) ≡ record { front = slice_range cs from to; mark = None } ∷ [])
        (λ c. cuts ends (drop from cs) ≡ record { front = slice_range cs from to; mark = Some c } ∷ cuts ends (drop (to + 1) cs))
        → (mark : Component) × (cuts ends (drop from cs) ≡ record { front = slice_range cs from to; mark = Some mark } ∷ cuts ends (drop (to + 1) cs))
    at_mark None none cut = elim (slice_get_cases cs to).1 [ inl found ↦ absurd (cc (none, found.2)) | inr past ↦ absurd (omega (arith, past.0, lt)) ]
    at_mark (Some mark) is cut = (mark, cut)

pub EndsCut-at_end : (ends : List Component → Component → Bool) (cs : List Component) (from to : ℕ) → length cs ≤ to → EndsCut ends cs from to
    → cuts ends (drop from cs) ≡ record { front = slice_range cs from to; mark = None } ∷ []
EndsCut-at_end ends cs from to past is_cut =
    let P : Option Component → Type 0 = λ o. MatchOption o
    (cuts ends (drop from cs) ≡ record { front = slice_range cs from to; mark = None } ∷ [])
    (λ c. cuts ends (drop from cs) ≡ record { front = slice_range cs from to; mark = Some c } ∷ cuts ends (drop (to + 1) cs)) in
    subst P (slice_get_past cs to past) is_cut

-- the cuts of what stands from a place on: none past the end
abbrev pub cuts_left : (List Component → Component → Bool) → List Component → ℕ → List Cut
cuts_left ends cs from = if nat_le from (length cs) then cuts ends (drop from cs) else []

cuts_left-inside : (ends : List Component → Component → Bool) (cs : List Component) (from : ℕ) → from ≤ length cs → cuts_left ends cs from ≡ cuts ends (drop from cs)
cuts_left-inside ends cs from le = ap (λ b. cond b (cuts ends (drop from cs)) []) (le-leb from (length cs) le)

-- there are none past the end
pub cuts_left-past : (ends : List Component → Component → Bool) (cs : List Component) (from : ℕ) → length cs < from → cuts_left ends cs from ≡ []
cuts_left-past ends cs from past = ap (λ b. cond b (cuts ends (drop from cs)) []) (past-leb from (length cs) past)
  where
    past-leb : (a b : ℕ) → b < a → nat_le a b ≡ false
    past-leb a b lt = grind (arith, nat_tests)

-- the first of them, and those behind it
pub cuts_left-step : (ends : List Component → Component → Bool) (cs : List Component) (from to : ℕ) → from ≤ length cs → to ≤ length cs → EndsCut ends cs from to
    → cuts_left ends cs from ≡ record { front = slice_range cs from to; mark = slice_get cs to } ∷ cuts_left ends cs (to + 1)
cuts_left-step ends cs from to start within is_cut = cuts_left-inside ends cs from start ∙ at (slice_get cs to) refl is_cut
  where
    at : (o : Option Component) → slice_get cs to ≡ o → MatchOption o
        (cuts ends (drop from cs) ≡ record { front = slice_range cs from to; mark = None } ∷ [])
        (λ c. cuts ends (drop from cs) ≡ record { front = slice_range cs from to; mark = Some c } ∷ cuts ends (drop (to + 1) cs))
        → cuts ends (drop from cs) ≡ record { front = slice_range cs from to; mark = slice_get cs to } ∷ cuts_left ends cs (to + 1)
    at None none cut =
        let past : length cs < to + 1 = elim (slice_get_cases cs to).1 [ inl found ↦ absurd (cc (none, found.2)) | inr le ↦ omega (arith, le.0) ] in
        cut
        ∙ ap (λ o. record { front = slice_range cs from to; mark = o } ∷ []) (sym none)
        ∙ ap (λ rest. record { front = slice_range cs from to; mark = slice_get cs to } ∷ rest) (sym (cuts_left-past ends cs (to + 1) past))
    at (Some mark) is cut =
        let inside : to + 1 ≤ length cs = omega (arith, slice_get_within cs to mark is) in
        cut
        ∙ ap (λ o. record { front = slice_range cs from to; mark = o } ∷ cuts ends (drop (to + 1) cs)) (sym is)
        ∙ ap (λ rest. record { front = slice_range cs from to; mark = slice_get cs to } ∷ rest) (sym (cuts_left-inside ends cs (to + 1) inside))
