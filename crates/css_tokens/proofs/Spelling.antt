-- The first token of a text spells its kind.
use Rattle.std.proofs.Common.{◌≡◌, ℕ, ◌+◌, ◌≤◌, List, [], ◌++◌, length, take, drop, Bool, true, false, not, ◌&&◌, ◌||◌, refl, sym, inl, inr, ap, ap₂, ◌∙◌, subst, Option, Some, None, if◌then◌else◌, arith, add_comm, length-take, take-append-drop}
use Rattle.std.proofs.lemmas.Bool.{cases_Bool, and_parts, and_from}
use Rattle.std.proofs.lemmas.List.{map-append}
use Rattle.std.specs.Option.{option_map, option_and_then}
use Rattle.css_tokens.specs.declared.class.Class.{Class}
use Rattle.css_tokens.specs.declared.kind.Kind.{Kind}
use Rattle.css_tokens.specs.declared.kind.Kind.TheVariants as kind
use Rattle.css_tokens.specs.declared.machine.State.{State}
use Rattle.css_tokens.specs.declared.machine.State.TheVariants as state
use Rattle.css_tokens.specs.Characters.{class_of}
use Rattle.css_tokens.specs.Contents.{is_url_name}
use Rattle.css_tokens.specs.Kinds.{kind_of, table, url_table, url_inside, is_kind}
use Rattle.css_tokens.specs.Patterns.{fits}
use Rattle.css_tokens.specs.Private.Machine.{rows}
use Rattle.css_tokens.specs.Piece.{Word}
use Rattle.css_tokens.specs.Tokens.{First, first_front, front_of, url_rule, word, longer, classes_of, is_url, is_url_at, quote_follows, names, spells}
use Rattle.std.proofs.Math.Seq.{take-add, drop-append_seam, take-append_seam}
use Rattle.css_tokens.proofs.UrlNames.{classes_length, url_found}
use Rattle.css_tokens.proofs.Fronts.{longest_in}
use Rattle.css_tokens.proofs.MachineStates.{each_kind}
use Rattle.css_tokens.proofs.Reading.{mapped, chained}
use Rattle.css_tokens.proofs.Runs.{run, kind_of-run, reach, longest-ended, ended_aside, longest_within, same_inside}

-- a kind is itself
pub is_kind-refl : (k : Kind) → is_kind k k ≡ true
is_kind-refl k = each_kind (λ j. is_kind j j) refl k

pub front_within : (s : State) (t : List ℕ) (k : Kind) (n : ℕ) → longest_in s (classes_of t) ≡ Some (k, n) → n ≤ length t
front_within s t k n h = let w = longest_within s (classes_of t) k n h in omega (arith, classes_length t)

-- the machine has come to a state that has the kind
pub front_reached : (s : State) (t : List ℕ) (k : Kind) (n : ℕ) → longest_in s (classes_of t) ≡ Some (k, n) → longest_in (run s (classes_of (take n t))) (classes_of (drop n t)) ≡ Some (k, 0)
front_reached s t k n h =
    let w = front_within s t k n h in
    let l : n ≡ length (classes_of (take n t)) = omega (arith, classes_length (take n t), length-take n t) in
    let e : classes_of t ≡ classes_of (take n t) ++ classes_of (drop n t) = ap classes_of (sym (take-append-drop n t)) ∙ map-append class_of (take n t) (drop n t) in
    reach s (classes_of (take n t)) (classes_of (drop n t)) k
    (ap (longest_in s) (sym e) ∙ h ∙ ap (λ (m : ℕ). Some (k, m)) l)

front_spelled : (s : State) (t : List ℕ) (k : Kind) (n : ℕ) → longest_in s (classes_of t) ≡ Some (k, n) → kind_of (rows s) (classes_of (take n t)) [] ≡ Some k
front_spelled s t k n h =
    let u = classes_of (take n t) in
    kind_of-run s u [] ∙ ended_aside (run s u) (classes_of (drop n t)) k (longest-ended (run s u) (classes_of (drop n t)) k (front_reached s t k n h))

-- the longest front is a Function named `url` where its kind is Function and its name `url`
named_url : (t : List ℕ) (f : Kind × ℕ) → Some f ≡ front_of table t → (is_kind kind.Function f.0 && is_url_name (take f.1 t)) ≡ is_url (take f.1 t)
named_url t f h = ap (λ o. names kind.Function o && is_url_name (take f.1 t)) (sym (front_spelled state.Start t f.0 f.1 (sym h)))

abbrev pub by_rule : List ℕ → Kind × ℕ → Bool → Option (Kind × ℕ)
by_rule t f b = if b then option_map (longer f.1) (front_of url_table (drop f.1 t)) else Some f

-- the first token is the longest front, or goes on as a Url
pub first_by : (t name rest : List ℕ) (f : Kind × ℕ) (b : Bool) → Some f ≡ front_of table t → name ≡ take f.1 t → rest ≡ drop f.1 t → b ≡ ((is_kind kind.Function f.0 && is_url_name name) && not (quote_follows (classes_of rest))) → by_rule t f b ≡ first_front t
first_by t name rest f b h n r e =
    ap (by_rule t f) (e ∙ ap₂ (λ (x y : List ℕ). (is_kind kind.Function f.0 && is_url_name x) && not (quote_follows (classes_of y))) n r ∙ ap (λ x. x && not (quote_follows (classes_of (drop f.1 t)))) (named_url t f h))
    ∙ ap (option_and_then (url_rule t)) h

or_first : (a b : Bool) → a ≡ true → (a || b) ≡ true
or_first true b h = refl
or_first false b h = cc

or_second : (a b : Bool) → b ≡ true → (a || b) ≡ true
or_second true b h = refl
or_second false b h = h

table_spells : (t : List ℕ) (k : Kind) (n : ℕ) → longest_in state.Start (classes_of t) ≡ Some (k, n) → spells k (take n t) ≡ true
unfolding spells
table_spells t k n h =
    or_first (names k (kind_of table (classes_of (take n t)) [])) _
    (ap (names k) (front_spelled state.Start t k n h) ∙ is_kind-refl k)

pub inside_spelled : (u : List Class) (k : Kind) → kind_of url_table u [] ≡ Some k → (k ≡ kind.Url) × (fits url_inside u ≡ true)
inside_spelled u k h =
    elim (cases_Bool (fits url_inside u)) [
      | inl e ↦ (sym (same_inside kind.Url k (rw e at h)), e)
      | inr e ↦ let f : None ≡ Some k = rw e at h in cc
    ]

seam : (t : List ℕ) (n m : ℕ) → n ≤ length t → (take n (take (m + n) t) ≡ take n t) × (drop n (take (m + n) t) ≡ take m (drop n t))
seam t n m w =
    let e : take (m + n) t ≡ take n t ++ take m (drop n t) = ap (λ k. take k t) (add_comm m n) ∙ take-add n m t in
    let l : n ≡ length (take n t) = omega (arith, length-take n t) in (
      ap₂ take l e ∙ take-append_seam (take n t) (take m (drop n t)),
      ap₂ drop l e ∙ drop-append_seam (take n t) (take m (drop n t)),
    )

url_front : (t : List ℕ) (n m : ℕ) → n ≤ length t → is_url (take n t) ≡ true → front_of table (take (m + n) t) ≡ Some (kind.Function, n)
url_front t n m w u =
    let e : take (m + n) t ≡ take n t ++ take m (drop n t) = ap (λ k. take k t) (add_comm m n) ∙ take-add n m t in
    let l : length (take n t) ≡ n = omega (arith, length-take n t) in
    ap (front_of table) e ∙ url_found (take n t) (take m (drop n t)) u ∙ ap (λ (k : ℕ). Some (kind.Function, k)) l

url_spells : (t : List ℕ) (n m : ℕ) (k : Kind) → n ≤ length t → is_url (take n t) ≡ true → longest_in state.UrlStart (classes_of (drop n t)) ≡ Some (k, m) → spells k (take (m + n) t) ≡ true
unfolding spells
url_spells t n m k w u h =
    let i = inside_spelled (classes_of (take m (drop n t))) k (front_spelled state.UrlStart (drop n t) k m h) in
    let s = seam t n m w in
    let v = take (m + n) t in
    let a : is_url (take n v) ≡ true = subst (λ x. is_url x ≡ true) (sym s.0) u in
    let b : fits url_inside (classes_of (drop n v)) ≡ true = subst (λ x. fits url_inside (classes_of x) ≡ true) (sym s.1) i.1 in
    or_second (names k (kind_of table (classes_of v) [])) _
    (and_from (is_kind k kind.Url) _ (ap (λ j. is_kind j kind.Url) i.0) (ap (is_url_at v) (url_front t n m w u) ∙ and_from _ _ a b))

rule_spells : (t : List ℕ) (f g : Kind × ℕ) → longest_in state.Start (classes_of t) ≡ Some f → url_rule t f ≡ Some g → spells g.0 (take g.1 t) ≡ true
rule_spells t f g h r =
    elim (cases_Bool (is_url (take f.1 t) && not (quote_follows (classes_of (drop f.1 t))))) [
      | inl e ↦
          let m = mapped (longer f.1) (front_of url_table (drop f.1 t)) g (rw e at r) in
          let u = and_parts (is_url (take f.1 t)) (not (quote_follows (classes_of (drop f.1 t)))) e in
          subst (λ (x : Kind × ℕ). spells x.0 (take x.1 t) ≡ true) m.2 (url_spells t f.1 m.0.1 m.0.0 (front_within state.Start t f.0 f.1 h) u.0 m.1)
      | inr e ↦ let i : Some f ≡ Some g = rw e at r in subst (λ (x : Kind × ℕ). spells x.0 (take x.1 t) ≡ true) (same_inside f g i) (table_spells t f.0 f.1 h)
    ]

pub first_spells : (t : List ℕ) (w : Word) → First t w → spells w.kind w.text ≡ true
first_spells t w h =
    let m = mapped (word t) (first_front t) w h in
    let c = chained (url_rule t) (front_of table t) m.0 m.1 in
    subst (λ (v : Word). spells v.kind v.text ≡ true) m.2 (rule_spells t c.0 m.0 c.1 c.2)

pub spells_by : (t : List ℕ) (k : Kind) (n : ℕ) (u : List ℕ) → Some (k, n) ≡ first_front t → u ≡ take n t → spells k u ≡ true
spells_by t k n u h e = ap (spells k) e ∙ first_spells t (word t (k, n)) (ap (option_map (word t)) (sym h))
