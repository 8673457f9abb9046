-- Which words take a space that follows them.
use Rattle.std.proofs.Common.{◌≡◌, ℕ, List, [], ◌∷◌, ◌++◌, Bool, true, false, not, ◌&&◌, ◌||◌, nat_eq, refl, sym, inl, inr, ap, ap₂, ◌∙◌, Option, Some, None, codes, ltb, ltb-true, ltb-false, ◌<◌}
use Rattle.std.proofs.lemmas.Bool.{cases_Bool, not-true, agree_below_at}
use Rattle.std.proofs.lemmas.List.{map-append}
use Rattle.std.specs.List.{list_any}
use Rattle.css_tokens.specs.declared.class.Class.{Class}
use Rattle.css_tokens.specs.declared.class.Class.TheVariants as class
use Rattle.css_tokens.specs.declared.kind.Kind.{Kind}
use Rattle.css_tokens.specs.declared.kind.Kind.TheVariants as kind
use Rattle.css_tokens.specs.declared.machine.State.{State}
use Rattle.css_tokens.specs.declared.machine.State.TheVariants as state
use Rattle.css_tokens.specs.Again.{takes}
use Rattle.css_tokens.specs.Characters.{class_of, is_class}
use Rattle.css_tokens.specs.Kinds.{kind_of, table}
use Rattle.css_tokens.specs.Piece.{Word}
use Rattle.css_tokens.specs.Private.Machine.{next, ended}
use Rattle.css_tokens.specs.Private.Pendings.{may_take}
use Rattle.css_tokens.specs.Tokens.{classes_of, names}
use Rattle.css_tokens.specs.Values.{is_gap, is_white, takes_space}
use Rattle.css_tokens.proofs.Boundaries.{high_class}
use Rattle.css_tokens.proofs.MachineStates.{implied, all_pass, each_state, each_step, each_kind}
use Rattle.css_tokens.proofs.Runs.{run, kind_of-run}
use Rattle.css_tokens.proofs.Takes.{run-append}

-- by the machine
pub space_kind : (text : List ℕ) → kind_of table (classes_of (text ++ 32 ∷ [])) [] ≡ ended (next (run state.Start (classes_of text)) class.Blank) []
space_kind text =
    kind_of-run state.Start (classes_of (text ++ 32 ∷ [])) []
    ∙ ap (λ c. ended (run state.Start c) []) (map-append class_of text (32 ∷ []))
    ∙ ap (λ r. ended r []) (run-append state.Start (classes_of text) (class.Blank ∷ []))

-- No word without a `\`.

abbrev is_unescaped : State → Bool
is_unescaped (state.Escaped h e) = false
is_unescaped s = true

abbrev stays_unescaped : State → Class → Bool
stays_unescaped s x = not (is_unescaped s && not (is_class class.Backslash x)) || is_unescaped (next s x)

abbrev apart : ℕ → Bool
apart b = nat_eq 92 b || not (is_class class.Backslash (class_of b))

abbrev always : ℕ → Bool
always b = true

backslash_table : (b : ℕ) → b < 128 → apart b ≡ true
backslash_table b l = agree_below_at apart always 128 b refl l

left_out : (a b : Bool) → a ≡ false → (a || b) ≡ true → b ≡ true
left_out true b h k = cc
left_out false b h k = k

no_backslash : (b : ℕ) → nat_eq 92 b ≡ false → is_class class.Backslash (class_of b) ≡ false
no_backslash b h = elim (cases_Bool (ltb b 128)) [
  | inl e ↦ not-true (is_class class.Backslash (class_of b)) (left_out (nat_eq 92 b) _ h (backslash_table b (ltb-true b 128 e)))
  | inr e ↦ ap (is_class class.Backslash) (high_class b (ltb-false b 128 e))
]

unescaped_run : (s : State) (t : List ℕ) → is_unescaped s ≡ true → list_any (nat_eq 92) t ≡ false → is_unescaped (run s (classes_of t)) ≡ true
unescaped_run s [] h k = h
unescaped_run s (b ∷ t) h k =
    let p = neither (nat_eq 92 b) (list_any (nat_eq 92) t) k in
    unescaped_run (next s (class_of b)) t
    (implied (is_unescaped s && not (is_class class.Backslash (class_of b))) _ (ap₂ ◌&&◌ h (ap not (no_backslash b p.0))) (each_step stays_unescaped refl s (class_of b)))
    p.1
  where
    neither : (a b : Bool) → (a || b) ≡ false → (a ≡ false) × (b ≡ false)
    neither true b h = cc
    neither false b h = (refl, h)

abbrev is_light : Option Kind → Bool
is_light None = true
is_light (Some k) = is_white k

light_names : (k : Kind) (o : Option Kind) → may_take k ≡ true → is_light o ≡ true → names k o ≡ false
light_names k None h g = refl
light_names kind.Ident (Some kind.White) h g = refl
light_names kind.At (Some kind.White) h g = refl
light_names kind.Hash (Some kind.White) h g = refl
light_names kind.Dimension (Some kind.White) h g = refl
light_names k (Some j) h g = cc

plain_takes : (w : Word) → may_take w.kind ≡ true → list_any (nat_eq 92) w.text ≡ false → takes w (codes " ") ≡ false
plain_takes w h k =
    let s = run state.Start (classes_of w.text) in
    let u = unescaped_run state.Start w.text refl k in
    light_names w.kind (kind_of table (classes_of (w.text ++ 32 ∷ [])) []) h
    (ap is_light (space_kind w.text) ∙ implied (is_unescaped s) (is_light (ended (next s class.Blank) [])) u (each_state (λ r. not (is_unescaped r) || is_light (ended (next r class.Blank) [])) refl s))

-- No kind but four.

abbrev no_space : Kind → State → Bool
no_space k s = not (names k (ended (next s class.Blank) []))

abbrev other_kind : Kind → Bool
other_kind k = (may_take k || is_gap k) || all_pass (no_space k)

other_takes : (w : Word) → may_take w.kind ≡ false → is_gap w.kind ≡ false → takes w (codes " ") ≡ false
other_takes w h g =
    let s = run state.Start (classes_of w.text) in
    let e : all_pass (no_space w.kind) ≡ true = ap₂ (λ (x y : Bool). (x || y) || all_pass (no_space w.kind)) (sym h) (sym g) ∙ each_kind other_kind refl w.kind in
    ap (names w.kind) (space_kind w.text) ∙ not-true (names w.kind (ended (next s class.Blank) [])) (each_state (no_space w.kind) e s)

may_solid : (k : Kind) → may_take k ≡ true → is_gap k ≡ false
may_solid kind.White h = cc
may_solid kind.Comment h = cc
may_solid k h = refl

no_more : (a b : Bool) → b ≡ false → (a && b) ≡ false
no_more true b h = h
no_more false b h = refl

pub not_gap : (w : Word) → is_gap w.kind ≡ true → takes_space w ≡ false
not_gap w g = ap (λ b. not b && takes w (codes " ")) g

-- what the code says of a word
pub never_takes : (k : Kind) (text : List ℕ) → may_take k ≡ false → takes_space (record { kind = k; text = text }) ≡ false
never_takes k text h = elim (cases_Bool (is_gap k)) [
  | inl g ↦ not_gap (record { kind = k; text = text }) g
  | inr g ↦ no_more (not (is_gap k)) _ (other_takes (record { kind = k; text = text }) h g)
]

pub unescaped_takes : (k : Kind) (text : List ℕ) → may_take k ≡ true → list_any (nat_eq 92) text ≡ false → takes_space (record { kind = k; text = text }) ≡ false
unescaped_takes k text h n = no_more (not (is_gap k)) _ (plain_takes (record { kind = k; text = text }) h n)

pub escaped_takes : (k : Kind) (text : List ℕ) → may_take k ≡ true → (may_take k && names k (kind_of table (classes_of (text ++ 32 ∷ [])) [])) ≡ takes_space (record { kind = k; text = text })
escaped_takes k text h = ap (λ b. b && names k (kind_of table (classes_of (text ++ 32 ∷ [])) [])) (h ∙ sym (ap not (may_solid k h)))
