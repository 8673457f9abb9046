-- What every class, every kind and every state of the machine passes, by a test of each.
use Rattle.std.proofs.Common.{◌≡◌, ℕ, zero, suc, List, [], ◌∷◌, Bool, true, false, ◌&&◌, ◌||◌, not, refl, sym, ap, ◌∙◌, subst, nat_eq, eqb-true, get_or}
use Rattle.std.proofs.lemmas.Bool.{and_parts}
use Rattle.std.specs.List.{list_all}
use Rattle.css_tokens.specs.declared.class.Class.{Class}
use Rattle.css_tokens.specs.declared.class.Class.TheVariants as class
use Rattle.css_tokens.specs.declared.kind.Kind.{Kind}
use Rattle.css_tokens.specs.declared.kind.Kind.TheVariants as kind
use Rattle.css_tokens.specs.declared.machine.State.{State}
use Rattle.css_tokens.specs.declared.machine.State.TheVariants as state
use Rattle.css_tokens.specs.declared.machine.Holder.{Holder}
use Rattle.css_tokens.specs.declared.machine.Holder.TheVariants as holder
use Rattle.css_tokens.specs.declared.machine.Escape.{Escape}
use Rattle.css_tokens.specs.declared.machine.Escape.TheVariants as escape
use Rattle.css_tokens.specs.Characters.{classes, place_of}
use Rattle.css_tokens.specs.Kinds.{place_of_kind}
use Rattle.css_tokens.proofs.Derivatives.{at_place}

pub implied : (a b : Bool) → a ≡ true → (not a || b) ≡ true → b ≡ true
implied true b h k = k
implied false b h k = cc

pub refuted : (a b : Bool) → b ≡ false → (not a || b) ≡ true → a ≡ false
refuted true true h k = cc
refuted true false h k = cc
refuted false b h k = refl

-- what every element of a list passes, each passes
each_at : {A : Type 0} (P : A → Bool) (xs : List A) (n : ℕ) (d : A) → P d ≡ true → list_all P xs ≡ true → P (get_or xs n d) ≡ true
each_at P [] n d e h = e
each_at P (x ∷ xs) zero d e h = (and_parts (P x) (list_all P xs) h).0
each_at P (x ∷ xs) (suc n) d e h = each_at P xs n d e (and_parts (P x) (list_all P xs) h).1

pub each_class : (P : Class → Bool) → list_all P classes ≡ true → (c : Class) → P c ≡ true
each_class P h c = subst (λ d. P d ≡ true) (at_place c) (each_at P classes (place_of c) class.Blank (and_parts (P class.Blank) _ h).0 h)

abbrev pub kinds : List Kind
kinds = kind.White ∷ kind.Comment ∷ kind.Ident ∷ kind.Function ∷ kind.Url ∷ kind.At ∷ kind.Hash ∷ kind.String ∷ kind.Number ∷ kind.Percentage ∷ kind.Dimension ∷ kind.Colon ∷ kind.Semicolon ∷ kind.Comma ∷ kind.Open ∷ kind.Close ∷ kind.Delim ∷ kind.Cdo ∷ kind.Cdc ∷ []

kind_at : (k : Kind) → get_or kinds (place_of_kind k) kind.White ≡ k
kind_at kind.White = refl
kind_at kind.Comment = refl
kind_at kind.Ident = refl
kind_at kind.Function = refl
kind_at kind.Url = refl
kind_at kind.At = refl
kind_at kind.Hash = refl
kind_at kind.String = refl
kind_at kind.Number = refl
kind_at kind.Percentage = refl
kind_at kind.Dimension = refl
kind_at kind.Colon = refl
kind_at kind.Semicolon = refl
kind_at kind.Comma = refl
kind_at kind.Open = refl
kind_at kind.Close = refl
kind_at kind.Delim = refl
kind_at kind.Cdo = refl
kind_at kind.Cdc = refl

-- kinds in the same place are the same
pub is_kind-eq : (a b : Kind) → nat_eq (place_of_kind a) (place_of_kind b) ≡ true → a ≡ b
is_kind-eq a b h = sym (kind_at a) ∙ ap (λ n. get_or kinds n kind.White) (eqb-true (place_of_kind a) (place_of_kind b) h) ∙ kind_at b

pub each_kind : (P : Kind → Bool) → list_all P kinds ≡ true → (k : Kind) → P k ≡ true
each_kind P h k = subst (λ j. P j ≡ true) (kind_at k) (each_at P kinds (place_of_kind k) kind.White (and_parts (P kind.White) _ h).0 h)

-- the states that hold nothing more
abbrev pub plain_states : List State
plain_states =
    state.Start
    ∷ state.White
    ∷ state.Slash
    ∷ state.Comment
    ∷ state.CommentStar
    ∷ state.DoubleQuoted
    ∷ state.SingleQuoted
    ∷ state.Less
    ∷ state.LessBang
    ∷ state.LessBangMinus
    ∷ state.Minus
    ∷ state.MinusMinus
    ∷ state.Name
    ∷ state.At
    ∷ state.AtMinus
    ∷ state.AtName
    ∷ state.Hash
    ∷ state.HashName
    ∷ state.Plus
    ∷ state.Dot
    ∷ state.Point
    ∷ state.Integer
    ∷ state.Fraction
    ∷ state.Exponent
    ∷ state.ExponentPlus
    ∷ state.ExponentMinus
    ∷ state.ExponentDigits
    ∷ state.ExponentDash
    ∷ state.PlusDigits
    ∷ state.UnitMinus
    ∷ state.Unit
    ∷ state.UrlStart
    ∷ state.UrlWhite
    ∷ state.UrlText
    ∷ state.UrlAfter
    ∷ state.Dead ∷ []

-- what an escape stands in, and how much of one is read
abbrev pub holders : List Holder
holders = holder.Name ∷ holder.AtName ∷ holder.HashName ∷ holder.Unit ∷ holder.DoubleQuoted ∷ holder.SingleQuoted ∷ holder.UrlText ∷ []

abbrev pub escapes : List Escape
escapes = escape.Begun ∷ escape.Hex1 ∷ escape.Hex2 ∷ escape.Hex3 ∷ escape.Hex4 ∷ escape.Hex5 ∷ escape.Hex6 ∷ escape.Return ∷ []

each_holder : (P : Holder → Bool) → list_all P holders ≡ true → (i : Holder) → P i ≡ true
each_holder P h holder.Name = each_at P holders 0 holder.Name (and_parts (P holder.Name) _ h).0 h
each_holder P h holder.AtName = each_at P holders 1 holder.Name (and_parts (P holder.Name) _ h).0 h
each_holder P h holder.HashName = each_at P holders 2 holder.Name (and_parts (P holder.Name) _ h).0 h
each_holder P h holder.Unit = each_at P holders 3 holder.Name (and_parts (P holder.Name) _ h).0 h
each_holder P h holder.DoubleQuoted = each_at P holders 4 holder.Name (and_parts (P holder.Name) _ h).0 h
each_holder P h holder.SingleQuoted = each_at P holders 5 holder.Name (and_parts (P holder.Name) _ h).0 h
each_holder P h holder.UrlText = each_at P holders 6 holder.Name (and_parts (P holder.Name) _ h).0 h

each_escape : (P : Escape → Bool) → list_all P escapes ≡ true → (e : Escape) → P e ≡ true
each_escape P h escape.Begun = each_at P escapes 0 escape.Begun (and_parts (P escape.Begun) _ h).0 h
each_escape P h escape.Hex1 = each_at P escapes 1 escape.Begun (and_parts (P escape.Begun) _ h).0 h
each_escape P h escape.Hex2 = each_at P escapes 2 escape.Begun (and_parts (P escape.Begun) _ h).0 h
each_escape P h escape.Hex3 = each_at P escapes 3 escape.Begun (and_parts (P escape.Begun) _ h).0 h
each_escape P h escape.Hex4 = each_at P escapes 4 escape.Begun (and_parts (P escape.Begun) _ h).0 h
each_escape P h escape.Hex5 = each_at P escapes 5 escape.Begun (and_parts (P escape.Begun) _ h).0 h
each_escape P h escape.Hex6 = each_at P escapes 6 escape.Begun (and_parts (P escape.Begun) _ h).0 h
each_escape P h escape.Return = each_at P escapes 7 escape.Begun (and_parts (P escape.Begun) _ h).0 h

abbrev pub all_escaped : (State → Bool) → Bool
all_escaped P = list_all (λ i. list_all (λ e. P (state.Escaped i e)) escapes) holders

abbrev pub all_ends : (State → Bool) → Bool
all_ends P = list_all (λ k. P (state.End k)) kinds

-- do all states pass?
abbrev pub all_pass : (State → Bool) → Bool
all_pass P = list_all P plain_states && (all_ends P && all_escaped P)

plain_passes : (P : State → Bool) → all_pass P ≡ true → (n : ℕ) → P (get_or plain_states n state.Start) ≡ true
plain_passes P h n =
    let p = and_parts (list_all P plain_states) _ h in
    each_at P plain_states n state.Start (and_parts (P state.Start) _ p.0).0 p.0

-- what all states pass, each state passes
pub each_state : (P : State → Bool) → all_pass P ≡ true → (s : State) → P s ≡ true
each_state P h state.Start = plain_passes P h 0
each_state P h state.White = plain_passes P h 1
each_state P h state.Slash = plain_passes P h 2
each_state P h state.Comment = plain_passes P h 3
each_state P h state.CommentStar = plain_passes P h 4
each_state P h state.DoubleQuoted = plain_passes P h 5
each_state P h state.SingleQuoted = plain_passes P h 6
each_state P h state.Less = plain_passes P h 7
each_state P h state.LessBang = plain_passes P h 8
each_state P h state.LessBangMinus = plain_passes P h 9
each_state P h state.Minus = plain_passes P h 10
each_state P h state.MinusMinus = plain_passes P h 11
each_state P h state.Name = plain_passes P h 12
each_state P h state.At = plain_passes P h 13
each_state P h state.AtMinus = plain_passes P h 14
each_state P h state.AtName = plain_passes P h 15
each_state P h state.Hash = plain_passes P h 16
each_state P h state.HashName = plain_passes P h 17
each_state P h state.Plus = plain_passes P h 18
each_state P h state.Dot = plain_passes P h 19
each_state P h state.Point = plain_passes P h 20
each_state P h state.Integer = plain_passes P h 21
each_state P h state.Fraction = plain_passes P h 22
each_state P h state.Exponent = plain_passes P h 23
each_state P h state.ExponentPlus = plain_passes P h 24
each_state P h state.ExponentMinus = plain_passes P h 25
each_state P h state.ExponentDigits = plain_passes P h 26
each_state P h state.ExponentDash = plain_passes P h 27
each_state P h state.PlusDigits = plain_passes P h 28
each_state P h state.UnitMinus = plain_passes P h 29
each_state P h state.Unit = plain_passes P h 30
each_state P h state.UrlStart = plain_passes P h 31
each_state P h state.UrlWhite = plain_passes P h 32
each_state P h state.UrlText = plain_passes P h 33
each_state P h state.UrlAfter = plain_passes P h 34
each_state P h state.Dead = plain_passes P h 35
each_state P h (state.Escaped i e) =
    let p = and_parts (all_ends P) (all_escaped P) (and_parts (list_all P plain_states) _ h).1 in
    each_escape (λ f. P (state.Escaped i f)) (each_holder (λ j. list_all (λ f. P (state.Escaped j f)) escapes) p.1 i) e
each_state P h (state.End k) = each_kind (λ j. P (state.End j)) (and_parts (all_ends P) (all_escaped P) (and_parts (list_all P plain_states) _ h).1).0 k

-- and of the steps from them
pub each_step : (P : State → Class → Bool) → all_pass (λ s. list_all (P s) classes) ≡ true → (s : State) (c : Class) → P s c ≡ true
each_step P h s c = each_class (P s) (each_state (λ r. list_all (P r) classes) h s) c

abbrev pub is_dead : State → Bool
is_dead state.Dead = true
is_dead s = false

pub is_dead-eq : (s : State) → is_dead s ≡ true → s ≡ state.Dead
is_dead-eq state.Dead h = refl
is_dead-eq s h = cc
