-- What holds of a condition that is read, from what holds of those in parentheses.
use Rattle.std.proofs.Common.{List, [], ◌∷◌}
use Rattle.std.specs.Prelude.{Option, Some, None}
use Rattle.std.specs.List.{AllByRecursion}
use Rattle.std.specs.Option.{option_map, option_or}
use Rattle.media_tree.specs.declared.sign.Sign.{Sign}
use Rattle.media_tree.specs.declared.sign.Sign.TheVariants.{Gap, Comma, Not, Only, And, Or, Name, Within, Other}
use Rattle.media_tree.specs.Conditions.{Makes, and_row, condition_of, or_row, solid, within}

-- what holds of it, where there is something
abbrev pub OfSome : {A : Type 0} → (A → Type 0) → Option A → Type 0
OfSome P None = Unit {0}
OfSome P (Some x) = P x

pub some-or : {A : Type 0} (P : A → Type 0) (o p : Option A) → OfSome P o → OfSome P p → OfSome P (option_or o p)
some-or P None p h k = k
some-or P (Some x) p h k = h

-- what holds of conditions holds of what they make
pub record Kept {C : Type 0} (m : Makes C) (P : C → Type 0) : Type 0 where
  pub and_of : (c d : C) (cs : List C) → AllByRecursion P (c ∷ d ∷ cs) → P (m.and_of (c ∷ d ∷ cs))
  pub or_of : (c d : C) (cs : List C) → AllByRecursion P (c ∷ d ∷ cs) → P (m.or_of (c ∷ d ∷ cs))
  pub not_of : (c : C) → P c → P (m.not_of c)

module _ {C : Type 0} (P : C → Type 0) where
  -- it holds of the condition that stands in parentheses
  abbrev pub InWithin : Sign C → Type 0
  InWithin (Within c) = P c
  InWithin w = Unit {0}

  pub in-within : (o : Option C) → OfSome P o → InWithin (within o)
  in-within None h = tt
  in-within (Some c) h = h

  pub solid-kept : (ws : List (Sign C)) → AllByRecursion InWithin ws → AllByRecursion InWithin (solid ws)
  solid-kept [] h = tt
  solid-kept (Gap ∷ ws) h = solid-kept ws h.1
  solid-kept (Comma ∷ ws) h = (tt, solid-kept ws h.1)
  solid-kept (Not ∷ ws) h = (tt, solid-kept ws h.1)
  solid-kept (Only ∷ ws) h = (tt, solid-kept ws h.1)
  solid-kept (And ∷ ws) h = (tt, solid-kept ws h.1)
  solid-kept (Or ∷ ws) h = (tt, solid-kept ws h.1)
  solid-kept (Name n ∷ ws) h = (tt, solid-kept ws h.1)
  solid-kept (Within c ∷ ws) h = (h.0, solid-kept ws h.1)
  solid-kept (Other ∷ ws) h = (tt, solid-kept ws h.1)

  abbrev AllHold : List C → Type 0
  AllHold cs = AllByRecursion P cs

  one-more : (c : C) (o : Option (List C)) → P c → OfSome AllHold o → OfSome AllHold (option_map (λ cs. c ∷ cs) o)
  one-more c None h k = tt
  one-more c (Some cs) h k = (h, k)

  and-kept : (ws : List (Sign C)) → AllByRecursion InWithin ws → OfSome AllHold (and_row ws)
  and-kept [] h = tt
  and-kept (And ∷ Within c ∷ ws) h = one-more c (and_row ws) h.1.0 (and-kept ws h.1.1)
  and-kept ws h = tt

  or-kept : (ws : List (Sign C)) → AllByRecursion InWithin ws → OfSome AllHold (or_row ws)
  or-kept [] h = tt
  or-kept (Or ∷ Within c ∷ ws) h = one-more c (or_row ws) h.1.0 (or-kept ws h.1.1)
  or-kept ws h = tt

  -- a row of two and more
  joined : (make : List C → C) (c d : C) (o : Option (List C)) → ((cs : List C) → AllHold cs → P (make (c ∷ d ∷ cs))) → OfSome AllHold o → OfSome P (option_map (λ cs. make (c ∷ cs)) (option_map (λ cs. d ∷ cs) o))
  joined make c d None f h = tt
  joined make c d (Some cs) f h = f cs h

  -- It holds of a condition that is read.
  pub condition-kept : (m : Makes C) → Kept m P → (ws : List (Sign C)) → AllByRecursion InWithin ws → OfSome P (condition_of m ws)
  condition-kept m kept (Not ∷ Within c ∷ []) h = kept.not_of c h.1.0
  condition-kept m kept (Within c ∷ []) h = h.0
  condition-kept m kept (Within c ∷ And ∷ Within d ∷ ws) h = joined m.and_of c d (and_row ws) (λ cs k. kept.and_of c d cs (h.0, (h.1.1.0, k))) (and-kept ws h.1.1.1)
  condition-kept m kept (Within c ∷ Or ∷ Within d ∷ ws) h = joined m.or_of c d (or_row ws) (λ cs k. kept.or_of c d cs (h.0, (h.1.1.0, k))) (or-kept ws h.1.1.1)
  condition-kept m kept ws h = tt
