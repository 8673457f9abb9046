-- The files that have numbers are those of the waves that are not missing.
use Rattle.std.proofs.Common.{◌≡◌, ℕ, zero, suc, ◌+◌, ◌<◌, ◌≤◌, ◌⊎◌, inl, inr, Bool, true, false, ◌&&◌, ◌||◌, List, [], ◌∷◌, ◌++◌, length, flat_map, append_assoc, append-nil, length-append, Option, Some, None, is_some, subst, sym, ap, ◌∙◌, refl, arith, true≢false, if◌then◌else◌}
use Rattle.std.specs.List.{list_any, IsDistinct}
use Rattle.std.specs.Option.{option_map_or, unwrap_or}
use Rattle.std.specs.Set.{is_member}
use Rattle.std.specs.Str.{bytes_eq}
use Rattle.std.specs.Cmp.Lexicographic.{nat_list_eq_equiv}
use Rattle.std.proofs.lemmas.List.Folds.{list_any-append}
use Rattle.std.proofs.lemmas.Map.Made.{length-le_from_is_member}
use Rattle.std.proofs.lemmas.Slice.Eq.{bytes_eq-Decides}
use Rattle.import_graph.specs.Order.{next_new, numbered_from}
use Rattle.import_graph.specs.Places.{path_order}
use Rattle.import_graph.specs.Waves.{Targets, named_by, new_among, through, wave_of, IsAll}
use Rattle.import_graph.proofs.Apart.{numbered-apart}
use Rattle.import_graph.proofs.PathOrder.{begins}

abbrev Among : List (List ℕ) → List ℕ → Type 0
Among paths path = list_any (bytes_eq path) paths ≡ true

-- each of these paths is so
abbrev Inside : (List ℕ → Type 0) → List (List ℕ) → Type 0
Inside P paths = (path : List ℕ) → Among paths path → P path

or-left : (a b : Bool) → a ≡ true → (a || b) ≡ true
or-left true b h = refl
or-left false b h = absurd (true≢false (sym h))

or-right : (a b : Bool) → b ≡ true → (a || b) ≡ true
or-right true b h = refl
or-right false b h = h

or-either : (a b : Bool) → (a || b) ≡ true → (a ≡ true) ⊎ (b ≡ true)
or-either true b h = inl refl
or-either false b h = inr h

same-path : (p q : List ℕ) → bytes_eq p q ≡ true → p ≡ q
same-path p q h = (bytes_eq-Decides p q).0 h

among-left : (xs ys : List (List ℕ)) (q : List ℕ) → Among xs q → Among (xs ++ ys) q
among-left xs ys q h = list_any-append (bytes_eq q) xs ys ∙ or-left (list_any (bytes_eq q) xs) (list_any (bytes_eq q) ys) h

among-right : (xs ys : List (List ℕ)) (q : List ℕ) → Among ys q → Among (xs ++ ys) q
among-right xs ys q h = list_any-append (bytes_eq q) xs ys ∙ or-right (list_any (bytes_eq q) xs) (list_any (bytes_eq q) ys) h

among-either : (xs ys : List (List ℕ)) (q : List ℕ) → Among (xs ++ ys) q → Among xs q ⊎ Among ys q
among-either xs ys q h = or-either (list_any (bytes_eq q) xs) (list_any (bytes_eq q) ys) (sym (list_any-append (bytes_eq q) xs ys) ∙ h)

among-here : (q : List ℕ) (xs : List (List ℕ)) → Among (q ∷ xs) q
among-here q xs = or-left (bytes_eq q q) (list_any (bytes_eq q) xs) (nat_list_eq_equiv.refl q)

among-later : (x q : List ℕ) (xs : List (List ℕ)) → Among xs q → Among (x ∷ xs) q
among-later x q xs h = or-right (bytes_eq q x) (list_any (bytes_eq q) xs) h

among-none : {P : Type 0} (q : List ℕ) → Among [] q → P
among-none q h = absurd (true≢false (sym h))

module _ (P : List ℕ → Type 0) where
  inside-cons : (x : List ℕ) (xs : List (List ℕ)) → P x → Inside P xs → Inside P (x ∷ xs)
  inside-cons x xs here rest = λ q h. by q (or-either (bytes_eq q x) (list_any (bytes_eq q) xs) h)
    where
      by : (q : List ℕ) → (bytes_eq q x ≡ true) ⊎ Among xs q → P q
      by q (inl same) = subst P (sym (same-path q x same)) here
      by q (inr more) = rest q more

  inside-none : Inside P []
  inside-none = λ q h. among-none q h

  inside-append : (xs ys : List (List ℕ)) → Inside P xs → Inside P ys → Inside P (xs ++ ys)
  inside-append xs ys first second = λ q h. by q (among-either xs ys q h)
    where
      by : (q : List ℕ) → Among xs q ⊎ Among ys q → P q
      by q (inl h) = first q h
      by q (inr h) = second q h

  inside-tail : (x : List ℕ) (xs : List (List ℕ)) → Inside P (x ∷ xs) → Inside P xs
  inside-tail x xs all = λ q h. all q (among-later x q xs h)

  new-inside : (known xs : List (List ℕ)) → Inside P xs → Inside P (new_among known xs)
  new-inside known [] all = all
  new-inside known (x ∷ xs) all = by (list_any (bytes_eq x) known) (new-inside known xs (inside-tail x xs all)) (new-inside (known ++ x ∷ []) xs (inside-tail x xs all))
    where
      by : (b : Bool) → Inside P (new_among known xs) → Inside P (new_among (known ++ x ∷ []) xs) → Inside P (if b then new_among known xs else x ∷ new_among (known ++ x ∷ []) xs)
      by true there free = there
      by false there free = inside-cons x (new_among (known ++ x ∷ []) xs) (all x (among-here x xs)) free

  flat-inside : (f : List ℕ → List (List ℕ)) (xs : List (List ℕ)) → ((p : List ℕ) → Among xs p → Inside P (f p)) → Inside P (flat_map f xs)
  flat-inside f [] each = inside-none
  flat-inside f (x ∷ xs) each = inside-append (f x) (flat_map f xs) (each x (among-here x xs)) (flat-inside f xs (λ p h. each p (among-later x p xs h)))

dropped : (known xs : List (List ℕ)) (x q : List ℕ) → Among known x → Among (known ++ x ∷ xs) q → Among (known ++ xs) q
dropped known xs x q has h =
    inside-append (Among (known ++ xs)) known (x ∷ xs) (λ p k. among-left known xs p k) (inside-cons (Among (known ++ xs)) x xs (among-left known xs x has) (λ p k. among-right known xs p k)) q h

-- no path that is named is left out of what is added
new-covers : (known xs : List (List ℕ)) (q : List ℕ) → Among (known ++ xs) q → Among (known ++ new_among known xs) q
new-covers known [] q h = h
new-covers known (x ∷ xs) q h = by (list_any (bytes_eq x) known) refl (new-covers known xs q) (new-covers (known ++ x ∷ []) xs q)
  where
    by : (b : Bool) → list_any (bytes_eq x) known ≡ b → (Among (known ++ xs) q → Among (known ++ new_among known xs) q) → (Among ((known ++ x ∷ []) ++ xs) q → Among ((known ++ x ∷ []) ++ new_among (known ++ x ∷ []) xs) q)
        → Among (known ++ (if b then new_among known xs else x ∷ new_among (known ++ x ∷ []) xs)) q
    by true has there free = there (dropped known xs x q has h)
    by false has there free =
        subst (λ (l : List (List ℕ)). Among l q) (append_assoc known (x ∷ []) (new_among (known ++ x ∷ []) xs)) (free (subst (λ (l : List (List ℕ)). Among l q) (sym (append_assoc known (x ∷ []) xs)) h))

flat-in : (f : List ℕ → List (List ℕ)) (xs : List (List ℕ)) (p q : List ℕ) → Among xs p → Among (f p) q → Among (flat_map f xs) q
flat-in f [] p q h k = among-none p h
flat-in f (x ∷ xs) p q h k = by (or-either (bytes_eq p x) (list_any (bytes_eq p) xs) h) (λ more. flat-in f xs p q more k)
  where
    by : (bytes_eq p x ≡ true) ⊎ Among xs p → (Among xs p → Among (flat_map f xs) q) → Among (f x ++ flat_map f xs) q
    by (inl same) later = among-left (f x) (flat_map f xs) q (subst (λ (y : List ℕ). Among (f y) q) (same-path p x same) k)
    by (inr more) later = among-right (f x) (flat_map f xs) q (later more)

module _ (targets : Targets) where
  -- what the next file and those behind it are, where the files that are still to be met are so
  next-so : (P : List ℕ → Type 0) → ((p : List ℕ) → P p → Inside P (named_by targets p)) → (numbered todo : List (List ℕ)) (next : List ℕ × List (List ℕ)) → Inside P todo → next_new bytes_eq targets numbered todo ≡ Some next
      → P next.0 × (is_some (targets next.0) ≡ true) × Inside P next.1
  next-so P closed numbered [] next all is = absurd (cc is)
  next-so P closed numbered (file ∷ todo) next all is = by (list_any (bytes_eq file) numbered) (targets file) refl is (next-so P closed numbered todo next (inside-tail P file todo all))
    where
      by : (b : Bool) (found : Option (List (List ℕ))) → targets file ≡ found → (if b then next_new bytes_eq targets numbered todo else option_map_or (λ named. Some (file, named ++ todo)) found (next_new bytes_eq targets numbered todo)) ≡ Some next
          → (next_new bytes_eq targets numbered todo ≡ Some next → P next.0 × (is_some (targets next.0) ≡ true) × Inside P next.1) → P next.0 × (is_some (targets next.0) ≡ true) × Inside P next.1
      by true found at is later = later is
      by false None at is later = later is
      by false (Some named) at is later =
          let e : (file, named ++ todo) ≡ next = cc is in
          let here = all file (among-here file todo) in
          let names : named_by targets file ≡ named = ap (λ (f : Option (List (List ℕ))). unwrap_or f []) at in
          subst (λ (n : List ℕ × List (List ℕ)). P n.0 × (is_some (targets n.0) ≡ true) × Inside P n.1) e
          (here, ap (λ (f : Option (List (List ℕ))). is_some f) at, inside-append P named todo (subst (Inside P) names (closed file here)) (inside-tail P file todo all))

  -- the files that get numbers are so, and not missing
  numbered-so : (P : List ℕ → Type 0) → ((p : List ℕ) → P p → Inside P (named_by targets p)) → (more : ℕ) (numbered todo : List (List ℕ)) → Inside (λ p. P p × (is_some (targets p) ≡ true)) numbered → Inside P todo
      → Inside (λ p. P p × (is_some (targets p) ≡ true)) (numbered_from bytes_eq targets more numbered todo)
  numbered-so P closed zero numbered todo good all = good
  numbered-so P closed (suc more) numbered todo good all = by (next_new bytes_eq targets numbered todo) refl (numbered-so P closed more)
    where
      by : (next : Option (List ℕ × List (List ℕ))) → next_new bytes_eq targets numbered todo ≡ next
          → ((now rest : List (List ℕ)) → Inside (λ p. P p × (is_some (targets p) ≡ true)) now → Inside P rest → Inside (λ p. P p × (is_some (targets p) ≡ true)) (numbered_from bytes_eq targets more now rest))
          → Inside (λ p. P p × (is_some (targets p) ≡ true)) (elim next [ None ↦ numbered | Some p ↦ numbered_from bytes_eq targets more (numbered ++ p.0 ∷ []) p.1 ])
      by None is later = good
      by (Some next) is later =
          let so = next-so P closed numbered todo next all is in
          later (numbered ++ next.0 ∷ []) next.1
          (inside-append (λ p. P p × (is_some (targets p) ≡ true)) numbered (next.0 ∷ []) good (inside-cons (λ p. P p × (is_some (targets p) ≡ true)) next.0 [] (so.0, so.1) (inside-none (λ p. P p × (is_some (targets p) ≡ true))))) so.2

  -- a path has a number, or is still to be met, or is missing
  abbrev Met : List (List ℕ) → List (List ℕ) → List ℕ → Type 0
  Met numbered todo path = Among (numbered ++ todo) path ⊎ (targets path ≡ None)

  -- the entry is met, and so is what the numbered files name
  abbrev Kept : List ℕ → List (List ℕ) → List (List ℕ) → Type 0
  Kept entry numbered todo = Met numbered todo entry × ((p : List ℕ) → Among numbered p → Inside (Met numbered todo) (named_by targets p))

  next-none : (numbered todo : List (List ℕ)) → next_new bytes_eq targets numbered todo ≡ None → Inside (Met numbered []) todo
  next-none numbered [] is = inside-none (Met numbered [])
  next-none numbered (file ∷ todo) is = by (list_any (bytes_eq file) numbered) (targets file) refl refl is (next-none numbered todo)
    where
      by : (b : Bool) (found : Option (List (List ℕ))) → list_any (bytes_eq file) numbered ≡ b → targets file ≡ found → (if b then next_new bytes_eq targets numbered todo else option_map_or (λ named. Some (file, named ++ todo)) found (next_new bytes_eq targets numbered todo)) ≡ None
          → (next_new bytes_eq targets numbered todo ≡ None → Inside (Met numbered []) todo) → Inside (Met numbered []) (file ∷ todo)
      by true found has at is later = inside-cons (Met numbered []) file todo (inl (among-left numbered [] file has)) (later is)
      by false None has at is later = inside-cons (Met numbered []) file todo (inr at) (later is)
      by false (Some named) has at is later = absurd (cc is)

  settle : (numbered todo : List (List ℕ)) (path : List ℕ) → next_new bytes_eq targets numbered todo ≡ None → Met numbered todo path → Met numbered [] path
  settle numbered todo path is (inr none) = inr none
  settle numbered todo path is (inl h) = inside-append (Met numbered []) numbered todo (λ q k. inl (among-left numbered [] q k)) (next-none numbered todo is) path h

  next-covers : (numbered todo : List (List ℕ)) (next : List ℕ × List (List ℕ)) → next_new bytes_eq targets numbered todo ≡ Some next → Inside (Met (numbered ++ next.0 ∷ []) next.1) todo × Inside (Met (numbered ++ next.0 ∷ []) next.1) (named_by targets next.0)
  next-covers numbered [] next is = absurd (cc is)
  next-covers numbered (file ∷ todo) next is = by (list_any (bytes_eq file) numbered) (targets file) refl refl is (next-covers numbered todo next)
    where
      by : (b : Bool) (found : Option (List (List ℕ))) → list_any (bytes_eq file) numbered ≡ b → targets file ≡ found → (if b then next_new bytes_eq targets numbered todo else option_map_or (λ named. Some (file, named ++ todo)) found (next_new bytes_eq targets numbered todo)) ≡ Some next
          → (next_new bytes_eq targets numbered todo ≡ Some next → Inside (Met (numbered ++ next.0 ∷ []) next.1) todo × Inside (Met (numbered ++ next.0 ∷ []) next.1) (named_by targets next.0))
          → Inside (Met (numbered ++ next.0 ∷ []) next.1) (file ∷ todo) × Inside (Met (numbered ++ next.0 ∷ []) next.1) (named_by targets next.0)
      by true found has at is later =
          let rest = later is in
          (inside-cons (Met (numbered ++ next.0 ∷ []) next.1) file todo (inl (among-left (numbered ++ next.0 ∷ []) next.1 file (among-left numbered (next.0 ∷ []) file has))) rest.0, rest.1)
      by false None has at is later =
          let rest = later is in
          (inside-cons (Met (numbered ++ next.0 ∷ []) next.1) file todo (inr at) rest.0, rest.1)
      by false (Some named) has at is later =
          let e : (file, named ++ todo) ≡ next = cc is in
          let names : named_by targets file ≡ named = ap (λ (f : Option (List (List ℕ))). unwrap_or f []) at in
          subst (λ (n : List ℕ × List (List ℕ)). Inside (Met (numbered ++ n.0 ∷ []) n.1) (file ∷ todo) × Inside (Met (numbered ++ n.0 ∷ []) n.1) (named_by targets n.0)) e (
            inside-cons (Met (numbered ++ file ∷ []) (named ++ todo)) file todo (inl (among-left (numbered ++ file ∷ []) (named ++ todo) file (among-right numbered (file ∷ []) file (among-here file []))))
                (λ q k. inl (among-right (numbered ++ file ∷ []) (named ++ todo) q (among-right named todo q k))),
            subst (Inside (Met (numbered ++ file ∷ []) (named ++ todo))) (sym names) (λ q k. inl (among-right (numbered ++ file ∷ []) (named ++ todo) q (among-left named todo q k))),
          )

  met-step : (numbered todo : List (List ℕ)) (next : List ℕ × List (List ℕ)) (path : List ℕ) → next_new bytes_eq targets numbered todo ≡ Some next → Met numbered todo path → Met (numbered ++ next.0 ∷ []) next.1 path
  met-step numbered todo next path is (inr none) = inr none
  met-step numbered todo next path is (inl h) =
      inside-append (Met (numbered ++ next.0 ∷ []) next.1) numbered todo (λ q k. inl (among-left (numbered ++ next.0 ∷ []) next.1 q (among-left numbered (next.0 ∷ []) q k))) (next-covers numbered todo next is).0 path h

  -- once no more files get numbers, all is met
  finish : (entry : List ℕ) (more : ℕ) (numbered todo : List (List ℕ)) → Kept entry numbered todo → length (numbered_from bytes_eq targets more numbered todo) < length numbered + more → Kept entry (numbered_from bytes_eq targets more numbered todo) []
  finish entry zero numbered todo kept few = absurd (omega arith)
  finish entry (suc more) numbered todo kept few = by (next_new bytes_eq targets numbered todo) refl few (finish entry more)
    where
      by : (next : Option (List ℕ × List (List ℕ))) → next_new bytes_eq targets numbered todo ≡ next → length {A = List ℕ} (elim next [ None ↦ numbered | Some p ↦ numbered_from bytes_eq targets more (numbered ++ p.0 ∷ []) p.1 ]) < length numbered + suc more
          → ((now rest : List (List ℕ)) → Kept entry now rest → length (numbered_from bytes_eq targets more now rest) < length now + more → Kept entry (numbered_from bytes_eq targets more now rest) [])
          → Kept entry (elim next [ None ↦ numbered | Some p ↦ numbered_from bytes_eq targets more (numbered ++ p.0 ∷ []) p.1 ]) []
      by None is few later = (settle numbered todo entry is kept.0, λ p h q k. settle numbered todo q is (kept.1 p h q k))
      by (Some next) is few later =
          later (numbered ++ next.0 ∷ []) next.1 (
            met-step numbered todo next entry is kept.0,
            inside-append (λ p. Inside (Met (numbered ++ next.0 ∷ []) next.1) (named_by targets p)) numbered (next.0 ∷ [])
                (λ p h q k. met-step numbered todo next q is (kept.1 p h q k))
                (inside-cons (λ p. Inside (Met (numbered ++ next.0 ∷ []) next.1) (named_by targets p)) next.0 [] (next-covers numbered todo next is).1 (inside-none (λ p. Inside (Met (numbered ++ next.0 ∷ []) next.1) (named_by targets p)))),
          ) (omega (arith, few, length-append numbered (next.0 ∷ [])))

  abbrev From : ℕ → List (List ℕ) → Option (List ℕ × List (List ℕ)) → List (List ℕ)
  From more numbered next = elim next [ None ↦ numbered | Some p ↦ numbered_from bytes_eq targets more (numbered ++ p.0 ∷ []) p.1 ]

  -- one more number changes nothing where it is not used
  few-enough : (more : ℕ) (numbered todo : List (List ℕ)) → length (numbered_from bytes_eq targets (suc more) numbered todo) ≤ length numbered + more → numbered_from bytes_eq targets more numbered todo ≡ numbered_from bytes_eq targets (suc more) numbered todo
  few-enough zero numbered todo few = by (next_new bytes_eq targets numbered todo) few
    where
      by : (next : Option (List ℕ × List (List ℕ))) → length (From 0 numbered next) ≤ length numbered + 0 → numbered ≡ From 0 numbered next
      by None few = refl
      by (Some p) few = absurd (omega (arith, few, length-append numbered (p.0 ∷ [])))
  few-enough (suc more) numbered todo few = by (next_new bytes_eq targets numbered todo) few (few-enough more)
    where
      by : (next : Option (List ℕ × List (List ℕ))) → length (From (suc more) numbered next) ≤ length numbered + suc more
          → ((now rest : List (List ℕ)) → length (numbered_from bytes_eq targets (suc more) now rest) ≤ length now + more → numbered_from bytes_eq targets more now rest ≡ numbered_from bytes_eq targets (suc more) now rest)
          → From more numbered next ≡ From (suc more) numbered next
      by None few later = refl
      by (Some p) few later = later (numbered ++ p.0 ∷ []) p.1 (omega (arith, few, length-append numbered (p.0 ∷ [])))

none-distinct : IsDistinct bytes_eq []
unfolding IsDistinct
none-distinct = tt

both : (a b : Bool) → (a ≡ true → b ≡ true) → (b ≡ true → a ≡ true) → a ≡ b
both true b there back = sym (there refl)
both false true there back = back refl
both false false there back = refl

and-both : (a b : Bool) → a ≡ true → b ≡ true → (a && b) ≡ true
and-both true b first second = second
and-both false b first second = absurd (true≢false (sym first))

and-parts : (a b : Bool) → (a && b) ≡ true → (a ≡ true) × (b ≡ true)
and-parts true b h = (refl, h)
and-parts false b h = absurd (true≢false (sym h))

module _ (targets : Targets) (entry : List ℕ) where
  -- what the files of the waves before name stands in the waves so far
  closed-wave : (number : ℕ) (p : List ℕ) → Among (wave_of targets entry number).before p → Inside (Among (through (wave_of targets entry number))) (named_by targets p)
  closed-wave zero p h = among-none p h
  closed-wave (suc number) p h = by (among-either (wave_of targets entry number).before (wave_of targets entry number).paths p h) (closed-wave number p)
    where
      by : Among (wave_of targets entry number).before p ⊎ Among (wave_of targets entry number).paths p → (Among (wave_of targets entry number).before p → Inside (Among (through (wave_of targets entry number))) (named_by targets p))
          → Inside (Among (through (wave_of targets entry (suc number)))) (named_by targets p)
      by (inl h) later = λ q k. among-left (through (wave_of targets entry number)) (wave_of targets entry (suc number)).paths q (later h q k)
      by (inr h) later = λ q k.
          new-covers (through (wave_of targets entry number)) (flat_map (named_by targets) (wave_of targets entry number).paths) q
          (among-right (through (wave_of targets entry number)) (flat_map (named_by targets) (wave_of targets entry number).paths) q (flat-in (named_by targets) (wave_of targets entry number).paths p q h k))

  module _ (paths : List (List ℕ)) (all : IsAll targets entry paths) where
    closed : (p : List ℕ) → Among paths p → Inside (Among paths) (named_by targets p)
    closed p h = λ q k.
        subst (λ (l : List (List ℕ)). Among l q) (ap (λ (l : List (List ℕ)). through (wave_of targets entry all.number) ++ l) all.last ∙ append-nil (through (wave_of targets entry all.number)) ∙ sym all.all)
        (closed-wave (suc all.number) p (subst (λ (l : List (List ℕ)). Among l p) all.all h) q k)

    entry-in : Among paths entry
    entry-in = let first = begins targets entry all.number in subst (λ (l : List (List ℕ)). Among l entry) (sym (all.all ∙ first.1)) (among-here entry first.0)

    so : (more : ℕ) → Inside (λ p. Among paths p × (is_some (targets p) ≡ true)) (numbered_from bytes_eq targets more [] (entry ∷ []))
    so more = numbered-so targets (Among paths) closed more [] (entry ∷ []) (inside-none (λ p. Among paths p × (is_some (targets p) ≡ true))) (inside-cons (Among paths) entry [] entry-in (inside-none (Among paths)))

    count : (more : ℕ) → length (numbered_from bytes_eq targets more [] (entry ∷ [])) ≤ length paths
    count more =
        length-le_from_is_member nat_list_eq_equiv (numbered_from bytes_eq targets more [] (entry ∷ [])) paths (numbered-apart bytes_eq targets nat_list_eq_equiv.symm more [] (entry ∷ []) none-distinct) (λ q h. (so more q h).0)

    module _ (most : ℕ) (few : length paths ≤ most) where
      abbrev order : List (List ℕ)
      order = numbered_from bytes_eq targets (suc most) [] (entry ∷ [])

      kept : Kept targets entry order []
      kept = finish targets entry (suc most) [] (entry ∷ []) (inl (among-here entry []), λ p h. among-none p h) (omega (arith, few, count (suc most)))

      names-met : (p : List ℕ) → Met targets order [] p → Inside (Met targets order []) (named_by targets p)
      names-met p (inl h) = kept.1 p (subst (λ (l : List (List ℕ)). Among l p) (append-nil order) h)
      names-met p (inr none) = subst (Inside (Met targets order [])) (sym (ap (λ (f : Option (List (List ℕ))). unwrap_or f []) none)) (inside-none (Met targets order []))

      waves-met : (number : ℕ) → Inside (Met targets order []) (through (wave_of targets entry number))
      waves-met zero = inside-cons (Met targets order []) entry [] kept.0 (inside-none (Met targets order []))
      waves-met (suc number) =
          let before = waves-met number in
          inside-append (Met targets order []) (through (wave_of targets entry number)) (wave_of targets entry (suc number)).paths before
          (new-inside (Met targets order []) (through (wave_of targets entry number)) (flat_map (named_by targets) (wave_of targets entry number).paths)
          (flat-inside (Met targets order []) (named_by targets) (wave_of targets entry number).paths (λ p h. names-met p (before p (among-right (wave_of targets entry number).before (wave_of targets entry number).paths p h)))))

      back : (p : List ℕ) → Among paths p → is_some (targets p) ≡ true → Among order p
      back p h some = by (waves-met all.number p (subst (λ (l : List (List ℕ)). Among l p) all.all h))
        where
          by : Met targets order [] p → Among order p
          by (inl h) = subst (λ (l : List (List ℕ)). Among l p) (append-nil order) h
          by (inr none) = absurd (true≢false (sym some ∙ ap (λ (f : Option (List (List ℕ))). is_some f) none))

      reached-at : (p : List ℕ) → is_member bytes_eq (numbered_from bytes_eq targets most [] (entry ∷ [])) p ≡ (is_member bytes_eq paths p && is_some (targets p))
      reached-at p =
          ap (λ (l : List (List ℕ)). list_any (bytes_eq p) l) (few-enough targets most [] (entry ∷ []) (omega (arith, few, count (suc most))))
          ∙ both (list_any (bytes_eq p) order) (list_any (bytes_eq p) paths && is_some (targets p)) (λ h. let here = so (suc most) p h in and-both (list_any (bytes_eq p) paths) (is_some (targets p)) here.0 here.1)
          (λ h. let parts = and-parts (list_any (bytes_eq p) paths) (is_some (targets p)) h in back p parts.0 parts.1)

-- a path has a number exactly where it is in a wave and not missing
pub numbers-reach : (targets : Targets) (entry : List ℕ) (paths : List (List ℕ)) → IsAll targets entry paths → (path : List ℕ) → is_member bytes_eq (path_order targets entry) path ≡ (is_member bytes_eq paths path && is_some (targets path))
unfolding path_order
numbers-reach targets entry paths all path = reached-at targets entry paths all 1024 all.few path

-- no path has two numbers
pub paths-apart : (targets : Targets) (entry : List ℕ) → IsDistinct bytes_eq (path_order targets entry)
unfolding path_order
paths-apart targets entry = numbered-apart bytes_eq targets nat_list_eq_equiv.symm 1024 [] (entry ∷ []) none-distinct
