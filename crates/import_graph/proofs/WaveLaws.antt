-- The waves end, or bring too many, and not both.
use Rattle.std.proofs.Common.{◌≡◌, ℕ, zero, suc, ◌+◌, ◌-◌, ◌<◌, ◌≤◌, List, [], ◌∷◌, ◌++◌, length, flat_map, append-nil, length-append, subst, sym, ap, ◌∙◌, refl, arith, ◌⊎◌, inl, inr, lit≤}
use Rattle.std.proofs.Math.Nat.{suc-add, zero-add}
use Rattle.std.proofs.lemmas.Bool.{cases_lt}
use Rattle.import_graph.specs.Waves.{Targets, named_by, new_among, through, wave_of, IsAll, IsCut}

module _ (targets : Targets) (entry : List ℕ) where
  -- how many paths there are with the next wave
  grows : (number : ℕ) → length (through (wave_of targets entry (suc number))) ≡ length (through (wave_of targets entry number)) + length (wave_of targets entry (suc number)).paths
  grows number = length-append (through (wave_of targets entry number)) (wave_of targets entry (suc number)).paths

  grows-on : (more number : ℕ) → length (through (wave_of targets entry number)) ≤ length (through (wave_of targets entry (more + number)))
  grows-on zero number = rw zero-add (omega arith)
  grows-on (suc more) number = rw suc-add (omega (arith, grows (more + number), grows-on more number))

  -- after an empty wave all are empty
  stays : (number : ℕ) → (wave_of targets entry number).paths ≡ [] → (wave_of targets entry (suc number)).paths ≡ []
  stays number none = ap (λ (l : List (List ℕ)). new_among (through (wave_of targets entry number)) (flat_map (named_by targets) l)) none

  ends : (more number : ℕ) → (wave_of targets entry (suc number)).paths ≡ [] → ((wave_of targets entry (suc (more + number))).paths ≡ []) × (through (wave_of targets entry (more + number)) ≡ through (wave_of targets entry number))
  ends zero number none = rw zero-add (none, refl)
  ends (suc more) number none =
      let before = ends more number none in
      rw suc-add (stays (suc (more + number)) before.0, ap (λ (l : List (List ℕ)). through (wave_of targets entry (more + number)) ++ l) before.0 ∙ append-nil (through (wave_of targets entry (more + number))) ∙ before.1)

  -- no wave has more than all that there are
  most : (all number : ℕ) → (wave_of targets entry (suc all)).paths ≡ [] → length (through (wave_of targets entry number)) ≤ length (through (wave_of targets entry all))
  most all number none = by (cases_lt number all)
    where
      by : (number < all) ⊎ (all ≤ number) → length (through (wave_of targets entry number)) ≤ length (through (wave_of targets entry all))
      by (inl less) =
          let e : (all - number) + number ≡ all = omega arith in
          subst (λ (n : ℕ). length (through (wave_of targets entry number)) ≤ length (through (wave_of targets entry n))) e (grows-on (all - number) number)
      by (inr more) =
          let same : through (wave_of targets entry ((number - all) + all)) ≡ through (wave_of targets entry all) = (ends (number - all) all none).1 in
          let e : (number - all) + all ≡ number = omega arith in
          let here : through (wave_of targets entry number) ≡ through (wave_of targets entry all) = ap (λ (n : ℕ). through (wave_of targets entry n)) (sym e) ∙ same in
          omega (arith, ap length here)

  -- the waves do not end where one would bring too many
  pub not-both : (paths others : List (List ℕ)) → IsAll targets entry paths → IsCut targets entry others → ⊥
  not-both paths others all cut = omega (arith, ap length all.all, all.few, cut.past, most all.number (suc cut.number) all.last)

  -- the paths of all waves are these alone
  pub one-all : (paths others : List (List ℕ)) → IsAll targets entry paths → IsAll targets entry others → paths ≡ others
  one-all paths others first second = by (cases_lt first.number second.number)
    where
      joined : (m n : ℕ) → m ≤ n → (wave_of targets entry (suc m)).paths ≡ [] → through (wave_of targets entry n) ≡ through (wave_of targets entry m)
      joined m n less none =
          let e : (n - m) + m ≡ n = omega arith in
          ap (λ (k : ℕ). through (wave_of targets entry k)) (sym e) ∙ (ends (n - m) m none).1

      by : (first.number < second.number) ⊎ (second.number ≤ first.number) → paths ≡ others
      by (inl less) = first.all ∙ sym (joined first.number second.number (omega arith) first.last) ∙ sym second.all
      by (inr more) = first.all ∙ joined second.number first.number more second.last ∙ sym second.all

  past-later : (m n : ℕ) → m < n → 1024 < length (through (wave_of targets entry (suc m))) → 1024 < length (through (wave_of targets entry n))
  past-later m n less past =
      let e : (n - suc m) + suc m ≡ n = omega arith in
      let later = subst (λ (k : ℕ). length (through (wave_of targets entry (suc m))) ≤ length (through (wave_of targets entry k))) e (grows-on (n - suc m) (suc m)) in
      omega (arith, past, later)

  -- and so are those of all waves before one that would bring too many
  pub one-cut : (paths others : List (List ℕ)) → IsCut targets entry paths → IsCut targets entry others → paths ≡ others
  one-cut paths others first second = by (cases_lt first.number second.number) (cases_lt second.number first.number)
    where
      by : (first.number < second.number) ⊎ (second.number ≤ first.number) → (second.number < first.number) ⊎ (first.number ≤ second.number) → paths ≡ others
      by (inl less) other = absurd (omega (arith, past-later first.number second.number less first.past, ap length second.all, second.few))
      by (inr more) (inl less) = absurd (omega (arith, past-later second.number first.number less second.past, ap length first.all, first.few))
      by (inr more) (inr less) =
          let e : first.number ≡ second.number = omega arith in
          first.all ∙ ap (λ (k : ℕ). through (wave_of targets entry k)) e ∙ sym second.all

  abbrev Ends : Type 0
  Ends = ((paths : List (List ℕ)) × IsAll targets entry paths) ⊎ ((paths : List (List ℕ)) × IsCut targets entry paths)

  -- the waves go on to the end, where there may be so many paths more
  from : (more number : ℕ) → length (through (wave_of targets entry number)) ≤ 1024 → 1024 ≤ more + length (through (wave_of targets entry number)) → Ends
  from zero number few much = by (wave_of targets entry (suc number)).paths refl
    where
      by : (next : List (List ℕ)) → (wave_of targets entry (suc number)).paths ≡ next → Ends
      by [] is = inl (through (wave_of targets entry number), record { number = number; all = refl; last = is; few = few })
      by (path ∷ paths) is = inr (through (wave_of targets entry number), record { number = number; all = refl; few = few; past = omega (arith, much, grows number, ap length is) })
  from (suc more) number few much = by (wave_of targets entry (suc number)).paths refl (cases_lt 1024 (length (through (wave_of targets entry (suc number))))) (from more (suc number))
    where
      by : (next : List (List ℕ)) → (wave_of targets entry (suc number)).paths ≡ next → (1024 < length (through (wave_of targets entry (suc number)))) ⊎ (length (through (wave_of targets entry (suc number))) ≤ 1024)
          → (length (through (wave_of targets entry (suc number))) ≤ 1024 → 1024 ≤ more + length (through (wave_of targets entry (suc number))) → Ends) → Ends
      by [] is size on = inl (through (wave_of targets entry number), record { number = number; all = refl; last = is; few = few })
      by (path ∷ paths) is (inl past) on = inr (through (wave_of targets entry number), record { number = number; all = refl; few = few; past = past })
      by (path ∷ paths) is (inr fits) on = on fits (omega (arith, much, grows number, ap length is))

  -- the waves end, or one would bring too many
  pub some-end : Ends
  some-end = from 1024 0 (lit≤ tt) (lit≤ tt)
