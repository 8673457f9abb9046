-- One more file that may stand on the chain of visits that are open changes nothing.
use Rattle.std.proofs.Common.{◌≡◌, ℕ, zero, suc, ◌+◌, ◌<◌, ◌≤◌, Bool, true, false, ◌||◌, List, [], ◌∷◌, ◌++◌, length, Option, Some, None, subst, sym, ap, ◌∙◌, refl, arith, nat_eq, true≢false, if◌then◌else◌, All, slice_get, get_or, ◌⊎◌, inl, inr, rules}
use Rattle.std.specs.List.{list_any}
use Rattle.std.proofs.lemmas.Bool.Decides.{nat_tests}
use Rattle.std.proofs.lemmas.List.Elements.{All-nil, All-get_or}
use Rattle.std.proofs.lemmas.Option.{slice_get-get_or, slice_get_cases}
use Rattle.sheet_types.specs.declared.sheet.GroupCondition.{GroupCondition}
use Rattle.sheet_types.specs.declared.sheet.Import.{Import}
use Rattle.graph_types.specs.Unfolding.{import_conditions, imports_in, instance, target_visits, targets_in, visits}
use Rattle.graph_types.specs.Whole.{IsLinked, IsWhole}
use Rattle.graph_types.specs.declared.graph.Graph.{Graph}
use Rattle.graph_types.specs.declared.graph.Instance.{Instance}
use Rattle.graph_types.specs.declared.graph.InstancePart.TheVariants.{Head, Body}
use Rattle.graph_types.specs.declared.graph.SourceFile.{SourceFile}

-- P holds of the first and of the others
pub all_head : {A : Type 0} (P : A → Type 0) (x : A) (xs : List A) → All P (x ∷ xs) → P x
all_head P x xs all = All-get_or P (x ∷ xs) 0 x (omega arith) all

pub all_tail : {A : Type 0} (P : A → Type 0) (x : A) (xs : List A) → All P (x ∷ xs) → All P xs
all_tail P x xs all = λ k d within. all (suc k) d (omega arith)

-- how many of the first files are not on the chain
abbrev left : ℕ → List ℕ → ℕ
left zero chain = 0
left (suc file) chain = (if list_any (nat_eq file) chain then 0 else 1) + left file chain

one_or_none : (b : Bool) → (if b then 0 else 1) ≤ 1
one_or_none true = omega arith
one_or_none false = omega arith

left_few : (files : ℕ) (chain : List ℕ) → left files chain ≤ files
left_few zero chain = omega arith
left_few (suc file) chain = omega (arith, one_or_none (list_any (nat_eq file) chain), left_few file chain)

fewer : (b c : Bool) → (if (c || b) then 0 else 1) ≤ (if b then 0 else 1)
fewer true true = omega arith
fewer true false = omega arith
fewer false true = omega arith
fewer false false = omega arith

left_no_more : (files : ℕ) (chain : List ℕ) (file : ℕ) → left files (file ∷ chain) ≤ left files chain
left_no_more zero chain file = omega arith
left_no_more (suc last) chain file = omega (arith, fewer (list_any (nat_eq last) chain) (nat_eq last file), left_no_more last chain file)

same_true : (file : ℕ) → nat_eq file file ≡ true
same_true file = grind (arith, nat_tests)

same_if : (file other : ℕ) → nat_eq file other ≡ true → file ≡ other
same_if file other h = grind (arith, nat_tests)

other_less : (file last : ℕ) → nat_eq last file ≡ false → file < suc last → file < last
other_less file last h within = grind (arith, nat_tests)

taken : (c b : Bool) → c ≡ true → b ≡ false → (if (c || b) then 0 else 1) + 1 ≡ (if b then 0 else 1)
taken true false h i = refl
taken true true h i = absurd (true≢false i)
taken false b h i = absurd (true≢false (sym h))

-- a file that comes onto the chain is one of those that were left
left_less : (files : ℕ) (chain : List ℕ) (file : ℕ) → file < files → list_any (nat_eq file) chain ≡ false → left files (file ∷ chain) < left files chain
left_less zero chain file within free = absurd (omega arith)
left_less (suc last) chain file within free = by (nat_eq last file) refl (λ inside. left_less last chain file inside free)
  where
    by : (b : Bool) → nat_eq last file ≡ b → (file < last → left last (file ∷ chain) < left last chain) → left (suc last) (file ∷ chain) < left (suc last) chain
    by true same inner =
        let is : last ≡ file = same_if last file same in
        omega (arith, taken (nat_eq last file) (list_any (nat_eq last) chain) same (ap (λ (n : ℕ). list_any (nat_eq n) chain) is ∙ free), left_no_more last chain file)
    by false other inner = omega (arith, fewer (list_any (nat_eq last) chain) (nat_eq last file), inner (other_less file last other within))

none_left : (b : Bool) → (if b then 0 else 1) ≤ 0 → b ≡ true
none_left true h = refl
none_left false h = absurd (omega arith)

-- where none is left, each is on the chain
all_on : (files : ℕ) (chain : List ℕ) (file : ℕ) → left files chain ≤ 0 → file < files → list_any (nat_eq file) chain ≡ true
all_on zero chain file none within = absurd (omega arith)
all_on (suc last) chain file none within = by (nat_eq last file) refl (λ inside. all_on last chain file (omega arith) inside)
  where
    by : (b : Bool) → nat_eq last file ≡ b → (file < last → list_any (nat_eq file) chain ≡ true) → list_any (nat_eq file) chain ≡ true
    by true same inner = ap (λ (n : ℕ). list_any (nat_eq n) chain) (sym (same_if last file same)) ∙ none_left (list_any (nat_eq last) chain) (omega arith)
    by false other inner = inner (other_less file last other within)

-- visits that give the same at each target
same_visits : (files : ℕ) (one other : List GroupCondition → ℕ → List Instance) → ((around : List GroupCondition) (file : ℕ) → file < files → one around file ≡ other around file)
    → (around : List GroupCondition) (imports : List Import) (targets : List ℕ) → All (λ target. target < files) targets → target_visits one around imports targets ≡ target_visits other around imports targets
same_visits files one other same around [] targets within = refl
same_visits files one other same around (import ∷ imports) [] within = refl
same_visits files one other same around (import ∷ imports) (target ∷ targets) within =
    (λ i. same (around ++ import_conditions import) target (all_head (λ t. t < files) target targets within) i ++ same_visits files one other same around imports targets (all_tail (λ t. t < files) target targets within) i)

-- the targets of each file are files
pub targets_within : (graph : Graph) → IsWhole graph → (file : ℕ) → All (λ target. target < length graph.files) (targets_in (slice_get graph.files file))
targets_within graph whole file = by ((slice_get_cases graph.files file).1)
  where
    by : ((x : SourceFile) × (file < length graph.files) × (slice_get graph.files file ≡ Some x) × (get_or graph.files file x ≡ x)) ⊎ ((length graph.files ≤ file) × (slice_get graph.files file ≡ None)) → All (λ target. target < length graph.files) (targets_in (slice_get graph.files file))
    by (inl found) = subst (λ (o : Option SourceFile). All (λ target. target < length graph.files) (targets_in o)) (sym found.2) (subst (IsLinked (length graph.files)) found.3 (All-get_or (IsLinked (length graph.files)) graph.files file found.0 found.1 whole.linked)).within
    by (inr missing) = subst (λ (o : Option SourceFile). All (λ target. target < length graph.files) (targets_in o)) (sym missing.1) (All-nil (λ target. target < length graph.files))

-- what a visit gives from what the visits of its targets give, where it is told whether the file is on the chain
abbrev visit_by : Graph → Bool → List GroupCondition → ℕ → (List GroupCondition → ℕ → List Instance) → List Instance
visit_by graph on around file inner =
    if on then [] else instance Head around file ∷ target_visits inner around (imports_in (slice_get graph.files file)) (targets_in (slice_get graph.files file)) ++ instance Body around file ∷ []

module _ (graph : Graph) (whole : IsWhole graph) where
  enough : (more : ℕ) (chain : List ℕ) → left (length graph.files) chain ≤ more → (around : List GroupCondition) (file : ℕ) → file < length graph.files → visits (suc more) graph chain around file ≡ visits more graph chain around file
  enough zero chain few around file within = ap (λ (b : Bool). visit_by graph b around file (visits zero graph (file ∷ chain))) (all_on (length graph.files) chain file few within)
  enough (suc more) chain few around file within = by (list_any (nat_eq file) chain) refl (λ h. enough more (file ∷ chain) h)
    where
      by : (b : Bool) → list_any (nat_eq file) chain ≡ b → (left (length graph.files) (file ∷ chain) ≤ more → (around : List GroupCondition) (file' : ℕ) → file' < length graph.files → visits (suc more) graph (file ∷ chain) around file' ≡ visits more graph (file ∷ chain) around file')
          → visits (suc (suc more)) graph chain around file ≡ visits (suc more) graph chain around file
      by true on inner = ap (λ (b : Bool). visit_by graph b around file (visits (suc more) graph (file ∷ chain))) on ∙ sym (ap (λ (b : Bool). visit_by graph b around file (visits more graph (file ∷ chain))) on)
      by false free inner =
          ap (λ (l : List Instance). if list_any (nat_eq file) chain then [] else instance Head around file ∷ l ++ instance Body around file ∷ [])
          (same_visits (length graph.files) (visits (suc more) graph (file ∷ chain)) (visits more graph (file ∷ chain)) (inner (omega (arith, few, left_less (length graph.files) chain file within free))) around (imports_in (slice_get graph.files file)) (targets_in (slice_get graph.files file)) (targets_within graph whole file))

  pub one_more_file : (chain : List ℕ) (around : List GroupCondition) (file : ℕ) → file < length graph.files → visits (suc (length graph.files)) graph chain around file ≡ visits (length graph.files) graph chain around file
  one_more_file chain around file within = enough (length graph.files) chain (left_few (length graph.files) chain) around file within
