-- The waves, as files are read.
use Rattle.std.proofs.Common.{◌≡◌, ℕ, zero, suc, ◌<◌, ◌≤◌, List, [], ◌∷◌, ◌++◌, map, length, drop, flat_map, append_assoc, append-nil, length-append, Option, Some, None, IfSome, Result, Ok, Err, subst, sym, ap, ◌∙◌, refl, arith, lit≤}
use Rattle.std.specs.Option.{unwrap_or}
use Rattle.std.proofs.Math.Seq.{drop-append_seam}
use Rattle.css_outside.specs.Names.{Names}
use Rattle.import_graph.specs.Asking.{Reads, EndsAt, EndsIn, Asks}
use Rattle.import_graph.specs.Files.{Naming, Agrees, IsReached, file_told, names_of, paths_of, targets_told}
use Rattle.import_graph.specs.Growing.{Grows}
use Rattle.import_graph.specs.Places.{named_in}
use Rattle.import_graph.specs.Waves.{Targets, Wave, wave_of, after, through, named_by, new_among, IsAll, IsCut, IsFront}
use Rattle.import_graph.specs.declared.fault.LoadFault.{LoadFault}
use Rattle.import_graph.specs.declared.fault.LoadFault.TheVariants.{ReadFault, Limit, Memory}
use Rattle.import_graph.specs.declared.found.ReadFile.{ReadFile}
use Rattle.import_graph.specs.declared.gathering.Gathered.{Gathered}
use Rattle.import_graph.specs.declared.gathering.Reading.{Reading}
use Rattle.import_graph.proofs.ReadingOn.{map-append}

-- the paths that are known and whose files were not read
abbrev pub ahead : Reading → List (List ℕ)
ahead reading = drop (length reading.files) reading.known.keys

-- the files that were read are those of the first paths that are known
abbrev pub IsInOrder : Reading → Type 0
IsInOrder reading = paths_of reading.files ++ ahead reading ≡ reading.known.keys

-- these are the paths of a wave, and of all waves before it
pub record IsWave (targets : Targets) (entry : List ℕ) (before paths : List (List ℕ)) : Type 0 where
  pub number : ℕ
  pub is : wave_of targets entry number ≡ record { before = before; paths = paths }

-- the files that were read are those of the first waves, and the paths ahead are the next wave, whatever is told of them
abbrev pub IsReading : Naming → List ℕ → Reading → Type 0
IsReading naming entry reading = (targets : Targets) → Agrees naming targets reading.files → IsWave targets entry (paths_of reading.files) (ahead reading)

-- what was asked so far, and what was found, are those of the files that were read
pub record IsSoFar (told : Names) (asked now : List (List ℕ)) (files : List ReadFile) : Type 0 where
  pub asks : now ≡ asked ++ paths_of files
  pub same : files ≡ map (file_told told) (paths_of files)

length-map : {A B : Type 0} (f : A → B) (xs : List A) → length (map f xs) ≡ length xs
length-map f [] = refl
length-map f (x ∷ xs) = ap suc (length-map f xs)

pub count-paths : (files : List ReadFile) → length (paths_of files) ≡ length files
count-paths files = length-map (λ file. file.path) files

-- no more files were read than paths are known
pub begun : (reading : Reading) → IsInOrder reading → length reading.files ≤ length reading.known.keys
begun reading ordered =
    let count : length (paths_of reading.files ++ ahead reading) ≡ length reading.known.keys = ap length ordered in
    omega (arith, count, length-append (paths_of reading.files) (ahead reading), count-paths reading.files)

drop-none : (n : ℕ) (xs : List (List ℕ)) → length xs ≤ n → drop n xs ≡ []
drop-none zero [] h = refl
drop-none (suc n) [] h = refl
drop-none zero (x ∷ xs) h = absurd (omega arith)
drop-none (suc n) (x ∷ xs) h = drop-none n xs (omega arith)

none-ahead : (reading : Reading) → length reading.known.keys ≤ length reading.files → ahead reading ≡ []
none-ahead reading ended = drop-none (length reading.files) reading.known.keys ended

-- in the end the paths are all that are known
pub all-read : (reading : Reading) → IsInOrder reading → length reading.known.keys ≤ length reading.files → paths_of reading.files ≡ reading.known.keys
all-read reading ordered ended = sym (append-nil (paths_of reading.files)) ∙ ap (λ (l : List (List ℕ)). paths_of reading.files ++ l) (sym (none-ahead reading ended)) ∙ ordered

module _ (naming : Naming) where
  agrees-front : (targets : Targets) (xs ys : List ReadFile) → Agrees naming targets (xs ++ ys) → Agrees naming targets xs
  agrees-front targets [] ys all = tt
  agrees-front targets (x ∷ xs) ys all = (all.0, agrees-front targets xs ys all.1)

  agrees-back : (targets : Targets) (xs ys : List ReadFile) → Agrees naming targets (xs ++ ys) → Agrees naming targets ys
  agrees-back targets [] ys all = all
  agrees-back targets (x ∷ xs) ys all = agrees-back targets xs ys all.1

  -- the files name what is told of their paths
  named-alike : (targets : Targets) (files : List ReadFile) → Agrees naming targets files → flat_map (named_by targets) (paths_of files) ≡ named_in (map (names_of naming) files)
  named-alike targets [] all = refl
  named-alike targets (file ∷ files) all = λ i. unwrap_or (all.0 i) [] ++ named-alike targets files all.1 i

  -- where files are told, what they name is told with them
  pub agrees-told : (told : Names) (files : List ReadFile) → files ≡ map (file_told told) (paths_of files) → Agrees naming (targets_told naming told) files
  agrees-told told [] same = tt
  agrees-told told (file ∷ files) same =
      let here : file ≡ file_told told file.path = cc same in
      let rest : files ≡ map (file_told told) (paths_of files) = cc same in
      (ap (names_of naming) (sym here), agrees-told told files rest)

  -- the first wave
  pub reading-start : (entry : List ℕ) (reading : Reading) → reading.known.keys ≡ entry ∷ [] → reading.files ≡ [] → IsReading naming entry reading
  reading-start entry reading known none = λ targets agrees.
      let here : wave_of targets entry 0 ≡ record { before = []; paths = entry ∷ [] } = refl in
      record {
        number = 0;
        is = here ∙ (λ i. record { before = paths_of (sym none i); paths = drop (length (sym none i)) (sym known i) });
      }

  module _ (before now : Reading) (ordered : IsInOrder before) (grows : Grows naming before now) where
    abbrev new : List (List ℕ)
    new = new_among before.known.keys (named_in (map (names_of naming) grows.more))

    grown-paths : paths_of now.files ≡ before.known.keys
    grown-paths =
        ap paths_of grows.added ∙ map-append (λ file. file.path) before.files grows.more ∙ ap (λ (l : List (List ℕ)). paths_of before.files ++ l) grows.same ∙ ordered

    grown-length : length now.files ≡ length before.known.keys
    grown-length = sym (count-paths now.files) ∙ ap length grown-paths

    grown-ahead : ahead now ≡ new
    grown-ahead = ap (λ (n : ℕ). drop n now.known.keys) grown-length ∙ ap (drop (length before.known.keys)) grows.learnt ∙ drop-append_seam before.known.keys new

    pub grown-order : IsInOrder now
    grown-order = (λ i. grown-paths i ++ grown-ahead i) ∙ sym grows.learnt

    -- so many files were read
    pub grown-count : length now.files ≡ length before.known.keys
    grown-count = grown-length

    -- the next wave
    pub reading-step : (entry : List ℕ) → IsReading naming entry before → IsReading naming entry now
    reading-step entry reading = λ targets agrees.
        let all : Agrees naming targets (before.files ++ grows.more) = subst (Agrees naming targets) grows.added agrees in
        let wave = reading targets (agrees-front targets before.files grows.more all) in
        let named : flat_map (named_by targets) (ahead before) ≡ named_in (map (names_of naming) grows.more) =
        ap (flat_map (named_by targets)) (sym grows.same) ∙ named-alike targets grows.more (agrees-back targets before.files grows.more all) in
        let next : wave_of targets entry (suc wave.number) ≡ record { before = before.known.keys; paths = new } =
        ap (after targets) wave.is ∙ (λ i. record { before = ordered i; paths = new_among (ordered i) (named i) }) in
        record { number = suc wave.number; is = next ∙ (λ i. record { before = sym grown-paths i; paths = sym grown-ahead i }) }

    -- what was asked and found, with the next wave
    pub so-far-step : (told now_told : Option Names) (asked mid now_asked : List (List ℕ)) → now_told ≡ told → IfSome told (λ names. IsSoFar names asked mid before.files) → IfSome now_told (λ names. Reads names (ahead before) mid now_asked before.files now.files (Ok tt))
        → IfSome told (λ names. IsSoFar names asked now_asked now.files)
    so-far-step None now_told asked mid now_asked same so_far reads = tt
    so-far-step (Some names) now_told asked mid now_asked same so_far reads =
        let next : IfSome (Some names) (λ names. Reads names (ahead before) mid now_asked before.files now.files (Ok tt)) = subst (λ (t : Option Names). IfSome t (λ names. Reads names (ahead before) mid now_asked before.files now.files (Ok tt))) same reads in
        record {
          asks = next.0 ∙ ap (λ (l : List (List ℕ)). l ++ ahead before) so_far.asks ∙ append_assoc asked (paths_of before.files) (ahead before) ∙ ap (λ (l : List (List ℕ)). asked ++ l) (ordered ∙ sym grown-paths);
          same = next.1
              ∙ ap (λ (l : List ReadFile). l ++ map (file_told names) (ahead before)) so_far.same
              ∙ sym (map-append (file_told names) (paths_of before.files) (ahead before))
              ∙ ap (map (file_told names)) (ordered ∙ sym grown-paths);
        }

  module _ (entry : List ℕ) (reading : Reading) (ordered : IsInOrder reading) (few : length reading.files ≤ 1024) (waves : IsReading naming entry reading) where
    -- all files were read
    pub reached : length reading.known.keys ≤ length reading.files → IsReached naming entry reading.files
    reached ended = λ targets agrees.
        let wave = waves targets agrees in by targets wave.number (wave.is ∙ (λ i. record { before = paths_of reading.files; paths = none-ahead reading ended i }))
      where
        by : (targets : Targets) (number : ℕ) → wave_of targets entry number ≡ record { before = paths_of reading.files; paths = [] } → IsAll targets entry (paths_of reading.files)
        by targets zero is = absurd (cc (ap (λ (w : Wave). w.paths) is))
        by targets (suc number) is = record {
          number = number;
          all = sym (ap (λ (w : Wave). w.before) is);
          last = ap (λ (w : Wave). w.paths) is;
          few = omega (arith, few, count-paths reading.files);
        }

    -- the next wave would bring too many
    cut : (targets : Targets) → 1024 < length reading.known.keys → Agrees naming targets reading.files → IsCut targets entry (paths_of reading.files)
    cut targets many agrees = let wave = waves targets agrees in by wave.number wave.is
      where
        by : (number : ℕ) → wave_of targets entry number ≡ record { before = paths_of reading.files; paths = ahead reading } → IsCut targets entry (paths_of reading.files)
        by zero is =
            let whole : 1 ≡ length reading.known.keys = ap (λ (w : Wave). length (through w)) is ∙ ap length ordered in
            absurd (omega (arith, whole, many))
        by (suc number) is =
            let whole : length (through (wave_of targets entry (suc number))) ≡ length reading.known.keys = ap (λ (w : Wave). length (through w)) is ∙ ap length ordered in
            record {
              number = number;
              all = sym (ap (λ (w : Wave). w.before) is);
              few = omega (arith, few, count-paths reading.files);
              past = omega (arith, whole, many);
            }

    -- the reads ended in the next wave
    front : (targets : Targets) (before rest : List (List ℕ)) → length reading.known.keys ≤ 1024 → Agrees naming targets reading.files → before ++ rest ≡ ahead reading → IsFront targets entry (paths_of reading.files ++ before)
    front targets before rest short agrees ends =
        let wave = waves targets agrees in
        let joined : (paths_of reading.files ++ before) ++ rest ≡ paths_of reading.files ++ ahead reading = append_assoc (paths_of reading.files) before rest ∙ ap (λ (l : List (List ℕ)). paths_of reading.files ++ l) ends in
        let count : length ((paths_of reading.files ++ before) ++ rest) ≡ length reading.known.keys = ap length (joined ∙ ordered) in
        record {
          number = wave.number;
          rest = rest;
          all = joined ∙ sym (ap through wave.is);
          few = omega (arith, count, short);
        }

    module _ {A : Type 0} (files_of : A → List ReadFile) (told : Option Names) (asked mid : List (List ℕ)) (so_far : IfSome told (λ names. IsSoFar names asked mid reading.files)) where
      abbrev IsAsked : Option Names → List (List ℕ) → Result A LoadFault → Type 0
      IsAsked told now result = IfSome told (λ names. Asks files_of naming names entry asked now result)

      -- what was asked, where all files were read
      pub asks-all : (answer : A) → files_of answer ≡ reading.files → length reading.known.keys ≤ length reading.files → IsAsked told mid (Ok answer)
      asks-all answer is ended = by told so_far
        where
          by : (told : Option Names) → IfSome told (λ names. IsSoFar names asked mid reading.files) → IsAsked told mid (Ok answer)
          by None so_far = tt
          by (Some names) so_far =
              subst (λ (files : List ReadFile). (mid ≡ asked ++ paths_of files) × (files ≡ map (file_told names) (paths_of files)) × IsAll (targets_told naming names) entry (paths_of files)) (sym is)
              (so_far.asks, so_far.same, reached ended (targets_told naming names) (agrees-told names reading.files so_far.same))

      -- where the next wave would bring too many
      pub asks-cut : 1024 < length reading.known.keys → IsAsked told mid (Err Limit)
      asks-cut many = by told so_far
        where
          by : (told : Option Names) → IfSome told (λ names. IsSoFar names asked mid reading.files) → IsAsked told mid (Err Limit)
          by None so_far = tt
          by (Some names) so_far = (paths_of reading.files, so_far.asks, cut (targets_told naming names) many (agrees-told names reading.files so_far.same))

      -- where a read was refused
      pub asks-front : (now_told : Option Names) (now : List (List ℕ)) (more : List ReadFile) (fault : LoadFault) → now_told ≡ told → length reading.known.keys ≤ 1024 → IfSome now_told (λ names. Reads names (ahead reading) mid now reading.files more (Err fault)) → IsAsked told now (Err fault)
      asks-front now_told now more fault same short reads = by told fault so_far (subst (λ (t : Option Names). IfSome t (λ names. Reads names (ahead reading) mid now reading.files more (Err fault))) same reads)
        where
          by : (told : Option Names) (fault : LoadFault) → IfSome told (λ names. IsSoFar names asked mid reading.files) → IfSome told (λ names. Reads names (ahead reading) mid now reading.files more (Err fault)) → IsAsked told now (Err fault)
          by None fault so_far reads = tt
          by (Some names) (ReadFault path) so_far reads =
              let last : EndsAt path mid (ahead reading) now = reads in
              let files = paths_of reading.files in
              let joined : (files ++ last.before) ++ path ∷ [] ≡ files ++ (last.before ++ path ∷ []) = append_assoc files last.before (path ∷ []) in (
                files ++ last.before,
                last.asks ∙ ap (λ (l : List (List ℕ)). l ++ (last.before ++ path ∷ [])) so_far.asks ∙ append_assoc asked files (last.before ++ path ∷ []) ∙ ap (λ (l : List (List ℕ)). asked ++ l) (sym joined),
                subst (IsFront (targets_told naming names) entry) (sym joined) (front (targets_told naming names) (last.before ++ path ∷ []) last.rest short (agrees-told names reading.files so_far.same) last.front),
              )
          by (Some names) Limit so_far reads = absurd reads
          by (Some names) Memory so_far reads =
              let last : EndsIn mid (ahead reading) now = reads in (
                paths_of reading.files ++ last.before,
                last.asks ∙ ap (λ (l : List (List ℕ)). l ++ last.before) so_far.asks ∙ append_assoc asked (paths_of reading.files) last.before,
                front (targets_told naming names) last.before last.rest short (agrees-told names reading.files so_far.same) last.front,
              )

-- nothing was asked
pub asks-none : {A : Type 0} (files_of : A → List ReadFile) (naming : Naming) (told : Option Names) (entry : List ℕ) (asked now : List (List ℕ)) → now ≡ asked → IfSome told (λ names. Asks files_of naming names entry asked now (Err Memory))
asks-none files_of naming None entry asked now same = tt
asks-none files_of naming (Some names) entry asked now same = ([], same ∙ sym (append-nil asked), record { number = 0; rest = entry ∷ []; all = refl; few = lit≤ tt })

-- what stands wherever all that is told agrees with the files stands for what is told with them
pub order-told : (naming : Naming) (told : Option Names) (entry : List ℕ) (asked now : List (List ℕ)) (gathered : Gathered) (P : Targets → Type 0) → IfSome told (λ names. Asks (λ (g : Gathered). g.files) naming names entry asked now (Ok gathered)) → ((targets : Targets) → Agrees naming targets gathered.files → P targets)
    → IfSome told (λ names. P (targets_told naming names))
order-told naming None entry asked now gathered P asks all = tt
order-told naming (Some names) entry asked now gathered P asks all = all (targets_told naming names) (agrees-told naming names gathered.files asks.1)
