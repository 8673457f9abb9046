-- Reads of one file after another.
use Rattle.std.proofs.Common.{◌≡◌, ℕ, ◌+◌, ◌<◌, List, [], ◌∷◌, ◌++◌, map, length, take, drop, get_or, append_assoc, append-nil, Option, Some, None, IfSome, Result, Ok, Err, subst, sym, ap, ◌∙◌, refl}
use Rattle.std.proofs.lemmas.List.{take_more, take-append-drop}
use Rattle.css_outside.specs.Names.{Names}
use Rattle.css_outside.specs.declared.files.FilesFault.{FilesFault}
use Rattle.css_outside.specs.declared.files.FilesFault.TheVariants.{Failed}
use Rattle.import_graph.specs.Asking.{Reads, EndsAt, EndsIn, asked_after}
use Rattle.import_graph.specs.Files.{file_told}
use Rattle.import_graph.specs.Growing.{Follows}
use Rattle.import_graph.specs.declared.fault.LoadFault.{LoadFault}
use Rattle.import_graph.specs.declared.fault.LoadFault.TheVariants.{ReadFault, Limit, Memory}
use Rattle.import_graph.specs.declared.found.Found.{Found}
use Rattle.import_graph.specs.declared.found.ReadFile.{ReadFile}

pub map-append : {A B : Type 0} (f : A → B) (xs ys : List A) → map f (xs ++ ys) ≡ map f xs ++ map f ys
map-append f [] ys = refl
map-append {A} {B} f (x ∷ xs) ys = ap (λ (l : List B). f x ∷ l) (map-append f xs ys)

-- the read of a path failed
pub failed : (told : Option Names) (path asked_path named : List ℕ) (asked now : List (List ℕ)) (read more : List ReadFile) (result : Result Found FilesFault) → IfSome told (λ files. now ≡ asked_after asked asked_path result) → result ≡ Err Failed → asked_path ≡ path → named ≡ path
    → IfSome told (λ files. Reads files (path ∷ []) asked now read more (Err (ReadFault named)))
failed None path asked_path named asked now read more result asks is same named_is = tt
failed (Some files) path asked_path named asked now read more result asks is same named_is = record {
  before = [];
  rest = [];
  asks = asks ∙ ap (λ (r : Result Found FilesFault). asked_after asked asked_path r) is ∙ ap (λ (p : List ℕ). asked ++ p ∷ []) (same ∙ sym named_is);
  front = ap (λ (p : List ℕ). p ∷ []) named_is;
}

-- one more file was read
pub read-more : (told now_told : Option Names) (xs : List (List ℕ)) (x : List ℕ) (asked mid now : List (List ℕ)) (read some more : List ReadFile) (done then : Unit {0}) → now_told ≡ told → IfSome told (λ files. Reads files xs asked mid read some (Ok done)) → IfSome now_told (λ files. Reads files (x ∷ []) mid now some more (Ok then))
    → IfSome told (λ files. Reads files (xs ++ x ∷ []) asked now read more (Ok tt))
read-more None now_told xs x asked mid now read some more done then same first second = tt
read-more (Some files) now_told xs x asked mid now read some more done then same first second =
    let next : IfSome (Some files) (λ files. Reads files (x ∷ []) mid now some more (Ok then)) = subst (λ (t : Option Names). IfSome t (λ files. Reads files (x ∷ []) mid now some more (Ok then))) same second in (
      next.0 ∙ ap (λ (l : List (List ℕ)). l ++ x ∷ []) first.0 ∙ append_assoc asked xs (x ∷ []),
      next.1 ∙ ap (λ (l : List ReadFile). l ++ file_told files x ∷ []) first.1 ∙ append_assoc read (map (file_told files) xs) (file_told files x ∷ []) ∙ ap (λ (l : List ReadFile). read ++ l) (sym (map-append (file_told files) xs (x ∷ []))),
    )

-- the last of the reads was refused
read-last : (told now_told : Option Names) (xs ys : List (List ℕ)) (x : List ℕ) (asked mid now : List (List ℕ)) (read some more : List ReadFile) (done : Unit {0}) (fault : LoadFault) → now_told ≡ told → IfSome told (λ files. Reads files xs asked mid read some (Ok done)) → IfSome now_told (λ files. Reads files (x ∷ []) mid now some more (Err fault))
    → IfSome told (λ files. Reads files (xs ++ x ∷ ys) asked now read more (Err fault))
read-last None now_told xs ys x asked mid now read some more done fault same first second = tt
read-last (Some files) now_told xs ys x asked mid now read some more done (ReadFault path) same first second =
    let last : EndsAt path mid (x ∷ []) now = subst (λ (t : Option Names). IfSome t (λ files. Reads files (x ∷ []) mid now some more (Err (ReadFault path)))) same second in
    record {
      before = xs ++ last.before;
      rest = last.rest ++ ys;
      asks = last.asks ∙ ap (λ (l : List (List ℕ)). l ++ (last.before ++ path ∷ [])) first.0 ∙ append_assoc asked xs (last.before ++ path ∷ []) ∙ ap (λ (l : List (List ℕ)). asked ++ l) (sym (append_assoc xs last.before (path ∷ [])));
      front = ap (λ (l : List (List ℕ)). l ++ (last.rest ++ ys)) (append_assoc xs last.before (path ∷ [])) ∙ joined xs (last.before ++ path ∷ []) last.rest ys (x ∷ []) last.front;
    }
  where
    joined : (a b c d e : List (List ℕ)) → b ++ c ≡ e → (a ++ b) ++ (c ++ d) ≡ a ++ (e ++ d)
    joined a b c d e is = append_assoc a b (c ++ d) ∙ ap (λ (l : List (List ℕ)). a ++ l) (sym (append_assoc b c d) ∙ ap (λ (l : List (List ℕ)). l ++ d) is)
read-last (Some files) now_told xs ys x asked mid now read some more done Limit same first second =
    absurd (subst (λ (t : Option Names). IfSome t (λ files. Reads files (x ∷ []) mid now some more (Err Limit))) same second)
read-last (Some files) now_told xs ys x asked mid now read some more done Memory same first second =
    let last : EndsIn mid (x ∷ []) now = subst (λ (t : Option Names). IfSome t (λ files. Reads files (x ∷ []) mid now some more (Err Memory))) same second in
    record {
      before = xs ++ last.before;
      rest = last.rest ++ ys;
      asks = last.asks ∙ ap (λ (l : List (List ℕ)). l ++ last.before) first.0 ∙ append_assoc asked xs last.before;
      front = joined xs last.before last.rest ys (x ∷ []) last.front;
    }
  where
    joined : (a b c d e : List (List ℕ)) → b ++ c ≡ e → (a ++ b) ++ (c ++ d) ≡ a ++ (e ++ d)
    joined a b c d e is = append_assoc a b (c ++ d) ∙ ap (λ (l : List (List ℕ)). a ++ l) (sym (append_assoc b c d) ∙ ap (λ (l : List (List ℕ)). l ++ d) is)

-- a list is what stands before a place, there and behind it
parted : (xs : List (List ℕ)) (i : ℕ) (x : List ℕ) → i < length xs → x ≡ get_or xs i x → take i xs ++ x ∷ drop (i + 1) xs ≡ xs
parted xs i x within is =
    ap (λ (y : List ℕ). take i xs ++ y ∷ drop (i + 1) xs) is
    ∙ sym (append_assoc (take i xs) (get_or xs i x ∷ []) (drop (i + 1) xs))
    ∙ ap (λ (l : List (List ℕ)). l ++ drop (i + 1) xs) (sym (take_more xs i x within))
    ∙ take-append-drop (i + 1) xs

-- the read at a place of these paths was refused
pub read-last-at : (told now_told : Option Names) (paths : List (List ℕ)) (i : ℕ) (x : List ℕ) (asked mid now : List (List ℕ)) (read some more : List ReadFile) (fault : LoadFault) → i < length paths → x ≡ get_or paths i x → now_told ≡ told
    → IfSome told (λ files. Reads files (take i paths) asked mid read some (Ok tt)) → IfSome now_told (λ files. Reads files (x ∷ []) mid now some more (Err fault)) → IfSome told (λ files. Reads files paths asked now read more (Err fault))
read-last-at told now_told paths i x asked mid now read some more fault within is same first second =
    subst (λ (l : List (List ℕ)). IfSome told (λ files. Reads files l asked now read more (Err fault))) (parted paths i x within is) (read-last told now_told (take i paths) (drop (i + 1) paths) x asked mid now read some more tt fault same first second)

-- the files of the first paths are followed by that of the next
pub follows-more : (paths : List (List ℕ)) (i : ℕ) (x : List ℕ) (before mid now : List ReadFile) → i < length paths → x ≡ get_or paths i x → Follows (take i paths) before mid → Follows (x ∷ []) mid now → Follows (take (i + 1) paths) before now
follows-more paths i x before mid now within is first second = record {
  more = first.more ++ second.more;
  added = second.added ∙ ap (λ (l : List ReadFile). l ++ second.more) first.added ∙ append_assoc before first.more second.more;
  same = map-append (λ file. file.path) first.more second.more
      ∙ (λ i. first.same i ++ second.same i)
      ∙ ap (λ (y : List ℕ). take i paths ++ y ∷ []) is
      ∙ sym (take_more paths i x within);
}

-- memory was refused after these files were read
pub refused-later : (told : Option Names) (read_paths paths asked now : List (List ℕ)) (read more : List ReadFile) (done : Unit {0}) (last : List ReadFile) (result : Result (Unit {0}) LoadFault) → read_paths ≡ paths → result ≡ Err Memory → IfSome told (λ files. Reads files read_paths asked now read more (Ok done))
    → IfSome told (λ files. Reads files paths asked now read last result)
refused-later None read_paths paths asked now read more done last result same is reads = tt
refused-later (Some files) read_paths paths asked now read more done last result same is reads =
    subst (λ (r : Result (Unit {0}) LoadFault). Reads files paths asked now read last r) (sym is) (record { before = paths; rest = []; asks = reads.0 ∙ ap (λ (l : List (List ℕ)). asked ++ l) same; front = append-nil paths })
