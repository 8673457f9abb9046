-- What the first bytes of a file say of it.
use Rattle.std.proofs.Common.{◌≡◌, ℕ, ◌+◌, ◌<◌, ◌≤◌, List, length, take, Option, Some, None, IfSome, sym, ap, arith, length-take, take_all, ◌∙◌, refl, nat_lt, true, false, Bool, if◌then◌else◌}
use Rattle.std.specs.Option.{option_map}
use Rattle.std.proofs.lemmas.Bool.Decides.{nat_tests}
use Rattle.css_outside.specs.Names.{Names}
use Rattle.css_outside.specs.Reading.{first_bytes}
use Rattle.import_graph.specs.Files.{found_as}
use Rattle.import_graph.specs.declared.found.Found.{Found}
use Rattle.import_graph.specs.declared.found.Found.TheVariants.{Whole, Long, Missing}

lt-true : (m n : ℕ) → m < n → nat_lt m n ≡ true
lt-true m n h = grind (arith, nat_tests)

lt-false : (m n : ℕ) → n ≤ m → nat_lt m n ≡ false
lt-false m n h = grind (arith, nat_tests)

-- nothing is found only where no file is there
pub missing : (most : ℕ) (file : Option (List ℕ)) → None ≡ option_map (take most) file → Missing ≡ found_as file
missing most None e = refl
missing most (Some text) e = absurd (cc e)

-- the file is longer where more bytes are found than it may have
pub long : (most : ℕ) (bytes : List ℕ) (file : Option (List ℕ)) → Some bytes ≡ option_map (take most) file → 4194304 < length bytes → Long ≡ found_as file
long most bytes None e more = absurd (cc e)
long most bytes (Some text) e more =
    let same : bytes ≡ take most text = cc e in
    let count : length bytes ≡ length (take most text) = ap length same in
    let h : 4194304 < length text = omega (arith, count, length-take most text) in
    sym (ap (λ (b : Bool). if b then Long else Whole text) (lt-true 4194304 (length text) h))

-- the file is what is found where no more bytes are found than it may have
pub whole : (most : ℕ) (bytes : List ℕ) (file : Option (List ℕ)) → Some bytes ≡ option_map (take (most + 1)) file → length bytes ≤ most → most ≡ 4194304 → Whole bytes ≡ found_as file
whole most bytes None e few is = absurd (cc e)
whole most bytes (Some text) e few is =
    let same : bytes ≡ take (most + 1) text = cc e in
    let count : length bytes ≡ length (take (most + 1) text) = ap length same in
    let h : length text ≤ most = omega (arith, count, length-take (most + 1) text) in
    let all : length text ≤ most + 1 = omega arith in
    let short : length text ≤ 4194304 = omega arith in
    ap Whole (same ∙ take_all (most + 1) text all) ∙ sym (ap (λ (b : Bool). if b then Long else Whole text) (lt-false 4194304 (length text) short))

-- what a read says of the file where files are told
pub read-as : (told : Option Names) (path : List ℕ) (front : Option (List ℕ)) (result : Found) → IfSome told (λ files. front ≡ first_bytes files path 4194305)
    → ((file : Option (List ℕ)) → front ≡ option_map (take 4194305) file → result ≡ found_as file) → IfSome told (λ files. result ≡ found_as (files path))
read-as None path front result read sorts = tt
read-as (Some files) path front result read sorts = sorts (files path) read
