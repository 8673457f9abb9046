-- What a read says of a file.
use Rattle.std.proofs.Common.{◌≡◌, ℕ, ◌+◌, ◌<◌, ◌≤◌, List, length, take, Option, Some, None, IfSome, sym, ap, arith, length-take, take_all, ◌∙◌, refl}
use Rattle.std.specs.Option.{option_map}
use Rattle.css_outside.specs.Names.{Names}
use Rattle.css_outside.specs.Reading.{first_bytes}
use Rattle.csslower.specs.Private.Loading.{IsLoaded}
use Rattle.csslower.specs.declared.load.Load.{Load}
use Rattle.csslower.specs.Answers.{IsLong}

-- nothing is found only where no file is there
pub missing : (most : ℕ) (file : Option (List ℕ)) → None ≡ option_map (take most) file → file ≡ None
missing most None e = refl
missing most (Some text) e = absurd (cc e)

-- the file is longer where more bytes are found than it may have
pub long : (most : ℕ) (bytes : List ℕ) (file : Option (List ℕ)) → Some bytes ≡ option_map (take most) file → 4194304 < length bytes → IsLong file
long most bytes None e more = absurd (cc e)
long most bytes (Some text) e more =
    let same : bytes ≡ take most text = cc e in
    let count : length bytes ≡ length (take most text) = ap length same in
    omega (arith, count, length-take most text)

-- the file is what is found where no more bytes are found than it may have
pub whole : (most : ℕ) (bytes : List ℕ) (file : Option (List ℕ)) → Some bytes ≡ option_map (take (most + 1)) file → length bytes ≤ most → file ≡ Some bytes
whole most bytes None e few = absurd (cc e)
whole most bytes (Some text) e few =
    let same : bytes ≡ take (most + 1) text = cc e in
    let count : length bytes ≡ length (take (most + 1) text) = ap length same in
    let all : length text ≤ most + 1 = omega (arith, count, length-take (most + 1) text) in
    ap (λ (t : List ℕ). Some t) (sym (same ∙ take_all (most + 1) text all))

-- what a read says of the file where files are told
pub loaded : (told : Option Names) (path : List ℕ) (found : Option (List ℕ)) (load : Load) → IfSome told (λ files. found ≡ first_bytes files path 4194305) → ((file : Option (List ℕ)) → found ≡ option_map (take 4194305) file → IsLoaded file load) → IfSome told (λ files. IsLoaded (files path) load)
loaded None path found load read sorts = tt
loaded (Some files) path found load read sorts = sorts (files path) read
