-- What parts spell together: it has a reading exactly where each of them has one.
use Rattle.std.specs.Prelude.{List, [], ◌∷◌, ◌++◌, Option, Some, None}
use Rattle.std.specs.Option.{option_map}

-- one reading behind another, where there are both
abbrev pub joined : {A : Type 0} → Option (List A) → Option (List A) → Option (List A)
joined None more = None
joined (Some xs) more = option_map (λ ys. xs ++ ys) more

-- what the parts spell, one after another, where each has a reading
abbrev pub read_all : {A B : Type 0} → (A → Option (List B)) → List A → Option (List B)
read_all read [] = Some []
read_all read (part ∷ parts) = joined (read part) (read_all read parts)
