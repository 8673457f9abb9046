-- A name is logical where it stands in a part of the table.
use Rattle.std.specs.Prelude.{ℕ, List, [], ◌∷◌, ◌++◌, ◌≡◌, ◌||◌, Bool, true, false, codes, flat_map, map}
use Rattle.std.specs.List.{list_any}
use Rattle.std.proofs.Common.{◌∙◌, ap, sym}
use Rattle.std.proofs.lemmas.List.Folds.{list_any-append}
use Rattle.css_tokens.specs.Trees.{is_text}
use Rattle.prop_table.specs.LogicalProperties.{axes, border_of, border_parts_of, borders, corners, is_logical, sides, sizes_of, spaces_of}

in-four : {X : Type 0} (p : X → Bool) (xs ys zs ws : List X)
    → list_any p (xs ++ ys ++ zs ++ ws) ≡ (((list_any p xs || list_any p ys) || list_any p zs) || list_any p ws)
in-four p xs ys zs ws =
    list_any-append p (xs ++ ys ++ zs) ws
    ∙ ap (λ b. b || list_any p ws) (list_any-append p (xs ++ ys) zs ∙ ap (λ b. b || list_any p zs) (list_any-append p xs ys))

-- is the name one of these?
abbrev pub is_one : List ℕ → List (List ℕ) → Bool
is_one name names = list_any (is_text name) names

pub logical-told : (name : List ℕ)
    → is_logical name ≡ (((is_one name (flat_map spaces_of (sides ++ axes)) || is_one name borders) || is_one name (flat_map sizes_of axes)) || is_one name (codes "inset" ∷ []))
logical-told name = in-four (is_text name) (flat_map spaces_of (sides ++ axes)) borders (flat_map sizes_of axes) (codes "inset" ∷ [])

-- the value of `||`, where the first side is so
pub or-first : {a result value : Bool} (b : Bool) → result ≡ a → result ≡ true → value ≡ result → (a || b) ≡ value
or-first b is holds gives = ap (λ x. x || b) (sym is ∙ holds) ∙ sym (gives ∙ holds)

-- and where it is not
pub or-second : {a result second value : Bool} (b : Bool) → result ≡ a → result ≡ false → second ≡ b → value ≡ second → (a || b) ≡ value
or-second b is fails gives same = ap (λ x. x || b) (sym is ∙ fails) ∙ sym (same ∙ gives)

-- a name that stands in none of two lists
neither : (name : List ℕ) (xs ys : List (List ℕ)) → is_one name xs ≡ false → is_one name ys ≡ false → is_one name (xs ++ ys) ≡ false
neither name xs ys first second = list_any-append (is_text name) xs ys ∙ (ap (λ b. b || is_one name ys) first ∙ second)

-- A name that stands in no part of the table is not logical.
pub not-logical : (name : List ℕ)
    → is_one name (flat_map spaces_of sides) ≡ false → is_one name (flat_map spaces_of axes) ≡ false
    → is_one name (flat_map border_parts_of sides) ≡ false → is_one name (flat_map border_parts_of axes) ≡ false
    → is_one name (map border_of sides) ≡ false → is_one name (map border_of axes) ≡ false
    → is_one name corners ≡ false → is_one name (flat_map sizes_of axes) ≡ false → is_one name (codes "inset" ∷ []) ≡ false
    → is_logical name ≡ false
not-logical name side_space axis_space side_part axis_part side_border axis_border corner size inset =
    let spaces = neither name (flat_map spaces_of sides) (flat_map spaces_of axes) side_space axis_space in
    let parts = neither name (flat_map border_parts_of sides) (flat_map border_parts_of axes) side_part axis_part in
    let whole = neither name (map border_of sides) (map border_of axes) side_border axis_border in
    let both = neither name (flat_map border_parts_of (sides ++ axes)) (map border_of (sides ++ axes)) parts whole in
    let all_borders = neither name (flat_map border_parts_of (sides ++ axes) ++ map border_of (sides ++ axes)) corners both corner in
    let two = neither name (flat_map spaces_of (sides ++ axes)) borders spaces all_borders in
    let three = neither name (flat_map spaces_of (sides ++ axes) ++ borders) (flat_map sizes_of axes) two size in
    neither name (flat_map spaces_of (sides ++ axes) ++ borders ++ flat_map sizes_of axes) (codes "inset" ∷ []) three inset
