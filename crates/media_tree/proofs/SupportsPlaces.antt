-- Reading a supports condition looks at no place.
use Rattle.std.proofs.Common.{◌≡◌, ℕ, List, [], ◌∷◌, map, Bool, true, false, ◌||◌, not, nat_eq, length, refl, sym, ap, ap₂, ◌∙◌}
use Rattle.std.specs.Prelude.{Option, Some, None, codes, if◌then◌else◌}
use Rattle.std.specs.List.{list_any}
use Rattle.std.specs.Option.{option_map, option_or}
use Rattle.std.proofs.lemmas.List.{length-map}
use Rattle.css_tokens.specs.declared.kind.Kind.{Kind}
use Rattle.css_tokens.specs.declared.kind.Kind.TheVariants as kinds
use Rattle.css_tokens.specs.declared.component.Component.{Component}
use Rattle.css_tokens.specs.declared.component.Component as component
use Rattle.css_tokens.specs.declared.component.Block as block
use Rattle.css_tokens.specs.Trees.{is_text}
use Rattle.media_spelling.specs.declared.supports.Supports.{Supports}
use Rattle.media_spelling.specs.declared.supports.Supports as supports
use Rattle.media_spelling.specs.SupportsFold.{folded-And, folded-Or, folded-Not, folded-Declared, folded-Function}
use Rattle.media_tree.specs.declared.mark.Mark.{Mark}
use Rattle.media_tree.specs.declared.sign.Sign.{Sign}
use Rattle.media_tree.specs.declared.sign.Sign.TheVariants.{Gap, Not, And, Or, Within, Other}
use Rattle.media_tree.specs.ComponentInduction.{Each, by_components}
use Rattle.media_tree.specs.Conditions.{and_row, condition_of, or_row, solid, within}
use Rattle.media_tree.specs.Marks.{mark_of, trimmed, trimmed_start}
use Rattle.media_spelling.specs.Places.{bare, bare_steps, bare_supports, placeless}
use Rattle.media_tree.specs.SupportsReading.{declaration_from, declaration_of, declared, declared_by, declared_from, inside_of, is_barred, is_barred_mark, is_braces, is_braces_mark, is_colon_mark, is_custom, layer_name, makes, may_be_value, name_of, opened_sign, property_name, sign_of, supports_inside, supports_reading}
use Rattle.media_tree.proofs.QueryPlaces.{layer-bare, mark-bare, start-bare, trimmed-bare}
use Rattle.media_tree.proofs.SignEquations.{supports-Single, supports-Block}
use Rattle.media_tree.proofs.TreePlaces.{bare-Single, bare-Block, bare_block, every}

-- Places that are taken off twice.

abbrev IsBare : Component → Type 0
IsBare c = bare (bare c) ≡ bare c

bare-each : (cs : List Component) → Each IsBare cs → map bare (map bare cs) ≡ map bare cs
bare-each [] each = refl
bare-each (c ∷ cs) each = ap₂ (λ (x : Component) (xs : List Component). x ∷ xs) each.0 (bare-each cs each.1)

abbrev around : block.Block → List Component → Component
around b cs = component.Block (record { opening = placeless b.opening; items = cs; close = 0 })

bare-twice : (c : Component) → IsBare c
bare-twice c =
    by_components IsBare
    (λ p. ap bare (bare-Single p) ∙ bare-Single (placeless p) ∙ sym (bare-Single p))
    (λ b each. ap bare (bare-Block b) ∙ bare-Block (bare_block b) ∙ ap (around b) (bare-each b.items each) ∙ sym (bare-Block b))
    c

-- Declarations.

any-bare : (test : Mark → Bool) (cs : List Component) → list_any (λ c. test (mark_of c)) (map bare cs) ≡ list_any (λ c. test (mark_of c)) cs
any-bare test [] = refl
any-bare test (c ∷ cs) = ap₂ ◌||◌ (ap test (mark-bare c)) (any-bare test cs)

abbrev may_at : Bool → Bool → Bool → Bool → Bool
may_at custom barred empty braces = if barred then false else (if custom then true else (if empty then false else not braces))

may-bare : (custom : Bool) (v : List Component) → may_be_value custom (map bare v) ≡ may_be_value custom v
may-bare custom v =
    ap (λ (b : Bool). may_at custom b (nat_eq (length (map bare v)) 0) (list_any is_braces (map bare v))) (any-bare is_barred_mark v)
    ∙ ap₂ (λ (n : ℕ) (b : Bool). may_at custom (list_any is_barred v) (nat_eq n 0) b) (length-map v bare) (any-bare is_braces_mark v)

-- a condition that may be there, with each place at 0
abbrev off : Option Supports → Option Supports
off o = option_map bare_supports o

declared-at : (b : Bool) (n : List ℕ) (v : List Component) → off (if b then Some (supports.Declared n (map bare v)) else None) ≡ off (if b then Some (supports.Declared n v) else None)
declared-at true n v =
    ap (λ (s : Supports). Some s)
    (folded-Declared bare_steps n (map bare v) ∙ ap (supports.Declared n) (bare-each v (every IsBare bare-twice v)) ∙ sym (folded-Declared bare_steps n v))
declared-at false n v = refl

declared-bare : (n : List ℕ) (v : List Component) → off (declared n (map bare v)) ≡ off (declared n v)
declared-bare n v =
    ap (λ (b : Bool). off (if b then Some (supports.Declared (property_name n) (map bare v)) else None)) (may-bare (is_custom n) v)
    ∙ declared-at (may_be_value (is_custom n) v) (property_name n) v

where-same : (b : Bool) (o p : Option Supports) → off o ≡ off p → off (if b then o else None) ≡ off (if b then p else None)
where-same true o p h = h
where-same false o p h = refl

from-bare : (n : List ℕ) (cs : List Component) → off (declared_from n (map bare cs)) ≡ off (declared_from n cs)
from-bare n [] = refl
from-bare n (c ∷ cs) =
    ap (λ (m : Mark). off (if is_colon_mark m then declared n (trimmed (map bare cs)) else None)) (mark-bare c)
    ∙ where-same (is_colon_mark (mark_of c)) (declared n (trimmed (map bare cs))) (declared n (trimmed cs)) (ap (λ (v : List Component). off (declared n v)) (trimmed-bare cs) ∙ declared-bare n (trimmed cs))

by-bare : (o : Option (List ℕ)) (cs : List Component) → off (declared_by o (map bare cs)) ≡ off (declared_by o cs)
by-bare None cs = refl
by-bare (Some n) cs = ap (λ (ds : List Component). off (declared_from n ds)) (start-bare cs) ∙ from-bare n (trimmed_start cs)

begun-bare : (cs : List Component) → off (declaration_from (map bare cs)) ≡ off (declaration_from cs)
begun-bare [] = refl
begun-bare (c ∷ cs) = ap (λ (o : Option (List ℕ)). off (declared_by o (map bare cs))) (layer-bare layer_name (λ p. refl) (λ b. refl) c) ∙ by-bare (name_of c) cs

declaration-bare : (cs : List Component) → off (declaration_of (map bare cs)) ≡ off (declaration_of cs)
declaration-bare cs = ap (λ (ds : List Component). off (declaration_from ds)) (start-bare cs) ∙ begun-bare (trimmed_start cs)

-- Conditions.

-- a sign, with each place in it at 0
abbrev sign_off : Sign Supports → Sign Supports
sign_off (Within s) = Within (bare_supports s)
sign_off w = w

solid-off : (ws : List (Sign Supports)) → solid (map sign_off ws) ≡ map sign_off (solid ws)
solid-off [] = refl
solid-off (Gap ∷ ws) = solid-off ws
solid-off (w ∷ ws) = ap (λ vs. sign_off w ∷ vs) (solid-off ws)

more-off : (d : Supports) (o p : Option (List Supports)) → o ≡ option_map (map bare_supports) p → option_map (λ cs. bare_supports d ∷ cs) o ≡ option_map (map bare_supports) (option_map (λ cs. d ∷ cs) p)
more-off d o None h = ap (λ (q : Option (List Supports)). option_map (λ cs. bare_supports d ∷ cs) q) h
more-off d o (Some cs) h = ap (λ (q : Option (List Supports)). option_map (λ cs. bare_supports d ∷ cs) q) h

and-off : (ws : List (Sign Supports)) → and_row (map sign_off ws) ≡ option_map (map bare_supports) (and_row ws)
and-off [] = refl
and-off (And ∷ Within c ∷ ws) = more-off c (and_row (map sign_off ws)) (and_row ws) (and-off ws)
and-off ws = refl

or-off : (ws : List (Sign Supports)) → or_row (map sign_off ws) ≡ option_map (map bare_supports) (or_row ws)
or-off [] = refl
or-off (Or ∷ Within c ∷ ws) = more-off c (or_row (map sign_off ws)) (or_row ws) (or-off ws)
or-off ws = refl

row-off : (make : List Supports → Supports) → ((cs : List Supports) → bare_supports (make cs) ≡ make (map bare_supports cs)) → (c : Supports) (o p : Option (List Supports)) → o ≡ option_map (map bare_supports) p
    → option_map (λ cs. make (bare_supports c ∷ cs)) o ≡ off (option_map (λ cs. make (c ∷ cs)) p)
row-off make same c o None h = ap (λ (q : Option (List Supports)). option_map (λ cs. make (bare_supports c ∷ cs)) q) h
row-off make same c o (Some cs) h = ap (λ (q : Option (List Supports)). option_map (λ ds. make (bare_supports c ∷ ds)) q) h ∙ ap (λ (s : Supports). Some s) (sym (same (c ∷ cs)))

condition-off : (ws : List (Sign Supports)) → condition_of makes (map sign_off ws) ≡ off (condition_of makes ws)
condition-off (Not ∷ Within c ∷ []) = ap (λ (s : Supports). Some s) (sym (folded-Not bare_steps c))
condition-off (Within c ∷ []) = refl
condition-off (Within c ∷ And ∷ ws) = row-off (λ cs. supports.And cs) (folded-And bare_steps) c (and_row (map sign_off (And ∷ ws))) (and_row (And ∷ ws)) (and-off (And ∷ ws))
condition-off (Within c ∷ Or ∷ ws) = row-off (λ cs. supports.Or cs) (folded-Or bare_steps) c (or_row (map sign_off (Or ∷ ws))) (or_row (Or ∷ ws)) (or-off (Or ∷ ws))
condition-off ws = refl

-- Signs.

abbrev HasSign : Component → Type 0
HasSign c = sign_off (sign_of (bare c)) ≡ sign_off (sign_of c)

signs-each : (cs : List Component) → Each HasSign cs → map sign_off (map sign_of (map bare cs)) ≡ map sign_off (map sign_of cs)
signs-each [] each = refl
signs-each (c ∷ cs) each = ap₂ (λ (w : Sign Supports) (ws : List (Sign Supports)). w ∷ ws) each.0 (signs-each cs each.1)

read-off : (ws : List (Sign Supports)) → off (condition_of makes (solid ws)) ≡ condition_of makes (solid (map sign_off ws))
read-off ws = sym (condition-off (solid ws)) ∙ ap (condition_of makes) (sym (solid-off ws))

read-same : (cs : List Component) → Each HasSign cs → off (condition_of makes (solid (map sign_of (map bare cs)))) ≡ off (condition_of makes (solid (map sign_of cs)))
read-same cs each = read-off (map sign_of (map bare cs)) ∙ ap (λ (ws : List (Sign Supports)). condition_of makes (solid ws)) (signs-each cs each) ∙ sym (read-off (map sign_of cs))

either-off : (o p : Option Supports) → off (option_or o p) ≡ option_or (off o) (off p)
either-off None p = refl
either-off (Some s) p = refl

inside-same : (cs : List Component) → Each HasSign cs → off (inside_of (map bare cs) (map sign_of (map bare cs))) ≡ off (inside_of cs (map sign_of cs))
inside-same cs each =
    either-off (condition_of makes (solid (map sign_of (map bare cs)))) (declaration_of (map bare cs))
    ∙ ap₂ (λ (o p : Option Supports). option_or o p) (read-same cs each) (declaration-bare cs)
    ∙ sym (either-off (condition_of makes (solid (map sign_of cs))) (declaration_of cs))

within-off : (o : Option Supports) → sign_off (within o) ≡ within (off o)
within-off None = refl
within-off (Some s) = refl

parens-same : (b : Bool) (o p : Option Supports) → off o ≡ off p → sign_off (if b then within o else Other) ≡ sign_off (if b then within p else Other)
parens-same true o p h = within-off o ∙ ap (λ (q : Option Supports). within q) h ∙ sym (within-off p)
parens-same false o p h = refl

opened-same : (k : Kind) (b : block.Block) (vs ws : List (Sign Supports)) → off (inside_of (map bare b.items) vs) ≡ off (inside_of b.items ws) → sign_off (opened_sign k (bare_block b) vs) ≡ sign_off (opened_sign k b ws)
opened-same kinds.Function b vs ws h = ap (λ (s : Supports). Within s) (folded-Function bare_steps 0 ∙ sym (folded-Function bare_steps b.opening.at))
opened-same kinds.Open b vs ws h = parens-same (is_text b.opening.text (codes "(")) (inside_of (map bare b.items) vs) (inside_of b.items ws) h
opened-same k b vs ws h = refl

sign-bare : (c : Component) → HasSign c
sign-bare c =
    by_components HasSign
    (λ p. ap sign_off (ap sign_of (bare-Single p) ∙ supports-Single (placeless p) ∙ sym (supports-Single p)))
    (λ b each.
    ap sign_off (ap sign_of (bare-Block b) ∙ supports-Block (bare_block b))
    ∙ opened-same b.opening.kind b (map sign_of (map bare b.items)) (map sign_of b.items) (inside-same b.items each)
    ∙ ap sign_off (sym (supports-Block b)))
    c

-- The same condition is read without places.
pub reading-bare : (cs : List Component) → option_map bare_supports (supports_reading (map bare cs)) ≡ option_map bare_supports (supports_reading cs)
reading-bare cs = read-same cs (every HasSign sign-bare cs)

-- The same of what stands in parentheses.
pub inside-bare : (cs : List Component) → option_map bare_supports (supports_inside (map bare cs)) ≡ option_map bare_supports (supports_inside cs)
inside-bare cs = inside-same cs (every HasSign sign-bare cs)
