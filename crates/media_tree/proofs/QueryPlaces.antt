-- Reading a media query list looks at no place.
use Rattle.std.proofs.Common.{◌≡◌, ℕ, ◌+◌, List, [], ◌∷◌, map, Bool, true, false, ◌++◌, ◌&&◌, ◌||◌, not, nat_eq, length, take, drop, refl, sym, ap, ap₂, ◌∙◌, cond}
use Rattle.std.specs.Prelude.{Option, Some, None, codes, unwrap_or, if◌then◌else◌}
use Rattle.std.specs.List.{list_all, list_any, position, position_from}
use Rattle.std.specs.Option.{option_map, option_or}
use Rattle.std.proofs.lemmas.Iterator.Adapters.{position_from-zero}
use Rattle.std.proofs.lemmas.List.{length-map, take-map, drop-map}
use Rattle.css_tokens.specs.declared.kind.Kind.{Kind}
use Rattle.css_tokens.specs.declared.kind.Kind.TheVariants as kinds
use Rattle.css_tokens.specs.declared.component.Component.{Component, out-Component}
use Rattle.css_tokens.specs.declared.component.Component.TheOpen.{Single, Block}
use Rattle.css_tokens.specs.declared.component.Component.TheVariants.{outs-Single, outs-Block}
use Rattle.css_tokens.specs.declared.component.Block as block
use Rattle.css_tokens.specs.Piece.{Piece, Word, spelled}
use Rattle.css_tokens.specs.Values.{printed_words}
use Rattle.media_spelling.specs.declared.condition.Condition.{Condition}
use Rattle.media_tree.specs.declared.mark.Mark.{Mark}
use Rattle.media_tree.specs.declared.mark.Separator.{Separator}
use Rattle.media_tree.specs.declared.mark.Separator.TheVariants as separators
use Rattle.media_spelling.specs.declared.condition.Relation.{Relation}
use Rattle.media_tree.specs.declared.sign.Sign.{Sign}
use Rattle.media_tree.specs.declared.sign.Sign.TheVariants.{Other}
use Rattle.media_tree.specs.ComponentInduction.{Each, by_components}
use Rattle.media_tree.specs.Conditions.{condition_of, solid, within}
use Rattle.media_tree.specs.Features.{begins_equals, behind_one, behind_separator, block_value, feature_of, front_length, front_of, gap_length, gap_text, goes_unseen, in_utf8, interval, is_equals_mark, is_separator, is_separator_mark, is_slash_mark, is_solid, layer_number, layer_value, lone_name, name_in, number_text, plain, boolean, ranged, ratio, ratio_behind, ratio_end, ray, rest_of, sections, separator_at, separator_of, single_value, takes_equals, value_in, value_of}
use Rattle.media_tree.specs.Marks.{Layer, ident_name, is_gap, is_gap_mark, is_white, is_white_mark, layer_mark, layer_name, mark_of, trimmed, trimmed_end, trimmed_start}
use Rattle.media_tree.specs.Queries.{block_sign, is_parens, makes, queries_of, queries_reading, sign_of}
use Rattle.media_spelling.specs.Spelling.{turned}
use Rattle.media_tree.proofs.SignEquations.{query-Single, query-Block}
use Rattle.media_tree.proofs.TreePlaces.{bare, bare-Single, bare-Block, bare_block, every, placeless, words-bare}

-- Single components.

-- what looks at a layer's kinds and texts alone looks at no place
pub layer-bare : {A : Type 0} (look : Layer → A) → ((p : Piece) → look (Single (placeless p)) ≡ look (Single p)) → ((b : block.Block) → look (Block (bare_block b)) ≡ look (Block b)) → (c : Component) → look (out-Component (bare c)) ≡ look (out-Component c)
layer-bare look single blocks c =
    by_components (λ x. look (out-Component (bare x)) ≡ look (out-Component x))
    (λ p. ap (λ (x : Component). look (out-Component x)) (bare-Single p) ∙ ap look (outs-Single (placeless p)) ∙ single p ∙ ap look (sym (outs-Single p)))
    (λ b each. ap (λ (x : Component). look (out-Component x)) (bare-Block b) ∙ ap look (outs-Block (bare_block b)) ∙ blocks b ∙ ap look (sym (outs-Block b)))
    c

pub mark-bare : (c : Component) → mark_of (bare c) ≡ mark_of c
mark-bare c = layer-bare layer_mark (λ p. refl) (λ b. refl) c

name-bare : (c : Component) → ident_name (bare c) ≡ ident_name c
name-bare c = layer-bare layer_name (λ p. refl) (λ b. refl) c

number-bare : (c : Component) → number_text (bare c) ≡ number_text c
number-bare c = layer-bare layer_number (λ p. refl) (λ b. refl) c

block-value-bare : (k : Kind) (c : Component) → block_value k (bare c) ≡ block_value k c
block-value-bare kinds.Function c = ap (λ (ws : List Word). in_utf8 (spelled (printed_words ws))) (words-bare (c ∷ []))
block-value-bare k c = refl

layer-value-bare : (c : Component) (v : Layer) → layer_value (bare c) v ≡ layer_value c v
layer-value-bare c (Single p) = refl
layer-value-bare c (Block b) = block-value-bare b.opening.kind c

value-bare : (c : Component) → single_value (bare c) ≡ single_value c
value-bare c = layer-bare (layer_value (bare c)) (λ p. refl) (λ b. refl) c ∙ layer-value-bare c (out-Component c)

gap-bare : (c : Component) → is_gap (bare c) ≡ is_gap c
gap-bare c = ap is_gap_mark (mark-bare c)

-- Lists.

all-gaps-bare : (cs : List Component) → list_all is_gap (map bare cs) ≡ list_all is_gap cs
all-gaps-bare [] = refl
all-gaps-bare (c ∷ cs) = ap₂ ◌&&◌ (gap-bare c) (all-gaps-bare cs)

any-white-bare : (cs : List Component) → list_any is_white (map bare cs) ≡ list_any is_white cs
any-white-bare [] = refl
any-white-bare (c ∷ cs) = ap₂ ◌||◌ (ap is_white_mark (mark-bare c)) (any-white-bare cs)

choice : (b : Bool) (xs ys : List Component) → (if b then map bare xs else map bare ys) ≡ map bare (if b then xs else ys)
choice true xs ys = refl
choice false xs ys = refl

pub start-bare : (cs : List Component) → trimmed_start (map bare cs) ≡ map bare (trimmed_start cs)
start-bare [] = refl
start-bare (c ∷ cs) =
    ap (λ (b : Bool). if b then trimmed_start (map bare cs) else bare c ∷ map bare cs) (gap-bare c)
    ∙ ap (λ (xs : List Component). if is_gap c then xs else bare c ∷ map bare cs) (start-bare cs)
    ∙ choice (is_gap c) (trimmed_start cs) (c ∷ cs)

end-bare : (cs : List Component) → trimmed_end (map bare cs) ≡ map bare (trimmed_end cs)
end-bare [] = refl
end-bare (c ∷ cs) =
    ap (λ (b : Bool). if b then [] else bare c ∷ trimmed_end (map bare cs)) (all-gaps-bare (c ∷ cs))
    ∙ ap (λ (xs : List Component). if list_all is_gap (c ∷ cs) then [] else bare c ∷ xs) (end-bare cs)
    ∙ choice (list_all is_gap (c ∷ cs)) [] (c ∷ trimmed_end cs)

pub trimmed-bare : (cs : List Component) → trimmed (map bare cs) ≡ map bare (trimmed cs)
trimmed-bare cs = ap trimmed_end (start-bare cs) ∙ end-bare (trimmed_start cs)

position-bare : (t : Component → Bool) → ((c : Component) → t (bare c) ≡ t c) → (i : ℕ) (cs : List Component) → position_from t i (map bare cs) ≡ position_from t i cs
position-bare t same i [] = refl
position-bare t same i (c ∷ cs) =
    ap (λ (b : Bool). cond b (Some i) (position_from t (i + 1) (map bare cs))) (same c)
    ∙ ap (λ (o : Option ℕ). cond (t c) (Some i) o) (position-bare t same (i + 1) cs)

place-bare : (t : Component → Bool) → ((c : Component) → t (bare c) ≡ t c) → (cs : List Component) → unwrap_or (position t (map bare cs)) (length (map bare cs)) ≡ unwrap_or (position t cs) (length cs)
place-bare t same cs =
    ap₂ (λ (o : Option ℕ) (n : ℕ). unwrap_or o n) (position_from-zero t (map bare cs) ∙ position-bare t same 0 cs ∙ sym (position_from-zero t cs)) (length-map cs bare)

-- Values.

gap-text-bare : (cs : List Component) → gap_text (map bare cs) ≡ gap_text cs
gap-text-bare cs =
    (let n : gap_length (map bare cs) ≡ gap_length cs = place-bare is_solid (λ c. ap not (gap-bare c)) cs in
    let front : take (gap_length (map bare cs)) (map bare cs) ≡ map bare (take (gap_length cs) cs) = ap (λ (k : ℕ). take k (map bare cs)) n ∙ take-map bare (gap_length cs) cs in
    let gap = take (gap_length cs) cs in
    ap (λ (xs : List Component). if goes_unseen xs then [] else codes "/**/") front
    ∙ ap (λ (k : ℕ). if (if nat_eq k 0 then true else list_any is_white (map bare gap)) then [] else codes "/**/") (length-map gap bare)
    ∙ ap (λ (b : Bool). if (if nat_eq (length gap) 0 then true else b) then [] else codes "/**/") (any-white-bare gap))

ratio-end-bare : (n before behind : List ℕ) (cs : List Component) → ratio_end n before behind (map bare cs) ≡ ratio_end n before behind cs
ratio-end-bare n before behind [] = refl
ratio-end-bare n before behind (c ∷ []) = ap (λ (o : Option (List ℕ)). option_map (λ d. n ++ (before ++ (codes "/" ++ (behind ++ d)))) o) (number-bare c)
ratio-end-bare n before behind (c ∷ d ∷ cs) = refl

ratio-behind-bare : (n before : List ℕ) (cs : List Component) → ratio_behind n before (map bare cs) ≡ ratio_behind n before cs
ratio-behind-bare n before [] = refl
ratio-behind-bare n before (c ∷ cs) =
    ap (λ (m : Mark). if is_slash_mark m then ratio_end n before (gap_text (map bare cs)) (trimmed_start (map bare cs)) else None) (mark-bare c)
    ∙ ap (λ (g : List ℕ). if is_slash_mark (mark_of c) then ratio_end n before g (trimmed_start (map bare cs)) else None) (gap-text-bare cs)
    ∙ ap (λ (o : Option (List ℕ)). if is_slash_mark (mark_of c) then o else None) (ap (ratio_end n before (gap_text cs)) (start-bare cs) ∙ ratio-end-bare n before (gap_text cs) (trimmed_start cs))

ratio-bare : (o : Option (List ℕ)) (cs : List Component) → ratio o (map bare cs) ≡ ratio o cs
ratio-bare None cs = refl
ratio-bare (Some n) cs =
    ap (λ (g : List ℕ). ratio_behind n g (trimmed_start (map bare cs))) (gap-text-bare cs)
    ∙ ap (ratio_behind n (gap_text cs)) (start-bare cs)
    ∙ ratio-behind-bare n (gap_text cs) (trimmed_start cs)

value-of-bare : (cs : List Component) → value_of (map bare cs) ≡ value_of cs
value-of-bare [] = refl
value-of-bare (c ∷ []) = value-bare c
value-of-bare (c ∷ d ∷ cs) = ap (λ (o : Option (List ℕ)). ratio o (map bare (d ∷ cs))) (number-bare c) ∙ ratio-bare (number_text c) (d ∷ cs)

pub value-in-bare : (cs : List Component) → value_in (map bare cs) ≡ value_in cs
value-in-bare cs = ap value_of (trimmed-bare cs) ∙ value-of-bare (trimmed cs)

lone-bare : (cs : List Component) → lone_name (map bare cs) ≡ lone_name cs
lone-bare [] = refl
lone-bare (c ∷ []) = name-bare c
lone-bare (c ∷ d ∷ cs) = refl

name-in-bare : (cs : List Component) → name_in (map bare cs) ≡ name_in cs
name-in-bare cs = ap lone_name (trimmed-bare cs) ∙ lone-bare (trimmed cs)

-- Sections.

pub separator-bare : (c : Component) → is_separator (bare c) ≡ is_separator c
separator-bare c = ap is_separator_mark (mark-bare c)

length-bare : (cs : List Component) → front_length (map bare cs) ≡ front_length cs
length-bare cs = place-bare is_separator separator-bare cs

front-bare : (cs : List Component) → front_of (map bare cs) ≡ map bare (front_of cs)
front-bare cs = ap (λ (n : ℕ). take n (map bare cs)) (length-bare cs) ∙ take-map bare (front_length cs) cs

rest-bare : (cs : List Component) → rest_of (map bare cs) ≡ map bare (rest_of cs)
rest-bare cs = ap (λ (n : ℕ). drop n (map bare cs)) (length-bare cs) ∙ drop-map bare (front_length cs) cs

equals-bare : (cs : List Component) → begins_equals (map bare cs) ≡ begins_equals cs
equals-bare [] = refl
equals-bare (c ∷ cs) = ap is_equals_mark (mark-bare c)

separator-of-bare : (cs : List Component) → separator_of (map bare cs) ≡ separator_of cs
separator-of-bare [] = refl
separator-of-bare (c ∷ cs) = ap₂ (λ (m : Mark) (b : Bool). separator_at m b) (mark-bare c) (equals-bare cs)

one-bare : (cs : List Component) → behind_one (map bare cs) ≡ map bare (behind_one cs)
one-bare [] = refl
one-bare (c ∷ cs) = refl

behind-bare : (cs : List Component) → behind_separator (map bare cs) ≡ map bare (behind_separator cs)
behind-bare [] = refl
behind-bare (c ∷ cs) =
    ap₂ (λ (m : Mark) (b : Bool). if takes_equals m b then behind_one (map bare cs) else map bare cs) (mark-bare c) (equals-bare cs)
    ∙ ap (λ (xs : List Component). if takes_equals (mark_of c) (begins_equals cs) then xs else map bare cs) (one-bare cs)
    ∙ choice (takes_equals (mark_of c) (begins_equals cs)) (behind_one cs) cs

ranged-bare : (left : List Component) (r : Relation) (middle : List Component) (s : Separator) (right : List Component) → ranged (map bare left) r (map bare middle) s (map bare right) ≡ ranged left r middle s right
ranged-bare left r middle separators.None right =
    ap₂ (λ (n v : Option (List ℕ)). option_or (ray n r v) (ray (name_in (map bare middle)) (turned r) (value_in (map bare left)))) (name-in-bare left) (value-in-bare middle)
    ∙ ap₂ (λ (n v : Option (List ℕ)). option_or (ray (name_in left) r (value_in middle)) (ray n (turned r) v)) (name-in-bare middle) (value-in-bare left)
ranged-bare left r middle separators.Colon right = refl
ranged-bare left r middle (separators.Relation s) right =
    ap₂ (λ (v n : Option (List ℕ)). interval v r n s (value_in (map bare right))) (value-in-bare left) (name-in-bare middle)
    ∙ ap (λ (w : Option (List ℕ)). interval (value_in left) r (name_in middle) s w) (value-in-bare right)

sections-bare : (left : List Component) (s : Separator) (rest : List Component) → sections (map bare left) s (map bare rest) ≡ sections left s rest
sections-bare left separators.None rest = ap boolean (name-in-bare left)
sections-bare left separators.Colon rest = ap₂ (λ (n v : Option (List ℕ)). plain n v) (name-in-bare left) (value-in-bare rest)
sections-bare left (separators.Relation r) rest =
    ap (λ (f : List Component). ranged (map bare left) r f (separator_of (rest_of (map bare rest))) (behind_separator (rest_of (map bare rest)))) (front-bare rest)
    ∙ ap (λ (g : List Component). ranged (map bare left) r (map bare (front_of rest)) (separator_of g) (behind_separator g)) (rest-bare rest)
    ∙ ap₂ (λ (s : Separator) (g : List Component). ranged (map bare left) r (map bare (front_of rest)) s g) (separator-of-bare (rest_of rest)) (behind-bare (rest_of rest))
    ∙ ranged-bare left r (front_of rest) (separator_of (rest_of rest)) (behind_separator (rest_of rest))

feature-bare : (cs : List Component) → feature_of (map bare cs) ≡ feature_of cs
feature-bare cs =
    ap (λ (f : List Component). sections f (separator_of (rest_of (map bare cs))) (behind_separator (rest_of (map bare cs)))) (front-bare cs)
    ∙ ap (λ (g : List Component). sections (map bare (front_of cs)) (separator_of g) (behind_separator g)) (rest-bare cs)
    ∙ ap₂ (λ (s : Separator) (g : List Component). sections (map bare (front_of cs)) s g) (separator-of-bare (rest_of cs)) (behind-bare (rest_of cs))
    ∙ sections-bare (front_of cs) (separator_of (rest_of cs)) (behind_separator (rest_of cs))

-- Signs.

abbrev HasSign : Component → Type 0
HasSign c = sign_of (bare c) ≡ sign_of c

signs-each : (cs : List Component) → Each HasSign cs → map sign_of (map bare cs) ≡ map sign_of cs
signs-each [] each = refl
signs-each (c ∷ cs) each = ap₂ (λ (w : Sign Condition) (ws : List (Sign Condition)). w ∷ ws) each.0 (signs-each cs each.1)

sign-bare : (c : Component) → HasSign c
sign-bare c =
    by_components HasSign
    (λ p. ap sign_of (bare-Single p) ∙ query-Single (placeless p) ∙ sym (query-Single p))
    (λ b each.
    ap sign_of (bare-Block b)
    ∙ query-Block (bare_block b)
    ∙ ap (λ (ws : List (Sign Condition)). block_sign (bare_block b) ws) (signs-each b.items each)
    ∙ ap (λ (o : Option Condition). if is_parens b then within (option_or (condition_of makes (solid (map sign_of b.items))) o) else Other) (feature-bare b.items)
    ∙ sym (query-Block b))
    c

-- The same list is read without places.
pub reading-bare : (cs : List Component) → queries_reading (map bare cs) ≡ queries_reading cs
reading-bare cs = ap (λ (ws : List (Sign Condition)). queries_of (solid ws)) (signs-each cs (every HasSign sign-bare cs))
