-- What a declaration stands for is physical.
use Rattle.std.specs.Prelude.{ℕ, List, [], ◌∷◌, ◌++◌, Bool, true, false, ◌||◌, ◌&&◌, not, Option, Some, None, codes, flat_map, map}
use Rattle.std.specs.List.{filter, find, list_all, list_any, zip}
use Rattle.std.proofs.Common.{◌≡◌, ◌∙◌, ap, cond, refl, sym}
use Rattle.std.proofs.lemmas.Bool.{false≢true}
use Rattle.std.proofs.lemmas.List.Folds.{list_all-append}
use Rattle.std.specs.Option.{option_map}
use Rattle.css_tokens.specs.Piece.{Piece}
use Rattle.css_tokens.specs.declared.component.Component.{Component, out-Component}
use Rattle.css_tokens.specs.declared.component.Component.TheVariants.{outs-Single}
use Rattle.css_tokens.specs.declared.kind.Kind.TheVariants.{Ident}
use Rattle.css_tokens.specs.Trees.{is_text}
use Rattle.prop_table.proofs.Components.{solid-Single}
use Rattle.prop_table.proofs.Itself.{old-itself}
use Rattle.prop_table.specs.LogicalProperties.{is_logical, is_split}
use Rattle.prop_table.specs.PhysicalProperties.{axis_keywords, declares, flow_keywords, is_flow_part, is_flow_value, is_keyword, is_keyword_token, is_opened_keyword, is_physical, line_sides, meaning, meaning_among, meanings, opened_place, parts_of, physical, physical_all, physical_logical, physical_names, physical_value, put_for, replaced, resized, Row, rows, shares, side_keywords, value_by_parts}
use Rattle.prop_table.specs.Private.LogicalNames.{takes_flow}
use Rattle.prop_table.specs.declared.declarations.Physical.{Physical}
use Rattle.prop_table.specs.declared.mode.Direction.{Direction}
use Rattle.prop_table.specs.declared.mode.Direction.TheVariants.{Ltr, Rtl}
use Rattle.prop_table.specs.declared.mode.Mode.{Mode}
use Rattle.prop_table.specs.declared.mode.Writing.{Writing}
use Rattle.prop_table.specs.declared.mode.Writing.TheVariants.{HorizontalTb, VerticalRl, VerticalLr}

-- Tests.

and-first : (a b : Bool) → (a && b) ≡ true → a ≡ true
and-first true b h = refl
and-first false b h = h

and-second : (a b : Bool) → (a && b) ≡ true → b ≡ true
and-second true b h = h
and-second false b h = absurd (false≢true h)

both : (a b : Bool) → a ≡ true → b ≡ true → (a && b) ≡ true
both a b first second = ap (λ x. x && b) first ∙ second

not-true : (a : Bool) → not a ≡ true → a ≡ false
not-true true h = absurd (false≢true h)
not-true false h = refl

-- Names of the table.

-- no logical property, and none that takes a keyword of the flow
abbrev is_old : List ℕ → Bool
is_old name = not (is_logical name) && not (takes_flow name)

old-by : (writing : Writing) (direction : Direction) → list_all is_old (flat_map (λ row. row.physical) (rows (record { writing = writing; direction = direction }))) ≡ true
old-by HorizontalTb Ltr = refl
old-by HorizontalTb Rtl = refl
old-by VerticalRl Ltr = refl
old-by VerticalRl Rtl = refl
old-by VerticalLr Ltr = refl
old-by VerticalLr Rtl = refl

old-rows : (mode : Mode) → list_all is_old (flat_map (λ row. row.physical) (rows mode)) ≡ true
old-rows mode = old-by mode.writing mode.direction

-- of what holds of all names, rows are left out
left-out : (p : Row → Bool) (rest : List Row) (row : Row) (b : Bool)
    → list_all is_old (row.physical ++ flat_map (λ r. r.physical) rest) ≡ true
    → (list_all is_old (flat_map (λ r. r.physical) rest) ≡ true → list_all is_old (flat_map (λ r. r.physical) (filter p rest)) ≡ true)
    → list_all is_old (flat_map (λ r. r.physical) (cond b (row ∷ filter p rest) (filter p rest))) ≡ true
left-out p rest row true h more =
    let parted = sym (list_all-append is_old row.physical (flat_map (λ r. r.physical) rest)) ∙ h in
    let first = and-first (list_all is_old row.physical) (list_all is_old (flat_map (λ r. r.physical) rest)) parted in
    let second = more (and-second (list_all is_old row.physical) (list_all is_old (flat_map (λ r. r.physical) rest)) parted) in
    list_all-append is_old row.physical (flat_map (λ r. r.physical) (filter p rest))
    ∙ both (list_all is_old row.physical) (list_all is_old (flat_map (λ r. r.physical) (filter p rest))) first second
left-out p rest row false h more =
    let parted = sym (list_all-append is_old row.physical (flat_map (λ r. r.physical) rest)) ∙ h in
    more (and-second (list_all is_old row.physical) (list_all is_old (flat_map (λ r. r.physical) rest)) parted)

some-rows : (p : Row → Bool) (table : List Row) → list_all is_old (flat_map (λ r. r.physical) table) ≡ true → list_all is_old (flat_map (λ r. r.physical) (filter p table)) ≡ true
some-rows p [] h = refl
some-rows p (row ∷ rest) h = left-out p rest row (p row) h (some-rows p rest)

old-names : (mode : Mode) (name : List ℕ) → list_all is_old (physical_names mode name) ≡ true
old-names mode name = some-rows (λ row. is_text name row.logical) (rows mode) (old-rows mode)

-- Declarations of these names.

no-keywords : (a b c : Bool) (x y z : List (List ℕ)) → ((a || b) || c) ≡ false → cond (a || b) x (cond c y z) ≡ z
no-keywords false false false x y z h = refl
no-keywords false false true x y z h = absurd (false≢true (sym h))
no-keywords false true c x y z h = absurd (false≢true (sym h))
no-keywords true b c x y z h = absurd (false≢true (sym h))

no-flow : (name : List ℕ) → takes_flow name ≡ false → flow_keywords name ≡ []
no-flow name plain = no-keywords (is_text name (codes "float")) (is_text name (codes "clear")) (is_text name (codes "resize")) side_keywords axis_keywords [] plain

no-flow-part : (name : List ℕ) (parts : List Component) → flow_keywords name ≡ [] → is_flow_part name parts ≡ false
no-flow-part name [] none = refl
no-flow-part name (part ∷ []) none = ap (λ ks. list_any (λ keyword. is_keyword keyword part) ks) none
no-flow-part name (part ∷ more ∷ rest) none = refl

old-declared : (name : List ℕ) (value : List Component) → is_old name ≡ true → is_physical (declares name value) ≡ true
old-declared name value h =
    both (not (is_logical name)) (not (is_flow_value name value))
    (and-first (not (is_logical name)) (not (takes_flow name)) h)
    (ap not (no-flow-part name (parts_of value) (no-flow name (not-true (takes_flow name) (and-second (not (is_logical name)) (not (takes_flow name)) h)))))

all-whole : (names : List (List ℕ)) (value : List Component) → list_all is_old names ≡ true → list_all is_physical (map (λ name. declares name value) names) ≡ true
all-whole [] value h = refl
all-whole (n ∷ ns) value h =
    both (is_physical (declares n value)) (list_all is_physical (map (λ name. declares name value) ns))
    (old-declared n value (and-first (is_old n) (list_all is_old ns) h))
    (all-whole ns value (and-second (is_old n) (list_all is_old ns) h))

abbrev with_shares : List (List ℕ) → List Component → List Physical
with_shares names parts = map (λ pair. declares pair.0 (pair.1 ∷ [])) (zip names parts)

all-shared : (names : List (List ℕ)) (parts : List Component) → list_all is_old names ≡ true → list_all is_physical (with_shares names parts) ≡ true
all-shared [] parts h = refl
all-shared (n ∷ ns) [] h = refl
all-shared (n ∷ ns) (p ∷ ps) h =
    both (is_physical (declares n (p ∷ []))) (list_all is_physical (with_shares ns ps))
    (old-declared n (p ∷ []) (and-first (is_old n) (list_all is_old ns) h))
    (all-shared ns ps (and-second (is_old n) (list_all is_old ns) h))

either : (b : Bool) (xs ys : List Physical) → list_all is_physical xs ≡ true → list_all is_physical ys ≡ true → list_all is_physical (cond b xs ys) ≡ true
either true xs ys first second = first
either false xs ys first second = second

all-logical : (mode : Mode) (name : List ℕ) (value : List Component) → list_all is_physical (physical_logical mode name value) ≡ true
all-logical mode name value =
    either (is_split name) (with_shares (physical_names mode name) (shares name (parts_of value))) (map (λ n. declares n value) (physical_names mode name))
    (all-shared (physical_names mode name) (shares name (parts_of value)) (old-names mode name))
    (all-whole (physical_names mode name) value (old-names mode name))

-- Values.

-- an identifier
abbrev word_at : ℕ → List ℕ → Piece
word_at at text = record { kind = Ident; text = text; at = at }

-- is it one of these keywords?
abbrev is_among : List (List ℕ) → ℕ → List ℕ → Bool
is_among keywords at text = list_any (λ keyword. is_keyword_token keyword (word_at at text)) keywords

-- What the keywords of the flow mean is none of these keywords.
free-by : (writing : Writing) (direction : Direction) (a c : Bool) (at : ℕ)
    → list_all (λ text. not (is_among (cond a side_keywords (cond c axis_keywords [])) at text)) (cond c (resized writing) (line_sides direction)) ≡ true
free-by HorizontalTb Ltr true true at = refl
free-by HorizontalTb Ltr true false at = refl
free-by HorizontalTb Ltr false true at = refl
free-by HorizontalTb Ltr false false at = refl
free-by HorizontalTb Rtl true true at = refl
free-by HorizontalTb Rtl true false at = refl
free-by HorizontalTb Rtl false true at = refl
free-by HorizontalTb Rtl false false at = refl
free-by VerticalRl Ltr true true at = refl
free-by VerticalRl Ltr true false at = refl
free-by VerticalRl Ltr false true at = refl
free-by VerticalRl Ltr false false at = refl
free-by VerticalRl Rtl true true at = refl
free-by VerticalRl Rtl true false at = refl
free-by VerticalRl Rtl false true at = refl
free-by VerticalRl Rtl false false at = refl
free-by VerticalLr Ltr true true at = refl
free-by VerticalLr Ltr true false at = refl
free-by VerticalLr Ltr false true at = refl
free-by VerticalLr Ltr false false at = refl
free-by VerticalLr Rtl true true at = refl
free-by VerticalLr Rtl true false at = refl
free-by VerticalLr Rtl false true at = refl
free-by VerticalLr Rtl false false at = refl

found-here : (p : List ℕ → Bool) (b : Bool) (k m text : List ℕ) (rest : Option (List ℕ × List ℕ))
    → p m ≡ true → (option_map (λ q. q.1) rest ≡ Some text → p text ≡ true) → option_map (λ q. q.1) (cond b (Some (k, m)) rest) ≡ Some text → p text ≡ true
found-here p true k m text rest here more e = cc
found-here p false k m text rest here more e = more e

found : (p : List ℕ → Bool) (part : Component) (keywords meant : List (List ℕ)) (text : List ℕ)
    → list_all p meant ≡ true → meaning_among keywords meant part ≡ Some text → p text ≡ true
found p part [] meant text h e = cc
found p part (k ∷ ks) [] text h e = cc
found p part (k ∷ ks) (m ∷ ms) text h e =
    found-here p (is_keyword k part) k m text (find (λ pair. is_keyword pair.0 part) (zip ks ms)) (and-first (p m) (list_all p ms) h)
    (found p part ks ms text (and-second (p m) (list_all p ms) h)) e

none-by : (first second : Bool) (x y : List ℕ × List ℕ) → option_map (λ q. q.1) (cond first (Some x) (cond second (Some y) None)) ≡ None → (first || (second || false)) ≡ false
none-by true second x y e = cc
none-by false true x y e = cc
none-by false false x y e = refl

none-two : (part : Component) (k l m n : List ℕ) → meaning_among (k ∷ l ∷ []) (m ∷ n ∷ []) part ≡ None → list_any (λ keyword. is_keyword keyword part) (k ∷ l ∷ []) ≡ false
none-two part k l m n e = none-by (is_keyword k part) (is_keyword l part) (k, m) (l, n) e

-- A part without a meaning is none of the keywords.
none-any : (writing : Writing) (direction : Direction) (a c : Bool) (part : Component)
    → meaning_among (cond a side_keywords (cond c axis_keywords [])) (cond c (resized writing) (line_sides direction)) part ≡ None
    → list_any (λ keyword. is_keyword keyword part) (cond a side_keywords (cond c axis_keywords [])) ≡ false
none-any writing direction false false part e = refl
none-any HorizontalTb direction true true part e = none-two part (codes "inline-start") (codes "inline-end") (codes "horizontal") (codes "vertical") e
none-any HorizontalTb direction false true part e = none-two part (codes "inline") (codes "block") (codes "horizontal") (codes "vertical") e
none-any VerticalRl direction true true part e = none-two part (codes "inline-start") (codes "inline-end") (codes "vertical") (codes "horizontal") e
none-any VerticalRl direction false true part e = none-two part (codes "inline") (codes "block") (codes "vertical") (codes "horizontal") e
none-any VerticalLr direction true true part e = none-two part (codes "inline-start") (codes "inline-end") (codes "vertical") (codes "horizontal") e
none-any VerticalLr direction false true part e = none-two part (codes "inline") (codes "block") (codes "vertical") (codes "horizontal") e
none-any writing Ltr true false part e = none-two part (codes "inline-start") (codes "inline-end") (codes "left") (codes "right") e
none-any writing Rtl true false part e = none-two part (codes "inline-start") (codes "inline-end") (codes "right") (codes "left") e

put-solid : (part : Component) (text : List ℕ) → parts_of (put_for part text ∷ []) ≡ put_for part text ∷ []
put-solid part text = ap (λ b. cond b (put_for part text ∷ []) []) (solid-Single (word_at (opened_place (out-Component part)) text))

put-among : (part : Component) (text : List ℕ) (keywords : List (List ℕ))
    → list_any (λ keyword. is_keyword keyword (put_for part text)) keywords ≡ is_among keywords (opened_place (out-Component part)) text
put-among part text keywords = ap (λ opened. list_any (λ keyword. is_opened_keyword keyword opened) keywords) (outs-Single (word_at (opened_place (out-Component part)) text))

made-part : (mode : Mode) (name : List ℕ) (value : List Component) (part : Component) (m : Option (List ℕ))
    → parts_of value ≡ part ∷ [] → meaning mode name part ≡ m → is_flow_value name (replaced value part m) ≡ false
made-part mode name value part None one is =
    ap (is_flow_part name) one
    ∙ none-any mode.writing mode.direction (is_text name (codes "float") || is_text name (codes "clear")) (is_text name (codes "resize")) part is
made-part mode name value part (Some text) one is =
    let at = opened_place (out-Component part) in
    let free = free-by mode.writing mode.direction (is_text name (codes "float") || is_text name (codes "clear")) (is_text name (codes "resize")) at in
    ap (is_flow_part name) (put-solid part text)
    ∙ put-among part text (flow_keywords name)
    ∙ not-true (is_among (flow_keywords name) at text) (found (λ t. not (is_among (flow_keywords name) at t)) part (flow_keywords name) (meanings mode name) text free is)

made-by-parts : (mode : Mode) (name : List ℕ) (value parts : List Component) → parts_of value ≡ parts → is_flow_value name (value_by_parts mode name value parts) ≡ false
made-by-parts mode name value [] are = ap (is_flow_part name) are
made-by-parts mode name value (part ∷ []) are = made-part mode name value part (meaning mode name part) are refl
made-by-parts mode name value (part ∷ more ∷ rest) are = ap (is_flow_part name) are

-- All declarations.

all-by : (mode : Mode) (name : List ℕ) (value : List Component) (b : Bool) → is_logical name ≡ b
    → list_all is_physical (cond b (physical_logical mode name value) (declares name (physical_value mode name value) ∷ [])) ≡ true
all-by mode name value true is = all-logical mode name value
all-by mode name value false is =
    both (is_physical (declares name (physical_value mode name value))) true
    (both (not (is_logical name)) (not (is_flow_value name (physical_value mode name value))) (ap not is) (ap not (made-by-parts mode name value (parts_of value) refl)))
    refl

pub all-physical : (mode : Mode) (name : List ℕ) (value : List Component) → list_all is_physical (physical mode name value) ≡ true
all-physical mode name value = all-by mode name value (is_logical name) refl

again-each : (mode : Mode) (ds : List Physical) → list_all is_physical ds ≡ true → physical_all mode ds ≡ ds
again-each mode [] h = refl
again-each mode (d ∷ ds) h =
    let here = and-first (is_physical d) (list_all is_physical ds) h in
    let old = not-true (is_logical d.name) (and-first (not (is_logical d.name)) (not (is_flow_value d.name d.value)) here) in
    let plain = not-true (is_flow_value d.name d.value) (and-second (not (is_logical d.name)) (not (is_flow_value d.name d.value)) here) in
    ap (λ these. these ++ physical_all mode ds) (old-itself mode d.name d.value old plain)
    ∙ ap (λ these. d ∷ these) (again-each mode ds (and-second (is_physical d) (list_all is_physical ds) h))

pub again : (mode other : Mode) (name : List ℕ) (value : List Component) → physical_all other (physical mode name value) ≡ physical mode name value
again mode other name value = again-each other (physical mode name value) (all-physical mode name value)
