-- In each media list that component values spell each range is one of a feature that takes a range.
use Rattle.std.proofs.Common.{◌≡◌, ℕ, List, [], ◌∷◌, Bool, true, false, ◌&&◌, map, refl, ◌∙◌, sym, subst}
use Rattle.std.specs.Prelude.{Option, Some, None, if◌then◌else◌, codes}
use Rattle.std.specs.List.{list_all, list_any}
use Rattle.std.specs.Option.{option_map, option_map_or, option_or}
use Rattle.std.proofs.lemmas.Bool.{and_from}
use Rattle.css_tokens.specs.declared.kind.Kind.{Kind}
use Rattle.css_tokens.specs.declared.kind.Kind.TheVariants as kinds
use Rattle.css_tokens.specs.declared.component.Component.{Component}
use Rattle.css_tokens.specs.declared.component.Block as block
use Rattle.css_tokens.specs.Names.{name_of_word}
use Rattle.css_tokens.specs.Trees.{is_text}
use Rattle.media_spelling.specs.declared.condition.Condition.{Condition}
use Rattle.media_spelling.specs.declared.condition.Condition as condition
use Rattle.media_spelling.specs.declared.condition.Prefix.{Prefix}
use Rattle.media_spelling.specs.declared.condition.Prefix.TheVariants as prefixes
use Rattle.media_spelling.specs.declared.condition.Query.{Query}
use Rattle.media_spelling.specs.declared.condition.Relation.{Relation}
use Rattle.media_spelling.specs.ConditionFold.{folded-Not, folded-Feature, folded-Range}
use Rattle.prop_table.specs.OldFeatures.{is_range_feature}
use Rattle.media_spelling.specs.Spelling.{turned}
use Rattle.media_tree.specs.declared.mark.Separator.{Separator}
use Rattle.media_tree.specs.declared.mark.Separator.TheVariants as separators
use Rattle.media_tree.specs.declared.sign.Sign.{Sign}
use Rattle.media_tree.specs.declared.sign.Sign.TheVariants.{Gap, Comma, Not, Only, And, Or, Name, Within, Other}
use Rattle.media_tree.specs.ComponentInduction.{Each, by_components}
use Rattle.media_tree.specs.ComponentSigns.{sign_of-Single, sign_of-Block}
use Rattle.media_tree.specs.Conditions.{and_row, condition_of, kind_sign, name_sign, or_row, solid, token_sign, within}
use Rattle.media_tree.specs.Features.{behind_separator, boolean, feature_of, front_of, interval, is_same_way, name_in, plain, ranged, ray, rest_of, sections, separator_of, value_in}
use Rattle.media_tree.specs.Marks.{lowered}
use Rattle.media_tree.specs.Queries.{all_queries, block_sign, conjunction_of, inside_of, is_or, is_parens, makes, members_of, queries_of, queries_reading, query_before, query_of, sign_of, typed, with_condition}
use Rattle.media_clauses.specs.KnownRanges.{has_known_ranges, have_known_ranges, known_ranges}
use Rattle.media_clauses.proofs.BoolLemmas.{and-left}
use Rattle.media_clauses.proofs.SideLemmas.{known-And, known-Or}

-- the ranges of a condition are known, where there is one
abbrev Sound : Option Condition → Type 0
Sound None = Unit {0}
Sound (Some c) = has_known_ranges c ≡ true

sound-or : (a b : Option Condition) → Sound a → Sound b → Sound (option_or a b)
sound-or None b p q = q
sound-or (Some c) b p q = p

sound-if : (t : Bool) (c : Condition) → (t ≡ true → has_known_ranges c ≡ true) → Sound (if t then Some c else None)
sound-if true c h = h refl
sound-if false c h = tt

sound-unless : (t : Bool) (o : Option Condition) → Sound o → Sound (if t then None else o)
sound-unless true o h = tt
sound-unless false o h = h

-- Features.

sound-boolean : (name : Option (List ℕ)) → Sound (boolean name)
sound-boolean None = tt
sound-boolean (Some name) = folded-Feature known_ranges (record { name = name; value = None })

sound-plain : (name value : Option (List ℕ)) → Sound (plain name value)
sound-plain None value = tt
sound-plain (Some name) None = tt
sound-plain (Some name) (Some value) = folded-Feature known_ranges (record { name = name; value = Some value })

sound-ray : (name : Option (List ℕ)) (r : Relation) (value : Option (List ℕ)) → Sound (ray name r value)
sound-ray None r value = tt
sound-ray (Some name) r None = tt
sound-ray (Some name) r (Some value) =
    sound-if (is_range_feature name) (condition.Range (record { name = name; first = record { relation = r; value = value }; second = None }))
    (λ e. folded-Range known_ranges (record { name = name; first = record { relation = r; value = value }; second = None }) ∙ e)

sound-interval : (low : Option (List ℕ)) (r : Relation) (name : Option (List ℕ)) (s : Relation) (high : Option (List ℕ)) → Sound (interval low r name s high)
sound-interval None r name s high = tt
sound-interval (Some low) r None s high = tt
sound-interval (Some low) r (Some name) s None = tt
sound-interval (Some low) r (Some name) s (Some high) =
    sound-if (is_range_feature name && is_same_way r s) (condition.Range (record { name = name; first = record { relation = turned r; value = low }; second = Some (record { relation = s; value = high }) }))
    (λ e.
    folded-Range known_ranges (record { name = name; first = record { relation = turned r; value = low }; second = Some (record { relation = s; value = high }) })
    ∙ and-left (is_range_feature name) (is_same_way r s) e)

sound-ranged : (left : List Component) (r : Relation) (middle : List Component) (s : Separator) (right : List Component) → Sound (ranged left r middle s right)
sound-ranged left r middle separators.None right =
    sound-or (ray (name_in left) r (value_in middle)) (ray (name_in middle) (turned r) (value_in left)) (sound-ray (name_in left) r (value_in middle)) (sound-ray (name_in middle) (turned r) (value_in left))
sound-ranged left r middle separators.Colon right = tt
sound-ranged left r middle (separators.Relation s) right = sound-interval (value_in left) r (name_in middle) s (value_in right)

sound-sections : (left : List Component) (s : Separator) (rest : List Component) → Sound (sections left s rest)
sound-sections left separators.None rest = sound-boolean (name_in left)
sound-sections left separators.Colon rest = sound-plain (name_in left) (value_in rest)
sound-sections left (separators.Relation r) rest = sound-ranged left r (front_of rest) (separator_of (rest_of rest)) (behind_separator (rest_of rest))

sound-feature : (cs : List Component) → Sound (feature_of cs)
sound-feature cs = sound-sections (front_of cs) (separator_of (rest_of cs)) (behind_separator (rest_of cs))

-- Conditions.

-- the ranges of a condition in parentheses are known
abbrev Fine : Sign Condition → Type 0
Fine (Within c) = has_known_ranges c ≡ true
Fine w = Unit {0}

abbrev AllFine : List (Sign Condition) → Type 0
AllFine [] = Unit {0}
AllFine (w ∷ ws) = Fine w × AllFine ws

fine-if : (t : Bool) (a b : Sign Condition) → Fine a → Fine b → Fine (if t then a else b)
fine-if true a b p q = p
fine-if false a b p q = q

solid-fine : (ws : List (Sign Condition)) → AllFine ws → AllFine (solid ws)
solid-fine [] h = tt
solid-fine (Gap ∷ ws) h = solid-fine ws h.1
solid-fine (w ∷ ws) h = (h.0, solid-fine ws h.1)

abbrev SoundRow : Option (List Condition) → Type 0
SoundRow None = Unit {0}
SoundRow (Some cs) = list_all has_known_ranges cs ≡ true

row-cons : (c : Condition) (o : Option (List Condition)) → has_known_ranges c ≡ true → SoundRow o → SoundRow (option_map (λ cs. c ∷ cs) o)
row-cons c None p q = tt
row-cons c (Some cs) p q = and_from (has_known_ranges c) (list_all has_known_ranges cs) p q

and-row : (ws : List (Sign Condition)) → AllFine ws → SoundRow (and_row ws)
and-row [] h = refl
and-row (And ∷ Within c ∷ ws) h = row-cons c (and_row ws) h.1.0 (and-row ws h.1.1)
and-row ws h = tt

or-row : (ws : List (Sign Condition)) → AllFine ws → SoundRow (or_row ws)
or-row [] h = refl
or-row (Or ∷ Within c ∷ ws) h = row-cons c (or_row ws) h.1.0 (or-row ws h.1.1)
or-row ws h = tt

joined-and : (c : Condition) (o : Option (List Condition)) → has_known_ranges c ≡ true → SoundRow o → Sound (option_map (λ cs. condition.And (c ∷ cs)) o)
joined-and c None p q = tt
joined-and c (Some cs) p q = known-And (c ∷ cs) ∙ and_from (has_known_ranges c) (list_all has_known_ranges cs) p q

joined-or : (c : Condition) (o : Option (List Condition)) → has_known_ranges c ≡ true → SoundRow o → Sound (option_map (λ cs. condition.Or (c ∷ cs)) o)
joined-or c None p q = tt
joined-or c (Some cs) p q = known-Or (c ∷ cs) ∙ and_from (has_known_ranges c) (list_all has_known_ranges cs) p q

sound-condition : (ws : List (Sign Condition)) → AllFine ws → Sound (condition_of makes ws)
sound-condition (Not ∷ Within c ∷ []) h = folded-Not known_ranges c ∙ h.1.0
sound-condition (Within c ∷ []) h = h.0
sound-condition (Within c ∷ And ∷ ws) h = joined-and c (and_row (And ∷ ws)) h.0 (and-row (And ∷ ws) h.1)
sound-condition (Within c ∷ Or ∷ ws) h = joined-or c (or_row (Or ∷ ws)) h.0 (or-row (Or ∷ ws) h.1)
sound-condition ws h = tt

-- Components.

name-fine : (name : List ℕ) → Fine (name_sign name)
name-fine name =
    fine-if (is_text name (codes "not")) Not _ tt
    (fine-if (is_text name (codes "only")) Only _ tt
    (fine-if (is_text name (codes "and")) And _ tt
    (fine-if (is_text name (codes "or")) Or _ tt
    (fine-if (is_text name (codes "layer")) Other (Name name) tt tt))))

kind-fine : (kind : Kind) (text : List ℕ) → Fine (kind_sign kind text)
kind-fine kinds.Ident text = name-fine (lowered (name_of_word kinds.Ident text))
kind-fine k text = tt

within-fine : (o : Option Condition) → Sound o → Fine (within o)
within-fine None h = tt
within-fine (Some c) h = h

block-fine : (b : block.Block) (ws : List (Sign Condition)) → AllFine ws → Fine (block_sign b ws)
block-fine b ws h =
    fine-if (is_parens b) (within (inside_of b.items ws)) Other
    (within-fine (inside_of b.items ws) (sound-or (condition_of makes (solid ws)) (feature_of b.items) (sound-condition (solid ws) (solid-fine ws h)) (sound-feature b.items)))
    tt

each-fine : (cs : List Component) → Each (λ c. Fine (sign_of c)) cs → AllFine (map sign_of cs)
each-fine [] h = tt
each-fine (c ∷ cs) h = (h.0, each-fine cs h.1)

sign-fine : (c : Component) → Fine (sign_of c)
sign-fine c =
    by_components (λ d. Fine (sign_of d))
    (λ p. subst Fine (sym (sign_of-Single token_sign block_sign p)) (kind-fine p.kind p.text))
    (λ b each. subst Fine (sym (sign_of-Block token_sign block_sign b)) (block-fine b (map sign_of b.items) (each-fine b.items each)))
    c

signs-fine : (cs : List Component) → AllFine (map sign_of cs)
signs-fine [] = tt
signs-fine (c ∷ cs) = (sign-fine c, signs-fine cs)

-- Queries.

abbrev SoundQuery : Option Query → Type 0
SoundQuery None = Unit {0}
SoundQuery (Some q) = option_map_or has_known_ranges q.condition true ≡ true

with-condition : (p : Prefix) (media : Option (List ℕ)) (o : Option Condition) → Sound o → SoundQuery (with_condition p media o)
with-condition p media None h = tt
with-condition p media (Some c) h = h

sound-typed : (p : Prefix) (media : List ℕ) (ws : List (Sign Condition)) → AllFine ws → SoundQuery (typed p media ws)
sound-typed p media [] h = refl
sound-typed p media (And ∷ ws) h = with-condition p (Some media) (conjunction_of ws) (sound-unless (list_any is_or ws) (condition_of makes ws) (sound-condition ws h.1))
sound-typed p media ws h = tt

sound-query : (ws : List (Sign Condition)) → AllFine ws → SoundQuery (query_of ws)
sound-query (Not ∷ Name media ∷ ws) h = sound-typed prefixes.Not media ws h.1.1
sound-query (Only ∷ Name media ∷ ws) h = sound-typed prefixes.Only media ws h.1.1
sound-query (Name media ∷ ws) h = sound-typed prefixes.Plain media ws h.1
sound-query ws h = with-condition prefixes.Plain None (condition_of makes ws) (sound-condition ws h)

abbrev AllMembers : List (List (Sign Condition)) → Type 0
AllMembers [] = Unit {0}
AllMembers (ws ∷ members) = AllFine ws × AllMembers members

members-fine : (ws : List (Sign Condition)) → AllFine ws → AllFine (members_of ws).first × AllMembers (members_of ws).rest
members-fine [] h = (tt, tt)
members-fine (Comma ∷ ws) h = let m = members-fine ws h.1 in (tt, (m.0, m.1))
members-fine (w ∷ ws) h = let m = members-fine ws h.1 in ((h.0, m.0), m.1)

abbrev SoundList : Option (List Query) → Type 0
SoundList None = Unit {0}
SoundList (Some qs) = have_known_ranges qs ≡ true

sound-before : (o : Option Query) (os : Option (List Query)) → SoundQuery o → SoundList os → SoundList (query_before o os)
sound-before None os p q = tt
sound-before (Some r) None p q = tt
sound-before (Some r) (Some rs) p q = and_from (option_map_or has_known_ranges r.condition true) (have_known_ranges rs) p q

sound-members : (members : List (List (Sign Condition))) → AllMembers members → SoundList (all_queries members)
sound-members [] h = refl
sound-members (ws ∷ members) h = sound-before (query_of ws) (all_queries members) (sound-query ws h.0) (sound-members members h.1)

sound-list : (ws : List (Sign Condition)) → AllFine ws → SoundList (queries_of ws)
sound-list [] h = refl
sound-list (w ∷ ws) h =
    let m = members-fine (w ∷ ws) h in
    sound-before (query_of (members_of (w ∷ ws)).first) (all_queries (members_of (w ∷ ws)).rest) (sound-query (members_of (w ∷ ws)).first m.0) (sound-members (members_of (w ∷ ws)).rest m.1)

pub read-known : (cs : List Component) (qs : List Query) → queries_reading cs ≡ Some qs → have_known_ranges qs ≡ true
read-known cs qs e = subst SoundList e (sound-list (solid (map sign_of cs)) (solid-fine (map sign_of cs) (signs-fine cs)))
