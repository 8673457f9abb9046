-- The texts of the conditions of groups are in UTF-8 and have no control character.
use Rattle.std.proofs.Common.{◌≡◌, ℕ, List, [], ◌∷◌, ◌++◌, map, flat_map, Bool, true, false, ◌&&◌, ◌||◌, not, cond, Option, Some, None, refl, sym, ◌∙◌, ap, subst, IsTrue, codes, append_assoc, inl, inr}
use Rattle.std.specs.List.{AllByRecursion, list_all, list_any}
use Rattle.std.specs.Str.{IsUtf8, is_utf8}
use Rattle.std.proofs.lemmas.Bool.{and_parts, cases_Bool, eqb-true, false≢true}
use Rattle.std.proofs.lemmas.List.{append-nil, map-append}
use Rattle.std.proofs.lemmas.List.Folds.{flat_map-map}
use Rattle.std.proofs.lemmas.Grind.{flat_map-append}
use Rattle.std.proofs.lemmas.Str.{IsUtf8-append, IsUtf8-from_is_utf8}
use Rattle.css_tokens.specs.declared.component.Component.{Component}
use Rattle.css_tokens.specs.declared.kind.Kind.{Kind}
use Rattle.css_tokens.specs.declared.kind.Kind.TheVariants as kinds
use Rattle.css_tokens.specs.Again.{after_ident, begins_none}
use Rattle.css_tokens.specs.NameText.{name_text}
use Rattle.css_tokens.specs.Names.{is_name}
use Rattle.css_tokens.specs.Piece.{Piece, Word, spelled, word_of}
use Rattle.css_tokens.specs.Tokens.{ReadsTo, is_control}
use Rattle.css_tokens.specs.Trees.{all_formed, closing, is_text, pieces_all, pieces_of-Block, words_all}
use Rattle.css_tokens.specs.Values.{after_gap, is_gap, is_white, printed_words, short_word, shortened_words, single_gaps, value_words, word_kind}
use Rattle.css_tokens.specs.ValueAgain.{value_again}
use Rattle.media_spelling.specs.Components.{colon, comma, delim, ident, keyword, parens, space}
use Rattle.media_spelling.specs.ConditionFold as condition_fold
use Rattle.media_spelling.specs.ConditionInduction as condition_induction
use Rattle.media_spelling.specs.Spelling.{Spelled, bound_before, bound_behind, bounds_spelling, ends_in_dashes, feature_value, further, joined, more_spelling, prefix_spelling, queries_spelling, queries_text, query_spelling, relation_spelling, space_behind, spelled_condition, spelled_supports, spelling, supports_spelling, supports_steps, supports_text, turned, typed_spelling, value_spelling}
use Rattle.media_spelling.specs.SupportsFold as supports_fold
use Rattle.media_spelling.specs.SupportsInduction as supports_induction
use Rattle.media_spelling.specs.SupportsValues.{DeclaredValuesStand}
use Rattle.media_spelling.specs.TextComponents.{levels_of, or_word, text_components, words_in}
use Rattle.media_spelling.specs.declared.condition.Bound.{Bound}
use Rattle.media_spelling.specs.declared.condition.Condition.{Condition}
use Rattle.media_spelling.specs.declared.condition.Prefix.{Prefix}
use Rattle.media_spelling.specs.declared.condition.Prefix.TheVariants as prefixes
use Rattle.media_spelling.specs.declared.condition.Query.{Query}
use Rattle.media_spelling.specs.declared.condition.Relation.{Relation}
use Rattle.media_spelling.specs.declared.condition.Relation.TheVariants as relations
use Rattle.media_spelling.specs.declared.supports.Supports.{Supports}
use Rattle.media_spelling.specs.declared.supports.Supports as supports
use Rattle.media_tree.specs.ReadableQueries.{are_readable_queries, has_two, is_lower_name, is_readable_condition, is_readable_query, is_readable_type, is_readable_typed, readable}
use Rattle.media_tree.specs.ReadValues.{StandsAsValue, ValuesStand, bound_values, feature_values, values, values_behind, values_in, values_of}
use Rattle.media_tree.specs.SupportsAgain.{is_readable_supports, is_utf8_value, readable as supports_readable}
use Rattle.sheet_types.specs.declared.sheet.GroupCondition.{GroupCondition}
use Rattle.sheet_types.specs.declared.sheet.GroupCondition.TheVariants.{Media, Supports as OfSupports}
use Rattle.sheet_types.specs.SheetTexts.{condition_text}
use Rattle.sheet_types.specs.Standing.{ConditionStands}
use Rattle.sheet_types.proofs.ItemShapes.{each-left, each-right}
use Rattle.selector_types.specs.ReadableSelectors.{is_clean}
use Rattle.css_rules.specs.Printable.{IsPrintableCondition}
use Rattle.css_rules.proofs.CleanNames.{clean-append, clean-from, clean-parts, name-clean, plain-clean}
use Rattle.css_rules.proofs.CleanTexts.{behind-clean}
use Rattle.css_rules.proofs.DeclarationLemmas.{or_false_left, or_false_right}
use Rattle.css_rules.proofs.Heads.{single_of, word}
use Rattle.css_rules.proofs.SheetSpelled.{text_of, text-append, text-cons}
use Rattle.css_rules.proofs.SoughtAgain.{any-after_gap, any-before_gap, any-parted, any-single_gaps}

-- what is ensured of the texts of conditions
pub record ConditionLaws : Type 0 where
  pub queries : (qs : List Query) (rest : List ℕ) → IsTrue (are_readable_queries qs) → ValuesStand qs → IsTrue (begins_none after_ident rest) → ReadsTo (queries_text qs ++ rest) (words_all (queries_spelling qs)) rest
  pub supports : (s : Supports) (rest : List ℕ) → IsTrue (is_readable_supports s) → DeclaredValuesStand s → ReadsTo (supports_text s ++ rest) (words_all (supports_spelling s)) rest
  pub words : (v : List Component) → IsTrue (all_formed v) → words_all (value_again v) ≡ value_words v
  pub before : (t : List ℕ) (ws : List Word) (r : List ℕ) → ReadsTo t ws r → list_any is_control (spelled ws) ≡ false

-- Texts in UTF-8.

-- the components spell such a text
abbrev IsFine : List Component → Type 0
IsFine cs = IsUtf8 (text_of cs)

plain-utf8 : (t : List ℕ) → is_clean t ≡ true → IsUtf8 t
plain-utf8 t h = (clean-parts t h).0

fine-append : (xs ys : List Component) → IsFine xs → IsFine ys → IsFine (xs ++ ys)
fine-append xs ys a b = subst IsUtf8 (sym (text-append xs ys)) (IsUtf8-append (text_of xs) (text_of ys) a b)

fine-nothing : IsFine []
fine-nothing = plain-utf8 [] (plain-clean [] refl)

fine-cons : (kind : Kind) (text : List ℕ) (cs : List Component) → is_clean text ≡ true → IsFine cs → IsFine (single_of (word kind text) ∷ cs)
fine-cons kind text cs clean rest = subst IsUtf8 (sym (text-cons (word kind text) cs)) (IsUtf8-append text (text_of cs) (plain-utf8 text clean) rest)

words-parens : (items cs : List Component) → words_all (parens items ∷ cs) ≡ word kinds.Open (codes "(") ∷ (words_all items ++ word kinds.Close (codes ")") ∷ words_all cs)
words-parens items cs =
    let opening : Piece = record { kind = kinds.Open; text = codes "("; at = 0 } in
    let close = closing opening 0 in
    ap (λ (ps : List Piece). map word_of (ps ++ pieces_all cs)) (pieces_of-Block (record { opening = opening; items = items; close = 0 }))
    ∙ ap (λ (ps : List Piece). word kinds.Open (codes "(") ∷ map word_of ps) (append_assoc (pieces_all items) (close ∷ []) (pieces_all cs))
    ∙ ap (λ (ws : List Word). word kinds.Open (codes "(") ∷ ws) (map-append word_of (pieces_all items) (close ∷ pieces_all cs))

fine-parens : (items : List Component) → IsFine items → IsFine (parens items ∷ [])
fine-parens items inner =
    let whole = ap spelled (words-parens items []) ∙ ap (λ t. codes "(" ++ t) (flat_map-append (λ (w : Word). w.text) (words_all items) (word kinds.Close (codes ")") ∷ [])) in
    let close = plain-utf8 (codes ")") (plain-clean (codes ")") refl) in
    subst IsUtf8 (sym whole) (IsUtf8-append (codes "(") (text_of items ++ codes ")") (plain-utf8 (codes "(") (plain-clean (codes "(") refl)) (IsUtf8-append (text_of items) (codes ")") inner close))

fine-keyword : (text : List ℕ) (cs : List Component) → is_clean text ≡ true → IsFine cs → IsFine (keyword text ∷ space ∷ cs)
fine-keyword text cs clean rest = fine-cons kinds.Ident text (space ∷ cs) clean (fine-cons kinds.White (codes " ") cs (plain-clean (codes " ") refl) rest)

-- How a condition is spelled.
record AreFine (s : Spelled) : Type 0 where
  alone : IsFine s.alone
  inside : IsFine s.inside
  behind : IsFine s.behind

further-fine : (joint : List ℕ) (ss : List Spelled) → is_clean joint ≡ true → AllByRecursion AreFine ss → IsFine (further joint ss)
further-fine joint [] clean each = fine-nothing
further-fine joint (s ∷ ss) clean each =
    fine-append (space ∷ keyword joint ∷ space ∷ s.inside) (further joint ss)
    (fine-cons kinds.White (codes " ") (keyword joint ∷ space ∷ s.inside) (plain-clean (codes " ") refl) (fine-keyword joint s.inside clean each.0.inside))
    (further-fine joint ss clean each.1)

joined-fine : (joint : List ℕ) (ss : List Spelled) → is_clean joint ≡ true → AllByRecursion AreFine ss → IsFine (joined joint ss)
joined-fine joint [] clean each = fine-nothing
joined-fine joint (s ∷ ss) clean each = fine-append s.inside (further joint ss) each.0.inside (further-fine joint ss clean each.1)

compound-fine : (cs : List Component) → IsFine cs → AreFine (record { alone = cs; inside = parens cs ∷ []; behind = cs })
compound-fine cs fine = record { alone = fine; inside = fine-parens cs fine; behind = fine }

alternative-fine : (cs : List Component) → IsFine cs → AreFine (record { alone = cs; inside = parens cs ∷ []; behind = parens cs ∷ [] })
alternative-fine cs fine = record { alone = fine; inside = fine-parens cs fine; behind = fine-parens cs fine }

enclosed-fine : (items : List Component) → IsFine items → AreFine (record { alone = parens items ∷ []; inside = parens items ∷ []; behind = parens items ∷ [] })
enclosed-fine items fine = let whole = fine-parens items fine in record { alone = whole; inside = whole; behind = whole }

negated-fine : (s : Spelled) → AreFine s → AreFine (record { alone = keyword (codes "not") ∷ space ∷ s.inside; inside = parens (keyword (codes "not") ∷ space ∷ s.inside) ∷ []; behind = keyword (codes "not") ∷ space ∷ s.inside })
negated-fine s fine = compound-fine (keyword (codes "not") ∷ space ∷ s.inside) (fine-keyword (codes "not") s.inside (plain-clean (codes "not") refl) fine.inside)

-- Values of media features.

same-text : (a b : List ℕ) → is_text a b ≡ true → a ≡ b
same-text [] [] h = refl
same-text [] (y ∷ b) h = absurd (false≢true h)
same-text (x ∷ a) [] h = absurd (false≢true h)
same-text (x ∷ a) (y ∷ b) h =
    let parts = and_parts _ (is_text a b) h in
    ap (λ (n : ℕ). n ∷ a) (eqb-true x y parts.0) ∙ ap (λ (t : List ℕ). y ∷ t) (same-text a b parts.1)

or_word-text : (cs : List Component) (text : List ℕ) → text_of (or_word cs text) ≡ text
or_word-text cs text = elim (cases_Bool (all_formed cs && is_text (text_of cs) text)) [
  | inl e ↦
      ap (λ b. text_of (cond b cs (single_of (word kinds.Ident text) ∷ []))) e
      ∙ same-text (text_of cs) text (and_parts (all_formed cs) (is_text (text_of cs) text) e).1
  | inr e ↦ ap (λ b. text_of (cond b cs (single_of (word kinds.Ident text) ∷ []))) e ∙ text-cons (word kinds.Ident text) [] ∙ append-nil text
]

components-text : (value : List ℕ) → text_of (text_components value) ≡ value
unfolding text_components
components-text value = or_word-text (levels_of (words_in value)).here value

value-fine : (value : List ℕ) → StandsAsValue value → IsFine (text_components value)
value-fine value stands = subst IsUtf8 (sym (components-text value)) (IsUtf8-from_is_utf8 value stands.utf8)

relation-fine : (r : Relation) → IsFine (relation_spelling r)
relation-fine relations.Less = fine-cons kinds.Delim (codes "<") [] (plain-clean (codes "<") refl) fine-nothing
relation-fine relations.LessEqual = fine-cons kinds.Delim (codes "<") (delim (codes "=") ∷ []) (plain-clean (codes "<") refl) (fine-cons kinds.Delim (codes "=") [] (plain-clean (codes "=") refl) fine-nothing)
relation-fine relations.Greater = fine-cons kinds.Delim (codes ">") [] (plain-clean (codes ">") refl) fine-nothing
relation-fine relations.GreaterEqual = fine-cons kinds.Delim (codes ">") (delim (codes "=") ∷ []) (plain-clean (codes ">") refl) (fine-cons kinds.Delim (codes "=") [] (plain-clean (codes "=") refl) fine-nothing)
relation-fine relations.Equal = fine-cons kinds.Delim (codes "=") [] (plain-clean (codes "=") refl) fine-nothing

space-fine : (value : List ℕ) → IsFine (space_behind value)
space-fine value = at (ends_in_dashes value)
  where
    at : (b : Bool) → IsFine (cond b (space ∷ []) [])
    at true = fine-cons kinds.White (codes " ") [] (plain-clean (codes " ") refl) fine-nothing
    at false = fine-nothing

behind-fine : (b : Bound) → StandsAsValue b.value → IsFine (bound_behind b)
behind-fine b stands = fine-append (relation_spelling b.relation) (text_components b.value) (relation-fine b.relation) (value-fine b.value stands)

before-fine : (b : Bound) → StandsAsValue b.value → IsFine (bound_before b)
before-fine b stands =
    fine-append (text_components b.value) (space_behind b.value ++ relation_spelling (turned b.relation)) (value-fine b.value stands)
    (fine-append (space_behind b.value) (relation_spelling (turned b.relation)) (space-fine b.value) (relation-fine (turned b.relation)))

name-fine : (name : List ℕ) (cs : List Component) → is_name name ≡ true → IsFine cs → IsFine (ident name ∷ cs)
name-fine name cs named rest = fine-cons kinds.Ident (name_text name) cs (name-clean name named) rest

bounds-fine : (name : List ℕ) (first : Bound) (second : Option Bound) → is_name name ≡ true → AllByRecursion StandsAsValue (first.value ∷ bound_values second) → IsFine (bounds_spelling name first second)
bounds-fine name first None named stands = name-fine name (bound_behind first) named (behind-fine first stands.0)
bounds-fine name first (Some second) named stands =
    fine-append (bound_before first) (ident name ∷ bound_behind second) (before-fine first stands.0) (name-fine name (bound_behind second) named (behind-fine second stands.1.0))

feature_value-fine : (value : Option (List ℕ)) → AllByRecursion StandsAsValue (feature_values value) → IsFine (feature_value value)
feature_value-fine None stands = fine-nothing
feature_value-fine (Some value) stands = fine-cons kinds.Colon (codes ":") (text_components value) (plain-clean (codes ":") refl) (value-fine value stands.0)

-- Media conditions.

abbrev IsCondition : Condition → Type 0
IsCondition c = is_readable_condition c ≡ true → AllByRecursion StandsAsValue (values_in c) → AreFine (spelled_condition c)

all-fine : (cs : List Condition) → condition_induction.Each IsCondition cs → list_all (λ b. b) (map is_readable_condition cs) ≡ true → AllByRecursion StandsAsValue (flat_map values_in cs) → AllByRecursion AreFine (map spelled_condition cs)
all-fine [] each h stands = tt
all-fine (c ∷ cs) each h stands =
    let parts = and_parts (is_readable_condition c) (list_all (λ b. b) (map is_readable_condition cs)) h in
    (each.0 parts.0 (each-left StandsAsValue (values_in c) (flat_map values_in cs) stands), all-fine cs each.1 parts.1 (each-right StandsAsValue (values_in c) (flat_map values_in cs) stands))

abbrev AllValues : List (List ℕ) → Type 0
AllValues vs = AllByRecursion StandsAsValue vs

-- the values of conditions in one another
inner_values : (cs : List Condition) → flat_map (λ (v : List (List ℕ)). v) (map values_in cs) ≡ flat_map values_in cs
inner_values cs = flat_map-map (λ (v : List (List ℕ)). v) values_in cs

condition-fine : (c : Condition) → IsCondition c
condition-fine c =
    condition_induction.by_conditions IsCondition (record {
      and_of = λ cs each h stands.
          let parts = and_parts (has_two (map is_readable_condition cs)) _ (sym (condition_fold.folded-And readable cs) ∙ h) in
          let inner = all-fine cs each parts.1 (subst AllValues (condition_fold.folded-And values cs ∙ inner_values cs) stands) in
          subst AreFine (sym (condition_fold.folded-And spelling cs)) (compound-fine (joined (codes "and") (map spelled_condition cs)) (joined-fine (codes "and") (map spelled_condition cs) (plain-clean (codes "and") refl) inner));
      or_of = λ cs each h stands.
          let parts = and_parts (has_two (map is_readable_condition cs)) _ (sym (condition_fold.folded-Or readable cs) ∙ h) in
          let inner = all-fine cs each parts.1 (subst AllValues (condition_fold.folded-Or values cs ∙ inner_values cs) stands) in
          subst AreFine (sym (condition_fold.folded-Or spelling cs)) (alternative-fine (joined (codes "or") (map spelled_condition cs)) (joined-fine (codes "or") (map spelled_condition cs) (plain-clean (codes "or") refl) inner));
      not_of = λ d one h stands.
          let inner = one (sym (condition_fold.folded-Not readable d) ∙ h) (subst AllValues (condition_fold.folded-Not values d) stands) in
          subst AreFine (sym (condition_fold.folded-Not spelling d)) (negated-fine (spelled_condition d) inner);
      feature = λ f h stands.
          let named = (and_parts (is_name f.name) _ (and_parts (is_lower_name f.name) _ (sym (condition_fold.folded-Feature readable f) ∙ h)).0).0 in
          let value = feature_value-fine f.value (subst AllValues (condition_fold.folded-Feature values f) stands) in
          subst AreFine (sym (condition_fold.folded-Feature spelling f)) (enclosed-fine (ident f.name ∷ feature_value f.value) (name-fine f.name (feature_value f.value) named value));
      range = λ r h stands.
          let parts = and_parts _ _ (sym (condition_fold.folded-Range readable r) ∙ h) in
          let named = (and_parts (is_name r.name) _ (and_parts (is_lower_name r.name) _ parts.1).0).0 in
          subst AreFine (sym (condition_fold.folded-Range spelling r)) (enclosed-fine (bounds_spelling r.name r.first r.second) (bounds-fine r.name r.first r.second named (subst AllValues (condition_fold.folded-Range values r) stands)));
    }) c

-- Media queries.

typed-fine : (prefix : Prefix) (media : Option (List ℕ)) (c : Option Condition) → is_readable_typed prefix media c ≡ true → AllValues (values_behind c) → IsFine (typed_spelling media c)
typed-fine prefix (Some media) None h stands =
    let parts = and_parts (is_readable_type media) true h in
    name-fine media [] (and_parts (is_name media) _ (and_parts (is_lower_name media) _ parts.0).0).0 fine-nothing
typed-fine prefix (Some media) (Some c) h stands =
    let parts = and_parts (is_readable_type media) (is_readable_condition c) h in
    let named = (and_parts (is_name media) _ (and_parts (is_lower_name media) _ parts.0).0).0 in
    let behind = (spelled_condition c).behind in
    name-fine media (space ∷ keyword (codes "and") ∷ space ∷ behind) named
    (fine-cons kinds.White (codes " ") (keyword (codes "and") ∷ space ∷ behind) (plain-clean (codes " ") refl)
    (fine-keyword (codes "and") behind (plain-clean (codes "and") refl) (condition-fine c parts.1 stands).behind))
typed-fine prefixes.Plain None (Some c) h stands = (condition-fine c h stands).alone
typed-fine prefixes.Not None (Some c) h stands = absurd (false≢true h)
typed-fine prefixes.Only None (Some c) h stands = absurd (false≢true h)
typed-fine prefixes.Plain None None h stands = absurd (false≢true h)
typed-fine prefixes.Not None None h stands = absurd (false≢true h)
typed-fine prefixes.Only None None h stands = absurd (false≢true h)

prefix-fine : (prefix : Prefix) → IsFine (prefix_spelling prefix)
prefix-fine prefixes.Plain = fine-nothing
prefix-fine prefixes.Not = fine-keyword (codes "not") [] (plain-clean (codes "not") refl) fine-nothing
prefix-fine prefixes.Only = fine-keyword (codes "only") [] (plain-clean (codes "only") refl) fine-nothing

query-fine : (q : Query) → is_readable_query q ≡ true → AllValues (values_behind q.condition) → IsFine (query_spelling q)
query-fine q h stands = fine-append (prefix_spelling q.prefix) (typed_spelling q.media q.condition) (prefix-fine q.prefix) (typed-fine q.prefix q.media q.condition h stands)

more-fine : (qs : List Query) → are_readable_queries qs ≡ true → ValuesStand qs → IsFine (more_spelling (map query_spelling qs))
more-fine [] h stands = fine-nothing
more-fine (q ∷ qs) h stands =
    let parts = and_parts (is_readable_query q) (are_readable_queries qs) h in
    let here = each-left StandsAsValue (values_behind q.condition) (values_of qs) stands in
    fine-append (comma ∷ query_spelling q) (more_spelling (map query_spelling qs))
    (fine-cons kinds.Comma (codes ",") (query_spelling q) (plain-clean (codes ",") refl) (query-fine q parts.0 here))
    (more-fine qs parts.1 (each-right StandsAsValue (values_behind q.condition) (values_of qs) stands))

queries-fine : (qs : List Query) → are_readable_queries qs ≡ true → ValuesStand qs → IsUtf8 (queries_text qs)
queries-fine [] h stands = fine-nothing
queries-fine (q ∷ qs) h stands =
    let parts = and_parts (is_readable_query q) (are_readable_queries qs) h in
    let here = each-left StandsAsValue (values_behind q.condition) (values_of qs) stands in
    fine-append (query_spelling q) (more_spelling (map query_spelling qs)) (query-fine q parts.0 here) (more-fine qs parts.1 (each-right StandsAsValue (values_behind q.condition) (values_of qs) stands))

-- Values in supports conditions.

abbrev is_broken : Word → Bool
is_broken w = not (is_utf8 w.text)

plain-whole : (t : List ℕ) → is_clean t ≡ true → not (is_utf8 t) ≡ false
plain-whole t h = ap not (and_parts (is_utf8 t) (not (list_any is_control t)) h).0

none-broken : (ws : List Word) → list_all (λ w. is_utf8 w.text) ws ≡ true → list_any is_broken ws ≡ false
none-broken [] h = refl
none-broken (w ∷ ws) h =
    let parts = and_parts (is_utf8 w.text) (list_all (λ w. is_utf8 w.text) ws) h in
    ap (λ b. b || list_any is_broken ws) (ap not parts.0) ∙ none-broken ws parts.1

short-whole : (w : Word) → is_broken w ≡ false → is_broken (short_word w) ≡ false
short-whole w h = at (is_white w.kind) (is_gap w.kind)
  where
    at : (white gap : Bool) → not (is_utf8 (cond white (codes " ") (cond gap (codes "/**/") w.text))) ≡ false
    at true gap = plain-whole (codes " ") (plain-clean (codes " ") refl)
    at false true = plain-whole (codes "/**/") (plain-clean (codes "/**/") refl)
    at false false = h

short-broken : (ws : List Word) → list_any is_broken ws ≡ false → list_any is_broken (map short_word ws) ≡ false
short-broken [] h = refl
short-broken (w ∷ ws) h =
    ap (λ b. b || list_any is_broken (map short_word ws)) (short-whole w (or_false_left (is_broken w) (list_any is_broken ws) h))
    ∙ short-broken ws (or_false_right (is_broken w) (list_any is_broken ws) h)

printed-broken : (ws : List Word) → list_any is_broken ws ≡ false → list_any is_broken (printed_words ws) ≡ false
printed-broken ws h =
    let short = map short_word ws in
    let spaced = single_gaps word_kind short in
    any-parted is_broken (shortened_words ws) (plain-whole (codes "/**/") (plain-clean (codes "/**/") refl))
    (any-before_gap is_broken (after_gap word_kind spaced) (any-after_gap is_broken spaced (any-single_gaps is_broken short (short-broken ws h))))

whole-utf8 : (ws : List Word) → list_any is_broken ws ≡ false → IsUtf8 (spelled ws)
whole-utf8 [] h = plain-utf8 [] (plain-clean [] refl)
whole-utf8 (w ∷ ws) h =
    IsUtf8-append w.text (spelled ws) (IsUtf8-from_is_utf8 w.text (not_false (is_utf8 w.text) (or_false_left (is_broken w) (list_any is_broken ws) h))) (whole-utf8 ws (or_false_right (is_broken w) (list_any is_broken ws) h))
  where
    not_false : (b : Bool) → not b ≡ false → b ≡ true
    not_false true e = refl
    not_false false e = sym e

module _ (laws : ConditionLaws) where
  printed-fine : (value : List Component) → all_formed value ≡ true → is_utf8_value value ≡ true → IsFine (value_spelling value)
  printed-fine value formed utf8 =
      let words = ap (λ b. words_all (cond b (value_again value) (single_of (word kinds.Ident (spelled (value_words value))) ∷ []))) formed ∙ laws.words value formed in
      subst IsUtf8 (sym (ap spelled words)) (whole-utf8 (value_words value) (printed-broken (words_all value) (none-broken (words_all value) utf8)))

  -- Supports conditions.

  abbrev IsSupports : Supports → Type 0
  IsSupports s = is_readable_supports s ≡ true → AreFine (spelled_supports s)

  every-fine : (cs : List Supports) → supports_induction.Each IsSupports cs → list_all (λ b. b) (map is_readable_supports cs) ≡ true → AllByRecursion AreFine (map spelled_supports cs)
  every-fine [] each h = tt
  every-fine (c ∷ cs) each h = let parts = and_parts (is_readable_supports c) (list_all (λ b. b) (map is_readable_supports cs)) h in (each.0 parts.0, every-fine cs each.1 parts.1)

  declared-fine : (name : List ℕ) (value : List Component) → IsSupports (supports.Declared name value)
  declared-fine name value h =
      let named = and_parts (is_name name) _ (sym (supports_fold.folded-Declared supports_readable name value) ∙ h) in
      let lower = and_parts _ _ named.1 in
      let formed = and_parts (all_formed value) _ lower.1 in
      let utf8 = (and_parts (is_utf8_value value) _ formed.1).0 in
      let inside = fine-cons kinds.Colon (codes ":") (value_spelling value) (plain-clean (codes ":") refl) (printed-fine value formed.0 utf8) in
      subst AreFine (sym (supports_fold.folded-Declared supports_steps name value)) (enclosed-fine (ident name ∷ colon ∷ value_spelling value) (name-fine name (colon ∷ value_spelling value) named.0 inside))

  supports-fine : (s : Supports) → IsSupports s
  supports-fine s =
      supports_induction.by_supports IsSupports (record {
        and_of = λ cs each h.
            let parts = and_parts (has_two (map is_readable_supports cs)) _ (sym (supports_fold.folded-And supports_readable cs) ∙ h) in
            let inner = joined-fine (codes "and") (map spelled_supports cs) (plain-clean (codes "and") refl) (every-fine cs each parts.1) in
            subst AreFine (sym (supports_fold.folded-And supports_steps cs)) (compound-fine (joined (codes "and") (map spelled_supports cs)) inner);
        or_of = λ cs each h.
            let parts = and_parts (has_two (map is_readable_supports cs)) _ (sym (supports_fold.folded-Or supports_readable cs) ∙ h) in
            let inner = joined-fine (codes "or") (map spelled_supports cs) (plain-clean (codes "or") refl) (every-fine cs each parts.1) in
            subst AreFine (sym (supports_fold.folded-Or supports_steps cs)) (compound-fine (joined (codes "or") (map spelled_supports cs)) inner);
        not_of = λ c one h. subst AreFine (sym (supports_fold.folded-Not supports_steps c)) (negated-fine (spelled_supports c) (one (sym (supports_fold.folded-Not supports_readable c) ∙ h)));
        declared = declared-fine;
        function = λ at h. absurd (false≢true (sym (supports_fold.folded-Function supports_readable at) ∙ h));
      }) s

  -- The texts of conditions.

  pub conditions-clean : (c : GroupCondition) → IsPrintableCondition c → ConditionStands c → is_clean (condition_text c) ≡ true
  conditions-clean (Media queries) fine stands =
      let text = queries_text queries in
      let none = laws.before (text ++ []) (words_all (queries_spelling queries)) [] (laws.queries queries [] fine.readable fine.values refl) in
      clean-append (codes "@media") _ (plain-clean (codes "@media") refl) (behind-clean text (clean-from text (queries-fine queries fine.readable fine.values) none))
  conditions-clean (OfSupports condition) fine stands =
      let text = supports_text condition in
      let none = laws.before (text ++ []) (words_all (supports_spelling condition)) [] (laws.supports condition [] fine stands) in
      clean-append (codes "@supports") _ (plain-clean (codes "@supports") refl) (behind-clean text (clean-from text (supports-fine condition fine).alone none))
