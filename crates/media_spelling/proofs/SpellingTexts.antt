-- The texts of what media queries and supports conditions are spelled with.
use Rattle.std.proofs.Common.{◌≡◌, ℕ, List, [], ◌∷◌, ◌++◌, map, Bool, true, false, refl, sym, ap, ◌∙◌, append_assoc, nat_eq, eqb-true}
use Rattle.std.specs.Prelude.{codes, IsTrue, Option, Some, None, flat_map, if◌then◌else◌, ◌&&◌}
use Rattle.std.proofs.lemmas.Bool.{and_parts, false≢true}
use Rattle.std.proofs.lemmas.List.{append-nil, map-append}
use Rattle.std.proofs.lemmas.Grind.{flat_map-append}
use Rattle.css_tokens.specs.declared.kind.Kind.{Kind}
use Rattle.css_tokens.specs.declared.kind.Kind.TheVariants as kinds
use Rattle.css_tokens.specs.declared.component.Component.{Component}
use Rattle.css_tokens.specs.NameText.{name_text}
use Rattle.css_tokens.specs.Piece.{Piece, Word, word_of, spelled}
use Rattle.css_tokens.specs.Trees.{all_formed, is_text, pieces_of, pieces_all, words_all, closing, closing_text, pieces_of-Single, pieces_of-Block}
use Rattle.css_tokens.specs.ValueAgain.{value_again}
use Rattle.css_tokens.specs.Values.{value_text, value_words}
use Rattle.media_spelling.specs.declared.condition.Bound.{Bound}
use Rattle.media_spelling.specs.declared.condition.Condition.{Condition}
use Rattle.media_spelling.specs.declared.condition.Condition as condition
use Rattle.media_spelling.specs.declared.condition.Feature as feature
use Rattle.media_spelling.specs.declared.condition.Prefix.TheVariants as prefixes
use Rattle.media_spelling.specs.declared.condition.Query.{Query}
use Rattle.media_spelling.specs.declared.condition.Range as range
use Rattle.media_spelling.specs.declared.condition.Relation.{Relation}
use Rattle.media_spelling.specs.declared.condition.Relation.TheVariants as relations
use Rattle.media_spelling.specs.declared.supports.Supports.{Supports}
use Rattle.media_spelling.specs.declared.supports.Supports as supports
use Rattle.media_spelling.specs.Components.{block, colon, comma, delim, ident, keyword, parens, single, space, text_of}
use Rattle.media_spelling.specs.TextComponents.{levels_of, or_word, text_components, words_in}
use Rattle.media_spelling.specs.ConditionFold as condition_fold
use Rattle.media_spelling.specs.SupportsFold as supports_fold
use Rattle.media_spelling.specs.Spelling.{Spelled, alternative, bound_before, bound_behind, bounds_spelling, compound, declaration_spelling, ends_in_dashes, enclosed, feature_spelling, feature_value, further, joined, more_spelling, negated, prefix_spelling, queries_spelling, queries_text, query_spelling, range_spelling, relation_spelling, space_behind, spelled_condition, spelled_supports, spelling, supports_spelling, supports_steps, supports_text, turned, typed_spelling, value_spelling}
use Rattle.media_spelling.specs.Private.Texts.{alone_text, behind_text, bound_text, bounds_text, condition_text, declaration_text, declared_text, feature_text, front_text, inside_text, left_text, more_text, nested_text, parted_text, prefix_text, query_text, range_text, relation_text, row_text, typed_text, value_end_text, wanted_text}

-- The text of components is that of the first ones and then that of the others.
pub text-append : (cs ds : List Component) → text_of (cs ++ ds) ≡ text_of cs ++ text_of ds
text-append cs ds =
    ap (λ (ps : List Piece). spelled (map word_of ps)) (flat_map-append pieces_of cs ds)
    ∙ ap (λ (ws : List Word). spelled ws) (map-append word_of (pieces_all cs) (pieces_all ds))
    ∙ flat_map-append (λ (w : Word). w.text) (words_all cs) (words_all ds)

-- one token
pub text-single : (kind : Kind) (text : List ℕ) (cs : List Component) → text_of (single kind text ∷ cs) ≡ text ++ text_of cs
text-single kind text cs = ap (λ (ps : List Piece). spelled (map word_of (ps ++ pieces_all cs))) (pieces_of-Single (record { kind = kind; text = text; at = 0 }))

-- one token alone
pub text-alone : (kind : Kind) (text : List ℕ) → text_of (single kind text ∷ []) ≡ text
text-alone kind text = text-single kind text [] ∙ append-nil text

-- one block
pub text-block : (kind : Kind) (text : List ℕ) (items : List Component) → text_of (block kind text items ∷ []) ≡ text ++ (text_of items ++ closing_text text)
text-block kind text items =
    (let opening : Piece = record { kind = kind; text = text; at = 0 } in
    ap (λ (ps : List Piece). spelled (map word_of (ps ++ []))) (pieces_of-Block (record { opening = opening; items = items; close = 0 }))
    ∙ ap (λ (ps : List Piece). spelled (map word_of ps)) (append-nil (opening ∷ pieces_all items ++ closing opening 0 ∷ []))
    ∙ ap (λ (ws : List Word). text ++ spelled ws) (map-append word_of (pieces_all items) (closing opening 0 ∷ []))
    ∙ ap (λ (t : List ℕ). text ++ t) (flat_map-append (λ (w : Word). w.text) (words_all items) (word_of (closing opening 0) ∷ []))
    ∙ ap (λ (t : List ℕ). text ++ (text_of items ++ t)) (append-nil (closing_text text)))

-- what stands in parentheses
pub text-parens : (items : List Component) → text_of (parens items ∷ []) ≡ codes "(" ++ (text_of items ++ codes ")")
text-parens items = text-block kinds.Open (codes "(") items

-- Texts that are kept as they print.

pub same-text : (a b : List ℕ) → is_text a b ≡ true → a ≡ b
same-text [] [] h = refl
same-text [] (y ∷ b) h = absurd (false≢true h)
same-text (x ∷ a) [] h = absurd (false≢true h)
same-text (x ∷ a) (y ∷ b) h =
    (let p = and_parts (nat_eq x y) (is_text a b) h in
    ap (λ (n : ℕ). n ∷ a) (eqb-true x y p.0) ∙ ap (λ (t : List ℕ). y ∷ t) (same-text a b p.1))

or_word-at : (cs : List Component) (text : List ℕ) (fits : Bool) → (fits ≡ true → text_of cs ≡ text) → text_of (if fits then cs else single kinds.Ident text ∷ []) ≡ text
or_word-at cs text true e = e refl
or_word-at cs text false e = text-alone kinds.Ident text

-- The components of a text have that text.
pub text-components : (text : List ℕ) → text_of (text_components text) ≡ text
unfolding text_components
text-components text =
    (let cs = (levels_of (words_in text)).here in
    or_word-at cs text (all_formed cs && is_text (text_of cs) text)
    (λ fits. same-text (text_of cs) text (and_parts (all_formed cs) (is_text (text_of cs) text) fits).1))

value-at : (value : List Component) (formed : Bool) → all_formed value ≡ formed → ((v : List Component) → all_formed v ≡ true → words_all (value_again v) ≡ value_words v) → text_of (if formed then value_again value else single kinds.Ident (value_text value) ∷ []) ≡ value_text value
value-at value true e again = ap spelled (again value e)
value-at value false e again = text-alone kinds.Ident (value_text value)

-- what a value prints as
abbrev pub PrintsWords : Type 0
PrintsWords = (v : List Component) → IsTrue (all_formed v) → words_all (value_again v) ≡ value_words v

text-value : PrintsWords → (value : List Component) → text_of (value_spelling value) ≡ value_text value
text-value again value = value-at value (all_formed value) refl again

-- Relations and prefixes.

text-two : (a b : List ℕ) → text_of (delim a ∷ delim b ∷ []) ≡ a ++ b
text-two a b = text-single kinds.Delim a (delim b ∷ []) ∙ ap (λ (t : List ℕ). a ++ t) (text-alone kinds.Delim b)

pub text-less : relation_text relations.Less ≡ codes "<"
text-less = text-alone kinds.Delim (codes "<")

pub text-less-equal : relation_text relations.LessEqual ≡ codes "<="
text-less-equal = text-two (codes "<") (codes "=")

pub text-greater : relation_text relations.Greater ≡ codes ">"
text-greater = text-alone kinds.Delim (codes ">")

pub text-greater-equal : relation_text relations.GreaterEqual ≡ codes ">="
text-greater-equal = text-two (codes ">") (codes "=")

pub text-equal : relation_text relations.Equal ≡ codes "="
text-equal = text-alone kinds.Delim (codes "=")

text-keyword : (word : List ℕ) (cs : List Component) → text_of (keyword word ∷ space ∷ cs) ≡ word ++ (codes " " ++ text_of cs)
text-keyword word cs = text-single kinds.Ident word (space ∷ cs) ∙ ap (λ (t : List ℕ). word ++ t) (text-single kinds.White (codes " ") cs)

pub text-plain : prefix_text prefixes.Plain ≡ []
text-plain = refl

pub text-not : prefix_text prefixes.Not ≡ codes "not "
text-not = text-keyword (codes "not") []

pub text-only : prefix_text prefixes.Only ≡ codes "only "
text-only = text-keyword (codes "only") []

pub ruleset leaf_texts = (text-less, text-less-equal, text-greater, text-greater-equal, text-equal, text-plain, text-not, text-only)

-- Media features.

text-name : (name : List ℕ) (cs : List Component) → text_of (ident name ∷ cs) ≡ name_text name ++ text_of cs
text-name name cs = text-single kinds.Ident (name_text name) cs

text-feature-value : (name : List ℕ) (value : Option (List ℕ)) → text_of (feature_value value) ++ codes ")" ≡ value_end_text value
text-feature-value name None = refl
text-feature-value name (Some value) = ap (λ (t : List ℕ). t ++ codes ")") (text-single kinds.Colon (codes ":") (text_components value) ∙ ap (λ (t : List ℕ). codes ":" ++ t) (text-components value))

pub text-feature : (f : feature.Feature) → feature_text f ≡ (codes "(" ++ name_text f.name) ++ value_end_text f.value
text-feature f =
    text-parens (ident f.name ∷ feature_value f.value)
    ∙ ap (λ (t : List ℕ). codes "(" ++ (t ++ codes ")")) (text-name f.name (feature_value f.value))
    ∙ ap (λ (t : List ℕ). codes "(" ++ t) (append_assoc (name_text f.name) (text_of (feature_value f.value)) (codes ")"))
    ∙ ap (λ (t : List ℕ). codes "(" ++ (name_text f.name ++ t)) (text-feature-value f.name f.value)

text-bound : (b : Bound) → text_of (bound_behind b) ≡ bound_text b
text-bound b = text-append (relation_spelling b.relation) (text_components b.value) ∙ ap (λ (t : List ℕ). relation_text b.relation ++ t) (text-components b.value)

spaced-at : (dashes : Bool) → text_of (if dashes then space ∷ [] else []) ≡ wanted_text dashes (codes " ")
spaced-at true = text-alone kinds.White (codes " ")
spaced-at false = refl

text-front : (b : Bound) → text_of (bound_before b) ≡ front_text b
text-front b =
    text-append (text_components b.value) (space_behind b.value ++ relation_spelling (turned b.relation))
    ∙ ap (λ (t : List ℕ). t ++ text_of (space_behind b.value ++ relation_spelling (turned b.relation))) (text-components b.value)
    ∙ ap (λ (t : List ℕ). b.value ++ t)
    (text-append (space_behind b.value) (relation_spelling (turned b.relation))
    ∙ ap (λ (t : List ℕ). t ++ relation_text (turned b.relation)) (spaced-at (ends_in_dashes b.value)))

text-named : (name : List ℕ) (b : Bound) → text_of (ident name ∷ bound_behind b) ≡ name_text name ++ bound_text b
text-named name b = text-name name (bound_behind b) ∙ ap (λ (t : List ℕ). name_text name ++ t) (text-bound b)

text-bounds : (name : List ℕ) (first : Bound) (second : Option Bound) → codes "(" ++ (text_of (bounds_spelling name first second) ++ codes ")") ≡ bounds_text name first second
text-bounds name first None = ap (λ (t : List ℕ). codes "(" ++ (t ++ codes ")")) (text-named name first) ∙ ap (λ (t : List ℕ). codes "(" ++ t) (append_assoc (name_text name) (bound_text first) (codes ")"))
text-bounds name first (Some second) =
    ap (λ (t : List ℕ). codes "(" ++ (t ++ codes ")")) (text-append (bound_before first) (ident name ∷ bound_behind second) ∙ ap (λ (t : List ℕ). t ++ text_of (ident name ∷ bound_behind second)) (text-front first) ∙ ap (λ (t : List ℕ). front_text first ++ t) (text-named name second))
    ∙ ap (λ (t : List ℕ). codes "(" ++ t) (append_assoc (front_text first) (name_text name ++ bound_text second) (codes ")"))
    ∙ ap (λ (t : List ℕ). codes "(" ++ (front_text first ++ t)) (append_assoc (name_text name) (bound_text second) (codes ")"))

pub text-range : (r : range.Range) → range_text r ≡ bounds_text r.name r.first r.second
text-range r = text-parens (bounds_spelling r.name r.first r.second) ∙ text-bounds r.name r.first r.second

pub ruleset feature_texts = (text-feature, text-range)

-- Conditions in a row.

-- the text between two conditions
abbrev between : List ℕ → List ℕ
between joint = codes " " ++ (joint ++ codes " ")

text-joint : (joint : List ℕ) (s : Spelled) (cs : List Component) → text_of (space ∷ keyword joint ∷ space ∷ (s.inside ++ cs)) ≡ (between joint ++ text_of s.inside) ++ text_of cs
text-joint joint s cs =
    text-single kinds.White (codes " ") (keyword joint ∷ space ∷ (s.inside ++ cs))
    ∙ ap (λ (t : List ℕ). codes " " ++ t) (text-keyword joint (s.inside ++ cs))
    ∙ ap (λ (t : List ℕ). codes " " ++ (joint ++ (codes " " ++ t))) (text-append s.inside cs)
    ∙ ap (λ (t : List ℕ). codes " " ++ t) (sym (append_assoc joint (codes " ") (text_of s.inside ++ text_of cs)))
    ∙ sym (append_assoc (between joint) (text_of s.inside) (text_of cs))

text-further : {A : Type 0} (joint : List ℕ) (spell : A → Spelled) (xs : List A) → text_of (further joint (map spell xs)) ≡ more_text (between joint) (λ x. text_of (spell x).inside) xs
text-further joint spell [] = refl
text-further joint spell (x ∷ xs) = text-joint joint (spell x) (further joint (map spell xs)) ∙ ap (λ (t : List ℕ). (between joint ++ text_of (spell x).inside) ++ t) (text-further joint spell xs)

text-joined : {A : Type 0} (joint : List ℕ) (spell : A → Spelled) (xs : List A) → text_of (joined joint (map spell xs)) ≡ row_text (between joint) (λ x. text_of (spell x).inside) xs
text-joined joint spell [] = refl
text-joined joint spell (x ∷ xs) = text-append (spell x).inside (further joint (map spell xs)) ∙ ap (λ (t : List ℕ). text_of (spell x).inside ++ t) (text-further joint spell xs)

text-negated : (s : Spelled) → text_of (negated s) ≡ codes "not " ++ text_of s.inside
text-negated s = text-keyword (codes "not") s.inside

-- Media conditions alone.

pub text-And : (cs : List Condition) → condition_text (condition.And cs) ≡ row_text (codes " and ") inside_text cs
text-And cs = ap (λ (s : Spelled). text_of s.alone) (condition_fold.folded-And spelling cs) ∙ text-joined (codes "and") spelled_condition cs

pub text-Or : (cs : List Condition) → condition_text (condition.Or cs) ≡ row_text (codes " or ") inside_text cs
text-Or cs = ap (λ (s : Spelled). text_of s.alone) (condition_fold.folded-Or spelling cs) ∙ text-joined (codes "or") spelled_condition cs

pub text-Not : (c : Condition) → condition_text (condition.Not c) ≡ codes "not " ++ inside_text c
text-Not c = ap (λ (s : Spelled). text_of s.alone) (condition_fold.folded-Not spelling c) ∙ text-negated (spelled_condition c)

pub text-Feature : (f : feature.Feature) → condition_text (condition.Feature f) ≡ feature_text f
text-Feature f = ap (λ (s : Spelled). text_of s.alone) (condition_fold.folded-Feature spelling f)

pub text-Range : (r : range.Range) → condition_text (condition.Range r) ≡ range_text r
text-Range r = ap (λ (s : Spelled). text_of s.alone) (condition_fold.folded-Range spelling r)

pub ruleset condition_texts = (text-And, text-Or, text-Not, text-Feature, text-Range)

-- Inside another condition.

abbrev closed : List ℕ → List ℕ
closed text = codes "(" ++ (text ++ codes ")")

pub inside-And : (cs : List Condition) → inside_text (condition.And cs) ≡ codes "(" ++ (condition_text (condition.And cs) ++ codes ")")
inside-And cs =
    ap (λ (s : Spelled). text_of s.inside) (condition_fold.folded-And spelling cs)
    ∙ text-parens (joined (codes "and") (map spelled_condition cs))
    ∙ ap (λ (s : Spelled). closed (text_of s.alone)) (sym (condition_fold.folded-And spelling cs))

pub inside-Or : (cs : List Condition) → inside_text (condition.Or cs) ≡ codes "(" ++ (condition_text (condition.Or cs) ++ codes ")")
inside-Or cs =
    ap (λ (s : Spelled). text_of s.inside) (condition_fold.folded-Or spelling cs)
    ∙ text-parens (joined (codes "or") (map spelled_condition cs))
    ∙ ap (λ (s : Spelled). closed (text_of s.alone)) (sym (condition_fold.folded-Or spelling cs))

pub inside-Not : (c : Condition) → inside_text (condition.Not c) ≡ codes "(" ++ (condition_text (condition.Not c) ++ codes ")")
inside-Not c =
    ap (λ (s : Spelled). text_of s.inside) (condition_fold.folded-Not spelling c)
    ∙ text-parens (negated (spelled_condition c))
    ∙ ap (λ (s : Spelled). closed (text_of s.alone)) (sym (condition_fold.folded-Not spelling c))

pub inside-Feature : (f : feature.Feature) → inside_text (condition.Feature f) ≡ feature_text f
inside-Feature f = ap (λ (s : Spelled). text_of s.inside) (condition_fold.folded-Feature spelling f)

pub inside-Range : (r : range.Range) → inside_text (condition.Range r) ≡ range_text r
inside-Range r = ap (λ (s : Spelled). text_of s.inside) (condition_fold.folded-Range spelling r)

pub ruleset inside_texts = (inside-And, inside-Or, inside-Not, inside-Feature, inside-Range)

-- Behind a media type.

pub behind-And : (cs : List Condition) → behind_text (condition.And cs) ≡ condition_text (condition.And cs)
behind-And cs = ap (λ (s : Spelled). text_of s.behind) (condition_fold.folded-And spelling cs) ∙ ap (λ (s : Spelled). text_of s.alone) (sym (condition_fold.folded-And spelling cs))

pub behind-Or : (cs : List Condition) → behind_text (condition.Or cs) ≡ codes "(" ++ (condition_text (condition.Or cs) ++ codes ")")
behind-Or cs =
    ap (λ (s : Spelled). text_of s.behind) (condition_fold.folded-Or spelling cs)
    ∙ text-parens (joined (codes "or") (map spelled_condition cs))
    ∙ ap (λ (s : Spelled). closed (text_of s.alone)) (sym (condition_fold.folded-Or spelling cs))

pub behind-Not : (c : Condition) → behind_text (condition.Not c) ≡ condition_text (condition.Not c)
behind-Not c = ap (λ (s : Spelled). text_of s.behind) (condition_fold.folded-Not spelling c) ∙ ap (λ (s : Spelled). text_of s.alone) (sym (condition_fold.folded-Not spelling c))

pub behind-Feature : (f : feature.Feature) → behind_text (condition.Feature f) ≡ condition_text (condition.Feature f)
behind-Feature f = ap (λ (s : Spelled). text_of s.behind) (condition_fold.folded-Feature spelling f) ∙ ap (λ (s : Spelled). text_of s.alone) (sym (condition_fold.folded-Feature spelling f))

pub behind-Range : (r : range.Range) → behind_text (condition.Range r) ≡ condition_text (condition.Range r)
behind-Range r = ap (λ (s : Spelled). text_of s.behind) (condition_fold.folded-Range spelling r) ∙ ap (λ (s : Spelled). text_of s.alone) (sym (condition_fold.folded-Range spelling r))

pub ruleset behind_texts = (behind-And, behind-Or, behind-Not, behind-Feature, behind-Range)

-- Queries.

pub typed-none : typed_text None None ≡ []
typed-none = refl

pub typed-condition : (c : Condition) → typed_text None (Some c) ≡ condition_text c
typed-condition c = refl

pub typed-media : (media : List ℕ) → typed_text (Some media) None ≡ name_text media
typed-media media = text-alone kinds.Ident (name_text media)

pub typed-both : (media : List ℕ) (c : Condition) → typed_text (Some media) (Some c) ≡ name_text media ++ (codes " and " ++ behind_text c)
typed-both media c =
    text-name media (space ∷ keyword (codes "and") ∷ space ∷ (spelled_condition c).behind)
    ∙ ap (λ (t : List ℕ). name_text media ++ t) (text-single kinds.White (codes " ") (keyword (codes "and") ∷ space ∷ (spelled_condition c).behind) ∙ ap (λ (t : List ℕ). codes " " ++ t) (text-keyword (codes "and") (spelled_condition c).behind))

pub ruleset typed_texts = (typed-none, typed-condition, typed-media, typed-both)

pub text-query : (q : Query) → query_text q ≡ prefix_text q.prefix ++ typed_text q.media q.condition
text-query q = text-append (prefix_spelling q.prefix) (typed_spelling q.media q.condition)

pub ruleset query_texts = (text-query)

text-more : (qs : List Query) → text_of (more_spelling (map query_spelling qs)) ≡ more_text (codes ",") query_text qs
text-more [] = refl
text-more (q ∷ qs) =
    text-single kinds.Comma (codes ",") (query_spelling q ++ more_spelling (map query_spelling qs))
    ∙ ap (λ (t : List ℕ). codes "," ++ t) (text-append (query_spelling q) (more_spelling (map query_spelling qs)) ∙ ap (λ (t : List ℕ). query_text q ++ t) (text-more qs))

pub text-queries : (qs : List Query) → queries_text qs ≡ row_text (codes ",") query_text qs
text-queries [] = refl
text-queries (q ∷ qs) = text-append (query_spelling q) (more_spelling (map query_spelling qs)) ∙ ap (λ (t : List ℕ). query_text q ++ t) (text-more qs)

-- Supports conditions.

pub text-declaration : PrintsWords → (name : List ℕ) (value : List Component) → declaration_text name value ≡ declared_text name value
text-declaration again name value =
    text-parens (ident name ∷ colon ∷ value_spelling value)
    ∙ ap (λ (t : List ℕ). codes "(" ++ (t ++ codes ")")) (text-name name (colon ∷ value_spelling value) ∙ ap (λ (t : List ℕ). name_text name ++ t) (text-single kinds.Colon (codes ":") (value_spelling value) ∙ ap (λ (t : List ℕ). codes ":" ++ t) (text-value again value)))
    ∙ ap (λ (t : List ℕ). codes "(" ++ t) (append_assoc (name_text name) (codes ":" ++ value_text value) (codes ")"))

pub text-supports-And : (cs : List Supports) → supports_text (supports.And cs) ≡ row_text (codes " and ") nested_text cs
text-supports-And cs = ap (λ (s : Spelled). text_of s.alone) (supports_fold.folded-And supports_steps cs) ∙ text-joined (codes "and") spelled_supports cs

pub text-supports-Or : (cs : List Supports) → supports_text (supports.Or cs) ≡ row_text (codes " or ") nested_text cs
text-supports-Or cs = ap (λ (s : Spelled). text_of s.alone) (supports_fold.folded-Or supports_steps cs) ∙ text-joined (codes "or") spelled_supports cs

pub text-supports-Not : (c : Supports) → supports_text (supports.Not c) ≡ codes "not " ++ nested_text c
text-supports-Not c = ap (λ (s : Spelled). text_of s.alone) (supports_fold.folded-Not supports_steps c) ∙ text-negated (spelled_supports c)

pub text-Declared : (name : List ℕ) (value : List Component) → supports_text (supports.Declared name value) ≡ declaration_text name value
text-Declared name value = ap (λ (s : Spelled). text_of s.alone) (supports_fold.folded-Declared supports_steps name value)

pub text-Function : (at : ℕ) → supports_text (supports.Function at) ≡ codes "f()"
text-Function at = ap (λ (s : Spelled). text_of s.alone) (supports_fold.folded-Function supports_steps at) ∙ text-block kinds.Function (codes "f(") []

pub ruleset supports_texts = (text-supports-And, text-supports-Or, text-supports-Not, text-Declared, text-Function)

pub nested-And : (cs : List Supports) → nested_text (supports.And cs) ≡ codes "(" ++ (supports_text (supports.And cs) ++ codes ")")
nested-And cs =
    ap (λ (s : Spelled). text_of s.inside) (supports_fold.folded-And supports_steps cs)
    ∙ text-parens (joined (codes "and") (map spelled_supports cs))
    ∙ ap (λ (s : Spelled). closed (text_of s.alone)) (sym (supports_fold.folded-And supports_steps cs))

pub nested-Or : (cs : List Supports) → nested_text (supports.Or cs) ≡ codes "(" ++ (supports_text (supports.Or cs) ++ codes ")")
nested-Or cs =
    ap (λ (s : Spelled). text_of s.inside) (supports_fold.folded-Or supports_steps cs)
    ∙ text-parens (joined (codes "or") (map spelled_supports cs))
    ∙ ap (λ (s : Spelled). closed (text_of s.alone)) (sym (supports_fold.folded-Or supports_steps cs))

pub nested-Not : (c : Supports) → nested_text (supports.Not c) ≡ codes "(" ++ (supports_text (supports.Not c) ++ codes ")")
nested-Not c =
    ap (λ (s : Spelled). text_of s.inside) (supports_fold.folded-Not supports_steps c)
    ∙ text-parens (negated (spelled_supports c))
    ∙ ap (λ (s : Spelled). closed (text_of s.alone)) (sym (supports_fold.folded-Not supports_steps c))

pub nested-Declared : (name : List ℕ) (value : List Component) → nested_text (supports.Declared name value) ≡ declaration_text name value
nested-Declared name value = ap (λ (s : Spelled). text_of s.inside) (supports_fold.folded-Declared supports_steps name value)

pub nested-Function : (at : ℕ) → nested_text (supports.Function at) ≡ codes "f()"
nested-Function at = ap (λ (s : Spelled). text_of s.inside) (supports_fold.folded-Function supports_steps at) ∙ text-block kinds.Function (codes "f(") []

pub ruleset nested_texts = (nested-And, nested-Or, nested-Not, nested-Declared, nested-Function)

-- The next member of what is left of a row.
pub text-left : {A : Type 0} (wanted : Bool) (between : List ℕ) (text : A → List ℕ) (x : A) (xs : List A) → left_text wanted between text (x ∷ xs) ≡ wanted_text wanted between ++ (text x ++ more_text between text xs)
text-left true between text x xs = append_assoc between (text x) (more_text between text xs)
text-left false between text x xs = refl
