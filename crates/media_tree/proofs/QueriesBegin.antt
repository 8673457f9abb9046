-- The text of a media query list begins with no white space.
use Rattle.std.proofs.Common.{◌≡◌, ℕ, List, [], ◌∷◌, ◌++◌, map, true, ◌&&◌, refl, sym, ap, ◌∙◌, subst, append_assoc}
use Rattle.std.specs.Prelude.{Option, Some, None, codes}
use Rattle.std.specs.List.{list_all}
use Rattle.std.proofs.lemmas.Bool.{and_parts, false≢true}
use Rattle.css_tokens.specs.declared.kind.Kind.TheVariants as kinds
use Rattle.css_tokens.specs.declared.component.Component.{Component}
use Rattle.css_tokens.specs.Again.{begins_none}
use Rattle.css_tokens.specs.Characters.{white}
use Rattle.css_tokens.specs.NameText.{name_text}
use Rattle.css_tokens.specs.Names.{is_name}
use Rattle.css_tokens.specs.Piece.{Piece, spelled, word_of}
use Rattle.css_tokens.specs.Trees.{pieces_all, pieces_of-Single, pieces_of-Block}
use Rattle.media_spelling.specs.declared.condition.Condition.{Condition}
use Rattle.media_spelling.specs.declared.condition.Prefix.{Prefix}
use Rattle.media_spelling.specs.declared.condition.Prefix.TheVariants as prefixes
use Rattle.media_spelling.specs.declared.condition.Query.{Query}
use Rattle.media_spelling.specs.Components.{ident, keyword, parens, space, text_of}
use Rattle.media_spelling.specs.ConditionFold.{folded-And, folded-Or, folded-Not, folded-Feature, folded-Range}
use Rattle.media_spelling.specs.ConditionInduction.{by_conditions}
use Rattle.media_spelling.specs.Spelling.{Spelled, further, joined, more_spelling, prefix_spelling, queries_text, query_spelling, spelled_condition, spelling, typed_spelling}
use Rattle.media_tree.specs.ReadableQueries.{are_readable_queries, has_two, is_lower_name, is_readable_condition, is_readable_query, is_readable_type, is_readable_typed, readable}

-- the text of these components begins with no white space
abbrev pub IsDark : List Component → Type 0
IsDark cs = (rest : List ℕ) → begins_none white (text_of cs ++ rest) ≡ true

pub single-dark : (t : List ℕ) (cs : List Component) → ((rest : List ℕ) → begins_none white (t ++ rest) ≡ true) → IsDark (keyword t ∷ cs)
single-dark t cs h rest =
    ap (λ (ps : List Piece). begins_none white (spelled (map word_of (ps ++ pieces_all cs)) ++ rest)) (pieces_of-Single (record { kind = kinds.Ident; text = t; at = 0 }))
    ∙ ap (begins_none white) (append_assoc t (text_of cs) rest)
    ∙ h (text_of cs ++ rest)

pub parens-dark : (items cs : List Component) → IsDark (parens items ∷ cs)
parens-dark items cs rest =
    ap (λ (ps : List Piece). begins_none white (spelled (map word_of (ps ++ pieces_all cs)) ++ rest)) (pieces_of-Block (record { opening = record { kind = kinds.Open; text = codes "("; at = 0 }; items = items; close = 0 }))

-- within another condition each stands in parentheses
abbrev IsInside : Spelled → Type 0
IsInside s = (items : List Component) × (s.inside ≡ parens items ∷ [])

inside-is : (c : Condition) → IsInside (spelled_condition c)
inside-is c =
    by_conditions (λ x. IsInside (spelled_condition x))
    (record {
      and_of = λ cs h. subst IsInside (sym (folded-And spelling cs)) (_, refl);
      or_of = λ cs h. subst IsInside (sym (folded-Or spelling cs)) (_, refl);
      not_of = λ d h. subst IsInside (sym (folded-Not spelling d)) (_, refl);
      feature = λ f. subst IsInside (sym (folded-Feature spelling f)) (_, refl);
      range = λ r. subst IsInside (sym (folded-Range spelling r)) (_, refl);
    })
    c

inside-dark : (c : Condition) (cs : List Component) → IsDark ((spelled_condition c).inside ++ cs)
inside-dark c cs = (let i = inside-is c in subst (λ (xs : List Component). IsDark (xs ++ cs)) (sym i.1) (parens-dark i.0 cs))

-- it begins so wherever it stands alone, also before more
abbrev BeginsDark : Spelled → Type 0
BeginsDark s = (cs : List Component) → IsDark (s.alone ++ cs)

row-dark : (joint : List ℕ) (ds : List Condition) → (has_two (map is_readable_condition ds) && list_all (λ b. b) (map is_readable_condition ds)) ≡ true → (cs : List Component) → IsDark (joined joint (map spelled_condition ds) ++ cs)
row-dark joint [] h cs = absurd (false≢true h)
row-dark joint (d ∷ ds) h cs =
    (let more = further joint (map spelled_condition ds) in
    subst IsDark (sym (append_assoc (spelled_condition d).inside more cs)) (inside-dark d (more ++ cs)))

alone-dark : (c : Condition) → is_readable_condition c ≡ true → BeginsDark (spelled_condition c)
alone-dark c =
    by_conditions (λ x. is_readable_condition x ≡ true → BeginsDark (spelled_condition x))
    (record {
      and_of = λ ds h r. subst BeginsDark (sym (folded-And spelling ds)) (row-dark (codes "and") ds (sym (folded-And readable ds) ∙ r));
      or_of = λ ds h r. subst BeginsDark (sym (folded-Or spelling ds)) (row-dark (codes "or") ds (sym (folded-Or readable ds) ∙ r));
      not_of = λ d h r. subst BeginsDark (sym (folded-Not spelling d)) (λ cs. single-dark (codes "not") (space ∷ ((spelled_condition d).inside ++ cs)) (λ rest. refl));
      feature = λ f r. subst BeginsDark (sym (folded-Feature spelling f)) (λ cs. parens-dark _ cs);
      range = λ f r. subst BeginsDark (sym (folded-Range spelling f)) (λ cs. parens-dark _ cs);
    })
    c

-- the text of a name begins with no white space
abbrev pub NamesDark : Type 0
NamesDark = (n rest : List ℕ) → is_name n ≡ true → begins_none white (name_text n ++ rest) ≡ true

module _ (names : NamesDark) where
  type-dark : (m : List ℕ) (cs : List Component) → is_readable_type m ≡ true → IsDark (ident m ∷ cs)
  type-dark m cs h =
      (let lower = (and_parts (is_lower_name m) _ h).0 in
      let name = (and_parts (is_name m) _ lower).0 in
      single-dark (name_text m) cs (λ rest. names m rest name))

  query-dark : (p : Prefix) (m : Option (List ℕ)) (c : Option Condition) → is_readable_typed p m c ≡ true → (cs : List Component) → IsDark ((prefix_spelling p ++ typed_spelling m c) ++ cs)
  query-dark prefixes.Not m c h cs = single-dark (codes "not") (space ∷ (typed_spelling m c ++ cs)) (λ rest. refl)
  query-dark prefixes.Only m c h cs = single-dark (codes "only") (space ∷ (typed_spelling m c ++ cs)) (λ rest. refl)
  query-dark prefixes.Plain None None h cs = absurd (false≢true h)
  query-dark prefixes.Plain None (Some c) h cs = alone-dark c h cs
  query-dark prefixes.Plain (Some m) None h cs = type-dark m cs (and_parts (is_readable_type m) true h).0
  query-dark prefixes.Plain (Some m) (Some c) h cs = type-dark m (space ∷ keyword (codes "and") ∷ space ∷ ((spelled_condition c).behind ++ cs)) (and_parts (is_readable_type m) (is_readable_condition c) h).0

  pub queries-begin : (qs : List Query) (rest : List ℕ) → are_readable_queries qs ≡ true → begins_none white rest ≡ true → begins_none white (queries_text qs ++ rest) ≡ true
  queries-begin [] rest h k = k
  queries-begin (q ∷ qs) rest h k = query-dark q.prefix q.media q.condition (and_parts (is_readable_query q) (are_readable_queries qs) h).0 (more_spelling (map query_spelling qs)) rest
