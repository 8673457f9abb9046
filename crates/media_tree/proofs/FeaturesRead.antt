-- The text of a media feature in parentheses is read as its words.
use Rattle.std.proofs.Common.{◌≡◌, ℕ, List, [], ◌∷◌, ◌++◌, Bool, true, false, ◌&&◌, refl, sym, ap, ◌∙◌, subst, append_assoc, codes}
use Rattle.std.specs.Prelude.{Option, Some, None, if◌then◌else◌}
use Rattle.std.specs.List.{AllByRecursion}
use Rattle.std.specs.Str.{chars}
use lib.Utf8.{encode}
use Rattle.std.proofs.lemmas.Bool.{and_parts, false≢true}
use Rattle.css_tokens.specs.declared.kind.Kind.{Kind}
use Rattle.css_tokens.specs.declared.kind.Kind.TheVariants as kinds
use Rattle.css_tokens.specs.declared.component.Component.{Component}
use Rattle.css_tokens.specs.Again.{StaysFirst, after_ident, after_name, bang, begins_none, word_from}
use Rattle.css_tokens.specs.Characters.{white}
use Rattle.css_tokens.specs.NameText.{name_text}
use Rattle.css_tokens.specs.Names.{is_name, name_of_word}
use Rattle.css_tokens.specs.Tokens.{ReadsTo}
use Rattle.css_tokens.specs.Trees.{is_text, words_all}
use Rattle.media_spelling.specs.declared.condition.Bound.{Bound}
use Rattle.media_spelling.specs.declared.condition.Feature.{Feature}
use Rattle.media_spelling.specs.declared.condition.Range.{Range}
use Rattle.media_spelling.specs.declared.condition.Relation.{Relation}
use Rattle.media_spelling.specs.declared.condition.Relation.TheVariants as relations
use Rattle.media_spelling.specs.Components.{colon, delim, ident, single, space, text_of}
use Rattle.media_spelling.specs.Spelling.{bound_before, bound_behind, bounds_spelling, enclosed, ends_in_dashes, feature_spelling, feature_value, range_spelling, relation_spelling, turned}
use Rattle.media_spelling.specs.TextComponents.{text_components}
use Rattle.media_tree.specs.ReadValues.{StandsAsValue, bound_values, feature_values}
use Rattle.media_tree.specs.ReadableQueries.{are_readable_bounds, is_lower_name, is_readable_feature, is_readable_option, is_readable_range, readable}
use Rattle.media_tree.specs.Marks.{lowered}
use Rattle.prop_table.specs.OldFeatures.{is_range_feature}
use Rattle.media_tree.proofs.SpelledReads.{ReadsInside, SpelledReads, Words, on-append, reads-enclosed}
use Rattle.media_tree.proofs.TextsRead.{text-components}
use Rattle.media_tree.proofs.WordsRead.{ReadsOn, on-nothing, on-single, text-first}

-- what is ensured of names and relations
pub record QueryWords : Type 0 where
  pub words : Words
  pub child : (n rest : List ℕ) → is_name n ≡ true → (name_text n ≡ codes "--" → ⊥) → begins_none after_name rest ≡ true → StaysFirst (word_from kinds.Ident (name_text n)) rest
  pub less : (rest : List ℕ) → begins_none bang rest ≡ true → StaysFirst (word_from kinds.Delim (codes "<")) rest
  pub less_equal : (rest : List ℕ) → StaysFirst (word_from kinds.Delim (codes "<")) (codes "=" ++ rest)
  pub no_white : (n rest : List ℕ) → is_name n ≡ true → begins_none white (name_text n ++ rest) ≡ true
  pub no_bang : (n rest : List ℕ) → is_name n ≡ true → begins_none bang (name_text n ++ rest) ≡ true
  pub means : (n : List ℕ) → is_name n ≡ true → name_of_word kinds.Ident (name_text n) ≡ n

abbrev pub AllStand : List (List ℕ) → Type 0
AllStand vs = AllByRecursion StandsAsValue vs

-- Values.

-- no `!` begins a value, nor what stands behind one
begins-on : (v rest : List ℕ) → begins_none bang v ≡ true → begins_none bang rest ≡ true → begins_none bang (v ++ rest) ≡ true
begins-on [] rest h k = k
begins-on (b ∷ v) rest h k = h

value-on : (v rest : List ℕ) → ReadsTo (v ++ rest) (words_all (text_components v)) rest → ReadsOn (text_components v) rest
value-on v rest h = subst (λ (t : List ℕ). ReadsTo (t ++ rest) (words_all (text_components v)) rest) (sym (text-components v)) h

value-inside : (v : List ℕ) → StandsAsValue v → ReadsInside (text_components v)
value-inside v stands rest = value-on v (codes ")" ++ rest) (stands.reads.0 rest)

-- a value before what is known to stand behind it
abbrev BeforeEach : List ℕ → Bool → Type 0
BeforeEach v dashes = AllByRecursion (λ next. (rest : List ℕ) → ReadsTo (v ++ (next ++ rest)) (words_all (text_components v)) (next ++ rest)) (codes ")" ∷ (if dashes then codes " " ∷ [] else codes "<" ∷ codes ">" ∷ codes "=" ∷ []))

-- the spaces between a value and a relation
abbrev spaces : Bool → List Component
spaces dashes = if dashes then space ∷ [] else []

before-first : (v t : List ℕ) (k : Kind) (cs : List Component) (rest : List ℕ) → ((rest : List ℕ) → ReadsTo (v ++ (t ++ rest)) (words_all (text_components v)) (t ++ rest)) → ReadsOn (text_components v) (text_of (single k t ∷ cs) ++ rest)
before-first v t k cs rest h = subst (λ (u : List ℕ). ReadsOn (text_components v) u) (sym (text-first k t cs rest)) (value-on v (t ++ (text_of cs ++ rest)) (h (text_of cs ++ rest)))

before-relation : (v : List ℕ) (dashes : Bool) (r : Relation) (cs : List Component) (rest : List ℕ) → BeforeEach v dashes → ReadsOn (text_components v) (text_of (spaces dashes ++ (relation_spelling r ++ cs)) ++ rest)
before-relation v true r cs rest h = before-first v (codes " ") kinds.White (relation_spelling r ++ cs) rest h.1.0
before-relation v false relations.Less cs rest h = before-first v (codes "<") kinds.Delim cs rest h.1.0
before-relation v false relations.LessEqual cs rest h = before-first v (codes "<") kinds.Delim (delim (codes "=") ∷ cs) rest h.1.0
before-relation v false relations.Greater cs rest h = before-first v (codes ">") kinds.Delim cs rest h.1.1.0
before-relation v false relations.GreaterEqual cs rest h = before-first v (codes ">") kinds.Delim (delim (codes "=") ∷ cs) rest h.1.1.0
before-relation v false relations.Equal cs rest h = before-first v (codes "=") kinds.Delim cs rest h.1.1.1.0

relation-dark : (r : Relation) (cs : List Component) (rest : List ℕ) → begins_none white (text_of (relation_spelling r ++ cs) ++ rest) ≡ true
relation-dark relations.Less cs rest = ap (begins_none white) (text-first kinds.Delim (codes "<") cs rest)
relation-dark relations.LessEqual cs rest = ap (begins_none white) (text-first kinds.Delim (codes "<") (delim (codes "=") ∷ cs) rest)
relation-dark relations.Greater cs rest = ap (begins_none white) (text-first kinds.Delim (codes ">") cs rest)
relation-dark relations.GreaterEqual cs rest = ap (begins_none white) (text-first kinds.Delim (codes ">") (delim (codes "=") ∷ cs) rest)
relation-dark relations.Equal cs rest = ap (begins_none white) (text-first kinds.Delim (codes "=") cs rest)

-- Names.

pub lower-is : (n : List ℕ) → is_lower_name n ≡ true → is_name n ≡ true
lower-is n h = (and_parts (is_name n) (is_text (lowered n) n) h).0

dashes-none : is_range_feature (codes "--") ≡ false
unfolding chars encode
dashes-none = refl

module _ (q : QueryWords) where
  -- the name of a feature with a range is no `--`
  range-name : (n : List ℕ) → is_name n ≡ true → is_range_feature n ≡ true → name_text n ≡ codes "--" → ⊥
  range-name n h k e =
      (let same : n ≡ codes "--" = sym (q.means n h) ∙ ap (name_of_word kinds.Ident) e in
      false≢true (sym dashes-none ∙ ap is_range_feature (sym same) ∙ k))

  equals-on : (cs : List Component) (rest : List ℕ) → ReadsOn cs rest → ReadsOn (delim (codes "=") ∷ cs) rest
  equals-on cs rest k = on-single kinds.Delim (codes "=") cs rest refl (q.words.marked.1.1.1.1.1.1.1.1.1.1.1.1.1.1.0 (text_of cs ++ rest)) k

  greater-on : (cs : List Component) (rest : List ℕ) → ReadsOn cs rest → ReadsOn (delim (codes ">") ∷ cs) rest
  greater-on cs rest k = on-single kinds.Delim (codes ">") cs rest refl (q.words.marked.1.1.1.1.1.1.1.1.1.0 (text_of cs ++ rest)) k

  relation-on : (r : Relation) (cs : List Component) (rest : List ℕ) → begins_none bang (text_of cs ++ rest) ≡ true → ReadsOn cs rest → ReadsOn (relation_spelling r ++ cs) rest
  relation-on relations.Less cs rest h k = on-single kinds.Delim (codes "<") cs rest refl (q.less (text_of cs ++ rest) h) k
  relation-on relations.LessEqual cs rest h k =
      on-single kinds.Delim (codes "<") (delim (codes "=") ∷ cs) rest refl
      (subst (λ (t : List ℕ). StaysFirst (word_from kinds.Delim (codes "<")) t) (sym (text-first kinds.Delim (codes "=") cs rest)) (q.less_equal (text_of cs ++ rest)))
      (equals-on cs rest k)
  relation-on relations.Greater cs rest h k = greater-on cs rest k
  relation-on relations.GreaterEqual cs rest h k = greater-on (delim (codes "=") ∷ cs) rest (equals-on cs rest k)
  relation-on relations.Equal cs rest h k = equals-on cs rest k

  -- a name before a relation
  name-relation : (n : List ℕ) (r : Relation) (cs : List Component) (rest : List ℕ) → is_name n ≡ true → (name_text n ≡ codes "--" → ⊥) → StaysFirst (word_from kinds.Ident (name_text n)) (text_of (relation_spelling r ++ cs) ++ rest)
  name-relation n r cs rest h other = q.child n (text_of (relation_spelling r ++ cs) ++ rest) h other (follows r cs rest)
    where
      follows : (r : Relation) (cs : List Component) (rest : List ℕ) → begins_none after_name (text_of (relation_spelling r ++ cs) ++ rest) ≡ true
      follows relations.Less cs rest = ap (begins_none after_name) (text-first kinds.Delim (codes "<") cs rest)
      follows relations.LessEqual cs rest = ap (begins_none after_name) (text-first kinds.Delim (codes "<") (delim (codes "=") ∷ cs) rest)
      follows relations.Greater cs rest = ap (begins_none after_name) (text-first kinds.Delim (codes ">") cs rest)
      follows relations.GreaterEqual cs rest = ap (begins_none after_name) (text-first kinds.Delim (codes ">") (delim (codes "=") ∷ cs) rest)
      follows relations.Equal cs rest = ap (begins_none after_name) (text-first kinds.Delim (codes "=") cs rest)

  -- Features.

  feature-inside : (n : List ℕ) (value : Option (List ℕ)) → is_name n ≡ true → AllStand (feature_values value) → ReadsInside (ident n ∷ feature_value value)
  feature-inside n None h stand rest = on-single kinds.Ident (name_text n) [] (codes ")" ++ rest) refl (q.words.ident n (codes ")" ++ rest) h refl) (on-nothing (codes ")" ++ rest))
  feature-inside n (Some v) h stand rest =
      (let end = codes ")" ++ rest in
      let cs = text_components v in
      let colon_stays = q.words.marked.1.1.1.1.1.1.0 in
      let before : begins_none after_ident (text_of (colon ∷ cs) ++ end) ≡ true = ap (begins_none after_ident) (text-first kinds.Colon (codes ":") cs end) in
      on-single kinds.Ident (name_text n) (colon ∷ cs) end refl (q.words.ident n (text_of (colon ∷ cs) ++ end) h before)
      (on-single kinds.Colon (codes ":") cs end refl (colon_stays (text_of cs ++ end)) (value-inside v stand.0 rest)))

  -- a name and a bound behind it
  named-inside : (n : List ℕ) (b : Bound) → is_name n ≡ true → (name_text n ≡ codes "--" → ⊥) → StandsAsValue b.value → ReadsInside (ident n ∷ bound_behind b)
  named-inside n b h other stands rest =
      (let end = codes ")" ++ rest in
      let cs = text_components b.value in
      let begins : begins_none bang (text_of cs ++ end) ≡ true = ap (λ (t : List ℕ). begins_none bang (t ++ end)) (text-components b.value) ∙ begins-on b.value end stands.begins refl in
      on-single kinds.Ident (name_text n) (bound_behind b) end refl (name-relation n b.relation cs end h other)
      (relation-on b.relation cs end begins (value-inside b.value stands rest)))

  spaces-on : (dashes : Bool) (r : Relation) (cs : List Component) (rest : List ℕ) → ReadsOn (relation_spelling r ++ cs) rest → ReadsOn (spaces dashes ++ (relation_spelling r ++ cs)) rest
  spaces-on true r cs rest k = on-single kinds.White (codes " ") (relation_spelling r ++ cs) rest refl (q.words.spaced (text_of (relation_spelling r ++ cs) ++ rest) (relation-dark r cs rest)) k
  spaces-on false r cs rest k = k

  between-inside : (n : List ℕ) (a b : Bound) → is_name n ≡ true → (name_text n ≡ codes "--" → ⊥) → StandsAsValue a.value → StandsAsValue b.value → ReadsInside (bound_before a ++ ident n ∷ bound_behind b)
  between-inside n a b h other low high rest =
      (let end = codes ")" ++ rest in
      let named = ident n ∷ bound_behind b in
      let r = turned a.relation in
      let dashes = ends_in_dashes a.value in
      let tail = spaces dashes ++ (relation_spelling r ++ named) in
      let begins : begins_none bang (text_of named ++ end) ≡ true = ap (begins_none bang) (text-first kinds.Ident (name_text n) (bound_behind b) end) ∙ q.no_bang n (text_of (bound_behind b) ++ end) h in
      let behind = spaces-on dashes r named end (relation-on r named end begins (named-inside n b h other high rest)) in
      let regrouped : bound_before a ++ named ≡ text_components a.value ++ tail =
      append_assoc (text_components a.value) (spaces dashes ++ relation_spelling r) named ∙ ap (λ (cs : List Component). text_components a.value ++ cs) (append_assoc (spaces dashes) (relation_spelling r) named) in
      subst (λ (cs : List Component). ReadsOn cs end) (sym regrouped)
      (on-append q.words (text_components a.value) tail end (before-relation a.value dashes r named end low.reads) behind))

  bounds-inside : (n : List ℕ) (a : Bound) (second : Option Bound) → is_name n ≡ true → (name_text n ≡ codes "--" → ⊥) → AllStand (a.value ∷ bound_values second) → ReadsInside (bounds_spelling n a second)
  bounds-inside n a None h other stand = named-inside n a h other stand.0
  bounds-inside n a (Some b) h other stand = between-inside n a b h other stand.0 stand.1.0

  -- A readable feature in parentheses.
  pub feature-held : (f : Feature) → is_readable_feature f ≡ true → AllStand (feature_values f.value) → SpelledReads (enclosed (feature_spelling f))
  feature-held f r stand =
      (let p = and_parts (is_lower_name f.name) (is_readable_option f.value) r in
      reads-enclosed q.words (ident f.name ∷ feature_value f.value) (feature-inside f.name f.value (lower-is f.name p.0) stand))

  pub range-held : (f : Range) → is_readable_range f ≡ true → AllStand (f.first.value ∷ bound_values f.second) → SpelledReads (enclosed (range_spelling f))
  range-held f r stand =
      (let p = and_parts (is_range_feature f.name) (is_lower_name f.name && are_readable_bounds f.first f.second) r in
      let name = lower-is f.name (and_parts (is_lower_name f.name) (are_readable_bounds f.first f.second) p.1).0 in
      reads-enclosed q.words (bounds_spelling f.name f.first f.second) (bounds-inside f.name f.first f.second name (range-name f.name name p.0) stand))
