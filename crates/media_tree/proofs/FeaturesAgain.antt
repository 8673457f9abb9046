-- A media feature that is spelled out is read as it.
use Rattle.std.proofs.Common.{◌≡◌, ℕ, ◌+◌, List, [], ◌∷◌, ◌++◌, map, Bool, true, false, ◌&&◌, ◌||◌, not, length, take, drop, refl, sym, ap, ◌∙◌, subst, arith, cond, suc, append_assoc}
use Rattle.std.specs.Prelude.{Option, Some, None, codes, unwrap_or, if◌then◌else◌}
use Rattle.std.specs.List.{list_all, list_any, position, position_from}
use Rattle.std.specs.Option.{option_or}
use Rattle.std.proofs.lemmas.Bool.{and_parts, false≢true}
use Rattle.std.proofs.lemmas.Iterator.Adapters.{position_from-zero}
use Rattle.std.proofs.lemmas.List.{append-nil}
use Rattle.css_tokens.specs.declared.kind.Kind.{Kind}
use Rattle.css_tokens.specs.declared.kind.Kind.TheVariants as kinds
use Rattle.css_tokens.specs.declared.component.Component.{Component, out-Component}
use Rattle.css_tokens.specs.declared.component.Component.TheVariants.{outs-Single, outs-Block}
use Rattle.css_tokens.specs.declared.component.Block as block
use Rattle.css_tokens.specs.Names.{is_name, name_of_word}
use Rattle.css_tokens.specs.NameText.{name_text}
use Rattle.css_tokens.specs.Trees.{is_text}
use Rattle.media_spelling.specs.declared.condition.Bound.{Bound}
use Rattle.media_spelling.specs.declared.condition.Condition.{Condition}
use Rattle.media_spelling.specs.declared.condition.Condition as condition
use Rattle.media_spelling.specs.declared.condition.Feature.{Feature}
use Rattle.media_spelling.specs.declared.condition.Range.{Range}
use Rattle.media_spelling.specs.declared.condition.Relation.{Relation}
use Rattle.media_spelling.specs.declared.condition.Relation.TheVariants as relations
use Rattle.media_tree.specs.declared.mark.Mark.{Mark}
use Rattle.media_tree.specs.declared.mark.Mark.TheVariants as marks
use Rattle.media_tree.specs.declared.mark.Separator.{Separator}
use Rattle.media_tree.specs.declared.mark.Separator.TheVariants as separators
use Rattle.media_tree.specs.declared.sign.Sign.{Sign}
use Rattle.media_tree.specs.declared.sign.Sign.TheVariants.{Gap, Comma, Not, Only, And, Or, Name, Within, Other}
use Rattle.media_spelling.specs.Components.{colon, delim, ident, single, space}
use Rattle.media_tree.specs.ComponentInduction.{by_components}
use Rattle.media_tree.specs.Conditions.{condition_of, kind_sign, name_sign, solid, token_sign, within}
use Rattle.prop_table.specs.OldFeatures.{is_range_feature}
use Rattle.media_tree.specs.Features.{begins_equals, behind_one, behind_separator, boolean, feature_of, front_length, front_of, interval, is_equals_mark, is_same_way, is_separator, is_separator_mark, lone_name, name_in, one_bound, plain, ranged, ray, rest_of, sections, separator_at, separator_of, takes_equals, value_in, value_of}
use Rattle.media_tree.specs.Marks.{is_gap, layer_mark, layer_name, lowered, mark_of, token_mark, trimmed, trimmed_end, trimmed_start}
use Rattle.media_tree.specs.Queries.{block_sign, inside_of, is_parens, makes, sign_of}
use Rattle.media_tree.specs.ReadableQueries.{are_readable_bounds, is_lower_name, is_readable_feature, is_readable_option, is_readable_range, is_readable_value, is_some_text, is_value_part, layer_is_parens}
use Rattle.media_spelling.specs.Spelling.{bound_before, bound_behind, bounds_spelling, ends_in_dashes, feature_value, relation_spelling, space_behind, turned}
use Rattle.media_spelling.specs.TextComponents.{text_components}
use Rattle.media_tree.proofs.ConditionsAgain.{Leaves, feature-sign, signs_of}
use Rattle.media_tree.proofs.SignEquations.{query-Single, query-Block}
use Rattle.media_tree.proofs.TextLemmas.{same-text}
use Rattle.media_tree.proofs.TrimLemmas.{trimmed_end-gap, trimmed_start-gap, trimmed_start-other}

-- Signs that are no conditions.

-- a condition in parentheses?
abbrev is_within : Sign Condition → Bool
is_within (Within c) = true
is_within w = false

-- without one there is no condition
no-within : (ws : List (Sign Condition)) → list_any is_within ws ≡ false → condition_of makes ws ≡ None
no-within (Within c ∷ ws) h = absurd (false≢true (sym h))
no-within (Not ∷ Within c ∷ ws) h = absurd (false≢true (sym h))
no-within ws h = refl

solid-quiet : (ws : List (Sign Condition)) → list_any is_within ws ≡ false → list_any is_within (solid ws) ≡ false
solid-quiet [] h = refl
solid-quiet (Gap ∷ ws) h = solid-quiet ws h
solid-quiet (Within c ∷ ws) h = absurd (false≢true (sym h))
solid-quiet (w ∷ ws) h = solid-quiet ws h

name-quiet : (n : List ℕ) (a b c d e : Bool) → is_within (if a then Not else (if b then Only else (if c then And else (if d then Or else (if e then Other else Name n))))) ≡ false
name-quiet n true b c d e = refl
name-quiet n false true c d e = refl
name-quiet n false false true d e = refl
name-quiet n false false false true e = refl
name-quiet n false false false false true = refl
name-quiet n false false false false false = refl

kind-quiet : (k : Kind) (t : List ℕ) → is_within (kind_sign k t) ≡ false
kind-quiet kinds.Ident t =
    (let n = lowered (name_of_word kinds.Ident t) in
    name-quiet n (is_text n (codes "not")) (is_text n (codes "only")) (is_text n (codes "and")) (is_text n (codes "or")) (is_text n (codes "layer")))
kind-quiet k t = refl

single-quiet : (k : Kind) (t : List ℕ) → is_within (sign_of (single k t)) ≡ false
single-quiet k t = ap is_within (query-Single (record { kind = k; text = t; at = 0 })) ∙ kind-quiet k t

block-quiet : (parens : Bool) (o : Option Condition) → parens ≡ false → is_within (if parens then within o else Other) ≡ false
block-quiet true o h = absurd (false≢true (sym h))
block-quiet false o h = refl

-- what is no block in parentheses is no condition
part-quiet : (x : Component) → layer_is_parens (out-Component x) ≡ false → is_within (sign_of x) ≡ false
part-quiet x =
    by_components (λ y. layer_is_parens (out-Component y) ≡ false → is_within (sign_of y) ≡ false)
    (λ p h. ap is_within (query-Single p) ∙ kind-quiet p.kind p.text)
    (λ b each h. ap is_within (query-Block b) ∙ block-quiet (is_parens b) (inside_of b.items (map sign_of b.items)) (sym (ap layer_is_parens (outs-Block b)) ∙ h))
    x

not-true : (b : Bool) → not b ≡ true → b ≡ false
not-true true e = sym e
not-true false e = refl

parts-quiet : (cs : List Component) → list_all is_value_part cs ≡ true → list_any is_within (map sign_of cs) ≡ false
parts-quiet [] h = refl
parts-quiet (c ∷ cs) h =
    (let p = and_parts (is_value_part c) (list_all is_value_part cs) h in
    let q = and_parts (not (is_separator c)) (not (layer_is_parens (out-Component c))) p.0 in
    ap (λ (b : Bool). b || list_any is_within (map sign_of cs)) (part-quiet c (not-true (layer_is_parens (out-Component c)) q.1)) ∙ parts-quiet cs p.1)

-- of two tests that fail, the second
or-rest : (w x y : Bool) → (x ≡ false → y ≡ false) → (w || x) ≡ false → (w || y) ≡ false
or-rest true x y f h = absurd (false≢true (sym h))
or-rest false x y f h = f h

quiet-more : (a b : List Component) → list_any is_within (map sign_of a) ≡ false → list_any is_within (map sign_of b) ≡ false → list_any is_within (map sign_of (a ++ b)) ≡ false
quiet-more [] b h k = k
quiet-more (x ∷ a) b h k = or-rest (is_within (sign_of x)) (list_any is_within (map sign_of a)) (list_any is_within (map sign_of (a ++ b))) (λ g. quiet-more a b g k) h

no-condition : (cs : List Component) → list_any is_within (map sign_of cs) ≡ false → condition_of makes (signs_of cs) ≡ None
no-condition cs h = no-within (signs_of cs) (solid-quiet (map sign_of cs) h)

-- Separators.

mark-single : (k : Kind) (t : List ℕ) → mark_of (single k t) ≡ token_mark k t
mark-single k t = ap layer_mark (outs-Single (record { kind = k; text = t; at = 0 }))

-- no separator stands among them
abbrev whole : List Component → Type 0
whole cs = list_any is_separator cs ≡ false

whole-parts : (cs : List Component) → list_all is_value_part cs ≡ true → whole cs
whole-parts [] h = refl
whole-parts (c ∷ cs) h =
    (let p = and_parts (is_value_part c) (list_all is_value_part cs) h in
    let q = and_parts (not (is_separator c)) (not (layer_is_parens (out-Component c))) p.0 in
    ap (λ (b : Bool). b || list_any is_separator cs) (not-true (is_separator c) q.0) ∙ whole-parts cs p.1)

longer : (i n : ℕ) → (i + 1) + n ≡ i + suc n
longer i n = omega arith

-- a test fails, and what is found is found behind
goes-on : (b x : Bool) (i : ℕ) (r s : Option ℕ) → (x ≡ false → r ≡ s) → (b || x) ≡ false → cond b (Some i) r ≡ s
goes-on true x i r s f h = absurd (false≢true (sym h))
goes-on false x i r s f h = f h

position-none : (t : Component → Bool) (i : ℕ) (xs : List Component) → list_any t xs ≡ false → position_from t i xs ≡ None
position-none t i [] h = refl
position-none t i (x ∷ xs) h = goes-on (t x) (list_any t xs) i (position_from t (i + 1) xs) None (λ g. position-none t (i + 1) xs g) h

position-at : (t : Component → Bool) (i : ℕ) (xs : List Component) (y : Component) (ys : List Component) → list_any t xs ≡ false → t y ≡ true → position_from t i (xs ++ y ∷ ys) ≡ Some (i + length xs)
position-at t i [] y ys h k = ap (λ (b : Bool). cond b (Some i) (position_from t (i + 1) ys)) k ∙ ap (λ (n : ℕ). Some n) (omega arith)
position-at t i (x ∷ xs) y ys h k =
    goes-on (t x) (list_any t xs) i (position_from t (i + 1) (xs ++ y ∷ ys)) (Some (i + length (x ∷ xs)))
    (λ g. position-at t (i + 1) xs y ys g k ∙ ap (λ (n : ℕ). Some n) (longer i (length xs)))
    h

take-all : (xs ys : List Component) → take (length xs) (xs ++ ys) ≡ xs
take-all [] ys = refl
take-all (x ∷ xs) ys = ap (λ (zs : List Component). x ∷ zs) (take-all xs ys)

drop-all : (xs ys : List Component) → drop (length xs) (xs ++ ys) ≡ ys
drop-all [] ys = refl
drop-all (x ∷ xs) ys = drop-all xs ys

-- what stands before the first separator, and that and what stands behind it
record Cut (cs before behind : List Component) : Type 0 where
  front : front_of cs ≡ before
  rest : rest_of cs ≡ behind

cut-none : (xs : List Component) → whole xs → Cut xs xs []
cut-none xs h =
    (let n : front_length xs ≡ length xs = ap (λ (o : Option ℕ). unwrap_or o (length xs)) (position_from-zero is_separator xs ∙ position-none is_separator 0 xs h) in
    record {
      front = ap (λ (k : ℕ). take k xs) n ∙ ap (λ (ys : List Component). take (length xs) ys) (sym (append-nil xs)) ∙ take-all xs [];
      rest = ap (λ (k : ℕ). drop k xs) n ∙ ap (λ (ys : List Component). drop (length xs) ys) (sym (append-nil xs)) ∙ drop-all xs [];
    })

cut-at : (xs : List Component) (y : Component) (ys : List Component) → whole xs → is_separator y ≡ true → Cut (xs ++ y ∷ ys) xs (y ∷ ys)
cut-at xs y ys h k =
    (let all = xs ++ y ∷ ys in
    let n : front_length all ≡ length xs = ap (λ (o : Option ℕ). unwrap_or o (length all)) (position_from-zero is_separator all ∙ position-at is_separator 0 xs y ys h k) ∙ omega arith in
    record {
      front = ap (λ (m : ℕ). take m all) n ∙ take-all xs (y ∷ ys);
      rest = ap (λ (m : ℕ). drop m all) n ∙ drop-all xs (y ∷ ys);
    })

-- what is read of sections
sections-at : (cs front rest : List Component) → Cut cs front rest → feature_of cs ≡ sections front (separator_of rest) (behind_separator rest)
sections-at cs front rest cut =
    ap (λ (f : List Component). sections f (separator_of (rest_of cs)) (behind_separator (rest_of cs))) cut.front
    ∙ ap (λ (r : List Component). sections front (separator_of r) (behind_separator r)) cut.rest

is-separator : (t : List ℕ) (m : Mark) → token_mark kinds.Delim t ≡ m → is_separator_mark m ≡ true → is_separator (delim t) ≡ true
is-separator t m e h = ap is_separator_mark (mark-single kinds.Delim t ∙ e) ∙ h

-- components that begin with a relation
cut-relation : (xs : List Component) (r : Relation) (ys : List Component) → whole xs → Cut (xs ++ (relation_spelling r ++ ys)) xs (relation_spelling r ++ ys)
cut-relation xs relations.Less ys h = cut-at xs (delim (codes "<")) ys h (is-separator (codes "<") marks.Less refl refl)
cut-relation xs relations.LessEqual ys h = cut-at xs (delim (codes "<")) (delim (codes "=") ∷ ys) h (is-separator (codes "<") marks.Less refl refl)
cut-relation xs relations.Greater ys h = cut-at xs (delim (codes ">")) ys h (is-separator (codes ">") marks.Greater refl refl)
cut-relation xs relations.GreaterEqual ys h = cut-at xs (delim (codes ">")) (delim (codes "=") ∷ ys) h (is-separator (codes ">") marks.Greater refl refl)
cut-relation xs relations.Equal ys h = cut-at xs (delim (codes "=")) ys h (is-separator (codes "=") marks.Equals refl refl)

-- a relation and what stands behind it
record Reads (cs : List Component) (s : Separator) (ds : List Component) : Type 0 where
  separator : separator_of cs ≡ s
  behind : behind_separator cs ≡ ds

reads-relation : (r : Relation) (ys : List Component) → begins_equals ys ≡ false → Reads (relation_spelling r ++ ys) (separators.Relation r) ys
reads-relation relations.Less ys h = record { separator = cc (mark-single kinds.Delim (codes "<"), h); behind = cc (mark-single kinds.Delim (codes "<"), h) }
reads-relation relations.LessEqual ys h = record { separator = cc (mark-single kinds.Delim (codes "<"), mark-single kinds.Delim (codes "=")); behind = cc (mark-single kinds.Delim (codes "<"), mark-single kinds.Delim (codes "=")) }
reads-relation relations.Greater ys h = record { separator = cc (mark-single kinds.Delim (codes ">"), h); behind = cc (mark-single kinds.Delim (codes ">"), h) }
reads-relation relations.GreaterEqual ys h = record { separator = cc (mark-single kinds.Delim (codes ">"), mark-single kinds.Delim (codes "=")); behind = cc (mark-single kinds.Delim (codes ">"), mark-single kinds.Delim (codes "=")) }
reads-relation relations.Equal ys h = record { separator = cc (mark-single kinds.Delim (codes "=")); behind = cc (mark-single kinds.Delim (codes "=")) }

-- Names and values.

name-mark : (n : List ℕ) → mark_of (ident n) ≡ marks.Other
name-mark n = mark-single kinds.Ident (name_text n)

-- a name alone
name-alone : (n : List ℕ) → trimmed (ident n ∷ []) ≡ ident n ∷ []
name-alone n = cc (name-mark n)

module _ (means : (n : List ℕ) → is_name n ≡ true → name_of_word kinds.Ident (name_text n) ≡ n) where
  name-read : (n : List ℕ) → is_lower_name n ≡ true → name_in (ident n ∷ []) ≡ Some n
  name-read n h =
      (let p = and_parts (is_name n) (is_text (lowered n) n) h in
      let named : layer_name (out-Component (ident n)) ≡ Some n =
      ap layer_name (outs-Single (record { kind = kinds.Ident; text = name_text n; at = 0 }))
      ∙ ap (λ (m : List ℕ). Some (lowered m)) (means n p.0)
      ∙ ap (λ (m : List ℕ). Some m) (same-text (lowered n) n p.1) in
      ap lone_name (name-alone n) ∙ named)

some-text : (v : List ℕ) (o : Option (List ℕ)) → is_some_text v o ≡ true → o ≡ Some v
some-text v None h = absurd (false≢true h)
some-text v (Some w) h = ap (λ (t : List ℕ). Some t) (same-text w v h)

-- what a readable value is spelled with
record IsValue (cs : List Component) (v : List ℕ) : Type 0 where
  read : value_in cs ≡ Some v
  whole : list_any is_separator cs ≡ false
  quiet : list_any is_within (map sign_of cs) ≡ false
  equals : begins_equals cs ≡ false

other-mark : (m : Mark) (b : Bool) → (is_separator_mark m || b) ≡ false → is_equals_mark m ≡ false
other-mark marks.Equals b h = absurd (false≢true (sym h))
other-mark m b h = refl

no-equals : (cs : List Component) → list_any is_separator cs ≡ false → begins_equals cs ≡ false
no-equals [] h = refl
no-equals (c ∷ cs) h = other-mark (mark_of c) (list_any is_separator cs) h

value-read : (v : List ℕ) → is_readable_value v ≡ true → IsValue (text_components v) v
value-read v h =
    (let cs = text_components v in
    let p = and_parts (list_all is_value_part cs) (is_some_text v (value_in cs)) h in
    let w = whole-parts cs p.0 in
    record { read = some-text v (value_in cs) p.1; whole = w; quiet = parts-quiet cs p.0; equals = no-equals cs w })

trimmed-at : (b : Bool) (c : Component) (cs : List Component) (g : Component) → is_gap g ≡ true → is_gap c ≡ b → trimmed (cs ++ g ∷ []) ≡ trimmed cs → trimmed (c ∷ (cs ++ g ∷ [])) ≡ trimmed (c ∷ cs)
trimmed-at true c cs g h e more = ap trimmed_end (trimmed_start-gap c (cs ++ g ∷ []) e) ∙ more ∙ ap trimmed_end (sym (trimmed_start-gap c cs e))
trimmed-at false c cs g h e more = ap trimmed_end (trimmed_start-other c (cs ++ g ∷ []) e) ∙ trimmed_end-gap (c ∷ cs) g h ∙ ap trimmed_end (sym (trimmed_start-other c cs e))

-- white space behind it changes nothing
trimmed-space : (cs : List Component) (g : Component) → is_gap g ≡ true → trimmed (cs ++ g ∷ []) ≡ trimmed cs
trimmed-space [] g h = ap trimmed_end (trimmed_start-gap g [] h)
trimmed-space (c ∷ cs) g h = trimmed-at (is_gap c) c cs g h refl (trimmed-space cs g h)

space-gap : is_gap space ≡ true
space-gap = cc (mark-single kinds.White (codes " "))

whole-more : (a b : List Component) → whole a → whole b → whole (a ++ b)
whole-more [] b h k = k
whole-more (x ∷ a) b h k = or-rest (is_separator x) (list_any is_separator a) (list_any is_separator (a ++ b)) (λ g. whole-more a b g k) h

-- a value and a space behind it
spaced-value : (cs : List Component) (v : List ℕ) (dashes : Bool) → IsValue cs v → IsValue (cs ++ (if dashes then space ∷ [] else [])) v
spaced-value cs v false h = subst (λ (ds : List Component). IsValue ds v) (sym (append-nil cs)) h
spaced-value cs v true h =
    (let w = whole-more cs (space ∷ []) h.whole (cc (mark-single kinds.White (codes " "))) in
    record {
      read = ap value_of (trimmed-space cs space space-gap) ∙ h.read;
      whole = w;
      quiet = quiet-more cs (space ∷ []) h.quiet (ap (λ (b : Bool). b || false) (single-quiet kinds.White (codes " ")));
      equals = no-equals (cs ++ space ∷ []) w;
    })

relation-quiet : (r : Relation) → list_any is_within (map sign_of (relation_spelling r)) ≡ false
relation-quiet relations.Less = ap (λ (b : Bool). b || false) (single-quiet kinds.Delim (codes "<"))
relation-quiet relations.LessEqual = ap (λ (b : Bool). b || (is_within (sign_of (delim (codes "="))) || false)) (single-quiet kinds.Delim (codes "<")) ∙ ap (λ (b : Bool). b || false) (single-quiet kinds.Delim (codes "="))
relation-quiet relations.Greater = ap (λ (b : Bool). b || false) (single-quiet kinds.Delim (codes ">"))
relation-quiet relations.GreaterEqual = ap (λ (b : Bool). b || (is_within (sign_of (delim (codes "="))) || false)) (single-quiet kinds.Delim (codes ">")) ∙ ap (λ (b : Bool). b || false) (single-quiet kinds.Delim (codes "="))
relation-quiet relations.Equal = ap (λ (b : Bool). b || false) (single-quiet kinds.Delim (codes "="))

name-quiet-alone : (n : List ℕ) → list_any is_within (map sign_of (ident n ∷ [])) ≡ false
name-quiet-alone n = ap (λ (b : Bool). b || false) (single-quiet kinds.Ident (name_text n))

name-whole : (n : List ℕ) → whole (ident n ∷ [])
name-whole n = cc (name-mark n)

-- sections that a relation parts
ranged-at : (xs : List Component) (r : Relation) (ys front rest : List Component) (s : Separator) (behind : List Component) → whole xs → begins_equals ys ≡ false → Cut ys front rest → Reads rest s behind
    → feature_of (xs ++ (relation_spelling r ++ ys)) ≡ ranged xs r front s behind
ranged-at xs r ys front rest s behind w e cut reads =
    (let first = reads-relation r ys e in
    sections-at (xs ++ (relation_spelling r ++ ys)) xs (relation_spelling r ++ ys) (cut-relation xs r ys w)
    ∙ ap (λ (t : Separator). sections xs t (behind_separator (relation_spelling r ++ ys))) first.separator
    ∙ ap (λ (zs : List Component). sections xs (separators.Relation r) zs) first.behind
    ∙ ap (λ (f : List Component). ranged xs r f (separator_of (rest_of ys)) (behind_separator (rest_of ys))) cut.front
    ∙ ap (λ (g : List Component). ranged xs r front (separator_of g) (behind_separator g)) cut.rest
    ∙ ap (λ (t : Separator). ranged xs r front t (behind_separator rest)) reads.separator
    ∙ ap (λ (zs : List Component). ranged xs r front s zs) reads.behind)

turned-twice : (r : Relation) → turned (turned r) ≡ r
turned-twice relations.Less = refl
turned-twice relations.LessEqual = refl
turned-twice relations.Greater = refl
turned-twice relations.GreaterEqual = refl
turned-twice relations.Equal = refl

-- Features and ranges.

module _ (means : (n : List ℕ) → is_name n ≡ true → name_of_word kinds.Ident (name_text n) ≡ n) where
  boolean-read : (n : List ℕ) → is_lower_name n ≡ true → feature_of (ident n ∷ []) ≡ Some (condition.Feature (record { name = n; value = None }))
  boolean-read n h = sections-at (ident n ∷ []) (ident n ∷ []) [] (cut-none (ident n ∷ []) (name-whole n)) ∙ ap boolean (name-read means n h)

  plain-read : (n v : List ℕ) (cs : List Component) → is_lower_name n ≡ true → IsValue cs v → feature_of (ident n ∷ colon ∷ cs) ≡ Some (condition.Feature (record { name = n; value = Some v }))
  plain-read n v cs h value =
      (let mark = mark-single kinds.Colon (codes ":") in
      let separator : separator_of (colon ∷ cs) ≡ separators.Colon = ap (λ (m : Mark). separator_at m (begins_equals cs)) mark in
      let behind : behind_separator (colon ∷ cs) ≡ cs = ap (λ (m : Mark). if takes_equals m (begins_equals cs) then behind_one cs else cs) mark in
      sections-at (ident n ∷ colon ∷ cs) (ident n ∷ []) (colon ∷ cs) (cut-at (ident n ∷ []) colon cs (name-whole n) (ap is_separator_mark mark))
      ∙ ap (λ (t : Separator). sections (ident n ∷ []) t (behind_separator (colon ∷ cs))) separator
      ∙ ap (λ (zs : List Component). sections (ident n ∷ []) separators.Colon zs) behind
      ∙ ap (λ (o : Option (List ℕ)). plain o (value_in cs)) (name-read means n h)
      ∙ ap (λ (o : Option (List ℕ)). plain (Some n) o) value.read)

  feature-again : (n : List ℕ) (value : Option (List ℕ)) → is_lower_name n ≡ true → is_readable_option value ≡ true → feature_of (ident n ∷ feature_value value) ≡ Some (condition.Feature (record { name = n; value = value }))
  feature-again n None h k = boolean-read n h
  feature-again n (Some v) h k = plain-read n v (text_components v) h (value-read v k)

  feature-quiet : (n : List ℕ) (value : Option (List ℕ)) → is_readable_option value ≡ true → list_any is_within (map sign_of (ident n ∷ feature_value value)) ≡ false
  feature-quiet n None k = name-quiet-alone n
  feature-quiet n (Some v) k = quiet-more (ident n ∷ []) (colon ∷ text_components v) (name-quiet-alone n) (quiet-more (colon ∷ []) (text_components v) (ap (λ (b : Bool). b || false) (single-quiet kinds.Colon (codes ":"))) (value-read v k).quiet)

  ray-read : (n : List ℕ) (b : Bound) → is_range_feature n ≡ true → is_lower_name n ≡ true → IsValue (text_components b.value) b.value → feature_of (ident n ∷ bound_behind b) ≡ Some (condition.Range (record { name = n; first = b; second = None }))
  ray-read n b range h value =
      (let cs = text_components b.value in
      let made : Condition = condition.Range (record { name = n; first = b; second = None }) in
      ranged-at (ident n ∷ []) b.relation cs cs [] separators.None [] (name-whole n) value.equals (cut-none cs value.whole) (record { separator = refl; behind = refl })
      ∙ ap (λ (o : Option (List ℕ)). option_or (ray o b.relation (value_in cs)) (ray (name_in cs) (turned b.relation) (value_in (ident n ∷ [])))) (name-read means n h)
      ∙ ap (λ (o : Option (List ℕ)). option_or (ray (Some n) b.relation o) (ray (name_in cs) (turned b.relation) (value_in (ident n ∷ [])))) value.read
      ∙ ap (λ (t : Bool). option_or (if t then Some made else None) (ray (name_in cs) (turned b.relation) (value_in (ident n ∷ [])))) range)

  bound-quiet : (b : Bound) → IsValue (text_components b.value) b.value → list_any is_within (map sign_of (bound_behind b)) ≡ false
  bound-quiet b value = quiet-more (relation_spelling b.relation) (text_components b.value) (relation-quiet b.relation) value.quiet

  interval-read : (n : List ℕ) (a b : Bound) → is_range_feature n ≡ true → is_lower_name n ≡ true → IsValue (text_components a.value) a.value → IsValue (text_components b.value) b.value → is_same_way (turned a.relation) b.relation ≡ true
      → feature_of (bound_before a ++ ident n ∷ bound_behind b) ≡ Some (condition.Range (record { name = n; first = a; second = Some b }))
  interval-read n a b range h low high way =
      (let low_cs = text_components a.value ++ space_behind a.value in
      let high_cs = text_components b.value in
      let r = turned a.relation in
      let spaced = spaced-value (text_components a.value) a.value (ends_in_dashes a.value) low in
      let regrouped : bound_before a ++ ident n ∷ bound_behind b ≡ low_cs ++ (relation_spelling r ++ ident n ∷ bound_behind b) = simp append_assoc in
      let made : Relation → Condition = λ q. condition.Range (record { name = n; first = record { relation = q; value = a.value }; second = Some b }) in
      let named : begins_equals (ident n ∷ bound_behind b) ≡ false = ap is_equals_mark (name-mark n) in
      let last = reads-relation b.relation high_cs high.equals in
      ap feature_of regrouped
      ∙ ranged-at low_cs r (ident n ∷ bound_behind b) (ident n ∷ []) (bound_behind b) (separators.Relation b.relation) high_cs spaced.whole named (cut-relation (ident n ∷ []) b.relation high_cs (name-whole n)) last
      ∙ ap (λ (o : Option (List ℕ)). interval o r (name_in (ident n ∷ [])) b.relation (value_in high_cs)) spaced.read
      ∙ ap (λ (o : Option (List ℕ)). interval (Some a.value) r o b.relation (value_in high_cs)) (name-read means n h)
      ∙ ap (λ (o : Option (List ℕ)). interval (Some a.value) r (Some n) b.relation o) high.read
      ∙ ap (λ (t : Bool). if t && is_same_way r b.relation then Some (made (turned r)) else None) range
      ∙ ap (λ (t : Bool). if t then Some (made (turned r)) else None) way
      ∙ ap (λ (q : Relation). Some (made q)) (turned-twice a.relation))

  bounds-again : (n : List ℕ) (a : Bound) (second : Option Bound) → is_range_feature n ≡ true → is_lower_name n ≡ true → are_readable_bounds a second ≡ true
      → feature_of (bounds_spelling n a second) ≡ Some (condition.Range (record { name = n; first = a; second = second }))
  bounds-again n a None range h k = ray-read n a range h (value-read a.value k)
  bounds-again n a (Some b) range h k =
      (let p = and_parts (is_readable_value a.value) (is_readable_value b.value && is_same_way (turned a.relation) b.relation) k in
      let q = and_parts (is_readable_value b.value) (is_same_way (turned a.relation) b.relation) p.1 in
      interval-read n a b range h (value-read a.value p.0) (value-read b.value q.0) q.1)

  bounds-quiet : (n : List ℕ) (a : Bound) (second : Option Bound) → are_readable_bounds a second ≡ true → list_any is_within (map sign_of (bounds_spelling n a second)) ≡ false
  bounds-quiet n a None k = quiet-more (ident n ∷ []) (bound_behind a) (name-quiet-alone n) (bound-quiet a (value-read a.value k))
  bounds-quiet n a (Some b) k =
      (let p = and_parts (is_readable_value a.value) (is_readable_value b.value && is_same_way (turned a.relation) b.relation) k in
      let q = and_parts (is_readable_value b.value) (is_same_way (turned a.relation) b.relation) p.1 in
      let spaced = spaced-value (text_components a.value) a.value (ends_in_dashes a.value) (value-read a.value p.0) in
      let front : list_any is_within (map sign_of ((text_components a.value ++ space_behind a.value) ++ relation_spelling (turned a.relation))) ≡ false =
      quiet-more (text_components a.value ++ space_behind a.value) (relation_spelling (turned a.relation)) spaced.quiet (relation-quiet (turned a.relation)) in
      let regrouped : (text_components a.value ++ space_behind a.value) ++ relation_spelling (turned a.relation) ≡ bound_before a = append_assoc (text_components a.value) (space_behind a.value) (relation_spelling (turned a.relation)) in
      quiet-more (bound_before a) (ident n ∷ bound_behind b)
      (ap (λ (cs : List Component). list_any is_within (map sign_of cs)) (sym regrouped) ∙ front)
      (quiet-more (ident n ∷ []) (bound_behind b) (name-quiet-alone n) (bound-quiet b (value-read b.value q.0))))

  -- Readable features and ranges are read as they are.
  pub leaves-again : Leaves
  leaves-again = record {
    feature = λ f r.
        (let p = and_parts (is_lower_name f.name) (is_readable_option f.value) r in
        feature-sign (ident f.name ∷ feature_value f.value) (condition.Feature f) (no-condition (ident f.name ∷ feature_value f.value) (feature-quiet f.name f.value p.1)) (feature-again f.name f.value p.0 p.1));
    range = λ f r.
        (let p = and_parts (is_range_feature f.name) (is_lower_name f.name && are_readable_bounds f.first f.second) r in
        let q = and_parts (is_lower_name f.name) (are_readable_bounds f.first f.second) p.1 in
        feature-sign (bounds_spelling f.name f.first f.second) (condition.Range f) (no-condition (bounds_spelling f.name f.first f.second) (bounds-quiet f.name f.first f.second q.1)) (bounds-again f.name f.first f.second p.0 q.0 q.1));
  }
