-- A media feature that is read is readable, and each value in it stands as one.
use Rattle.std.proofs.Common.{◌≡◌, ℕ, List, [], ◌∷◌, Bool, true, false, ◌&&◌, refl, sym, ap, ap₂, ◌∙◌, subst}
use Rattle.std.specs.Prelude.{Option, Some, None, if◌then◌else◌, take}
use Rattle.std.specs.List.{AllByRecursion}
use Rattle.std.specs.Option.{option_map}
use Rattle.std.specs.Str.{IsUtf8, is_utf8}
use Rattle.std.proofs.lemmas.Bool.{and_parts}
use Rattle.std.proofs.lemmas.Str.{IsUtf8-from_is_utf8}
use lib.Pointwise.{bytes_decides}
use Rattle.css_tokens.specs.declared.kind.Kind.{Kind}
use Rattle.css_tokens.specs.declared.kind.Kind.TheVariants as kinds
use Rattle.css_tokens.specs.declared.component.Component.{Component}
use Rattle.css_tokens.specs.declared.component.Component as component
use Rattle.css_tokens.specs.declared.component.Component.TheVariants.{outs-Single, outs-Block}
use Rattle.css_tokens.specs.declared.component.Block as block
use Rattle.css_tokens.specs.Names.{is_name, name_of_word}
use Rattle.css_tokens.specs.Tokens.{spells}
use Rattle.css_tokens.specs.Values.{value_text}
use Rattle.media_spelling.specs.declared.condition.Condition.{Condition}
use Rattle.media_spelling.specs.declared.condition.Condition as condition
use Rattle.media_spelling.specs.declared.condition.Relation.{Relation}
use Rattle.media_spelling.specs.declared.condition.Relation.TheVariants as relations
use Rattle.media_spelling.specs.ConditionFold.{folded-Feature, folded-Range}
use Rattle.media_spelling.specs.Spelling.{turned}
use Rattle.media_tree.specs.declared.mark.Separator.{Separator}
use Rattle.media_tree.specs.declared.mark.Separator.TheVariants as separators
use Rattle.media_tree.specs.ComponentInduction.{Each, by_components}
use Rattle.media_tree.specs.Features.{begins_equals, behind_one, behind_separator, block_value, boolean, feature_of, front_length, front_of, gap_text, goes_unseen, gap_length, interval, is_same_way, is_slash_mark, layer_number, layer_value, lone_name, name_in, number_text, one_bound, plain, ranged, ratio, ratio_behind, ratio_end, ray, rest_of, sections, separator_of, single_value, takes_equals, token_number, token_value, value_in, value_of}
use Rattle.media_tree.specs.Marks.{ident_name, layer_name, lowered, mark_of, token_name, trimmed, trimmed_start}
use Rattle.media_tree.specs.ReadValues.{StandsAsValue, values, values_in}
use Rattle.media_tree.specs.ReadableQueries.{is_lower_name, is_readable_condition, readable}
use Rattle.media_tree.specs.SpelledWords.{is_spelled}
use Rattle.prop_table.specs.OldFeatures.{is_range_feature}
use Rattle.media_tree.proofs.FunctionsReadable.{PrintLaws, function-is-value}
use Rattle.media_tree.proofs.LowerNames.{lower-name, lower-twice}
use Rattle.media_tree.proofs.PartsOfTexts.{each-drop, each-start, each-take, each-trimmed, token-good}
use Rattle.media_tree.proofs.PartsRead.{Stands}
use Rattle.media_tree.proofs.ReadConditions.{OfSome, some-or}
use Rattle.media_tree.proofs.ValuesReadable.{IsValue, WordLaws, gap_at, ratio-is-value, ratio_text, token-is-value}

-- a readable condition of which each value stands as one
pub record IsFine (c : Condition) : Type 0 where
  pub readable : is_readable_condition c ≡ true
  pub values : AllByRecursion StandsAsValue (values_in c)

-- what is ensured of names and values
pub record ReadLaws : Type 0 where
  pub decoded : (t : List ℕ) → IsUtf8 t → spells kinds.Ident t ≡ true → is_name (name_of_word kinds.Ident t) ≡ true
  pub words : WordLaws
  pub printing : PrintLaws

-- Features and ranges of readable parts.

abbrev pub IsLower : List ℕ → Type 0
IsLower n = is_lower_name n ≡ true

abbrev IsNumber : List ℕ → Type 0
IsNumber n = is_spelled (record { kind = kinds.Number; text = n }) ≡ true

abbrev AllStand : List (List ℕ) → Type 0
AllStand vs = AllByRecursion StandsAsValue vs

boolean-fine : (o : Option (List ℕ)) → OfSome IsLower o → OfSome IsFine (boolean o)
boolean-fine None h = tt
boolean-fine (Some n) h = record {
  readable = folded-Feature readable _ ∙ ap (λ (b : Bool). b && true) h;
  values = subst AllStand (sym (folded-Feature values _)) tt;
}

plain-fine : (o p : Option (List ℕ)) → OfSome IsLower o → OfSome IsValue p → OfSome IsFine (plain o p)
plain-fine None p h v = tt
plain-fine (Some n) None h v = tt
plain-fine (Some n) (Some t) h v = record {
  readable = folded-Feature readable _ ∙ ap₂ ◌&&◌ h v.readable;
  values = subst AllStand (sym (folded-Feature values _)) (v.stands, tt);
}

-- a condition that is made where a test holds
where_true : (b : Bool) (c : Condition) → (b ≡ true → IsFine c) → OfSome IsFine (if b then Some c else None)
where_true true c h = h refl
where_true false c h = tt

ray-fine : (o : Option (List ℕ)) (r : Relation) (p : Option (List ℕ)) → OfSome IsLower o → OfSome IsValue p → OfSome IsFine (ray o r p)
ray-fine None r p h v = tt
ray-fine (Some n) r None h v = tt
ray-fine (Some n) r (Some t) h v =
    where_true (is_range_feature n) (condition.Range (record { name = n; first = record { relation = r; value = t }; second = None }))
    (λ e. record {
      readable = folded-Range readable _ ∙ ap₂ ◌&&◌ e (ap₂ ◌&&◌ h v.readable);
      values = subst AllStand (sym (folded-Range values _)) (v.stands, tt);
    })

turned-twice : (r : Relation) → turned (turned r) ≡ r
turned-twice relations.Less = refl
turned-twice relations.LessEqual = refl
turned-twice relations.Greater = refl
turned-twice relations.GreaterEqual = refl
turned-twice relations.Equal = refl

interval-fine : (o : Option (List ℕ)) (r : Relation) (m : Option (List ℕ)) (s : Relation) (p : Option (List ℕ)) → OfSome IsValue o → OfSome IsLower m → OfSome IsValue p → OfSome IsFine (interval o r m s p)
interval-fine None r m s p low h high = tt
interval-fine (Some t) r None s p low h high = tt
interval-fine (Some t) r (Some n) s None low h high = tt
interval-fine (Some t) r (Some n) s (Some u) low h high =
    where_true (is_range_feature n && is_same_way r s)
    (condition.Range (record { name = n; first = record { relation = turned r; value = t }; second = Some (record { relation = s; value = u }) }))
    (λ e.
    let q = and_parts (is_range_feature n) (is_same_way r s) e in
    let way : is_same_way (turned (turned r)) s ≡ true = ap (λ (x : Relation). is_same_way x s) (turned-twice r) ∙ q.1 in
    record {
      readable = folded-Range readable _ ∙ ap₂ ◌&&◌ q.0 (ap₂ ◌&&◌ h (ap₂ ◌&&◌ low.readable (ap₂ ◌&&◌ high.readable way)));
      values = subst AllStand (sym (folded-Range values _)) (low.stands, (high.stands, tt));
    })

-- Names and values.

module _ (laws : ReadLaws) where
  pub token-lower : (k : Kind) (t : List ℕ) → is_spelled (record { kind = k; text = t }) ≡ true → OfSome IsLower (token_name k t)
  token-lower kinds.Ident t h =
      (let p = and_parts (is_utf8 t) (spells kinds.Ident t) h in
      let n = name_of_word kinds.Ident t in
      ap₂ ◌&&◌ (lower-name n (laws.decoded t (IsUtf8-from_is_utf8 t p.0) p.1)) ((bytes_decides (lowered (lowered n)) (lowered n)).1 (lower-twice n)))
  token-lower k t h = tt

  ident-lower : (c : Component) → Stands c → OfSome IsLower (ident_name c)
  ident-lower c =
      by_components (λ x. Stands x → OfSome IsLower (ident_name x))
      (λ p g. subst (OfSome IsLower) (sym (ap layer_name (outs-Single p))) (token-lower p.kind p.text (token-good p g.good)))
      (λ b each g. subst (OfSome IsLower) (sym (ap layer_name (outs-Block b))) tt)
      c

  lone-lower : (cs : List Component) → Each Stands cs → OfSome IsLower (lone_name cs)
  lone-lower [] g = tt
  lone-lower (c ∷ []) g = ident-lower c g.0
  lone-lower (c ∷ d ∷ cs) g = tt

  pub name-lower : (cs : List Component) → Each Stands cs → OfSome IsLower (name_in cs)
  name-lower cs g = lone-lower (trimmed cs) (each-trimmed Stands cs g)

  token-number : (k : Kind) (t : List ℕ) → is_spelled (record { kind = k; text = t }) ≡ true → OfSome IsNumber (token_number k t)
  token-number kinds.Number t h = h
  token-number k t h = tt

  number-spelled : (c : Component) → Stands c → OfSome IsNumber (number_text c)
  number-spelled c =
      by_components (λ x. Stands x → OfSome IsNumber (number_text x))
      (λ p g. subst (OfSome IsNumber) (sym (ap layer_number (outs-Single p))) (token-number p.kind p.text (token-good p g.good)))
      (λ b each g. subst (OfSome IsNumber) (sym (ap layer_number (outs-Block b))) tt)
      c

  token-fine : (k : Kind) (t : List ℕ) → is_spelled (record { kind = k; text = t }) ≡ true → OfSome IsValue (token_value k t)
  token-fine kinds.Number t h = (let p = and_parts (is_utf8 t) (spells kinds.Number t) h in token-is-value laws.words kinds.Number t refl p.0 p.1)
  token-fine kinds.Dimension t h = (let p = and_parts (is_utf8 t) (spells kinds.Dimension t) h in token-is-value laws.words kinds.Dimension t refl p.0 p.1)
  token-fine kinds.Ident t h = (let p = and_parts (is_utf8 t) (spells kinds.Ident t) h in token-is-value laws.words kinds.Ident t refl p.0 p.1)
  token-fine k t h = tt

  utf8-fine : (b : Bool) (t : List ℕ) → (b ≡ true → IsValue t) → OfSome IsValue (if b then Some t else None)
  utf8-fine true t h = h refl
  utf8-fine false t h = tt

  block-fine : (k : Kind) (b : block.Block) → Stands (component.Block b) → b.opening.kind ≡ k → OfSome IsValue (block_value k (component.Block b))
  block-fine kinds.Function b g e = (let t = value_text (component.Block b ∷ []) in utf8-fine (is_utf8 t) t (λ u. function-is-value laws.printing b g e u))
  block-fine k b g e = tt

  single-fine : (c : Component) → Stands c → OfSome IsValue (single_value c)
  single-fine c =
      by_components (λ x. Stands x → OfSome IsValue (single_value x))
      (λ p g. subst (OfSome IsValue) (sym (ap (layer_value (component.Single p)) (outs-Single p))) (token-fine p.kind p.text (token-good p g.good)))
      (λ b each g. subst (OfSome IsValue) (sym (ap (layer_value (component.Block b)) (outs-Block b))) (block-fine b.opening.kind b g refl))
      c

  divisor-fine : (a b : Bool) (n : List ℕ) (o : Option (List ℕ)) → IsNumber n → OfSome IsNumber o → OfSome IsValue (option_map (λ d. ratio_text a b n d) o)
  divisor-fine a b n None h k = tt
  divisor-fine a b n (Some d) h k = ratio-is-value laws.words a b n d h k

  end-fine : (a b : Bool) (n : List ℕ) (cs : List Component) → IsNumber n → Each Stands cs → OfSome IsValue (ratio_end n (gap_at a) (gap_at b) cs)
  end-fine a b n [] h g = tt
  end-fine a b n (c ∷ []) h g = divisor-fine a b n (number_text c) h (number-spelled c g.0)
  end-fine a b n (c ∷ d ∷ cs) h g = tt

  where_some : (b : Bool) (o : Option (List ℕ)) → OfSome IsValue o → OfSome IsValue (if b then o else None)
  where_some true o h = h
  where_some false o h = tt

  behind-fine : (a : Bool) (n : List ℕ) (cs : List Component) → IsNumber n → Each Stands cs → OfSome IsValue (ratio_behind n (gap_at a) cs)
  behind-fine a n [] h g = tt
  behind-fine a n (c ∷ cs) h g =
      where_some (is_slash_mark (mark_of c)) (ratio_end n (gap_at a) (gap_text cs) (trimmed_start cs))
      (end-fine a (goes_unseen (take (gap_length cs) cs)) n (trimmed_start cs) h (each-start Stands cs g.1))

  ratio-fine : (o : Option (List ℕ)) (cs : List Component) → OfSome IsNumber o → Each Stands cs → OfSome IsValue (ratio o cs)
  ratio-fine None cs h g = tt
  ratio-fine (Some n) cs h g = behind-fine (goes_unseen (take (gap_length cs) cs)) n (trimmed_start cs) h (each-start Stands cs g)

  of-fine : (cs : List Component) → Each Stands cs → OfSome IsValue (value_of cs)
  of-fine [] g = tt
  of-fine (c ∷ []) g = single-fine c g.0
  of-fine (c ∷ d ∷ cs) g = ratio-fine (number_text c) (d ∷ cs) (number-spelled c g.0) g.1

  pub value-fine : (cs : List Component) → Each Stands cs → OfSome IsValue (value_in cs)
  value-fine cs g = of-fine (trimmed cs) (each-trimmed Stands cs g)

  -- Sections.

  one-fine : (left : List Component) (r : Relation) (right : List Component) → Each Stands left → Each Stands right → OfSome IsFine (one_bound left r right)
  one-fine left r right g h =
      some-or IsFine (ray (name_in left) r (value_in right)) (ray (name_in right) (turned r) (value_in left))
      (ray-fine (name_in left) r (value_in right) (name-lower left g) (value-fine right h))
      (ray-fine (name_in right) (turned r) (value_in left) (name-lower right h) (value-fine left g))

  ranged-fine : (left : List Component) (r : Relation) (middle : List Component) (s : Separator) (right : List Component) → Each Stands left → Each Stands middle → Each Stands right → OfSome IsFine (ranged left r middle s right)
  ranged-fine left r middle separators.None right g h k = one-fine left r middle g h
  ranged-fine left r middle separators.Colon right g h k = tt
  ranged-fine left r middle (separators.Relation s) right g h k =
      interval-fine (value_in left) r (name_in middle) s (value_in right) (value-fine left g) (name-lower middle h) (value-fine right k)

  one-behind : (cs : List Component) → Each Stands cs → Each Stands (behind_one cs)
  one-behind [] g = tt
  one-behind (c ∷ cs) g = g.1

  either : (b : Bool) (xs ys : List Component) → Each Stands xs → Each Stands ys → Each Stands (if b then xs else ys)
  either true xs ys g h = g
  either false xs ys g h = h

  separator-behind : (cs : List Component) → Each Stands cs → Each Stands (behind_separator cs)
  separator-behind [] g = tt
  separator-behind (c ∷ cs) g = either (takes_equals (mark_of c) (begins_equals cs)) (behind_one cs) cs (one-behind cs g.1) g.1

  sections-fine : (left : List Component) (s : Separator) (rest : List Component) → Each Stands left → Each Stands rest → OfSome IsFine (sections left s rest)
  sections-fine left separators.None rest g h = boolean-fine (name_in left) (name-lower left g)
  sections-fine left separators.Colon rest g h = plain-fine (name_in left) (value_in rest) (name-lower left g) (value-fine rest h)
  sections-fine left (separators.Relation r) rest g h =
      (let more = each-drop Stands (front_length rest) rest h in
      ranged-fine left r (front_of rest) (separator_of (rest_of rest)) (behind_separator (rest_of rest)) g (each-take Stands (front_length rest) rest h) (separator-behind (rest_of rest) more))

  -- A feature that is read is readable.
  pub feature-fine : (cs : List Component) → Each Stands cs → OfSome IsFine (feature_of cs)
  feature-fine cs g =
      sections-fine (front_of cs) (separator_of (rest_of cs)) (behind_separator (rest_of cs))
      (each-take Stands (front_length cs) cs g) (separator-behind (rest_of cs) (each-drop Stands (front_length cs) cs g))
