-- The conditions of an import that is read are readable, and their values stand in its text.
use Rattle.std.proofs.Common.{◌≡◌, ℕ, List, [], ◌∷◌, ◌++◌, Bool, true, false, ◌&&◌, refl, sym, ◌∙◌, ap, ap₂, subst, inl, inr, IsTrue}
use Rattle.std.specs.Prelude.{Option, Some, None, codes, if◌then◌else◌}
use Rattle.std.specs.List.{list_all}
use Rattle.std.specs.Option.{option_map}
use Rattle.std.proofs.lemmas.Bool.{and_parts, false≢true}
use Rattle.std.proofs.lemmas.List.Folds.{list_all-append}
use Rattle.css_tokens.specs.declared.component.Component.{Component}
use Rattle.css_tokens.specs.declared.component.Component as component
use Rattle.css_tokens.specs.declared.component.Block as block
use Rattle.css_tokens.specs.Piece.{Word, spelled}
use Rattle.css_tokens.specs.Tokens.{ReadsTo}
use Rattle.css_tokens.specs.Trees.{all_formed, is_formed, words_all}
use Rattle.css_components.specs.Components.{inside, is_gap}
use Rattle.css_components.specs.Trimming.{trimmed_start}
use Rattle.media_spelling.specs.SupportsAgain.{has_no_function}
use Rattle.media_spelling.specs.SupportsValues.{DeclaredValuesStand}
use Rattle.media_spelling.specs.declared.condition.Query.{Query}
use Rattle.media_spelling.specs.declared.supports.Supports.{Supports}
use Rattle.media_tree.specs.Queries.{queries_reading}
use Rattle.media_tree.specs.ReadValues.{ValuesStand}
use Rattle.media_tree.specs.ReadableQueries.{are_readable_queries}
use Rattle.media_tree.specs.SpelledWords.{AreRead, is_spelled}
use Rattle.media_tree.specs.SupportsAgain.{is_readable_supports}
use Rattle.media_tree.specs.SupportsReading.{supports_inside}
use Rattle.media_tree.proofs.PartsOfTexts.{Good, all-formed, all-good, inside-good, words-cons, words_of}
use Rattle.media_tree.specs.ComponentInduction.{Each}
use Rattle.media_tree.proofs.PartsRead.{Splits}
use Rattle.media_tree.proofs.ReadConditions.{OfSome}
use Rattle.media_tree.proofs.WordsRead.{words-append}
use Rattle.import_rules.specs.declared.import.ImportRule.{ImportRule}
use Rattle.import_rules.specs.declared.import.ImportRule.TheVariants.{Read, Waiting, Unread}
use Rattle.import_rules.specs.Imports.{begins_layer, behind_target, conditioned, import_reading, imported, is_function, target_of}
use Rattle.import_rules.proofs.Shapes.{function-Single, inside-Block, shape_of}

-- well formed components of words that are spelled, and read one after another in some text
pub record IsSource (cs : List Component) : Type 0 where
  pub formed : all_formed cs ≡ true
  pub spelled : list_all is_spelled (words_all cs) ≡ true
  pub read : AreRead cs

-- what is ensured of readings, of supports conditions and of media query lists
pub record StandLaws : Type 0 where
  pub splits : Splits
  pub supports_stand : (b : block.Block) (s : Supports) → IsTrue (all_formed (component.Block b ∷ [])) → IsTrue (list_all is_spelled (words_all (component.Block b ∷ []))) → AreRead (component.Block b ∷ []) → supports_inside b.items ≡ Some s → DeclaredValuesStand s
  pub supports_readable : (cs : List Component) (s : Supports) → IsTrue (all_formed cs) → IsTrue (list_all is_spelled (words_all cs)) → supports_inside cs ≡ Some s → IsTrue (has_no_function s) → IsTrue (is_readable_supports s)
  pub readable : (cs : List Component) (qs : List Query) → IsTrue (all_formed cs) → IsTrue (list_all is_spelled (words_all cs)) → AreRead cs → queries_reading cs ≡ Some qs → IsTrue (are_readable_queries qs)
  pub values : (cs : List Component) (qs : List Query) → IsTrue (all_formed cs) → IsTrue (list_all is_spelled (words_all cs)) → AreRead cs → queries_reading cs ≡ Some qs → ValuesStand qs

-- what holds of the supports condition of an import
pub record IsCondition (s : Supports) : Type 0 where
  pub stands : DeclaredValuesStand s
  pub readable : has_no_function s ≡ true → is_readable_supports s ≡ true

-- what holds of its media query list
pub record IsMedia (qs : List Query) : Type 0 where
  pub readable : are_readable_queries qs ≡ true
  pub stands : ValuesStand qs

-- what holds of both
abbrev pub IsSound : ImportRule → Type 0
IsSound (Read i) = OfSome IsCondition i.supports × IsMedia i.media
IsSound Waiting = Unit {0}
IsSound Unread = Unit {0}

spelled-parts : (c : Component) (cs : List Component) → list_all is_spelled (words_all (c ∷ cs)) ≡ true → (list_all is_spelled (words_all (c ∷ [])) ≡ true) × (list_all is_spelled (words_all cs) ≡ true)
spelled-parts c cs h =
    let first = words_all (c ∷ []) in
    let rest = words_all cs in
    let parts : list_all is_spelled (words_all (c ∷ cs)) ≡ (list_all is_spelled first && list_all is_spelled rest) = ap (list_all is_spelled) (words-append (c ∷ []) cs) ∙ list_all-append is_spelled first rest in
    and_parts (list_all is_spelled first) (list_all is_spelled rest) (sym parts ∙ h)

-- the words of well formed components are spelled
all-spelled : (cs : List Component) → Each Good cs → list_all is_spelled (words_all cs) ≡ true
all-spelled [] good = refl
all-spelled (c ∷ cs) good =
    ap (list_all is_spelled) (words-cons c cs)
    ∙ list_all-append is_spelled (words_of c) (words_all cs)
    ∙ ap₂ ◌&&◌ good.0.spelled (all-spelled cs good.1)

module _ (laws : StandLaws) where
  -- Parts of a list.

  source-first : (c : Component) (cs : List Component) → IsSource (c ∷ cs) → IsSource (c ∷ [])
  source-first c cs source =
      (let first = words_all (c ∷ []) in
      let rest = words_all cs in
      let s = source.read.behind in
      let whole = subst (λ (ws : List Word). ReadsTo (spelled ws ++ s) ws s) (words-append (c ∷ []) cs) source.read.reads in
      record {
        formed = ap (λ (b : Bool). b && true) (and_parts (is_formed c) (all_formed cs) source.formed).0;
        spelled = (spelled-parts c cs source.spelled).0;
        read = record { behind = spelled rest ++ s; reads = laws.splits.front first rest s whole };
      })

  source-rest : (c : Component) (cs : List Component) → IsSource (c ∷ cs) → IsSource cs
  source-rest c cs source =
      (let first = words_all (c ∷ []) in
      let rest = words_all cs in
      let s = source.read.behind in
      let whole = subst (λ (ws : List Word). ReadsTo (spelled ws ++ s) ws s) (words-append (c ∷ []) cs) source.read.reads in
      record {
        formed = (and_parts (is_formed c) (all_formed cs) source.formed).1;
        spelled = (spelled-parts c cs source.spelled).1;
        read = record { behind = s; reads = laws.splits.back first rest s whole };
      })

  either : (b : Bool) (xs ys : List Component) → IsSource xs → IsSource ys → IsSource (if b then xs else ys)
  either true xs ys h k = h
  either false xs ys h k = k

  source-start : (cs : List Component) → IsSource cs → IsSource (trimmed_start cs)
  source-start [] source = source
  source-start (c ∷ cs) source = either (is_gap c) (trimmed_start cs) (c ∷ cs) (source-start cs (source-rest c cs source)) source

  -- Conditions.

  media-holds : (cs : List Component) → IsSource cs → OfSome IsMedia (queries_reading cs)
  media-holds cs source = at (queries_reading cs) refl
    where
      at : (o : Option (List Query)) → queries_reading cs ≡ o → OfSome IsMedia o
      at None e = tt
      at (Some qs) e = record { readable = laws.readable cs qs source.formed source.spelled source.read e; stands = laws.values cs qs source.formed source.spelled source.read e }

  block-holds : (b : block.Block) → IsSource (component.Block b ∷ []) → OfSome IsCondition (supports_inside b.items)
  block-holds b source = at (supports_inside b.items) refl
    where
      inner : (s : Supports) → supports_inside b.items ≡ Some s → has_no_function s ≡ true → is_readable_supports s ≡ true
      inner s e =
          (let good = inside-good b (all-good (component.Block b ∷ []) source.formed source.spelled).0 in
          laws.supports_readable b.items s (all-formed b.items good) (all-spelled b.items good) e)

      at : (o : Option Supports) → supports_inside b.items ≡ o → OfSome IsCondition o
      at None e = tt
      at (Some s) e = record { stands = laws.supports_stand b s source.formed source.spelled source.read e; readable = inner s e }

  function-holds : (c : Component) → IsSource (c ∷ []) → is_function (codes "supports") c ≡ true → OfSome IsCondition (supports_inside (inside c))
  function-holds c source is = elim (shape_of c) [
    | inl s ↦ absurd (false≢true (sym (function-Single (codes "supports") s.0) ∙ sym (ap (is_function (codes "supports")) s.1) ∙ is))
    | inr b ↦ subst (λ (cs : List Component). OfSome IsCondition (supports_inside cs)) (sym (ap inside b.1 ∙ inside-Block b.0)) (block-holds b.0 (subst (λ (d : Component). IsSource (d ∷ [])) b.1 source))
  ]

  some-holds : (o : Option Supports) → OfSome IsCondition o → OfSome (OfSome IsCondition) (option_map Some o)
  some-holds None h = tt
  some-holds (Some s) h = h

  imported-sound : (n : ℕ) (t : List ℕ) (o : Option (Option Supports)) (q : Option (List Query)) → OfSome (OfSome IsCondition) o → OfSome IsMedia q → IsSound (imported n t o q)
  imported-sound n t None q h k = tt
  imported-sound n t (Some s) None h k = tt
  imported-sound n t (Some s) (Some qs) h k = (h, k)

  conditioned-sound : (n : ℕ) (t : List ℕ) (cs : List Component) → IsSource cs → IsSound (conditioned n t cs)
  conditioned-sound n t [] source = imported-sound n t (Some None) (queries_reading []) tt (media-holds [] source)
  conditioned-sound n t (c ∷ cs) source = at (is_function (codes "supports") c) refl
    where
      at : (b : Bool) → is_function (codes "supports") c ≡ b
          → IsSound (if b then imported n t (option_map Some (supports_inside (inside c))) (queries_reading cs) else imported n t (Some None) (queries_reading (c ∷ cs)))
      at true is =
          let holds = some-holds (supports_inside (inside c)) (function-holds c (source-first c cs source) is) in
          imported-sound n t (option_map Some (supports_inside (inside c))) (queries_reading cs) holds (media-holds cs (source-rest c cs source))
      at false is = imported-sound n t (Some None) (queries_reading (c ∷ cs)) tt (media-holds (c ∷ cs) source)

  behind-sound : (n : ℕ) (o : Option (List ℕ)) (cs : List Component) → IsSource cs → IsSound (behind_target n o cs)
  behind-sound n None cs source = tt
  behind-sound n (Some t) cs source = at (begins_layer cs)
    where
      at : (b : Bool) → IsSound (if b then Waiting else conditioned n t cs)
      at true = tt
      at false = conditioned-sound n t cs source

  -- The conditions of what is read are so.
  pub import-sound : (n : ℕ) (cs : List Component) → IsSource cs → IsSound (import_reading n cs)
  import-sound n [] source = tt
  import-sound n (c ∷ cs) source = behind-sound n (target_of c) (trimmed_start cs) (source-start cs (source-rest c cs source))
