-- What holds of components as they stand in a text holds of the rules in them, and of their preludes and blocks.
use Rattle.std.proofs.Common.{◌≡◌, ℕ, List, [], ◌∷◌, ◌++◌, map, Bool, true, false, ◌&&◌, ◌||◌, not, Option, Some, None, refl, sym, ◌∙◌, ap, subst, MatchOption, codes, inl, inr}
use Rattle.std.specs.List.{list_all, list_any, AllByRecursion}
use Rattle.std.proofs.lemmas.List.Folds.{list_all-append}
use Rattle.std.proofs.lemmas.Bool.{false≢true, cases_Bool}
use lib.Pointwise.{bytes_decides}
use Rattle.css_tokens.specs.declared.component.Component.{Component}
use Rattle.css_tokens.specs.declared.component.Component as component
use Rattle.css_tokens.specs.declared.component.Block as block
use Rattle.css_tokens.specs.Again.{is_stop}
use Rattle.css_tokens.specs.Piece.{Piece, Word, word_of, spelled}
use Rattle.css_tokens.specs.Tokens.{classes_of}
use Rattle.css_tokens.specs.Trees.{closing, pieces_all, pieces_of-Block, words_all}
use Rattle.sheet_types.specs.declared.sheet.Group as group
use Rattle.sheet_types.specs.declared.sheet.Item.{Item}
use Rattle.sheet_types.specs.declared.sheet.Item as item
use Rattle.sheet_types.specs.declared.sheet.Passed.{Passed}
use Rattle.sheet_types.specs.declared.sheet.Sheet.{Sheet}
use Rattle.css_rules.specs.AtRules.{behind_keyword, fits_prelude}
use Rattle.css_components.specs.Components.{inside, is_braces, is_gap, is_semicolon}
use Rattle.css_components.specs.Trimming.{trimmed, trimmed_start, trimmed_end}
use Rattle.css_rules.specs.Cuts.{Cut, cuts, cuts_behind, with_front}
use Rattle.css_rules.specs.Refusals.{has_sought}
use Rattle.css_rules.specs.declared.refusal.Sought.TheVariants.{RevertLayerOrUrl}
use Rattle.css_rules.specs.RuleEnds.{begins_at_rule, ends_in_braces, ends_rule}
use Rattle.css_rules.specs.Sheets.{rule_of, rules_of, sheet_of}
use Rattle.css_rules.proofs.AtRuleShapes.{HasBlock, IsGroup, IsPassed, ReadsCondition, prelude_in, rule-shape}
use Rattle.css_rules.proofs.BoolLemmas.{and-left, and-right, and-both}
use Rattle.css_rules.proofs.CutAgain.{trimmed_end-solid}
use Rattle.css_rules.proofs.CutLemmas.{cuts-marked, cuts-unmarked, goes_on, not-true, or-right, trimmed_start-gap, trimmed_start-other}
use Rattle.css_rules.proofs.FromSourceParts.{IsPart, all-end, all-trimmed, none-any, parts-cuts, sound_by, sound-inside}
use Rattle.css_rules.proofs.Heads.{braces-Single, braces-Block}
use Rattle.css_rules.proofs.NestedRules.{InBlocks, OfMark, by_blocks, rules-read}
use Rattle.css_rules.proofs.ReadAllLemmas.{read_all-holds}
use Rattle.css_rules.proofs.RestRules.{sheet-shape}
use Rattle.css_rules.proofs.RuleShapes.{IsStyled}
use Rattle.css_rules.proofs.StandCuts.{Joins, JoinsAt, MarkStands, joins-cuts, stands-trimmed}
use Rattle.css_rules.proofs.StandLists.{IsStop, ReadingLaws, StandsAt, StandsBefore, stands-front, stands-back, stands-tail, stands-inside}
use Rattle.css_rules.proofs.ValueFacts.{shape_of}

-- A rule goes on to its end: behind its at-keyword an at-rule has no `;`.

abbrev FirstGoes : (List Component → Component → Bool) → List Component → List Cut → Type 0
FirstGoes ends before [] = Unit {0}
FirstGoes ends before (cut ∷ cs) = (goes_on ends before cut.front ≡ true) × AllByRecursion (λ (k : Cut). goes_on ends [] k.front ≡ true) cs

goes-longer : (ends : List Component → Component → Bool) (before : List Component) (c : Component) (cs : List Cut) → ends before c ≡ false → FirstGoes ends (before ++ c ∷ []) cs → FirstGoes ends before (with_front c cs)
goes-longer ends before c [] unmarked goes = tt
goes-longer ends before c (cut ∷ cs) unmarked goes = (and-both (not (ends before c)) (goes_on ends (before ++ c ∷ []) cut.front) (ap not unmarked) goes.0, goes.1)

each-goes : (ends : List Component → Component → Bool) (cs : List Cut) → FirstGoes ends [] cs → AllByRecursion (λ (k : Cut). goes_on ends [] k.front ≡ true) cs
each-goes ends [] goes = tt
each-goes ends (cut ∷ cs) goes = goes

cuts-go : (ends : List Component → Component → Bool) (before cs : List Component) → FirstGoes ends before (cuts_behind ends before cs)
cuts-go ends before [] = (refl, tt)
cuts-go ends before (c ∷ cs) = elim (cases_Bool (ends before c)) [
  | inl marked ↦ subst (λ (ks : List Cut). FirstGoes ends before ks) (sym (cuts-marked ends before c cs marked)) (refl, each-goes ends (cuts ends cs) (cuts-go ends [] cs))
  | inr unmarked ↦ subst (λ (ks : List Cut). FirstGoes ends before ks) (sym (cuts-unmarked ends before c cs unmarked))
      (goes-longer ends before c (cuts_behind ends (before ++ c ∷ []) cs) unmarked (cuts-go ends (before ++ c ∷ []) cs))
]

abbrev not_semicolon : Component → Bool
not_semicolon c = not (is_semicolon c)

begun-more : (before : List Component) (c : Component) → begins_at_rule (trimmed_start before) ≡ true → begins_at_rule (trimmed_start (before ++ c ∷ [])) ≡ true
begun-more [] c begun = absurd (false≢true begun)
begun-more (x ∷ xs) c begun = elim (cases_Bool (is_gap x)) [
  | inl gap ↦ ap begins_at_rule (trimmed_start-gap x (xs ++ c ∷ []) gap) ∙ begun-more xs c (sym (ap begins_at_rule (trimmed_start-gap x xs gap)) ∙ begun)
  | inr other ↦ ap begins_at_rule (trimmed_start-other x (xs ++ c ∷ []) other) ∙ sym (ap begins_at_rule (trimmed_start-other x xs other)) ∙ begun
]

none-of : (b : Bool) → (b && true) ≡ false → b ≡ false
none-of true e = e
none-of false e = refl

begun-undivided : (before cs : List Component) → begins_at_rule (trimmed_start before) ≡ true → goes_on ends_rule before cs ≡ true → list_all not_semicolon cs ≡ true
begun-undivided before [] begun goes = refl
begun-undivided before (c ∷ cs) begun goes =
    let more = goes_on ends_rule (before ++ c ∷ []) cs in
    let here = not-true (ends_rule before c) (and-left (not (ends_rule before c)) more goes) in
    let plain = or-right (is_braces c) (is_semicolon c && begins_at_rule (trimmed_start before)) here in
    and-both (not_semicolon c) (list_all not_semicolon cs)
    (ap not (none-of (is_semicolon c) (ap (λ b. is_semicolon c && b) (sym begun) ∙ plain)))
    (begun-undivided (before ++ c ∷ []) cs (begun-more before c begun) (and-right (not (ends_rule before c)) more goes))

gaps-append : (gaps xs : List Component) → trimmed_start gaps ≡ [] → trimmed_start (gaps ++ xs) ≡ trimmed_start xs
gaps-append [] xs none = refl
gaps-append (c ∷ cs) xs none = elim (cases_Bool (is_gap c)) [
  | inl gap ↦ trimmed_start-gap c (cs ++ xs) gap ∙ gaps-append cs xs (sym (trimmed_start-gap c cs gap) ∙ none)
  | inr other ↦ absurd (cc (sym (trimmed_start-other c cs other) ∙ none))
]

behind-undivided : (before cs : List Component) → trimmed_start before ≡ [] → begins_at_rule (trimmed cs) ≡ true → goes_on ends_rule before cs ≡ true → list_all not_semicolon (behind_keyword (trimmed cs)) ≡ true
behind-undivided before [] gaps begins goes = absurd (false≢true begins)
behind-undivided before (c ∷ cs) gaps begins goes =
    let behind = before ++ c ∷ [] in
    let more = and-right (not (ends_rule before c)) (goes_on ends_rule behind cs) goes in
    elim (cases_Bool (is_gap c)) [
      | inl gap ↦
          let same : trimmed (c ∷ cs) ≡ trimmed cs = ap trimmed_end (trimmed_start-gap c cs gap) in
          subst (λ (t : List Component). list_all not_semicolon (behind_keyword t) ≡ true) (sym same)
          (behind-undivided behind cs (gaps-append before (c ∷ []) gaps ∙ trimmed_start-gap c [] gap) (sym (ap begins_at_rule same) ∙ begins) more)
      | inr other ↦
          let same : trimmed (c ∷ cs) ≡ c ∷ trimmed_end cs = ap trimmed_end (trimmed_start-other c cs other) ∙ trimmed_end-solid c cs other in
          let begun = ap begins_at_rule (gaps-append before (c ∷ []) gaps ∙ trimmed_start-other c [] other) ∙ sym (ap begins_at_rule same) ∙ begins in
          subst (λ (t : List Component). list_all not_semicolon (behind_keyword t) ≡ true) (sym same)
          (all-trimmed not_semicolon (trimmed_end cs) (all-end not_semicolon cs (begun-undivided behind cs begun more)))
    ]

-- A `{}` block begins a stop.

abbrev opens_as : List ℕ → List Piece → List ℕ → Type 0
opens_as text ps s = is_stop (classes_of ((text ++ spelled (map word_of ps)) ++ s)) ≡ true

block-stop : (b : block.Block) (xs : List Component) (s : List ℕ) → b.opening.text ≡ codes "{" → IsStop (words_all (component.Block b ∷ xs)) s
block-stop b xs s is =
    let rest = pieces_all b.items ++ closing b.opening b.close ∷ [] in
    subst (λ (ps : List Piece). IsStop (map word_of (ps ++ pieces_all xs)) s) (sym (pieces_of-Block b))
    (subst (λ (text : List ℕ). opens_as text (rest ++ pieces_all xs) s) (sym is) refl)

braces-stop : (m : Component) (xs : List Component) (s : List ℕ) → is_braces m ≡ true → IsStop (words_all (m ∷ xs)) s
braces-stop m xs s braces = elim (shape_of m) [
  | inl p ↦ absurd (false≢true (sym (braces-Single p.0) ∙ sym (ap is_braces p.1) ∙ braces))
  | inr b ↦
      let text = (bytes_decides b.0.opening.text (codes "{")).0 (sym (braces-Block b.0) ∙ sym (ap is_braces b.1) ∙ braces) in
      subst (λ (c : Component). IsStop (words_all (c ∷ xs)) s) (sym b.1) (block-stop b.0 xs s text)
]

-- Components as they stand in a text.

-- well formed components, of words that pass a test, which are read one after another in some text
pub record AreSource (good : Word → Bool) (cs : List Component) : Type 0 where
  pub sound : list_all (sound_by good) cs ≡ true
  pub behind : List ℕ
  pub stands : StandsAt cs behind

-- the same, before a stop
pub record AreStopped (good : Word → Bool) (cs : List Component) : Type 0 where
  pub sound : list_all (sound_by good) cs ≡ true
  pub before : StandsBefore cs

stopped-source : (good : Word → Bool) (cs : List Component) → AreStopped good cs → AreSource good cs
stopped-source good cs stopped = record { sound = stopped.sound; behind = stopped.before.behind; stands = record { reads = stopped.before.reads } }

-- the rule stands in a text, and what stands before its `{}` block stands before a stop
record RuleStands (cut : Cut) : Type 0 where
  front : ends_in_braces cut.mark ≡ true → StandsBefore cut.front
  mark : MarkStands cut.mark

-- a rule among such components
record IsSourceRule (good : Word → Bool) (cut : Cut) : Type 0 where
  part : IsPart (sound_by good) is_braces cut
  goes : goes_on ends_rule [] cut.front ≡ true
  stands : RuleStands cut

-- Rules that are passed on.

-- what is known of a rule that is passed on
pub record IsReadPassed (good : Word → Bool) (rule : Passed) : Type 0 where
  pub fits : fits_prelude rule.kind rule.prelude ≡ true
  pub whole : list_any is_braces rule.prelude ≡ false
  pub undivided : list_any is_semicolon rule.prelude ≡ false
  pub calm_prelude : has_sought RevertLayerOrUrl rule.prelude ≡ false
  pub calm_block : has_sought RevertLayerOrUrl rule.block ≡ false
  pub prelude : AreStopped good rule.prelude
  pub block : AreStopped good rule.block

-- what is shown of the items that are read, rule by rule
pub record ReadCases (good : Word → Bool) (P : List Item → Type 0) : Type 0 where
  pub nothing : P []
  pub both : (xs ys : List Item) → P xs → P ys → P (xs ++ ys)
  pub style : (cut : Cut) (items : List Item) (s : IsStyled cut items) → list_all (sound_by good) cut.front ≡ true → AreStopped good (inside s.block) → P items
  pub group : (g : group.Group) (prelude : List Component) → AreStopped good prelude → ReadsCondition prelude g.condition → P g.items → P (item.Group g ∷ [])
  pub passed : (rule : Passed) → IsReadPassed good rule → P (item.Passed rule ∷ [])
  pub other : (at : ℕ) → P (item.Other at ∷ [])

each-three : {X : Type 0} (P Q R : X → Type 0) (xs : List X) → AllByRecursion P xs → AllByRecursion Q xs → AllByRecursion R xs → AllByRecursion (λ x. P x × Q x × R x) xs
each-three P Q R [] p q r = tt
each-three P Q R (x ∷ xs) p q r = ((p.0, q.0, r.0), each-three P Q R xs p.1 q.1 r.1)

each-as : {X : Type 0} (P Q : X → Type 0) → ((x : X) → P x → Q x) → (xs : List X) → AllByRecursion P xs → AllByRecursion Q xs
each-as P Q as_other [] p = tt
each-as P Q as_other (x ∷ xs) p = (as_other x p.0, each-as P Q as_other xs p.1)

all-behind : (test : Component → Bool) (cs : List Component) → list_all test cs ≡ true → list_all test (behind_keyword cs) ≡ true
all-behind test [] e = refl
all-behind test (c ∷ cs) e = all-trimmed test cs (and-right (test c) (list_all test cs) e)

abbrev anything : Component → Bool
anything c = true

module _ (laws : ReadingLaws) where
  rules-stand : (cs : List Cut) (xs : List Component) (s : List ℕ) → Joins anything cs xs → StandsAt xs s → AllByRecursion RuleStands cs
  rules-stand [] xs s joins stands = tt
  rules-stand (cut ∷ cs) xs s joins stands = at cut.mark refl joins (λ rest j r. rules-stand cs rest s j r)
    where
      at : (o : Option Component) → cut.mark ≡ o → JoinsAt anything cut.front o cs (λ rest. Joins anything cs rest) xs
          → ((rest : List Component) → Joins anything cs rest → StandsAt rest s → AllByRecursion RuleStands cs)
          → RuleStands cut × AllByRecursion RuleStands cs
      at None mark j others = (
        record { front = λ braces. absurd (false≢true (sym (ap ends_in_braces mark) ∙ braces)); mark = subst (λ (o : Option Component). MarkStands o) (sym mark) tt },
        subst (λ (more : List Cut). AllByRecursion RuleStands more) (sym j.1) tt,
      )
      at (Some m) mark j others =
          let all = subst (λ (t : List Component). StandsAt t s) j.2 stands in
          let front = stands-front laws cut.front (m ∷ j.1) s all in
          let back = stands-back laws cut.front (m ∷ j.1) s all in (
            record {
              front = λ braces. record { behind = spelled (words_all (m ∷ j.1)) ++ s; stop = braces-stop m j.1 s (sym (ap ends_in_braces mark) ∙ braces); reads = front.reads };
              mark = subst (λ (o : Option Component). MarkStands o) (sym mark) (spelled (words_all j.1) ++ s, stands-front laws (m ∷ []) j.1 s back);
            },
            others j.1 j.3 (stands-tail laws m j.1 s back),
          )

  stands-behind : (cs : List Component) → StandsBefore cs → StandsBefore (behind_keyword cs)
  stands-behind [] before = before
  stands-behind (c ∷ cs) before = stands-trimmed laws cs before.behind before.stop (stands-tail laws c cs before.behind (record { reads = before.reads }))

  module _ (good : Word → Bool) where
    source-rules : (cs : List Component) → AreSource good cs → AllByRecursion (IsSourceRule good) (cuts ends_rule cs)
    source-rules cs source =
        each-as (λ cut. IsPart (sound_by good) is_braces cut × (goes_on ends_rule [] cut.front ≡ true) × RuleStands cut) (IsSourceRule good)
        (λ cut h. record { part = h.0; goes = h.1; stands = h.2 }) (cuts ends_rule cs)
        (each-three (IsPart (sound_by good) is_braces) (λ cut. goes_on ends_rule [] cut.front ≡ true) RuleStands (cuts ends_rule cs)
        (parts-cuts (sound_by good) is_braces ends_rule (λ before c is. ap (λ b. b || (is_semicolon c && begins_at_rule (trimmed_start before))) is) [] cs source.sound)
        (each-goes ends_rule (cuts ends_rule cs) (cuts-go ends_rule [] cs))
        (rules-stand (cuts ends_rule cs) cs source.behind (joins-cuts anything ends_rule (λ b c e. refl) [] cs) source.stands))

    block-stopped : (cut : Cut) → IsSourceRule good cut → (block : Component) → cut.mark ≡ Some block → AreStopped good (inside block)
    block-stopped cut rule block mark =
        let closed : sound_by good block ≡ true = subst (λ o. MatchOption o (Unit {0}) (λ c. sound_by good c ≡ true)) mark rule.part.closed in
        let stands = subst (λ (o : Option Component). MarkStands o) mark rule.stands.mark in
        record { sound = sound-inside good block closed; before = stands-inside laws block stands.0 stands.1 }

    prelude-stopped : (cut : Cut) → IsSourceRule good cut → HasBlock cut → AreStopped good (prelude_in cut)
    prelude-stopped cut rule ends =
        let before = rule.stands.front (ap ends_in_braces ends.mark ∙ ends.braces) in
        let trim = stands-trimmed laws cut.front before.behind before.stop (record { reads = before.reads }) in
        record { sound = all-behind (sound_by good) (trimmed cut.front) (all-trimmed (sound_by good) cut.front rule.part.kept); before = stands-behind (trimmed cut.front) trim }

    passed-read : (cut : Cut) (items : List Item) → IsSourceRule good cut → (p : IsPassed cut items) → IsReadPassed good (record { kind = p.kind; prelude = prelude_in cut; block = inside p.ends.block; at = p.at })
    passed-read cut items rule p = record {
      fits = p.fits;
      whole = none-any is_braces (prelude_in cut) (all-behind (λ c. not (is_braces c)) (trimmed cut.front) (all-trimmed (λ c. not (is_braces c)) cut.front rule.part.unmarked));
      undivided = none-any is_semicolon (prelude_in cut) (behind-undivided [] cut.front refl p.ends.begins rule.goes);
      calm_prelude = p.prelude;
      calm_block = p.block;
      prelude = prelude-stopped cut rule p.ends;
      block = block-stopped cut rule p.ends.block p.ends.mark;
    }

    module _ (P : List Item → Type 0) (cases : ReadCases good P) where
      abbrev Holds : List Component → Type 0
      Holds cs = AreSource good cs → (items : List Item) → rules_of cs ≡ Some items → P items

      -- a rule, where it holds of the block that ends it
      abbrev IsKnown : Cut → Type 0
      IsKnown cut = IsSourceRule good cut × OfMark (λ mark. Holds (inside mark)) cut

      known : (cs : List Cut) → AllByRecursion (IsSourceRule good) cs → InBlocks Holds cs → AllByRecursion IsKnown cs
      known [] rules within = tt
      known (cut ∷ cs) rules within = ((rules.0, within.0), known cs rules.1 within.1)

      group-holds : (cut : Cut) (items : List Item) → IsKnown cut → IsGroup cut items → P items
      group-holds cut items rule g =
          let within : Holds (inside g.ends.block) = subst (λ (o : Option Component). MatchOption o (Unit {0}) (λ mark. Holds (inside mark))) g.ends.mark rule.1 in
          let source = stopped-source good (inside g.ends.block) (block-stopped cut rule.0 g.ends.block g.ends.mark) in
          subst P (sym g.is)
          (cases.group (record { condition = g.condition; items = g.inner; at = g.at }) (prelude_in cut) (prelude-stopped cut rule.0 g.ends) g.read (within source g.inner g.within))

      rule-holds : (cut : Cut) (items : List Item) → IsKnown cut → rule_of cut ≡ Some items → P items
      rule-holds cut items rule e =
          rule-shape cut items (P items) (record {
            nothing = λ none. subst P (sym none) cases.nothing;
            style = λ s. cases.style cut items s rule.0.part.kept (block-stopped cut rule.0 s.block s.mark);
            group = λ g. group-holds cut items rule g;
            passed = λ p. subst P (sym p.is) (cases.passed (record { kind = p.kind; prelude = prelude_in cut; block = inside p.ends.block; at = p.at }) (passed-read cut items rule.0 p));
            other = λ o. subst P (sym o.is) (cases.other o.at);
          }) e

      pub items-hold : (cs : List Component) → AreSource good cs → (items : List Item) → rules_of cs ≡ Some items → P items
      items-hold cs =
          by_blocks Holds
          (λ xs within source items e.
          read_all-holds P IsKnown rule_of cases.nothing cases.both rule-holds (cuts ends_rule xs) (known (cuts ends_rule xs) (source-rules xs source) within) items (sym (rules-read xs) ∙ e))
          cs

      -- the same of the items of a sheet
      pub sheet-holds : (cs : List Component) (sheet : Sheet) → AreSource good cs → sheet_of cs ≡ Some sheet → P sheet.items
      sheet-holds cs sheet source e =
          let is = sheet-shape cs sheet e in
          let front = is.behind.front in
          let rest = is.behind.rest in
          let sound = sym (list_all-append (sound_by good) front rest) ∙ sym (ap (list_all (sound_by good)) is.behind.split) ∙ source.sound in
          items-hold rest
          (record {
            sound = and-right (list_all (sound_by good) front) (list_all (sound_by good) rest) sound;
            behind = source.behind;
            stands = stands-back laws front rest source.behind (subst (λ (t : List Component). StandsAt t source.behind) is.behind.split source.stands);
          })
          sheet.items is.items
