-- Each value of a sheet stands in the sheet's text before a stop.
use Rattle.std.proofs.Common.{◌≡◌, ℕ, List, [], ◌∷◌, ◌++◌, Bool, true, false, ◌&&◌, ◌||◌, not, refl, sym, ◌∙◌, ap, subst, Option, Some, None, inl, inr, IsTrue}
use Rattle.std.specs.Prelude.{if◌then◌else◌}
use Rattle.std.specs.List.{list_all, AllByRecursion}
use Rattle.std.proofs.lemmas.List.{append-nil}
use Rattle.std.proofs.lemmas.List.Concat.{flat_map-append}
use Rattle.css_tokens.specs.declared.component.Component.{Component}
use Rattle.css_tokens.specs.Again.{is_stop}
use Rattle.css_tokens.specs.Piece.{Piece, spelled}
use Rattle.css_tokens.specs.Tokens.{Reads, ReadsTo, classes_of, after_mark}
use Rattle.css_tokens.specs.Trees.{all_formed, words_all}
use Rattle.media_spelling.specs.declared.supports.Supports.{Supports as Condition}
use Rattle.media_spelling.specs.SupportsValues.{DeclaredValuesStand, ValueStands as StandsAsValue}
use Rattle.media_tree.specs.SpelledWords.{AreRead, is_spelled}
use Rattle.media_tree.specs.SupportsReading.{supports_reading}
use Rattle.sheet_types.specs.declared.sheet.Declaration.{Declaration}
use Rattle.sheet_types.specs.declared.sheet.Group as group
use Rattle.sheet_types.specs.declared.sheet.GroupCondition.{GroupCondition}
use Rattle.sheet_types.specs.declared.sheet.GroupCondition.TheVariants.{Media, Supports}
use Rattle.sheet_types.specs.declared.sheet.Item.{Item}
use Rattle.sheet_types.specs.declared.sheet.Item as item
use Rattle.sheet_types.specs.declared.sheet.Passed.{Passed}
use Rattle.sheet_types.specs.declared.sheet.Style as style
use Rattle.sheet_types.specs.declared.sheet.Sheet.{Sheet}
use Rattle.css_components.specs.Components.{head, inside, is_ident, is_colon, is_bang, is_semicolon, is_braces, is_custom, name_of}
use Rattle.css_components.specs.Trimming.{trimmed, trimmed_start}
use Rattle.css_rules.specs.Cuts.{Cut, cuts, cuts_at}
use Rattle.css_rules.specs.Declarations.{property_name, after_colon, may_be_value, is_important, value_of, declared, declared_after, declaration_of, begins_custom}
use Rattle.sheet_types.specs.Leaves.{Leaf, all_leaves, group_leaves, leaves}
use Rattle.css_rules.specs.Sheets.{item_of, declarations_of, sheet_of}
use Rattle.css_rules.specs.RuleEnds.{ends_item}
use Rattle.sheet_types.specs.Runs.{run_of}
use Rattle.sheet_types.specs.Standing.{ConditionStands, Stands, LeafStands, AllStand}
use Rattle.css_rules.proofs.AtRuleShapes.{ReadsCondition}
use Rattle.css_rules.proofs.FromSourceDeclarations.{each-append}
use Rattle.css_rules.proofs.FromSourceParts.{all-sound, sound-formed, sound-spelled}
use Rattle.css_rules.proofs.GroupLeaves.{leaves-Group, leaves-Passed, leaves-Other}
use Rattle.sheet_types.proofs.ItemShapes.{leaves-hold, only-leaves}
use Rattle.css_rules.proofs.StandCuts.{JoinsAt, Joins, joins-cuts, stands-start, stands-trimmed, FrontStands, ends_some_item, item-fronts, bang-stop}
use Rattle.css_rules.proofs.ReadAllLemmas.{read_all-holds}
use Rattle.css_rules.proofs.RuleShapes.{IsStyled, item-no_block, item-shape}
use Rattle.css_rules.proofs.SourceRules.{AreStopped, IsReadPassed, ReadCases, sheet-holds}
use Rattle.css_rules.proofs.StandLists.{ReadingLaws, StandsAt, StandsBefore, text-spelled, stands-front, stands-back, stands-tail}

abbrev OfSome : {X : Type 0} → (X → Type 0) → Option X → Type 0
OfSome P None = Unit {0}
OfSome P (Some x) = P x

abbrev ValueStands : Option (List Component × Bool) → Type 0
ValueStands o = OfSome (λ (value : List Component × Bool). StandsBefore value.0) o

abbrev bang_ends : List Component → Component → Bool
bang_ends before c = is_bang c

-- only a `;` or a `{}` block ends an item
item-ends : (before : List Component) (c : Component) → ends_item before c ≡ true → ends_some_item c ≡ true
item-ends before c e = at (is_semicolon c) (is_braces c) e
  where
    at : (semicolon braces : Bool) → (semicolon || (braces && not (begins_custom (trimmed_start before)))) ≡ true → (braces || semicolon) ≡ true
    at true true h = refl
    at true false h = refl
    at false true h = refl
    at false false h = h

module _ (laws : ReadingLaws) where
  -- Values.

  marked-value : (value mark : Cut) (more : List Cut) (xs : List Component) (s : List ℕ) (o : Option Component) → JoinsAt is_bang value.front o (mark ∷ more) (λ rest. Joins is_bang (mark ∷ more) rest) xs → StandsAt xs s
      → is_important (trimmed mark.front) ≡ true → StandsBefore (trimmed value.front)
  marked-value value mark more xs s None joins stands is = absurd (cc (joins.1))
  marked-value value mark more xs s (Some m) joins stands is = at mark.mark joins.3
    where
      stopped : (tail : List Component) → joins.1 ≡ mark.front ++ tail → StandsBefore (trimmed value.front)
      stopped tail e =
          let all = subst (λ (t : List Component). StandsAt t s) (joins.2 ∙ ap (λ (t : List Component). value.front ++ m ∷ t) e) stands in
          let rest = m ∷ mark.front ++ tail in
          stands-trimmed laws value.front (spelled (words_all rest) ++ s)
          (bang-stop laws m mark.front tail s joins.0 is (stands-back laws value.front rest s all))
          (stands-front laws value.front rest s all)

      at : (o : Option Component) → JoinsAt is_bang mark.front o more (λ rest. Joins is_bang more rest) joins.1 → StandsBefore (trimmed value.front)
      at None j = stopped [] (j.0 ∙ sym (append-nil mark.front))
      at (Some n) j = stopped (n ∷ j.1) j.2

  marked-at : (v : List Component) (b : Bool) → (b ≡ true → StandsBefore v) → ValueStands (if b then Some (v, true) else None)
  marked-at v true stands = stands refl
  marked-at v false stands = tt

  only-value : (value : Cut) (xs : List Component) (s : List ℕ) (o : Option Component) → JoinsAt is_bang value.front o [] (λ rest. Joins is_bang [] rest) xs → StandsAt xs s
      → is_stop (classes_of s) ≡ true → StandsBefore (trimmed value.front)
  only-value value xs s None joins stands stop = stands-trimmed laws value.front s stop (subst (λ (t : List Component). StandsAt t s) joins.0 stands)
  only-value value xs s (Some m) joins stands stop = absurd joins.3

  value-stands : (cs : List Cut) (xs : List Component) (s : List ℕ) → Joins is_bang cs xs → StandsAt xs s → is_stop (classes_of s) ≡ true → ValueStands (value_of cs)
  value-stands [] xs s joins stands stop = tt
  value-stands (value ∷ []) xs s joins stands stop = only-value value xs s value.mark joins stands stop
  value-stands (value ∷ mark ∷ []) xs s joins stands stop =
      marked-at (trimmed value.front) (is_important (trimmed mark.front)) (λ is. marked-value value mark [] xs s value.mark joins stands is)
  value-stands (value ∷ mark ∷ more ∷ cs) xs s joins stands stop = tt

  -- Declarations.

  declared-at : (name : Piece) (v : List Component × Bool) (b : Bool) → StandsBefore v.0
      → OfSome Stands (if b then Some (record { name = property_name (name_of name); value = v.0; important = v.1; at = name.at }) else None)
  declared-at name v true stands = record { behind = stands.behind; stop = stands.stop; reads = stands.reads }
  declared-at name v false stands = tt

  declared-stands : (name : Piece) (o : Option (List Component × Bool)) → ValueStands o → OfSome Stands (declared name o)
  declared-stands name None stands = tt
  declared-stands name (Some v) stands = declared-at name v (may_be_value (is_custom (name_of name)) v.0) stands

  tail-stands : (name : Piece) (cs : List Component) (s : List ℕ) (b : Bool) → StandsAt cs s → is_stop (classes_of s) ≡ true → OfSome Stands (declared_after name (if b then Some cs else None))
  tail-stands name cs s true stands stop = declared-stands name (value_of (cuts_at is_bang cs)) (value-stands (cuts_at is_bang cs) cs s (joins-cuts is_bang bang_ends (λ b c e. e) [] cs) stands stop)
  tail-stands name cs s false stands stop = tt

  after-stands : (name : Piece) (cs : List Component) (s : List ℕ) → StandsAt cs s → is_stop (classes_of s) ≡ true → OfSome Stands (declared_after name (after_colon cs))
  after-stands name [] s stands stop = tt
  after-stands name (c ∷ cs) s stands stop = tail-stands name cs s (is_colon c) (stands-tail laws c cs s stands) stop

  named-at : (o : Option Declaration) (b : Bool) → OfSome Stands o → OfSome Stands (if b then o else None)
  named-at o true stands = stands
  named-at o false stands = tt

  declaration-stands : (cs : List Component) → StandsBefore cs → OfSome Stands (declaration_of cs)
  declaration-stands [] stands = tt
  declaration-stands (c ∷ cs) stands =
      named-at (declared_after (head c) (after_colon (trimmed_start cs))) (is_ident c)
      (after-stands (head c) (trimmed_start cs) stands.behind
      (stands-start laws cs stands.behind (stands-tail laws c cs stands.behind (record { reads = stands.reads })))
      stands.stop)

  abbrev AllDeclared : List Declaration → Type 0
  AllDeclared ds = AllByRecursion Stands ds

  item-stands : (cut : Cut) (ds : List Declaration) → FrontStands laws cut → item_of cut ≡ Some ds → AllDeclared ds
  item-stands cut ds front e = elim (item-shape cut ds e) [
    | inl none ↦ subst AllDeclared (sym none) tt
    | inr one ↦
        let before = front (item-no_block cut ds e) in
        let stands = declaration-stands (trimmed cut.front) (stands-trimmed laws cut.front before.behind before.stop (record { reads = before.reads })) in
        subst AllDeclared (sym one.is) (subst (λ (o : Option Declaration). OfSome Stands o) one.spelled stands, tt)
  ]

  block-stands : (block : List Component) (ds : List Declaration) → StandsBefore block → declarations_of block ≡ Some ds → AllDeclared ds
  block-stands block ds stands e =
      read_all-holds AllDeclared (FrontStands laws) item_of tt (each-append Stands) item-stands (cuts ends_item block)
      (item-fronts laws (cuts ends_item block) block stands.behind (joins-cuts ends_some_item ends_item item-ends [] block) (record { reads = stands.reads }) stands.stop)
      ds e

  -- Items.

  style-stands : (s : style.Style) (ds : List Declaration) → s.items ≡ run_of ds → AllByRecursion Stands ds → AllStand (item.Style s ∷ [])
  style-stands s ds is each = subst (AllByRecursion LeafStands) (sym (only-leaves s ds is)) (leaves-hold LeafStands s.selectors ds tt each)

  style-read : (cut : Cut) (items : List Item) (s : IsStyled cut items) → StandsBefore (inside s.block) → AllStand items
  style-read cut items s before = subst AllStand (sym s.is) (style-stands (record { selectors = s.list; items = run_of s.ds; at = s.at }) s.ds refl (block-stands (inside s.block) s.ds before s.inner))

both-stand : (xs ys : List Item) → AllStand xs → AllStand ys → AllStand (xs ++ ys)
both-stand xs ys h k = subst (AllByRecursion LeafStands) (sym (flat_map-append leaves xs ys)) (each-append LeafStands (all_leaves xs) (all_leaves ys) h k)

-- Groups and rules that are passed on.

group-leaves : (c : GroupCondition) (ls : List Leaf) → ConditionStands c → AllByRecursion LeafStands ls → AllByRecursion LeafStands (group_leaves c ls)
group-leaves c [] stands each = tt
group-leaves c (l ∷ ls) stands each = (stands, each)

group-stands : (g : group.Group) → ConditionStands g.condition → AllStand g.items → AllStand (item.Group g ∷ [])
group-stands g stands inner = subst (AllByRecursion LeafStands) (sym (leaves-Group g)) (group-leaves g.condition (all_leaves g.items) stands inner)

stopped-value : (cs : List Component) → AreStopped is_spelled cs → StandsAsValue cs
stopped-value cs stopped = record { behind = stopped.before.behind; stop = stopped.before.stop; reads = stopped.before.reads }

passed-stands : (rule : Passed) → IsReadPassed is_spelled rule → AllStand (item.Passed rule ∷ [])
passed-stands rule r = subst (AllByRecursion LeafStands) (sym (leaves-Passed rule)) ((stopped-value rule.prelude r.prelude, stopped-value rule.block r.block), tt)

other-stands : (at : ℕ) → AllStand (item.Other at ∷ [])
other-stands at = subst (AllByRecursion LeafStands) (sym (leaves-Other at)) tt

-- Sheets.

-- what is ensured of texts and of supports conditions
pub record StandingLaws : Type 0 where
  pub reading : ReadingLaws
  pub spelled : (t : List ℕ) (cs : List Component) → Reads t (words_all cs) → IsTrue (list_all is_spelled (words_all cs))
  pub supports : (cs : List Component) (s : Condition) → IsTrue (all_formed cs) → IsTrue (list_all is_spelled (words_all cs)) → AreRead cs → supports_reading cs ≡ Some s → DeclaredValuesStand s

module _ (laws : StandingLaws) where
  condition-stands : (c : GroupCondition) (cs : List Component) → AreStopped is_spelled cs → ReadsCondition cs c → ConditionStands c
  condition-stands (Media queries) cs stopped read = tt
  condition-stands (Supports s) cs stopped read =
      laws.supports cs s (sound-formed is_spelled cs stopped.sound) (sound-spelled is_spelled cs stopped.sound) (record { behind = stopped.before.behind; reads = stopped.before.reads }) read

  cases : ReadCases is_spelled AllStand
  cases = record {
    nothing = tt;
    both = both-stand;
    style = λ cut items s sound block. style-read laws.reading cut items s block.before;
    group = λ g prelude stopped read inner. group-stands g (condition-stands g.condition prelude stopped read) inner;
    passed = passed-stands;
    other = other-stands;
  }

  pub sheet-stands : (text : List ℕ) (cs : List Component) (sheet : Sheet) → Reads text (words_all cs) → IsTrue (all_formed cs) → sheet_of cs ≡ Some sheet → AllStand sheet.items
  sheet-stands text cs sheet reads formed e =
      let whole : StandsAt cs [] = record { reads = subst (λ (t : List ℕ). ReadsTo t (words_all cs) []) (text-spelled (after_mark text) (words_all cs) [] reads.1) reads.1 } in
      sheet-holds laws.reading is_spelled AllStand cases cs sheet
      (record { sound = all-sound is_spelled cs formed (laws.spelled text cs reads); behind = []; stands = whole })
      e
