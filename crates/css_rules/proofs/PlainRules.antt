-- Each item of a sheet that is read is a plain one.
use Rattle.std.proofs.Common.{◌≡◌, ℕ, List, [], ◌∷◌, ◌++◌, map, Bool, true, false, cond, Option, Some, None, refl, sym, ◌∙◌, ap, subst, inl, inr, ◌&&◌, not}
use Rattle.std.specs.Prelude.{Result, Ok, Err, unwrap_or}
use Rattle.std.specs.List.{list_all, AllByRecursion}
use Rattle.std.proofs.lemmas.List.Folds.{list_all-append, list_all-map}
use Rattle.css_tokens.specs.declared.component.Component.{Component}
use Rattle.css_tokens.specs.Trees.{all_formed, words_all}
use Rattle.media_tree.specs.SpelledWords.{AreRead}
use Rattle.selector_types.specs.PartsWithin.{list_parts}
use Rattle.selector_types.specs.ReadableSelectors.{is_spelled}
use Rattle.selector_types.specs.declared.selector.Compound.{Compound}
use Rattle.selector_types.specs.declared.selector.Selector.{Selector}
use Rattle.selector_tree.specs.declared.sign.Sign.{Sign}
use Rattle.selector_tree.specs.Grammar.{Mark, Member, Step, compound_of, cut_at_commas, fault_place, first_and, first_place, link_of, members_reading, or_fault, runs_of, selector_of, selector_with, spaced, stands_before, steps_of, stripped}
use Rattle.selector_tree.specs.Signs.{list_reading, mark_of}
use Rattle.css_components.specs.Components.{inside}
use Rattle.css_rules.specs.Cuts.{Cut, cuts}
use Rattle.css_rules.specs.PlainRules.{Plain, are_built, is_one_run, is_plain_condition, is_plain_item, is_unled, none_waits, plainness}
use Rattle.css_rules.specs.Sheets.{declarations_of, is_unbuilt, item_of, sheet_of}
use Rattle.css_rules.specs.RuleEnds.{ends_item}
use Rattle.sheet_types.specs.ItemFold.{folded, folded-Plain, folded-Style, folded-Group, folded-Passed, folded-Other}
use Rattle.sheet_types.specs.Runs.{run_of}
use Rattle.sheet_types.specs.declared.sheet.Declaration.{Declaration}
use Rattle.sheet_types.specs.declared.sheet.Group as group
use Rattle.sheet_types.specs.declared.sheet.GroupCondition.{GroupCondition}
use Rattle.sheet_types.specs.declared.sheet.GroupCondition.TheVariants.{Media, Supports}
use Rattle.sheet_types.specs.declared.sheet.Item.{Item}
use Rattle.sheet_types.specs.declared.sheet.Item as item
use Rattle.sheet_types.specs.declared.sheet.Sheet.{Sheet}
use Rattle.css_rules.proofs.AtRuleShapes.{ReadsCondition}
use Rattle.css_rules.proofs.BoolLemmas.{and-both}
use Rattle.css_rules.proofs.ConditionsRead.{QueriesReadable, WordsSpelled, queries-readable}
use Rattle.css_rules.proofs.FromSourceParts.{all-sound}
use Rattle.css_rules.proofs.ListsRead.{list-found}
use Rattle.css_rules.proofs.ReadAllLemmas.{read_all-holds}
use Rattle.css_rules.proofs.RuleShapes.{IsStyled, item-shape, prelude-shape}
use Rattle.css_rules.proofs.SourceRules.{AreStopped, ReadCases, sheet-holds}
use Rattle.css_rules.proofs.StandLists.{ReadingLaws}
use Rattle.css_rules.proofs.WaitingParts.{parts-calm}
use Rattle.css_rules.proofs.WaitingSigns.{read-calm}

-- No combinator leads a selector of a prelude.

abbrev OfSome : {X : Type 0} → (X → Type 0) → Option X → Type 0
OfSome P None = Unit {0}
OfSome P (Some x) = P x

abbrev OfOk : {X : Type 0} → (X → Type 0) → Result X ℕ → Type 0
OfOk P (Err at) = Unit {0}
OfOk P (Ok x) = P x

abbrev IsUnled : Selector → Type 0
IsUnled s = is_unled s ≡ true

abbrev AreUnled : List Selector → Type 0
AreUnled ss = list_all is_unled ss ≡ true

unled-made : (at : ℕ) (k : Compound) (ls : List Step) (b : Bool) → OfSome IsUnled (cond b (Some (record { lead = None; first = k; rest = map link_of ls; at = at })) None)
unled-made at k ls true = refl
unled-made at k ls false = tt

unled-joined : (at : ℕ) (o : Option Compound) (ls : Option (List Step)) → OfSome IsUnled (selector_with at None o ls)
unled-joined at None ls = tt
unled-joined at (Some k) None = tt
unled-joined at (Some k) (Some ls) = unled-made at k ls (stands_before k.tail ls)

unled-member : (o : Option Selector) (place : ℕ) (list : Result (List Selector) ℕ) → OfSome IsUnled o → OfOk AreUnled list → OfOk AreUnled (first_and (or_fault o place) list)
unled-member None place list g h = tt
unled-member (Some s) place (Err at) g h = tt
unled-member (Some s) place (Ok ss) g h = and-both (is_unled s) (list_all is_unled ss) g h

unled-selector : (ms : List Mark) → OfSome IsUnled (selector_of false ms)
unled-selector ms =
    let ws : List Sign = stripped (spaced (map (λ m. m.sign) ms)) in
    unled-joined (unwrap_or (first_place ms) 0) (compound_of (runs_of ws).first) (steps_of (runs_of ws).rest)

unled-members : (end : ℕ) (ms : List Member) → OfOk AreUnled (members_reading false end ms)
unled-members end [] = refl
unled-members end (m ∷ ms) = unled-member (selector_of false m.marks) (fault_place end m) (members_reading false end ms) (unled-selector m.marks) (unled-members end ms)

read-unled : (cs : List Component) (ss : List Selector) → list_reading false cs 0 ≡ Ok ss → AreUnled ss
read-unled cs ss is =
    let cut = cut_at_commas (map mark_of cs) in
    subst (OfOk AreUnled) is (unled-members 0 (cut.0 ∷ cut.1))

-- No declaration is rewritten by a later stage.

abbrev AreBuilt : List Declaration → Type 0
AreBuilt ds = are_built ds ≡ true

both-all : {X : Type 0} (test : X → Bool) (xs ys : List X) → list_all test xs ≡ true → list_all test ys ≡ true → list_all test (xs ++ ys) ≡ true
both-all test xs ys h k = list_all-append test xs ys ∙ and-both (list_all test xs) (list_all test ys) h k

each-cut : (ks : List Cut) → AllByRecursion (λ k. Unit {0}) ks
each-cut [] = tt
each-cut (k ∷ ks) = (tt, each-cut ks)

item-built : (cut : Cut) (ds : List Declaration) → Unit {0} → item_of cut ≡ Some ds → AreBuilt ds
item-built cut ds t e = elim (item-shape cut ds e) [
  | inl none ↦ subst AreBuilt (sym none) refl
  | inr one ↦ subst AreBuilt (sym one.is) (ap (λ b. not b && true) one.built)
]

block-built : (block : List Component) (ds : List Declaration) → declarations_of block ≡ Some ds → AreBuilt ds
block-built block ds e = read_all-holds AreBuilt (λ k. Unit {0}) item_of refl (both-all (λ d. not (is_unbuilt d))) item-built (cuts ends_item block) (each-cut (cuts ends_item block)) ds e

-- Items.

abbrev ArePlain : List Item → Type 0
ArePlain items = list_all is_plain_item items ≡ true

abbrev plain_of : Item → Plain
plain_of = folded plainness

one-plain : (x : Item) → is_plain_item x ≡ true → ArePlain (x ∷ [])
one-plain x e = ap (λ b. b && true) e

run-plain : (ds : List Declaration) → AreBuilt ds → is_one_run (map plain_of (run_of ds)) ≡ true
run-plain [] built = refl
run-plain (d ∷ ds) built = ap (λ (p : Plain). p.within) (folded-Plain plainness (d ∷ ds)) ∙ built

style-plain : (list : List Selector) (ds : List Declaration) (at : ℕ) → AreUnled list → none_waits (list_parts list) ≡ true → AreBuilt ds → is_plain_item (item.Style (record { selectors = list; items = run_of ds; at = at })) ≡ true
style-plain list ds at unled calm built =
    let run = is_one_run (map plain_of (run_of ds)) in
    ap (λ (p : Plain). p.top) (folded-Style plainness (record { selectors = list; items = run_of ds; at = at }))
    ∙ and-both (list_all is_unled list) (none_waits (list_parts list) && run) unled (and-both (none_waits (list_parts list)) run calm (run-plain ds built))

style-read : (cut : Cut) (items : List Item) → IsStyled cut items → ArePlain items
style-read cut items s =
    let prelude = prelude-shape cut.front s.list s.prelude in
    let read = list-found cut.front s.list prelude.spelled in
    subst ArePlain (sym s.is)
    (one-plain (item.Style (record { selectors = s.list; items = run_of s.ds; at = s.at }))
    (style-plain s.list s.ds s.at (read-unled cut.front s.list read) (parts-calm s.list (read-calm cut.front s.list prelude.built read)) (block-built (inside s.block) s.ds s.inner)))

group-plain : (g : group.Group) → is_plain_condition g.condition ≡ true → ArePlain g.items → ArePlain (item.Group g ∷ [])
group-plain g condition inner =
    let tops = list_all (λ (p : Plain). p.top) (map plain_of g.items) in
    one-plain (item.Group g)
    (ap (λ (p : Plain). p.top) (folded-Group plainness g)
    ∙ and-both (is_plain_condition g.condition) tops condition (list_all-map (λ (p : Plain). p.top) plain_of g.items ∙ inner))

-- what is ensured of what is read
pub record PlainLaws : Type 0 where
  pub words : WordsSpelled
  pub queries : QueriesReadable
  pub reading : ReadingLaws

module _ (laws : PlainLaws) where
  condition-plain : (c : GroupCondition) (cs : List Component) → AreStopped is_spelled cs → ReadsCondition cs c → is_plain_condition c ≡ true
  condition-plain (Media qs) cs stopped read = queries-readable laws.words laws.queries cs qs stopped read
  condition-plain (Supports s) cs stopped read = refl

  cases : ReadCases is_spelled ArePlain
  cases = record {
    nothing = refl;
    both = both-all is_plain_item;
    style = λ cut items s sound block. style-read cut items s;
    group = λ g prelude stopped read inner. group-plain g (condition-plain g.condition prelude stopped read) inner;
    passed = λ rule r. one-plain (item.Passed rule) (ap (λ (p : Plain). p.top) (folded-Passed plainness rule));
    other = λ at. one-plain (item.Other at) (ap (λ (p : Plain). p.top) (folded-Other plainness at));
  }

  pub sheet-plain : (cs : List Component) (sheet : Sheet) → sheet_of cs ≡ Some sheet → all_formed cs ≡ true → list_all is_spelled (words_all cs) ≡ true → AreRead cs → ArePlain sheet.items
  sheet-plain cs sheet e formed spelled read =
      sheet-holds laws.reading is_spelled ArePlain cases cs sheet
      (record { sound = all-sound is_spelled cs formed spelled; behind = read.behind; stands = record { reads = read.reads } })
      e
