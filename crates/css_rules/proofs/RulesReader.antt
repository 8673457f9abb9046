-- The reader of rules in blocks: how it ends, and what it reads of a group.
use Rattle.std.proofs.Common.{◌≡◌, ℕ, zero, suc, ◌+◌, ◌-◌, ◌<◌, ◌≤◌, List, [], ◌∷◌, ◌++◌, length, take, drop, slice_get, slice_range, Bool, true, false, Option, Some, None, ◌||◌, refl, sym, ◌∙◌, ap, arith, cond, if◌then◌else◌, length-append, flat_map, le-leb, option_map}
use Rattle.std.proofs.lemmas.Grind.{flat_map-append}
use Rattle.std.proofs.lemmas.List.{append-nil, drop-append-le, drop-drop, drop-take, drop_all, drop_at, length-drop, length-take-le, take-append-le, take-take, take_at, take_rest}
use Rattle.std.proofs.lemmas.List.Folds.{drop_split}
use Rattle.css_tokens.specs.declared.component.Component.{Component}
use Rattle.css_tokens.specs.Trees.{pieces_all, pieces_of}
use Rattle.sheet_types.specs.declared.sheet.GroupCondition.{GroupCondition}
use Rattle.sheet_types.specs.declared.sheet.Item.{Item, Passed}
use Rattle.sheet_types.specs.declared.sheet.PassedKind.{PassedKind}
use Rattle.css_rules.specs.declared.at_rule.AtKeyword.{AtKeyword}
use Rattle.css_rules.specs.declared.at_rule.AtKeyword.TheVariants.{Media, Supports, PassedOn, Import, Charset, Layer, Unknown}
use Rattle.css_rules.specs.declared.at_rule.AtRule.TheVariants as rules
use Rattle.css_rules.specs.declared.refusal.Refusal.{Refusal}
use Rattle.css_rules.specs.declared.refusal.Sought.TheVariants.{RevertLayerOrUrl}
use Rattle.css_rules.specs.AtRules.{at_rule_of, keyword_in, without_block}
use Rattle.css_components.specs.Components.{inside, is_braces}
use Rattle.css_components.specs.Trimming.{trimmed}
use Rattle.css_rules.specs.Cuts.{Cut, cuts}
use Rattle.css_rules.specs.NestedRules.{Making, in_block}
use Rattle.css_rules.specs.ReadAll.{read_all}
use Rattle.css_rules.specs.Refusals.{first_refusal, has_sought, sooner_of, sought_in}
use Rattle.css_rules.specs.RuleEnds.{begins_at_rule, block_of, ends_in_braces, ends_rule}
use Rattle.css_rules.specs.Places.{first_place}
use Rattle.css_rules.specs.Sheets.{at_rule_items, at_rule_refusals, reading, refusing, rule_of, rule_refusals, rules_of, rules_refusals, style_of, style_refusals}
use Rattle.css_rules.proofs.CutLemmas.{cuts_left}
use Rattle.css_rules.proofs.NestedRules.{inside-shorter, rules-read, rules-refused}
use Rattle.css_rules.proofs.ReadAllLemmas.{left-none, right-none}
use Rattle.css_rules.proofs.RefusalLemmas.{first_refusal-append, first_refusal-none}
use Rattle.css_rules.proofs.SoughtTold.{none-sought}

-- How many tokens are still to be read.

-- the tokens of the mark of a rule
abbrev pub mark_size : Option Component → ℕ
mark_size None = 0
mark_size (Some mark) = length (pieces_of mark)

pub left-shorter : (cs : List Component) (from to : ℕ) → from ≤ to → length (pieces_all (drop to cs)) ≤ length (pieces_all (drop from cs))
left-shorter cs from to le =
    let split = ap (λ xs. length (pieces_all xs)) (drop_split cs from to le) in
    let both = ap length (flat_map-append pieces_of (slice_range cs from to) (drop to cs)) in
    omega (arith, split, both, length-append (pieces_all (slice_range cs from to)) (pieces_all (drop to cs)))

pub mark-shorter : (cs : List Component) (to : ℕ) → mark_size (slice_get cs to) ≤ length (pieces_all (drop to cs))
mark-shorter [] to = omega arith
mark-shorter (c ∷ cs) zero = omega (arith, length-append (pieces_of c) (pieces_all cs))
mark-shorter (c ∷ cs) (suc to) = mark-shorter cs to

-- A `{}` block ends each group.

no-group : (keyword : AtKeyword) (condition : GroupCondition) → without_block keyword ≡ rules.Group condition → ⊥
no-group Media condition e = cc e
no-group Supports condition e = cc e
no-group (PassedOn kind) condition e = cc e
no-group Import condition e = cc e
no-group Charset condition e = cc e
no-group Layer condition e = cc e
no-group Unknown condition e = cc e

pub group-shorter : (rule : List Component) (mark : Option Component) (condition : GroupCondition) → at_rule_of rule (ends_in_braces mark) ≡ rules.Group condition → length (pieces_all (block_of mark)) < mark_size mark
group-shorter rule None condition is = absurd (no-group (keyword_in rule) condition is)
group-shorter rule (Some mark) condition is = inside-shorter mark

-- Rules that are passed on.

pub passed-refused : (prelude block : List Component) (before within new : Option Refusal) → before ≡ first_refusal (sought_in RevertLayerOrUrl prelude) → within ≡ first_refusal (sought_in RevertLayerOrUrl block)
    → new ≡ sooner_of before within → new ≡ first_refusal (sought_in RevertLayerOrUrl prelude ++ sought_in RevertLayerOrUrl block)
passed-refused prelude block before within new first second made =
    made
    ∙ ap (λ r. sooner_of r within) first
    ∙ ap (sooner_of (first_refusal (sought_in RevertLayerOrUrl prelude))) second
    ∙ sym (first_refusal-append (sought_in RevertLayerOrUrl prelude) (sought_in RevertLayerOrUrl block))

pub passed-read : (at : ℕ) (kind : PassedKind) (prelude block : List Component) (inner : Option (List Item)) → first_refusal (sought_in RevertLayerOrUrl prelude ++ sought_in RevertLayerOrUrl block) ≡ None
    → at_rule_items at (rules.PassedOn kind prelude) block inner ≡ Some (Passed (record { kind = kind; prelude = prelude; block = block; at = at }) ∷ [])
passed-read at kind prelude block inner none =
    let refusals = sought_in RevertLayerOrUrl prelude in
    let more = sought_in RevertLayerOrUrl block in
    let item = Some (Passed (record { kind = kind; prelude = prelude; block = block; at = at }) ∷ []) in
    let all = first_refusal-none (refusals ++ more) none in
    ap (λ b. cond (b || has_sought RevertLayerOrUrl block) None item) (none-sought RevertLayerOrUrl prelude (left-none refusals more all))
    ∙ ap (λ b. cond b None item) (none-sought RevertLayerOrUrl block (right-none refusals more all))

-- Rules one after another.

nothing-before : {A : Type 0} (o : Option (List A)) → option_map (λ more. [] ++ more) o ≡ o
nothing-before None = refl
nothing-before (Some xs) = refl

all-left : (cs : List Component) → cuts_left ends_rule cs 0 ≡ cuts ends_rule cs
all-left cs = ap (λ b. cond b (cuts ends_rule cs) []) (le-leb 0 (length cs) (omega arith))

-- at the start all is left
pub start-refused : (cs text : List Component) → cs ≡ text → first_refusal (flat_map rule_refusals (cuts_left ends_rule cs 0)) ≡ first_refusal (rules_refusals text)
start-refused cs text same = ap (λ all. first_refusal (flat_map rule_refusals all)) (all-left cs) ∙ ap first_refusal (sym (rules-refused cs)) ∙ ap (λ xs. first_refusal (rules_refusals xs)) same

pub start-read : (cs text : List Component) (items : List Item) → cs ≡ text → items ≡ [] → option_map (λ more. items ++ more) (read_all rule_of (cuts_left ends_rule cs 0)) ≡ rules_of text
start-read cs text items same none =
    ap (λ xs. option_map (λ more. xs ++ more) (read_all rule_of (cuts_left ends_rule cs 0))) none
    ∙ nothing-before (read_all rule_of (cuts_left ends_rule cs 0))
    ∙ ap (read_all rule_of) (all-left cs) ∙ sym (rules-read cs) ∙ ap rules_of same

-- Where what stands from a place on is changed, what stands before it is kept.

first-left : {X : Type 0} (xs : List X) (at : ℕ) → slice_get (drop at xs) 0 ≡ slice_get xs at
first-left [] zero = refl
first-left [] (suc at) = refl
first-left (x ∷ xs) zero = refl
first-left (x ∷ xs) (suc at) = first-left xs at

front-kept : {X : Type 0} (old new : List X) (from end : ℕ) → from ≤ end → end ≤ length old → slice_range (take end old ++ new) from end ≡ slice_range old from end
front-kept old new from end le within =
    let whole : end ≡ from + (end - from) = omega arith in
    let start : from ≤ length (take end old) = omega (arith, length-take-le end old within) in
    let left : end - from ≤ length (drop from old) = omega (arith, length-drop from old) in
    let short : end - from ≤ length (take (end - from) (drop from old)) = omega (arith, length-take-le (end - from) (drop from old) left) in
    let same : end - from ≤ end - from = omega arith in
    ap (take (end - from)) (drop-append-le from (take end old) new start ∙ ap (λ n. drop from (take n old) ++ new) whole ∙ ap (λ xs. xs ++ new) (drop-take from (end - from) old))
    ∙ take-append-le (end - from) (take (end - from) (drop from old)) new short
    ∙ take-take (end - from) (end - from) (drop from old) same

behind-kept : {X : Type 0} (old new : List X) (end : ℕ) → end ≤ length old → drop 1 new ≡ drop 1 (drop end old) → drop (end + 1) (take end old ++ new) ≡ drop (end + 1) old
behind-kept old new end within same =
    sym (drop-drop 1 end (take end old ++ new)) ∙ ap (drop 1) (drop_at (take end old) new end (length-take-le end old within)) ∙ same ∙ drop-drop 1 end old

length-kept : {X : Type 0} (old new : List X) (end : ℕ) → end ≤ length old → length new ≡ length (drop end old) → length (take end old ++ new) ≡ length old
length-kept old new end within same = omega (arith, length-append (take end old) new, length-take-le end old within, length-drop end old)

whole-kept : {X : Type 0} (len end : ℕ) (old new rest : List X) → length old ≡ len → end ≤ length old → length new ≡ length (drop end old)
    → take len ((take end old ++ (new ++ drop (length old - end) (drop end old))) ++ rest) ≡ take end old ++ new
whole-kept len end old new rest long within same =
    let none : length (drop end old) ≤ length old - end = omega (arith, length-drop end old) in
    ap (λ xs. take len ((take end old ++ (new ++ xs)) ++ rest)) (drop_all (length old - end) (drop end old) none)
    ∙ ap (λ xs. take len ((take end old ++ xs) ++ rest)) (append-nil new)
    ∙ take_at (take end old ++ new) rest len (length-kept old new end within same ∙ long)

-- The mark at a place was taken out.
pub record IsTaken (old now : List Component) (end : ℕ) : Type 0 where
  pub long : length now ≡ length old
  pub behind : drop (end + 1) now ≡ drop (end + 1) old
  pub front : (from : ℕ) → from ≤ end → slice_range now from end ≡ slice_range old from end

pub mark-taken : (len end : ℕ) (old new rest : List Component) → length old ≡ len → end ≤ length old
    → drop 1 new ≡ drop 1 (take (length old - end) (drop end old)) → length new ≡ length (take (length old - end) (drop end old))
    → IsTaken old (take len ((take end old ++ (new ++ drop (length old - end) (drop end old))) ++ rest)) end
mark-taken len end old new rest long within behind same =
    let all = take_rest old end in
    let size : length new ≡ length (drop end old) = same ∙ ap length all in
    let kept = whole-kept len end old new rest long within size in
    record {
      long = ap length kept ∙ length-kept old new end within size;
      behind = ap (drop (end + 1)) kept ∙ behind-kept old new end within (behind ∙ ap (drop 1) all);
      front = λ from le. ap (λ xs. slice_range xs from end) kept ∙ front-kept old new from end le within;
    }

pub mark-at : (old text : List Component) (end : ℕ) (mark : Option Component) → old ≡ text → mark ≡ slice_get (take (length old - end) (drop end old)) 0 → mark ≡ slice_get text end
mark-at old text end mark same is = is ∙ ap (λ xs. slice_get xs 0) (take_rest old end) ∙ first-left old end ∙ ap (λ xs. slice_get xs end) same

-- so it has no more tokens than what was left
pub mark-below : (text : List Component) (from end count : ℕ) (mark : Option Component) → from ≤ end → mark ≡ slice_get text end → length (pieces_all (drop from text)) ≤ count → mark_size mark ≤ count
mark-below text from end count mark le is left =
    let same = ap mark_size is in
    omega (arith, same, mark-shorter text end, left-shorter text from end le, left)
