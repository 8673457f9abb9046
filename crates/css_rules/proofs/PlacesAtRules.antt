-- An at-rule is read as the same rule, places aside, where the places of its tokens are at 0.
use Rattle.std.proofs.Common.{◌≡◌, ℕ, List, [], ◌∷◌, map, Bool, true, false, ◌||◌, Option, Some, None, option_map, refl, sym, ◌∙◌, ap, subst, cond, if◌then◌else◌, IsTrue, MatchOption}
use Rattle.std.specs.Str.{str_to_ascii_lowercase}
use Rattle.css_tokens.specs.declared.component.Component.{Component}
use Rattle.css_tokens.specs.Piece.{Piece}
use Rattle.css_tokens.specs.Trees.{all_formed, words_all}
use Rattle.media_spelling.specs.Places.{bare_supports}
use Rattle.media_spelling.specs.declared.condition.Query.{Query}
use Rattle.media_spelling.specs.declared.supports.Supports.{Supports as Condition}
use Rattle.media_tree.specs.Queries.{queries_reading}
use Rattle.media_tree.specs.SupportsReading.{supports_reading}
use Rattle.sheet_types.specs.BareItems.{bare_item, bare_items, bare_item-Group, bare_item-Passed, bare_item-Other}
use Rattle.sheet_types.specs.Conditions.{bare_condition}
use Rattle.sheet_types.specs.Erased.{bare_value, erased}
use Rattle.sheet_types.specs.declared.sheet.GroupCondition.{GroupCondition}
use Rattle.sheet_types.specs.declared.sheet.GroupCondition.TheVariants as conditions
use Rattle.sheet_types.specs.declared.sheet.Item.{Item}
use Rattle.sheet_types.specs.declared.sheet.Item as item
use Rattle.sheet_types.specs.declared.sheet.PassedKind.{PassedKind}
use Rattle.sheet_types.specs.declared.sheet.PassedKind.TheVariants.{FontFace, Keyframes, WebkitKeyframes, MozKeyframes, Page, CounterStyle}
use Rattle.sheet_types.proofs.PlacesTrees.{all_formed-erased, bare_value-erased, words-erased}
use Rattle.css_rules.specs.declared.at_rule.AtKeyword.{AtKeyword}
use Rattle.css_rules.specs.declared.at_rule.AtKeyword.TheVariants.{Media, Supports, PassedOn, Import, Charset, Layer, Unknown}
use Rattle.css_rules.specs.declared.at_rule.AtRule.{AtRule}
use Rattle.css_rules.specs.declared.at_rule.AtRule.TheVariants as rules
use Rattle.css_rules.specs.declared.refusal.Sought.TheVariants.{RevertLayerOrUrl}
use Rattle.css_rules.specs.AtRules.{at_rule_of, behind_keyword, fits_prelude, grouped, is_one, keyword_in, keyword_named, with_block, without_block}
use Rattle.css_components.specs.Components.{inside, is_braces, is_ident, is_string, name_of}
use Rattle.css_rules.specs.NestedRules.{in_block}
use Rattle.css_rules.specs.Refusals.{has_sought}
use Rattle.css_rules.specs.RuleEnds.{block_of, ends_in_braces}
use Rattle.css_rules.specs.Sheets.{at_rule_items, reading, rules_of}
use Rattle.css_rules.proofs.PlacesConditions.{printed-alike}
use Rattle.css_rules.proofs.PlacesCuts.{mark-erased, sought-erased, trimmed-erased}
use Rattle.css_rules.proofs.PlacesLayers.{braces-erased, head-erased, ident-erased, inside-erased, string-erased}

-- Parts of an at-rule.

pub keyword-erased : (cs : List Component) → keyword_in (map erased cs) ≡ keyword_in cs
keyword-erased [] = refl
keyword-erased (c ∷ cs) = ap (λ (p : Piece). keyword_named (str_to_ascii_lowercase (name_of p))) (head-erased c)

pub behind-erased : (cs : List Component) → behind_keyword (map erased cs) ≡ map erased (behind_keyword cs)
behind-erased [] = refl
behind-erased (c ∷ cs) = trimmed-erased cs

pub one-erased : (test : Component → Bool) → ((c : Component) → test (erased c) ≡ test c) → (cs : List Component) → is_one test (map erased cs) ≡ is_one test cs
one-erased test same [] = refl
one-erased test same (c ∷ []) = same c
one-erased test same (c ∷ d ∷ cs) = refl

abbrev is_name : Component → Bool
is_name c = is_ident c || is_string c

name-erased : (c : Component) → is_name (erased c) ≡ is_name c
name-erased c = ap (λ b. b || is_string (erased c)) (ident-erased c) ∙ ap (λ b. is_ident c || b) (string-erased c)

fits-erased : (kind : PassedKind) (cs : List Component) → fits_prelude kind (map erased cs) ≡ fits_prelude kind cs
fits-erased FontFace cs = refl
fits-erased Keyframes cs = one-erased is_name name-erased cs
fits-erased WebkitKeyframes cs = one-erased is_name name-erased cs
fits-erased MozKeyframes cs = one-erased is_name name-erased cs
fits-erased Page cs = refl
fits-erased CounterStyle cs = one-erased is_ident ident-erased cs

block-erased : (mark : Option Component) → block_of (option_map erased mark) ≡ map erased (block_of mark)
block-erased None = refl
block-erased (Some c) = inside-erased c

-- At-rules that are the same, places aside.

abbrev Alike : AtRule → AtRule → Type 0
Alike (rules.Group c) (rules.Group d) = bare_condition c ≡ bare_condition d
Alike (rules.PassedOn k p) (rules.PassedOn l q) = (k ≡ l) × (p ≡ map erased q)
Alike rules.Import rules.Import = Unit {0}
Alike rules.Waiting rules.Waiting = Unit {0}
Alike rules.Unknown rules.Unknown = Unit {0}
Alike rules.Unread rules.Unread = Unit {0}
Alike a b = ⊥

-- what is ensured of conditions: the same words are read as the same condition, places aside
pub record ConditionPlaces : Type 0 where
  pub queries : (a b : List Component) → words_all a ≡ words_all b → IsTrue (all_formed a) → IsTrue (all_formed b) → queries_reading a ≡ queries_reading b
  pub supports : (a b : List Component) → words_all a ≡ words_all b → IsTrue (all_formed a) → IsTrue (all_formed b) → option_map bare_supports (supports_reading a) ≡ option_map bare_supports (supports_reading b)

media-same : (o : Option (List Query)) → Alike (grouped (option_map conditions.Media o)) (grouped (option_map conditions.Media o))
media-same None = tt
media-same (Some qs) = refl

media-alike : (o p : Option (List Query)) → o ≡ p → Alike (grouped (option_map conditions.Media o)) (grouped (option_map conditions.Media p))
media-alike o p e = subst (λ (q : Option (List Query)). Alike (grouped (option_map conditions.Media o)) (grouped (option_map conditions.Media q))) e (media-same o)

supports-alike : (o p : Option Condition) → option_map bare_supports o ≡ option_map bare_supports p → Alike (grouped (option_map conditions.Supports o)) (grouped (option_map conditions.Supports p))
supports-alike None None e = tt
supports-alike None (Some b) e = absurd (cc e)
supports-alike (Some a) None e = absurd (cc e)
supports-alike (Some a) (Some b) e = let same : bare_supports a ≡ bare_supports b = cc e in ap conditions.Supports (printed-alike a b same)

passed-alike : (kind : PassedKind) (cs : List Component) (b : Bool) → Alike (cond b (rules.PassedOn kind (map erased cs)) rules.Unread) (cond b (rules.PassedOn kind cs) rules.Unread)
passed-alike kind cs true = (refl, refl)
passed-alike kind cs false = tt

with-alike : ConditionPlaces → (keyword : AtKeyword) (cs : List Component) → all_formed cs ≡ true → Alike (with_block keyword (map erased cs)) (with_block keyword cs)
with-alike places Media cs formed = media-alike (queries_reading (map erased cs)) (queries_reading cs) (places.queries (map erased cs) cs (words-erased cs) (all_formed-erased cs ∙ formed) formed)
with-alike places Supports cs formed = supports-alike (supports_reading (map erased cs)) (supports_reading cs) (places.supports (map erased cs) cs (words-erased cs) (all_formed-erased cs ∙ formed) formed)
with-alike places (PassedOn kind) cs formed =
    subst (λ b. Alike (cond b (rules.PassedOn kind (map erased cs)) rules.Unread) (with_block (PassedOn kind) cs)) (sym (fits-erased kind cs)) (passed-alike kind cs (fits_prelude kind cs))
with-alike places Import cs formed = tt
with-alike places Charset cs formed = tt
with-alike places Layer cs formed = tt
with-alike places Unknown cs formed = tt

without-alike : (keyword : AtKeyword) → Alike (without_block keyword) (without_block keyword)
without-alike Media = tt
without-alike Supports = tt
without-alike (PassedOn kind) = tt
without-alike Import = tt
without-alike Charset = tt
without-alike Layer = tt
without-alike Unknown = tt

-- the rule of these parts
abbrev rule_from : AtKeyword → List Component → Bool → AtRule
rule_from keyword prelude has_block = if has_block then with_block keyword prelude else without_block keyword

from-alike : ConditionPlaces → (keyword : AtKeyword) (cs : List Component) → all_formed cs ≡ true → (b : Bool) → Alike (rule_from keyword (map erased cs) b) (rule_from keyword cs b)
from-alike places keyword cs formed true = with-alike places keyword cs formed
from-alike places keyword cs formed false = without-alike keyword

rule-alike : ConditionPlaces → (cs : List Component) (mark : Option Component) → all_formed (behind_keyword cs) ≡ true
    → Alike (at_rule_of (map erased cs) (ends_in_braces (option_map erased mark))) (at_rule_of cs (ends_in_braces mark))
rule-alike places cs mark formed =
    let same =
    ap (λ k. rule_from k (behind_keyword (map erased cs)) (ends_in_braces (option_map erased mark))) (keyword-erased cs)
    ∙ ap (λ p. rule_from (keyword_in cs) p (ends_in_braces (option_map erased mark))) (behind-erased cs)
    ∙ ap (rule_from (keyword_in cs) (map erased (behind_keyword cs))) (mark-erased mark) in
    subst (λ (a : AtRule). Alike a (at_rule_of cs (ends_in_braces mark))) (sym same) (from-alike places (keyword_in cs) (behind_keyword cs) formed (ends_in_braces mark))

-- Their items.

abbrev bare_read : Option (List Item) → Option (List Item)
bare_read o = option_map bare_items o

abbrev group_of : GroupCondition → ℕ → Option (List Item) → Option (List Item)
group_of c at o = option_map (λ (items : List Item). item.Group (record { condition = c; items = items; at = at }) ∷ []) o

group-bare : (c : GroupCondition) (at : ℕ) (o : Option (List Item)) → bare_read (group_of c at o) ≡ group_of (bare_condition c) 0 (bare_read o)
group-bare c at None = refl
group-bare c at (Some items) = ap (λ (x : Item). Some (x ∷ [])) (bare_item-Group (record { condition = c; items = items; at = at }))

passed-bare : (kind : PassedKind) (at place : ℕ) (p block : List Component)
    → bare_item (item.Passed (record { kind = kind; prelude = map erased p; block = map erased block; at = at })) ≡ bare_item (item.Passed (record { kind = kind; prelude = p; block = block; at = place }))
passed-bare kind at place p block =
    bare_item-Passed (record { kind = kind; prelude = map erased p; block = map erased block; at = at })
    ∙ ap (λ v. item.Passed (record { kind = kind; prelude = v; block = bare_value (map erased block); at = 0 })) (bare_value-erased p)
    ∙ ap (λ v. item.Passed (record { kind = kind; prelude = bare_value p; block = v; at = 0 })) (bare_value-erased block)
    ∙ sym (bare_item-Passed (record { kind = kind; prelude = p; block = block; at = place }))

passed-items : (kind : PassedKind) (at place : ℕ) (p block : List Component) (o q : Option (List Item))
    → bare_read (at_rule_items at (rules.PassedOn kind (map erased p)) (map erased block) o) ≡ bare_read (at_rule_items place (rules.PassedOn kind p) block q)
passed-items kind at place p block o q =
    let rule = λ (n : ℕ) (v w : List Component). item.Passed (record { kind = kind; prelude = v; block = w; at = n }) in
    ap (λ b. bare_read (cond (b || has_sought RevertLayerOrUrl (map erased block)) None (Some (rule at (map erased p) (map erased block) ∷ [])))) (sought-erased RevertLayerOrUrl p)
    ∙ ap (λ b. bare_read (cond (has_sought RevertLayerOrUrl p || b) None (Some (rule at (map erased p) (map erased block) ∷ [])))) (sought-erased RevertLayerOrUrl block)
    ∙ by_sought (has_sought RevertLayerOrUrl p || has_sought RevertLayerOrUrl block)
  where
    by_sought : (b : Bool)
        → bare_read (cond b None (Some (item.Passed (record { kind = kind; prelude = map erased p; block = map erased block; at = at }) ∷ [])))
        ≡ bare_read (cond b None (Some (item.Passed (record { kind = kind; prelude = p; block = block; at = place }) ∷ [])))
    by_sought true = refl
    by_sought false = ap (λ (x : Item). Some (x ∷ [])) (passed-bare kind at place p block)

items-alike : (at place : ℕ) (a b : AtRule) (block : List Component) (o q : Option (List Item)) → Alike a b → bare_read o ≡ bare_read q
    → bare_read (at_rule_items at a (map erased block) o) ≡ bare_read (at_rule_items place b block q)
items-alike at place (rules.Group c) (rules.Group d) block o q alike inner =
    group-bare c at o ∙ ap (λ e. group_of e 0 (bare_read o)) alike ∙ ap (group_of (bare_condition d) 0) inner ∙ sym (group-bare d place q)
items-alike at place (rules.PassedOn k p) (rules.PassedOn l r) block o q alike inner =
    ap (λ e. bare_read (at_rule_items at (rules.PassedOn e p) (map erased block) o)) alike.0
    ∙ ap (λ e. bare_read (at_rule_items at (rules.PassedOn l e) (map erased block) o)) alike.1
    ∙ passed-items l at place r block o q
items-alike at place rules.Import rules.Import block o q alike inner = refl
items-alike at place rules.Waiting rules.Waiting block o q alike inner = refl
items-alike at place rules.Unknown rules.Unknown block o q alike inner = ap (λ (x : Item). Some (x ∷ [])) (bare_item-Other at ∙ sym (bare_item-Other place))
items-alike at place rules.Unread rules.Unread block o q alike inner = refl
items-alike at place a b block o q alike inner = absurd alike

-- the rules in a block are read as the same, where this is so of what stands in it
inner-erased : (mark : Option Component) → MatchOption mark (Unit {0}) (λ c. bare_read (rules_of (map erased (inside c))) ≡ bare_read (rules_of (inside c)))
    → bare_read (in_block reading rules_of (option_map erased mark)) ≡ bare_read (in_block reading rules_of mark)
inner-erased None same = refl
inner-erased (Some c) same =
    ap (λ b. bare_read (cond b (rules_of (inside (erased c))) (Some []))) (braces-erased c)
    ∙ ap (λ cs. bare_read (cond (is_braces c) (rules_of cs) (Some []))) (inside-erased c)
    ∙ by_braces (is_braces c)
  where
    by_braces : (b : Bool) → bare_read (cond b (rules_of (map erased (inside c))) (Some [])) ≡ bare_read (cond b (rules_of (inside c)) (Some []))
    by_braces true = same
    by_braces false = refl

pub at_rule_items-erased : ConditionPlaces → (at place : ℕ) (cs : List Component) (mark : Option Component) → all_formed (behind_keyword cs) ≡ true
    → MatchOption mark (Unit {0}) (λ c. bare_read (rules_of (map erased (inside c))) ≡ bare_read (rules_of (inside c)))
    → bare_read (at_rule_items at (at_rule_of (map erased cs) (ends_in_braces (option_map erased mark))) (block_of (option_map erased mark)) (in_block reading rules_of (option_map erased mark)))
    ≡ bare_read (at_rule_items place (at_rule_of cs (ends_in_braces mark)) (block_of mark) (in_block reading rules_of mark))
at_rule_items-erased places at place cs mark formed same =
    let rule = at_rule_of (map erased cs) (ends_in_braces (option_map erased mark)) in
    ap (λ block. bare_read (at_rule_items at rule block (in_block reading rules_of (option_map erased mark)))) (block-erased mark)
    ∙ items-alike at place rule (at_rule_of cs (ends_in_braces mark)) (block_of mark) (in_block reading rules_of (option_map erased mark)) (in_block reading rules_of mark)
    (rule-alike places cs mark formed) (inner-erased mark same)
