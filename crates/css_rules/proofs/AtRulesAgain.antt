-- Printed groups and rules that are passed on are read as those rules.
use Rattle.std.proofs.Common.{◌≡◌, ℕ, List, [], ◌∷◌, ◌++◌, map, Bool, true, false, ◌&&◌, ◌||◌, not, Option, Some, None, option_map, refl, sym, ◌∙◌, ap, cond, IsTrue, codes, inl, inr}
use Rattle.std.specs.List.{list_all, list_any}
use Rattle.std.specs.Str.{str_to_ascii_lowercase}
use Rattle.std.proofs.lemmas.Bool.{and_parts, false≢true}
use Rattle.css_tokens.specs.declared.kind.Kind.{Kind}
use Rattle.css_tokens.specs.declared.kind.Kind.TheVariants as kinds
use Rattle.css_tokens.specs.declared.component.Component.{Component, out-Component}
use Rattle.css_tokens.specs.declared.component.Component as component
use Rattle.css_tokens.specs.declared.component.Component.TheVariants.{outs-Single, outs-Block}
use Rattle.css_tokens.specs.declared.component.Block as block
use Rattle.css_tokens.specs.Names.{name_of_word}
use Rattle.css_tokens.specs.Piece.{Piece}
use Rattle.css_tokens.specs.Trees.{all_formed, is_text, words_all}
use Rattle.css_tokens.specs.Values.{after_gap, before_gap, behind_taking, is_gap as is_gap_kind}
use Rattle.css_tokens.specs.ValueAgain.{all_parted, head_kind, head_kind-Single, parted_within-Single, parting, short_piece, shortened-Single, takes_last, value_again}
use Rattle.media_spelling.specs.Places.{bare_supports}
use Rattle.media_spelling.specs.Preludes.{is_prelude_kind, layer_stands, stands}
use Rattle.media_spelling.specs.Spelling.{queries_spelling, supports_spelling}
use Rattle.media_spelling.specs.SupportsAgain.{again_steps, supports_again}
use Rattle.media_spelling.specs.SupportsFold.{folded-And, folded-Or, folded-Not, folded-Declared, folded-Function}
use Rattle.media_spelling.specs.SupportsInduction.{Each, by_supports}
use Rattle.media_spelling.specs.Places.{bare_steps}
use Rattle.media_spelling.specs.declared.condition.Query.{Query}
use Rattle.media_spelling.specs.declared.supports.Supports.{Supports}
use Rattle.media_spelling.specs.declared.supports.Supports as supports
use Rattle.media_tree.specs.Queries.{queries_reading}
use Rattle.media_tree.specs.ReadableQueries.{are_readable_queries, has_two}
use Rattle.media_tree.specs.SupportsAgain.{is_readable_supports, readable}
use Rattle.media_tree.specs.SupportsReading.{supports_reading}
use Rattle.sheet_types.specs.declared.sheet.Group as group
use Rattle.sheet_types.specs.declared.sheet.GroupCondition.{GroupCondition}
use Rattle.sheet_types.specs.declared.sheet.GroupCondition.TheVariants.{Media, Supports as OfSupports}
use Rattle.sheet_types.specs.declared.sheet.Item.{Item}
use Rattle.sheet_types.specs.declared.sheet.Item as item
use Rattle.sheet_types.specs.declared.sheet.Passed.{Passed}
use Rattle.sheet_types.specs.declared.sheet.PassedKind.{PassedKind}
use Rattle.sheet_types.specs.declared.sheet.PassedKind.TheVariants.{FontFace, Keyframes, WebkitKeyframes, MozKeyframes, Page, CounterStyle}
use Rattle.sheet_types.specs.BareItems.{bared_rule, bare_items, bare_item-Group, bare_item-Passed, filled_items}
use Rattle.sheet_types.specs.Conditions.{bare_condition}
use Rattle.sheet_types.specs.Erased.{bare_value}
use Rattle.sheet_types.specs.PassedRules.{keyword_of}
use Rattle.sheet_types.specs.SheetAgain.{behind_keyword_again, braces, condition_again, items_again, line_feed}
use Rattle.selector_types.specs.Spelling.{space}
use Rattle.sheet_types.proofs.PlacesTrees.{same-erased}
use Rattle.css_rules.specs.declared.at_rule.AtKeyword.{AtKeyword}
use Rattle.css_rules.specs.declared.at_rule.AtKeyword.TheVariants as keywords
use Rattle.css_rules.specs.declared.at_rule.AtRule.TheVariants as rules
use Rattle.css_rules.specs.declared.refusal.Sought.TheVariants.{RevertLayerOrUrl}
use Rattle.css_rules.specs.AtRules.{at_rule_of, behind_keyword, fits_prelude, grouped, is_one, keyword_in, keyword_named, with_block}
use Rattle.css_components.specs.Components.{inside, is_braces, is_gap, is_ident, is_ident_kind, is_semicolon, is_semicolon_kind, is_string, is_string_kind, layer_head, layer_is_single, name_of}
use Rattle.css_components.specs.Trimming.{trimmed, trimmed_end}
use Rattle.css_rules.specs.Cuts.{Cut}
use Rattle.css_rules.specs.NestedRules.{in_block}
use Rattle.css_rules.specs.Printable.{IsPrintableCondition, IsPrintablePassed, begins_solid}
use Rattle.css_rules.specs.Refusals.{has_sought}
use Rattle.css_rules.specs.RuleEnds.{begins_at_rule, block_of, ends_in_braces}
use Rattle.css_rules.specs.Places.{first_place}
use Rattle.css_rules.specs.Sheets.{at_rule_items, reading, rule_of, rules_of, style_of}
use Rattle.css_rules.proofs.BareLemmas.{bare_rule_of}
use Rattle.css_rules.proofs.CutAgain.{trimmed_end-solid}
use Rattle.css_rules.proofs.CutLemmas.{not-true, trimmed_start-gap, trimmed_start-other}
use Rattle.css_rules.proofs.Heads.{at-Single, braces-Block, braces-Single, gap-Single, head-Single, ident-Block, ident-Single, inside-Block, piece_of, semicolon-Block, semicolon-Single, single_of, word}
use Rattle.css_rules.proofs.PreludeAgain.{lead_of}
use Rattle.css_rules.proofs.SolidSpellings.{IsSolid, queries-solid, some-solid, supports-solid}
use Rattle.css_rules.proofs.SoughtAgain.{unsought-again}
use Rattle.css_rules.proofs.ValueFacts.{ValueLaws, any-value, braces_layer, semicolon_layer, shape_of, solid_no_gap, trimmed_end-value}
use Rattle.sheet_types.proofs.ItemShapes.{AreFull}

-- what is ensured of the conditions of groups
pub record GroupLaws : Type 0 where
  pub queries : (qs : List Query) → IsTrue (are_readable_queries qs) → queries_reading (queries_spelling qs) ≡ Some qs
  pub supports : (s : Supports) → IsTrue (is_readable_supports s) → supports_reading (supports_spelling s) ≡ Some (supports_again s)
  pub queries_stand : (qs : List Query) → IsTrue (list_all stands (queries_spelling qs))
  pub supports_stand : (s : Supports) → IsTrue (list_all stands (supports_spelling s))
  pub queries_formed : (qs : List Query) → IsTrue (all_formed (queries_spelling qs))
  pub supports_formed : (s : Supports) → IsTrue (all_formed (supports_spelling s))

-- What stands before the block of an at-rule.

abbrev pub at_word : List ℕ → Component
at_word text = single_of (word kinds.At text)

-- an at-keyword and what stands behind it
abbrev pub at_front : List ℕ → List Component → List Component
at_front text cs = at_word text ∷ behind_keyword_again cs

white-gap : (text : List ℕ) → is_gap (single_of (word kinds.White text)) ≡ true
white-gap text = gap-Single (piece_of (word kinds.White text))

behind-end : (cs : List Component) → trimmed_end cs ≡ cs → trimmed_end (behind_keyword_again cs) ≡ behind_keyword_again cs
behind-end [] e = refl
behind-end (c ∷ cs) e =
    ap (λ gap. cond (gap && list_all is_gap (c ∷ cs)) [] (space ∷ trimmed_end (c ∷ cs))) (white-gap (codes " "))
    ∙ ap (λ all. cond all [] (space ∷ trimmed_end (c ∷ cs))) (some-solid (c ∷ cs) tt e)
    ∙ ap (λ ds. space ∷ ds) e

behind-trimmed : (cs : List Component) → IsSolid cs → trimmed (behind_keyword_again cs) ≡ cs
behind-trimmed [] solid = refl
behind-trimmed (c ∷ cs) solid =
    ap trimmed_end (trimmed_start-gap space (c ∷ cs) (white-gap (codes " ")) ∙ trimmed_start-other c cs (not-true (is_gap c) solid.begins)) ∙ solid.ends

at-solid : (text : List ℕ) → is_gap (at_word text) ≡ false
at-solid text = gap-Single (piece_of (word kinds.At text))

front-trimmed : (text : List ℕ) (cs : List Component) → IsSolid cs → trimmed (at_front text cs) ≡ at_front text cs
front-trimmed text cs solid =
    ap trimmed_end (trimmed_start-other (at_word text) (behind_keyword_again cs) (at-solid text))
    ∙ trimmed_end-solid (at_word text) (behind_keyword_again cs) (at-solid text)
    ∙ ap (λ ds. at_word text ∷ ds) (behind-end cs solid.ends)

lead-trimmed : (b : Bool) (text : List ℕ) (cs : List Component) → IsSolid cs → trimmed (lead_of b ++ at_front text cs) ≡ at_front text cs
lead-trimmed true text cs solid = ap trimmed_end (trimmed_start-gap line_feed (at_front text cs) (white-gap (10 ∷ []))) ∙ front-trimmed text cs solid
lead-trimmed false text cs solid = front-trimmed text cs solid

-- What is read of a rule.

-- what is read of a rule that is an at-rule
abbrev at_items_of : Cut → Option (List Item)
at_items_of cut = at_rule_items (first_place (trimmed cut.front) 0) (at_rule_of (trimmed cut.front) (ends_in_braces cut.mark)) (block_of cut.mark) (in_block reading rules_of cut.mark)

-- a rule that is no at-rule is a style rule
pub plain-rule_of : (cut : Cut) → begins_at_rule (trimmed cut.front) ≡ false → rule_of cut ≡ style_of cut.front cut.mark
plain-rule_of cut none = ap (λ b. cond b (at_items_of cut) (style_of cut.front cut.mark)) none

-- the at-keyword of this text, with its `@`
abbrev keyword_at : List ℕ → AtKeyword
keyword_at text = keyword_named (str_to_ascii_lowercase (name_of_word kinds.At text))

abbrev pub brace_of : List Component → block.Block
brace_of inner = record { opening = record { kind = kinds.Open; text = codes "{"; at = 0 }; items = inner; close = 0 }

abbrev pub at_cut : Bool → List ℕ → List Component → List Component → Cut
at_cut b text cs inner = record { front = lead_of b ++ at_front text cs; mark = Some (braces inner) }

-- what is read of a rule that begins with this, whose block is this
abbrev read_with : List Component → Option (List Item) → List Component → Component → Option (List Item)
read_with front otherwise cs mark =
    cond (begins_at_rule cs) (at_rule_items (first_place cs 0) (at_rule_of cs (is_braces mark)) (inside mark) (in_block reading rules_of (Some mark))) otherwise

at-read : (b : Bool) (text : List ℕ) (cs inner : List Component) → IsSolid cs → rule_of (at_cut b text cs inner) ≡ at_rule_items 0 (with_block (keyword_at text) cs) inner (rules_of inner)
at-read b text cs inner solid =
    let front = lead_of b ++ at_front text cs in
    let mark = braces inner in
    let lead = at_front text cs in
    let whole : Bool → Option (List Item) = λ d. cond d (rules_of (inside mark)) (Some []) in
    let made : Bool → Option (List Item) = λ d. at_rule_items (first_place lead 0) (at_rule_of lead d) (inside mark) (whole d) in
    let braced : List Component → Option (List Item) = λ xs. at_rule_items (first_place lead 0) (with_block (keyword_in lead) (behind_keyword lead)) xs (rules_of xs) in
    let named : Piece → Option (List Item) = λ p. at_rule_items p.at (with_block (keyword_named (str_to_ascii_lowercase (name_of p))) (trimmed (behind_keyword_again cs))) inner (rules_of inner) in
    ap (λ ds. read_with front (style_of front (Some mark)) ds mark) (lead-trimmed b text cs solid)
    ∙ ap (λ d. cond d (made (is_braces mark)) (style_of front (Some mark))) (at-Single (piece_of (word kinds.At text)))
    ∙ ap made (braces-Block (brace_of inner))
    ∙ ap braced (inside-Block (brace_of inner))
    ∙ ap named (head-Single (piece_of (word kinds.At text)))
    ∙ ap (λ prelude. at_rule_items 0 (with_block (keyword_at text) prelude) inner (rules_of inner)) (behind-trimmed cs solid)

-- No `{}` block and no `;` stands in what is before the block.

single-stands : (p : Piece) → stands (component.Single p) ≡ is_prelude_kind p.kind
single-stands p = ap layer_stands (outs-Single p)

block-stands : (b : block.Block) → stands (component.Block b) ≡ not (is_text b.opening.text (codes "{"))
block-stands b = ap layer_stands (outs-Block b)

prelude-semicolon : (k : Kind) → is_prelude_kind k ≡ true → is_semicolon_kind k ≡ false
prelude-semicolon kinds.Semicolon h = absurd (false≢true h)
prelude-semicolon _ h = refl

stands-braces : (c : Component) → stands c ≡ true → is_braces c ≡ false
stands-braces c h = elim (shape_of c) [
  | inl s ↦ ap is_braces s.1 ∙ braces-Single s.0
  | inr b ↦ ap is_braces b.1 ∙ braces-Block b.0 ∙ not-true (is_text b.0.opening.text (codes "{")) (sym (block-stands b.0) ∙ sym (ap stands b.1) ∙ h)
]

stands-semicolon : (c : Component) → stands c ≡ true → is_semicolon c ≡ false
stands-semicolon c h = elim (shape_of c) [
  | inl s ↦ ap is_semicolon s.1 ∙ semicolon-Single s.0 ∙ prelude-semicolon s.0.kind (sym (single-stands s.0) ∙ sym (ap stands s.1) ∙ h)
  | inr b ↦ ap is_semicolon b.1 ∙ semicolon-Block b.0
]

none-stands : (test : Component → Bool) → ((c : Component) → stands c ≡ true → test c ≡ false) → (cs : List Component) → list_all stands cs ≡ true → list_any test cs ≡ false
none-stands test each [] h = refl
none-stands test each (c ∷ cs) h =
    let parts = and_parts (stands c) (list_all stands cs) h in
    ap (λ b. b || list_any test cs) (each c parts.0) ∙ none-stands test each cs parts.1

none-behind : (test : Component → Bool) → test space ≡ false → (cs : List Component) → list_any test cs ≡ false → list_any test (behind_keyword_again cs) ≡ false
none-behind test e [] none = refl
none-behind test e (c ∷ cs) none = ap (λ b. b || list_any test (c ∷ cs)) e ∙ none

pub front-braces : (text : List ℕ) (cs : List Component) → list_any is_braces cs ≡ false → list_any is_braces (at_front text cs) ≡ false
front-braces text cs none =
    ap (λ b. b || list_any is_braces (behind_keyword_again cs)) (braces-Single (piece_of (word kinds.At text)))
    ∙ none-behind is_braces (braces-Single (piece_of (word kinds.White (codes " ")))) cs none

pub front-semicolon : (text : List ℕ) (cs : List Component) → list_any is_semicolon cs ≡ false → list_any is_semicolon (at_front text cs) ≡ false
front-semicolon text cs none =
    ap (λ b. b || list_any is_semicolon (behind_keyword_again cs)) (semicolon-Single (piece_of (word kinds.At text)))
    ∙ none-behind is_semicolon (semicolon-Single (piece_of (word kinds.White (codes " ")))) cs none

-- Conditions.

-- the text of the at-keyword, and how the condition is spelled
abbrev pub condition_keyword : GroupCondition → List ℕ
condition_keyword (Media queries) = codes "@media"
condition_keyword (OfSupports condition) = codes "@supports"

abbrev pub condition_spelling : GroupCondition → List Component
condition_spelling (Media queries) = queries_spelling queries
condition_spelling (OfSupports condition) = supports_spelling condition

pub condition-front : (c : GroupCondition) → condition_again c ≡ at_front (condition_keyword c) (condition_spelling c)
condition-front (Media queries) = refl
condition-front (OfSupports condition) = refl

pub condition-formed : GroupLaws → (c : GroupCondition) → all_formed (condition_spelling c) ≡ true
condition-formed laws (Media queries) = laws.queries_formed queries
condition-formed laws (OfSupports condition) = laws.supports_formed condition

condition-solid : (c : GroupCondition) → IsPrintableCondition c → IsSolid (condition_spelling c)
condition-solid (Media queries) fine = queries-solid queries fine.readable
condition-solid (OfSupports condition) fine = supports-solid condition

condition-stands : GroupLaws → (c : GroupCondition) → list_all stands (condition_spelling c) ≡ true
condition-stands laws (Media queries) = laws.queries_stand queries
condition-stands laws (OfSupports condition) = laws.supports_stand condition

pub condition-braces : GroupLaws → (c : GroupCondition) → list_any is_braces (condition_spelling c) ≡ false
condition-braces laws c = none-stands is_braces stands-braces (condition_spelling c) (condition-stands laws c)

pub condition-semicolon : GroupLaws → (c : GroupCondition) → list_any is_semicolon (condition_spelling c) ≡ false
condition-semicolon laws c = none-stands is_semicolon stands-semicolon (condition_spelling c) (condition-stands laws c)

-- the condition that is read
abbrev read_condition : GroupCondition → GroupCondition
read_condition (Media queries) = Media queries
read_condition (OfSupports condition) = OfSupports (supports_again condition)

media-keyword : keyword_at (codes "@media") ≡ keywords.Media
media-keyword = refl

supports-keyword : keyword_at (codes "@supports") ≡ keywords.Supports
supports-keyword = refl

condition-read : GroupLaws → (c : GroupCondition) → IsPrintableCondition c → with_block (keyword_at (condition_keyword c)) (condition_spelling c) ≡ rules.Group (read_condition c)
condition-read laws (Media queries) fine =
    ap (λ k. with_block k (queries_spelling queries)) media-keyword
    ∙ ap (λ (o : Option (List Query)). grouped (option_map (λ (qs : List Query). Media qs) o)) (laws.queries queries fine.readable)
condition-read laws (OfSupports condition) fine =
    ap (λ k. with_block k (supports_spelling condition)) supports-keyword
    ∙ ap (λ (o : Option Supports). grouped (option_map (λ (s : Supports). OfSupports s) o)) (laws.supports condition fine)

-- Values that print as they were printed are the same, places aside.

pub value-twice : ValueLaws → (v : List Component) → all_formed v ≡ true → bare_value (value_again v) ≡ bare_value v
value-twice laws v formed =
    let w = value_again v in
    let formed_again = laws.formed v formed in
    let words : words_all (value_again w) ≡ words_all w = laws.words w formed_again ∙ laws.twice v formed ∙ sym (laws.words v formed) in
    same-erased laws.one (value_again w) w words (laws.formed w formed_again) formed_again

module _ (values : ValueLaws) where
  abbrev bare_again : Supports → Supports
  bare_again s = bare_supports (supports_again s)

  abbrev bare_twice : Supports → Supports
  bare_twice s = bare_supports (supports_again (supports_again s))

  abbrev IsTwice : Supports → Type 0
  IsTwice s = is_readable_supports s ≡ true → bare_twice s ≡ bare_again s

  -- what is bare of each kind, from what is bare of those in it
  module _ (wrap : List Supports → Supports) (again : (cs : List Supports) → supports_again (wrap cs) ≡ wrap (map supports_again cs)) (bare : (cs : List Supports) → bare_supports (wrap cs) ≡ wrap (map bare_supports cs)) where
    bare-one : (cs : List Supports) → bare_again (wrap cs) ≡ wrap (map bare_supports (map supports_again cs))
    bare-one cs = ap bare_supports (again cs) ∙ bare (map supports_again cs)

    bare-two : (cs : List Supports) → bare_twice (wrap cs) ≡ wrap (map bare_supports (map supports_again (map supports_again cs)))
    bare-two cs = ap (λ s. bare_supports (supports_again s)) (again cs) ∙ ap bare_supports (again (map supports_again cs)) ∙ bare (map supports_again (map supports_again cs))

    wrapped-twice : (cs : List Supports) → map bare_supports (map supports_again (map supports_again cs)) ≡ map bare_supports (map supports_again cs) → bare_twice (wrap cs) ≡ bare_again (wrap cs)
    wrapped-twice cs e = bare-two cs ∙ ap wrap e ∙ sym (bare-one cs)

  all-twice : (cs : List Supports) → Each IsTwice cs → list_all (λ b. b) (map is_readable_supports cs) ≡ true → map bare_supports (map supports_again (map supports_again cs)) ≡ map bare_supports (map supports_again cs)
  all-twice [] each h = refl
  all-twice (c ∷ cs) each h =
      let parts = and_parts (is_readable_supports c) (list_all (λ b. b) (map is_readable_supports cs)) h in
      ap (λ (s : Supports). s ∷ map bare_supports (map supports_again (map supports_again cs))) (each.0 parts.0) ∙ ap (λ (ss : List Supports). bare_again c ∷ ss) (all-twice cs each.1 parts.1)

  not-twice : (c : Supports) → IsTwice c → IsTwice (supports.Not c)
  not-twice c one h =
      ap (λ s. bare_supports (supports_again s)) (folded-Not again_steps c)
      ∙ ap bare_supports (folded-Not again_steps (supports_again c))
      ∙ folded-Not bare_steps (supports_again (supports_again c))
      ∙ ap supports.Not (one (sym (folded-Not readable c) ∙ h))
      ∙ sym (ap bare_supports (folded-Not again_steps c) ∙ folded-Not bare_steps (supports_again c))

  declared-twice : (name : List ℕ) (value : List Component) → IsTwice (supports.Declared name value)
  declared-twice name value h =
      let named = and_parts _ _ (sym (folded-Declared readable name value) ∙ h) in
      let lower = and_parts _ _ named.1 in
      let formed = (and_parts (all_formed value) _ lower.1).0 in
      ap (λ s. bare_supports (supports_again s)) (folded-Declared again_steps name value)
      ∙ ap bare_supports (folded-Declared again_steps name (value_again value))
      ∙ folded-Declared bare_steps name (value_again (value_again value))
      ∙ ap (supports.Declared name) (value-twice values value formed)
      ∙ sym (ap bare_supports (folded-Declared again_steps name value) ∙ folded-Declared bare_steps name (value_again value))

  function-twice : (at : ℕ) → IsTwice (supports.Function at)
  function-twice at h =
      let once = ap bare_supports (folded-Function again_steps at) in
      ap (λ s. bare_supports (supports_again s)) (folded-Function again_steps at) ∙ ap bare_supports (folded-Function again_steps 0) ∙ sym once

  supports-twice : (s : Supports) → IsTwice s
  supports-twice s =
      by_supports IsTwice (record {
        and_of = λ cs each h.
            let parts = and_parts (has_two (map is_readable_supports cs)) _ (sym (folded-And readable cs) ∙ h) in
            wrapped-twice supports.And (folded-And again_steps) (folded-And bare_steps) cs (all-twice cs each parts.1);
        or_of = λ cs each h.
            let parts = and_parts (has_two (map is_readable_supports cs)) _ (sym (folded-Or readable cs) ∙ h) in
            wrapped-twice supports.Or (folded-Or again_steps) (folded-Or bare_steps) cs (all-twice cs each parts.1);
        not_of = not-twice;
        declared = declared-twice;
        function = function-twice;
      }) s

  bare-read : (c : GroupCondition) → IsPrintableCondition c → bare_condition (read_condition c) ≡ bare_condition c
  bare-read (Media queries) fine = refl
  bare-read (OfSupports condition) fine = ap (λ s. OfSupports s) (supports-twice condition fine)

  -- Groups.

  -- the group that is read, places aside
  abbrev bare_group : GroupCondition → List Item → List Item
  bare_group condition items = item.Group (record { condition = condition; items = items; at = 0 }) ∷ []

  grouped-items : (condition : GroupCondition) (o : Option (List Item))
      → option_map bare_items (option_map (λ items. item.Group (record { condition = condition; items = items; at = 0 }) ∷ []) o) ≡ option_map (bare_group (bare_condition condition)) (option_map bare_items o)
  grouped-items condition None = refl
  grouped-items condition (Some items) = ap (λ (x : Item). Some (x ∷ [])) (bare_item-Group (record { condition = condition; items = items; at = 0 }))

  -- a printed group is read as that group, where what is in its block is read as what is in it
  pub group-read : GroupLaws → (b : Bool) (g : group.Group) → AreFull g.items → IsPrintableCondition g.condition
      → option_map bare_items (rules_of (line_feed ∷ items_again g.items)) ≡ Some (filled_items (bare_items g.items))
      → bare_rule_of (at_cut b (condition_keyword g.condition) (condition_spelling g.condition) (line_feed ∷ items_again g.items)) ≡ Some (bare_group (bare_condition g.condition) (filled_items (bare_items g.items)))
  group-read laws b g full fine inner =
      let c = g.condition in
      let within = line_feed ∷ items_again g.items in
      ap (option_map bare_items)
      (at-read b (condition_keyword c) (condition_spelling c) within (condition-solid c fine)
      ∙ ap (λ rule. at_rule_items 0 rule within (rules_of within)) (condition-read laws c fine))
      ∙ grouped-items (read_condition c) (rules_of within)
      ∙ ap (option_map (bare_group (bare_condition (read_condition c)))) inner
      ∙ ap (λ (d : GroupCondition). Some (bare_group d (filled_items (bare_items g.items)))) (bare-read c fine)

  -- Rules that are passed on.

  behind-none : (b : Bool) → behind_taking head_kind parting b [] ≡ []
  behind-none true = refl
  behind-none false = refl

  -- one token prints as that token
  one-again : (p : Piece) → is_gap_kind p.kind ≡ false → value_again (component.Single p ∷ []) ≡ component.Single (short_piece p) ∷ []
  one-again p e =
      let short = component.Single (short_piece p) in
      let solid : is_gap_kind (head_kind short) ≡ false = ap is_gap_kind (head_kind-Single (short_piece p)) ∙ e in
      ap (λ x. all_parted (before_gap head_kind (after_gap head_kind (x ∷ [])))) (shortened-Single p)
      ∙ ap (λ gap. all_parted (before_gap head_kind (cond gap [] (short ∷ [])))) solid
      ∙ ap (λ gap. all_parted (cond gap [] (short ∷ []))) solid
      ∙ ap (λ x. x ∷ behind_taking head_kind parting (takes_last x) []) (parted_within-Single (short_piece p))
      ∙ ap (λ cs. short ∷ cs) (behind-none (takes_last short))

  -- a test of the kind of a token, which is no gap
  record IsKindTest (test : Component → Bool) : Type 0 where
    of_kind : Kind → Bool
    single : (p : Piece) → test (component.Single p) ≡ of_kind p.kind
    around : (b : block.Block) → test (component.Block b) ≡ false
    solid : (k : Kind) → of_kind k ≡ true → is_gap_kind k ≡ false

  one-fits : (test : Component → Bool) → IsKindTest test → (v : List Component) → is_one test v ≡ true → is_one test (value_again v) ≡ true
  one-fits test kind [] h = absurd (false≢true h)
  one-fits test kind (c ∷ d ∷ cs) h = absurd (false≢true h)
  one-fits test kind (c ∷ []) h = elim (shape_of c) [
    | inl s ↦
        let is : kind.of_kind s.0.kind ≡ true = sym (kind.single s.0) ∙ sym (ap test s.1) ∙ h in
        ap (λ x. is_one test (value_again (x ∷ []))) s.1 ∙ ap (is_one test) (one-again s.0 (kind.solid s.0.kind is)) ∙ kind.single (short_piece s.0) ∙ is
    | inr b ↦ absurd (false≢true (sym (ap test b.1 ∙ kind.around b.0) ∙ h))
  ]

  ident-solid : (k : Kind) → is_ident_kind k ≡ true → is_gap_kind k ≡ false
  ident-solid kinds.Ident h = refl
  ident-solid _ h = absurd (false≢true h)

  ident_test : IsKindTest is_ident
  ident_test = record { of_kind = is_ident_kind; single = ident-Single; around = ident-Block; solid = ident-solid }

  string-Single : (p : Piece) → is_string (component.Single p) ≡ is_string_kind p.kind
  string-Single p = ap (λ v. layer_is_single v && is_string_kind (layer_head v).kind) (outs-Single p)

  string-Block : (b : block.Block) → is_string (component.Block b) ≡ false
  string-Block b = ap (λ v. layer_is_single v && is_string_kind (layer_head v).kind) (outs-Block b)

  name-solid : (k : Kind) → (is_ident_kind k || is_string_kind k) ≡ true → is_gap_kind k ≡ false
  name-solid kinds.Ident h = refl
  name-solid kinds.String h = refl
  name-solid _ h = absurd (false≢true h)

  name_test : IsKindTest (λ c. is_ident c || is_string c)
  name_test = record {
    of_kind = λ k. is_ident_kind k || is_string_kind k;
    single = λ p. ap (λ b. b || is_string (component.Single p)) (ident-Single p) ∙ ap (λ b. is_ident_kind p.kind || b) (string-Single p);
    around = λ b. ap (λ d. d || is_string (component.Block b)) (ident-Block b) ∙ string-Block b;
    solid = name-solid;
  }

  fits-printed : (kind : PassedKind) (v : List Component) → fits_prelude kind v ≡ true → fits_prelude kind (value_again v) ≡ true
  fits-printed FontFace v h = refl
  fits-printed Keyframes v h = one-fits (λ c. is_ident c || is_string c) name_test v h
  fits-printed WebkitKeyframes v h = one-fits (λ c. is_ident c || is_string c) name_test v h
  fits-printed MozKeyframes v h = one-fits (λ c. is_ident c || is_string c) name_test v h
  fits-printed Page v h = refl
  fits-printed CounterStyle v h = one-fits is_ident ident_test v h

  passed-keyword : (kind : PassedKind) → keyword_at (codes "@" ++ keyword_of kind) ≡ keywords.PassedOn kind
  passed-keyword FontFace = refl
  passed-keyword Keyframes = refl
  passed-keyword WebkitKeyframes = refl
  passed-keyword MozKeyframes = refl
  passed-keyword Page = refl
  passed-keyword CounterStyle = refl

  value-solid : (v : List Component) → IsSolid (value_again v)
  value-solid v = record { begins = at (value_again v) refl; ends = trimmed_end-value values v }
    where
      at : (cs : List Component) → value_again v ≡ cs → begins_solid cs ≡ true
      at [] e = refl
      at (c ∷ cs) e = ap not (solid_no_gap c (values.starts v cs c e))

  pub value-braces : (v : List Component) → all_formed v ≡ true → list_any is_braces v ≡ false → list_any is_braces (value_again v) ≡ false
  value-braces v formed none = any-value is_braces braces_layer values v formed ∙ none

  pub value-semicolon : (v : List Component) → all_formed v ≡ true → list_any is_semicolon v ≡ false → list_any is_semicolon (value_again v) ≡ false
  value-semicolon v formed none = any-value is_semicolon semicolon_layer values v formed ∙ none

  -- a printed rule that is passed on is read as that rule
  pub passed-read : (b : Bool) (rule : Passed) → IsPrintablePassed rule
      → bare_rule_of (at_cut b (codes "@" ++ keyword_of rule.kind) (value_again rule.prelude) (value_again rule.block)) ≡ Some (item.Passed (bared_rule rule) ∷ [])
  passed-read b rule fine =
      let prelude = value_again rule.prelude in
      let within = value_again rule.block in
      let read : Passed = record { kind = rule.kind; prelude = prelude; block = within; at = 0 } in
      let unless : Bool → Option (List Item) = λ d. cond d None (Some (item.Passed read ∷ [])) in
      let same : List Component → List Component → Item = λ p q. item.Passed (record { kind = rule.kind; prelude = p; block = q; at = 0 }) in
      ap (option_map bare_items)
      (at-read b (codes "@" ++ keyword_of rule.kind) prelude within (value-solid rule.prelude)
      ∙ ap (λ k. at_rule_items 0 (with_block k prelude) within (rules_of within)) (passed-keyword rule.kind)
      ∙ ap (λ d. at_rule_items 0 (cond d (rules.PassedOn rule.kind prelude) rules.Unread) within (rules_of within)) (fits-printed rule.kind rule.prelude fine.fits)
      ∙ ap (λ d. unless (d || has_sought RevertLayerOrUrl within)) (unsought-again values RevertLayerOrUrl rule.prelude fine.prelude.formed fine.prelude.built)
      ∙ ap unless (unsought-again values RevertLayerOrUrl rule.block fine.block.formed fine.block.built))
      ∙ ap (λ (x : Item). Some (x ∷ []))
      (bare_item-Passed read
      ∙ ap (λ p. same p (bare_value within)) (value-twice values rule.prelude fine.prelude.formed)
      ∙ ap (same (bare_value rule.prelude)) (value-twice values rule.block fine.block.formed))
