-- The texts of items, and whether anything of them is printed.
use Rattle.std.proofs.Common.{◌≡◌, ℕ, ◌<◌, List, [], ◌∷◌, ◌++◌, Bool, true, false, ◌||◌, not, map, length, arith, codes, refl, ap, sym, ◌∙◌}
use Rattle.std.specs.Prelude.{flat_map, IsTrue, ◌↔◌}
use Rattle.std.proofs.lemmas.List.Folds.{flat_map-map}
use Rattle.css_tokens.specs.NameText.{name_text}
use Rattle.sheet_types.specs.declared.sheet.Declaration.{Declaration}
use Rattle.sheet_types.specs.ItemInduction.{by_items}
use Rattle.sheet_types.specs.declared.sheet.Group.{Group}
use Rattle.sheet_types.specs.declared.sheet.GroupCondition.{GroupCondition}
use Rattle.sheet_types.specs.declared.sheet.GroupCondition.TheVariants.{Media, Supports}
use Rattle.sheet_types.specs.declared.sheet.Item.{Item, Plain, Group as the_group, Other, Passed as the_passed, Style as the_style}
use Rattle.sheet_types.specs.declared.sheet.Passed.{Passed}
use Rattle.sheet_types.specs.declared.sheet.Style.{Style}
use Rattle.selector_types.specs.declared.selector.Selector.{Selector}
use Rattle.selector_types.specs.Spelling.{list_text}
use Rattle.sheet_types.specs.SheetTexts.{ItemText, block_text, braced_text, declaration_text, declarations_text, ended_declarations, group_text, items_text, more_declarations, passed_text, printed_item, printed_item-Group, printed_item-Other, printed_item-Passed, printed_item-Plain, printed_item-Style, rule_text}
use Rattle.css_print.specs.Private.Printed.{braced_group, holds_bytes}

-- the text of an item that is alone in its block, and its text among others
abbrev pub text_alone : Item → List ℕ
text_alone item = (printed_item item).alone

abbrev pub text_among : Item → List ℕ
text_among item = (printed_item item).among

held-front : (a b : List ℕ) → holds_bytes a ≡ true → holds_bytes (a ++ b) ≡ true
held-front [] b e = absurd (cc e)
held-front (c ∷ a) b e = refl

held-behind : (a b : List ℕ) → holds_bytes b ≡ true → holds_bytes (a ++ b) ≡ true
held-behind [] b e = e
held-behind (c ∷ a) b e = refl

held-append : (a b : List ℕ) → holds_bytes (a ++ b) ≡ (holds_bytes a || holds_bytes b)
held-append [] b = refl
held-append (c ∷ a) b = refl

-- a declaration has a colon
held-declaration : (d : Declaration) → holds_bytes (declaration_text d) ≡ true
held-declaration d = held-behind (name_text d.name) _ refl

-- a rule is printed where its block is
held-rule : (list : List Selector) (text : List ℕ) → holds_bytes (rule_text list text) ≡ holds_bytes text
held-rule list [] = refl
held-rule list (c ∷ cs) = held-behind (list_text list) _ refl

pub rule-some : (list : List Selector) (text : List ℕ) → holds_bytes text ≡ true → rule_text list text ≡ braced_text list text
rule-some list [] e = absurd (cc e)
rule-some list (c ∷ cs) e = refl

pub rule-none : (list : List Selector) (text : List ℕ) → holds_bytes text ≡ false → rule_text list text ≡ []
rule-none list [] e = refl
rule-none list (c ∷ cs) e = absurd (cc e)

-- declarations are printed where there are any
pub held-plain : (ds : List Declaration) (b : Bool) → (IsTrue b ↔ (ds ≡ [])) → not b ≡ holds_bytes (text_among (Plain ds))
held-plain ds b e = at ds b e ∙ sym (ap (λ (t : ItemText). holds_bytes t.among) (printed_item-Plain ds))
  where
    at : (ds : List Declaration) (b : Bool) → (IsTrue b ↔ (ds ≡ [])) → not b ≡ holds_bytes (ended_declarations ds)
    at [] b e = ap not (e.1 refl)
    at (d ∷ ds) true e = absurd (cc (e.0 refl))
    at (d ∷ ds) false e = sym (held-front (declaration_text d ++ codes ";") (ended_declarations ds) (held-front (declaration_text d) (codes ";") (held-declaration d)))

-- an item that is alone is printed where it is among others
held-alone : (item : Item) → holds_bytes (text_alone item) ≡ holds_bytes (text_among item)
held-alone item =
    by_items (λ x. holds_bytes (text_alone x) ≡ holds_bytes (text_among x)) (record {
      plain = λ ds. ap (λ (t : ItemText). holds_bytes t.alone) (printed_item-Plain ds) ∙ run ds ∙ sym (ap (λ (t : ItemText). holds_bytes t.among) (printed_item-Plain ds));
      style = λ s each. ap (λ (t : ItemText). holds_bytes t.alone) (printed_item-Style s) ∙ sym (ap (λ (t : ItemText). holds_bytes t.among) (printed_item-Style s));
      group = λ g each. ap (λ (t : ItemText). holds_bytes t.alone) (printed_item-Group g) ∙ sym (ap (λ (t : ItemText). holds_bytes t.among) (printed_item-Group g));
      passed = λ rule. ap (λ (t : ItemText). holds_bytes t.alone) (printed_item-Passed rule) ∙ sym (ap (λ (t : ItemText). holds_bytes t.among) (printed_item-Passed rule));
      other = λ at. ap (λ (t : ItemText). holds_bytes t.alone) (printed_item-Other at) ∙ sym (ap (λ (t : ItemText). holds_bytes t.among) (printed_item-Other at));
    }) item
  where
    run : (ds : List Declaration) → holds_bytes (declarations_text ds) ≡ holds_bytes (ended_declarations ds)
    run [] = refl
    run (d ∷ ds) =
        held-front (declaration_text d) (more_declarations ds) (held-declaration d)
        ∙ sym (held-front (declaration_text d ++ codes ";") (ended_declarations ds) (held-front (declaration_text d) (codes ";") (held-declaration d)))

or_false : (b : Bool) → (b || false) ≡ b
or_false true = refl
or_false false = refl

-- a block is printed where any of its items is
pub held-block : (items : List Item) → holds_bytes (block_text (map printed_item items)) ≡ holds_bytes (flat_map text_among items)
held-block [] = refl
held-block (item ∷ []) = held-alone item ∙ sym (held-append (text_among item) [] ∙ or_false (holds_bytes (text_among item)))
held-block (first ∷ second ∷ items) = ap holds_bytes (flat_map-map (λ (t : ItemText). t.among) printed_item (first ∷ second ∷ items))

-- the text of a style rule
pub text-style : (s : Style) → text_among (the_style s) ≡ rule_text s.selectors (block_text (map printed_item s.items))
text-style s = ap (λ (t : ItemText). t.among) (printed_item-Style s)

pub held-style : (s : Style) → holds_bytes (text_among (the_style s)) ≡ holds_bytes (flat_map text_among s.items)
held-style s = ap holds_bytes (text-style s) ∙ held-rule s.selectors _ ∙ held-block s.items

-- more items than one stand one after another
pub text-block : (items : List Item) → 1 < length items → block_text (map printed_item items) ≡ flat_map text_among items
text-block [] many = absurd (omega (arith, many))
text-block (item ∷ []) many = absurd (omega (arith, many))
text-block (first ∷ second ∷ items) many = flat_map-map (λ (t : ItemText). t.among) printed_item (first ∷ second ∷ items)

-- Groups, rules that are passed on and other at-rules.

pub group-some : (condition : GroupCondition) (text : List ℕ) → holds_bytes text ≡ true → group_text condition text ≡ braced_group condition text
group-some condition [] e = absurd (cc e)
group-some condition (c ∷ cs) e = refl

pub group-none : (condition : GroupCondition) (text : List ℕ) → holds_bytes text ≡ false → group_text condition text ≡ []
group-none condition [] e = refl
group-none condition (c ∷ cs) e = absurd (cc e)

-- a group is printed where its block is
held-lines : (condition : GroupCondition) (text : List ℕ) → holds_bytes (group_text condition text) ≡ holds_bytes text
held-lines condition [] = refl
held-lines (Media list) (c ∷ cs) = refl
held-lines (Supports condition) (c ∷ cs) = refl

pub text-group : (g : Group) → text_among (the_group g) ≡ group_text g.condition (items_text g.items)
text-group g = ap (λ (t : ItemText). t.among) (printed_item-Group g)

pub alone-group : (g : Group) → text_alone (the_group g) ≡ text_among (the_group g)
alone-group g = ap (λ (t : ItemText). t.alone) (printed_item-Group g) ∙ sym (text-group g)

pub held-group : (g : Group) → holds_bytes (text_among (the_group g)) ≡ holds_bytes (items_text g.items)
held-group g = ap holds_bytes (text-group g) ∙ held-lines g.condition (items_text g.items)

pub text-passed : (rule : Passed) → text_among (the_passed rule) ≡ passed_text rule
text-passed rule = ap (λ (t : ItemText). t.among) (printed_item-Passed rule)

pub alone-passed : (rule : Passed) → text_alone (the_passed rule) ≡ passed_text rule
alone-passed rule = ap (λ (t : ItemText). t.alone) (printed_item-Passed rule)

pub text-other : (at : ℕ) → text_among (Other at) ≡ []
text-other at = ap (λ (t : ItemText). t.among) (printed_item-Other at)

pub alone-other : (at : ℕ) → text_alone (Other at) ≡ []
alone-other at = ap (λ (t : ItemText). t.alone) (printed_item-Other at)
