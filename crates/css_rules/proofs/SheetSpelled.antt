-- The components of printed items spell their text, and are well formed.
use Rattle.std.proofs.Common.{◌≡◌, ℕ, List, [], ◌∷◌, ◌++◌, map, Bool, true, false, ◌&&◌, not, refl, sym, ◌∙◌, ap, IsTrue, codes, inl, inr, ◌⊎◌}
use Rattle.std.specs.List.{AllByRecursion}
use Rattle.std.proofs.lemmas.List.{append_assoc, map-append}
use Rattle.std.proofs.lemmas.Grind.{flat_map-append}
use Rattle.std.proofs.lemmas.List.Folds.{list_all-append}
use Rattle.css_tokens.specs.declared.kind.Kind.TheVariants as kinds
use Rattle.css_tokens.specs.declared.component.Component.{Component}
use Rattle.css_tokens.specs.Piece.{Piece, Word, word_of, spelled}
use Rattle.css_tokens.specs.NameText.{name_text}
use Rattle.css_tokens.specs.Trees.{pieces_all, pieces_of, words_all, all_formed, is_formed, is_formed-Single, is_formed-Block, pieces_of-Block, closing}
use Rattle.css_tokens.specs.ValueAgain.{value_again}
use Rattle.sheet_types.specs.declared.sheet.Declaration.{Declaration}
use Rattle.selector_types.specs.declared.selector.Selector.{Selector}
use Rattle.selector_types.specs.Spelling.{colon, list_spelling, list_text}
use Rattle.sheet_types.specs.declared.sheet.Item.{Item}
use Rattle.css_components.specs.Components.{is_gap}
use Rattle.css_rules.specs.Printable.{IsPrintableCondition, IsPrintableDeclaration, IsPrintableLeaf, IsPrintablePassed, ArePrintable, begins_solid}
use Rattle.media_spelling.specs.SupportsValues.{ValueStands}
use Rattle.css_tokens.specs.Values.{value_text}
use Rattle.sheet_types.specs.declared.sheet.GroupCondition.{GroupCondition}
use Rattle.sheet_types.specs.declared.sheet.GroupCondition.TheVariants.{Media, Supports}
use Rattle.sheet_types.specs.declared.sheet.Passed.{Passed}
use Rattle.sheet_types.specs.PassedRules.{keyword_of}
use Rattle.sheet_types.specs.Standing.{AllStand, ConditionStands}
use Rattle.sheet_types.specs.SheetTexts.{printed_value, importance_text, declaration_text, more_declarations, declarations_text, braced_text, behind_keyword, condition_text, passed_text, printed_item, items_text}
use Rattle.sheet_types.specs.SheetAgain.{line_feed, value_or_space, importance_again, declaration_again, more_again, declarations_again, behind_keyword_again, braces, condition_again, item_again, items_again, passed_again}
use Rattle.css_rules.proofs.Heads.{piece_of, single_of, word}
use Rattle.sheet_types.proofs.ItemShapes.{IsSome, TopCases, again-full, again-passed, again-run, by_tops, text-full, text-passed, text-run}
use Rattle.css_rules.proofs.AtRulesAgain.{GroupLaws, at_front, brace_of, condition-formed, condition-front, condition_keyword, condition_spelling}
use Rattle.css_rules.proofs.ReadyItems.{IsReady, by_ready, each-printable}
use Rattle.css_rules.proofs.PreludeAgain.{words-cons}
use Rattle.css_rules.proofs.ValueFacts.{ValueLaws, printed-some}

-- the text that components spell
abbrev pub text_of : List Component → List ℕ
text_of cs = spelled (words_all cs)

pub words-append : (xs ys : List Component) → words_all (xs ++ ys) ≡ words_all xs ++ words_all ys
words-append xs ys = ap (map word_of) (flat_map-append pieces_of xs ys) ∙ map-append word_of (pieces_all xs) (pieces_all ys)

pub text-append : (xs ys : List Component) → text_of (xs ++ ys) ≡ text_of xs ++ text_of ys
text-append xs ys = ap spelled (words-append xs ys) ∙ flat_map-append (λ (w : Word). w.text) (words_all xs) (words_all ys)

pub text-cons : (w : Word) (cs : List Component) → text_of (single_of w ∷ cs) ≡ w.text ++ text_of cs
text-cons w cs = ap spelled (words-cons w cs)

-- the words of a block in its place
pub words-braces : (inside cs : List Component) → words_all (braces inside ∷ cs) ≡ word kinds.Open (codes "{") ∷ (words_all inside ++ word kinds.Close (codes "}") ∷ words_all cs)
words-braces inside cs =
    let close = closing (record { kind = kinds.Open; text = codes "{"; at = 0 }) 0 in
    ap (λ (ps : List Piece). map word_of (ps ++ pieces_all cs)) (pieces_of-Block (brace_of inside))
    ∙ ap (λ (ps : List Piece). word kinds.Open (codes "{") ∷ map word_of ps) (append_assoc (pieces_all inside) (close ∷ []) (pieces_all cs))
    ∙ ap (λ (ws : List Word). word kinds.Open (codes "{") ∷ ws) (map-append word_of (pieces_all inside) (close ∷ pieces_all cs))

pub text-braces : (inside cs : List Component) → text_of (braces inside ∷ cs) ≡ codes "{" ++ (text_of inside ++ (codes "}" ++ text_of cs))
text-braces inside cs =
    ap spelled (words-braces inside cs)
    ∙ ap (λ t. codes "{" ++ t) (flat_map-append (λ (w : Word). w.text) (words_all inside) (word kinds.Close (codes "}") ∷ words_all cs))

not_true : (b : Bool) → not b ≡ true → b ≡ false
not_true true e = sym e
not_true false e = refl

-- a value prints as its text, an empty one as a space
pub text-value : ValueLaws → (v : List Component) → all_formed v ≡ true → begins_solid v ≡ true → text_of (value_or_space (value_again v)) ≡ printed_value v
text-value laws [] formed begun = text-cons (word kinds.White (codes " ")) []
text-value laws (c ∷ cs) formed begun =
    let some = printed-some laws c cs formed (not_true (is_gap c) begun) in
    ap (λ v. text_of (value_or_space v)) some.1.1
    ∙ ap text_of (sym some.1.1)
    ∙ ap spelled (laws.words (c ∷ cs) formed)

pub text-importance : (b : Bool) → text_of (importance_again b) ≡ importance_text b
text-importance true = text-cons (word kinds.Delim (codes "!")) (single_of (word kinds.Ident (codes "important")) ∷ []) ∙ ap (λ t. codes "!" ++ t) (text-cons (word kinds.Ident (codes "important")) [])
text-importance false = refl

pub text-declaration : ValueLaws → (d : Declaration) → IsPrintableDeclaration d → text_of (declaration_again d) ≡ declaration_text d
text-declaration laws d p =
    let value = value_or_space (value_again d.value) in
    text-cons (word kinds.Ident (name_text d.name)) (colon ∷ value ++ importance_again d.important)
    ∙ ap (λ t. name_text d.name ++ t) (text-cons (word kinds.Colon (codes ":")) (value ++ importance_again d.important))
    ∙ ap (λ t. name_text d.name ++ (codes ":" ++ t)) (text-append value (importance_again d.important))
    ∙ ap (λ t. name_text d.name ++ (codes ":" ++ (t ++ text_of (importance_again d.important)))) (text-value laws d.value p.formed p.begun)
    ∙ ap (λ t. name_text d.name ++ (codes ":" ++ (printed_value d.value ++ t))) (text-importance d.important)

text-more : ValueLaws → (ds : List Declaration) → AllByRecursion IsPrintableDeclaration ds → text_of (more_again ds) ≡ more_declarations ds
text-more laws [] p = refl
text-more laws (d ∷ ds) p =
    text-cons (word kinds.Semicolon (codes ";")) (declaration_again d ++ more_again ds)
    ∙ ap (λ t. codes ";" ++ t) (text-append (declaration_again d) (more_again ds) ∙ ap (λ t. t ++ text_of (more_again ds)) (text-declaration laws d p.0) ∙ ap (λ t. declaration_text d ++ t) (text-more laws ds p.1))

pub text-declarations : ValueLaws → (ds : List Declaration) → AllByRecursion IsPrintableDeclaration ds → text_of (declarations_again ds) ≡ declarations_text ds
text-declarations laws [] p = refl
text-declarations laws (d ∷ ds) p =
    text-append (declaration_again d) (more_again ds)
    ∙ ap (λ t. t ++ text_of (more_again ds)) (text-declaration laws d p.0)
    ∙ ap (λ t. declaration_text d ++ t) (text-more laws ds p.1)

-- Items.

abbrev IsSpelled : Item → Type 0
IsSpelled x = text_of (item_again x) ≡ (printed_item x).among

rule-spelled : ValueLaws → (list : List Selector) (ds : List Declaration) → AllByRecursion IsPrintableDeclaration ds
    → text_of (list_spelling list ++ braces (declarations_again ds) ∷ line_feed ∷ []) ≡ braced_text list (declarations_text ds)
rule-spelled laws list ds p =
    text-append (list_spelling list) (braces (declarations_again ds) ∷ line_feed ∷ [])
    ∙ ap (λ t. list_text list ++ t)
    (text-braces (declarations_again ds) (line_feed ∷ [])
    ∙ ap (λ t. codes "{" ++ (t ++ (codes "}" ++ text_of (line_feed ∷ [])))) (text-declarations laws ds p)
    ∙ ap (λ t. codes "{" ++ (declarations_text ds ++ (codes "}" ++ t))) (text-cons (word kinds.White (10 ∷ [])) []))

-- What stands behind an at-keyword.

-- there is nothing, or it has a text
abbrev pub HasText : List Component → Type 0
HasText cs = (cs ≡ []) ⊎ IsSome (text_of cs)

-- what is ensured of conditions, and of preludes and blocks of rules that are passed on: they have a text where there is anything
pub record BehindTexts : Type 0 where
  pub condition : (c : GroupCondition) → IsPrintableCondition c → ConditionStands c → HasText (condition_spelling c)
  pub value : (v : List Component) → all_formed v ≡ true → ValueStands v → HasText (value_again v)

text-behind : (cs : List Component) → HasText cs → text_of (behind_keyword_again cs) ≡ behind_keyword (text_of cs)
text-behind [] has = refl
text-behind (c ∷ cs) (inl none) = absurd (cc none)
text-behind (c ∷ cs) (inr some) = text-cons (word kinds.White (codes " ")) (c ∷ cs) ∙ at (text_of (c ∷ cs)) some
  where
    at : (text : List ℕ) → IsSome text → codes " " ++ text ≡ behind_keyword text
    at [] some = absurd some
    at (x ∷ text) some = refl

text-front : (text : List ℕ) (cs : List Component) → HasText cs → text_of (at_front text cs) ≡ text ++ behind_keyword (text_of cs)
text-front text cs has = text-cons (word kinds.At text) (behind_keyword_again cs) ∙ ap (λ t. text ++ t) (text-behind cs has)

condition-text : (c : GroupCondition) → condition_keyword c ++ behind_keyword (text_of (condition_spelling c)) ≡ condition_text c
condition-text (Media queries) = refl
condition-text (Supports condition) = refl

text-feed : text_of (line_feed ∷ []) ≡ 10 ∷ []
text-feed = text-cons (word kinds.White (10 ∷ [])) []

group-spelled : BehindTexts → (c : GroupCondition) (items : List Item) → IsPrintableCondition c → ConditionStands c → text_of (items_again items) ≡ items_text items
    → text_of (condition_again c ++ braces (line_feed ∷ items_again items) ∷ line_feed ∷ []) ≡ condition_text c ++ (codes "{" ++ (10 ∷ items_text items ++ (codes "}" ++ 10 ∷ [])))
group-spelled texts c items fine stands inner =
    let within = line_feed ∷ items_again items in
    let tail = braces within ∷ line_feed ∷ [] in
    let front = ap text_of (condition-front c) ∙ text-front (condition_keyword c) (condition_spelling c) (texts.condition c fine stands) ∙ condition-text c in
    text-append (condition_again c) tail
    ∙ ap (λ t. t ++ text_of tail) front
    ∙ ap (λ t. condition_text c ++ t)
    (text-braces within (line_feed ∷ [])
    ∙ ap (λ t. codes "{" ++ (t ++ (codes "}" ++ text_of (line_feed ∷ [])))) (text-cons (word kinds.White (10 ∷ [])) (items_again items) ∙ ap (λ t. 10 ∷ t) inner)
    ∙ ap (λ t. codes "{" ++ (10 ∷ items_text items ++ (codes "}" ++ t))) text-feed)

passed-spelled : ValueLaws → BehindTexts → (rule : Passed) → IsPrintablePassed rule → ValueStands rule.prelude → text_of (passed_again rule) ≡ passed_text rule
passed-spelled laws texts rule fine stands =
    let text = codes "@" ++ keyword_of rule.kind in
    let prelude = value_again rule.prelude in
    let within = value_again rule.block in
    let tail = braces within ∷ line_feed ∷ [] in
    let behind : List ℕ = behind_keyword (value_text rule.prelude) in
    let front = text-front text prelude (texts.value rule.prelude fine.prelude.formed stands) ∙ ap (λ ws. text ++ behind_keyword (spelled ws)) (laws.words rule.prelude fine.prelude.formed) in
    text-append (at_front text prelude) tail
    ∙ ap (λ t. t ++ text_of tail) front
    ∙ append_assoc text behind (text_of tail)
    ∙ ap (λ t. text ++ (behind ++ t))
    (text-braces within (line_feed ∷ [])
    ∙ ap (λ ws. codes "{" ++ (spelled ws ++ (codes "}" ++ text_of (line_feed ∷ [])))) (laws.words rule.block fine.block.formed)
    ∙ ap (λ t. codes "{" ++ (value_text rule.block ++ (codes "}" ++ t))) text-feed)

all-spelled : (xs : List Item) → AllByRecursion IsSpelled xs → text_of (items_again xs) ≡ items_text xs
all-spelled [] each = refl
all-spelled (x ∷ xs) each =
    text-append (item_again x) (items_again xs)
    ∙ ap (λ t. t ++ text_of (items_again xs)) each.0
    ∙ ap (λ t. (printed_item x).among ++ t) (all-spelled xs each.1)

spelled-cases : ValueLaws → BehindTexts → TopCases IsReady IsSpelled
spelled-cases laws texts = record {
  hollow = λ x none. ap text_of none.again ∙ sym none.text;
  rule = λ s run fine each. ap text_of (again-run s run) ∙ rule-spelled laws s.selectors (run.first ∷ run.more) (each-printable (run.first ∷ run.more) each) ∙ sym (text-run s run);
  group = λ g full fine each. ap text_of (again-full g full) ∙ group-spelled texts g.condition g.items fine.0 fine.1 (all-spelled g.items each) ∙ sym (text-full g full);
  passed = λ rule fine. ap text_of (again-passed rule) ∙ passed-spelled laws texts rule fine.0 fine.1.0 ∙ sym (text-passed rule);
}

-- the components of printed items spell their text
pub items-spelled : ValueLaws → BehindTexts → (xs : List Item) → ArePrintable xs → AllStand xs → text_of (items_again xs) ≡ items_text xs
items-spelled laws texts xs p stands = all-spelled xs (by_ready IsSpelled (spelled-cases laws texts) xs p stands)

-- Well formed.

formed-append : (xs ys : List Component) → all_formed xs ≡ true → all_formed ys ≡ true → all_formed (xs ++ ys) ≡ true
formed-append xs ys f g = list_all-append is_formed xs ys ∙ ap (λ b. b && all_formed ys) f ∙ g

formed-one : (w : Word) (cs : List Component) → is_formed (single_of w) ≡ true → all_formed cs ≡ true → all_formed (single_of w ∷ cs) ≡ true
formed-one w cs e f = ap (λ b. b && all_formed cs) e ∙ f

formed-value : ValueLaws → (v : List Component) → all_formed v ≡ true → all_formed (value_or_space (value_again v)) ≡ true
formed-value laws v formed = at (value_again v) (laws.formed v formed)
  where
    at : (va : List Component) → all_formed va ≡ true → all_formed (value_or_space va) ≡ true
    at [] e = formed-one (word kinds.White (codes " ")) [] (is_formed-Single (piece_of (word kinds.White (codes " ")))) refl
    at (c ∷ cs) e = e

formed-importance : (b : Bool) → all_formed (importance_again b) ≡ true
formed-importance true =
    formed-one (word kinds.Delim (codes "!")) (single_of (word kinds.Ident (codes "important")) ∷ []) (is_formed-Single (piece_of (word kinds.Delim (codes "!"))))
    (formed-one (word kinds.Ident (codes "important")) [] (is_formed-Single (piece_of (word kinds.Ident (codes "important")))) refl)
formed-importance false = refl

formed-declaration : ValueLaws → (d : Declaration) → IsPrintableDeclaration d → all_formed (declaration_again d) ≡ true
formed-declaration laws d p =
    let rest = value_or_space (value_again d.value) ++ importance_again d.important in
    formed-one (word kinds.Ident (name_text d.name)) (colon ∷ rest) (is_formed-Single (piece_of (word kinds.Ident (name_text d.name))))
    (formed-one (word kinds.Colon (codes ":")) rest (is_formed-Single (piece_of (word kinds.Colon (codes ":"))))
    (formed-append (value_or_space (value_again d.value)) (importance_again d.important) (formed-value laws d.value p.formed) (formed-importance d.important)))

formed-more : ValueLaws → (ds : List Declaration) → AllByRecursion IsPrintableDeclaration ds → all_formed (more_again ds) ≡ true
formed-more laws [] p = refl
formed-more laws (d ∷ ds) p =
    formed-one (word kinds.Semicolon (codes ";")) (declaration_again d ++ more_again ds) (is_formed-Single (piece_of (word kinds.Semicolon (codes ";"))))
    (formed-append (declaration_again d) (more_again ds) (formed-declaration laws d p.0) (formed-more laws ds p.1))

formed-declarations : ValueLaws → (ds : List Declaration) → AllByRecursion IsPrintableDeclaration ds → all_formed (declarations_again ds) ≡ true
formed-declarations laws [] p = refl
formed-declarations laws (d ∷ ds) p = formed-append (declaration_again d) (more_again ds) (formed-declaration laws d p.0) (formed-more laws ds p.1)

-- what is ensured of printed selectors
abbrev pub ListFormed : Type 0
ListFormed = (ss : List Selector) → IsTrue (all_formed (list_spelling ss))

abbrev IsFormed : Item → Type 0
IsFormed x = all_formed (item_again x) ≡ true

-- a block, with a line feed behind it
formed-block : (inside : List Component) → all_formed inside ≡ true → all_formed (braces inside ∷ line_feed ∷ []) ≡ true
formed-block inside formed =
    ap (λ b. b && all_formed (line_feed ∷ [])) (is_formed-Block (brace_of inside) ∙ formed)
    ∙ formed-one (word kinds.White (10 ∷ [])) [] (is_formed-Single (piece_of (word kinds.White (10 ∷ [])))) refl

formed-front : (text : List ℕ) (cs : List Component) → all_formed cs ≡ true → all_formed (at_front text cs) ≡ true
formed-front text cs formed = formed-one (word kinds.At text) (behind_keyword_again cs) (is_formed-Single (piece_of (word kinds.At text))) (at cs formed)
  where
    at : (cs : List Component) → all_formed cs ≡ true → all_formed (behind_keyword_again cs) ≡ true
    at [] formed = refl
    at (c ∷ cs) formed = formed-one (word kinds.White (codes " ")) (c ∷ cs) (is_formed-Single (piece_of (word kinds.White (codes " ")))) formed

all-formed : (xs : List Item) → AllByRecursion IsFormed xs → all_formed (items_again xs) ≡ true
all-formed [] each = refl
all-formed (x ∷ xs) each = formed-append (item_again x) (items_again xs) each.0 (all-formed xs each.1)

formed-cases : ValueLaws → ListFormed → GroupLaws → TopCases IsPrintableLeaf IsFormed
formed-cases laws lists groups = record {
  hollow = λ x none. ap all_formed none.again;
  rule = λ s run fine each.
      let inside = declarations_again (run.first ∷ run.more) in
      ap all_formed (again-run s run) ∙ formed-append (list_spelling s.selectors) (braces inside ∷ line_feed ∷ []) (lists s.selectors) (formed-block inside (formed-declarations laws (run.first ∷ run.more) each));
  group = λ g full fine each.
      let inside = line_feed ∷ items_again g.items in
      let front = ap all_formed (condition-front g.condition) ∙ formed-front (condition_keyword g.condition) (condition_spelling g.condition) (condition-formed groups g.condition) in
      ap all_formed (again-full g full)
      ∙ formed-append (condition_again g.condition) (braces inside ∷ line_feed ∷ []) front
      (formed-block inside (formed-one (word kinds.White (10 ∷ [])) (items_again g.items) (is_formed-Single (piece_of (word kinds.White (10 ∷ [])))) (all-formed g.items each)));
  passed = λ rule fine.
      let prelude = value_again rule.prelude in
      let inside = value_again rule.block in
      let text = codes "@" ++ keyword_of rule.kind in
      ap all_formed (again-passed rule)
      ∙ formed-append (at_front text prelude) (braces inside ∷ line_feed ∷ []) (formed-front text prelude (laws.formed rule.prelude fine.prelude.formed)) (formed-block inside (laws.formed rule.block fine.block.formed));
}

-- they are well formed
pub items-formed : ValueLaws → ListFormed → GroupLaws → (xs : List Item) → ArePrintable xs → all_formed (items_again xs) ≡ true
items-formed laws lists groups xs p = all-formed xs (by_tops IsPrintableLeaf IsFormed (formed-cases laws lists groups) xs p.tops p.fine)
