-- Printed items are read as those items.
use Rattle.std.proofs.Common.{◌≡◌, ℕ, List, [], ◌∷◌, ◌++◌, map, Bool, true, false, ◌&&◌, ◌||◌, not, Option, Some, None, option_map, refl, sym, ◌∙◌, ap, cond, IsTrue, codes, inl, inr}
use Rattle.std.specs.List.{list_all, list_any, AllByRecursion}
use Rattle.std.proofs.lemmas.List.{append_assoc}
use Rattle.std.proofs.lemmas.List.Folds.{flat_map-map}
use Rattle.css_tokens.specs.declared.kind.Kind.TheVariants as kinds
use Rattle.css_tokens.specs.declared.component.Component.{Component}
use Rattle.css_tokens.specs.Trees.{all_formed, words_all}
use Rattle.selector_types.specs.Preludes.{is_prelude_word}
use Rattle.sheet_types.specs.declared.sheet.Declaration.{Declaration}
use Rattle.sheet_types.specs.declared.sheet.Item.{Item}
use Rattle.sheet_types.specs.declared.sheet.Item as item
use Rattle.sheet_types.specs.declared.sheet.Group as group
use Rattle.sheet_types.specs.declared.sheet.Passed.{Passed}
use Rattle.sheet_types.specs.PassedRules.{keyword_of}
use Rattle.css_tokens.specs.ValueAgain.{value_again}
use Rattle.selector_types.specs.Erased.{erased}
use Rattle.selector_types.specs.Spelling.{list_spelling}
use Rattle.selector_tree.specs.Signs.{list_in, mark_of}
use Rattle.sheet_types.specs.BareItems.{bared, bare_item, bare_items, bare_sheet, filled_item, filled_items, importless}
use Rattle.css_components.specs.Components.{head, inside, is_braces, is_semicolon, is_at_keyword, is_gap}
use Rattle.css_components.specs.Trimming.{trimmed, trimmed_start, trimmed_end}
use Rattle.css_rules.specs.Cuts.{Cut, cuts}
use Rattle.selector_types.specs.declared.selector.Selector.{Selector}
use Rattle.selector_types.specs.ReadableSelectors.{is_readable_list}
use Rattle.css_rules.specs.ReadAll.{joined, read_all}
use Rattle.css_rules.specs.Places.{first_place}
use Rattle.css_rules.specs.Sheets.{declarations_of, leftover, rules_of, sheet_of, style_with}
use Rattle.css_rules.specs.RuleEnds.{begins_at_rule, ends_rule}
use Rattle.sheet_types.specs.Runs.{run_of}
use Rattle.css_rules.specs.Printable.{ArePrintable, IsPrintableCondition, IsPrintableDeclaration, IsPrintableLeaf, IsPrintableList, IsPrintablePassed}
use Rattle.sheet_types.specs.SheetAgain.{line_feed, braces, declarations_again, item_again, items_again}
use Rattle.css_rules.proofs.AtRulesAgain.{GroupLaws, at_front, brace_of, condition_keyword, condition_spelling, condition-braces, condition-front, condition-semicolon, front-braces, front-semicolon, group-read, passed-read, plain-rule_of, value-braces, value-semicolon}
use Rattle.css_rules.proofs.HeadsAgain.{filled-no_other, headless}
use Rattle.css_rules.proofs.BareLemmas.{bare-rule, bare-rules_of, bare-sheet_of, bare_rule_of}
use Rattle.css_rules.proofs.CutLemmas.{front-cut, goes_on, trimmed_start-gap, whole-cut}
use Rattle.css_rules.proofs.CutAgain.{any-append, any-trimmed_end}
use Rattle.css_rules.proofs.DeclarationLemmas.{or_false_left, or_false_right}
use Rattle.css_rules.proofs.Heads.{piece_of, word, inside-Block, at-Single, braces-Single, braces-Block, gap-Single, semicolon-Single}
use Rattle.css_rules.proofs.ItemLists.{IsCutOff, IsPart, parts-of}
use Rattle.sheet_types.proofs.ItemShapes.{AreFull, TopCases, again-full, again-passed, again-run, bare-full, bare-passed, bare-run, by_tops}
use Rattle.css_rules.proofs.ValueFacts.{ValueLaws}
use Rattle.css_rules.proofs.DeclarationAgain.{read_again}
use Rattle.css_rules.proofs.SheetRound.{NameLaws, declarations-again, bareds-again}
use Rattle.css_rules.proofs.PreludeAgain.{lead_of, prelude-again}
use Rattle.css_rules.proofs.PreludeTests.{no-at, no-braces, no-semicolon}

-- what is ensured of printed selectors
pub record SelectorLaws : Type 0 where
  pub formed : (ss : List Selector) → IsTrue (all_formed (list_spelling ss))
  pub plain : (ss : List Selector) → IsTrue (list_all is_prelude_word (words_all (list_spelling ss)))
  pub same : (ss : List Selector) → IsTrue (is_readable_list false ss) → option_map (map erased) (list_in (map mark_of (list_spelling ss))) ≡ Some (map erased ss)

lead_braces : (b : Bool) → list_any is_braces (lead_of b) ≡ false
lead_braces true = ap (λ b. b || false) (braces-Single (piece_of (word kinds.White (10 ∷ []))))
lead_braces false = refl

lead_semicolon : (b : Bool) → list_any is_semicolon (lead_of b) ≡ false
lead_semicolon true = ap (λ b. b || false) (semicolon-Single (piece_of (word kinds.White (10 ∷ []))))
lead_semicolon false = refl

-- what has neither a `{}` block nor a `;` goes on
goes-rule : (before cs : List Component) → list_any is_braces cs ≡ false → list_any is_semicolon cs ≡ false → goes_on ends_rule before cs ≡ true
goes-rule before [] b s = refl
goes-rule before (c ∷ cs) b s =
    ap (λ e. not (e || (is_semicolon c && begins_at_rule (trimmed_start before))) && goes_on ends_rule (before ++ c ∷ []) cs) (or_false_left (is_braces c) (list_any is_braces cs) b)
    ∙ ap (λ e. not (e && begins_at_rule (trimmed_start before)) && goes_on ends_rule (before ++ c ∷ []) cs) (or_false_left (is_semicolon c) (list_any is_semicolon cs) s)
    ∙ goes-rule (before ++ c ∷ []) cs (or_false_right (is_braces c) (list_any is_braces cs) b) (or_false_right (is_semicolon c) (list_any is_semicolon cs) s)

-- a front without `{}` blocks and `;`, and a `{}` block, are cut off
rule-off : (front : List Component) (mark : Component) → list_any is_braces front ≡ false → list_any is_semicolon front ≡ false → is_braces mark ≡ true → IsCutOff (cuts ends_rule) front mark
rule-off front mark braceless undivided marked b rest =
    let before = lead_of b ++ front in
    ap (cuts ends_rule) (sym (append_assoc (lead_of b) front (mark ∷ rest)))
    ∙ front-cut ends_rule [] before mark rest
    (goes-rule [] before (any-append is_braces (lead_of b) front (lead_braces b) braceless) (any-append is_semicolon (lead_of b) front (lead_semicolon b) undivided))
    (ap (λ e. e || (is_semicolon mark && begins_at_rule (trimmed_start before))) marked)

any-trimmed_start : (test : Component → Bool) (cs : List Component) → list_any test cs ≡ false → list_any test (trimmed_start cs) ≡ false
any-trimmed_start test [] none = refl
any-trimmed_start test (c ∷ cs) none = at (is_gap c) (any-trimmed_start test cs (or_false_right (test c) (list_any test cs) none))
  where
    at : (b : Bool) → list_any test (trimmed_start cs) ≡ false → list_any test (cond b (trimmed_start cs) (c ∷ cs)) ≡ false
    at true rest = rest
    at false rest = none

no_rule : (cs : List Component) → list_any is_at_keyword cs ≡ false → begins_at_rule cs ≡ false
no_rule [] none = refl
no_rule (c ∷ cs) none = or_false_left (is_at_keyword c) (list_any is_at_keyword cs) none

lead_at : (b : Bool) → list_any is_at_keyword (lead_of b) ≡ false
lead_at true = ap (λ b. b || false) (at-Single (piece_of (word kinds.White (10 ∷ []))))
lead_at false = refl

-- no printed rule is an at-rule
plain_rule : SelectorLaws → (b : Bool) (list : List Selector) → begins_at_rule (trimmed (lead_of b ++ list_spelling list)) ≡ false
plain_rule laws b list =
    let front = lead_of b ++ list_spelling list in
    no_rule (trimmed front)
    (any-trimmed_end is_at_keyword (trimmed_start front) (any-trimmed_start is_at_keyword front (any-append is_at_keyword (lead_of b) (list_spelling list) (lead_at b) (no-at (list_spelling list) (laws.formed list) (laws.plain list)))))

trimmed-lead : (b : Bool) → trimmed (lead_of b) ≡ []
trimmed-lead true = ap trimmed_end (trimmed_start-gap line_feed [] (gap-Single (piece_of (word kinds.White (10 ∷ [])))))
trimmed-lead false = refl

-- a rule of this list, places aside
abbrev bare_rule : List Declaration → List Selector → List Item
bare_rule ds list = item.Style (record { selectors = list; items = run_of (map bared ds); at = 0 }) ∷ []

module _ (values : ValueLaws) (names : NameLaws) (selectors : SelectorLaws) (groups : GroupLaws) where
  -- what is read from a printed rule, where its selectors are read
  styles-again : (o : Option (List Selector)) (ds : List Declaration) (at : ℕ) → AllByRecursion IsPrintableDeclaration ds
      → option_map bare_items (style_with at o (Some (map read_again ds))) ≡ option_map (bare_rule ds) (option_map (map erased) o)
  styles-again None ds at printable = refl
  styles-again (Some list) ds at printable =
      ap (λ (x : Item). Some (x ∷ [])) (bare-rule list (map read_again ds) at)
      ∙ ap (λ (es : List Declaration). Some (item.Style (record { selectors = map erased list; items = run_of es; at = 0 }) ∷ [])) (bareds-again values ds printable)

  -- a printed rule is read as that rule
  rule-again : (b : Bool) (list : List Selector) (d : Declaration) (ds : List Declaration) → IsPrintableList list → AllByRecursion IsPrintableDeclaration (d ∷ ds)
      → bare_rule_of (record { front = lead_of b ++ list_spelling list; mark = Some (braces (declarations_again (d ∷ ds))) }) ≡ Some (bare_rule (d ∷ ds) (map erased list))
  rule-again b list d ds fine printable =
      let front = lead_of b ++ list_spelling list in
      let inner = declarations_again (d ∷ ds) in
      let brace = braces inner in
      let at = first_place (trimmed front) (head brace).at in
      let read : Option (List Selector) = list_in (map mark_of (list_spelling list)) in
      let cut : Cut = record { front = front; mark = Some brace } in
      ap (option_map bare_items) (plain-rule_of cut (plain_rule selectors b list))
      ∙ ap (λ o. option_map bare_items (style_with at o (declarations_of (inside brace)))) (prelude-again b (list_spelling list) fine.built)
      ∙ ap (λ o. option_map bare_items (style_with at read o)) (ap declarations_of (inside-Block (brace_of inner)) ∙ declarations-again values names d ds printable)
      ∙ styles-again read (d ∷ ds) at printable
      ∙ ap (option_map (bare_rule (d ∷ ds))) (selectors.same list fine.readable)

  -- behind the last rule there is nothing
  ends : (b : Bool) → read_all bare_rule_of (cuts ends_rule (lead_of b)) ≡ Some []
  ends b =
      ap (read_all bare_rule_of) (whole-cut ends_rule [] (lead_of b) (goes-rule [] (lead_of b) (lead_braces b) (lead_semicolon b)))
      ∙ ap (λ o. joined (option_map bare_items o) (Some [])) (plain-rule_of (record { front = lead_of b; mark = None }) (ap begins_at_rule (trimmed-lead b)) ∙ ap leftover (trimmed-lead b))

  abbrev IsAgain : Item → Type 0
  IsAgain x = IsPart (cuts ends_rule) bare_rule_of (item_again x) (filled_item (bare_item x))

  -- of items one after another is read what is read of each
  parts-read : (b : Bool) (xs : List Item) → AllByRecursion IsAgain xs → option_map bare_items (rules_of (lead_of b ++ items_again xs)) ≡ Some (filled_items (bare_items xs))
  parts-read b xs each =
      bare-rules_of (lead_of b ++ items_again xs)
      ∙ parts-of (cuts ends_rule) bare_rule_of item_again (λ x. filled_item (bare_item x)) ends b xs each
      ∙ ap Some (sym (flat_map-map filled_item bare_item xs))

  group-again : (g : group.Group) → AreFull g.items → IsPrintableCondition g.condition → AllByRecursion IsAgain g.items → IsAgain (item.Group g)
  group-again g full fine each =
      let text = condition_keyword g.condition in
      let cs = condition_spelling g.condition in
      let within = line_feed ∷ items_again g.items in
      let front = at_front text cs in
      inr (record {
        front = front;
        mark = braces within;
        is = again-full g full ∙ ap (λ ds. ds ++ braces within ∷ line_feed ∷ []) (condition-front g.condition);
        off = rule-off front (braces within) (front-braces text cs (condition-braces groups g.condition)) (front-semicolon text cs (condition-semicolon groups g.condition)) (braces-Block (brace_of within));
        same = λ b. group-read values groups b g full fine (parts-read true g.items each) ∙ sym (ap Some (bare-full g full));
      })

  passed-again : (rule : Passed) → IsPrintablePassed rule → IsAgain (item.Passed rule)
  passed-again rule fine =
      let text = codes "@" ++ keyword_of rule.kind in
      let prelude = value_again rule.prelude in
      let within = value_again rule.block in
      let front = at_front text prelude in
      inr (record {
        front = front;
        mark = braces within;
        is = again-passed rule;
        off = rule-off front (braces within) (front-braces text prelude (value-braces values rule.prelude fine.prelude.formed fine.whole)) (front-semicolon text prelude (value-semicolon values rule.prelude fine.prelude.formed fine.undivided)) (braces-Block (brace_of within));
        same = λ b. passed-read values b rule fine ∙ sym (ap Some (bare-passed rule));
      })

  again-cases : TopCases IsPrintableLeaf IsAgain
  again-cases = record {
    hollow = λ x none. inl (none.again, none.bare);
    rule = λ s run fine each.
        let list = s.selectors in
        let ds = run.first ∷ run.more in
        let formed = selectors.formed list in
        let plain = selectors.plain list in
        inr (record {
          front = list_spelling list;
          mark = braces (declarations_again ds);
          is = again-run s run;
          off = rule-off (list_spelling list) (braces (declarations_again ds)) (no-braces (list_spelling list) formed plain) (no-semicolon (list_spelling list) formed plain) (braces-Block (brace_of (declarations_again ds)));
          same = λ b. rule-again b list run.first run.more fine each ∙ sym (ap Some (bare-run s run));
        });
    group = group-again;
    passed = passed-again;
  }

  -- printed items are read as a sheet of those items, with no import
  pub items-read : (xs : List Item) → ArePrintable xs → option_map bare_sheet (sheet_of (items_again xs)) ≡ Some (importless (filled_items (bare_items xs)))
  items-read xs p =
      bare-sheet_of (items_again xs)
      ∙ headless (cuts ends_rule (items_again xs)) (filled_items (bare_items xs)) (sym (bare-rules_of (items_again xs)) ∙ parts-read false xs (by_tops IsPrintableLeaf IsAgain again-cases xs p.tops p.fine)) (filled-no_other (bare_items xs))
