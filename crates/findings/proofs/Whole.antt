-- What cannot be written has a finding: so of selectors without findings all is kept.
use Rattle.std.specs.Prelude.{ℕ, List, [], ◌∷◌, ◌++◌, map, flat_map, Bool, true, false, not, ◌&&◌, Option, Some, None, ◌≡◌}
use Rattle.std.specs.List.{AllByRecursion, list_all}
use Rattle.std.proofs.Common.{refl, sym, subst, ◌∙◌, ap}
use Rattle.std.proofs.lemmas.List.Elements.{filter_map-append}
use Rattle.std.proofs.lemmas.List.Folds.{flat_map-map, list_all-append}
use Rattle.selector_types.specs.declared.selector.Attribute as attribute
use Rattle.selector_types.specs.declared.selector.Simple.{Simple}
use Rattle.selector_types.specs.declared.selector.Simple as simple
use Rattle.selector_types.specs.declared.selector.Simple.TheVariants.{outs-Attribute, outs-Foreign}
use Rattle.selector_types.specs.declared.selector.Compound as compound
use Rattle.selector_types.specs.declared.selector.Link as link
use Rattle.selector_types.specs.declared.selector.Part as part
use Rattle.selector_types.specs.declared.selector.Selector as selector
use Rattle.selector_types.specs.BareFold.{placed}
use Rattle.selector_types.specs.PartsFound.{parts-Not, parts-Is, parts-Where, parts-Local, parts-Global, parts-Compound, parts-Selector}
use Rattle.selector_types.specs.PartsWithin.{simple_parts, compound_parts, selector_parts, list_parts}
use Rattle.selector_types.specs.ReadableSelectors.{writable, is_writable_simple, is_writable_compound, is_writable_selector, is_writable_list}
use Rattle.selector_types.specs.SelectorFold.{made_part, made_link, simple_of, compound_of, folded-Class, folded-Id, folded-Attribute, folded-Pseudo, folded-Not, folded-Is, folded-Where, folded-Parent, folded-Local, folded-Global, folded-Compound, folded-Selector}
use Rattle.selector_types.specs.SelectorInduction.{Cases, by_lists}
use Rattle.sheet_types.specs.declared.sheet.Declaration.{Declaration}
use Rattle.sheet_types.specs.declared.sheet.Import.{Import}
use Rattle.sheet_types.specs.declared.sheet.Item.{Item}
use Rattle.sheet_types.specs.declared.sheet.Sheet.{Sheet}
use Rattle.sheet_types.specs.ItemFold.{folded-Plain, folded-Style, folded-Group, folded-Passed, folded-Other}
use Rattle.sheet_types.specs.ItemInduction as items
use Rattle.sheet_types.specs.Leaves.{Leaf, OfDeclaration, all_leaves, group_leaves, leafing, leaves, rule_leaves}
use Rattle.sheet_types.specs.declared.sheet.GroupCondition.{GroupCondition}
use Rattle.sheet_types.specs.declared.sheet.GroupCondition.TheVariants.{Media, Supports as Supported}
use Rattle.media_spelling.specs.SupportsAgain.{functionless, has_no_function}
use Rattle.media_spelling.specs.SupportsFold as supports_fold
use Rattle.media_spelling.specs.SupportsInduction as supports_induction
use Rattle.media_spelling.specs.declared.supports.Supports.{Supports}
use Rattle.css_rules.specs.Printable.{all_whole, is_whole, is_whole_condition}
use Rattle.css_places.specs.declared.finding.Code.{Code}
use Rattle.findings.specs.Constructs.{code_of, condition_findings, found-Group, found-Style, imports_findings, item_findings, items_findings, list_findings, part_finding, part_findings, sheet_findings}
use Rattle.findings.specs.SupportsFunctions.{called-And, called-Or, called-Not, called-Function, supports_findings}

-- Lists.

front-none : {X : Type 0} (xs ys : List X) → xs ++ ys ≡ [] → xs ≡ []
front-none [] ys none = refl
front-none (x ∷ xs) ys none = absurd (cc none)

back-none : {X : Type 0} (xs ys : List X) → xs ++ ys ≡ [] → ys ≡ []
back-none [] ys none = none
back-none (x ∷ xs) ys none = absurd (cc none)

pub both : (a b : Bool) → a ≡ true → b ≡ true → (a && b) ≡ true
both a b h k = ap (λ c. c && b) h ∙ k

module _ (file : ℕ) where
  -- nothing stands in these parts
  abbrev pub Bare : List part.Part → Type 0
  Bare ps = part_findings file ps ≡ []

  pub bare-front : (ps qs : List part.Part) → Bare (ps ++ qs) → Bare ps
  bare-front ps qs none = front-none (part_findings file ps) (part_findings file qs) (sym (filter_map-append (part_finding file) ps qs) ∙ none)

  pub bare-back : (ps qs : List part.Part) → Bare (ps ++ qs) → Bare qs
  bare-back ps qs none = back-none (part_findings file ps) (part_findings file qs) (sym (filter_map-append (part_finding file) ps qs) ∙ none)

  -- a part in a list in which nothing stands has no code
  pub uncoded : (x : Simple) (at : ℕ) (ps : List part.Part) → Bare (part.Placed x at ∷ ps) → code_of x ≡ None
  uncoded x at ps none = by (code_of x) refl
    where
      by : (o : Option Code) → code_of x ≡ o → o ≡ None
      by None is = refl
      by (Some code) is = absurd (cc (none, is))

  -- Selectors.

  abbrev P : Simple → Type 0
  P x = code_of x ≡ None → Bare (simple_parts x) → is_writable_simple x ≡ true

  abbrev Q : compound.Compound → Type 0
  Q k = Bare (compound_parts k) → is_writable_compound k ≡ true

  abbrev R : selector.Selector → Type 0
  R s = Bare (selector_parts s) → is_writable_selector s ≡ true

  members : (ss : List selector.Selector) → AllByRecursion R ss → Bare (list_parts ss) → list_all (λ s. s) (map is_writable_selector ss) ≡ true
  members [] each none = refl
  members (s ∷ ss) each none =
      both (is_writable_selector s) (list_all (λ s. s) (map is_writable_selector ss))
      (each.0 (bare-front (selector_parts s) (list_parts ss) none))
      (members ss each.1 (bare-back (selector_parts s) (list_parts ss) none))

  parts : (ps : List part.Part) → AllByRecursion (λ p. P (simple_of p)) ps → Bare (flat_map (λ p. p ∷ simple_parts (simple_of p)) ps) → list_all (λ p. p) (map (λ p. p.0) (map (made_part (placed writable)) ps)) ≡ true
  parts [] each none = refl
  parts (part.Placed x at ∷ ps) each none =
      let rest = flat_map (λ p. p ∷ simple_parts (simple_of p)) ps in
      let here = bare-front (part.Placed x at ∷ simple_parts x) rest none in
      both (is_writable_simple x) (list_all (λ p. p) (map (λ p. p.0) (map (made_part (placed writable)) ps)))
      (each.0 (uncoded x at (simple_parts x) here) (bare-back (part.Placed x at ∷ []) (simple_parts x) here))
      (parts ps each.1 (bare-back (part.Placed x at ∷ simple_parts x) rest none))

  links : (ls : List link.Link) → AllByRecursion (λ l. Q (compound_of l)) ls → Bare (flat_map (λ l. compound_parts (compound_of l)) ls) → list_all (λ l. l.1) (map (made_link (placed writable)) ls) ≡ true
  links [] each none = refl
  links (l ∷ ls) each none =
      let rest = flat_map (λ l. compound_parts (compound_of l)) ls in
      both (is_writable_compound (compound_of l)) (list_all (λ l. l.1) (map (made_link (placed writable)) ls))
      (each.0 (bare-front (compound_parts (compound_of l)) rest none))
      (links ls each.1 (bare-back (compound_parts (compound_of l)) rest none))

  pub unflagged : (a : attribute.Attribute) → code_of (simple.Attribute a) ≡ None → not a.flag ≡ true
  unflagged a none = by a.flag refl
    where
      by : (b : Bool) → a.flag ≡ b → not b ≡ true
      by false is = refl
      by true is = absurd (cc (none, outs-Attribute a, is))

  cases : Cases P Q R
  cases = record {
    class = λ n code none. folded-Class (placed writable) n;
    id = λ n code none. folded-Id (placed writable) n;
    attribute = λ a code none. folded-Attribute (placed writable) a ∙ unflagged a code;
    pseudo = λ n code none. folded-Pseudo (placed writable) n;
    not_of = λ ss each code none. folded-Not (placed writable) ss ∙ members ss each (subst Bare (parts-Not ss) none);
    is_of = λ ss each code none. folded-Is (placed writable) ss ∙ members ss each (subst Bare (parts-Is ss) none);
    where_of = λ ss each code none. folded-Where (placed writable) ss ∙ members ss each (subst Bare (parts-Where ss) none);
    parent = λ code none. folded-Parent (placed writable);
    local = λ k same code none. folded-Local (placed writable) k ∙ same (subst Bare (parts-Local k) none);
    global = λ k same code none. folded-Global (placed writable) k ∙ same (subst Bare (parts-Global k) none);
    foreign = λ code none. absurd (cc (code, outs-Foreign));
    compound = λ k each none. folded-Compound (placed writable) k ∙ parts k.parts each (subst Bare (parts-Compound k) none);
    selector = λ s first each none.
        folded-Selector (placed writable) s
        ∙ both (is_writable_compound s.first) (list_all (λ l. l.1) (map (made_link (placed writable)) s.rest))
        (first (bare-front (compound_parts s.first) (flat_map (λ l. compound_parts (compound_of l)) s.rest) (subst Bare (parts-Selector s) none)))
        (links s.rest each (bare-back (compound_parts s.first) (flat_map (λ l. compound_parts (compound_of l)) s.rest) (subst Bare (parts-Selector s) none)));
  }

  -- a list in which nothing stands can be written
  list-whole : (ss : List selector.Selector) → AllByRecursion R ss → Bare (list_parts ss) → is_writable_list ss ≡ true
  list-whole [] each none = refl
  list-whole (s ∷ ss) each none =
      both (is_writable_selector s) (is_writable_list ss)
      (each.0 (bare-front (selector_parts s) (list_parts ss) none))
      (list-whole ss each.1 (bare-back (selector_parts s) (list_parts ss) none))

  -- Items.

  abbrev Whole : Item → Type 0
  Whole x = item_findings file x ≡ [] → list_all is_whole (leaves x) ≡ true

  declarations-whole : (ds : List Declaration) → list_all is_whole (map OfDeclaration ds) ≡ true
  declarations-whole [] = refl
  declarations-whole (d ∷ ds) = declarations-whole ds

  rule-whole : (ss : List selector.Selector) (ls : List Leaf) → is_writable_list ss ≡ true → list_all is_whole ls ≡ true → list_all is_whole (rule_leaves ss ls) ≡ true
  rule-whole ss [] listed whole = refl
  rule-whole ss (l ∷ ls) listed whole = both (is_writable_list ss) (list_all is_whole (l ∷ ls)) listed whole

  group-whole : (condition : GroupCondition) (ls : List Leaf) → is_whole_condition condition ≡ true → list_all is_whole ls ≡ true → list_all is_whole (group_leaves condition ls) ≡ true
  group-whole condition [] asked whole = refl
  group-whole condition (l ∷ ls) asked whole = both (is_whole_condition condition) (list_all is_whole (l ∷ ls)) asked whole

  inner : (xs : List Item) → items.Each Whole xs → items_findings file xs ≡ [] → list_all is_whole (all_leaves xs) ≡ true
  inner [] each none = refl
  inner (x ∷ xs) each none =
      list_all-append is_whole (leaves x) (all_leaves xs)
      ∙ both (list_all is_whole (leaves x)) (list_all is_whole (all_leaves xs))
      (each.0 (front-none (item_findings file x) (items_findings file xs) none))
      (inner xs each.1 (back-none (item_findings file x) (items_findings file xs) none))

  -- Conditions.

  abbrev Functionless : Supports → Type 0
  Functionless c = supports_findings file c ≡ [] → has_no_function c ≡ true

  conditions : (cs : List Supports) → supports_induction.Each Functionless cs → flat_map (supports_findings file) cs ≡ [] → list_all (λ (b : Bool). b) (map has_no_function cs) ≡ true
  conditions [] each none = refl
  conditions (c ∷ cs) each none =
      both (has_no_function c) (list_all (λ (b : Bool). b) (map has_no_function cs))
      (each.0 (front-none (supports_findings file c) (flat_map (supports_findings file) cs) none))
      (conditions cs each.1 (back-none (supports_findings file c) (flat_map (supports_findings file) cs) none))

  condition_cases : supports_induction.Cases Functionless
  condition_cases = record {
    and_of = λ cs each none. supports_fold.folded-And functionless cs ∙ conditions cs each (sym (called-And file cs) ∙ none);
    or_of = λ cs each none. supports_fold.folded-Or functionless cs ∙ conditions cs each (sym (called-Or file cs) ∙ none);
    not_of = λ c same none. supports_fold.folded-Not functionless c ∙ same (sym (called-Not file c) ∙ none);
    declared = λ name value none. supports_fold.folded-Declared functionless name value;
    function = λ at none. absurd (cc (none, called-Function file at));
  }

  condition-whole : (at : ℕ) (condition : GroupCondition) → condition_findings file at condition ≡ [] → is_whole_condition condition ≡ true
  condition-whole at (Media queries) none = refl
  condition-whole at (Supported condition) none = supports_induction.by_supports Functionless condition_cases condition none

  item_cases : items.Cases Whole
  item_cases = record {
    plain = λ ds none. ap (list_all is_whole) (folded-Plain leafing ds) ∙ declarations-whole ds;
    style = λ s each none.
        let found = sym (found-Style file s) ∙ none in
        let listed = list-whole s.selectors (by_lists P Q R cases s.selectors) (front-none (list_findings file s.selectors) (items_findings file s.items) found) in
        ap (list_all is_whole) (folded-Style leafing s ∙ ap (rule_leaves s.selectors) (flat_map-map (λ (ls : List Leaf). ls) leaves s.items))
        ∙ rule-whole s.selectors (all_leaves s.items) listed (inner s.items each (back-none (list_findings file s.selectors) (items_findings file s.items) found));
    group = λ g each none.
        let found = sym (found-Group file g) ∙ none in
        let asked = condition-whole g.at g.condition (front-none (condition_findings file g.at g.condition) (items_findings file g.items) found) in
        ap (list_all is_whole) (folded-Group leafing g ∙ ap (group_leaves g.condition) (flat_map-map (λ (ls : List Leaf). ls) leaves g.items))
        ∙ group-whole g.condition (all_leaves g.items) asked (inner g.items each (back-none (condition_findings file g.at g.condition) (items_findings file g.items) found));
    passed = λ rule none. ap (list_all is_whole) (folded-Passed leafing rule);
    other = λ at none. ap (list_all is_whole) (folded-Other leafing at);
  }

  each_item : (xs : List Item) → items.Each Whole xs
  each_item [] = tt
  each_item (x ∷ xs) = (items.by_items Whole item_cases x, each_item xs)

pub sheet-whole : (file : ℕ) (sheet : Sheet) → sheet_findings file sheet ≡ [] → all_whole sheet ≡ true
sheet-whole file sheet none = inner file sheet.items (each_item file sheet.items) (back-none (imports_findings file sheet.imports) (items_findings file sheet.items) none)

-- each import has a finding
pub sheet-importless : (file : ℕ) (sheet : Sheet) → sheet_findings file sheet ≡ [] → sheet.imports ≡ []
sheet-importless file sheet none = at sheet.imports (front-none (imports_findings file sheet.imports) (items_findings file sheet.items) none)
  where
    at : (imports : List Import) → imports_findings file imports ≡ [] → imports ≡ []
    at [] e = refl
    at (i ∷ imports) e = absurd (cc e)
