-- The text of printed items is in UTF-8, has no control character, and begins with no byte order mark.
use Rattle.std.proofs.Common.{◌≡◌, ◌<◌, ℕ, zero, suc, arith, get_or, List, [], ◌∷◌, ◌++◌, map, Bool, true, false, not, ◌||◌, cond, refl, sym, ap, ◌∙◌, append_assoc, codes, length, take, Option, Some, None, nat_eq}
use Rattle.std.specs.Prelude.{IsTrue}
use Rattle.std.specs.List.{list_all, list_any, position, AllByRecursion}
use Rattle.std.proofs.lemmas.Bool.{false≢true}
use Rattle.std.proofs.lemmas.List.Quantifiers.{position-Some}
use Rattle.std.proofs.lemmas.Str.{utf8_valid_len-IsUtf8}
use Rattle.css_tokens.specs.declared.component.Component.{Component}
use Rattle.css_tokens.specs.NameText.{name_text}
use Rattle.css_tokens.specs.Piece.{Word, spelled}
use Rattle.css_tokens.specs.Tokens.{bad_place, is_control, mark_length, or_else}
use Rattle.css_tokens.specs.Trees.{words_all}
use Rattle.css_tokens.specs.Values.{is_gap, is_white, short_word, single_gaps, after_gap, word_kind, shortened_words, printed_words, value_text, value_words}
use Rattle.sheet_types.specs.declared.sheet.Declaration.{Declaration}
use Rattle.selector_types.specs.declared.selector.Selector.{Selector}
use Rattle.selector_types.specs.Spelling.{list_text}
use Rattle.sheet_types.specs.declared.sheet.Item.{Item}
use Rattle.sheet_types.specs.declared.sheet.GroupCondition.{GroupCondition}
use Rattle.sheet_types.specs.declared.sheet.GroupCondition.TheVariants.{Media, Supports}
use Rattle.sheet_types.specs.declared.sheet.Passed.{Passed}
use Rattle.sheet_types.specs.declared.sheet.PassedKind.{PassedKind}
use Rattle.sheet_types.specs.declared.sheet.PassedKind.TheVariants.{FontFace, Keyframes, WebkitKeyframes, MozKeyframes, Page, CounterStyle}
use Rattle.sheet_types.specs.PassedRules.{keyword_of}
use Rattle.sheet_types.specs.Standing.{AllStand, ConditionStands}
use Rattle.css_rules.specs.Printable.{IsPrintableCondition, IsPrintableDeclaration, IsPrintableLeaf, IsPrintablePassed, ArePrintable}
use Rattle.selector_types.specs.ReadableSelectors.{is_clean, is_named, is_readable_list, is_spelled}
use Rattle.sheet_types.specs.SheetTexts.{behind_keyword, braced_text, condition_text, passed_text, declaration_text, declarations_text, importance_text, items_text, more_declarations, printed_item, printed_value}
use Rattle.css_rules.proofs.CleanNames.{clean-append, clean-parts, name-clean, plain-clean}
use Rattle.css_rules.proofs.DeclarationLemmas.{or_false_left, or_false_right}
use Rattle.sheet_types.proofs.ItemShapes.{TopCases, by_tops, text-full, text-passed, text-run}
use Rattle.css_rules.proofs.ReadyItems.{IsReady, by_ready, each-printable}
use Rattle.css_rules.proofs.BoolLemmas.{and-left, and-right}
use Rattle.css_rules.proofs.SoughtAgain.{any-after_gap, any-before_gap, any-parted, any-single_gaps}

-- A clean text has no bad place.

any-get : (test : ℕ → Bool) (t : List ℕ) (i : ℕ) → i < length t → list_any test t ≡ false → test (get_or t i 0) ≡ false
any-get test [] i l e = absurd (omega (arith, l))
any-get test (x ∷ t) zero l e = or_false_left (test x) (list_any test t) e
any-get test (x ∷ t) (suc i) l e = any-get test t i (omega (arith, l)) (or_false_right (test x) (list_any test t) e)

no-position : (test : ℕ → Bool) (t : List ℕ) → list_any test t ≡ false → position test t ≡ None
no-position test t e = at (position test t) refl
  where
    at : (o : Option ℕ) → position test t ≡ o → o ≡ None
    at None is = refl
    at (Some i) is = let found = position-Some test t i 0 is in absurd (false≢true (sym (any-get test t i found.0 e) ∙ found.1))

take-all : (t : List ℕ) → take (length t) t ≡ t
take-all [] = refl
take-all (x ∷ t) = ap (λ r. x ∷ r) (take-all t)

same-length : (n : ℕ) → nat_eq n n ≡ true
same-length n = grind (arith)

pub clean-bad : (t : List ℕ) → is_clean t ≡ true → bad_place t ≡ None
clean-bad t h =
    let p = clean-parts t h in
    let n = utf8_valid_len-IsUtf8 t p.0 in
    ap (λ m. or_else (position is_control (take m t)) (cond (nat_eq m (length t)) None (Some m))) n
    ∙ ap (λ u. or_else (position is_control u) (cond (nat_eq (length t) (length t)) None (Some (length t)))) (take-all t)
    ∙ ap (λ o. or_else o (cond (nat_eq (length t) (length t)) None (Some (length t)))) (no-position is_control t p.1)
    ∙ ap (λ b. cond b None (Some (length t))) (same-length (length t))

-- Values.

abbrev is_soiled : Word → Bool
is_soiled w = not (is_clean w.text)

not-both : (b : Bool) → b ≡ true → not b ≡ false
not-both b e = ap not e

clean-not : (b : Bool) → not b ≡ false → b ≡ true
clean-not true e = refl
clean-not false e = sym e

none-soiled : (ws : List Word) → list_all is_spelled ws ≡ true → list_any is_soiled ws ≡ false
none-soiled [] h = refl
none-soiled (w ∷ ws) h =
    ap (λ b. b || list_any is_soiled ws) (not-both (is_clean w.text) (and-left (is_clean w.text) (is_named w.kind w.text) (and-left (is_spelled w) (list_all is_spelled ws) h)))
    ∙ none-soiled ws (and-right (is_spelled w) (list_all is_spelled ws) h)

short-clean : (w : Word) → is_soiled w ≡ false → is_soiled (short_word w) ≡ false
short-clean w h = at (is_white w.kind) (is_gap w.kind)
  where
    at : (white gap : Bool) → not (is_clean (cond white (codes " ") (cond gap (codes "/**/") w.text))) ≡ false
    at true gap = not-both (is_clean (codes " ")) (plain-clean (codes " ") refl)
    at false true = not-both (is_clean (codes "/**/")) (plain-clean (codes "/**/") refl)
    at false false = h

short-soiled : (ws : List Word) → list_any is_soiled ws ≡ false → list_any is_soiled (map short_word ws) ≡ false
short-soiled [] h = refl
short-soiled (w ∷ ws) h =
    ap (λ b. b || list_any is_soiled (map short_word ws)) (short-clean w (or_false_left (is_soiled w) (list_any is_soiled ws) h))
    ∙ short-soiled ws (or_false_right (is_soiled w) (list_any is_soiled ws) h)

printed-soiled : (ws : List Word) → list_any is_soiled ws ≡ false → list_any is_soiled (printed_words ws) ≡ false
printed-soiled ws h =
    let short = map short_word ws in
    let spaced = single_gaps word_kind short in
    any-parted is_soiled (shortened_words ws) (not-both (is_clean (codes "/**/")) (plain-clean (codes "/**/") refl))
    (any-before_gap is_soiled (after_gap word_kind spaced) (any-after_gap is_soiled spaced (any-single_gaps is_soiled short (short-soiled ws h))))

spelled-clean : (ws : List Word) → list_any is_soiled ws ≡ false → is_clean (spelled ws) ≡ true
spelled-clean [] h = plain-clean [] refl
spelled-clean (w ∷ ws) h =
    clean-append w.text (spelled ws) (clean-not (is_clean w.text) (or_false_left (is_soiled w) (list_any is_soiled ws) h)) (spelled-clean ws (or_false_right (is_soiled w) (list_any is_soiled ws) h))

words-clean : (v : List Component) → list_all is_spelled (words_all v) ≡ true → is_clean (value_text v) ≡ true
words-clean v h = spelled-clean (value_words v) (printed-soiled (words_all v) (none-soiled (words_all v) h))

value-clean : (v : List Component) → list_all is_spelled (words_all v) ≡ true → is_clean (printed_value v) ≡ true
value-clean [] h = plain-clean (codes " ") refl
value-clean (c ∷ cs) h = words-clean (c ∷ cs) h

-- Declarations.

importance-clean : (b : Bool) → is_clean (importance_text b) ≡ true
importance-clean true = plain-clean (codes "!important") refl
importance-clean false = plain-clean [] refl

declaration-clean : (d : Declaration) → IsPrintableDeclaration d → is_clean (declaration_text d) ≡ true
declaration-clean d p =
    let value = printed_value d.value ++ importance_text d.important in
    clean-append (name_text d.name) (codes ":" ++ value) (name-clean d.name p.name)
    (clean-append (codes ":") value (plain-clean (codes ":") refl)
    (clean-append (printed_value d.value) (importance_text d.important) (value-clean d.value p.spelled) (importance-clean d.important)))

more-clean : (ds : List Declaration) → AllByRecursion IsPrintableDeclaration ds → is_clean (more_declarations ds) ≡ true
more-clean [] p = plain-clean [] refl
more-clean (d ∷ ds) p =
    clean-append (codes ";" ++ declaration_text d) (more_declarations ds)
    (clean-append (codes ";") (declaration_text d) (plain-clean (codes ";") refl) (declaration-clean d p.0))
    (more-clean ds p.1)

declarations-clean : (ds : List Declaration) → AllByRecursion IsPrintableDeclaration ds → is_clean (declarations_text ds) ≡ true
declarations-clean [] p = plain-clean [] refl
declarations-clean (d ∷ ds) p = clean-append (declaration_text d) (more_declarations ds) (declaration-clean d p.0) (more-clean ds p.1)

-- At-keywords, and what stands behind them.

keyword-clean : (kind : PassedKind) → is_clean (keyword_of kind) ≡ true
keyword-clean FontFace = plain-clean (codes "font-face") refl
keyword-clean Keyframes = plain-clean (codes "keyframes") refl
keyword-clean WebkitKeyframes = plain-clean (codes "-webkit-keyframes") refl
keyword-clean MozKeyframes = plain-clean (codes "-moz-keyframes") refl
keyword-clean Page = plain-clean (codes "page") refl
keyword-clean CounterStyle = plain-clean (codes "counter-style") refl

pub behind-clean : (text : List ℕ) → is_clean text ≡ true → is_clean (behind_keyword text) ≡ true
behind-clean [] h = h
behind-clean (c ∷ text) h = clean-append (codes " ") (c ∷ text) (plain-clean (codes " ") refl) h

-- what is ensured of the texts of selector lists and conditions
pub record ListTexts : Type 0 where
  pub clean : (ss : List Selector) → IsTrue (is_readable_list false ss) → IsTrue (is_clean (list_text ss))
  pub unmarked : (ss : List Selector) (rest : List ℕ) → IsTrue (is_readable_list false ss) → mark_length (list_text ss ++ rest) ≡ 0
  pub conditions : (c : GroupCondition) → IsPrintableCondition c → ConditionStands c → IsTrue (is_clean (condition_text c))

-- Items.

module _ (texts : ListTexts) where
  braced-clean : (list : List Selector) (ds : List Declaration) → is_readable_list false list ≡ true → AllByRecursion IsPrintableDeclaration ds → is_clean (braced_text list (declarations_text ds)) ≡ true
  braced-clean list ds h p =
      let inside = declarations_text ds in
      let behind = codes "{" ++ (inside ++ (codes "}" ++ 10 ∷ [])) in
      clean-append (list_text list) behind (texts.clean list h)
      (clean-append (codes "{") (inside ++ (codes "}" ++ 10 ∷ [])) (plain-clean (codes "{") refl)
      (clean-append inside (codes "}" ++ 10 ∷ []) (declarations-clean ds p) (plain-clean (codes "}" ++ 10 ∷ []) refl)))

  abbrev IsClean : Item → Type 0
  IsClean x = is_clean (printed_item x).among ≡ true

  all-clean : (xs : List Item) → AllByRecursion IsClean xs → is_clean (items_text xs) ≡ true
  all-clean [] each = plain-clean [] refl
  all-clean (x ∷ xs) each = clean-append (printed_item x).among (items_text xs) each.0 (all-clean xs each.1)

  -- a block, with a line feed behind it
  block-clean : (inside : List ℕ) → is_clean inside ≡ true → is_clean (codes "{" ++ (inside ++ (codes "}" ++ 10 ∷ []))) ≡ true
  block-clean inside h =
      clean-append (codes "{") (inside ++ (codes "}" ++ 10 ∷ [])) (plain-clean (codes "{") refl) (clean-append inside (codes "}" ++ 10 ∷ []) h (plain-clean (codes "}" ++ 10 ∷ []) refl))

  passed-clean : (rule : Passed) → IsPrintablePassed rule → is_clean (passed_text rule) ≡ true
  passed-clean rule fine =
      let behind = behind_keyword (value_text rule.prelude) in
      let inside = value_text rule.block in
      let tail = codes "{" ++ (inside ++ (codes "}" ++ 10 ∷ [])) in
      clean-append (codes "@") (keyword_of rule.kind ++ (behind ++ tail)) (plain-clean (codes "@") refl)
      (clean-append (keyword_of rule.kind) (behind ++ tail) (keyword-clean rule.kind)
      (clean-append behind tail (behind-clean (value_text rule.prelude) (words-clean rule.prelude fine.prelude.spelled)) (block-clean inside (words-clean rule.block fine.block.spelled))))

  clean-cases : TopCases IsReady IsClean
  clean-cases = record {
    hollow = λ x none. ap is_clean none.text ∙ plain-clean [] refl;
    rule = λ s run fine each. ap is_clean (text-run s run) ∙ braced-clean s.selectors (run.first ∷ run.more) fine.0.readable (each-printable (run.first ∷ run.more) each);
    group = λ g full fine each.
        let inside = 10 ∷ items_text g.items in
        ap is_clean (text-full g full)
        ∙ clean-append (condition_text g.condition) (codes "{" ++ (inside ++ (codes "}" ++ 10 ∷ []))) (texts.conditions g.condition fine.0 fine.1)
        (block-clean inside (clean-append (10 ∷ []) (items_text g.items) (plain-clean (10 ∷ []) refl) (all-clean g.items each)));
    passed = λ rule fine. ap is_clean (text-passed rule) ∙ passed-clean rule fine.0;
  }

  pub items-clean : (xs : List Item) → ArePrintable xs → AllStand xs → is_clean (items_text xs) ≡ true
  items-clean xs p stands = all-clean xs (by_ready IsClean clean-cases xs p stands)

  -- no byte order mark stands at the start where none stands at the start of what follows
  abbrev IsUnmarked : Item → Type 0
  IsUnmarked x = (rest : List ℕ) → mark_length rest ≡ 0 → mark_length ((printed_item x).among ++ rest) ≡ 0

  condition-unmarked : (c : GroupCondition) (behind rest : List ℕ) → mark_length ((condition_text c ++ behind) ++ rest) ≡ 0
  condition-unmarked (Media queries) behind rest = refl
  condition-unmarked (Supports condition) behind rest = refl

  unmarked-cases : TopCases IsPrintableLeaf IsUnmarked
  unmarked-cases = record {
    hollow = λ x none rest h. ap (λ t. mark_length (t ++ rest)) none.text ∙ h;
    rule = λ s run fine each rest h.
        let list = s.selectors in
        let behind = codes "{" ++ (declarations_text (run.first ∷ run.more) ++ (codes "}" ++ 10 ∷ [])) in
        ap (λ t. mark_length (t ++ rest)) (text-run s run)
        ∙ ap mark_length (append_assoc (list_text list) behind rest)
        ∙ texts.unmarked list (behind ++ rest) fine.readable;
    group = λ g full fine each rest h.
        ap (λ t. mark_length (t ++ rest)) (text-full g full) ∙ condition-unmarked g.condition (codes "{" ++ (10 ∷ items_text g.items ++ (codes "}" ++ 10 ∷ []))) rest;
    passed = λ rule fine rest h. ap (λ t. mark_length (t ++ rest)) (text-passed rule);
  }

  all-unmarked : (xs : List Item) → AllByRecursion IsUnmarked xs → mark_length (items_text xs) ≡ 0
  all-unmarked [] each = refl
  all-unmarked (x ∷ xs) each = each.0 (items_text xs) (all-unmarked xs each.1)

  pub items-unmarked : (xs : List Item) → ArePrintable xs → mark_length (items_text xs) ≡ 0
  items-unmarked xs p = all-unmarked xs (by_tops IsPrintableLeaf IsUnmarked unmarked-cases xs p.tops p.fine)
