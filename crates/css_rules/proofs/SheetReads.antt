-- The text of printed items reads as the words of their components.
use Rattle.std.proofs.Common.{◌≡◌, ℕ, List, [], ◌∷◌, ◌++◌, Bool, true, false, not, map, ◌&&◌, refl, sym, ◌∙◌, ap, subst, IsTrue, codes, length, drop, inl, inr}
use Rattle.std.specs.List.{AllByRecursion}
use Rattle.std.proofs.lemmas.Bool.{false≢true}
use Rattle.std.proofs.lemmas.List.{append_assoc, append-nil}
use Rattle.css_tokens.specs.declared.kind.Kind.{Kind}
use Rattle.css_tokens.specs.declared.kind.Kind.TheVariants as kinds
use Rattle.css_tokens.specs.declared.component.Component.{Component}
use Rattle.css_tokens.specs.Kinds.{is_kind}
use Rattle.css_tokens.specs.Piece.{Piece, Word, spelled, word_of}
use Rattle.css_tokens.specs.NameText.{name_text}
use Rattle.css_tokens.specs.Names.{is_name}
use Rattle.css_tokens.specs.PlainNames.{is_plain_name}
use Rattle.css_tokens.specs.Characters.{white}
use Rattle.css_tokens.specs.Again.{StaysFirst, is_stop, marks, more_name, takes, word_from, begins_none, after_ident}
use Rattle.css_tokens.specs.Tokens.{First, ReadsTo, Reads, classes_of, is_refused, after_mark, bad_place, spells}
use Rattle.css_tokens.specs.Trees.{words_all, all_formed, closing, pieces_all, pieces_of-Block, pieces_of-Single}
use Rattle.css_tokens.specs.Values.{is_gap as is_gap_kind, is_white, value_text, value_words}
use Rattle.css_tokens.specs.ValueAgain.{head_kind, head_kind-Block, head_kind-Single, value_again}
use Rattle.media_spelling.specs.Spelling.{queries_spelling, queries_text, supports_spelling, supports_text}
use Rattle.media_spelling.specs.SupportsValues.{DeclaredValuesStand, ValueStands}
use Rattle.media_spelling.specs.declared.condition.Query.{Query}
use Rattle.media_spelling.specs.declared.supports.Supports.{Supports}
use Rattle.media_tree.specs.ReadableQueries.{are_readable_queries}
use Rattle.media_tree.specs.ReadValues.{ValuesStand}
use Rattle.media_tree.specs.SupportsAgain.{is_readable_supports}
use Rattle.sheet_types.specs.declared.sheet.GroupCondition.{GroupCondition}
use Rattle.sheet_types.specs.declared.sheet.GroupCondition.TheVariants.{Media, Supports as OfSupports}
use Rattle.sheet_types.specs.declared.sheet.Passed.{Passed}
use Rattle.sheet_types.specs.declared.sheet.PassedKind.{PassedKind}
use Rattle.sheet_types.specs.declared.sheet.PassedKind.TheVariants.{FontFace, Keyframes, WebkitKeyframes, MozKeyframes, Page, CounterStyle}
use Rattle.sheet_types.specs.PassedRules.{keyword_of}
use Rattle.sheet_types.specs.declared.sheet.Declaration.{Declaration}
use Rattle.selector_types.specs.declared.selector.Selector.{Selector}
use Rattle.selector_types.specs.Spelling.{colon, list_spelling, list_text}
use Rattle.selector_types.specs.ReadableSelectors.{is_readable_list}
use Rattle.css_components.specs.Components.{is_gap}
use Rattle.sheet_types.specs.declared.sheet.Item.{Item}
use Rattle.css_rules.specs.Printable.{IsPrintableCondition, IsPrintableDeclaration, IsPrintablePassed, ArePrintable, begins_solid}
use Rattle.sheet_types.specs.Standing.{AllStand, ConditionStands, Stands}
use Rattle.sheet_types.specs.SheetTexts.{items_text}
use Rattle.sheet_types.specs.SheetAgain.{semicolon, line_feed, value_or_space, importance_again, declaration_again, declarations_again, behind_keyword_again, braces, item_again, items_again}
use Rattle.css_rules.proofs.CleanTexts.{ListTexts, clean-bad, items-clean, items-unmarked}
use Rattle.css_rules.proofs.Heads.{single_of, word}
use Rattle.css_rules.proofs.ImportantNames.{important-name}
use Rattle.sheet_types.proofs.ItemShapes.{IsSome, TopCases, again-full, again-passed, again-run, some-left}
use Rattle.css_rules.proofs.AtRulesAgain.{at_front, condition-front, condition_keyword, condition_spelling}
use Rattle.css_rules.proofs.ReadyItems.{IsReady, by_ready, each-printable, each-stands}
use Rattle.css_rules.proofs.PreludeAgain.{words-cons}
use Rattle.css_rules.proofs.ValueFacts.{ValueLaws, printed-some, shape_of}
use Rattle.css_rules.proofs.SheetSpelled.{BehindTexts, HasText, text_of, words-append, text-append, text-cons, words-braces, text-braces, text-importance, items-spelled}

-- what is ensured of tokens that are written one after another
pub record ReadLaws : Type 0 where
  pub composes : (xs ys : List Word) (s r : List ℕ) → ReadsTo (spelled xs ++ s) xs s → ReadsTo s ys r → ReadsTo (spelled xs ++ s) (xs ++ ys) r
  pub marked : AllByRecursion (λ w. (rest : List ℕ) → StaysFirst w rest) marks
  pub spaced : (rest : List ℕ) → begins_none white rest ≡ true → StaysFirst (word_from kinds.White (codes " ")) rest
  pub fed : (rest : List ℕ) → begins_none white rest ≡ true → StaysFirst (word_from kinds.White (10 ∷ [])) rest
  pub ident : (n rest : List ℕ) → is_name n ≡ true → begins_none after_ident rest ≡ true → StaysFirst (word_from kinds.Ident (name_text n)) rest
  pub no_white : (n rest : List ℕ) → is_name n ≡ true → begins_none white (name_text n ++ rest) ≡ true
  pub plain : (n : List ℕ) → IsTrue (is_plain_name n) → name_text n ≡ n
  pub printed : (v : List Component) (s r : List ℕ) → IsTrue (all_formed v) → is_stop (classes_of s) ≡ true → is_stop (classes_of r) ≡ true → begins_none white r ≡ true
      → ReadsTo (spelled (words_all v) ++ s) (words_all v) s → ReadsTo (value_text v ++ r) (value_words v) r
  pub listed : (ss : List Selector) (rest : List ℕ) → IsTrue (is_readable_list false ss) → ReadsTo (list_text ss ++ (codes "{" ++ rest)) (words_all (list_spelling ss)) (codes "{" ++ rest)
  pub begins : (ss : List Selector) (rest : List ℕ) → IsTrue (is_readable_list false ss) → begins_none white (list_text ss ++ rest) ≡ true
  pub texts : ListTexts
  pub at : (u rest : List ℕ) → spells kinds.At u ≡ true → begins_none more_name rest ≡ true → takes (word_from kinds.At u) rest ≡ false → StaysFirst (word_from kinds.At u) rest
  pub solid_first : (w : Word) (rest : List ℕ) → StaysFirst w rest → is_white w.kind ≡ false → begins_none white (w.text ++ rest) ≡ true
  pub word_spelled : (t : List ℕ) (w : Word) → First t w → spells w.kind w.text ≡ true
  pub queries : (qs : List Query) (rest : List ℕ) → IsTrue (are_readable_queries qs) → ValuesStand qs → IsTrue (begins_none after_ident rest) → ReadsTo (queries_text qs ++ rest) (words_all (queries_spelling qs)) rest
  pub supports : (s : Supports) (rest : List ℕ) → IsTrue (is_readable_supports s) → DeclaredValuesStand s → ReadsTo (supports_text s ++ rest) (words_all (supports_spelling s)) rest
  pub queries_begin : (qs : List Query) (rest : List ℕ) → IsTrue (are_readable_queries qs) → IsTrue (begins_none white rest) → IsTrue (begins_none white (queries_text qs ++ rest))
  pub supports_begin : (s : Supports) (rest : List ℕ) → IsTrue (is_readable_supports s) → IsTrue (begins_none white (supports_text s ++ rest))

-- the components' text reads as their words, and then the rest is left
abbrev pub ReadsOn : List Component → List ℕ → Type 0
ReadsOn cs rest = ReadsTo (text_of cs ++ rest) (words_all cs) rest

drop-whole : (xs rest : List ℕ) → drop (length xs) (xs ++ rest) ≡ rest
drop-whole [] rest = refl
drop-whole (x ∷ xs) rest = drop-whole xs rest

not_true : (b : Bool) → not b ≡ true → b ≡ false
not_true true e = sym e
not_true false e = refl

-- it spells an at-keyword, and takes no space
record IsKeyword (text : List ℕ) : Type 0 where
  spelled : spells kinds.At text ≡ true
  takes_none : takes (word_from kinds.At text) (codes " ") ≡ false

media_keyword : IsKeyword (codes "@media")
unfolding spells
media_keyword = record { spelled = refl; takes_none = refl }

supports_keyword : IsKeyword (codes "@supports")
unfolding spells
supports_keyword = record { spelled = refl; takes_none = refl }

passed_keyword : (kind : PassedKind) → IsKeyword (codes "@" ++ keyword_of kind)
unfolding spells
passed_keyword FontFace = record { spelled = refl; takes_none = refl }
passed_keyword Keyframes = record { spelled = refl; takes_none = refl }
passed_keyword WebkitKeyframes = record { spelled = refl; takes_none = refl }
passed_keyword MozKeyframes = record { spelled = refl; takes_none = refl }
passed_keyword Page = record { spelled = refl; takes_none = refl }
passed_keyword CounterStyle = record { spelled = refl; takes_none = refl }

-- no kind is spelled by nothing
spells-some : (kind : Kind) (text : List ℕ) → spells kind text ≡ true → IsSome text
unfolding spells
spells-some kind [] h = absurd (false≢true (sym (none (is_kind kind kinds.Url)) ∙ h))
  where
    none : (b : Bool) → (b && false) ≡ false
    none true = refl
    none false = refl
spells-some kind (c ∷ text) h = tt

module _ (laws : ReadLaws) where
  on-append : (xs ys : List Component) (rest : List ℕ) → ReadsOn xs (text_of ys ++ rest) → ReadsOn ys rest → ReadsOn (xs ++ ys) rest
  on-append xs ys rest first second =
      let joined = laws.composes (words_all xs) (words_all ys) (text_of ys ++ rest) rest first second in
      let whole : text_of (xs ++ ys) ++ rest ≡ text_of xs ++ (text_of ys ++ rest) = ap (λ t. t ++ rest) (text-append xs ys) ∙ append_assoc (text_of xs) (text_of ys) rest in
      let P : List ℕ → Type 0 = λ t. ReadsTo t (words_all (xs ++ ys)) rest in
      let Q : List Word → Type 0 = λ ws. ReadsTo (text_of xs ++ (text_of ys ++ rest)) ws rest in
      subst P (sym whole) (subst Q (sym (words-append xs ys)) joined)

  -- a token that stays first before what follows
  on-cons : (w : Word) (cs : List Component) (rest : List ℕ) → is_refused w.kind ≡ false → StaysFirst w (text_of cs ++ rest) → ReadsOn cs rest → ReadsOn (single_of w ∷ cs) rest
  on-cons w cs rest read first more =
      let whole : text_of (single_of w ∷ cs) ++ rest ≡ w.text ++ (text_of cs ++ rest) = ap (λ t. t ++ rest) (text-cons w cs) ∙ append_assoc w.text (text_of cs) rest in
      let P : List ℕ → Type 0 = λ t. ReadsTo t (words_all (single_of w ∷ cs)) rest in
      let Q : List Word → Type 0 = λ ws. ReadsTo (w.text ++ (text_of cs ++ rest)) ws rest in
      let R : List ℕ → Type 0 = λ t. ReadsTo t (words_all cs) rest in
      subst P (sym whole) (subst Q (sym (words-cons w cs)) (first, read, subst R (sym (drop-whole w.text (text_of cs ++ rest))) more))

  on-end : (rest : List ℕ) → ReadsOn [] rest
  on-end rest = refl

  open_mark : (rest : List ℕ) → StaysFirst (word kinds.Open (codes "{")) rest
  open_mark = laws.marked.0

  close_mark : (rest : List ℕ) → StaysFirst (word kinds.Close (codes "}")) rest
  close_mark = laws.marked.1.0

  colon_mark : (rest : List ℕ) → StaysFirst (word kinds.Colon (codes ":")) rest
  colon_mark = laws.marked.1.1.1.1.1.1.0

  semicolon_mark : (rest : List ℕ) → StaysFirst (word kinds.Semicolon (codes ";")) rest
  semicolon_mark = laws.marked.1.1.1.1.1.1.1.0

  bang_mark : (rest : List ℕ) → StaysFirst (word kinds.Delim (codes "!")) rest
  bang_mark = laws.marked.1.1.1.1.1.1.1.1.1.1.1.1.0

  -- what may follow a declaration: a semicolon, or the end of the block
  abbrev after_declaration : Bool → List ℕ → List ℕ
  after_declaration true rest = codes ";" ++ rest
  after_declaration false rest = codes "}" ++ rest

  important-before : (rest : List ℕ) → begins_none after_ident rest ≡ true → StaysFirst (word kinds.Ident (codes "important")) rest
  important-before rest h = subst (λ t. StaysFirst (word_from kinds.Ident t) rest) (laws.plain (codes "important") refl) (laws.ident (codes "important") rest important-name h)

  important-reads : (more : Bool) (rest : List ℕ) → StaysFirst (word kinds.Ident (codes "important")) (after_declaration more rest)
  important-reads true rest = important-before (codes ";" ++ rest) refl
  important-reads false rest = important-before (codes "}" ++ rest) refl

  importance-reads : (b more : Bool) (rest : List ℕ) → ReadsOn (importance_again b) (after_declaration more rest)
  importance-reads true more rest =
      on-cons (word kinds.Delim (codes "!")) (single_of (word kinds.Ident (codes "important")) ∷ []) (after_declaration more rest) refl (bang_mark (text_of (single_of (word kinds.Ident (codes "important")) ∷ []) ++ after_declaration more rest))
      (on-cons (word kinds.Ident (codes "important")) [] (after_declaration more rest) refl (important-reads more rest) (on-end (after_declaration more rest)))
  importance-reads false more rest = on-end (after_declaration more rest)

  -- what follows a value is a stop, and no white space
  stop-follows : (b more : Bool) (rest : List ℕ) → is_stop (classes_of (text_of (importance_again b) ++ after_declaration more rest)) ≡ true
  stop-follows true more rest = ap (λ t. is_stop (classes_of (t ++ after_declaration more rest))) (text-importance true)
  stop-follows false true rest = refl
  stop-follows false false rest = refl

  white-follows : (b more : Bool) (rest : List ℕ) → begins_none white (text_of (importance_again b) ++ after_declaration more rest) ≡ true
  white-follows true more rest = ap (λ t. begins_none white (t ++ after_declaration more rest)) (text-importance true)
  white-follows false true rest = refl
  white-follows false false rest = refl

  value-reads : ValueLaws → (v : List Component) (s r : List ℕ) → all_formed v ≡ true → begins_solid v ≡ true → is_stop (classes_of s) ≡ true → ReadsTo (spelled (words_all v) ++ s) (words_all v) s
      → is_stop (classes_of r) ≡ true → begins_none white r ≡ true → ReadsOn (value_or_space (value_again v)) r
  value-reads values [] s r formed begun stop reads stop_r white_r = on-cons (word kinds.White (codes " ")) [] r refl (laws.spaced r white_r) (on-end r)
  value-reads values (c ∷ cs) s r formed begun stop reads stop_r white_r =
      let some = printed-some values c cs formed (not_true (is_gap c) begun) in
      let words = values.words (c ∷ cs) formed in
      let P : List Word → Type 0 = λ ws. ReadsTo (spelled ws ++ r) ws r in
      let again : ReadsOn (value_again (c ∷ cs)) r = subst P (sym words) (laws.printed (c ∷ cs) s r formed stop stop_r white_r reads) in
      let Q : List Component → Type 0 = λ v. ReadsOn v r in
      let whole : value_or_space (value_again (c ∷ cs)) ≡ value_again (c ∷ cs) = ap value_or_space some.1.1 ∙ sym some.1.1 in
      subst Q (sym whole) again

  declaration-reads : ValueLaws → (d : Declaration) → IsPrintableDeclaration d → Stands d → (more : Bool) (rest : List ℕ) → ReadsOn (declaration_again d) (after_declaration more rest)
  declaration-reads values d p stands more rest =
      let after = after_declaration more rest in
      let value = value_or_space (value_again d.value) in
      let mark = importance_again d.important in
      let tail = on-append value mark after
      (value-reads values d.value stands.behind (text_of mark ++ after) p.formed p.begun stands.stop stands.reads (stop-follows d.important more rest) (white-follows d.important more rest))
      (importance-reads d.important more rest) in
      let before_colon : begins_none after_ident (text_of (colon ∷ value ++ mark) ++ after) ≡ true = ap (λ t. begins_none after_ident (t ++ after)) (text-cons (word kinds.Colon (codes ":")) (value ++ mark)) in
      on-cons (word kinds.Ident (name_text d.name)) (colon ∷ value ++ mark) after refl (laws.ident d.name (text_of (colon ∷ value ++ mark) ++ after) p.name before_colon)
      (on-cons (word kinds.Colon (codes ":")) (value ++ mark) after refl (colon_mark (text_of (value ++ mark) ++ after)) tail)

  declarations-read : ValueLaws → (d : Declaration) (ds : List Declaration) → AllByRecursion IsPrintableDeclaration (d ∷ ds) → AllByRecursion Stands (d ∷ ds) → (rest : List ℕ) → ReadsOn (declarations_again (d ∷ ds)) (codes "}" ++ rest)
  declarations-read values d [] p stands rest =
      on-append (declaration_again d) [] (codes "}" ++ rest) (declaration-reads values d p.0 stands.0 false rest) (on-end (codes "}" ++ rest))
  declarations-read values d (e ∷ ds) p stands rest =
      let others = declarations_again (e ∷ ds) in
      let whole : text_of (semicolon ∷ others) ++ (codes "}" ++ rest) ≡ codes ";" ++ (text_of others ++ (codes "}" ++ rest)) =
      ap (λ t. t ++ (codes "}" ++ rest)) (text-cons (word kinds.Semicolon (codes ";")) others) ∙ append_assoc (codes ";") (text_of others) (codes "}" ++ rest) in
      let P : List ℕ → Type 0 = λ t. ReadsOn (declaration_again d) t in
      on-append (declaration_again d) (semicolon ∷ others) (codes "}" ++ rest)
      (subst P (sym whole) (declaration-reads values d p.0 stands.0 true (text_of others ++ (codes "}" ++ rest))))
      (on-cons (word kinds.Semicolon (codes ";")) others (codes "}" ++ rest) refl (semicolon_mark (text_of others ++ (codes "}" ++ rest))) (declarations-read values e ds p.1 stands.1 rest))

  -- Items.

  -- a block, with a line feed behind it, reads where what is in it reads before a `}`
  block-reads : (inside : List Component) (rest : List ℕ) → ((r : List ℕ) → ReadsOn inside (codes "}" ++ r)) → begins_none white rest ≡ true → ReadsOn (braces inside ∷ line_feed ∷ []) rest
  block-reads inside rest inner white_rest =
      let behind = codes "}" ++ (text_of (line_feed ∷ []) ++ rest) in
      let feed : ReadsOn (line_feed ∷ []) rest = on-cons (word kinds.White (10 ∷ [])) [] rest refl (laws.fed rest white_rest) (on-end rest) in
      let closing : ReadsTo behind (word kinds.Close (codes "}") ∷ words_all (line_feed ∷ [])) rest = (close_mark (text_of (line_feed ∷ []) ++ rest), refl, feed) in
      let all : ReadsTo (text_of inside ++ behind) (words_all inside ++ word kinds.Close (codes "}") ∷ words_all (line_feed ∷ [])) rest =
      laws.composes (words_all inside) (word kinds.Close (codes "}") ∷ words_all (line_feed ∷ [])) behind rest (inner (text_of (line_feed ∷ []) ++ rest)) closing in
      let opened : ReadsTo (codes "{" ++ (text_of inside ++ behind)) (word kinds.Open (codes "{") ∷ (words_all inside ++ word kinds.Close (codes "}") ∷ words_all (line_feed ∷ []))) rest = (open_mark (text_of inside ++ behind), refl, all) in
      let whole : text_of (braces inside ∷ line_feed ∷ []) ++ rest ≡ codes "{" ++ (text_of inside ++ behind) =
      ap (λ t. t ++ rest) (text-braces inside (line_feed ∷ []))
      ∙ ap (λ t. codes "{" ++ t) (append_assoc (text_of inside) (codes "}" ++ text_of (line_feed ∷ [])) rest ∙ ap (λ t. text_of inside ++ t) (append_assoc (codes "}") (text_of (line_feed ∷ [])) rest)) in
      let P : List ℕ → Type 0 = λ t. ReadsTo t (words_all (braces inside ∷ line_feed ∷ [])) rest in
      let Q : List Word → Type 0 = λ ws. ReadsTo (codes "{" ++ (text_of inside ++ behind)) ws rest in
      subst P (sym whole) (subst Q (sym (words-braces inside (line_feed ∷ []))) opened)

  -- the text of components reads as their words, and it begins with no white space, before this
  record ReadsAlone (cs : List Component) (rest : List ℕ) : Type 0 where
    on : ReadsOn cs rest
    begins : begins_none white (text_of cs ++ rest) ≡ true

  -- and so before all that begins with no white space
  abbrev ReadsItem : List Component → Type 0
  ReadsItem cs = (rest : List ℕ) → begins_none white rest ≡ true → ReadsAlone cs rest

  -- a rule reads where what is before its block does, and so does its block
  braced-reads : (front inside : List Component) → ((r : List ℕ) → ReadsAlone front (codes "{" ++ r)) → ((r : List ℕ) → ReadsOn inside (codes "}" ++ r)) → ReadsItem (front ++ braces inside ∷ line_feed ∷ [])
  braced-reads front inside before inner rest white_rest =
      let tail = braces inside ∷ line_feed ∷ [] in
      let behind = text_of inside ++ (codes "}" ++ text_of (line_feed ∷ [])) in
      let whole : text_of tail ++ rest ≡ codes "{" ++ (behind ++ rest) = ap (λ t. t ++ rest) (text-braces inside (line_feed ∷ [])) in
      let first : ReadsAlone front (text_of tail ++ rest) = subst (ReadsAlone front) (sym whole) (before (behind ++ rest)) in
      record {
        on = on-append front tail rest first.on (block-reads inside rest inner white_rest);
        begins = ap (λ t. begins_none white (t ++ rest)) (text-append front tail) ∙ ap (begins_none white) (append_assoc (text_of front) (text_of tail) rest) ∙ first.begins;
      }

  list-reads : (list : List Selector) → IsTrue (is_readable_list false list) → (r : List ℕ) → ReadsAlone (list_spelling list) (codes "{" ++ r)
  list-reads list readable r = record { on = laws.listed list r readable; begins = laws.begins list (codes "{" ++ r) readable }

  append-reads : (xs ys : List Component) → ReadsItem xs → ReadsItem ys → ReadsItem (xs ++ ys)
  append-reads xs ys first second rest white_rest =
      let b = second rest white_rest in
      let a = first (text_of ys ++ rest) b.begins in
      record {
        on = on-append xs ys rest a.on b.on;
        begins = ap (λ t. begins_none white (t ++ rest)) (text-append xs ys) ∙ ap (begins_none white) (append_assoc (text_of xs) (text_of ys) rest) ∙ a.begins;
      }

  nothing-reads : ReadsItem []
  nothing-reads rest white_rest = record { on = on-end rest; begins = white_rest }

  -- At-keywords, and what stands behind them.

  front-on : (text : List ℕ) → IsKeyword text → (cs : List Component) (r : List ℕ) → ReadsAlone cs (codes "{" ++ r) → ReadsOn (at_front text cs) (codes "{" ++ r)
  front-on text keyword [] r inner = on-cons (word kinds.At text) [] (codes "{" ++ r) refl (laws.at text (codes "{" ++ r) keyword.spelled refl refl) (on-end (codes "{" ++ r))
  front-on text keyword (c ∷ cs) r inner =
      let after = codes "{" ++ r in
      let behind = single_of (word kinds.White (codes " ")) ∷ c ∷ cs in
      let whole : text_of behind ++ after ≡ codes " " ++ (text_of (c ∷ cs) ++ after) = ap (λ t. t ++ after) (text-cons (word kinds.White (codes " ")) (c ∷ cs)) in
      let first : StaysFirst (word_from kinds.At text) (text_of behind ++ after) = subst (StaysFirst (word_from kinds.At text)) (sym whole) (laws.at text (codes " " ++ (text_of (c ∷ cs) ++ after)) keyword.spelled refl keyword.takes_none) in
      on-cons (word kinds.At text) behind after refl first
      (on-cons (word kinds.White (codes " ")) (c ∷ cs) after refl (laws.spaced (text_of (c ∷ cs) ++ after) inner.begins) inner.on)

  front-begins : (text : List ℕ) (cs : List Component) (r : List ℕ) → begins_none white (text_of (at_front (codes "@" ++ text) cs) ++ r) ≡ true
  front-begins text cs r = ap (λ t. begins_none white (t ++ r)) (text-cons (word kinds.At (codes "@" ++ text)) (behind_keyword_again cs))

  -- Conditions.

  condition-reads : (c : GroupCondition) → IsPrintableCondition c → ConditionStands c → (r : List ℕ) → ReadsAlone (condition_spelling c) (codes "{" ++ r)
  condition-reads (Media queries) fine stands r = record { on = laws.queries queries (codes "{" ++ r) fine.readable fine.values refl; begins = laws.queries_begin queries (codes "{" ++ r) fine.readable refl }
  condition-reads (OfSupports condition) fine stands r = record { on = laws.supports condition (codes "{" ++ r) fine stands; begins = laws.supports_begin condition (codes "{" ++ r) fine }

  condition-front_reads : (c : GroupCondition) → IsPrintableCondition c → ConditionStands c → (r : List ℕ) → ReadsAlone (at_front (condition_keyword c) (condition_spelling c)) (codes "{" ++ r)
  condition-front_reads (Media queries) fine stands r = record {
    on = front-on (codes "@media") media_keyword (queries_spelling queries) r (condition-reads (Media queries) fine stands r);
    begins = front-begins (codes "media") (queries_spelling queries) (codes "{" ++ r);
  }
  condition-front_reads (OfSupports condition) fine stands r = record {
    on = front-on (codes "@supports") supports_keyword (supports_spelling condition) r (condition-reads (OfSupports condition) fine stands r);
    begins = front-begins (codes "supports") (supports_spelling condition) (codes "{" ++ r);
  }

  -- Values.

  -- a value that stands reads as it is printed, before what begins with a stop
  again-reads : ValueLaws → (v : List Component) → all_formed v ≡ true → ValueStands v → (r : List ℕ) → is_stop (classes_of r) ≡ true → begins_none white r ≡ true → ReadsOn (value_again v) r
  again-reads values v formed stands r stop_r white_r =
      let P : List Word → Type 0 = λ ws. ReadsTo (spelled ws ++ r) ws r in
      subst P (sym (values.words v formed)) (laws.printed v stands.behind r formed stands.stop stop_r white_r stands.reads)

  -- the first word of a component and what is behind it
  record IsFirstWord (c : Component) (cs : List Component) : Type 0 where
    first : Word
    more : List Word
    is : words_all (c ∷ cs) ≡ first ∷ more
    kind : first.kind ≡ head_kind c

  first-word : (c : Component) (cs : List Component) → IsFirstWord c cs
  first-word c cs = elim (shape_of c) [
    | inl s ↦ record {
      first = word_of s.0;
      more = words_all cs;
      is = ap (λ d. words_all (d ∷ cs)) s.1 ∙ ap (λ (ps : List Piece). map word_of (ps ++ pieces_all cs)) (pieces_of-Single s.0);
      kind = sym (ap head_kind s.1 ∙ head_kind-Single s.0);
    }
    | inr b ↦ record {
      first = word_of b.0.opening;
      more = map word_of ((pieces_all b.0.items ++ closing b.0.opening b.0.close ∷ []) ++ pieces_all cs);
      is = ap (λ d. words_all (d ∷ cs)) b.1 ∙ ap (λ (ps : List Piece). map word_of (ps ++ pieces_all cs)) (pieces_of-Block b.0);
      kind = sym (ap head_kind b.1 ∙ head_kind-Block b.0);
    }
  ]

  -- what reads so begins with its first word
  begins-first : (c : Component) (cs : List Component) (r : List ℕ) → (is : IsFirstWord c cs) → ReadsOn (c ∷ cs) r → StaysFirst is.first (spelled is.more ++ r)
  begins-first c cs r is reads =
      let P : List Word → Type 0 = λ ws. ReadsTo (spelled ws ++ r) ws r in
      let First_of : List ℕ → Type 0 = λ t. First t is.first in
      subst First_of (append_assoc is.first.text (spelled is.more) r) (subst P is.is reads).0

  gap-white : (k : Kind) → is_gap_kind k ≡ false → is_white k ≡ false
  gap-white kinds.White e = e
  gap-white _ e = refl

  -- a printed value begins with no white space, before what begins with none
  again-begins : ValueLaws → (v : List Component) (r : List ℕ) → begins_none white r ≡ true → ReadsOn (value_again v) r → begins_none white (text_of (value_again v) ++ r) ≡ true
  again-begins values v r white_r reads = at (value_again v) refl reads
    where
      at : (cs : List Component) → value_again v ≡ cs → ReadsOn cs r → begins_none white (text_of cs ++ r) ≡ true
      at [] e on = white_r
      at (c ∷ cs) e on =
          let is = first-word c cs in
          let solid = not_true (is_gap_kind (head_kind c)) (values.starts v cs c e) in
          ap (λ ws. begins_none white (spelled ws ++ r)) is.is
          ∙ ap (begins_none white) (append_assoc is.first.text (spelled is.more) r)
          ∙ laws.solid_first is.first (spelled is.more ++ r) (begins-first c cs r is on) (gap-white is.first.kind (ap is_gap_kind is.kind ∙ solid))

  -- what reads so has a text where it is anything
  some-text : (cs : List Component) (r : List ℕ) → ReadsOn cs r → HasText cs
  some-text [] r on = inl refl
  some-text (c ∷ cs) r on =
      let is = first-word c cs in
      let named = laws.word_spelled (is.first.text ++ (spelled is.more ++ r)) is.first (begins-first c cs r is on) in
      let some : IsSome (spelled (is.first ∷ is.more)) = some-left is.first.text (spelled is.more) (spells-some is.first.kind is.first.text named) in
      inr (subst (λ (ws : List Word). IsSome (spelled ws)) (sym is.is) some)

  behind_texts : ValueLaws → BehindTexts
  behind_texts values = record {
    condition = λ c fine stands. some-text (condition_spelling c) (codes "{" ++ []) (condition-reads c fine stands []).on;
    value = λ v formed stands. some-text (value_again v) (codes "{" ++ []) (again-reads values v formed stands (codes "{" ++ []) refl refl);
  }

  passed-front_reads : ValueLaws → (rule : Passed) → IsPrintablePassed rule → ValueStands rule.prelude → (r : List ℕ) → ReadsAlone (at_front (codes "@" ++ keyword_of rule.kind) (value_again rule.prelude)) (codes "{" ++ r)
  passed-front_reads values rule fine stands r =
      let prelude = value_again rule.prelude in
      let on = again-reads values rule.prelude fine.prelude.formed stands (codes "{" ++ r) refl refl in
      let alone : ReadsAlone prelude (codes "{" ++ r) = record { on = on; begins = again-begins values rule.prelude (codes "{" ++ r) refl on } in
      record {
        on = front-on (codes "@" ++ keyword_of rule.kind) (passed_keyword rule.kind) prelude r alone;
        begins = front-begins (keyword_of rule.kind) prelude (codes "{" ++ r);
      }

  all-read : (xs : List Item) → AllByRecursion (λ x. ReadsItem (item_again x)) xs → ReadsItem (items_again xs)
  all-read [] each = nothing-reads
  all-read (x ∷ xs) each = append-reads (item_again x) (items_again xs) each.0 (all-read xs each.1)

  -- what is in the block of a group reads behind a line feed
  inner-reads : (xs : List Item) → ReadsItem (items_again xs) → (r : List ℕ) → ReadsOn (line_feed ∷ items_again xs) (codes "}" ++ r)
  inner-reads xs each r =
      let inner = each (codes "}" ++ r) refl in
      on-cons (word kinds.White (10 ∷ [])) (items_again xs) (codes "}" ++ r) refl (laws.fed (text_of (items_again xs) ++ (codes "}" ++ r)) inner.begins) inner.on

  abbrev ItemReads : Item → Type 0
  ItemReads x = ReadsItem (item_again x)

  reads-cases : ValueLaws → TopCases IsReady ItemReads
  reads-cases values = record {
    hollow = λ x none. subst ReadsItem (sym none.again) nothing-reads;
    rule = λ s run fine each.
        let ds = run.first ∷ run.more in
        subst ReadsItem (sym (again-run s run))
        (braced-reads (list_spelling s.selectors) (declarations_again ds) (list-reads s.selectors fine.0.readable) (declarations-read values run.first run.more (each-printable ds each) (each-stands ds each)));
    group = λ g full fine each.
        let c = g.condition in
        let inside = line_feed ∷ items_again g.items in
        let whole = again-full g full ∙ ap (λ cs. cs ++ braces inside ∷ line_feed ∷ []) (condition-front c) in
        subst ReadsItem (sym whole) (braced-reads (at_front (condition_keyword c) (condition_spelling c)) inside (condition-front_reads c fine.0 fine.1) (inner-reads g.items (all-read g.items each)));
    passed = λ rule fine.
        subst ReadsItem (sym (again-passed rule))
        (braced-reads (at_front (codes "@" ++ keyword_of rule.kind) (value_again rule.prelude)) (value_again rule.block) (passed-front_reads values rule fine.0 fine.1.0)
        (λ r. again-reads values rule.block fine.0.block.formed fine.1.1 (codes "}" ++ r) refl refl));
  }

  -- the text of printed items reads as the words of their components
  pub items-read-on : ValueLaws → (xs : List Item) → ArePrintable xs → AllStand xs → Reads (items_text xs) (words_all (items_again xs))
  items-read-on values xs p stands =
      let text = items_text xs in
      let all = by_ready ItemReads (reads-cases values) xs p stands in
      let P : List ℕ → Type 0 = λ t. ReadsTo t (words_all (items_again xs)) [] in
      let behind : after_mark text ≡ text = ap (λ n. drop n text) (items-unmarked laws.texts xs p) in
      let reads : P text = subst P (append-nil (text_of (items_again xs)) ∙ items-spelled values (behind_texts values) xs p stands) (all-read xs all [] refl).on in
      (ap bad_place behind ∙ clean-bad text (items-clean laws.texts xs p stands), subst P (sym behind) reads)
