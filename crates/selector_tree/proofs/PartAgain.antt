-- Simple selectors that are spelled are read again, as parts.
use Rattle.std.proofs.Common.{◌≡◌, ℕ, List, [], ◌∷◌, ◌++◌, map, Bool, true, false, not, ◌&&◌, refl, sym, ap, ap₂, ◌∙◌, subst, append_assoc}
use Rattle.std.specs.Prelude.{codes, Option, Some, None, if◌then◌else◌}
use Rattle.std.specs.List.{list_all}
use Rattle.std.specs.Option.{option_map, option_map_or, option_and_then}
use Rattle.std.proofs.lemmas.Bool.{and_parts, false≢true}
use Rattle.std.proofs.lemmas.List.{map-append}
use Rattle.std.proofs.lemmas.List.Folds.{list_all-append}
use lib.Pointwise.{bytes_decides}
use Rattle.css_tokens.specs.declared.kind.Kind.{Kind}
use Rattle.css_tokens.specs.declared.kind.Kind.TheVariants as kinds
use Rattle.css_tokens.specs.declared.component.Component.{Component}
use Rattle.css_tokens.specs.Names.{is_content, is_name, name_of_word, starts_ident}
use Rattle.css_tokens.specs.NameText.{name_text}
use Rattle.css_tokens.specs.Piece.{Piece}
use Rattle.css_tokens.specs.StringText.{string_text}
use Rattle.css_tokens.specs.Trees.{is_text}
use Rattle.selector_types.specs.declared.selector.Attribute.{Attribute}
use Rattle.selector_types.specs.declared.selector.Simple.{Simple}
use Rattle.selector_types.specs.declared.selector.Simple as simple
use Rattle.selector_types.specs.declared.selector.Test.{Test}
use Rattle.selector_types.specs.declared.selector.Test.TheVariants as tests
use Rattle.selector_tree.specs.declared.sign.Callee.{Callee}
use Rattle.selector_tree.specs.declared.sign.Callee.TheVariants as callees
use Rattle.selector_tree.specs.declared.sign.Sign.{Sign}
use Rattle.selector_tree.specs.declared.sign.Sign.TheVariants.{Comment, White, Comma, Joint, Name, Dot, Colon, Whole, Call, Other}
use Rattle.selector_tokens.specs.Arguments.{an_plus_b, attribute_of, lone_name}
use Rattle.selector_types.specs.Erased.{erased_simple}
use Rattle.selector_types.specs.Names.{is_old_element, lowered, pseudo_text}
use Rattle.selector_tree.specs.Grammar.{Body, with_part, tailed, states_of, body_of, stripped, white_before, spaced, Runs, run_before, runs_of, lead_of, behind_lead, Mark}
use Rattle.selector_types.specs.ReadableSelectors.{name_in_text, is_name_text, is_pseudo_text, is_step_text, is_argument_text, is_pseudo_of, is_readable_pseudo, is_readable_value, is_readable_attribute}
use Rattle.selector_tree.specs.Signs.{attribute_sign, kind_sign, opened_sign, callee_of, call_by, call_of, argued, tokens_of, token_mark, block_mark, mark_of, mark_of-Single, mark_of-Block}
use Rattle.selector_types.specs.Spelling.{single, block, ident, delim, colon, test_spelling, attribute_spelling, behind, before_close, text_functions, step_spelling, argument_spelling, pseudo_from, pseudo_spelling}
use Rattle.selector_types.proofs.SpellingTexts.{maybe, behind-whole, argument-in}

-- what the texts of names, of strings and of AN+B mean
pub record Texts : Type 0 where
  pub ident : (n : List ℕ) → is_name n ≡ true → name_of_word kinds.Ident (name_text n) ≡ n
  pub hash : (n : List ℕ) → is_name n ≡ true → name_of_word kinds.Hash (codes "#" ++ name_text n) ≡ n
  pub starts : (n : List ℕ) → is_name n ≡ true → starts_ident (name_text n) ≡ true
  pub string : (t : List ℕ) → is_content t ≡ true → name_of_word kinds.String (string_text t) ≡ t
  pub step : (t : List ℕ) → is_step_text t ≡ true → option_and_then an_plus_b (tokens_of (map mark_of (step_spelling t))) ≡ Some t

-- Signs of components.

abbrev pub marks_of : List Component → List Mark
marks_of cs = map mark_of cs

abbrev pub signs_in : List Mark → List Sign
signs_in ms = map (λ m. m.sign) ms

abbrev pub signs_of : List Component → List Sign
signs_of cs = signs_in (marks_of cs)

pub signs-append : (cs ds : List Component) → signs_of (cs ++ ds) ≡ signs_of cs ++ signs_of ds
signs-append cs ds = ap signs_in (map-append mark_of cs ds) ∙ map-append (λ (m : Mark). m.sign) (marks_of cs) (marks_of ds)

pub mark-single : (k : Kind) (text : List ℕ) → mark_of (single k text) ≡ token_mark (record { kind = k; text = text; at = 0 })
mark-single k text = mark_of-Single (record { kind = k; text = text; at = 0 })

pub mark-around : (k : Kind) (text : List ℕ) (items : List Component) → mark_of (block k text items) ≡ block_mark (record { kind = k; text = text; at = 0 }) (marks_of items)
mark-around k text items = mark_of-Block (record { opening = record { kind = k; text = text; at = 0 }; items = items; close = 0 })

pub sign-single : (k : Kind) (text : List ℕ) (cs : List Component) → signs_of (single k text ∷ cs) ≡ kind_sign k text 0 ∷ signs_of cs
sign-single k text cs = ap (λ (m : Mark). m.sign ∷ signs_of cs) (mark-single k text)

pub sign-around : (k : Kind) (text : List ℕ) (items cs : List Component) → signs_of (block k text items ∷ cs) ≡ opened_sign k text 0 (marks_of items) ∷ signs_of cs
sign-around k text items cs = ap (λ (m : Mark). m.sign ∷ signs_of cs) (mark-around k text items)

-- neither white space, a comment, a comma nor a combinator
abbrev pub is_inner : Sign → Bool
is_inner Comment = false
is_inner White = false
is_inner Comma = false
is_inner (Joint c) = false
is_inner w = true

-- does a part or a pseudo-element begin so?
abbrev pub begins_part : List Sign → Bool
begins_part (Dot a ∷ ws) = true
begins_part (Colon a ∷ ws) = true
begins_part (Whole x a ∷ ws) = true
begins_part ws = false

-- does a compound begin so?
abbrev pub begins_compound : List Sign → Bool
begins_compound [] = false
begins_compound (w ∷ ws) = is_inner w

pub part-compound : (ws : List Sign) → begins_part ws ≡ true → begins_compound ws ≡ true
part-compound [] h = absurd (false≢true h)
part-compound (Dot a ∷ ws) h = refl
part-compound (Colon a ∷ ws) h = refl
part-compound (Whole x a ∷ ws) h = refl
part-compound (w ∷ ws) h = absurd (false≢true h)

-- Inner signs and what stands behind them.

pub spaced-inner : (ws vs : List Sign) → list_all is_inner ws ≡ true → spaced (ws ++ vs) ≡ ws ++ spaced vs
spaced-inner [] vs h = refl
spaced-inner (w ∷ ws) vs h = (let p = and_parts (is_inner w) (list_all is_inner ws) h in at w p.0 (ws ++ spaced vs) (spaced-inner ws vs p.1))
  where
    at : (w : Sign) → is_inner w ≡ true → (us : List Sign) → spaced (ws ++ vs) ≡ us → spaced (w ∷ (ws ++ vs)) ≡ w ∷ us
    at Comment e us k = absurd (false≢true e)
    at White e us k = absurd (false≢true e)
    at Comma e us k = absurd (false≢true e)
    at (Joint c) e us k = absurd (false≢true e)
    at w e us k = ap (λ (xs : List Sign). w ∷ xs) k

pub stripped-inner : (ws vs : List Sign) → begins_compound ws ≡ true → stripped (ws ++ vs) ≡ ws ++ vs
stripped-inner [] vs h = absurd (false≢true h)
stripped-inner (White ∷ ws) vs h = absurd (false≢true h)
stripped-inner (w ∷ ws) vs h = refl

pub white-inner : (ws vs : List Sign) → begins_compound ws ≡ true → white_before (ws ++ vs) ≡ White ∷ (ws ++ vs)
white-inner [] vs h = absurd (false≢true h)
white-inner (White ∷ ws) vs h = absurd (false≢true h)
white-inner (Joint c ∷ ws) vs h = absurd (false≢true h)
white-inner (w ∷ ws) vs h = refl

pub lead-inner : (nested : Bool) (ws vs : List Sign) → begins_compound ws ≡ true → lead_of nested (ws ++ vs) ≡ None
lead-inner false ws vs h = refl
lead-inner true [] vs h = absurd (false≢true h)
lead-inner true (Joint c ∷ ws) vs h = absurd (false≢true h)
lead-inner true (w ∷ ws) vs h = refl

pub behind-inner : (nested : Bool) (ws vs : List Sign) → begins_compound ws ≡ true → behind_lead nested (ws ++ vs) ≡ ws ++ vs
behind-inner false ws vs h = refl
behind-inner true [] vs h = absurd (false≢true h)
behind-inner true (Joint c ∷ ws) vs h = absurd (false≢true h)
behind-inner true (w ∷ ws) vs h = refl

abbrev pub in_front : List Sign → Runs → Runs
in_front ws runs = record { first = ws ++ runs.first; rest = runs.rest }

run-inner : (w : Sign) (runs : Runs) → is_inner w ≡ true → run_before w runs ≡ in_front (w ∷ []) runs
run-inner White runs h = absurd (false≢true h)
run-inner (Joint c) runs h = absurd (false≢true h)
run-inner w runs h = refl

pub runs-inner : (ws vs : List Sign) → list_all is_inner ws ≡ true → runs_of (ws ++ vs) ≡ in_front ws (runs_of vs)
runs-inner [] vs h = refl
runs-inner (w ∷ ws) vs h =
    (let p = and_parts (is_inner w) (list_all is_inner ws) h in
    ap (run_before w) (runs-inner ws vs p.1) ∙ run-inner w (in_front ws (runs_of vs)) p.0)

pub all-both : {X : Type 0} (test : X → Bool) (xs ys : List X) → list_all test xs ≡ true → list_all test ys ≡ true → list_all test (xs ++ ys) ≡ true
all-both test xs ys h k = list_all-append test xs ys ∙ ap₂ (λ (a b : Bool). a && b) h k

-- Parts.

-- these components are read as one part, behind and before others
pub record PartRead (x : Simple) (cs : List Component) : Type 0 where
  pub begins : begins_part (signs_of cs) ≡ true
  pub inner : list_all is_inner (signs_of cs) ≡ true
  pub body : (ws : List Sign) → body_of (signs_of cs ++ ws) ≡ with_part x 0 (body_of ws)

-- the signs of the components are these, which are read so
pub part-by : (x : Simple) (cs : List Component) (vs : List Sign) → signs_of cs ≡ vs → begins_part vs ≡ true → list_all is_inner vs ≡ true → ((ws : List Sign) → body_of (vs ++ ws) ≡ with_part x 0 (body_of ws)) → PartRead x cs
part-by x cs vs e begins inner body = record {
  begins = ap begins_part e ∙ begins;
  inner = ap (list_all is_inner) e ∙ inner;
  body = λ ws. ap (λ (us : List Sign). body_of (us ++ ws)) e ∙ body ws;
}

pub whole-part : (x : Simple) (c : Component) → signs_of (c ∷ []) ≡ Whole x 0 ∷ [] → PartRead x (c ∷ [])
whole-part x c e = part-by x (c ∷ []) (Whole x 0 ∷ []) e refl refl (λ ws. refl)

pub call-part : (x : Simple) (c : Component) → signs_of (c ∷ []) ≡ Call (Some x) ∷ [] → PartRead x (colon ∷ c ∷ [])
call-part x c e = part-by x (colon ∷ c ∷ []) (Colon 0 ∷ Call (Some x) ∷ []) (sign-single kinds.Colon (codes ":") (c ∷ []) ∙ ap (λ (ws : List Sign). Colon 0 ∷ ws) e) refl refl (λ ws. refl)

-- a part that is spelled so, and is this one without places
pub as-part : (x y : Simple) (cs ds : List Component) → erased_simple x ≡ y → ds ≡ cs → PartRead y cs → PartRead (erased_simple x) ds
as-part x y cs ds e d r = subst (λ (z : Simple). PartRead z ds) (sym e) (subst (PartRead y) (sym d) r)

-- texts that are alike are the same
pub same-text : (a b : List ℕ) → is_text a b ≡ true → a ≡ b
same-text a b h = (bytes_decides a b).0 h

-- Functions whose argument is kept.

-- a function of this name takes such an argument
record TakesText (f : List ℕ) : Type 0 where
  name : List ℕ
  decoded : lowered (name_of_word kinds.Function f) ≡ name
  opened : f ≡ name ++ codes "("
  callee : callee_of name ≡ (if is_text f (codes "lang(") then callees.Lang else callees.Step)

abbrev all_take : List (List ℕ) → Type 0
all_take [] = Unit {0}
all_take (f ∷ fs) = TakesText f × all_take fs

functions-take : all_take text_functions
functions-take = (
  record { name = codes "nth-child"; decoded = refl; opened = refl; callee = refl },
  (
    record { name = codes "nth-last-child"; decoded = refl; opened = refl; callee = refl },
    (
      record { name = codes "nth-of-type"; decoded = refl; opened = refl; callee = refl },
      (
        record { name = codes "nth-last-of-type"; decoded = refl; opened = refl; callee = refl },
        (
          record { name = codes "lang"; decoded = refl; opened = refl; callee = refl },
          tt,
        ),
      ),
    ),
  ),
)

module _ (texts : Texts) where
  pub class-part : (n : List ℕ) → is_name n ≡ true → PartRead (simple.Class n) (delim (codes ".") ∷ ident n ∷ [])
  class-part n h =
      part-by (simple.Class n) (delim (codes ".") ∷ ident n ∷ []) (Dot 0 ∷ Name n ∷ [])
      (sign-single kinds.Delim (codes ".") (ident n ∷ []) ∙ ap (λ (ws : List Sign). Dot 0 ∷ ws) (sign-single kinds.Ident (name_text n) []) ∙ ap (λ (m : List ℕ). Dot 0 ∷ Name m ∷ []) (texts.ident n h))
      refl refl (λ ws. refl)

  id-sign : (n m : List ℕ) (b : Bool) → b ≡ true → m ≡ n → (if b then Whole (simple.Id m) 0 else Other) ≡ Whole (simple.Id n) 0
  id-sign n m true b e = ap (λ (name : List ℕ). Whole (simple.Id name) 0) e
  id-sign n m false b e = absurd (false≢true b)

  pub id-part : (n : List ℕ) → is_name n ≡ true → PartRead (simple.Id n) (single kinds.Hash (codes "#" ++ name_text n) ∷ [])
  id-part n h =
      whole-part (simple.Id n) (single kinds.Hash (codes "#" ++ name_text n))
      (sign-single kinds.Hash (codes "#" ++ name_text n) []
      ∙ ap (λ (w : Sign). w ∷ []) (id-sign n (name_of_word kinds.Hash (codes "#" ++ name_text n)) (starts_ident (name_text n)) (texts.starts n h) (texts.hash n h)))

  -- Attributes.

  -- the tokens of a block that holds tokens alone
  abbrev pieces : List (Kind × List ℕ) → List Piece
  pieces ts = map (λ t. record { kind = t.0; text = t.1; at = 0 }) ts

  abbrev singles : List (Kind × List ℕ) → List Component
  singles ts = map (λ t. single t.0 t.1) ts

  abbrev token_marks : List (Kind × List ℕ) → List Mark
  token_marks ts = map token_mark (pieces ts)

  pub marks-singles : (ts : List (Kind × List ℕ)) → marks_of (singles ts) ≡ token_marks ts
  marks-singles [] = refl
  marks-singles (t ∷ ts) = ap₂ (λ (m : Mark) (ms : List Mark). m ∷ ms) (mark-single t.0 t.1) (marks-singles ts)

  abbrev attribute_with : List ℕ → Test → List ℕ → Attribute
  attribute_with name test value = record { name = name; test = test; value = value; flag = false }

  -- what the tokens of an attribute selector say
  attribute-read : (name text : List ℕ) (test : Test) (value : List ℕ) → is_readable_value test value ≡ true → name_of_word kinds.Ident text ≡ name
      → option_and_then attribute_of (tokens_of (marks_of (single kinds.Ident text ∷ test_spelling test value))) ≡ Some (attribute_with name test value)
  attribute-read name text tests.Has [] h e =
      ap (λ (ms : List Mark). option_and_then attribute_of (tokens_of ms)) (marks-singles ((kinds.Ident, text) ∷ []))
      ∙ ap (λ (n : List ℕ). Some (attribute_with n tests.Has [])) e
  attribute-read name text tests.Has (b ∷ value) h e = absurd (false≢true h)
  attribute-read name text tests.Equals value h e =
      ap (λ (ms : List Mark). option_and_then attribute_of (tokens_of ms)) (marks-singles ((kinds.Ident, text) ∷ (kinds.Delim, codes "=") ∷ (kinds.String, string_text value) ∷ []))
      ∙ ap₂ (λ (n v : List ℕ). Some (attribute_with n tests.Equals v)) e (texts.string value h)
  attribute-read name text tests.Word value h e =
      ap (λ (ms : List Mark). option_and_then attribute_of (tokens_of ms)) (marks-singles ((kinds.Ident, text) ∷ (kinds.Delim, codes "~") ∷ (kinds.Delim, codes "=") ∷ (kinds.String, string_text value) ∷ []))
      ∙ ap₂ (λ (n v : List ℕ). Some (attribute_with n tests.Word v)) e (texts.string value h)
  attribute-read name text tests.Dash value h e =
      ap (λ (ms : List Mark). option_and_then attribute_of (tokens_of ms)) (marks-singles ((kinds.Ident, text) ∷ (kinds.Delim, codes "|") ∷ (kinds.Delim, codes "=") ∷ (kinds.String, string_text value) ∷ []))
      ∙ ap₂ (λ (n v : List ℕ). Some (attribute_with n tests.Dash v)) e (texts.string value h)
  attribute-read name text tests.Prefix value h e =
      ap (λ (ms : List Mark). option_and_then attribute_of (tokens_of ms)) (marks-singles ((kinds.Ident, text) ∷ (kinds.Delim, codes "^") ∷ (kinds.Delim, codes "=") ∷ (kinds.String, string_text value) ∷ []))
      ∙ ap₂ (λ (n v : List ℕ). Some (attribute_with n tests.Prefix v)) e (texts.string value h)
  attribute-read name text tests.Suffix value h e =
      ap (λ (ms : List Mark). option_and_then attribute_of (tokens_of ms)) (marks-singles ((kinds.Ident, text) ∷ (kinds.Delim, codes "$") ∷ (kinds.Delim, codes "=") ∷ (kinds.String, string_text value) ∷ []))
      ∙ ap₂ (λ (n v : List ℕ). Some (attribute_with n tests.Suffix v)) e (texts.string value h)
  attribute-read name text tests.Contains value h e =
      ap (λ (ms : List Mark). option_and_then attribute_of (tokens_of ms)) (marks-singles ((kinds.Ident, text) ∷ (kinds.Delim, codes "*") ∷ (kinds.Delim, codes "=") ∷ (kinds.String, string_text value) ∷ []))
      ∙ ap₂ (λ (n v : List ℕ). Some (attribute_with n tests.Contains v)) e (texts.string value h)

  not-true : (b : Bool) → not b ≡ true → false ≡ b
  not-true true h = absurd (false≢true h)
  not-true false h = refl

  pub attribute-part : (a : Attribute) → is_readable_attribute a ≡ true → PartRead (simple.Attribute a) (attribute_spelling a ∷ [])
  attribute-part a h =
      (let p = and_parts (is_name a.name) (not a.flag && is_readable_value a.test a.value) h in
      let q = and_parts (not a.flag) (is_readable_value a.test a.value) p.1 in
      let items = ident a.name ∷ test_spelling a.test a.value in
      whole-part (simple.Attribute a) (attribute_spelling a)
      (sign-around kinds.Open (codes "[") items []
      ∙ ap (λ (o : Option Attribute). attribute_sign 0 o ∷ []) (attribute-read a.name (name_text a.name) a.test a.value q.1 (texts.ident a.name p.0))
      ∙ ap (λ (flag : Bool). (let made : Attribute = record { name = a.name; test = a.test; value = a.value; flag = flag } in Whole (simple.Attribute made) 0 ∷ [])) (not-true a.flag q.0)))

  -- Pseudo-classes with a name or with such an argument.

  -- what a name behind a colon is, where it is no pseudo-element
  named-body : (text : List ℕ) (old : Bool) (states : Option (List (List ℕ))) (body : Option Body) → not old ≡ true → (if old then tailed text states else with_part (simple.Pseudo text) 0 body) ≡ with_part (simple.Pseudo text) 0 body
  named-body text true states body h = absurd (false≢true h)
  named-body text false states body h = refl

  abbrev old_or_part : List ℕ → List Sign → Option Body
  old_or_part text ws = if is_old_element text then tailed text (states_of ws) else with_part (simple.Pseudo text) 0 (body_of ws)

  name-part : (text : List ℕ) → (is_pseudo_text text && not (is_old_element text)) ≡ true → PartRead (simple.Pseudo text) (colon ∷ single kinds.Ident text ∷ [])
  name-part text h =
      (let p = and_parts (is_pseudo_text text) (not (is_old_element text)) h in
      let q = and_parts (is_name (name_in_text text)) (is_text (pseudo_text (name_in_text text)) text) p.0 in
      part-by (simple.Pseudo text) (colon ∷ single kinds.Ident text ∷ []) (Colon 0 ∷ Name (name_in_text text) ∷ [])
      (sign-single kinds.Colon (codes ":") (single kinds.Ident text ∷ []) ∙ ap (λ (ws : List Sign). Colon 0 ∷ ws) (sign-single kinds.Ident text []))
      refl refl
      (λ ws. ap (λ (t : List ℕ). old_or_part t ws) (same-text (pseudo_text (name_in_text text)) text q.1) ∙ named-body text (is_old_element text) (states_of ws) (body_of ws) p.1))

  abbrev argument_in : Bool → List ℕ → List Component
  argument_in lang text = if lang then single kinds.Ident text ∷ [] else step_spelling text

  argued-text : (lang : Bool) (name text : List ℕ) → (if lang then is_name_text text else is_step_text text) ≡ true
      → call_by (if lang then callees.Lang else callees.Step) name (marks_of (argument_in lang text)) ≡ Some (argued name (Some text))
  argued-text false name text h = ap (λ (o : Option (List ℕ)). Some (argued name o)) (texts.step text h)
  argued-text true name text h =
      (let p = and_parts (is_name (name_in_text text)) (is_text (name_text (name_in_text text)) text) h in
      ap (λ (ms : List Mark). Some (argued name (option_map name_text (option_and_then lone_name (tokens_of ms))))) (marks-singles ((kinds.Ident, text) ∷ []))
      ∙ ap (λ (t : List ℕ). Some (argued name (Some t))) (same-text (name_text (name_in_text text)) text p.1))

  function-part : (f text whole : List ℕ) → TakesText f → is_argument_text f text ≡ true → whole ≡ f ++ (text ++ codes ")") → PartRead (simple.Pseudo whole) (colon ∷ block kinds.Function f (argument_spelling f text) ∷ [])
  function-part f text whole t h e =
      (let lang = is_text f (codes "lang(") in
      let items = argument_spelling f text in
      call-part (simple.Pseudo whole) (block kinds.Function f items)
      (sign-around kinds.Function f items []
      ∙ ap (λ (n : List ℕ). Call (call_of n (marks_of items)) ∷ []) t.decoded
      ∙ ap (λ (callee : Callee). Call (call_by callee t.name (marks_of items)) ∷ []) t.callee
      ∙ ap (λ (o : Option Simple). Call o ∷ []) (argued-text lang t.name text h)
      ∙ ap (λ (u : List ℕ). Call (Some (simple.Pseudo u)) ∷ []) (sym (e ∙ ap (λ (g : List ℕ). g ++ (text ++ codes ")")) t.opened ∙ append_assoc t.name (codes "(") (text ++ codes ")")))))

  -- one of these functions with its argument, or a name
  pseudo-at : (f : List ℕ) (fs : List (List ℕ)) (text : List ℕ) (o : Option (List ℕ)) → TakesText f → (is_pseudo_of fs text ≡ true → PartRead (simple.Pseudo text) (colon ∷ pseudo_from fs text ∷ []))
      → maybe o (λ r. text ≡ f ++ (r ++ codes ")")) → option_map_or (is_argument_text f) o (is_pseudo_of fs text) ≡ true
      → PartRead (simple.Pseudo text) (colon ∷ option_map_or (λ argument. block kinds.Function f (argument_spelling f argument)) o (pseudo_from fs text) ∷ [])
  pseudo-at f fs text None t more e h = more h
  pseudo-at f fs text (Some argument) t more e h = function-part f argument text t h e

  pseudo-part : (fs : List (List ℕ)) (text : List ℕ) → all_take fs → is_pseudo_of fs text ≡ true → PartRead (simple.Pseudo text) (colon ∷ pseudo_from fs text ∷ [])
  pseudo-part [] text t h = name-part text h
  pseudo-part (f ∷ fs) text t h = pseudo-at f fs text (option_and_then before_close (behind f text)) t.0 (pseudo-part fs text t.1) (argument-in f text (behind f text) (behind-whole f text)) h

  pub pseudo-again : (text : List ℕ) → is_readable_pseudo text ≡ true → PartRead (simple.Pseudo text) (colon ∷ pseudo_spelling text ∷ [])
  pseudo-again text h = pseudo-part text_functions text functions-take h
