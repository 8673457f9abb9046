-- What is read from tokens can be written: attribute selectors, names and pseudo-classes.
use Rattle.std.proofs.Common.{◌≡◌, ℕ, List, [], ◌∷◌, ◌++◌, Bool, true, false, not, ◌&&◌, refl, sym, ap, ap₂, ◌∙◌, subst, codes, append_assoc}
use Rattle.std.specs.Prelude.{Option, Some, None, if◌then◌else◌}
use Rattle.std.specs.List.{AllByRecursion}
use Rattle.std.specs.Option.{option_map, option_map_or, option_and_then}
use Rattle.std.proofs.lemmas.Bool.{and_parts, false≢true}
use lib.Pointwise.{bytes_decides}
use Rattle.css_tokens.specs.declared.kind.Kind.{Kind}
use Rattle.css_tokens.specs.declared.kind.Kind.TheVariants as kinds
use Rattle.css_tokens.specs.Again.{StaysFirst, after_ident, begins_none, word_from}
use Rattle.css_tokens.specs.Kinds.{is_kind}
use Rattle.css_tokens.specs.NameText.{name_text}
use Rattle.css_tokens.specs.Names.{is_content, is_name, name_of_word}
use Rattle.css_tokens.specs.Piece.{Piece, Word, word_of}
use Rattle.css_tokens.specs.Tokens.{First, is_url, spells}
use Rattle.css_tokens.specs.Trees.{is_text}
use Rattle.selector_types.specs.declared.selector.Attribute.{Attribute}
use Rattle.selector_types.specs.declared.selector.Test.{Test}
use Rattle.selector_types.specs.declared.selector.Test.TheVariants as tests
use Rattle.selector_tree.specs.declared.sign.Callee.{Callee}
use Rattle.selector_tree.specs.declared.sign.Callee.TheVariants as callees
use Rattle.selector_tokens.specs.Arguments.{after_white, attribute_of, begun, flagged, is_delim, is_delim_kind, is_flag, is_ident_kind, is_white, is_white_kind, lone, lone_name, name_in, named, operated, test_before_equals, test_of, value_in_kind, valued}
use Rattle.selector_types.specs.Names.{is_old_element, lowered, pseudo_text}
use Rattle.selector_types.specs.ReadableSelectors.{is_argument_text, is_clean, is_name_text, is_named, is_pseudo_of, is_readable_pseudo, is_readable_value, is_spelled, is_step_text}
use Rattle.selector_tree.specs.Signs.{callee_of}
use Rattle.selector_types.specs.Spelling.{before_close, behind, text_functions}
use Rattle.selector_types.proofs.LowerNames.{lower-name}
use Rattle.selector_tree.proofs.NamesAgain.{pseudo-kept}
use Rattle.selector_types.proofs.SpellingTexts.{maybe, behind-whole, argument-in}

-- what holds of it, where there is something
abbrev pub OfSome : {A : Type 0} → (A → Type 0) → Option A → Type 0
OfSome P None = Unit {0}
OfSome P (Some x) = P x

pub some-map : {A B : Type 0} (P : A → Type 0) (Q : B → Type 0) (f : A → B) → ((x : A) → P x → Q (f x)) → (o : Option A) → OfSome P o → OfSome Q (option_map f o)
some-map P Q f h None k = tt
some-map P Q f h (Some x) k = h x k

pub some-also : {A : Type 0} (P Q : A → Type 0) → ((x : A) → P x → Q x) → (o : Option A) → OfSome P o → OfSome Q o
some-also P Q h None k = tt
some-also P Q h (Some x) k = h x k

pub some-then : {A B : Type 0} (P : A → Type 0) (Q : B → Type 0) (f : A → Option B) → ((x : A) → P x → OfSome Q (f x)) → (o : Option A) → OfSome P o → OfSome Q (option_and_then f o)
some-then P Q f h None k = tt
some-then P Q f h (Some x) k = h x k

pub some-where : {A : Type 0} (P : A → Type 0) (o : Option A) (b : Bool) → OfSome P o → OfSome P (if b then o else None)
some-where P o true h = h
some-where P o false h = tt

-- Tokens that mean what can be written.

abbrev pub IsGood : Piece → Type 0
IsGood p = is_spelled (word_of p) ≡ true

abbrev pub AreGood : List Piece → Type 0
AreGood ps = AllByRecursion IsGood ps

named-good : (p : Piece) → IsGood p → is_named p.kind p.text ≡ true
named-good p h = (and_parts (is_clean p.text) (is_named p.kind p.text) h).1

after-good : (ps : List Piece) → AreGood ps → AreGood (after_white ps)
after-good [] h = tt
after-good (p ∷ ps) h = at (is_white_kind p.kind) (after-good ps h.1)
  where
    at : (b : Bool) → AreGood (after_white ps) → AreGood (if b then after_white ps else p ∷ ps)
    at true k = k
    at false k = h

abbrev pub IsName : List ℕ → Type 0
IsName n = is_name n ≡ true

abbrev IsContent : List ℕ → Type 0
IsContent t = is_content t ≡ true

name-at : (k : Kind) (text : List ℕ) → is_named k text ≡ true → OfSome IsName (if is_ident_kind k then Some (name_of_word k text) else None)
name-at kinds.Ident text h = h
name-at k text h = tt

name-good : (p : Piece) → IsGood p → OfSome IsName (name_in p)
name-good p h = name-at p.kind p.text (named-good p h)

name-content : (n : List ℕ) → is_name n ≡ true → is_content n ≡ true
name-content [] h = absurd (false≢true h)
name-content (b ∷ n) h = h

value-at : (k : Kind) (text : List ℕ) → is_named k text ≡ true → OfSome IsContent (value_in_kind k text)
value-at kinds.Ident text h = name-content (name_of_word kinds.Ident text) h
value-at kinds.String text h = h
value-at k text h = tt

-- Attribute selectors.

abbrev pub AttributeGood : Attribute → Type 0
AttributeGood a = (is_name a.name ≡ true) × (is_readable_value a.test a.value ≡ true)

-- the test takes a value
abbrev TakesValue : Test → Type 0
TakesValue test = (value : List ℕ) → is_content value ≡ true → is_readable_value test value ≡ true

flagged-good : (name : List ℕ) (test : Test) (value : List ℕ) (ps : List Piece) → IsName name → is_readable_value test value ≡ true → OfSome AttributeGood (flagged name test value ps)
flagged-good name test value [] n v = (n, v)
flagged-good name test value (p ∷ ps) n v = some-where AttributeGood (Some (record { name = name; test = test; value = value; flag = true })) (is_flag p && is_white ps) (n, v)

valued-good : (name : List ℕ) (test : Test) (ps : List Piece) → IsName name → TakesValue test → AreGood ps → OfSome AttributeGood (valued name test ps)
valued-good name test [] n t h = tt
valued-good name test (p ∷ ps) n t h =
    some-then IsContent AttributeGood (λ value. flagged name test value (after_white ps)) (λ value c. flagged-good name test value (after_white ps) n (t value c)) (value_in_kind p.kind p.text) (value-at p.kind p.text (named-good p h.0))

operated-good : (name : List ℕ) (test : Test) (ps : List Piece) → IsName name → TakesValue test → AreGood ps → OfSome AttributeGood (operated name test ps)
operated-good name test [] n t h = tt
operated-good name test (p ∷ ps) n t h = some-where AttributeGood (valued name test (after_white ps)) (is_delim (codes "=") p) (valued-good name test (after_white ps) n t (after-good ps h.1))

abbrev test_from : Bool → Bool → Bool → Bool → Bool → Option Test
test_from a b c d e = if a then Some tests.Word else (if b then Some tests.Dash else (if c then Some tests.Prefix else (if d then Some tests.Suffix else (if e then Some tests.Contains else None))))

test-good : (a b c d e : Bool) → OfSome TakesValue (test_from a b c d e)
test-good true b c d e = λ v h. h
test-good false true c d e = λ v h. h
test-good false false true d e = λ v h. h
test-good false false false true e = λ v h. h
test-good false false false false true = λ v h. h
test-good false false false false false = tt

test_of-good : (p : Piece) → OfSome TakesValue (test_of p)
test_of-good p = (let t = p.text in at (is_delim_kind p.kind) (test_before_equals t) (test-good (is_text t (codes "~")) (is_text t (codes "|")) (is_text t (codes "^")) (is_text t (codes "$")) (is_text t (codes "*"))))
  where
    at : (b : Bool) (o : Option Test) → OfSome TakesValue o → OfSome TakesValue (if b then o else None)
    at b o h = some-where TakesValue o b h

named-tokens : (name : List ℕ) (ps : List Piece) → IsName name → AreGood ps → OfSome AttributeGood (named name ps)
named-tokens name [] n h = (n, refl)
named-tokens name (p ∷ ps) n h =
    at (is_delim (codes "=") p)
    (valued-good name tests.Equals (after_white ps) n (λ v k. k) (after-good ps h.1))
    (some-then TakesValue AttributeGood (λ test. operated name test ps) (λ test t. operated-good name test ps n t h.1) (test_of p) (test_of-good p))
  where
    at : (b : Bool) → OfSome AttributeGood (valued name tests.Equals (after_white ps)) → OfSome AttributeGood (option_and_then (λ test. operated name test ps) (test_of p))
        → OfSome AttributeGood (if b then valued name tests.Equals (after_white ps) else option_and_then (λ test. operated name test ps) (test_of p))
    at true x y = x
    at false x y = y

begun-good : (ps : List Piece) → AreGood ps → OfSome AttributeGood (begun ps)
begun-good [] h = tt
begun-good (p ∷ ps) h = some-then IsName AttributeGood (λ name. named name (after_white ps)) (λ name n. named-tokens name (after_white ps) n (after-good ps h.1)) (name_in p) (name-good p h.0)

pub attribute-good : (ps : List Piece) → AreGood ps → OfSome AttributeGood (attribute_of ps)
attribute-good ps h = begun-good (after_white ps) (after-good ps h)

-- Names alone.

lone-good : (ps : List Piece) → AreGood ps → OfSome IsName (lone ps)
lone-good [] h = tt
lone-good (p ∷ ps) h = some-where IsName (name_in p) (is_white ps) (name-good p h.0)

pub lone_name-good : (ps : List Piece) → AreGood ps → OfSome IsName (lone_name ps)
lone_name-good ps h = lone-good (after_white ps) (after-good ps h)

-- Pseudo-classes with an argument.

before-close : (a : List ℕ) → before_close (a ++ codes ")") ≡ Some a
before-close [] = refl
before-close (b ∷ []) = refl
before-close (b ∷ c ∷ a) = ap (option_map (λ front. b ∷ front)) (before-close (c ∷ a))

abbrev pub called : List ℕ → List ℕ → List ℕ
called name a = name ++ (codes "(" ++ (a ++ codes ")"))

-- the pseudo-class of this name keeps such an argument
abbrev KeepsStep : List ℕ → Type 0
KeepsStep name = (a : List ℕ) → is_step_text a ≡ true → is_readable_pseudo (called name a) ≡ true

abbrev KeepsName : List ℕ → Type 0
KeepsName name = (a : List ℕ) → is_name_text a ≡ true → is_readable_pseudo (called name a) ≡ true

abbrev closes_with : List ℕ → List (List ℕ) → List ℕ → Option (List ℕ) → Bool
closes_with f fs text o = option_map_or (is_argument_text f) o (is_pseudo_of fs text)

step-child : KeepsStep (codes "nth-child")
step-child a h = ap (closes_with (codes "nth-child(") (codes "nth-last-child(" ∷ codes "nth-of-type(" ∷ codes "nth-last-of-type(" ∷ codes "lang(" ∷ []) (called (codes "nth-child") a)) (before-close a) ∙ h

step-last-child : KeepsStep (codes "nth-last-child")
step-last-child a h = ap (closes_with (codes "nth-last-child(") (codes "nth-of-type(" ∷ codes "nth-last-of-type(" ∷ codes "lang(" ∷ []) (called (codes "nth-last-child") a)) (before-close a) ∙ h

step-type : KeepsStep (codes "nth-of-type")
step-type a h = ap (closes_with (codes "nth-of-type(") (codes "nth-last-of-type(" ∷ codes "lang(" ∷ []) (called (codes "nth-of-type") a)) (before-close a) ∙ h

step-last-type : KeepsStep (codes "nth-last-of-type")
step-last-type a h = ap (closes_with (codes "nth-last-of-type(") (codes "lang(" ∷ []) (called (codes "nth-last-of-type") a)) (before-close a) ∙ h

name-lang : KeepsName (codes "lang")
name-lang a h = ap (closes_with (codes "lang(") [] (called (codes "lang") a)) (before-close a) ∙ h

abbrev pub CalleeGood : Callee → List ℕ → Type 0
CalleeGood callees.Step name = KeepsStep name
CalleeGood callees.Lang name = KeepsName name
CalleeGood callee name = Unit {0}

is-name : (P : List ℕ → Type 0) (name other : List ℕ) → true ≡ is_text name other → P other → P name
is-name P name other e h = subst P (sym ((bytes_decides name other).0 (sym e))) h

callee-at : (name : List ℕ) (a b c d e f g h i j : Bool)
    → f ≡ is_text name (codes "nth-child") → g ≡ is_text name (codes "nth-last-child") → h ≡ is_text name (codes "nth-of-type") → i ≡ is_text name (codes "nth-last-of-type") → j ≡ is_text name (codes "lang")
    → CalleeGood (if a then callees.Not else (if b then callees.Is else (if c then callees.Where else (if d then callees.Local else (if e then callees.Global else (if f then callees.Step else (if g then callees.Step else (if h then callees.Step else (if i then callees.Step else (if j then callees.Lang else callees.Other)))))))))) name
callee-at name true b c d e f g h i j p q r s t = tt
callee-at name false true c d e f g h i j p q r s t = tt
callee-at name false false true d e f g h i j p q r s t = tt
callee-at name false false false true e f g h i j p q r s t = tt
callee-at name false false false false true f g h i j p q r s t = tt
callee-at name false false false false false true g h i j p q r s t = is-name KeepsStep name (codes "nth-child") p step-child
callee-at name false false false false false false true h i j p q r s t = is-name KeepsStep name (codes "nth-last-child") q step-last-child
callee-at name false false false false false false false true i j p q r s t = is-name KeepsStep name (codes "nth-of-type") r step-type
callee-at name false false false false false false false false true j p q r s t = is-name KeepsStep name (codes "nth-last-of-type") s step-last-type
callee-at name false false false false false false false false false true p q r s t = is-name KeepsName name (codes "lang") t name-lang
callee-at name false false false false false false false false false false p q r s t = tt

pub callee-good : (name : List ℕ) → CalleeGood (callee_of name) name
callee-good name =
    callee-at name (is_text name (codes "not")) (is_text name (codes "is")) (is_text name (codes "where")) (is_text name (codes "local")) (is_text name (codes "global"))
    (is_text name (codes "nth-child")) (is_text name (codes "nth-last-child")) (is_text name (codes "nth-of-type")) (is_text name (codes "nth-last-of-type")) (is_text name (codes "lang")) refl refl refl refl refl

-- Pseudo-classes without one. The text of a name is no Function.

-- what the token crate ensures of the texts of names, and of Functions
pub record Meanings : Type 0 where
  pub ident : (n : List ℕ) → is_name n ≡ true → name_of_word kinds.Ident (name_text n) ≡ n
  pub stays : (n rest : List ℕ) → is_name n ≡ true → begins_none after_ident rest ≡ true → StaysFirst (word_from kinds.Ident (name_text n)) rest
  pub function : (u rest : List ℕ) → spells kinds.Function u ≡ true → is_url u ≡ false → StaysFirst (word_from kinds.Function u) rest

record IsFunction (f : List ℕ) : Type 0 where
  spelled : spells kinds.Function f ≡ true
  other : is_url f ≡ false

abbrev all_functions : List (List ℕ) → Type 0
all_functions [] = Unit {0}
all_functions (f ∷ fs) = IsFunction f × all_functions fs

functions-are : all_functions text_functions
unfolding spells
functions-are =
    let is : (f : List ℕ) → spells kinds.Function f ≡ true → is_url f ≡ false → IsFunction f = λ f a b. record { spelled = a; other = b } in
    (is _ refl refl, (is _ refl refl, (is _ refl refl, (is _ refl refl, (is _ refl refl, tt)))))

abbrev is_ident_word : Option Word → Bool
is_ident_word o = option_map_or (λ w. is_kind w.kind kinds.Ident) o false

module _ (means : Meanings) where
  no-function : (n f rest : List ℕ) → is_name n ≡ true → IsFunction f → name_text n ≡ f ++ rest → ⊥
  no-function n f rest h is e =
      (let text = f ++ (rest ++ []) in
      let same : name_text n ++ [] ≡ text = ap (λ (t : List ℕ). t ++ []) e ∙ append_assoc f rest [] in
      let ident : First text (word_from kinds.Ident (name_text n)) = subst (λ (t : List ℕ). First t (word_from kinds.Ident (name_text n))) same (means.stays n [] h refl) in
      let function : First text (word_from kinds.Function f) = means.function f (rest ++ []) is.spelled is.other in
      false≢true (ap is_ident_word (sym function ∙ ident)))

  pseudo-of : (n : List ℕ) (fs : List (List ℕ)) → is_name n ≡ true → all_functions fs → is_pseudo_of fs (name_text n) ≡ is_pseudo_of [] (name_text n)
  pseudo-of n [] h is = refl
  pseudo-of n (f ∷ fs) h is = at (option_and_then before_close (behind f (name_text n))) (argument-in f (name_text n) (behind f (name_text n)) (behind-whole f (name_text n))) ∙ pseudo-of n fs h is.1
    where
      at : (o : Option (List ℕ)) → maybe o (λ r. name_text n ≡ f ++ (r ++ codes ")")) → option_map_or (is_argument_text f) o (is_pseudo_of fs (name_text n)) ≡ is_pseudo_of fs (name_text n)
      at None e = refl
      at (Some r) e = absurd (no-function n f (r ++ codes ")") h is.0 e)

  -- what is kept of a name
  pub pseudo-readable : (n : List ℕ) → is_name n ≡ true → is_old_element (pseudo_text n) ≡ false → is_readable_pseudo (pseudo_text n) ≡ true
  pseudo-readable n h old = pseudo-of (lowered n) text_functions (lower-name n h) functions-are ∙ ap₂ ◌&&◌ (pseudo-kept means.ident n h) (ap not old)
