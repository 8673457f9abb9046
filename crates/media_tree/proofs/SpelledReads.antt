-- Conditions that are spelled out are read before whatever follows them.
use Rattle.std.proofs.Common.{◌≡◌, ℕ, List, [], ◌∷◌, ◌++◌, map, true, refl, sym, ap, ◌∙◌, subst, append_assoc, codes}
use Rattle.std.specs.List.{AllByRecursion}
use Rattle.std.specs.Str.{chars, is_utf8}
use Rattle.std.proofs.lemmas.Grind.{flat_map-append}
use lib.Utf8.{encode}
use Rattle.css_tokens.specs.declared.kind.Kind.TheVariants as kinds
use Rattle.css_tokens.specs.declared.component.Component.{Component}
use Rattle.css_tokens.specs.Again.{StaysFirst, after_ident, begins_none, marks, word_from}
use Rattle.css_tokens.specs.Characters.{white}
use Rattle.css_tokens.specs.NameText.{name_text}
use Rattle.css_tokens.specs.Names.{is_name}
use Rattle.css_tokens.specs.Piece.{Word, spelled}
use Rattle.css_tokens.specs.PlainNames.{is_plain_name}
use Rattle.css_tokens.specs.Tokens.{ReadsTo}
use Rattle.css_tokens.specs.Trees.{words_all}
use Rattle.media_spelling.specs.Components.{ident, keyword, parens, space, text_of}
use Rattle.media_spelling.specs.Spelling.{Spelled, alternative, compound, enclosed, further, joined, negated}
use Rattle.media_tree.proofs.PartsOfTexts.{words-block, words-cons}
use Rattle.media_tree.proofs.QueriesBegin.{IsDark, parens-dark, single-dark}
use Rattle.media_tree.proofs.WordsRead.{ReadsOn, on-nothing, on-single, text-first, word-first, words-append}

-- what is ensured of words
pub record Words : Type 0 where
  pub composes : (xs ys : List Word) (s r : List ℕ) → ReadsTo (spelled xs ++ s) xs s → ReadsTo s ys r → ReadsTo (spelled xs ++ s) (xs ++ ys) r
  pub marked : AllByRecursion (λ w. (rest : List ℕ) → StaysFirst w rest) marks
  pub spaced : (rest : List ℕ) → begins_none white rest ≡ true → StaysFirst (word_from kinds.White (codes " ")) rest
  pub ident : (n rest : List ℕ) → is_name n ≡ true → begins_none after_ident rest ≡ true → StaysFirst (word_from kinds.Ident (name_text n)) rest
  pub plain : (n : List ℕ) → is_plain_name n ≡ true → name_text n ≡ n

-- these components are read whatever follows them
abbrev pub ReadsAnywhere : List Component → Type 0
ReadsAnywhere cs = (rest : List ℕ) → ReadsOn cs rest

-- these are read before a closing parenthesis
abbrev pub ReadsInside : List Component → Type 0
ReadsInside cs = (rest : List ℕ) → ReadsOn cs (codes ")" ++ rest)

-- a keyword
pub record IsKeyword (t : List ℕ) : Type 0 where
  pub name : is_name t ≡ true
  pub plain : is_plain_name t ≡ true
  pub dark : (rest : List ℕ) → begins_none white (t ++ rest) ≡ true

joined-text : (xs ys : List Word) (rest : List ℕ) → spelled (xs ++ ys) ++ rest ≡ spelled xs ++ (spelled ys ++ rest)
joined-text xs ys rest = ap (λ (t : List ℕ). t ++ rest) (flat_map-append (λ (w : Word). w.text) xs ys) ∙ append_assoc (spelled xs) (spelled ys) rest

-- a condition that is spelled: in another condition it stands in parentheses, and it is read wherever it stands
pub record SpelledReads (s : Spelled) : Type 0 where
  pub items : List Component
  pub inside : s.inside ≡ parens items ∷ []
  pub inner : ReadsInside items
  pub alone : ReadsAnywhere s.alone
  pub behind : ReadsAnywhere s.behind
  pub dark : IsDark s.behind

module _ (w : Words) where
  pub on-append : (xs ys : List Component) (rest : List ℕ) → ReadsOn xs (text_of ys ++ rest) → ReadsOn ys rest → ReadsOn (xs ++ ys) rest
  on-append xs ys rest h k =
      (let wx = words_all xs in
      let wy = words_all ys in
      let both = subst (λ (t : List ℕ). ReadsTo t (wx ++ wy) rest) (sym (joined-text wx wy rest)) (w.composes wx wy (spelled wy ++ rest) rest h k) in
      subst (λ (ws : List Word). ReadsTo (spelled ws ++ rest) ws rest) (sym (words-append xs ys)) both)

  open_stays : (rest : List ℕ) → StaysFirst (word_from kinds.Open (codes "(")) rest
  open_stays = w.marked.1.1.0

  close_stays : (rest : List ℕ) → StaysFirst (word_from kinds.Close (codes ")")) rest
  close_stays = w.marked.1.1.1.0

  pub parens-on : (items cs : List Component) (rest : List ℕ) → ReadsOn items (codes ")" ++ (text_of cs ++ rest)) → ReadsOn cs rest → ReadsOn (parens items ∷ cs) rest
  parens-on items cs rest h k =
      (let opening = word_from kinds.Open (codes "(") in
      let close = word_from kinds.Close (codes ")") in
      let wi = words_all items in
      let wc = words_all cs in
      let words : words_all (parens items ∷ cs) ≡ opening ∷ (wi ++ close ∷ wc) =
      words-cons (parens items) cs ∙ ap (λ (ws : List Word). ws ++ wc) (words-block _) ∙ ap (λ (ws : List Word). opening ∷ ws) (append_assoc wi (close ∷ []) wc) in
      let tail : ReadsTo (codes ")" ++ (spelled wc ++ rest)) (close ∷ wc) rest = word-first close wc rest (close_stays (spelled wc ++ rest)) refl k in
      let inner = subst (λ (t : List ℕ). ReadsTo t (wi ++ close ∷ wc) rest) (sym (joined-text wi (close ∷ wc) rest)) (w.composes wi (close ∷ wc) (codes ")" ++ (spelled wc ++ rest)) rest h tail) in
      subst (λ (ws : List Word). ReadsTo (spelled ws ++ rest) ws rest) (sym words)
      (word-first opening (wi ++ close ∷ wc) rest (open_stays (spelled (wi ++ close ∷ wc) ++ rest)) refl inner))

  pub parens-anywhere : (items : List Component) → ReadsInside items → ReadsAnywhere (parens items ∷ [])
  parens-anywhere items h rest = parens-on items [] rest (h rest) (on-nothing rest)

  pub space-on : (cs : List Component) (rest : List ℕ) → IsDark cs → ReadsOn cs rest → ReadsOn (space ∷ cs) rest
  space-on cs rest dark k = on-single kinds.White (codes " ") cs rest refl (w.spaced (text_of cs ++ rest) (dark rest)) k

  -- a keyword before a space
  pub keyword-on : (t : List ℕ) (cs : List Component) (rest : List ℕ) → IsKeyword t → ReadsOn (space ∷ cs) rest → ReadsOn (keyword t ∷ space ∷ cs) rest
  keyword-on t cs rest is k =
      (let before : begins_none after_ident (text_of (space ∷ cs) ++ rest) ≡ true = ap (begins_none after_ident) (text-first kinds.White (codes " ") cs rest) in
      on-single kinds.Ident t (space ∷ cs) rest refl
      (subst (λ (u : List ℕ). StaysFirst (word_from kinds.Ident u) (text_of (space ∷ cs) ++ rest)) (w.plain t is.plain) (w.ident t (text_of (space ∷ cs) ++ rest) is.name before)) k)

  -- what stands in parentheses, behind a keyword with spaces round it
  joint-on : (t : List ℕ) (items cs : List Component) (rest : List ℕ) → IsKeyword t → ReadsOn (parens items ∷ cs) rest → ReadsOn (space ∷ keyword t ∷ space ∷ parens items ∷ cs) rest
  joint-on t items cs rest is k =
      space-on (keyword t ∷ space ∷ parens items ∷ cs) rest (single-dark t (space ∷ parens items ∷ cs) is.dark)
      (keyword-on t (parens items ∷ cs) rest is (space-on (parens items ∷ cs) rest (parens-dark items cs) k))

  module _ {A : Type 0} (spell : A → Spelled) (t : List ℕ) (is : IsKeyword t) where
    abbrev AllRead : List A → Type 0
    AllRead xs = AllByRecursion (λ x. SpelledReads (spell x)) xs

    further-read : (xs : List A) → AllRead xs → ReadsAnywhere (further t (map spell xs))
    further-read [] h rest = on-nothing rest
    further-read (x ∷ xs) h rest =
        (let here = h.0 in
        let more = further t (map spell xs) in
        subst (λ (cs : List Component). ReadsOn (space ∷ keyword t ∷ space ∷ (cs ++ more)) rest) (sym here.inside)
        (joint-on t here.items more rest is (parens-on here.items more rest (here.inner (text_of more ++ rest)) (further-read xs h.1 rest))))

    -- a row of conditions
    pub row-read : (x : A) (xs : List A) → AllRead (x ∷ xs) → ReadsAnywhere (joined t (map spell (x ∷ xs)))
    row-read x xs h rest =
        (let here = h.0 in
        let more = further t (map spell xs) in
        subst (λ (cs : List Component). ReadsOn (cs ++ more) rest) (sym here.inside)
        (parens-on here.items more rest (here.inner (text_of more ++ rest)) (further-read xs h.1 rest)))

    pub row-dark : (x : A) (xs : List A) → AllRead (x ∷ xs) → IsDark (joined t (map spell (x ∷ xs)))
    row-dark x xs h =
        (let here = h.0 in
        let more = further t (map spell xs) in
        subst (λ (cs : List Component). IsDark (cs ++ more)) (sym here.inside) (parens-dark here.items more))

  -- a condition behind `not`
  negated-read : IsKeyword (codes "not") → (s : Spelled) → SpelledReads s → ReadsAnywhere (negated s)
  negated-read is s h rest =
      subst (λ (cs : List Component). ReadsOn (keyword (codes "not") ∷ space ∷ cs) rest) (sym h.inside)
      (keyword-on (codes "not") (parens h.items ∷ []) rest is (space-on (parens h.items ∷ []) rest (parens-dark h.items []) (parens-anywhere h.items h.inner rest)))

  pub reads-enclosed : (items : List Component) → ReadsInside items → SpelledReads (enclosed (parens items))
  reads-enclosed items h = record { items = items; inside = refl; inner = h; alone = parens-anywhere items h; behind = parens-anywhere items h; dark = parens-dark items [] }

  pub reads-compound : (cs : List Component) → ReadsAnywhere cs → IsDark cs → SpelledReads (compound cs)
  reads-compound cs h d = record { items = cs; inside = refl; inner = λ rest. h (codes ")" ++ rest); alone = h; behind = h; dark = d }

  pub reads-alternative : (cs : List Component) → ReadsAnywhere cs → SpelledReads (alternative cs)
  reads-alternative cs h =
      (let inner : ReadsInside cs = λ rest. h (codes ")" ++ rest) in
      record { items = cs; inside = refl; inner = inner; alone = h; behind = parens-anywhere cs inner; dark = parens-dark cs [] })

  pub reads-negated : IsKeyword (codes "not") → (s : Spelled) → SpelledReads s → SpelledReads (compound (negated s))
  reads-negated is s h = reads-compound (negated s) (negated-read is s h) (single-dark (codes "not") (space ∷ s.inside) is.dark)

-- The keywords.

pub is-and : IsKeyword (codes "and")
unfolding is_utf8 chars encode
is-and = record { name = refl; plain = refl; dark = λ rest. refl }

pub is-or : IsKeyword (codes "or")
unfolding is_utf8 chars encode
is-or = record { name = refl; plain = refl; dark = λ rest. refl }

pub is-not : IsKeyword (codes "not")
unfolding is_utf8 chars encode
is-not = record { name = refl; plain = refl; dark = λ rest. refl }

pub is-only : IsKeyword (codes "only")
unfolding is_utf8 chars encode
is-only = record { name = refl; plain = refl; dark = λ rest. refl }
