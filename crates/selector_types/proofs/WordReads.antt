-- Words that are read again one after another, and what may stand next to each other.
use Rattle.std.proofs.Common.{◌≡◌, ℕ, ◌≤◌, ◌-◌, suc, List, [], ◌∷◌, ◌++◌, length, drop, Bool, true, false, ◌&&◌, ◌⊎◌, inl, inr, nat_eq, refl, sym, ap, ◌∙◌, subst, append_assoc, arith, codes}
use Rattle.std.proofs.Math.Seq.{drop-append_seam}
use Rattle.std.proofs.lemmas.Bool.{cases_Bool, false≢true}
use Rattle.std.proofs.lemmas.Grind.{flat_map-append}
use Rattle.std.proofs.lemmas.List.{append-nil}
use Rattle.std.specs.List.{AllByRecursion, list_all}
use lib.Pointwise.{pointwise, bytes_decides}
use Rattle.css_tokens.specs.declared.kind.Kind.TheVariants as kinds
use Rattle.css_tokens.specs.Again.{StaysFirst, word_from, marks, begins_none, after_ident, after_name, more_name, digit, digit_or_dot}
use Rattle.css_tokens.specs.Characters.{white}
use Rattle.css_tokens.specs.NameText.{name_text}
use Rattle.css_tokens.specs.Names.{is_content, is_name}
use Rattle.css_tokens.specs.Piece.{Word, spelled}
use Rattle.css_tokens.specs.PlainNames.{is_plain, is_plain_name}
use Rattle.css_tokens.specs.StringText.{string_text}
use Rattle.css_tokens.specs.Tokens.{First, ReadsTo, is_refused, is_url, spells}
use Rattle.css_tokens.specs.Trees.{is_text}
use Rattle.css_tokens.specs.Numbers.{is_digits, is_sign}
use Rattle.selector_types.specs.Spelling.{ends_in_dashes}

-- what is ensured of single words
pub record Laws : Type 0 where
  pub composes : (xs ys : List Word) (s r : List ℕ) → ReadsTo (spelled xs ++ s) xs s → ReadsTo s ys r → ReadsTo (spelled xs ++ s) (xs ++ ys) r
  pub marked : AllByRecursion (λ w. (rest : List ℕ) → StaysFirst w rest) marks
  pub dotted : (rest : List ℕ) → begins_none digit rest ≡ true → StaysFirst (word_from kinds.Delim (codes ".")) rest
  pub added : (rest : List ℕ) → begins_none digit_or_dot rest ≡ true → StaysFirst (word_from kinds.Delim (codes "+")) rest
  pub added_dot : (rest : List ℕ) → begins_none digit rest ≡ true → StaysFirst (word_from kinds.Delim (codes "+")) (codes "." ++ rest)
  pub spaced : (rest : List ℕ) → begins_none white rest ≡ true → StaysFirst (word_from kinds.White (codes " ")) rest
  pub ident : (n rest : List ℕ) → is_name n ≡ true → begins_none after_ident rest ≡ true → StaysFirst (word_from kinds.Ident (name_text n)) rest
  pub child : (n rest : List ℕ) → is_name n ≡ true → (name_text n ≡ codes "--" → ⊥) → begins_none after_name rest ≡ true → StaysFirst (word_from kinds.Ident (name_text n)) rest
  pub hashed : (n rest : List ℕ) → is_name n ≡ true → begins_none more_name rest ≡ true → StaysFirst (word_from kinds.Hash (codes "#" ++ name_text n)) rest
  pub no_digit : (n rest : List ℕ) → is_name n ≡ true → begins_none digit (name_text n ++ rest) ≡ true
  pub no_dot : (n rest : List ℕ) → is_name n ≡ true → begins_none digit_or_dot (name_text n ++ rest) ≡ true
  pub no_white : (n rest : List ℕ) → is_name n ≡ true → begins_none white (name_text n ++ rest) ≡ true
  pub called : (u rest : List ℕ) → spells kinds.Function u ≡ true → is_url u ≡ false → StaysFirst (word_from kinds.Function u) rest
  pub quoted : (u rest : List ℕ) → spells kinds.String u ≡ true → StaysFirst (word_from kinds.String u) rest
  pub stringed : (t : List ℕ) → is_content t ≡ true → spells kinds.String (string_text t) ≡ true
  pub plained : (n : List ℕ) → is_plain_name n ≡ true → name_text n ≡ n
  pub numbered : (sign ds rest : List ℕ) → is_sign sign ≡ true → is_digits ds ≡ true → StaysFirst (word_from kinds.Number (sign ++ ds)) (codes ")" ++ rest)
  pub measured : (sign ds w rest : List ℕ) → is_sign sign ≡ true → is_digits ds ≡ true → list_all is_plain w ≡ true → begins_none more_name rest ≡ true → StaysFirst (word_from kinds.Dimension (sign ++ (ds ++ 110 ∷ w))) rest

-- Words before a text that is read on from there.

abbrev pub ReadsBefore : List Word → List ℕ → Type 0
ReadsBefore ws rest = ReadsTo (spelled ws ++ rest) ws rest

pub spelled-append : (xs ys : List Word) → spelled (xs ++ ys) ≡ spelled xs ++ spelled ys
spelled-append xs ys = flat_map-append (λ (w : Word). w.text) xs ys

pub spelled-both : (xs ys : List Word) (rest : List ℕ) → spelled (xs ++ ys) ++ rest ≡ spelled xs ++ (spelled ys ++ rest)
spelled-both xs ys rest = ap (λ (t : List ℕ). t ++ rest) (spelled-append xs ys) ∙ append_assoc (spelled xs) (spelled ys) rest

-- one word more in front
pub reads-first : (w : Word) (ws : List Word) (rest : List ℕ) → StaysFirst w (spelled ws ++ rest) → is_refused w.kind ≡ false → ReadsBefore ws rest → ReadsBefore (w ∷ ws) rest
reads-first w ws rest first kind more =
    let whole : spelled (w ∷ ws) ++ rest ≡ w.text ++ (spelled ws ++ rest) = append_assoc w.text (spelled ws) rest in (
      subst (λ (t : List ℕ). First t w) (sym whole) first,
      kind,
      subst (λ (t : List ℕ). ReadsTo t ws rest) (sym (ap (drop (length w.text)) whole ∙ drop-append_seam w.text (spelled ws ++ rest))) more,
    )

-- one word alone
pub reads-alone : (w : Word) (rest : List ℕ) → StaysFirst w rest → is_refused w.kind ≡ false → ReadsBefore (w ∷ []) rest
reads-alone w rest first kind = reads-first w [] rest first kind refl

-- What stands behind a name.

-- nothing of it makes a token before it longer that is a Hash, or an Ident other than `--`, and where the text before ends in `--`, no Ident
abbrev pub Follows : List ℕ → List ℕ → Type 0
Follows text rest = (begins_none more_name rest ≡ true) × (begins_none after_name rest ≡ true) × (ends_in_dashes text ≡ true → begins_none after_ident rest ≡ true)

-- nothing of it makes an Ident or a Hash longer
pub record Calm (rest : List ℕ) : Type 0 where
  pub hash : begins_none more_name rest ≡ true
  pub name : begins_none after_name rest ≡ true
  pub ident : begins_none after_ident rest ≡ true

pub follows-calm : (text rest : List ℕ) → Calm rest → Follows text rest
follows-calm text rest c = (c.hash, c.name, λ e. c.ident)

-- A text that ends in a text that ends in `--` does so too.

and-first : (a : Bool) → (a && false) ≡ true → ⊥
and-first true h = false≢true h
and-first false h = false≢true h

two-long : (text : List ℕ) → ends_in_dashes text ≡ true → 2 ≤ length text
two-long [] h = absurd (false≢true h)
two-long (x ∷ []) h = absurd (and-first (nat_eq 45 x) h)
two-long (x ∷ y ∷ text) h = omega arith

ends-one : (x : ℕ) (text : List ℕ) → 2 ≤ length text → ends_in_dashes (x ∷ text) ≡ ends_in_dashes text
ends-one x text h =
    let e : length (x ∷ text) - 2 ≡ suc (length text - 2) = omega arith in
    ap (λ (n : ℕ). pointwise nat_eq (codes "--") (drop n (x ∷ text))) e

ends-behind : (front text : List ℕ) → ends_in_dashes text ≡ true → ends_in_dashes (front ++ text) ≡ true
ends-behind [] text h = h
ends-behind (x ∷ front) text h =
    let k = ends-behind front text h in
    ends-one x (front ++ text) (two-long (front ++ text) k) ∙ k

pub follows-behind : (front text rest : List ℕ) → Follows (front ++ text) rest → Follows text rest
follows-behind front text rest f = (f.0, f.1, λ e. f.2 (ends-behind front text e))

-- Words that are read before what may follow their text.

abbrev pub Stands : List Word → Type 0
Stands ws = (rest : List ℕ) → Follows (spelled ws) rest → ReadsBefore ws rest

-- there are none, or they begin with nothing that makes a name longer
abbrev pub Begins : List Word → Type 0
Begins ws = (ws ≡ []) ⊎ ((rest : List ℕ) → Calm (spelled ws ++ rest))

-- what may stand behind a combinator
pub record Starts (ws : List Word) : Type 0 where
  pub white : (rest : List ℕ) → begins_none white (spelled ws ++ rest) ≡ true
  pub plus : (rest : List ℕ) → StaysFirst (word_from kinds.Delim (codes "+")) (spelled ws ++ rest)

pub begins-append : (xs ys : List Word) → Begins xs → Begins ys → Begins (xs ++ ys)
begins-append xs ys (inl e) b = subst (λ (ws : List Word). Begins (ws ++ ys)) (sym e) b
begins-append xs ys (inr c) b = inr (λ rest. subst Calm (sym (spelled-both xs ys rest)) (c (spelled ys ++ rest)))

pub starts-front : (xs ys : List Word) → Starts xs → Starts (xs ++ ys)
starts-front xs ys s = record {
  white = λ rest. ap (begins_none white) (spelled-both xs ys rest) ∙ s.white (spelled ys ++ rest);
  plus = λ rest. subst (λ (t : List ℕ). StaysFirst (word_from kinds.Delim (codes "+")) t) (sym (spelled-both xs ys rest)) (s.plus (spelled ys ++ rest));
}

module _ (l : Laws) where
  pub reads-append : (xs ys : List Word) (rest : List ℕ) → ReadsBefore xs (spelled ys ++ rest) → ReadsBefore ys rest → ReadsBefore (xs ++ ys) rest
  reads-append xs ys rest h k = subst (λ (t : List ℕ). ReadsTo t (xs ++ ys) rest) (sym (spelled-both xs ys rest)) (l.composes xs ys (spelled ys ++ rest) rest h k)

  pub stands-append : (xs ys : List Word) → Stands xs → Stands ys → Begins ys → Stands (xs ++ ys)
  stands-append xs ys s t (inl e) = subst Stands (sym (ap (λ (ws : List Word). xs ++ ws) e ∙ append-nil xs)) s
  stands-append xs ys s t (inr c) = λ rest f.
      let g : Follows (spelled xs ++ spelled ys) rest = subst (λ (u : List ℕ). Follows u rest) (spelled-append xs ys) f in
      reads-append xs ys rest (s (spelled ys ++ rest) (follows-calm (spelled xs) (spelled ys ++ rest) (c rest))) (t rest (follows-behind (spelled xs) (spelled ys) rest g))

  -- a name before what may follow it
  pub name-stays : (n rest : List ℕ) → is_name n ≡ true → Follows (name_text n) rest → StaysFirst (word_from kinds.Ident (name_text n)) rest
  name-stays n rest h f = elim (cases_Bool (is_text (name_text n) (codes "--"))) [
    | inl e ↦ l.ident n rest h (f.2 (ap ends_in_dashes ((bytes_decides (name_text n) (codes "--")).0 e)))
    | inr e ↦ l.child n rest h (λ i. false≢true (sym e ∙ ap (λ (t : List ℕ). is_text t (codes "--")) i)) f.1
  ]
