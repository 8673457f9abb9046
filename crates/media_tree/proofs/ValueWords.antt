-- The words of values before what may follow them, from what is ensured of words.
use Rattle.std.proofs.Common.{◌≡◌, ℕ, List, [], ◌∷◌, ◌++◌, Bool, true, false, refl, sym, ap, ◌∙◌, codes}
use Rattle.std.specs.Prelude.{if◌then◌else◌}
use Rattle.std.specs.List.{AllByRecursion}
use Rattle.std.proofs.lemmas.Bool.{false≢true}
use Rattle.css_tokens.specs.declared.kind.Kind.{Kind}
use Rattle.css_tokens.specs.declared.kind.Kind.TheVariants as kinds
use Rattle.css_tokens.specs.Again.{Alike, KeepsQuote, StaysFirst, bang, begins_none, is_solid, is_stop, star, takes, word_from}
use Rattle.css_tokens.specs.Kinds.{is_kind}
use Rattle.css_tokens.specs.Piece.{Word}
use Rattle.css_tokens.specs.Tokens.{classes_of, is_url, spells}
use Rattle.media_spelling.specs.Spelling.{ends_in_dashes}
use Rattle.media_tree.proofs.TextsRead.{FirstSpells}
use Rattle.media_tree.proofs.ValuesReadable.{StaysBehind, WordLaws, is_value_kind}

-- what is ensured of a word of this kind, before this text
abbrev pub StaysBefore : Kind → List ℕ → Type 0
StaysBefore k next = (u rest : List ℕ) → spells k u ≡ true → StaysFirst (word_from k u) (next ++ rest)

-- what is ensured of words
pub record Ensured : Type 0 where
  pub firsts : FirstSpells
  pub keeps : (w : Word) (a b : List ℕ) → is_solid w.kind ≡ true → StaysFirst w a → Alike a b → (is_url w.text ≡ true → KeepsQuote a b) → takes w b ≡ false → StaysFirst w b
  pub alone : (k : Kind) (u : List ℕ) → is_kind k kinds.Url ≡ false → is_kind k kinds.Function ≡ false → spells k u ≡ true → StaysFirst (word_from k u) []
  pub slash : (rest : List ℕ) → begins_none star rest ≡ true → StaysFirst (word_from kinds.Delim (codes "/")) rest
  pub no_star : (u rest : List ℕ) → spells kinds.Number u ≡ true → begins_none star (u ++ rest) ≡ true
  pub no_bang : (k : Kind) (u rest : List ℕ) → is_kind k kinds.Delim ≡ false → is_kind k kinds.Url ≡ false → spells k u ≡ true → begins_none bang (u ++ rest) ≡ true
  pub comment : (rest : List ℕ) → StaysFirst (word_from kinds.Comment (codes "/**/")) rest
  pub number : StaysBefore kinds.Number (codes ">")
  pub dimension : StaysBefore kinds.Dimension (codes ">")
  pub ident : (u rest : List ℕ) → spells kinds.Ident u ≡ true → (u ≡ codes "--" → ⊥) → StaysFirst (word_from kinds.Ident u) (codes ">" ++ rest)
  pub number_space : StaysBefore kinds.Number (codes " ")
  pub dimension_space : (u rest : List ℕ) → spells kinds.Dimension u ≡ true → ends_in_dashes u ≡ true → StaysFirst (word_from kinds.Dimension u) (codes " " ++ rest)
  pub ident_space : (u rest : List ℕ) → spells kinds.Ident u ≡ true → ends_in_dashes u ≡ true → StaysFirst (word_from kinds.Ident u) (codes " " ++ rest)

-- the word stays first before this text and any rest
abbrev StaysAt : Kind → List ℕ → List ℕ → Type 0
StaysAt k u next = (rest : List ℕ) → StaysFirst (word_from k u) (next ++ rest)

behind-by : (k : Kind) (u value : List ℕ) → StaysAt k u (codes ")") → StaysAt k u (codes "<") → StaysAt k u (codes "=")
    → (ends_in_dashes value ≡ true → StaysAt k u (codes " ")) → (ends_in_dashes value ≡ false → StaysAt k u (codes ">")) → StaysBehind k u value
behind-by k u value close less equal space greater = (close, at (ends_in_dashes value) refl)
  where
    at : (b : Bool) → ends_in_dashes value ≡ b → AllByRecursion (StaysAt k u) (if b then codes " " ∷ [] else codes "<" ∷ codes ">" ∷ codes "=" ∷ [])
    at true e = (space e, tt)
    at false e = (less, (greater e, (equal, tt)))

module _ (l : Ensured) where
  -- a word that stays first at the end of a text does so before a stop, where it takes nothing from it
  before-stop : (w : Word) (rest : List ℕ) → is_solid w.kind ≡ true → StaysFirst w [] → is_stop (classes_of rest) ≡ true → takes w rest ≡ false → StaysFirst w rest
  before-stop w rest solid first stop none =
      l.keeps w [] rest solid first
      (record { same = []; left = []; right = rest; whole_left = refl; whole_right = refl; even = refl; stop_left = refl; stop_right = stop })
      (λ url quote. absurd (false≢true quote))
      none

  behind : (k : Kind) (u value : List ℕ) → is_solid k ≡ true → StaysFirst (word_from k u) [] → (ends_in_dashes value ≡ true → StaysAt k u (codes " ")) → (ends_in_dashes value ≡ false → StaysAt k u (codes ">")) → StaysBehind k u value
  behind k u value solid first space greater =
      (let w = word_from k u in
      behind-by k u value
      (λ rest. before-stop w (codes ")" ++ rest) solid first refl refl)
      (λ rest. before-stop w (codes "<" ++ rest) solid first refl refl)
      (λ rest. before-stop w (codes "=" ++ rest) solid first refl refl)
      space greater)

  number-behind : (u value : List ℕ) → spells kinds.Number u ≡ true → StaysBehind kinds.Number u value
  number-behind u value h = behind kinds.Number u value refl (l.alone kinds.Number u refl refl h) (λ e rest. l.number_space u rest h) (λ e rest. l.number u rest h)

  token-behind : (k : Kind) (u : List ℕ) → is_value_kind k ≡ true → spells k u ≡ true → StaysBehind k u u
  token-behind kinds.Number u h s = number-behind u u s
  token-behind kinds.Dimension u h s = behind kinds.Dimension u u refl (l.alone kinds.Dimension u refl refl s) (λ e rest. l.dimension_space u rest s e) (λ e rest. l.dimension u rest s)
  token-behind kinds.Ident u h s =
      behind kinds.Ident u u refl (l.alone kinds.Ident u refl refl s) (λ e rest. l.ident_space u rest s e)
      (λ e rest. l.ident u rest s (λ i. false≢true (sym e ∙ ap ends_in_dashes i)))
  token-behind k u h s = absurd (false≢true h)

  pub word-laws : WordLaws
  word-laws = record {
    firsts = l.firsts;
    alone = l.alone;
    no_bang = l.no_bang;
    token = token-behind;
    number_behind = number-behind;
    number = λ u rest h. before-stop (word_from kinds.Number u) (codes "/" ++ rest) refl (l.alone kinds.Number u refl refl h) refl refl;
    slash = λ u rest h. l.slash (u ++ rest) (l.no_star u rest h);
    slash_comment = λ rest. l.slash (codes "/**/" ++ rest) refl;
    comment = l.comment;
  }
