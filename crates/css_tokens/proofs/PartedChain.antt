-- A comment between a word that takes a space and white space.
use Rattle.std.proofs.Common.{◌≡◌, ℕ, List, [], ◌∷◌, ◌++◌, Bool, true, false, cond, refl, ap, sym, ◌∙◌, subst, append_assoc, inl, inr, codes}
use Rattle.std.proofs.lemmas.Bool.{false≢true}
use Rattle.css_tokens.specs.Characters.{white}
use Rattle.css_tokens.specs.Again.{begins_none}
use Rattle.css_tokens.specs.Piece.{Word, spelled}
use Rattle.css_tokens.specs.Values.{is_white, behind_taking, parting_word, takes_space, word_kind}
use Rattle.css_tokens.proofs.GapLemmas.{bool_cases}
use Rattle.css_tokens.proofs.PartedLists.{white_gap}
use Rattle.css_tokens.proofs.PartedWords.{parted_words}
use Rattle.css_tokens.proofs.PrintedAgain.{IsShort}
use Rattle.css_tokens.proofs.SingleGaps.{EachOf}
use Rattle.css_tokens.proofs.ValueLemmas.{space, comment}
use Rattle.css_tokens.proofs.Walk.{Chain, short_gap}

-- the words behind one that takes a space, or does not
abbrev behind_open : Bool → List Word → List Word
behind_open b ys = behind_taking word_kind parting_word b ys

-- white space is one space, and a comment is `/**/`
abbrev pub AreShort : List Word → Type 0
AreShort ws = EachOf IsShort ws

white_space : (w : Word) → IsShort w → is_white w.kind ≡ true → w ≡ space
white_space w h e = elim (short_gap w (white_gap w.kind e) h) [
  | inl i ↦ i
  | inr i ↦ absurd (false≢true (sym (ap (λ (v : Word). is_white v.kind) i) ∙ e))
]

-- What a reading and a likeness of texts keep, where r stands behind the words.
pub record Parts (First : List ℕ → Word → Type 0) (Alike : List ℕ → List ℕ → Type 0) (r : List ℕ) : Type 0 where
  pub end : Alike r r
  pub end_dark : begins_none white r ≡ true
  pub behind : (w : Word) (a b c : List ℕ) → IsShort w → First (w.text ++ c) w → Alike a b → Alike (w.text ++ a) (w.text ++ b)
  pub inserted : (w : Word) (a b c : List ℕ) → takes_space w ≡ true → First (w.text ++ c) w → Alike (w.text ++ (codes " " ++ a)) (w.text ++ (codes "/**/" ++ (codes " " ++ b)))
  pub keeps : (w : Word) (a b : List ℕ) → IsShort w → First (w.text ++ a) w → Alike a b → (begins_none white a ≡ true → begins_none white b ≡ true) → (takes_space w ≡ true → begins_none white b ≡ true) → First (w.text ++ b) w
  pub head : (w : Word) (a b c : List ℕ) → First (w.text ++ c) w → begins_none white (w.text ++ a) ≡ true → begins_none white (w.text ++ b) ≡ true
  pub dark : (w : Word) (b : List ℕ) → is_white w.kind ≡ false → First (w.text ++ b) w → begins_none white (w.text ++ b) ≡ true
  pub comment_first : (a : List ℕ) → First (codes "/**/" ++ a) comment

-- a word stays first before b, or before a comment and b where it takes a space and b begins with one
abbrev pub Near : (List ℕ → Word → Type 0) → Word → List ℕ → Type 0
Near First w b = (takes_space w ≡ true → First (w.text ++ (codes "/**/" ++ b)) w) × (takes_space w ≡ false → First (w.text ++ b) w) × (begins_none white b ≡ true → First (w.text ++ b) w)

abbrev pub NearChain : (List ℕ → Word → Type 0) → List Word → List ℕ → Type 0
NearChain First [] r = Unit {0}
NearChain First (w ∷ ws) r = Near First w (spelled ws ++ r) × NearChain First ws r

module _ (First : List ℕ → Word → Type 0) (Alike : List ℕ → List ℕ → Type 0) (r : List ℕ) (p : Parts First Alike r) where
  abbrev Parted : List Word → List Word → Type 0
  Parted ws ps = Alike (spelled ws ++ r) (spelled ps ++ r) × Chain First ps r

  -- the first character is the same
  same_head : (ws : List Word) → Chain First (parted_words ws) r → begins_none white (spelled ws ++ r) ≡ true → begins_none white (spelled (parted_words ws) ++ r) ≡ true
  same_head [] c h = h
  same_head (w ∷ ws) c h =
      let rest = behind_open (takes_space w) (parted_words ws) in
      subst (λ t. begins_none white t ≡ true) (sym (append_assoc w.text (spelled rest) r))
      (p.head w (spelled ws ++ r) (spelled rest ++ r) (spelled rest ++ r) c.0 (subst (λ t. begins_none white t ≡ true) (append_assoc w.text (spelled ws) r) h))

  back_head : (ws : List Word) → Chain First (parted_words ws) r → begins_none white (spelled (parted_words ws) ++ r) ≡ true → begins_none white (spelled ws ++ r) ≡ true
  back_head [] c h = h
  back_head (w ∷ ws) c h =
      let rest = behind_open (takes_space w) (parted_words ws) in
      subst (λ t. begins_none white t ≡ true) (sym (append_assoc w.text (spelled ws) r))
      (p.head w (spelled rest ++ r) (spelled ws ++ r) (spelled rest ++ r) c.0 (subst (λ t. begins_none white t ≡ true) (append_assoc w.text (spelled rest) r) h))

  plain : (w : Word) (ws ps : List Word) → IsShort w → First (w.text ++ (spelled ws ++ r)) w → Parted ws ps → (begins_none white (spelled ws ++ r) ≡ true → begins_none white (spelled ps ++ r) ≡ true) → (takes_space w ≡ true → begins_none white (spelled ps ++ r) ≡ true) → Parted (w ∷ ws) (w ∷ ps)
  plain w ws ps i f h e g = (
    subst (λ t. Alike t ((w.text ++ spelled ps) ++ r)) (sym (append_assoc w.text (spelled ws) r)) (subst (Alike (w.text ++ (spelled ws ++ r))) (sym (append_assoc w.text (spelled ps) r)) (p.behind w (spelled ws ++ r) (spelled ps ++ r) (spelled ws ++ r) i f h.0)),
    (p.keeps w (spelled ws ++ r) (spelled ps ++ r) i f h.0 e g, h.1),
  )

  -- a word that takes a space
  taking : (w : Word) (ws ps : List Word) → IsShort w → takes_space w ≡ true → Near First w (spelled ws ++ r) → Parted ws ps → AreShort ws → ((x : Word) (xs : List Word) → ps ≡ x ∷ xs → (y : Word) × (ys : List Word) × (ws ≡ y ∷ ys) × (x ≡ y)) → (begins_none white (spelled ps ++ r) ≡ true → begins_none white (spelled ws ++ r) ≡ true) → Parted (w ∷ ws) (w ∷ behind_open true ps)
  taking w ws [] j e n h s first back = plain w ws [] j (n.2 (back p.end_dark)) h (λ i. p.end_dark) (λ i. p.end_dark)
  taking w ws (y ∷ ys) j e n h s first back = elim (bool_cases (is_white y.kind)) [
    | inr d ↦
        let dark : begins_none white (spelled (y ∷ ys) ++ r) ≡ true = subst (λ t. begins_none white t ≡ true) (sym (append_assoc y.text (spelled ys) r)) (p.dark y (spelled ys ++ r) d h.1.0) in
        subst (λ vs. Parted (w ∷ ws) (w ∷ vs)) (sym (ap (λ b. cond b (comment ∷ y ∷ ys) (y ∷ ys)) d)) (plain w ws (y ∷ ys) j (n.2 (back dark)) h (λ i. dark) (λ i. dark))
    | inl d ↦ subst (λ vs. Parted (w ∷ ws) (w ∷ vs)) (sym (ap (λ b. cond b (comment ∷ y ∷ ys) (y ∷ ys)) d)) (with_comment w ws y ys j e n h s d (first y ys refl))
  ]
    where
      with_comment : (w : Word) (ws : List Word) (y : Word) (ys : List Word) → IsShort w → takes_space w ≡ true → Near First w (spelled ws ++ r) → Parted ws (y ∷ ys) → AreShort ws → is_white y.kind ≡ true → (x : Word) × (xs : List Word) × (ws ≡ x ∷ xs) × (y ≡ x) → Parted (w ∷ ws) (w ∷ comment ∷ y ∷ ys)
      with_comment w ws y ys j e n h s d k =
          let x = k.0 in
          let spaces : AreShort (x ∷ k.1) = subst AreShort k.2 s in
          let y_space : y ≡ space = k.3 ∙ white_space x spaces.0 (ap (λ (v : Word). is_white v.kind) (sym k.3) ∙ d) in
          let x_space : x ≡ space = sym k.3 ∙ y_space in
          let old : spelled ws ++ r ≡ codes " " ++ (spelled k.1 ++ r) = ap (λ vs. spelled vs ++ r) k.2 ∙ append_assoc x.text (spelled k.1) r ∙ ap (λ (v : Word). v.text ++ (spelled k.1 ++ r)) x_space in
          let new : spelled (y ∷ ys) ++ r ≡ codes " " ++ (spelled ys ++ r) = append_assoc y.text (spelled ys) r ∙ ap (λ (v : Word). v.text ++ (spelled ys ++ r)) y_space in
          let whole : (spelled (w ∷ comment ∷ y ∷ ys) ++ r) ≡ w.text ++ (codes "/**/" ++ (spelled (y ∷ ys) ++ r)) = append_assoc w.text (spelled (comment ∷ y ∷ ys)) r ∙ ap (λ t. w.text ++ t) (append_assoc (codes "/**/") (spelled (y ∷ ys)) r) in
          let again : Alike (codes "/**/" ++ (spelled ws ++ r)) (codes "/**/" ++ (spelled (y ∷ ys) ++ r)) = p.behind comment (spelled ws ++ r) (spelled (y ∷ ys) ++ r) (spelled ws ++ r) refl (p.comment_first (spelled ws ++ r)) h.0 in
          let first : First (w.text ++ (codes "/**/" ++ (spelled (y ∷ ys) ++ r))) w = p.keeps w (codes "/**/" ++ (spelled ws ++ r)) (codes "/**/" ++ (spelled (y ∷ ys) ++ r)) j (n.0 e) again (λ i. refl) (λ i. refl) in
          let longer : Alike (w.text ++ (spelled ws ++ r)) (w.text ++ (codes "/**/" ++ (spelled (y ∷ ys) ++ r))) =
          subst (λ t. Alike (w.text ++ t) (w.text ++ (codes "/**/" ++ (spelled (y ∷ ys) ++ r)))) (sym old) (subst (λ t. Alike (w.text ++ (codes " " ++ (spelled k.1 ++ r))) (w.text ++ (codes "/**/" ++ t))) (sym new) (p.inserted w (spelled k.1 ++ r) (spelled ys ++ r) (codes "/**/" ++ (spelled ws ++ r)) e (n.0 e))) in (
            subst (λ t. Alike t (spelled (w ∷ comment ∷ y ∷ ys) ++ r)) (sym (append_assoc w.text (spelled ws) r)) (subst (Alike (w.text ++ (spelled ws ++ r))) (sym whole) longer),
            (subst (λ t. First (w.text ++ t) w) (sym (append_assoc (codes "/**/") (spelled (y ∷ ys)) r)) first, (p.comment_first (spelled (y ∷ ys) ++ r), h.1)),
          )

  first_of : (ws : List Word) (x : Word) (xs : List Word) → parted_words ws ≡ x ∷ xs → (y : Word) × (ys : List Word) × (ws ≡ y ∷ ys) × (x ≡ y)
  first_of [] x xs h = cc
  first_of (w ∷ ws) x xs h = (w, ws, refl, cc)

  -- the parted words stay first, one after another
  pub chain_parted : (ws : List Word) → NearChain First ws r → AreShort ws → Parted ws (parted_words ws)
  chain_parted [] n s = (p.end, tt)
  chain_parted (w ∷ ws) n s =
      let later = chain_parted ws n.1 s.1 in
      elim (bool_cases (takes_space w)) [
        | inl e ↦ subst (λ b. Parted (w ∷ ws) (w ∷ behind_open b (parted_words ws))) (sym e) (taking w ws (parted_words ws) s.0 e n.0 later s.1 (first_of ws) (back_head ws later.1))
        | inr e ↦ subst (λ b. Parted (w ∷ ws) (w ∷ behind_open b (parted_words ws))) (sym e) (plain w ws (parted_words ws) s.0 (n.0.1 e) later (same_head ws later.1) (λ i. absurd (false≢true (sym e ∙ i))))
      ]
