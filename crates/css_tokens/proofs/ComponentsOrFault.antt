-- A text has components, or a first fault, and one of these.
use Rattle.std.proofs.Common.{◌≡◌, ◌⊎◌, ◌≢◌, ℕ, ◌+◌, List, [], ◌∷◌, map, length, inl, inr, refl, sym, ap, ◌∙◌, subst}
use Rattle.css_tokens.specs.declared.kind.Kind.{Kind}
use Rattle.css_tokens.specs.declared.component.Component.{Component}
use Rattle.css_tokens.specs.declared.pairing.ComponentFault.{ComponentFault}
use Rattle.css_tokens.specs.declared.pairing.ComponentFault.TheVariants.{Syntax, Depth, Memory}
use Rattle.css_tokens.specs.Components.{HasTokens, HasComponents, HasBracketFault, IsFirstFault}
use Rattle.css_tokens.specs.Pairing.{IsPaired, IsBracketFault, IsMismatch, IsTooDeep, IsUnclosed}
use Rattle.css_tokens.specs.Piece.{Piece, Word, word_of}
use Rattle.css_tokens.specs.Tokens.{IsPlaced, Reads, StopsAt, after_mark, mark_length}
use Rattle.css_tokens.specs.Trees.{pieces_all}
use Rattle.css_tokens.proofs.OneBracketFault.{fault_one, fault_none}
use Rattle.css_tokens.proofs.OneReading.{reads_one, reads_or_stops, stops_at_one}
use Rattle.css_tokens.proofs.Rebuilt.{same_components}
use Rattle.css_tokens.proofs.SomePairing.{paired_or_fault, paired_made}
use Rattle.css_tokens.proofs.SomeReading.{reads_or_stops_somewhere}

-- Tokens in their places.

-- the words, each in its place
placed_from : ℕ → List Word → List Piece
placed_from at [] = []
placed_from at (w ∷ ws) = record { kind = w.kind; text = w.text; at = at } ∷ placed_from (at + length w.text) ws

words_placed : (at : ℕ) (ws : List Word) → map word_of (placed_from at ws) ≡ ws
unfolding placed_from
words_placed at [] = refl
words_placed at (w ∷ ws) = ap (λ rest. w ∷ rest) (words_placed (at + length w.text) ws)

are_placed : (at : ℕ) (ws : List Word) → IsPlaced at (placed_from at ws)
unfolding placed_from
are_placed at [] = tt
are_placed at (w ∷ ws) = (refl, are_placed (at + length w.text) ws)

abbrev piece : Kind → List ℕ → ℕ → Piece
piece kind text at = record { kind = kind; text = text; at = at }

piece_one : (k l : Kind) (t u : List ℕ) (a b : ℕ) → k ≡ l → t ≡ u → a ≡ b → piece k t a ≡ piece l u b
piece_one k l t u a b e f g = cc (e, f, g)

placed_one : (at : ℕ) (a b : List Piece) → IsPlaced at a → IsPlaced at b → map word_of a ≡ map word_of b → a ≡ b
placed_one at [] [] p q e = refl
placed_one at [] (y ∷ ys) p q e = absurd (cc e)
placed_one at (x ∷ xs) [] p q e = absurd (cc e)
placed_one at (x ∷ xs) (y ∷ ys) p q e =
    let w : word_of x ≡ word_of y = cc e in
    let text : x.text ≡ y.text = ap (λ (v : Word). v.text) w in
    let h : x ≡ y = piece_one x.kind y.kind x.text y.text x.at y.at (ap (λ (v : Word). v.kind) w) text (p.0 ∙ sym q.0) in
    let more : xs ≡ ys = placed_one (at + length x.text) xs ys p.1 (subst (λ u. IsPlaced (at + length u) ys) (sym text) q.1) (cc e) in
    cc (h, more)

-- Every text has one of these.

abbrev Answered : List ℕ → Type 0
Answered text = ((cs : List Component) × HasComponents text cs) ⊎ ((f : ComponentFault) × (f ≢ Memory) × IsFirstFault text f)

syntax_named : (at : ℕ) → Syntax at ≢ Memory
syntax_named at e = cc e

depth_named : (at : ℕ) → Depth at ≢ Memory
depth_named at e = cc e

of_pairing : (text : List ℕ) (ts : List Piece) → HasTokens text ts → IsPaired ts ⊎ ((o : ℕ) × (IsMismatch ts o ⊎ (IsUnclosed ts (length text) o ⊎ IsTooDeep ts o))) → Answered text
of_pairing text ts has (inl paired) =
    let made = paired_made ts paired in
    inl (made.0, record { tokens = subst (HasTokens text) (sym made.1) has; formed = made.2; paired = subst IsPaired (sym made.1) paired })
of_pairing text ts has (inr (o, inl mismatch)) = inr (Syntax o, syntax_named o, inr (ts, has, inl mismatch))
of_pairing text ts has (inr (o, inr (inl unclosed))) = inr (Syntax o, syntax_named o, inr (ts, has, inr unclosed))
of_pairing text ts has (inr (o, inr (inr deep))) = inr (Depth o, depth_named o, (ts, has, deep))

of_reading : (text : List ℕ) → ((ws : List Word) × Reads text ws) ⊎ ((o : ℕ) × StopsAt text o) → Answered text
of_reading text (inr s) = inr (Syntax s.0, syntax_named s.0, inl s.1)
of_reading text (inl r) =
    let ts = placed_from (mark_length text) r.0 in
    let has : HasTokens text ts = record { read = subst (Reads text) (sym (words_placed (mark_length text) r.0)) r.1; placed = are_placed (mark_length text) r.0 } in
    of_pairing text ts has (paired_or_fault ts (length text))

pub answered : (text : List ℕ) → Answered text
answered text = of_reading text (reads_or_stops_somewhere text)

-- No text has two.

module _ (text : List ℕ) where
  tokens_one : (a b : List Piece) → HasTokens text a → HasTokens text b → a ≡ b
  tokens_one a b p q = placed_one (mark_length text) a b p.placed q.placed (reads_one (after_mark text) (map word_of a) (map word_of b) p.read.1 q.read.1)

  pub components_one : (a b : List Component) → HasComponents text a → HasComponents text b → a ≡ b
  components_one a b p q = same_components a b (tokens_one (pieces_all a) (pieces_all b) p.tokens q.tokens) p.formed q.formed

  unstopped : (ts : List Piece) (o : ℕ) → HasTokens text ts → StopsAt text o → ⊥
  unstopped ts o p s = reads_or_stops text (map word_of ts) o p.read s

  unfaulty : (cs : List Component) (f : ComponentFault) → HasComponents text cs → HasBracketFault text f → ⊥
  unfaulty cs f p b = fault_none (pieces_all cs) (length text) f p.paired (subst (λ ts. IsBracketFault ts (length text) f) (tokens_one b.0 (pieces_all cs) b.1 p.tokens) b.2)

  pub components_unfaulty : (cs : List Component) (f : ComponentFault) → HasComponents text cs → IsFirstFault text f → f ≡ Memory
  components_unfaulty cs (Syntax o) p (inl s) = absurd (unstopped (pieces_all cs) o p.tokens s)
  components_unfaulty cs (Syntax o) p (inr b) = absurd (unfaulty cs (Syntax o) p b)
  components_unfaulty cs (Depth o) p b = absurd (unfaulty cs (Depth o) p b)
  components_unfaulty cs Memory p b = refl

  brackets_one : (f g : ComponentFault) → HasBracketFault text f → HasBracketFault text g → f ≡ g
  brackets_one f g a b = fault_one b.0 (length text) f g (subst (λ ts. IsBracketFault ts (length text) f) (tokens_one a.0 b.0 a.1 b.1) a.2) b.2

  pub faults_one : (f g : ComponentFault) → f ≢ Memory → g ≢ Memory → IsFirstFault text f → IsFirstFault text g → f ≡ g
  faults_one (Syntax o) (Syntax p) m n (inl s) (inl t) = ap Syntax (stops_at_one text o p s t)
  faults_one (Syntax o) (Syntax p) m n (inl s) (inr b) = absurd (unstopped b.0 o b.1 s)
  faults_one (Syntax o) (Syntax p) m n (inr a) (inl t) = absurd (unstopped a.0 p a.1 t)
  faults_one (Syntax o) (Syntax p) m n (inr a) (inr b) = brackets_one (Syntax o) (Syntax p) a b
  faults_one (Syntax o) (Depth p) m n (inl s) b = absurd (unstopped b.0 o b.1 s)
  faults_one (Syntax o) (Depth p) m n (inr a) b = brackets_one (Syntax o) (Depth p) a b
  faults_one (Depth o) (Syntax p) m n a (inl t) = absurd (unstopped a.0 p a.1 t)
  faults_one (Depth o) (Syntax p) m n a (inr b) = brackets_one (Depth o) (Syntax p) a b
  faults_one (Depth o) (Depth p) m n a b = brackets_one (Depth o) (Depth p) a b
  faults_one Memory g m n a b = absurd (m refl)
  faults_one (Syntax o) Memory m n a b = absurd (n refl)
  faults_one (Depth o) Memory m n a b = absurd (n refl)
