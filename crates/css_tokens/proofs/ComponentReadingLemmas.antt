-- Reading a text component by component: one token more, and what a fault says of the text.
use Rattle.std.proofs.Common.{◌≡◌, ℕ, ◌+◌, ◌<◌, ◌≤◌, OnOk, IfErr, IsErrOf, Result, Ok, Err, List, [], ◌∷◌, ◌++◌, map, length, take, drop, true, Some, None, inl, inr, refl, sym, ap, ◌∙◌, subst, arith, append_assoc, unwrap_or}
use Rattle.std.specs.List.{flat_map}
use Rattle.std.specs.Result.{IsErr, IsErrAnd}
use Rattle.std.proofs.lemmas.Bool.{cases_lt}
use Rattle.std.proofs.lemmas.List.{length-append, take-append-le}
use Rattle.std.proofs.Math.Seq.{take-append_seam}
use Rattle.css_tokens.specs.declared.pairing.ComponentFault.{ComponentFault}
use Rattle.css_tokens.specs.declared.pairing.ComponentFault.TheVariants.{Syntax, Depth, Memory}
use Rattle.css_tokens.specs.declared.pairing.Nest.{Nest}
use Rattle.css_tokens.specs.Piece.{Piece, word_of}
use Rattle.css_tokens.specs.Pairing.{awaited, awaited_next, depth, IsShallow, IsMismatch, IsTooDeep, IsUnclosed}
use Rattle.css_tokens.specs.Private.ComponentReading.{ReadsUpTo, IsReadOn, IsFaultFrom, IsFaultBehind, IsFaultOf, IsOneBlock, HoldsOne, HoldsNothing}
use Rattle.css_tokens.specs.Private.Nests.{nest_pieces, nest_awaited, nest_formed, opened_pieces, IsOneTooDeep}
use Rattle.css_tokens.specs.Private.Reading.{Begins}
use Rattle.css_tokens.specs.Trees.{pieces_all}
use Rattle.css_tokens.specs.Tokens.{Stops}
use Rattle.css_tokens.proofs.Reading.{size, placed_more, reads_size, turn_reads, turn_size}
use Rattle.css_tokens.proofs.PairingLemmas.{awaited_push, nonempty_unclosed}
use Rattle.css_tokens.proofs.SomePairing.{mismatched, too_deep, still_shallow}

-- one token more is read
pub read_on : (before : List Piece) (rest left : List ℕ) (p : Piece) (at n : ℕ) → Begins rest p → p.at ≡ at → n ≡ length p.text → left ≡ drop n rest → IsReadOn before rest at (before ++ p ∷ []) left (at + n)
read_on before rest left p at n b e f g start text h = record {
  read = turn_reads text before (before ++ p ∷ []) rest left p n h.read b refl f g;
  placed = placed_more start before p h.placed (e ∙ h.behind);
  behind = turn_size start before (before ++ p ∷ []) p at n h.behind f refl;
}

-- where reading can't go on is the first fault
pub stops_behind : (before : List Piece) (rest : List ℕ) (at : ℕ) → Stops rest → IsFaultBehind before rest at (Syntax at)
stops_behind before rest at s start text h = inl (size before, (map word_of before, rest, h.read, s, refl), h.behind)

-- a fault of brackets is the first fault where all else is read
pub faulty_behind : (front more : List Piece) (rest : List ℕ) (at end : ℕ) (f : ComponentFault) → IsFaultOf front f → IsReadOn front rest at (front ++ more) [] end → IsFaultBehind front rest at f
faulty_behind front more rest at end (Syntax o) h on start text r =
    let all = on start text r in
    inr (record { pieces = front ++ more; read = all.read; placed = all.placed; found = inl (h more) })
faulty_behind front more rest at end (Depth o) h on start text r =
    let all = on start text r in
    record { pieces = front ++ more; read = all.read; placed = all.placed; found = h more }
faulty_behind front more rest at end Memory h on start text r = tt

-- a block that is open at the end is the first fault
pub unclosed_behind : (n : Nest) (at : ℕ) → HoldsOne n → 0 < length (nest_awaited n) → IsFaultBehind (nest_pieces n) [] at (Syntax at)
unclosed_behind n at h some start text r =
    let e : at ≡ start + length text = let z = reads_size text (nest_pieces n) [] r.read in let b = r.behind in omega arith in
    inr (record {
      pieces = nest_pieces n;
      read = r.read;
      placed = r.placed;
      found = inr (subst (λ (o : ℕ). IsUnclosed (nest_pieces n) (start + length text) o) (sym e) (nonempty_unclosed (nest_pieces n) (start + length text) (nest_awaited n) some h.matched h.shallow));
    })

-- What one token does to a nest that holds the beginning of one component.
module _ (old : Nest) (t : Piece) (h : HoldsOne old) where
  -- a closing token that matches nothing
  pub mismatch_of : (o : ℕ) → o ≡ t.at → awaited_next (nest_awaited old) t ≡ None → IsFaultOf (nest_pieces old ++ t ∷ []) (Syntax o)
  mismatch_of o e n more =
      subst (λ (at : ℕ). IsMismatch ((nest_pieces old ++ t ∷ []) ++ more) at) (sym e)
      (subst (λ ts. IsMismatch ts t.at) (sym (append_assoc (nest_pieces old) (t ∷ []) more))
      (mismatched (nest_pieces old) t more (nest_awaited old) h.matched h.shallow n))

  -- an opening token that makes the depth 65
  pub deep_of : (o : ℕ) → IsOneTooDeep (nest_awaited old) t o → IsFaultOf (nest_pieces old ++ t ∷ []) (Depth o)
  deep_of o d more =
      subst (λ (at : ℕ). IsTooDeep ((nest_pieces old ++ t ∷ []) ++ more) at) (sym d.0)
      (subst (λ ts. IsTooDeep ts t.at) (sym (append_assoc (nest_pieces old) (t ∷ []) more))
      (too_deep (nest_pieces old) t more (nest_awaited old) h.matched h.shallow d.1 d.2 d.3))

-- what is open behind the pieces is what the nest waits for
depth_of : (ps : List Piece) (waiting : List (List ℕ)) → awaited ps ≡ Some waiting → depth ps ≡ length waiting
depth_of ps waiting e = ap (λ o. length (unwrap_or o [])) e

one_block_push : (ps : List Piece) (t : Piece) → IsOneBlock ps → (0 < length ps → 0 < depth ps) → IsOneBlock (ps ++ t ∷ [])
one_block_push ps t h last n some less =
    elim (cases_lt n (length ps)) [
      | inl l ↦ (let e : take n (ps ++ t ∷ []) ≡ take n ps = take-append-le n ps (t ∷ []) (omega arith) in subst (λ qs. 0 < depth qs) (sym e) (h n some l))
      | inr l ↦ (
          let m : length ps ≡ n = omega (arith, length-append ps (t ∷ [])) in
          let e : take n (ps ++ t ∷ []) ≡ ps = subst (λ k. take k (ps ++ t ∷ []) ≡ ps) m (take-append_seam ps (t ∷ [])) in
          subst (λ qs. 0 < depth qs) (sym e) (last (omega arith)))
    ]

-- a token that is taken
pub holds_more : (old new : Nest) (t : Piece) → HoldsOne old → (0 < length (nest_pieces old) → 0 < length (nest_awaited old)) → nest_pieces new ≡ nest_pieces old ++ t ∷ [] → awaited_next (nest_awaited old) t ≡ Some (nest_awaited new) → length (nest_awaited new) ≤ 64 → (nest_formed old ≡ true → nest_formed new ≡ true) → HoldsOne new
holds_more old new t h last e next within formed =
    let d = depth_of (nest_pieces old) (nest_awaited old) h.matched in
    record {
      matched = ap awaited e ∙ awaited_push (nest_pieces old) t (nest_awaited old) h.matched ∙ next;
      shallow = subst IsShallow (sym e) (still_shallow (nest_pieces old) t [] (nest_awaited old) h.matched h.shallow (nest_awaited new) next within);
      within = within;
      formed = formed h.formed;
      one = subst IsOneBlock (sym e) (one_block_push (nest_pieces old) t h.one (λ some. let l = last some in omega arith));
    }

-- a refusal to take a token
pub fault_taken : {A : Type 0} (old : Nest) (t : Piece) → HoldsOne old → (f : ComponentFault) → ((o : ℕ) → IsErrOf {T = A} (Err f) (Syntax o) → (o ≡ t.at) × (awaited_next (nest_awaited old) t ≡ None)) → ((o : ℕ) → IsErrOf {T = A} (Err f) (Depth o) → IsOneTooDeep (nest_awaited old) t o) → IsFaultOf (nest_pieces old ++ t ∷ []) f
fault_taken old t h (Syntax o) mismatch deep = let m = mismatch o refl in mismatch_of old t h o m.0 m.1
fault_taken old t h (Depth o) mismatch deep = deep_of old t h o (deep o refl)
fault_taken old t h Memory mismatch deep = tt

-- One token more behind those that are read.

pub read_further : (before more : List Piece) (t : Piece) (from rest left : List ℕ) (start at end : ℕ) → IsReadOn before from start (before ++ more) rest at → IsReadOn (before ++ more) rest at ((before ++ more) ++ t ∷ []) left end → IsReadOn before from start (before ++ (more ++ t ∷ [])) left end
read_further before more t from rest left start at end f g origin text h = subst (λ ps. ReadsUpTo origin text ps left end) (append_assoc before more (t ∷ [])) (g origin text (f origin text h))

pub stops_further : (before more : List Piece) (from rest : List ℕ) (start at place : ℕ) → IsReadOn before from start (before ++ more) rest at → Stops rest → place ≡ at → IsFaultBehind before from start (Syntax place)
stops_further before more from rest start at place f s e origin text h = subst (λ (o : ℕ). IsFaultFrom origin text (Syntax o)) (sym e) (stops_behind (before ++ more) rest at s origin text (f origin text h))

pub read_out : (before more : List Piece) (from rest : List ℕ) (start at end : ℕ) → IsReadOn before from start (before ++ more) rest at → rest ≡ [] → at ≡ end → IsReadOn before from start (before ++ more) [] end
read_out before more from rest start at end f e g origin text h =
    subst (λ (o : ℕ). ReadsUpTo origin text (before ++ more) [] o) g
    (subst (λ r. ReadsUpTo origin text (before ++ more) r at) e (f origin text h))

pub read_taken : {A E : Type 0} (r : Result A E) (old new : List Piece) (t : Piece) (from left : List ℕ) (start end : ℕ) → OnOk r (new ≡ old ++ t ∷ []) → IsReadOn old from start (old ++ t ∷ []) left end → OnOk r (IsReadOn old from start new left end)
read_taken (Ok a) old new t from left start end e f = λ origin text h. subst (λ ps. ReadsUpTo origin text ps left end) (sym e) (f origin text h)
read_taken (Err e) old new t from left start end h f = tt

-- a text that has no byte is the empty one
pub emptied : (text : List ℕ) → length text ≡ 0 → text ≡ []
emptied [] e = refl
emptied (b ∷ text) e = absurd (omega arith)

-- The whole of one component, from its first token on.

pub begins_nothing : (text : List ℕ) (at : ℕ) → ReadsUpTo at text [] text at
begins_nothing text at = record { read = refl; placed = tt; behind = omega arith }

nothing_held : (n : Nest) → HoldsNothing n → nest_pieces n ≡ []
nothing_held n h = ap (λ outer. flat_map opened_pieces outer ++ pieces_all n.items) h.outer ∙ ap pieces_all h.items

pub read_first : (old new : Nest) (t : Piece) (from left : List ℕ) (start end : ℕ) → HoldsNothing old → nest_pieces new ≡ nest_pieces old ++ t ∷ [] → IsReadOn [] from start (t ∷ []) left end → IsReadOn [] from start (nest_pieces new) left end
read_first old new t from left start end h e f origin text r = subst (λ ps. ReadsUpTo origin text ps left end) (sym (e ∙ ap (λ ps. ps ++ t ∷ []) (nothing_held old h))) (f origin text r)

size_some : (ps : List Piece) → 0 < size ps → 0 < length ps
size_some [] h = absurd (omega arith)
size_some (p ∷ ps) h = omega arith

-- what takes bytes has a token
pub some_read : (ps : List Piece) (from left : List ℕ) (start end : ℕ) → IsReadOn [] from start ps left end → length left < length from → 0 < length ps
some_read ps from left start end f less =
    let r = f start from (begins_nothing from start) in
    let z = reads_size from ps left r.read in
    size_some ps (omega arith)

-- what holds of a fault holds of the answer that gives it on
pub fails_with : {A E : Type 0} (r : Result A E) (f : E) (P : E → Type 0) → IsErr r → IsErrAnd r (λ e. e ≡ f) → P f → IfErr r P
fails_with (Ok a) f P h k p = tt
fails_with (Err e) f P h k p = subst P (sym k) p
