-- Words written one after another.
use Rattle.std.proofs.Common.{◌≡◌, ℕ, ◌<◌, ◌+◌, List, [], ◌∷◌, ◌++◌, map, Result, Ok, Err, refl, ap, sym, ◌∙◌, append_assoc, subst, take, drop, get_or, length}
use Rattle.std.proofs.lemmas.Bool.{false≢true}
use Rattle.std.specs.Result.{IsErr}
use Rattle.std.proofs.lemmas.Grind.{flat_map-append}
use Rattle.std.proofs.lemmas.List.{append-nil, map-append, take_more, drop_more, take-append-drop}
use Rattle.css_tokens.specs.declared.memory.OutOfMemory.{OutOfMemory}
use Rattle.css_tokens.specs.declared.value.Pending.{Pending}
use Rattle.css_tokens.specs.declared.component.Component as component
use Rattle.css_tokens.specs.declared.component.Block.{Block}
use Rattle.css_tokens.specs.Piece.{Word, word_of}
use Rattle.css_tokens.specs.Trees.{pieces_of, pieces_all, words_all, pieces_of-Block, closing}
use Rattle.css_tokens.specs.Appends.{AppendsFront}
use Rattle.css_tokens.specs.Private.Pendings.{Writes, texts_after, pending_after, pending_next, word_text, block_words}
use Rattle.css_tokens.proofs.AppendLemmas.{front_first, front_second}

pub texts_after-append : (p : Pending) (ws vs : List Word) → texts_after p (ws ++ vs) ≡ texts_after p ws ++ texts_after (pending_after p ws) vs
texts_after-append p [] vs = refl
texts_after-append p (w ∷ ws) vs = ap (λ t. word_text p w ++ t) (texts_after-append (pending_next p w) ws vs) ∙ sym (append_assoc (word_text p w) (texts_after (pending_next p w) ws) _)

pub pending_after-append : (p : Pending) (ws vs : List Word) → pending_after p (ws ++ vs) ≡ pending_after (pending_after p ws) vs
pending_after-append p [] vs = refl
pending_after-append p (w ∷ ws) vs = pending_after-append (pending_next p w) ws vs

writes_more : (p q : Pending) (ws vs : List Word) (old mid new : List ℕ) (r : Result Pending OutOfMemory) → mid ≡ old ++ texts_after p ws → q ≡ pending_after p ws → Writes q vs mid new r → Writes p (ws ++ vs) old new r
writes_more p q ws vs old mid new (Ok next) e f h =
    let t : texts_after p (ws ++ vs) ≡ texts_after p ws ++ texts_after q vs = texts_after-append p ws vs ∙ ap (λ x. texts_after p ws ++ texts_after x vs) (sym f) in (
      h.0 ∙ ap (λ x. x ++ texts_after q vs) e ∙ append_assoc old (texts_after p ws) (texts_after q vs) ∙ ap (λ x. old ++ x) (sym t),
      h.1 ∙ ap (λ x. pending_after x vs) f ∙ sym (pending_after-append p ws vs),
    )
writes_more p q ws vs old mid new (Err e') e f h =
    let t : texts_after p (ws ++ vs) ≡ texts_after p ws ++ texts_after q vs = texts_after-append p ws vs ∙ ap (λ x. texts_after p ws ++ texts_after x vs) (sym f) in
    subst (AppendsFront old new) (sym t) (front_second old mid new (texts_after p ws) (texts_after q vs) e h)

-- one writer after another
pub writes_then : (p q : Pending) (ws vs : List Word) (old mid new : List ℕ) (first r : Result Pending OutOfMemory) → first ≡ Ok q → Writes p ws old mid first → Writes q vs mid new r → Writes p (ws ++ vs) old new r
writes_then p q ws vs old mid new first r is g h =
    let g' : Writes p ws old mid (Ok q) = subst (Writes p ws old mid) is g in
    writes_more p q ws vs old mid new r g'.0 g'.1 h

failed : (p : Pending) (ws : List Word) (old new : List ℕ) (r : Result Pending OutOfMemory) → IsErr r → AppendsFront old new (texts_after p ws) → Writes p ws old new r
failed p ws old new (Ok next) e h = absurd (false≢true e)
failed p ws old new (Err e') e h = h

pub front_of : (p : Pending) (ws : List Word) (old new : List ℕ) (r : Result Pending OutOfMemory) → IsErr r → Writes p ws old new r → AppendsFront old new (texts_after p ws)
front_of p ws old new (Ok next) e h = absurd (false≢true e)
front_of p ws old new (Err e') e h = h

-- the first of two writers gave up
pub writes_stopped : (p : Pending) (ws vs : List Word) (old new : List ℕ) (first r : Result Pending OutOfMemory) → IsErr first → IsErr r → Writes p ws old new first → Writes p (ws ++ vs) old new r
writes_stopped p ws vs old new first r e f h =
    failed p (ws ++ vs) old new r f (subst (AppendsFront old new) (sym (texts_after-append p ws vs)) (front_first old new (texts_after p ws) _ (front_of p ws old new first e h)))

pub words_all-append : (cs ds : List component.Component) → words_all (cs ++ ds) ≡ words_all cs ++ words_all ds
words_all-append cs ds = ap (map word_of) (flat_map-append pieces_of cs ds) ∙ map-append word_of (pieces_all cs) (pieces_all ds)

pub words_all-cons : (c : component.Component) (cs : List component.Component) → words_all (c ∷ cs) ≡ map word_of (pieces_of c) ++ words_all cs
words_all-cons c cs = map-append word_of (pieces_of c) (pieces_all cs)

module _ (cs : List component.Component) (i : ℕ) (c : component.Component) (within : i < length cs) (is : c ≡ get_or cs i c) where
  pub words_all-take : words_all (take (i + 1) cs) ≡ words_all (take i cs) ++ map word_of (pieces_of c)
  words_all-take = ap words_all (take_more cs i c within ∙ ap (λ x. take i cs ++ x ∷ []) (sym is)) ∙ words_all-append (take i cs) (c ∷ []) ∙ ap (λ x. words_all (take i cs) ++ map word_of x) (append-nil (pieces_of c))

  pub words_all_split : words_all cs ≡ (words_all (take i cs) ++ map word_of (pieces_of c)) ++ words_all (drop (i + 1) cs)
  words_all_split =
      sym (ap words_all (take-append-drop i cs)) ∙ words_all-append (take i cs) (drop i cs) ∙ ap (λ x. words_all (take i cs) ++ words_all x) (drop_more cs i c within ∙ ap (λ x. x ∷ drop (i + 1) cs) (sym is)) ∙ ap (λ x. words_all (take i cs) ++ x) (words_all-cons c (drop (i + 1) cs)) ∙ sym (append_assoc (words_all (take i cs)) (map word_of (pieces_of c)) (words_all (drop (i + 1) cs)))

pub words_of-Block : (b : Block) → map word_of (pieces_of (component.Block b)) ≡ block_words b
words_of-Block b = ap (map word_of) (pieces_of-Block b) ∙ ap (λ x. word_of b.opening ∷ x) (map-append word_of (pieces_all b.items) (closing b.opening b.close ∷ []))

-- one component more, and one that gave up
module _ (cs : List component.Component) (i : ℕ) (c : component.Component) (within : i < length cs) (is : c ≡ get_or cs i c) (p q : Pending) (old mid new : List ℕ) (r : Result Pending OutOfMemory) (so_far : Writes p (words_all (take i cs)) old mid (Ok q)) (this : Writes q (map word_of (pieces_of c)) mid new r) where
  pub writes_take : (next : Pending) → r ≡ Ok next → Writes p (words_all (take (i + 1) cs)) old new (Ok next)
  writes_take next e =
      subst (λ (ws : List Word). Writes p ws old new (Ok next)) (sym (words_all-take cs i c within is))
      (writes_then p q (words_all (take i cs)) (map word_of (pieces_of c)) old mid new (Ok q) (Ok next) refl so_far (subst (Writes q (map word_of (pieces_of c)) mid new) e this))

  pub writes_all_stopped : (failure : Result Pending OutOfMemory) → IsErr r → IsErr failure → Writes p (words_all cs) old new failure
  writes_all_stopped failure e f =
      subst (λ (ws : List Word). Writes p ws old new failure) (sym (words_all_split cs i c within is))
      (writes_stopped p (words_all (take i cs) ++ map word_of (pieces_of c)) (words_all (drop (i + 1) cs)) old new r failure e f
      (writes_then p q (words_all (take i cs)) (map word_of (pieces_of c)) old mid new (Ok q) r refl so_far this))
