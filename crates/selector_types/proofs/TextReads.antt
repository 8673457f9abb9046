-- The text of a selector list is read as its words.
use Rattle.std.proofs.Common.{◌≡◌, ℕ, List, [], ◌∷◌, ◌++◌, map, Bool, true, false, ◌&&◌, ◌||◌, refl, sym, ap, ◌∙◌, subst, codes}
use Rattle.std.specs.Prelude.{Option, Some, None, flat_map, is_some}
use Rattle.std.specs.List.{AllByRecursion, list_all}
use Rattle.std.proofs.lemmas.Bool.{and_parts, false≢true}
use Rattle.std.proofs.lemmas.List.Folds.{list_all-map}
use Rattle.css_tokens.specs.declared.component.Component.{Component}
use Rattle.css_tokens.specs.declared.kind.Kind.TheVariants as kinds
use Rattle.css_tokens.specs.Again.{word_from}
use Rattle.css_tokens.specs.NameText.{name_text}
use Rattle.css_tokens.specs.Piece.{Word, spelled}
use Rattle.css_tokens.specs.Tokens.{ReadsTo}
use Rattle.css_tokens.specs.Trees.{words_all}
use Rattle.selector_types.specs.declared.selector.Combinator.{Combinator}
use Rattle.selector_types.specs.declared.selector.Combinator.TheVariants as combinators
use Rattle.selector_types.specs.declared.selector.Compound as compound
use Rattle.selector_types.specs.declared.selector.Link as link
use Rattle.selector_types.specs.declared.selector.Part as part
use Rattle.selector_types.specs.declared.selector.Selector as selector
use Rattle.selector_types.specs.declared.selector.Simple.{Simple}
use Rattle.selector_types.specs.declared.selector.Simple as simple
use Rattle.selector_types.specs.declared.selector.Tail as tail
use Rattle.selector_types.specs.declared.selector.TypeName.{TypeName}
use Rattle.selector_types.specs.declared.selector.TypeName.TheVariants as types
use Rattle.selector_types.specs.BareFold.{placed, bare_compound, bare_selector}
use Rattle.selector_types.specs.ReadableSelectors.{are_readable, has_some, has_type, is_pseudo_text, is_readable_compound, is_readable_lead, is_readable_list, is_readable_selector, is_readable_simple, is_readable_tail, is_readable_type, readable}
use Rattle.selector_types.specs.SelectorFold.{made_part, made_link, simple_of, compound_of, combinator_of, folded-Class, folded-Id, folded-Attribute, folded-Pseudo, folded-Not, folded-Is, folded-Where, folded-Parent, folded-Local, folded-Global, folded-Foreign, folded-Compound, folded-Selector}
use Rattle.selector_types.specs.SelectorInduction.{by_lists, Cases}
use Rattle.selector_types.specs.Spelling.{call, combinator_spelling, compound_spelling, compound_text, delim, ends_in_dashes, ident, lead_spelling, links_spelling, list_spelling, list_text, more_spelling, pseudo_spelling, selector_spelling, simple_spelling, spelling, tail_spelling, type_spelling}
use Rattle.selector_types.proofs.PartReads.{AreParts, Calls, Inner, IsPart, calm-close, comma-stays, greater-stays, inner-stands, mark, name-starts, part-attribute, part-call, part-class, part-id, part-parent, part-tail, parts-append, parts-none, parts-one, star-starts, tilde-stays, type-stands, words-append, words-single}
use Rattle.selector_types.proofs.PseudoReads.{part-pseudo, call-is, call-global, call-local, call-not, call-where}
use Rattle.selector_types.proofs.WordReads.{Calm, Follows, Laws, ReadsBefore, Stands, Starts, follows-calm, reads-append, reads-first, stands-append, starts-front}

-- The parts, the links and the further selectors in a spelling.

abbrev pub parts_in : List part.Part → List Component
parts_in ps = flat_map (λ p. p) (map (λ p. p.0) (map (made_part (placed spelling)) ps))

abbrev pub links_in : Bool → List link.Link → List Component
links_in dashes ls = links_spelling dashes (map (made_link (placed spelling)) ls)

abbrev pub more_in : List selector.Selector → List Component
more_in ss = more_spelling (map selector_spelling ss)

abbrev pub readable_parts : List part.Part → List Bool
readable_parts ps = map (λ p. p.0) (map (made_part (placed readable)) ps)

pub compound-words : (k : compound.Compound) → words_all (compound_spelling k) ≡ words_all (type_spelling k.kind) ++ (words_all (parts_in k.parts) ++ words_all (tail_spelling k.tail))
compound-words k =
    ap words_all (folded-Compound (placed spelling) k)
    ∙ words-append (type_spelling k.kind) (parts_in k.parts ++ tail_spelling k.tail)
    ∙ ap (λ (ws : List Word). words_all (type_spelling k.kind) ++ ws) (words-append (parts_in k.parts) (tail_spelling k.tail))

-- Combinators.

abbrev pub space_word : Word
space_word = word_from kinds.White (codes " ")

abbrev child_words : Bool → List Word
child_words true = space_word ∷ mark (codes ">") ∷ []
child_words false = mark (codes ">") ∷ []

abbrev pub combinator_words : Bool → Combinator → List Word
combinator_words dashes combinators.Descendant = space_word ∷ []
combinator_words dashes combinators.Child = child_words dashes
combinator_words dashes combinators.Next = mark (codes "+") ∷ []
combinator_words dashes combinators.Later = mark (codes "~") ∷ []

pub combinator-same : (dashes : Bool) (c : Combinator) → words_all (combinator_spelling dashes c) ≡ combinator_words dashes c
combinator-same dashes combinators.Descendant = words-single kinds.White (codes " ") []
combinator-same true combinators.Child = words-single kinds.White (codes " ") (delim (codes ">") ∷ []) ∙ ap (λ (ws : List Word). space_word ∷ ws) (words-single kinds.Delim (codes ">") [])
combinator-same false combinators.Child = words-single kinds.Delim (codes ">") []
combinator-same dashes combinators.Next = words-single kinds.Delim (codes "+") []
combinator-same dashes combinators.Later = words-single kinds.Delim (codes "~") []

-- words that are read before the rest, and which may stand behind a text that ends in `--` or does not
record Continues (dashes : Bool) (ws : List Word) (rest : List ℕ) : Type 0 where
  reads : ReadsBefore ws rest
  follows : (text : List ℕ) → ends_in_dashes text ≡ dashes → Follows text (spelled ws ++ rest)

continues-calm : (dashes : Bool) (ws : List Word) (rest : List ℕ) → ReadsBefore ws rest → Calm (spelled ws ++ rest) → Continues dashes ws rest
continues-calm dashes ws rest r c = record { reads = r; follows = λ text e. follows-calm text (spelled ws ++ rest) c }

-- what is shown of a compound and of a selector
record IsCompound (ws : List Word) : Type 0 where
  stands : Stands ws
  starts : Starts ws

abbrev IsSelector : List Word → Type 0
IsSelector ws = (rest : List ℕ) → Calm rest → ReadsBefore ws rest

abbrev P : Simple → Type 0
P x = is_readable_simple x ≡ true → IsPart (words_all (simple_spelling x))

abbrev Q : compound.Compound → Type 0
Q k = (last : Bool) → is_readable_compound last k ≡ true → IsCompound (words_all (compound_spelling k))

abbrev R : selector.Selector → Type 0
R s = (nested : Bool) → is_readable_selector nested s ≡ true → IsSelector (words_all (selector_spelling s))

-- each compound behind a first one is readable where it stands
abbrev pub EachLink : List link.Link → Type 0
EachLink [] = Unit {0}
EachLink (l ∷ ls) = ((last : Bool) × (is_readable_compound last (compound_of l) ≡ true)) × EachLink ls

pub links-each : (first : Bool → Bool) (ls : List link.Link) → are_readable first (map (made_link (placed readable)) ls) ≡ true → ((last : Bool) × (first last ≡ true)) × EachLink ls
links-each first [] h = ((true, h), tt)
links-each first (l ∷ ls) h =
    let p = and_parts (first false) (are_readable (bare_compound readable (compound_of l)) (map (made_link (placed readable)) ls)) h in
    ((false, p.0), links-each (bare_compound readable (compound_of l)) ls p.1)

module _ (l : Laws) where
  combinator-continues : (dashes : Bool) (c : Combinator) (ws : List Word) (rest : List ℕ) → Starts ws → ReadsBefore ws rest → Continues dashes (combinator_words dashes c ++ ws) rest
  combinator-continues dashes combinators.Descendant ws rest s r =
      continues-calm dashes (space_word ∷ ws) rest (reads-first space_word ws rest (l.spaced (spelled ws ++ rest) (s.white rest)) refl r) (record { hash = refl; name = refl; ident = refl })
  combinator-continues true combinators.Child ws rest s r =
      let child = mark (codes ">") in
      continues-calm true (space_word ∷ child ∷ ws) rest
      (reads-first space_word (child ∷ ws) rest (l.spaced (spelled (child ∷ ws) ++ rest) refl) refl (reads-first child ws rest (greater-stays l (spelled ws ++ rest)) refl r))
      (record { hash = refl; name = refl; ident = refl })
  combinator-continues false combinators.Child ws rest s r = record {
    reads = reads-first (mark (codes ">")) ws rest (greater-stays l (spelled ws ++ rest)) refl r;
    follows = λ text e. (refl, refl, λ d. absurd (false≢true (sym e ∙ d)));
  }
  combinator-continues dashes combinators.Next ws rest s r =
      continues-calm dashes (mark (codes "+") ∷ ws) rest (reads-first (mark (codes "+")) ws rest (s.plus rest) refl r) (record { hash = refl; name = refl; ident = refl })
  combinator-continues dashes combinators.Later ws rest s r =
      continues-calm dashes (mark (codes "~") ∷ ws) rest (reads-first (mark (codes "~")) ws rest (tilde-stays l (spelled ws ++ rest)) refl r) (record { hash = refl; name = refl; ident = refl })

  -- Compounds.

  parts-read : (ps : List part.Part) → AllByRecursion (λ p. P (simple_of p)) ps → list_all (λ p. p) (readable_parts ps) ≡ true → AreParts (words_all (parts_in ps))
  parts-read [] each h = parts-none
  parts-read (p ∷ ps) each h =
      let q = and_parts (is_readable_simple (simple_of p)) (list_all (λ b. b) (readable_parts ps)) h in
      subst AreParts (sym (words-append (simple_spelling (simple_of p)) (parts_in ps)))
      (parts-append l (words_all (simple_spelling (simple_of p))) (words_all (parts_in ps)) (parts-one (words_all (simple_spelling (simple_of p))) (each.0 q.0)) (parts-read ps each.1 q.1))

  tail-read : (last : Bool) (t : Option tail.Tail) → is_readable_tail last t ≡ true → AreParts (words_all (tail_spelling t))
  tail-read last None h = parts-none
  tail-read last (Some t) h = parts-one (words_all (tail_spelling (Some t))) (part-tail l t (and_parts last (is_pseudo_text t.element && list_all is_pseudo_text t.states) h).1)

  starts-behind : (ps : List part.Part) (last : Bool) (t : Option tail.Tail) → AllByRecursion (λ p. P (simple_of p)) ps → list_all (λ p. p) (readable_parts ps) ≡ true → is_readable_tail last t ≡ true → (has_some (readable_parts ps) || is_some t) ≡ true → Starts (words_all (parts_in ps) ++ words_all (tail_spelling t))
  starts-behind [] last None each h k some = absurd (false≢true some)
  starts-behind [] last (Some t) each h k some = let p = part-tail l t (and_parts last (is_pseudo_text t.element && list_all is_pseudo_text t.states) k).1 in p.starts
  starts-behind (p ∷ ps) last t each h k some =
      let q = and_parts (is_readable_simple (simple_of p)) (list_all (λ b. b) (readable_parts ps)) h in
      let here = words_all (simple_spelling (simple_of p)) in
      let part = each.0 q.0 in
      starts-front (words_all (parts_in (p ∷ ps))) (words_all (tail_spelling t))
      (subst Starts (sym (words-append (simple_spelling (simple_of p)) (parts_in ps))) (starts-front here (words_all (parts_in ps)) part.starts))

  compound-starts : (kind : TypeName) (ps : List part.Part) (last : Bool) (t : Option tail.Tail) → AllByRecursion (λ p. P (simple_of p)) ps → (has_type kind || (has_some (readable_parts ps) || is_some t)) ≡ true → is_readable_type kind ≡ true → list_all (λ p. p) (readable_parts ps) ≡ true → is_readable_tail last t ≡ true
      → Starts (words_all (type_spelling kind) ++ (words_all (parts_in ps) ++ words_all (tail_spelling t)))
  compound-starts types.None ps last t each some h k m = starts-behind ps last t each k m some
  compound-starts types.Universal ps last t each some h k m = starts-front (words_all (type_spelling types.Universal)) (words_all (parts_in ps) ++ words_all (tail_spelling t)) (star-starts l)
  compound-starts (types.Name n) ps last t each some h k m = starts-front (words_all (type_spelling (types.Name n))) (words_all (parts_in ps) ++ words_all (tail_spelling t)) (name-starts l n h)

  compound-read : (k : compound.Compound) → AllByRecursion (λ p. P (simple_of p)) k.parts → Q k
  compound-read k each last h =
      let parts = readable_parts k.parts in
      let g : ((has_type k.kind || (has_some parts || is_some k.tail)) && (is_readable_type k.kind && (list_all (λ p. p) parts && is_readable_tail last k.tail))) ≡ true = sym (ap (λ (f : Bool → Bool). f last) (folded-Compound (placed readable) k)) ∙ h in
      let p = and_parts (has_type k.kind || (has_some parts || is_some k.tail)) (is_readable_type k.kind && (list_all (λ p. p) parts && is_readable_tail last k.tail)) g in
      let q = and_parts (is_readable_type k.kind) (list_all (λ p. p) parts && is_readable_tail last k.tail) p.1 in
      let r = and_parts (list_all (λ p. p) parts) (is_readable_tail last k.tail) q.1 in
      let type = words_all (type_spelling k.kind) in
      let inner = words_all (parts_in k.parts) in
      let end = words_all (tail_spelling k.tail) in
      let behind = parts-append l inner end (parts-read k.parts each r.0) (tail-read last k.tail r.1) in
      subst IsCompound (sym (compound-words k)) (record {
        stands = stands-append l type (inner ++ end) (type-stands l k.kind q.0) behind.stands behind.begins;
        starts = compound-starts k.kind k.parts last k.tail each p.0 q.0 r.0 r.1;
      })

  -- Selectors.

  links-read : (dashes : Bool) (ls : List link.Link) (rest : List ℕ) → AllByRecursion (λ k. Q (compound_of k)) ls → EachLink ls → Calm rest → Continues dashes (words_all (links_in dashes ls)) rest
  links-read dashes [] rest each h c = continues-calm dashes [] rest refl c
  links-read dashes (k ∷ ls) rest each h c =
      let first = compound_spelling (compound_of k) in
      let d = ends_in_dashes (compound_text (compound_of k)) in
      let links = links_in d ls in
      let here = each.0 h.0.0 h.0.1 in
      let more = links-read d ls rest each.1 h.1 c in
      let both = words_all first ++ words_all links in
      let reads : ReadsBefore both rest = reads-append l (words_all first) (words_all links) rest (here.stands (spelled (words_all links) ++ rest) (more.follows (compound_text (compound_of k)) refl)) more.reads in
      let same : words_all (links_in dashes (k ∷ ls)) ≡ combinator_words dashes (combinator_of k) ++ both =
      words-append (combinator_spelling dashes (combinator_of k)) (first ++ links)
      ∙ ap (λ (ws : List Word). ws ++ words_all (first ++ links)) (combinator-same dashes (combinator_of k))
      ∙ ap (λ (ws : List Word). combinator_words dashes (combinator_of k) ++ ws) (words-append first links) in
      subst (λ (ws : List Word). Continues dashes ws rest) (sym same) (combinator-continues dashes (combinator_of k) both rest (starts-front (words_all first) (words_all links) here.starts) reads)

  lead-read : (lead : Option Combinator) (ws : List Word) (rest : List ℕ) → Starts ws → ReadsBefore ws rest → ReadsBefore (words_all (lead_spelling lead) ++ ws) rest
  lead-read None ws rest s r = r
  lead-read (Some c) ws rest s r =
      let whole = combinator-continues false c ws rest s r in
      subst (λ (vs : List Word). ReadsBefore (vs ++ ws) rest) (sym (combinator-same false c)) whole.reads

  selector-read : (s : selector.Selector) → Q s.first → AllByRecursion (λ k. Q (compound_of k)) s.rest → R s
  selector-read s first each nested h rest c =
      let d = ends_in_dashes (compound_text s.first) in
      let links = links_in d s.rest in
      let g : (is_readable_lead nested s.lead && are_readable (bare_compound readable s.first) (map (made_link (placed readable)) s.rest)) ≡ true = sym (ap (λ (f : Bool → Bool). f nested) (folded-Selector (placed readable) s)) ∙ h in
      let e = links-each (bare_compound readable s.first) s.rest (and_parts (is_readable_lead nested s.lead) (are_readable (bare_compound readable s.first) (map (made_link (placed readable)) s.rest)) g).1 in
      let here = first e.0.0 e.0.1 in
      let more = links-read d s.rest rest each e.1 c in
      let front = words_all (compound_spelling s.first) in
      let both = front ++ words_all links in
      let reads : ReadsBefore both rest = reads-append l front (words_all links) rest (here.stands (spelled (words_all links) ++ rest) (more.follows (compound_text s.first) refl)) more.reads in
      let same : words_all (selector_spelling s) ≡ words_all (lead_spelling s.lead) ++ both =
      ap words_all (folded-Selector (placed spelling) s)
      ∙ words-append (lead_spelling s.lead) (compound_spelling s.first ++ links)
      ∙ ap (λ (ws : List Word). words_all (lead_spelling s.lead) ++ ws) (words-append (compound_spelling s.first) links) in
      subst (λ (ws : List Word). ReadsBefore ws rest) (sym same) (lead-read s.lead both rest (starts-front front (words_all links) here.starts) reads)

  -- Lists.

  abbrev comma_word : Word
  comma_word = word_from kinds.Comma (codes ",")

  more-read : (nested : Bool) (ss : List selector.Selector) (rest : List ℕ) → AllByRecursion R ss → list_all (is_readable_selector nested) ss ≡ true → Calm rest → Continues true (words_all (more_in ss)) rest
  more-read nested [] rest each h c = continues-calm true [] rest refl c
  more-read nested (s ∷ ss) rest each h c =
      let p = and_parts (is_readable_selector nested s) (list_all (is_readable_selector nested) ss) h in
      let here = words_all (selector_spelling s) in
      let more = more-read nested ss rest each.1 p.1 c in
      let behind = words_all (more_in ss) in
      let calm : Calm (spelled behind ++ rest) = calm-behind (more.follows (codes "--") refl) in
      let reads = reads-append l here behind rest (each.0 nested p.0 (spelled behind ++ rest) calm) more.reads in
      subst (λ (ws : List Word). Continues true ws rest) (sym (words-single kinds.Comma (codes ",") (selector_spelling s ++ more_in ss) ∙ ap (λ (ws : List Word). comma_word ∷ ws) (words-append (selector_spelling s) (more_in ss))))
      (continues-calm true (comma_word ∷ (here ++ behind)) rest (reads-first comma_word (here ++ behind) rest (comma-stays l (spelled (here ++ behind) ++ rest)) refl reads) (record { hash = refl; name = refl; ident = refl }))
    where
      calm-behind : {t : List ℕ} → Follows (codes "--") t → Calm t
      calm-behind {t} f = record { hash = f.0; name = f.1; ident = f.2 refl }

  list-read : (nested : Bool) (ss : List selector.Selector) (rest : List ℕ) → AllByRecursion R ss → list_all (is_readable_selector nested) ss ≡ true → Calm rest → ReadsBefore (words_all (list_spelling ss)) rest
  list-read nested [] rest each h c = refl
  list-read nested (s ∷ ss) rest each h c =
      let p = and_parts (is_readable_selector nested s) (list_all (is_readable_selector nested) ss) h in
      let here = words_all (selector_spelling s) in
      let more = more-read nested ss rest each.1 p.1 c in
      let behind = words_all (more_in ss) in
      let f = more.follows (codes "--") refl in
      subst (λ (ws : List Word). ReadsBefore ws rest) (sym (words-append (selector_spelling s) (more_in ss)))
      (reads-append l here behind rest (each.0 nested p.0 (spelled behind ++ rest) (record { hash = f.0; name = f.1; ident = f.2 refl })) more.reads)

  inner-list : (ss : List selector.Selector) → AllByRecursion R ss → list_all (λ s. s false) (map (bare_selector readable) ss) ≡ true → Inner (words_all (list_spelling ss))
  inner-list ss each h rest = list-read false ss (codes ")" ++ rest) each (sym (list_all-map (λ s. s false) (bare_selector readable) ss) ∙ h) (calm-close rest)

  called : (x : Simple) (f : List ℕ) (argument : List Component) → simple_spelling x ≡ call f argument → Calls f → Inner (words_all argument) → IsPart (words_all (simple_spelling x))
  called x f argument e c i = subst (λ (cs : List Component). IsPart (words_all cs)) (sym e) (part-call l f argument c i)

  cases : Cases P Q R
  cases = record {
    class = λ n h. subst IsPart (sym (ap words_all (folded-Class (placed spelling) n) ∙ words-single kinds.Delim (codes ".") (ident n ∷ []) ∙ ap (λ (ws : List Word). mark (codes ".") ∷ ws) (words-single kinds.Ident (name_text n) []))) (part-class l n (sym (folded-Class (placed readable) n) ∙ h));
    id = λ n h. subst IsPart (sym (ap words_all (folded-Id (placed spelling) n) ∙ words-single kinds.Hash (codes "#" ++ name_text n) [])) (part-id l n (sym (folded-Id (placed readable) n) ∙ h));
    attribute = λ a h. subst (λ (cs : List Component). IsPart (words_all cs)) (sym (folded-Attribute (placed spelling) a)) (part-attribute l a (sym (folded-Attribute (placed readable) a) ∙ h));
    pseudo = λ t h. subst IsPart (sym (ap words_all (folded-Pseudo (placed spelling) t) ∙ words-single kinds.Colon (codes ":") (pseudo_spelling t ∷ []))) (part-pseudo l t (sym (folded-Pseudo (placed readable) t) ∙ h));
    not_of = λ ss each h. called (simple.Not ss) (codes "not(") (list_spelling ss) (folded-Not (placed spelling) ss) call-not (inner-list ss each (and_parts (has_some (map (bare_selector readable) ss)) _ (sym (folded-Not (placed readable) ss) ∙ h)).1);
    is_of = λ ss each h. called (simple.Is ss) (codes "is(") (list_spelling ss) (folded-Is (placed spelling) ss) call-is (inner-list ss each (sym (folded-Is (placed readable) ss) ∙ h));
    where_of = λ ss each h. called (simple.Where ss) (codes "where(") (list_spelling ss) (folded-Where (placed spelling) ss) call-where (inner-list ss each (sym (folded-Where (placed readable) ss) ∙ h));
    parent = λ h. subst IsPart (sym (ap words_all (folded-Parent (placed spelling)) ∙ words-single kinds.Delim (codes "&") [])) (part-parent l);
    local = λ k q h. let c = q false (sym (folded-Local (placed readable) k) ∙ h) in called (simple.Local k) (codes "local(") (compound_spelling k) (folded-Local (placed spelling) k) call-local (inner-stands (words_all (compound_spelling k)) c.stands);
    global = λ k q h. let c = q false (sym (folded-Global (placed readable) k) ∙ h) in called (simple.Global k) (codes "global(") (compound_spelling k) (folded-Global (placed spelling) k) call-global (inner-stands (words_all (compound_spelling k)) c.stands);
    foreign = λ h. absurd (false≢true (sym (folded-Foreign (placed readable)) ∙ h));
    compound = compound-read;
    selector = selector-read;
  }

  -- before a block the text of a list is read as its words
  pub text-reads : (nested : Bool) (ss : List selector.Selector) (rest : List ℕ) → is_readable_list nested ss ≡ true → ReadsTo (list_text ss ++ (codes "{" ++ rest)) (words_all (list_spelling ss)) (codes "{" ++ rest)
  text-reads nested ss rest h = list-read nested ss (codes "{" ++ rest) (by_lists P Q R cases ss) (and_parts (has_some ss) (list_all (is_readable_selector nested) ss) h).1 (record { hash = refl; name = refl; ident = refl })
