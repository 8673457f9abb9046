-- Each value of a supports condition that is read stands in its text before a stop.
use Rattle.std.proofs.Common.{◌≡◌, ℕ, List, [], ◌∷◌, ◌++◌, map, Bool, true, false, refl, sym, ap, ◌∙◌, subst, append_assoc, codes, inl, inr}
use Rattle.std.specs.Prelude.{Option, Some, None, flat_map, if◌then◌else◌}
use Rattle.std.specs.List.{AllByRecursion, list_all}
use Rattle.std.proofs.lemmas.Bool.{and_parts, cases_Bool, false≢true}
use Rattle.css_tokens.specs.declared.kind.Kind.{Kind}
use Rattle.css_tokens.specs.declared.kind.Kind.TheVariants as kinds
use Rattle.css_tokens.specs.declared.component.Component.{Component}
use Rattle.css_tokens.specs.declared.component.Component as component
use Rattle.css_tokens.specs.declared.component.Component.TheVariants.{outs-Single, outs-Block}
use Rattle.css_tokens.specs.declared.component.Block as block
use Rattle.css_tokens.specs.Again.{StaysFirst, is_end_kind, is_stop}
use Rattle.css_tokens.specs.Names.{name_of_word}
use Rattle.css_tokens.specs.Piece.{Piece, Word, spelled, word_of}
use Rattle.css_tokens.specs.Tokens.{First, ReadsTo, classes_of}
use Rattle.css_tokens.specs.Trees.{all_formed, closing, is_text, pieces_all, pieces_of-Single, words_all}
use Rattle.media_spelling.specs.declared.supports.Supports.{Supports}
use Rattle.media_spelling.specs.declared.supports.Supports as supports
use Rattle.media_spelling.specs.SupportsFold.{folded-And, folded-Or, folded-Not, folded-Declared, folded-Function}
use Rattle.media_tree.specs.declared.mark.Mark.TheVariants as marks
use Rattle.media_tree.specs.declared.sign.Sign.{Sign}
use Rattle.media_tree.specs.declared.sign.Sign.TheVariants.{Not, Only, And, Or, Name, Other}
use Rattle.media_tree.specs.ComponentInduction.{Each, by_components}
use Rattle.media_tree.specs.Conditions.{condition_of, kind_sign, solid, within}
use Rattle.media_tree.specs.Marks.{is_gap, is_gap_mark, layer_mark, lowered, mark_of, token_mark, trimmed, trimmed_end, trimmed_start}
use Rattle.media_tree.specs.SpelledWords.{AreRead, is_spelled}
use Rattle.media_tree.specs.SupportsReading.{declaration_from, declaration_of, declared, declared_by, declared_from, inside_of, is_colon_mark, is_custom, makes, may_be_value, name_of, opened_sign, property_name, sign_of, supports_inside, supports_reading}
use Rattle.media_spelling.specs.SupportsValues.{DeclaredValuesStand, ValueStands, gathering, supports_values}
use Rattle.media_tree.proofs.ListsHold.{each-append}
use Rattle.media_tree.proofs.PartsOfTexts.{words-block, words-cons, words_of}
use Rattle.media_tree.proofs.PartsRead.{Splits, Stands, all-stand, inside-stand}
use Rattle.media_tree.proofs.ReadConditions.{InWithin, Kept, OfSome, condition-kept, in-within, solid-kept, some-or}
use Rattle.media_tree.proofs.SignEquations.{supports-Single, supports-Block}
use Rattle.media_tree.proofs.TrimLemmas.{trimmed_start-gap, trimmed_start-other}
use Rattle.media_tree.proofs.WordsRead.{words-append}

abbrev ReadsBefore : List Word → List ℕ → Type 0
ReadsBefore ws s = ReadsTo (spelled ws ++ s) ws s

abbrev IsStop : List Word → List ℕ → Type 0
IsStop ws s = is_stop (classes_of (spelled ws ++ s)) ≡ true

-- what is ensured of readings and of what ends a value
pub record StandLaws : Type 0 where
  pub splits : Splits
  pub stops : (w : Word) (rest : List ℕ) → StaysFirst w rest → is_end_kind w.kind ≡ true → is_stop (classes_of (w.text ++ rest)) ≡ true

-- what trimming takes from the end
record Trims (xs : List Component) : Type 0 where
  gaps : List Component
  whole : xs ≡ trimmed_end xs ++ gaps
  each : list_all is_gap gaps ≡ true

trims : (xs : List Component) → Trims xs
trims [] = record { gaps = []; whole = refl; each = refl }
trims (c ∷ cs) = at (trims cs) (list_all is_gap (c ∷ cs)) refl
  where
    at : Trims cs → (b : Bool) → list_all is_gap (c ∷ cs) ≡ b → Trims (c ∷ cs)
    at rest true all =
        let none : trimmed_end (c ∷ cs) ≡ [] = ap (λ (b : Bool). if b then [] else c ∷ trimmed_end cs) all in
        record { gaps = c ∷ cs; whole = ap (λ (t : List Component). t ++ c ∷ cs) (sym none); each = all }
    at rest false some =
        let same : trimmed_end (c ∷ cs) ≡ c ∷ trimmed_end cs = ap (λ (b : Bool). if b then [] else c ∷ trimmed_end cs) some in
        record { gaps = rest.gaps; whole = ap (λ (t : List Component). c ∷ t) rest.whole ∙ ap (λ (t : List Component). t ++ rest.gaps) (sym same); each = rest.each }

-- White space and comments end a value.

delim-no-gap : (a b c d e : Bool) → is_gap_mark (if a then marks.Less else (if b then marks.Greater else (if c then marks.Equals else (if d then marks.Slash else (if e then marks.Bang else marks.Other))))) ≡ false
delim-no-gap true b c d e = refl
delim-no-gap false true c d e = refl
delim-no-gap false false true d e = refl
delim-no-gap false false false true e = refl
delim-no-gap false false false false true = refl
delim-no-gap false false false false false = refl

gap-ends : (k : Kind) (t : List ℕ) → is_gap_mark (token_mark k t) ≡ true → is_end_kind k ≡ true
gap-ends kinds.White t h = refl
gap-ends kinds.Comment t h = refl
gap-ends kinds.Delim t h = absurd (false≢true (sym (delim-no-gap (is_text t (codes "<")) (is_text t (codes ">")) (is_text t (codes "=")) (is_text t (codes "/")) (is_text t (codes "!"))) ∙ h))
gap-ends k t h = absurd (false≢true h)

block-no-gap : (braces : Bool) → is_gap_mark (if braces then marks.Braces else marks.Other) ≡ false
block-no-gap true = refl
block-no-gap false = refl

-- Lists that stand in a text.

module _ (l : StandLaws) where
  -- a word that ends a value begins a stop
  word-stop : (w : Word) (ws : List Word) (s : List ℕ) → ReadsBefore (w ∷ ws) s → is_end_kind w.kind ≡ true → IsStop (w ∷ ws) s
  word-stop w ws s r ends =
      (let e = append_assoc w.text (spelled ws) s in
      subst (λ (t : List ℕ). is_stop (classes_of t) ≡ true) (sym e) (l.stops w (spelled ws ++ s) (subst (λ (t : List ℕ). First t w) e r.0) ends))

  first-gap : (c : Component) (cs : List Component) (s : List ℕ) → is_gap c ≡ true → ReadsBefore (words_all (c ∷ cs)) s → IsStop (words_all (c ∷ cs)) s
  first-gap c =
      by_components (λ x. (cs : List Component) (s : List ℕ) → is_gap x ≡ true → ReadsBefore (words_all (x ∷ cs)) s → IsStop (words_all (x ∷ cs)) s)
      (λ p cs s gap r.
      let words : words_all (component.Single p ∷ cs) ≡ word_of p ∷ words_all cs = ap (λ (ps : List Piece). map word_of (ps ++ pieces_all cs)) (pieces_of-Single p) in
      let ends = gap-ends p.kind p.text (sym (ap (λ v. is_gap_mark (layer_mark v)) (outs-Single p)) ∙ gap) in
      subst (λ (ws : List Word). IsStop ws s) (sym words) (word-stop (word_of p) (words_all cs) s (subst (λ (ws : List Word). ReadsBefore ws s) words r) ends))
      (λ b each cs s gap r. absurd (false≢true (sym (ap (λ v. is_gap_mark (layer_mark v)) (outs-Block b) ∙ block-no-gap (is_text b.opening.text (codes "{"))) ∙ gap)))
      c

  gaps-stop : (gaps : List Component) (s : List ℕ) → list_all is_gap gaps ≡ true → is_stop (classes_of s) ≡ true → ReadsBefore (words_all gaps) s → IsStop (words_all gaps) s
  gaps-stop [] s each stop r = stop
  gaps-stop (c ∷ cs) s each stop r = first-gap c cs s (and_parts (is_gap c) (list_all is_gap cs) each).0 r

  tail-stands : (c : Component) (cs : List Component) → ValueStands (c ∷ cs) → ValueStands cs
  tail-stands c cs h = record {
    behind = h.behind;
    stop = h.stop;
    reads = l.splits.back (words_of c) (words_all cs) h.behind (subst (λ (ws : List Word). ReadsBefore ws h.behind) (words-cons c cs) h.reads);
  }

  start-stands : (cs : List Component) → ValueStands cs → ValueStands (trimmed_start cs)
  start-stands [] h = h
  start-stands (c ∷ cs) h = elim (cases_Bool (is_gap c)) [
    | inl gap ↦ subst ValueStands (sym (trimmed_start-gap c cs gap)) (start-stands cs (tail-stands c cs h))
    | inr other ↦ subst ValueStands (sym (trimmed_start-other c cs other)) h
  ]

  end-stands : (cs : List Component) → ValueStands cs → ValueStands (trimmed_end cs)
  end-stands cs h =
      (let cut = trims cs in
      let front = words_all (trimmed_end cs) in
      let gaps = words_all cut.gaps in
      let words : words_all cs ≡ front ++ gaps = ap (λ (xs : List Component). words_all xs) cut.whole ∙ words-append (trimmed_end cs) cut.gaps in
      let both = subst (λ (ws : List Word). ReadsBefore ws h.behind) words h.reads in
      record {
        behind = spelled gaps ++ h.behind;
        stop = gaps-stop cut.gaps h.behind cut.each h.stop (l.splits.back front gaps h.behind both);
        reads = l.splits.front front gaps h.behind both;
      })

  trimmed-stands : (cs : List Component) → ValueStands cs → ValueStands (trimmed cs)
  trimmed-stands cs h = end-stands (trimmed_start cs) (start-stands cs h)

  -- what is in a block stands before the token that closes it
  items-stand : (b : block.Block) → Stands (component.Block b) → ValueStands b.items
  items-stand b stands =
      (let inner = words_all b.items in
      let last = word_of (closing b.opening b.close) in
      let s = stands.behind in
      let whole = subst (λ (ws : List Word). ReadsBefore ws s) (words-block b) stands.reads in
      let items = l.splits.back (word_of b.opening ∷ []) (inner ++ last ∷ []) s whole in
      record {
        behind = spelled (last ∷ []) ++ s;
        stop = word-stop last [] s (l.splits.back inner (last ∷ []) s items) refl;
        reads = l.splits.front inner (last ∷ []) s items;
      })

  -- Declarations.

  declared-stands : (n : List ℕ) (v : List Component) → ValueStands v → OfSome DeclaredValuesStand (declared n v)
  declared-stands n v h = at (may_be_value (is_custom n) v)
    where
      at : (b : Bool) → OfSome DeclaredValuesStand (if b then Some (supports.Declared (property_name n) v) else None)
      at true = subst (λ (vs : List (List Component)). AllByRecursion ValueStands vs) (sym (folded-Declared gathering (property_name n) v)) (h, tt)
      at false = tt

  where_some : (b : Bool) (o : Option Supports) → OfSome DeclaredValuesStand o → OfSome DeclaredValuesStand (if b then o else None)
  where_some true o h = h
  where_some false o h = tt

  from-stands : (n : List ℕ) (cs : List Component) → ValueStands cs → OfSome DeclaredValuesStand (declared_from n cs)
  from-stands n [] h = tt
  from-stands n (c ∷ cs) h = where_some (is_colon_mark (mark_of c)) (declared n (trimmed cs)) (declared-stands n (trimmed cs) (trimmed-stands cs (tail-stands c cs h)))

  by-stands : (o : Option (List ℕ)) (cs : List Component) → ValueStands cs → OfSome DeclaredValuesStand (declared_by o cs)
  by-stands None cs h = tt
  by-stands (Some n) cs h = from-stands n (trimmed_start cs) (start-stands cs h)

  begun-stands : (cs : List Component) → ValueStands cs → OfSome DeclaredValuesStand (declaration_from cs)
  begun-stands [] h = tt
  begun-stands (c ∷ cs) h = by-stands (name_of c) cs (tail-stands c cs h)

  declaration-stands : (cs : List Component) → ValueStands cs → OfSome DeclaredValuesStand (declaration_of cs)
  declaration-stands cs h = begun-stands (trimmed_start cs) (start-stands cs h)

  -- Conditions.

  abbrev AllStand : List (List Component) → Type 0
  AllStand vs = AllByRecursion ValueStands vs

  rows-stand : (ss : List Supports) → AllByRecursion DeclaredValuesStand ss → AllStand (flat_map (λ v. v) (map supports_values ss))
  rows-stand [] h = tt
  rows-stand (s ∷ ss) h = each-append ValueStands (supports_values s) (flat_map (λ v. v) (map supports_values ss)) h.0 (rows-stand ss h.1)

  rows-kept : Kept makes DeclaredValuesStand
  rows-kept = record {
    and_of = λ c d cs h. subst AllStand (sym (folded-And gathering (c ∷ d ∷ cs))) (rows-stand (c ∷ d ∷ cs) h);
    or_of = λ c d cs h. subst AllStand (sym (folded-Or gathering (c ∷ d ∷ cs))) (rows-stand (c ∷ d ∷ cs) h);
    not_of = λ c h. subst AllStand (sym (folded-Not gathering c)) h;
  }

  abbrev IsKept : Sign Supports → Type 0
  IsKept = InWithin DeclaredValuesStand

  name-kept : (n : List ℕ) (a b c d e : Bool) → IsKept (if a then Not else (if b then Only else (if c then And else (if d then Or else (if e then Other else Name n)))))
  name-kept n true b c d e = tt
  name-kept n false true c d e = tt
  name-kept n false false true d e = tt
  name-kept n false false false true e = tt
  name-kept n false false false false true = tt
  name-kept n false false false false false = tt

  kind-kept : (k : Kind) (t : List ℕ) → IsKept (kind_sign k t)
  kind-kept kinds.Ident t =
      (let n = lowered (name_of_word kinds.Ident t) in
      name-kept n (is_text n (codes "not")) (is_text n (codes "only")) (is_text n (codes "and")) (is_text n (codes "or")) (is_text n (codes "layer")))
  kind-kept k t = tt

  parens-kept : (b : Bool) (o : Option Supports) → OfSome DeclaredValuesStand o → IsKept (if b then within o else Other)
  parens-kept true o h = in-within DeclaredValuesStand o h
  parens-kept false o h = tt

  opened-kept : (k : Kind) (b : block.Block) (ws : List (Sign Supports)) → OfSome DeclaredValuesStand (inside_of b.items ws) → IsKept (opened_sign k b ws)
  opened-kept kinds.Function b ws h = subst AllStand (sym (folded-Function gathering b.opening.at)) tt
  opened-kept kinds.Open b ws h = parens-kept (is_text b.opening.text (codes "(")) (inside_of b.items ws) h
  opened-kept k b ws h = tt

  abbrev SignKept : Component → Type 0
  SignKept c = Stands c → IsKept (sign_of c)

  signs-kept : (cs : List Component) → Each SignKept cs → Each Stands cs → AllByRecursion IsKept (map sign_of cs)
  signs-kept [] h g = tt
  signs-kept (c ∷ cs) h g = (h.0 g.0, signs-kept cs h.1 g.1)

  reading-stands : (cs : List Component) → AllByRecursion IsKept (map sign_of cs) → OfSome DeclaredValuesStand (condition_of makes (solid (map sign_of cs)))
  reading-stands cs h = condition-kept DeclaredValuesStand makes rows-kept (solid (map sign_of cs)) (solid-kept DeclaredValuesStand (map sign_of cs) h)

  sign-kept : (c : Component) → SignKept c
  sign-kept c =
      by_components SignKept
      (λ p g. subst IsKept (sym (supports-Single p)) (kind-kept p.kind p.text))
      (λ b each g.
      let signs = map sign_of b.items in
      let read = reading-stands b.items (signs-kept b.items each (inside-stand l.splits b g)) in
      subst IsKept (sym (supports-Block b)) (opened-kept b.opening.kind b signs (some-or DeclaredValuesStand (condition_of makes (solid signs)) (declaration_of b.items) read (declaration-stands b.items (items-stand b g)))))
      c

  each-kept : (cs : List Component) → Each SignKept cs
  each-kept [] = tt
  each-kept (c ∷ cs) = (sign-kept c, each-kept cs)

  -- Each value in what is read stands before a stop.
  pub supports-stand : (cs : List Component) (s : Supports) → all_formed cs ≡ true → list_all is_spelled (words_all cs) ≡ true → AreRead cs → supports_reading cs ≡ Some s → DeclaredValuesStand s
  supports-stand cs s f w read e = subst (OfSome DeclaredValuesStand) e (reading-stands cs (signs-kept cs (each-kept cs) (all-stand l.splits cs f w read)))

  -- Each value in what is read in a block does so too.
  pub inside-stands : (b : block.Block) (s : Supports) → all_formed (component.Block b ∷ []) ≡ true → list_all is_spelled (words_all (component.Block b ∷ [])) ≡ true → AreRead (component.Block b ∷ []) → supports_inside b.items ≡ Some s → DeclaredValuesStand s
  inside-stands b s f w read e =
      let stands = (all-stand l.splits (component.Block b ∷ []) f w read).0 in
      let signs = map sign_of b.items in
      let condition = reading-stands b.items (signs-kept b.items (each-kept b.items) (inside-stand l.splits b stands)) in
      subst (OfSome DeclaredValuesStand) e (some-or DeclaredValuesStand (condition_of makes (solid signs)) (declaration_of b.items) condition (declaration-stands b.items (items-stand b stands)))
