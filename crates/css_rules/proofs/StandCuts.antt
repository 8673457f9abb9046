-- What stands in a text stands there in its parts: trimmed, and cut at marks.
use Rattle.std.proofs.Common.{◌≡◌, ℕ, List, [], ◌∷◌, ◌++◌, Bool, true, false, ◌||◌, refl, sym, ◌∙◌, ap, subst, append_assoc, cond, codes, Option, Some, None, inl, inr, MatchOption}
use Rattle.std.specs.List.{list_all, AllByRecursion}
use Rattle.std.proofs.lemmas.Bool.{false≢true, cases_Bool}
use lib.Pointwise.{bytes_decides}
use Rattle.css_tokens.specs.declared.component.Component.{Component}
use Rattle.css_tokens.specs.declared.component.Component as component
use Rattle.css_tokens.specs.declared.kind.Kind.{Kind}
use Rattle.css_tokens.specs.declared.kind.Kind.TheVariants as kinds
use Rattle.css_tokens.specs.Again.{is_end_kind, is_stop}
use Rattle.css_tokens.specs.Piece.{Piece, Word, word_of, spelled}
use Rattle.css_tokens.specs.Tokens.{classes_of}
use Rattle.css_tokens.specs.Trees.{is_text, words_all}
use Rattle.css_tokens.specs.Values.{is_gap as is_gap_kind}
use Rattle.css_components.specs.Components.{head, is_gap, is_braces, is_semicolon, is_semicolon_kind, is_delim_kind, is_bang, is_ident, is_keyword, name_of}
use Rattle.css_components.specs.Trimming.{trimmed, trimmed_start, trimmed_end}
use Rattle.css_rules.specs.Cuts.{Cut, cuts_behind, with_front}
use Rattle.css_rules.specs.Declarations.{is_important}
use Rattle.css_rules.specs.RuleEnds.{ends_in_braces}
use Rattle.css_rules.proofs.CutAgain.{trimmed_end-solid}
use Rattle.css_rules.proofs.CutLemmas.{cuts-unmarked, cuts-marked, trimmed_start-gap, trimmed_start-other}
use Rattle.css_rules.proofs.Heads.{head-Single, ident-Single, ident-Block, gap-Single, gap-Block, semicolon-Single, semicolon-Block, bang-Single, bang-Block}
use Rattle.css_rules.proofs.ImportantNames.{important-stop}
use Rattle.css_rules.proofs.BoolLemmas.{and-left, and-right}
use Rattle.css_rules.proofs.StandLists.{ReadingLaws, AreRead, IsStop, StandsAt, StandsBefore, words-Single, first-stays, stands-front, stands-back, stands-tail, single-stop}
use Rattle.css_rules.proofs.ValueFacts.{shape_of}

-- Tokens alone.

-- it is a token alone of such a kind
record IsToken (test : Kind → Bool) (c : Component) : Type 0 where
  token : Piece
  is : c ≡ component.Single token
  kind : test token.kind ≡ true

gap-token : (c : Component) → is_gap c ≡ true → IsToken is_gap_kind c
gap-token c gap = elim (shape_of c) [
  | inl s ↦ record { token = s.0; is = s.1; kind = sym (gap-Single s.0) ∙ sym (ap is_gap s.1) ∙ gap }
  | inr b ↦ absurd (false≢true (sym (gap-Block b.0) ∙ sym (ap is_gap b.1) ∙ gap))
]

semicolon-token : (c : Component) → is_semicolon c ≡ true → IsToken is_semicolon_kind c
semicolon-token c semicolon = elim (shape_of c) [
  | inl s ↦ record { token = s.0; is = s.1; kind = sym (semicolon-Single s.0) ∙ sym (ap is_semicolon s.1) ∙ semicolon }
  | inr b ↦ absurd (false≢true (sym (semicolon-Block b.0) ∙ sym (ap is_semicolon b.1) ∙ semicolon))
]

gap-ends : (k : Kind) → is_gap_kind k ≡ true → is_end_kind k ≡ true
gap-ends kinds.White e = refl
gap-ends kinds.Comment e = refl
gap-ends k e = absurd (false≢true e)

semicolon-ends : (k : Kind) → is_semicolon_kind k ≡ true → is_end_kind k ≡ true
semicolon-ends kinds.Semicolon e = refl
semicolon-ends k e = absurd (false≢true e)

bang-text : (c : Component) → is_bang c ≡ true → (p : Piece) × (c ≡ component.Single p) × (p.text ≡ codes "!")
bang-text c bang = elim (shape_of c) [
  | inl s ↦ (s.0, s.1, (bytes_decides s.0.text (codes "!")).0 (and-right (is_delim_kind s.0.kind) (is_text s.0.text (codes "!")) (sym (bang-Single s.0) ∙ sym (ap is_bang s.1) ∙ bang)))
  | inr b ↦ absurd (false≢true (sym (bang-Block b.0) ∙ sym (ap is_bang b.1) ∙ bang))
]

-- Cuts.

abbrev pub JoinsAt : (Component → Bool) → List Component → Option Component → List Cut → (List Component → Type 0) → List Component → Type 0
JoinsAt test front None cs more xs = (xs ≡ front) × (cs ≡ [])
JoinsAt test front (Some m) cs more xs = (test m ≡ true) × (rest : List Component) × (xs ≡ front ++ m ∷ rest) × more rest

-- The list is made of these cuts. Each but the last ends at a mark.
abbrev pub Joins : (Component → Bool) → List Cut → List Component → Type 0
Joins test [] xs = ⊥
Joins test (cut ∷ cs) xs = JoinsAt test cut.front cut.mark cs (λ rest. Joins test cs rest) xs

joins-longer : (test : Component → Bool) (c : Component) (cs : List Cut) (xs : List Component) → Joins test cs xs → Joins test (with_front c cs) (c ∷ xs)
joins-longer test c [] xs joins = joins
joins-longer test c (cut ∷ cs) xs joins = at cut.mark joins
  where
    at : (o : Option Component) → JoinsAt test cut.front o cs (λ rest. Joins test cs rest) xs → JoinsAt test (c ∷ cut.front) o cs (λ rest. Joins test cs rest) (c ∷ xs)
    at None j = (ap (λ (t : List Component). c ∷ t) j.0, j.1)
    at (Some m) j = (j.0, j.1, ap (λ (t : List Component). c ∷ t) j.2, j.3)

-- where only such a component ends what stands before it
pub joins-cuts : (test : Component → Bool) (ends : List Component → Component → Bool) → ((before : List Component) (c : Component) → ends before c ≡ true → test c ≡ true)
    → (before xs : List Component) → Joins test (cuts_behind ends before xs) xs
joins-cuts test ends only before [] = (refl, refl)
joins-cuts test ends only before (c ∷ cs) = elim (cases_Bool (ends before c)) [
  | inl marked ↦ subst (λ (all : List Cut). Joins test all (c ∷ cs)) (sym (cuts-marked ends before c cs marked)) (only before c marked, cs, refl, joins-cuts test ends only [] cs)
  | inr unmarked ↦ subst (λ (all : List Cut). Joins test all (c ∷ cs)) (sym (cuts-unmarked ends before c cs unmarked))
      (joins-longer test c (cuts_behind ends (before ++ c ∷ []) cs) cs (joins-cuts test ends only (before ++ c ∷ []) cs))
]

-- the mark, where there is one, stands before some text
abbrev pub MarkStands : Option Component → Type 0
MarkStands o = MatchOption o (Unit {0}) (λ m. (t : List ℕ) × StandsAt (m ∷ []) t)

-- Trimmed lists.

-- what trimming takes from the end
record Trims (xs : List Component) : Type 0 where
  gaps : List Component
  whole : xs ≡ trimmed_end xs ++ gaps
  each : list_all is_gap gaps ≡ true

trims : (xs : List Component) → Trims xs
trims [] = record { gaps = []; whole = refl; each = refl }
trims (c ∷ cs) = at (trims cs) (list_all is_gap (c ∷ cs)) refl
  where
    at : Trims cs → (b : Bool) → list_all is_gap (c ∷ cs) ≡ b → Trims (c ∷ cs)
    at rest true all =
        let none : trimmed_end (c ∷ cs) ≡ [] = ap (λ t. cond t [] (c ∷ trimmed_end cs)) all in
        record { gaps = c ∷ cs; whole = ap (λ (t : List Component). t ++ c ∷ cs) (sym none); each = all }
    at rest false some =
        let same : trimmed_end (c ∷ cs) ≡ c ∷ trimmed_end cs = ap (λ t. cond t [] (c ∷ trimmed_end cs)) some in
        record { gaps = rest.gaps; whole = ap (λ (t : List Component). c ∷ t) rest.whole ∙ ap (λ (t : List Component). t ++ rest.gaps) (sym same); each = rest.each }

-- what ends some item of a block
abbrev pub ends_some_item : Component → Bool
ends_some_item c = is_braces c || is_semicolon c

module _ (laws : ReadingLaws) where
  end-stop : (test : Kind → Bool) (c : Component) (xs : List Component) (s : List ℕ) → ((k : Kind) → test k ≡ true → is_end_kind k ≡ true) → IsToken test c
      → StandsAt (c ∷ xs) s → IsStop (words_all (c ∷ xs)) s
  end-stop test c xs s ends one stands =
      subst (λ (d : Component). IsStop (words_all (d ∷ xs)) s) (sym one.is)
      (single-stop laws one.token xs s (ends one.token.kind one.kind) (subst (λ (d : Component). StandsAt (d ∷ xs) s) one.is stands))

  pub semicolon-stop : (c : Component) (xs : List Component) (s : List ℕ) → is_semicolon c ≡ true → StandsAt (c ∷ xs) s → IsStop (words_all (c ∷ xs)) s
  semicolon-stop c xs s is stands = end-stop is_semicolon_kind c xs s semicolon-ends (semicolon-token c is) stands

  gaps-stop : (gaps : List Component) (s : List ℕ) → list_all is_gap gaps ≡ true → is_stop (classes_of s) ≡ true → StandsAt gaps s → IsStop (words_all gaps) s
  gaps-stop [] s each stop stands = stop
  gaps-stop (c ∷ cs) s each stop stands = end-stop is_gap_kind c cs s gap-ends (gap-token c (and-left (is_gap c) (list_all is_gap cs) each)) stands

  pub stands-start : (cs : List Component) (s : List ℕ) → StandsAt cs s → StandsAt (trimmed_start cs) s
  stands-start [] s stands = stands
  stands-start (c ∷ cs) s stands = elim (cases_Bool (is_gap c)) [
    | inl gap ↦ subst (λ (t : List Component). StandsAt t s) (sym (trimmed_start-gap c cs gap)) (stands-start cs s (stands-tail laws c cs s stands))
    | inr other ↦ subst (λ (t : List Component). StandsAt t s) (sym (trimmed_start-other c cs other)) stands
  ]

  stands-end : (cs : List Component) (s : List ℕ) → is_stop (classes_of s) ≡ true → StandsAt cs s → StandsBefore (trimmed_end cs)
  stands-end cs s stop stands =
      let cut = trims cs in
      let both = subst (λ (t : List Component). StandsAt t s) cut.whole stands in
      let front = stands-front laws (trimmed_end cs) cut.gaps s both in
      record { behind = spelled (words_all cut.gaps) ++ s; stop = gaps-stop cut.gaps s cut.each stop (stands-back laws (trimmed_end cs) cut.gaps s both); reads = front.reads }

  pub stands-trimmed : (cs : List Component) (s : List ℕ) → is_stop (classes_of s) ≡ true → StandsAt cs s → StandsBefore (trimmed cs)
  stands-trimmed cs s stop stands = stands-end (trimmed_start cs) s stop (stands-start cs s stands)

  -- Items of a block, marks, and a `!`.

  -- what stands before a `;` or the end stands before a stop
  abbrev pub FrontStands : Cut → Type 0
  FrontStands cut = ends_in_braces cut.mark ≡ false → StandsBefore cut.front

  pub item-fronts : (cs : List Cut) (xs : List Component) (s : List ℕ) → Joins ends_some_item cs xs → StandsAt xs s → is_stop (classes_of s) ≡ true → AllByRecursion FrontStands cs
  item-fronts [] xs s joins stands stop = absurd joins
  item-fronts (cut ∷ cs) xs s joins stands stop = at cut.mark joins (λ rest j r. item-fronts cs rest s j r stop)
    where
      at : (o : Option Component) → JoinsAt ends_some_item cut.front o cs (λ rest. Joins ends_some_item cs rest) xs
          → ((rest : List Component) → Joins ends_some_item cs rest → StandsAt rest s → AllByRecursion FrontStands cs)
          → (ends_in_braces o ≡ false → StandsBefore cut.front) × AllByRecursion FrontStands cs
      at None j others =
          let front = subst (λ (t : List Component). StandsAt t s) j.0 stands in
          (λ plain. record { behind = s; stop = stop; reads = front.reads }, subst (λ (more : List Cut). AllByRecursion FrontStands more) (sym j.1) tt)
      at (Some m) j others =
          let all = subst (λ (t : List Component). StandsAt t s) j.2 stands in
          let front = stands-front laws cut.front (m ∷ j.1) s all in
          let back = stands-back laws cut.front (m ∷ j.1) s all in (
            λ plain. record {
              behind = spelled (words_all (m ∷ j.1)) ++ s;
              stop = semicolon-stop m j.1 s (sym (ap (λ b. b || is_semicolon m) plain) ∙ j.0) back;
              reads = front.reads;
            },
            others j.1 j.3 (stands-tail laws m j.1 s back),
          )

  pub marks-stand : (test : Component → Bool) (cs : List Cut) (xs : List Component) (s : List ℕ) → Joins test cs xs → StandsAt xs s
      → AllByRecursion (λ (cut : Cut). MarkStands cut.mark) cs
  marks-stand test [] xs s joins stands = tt
  marks-stand test (cut ∷ cs) xs s joins stands = at cut.mark joins (λ rest j r. marks-stand test cs rest s j r)
    where
      at : (o : Option Component) → JoinsAt test cut.front o cs (λ rest. Joins test cs rest) xs
          → ((rest : List Component) → Joins test cs rest → StandsAt rest s → AllByRecursion (λ (c : Cut). MarkStands c.mark) cs)
          → MarkStands o × AllByRecursion (λ (c : Cut). MarkStands c.mark) cs
      at None j others = (tt, subst (λ (more : List Cut). AllByRecursion (λ (c : Cut). MarkStands c.mark) more) (sym j.1) tt)
      at (Some m) j others =
          let all = subst (λ (t : List Component). StandsAt t s) j.2 stands in
          let back = stands-back laws cut.front (m ∷ j.1) s all in (
            (spelled (words_all j.1) ++ s, stands-front laws (m ∷ []) j.1 s back),
            others j.1 j.3 (stands-tail laws m j.1 s back),
          )

  -- a `!` before it begins a stop
  abbrev IsStopAfterBang : List Component → List ℕ → Type 0
  IsStopAfterBang xs s = is_stop (classes_of (codes "!" ++ (spelled (words_all xs) ++ s))) ≡ true

  single-bang : (p : Piece) (xs : List Component) (s : List ℕ) → is_stop (classes_of (codes "!" ++ (p.text ++ (spelled (words_all xs) ++ s)))) ≡ true → IsStopAfterBang (component.Single p ∷ xs) s
  single-bang p xs s stop =
      subst (λ (ws : List Word). is_stop (classes_of (codes "!" ++ (spelled ws ++ s))) ≡ true) (sym (words-Single p xs))
      (subst (λ (t : List ℕ). is_stop (classes_of (codes "!" ++ t)) ≡ true) (sym (append_assoc p.text (spelled (words_all xs)) s)) stop)

  gap-bang : (c : Component) (xs : List Component) (s : List ℕ) → is_gap c ≡ true → StandsAt (c ∷ xs) s → IsStopAfterBang (c ∷ xs) s
  gap-bang c xs s gap stands =
      let one = gap-token c gap in
      let p = one.token in
      let here = subst (λ (d : Component). StandsAt (d ∷ xs) s) one.is stands in
      let first = first-stays (word_of p) (words_all xs) s (subst (λ (ws : List Word). AreRead ws s) (words-Single p xs) here.reads) in
      subst (λ (d : Component). IsStopAfterBang (d ∷ xs) s) (sym one.is)
      (single-bang p xs s (laws.bang_gap (word_of p) (spelled (words_all xs) ++ s) first one.kind))

  keyword-bang : (c : Component) (cs xs : List Component) (s : List ℕ) → is_important (c ∷ cs) ≡ true → IsStopAfterBang (c ∷ xs) s
  keyword-bang c (d ∷ cs) xs s is = absurd (false≢true is)
  keyword-bang c [] xs s is = elim (shape_of c) [
    | inl one ↦
        let p = one.0 in
        let keyword = and-right (is_ident c) (is_keyword (codes "important") (name_of (head c))) is in
        let name = subst (λ (q : Piece). is_keyword (codes "important") (name_of q) ≡ true) (ap head one.1 ∙ head-Single p) keyword in
        let ident = sym (ident-Single p) ∙ sym (ap is_ident one.1) ∙ and-left (is_ident c) (is_keyword (codes "important") (name_of (head c))) is in
        subst (λ (d : Component). IsStopAfterBang (d ∷ xs) s) (sym one.1) (single-bang p xs s (important-stop p.kind p.text (spelled (words_all xs) ++ s) ident name))
    | inr b ↦ absurd (false≢true (sym (ident-Block b.0) ∙ sym (ap is_ident b.1) ∙ and-left (is_ident c) (is_keyword (codes "important") (name_of (head c))) is))
  ]

  important-bang : (front more : List Component) (s : List ℕ) → is_important (trimmed front) ≡ true → StandsAt (front ++ more) s → IsStopAfterBang (front ++ more) s
  important-bang [] more s is stands = absurd (false≢true is)
  important-bang (c ∷ cs) more s is stands = elim (cases_Bool (is_gap c)) [
    | inl gap ↦ gap-bang c (cs ++ more) s gap stands
    | inr other ↦ keyword-bang c (trimmed_end cs) (cs ++ more) s
        (sym (ap (λ (t : List Component). is_important (trimmed_end t)) (trimmed_start-other c cs other) ∙ ap is_important (trimmed_end-solid c cs other)) ∙ is)
  ]

  -- a `!` with the mark of importance behind it begins a stop
  pub bang-stop : (m : Component) (front more : List Component) (s : List ℕ) → is_bang m ≡ true → is_important (trimmed front) ≡ true → StandsAt (m ∷ front ++ more) s
      → IsStop (words_all (m ∷ front ++ more)) s
  bang-stop m front more s bang is stands =
      let one = bang-text m bang in
      let xs = front ++ more in
      let stop = important-bang front more s is (stands-tail laws m xs s stands) in
      subst (λ (d : Component). IsStop (words_all (d ∷ xs)) s) (sym one.1)
      (subst (λ (ws : List Word). IsStop ws s) (sym (words-Single one.0 xs))
      (subst (λ (t : List ℕ). is_stop (classes_of t) ≡ true) (sym (append_assoc one.0.text (spelled (words_all xs)) s))
      (subst (λ (t : List ℕ). is_stop (classes_of (t ++ (spelled (words_all xs) ++ s))) ≡ true) (sym one.2) stop)))
