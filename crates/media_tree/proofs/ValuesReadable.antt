-- A token or a ratio that is read as a value is a readable value, and stands as one.
use Rattle.std.proofs.Common.{◌≡◌, ℕ, List, [], ◌∷◌, ◌++◌, map, Bool, true, false, ◌&&◌, refl, sym, ap, ap₂, ◌∙◌, subst}
use Rattle.std.specs.Prelude.{Some, codes, if◌then◌else◌}
use Rattle.std.specs.List.{AllByRecursion, list_all}
use Rattle.std.specs.Str.{chars, is_utf8}
use Rattle.std.proofs.lemmas.Bool.{and_parts, false≢true}
use Rattle.std.proofs.lemmas.List.{append-nil}
use lib.Pointwise.{bytes_decides}
use lib.Utf8.{encode}
use Rattle.css_tokens.specs.declared.kind.Kind.{Kind}
use Rattle.css_tokens.specs.declared.kind.Kind.TheVariants as kinds
use Rattle.css_tokens.specs.declared.component.Component.{Component}
use Rattle.css_tokens.specs.Again.{StaysFirst, bang, begins_none, word_from}
use Rattle.css_tokens.specs.Kinds.{is_kind}
use Rattle.css_tokens.specs.Tokens.{ReadsTo, is_refused, spells}
use Rattle.css_tokens.specs.Trees.{all_formed, is_formed-Single, words_all}
use Rattle.media_spelling.specs.Components.{delim, single, text_of}
use Rattle.media_spelling.specs.TextComponents.{text_components}
use Rattle.media_tree.specs.Features.{value_in}
use Rattle.media_tree.specs.ReadValues.{StandsAsValue, behind_value}
use Rattle.media_tree.specs.ReadableQueries.{is_readable_value, is_some_text, is_value_part}
use Rattle.media_tree.specs.SpelledWords.{is_spelled}
use Rattle.media_tree.proofs.Computing.{computing}
use Rattle.media_tree.proofs.ListsHold.{each-by}
use Rattle.media_tree.proofs.TextsRead.{FirstSpells, text-read}
use Rattle.media_tree.proofs.TreePlaces.{bare, bare-Single}
use Rattle.media_tree.proofs.Utf8Lemmas.{utf8-append}
use Rattle.media_tree.proofs.WordsRead.{ReadsOn, on-nothing, on-single, text-first}

-- the kinds of tokens that are values
abbrev pub is_value_kind : Kind → Bool
is_value_kind kinds.Number = true
is_value_kind kinds.Dimension = true
is_value_kind kinds.Ident = true
is_value_kind k = false

-- a readable value, which stands as one
pub record IsValue (v : List ℕ) : Type 0 where
  pub readable : is_readable_value v ≡ true
  pub stands : StandsAsValue v

-- the word stays first before whatever may stand behind this value
abbrev pub StaysBehind : Kind → List ℕ → List ℕ → Type 0
StaysBehind k u value = AllByRecursion (λ next. (rest : List ℕ) → StaysFirst (word_from k u) (next ++ rest)) (behind_value value)

-- what is ensured of the words of values
pub record WordLaws : Type 0 where
  pub firsts : FirstSpells
  pub alone : (k : Kind) (u : List ℕ) → is_kind k kinds.Url ≡ false → is_kind k kinds.Function ≡ false → spells k u ≡ true → StaysFirst (word_from k u) []
  pub no_bang : (k : Kind) (u rest : List ℕ) → is_kind k kinds.Delim ≡ false → is_kind k kinds.Url ≡ false → spells k u ≡ true → begins_none bang (u ++ rest) ≡ true
  pub token : (k : Kind) (u : List ℕ) → is_value_kind k ≡ true → spells k u ≡ true → StaysBehind k u u
  pub number_behind : (u value : List ℕ) → spells kinds.Number u ≡ true → StaysBehind kinds.Number u value
  pub number : (u rest : List ℕ) → spells kinds.Number u ≡ true → StaysFirst (word_from kinds.Number u) (codes "/" ++ rest)
  pub slash : (u rest : List ℕ) → spells kinds.Number u ≡ true → StaysFirst (word_from kinds.Delim (codes "/")) (u ++ rest)
  pub slash_comment : (rest : List ℕ) → StaysFirst (word_from kinds.Delim (codes "/")) (codes "/**/" ++ rest)
  pub comment : (rest : List ℕ) → StaysFirst (word_from kinds.Comment (codes "/**/")) rest

-- these components are read before whatever may stand behind this value
abbrev pub ReadsBehind : List Component → List ℕ → Type 0
ReadsBehind ds value = AllByRecursion (λ next. (rest : List ℕ) → ReadsTo (value ++ (next ++ rest)) (words_all ds) (next ++ rest)) (behind_value value)

-- what is known of a value's text, by the components that it spells
pub made-value : (v : List ℕ) (ds : List Component) → text_components v ≡ ds → list_all is_value_part ds ≡ true → value_in ds ≡ Some v → is_utf8 v ≡ true → begins_none bang v ≡ true → ReadsBehind ds v → IsValue v
made-value v ds e parts value utf8 begins reads =
    let known : (list_all is_value_part ds && is_some_text v (value_in ds)) ≡ true = ap₂ ◌&&◌ parts (ap (is_some_text v) value ∙ (bytes_decides v v).1 refl) in
    record {
      readable = ap (λ (cs : List Component). list_all is_value_part cs && is_some_text v (value_in cs)) e ∙ known;
      stands = record { utf8 = utf8; begins = begins; reads = subst (λ (cs : List Component). ReadsBehind cs v) (sym e) reads };
    }

token-part : (k : Kind) (t : List ℕ) → is_value_kind k ≡ true → list_all is_value_part (single k t ∷ []) ≡ true
token-part kinds.Number t h = simp computing
token-part kinds.Dimension t h = simp computing
token-part kinds.Ident t h = simp computing
token-part k t h = absurd (false≢true h)

token-value : (k : Kind) (t : List ℕ) → is_value_kind k ≡ true → value_in (single k t ∷ []) ≡ Some t
token-value kinds.Number t h = simp computing
token-value kinds.Dimension t h = simp computing
token-value kinds.Ident t h = simp computing
token-value k t h = absurd (false≢true h)

-- what a token of such a kind is not
record IsPlainKind (k : Kind) : Type 0 where
  url : is_kind k kinds.Url ≡ false
  function : is_kind k kinds.Function ≡ false
  delim : is_kind k kinds.Delim ≡ false
  read : is_refused k ≡ false
  formed : (t : List ℕ) → all_formed (single k t ∷ []) ≡ true

formed-one : (k : Kind) (t : List ℕ) (cs : List Component) → is_value_kind k ≡ true → all_formed (single k t ∷ cs) ≡ all_formed cs
formed-one kinds.Number t cs h = ap (λ (b : Bool). b && all_formed cs) (is_formed-Single (record { kind = kinds.Number; text = t; at = 0 }))
formed-one kinds.Dimension t cs h = ap (λ (b : Bool). b && all_formed cs) (is_formed-Single (record { kind = kinds.Dimension; text = t; at = 0 }))
formed-one kinds.Ident t cs h = ap (λ (b : Bool). b && all_formed cs) (is_formed-Single (record { kind = kinds.Ident; text = t; at = 0 }))
formed-one k t cs h = absurd (false≢true h)

plain-kind : (k : Kind) → is_value_kind k ≡ true → IsPlainKind k
plain-kind kinds.Number h = record { url = refl; function = refl; delim = refl; read = refl; formed = λ t. formed-one kinds.Number t [] refl }
plain-kind kinds.Dimension h = record { url = refl; function = refl; delim = refl; read = refl; formed = λ t. formed-one kinds.Dimension t [] refl }
plain-kind kinds.Ident h = record { url = refl; function = refl; delim = refl; read = refl; formed = λ t. formed-one kinds.Ident t [] refl }
plain-kind k h = absurd (false≢true h)

-- a Comment between a number and a `/`, or nothing
abbrev gaps : Bool → List Component
gaps true = []
gaps false = single kinds.Comment (codes "/**/") ∷ []

-- the text of it
abbrev pub gap_at : Bool → List ℕ
gap_at unseen = if unseen then [] else codes "/**/"

gap-utf8 : (unseen : Bool) → is_utf8 (gap_at unseen) ≡ true
unfolding is_utf8 chars encode
gap-utf8 true = refl
gap-utf8 false = refl

slash-utf8 : is_utf8 (codes "/") ≡ true
unfolding is_utf8 chars encode
slash-utf8 = refl

-- a `/` and what stands behind it in a ratio
abbrev divided : Bool → List ℕ → List Component
divided b d = delim (codes "/") ∷ (gaps b ++ single kinds.Number d ∷ [])

-- a ratio
abbrev ratio_parts : Bool → Bool → List ℕ → List ℕ → List Component
ratio_parts a b n d = single kinds.Number n ∷ (gaps a ++ divided b d)

abbrev pub ratio_text : Bool → Bool → List ℕ → List ℕ → List ℕ
ratio_text a b n d = n ++ (gap_at a ++ (codes "/" ++ (gap_at b ++ d)))

ratio-parts : (a b : Bool) (n d : List ℕ) → list_all is_value_part (ratio_parts a b n d) ≡ true
unfolding chars encode
ratio-parts true true n d = simp computing
ratio-parts true false n d = simp computing
ratio-parts false true n d = simp computing
ratio-parts false false n d = simp computing

ratio-value : (a b : Bool) (n d : List ℕ) → value_in (ratio_parts a b n d) ≡ Some (ratio_text a b n d)
unfolding chars encode
ratio-value true true n d = simp computing
ratio-value true false n d = simp computing
ratio-value false true n d = simp computing
ratio-value false false n d = simp computing

ratio-formed : (a b : Bool) (n d : List ℕ) → all_formed (ratio_parts a b n d) ≡ true
ratio-formed true true n d = simp computing
ratio-formed true false n d = simp computing
ratio-formed false true n d = simp computing
ratio-formed false false n d = simp computing

ratio-bare : (a b : Bool) (n d : List ℕ) → map bare (ratio_parts a b n d) ≡ ratio_parts a b n d
ratio-bare true true n d = simp bare-Single
ratio-bare true false n d = simp bare-Single
ratio-bare false true n d = simp bare-Single
ratio-bare false false n d = simp bare-Single

ratio-spelled : (a b : Bool) (n d : List ℕ) → text_of (ratio_parts a b n d) ≡ ratio_text a b n d
ratio-spelled true true n d = simp (computing, append-nil)
ratio-spelled true false n d = simp (computing, append-nil)
ratio-spelled false true n d = simp (computing, append-nil)
ratio-spelled false false n d = simp (computing, append-nil)

ratio-utf8 : (a b : Bool) (n d : List ℕ) → is_utf8 n ≡ true → is_utf8 d ≡ true → is_utf8 (ratio_text a b n d) ≡ true
ratio-utf8 a b n d h k =
    utf8-append n (gap_at a ++ (codes "/" ++ (gap_at b ++ d))) h
    (utf8-append (gap_at a) (codes "/" ++ (gap_at b ++ d)) (gap-utf8 a)
    (utf8-append (codes "/") (gap_at b ++ d) slash-utf8 (utf8-append (gap_at b) d (gap-utf8 b) k)))

-- the text of components, before a rest, is this one's
on-text : (cs : List Component) (v rest : List ℕ) → text_of cs ≡ v → ReadsOn cs rest → ReadsTo (v ++ rest) (words_all cs) rest
on-text cs v rest e r = subst (λ (t : List ℕ). ReadsTo (t ++ rest) (words_all cs) rest) e r

module _ (laws : WordLaws) where
  -- A token that is a value is a readable one.
  pub token-is-value : (k : Kind) (t : List ℕ) → is_value_kind k ≡ true → is_utf8 t ≡ true → spells k t ≡ true → IsValue t
  token-is-value k t h u s =
      (let plain = plain-kind k h in
      let cs = single k t ∷ [] in
      let text : text_of cs ≡ t = simp (computing, append-nil) in
      let on : (rest : List ℕ) → StaysFirst (word_from k t) rest → ReadsTo (t ++ rest) (words_all cs) rest = λ rest first. on-text cs t rest text (on-single k t [] rest plain.read first (on-nothing rest)) in
      let whole = subst (λ (u : List ℕ). ReadsTo u (words_all cs) []) (append-nil t) (on [] (laws.alone k t plain.url plain.function s)) in
      let same : text_components t ≡ cs = text-read laws.firsts cs t (plain.formed t) text whole ∙ ap (λ (c : Component). c ∷ []) (bare-Single (record { kind = k; text = t; at = 0 })) in
      let begins : begins_none bang t ≡ true = ap (begins_none bang) (sym (append-nil t)) ∙ laws.no_bang k t [] plain.delim plain.url s in
      made-value t cs same (token-part k t h) (token-value k t h) u begins
      (each-by (λ next. (rest : List ℕ) → StaysFirst (word_from k t) (next ++ rest)) (λ next. (rest : List ℕ) → ReadsTo (t ++ (next ++ rest)) (words_all cs) (next ++ rest)) (λ next stays rest. on (next ++ rest) (stays rest)) (behind_value t) (laws.token k t h s)))

  number-read : (n rest : List ℕ) → StaysFirst (word_from kinds.Number n) rest → ReadsOn (single kinds.Number n ∷ []) rest
  number-read n rest first = on-single kinds.Number n [] rest refl first (on-nothing rest)

  divided-read : (b : Bool) (d rest : List ℕ) → spells kinds.Number d ≡ true → StaysFirst (word_from kinds.Number d) rest → ReadsOn (divided b d) rest
  divided-read true d rest h first =
      on-single kinds.Delim (codes "/") (single kinds.Number d ∷ []) rest refl
      (subst (λ (u : List ℕ). StaysFirst (word_from kinds.Delim (codes "/")) u) (sym (text-first kinds.Number d [] rest)) (laws.slash d rest h))
      (number-read d rest first)
  divided-read false d rest h first =
      let number = single kinds.Number d ∷ [] in
      on-single kinds.Delim (codes "/") (single kinds.Comment (codes "/**/") ∷ number) rest refl
      (subst (λ (u : List ℕ). StaysFirst (word_from kinds.Delim (codes "/")) u) (sym (text-first kinds.Comment (codes "/**/") number rest)) (laws.slash_comment (text_of number ++ rest)))
      (on-single kinds.Comment (codes "/**/") number rest refl (laws.comment (text_of number ++ rest)) (number-read d rest first))

  ratio-read : (a b : Bool) (n d rest : List ℕ) → spells kinds.Number n ≡ true → spells kinds.Number d ≡ true → StaysFirst (word_from kinds.Number d) rest → ReadsOn (ratio_parts a b n d) rest
  ratio-read true b n d rest h k first =
      on-single kinds.Number n (divided b d) rest refl
      (subst (λ (u : List ℕ). StaysFirst (word_from kinds.Number n) u) (sym (text-first kinds.Delim (codes "/") (gaps b ++ single kinds.Number d ∷ []) rest))
      (laws.number n (text_of (gaps b ++ single kinds.Number d ∷ []) ++ rest) h))
      (divided-read b d rest k first)
  ratio-read false b n d rest h k first =
      let more = divided b d in
      on-single kinds.Number n (single kinds.Comment (codes "/**/") ∷ more) rest refl
      (subst (λ (u : List ℕ). StaysFirst (word_from kinds.Number n) u) (sym (text-first kinds.Comment (codes "/**/") more rest)) (laws.number n (codes "**/" ++ (text_of more ++ rest)) h))
      (on-single kinds.Comment (codes "/**/") more rest refl (laws.comment (text_of more ++ rest)) (divided-read b d rest k first))

  -- Two numbers with `/` between them are a readable value.
  pub ratio-is-value : (a b : Bool) (n d : List ℕ) → is_spelled (record { kind = kinds.Number; text = n }) ≡ true → is_spelled (record { kind = kinds.Number; text = d }) ≡ true → IsValue (ratio_text a b n d)
  ratio-is-value a b n d spelled-n spelled-d =
      (let p = and_parts (is_utf8 n) (spells kinds.Number n) spelled-n in
      let q = and_parts (is_utf8 d) (spells kinds.Number d) spelled-d in
      let cs = ratio_parts a b n d in
      let v = ratio_text a b n d in
      let text = ratio-spelled a b n d in
      let on : (rest : List ℕ) → StaysFirst (word_from kinds.Number d) rest → ReadsTo (v ++ rest) (words_all cs) rest = λ rest first. on-text cs v rest text (ratio-read a b n d rest p.1 q.1 first) in
      let whole = subst (λ (u : List ℕ). ReadsTo u (words_all cs) []) (append-nil v) (on [] (laws.alone kinds.Number d refl refl q.1)) in
      let same : text_components v ≡ cs = text-read laws.firsts cs v (ratio-formed a b n d) text whole ∙ ratio-bare a b n d in
      made-value v cs same (ratio-parts a b n d) (ratio-value a b n d) (ratio-utf8 a b n d p.0 q.0) (laws.no_bang kinds.Number n (gap_at a ++ (codes "/" ++ (gap_at b ++ d))) refl refl p.1)
      (each-by (λ next. (rest : List ℕ) → StaysFirst (word_from kinds.Number d) (next ++ rest)) (λ next. (rest : List ℕ) → ReadsTo (v ++ (next ++ rest)) (words_all cs) (next ++ rest)) (λ next stays rest. on (next ++ rest) (stays rest)) (behind_value v) (laws.number_behind d v q.1)))
