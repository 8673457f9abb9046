-- A Function that is read as a value is a readable value.
use Rattle.std.proofs.Common.{◌≡◌, ℕ, List, [], ◌∷◌, ◌++◌, map, Bool, true, false, ◌&&◌, not, refl, sym, ap, ap₂, ◌∙◌, subst, codes}
use Rattle.std.specs.Prelude.{Some, None, if◌then◌else◌}
use Rattle.std.specs.List.{list_all}
use Rattle.std.specs.Str.{is_utf8}
use Rattle.std.proofs.lemmas.Bool.{and_parts}
use Rattle.std.proofs.lemmas.List.{append-nil}
use Rattle.css_tokens.specs.declared.kind.Kind.{Kind}
use Rattle.css_tokens.specs.declared.kind.Kind.TheVariants as kinds
use Rattle.css_tokens.specs.declared.component.Component.{Component}
use Rattle.css_tokens.specs.declared.component.Component as component
use Rattle.css_tokens.specs.declared.component.Component.TheVariants.{outs-Block}
use Rattle.css_tokens.specs.declared.component.Block as block
use Rattle.css_tokens.specs.Again.{bang, begins_none}
use Rattle.css_tokens.specs.Kinds.{is_kind}
use Rattle.css_tokens.specs.Piece.{Piece, Word, spelled, word_of}
use Rattle.css_tokens.specs.Tokens.{ReadsTo, spells}
use Rattle.css_tokens.specs.Trees.{all_formed, closing, is_text, words_all}
use Rattle.css_tokens.specs.ValueAgain.{again, again-Block, all_again, all_parted, head_kind, head_kind-Block, parting, shortened, shortened-Block, takes_last, value_again}
use Rattle.css_tokens.specs.Values.{behind_taking, is_gap as is_gap_kind, after_gap, before_gap, printed_words, value_text, value_words}
use Rattle.media_spelling.specs.TextComponents.{text_components}
use Rattle.media_tree.specs.declared.mark.Mark.TheVariants as marks
use Rattle.media_tree.specs.Features.{block_value, in_utf8, is_separator_mark, layer_value, value_in, value_of}
use Rattle.media_tree.specs.Marks.{is_gap, is_gap_mark, is_open_kind, layer_mark, trimmed_end}
use Rattle.media_tree.specs.ReadValues.{behind_value}
use Rattle.media_tree.specs.SpelledWords.{is_spelled}
use Rattle.media_tree.specs.ReadableQueries.{is_value_part, layer_is_parens}
use Rattle.media_tree.proofs.ListsHold.{each-of}
use Rattle.media_tree.proofs.PartsOfTexts.{words_of, words-block, words-cons}
use Rattle.media_tree.proofs.PartsRead.{Stands}
use Rattle.media_tree.proofs.TextsRead.{FirstSpells, text-read}
use Rattle.media_tree.proofs.TreePlaces.{bare, bare-Block, bare_block, words-bare}
use Rattle.media_tree.proofs.TrimLemmas.{trimmed_end-other, trimmed_start-other}
use Rattle.media_tree.proofs.ValuesReadable.{IsValue, made-value}

-- what is ensured of values as they print
pub record PrintLaws : Type 0 where
  pub firsts : FirstSpells
  pub formed : (v : List Component) → all_formed v ≡ true → all_formed (value_again v) ≡ true
  pub words : (v : List Component) → all_formed v ≡ true → words_all (value_again v) ≡ value_words v
  pub text : (v : List Component) → all_formed v ≡ true → value_text (value_again v) ≡ value_text v
  pub printed : (v : List Component) → all_formed v ≡ true → ReadsTo (spelled (words_all v) ++ []) (words_all v) [] → ReadsTo (value_text v ++ []) (value_words v) []
  pub closed : (xs : List Word) (p : Piece) (close : ℕ) (s r : List ℕ) → ReadsTo (spelled (xs ++ word_of (closing p close) ∷ []) ++ s) (xs ++ word_of (closing p close) ∷ []) s
      → ReadsTo (spelled (xs ++ word_of (closing p close) ∷ []) ++ r) (xs ++ word_of (closing p close) ∷ []) r
  pub no_bang : (k : Kind) (u rest : List ℕ) → is_kind k kinds.Delim ≡ false → is_kind k kinds.Url ≡ false → spells k u ≡ true → begins_none bang (u ++ rest) ≡ true

-- One component as it prints.

behind-one : (b : Bool) → behind_taking head_kind parting b [] ≡ []
behind-one true = refl
behind-one false = refl

one-shortened : (x : Component) → is_gap_kind (head_kind x) ≡ false → before_gap head_kind (after_gap head_kind (x ∷ [])) ≡ x ∷ []
one-shortened x h =
    ap (λ (b : Bool). before_gap head_kind (if b then [] else x ∷ [])) h
    ∙ ap (λ (b : Bool). if b then [] else x ∷ []) h

one-again : (c : Component) → is_gap_kind (head_kind (shortened c)) ≡ false → value_again (c ∷ []) ≡ again c ∷ []
one-again c h =
    ap (λ (xs : List Component). all_parted xs) (one-shortened (shortened c) h)
    ∙ ap (λ (ys : List Component). again c ∷ ys) (behind-one (takes_last (again c)))

-- the block as it prints, places aside
abbrev printed_block : block.Block → block.Block
printed_block b = bare_block (record { opening = b.opening; items = all_again b.items; close = b.close })

function-head : (b : block.Block) → b.opening.kind ≡ kinds.Function → is_gap_kind (head_kind (shortened (component.Block b))) ≡ false
function-head b f =
    ap (λ (c : Component). is_gap_kind (head_kind c)) (shortened-Block b)
    ∙ ap is_gap_kind (head_kind-Block _)
    ∙ ap is_gap_kind f

block-again : (b : block.Block) → b.opening.kind ≡ kinds.Function → map bare (value_again (component.Block b ∷ [])) ≡ component.Block (printed_block b) ∷ []
block-again b f =
    ap (map bare) (one-again (component.Block b) (function-head b f))
    ∙ ap (λ (c : Component). bare c ∷ []) (again-Block b)
    ∙ ap (λ (c : Component). c ∷ []) (bare-Block (record { opening = b.opening; items = all_again b.items; close = b.close }))

-- A Function as a value.

block-mark : (braces : Bool) → is_separator_mark (if braces then marks.Braces else marks.Other) ≡ false
block-mark true = refl
block-mark false = refl

block-gap : (braces : Bool) → is_gap_mark (if braces then marks.Braces else marks.Other) ≡ false
block-gap true = refl
block-gap false = refl

function-part : (b : block.Block) → b.opening.kind ≡ kinds.Function → list_all is_value_part (component.Block b ∷ []) ≡ true
function-part b f =
    ap₂ (λ (x y : Bool). (not x && not y) && true)
    (ap (λ v. is_separator_mark (layer_mark v)) (outs-Block b) ∙ block-mark (is_text b.opening.text (codes "{")))
    (ap layer_is_parens (outs-Block b) ∙ ap (λ (k : Kind). is_open_kind k && is_text b.opening.text (codes "(")) f)

function-value : (b : block.Block) → b.opening.kind ≡ kinds.Function → value_in (component.Block b ∷ []) ≡ in_utf8 (value_text (component.Block b ∷ []))
function-value b f =
    let c = component.Block b in
    let solid : is_gap c ≡ false = ap (λ v. is_gap_mark (layer_mark v)) (outs-Block b) ∙ block-gap (is_text b.opening.text (codes "{")) in
    ap value_of (ap trimmed_end (trimmed_start-other c [] solid) ∙ trimmed_end-other [] c solid)
    ∙ ap (layer_value c) (outs-Block b)
    ∙ ap (λ (k : Kind). block_value k c) f

one-word : (b : block.Block) → words_all (component.Block b ∷ []) ≡ words_of (component.Block b)
one-word b = words-cons (component.Block b) [] ∙ append-nil (words_of (component.Block b))

-- the opening token of a block is spelled
opening-spelled : (b : block.Block) → Stands (component.Block b) → spells b.opening.kind b.opening.text ≡ true
opening-spelled b stands =
    let all = sym (ap (list_all is_spelled) (words-block b)) ∙ stands.good.spelled in
    let p = and_parts (is_spelled (word_of b.opening)) (list_all is_spelled (words_all b.items ++ word_of (closing b.opening b.close) ∷ [])) all in
    (and_parts (is_utf8 b.opening.text) (spells b.opening.kind b.opening.text) p.0).1

module _ (laws : PrintLaws) where
  -- the words of a block that is read are read before whatever follows
  block-read : (b : block.Block) (s r : List ℕ) → ReadsTo (spelled (words_of (component.Block b)) ++ s) (words_of (component.Block b)) s → ReadsTo (spelled (words_of (component.Block b)) ++ r) (words_of (component.Block b)) r
  block-read b s r h =
      (let words = words-block b in
      subst (λ (ws : List Word). ReadsTo (spelled ws ++ r) ws r) (sym words)
      (laws.closed (word_of b.opening ∷ words_all b.items) b.opening b.close s r (subst (λ (ws : List Word). ReadsTo (spelled ws ++ s) ws s) words h)))

  -- the same of it alone in a list
  alone-read : (b : block.Block) (s r : List ℕ) → ReadsTo (spelled (words_of (component.Block b)) ++ s) (words_of (component.Block b)) s → ReadsTo (spelled (words_all (component.Block b ∷ [])) ++ r) (words_all (component.Block b ∷ [])) r
  alone-read b s r h = subst (λ (ws : List Word). ReadsTo (spelled ws ++ r) ws r) (sym (one-word b)) (block-read b s r h)

  -- a text that begins with the opening token of a Function
  begins-so : (b : block.Block) → b.opening.kind ≡ kinds.Function → Stands (component.Block b) → (v : List ℕ) → spelled (words_all (component.Block (printed_block b) ∷ [])) ≡ v → begins_none bang v ≡ true
  begins-so b f stands v e =
      (let more = spelled (words_all (printed_block b).items ++ word_of (closing (printed_block b).opening 0) ∷ []) in
      let text : spelled (words_all (component.Block (printed_block b) ∷ [])) ≡ b.opening.text ++ more = ap (λ (ws : List Word). spelled ws) (one-word (printed_block b) ∙ words-block (printed_block b)) in
      ap (begins_none bang) (sym e ∙ text) ∙ laws.no_bang kinds.Function b.opening.text more refl refl (sym (ap (λ (k : Kind). spells k b.opening.text) f) ∙ opening-spelled b stands))

  -- A Function that is read, of which the text is in UTF-8, is a readable value.
  pub function-is-value : (b : block.Block) → Stands (component.Block b) → b.opening.kind ≡ kinds.Function → is_utf8 (value_text (component.Block b ∷ [])) ≡ true → IsValue (value_text (component.Block b ∷ []))
  function-is-value b stands f u =
      (let cs = component.Block b ∷ [] in
      let v = value_text cs in
      let vs = value_again cs in
      let d = printed_block b in
      let ds = component.Block d ∷ [] in
      let formed : all_formed cs ≡ true = ap (λ (x : Bool). x && true) stands.good.formed in
      let words = laws.words cs formed in
      let again : map bare vs ≡ ds = block-again b f in
      let printed = subst (λ (t : List ℕ). ReadsTo t (value_words cs) []) (append-nil v) (laws.printed cs formed (alone-read b stands.behind [] stands.reads)) in
      let whole = subst (λ (ws : List Word). ReadsTo v ws []) (sym words) printed in
      let same : text_components v ≡ ds = text-read laws.firsts vs v (laws.formed cs formed) (ap (λ (ws : List Word). spelled ws) words) whole ∙ again in
      let text : value_text ds ≡ v =
      ap (λ (xs : List Component). value_text xs) (sym again) ∙ ap (λ (ws : List Word). spelled (printed_words ws)) (words-bare vs) ∙ laws.text cs formed in
      let value : value_in ds ≡ Some v =
      function-value d f ∙ ap in_utf8 text ∙ ap (λ (x : Bool). if x then Some v else None) u in
      let kept : words_all ds ≡ value_words cs = ap (λ (xs : List Component). words_all xs) (sym again) ∙ words-bare vs ∙ words in
      let spelled_so : spelled (words_all ds) ≡ v = ap (λ (ws : List Word). spelled ws) kept in
      let there : ReadsTo (spelled (words_of (component.Block d)) ++ []) (words_of (component.Block d)) [] =
      subst (λ (ws : List Word). ReadsTo (spelled ws ++ []) ws []) (sym kept ∙ one-word d) (laws.printed cs formed (alone-read b stands.behind [] stands.reads)) in
      let on : (rest : List ℕ) → ReadsTo (v ++ rest) (words_all ds) rest = λ rest. subst (λ (t : List ℕ). ReadsTo (t ++ rest) (words_all ds) rest) spelled_so (alone-read d [] rest there) in
      made-value v ds same (function-part d f) value u (begins-so b f stands v spelled_so) (each-of (λ next. (rest : List ℕ) → ReadsTo (v ++ (next ++ rest)) (words_all ds) (next ++ rest)) (λ next rest. on (next ++ rest)) (behind_value v)))
