-- The text of a supports condition is read as its words.
use Rattle.std.proofs.Common.{◌≡◌, ℕ, List, [], ◌∷◌, ◌++◌, map, Bool, true, ◌&&◌, refl, sym, ap, ◌∙◌, subst, codes}
use Rattle.std.specs.Prelude.{flat_map, if◌then◌else◌}
use Rattle.std.specs.List.{AllByRecursion, list_all}
use Rattle.std.proofs.lemmas.Bool.{and_parts, false≢true}
use Rattle.css_tokens.specs.declared.kind.Kind.TheVariants as kinds
use Rattle.css_tokens.specs.declared.component.Component.{Component}
use Rattle.css_tokens.specs.Again.{after_ident, begins_none, is_stop}
use Rattle.css_tokens.specs.Characters.{white}
use Rattle.css_tokens.specs.NameText.{name_text}
use Rattle.css_tokens.specs.Names.{is_name}
use Rattle.css_tokens.specs.Piece.{Word, spelled}
use Rattle.css_tokens.specs.Tokens.{ReadsTo, classes_of}
use Rattle.css_tokens.specs.Trees.{all_formed, words_all}
use Rattle.css_tokens.specs.ValueAgain.{value_again}
use Rattle.css_tokens.specs.Values.{value_text, value_words}
use Rattle.media_spelling.specs.declared.supports.Supports.{Supports}
use Rattle.media_spelling.specs.Components.{colon, ident, single, text_of}
use Rattle.media_spelling.specs.SupportsFold.{folded-And, folded-Or, folded-Not, folded-Declared, folded-Function}
use Rattle.media_spelling.specs.SupportsInduction.{Each, by_supports}
use Rattle.media_spelling.specs.Spelling.{compound, declaration_spelling, enclosed, joined, spelled_supports, supports_spelling, supports_steps, supports_text, value_spelling}
use Rattle.media_tree.specs.ReadableQueries.{has_two}
use Rattle.media_tree.specs.SupportsAgain.{is_readable_declaration, is_readable_supports, readable}
use Rattle.media_spelling.specs.SupportsValues.{ValueStands, DeclaredValuesStand, gathering, supports_values}
use Rattle.media_tree.proofs.DeclarationParts.{declaration-parts}
use Rattle.media_tree.proofs.ListsHold.{each-back, each-front}
use Rattle.media_tree.proofs.SpelledReads.{IsKeyword, ReadsInside, SpelledReads, Words, is-and, is-not, is-or, reads-compound, reads-enclosed, reads-negated, row-dark, row-read}
use Rattle.media_tree.proofs.WordsRead.{ReadsOn, on-single, text-first}

-- what is ensured of words, and of values as they print
pub record SupportsWords : Type 0 where
  pub words : Words
  pub again : (v : List Component) → all_formed v ≡ true → words_all (value_again v) ≡ value_words v
  pub printed : (v : List Component) (s r : List ℕ) → all_formed v ≡ true → is_stop (classes_of s) ≡ true → is_stop (classes_of r) ≡ true → begins_none white r ≡ true
      → ReadsTo (spelled (words_all v) ++ s) (words_all v) s → ReadsTo (value_text v ++ r) (value_words v) r

abbrev AllStand : List (List Component) → Type 0
AllStand vs = AllByRecursion ValueStands vs

module _ (q : SupportsWords) where
  -- Declarations.

  value-inside : (v : List Component) → all_formed v ≡ true → ValueStands v → ReadsInside (value_spelling v)
  value-inside v formed stands rest =
      (let end = codes ")" ++ rest in
      let again : ReadsOn (value_again v) end = subst (λ (ws : List Word). ReadsTo (spelled ws ++ end) ws end) (sym (q.again v formed)) (q.printed v stands.behind end formed stands.stop refl refl stands.reads) in
      let same : value_spelling v ≡ value_again v = ap (λ (b : Bool). if b then value_again v else single kinds.Ident (value_text v) ∷ []) formed in
      subst (λ (cs : List Component). ReadsOn cs end) (sym same) again)

  declared-inside : (n : List ℕ) (v : List Component) → is_name n ≡ true → all_formed v ≡ true → ValueStands v → ReadsInside (ident n ∷ colon ∷ value_spelling v)
  declared-inside n v h formed stands rest =
      (let end = codes ")" ++ rest in
      let cs = value_spelling v in
      let colon_stays = q.words.marked.1.1.1.1.1.1.0 in
      let before : begins_none after_ident (text_of (colon ∷ cs) ++ end) ≡ true = ap (begins_none after_ident) (text-first kinds.Colon (codes ":") cs end) in
      on-single kinds.Ident (name_text n) (colon ∷ cs) end refl (q.words.ident n (text_of (colon ∷ cs) ++ end) h before)
      (on-single kinds.Colon (codes ":") cs end refl (colon_stays (text_of cs ++ end)) (value-inside v formed stands rest)))

  declared-held : (n : List ℕ) (v : List Component) → is_readable_declaration n v ≡ true → ValueStands v → SpelledReads (enclosed (declaration_spelling n v))
  declared-held n v r stands =
      (let parts = declaration-parts n v r in
      reads-enclosed q.words (ident n ∷ colon ∷ value_spelling v) (declared-inside n v parts.named parts.formed stands))

  -- Conditions.

  abbrev Held : Supports → Type 0
  Held s = SpelledReads (spelled_supports s)

  abbrev Reads : Supports → Type 0
  Reads s = is_readable_supports s ≡ true → DeclaredValuesStand s → Held s

  all-held : (ss : List Supports) → Each Reads ss → list_all (λ b. b) (map is_readable_supports ss) ≡ true → AllStand (flat_map (λ v. v) (map supports_values ss)) → AllByRecursion Held ss
  all-held [] h r stand = tt
  all-held (s ∷ ss) h r stand =
      (let p = and_parts (is_readable_supports s) (list_all (λ b. b) (map is_readable_supports ss)) r in
      let more = flat_map (λ v. v) (map supports_values ss) in
      (h.0 p.0 (each-front ValueStands (supports_values s) more stand), all-held ss h.1 p.1 (each-back ValueStands (supports_values s) more stand)))

  -- two and more
  row-held : (t : List ℕ) → IsKeyword t → (ss : List Supports) → Each Reads ss → (has_two (map is_readable_supports ss) && list_all (λ b. b) (map is_readable_supports ss)) ≡ true → AllStand (flat_map (λ v. v) (map supports_values ss))
      → SpelledReads (compound (joined t (map spelled_supports ss)))
  row-held t is [] h r stand = absurd (false≢true r)
  row-held t is (s ∷ ss) h r stand =
      (let p = and_parts (has_two (map is_readable_supports (s ∷ ss))) (list_all (λ b. b) (map is_readable_supports (s ∷ ss))) r in
      let held = all-held (s ∷ ss) h p.1 stand in
      reads-compound q.words (joined t (map spelled_supports (s ∷ ss))) (row-read q.words spelled_supports t is s ss held) (row-dark q.words spelled_supports t is s ss held))

  supports-held : (s : Supports) → Reads s
  supports-held s =
      by_supports Reads
      (record {
        and_of = λ ss h r stand. subst SpelledReads (sym (folded-And supports_steps ss)) (row-held (codes "and") is-and ss h (sym (folded-And readable ss) ∙ r) (subst AllStand (folded-And gathering ss) stand));
        or_of = λ ss h r stand. subst SpelledReads (sym (folded-Or supports_steps ss)) (row-held (codes "or") is-or ss h (sym (folded-Or readable ss) ∙ r) (subst AllStand (folded-Or gathering ss) stand));
        not_of = λ d h r stand.
            subst SpelledReads (sym (folded-Not supports_steps d))
            (reads-negated q.words is-not (spelled_supports d) (h (sym (folded-Not readable d) ∙ r) (subst AllStand (folded-Not gathering d) stand)));
        declared = λ n v r stand.
            let each = subst AllStand (folded-Declared gathering n v) stand in
            subst SpelledReads (sym (folded-Declared supports_steps n v)) (declared-held n v (sym (folded-Declared readable n v) ∙ r) each.0);
        function = λ at r stand. absurd (false≢true (sym (folded-Function readable at) ∙ r));
      })
      s

  -- The text of a readable supports condition, of which each value stands, is read as its words.
  pub supports-on : (s : Supports) (rest : List ℕ) → is_readable_supports s ≡ true → DeclaredValuesStand s → ReadsTo (supports_text s ++ rest) (words_all (supports_spelling s)) rest
  supports-on s rest r stand = (let held = supports-held s r stand in held.alone rest)
