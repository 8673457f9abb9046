-- At most one finding stands against a text, and none where the text is accepted or passes a limit.
use Rattle.std.proofs.Common.{◌≡◌, ℕ, ◌+◌, List, [], ◌∷◌, Some, None, length, map, refl, ap, sym, ◌∙◌, inl, inr, subst, option_map, IsTrue}
use Rattle.css_tokens.specs.declared.component.Component.{Component}
use Rattle.css_tokens.specs.declared.kind.Kind.{Kind}
use Rattle.css_tokens.specs.declared.pairing.ComponentFault.{ComponentFault}
use Rattle.css_tokens.specs.declared.pairing.ComponentFault.TheVariants as fault
use Rattle.css_tokens.specs.Pairing.{IsPaired, IsBracketFault}
use Rattle.css_tokens.specs.Piece.{Piece, Word, word_of}
use Rattle.css_tokens.specs.Tokens.{Reads, IsPlaced, StopsAt, mark_length}
use Rattle.css_tokens.specs.Trees.{pieces_all, all_formed}
use Rattle.css_rules.specs.declared.refusal.Refusal.{Refusal}
use Rattle.css_rules.specs.Refusals.{first_refusal, late_import, syntax, unbuilt}
use Rattle.css_rules.specs.Sheets.{sheet_of, sheet_refusals}
use Rattle.sheet_types.specs.declared.sheet.Sheet.{Sheet}
use Rattle.findings.specs.Constructs.{sheet_findings}
use Rattle.findings.specs.Firsts.{first_finding}
use Rattle.findings.specs.Limits.{sheet_limit}
use Rattle.css_places.specs.declared.finding.LimitKind.{LimitKind}
use Rattle.css_places.specs.declared.finding.Code.{Code}
use Rattle.css_places.specs.declared.finding.Code.TheVariants.{Syntax, Depth, LateImport, Missing, Unbuilt, X6, X7, X11, X12, X16, X17, X22}
use Rattle.css_tokens.specs.Components.{HasComponents, HasTokens}
use Rattle.sheet_reader.specs.Texts.{SpellsSheet}
use Rattle.csslower.specs.Findings.{IsUnpaired, IsRefused, IsFound, code_and_offset, HasFinding, IsAccepted, PassesLimit}

-- what the laws of tokens, brackets and components say
pub record ReadingLaws : Type 0 where
  pub one : (t : List ℕ) (a b : List Word) → Reads t a → Reads t b → a ≡ b
  pub place : (t : List ℕ) (o p : ℕ) → StopsAt t o → StopsAt t p → o ≡ p
  pub either : (t : List ℕ) (ws : List Word) (o : ℕ) → Reads t ws → StopsAt t o → ⊥
  pub brackets : (ts : List Piece) (end : ℕ) (f g : ComponentFault) → IsBracketFault ts end f → IsBracketFault ts end g → f ≡ g
  pub paired : (ts : List Piece) (end : ℕ) (f : ComponentFault) → IsPaired ts → IsBracketFault ts end f → ⊥
  pub pairing : (a b : List Component) → pieces_all a ≡ pieces_all b → IsTrue (all_formed a) → IsTrue (all_formed b) → a ≡ b
  pub unrefused : (cs : List Component) (sheet : Sheet) → sheet_of cs ≡ Some sheet → sheet_refusals cs ≡ []

abbrev piece : Kind → List ℕ → ℕ → Piece
piece k t a = record { kind = k; text = t; at = a }

piece_one : (k l : Kind) (t u : List ℕ) (a b : ℕ) → k ≡ l → t ≡ u → a ≡ b → piece k t a ≡ piece l u b
piece_one k l t u a b e f g = cc (e, f, g)

placed_one : (n : ℕ) (a b : List Piece) → IsPlaced n a → IsPlaced n b → map word_of a ≡ map word_of b → a ≡ b
placed_one n [] [] p q e = refl
placed_one n [] (y ∷ ys) p q e = absurd (cc e)
placed_one n (x ∷ xs) [] p q e = absurd (cc e)
placed_one n (x ∷ xs) (y ∷ ys) p q e =
    let w : word_of x ≡ word_of y = cc e in
    let text : x.text ≡ y.text = ap (λ (v : Word). v.text) w in
    let h : x ≡ y = piece_one x.kind y.kind x.text y.text x.at y.at (ap (λ (v : Word). v.kind) w) text (p.0 ∙ sym q.0) in
    let more : xs ≡ ys = placed_one (n + length x.text) xs ys p.1 (subst (λ u. IsPlaced (n + length u) ys) (sym text) q.1) (cc e) in
    cc (h, more)

-- one answer to a code and a place
abbrev IsSame : Code → Code → ℕ → ℕ → Type 0
IsSame c d o p = (c ≡ d) × (o ≡ p)

same_place : (r s : Refusal) → Some r ≡ Some s → r.at ≡ s.at
same_place r s e = let same : r ≡ s = cc e in ap (λ (t : Refusal). t.at) same

same_cause : (r s : Refusal) → Some r ≡ Some s → r.cause ≡ s.cause
same_cause r s e = let same : r ≡ s = cc e in ap (λ (t : Refusal). t.cause) same

refused_one : (cs : List Component) (c d : Code) (o p : ℕ) → IsRefused cs c o → IsRefused cs d p → IsSame c d o p
refused_one cs Syntax Syntax o p a b = (refl, same_place (syntax o) (syntax p) (sym a ∙ b))
refused_one cs Unbuilt Unbuilt o p a b = (refl, same_place (unbuilt o) (unbuilt p) (sym a ∙ b))
refused_one cs Syntax Unbuilt o p a b = absurd (let e = same_cause (syntax o) (unbuilt p) (sym a ∙ b) in cc e)
refused_one cs Unbuilt Syntax o p a b = absurd (let e = same_cause (unbuilt o) (syntax p) (sym a ∙ b) in cc e)
refused_one cs LateImport LateImport o p a b = (refl, same_place (late_import o) (late_import p) (sym a ∙ b))
refused_one cs LateImport Syntax o p a b = absurd (let e = same_cause (late_import o) (syntax p) (sym a ∙ b) in cc e)
refused_one cs LateImport Unbuilt o p a b = absurd (let e = same_cause (late_import o) (unbuilt p) (sym a ∙ b) in cc e)
refused_one cs Syntax LateImport o p a b = absurd (let e = same_cause (syntax o) (late_import p) (sym a ∙ b) in cc e)
refused_one cs Unbuilt LateImport o p a b = absurd (let e = same_cause (unbuilt o) (late_import p) (sym a ∙ b) in cc e)
refused_one cs Syntax Depth o p a b = absurd b
refused_one cs Syntax Missing o p a b = absurd b
refused_one cs Syntax X6 o p a b = absurd b
refused_one cs Syntax X7 o p a b = absurd b
refused_one cs Syntax X11 o p a b = absurd b
refused_one cs Syntax X12 o p a b = absurd b
refused_one cs Syntax X16 o p a b = absurd b
refused_one cs Syntax X17 o p a b = absurd b
refused_one cs Syntax X22 o p a b = absurd b
refused_one cs Unbuilt Depth o p a b = absurd b
refused_one cs Unbuilt Missing o p a b = absurd b
refused_one cs Unbuilt X6 o p a b = absurd b
refused_one cs Unbuilt X7 o p a b = absurd b
refused_one cs Unbuilt X11 o p a b = absurd b
refused_one cs Unbuilt X12 o p a b = absurd b
refused_one cs Unbuilt X16 o p a b = absurd b
refused_one cs Unbuilt X17 o p a b = absurd b
refused_one cs Unbuilt X22 o p a b = absurd b
refused_one cs LateImport Depth o p a b = absurd b
refused_one cs LateImport Missing o p a b = absurd b
refused_one cs LateImport X6 o p a b = absurd b
refused_one cs LateImport X7 o p a b = absurd b
refused_one cs LateImport X11 o p a b = absurd b
refused_one cs LateImport X12 o p a b = absurd b
refused_one cs LateImport X16 o p a b = absurd b
refused_one cs LateImport X17 o p a b = absurd b
refused_one cs LateImport X22 o p a b = absurd b
refused_one cs Depth d o p a b = absurd a
refused_one cs Missing d o p a b = absurd a
refused_one cs X6 d o p a b = absurd a
refused_one cs X7 d o p a b = absurd a
refused_one cs X11 d o p a b = absurd a
refused_one cs X12 d o p a b = absurd a
refused_one cs X16 d o p a b = absurd a
refused_one cs X17 d o p a b = absurd a
refused_one cs X22 d o p a b = absurd a

same_pair : (x y : Code × ℕ) → Some x ≡ Some y → x ≡ y
same_pair x y e = cc e

refused_none : (cs : List Component) (c : Code) (o : ℕ) → sheet_refusals cs ≡ [] → IsRefused cs c o → ⊥
refused_none cs Syntax o none a = let e = sym (ap first_refusal none) ∙ a in cc e
refused_none cs Unbuilt o none a = let e = sym (ap first_refusal none) ∙ a in cc e
refused_none cs LateImport o none a = let e = sym (ap first_refusal none) ∙ a in cc e
refused_none cs Depth o none a = a
refused_none cs Missing o none a = a
refused_none cs X6 o none a = a
refused_none cs X7 o none a = a
refused_none cs X11 o none a = a
refused_none cs X12 o none a = a
refused_none cs X16 o none a = a
refused_none cs X17 o none a = a
refused_none cs X22 o none a = a

module _ (laws : ReadingLaws) (bytes : List ℕ) where
  tokens_one : (a b : List Piece) → HasTokens bytes a → HasTokens bytes b → a ≡ b
  tokens_one a b p q = placed_one (mark_length bytes) a b p.placed q.placed (laws.one bytes (map word_of a) (map word_of b) p.read q.read)

  components_one : (a b : List Component) → HasComponents bytes a → HasComponents bytes b → a ≡ b
  components_one a b p q = laws.pairing a b (tokens_one (pieces_all a) (pieces_all b) p.tokens q.tokens) p.formed q.formed

  stop_none : (a : List Piece) (o : ℕ) → HasTokens bytes a → StopsAt bytes o → ⊥
  stop_none a o p s = laws.either bytes (map word_of a) o p.read s

  same_fault : (ts : List Piece) (f g : ComponentFault) → IsBracketFault ts (length bytes) f → IsBracketFault ts (length bytes) g → f ≡ g
  same_fault ts f g a b = laws.brackets ts (length bytes) f g a b

  unpaired_one : (ts : List Piece) (c d : Code) (o p : ℕ) → IsUnpaired ts (length bytes) c o → IsUnpaired ts (length bytes) d p → IsSame c d o p
  unpaired_one ts Syntax Syntax o p a b = (refl, (let e = same_fault ts (fault.Syntax o) (fault.Syntax p) a b in cc e))
  unpaired_one ts Syntax Depth o p a b = absurd (let e = same_fault ts (fault.Syntax o) (fault.Depth p) a b in cc e)
  unpaired_one ts Depth Syntax o p a b = absurd (let e = same_fault ts (fault.Depth o) (fault.Syntax p) a b in cc e)
  unpaired_one ts Depth Depth o p a b = (refl, (let e = same_fault ts (fault.Depth o) (fault.Depth p) a b in cc e))
  unpaired_one ts Syntax LateImport o p a b = absurd b
  unpaired_one ts Syntax Missing o p a b = absurd b
  unpaired_one ts Syntax Unbuilt o p a b = absurd b
  unpaired_one ts Syntax X6 o p a b = absurd b
  unpaired_one ts Syntax X7 o p a b = absurd b
  unpaired_one ts Syntax X11 o p a b = absurd b
  unpaired_one ts Syntax X12 o p a b = absurd b
  unpaired_one ts Syntax X16 o p a b = absurd b
  unpaired_one ts Syntax X17 o p a b = absurd b
  unpaired_one ts Syntax X22 o p a b = absurd b
  unpaired_one ts Depth LateImport o p a b = absurd b
  unpaired_one ts Depth Missing o p a b = absurd b
  unpaired_one ts Depth Unbuilt o p a b = absurd b
  unpaired_one ts Depth X6 o p a b = absurd b
  unpaired_one ts Depth X7 o p a b = absurd b
  unpaired_one ts Depth X11 o p a b = absurd b
  unpaired_one ts Depth X12 o p a b = absurd b
  unpaired_one ts Depth X16 o p a b = absurd b
  unpaired_one ts Depth X17 o p a b = absurd b
  unpaired_one ts Depth X22 o p a b = absurd b
  unpaired_one ts LateImport d o p a b = absurd a
  unpaired_one ts Missing d o p a b = absurd a
  unpaired_one ts Unbuilt d o p a b = absurd a
  unpaired_one ts X6 d o p a b = absurd a
  unpaired_one ts X7 d o p a b = absurd a
  unpaired_one ts X11 d o p a b = absurd a
  unpaired_one ts X12 d o p a b = absurd a
  unpaired_one ts X16 d o p a b = absurd a
  unpaired_one ts X17 d o p a b = absurd a
  unpaired_one ts X22 d o p a b = absurd a

  unpaired_none : (ts : List Piece) (c : Code) (o : ℕ) → IsPaired ts → IsUnpaired ts (length bytes) c o → ⊥
  unpaired_none ts Syntax o p a = laws.paired ts (length bytes) (fault.Syntax o) p a
  unpaired_none ts Depth o p a = laws.paired ts (length bytes) (fault.Depth o) p a
  unpaired_none ts LateImport o p a = a
  unpaired_none ts Missing o p a = a
  unpaired_none ts Unbuilt o p a = a
  unpaired_none ts X6 o p a = a
  unpaired_none ts X7 o p a = a
  unpaired_none ts X11 o p a = a
  unpaired_none ts X12 o p a = a
  unpaired_none ts X16 o p a = a
  unpaired_none ts X17 o p a = a
  unpaired_none ts X22 o p a = a

  fault_or_components : (ts : List Piece) (cs : List Component) (c : Code) (o : ℕ) → HasTokens bytes ts → IsUnpaired ts (length bytes) c o → HasComponents bytes cs → ⊥
  fault_or_components ts cs c o p unpaired q = unpaired_none (pieces_all cs) c o q.paired (subst (λ us. IsUnpaired us (length bytes) c o) (tokens_one ts (pieces_all cs) p q.tokens) unpaired)

  -- a text has one sheet, and what is named in it is one
  sheets_one : (a b : Sheet) → SpellsSheet bytes a → SpellsSheet bytes b → a ≡ b
  sheets_one a b p q = let same = sym p.2 ∙ ap sheet_of (components_one p.0 q.0 p.1 q.1) ∙ q.2 in cc same

  found_one : (a b : Sheet) (c d : Code) (o p : ℕ) → a ≡ b → IsFound a c o → IsFound b d p → IsSame c d o p
  found_one a b c d o p same f g =
      let pairs = same_pair (c, o) (d, p) (sym (subst (λ s. IsFound s c o) same f) ∙ g) in
      (ap (λ (x : Code × ℕ). x.0) pairs, ap (λ (x : Code × ℕ). x.1) pairs)

  found_none : (a b : Sheet) (c : Code) (o : ℕ) → a ≡ b → sheet_findings 0 a ≡ [] → IsFound b c o → ⊥
  found_none a b c o same none f =
      let nothing = sym (ap (λ fs. option_map code_and_offset (first_finding fs)) none) ∙ subst (λ s. IsFound s c o) (sym same) f in
      cc nothing

  refusal_or_sheet : (cs : List Component) (sheet : Sheet) (c : Code) (o : ℕ) → HasComponents bytes cs → IsRefused cs c o → SpellsSheet bytes sheet → ⊥
  refusal_or_sheet cs sheet c o has refused spells =
      refused_none spells.0 c o (laws.unrefused spells.0 sheet spells.2) (subst (λ ds. IsRefused ds c o) (components_one cs spells.0 has spells.1) refused)

  pub finding_one : (c d : Code) (o p : ℕ) → HasFinding bytes c o → HasFinding bytes d p → (c ≡ d) × (o ≡ p)
  unfolding HasFinding
  finding_one c d o p (inl a) (inl b) = (a.0 ∙ sym b.0, laws.place bytes o p a.1 b.1)
  finding_one c d o p (inl a) (inr (inl b)) = absurd (stop_none b.0 o b.1 a.1)
  finding_one c d o p (inl a) (inr (inr (inl b))) = absurd (stop_none (pieces_all b.0) o b.1.tokens a.1)
  finding_one c d o p (inl a) (inr (inr (inr b))) = absurd (stop_none (pieces_all b.1.0) o b.1.1.tokens a.1)
  finding_one c d o p (inr (inl a)) (inl b) = absurd (stop_none a.0 p a.1 b.1)
  finding_one c d o p (inr (inr (inl a))) (inl b) = absurd (stop_none (pieces_all a.0) p a.1.tokens b.1)
  finding_one c d o p (inr (inr (inr a))) (inl b) = absurd (stop_none (pieces_all a.1.0) p a.1.1.tokens b.1)
  finding_one c d o p (inr (inl a)) (inr (inl b)) = unpaired_one b.0 c d o p (subst (λ us. IsUnpaired us (length bytes) c o) (tokens_one a.0 b.0 a.1 b.1) a.2) b.2
  finding_one c d o p (inr (inl a)) (inr (inr (inl b))) = absurd (fault_or_components a.0 b.0 c o a.1 a.2 b.1)
  finding_one c d o p (inr (inl a)) (inr (inr (inr b))) = absurd (fault_or_components a.0 b.1.0 c o a.1 a.2 b.1.1)
  finding_one c d o p (inr (inr (inl a))) (inr (inl b)) = absurd (fault_or_components b.0 a.0 d p b.1 b.2 a.1)
  finding_one c d o p (inr (inr (inr a))) (inr (inl b)) = absurd (fault_or_components b.0 a.1.0 d p b.1 b.2 a.1.1)
  finding_one c d o p (inr (inr (inl a))) (inr (inr (inl b))) = refused_one b.0 c d o p (subst (λ cs. IsRefused cs c o) (components_one a.0 b.0 a.1 b.1) a.2) b.2
  finding_one c d o p (inr (inr (inl a))) (inr (inr (inr b))) = absurd (refusal_or_sheet a.0 b.0 c o a.1 a.2 b.1)
  finding_one c d o p (inr (inr (inr a))) (inr (inr (inl b))) = absurd (refusal_or_sheet b.0 a.0 d p b.1 b.2 a.1)
  finding_one c d o p (inr (inr (inr a))) (inr (inr (inr b))) = found_one a.0 b.0 c d o p (sheets_one a.0 b.0 a.1 b.1) a.2 b.2

  -- nothing stands against a text that has a sheet in which all can be expressed
  clean_none : (c : Code) (o : ℕ) (sheet : Sheet) → SpellsSheet bytes sheet → sheet_findings 0 sheet ≡ [] → HasFinding bytes c o → ⊥
  unfolding HasFinding
  clean_none c o sheet spells none (inl a) = stop_none (pieces_all spells.0) o spells.1.tokens a.1
  clean_none c o sheet spells none (inr (inl a)) = fault_or_components a.0 spells.0 c o a.1 a.2 spells.1
  clean_none c o sheet spells none (inr (inr (inl a))) = refusal_or_sheet a.0 sheet c o a.1 a.2 spells
  clean_none c o sheet spells none (inr (inr (inr a))) = found_none sheet a.0 c o (sheets_one sheet a.0 spells a.1) none a.2

  pub finding_none : (c : Code) (o : ℕ) → IsAccepted bytes → HasFinding bytes c o → ⊥
  unfolding IsAccepted
  finding_none c o r h = clean_none c o r.0 r.1 r.2 h

  pub finding_within : (kind : LimitKind) (c : Code) (o : ℕ) → PassesLimit bytes kind → HasFinding bytes c o → ⊥
  unfolding PassesLimit
  finding_within kind c o r h = clean_none c o r.0 r.1 r.2 h

  pub limit_none : (kind : LimitKind) → IsAccepted bytes → PassesLimit bytes kind → ⊥
  unfolding IsAccepted PassesLimit
  limit_none kind r p = let limits : None ≡ Some kind = sym r.3 ∙ ap sheet_limit (sheets_one r.0 p.0 r.1 p.1) ∙ p.3 in cc limits
