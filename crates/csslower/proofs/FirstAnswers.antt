-- Over all words and files there is one answer that stands first.
use Rattle.std.proofs.Common.{◌≡◌, ℕ, ◌+◌, List, [], ◌∷◌, Option, Some, None, MatchOption, is_none, unwrap_or, if◌then◌else◌, IsTrue, Bool, true, false, length, map, refl, ap, sym, ◌∙◌, ◌⊎◌, inl, inr, subst, option_map, arith, nat_lt}
use Rattle.css_outside.specs.Names.{Names}
use Rattle.css_tokens.specs.declared.component.Component.{Component}
use Rattle.css_tokens.specs.declared.pairing.ComponentFault.{ComponentFault}
use Rattle.css_tokens.specs.declared.pairing.ComponentFault.TheVariants as fault
use Rattle.css_tokens.specs.Pairing.{IsPaired, IsBracketFault}
use Rattle.css_tokens.specs.Piece.{Piece, Word, word_of}
use Rattle.css_tokens.specs.Tokens.{Reads, IsPlaced, StopsAt, mark_length}
use Rattle.css_tokens.specs.Trees.{pieces_all, all_formed}
use Rattle.css_rules.specs.declared.refusal.Refusal.{Refusal}
use Rattle.css_rules.specs.declared.refusal.Cause.{Cause}
use Rattle.css_rules.specs.declared.refusal.Cause.TheVariants as causes
use Rattle.css_rules.specs.Refusals.{first_refusal, sooner_of, sooner}
use Rattle.css_rules.specs.Sheets.{sheet_of, sheet_refusals}
use Rattle.sheet_types.specs.declared.sheet.Sheet.{Sheet}
use Rattle.findings.specs.Constructs.{sheet_findings}
use Rattle.findings.specs.Firsts.{first_finding}
use Rattle.findings.specs.Limits.{is_long, items_lists}
use Rattle.std.specs.List.{list_any}
use Rattle.css_places.specs.declared.finding.Code.{Code}
use Rattle.css_places.specs.declared.finding.Code.TheVariants.{Syntax, Depth, LateImport, Missing, Unbuilt}
use Rattle.css_places.specs.declared.finding.Finding.{Finding}
use Rattle.css_places.specs.declared.finding.LimitKind.{LimitKind}
use Rattle.css_places.specs.declared.finding.LimitKind.TheVariants.{L2, L8}
use Rattle.csslower.specs.Answers.{IsLong, IsPassed, IsFirst, IsFine, IsFirstOfSources, First, HasFirst}
use Rattle.css_tokens.specs.Components.{HasComponents, HasTokens}
use Rattle.sheet_reader.specs.Texts.{SpellsSheet}
use Rattle.csslower.specs.Findings.{code_and_offset, IsAccepted, HasFinding, PassesLimit}
use Rattle.csslower.specs.Words.{entry_of, is_scoped}
use Rattle.csslower.specs.declared.status.Status.{Status}
use Rattle.csslower.specs.declared.status.Status.TheVariants.{Done, Refused, Usage, ReadFault, WriteFault, Memory, Limit}
use Rattle.csslower.specs.declared.status.WordKind.TheVariants.{Words}

-- what the laws of tokens, components and findings say
pub record AnswerLaws : Type 0 where
  pub read : (t : List ℕ) → ((ws : List Word) × Reads t ws) ⊎ ((o : ℕ) × StopsAt t o)
  pub paired : (ts : List Piece) (end : ℕ) → IsPaired ts ⊎ ((f : ComponentFault) × IsBracketFault ts end f)
  pub components : (ts : List Piece) → IsPaired ts → (cs : List Component) × (pieces_all cs ≡ ts) × IsTrue (all_formed cs)
  pub readable : (cs : List Component) → sheet_of cs ≡ None → sheet_refusals cs ≡ [] → ⊥
  pub named : (fs : List Finding) → first_finding fs ≡ None → fs ≡ []
  pub one : (bytes : List ℕ) (c d : Code) (o p : ℕ) → HasFinding bytes c o → HasFinding bytes d p → (c ≡ d) × (o ≡ p)
  pub either : (bytes : List ℕ) (c : Code) (o : ℕ) → IsAccepted bytes → HasFinding bytes c o → ⊥
  pub within : (bytes : List ℕ) (kind : LimitKind) (c : Code) (o : ℕ) → PassesLimit bytes kind → HasFinding bytes c o → ⊥
  pub accepted : (bytes : List ℕ) (kind : LimitKind) → IsAccepted bytes → PassesLimit bytes kind → ⊥

-- the words in their places
placed_from : ℕ → List Word → List Piece
placed_from at [] = []
placed_from at (w ∷ ws) = record { kind = w.kind; text = w.text; at = at } ∷ placed_from (at + length w.text) ws

words_of_placed : (at : ℕ) (ws : List Word) → map word_of (placed_from at ws) ≡ ws
unfolding placed_from
words_of_placed at [] = refl
words_of_placed at (w ∷ ws) = ap (λ tail. w ∷ tail) (words_of_placed (at + length w.text) ws)

placed_are_placed : (at : ℕ) (ws : List Word) → IsPlaced at (placed_from at ws)
unfolding placed_from
placed_are_placed at [] = tt
placed_are_placed at (w ∷ ws) = (refl, placed_are_placed (at + length w.text) ws)

-- where anything is refused, one refusal is named
some_refusal : (rs : List Refusal) → (rs ≡ []) ⊎ ((r : Refusal) × (first_refusal rs ≡ Some r))
some_refusal [] = inl refl
some_refusal (r ∷ rs) = inr (named (first_refusal rs))
  where
    named : (rest : Option Refusal) → (s : Refusal) × (sooner_of (Some r) rest ≡ Some s)
    named None = (r, refl)
    named (Some s) = (sooner r s, refl)

abbrev HasSomeFinding : List ℕ → Type 0
HasSomeFinding bytes = (code : Code) × (offset : ℕ) × HasFinding bytes code offset

-- a text is accepted, or it passes a limit, or something stands against it
abbrev IsJudged : List ℕ → Type 0
IsJudged bytes = IsAccepted bytes ⊎ (PassesLimit bytes L8 ⊎ HasSomeFinding bytes)

-- the answer that stands first about the sources, as it is about the entry's file
abbrev IsFirstOfFile : List ℕ → Option (List ℕ) → Status → Type 0
IsFirstOfFile path found (Limit kind) = IsPassed path found kind
IsFirstOfFile path found (Refused finding) = (IsLong found → ⊥) × IsFirst path found finding
IsFirstOfFile path found Done = (IsLong found → ⊥) × IsFine path found
IsFirstOfFile path found (Usage kind) = ⊥
IsFirstOfFile path found ReadFault = ⊥
IsFirstOfFile path found WriteFault = ⊥
IsFirstOfFile path found Memory = ⊥

of_entry_file : (path : List ℕ) (files : Names) (answer : Status) → IsFirstOfFile path (files path) answer → IsFirstOfSources path files answer
of_entry_file path files (Limit kind) h = h
of_entry_file path files (Refused finding) h = h
of_entry_file path files Done h = h
of_entry_file path files (Usage kind) h = h
of_entry_file path files ReadFault h = h
of_entry_file path files WriteFault h = h
of_entry_file path files Memory h = h

of_sources : (path : List ℕ) (files : Names) (answer : Status) → IsFirstOfSources path files answer → IsFirstOfFile path (files path) answer
of_sources path files (Limit kind) h = h
of_sources path files (Refused finding) h = h
of_sources path files Done h = h
of_sources path files (Usage kind) h = h
of_sources path files ReadFault h = h
of_sources path files WriteFault h = h
of_sources path files Memory h = h

-- `First` of an entry, or of words that name none
abbrev pub FirstOfEntry : Option (List ℕ) → Names → Status → Type 0
FirstOfEntry entry files answer = MatchOption (if is_none entry then Some Words else None) (IsFirstOfSources (unwrap_or entry []) files answer) (λ kind. answer ≡ Usage kind)

module _ (laws : AnswerLaws) where
  refused_by : (bytes : List ℕ) (cs : List Component) → HasComponents bytes cs → (cause : Cause) (at : ℕ) → first_refusal (sheet_refusals cs) ≡ Some (record { at = at; cause = cause }) → HasSomeFinding bytes
  unfolding HasFinding
  refused_by bytes cs has causes.Syntax at named = (Syntax, at, inr (inr (inl (cs, has, named))))
  refused_by bytes cs has causes.Unbuilt at named = (Unbuilt, at, inr (inr (inl (cs, has, named))))
  refused_by bytes cs has causes.LateImport at named = (LateImport, at, inr (inr (inl (cs, has, named))))

  -- a sheet in which all can be expressed is accepted, or it passes the limit of its media query lists
  of_clean : (bytes : List ℕ) (sheet : Sheet) → SpellsSheet bytes sheet → sheet_findings 0 sheet ≡ [] → (long : Bool) → list_any is_long (items_lists sheet.items) ≡ long → IsJudged bytes
  unfolding IsAccepted PassesLimit
  of_clean bytes sheet spells none true is = inr (inl (sheet, spells, none, ap (λ long. if long then Some L8 else None) is))
  of_clean bytes sheet spells none false is = inl (sheet, spells, none, ap (λ long. if long then Some L8 else None) is)

  -- a sheet is clean, or a finding in it is named
  of_sheet : (bytes : List ℕ) (sheet : Sheet) → SpellsSheet bytes sheet → (first : Option Finding) → first_finding (sheet_findings 0 sheet) ≡ first → IsJudged bytes
  unfolding HasFinding
  of_sheet bytes sheet spells None is = of_clean bytes sheet spells (laws.named (sheet_findings 0 sheet) is) (list_any is_long (items_lists sheet.items)) refl
  of_sheet bytes sheet spells (Some f) is = inr (inr (f.code, f.place.offset, inr (inr (inr (sheet, spells, ap (option_map code_and_offset) is)))))

  -- components have a sheet, or it is refused
  of_reading : (bytes : List ℕ) (cs : List Component) → HasComponents bytes cs → sheet_refusals cs ≡ [] → (o : Option Sheet) → sheet_of cs ≡ o → IsJudged bytes
  of_reading bytes cs has none None is = absurd (laws.readable cs is none)
  of_reading bytes cs has none (Some sheet) is = of_sheet bytes sheet (cs, has, is) (first_finding (sheet_findings 0 sheet)) refl

  of_components : (bytes : List ℕ) (cs : List Component) → HasComponents bytes cs → IsJudged bytes
  of_components bytes cs has =
      elim (some_refusal (sheet_refusals cs)) [
        | inl none ↦ of_reading bytes cs has none (sheet_of cs) refl
        | inr some ↦ inr (inr (refused_by bytes cs has some.0.cause some.0.at some.1))
      ]

  of_paired : (bytes : List ℕ) (ts : List Piece) → HasTokens bytes ts → IsPaired ts → IsJudged bytes
  of_paired bytes ts has paired =
      let made = laws.components ts paired in
      of_components bytes made.0 (record { tokens = subst (HasTokens bytes) (sym made.1) has; formed = made.2; paired = subst IsPaired (sym made.1) paired })

  of_fault : (bytes : List ℕ) (ts : List Piece) → HasTokens bytes ts → (f : ComponentFault) → IsBracketFault ts (length bytes) f → HasSomeFinding bytes
  unfolding HasFinding
  of_fault bytes ts has (fault.Syntax at) is = (Syntax, at, inr (inl (ts, has, is)))
  of_fault bytes ts has (fault.Depth at) is = (Depth, at, inr (inl (ts, has, is)))
  of_fault bytes ts has fault.Memory is = absurd is

  of_tokens : (bytes : List ℕ) (ts : List Piece) → HasTokens bytes ts → IsJudged bytes
  of_tokens bytes ts has =
      elim (laws.paired ts (length bytes)) [
        | inl paired ↦ of_paired bytes ts has paired
        | inr fault ↦ inr (inr (of_fault bytes ts has fault.0 fault.1))
      ]

  of_words : (bytes : List ℕ) (ws : List Word) → Reads bytes ws → IsJudged bytes
  of_words bytes ws reads = of_tokens bytes (placed_from (mark_length bytes) ws) (record { read = subst (Reads bytes) (sym (words_of_placed (mark_length bytes) ws)) reads; placed = placed_are_placed (mark_length bytes) ws })

  -- a text is readable, or it passes a limit, or something stands against it
  of_text : (bytes : List ℕ) → IsJudged bytes
  unfolding HasFinding
  of_text bytes =
      elim (laws.read bytes) [
        | inl words ↦ of_words bytes words.0 words.1
        | inr stop ↦ inr (inr (Syntax, stop.0, inl (refl, stop.1)))
      ]

  abbrev finding_at : ℕ → ℕ → Code → Finding
  finding_at file offset code = record { place = record { file = file; offset = offset }; code = code }

  abbrev finding_of : ℕ → Code → Finding
  finding_of offset code = finding_at 0 offset code

  -- against a file that is not too long
  of_short : (path bytes : List ℕ) (scoped : Bool) → is_scoped path ≡ scoped → (IsLong (Some bytes) → ⊥) → (answer : Status) × IsFirstOfFile path (Some bytes) answer
  of_short path bytes true is short = (Refused (finding_of 0 Unbuilt), (short, (refl, ((λ _. (refl, refl)), λ not. absurd (cc (is, not))))))
  of_short path bytes false is short =
      elim (of_text bytes) [
        | inl fine ↦ (Done, (short, (is, fine)))
        | inr (inl wide) ↦ (Limit L8, (short, (is, wide)))
        | inr (inr some) ↦ (Refused (finding_of some.1 some.0), (short, (refl, ((λ yes. absurd (cc (is, yes))), λ _. some.2))))
      ]

  of_length : (path bytes : List ℕ) (long : Bool) → nat_lt 4194304 (length bytes) ≡ long → (answer : Status) × IsFirstOfFile path (Some bytes) answer
  of_length path bytes true is = (Limit L2, grind (arith, is))
  of_length path bytes false is = of_short path bytes (is_scoped path) refl (λ long. grind (arith, is, long))

  of_file : (path : List ℕ) (found : Option (List ℕ)) → (answer : Status) × IsFirstOfFile path found answer
  of_file path None = (Refused (finding_of 0 Missing), ((λ long. long), (refl, (refl, refl))))
  of_file path (Some bytes) = of_length path bytes (nat_lt 4194304 (length bytes)) refl

  some_first : (words : List (List ℕ)) (files : Names) → (answer : Status) × First words files answer
  some_first words files = of_entry (entry_of words)
    where
      of_entry : (entry : Option (List ℕ)) → (answer : Status) × FirstOfEntry entry files answer
      of_entry None = (Usage Words, refl)
      of_entry (Some path) = let some = of_file path (files path) in (some.0, of_entry_file path files some.0 some.1)

  same_finding : (a b : Finding) → a.place.file ≡ b.place.file → a.place.offset ≡ b.place.offset → a.code ≡ b.code → a ≡ b
  same_finding a b file offset code = made a.place.file b.place.file a.place.offset b.place.offset a.code b.code file offset code
    where
      made : (e f o p : ℕ) (c d : Code) → e ≡ f → o ≡ p → c ≡ d → finding_at e o c ≡ finding_at f p d
      made e f o p c d x y z = cc (x, y, z)

  stands_one : (path : List ℕ) (found : Option (List ℕ)) (scoped : Bool) → is_scoped path ≡ scoped → (a b : Finding) → IsFirst path found a → IsFirst path found b → a ≡ b
  stands_one path None scoped is a b p q = same_finding a b (p.0 ∙ sym q.0) (p.1.0 ∙ sym q.1.0) (p.1.1 ∙ sym q.1.1)
  stands_one path (Some bytes) true is a b p q =
      let x = p.1.0 is in
      let y = q.1.0 is in
      same_finding a b (p.0 ∙ sym q.0) (x.0 ∙ sym y.0) (x.1 ∙ sym y.1)
  stands_one path (Some bytes) false is a b p q =
      let same = laws.one bytes a.code b.code a.place.offset b.place.offset (p.1.1 is) (q.1.1 is) in
      same_finding a b (p.0 ∙ sym q.0) same.1 same.0

  fine_or_finding : (path : List ℕ) (found : Option (List ℕ)) (a : Finding) → IsFine path found → IsFirst path found a → ⊥
  fine_or_finding path None a fine p = fine
  fine_or_finding path (Some bytes) a fine p = laws.either bytes a.code a.place.offset fine.1 (p.1.1 fine.0)

  fine_or_passed : (path : List ℕ) (found : Option (List ℕ)) (kind : LimitKind) → (IsLong found → ⊥) → IsFine path found → IsPassed path found kind → ⊥
  fine_or_passed path found L2 short fine long = short long
  fine_or_passed path None L8 short fine wide = fine
  fine_or_passed path (Some bytes) L8 short fine wide = laws.accepted bytes L8 fine.1 wide.1.1

  finding_or_passed : (path : List ℕ) (found : Option (List ℕ)) (a : Finding) (kind : LimitKind) → (IsLong found → ⊥) → IsFirst path found a → IsPassed path found kind → ⊥
  finding_or_passed path found a L2 short p long = short long
  finding_or_passed path None a L8 short p wide = wide.1
  finding_or_passed path (Some bytes) a L8 short p wide = laws.within bytes L8 a.code a.place.offset wide.1.1 (p.1.1 wide.1.0)

  passed_one : (path : List ℕ) (found : Option (List ℕ)) (k l : LimitKind) → IsPassed path found k → IsPassed path found l → k ≡ l
  passed_one path found L2 L2 p q = refl
  passed_one path found L2 L8 p q = absurd (q.0 p)
  passed_one path found L8 L2 p q = absurd (p.0 q)
  passed_one path found L8 L8 p q = refl

  of_file_one : (path : List ℕ) (found : Option (List ℕ)) (a b : Status) → IsFirstOfFile path found a → IsFirstOfFile path found b → a ≡ b
  of_file_one path found (Usage k) b p q = absurd p
  of_file_one path found ReadFault b p q = absurd p
  of_file_one path found WriteFault b p q = absurd p
  of_file_one path found Memory b p q = absurd p
  of_file_one path found Done (Usage k) p q = absurd q
  of_file_one path found Done ReadFault p q = absurd q
  of_file_one path found Done WriteFault p q = absurd q
  of_file_one path found Done Memory p q = absurd q
  of_file_one path found Done Done p q = refl
  of_file_one path found Done (Refused b) p q = absurd (fine_or_finding path found b p.1 q.1)
  of_file_one path found Done (Limit kind) p q = absurd (fine_or_passed path found kind p.0 p.1 q)
  of_file_one path found (Refused a) (Usage k) p q = absurd q
  of_file_one path found (Refused a) ReadFault p q = absurd q
  of_file_one path found (Refused a) WriteFault p q = absurd q
  of_file_one path found (Refused a) Memory p q = absurd q
  of_file_one path found (Refused a) Done p q = absurd (fine_or_finding path found a q.1 p.1)
  of_file_one path found (Refused a) (Refused b) p q = ap Refused (stands_one path found (is_scoped path) refl a b p.1 q.1)
  of_file_one path found (Refused a) (Limit kind) p q = absurd (finding_or_passed path found a kind p.0 p.1 q)
  of_file_one path found (Limit kind) (Usage k) p q = absurd q
  of_file_one path found (Limit kind) ReadFault p q = absurd q
  of_file_one path found (Limit kind) WriteFault p q = absurd q
  of_file_one path found (Limit kind) Memory p q = absurd q
  of_file_one path found (Limit kind) Done p q = absurd (fine_or_passed path found kind q.0 q.1 p)
  of_file_one path found (Limit kind) (Refused b) p q = absurd (finding_or_passed path found b kind q.0 q.1 p)
  of_file_one path found (Limit kind) (Limit other) p q = ap Limit (passed_one path found kind other p q)

  first_one : (words : List (List ℕ)) (files : Names) (a b : Status) → First words files a → First words files b → a ≡ b
  first_one words files a b p q = of_entry (entry_of words) p q
    where
      of_entry : (entry : Option (List ℕ)) → FirstOfEntry entry files a → FirstOfEntry entry files b → a ≡ b
      of_entry None x y = x ∙ sym y
      of_entry (Some path) x y = of_file_one path (files path) a b (of_sources path files a x) (of_sources path files b y)

  pub has_first : (words : List (List ℕ)) (files : Names) → HasFirst words files
  has_first words files = record { some = some_first words files; one = first_one words files }
