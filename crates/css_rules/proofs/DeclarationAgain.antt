-- A printed declaration is read as that declaration.
use Rattle.std.proofs.Common.{◌≡◌, ℕ, List, [], ◌∷◌, ◌++◌, Bool, true, false, ◌&&◌, ◌||◌, not, Option, Some, None, refl, sym, ◌∙◌, ap, cond, codes, is_some}
use Rattle.std.specs.List.{list_any}
use Rattle.std.proofs.lemmas.List.{append_assoc, append-nil}
use Rattle.css_tokens.specs.declared.kind.Kind.TheVariants as kinds
use Rattle.css_tokens.specs.declared.component.Component.{Component}
use Rattle.css_tokens.specs.declared.component.Component.TheVariants.{outs-Single}
use Rattle.css_tokens.specs.Piece.{Piece, Word}
use Rattle.css_tokens.specs.NameText.{name_text}
use Rattle.css_tokens.specs.Names.{name_of_word}
use Rattle.css_tokens.specs.Trees.{all_formed, words_all}
use Rattle.css_tokens.specs.ValueAgain.{value_again}
use Rattle.std.proofs.Math.Bool.{and-false}
use Rattle.css_tokens.specs.Values.{is_gap as is_gap_kind}
use Rattle.sheet_types.specs.declared.sheet.Declaration.{Declaration}
use Rattle.css_components.specs.Components.{head, is_bang, is_braces, is_semicolon, is_gap, is_custom, is_keyword, layer_is_single, layer_head, is_ident_kind, is_semicolon_kind, name_of}
use Rattle.css_components.specs.Trimming.{trimmed, trimmed_start, trimmed_end}
use Rattle.css_rules.specs.Cuts.{cuts_at}
use Rattle.css_rules.specs.Declarations.{property_name, after_colon, may_be_value, is_important, value_of, declared, declared_after, declaration_of, begins_custom}
use Rattle.css_rules.specs.Refusals.{has_sought, is_unbuilt_property, sought_for}
use Rattle.css_rules.specs.Sheets.{built, is_unbuilt, item_of, plain_item}
use Rattle.css_rules.specs.RuleEnds.{begins_at_rule, ends_in_braces, ends_item}
use Rattle.sheet_types.specs.Statements.{bare_declaration}
use Rattle.css_rules.specs.Printable.{IsPrintableDeclaration, begins_solid}
use Rattle.css_rules.proofs.Heads.{word, single_of}
use Rattle.sheet_types.specs.SheetAgain.{value_or_space, importance_again, declaration_again}
use Rattle.selector_types.specs.Spelling.{colon, space}
use Rattle.css_rules.proofs.CutLemmas.{goes_on, not-true, trimmed_start-gap, trimmed_start-other, trimmed_end-other, trimmed_end-gap}
use Rattle.css_rules.proofs.DeclarationLemmas.{or_false_left, or_false_right}
use Rattle.css_rules.proofs.CutAgain.{cuts-front, cuts-whole, any-append, trimmed_end-solid, any-trimmed_end}
use Rattle.css_rules.proofs.Heads.{piece_of, head-Single, gap-Single, ident-Single, at-Single, colon-Single, semicolon-Single, bang-Single, braces-Single}
use Rattle.sheet_types.proofs.PlacesTrees.{same-erased}
use Rattle.css_rules.proofs.ValueFacts.{ValueLaws, any-value, semicolon_layer, bang_layer, braces_layer, trimmed-value, trimmed_end-value, printed-some}
use Rattle.css_rules.proofs.SoughtAgain.{unsought-again}

abbrev name_again : List ℕ → Component
name_again name = single_of (word kinds.Ident (name_text name))

abbrev bang : Component
bang = single_of (word kinds.Delim (codes "!"))

abbrev important : Component
important = single_of (word kinds.Ident (codes "important"))

-- the value as it was printed, or nothing where that is one space
trimmed-printed : ValueLaws → (v : List Component) → trimmed (value_or_space (value_again v)) ≡ value_again v
trimmed-printed laws v = at (value_again v) refl
  where
    at : (va : List Component) → value_again v ≡ va → trimmed (value_or_space va) ≡ va
    at [] e = ap trimmed_end (trimmed_start-gap space [] (gap-Single (piece_of (word kinds.White (codes " ")))))
    at (c ∷ cs) e = ap trimmed (sym e) ∙ trimmed-value laws v ∙ e

-- the last components of what is printed behind the colon
end-printed : ValueLaws → (v : List Component) → trimmed (trimmed_end (value_or_space (value_again v))) ≡ value_again v
end-printed laws v = at (value_again v) refl
  where
    at : (va : List Component) → value_again v ≡ va → trimmed (trimmed_end (value_or_space va)) ≡ va
    at [] e = ap trimmed (trimmed_end-gap [] space (gap-Single (piece_of (word kinds.White (codes " ")))))
    at (c ∷ cs) e = ap trimmed (ap trimmed_end (sym e) ∙ trimmed_end-value laws v ∙ e) ∙ ap trimmed (sym e) ∙ trimmed-value laws v ∙ e

other-Single : (w : Word) → is_gap_kind w.kind ≡ false → is_gap (single_of w) ≡ false
other-Single w e = gap-Single (piece_of w) ∙ e

important-mark : is_important (trimmed (important ∷ [])) ≡ true
important-mark =
    ap (λ cs. is_important (trimmed_end cs)) (trimmed_start-other important [] (other-Single (word kinds.Ident (codes "important")) refl))
    ∙ ap is_important (trimmed_end-other [] important (other-Single (word kinds.Ident (codes "important")) refl))
    ∙ ap (λ v. (layer_is_single v && is_ident_kind (layer_head v).kind) && is_keyword (codes "important") (name_of (layer_head v))) (outs-Single (piece_of (word kinds.Ident (codes "important"))))

bang-marked : is_bang bang ≡ true
bang-marked = bang-Single (piece_of (word kinds.Delim (codes "!")))

no_bang : ValueLaws → (v : List Component) → all_formed v ≡ true → list_any is_bang v ≡ false → list_any is_bang (value_or_space (value_again v)) ≡ false
no_bang laws v formed none = at (value_again v) refl
  where
    at : (va : List Component) → value_again v ≡ va → list_any is_bang (value_or_space va) ≡ false
    at [] e = ap (λ b. b || false) (bang-Single (piece_of (word kinds.White (codes " "))))
    at (c ∷ cs) e = ap (list_any is_bang) (sym e) ∙ any-value is_bang bang_layer laws v formed ∙ none

value-plain : ValueLaws → (v : List Component) → all_formed v ≡ true → list_any is_bang v ≡ false → value_of (cuts_at is_bang (trimmed_end (value_or_space (value_again v)))) ≡ Some (value_again v, false)
value-plain laws v formed none =
    let rest = value_or_space (value_again v) in
    ap value_of (cuts-whole is_bang (trimmed_end rest) (any-trimmed_end is_bang rest (no_bang laws v formed none)))
    ∙ ap (λ value. Some (value, false)) (end-printed laws v)

value-marked : ValueLaws → (v : List Component) → all_formed v ≡ true → list_any is_bang v ≡ false → value_of (cuts_at is_bang (trimmed_end (value_or_space (value_again v) ++ bang ∷ important ∷ []))) ≡ Some (value_again v, true)
value-marked laws v formed none =
    let rest = value_or_space (value_again v) in
    let split = sym (append_assoc rest (bang ∷ []) (important ∷ [])) in
    let whole = ap trimmed_end split ∙ trimmed_end-other (rest ++ bang ∷ []) important (other-Single (word kinds.Ident (codes "important")) refl) ∙ sym split in
    ap (λ cs. value_of (cuts_at is_bang cs)) whole
    ∙ ap value_of (cuts-front is_bang rest bang (important ∷ []) (no_bang laws v formed none) bang-marked)
    ∙ ap (λ cs. value_of (record { front = rest; mark = Some bang } ∷ cs)) (cuts-whole is_bang (important ∷ []) (ap (λ b. b || false) (bang-Single (piece_of (word kinds.Ident (codes "important"))))))
    ∙ ap (λ b. cond b (Some (trimmed rest, true)) None) important-mark
    ∙ ap (λ value. Some (value, true)) (trimmed-printed laws v)

value-again : ValueLaws → (v : List Component) (b : Bool) → all_formed v ≡ true → list_any is_bang v ≡ false → value_of (cuts_at is_bang (trimmed_end (value_or_space (value_again v) ++ importance_again b))) ≡ Some (value_again v, b)
value-again laws v true formed none = value-marked laws v formed none
value-again laws v false formed none = ap (λ cs. value_of (cuts_at is_bang (trimmed_end cs))) (append-nil (value_or_space (value_again v))) ∙ value-plain laws v formed none

-- what may be a value may be one as it is printed
fits-again : ValueLaws → (custom : Bool) (v : List Component) → all_formed v ≡ true → begins_solid v ≡ true → may_be_value custom v ≡ true → may_be_value custom (value_again v) ≡ true
fits-again laws custom [] formed begun fits = fits
fits-again laws custom (c ∷ cs) formed begun fits =
    let some = printed-some laws c cs formed (not-true (is_gap c) begun) in
    ap (may_be_value custom) some.1.1
    ∙ ap (λ v. custom || not (list_any is_braces v)) (sym some.1.1)
    ∙ ap (λ b. custom || not b) (any-value is_braces braces_layer laws (c ∷ cs) formed)
    ∙ fits

-- the declaration that is read
abbrev pub read_again : Declaration → Declaration
read_again d = record { name = d.name; value = value_again d.value; important = d.important; at = 0 }

tail_of : Declaration → List Component
tail_of d = trimmed_end (value_or_space (value_again d.value) ++ importance_again d.important)

trimmed-declaration : (d : Declaration) → trimmed (declaration_again d) ≡ name_again d.name ∷ colon ∷ tail_of d
unfolding tail_of
trimmed-declaration d =
    let rest = value_or_space (value_again d.value) ++ importance_again d.important in
    let name_solid = other-Single (word kinds.Ident (name_text d.name)) refl in
    ap trimmed_end (trimmed_start-other (name_again d.name) (colon ∷ rest) name_solid)
    ∙ trimmed_end-solid (name_again d.name) (colon ∷ rest) name_solid
    ∙ ap (λ cs. name_again d.name ∷ cs) (trimmed_end-solid colon rest (other-Single (word kinds.Colon (codes ":")) refl))

abbrev after_name : Declaration → List Component → Option Declaration
after_name d cs = declared_after (head (name_again d.name)) (after_colon cs)

-- the declaration behind its name
declared-again : ValueLaws → (d : Declaration) → IsPrintableDeclaration d → name_of_word kinds.Ident (name_text d.name) ≡ d.name → declared_after (head (name_again d.name)) (Some (tail_of d)) ≡ Some (read_again d)
unfolding tail_of
declared-again laws d printable plain =
    let value = value_again d.value in
    let result : List ℕ → Option Declaration = λ n. cond (may_be_value (is_custom n) value) (Some (record { name = property_name n; value = value; important = d.important; at = 0 })) None in
    let made : Bool → List ℕ → Option Declaration = λ b n. cond b (Some (record { name = n; value = value; important = d.important; at = 0 })) None in
    ap (λ p. declared p (value_of (cuts_at is_bang (trimmed_end (value_or_space value ++ importance_again d.important))))) (head-Single (piece_of (word kinds.Ident (name_text d.name))))
    ∙ ap (declared (piece_of (word kinds.Ident (name_text d.name)))) (value-again laws d.value d.important printable.formed printable.bangless)
    ∙ ap result plain
    ∙ ap (λ b. made b (property_name d.name)) (fits-again laws (is_custom d.name) d.value printable.formed printable.begun printable.fits)
    ∙ ap (made true) printable.property

-- what follows the name is a colon
colon-follows : (cs : List Component) → after_colon (trimmed_start (colon ∷ cs)) ≡ Some cs
colon-follows cs =
    ap after_colon (trimmed_start-other colon cs (other-Single (word kinds.Colon (codes ":")) refl))
    ∙ ap (λ b. cond b (Some cs) None) (colon-Single (piece_of (word kinds.Colon (codes ":"))))

-- a printed declaration is read as that declaration
pub declaration-again : ValueLaws → (d : Declaration) → IsPrintableDeclaration d → name_of_word kinds.Ident (name_text d.name) ≡ d.name → declaration_of (trimmed (declaration_again d)) ≡ Some (read_again d)
declaration-again laws d printable plain =
    ap declaration_of (trimmed-declaration d)
    ∙ ap (λ b. cond b (declared_after (head (name_again d.name)) (after_colon (trimmed_start (colon ∷ tail_of d)))) None) (ident-Single (piece_of (word kinds.Ident (name_text d.name))))
    ∙ ap (declared_after (head (name_again d.name))) (colon-follows (tail_of d))
    ∙ declared-again laws d printable plain

-- which says what it was printed from
pub bare-again : ValueLaws → (d : Declaration) → IsPrintableDeclaration d → bare_declaration (read_again d) ≡ bare_declaration d
bare-again laws d printable =
    let v = d.value in
    let w = value_again v in
    let formed = laws.formed v printable.formed in
    let words : words_all (value_again w) ≡ words_all w = laws.words w formed ∙ laws.twice v printable.formed ∙ sym (laws.words v printable.formed) in
    ap (λ value. record { name = d.name; value = value; important = d.important }) (same-erased laws.one (value_again w) w words (laws.formed w formed) formed)

-- Items of a block.

again_value : Declaration → List Component
again_value d = value_or_space (value_again d.value) ++ importance_again d.important

no_braces : ValueLaws → (d : Declaration) → IsPrintableDeclaration d → is_custom d.name ≡ false → list_any is_braces (again_value d) ≡ false
unfolding again_value
no_braces laws d printable plain_property =
    let none = value_braces d.value (sym (ap (λ b. may_be_value b d.value) plain_property) ∙ printable.fits) in
    any-append is_braces (value_or_space (value_again d.value)) (importance_again d.important) (printed (value_again d.value) refl none) (mark d.important)
  where
    value_braces : (v : List Component) → may_be_value false v ≡ true → list_any is_braces v ≡ false
    value_braces [] e = refl
    value_braces (c ∷ cs) e = not-true (list_any is_braces (c ∷ cs)) e

    printed : (va : List Component) → value_again d.value ≡ va → list_any is_braces d.value ≡ false → list_any is_braces (value_or_space va) ≡ false
    printed [] e none = ap (λ b. b || false) (braces-Single (piece_of (word kinds.White (codes " "))))
    printed (c ∷ cs) e none = ap (list_any is_braces) (sym e) ∙ any-value is_braces braces_layer laws d.value printable.formed ∙ none

    mark : (b : Bool) → list_any is_braces (importance_again b) ≡ false
    mark true =
        ap (λ b. b || (is_braces important || false)) (braces-Single (piece_of (word kinds.Delim (codes "!"))))
        ∙ ap (λ b. b || false) (braces-Single (piece_of (word kinds.Ident (codes "important"))))
    mark false = refl

no_semicolon : ValueLaws → (d : Declaration) → IsPrintableDeclaration d → list_any is_semicolon (again_value d) ≡ false
unfolding again_value
no_semicolon laws d printable =
    any-append is_semicolon (value_or_space (value_again d.value)) (importance_again d.important) (printed (value_again d.value) refl) (mark d.important)
  where
    printed : (va : List Component) → value_again d.value ≡ va → list_any is_semicolon (value_or_space va) ≡ false
    printed [] e = ap (λ b. b || false) (semicolon-Single (piece_of (word kinds.White (codes " "))))
    printed (c ∷ cs) e = ap (list_any is_semicolon) (sym e) ∙ any-value is_semicolon semicolon_layer laws d.value printable.formed ∙ printable.undivided

    mark : (b : Bool) → list_any is_semicolon (importance_again b) ≡ false
    mark true =
        ap (λ b. b || (is_semicolon important || false)) (semicolon-Single (piece_of (word kinds.Delim (codes "!"))))
        ∙ ap (λ b. b || false) (semicolon-Single (piece_of (word kinds.Ident (codes "important"))))
    mark false = refl

-- no token alone but a `;` ends an item
single-goes : (before : List Component) (w : Word) → is_semicolon_kind w.kind ≡ false → ends_item before (single_of w) ≡ false
single-goes before w e =
    ap (λ b. b || (is_braces (single_of w) && not (begins_custom (trimmed_start before)))) (semicolon-Single (piece_of w) ∙ e)
    ∙ ap (λ b. b && not (begins_custom (trimmed_start before))) (braces-Single (piece_of w))

-- what has neither a `;` nor a `{}` block goes on
goes-plain : (before cs : List Component) → list_any is_semicolon cs ≡ false → list_any is_braces cs ≡ false → goes_on ends_item before cs ≡ true
goes-plain before [] s b = refl
goes-plain before (c ∷ cs) s b =
    ap (λ e. not (e || (is_braces c && not (begins_custom (trimmed_start before)))) && goes_on ends_item (before ++ c ∷ []) cs) (or_false_left (is_semicolon c) (list_any is_semicolon cs) s)
    ∙ ap (λ e. not (e && not (begins_custom (trimmed_start before))) && goes_on ends_item (before ++ c ∷ []) cs) (or_false_left (is_braces c) (list_any is_braces cs) b)
    ∙ goes-plain (before ++ c ∷ []) cs (or_false_right (is_semicolon c) (list_any is_semicolon cs) s) (or_false_right (is_braces c) (list_any is_braces cs) b)

-- and in a custom property what has no `;`
goes-custom : (before cs : List Component) → ((more : List Component) → begins_custom (trimmed_start (before ++ more)) ≡ true) → list_any is_semicolon cs ≡ false → goes_on ends_item before cs ≡ true
goes-custom before [] custom s = refl
goes-custom before (c ∷ cs) custom s =
    let begins : begins_custom (trimmed_start before) ≡ true = ap (λ bs. begins_custom (trimmed_start bs)) (sym (append-nil before)) ∙ custom [] in
    ap (λ e. not (e || (is_braces c && not (begins_custom (trimmed_start before)))) && goes_on ends_item (before ++ c ∷ []) cs) (or_false_left (is_semicolon c) (list_any is_semicolon cs) s)
    ∙ ap (λ e. not (is_braces c && not e) && goes_on ends_item (before ++ c ∷ []) cs) begins
    ∙ ap (λ e. not e && goes_on ends_item (before ++ c ∷ []) cs) (and-false (is_braces c))
    ∙ goes-custom (before ++ c ∷ []) cs (λ more. ap (λ bs. begins_custom (trimmed_start bs)) (append_assoc before (c ∷ []) more) ∙ custom (c ∷ more)) (or_false_right (is_semicolon c) (list_any is_semicolon cs) s)

begins-again : (d : Declaration) (more : List Component) → is_custom d.name ≡ true → name_of_word kinds.Ident (name_text d.name) ≡ d.name → begins_custom (trimmed_start (name_again d.name ∷ colon ∷ more)) ≡ true
begins-again d more custom plain =
    ap begins_custom (trimmed_start-other (name_again d.name) (colon ∷ more) (other-Single (word kinds.Ident (name_text d.name)) refl))
    ∙ ap (λ i. i && (is_custom (name_of (head (name_again d.name))) && is_some (after_colon (trimmed_start (colon ∷ more))))) (ident-Single (piece_of (word kinds.Ident (name_text d.name))))
    ∙ ap (λ o. is_custom (name_of (head (name_again d.name))) && is_some o) (colon-follows more)
    ∙ ap (λ (p : Piece). is_custom (name_of p) && true) (head-Single (piece_of (word kinds.Ident (name_text d.name))))
    ∙ ap (λ n. is_custom n && true) plain
    ∙ ap (λ b. b && true) custom

-- a printed declaration ends no item
pub goes-again : ValueLaws → (d : Declaration) → IsPrintableDeclaration d → name_of_word kinds.Ident (name_text d.name) ≡ d.name → goes_on ends_item [] (declaration_again d) ≡ true
unfolding again_value
goes-again laws d printable plain =
    let name = name_again d.name in
    let front = name ∷ colon ∷ [] in
    ap (λ e. not e && (not (ends_item (name ∷ []) colon) && goes_on ends_item front (again_value d))) (single-goes [] (word kinds.Ident (name_text d.name)) refl)
    ∙ ap (λ e. not e && goes_on ends_item front (again_value d)) (single-goes (name ∷ []) (word kinds.Colon (codes ":")) refl)
    ∙ rest (is_custom d.name) refl
  where
    rest : (b : Bool) → is_custom d.name ≡ b → goes_on ends_item (name_again d.name ∷ colon ∷ []) (again_value d) ≡ true
    rest true custom = goes-custom (name_again d.name ∷ colon ∷ []) (again_value d) (λ more. begins-again d more custom plain) (no_semicolon laws d printable)
    rest false other = goes-plain (name_again d.name ∷ colon ∷ []) (again_value d) (no_semicolon laws d printable) (no_braces laws d printable other)

built-again : ValueLaws → (d : Declaration) → IsPrintableDeclaration d → is_unbuilt (read_again d) ≡ false
built-again laws d printable =
    ap (λ b. b || has_sought (sought_for d.name) (value_again d.value)) (or_false_left (is_unbuilt_property d.name) (has_sought (sought_for d.name) d.value) printable.built)
    ∙ unsought-again laws (sought_for d.name) d.value printable.formed (or_false_right (is_unbuilt_property d.name) (has_sought (sought_for d.name) d.value) printable.built)

-- an item that is a printed declaration is read as that declaration
pub item-again : ValueLaws → (d : Declaration) (mark : Option Component) → IsPrintableDeclaration d → name_of_word kinds.Ident (name_text d.name) ≡ d.name → ends_in_braces mark ≡ false
    → item_of (record { front = declaration_again d; mark = mark }) ≡ Some (read_again d ∷ [])
item-again laws d mark printable plain ends =
    let all = name_again d.name ∷ colon ∷ tail_of d in
    ap (λ (cs : List Component). cond (begins_at_rule cs || ends_in_braces mark) None (plain_item cs)) (trimmed-declaration d)
    ∙ ap (λ b. cond (b || ends_in_braces mark) None (plain_item all)) (at-Single (piece_of (word kinds.Ident (name_text d.name))))
    ∙ ap (λ b. cond b None (plain_item all)) ends
    ∙ ap built (sym (ap declaration_of (trimmed-declaration d)) ∙ declaration-again laws d printable plain)
    ∙ ap (λ b. cond b None (Some (read_again d ∷ []))) (built-again laws d printable)
