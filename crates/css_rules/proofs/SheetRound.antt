-- A printed sheet is read as that sheet.
use Rattle.std.proofs.Common.{◌≡◌, ℕ, List, [], ◌∷◌, ◌++◌, map, true, ◌&&◌, ◌||◌, not, Some, None, option_map, refl, ◌∙◌, ap, codes}
use Rattle.std.specs.List.{AllByRecursion}
use Rattle.std.proofs.lemmas.List.{append-nil}
use Rattle.css_tokens.specs.NameText.{name_text}
use Rattle.css_tokens.specs.Names.{is_name, name_of_word}
use Rattle.sheet_types.specs.declared.sheet.Declaration.{Declaration}
use Rattle.css_components.specs.Components.{is_braces, is_semicolon}
use Rattle.css_components.specs.Trimming.{trimmed_start}
use Rattle.css_rules.specs.Declarations.{begins_custom}
use Rattle.css_rules.specs.ReadAll.{joined, read_all}
use Rattle.css_rules.specs.Sheets.{declarations_of, item_of}
use Rattle.css_rules.specs.RuleEnds.{ends_item}
use Rattle.sheet_types.specs.BareItems.{bared}
use Rattle.sheet_types.specs.Statements.{BareDeclaration}
use Rattle.css_rules.specs.Printable.{IsPrintableDeclaration}
use Rattle.sheet_types.specs.SheetAgain.{semicolon, declaration_again, more_again, declarations_again}
use Rattle.css_rules.proofs.Heads.{word}
use Rattle.css_tokens.specs.declared.kind.Kind.TheVariants as kinds
use Rattle.css_rules.proofs.CutLemmas.{front-cut, whole-cut}
use Rattle.css_rules.proofs.Heads.{piece_of, braces-Single, semicolon-Single}
use Rattle.css_rules.proofs.ValueFacts.{ValueLaws}
use Rattle.css_rules.proofs.DeclarationAgain.{read_again, bare-again, goes-again, item-again}

-- what the token crate ensures of the texts of names
pub record NameLaws : Type 0 where
  pub again : (name : List ℕ) → is_name name ≡ true → name_of_word kinds.Ident (name_text name) ≡ name

semicolon-mark : is_semicolon semicolon ≡ true
semicolon-mark = semicolon-Single (piece_of (word kinds.Semicolon (codes ";")))

-- the declarations of a printed block are those that were printed
pub declarations-again : ValueLaws → NameLaws → (d : Declaration) (ds : List Declaration) → AllByRecursion IsPrintableDeclaration (d ∷ ds)
    → declarations_of (declarations_again (d ∷ ds)) ≡ Some (map read_again (d ∷ ds))
declarations-again laws names d [] printable =
    let same = names.again d.name printable.0.name in
    ap declarations_of (append-nil (declaration_again d))
    ∙ ap (read_all item_of) (whole-cut ends_item [] (declaration_again d) (goes-again laws d printable.0 same))
    ∙ ap (λ o. joined o (Some [])) (item-again laws d None printable.0 same refl)
declarations-again laws names d (e ∷ ds) printable =
    let same = names.again d.name printable.0.name in
    ap (read_all item_of)
    (front-cut ends_item [] (declaration_again d) semicolon (declaration_again e ++ more_again ds) (goes-again laws d printable.0 same)
    (ap (λ b. b || (is_braces semicolon && not (begins_custom (trimmed_start (declaration_again d))))) semicolon-mark))
    ∙ ap (λ o. joined o (declarations_of (declarations_again (e ∷ ds)))) (item-again laws d (Some semicolon) printable.0 same (braces-Single (piece_of (word kinds.Semicolon (codes ";")))))
    ∙ ap (option_map (λ more. read_again d ∷ more)) (declarations-again laws names e ds printable.1)

-- the declaration of what is left of it without its place
abbrev placed : BareDeclaration → Declaration
placed b = record { name = b.name; value = b.value; important = b.important; at = 0 }

-- which are the same, places aside
pub bareds-again : ValueLaws → (ds : List Declaration) → AllByRecursion IsPrintableDeclaration ds → map bared (map read_again ds) ≡ map bared ds
bareds-again laws [] p = refl
bareds-again laws (d ∷ ds) p = ap (λ b. placed b ∷ map bared (map read_again ds)) (bare-again laws d p.0) ∙ ap (λ (es : List Declaration). bared d ∷ es) (bareds-again laws ds p.1)
