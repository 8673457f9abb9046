-- The text of a supports condition begins with no white space.
use Rattle.std.proofs.Common.{◌≡◌, ℕ, List, [], ◌∷◌, ◌++◌, map, true, ◌&&◌, refl, sym, ap, ◌∙◌, subst}
use Rattle.std.specs.Prelude.{codes}
use Rattle.std.specs.List.{list_all}
use Rattle.std.proofs.lemmas.Bool.{false≢true}
use Rattle.css_tokens.specs.declared.kind.Kind.TheVariants as kinds
use Rattle.css_tokens.specs.declared.component.Component.{Component}
use Rattle.css_tokens.specs.Again.{begins_none}
use Rattle.css_tokens.specs.Characters.{white}
use Rattle.css_tokens.specs.Piece.{Piece, spelled, word_of}
use Rattle.css_tokens.specs.Trees.{pieces_all, pieces_of-Block}
use Rattle.media_spelling.specs.declared.supports.Supports.{Supports}
use Rattle.media_spelling.specs.Components.{block, space}
use Rattle.media_spelling.specs.SupportsFold.{folded-And, folded-Or, folded-Not, folded-Declared, folded-Function}
use Rattle.media_spelling.specs.SupportsInduction.{by_supports}
use Rattle.media_spelling.specs.Spelling.{Spelled, further, joined, spelled_supports, supports_steps, supports_text}
use Rattle.media_tree.specs.ReadableQueries.{has_two}
use Rattle.media_tree.specs.SupportsAgain.{is_readable_supports, readable}
use Rattle.media_tree.proofs.QueriesBegin.{IsDark, parens-dark, single-dark}

function-dark : (cs : List Component) → IsDark (block kinds.Function (codes "f(") [] ∷ cs)
function-dark cs rest =
    ap (λ (ps : List Piece). begins_none white (spelled (map word_of (ps ++ pieces_all cs)) ++ rest)) (pieces_of-Block (record { opening = record { kind = kinds.Function; text = codes "f("; at = 0 }; items = []; close = 0 }))

-- it begins so within another condition
abbrev InsideDark : Spelled → Type 0
InsideDark s = (cs : List Component) → IsDark (s.inside ++ cs)

inside-dark : (c : Supports) → InsideDark (spelled_supports c)
inside-dark c =
    by_supports (λ x. InsideDark (spelled_supports x))
    (record {
      and_of = λ ds h. subst InsideDark (sym (folded-And supports_steps ds)) (parens-dark (joined (codes "and") (map spelled_supports ds)));
      or_of = λ ds h. subst InsideDark (sym (folded-Or supports_steps ds)) (parens-dark (joined (codes "or") (map spelled_supports ds)));
      not_of = λ d h. subst InsideDark (sym (folded-Not supports_steps d)) (λ cs. parens-dark _ cs);
      declared = λ name value. subst InsideDark (sym (folded-Declared supports_steps name value)) (λ cs. parens-dark _ cs);
      function = λ at. subst InsideDark (sym (folded-Function supports_steps at)) function-dark;
    })
    c

abbrev AloneDark : Spelled → Type 0
AloneDark s = IsDark s.alone

row-dark : (joint : List ℕ) (ds : List Supports) → (has_two (map is_readable_supports ds) && list_all (λ b. b) (map is_readable_supports ds)) ≡ true → IsDark (joined joint (map spelled_supports ds))
row-dark joint [] h = absurd (false≢true h)
row-dark joint (d ∷ ds) h = inside-dark d (further joint (map spelled_supports ds))

pub supports-begin : (c : Supports) (rest : List ℕ) → is_readable_supports c ≡ true → begins_none white (supports_text c ++ rest) ≡ true
supports-begin c rest r =
    by_supports (λ x. is_readable_supports x ≡ true → AloneDark (spelled_supports x))
    (record {
      and_of = λ ds h e. subst AloneDark (sym (folded-And supports_steps ds)) (row-dark (codes "and") ds (sym (folded-And readable ds) ∙ e));
      or_of = λ ds h e. subst AloneDark (sym (folded-Or supports_steps ds)) (row-dark (codes "or") ds (sym (folded-Or readable ds) ∙ e));
      not_of = λ d h e. subst AloneDark (sym (folded-Not supports_steps d)) (single-dark (codes "not") (space ∷ (spelled_supports d).inside) (λ t. refl));
      declared = λ name value e. subst AloneDark (sym (folded-Declared supports_steps name value)) (parens-dark _ []);
      function = λ at e. subst AloneDark (sym (folded-Function supports_steps at)) (function-dark []);
    })
    c r rest
