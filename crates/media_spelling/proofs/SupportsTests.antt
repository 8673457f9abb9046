-- What holds of each component that supports conditions are spelled with.
use Rattle.std.proofs.Common.{◌≡◌, ℕ, List, [], ◌∷◌, ◌++◌, map, Bool, true, false, ◌&&◌, refl, sym, ap, ap₂, ◌∙◌, subst}
use Rattle.std.specs.Prelude.{codes, IsTrue, if◌then◌else◌}
use Rattle.std.specs.List.{list_all}
use Rattle.std.proofs.lemmas.List.Folds.{list_all-append}
use Rattle.css_tokens.specs.declared.kind.Kind.TheVariants as kinds
use Rattle.css_tokens.specs.declared.component.Component.{Component}
use Rattle.css_tokens.specs.declared.component.Component.TheVariants.{outs-Block}
use Rattle.css_tokens.specs.NameText.{name_text}
use Rattle.css_tokens.specs.Trees.{all_formed, is_formed, is_formed-Block}
use Rattle.css_tokens.specs.ValueAgain.{value_again}
use Rattle.css_tokens.specs.Values.{value_text}
use Rattle.media_spelling.specs.declared.supports.Supports.{Supports}
use Rattle.media_spelling.specs.declared.supports.Supports as supports
use Rattle.media_spelling.specs.Components.{block, colon, ident, keyword, parens, single, space}
use Rattle.media_spelling.specs.SupportsFold.{folded-And, folded-Or, folded-Not, folded-Declared, folded-Function}
use Rattle.media_spelling.specs.SupportsInduction.{Each, by_supports}
use Rattle.media_spelling.specs.Preludes.{layer_stands, stands}
use Rattle.media_spelling.specs.Spelling.{Spelled, compound, declaration_spelling, enclosed, further, joined, negated, spelled_supports, supports_spelling, supports_steps, value_spelling}
use Rattle.media_spelling.proofs.SpellingTests.{both, formed-parens, formed-single, stands-parens, stands-single}

-- a test that holds of each component that conditions are made of
record Passes (test : Component → Bool) : Type 0 where
  keyword : (t : List ℕ) → test (keyword t) ≡ true
  space : test space ≡ true
  parens : (cs : List Component) → list_all test cs ≡ true → test (parens cs) ≡ true
  declared : (name : List ℕ) (value : List Component) → test (declaration_spelling name value) ≡ true
  function : test (block kinds.Function (codes "f(") []) ≡ true

module _ (test : Component → Bool) (passes : Passes test) where
  append-all : (a b : List Component) → list_all test a ≡ true → list_all test b ≡ true → list_all test (a ++ b) ≡ true
  append-all a b h k = list_all-append test a b ∙ both h k

  -- each component passes, wherever the condition stands
  record Holds (s : Spelled) : Type 0 where
    alone : list_all test s.alone ≡ true
    inside : list_all test s.inside ≡ true

  holds-enclosed : (x : Component) → test x ≡ true → Holds (enclosed x)
  holds-enclosed x h = record { alone = both h refl; inside = both h refl }

  holds-compound : (cs : List Component) → list_all test cs ≡ true → Holds (compound cs)
  holds-compound cs h = record { alone = h; inside = both (passes.parens cs h) refl }

  abbrev Held : Supports → Type 0
  Held c = Holds (spelled_supports c)

  further-all : (joint : List ℕ) (cs : List Supports) → Each Held cs → list_all test (further joint (map spelled_supports cs)) ≡ true
  further-all joint [] h = refl
  further-all joint (c ∷ cs) h = both passes.space (both (passes.keyword joint) (both passes.space (append-all (spelled_supports c).inside (further joint (map spelled_supports cs)) h.0.inside (further-all joint cs h.1))))

  joined-all : (joint : List ℕ) (cs : List Supports) → Each Held cs → list_all test (joined joint (map spelled_supports cs)) ≡ true
  joined-all joint [] h = refl
  joined-all joint (c ∷ cs) h = append-all (spelled_supports c).inside (further joint (map spelled_supports cs)) h.0.inside (further-all joint cs h.1)

  conditions-pass : (c : Supports) → Held c
  conditions-pass c =
      by_supports Held
      (record {
        and_of = λ cs h. subst Holds (sym (folded-And supports_steps cs)) (holds-compound (joined (codes "and") (map spelled_supports cs)) (joined-all (codes "and") cs h));
        or_of = λ cs h. subst Holds (sym (folded-Or supports_steps cs)) (holds-compound (joined (codes "or") (map spelled_supports cs)) (joined-all (codes "or") cs h));
        not_of = λ d h. subst Holds (sym (folded-Not supports_steps d)) (holds-compound (negated (spelled_supports d)) (both (passes.keyword (codes "not")) (both passes.space h.inside)));
        declared = λ name value. subst Holds (sym (folded-Declared supports_steps name value)) (holds-enclosed (declaration_spelling name value) (passes.declared name value));
        function = λ at. subst Holds (sym (folded-Function supports_steps at)) (holds-enclosed (block kinds.Function (codes "f(") []) passes.function);
      })
      c

  supports-pass : (c : Supports) → list_all test (supports_spelling c) ≡ true
  supports-pass c = (conditions-pass c).alone

-- Before a block.
pub supports-stand : (c : Supports) → list_all stands (supports_spelling c) ≡ true
supports-stand c =
    supports-pass stands
    (record {
      keyword = λ t. stands-single kinds.Ident t;
      space = stands-single kinds.White (codes " ");
      parens = λ cs h. stands-parens cs;
      declared = λ name value. stands-parens (ident name ∷ colon ∷ value_spelling value);
      function = ap layer_stands (outs-Block (record { opening = record { kind = kinds.Function; text = codes "f("; at = 0 }; items = []; close = 0 }));
    })
    c

-- Well formed.

-- the components of a value as it prints are well formed where its own are
abbrev pub PrintsFormed : Type 0
PrintsFormed = (v : List Component) → IsTrue (all_formed v) → IsTrue (all_formed (value_again v))

value-at : PrintsFormed → (value : List Component) (formed : Bool) → all_formed value ≡ formed → all_formed (if formed then value_again value else single kinds.Ident (value_text value) ∷ []) ≡ true
value-at again value true e = again value e
value-at again value false e = both (formed-single kinds.Ident (value_text value)) refl

pub supports-formed : PrintsFormed → (c : Supports) → all_formed (supports_spelling c) ≡ true
supports-formed again c =
    supports-pass is_formed
    (record {
      keyword = λ t. formed-single kinds.Ident t;
      space = formed-single kinds.White (codes " ");
      parens = λ cs h. formed-parens cs h;
      declared = λ name value. formed-parens (ident name ∷ colon ∷ value_spelling value) (both (formed-single kinds.Ident (name_text name)) (both (formed-single kinds.Colon (codes ":")) (value-at again value (all_formed value) refl)));
      function = is_formed-Block (record { opening = record { kind = kinds.Function; text = codes "f("; at = 0 }; items = []; close = 0 });
    })
    c
