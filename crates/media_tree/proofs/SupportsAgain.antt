-- A supports condition that is spelled out is read as it, its values as they print.
use Rattle.std.proofs.Common.{◌≡◌, ℕ, List, [], ◌∷◌, ◌++◌, map, Bool, true, false, ◌&&◌, ◌||◌, not, refl, sym, ap, ◌∙◌, subst}
use Rattle.std.specs.Prelude.{Option, Some, None, codes, IsTrue, if◌then◌else◌}
use Rattle.std.specs.List.{list_all, list_any}
use Rattle.std.specs.Option.{option_map, option_or}
use Rattle.std.specs.Str.{chars}
use Rattle.std.proofs.lemmas.Bool.{and_parts, false≢true}
use Rattle.std.proofs.lemmas.List.{map-append}
use lib.Utf8.{encode}
use Rattle.css_tokens.specs.declared.kind.Kind.{Kind}
use Rattle.css_tokens.specs.declared.kind.Kind.TheVariants as kinds
use Rattle.css_tokens.specs.declared.component.Component.{Component, out-Component}
use Rattle.css_tokens.specs.declared.component.Component.TheVariants.{outs-Single, outs-Block}
use Rattle.css_tokens.specs.declared.component.Block as block
use Rattle.css_tokens.specs.Names.{is_name, name_of_word}
use Rattle.css_tokens.specs.NameText.{name_text}
use Rattle.css_tokens.specs.Trees.{all_formed, is_text}
use Rattle.css_tokens.specs.ValueAgain.{head_kind, head_kind-Single, head_kind-Block, is_solid as is_solid_value, value_again}
use Rattle.css_tokens.specs.Values.{is_gap as is_gap_kind, value_text}
use Rattle.media_spelling.specs.declared.supports.Supports.{Supports}
use Rattle.media_spelling.specs.declared.supports.Supports as supports
use Rattle.media_tree.specs.declared.mark.Mark.{Mark}
use Rattle.media_tree.specs.declared.mark.Mark.TheVariants as marks
use Rattle.media_tree.specs.declared.sign.Sign.{Sign}
use Rattle.media_tree.specs.declared.sign.Sign.TheVariants.{Gap, Comma, Not, Only, And, Or, Name, Within, Other}
use Rattle.media_spelling.specs.Components.{colon, ident, keyword, parens, single, space}
use Rattle.media_tree.specs.ComponentInduction.{by_components}
use Rattle.media_spelling.specs.SupportsFold.{folded-And, folded-Or, folded-Not, folded-Declared, folded-Function}
use Rattle.media_spelling.specs.SupportsInduction.{Each, by_supports}
use Rattle.media_tree.specs.Conditions.{and_row, condition_of, name_sign, or_row, solid, within}
use Rattle.media_tree.specs.Marks.{is_gap, is_gap_mark, layer_mark, lowered, mark_of, token_mark, trimmed, trimmed_end, trimmed_start}
use Rattle.media_tree.specs.ReadableQueries.{has_two}
use Rattle.media_spelling.specs.Spelling.{Spelled, compound, declaration_spelling, enclosed, further, joined, negated, spelled_supports, supports_spelling, supports_steps, value_spelling}
use Rattle.media_spelling.specs.SupportsAgain.{again_steps, supports_again}
use Rattle.media_tree.specs.SupportsAgain.{is_readable_declaration, is_readable_supports, readable}
use Rattle.media_tree.specs.SupportsReading.{declaration_of, declared, declared_by, declared_from, is_colon_mark, is_custom, layer_name, makes, may_be_value, name_of, property_name, sign_of, supports_reading}
use Rattle.media_tree.proofs.ConditionsAgain.{solid-append}
use Rattle.media_tree.proofs.SignEquations.{supports-Single, supports-Block}
use Rattle.media_tree.proofs.TextLemmas.{same-text}
use Rattle.media_tree.proofs.TrimLemmas.{trimmed_end-other, trimmed_start-other}

-- Signs of components.

-- the signs of components, without white space and comments
abbrev pub signs_of : List Component → List (Sign Supports)
signs_of cs = solid (map sign_of cs)

pub signs-append : (a b : List Component) → signs_of (a ++ b) ≡ signs_of a ++ signs_of b
signs-append a b = ap (λ (ws : List (Sign Supports)). solid ws) (map-append sign_of a b) ∙ solid-append (map sign_of a) (map sign_of b)

pub signs-cons : (x : Component) (w : Sign Supports) (cs : List Component) → sign_of x ≡ w → signs_of (x ∷ cs) ≡ solid (w ∷ map sign_of cs)
signs-cons x w cs e = ap (λ (v : Sign Supports). solid (v ∷ map sign_of cs)) e

pub sign-space : sign_of space ≡ Gap
sign-space = supports-Single (record { kind = kinds.White; text = codes " "; at = 0 })

pub sign-and : sign_of (keyword (codes "and")) ≡ And
unfolding chars encode
sign-and = supports-Single (record { kind = kinds.Ident; text = codes "and"; at = 0 })

pub sign-or : sign_of (keyword (codes "or")) ≡ Or
unfolding chars encode
sign-or = supports-Single (record { kind = kinds.Ident; text = codes "or"; at = 0 })

pub sign-not : sign_of (keyword (codes "not")) ≡ Not
unfolding chars encode
sign-not = supports-Single (record { kind = kinds.Ident; text = codes "not"; at = 0 })

-- a condition in parentheses
paren-sign : (cs : List Component) (c : Supports) → condition_of makes (signs_of cs) ≡ Some c → sign_of (parens cs) ≡ Within c
paren-sign cs c e =
    supports-Block (record { opening = record { kind = kinds.Open; text = codes "("; at = 0 }; items = cs; close = 0 })
    ∙ ap (λ (o : Option Supports). within (option_or o (declaration_of cs))) e

-- a declaration in parentheses
pub declaration-sign : (cs : List Component) (c : Supports) → condition_of makes (signs_of cs) ≡ None → declaration_of cs ≡ Some c → sign_of (parens cs) ≡ Within c
declaration-sign cs c none e =
    supports-Block (record { opening = record { kind = kinds.Open; text = codes "("; at = 0 }; items = cs; close = 0 })
    ∙ ap (λ (o : Option Supports). within (option_or o (declaration_of cs))) none
    ∙ ap (λ (o : Option Supports). within o) e

-- What is read of a condition that is spelled.

-- it is read as this condition wherever it stands
record Holds (s : Spelled) (c : Supports) : Type 0 where
  inner : Component
  inside : s.inside ≡ inner ∷ []
  sign : sign_of inner ≡ Within c
  alone : condition_of makes (signs_of s.alone) ≡ Some c

holds-enclosed : (x : Component) (c : Supports) → sign_of x ≡ Within c → Holds (enclosed x) c
holds-enclosed x c e = record { inner = x; inside = refl; sign = e; alone = ap (condition_of makes) (signs-cons x (Within c) [] e) }

holds-compound : (cs : List Component) (c : Supports) → condition_of makes (signs_of cs) ≡ Some c → Holds (compound cs) c
holds-compound cs c e = record { inner = parens cs; inside = refl; sign = paren-sign cs c e; alone = e }

-- Rows.

-- a condition and what stands behind it
inside-signs : (s : Spelled) (c : Supports) (rest : List Component) → Holds s c → signs_of (s.inside ++ rest) ≡ Within c ∷ signs_of rest
inside-signs s c rest h = ap (λ (cs : List Component). signs_of (cs ++ rest)) h.inside ∙ signs-cons h.inner (Within c) rest h.sign

-- the same behind a keyword
joint-signs : (joint : List ℕ) (w : Sign Supports) (s : Spelled) (c : Supports) (rest : List Component) → sign_of (keyword joint) ≡ w → solid (w ∷ []) ≡ w ∷ [] → Holds s c
    → signs_of (space ∷ keyword joint ∷ space ∷ (s.inside ++ rest)) ≡ solid (w ∷ []) ++ Within c ∷ signs_of rest
joint-signs joint w s c rest e one h =
    (let more = s.inside ++ rest in
    signs-cons space Gap (keyword joint ∷ space ∷ more) sign-space
    ∙ signs-append (keyword joint ∷ []) (space ∷ more)
    ∙ ap (λ (ws : List (Sign Supports)). ws ++ signs_of (space ∷ more)) (signs-cons (keyword joint) w [] e)
    ∙ ap (λ (ws : List (Sign Supports)). solid (w ∷ []) ++ ws) (signs-cons space Gap more sign-space ∙ inside-signs s c rest h))

abbrev Held : Supports → Type 0
Held c = Holds (spelled_supports c) (supports_again c)

-- what is spelled of further conditions
abbrev spelled_more : List ℕ → List Supports → List Component
spelled_more joint cs = further joint (map spelled_supports cs)

-- the conditions as they are read again
abbrev all_again : List Supports → List Supports
all_again cs = map supports_again cs

and-signs : (c : Supports) (cs : List Supports) → Held c → signs_of (spelled_more (codes "and") (c ∷ cs)) ≡ And ∷ Within (supports_again c) ∷ signs_of (spelled_more (codes "and") cs)
and-signs c cs h = joint-signs (codes "and") And (spelled_supports c) (supports_again c) (spelled_more (codes "and") cs) sign-and refl h

or-signs : (c : Supports) (cs : List Supports) → Held c → signs_of (spelled_more (codes "or") (c ∷ cs)) ≡ Or ∷ Within (supports_again c) ∷ signs_of (spelled_more (codes "or") cs)
or-signs c cs h = joint-signs (codes "or") Or (spelled_supports c) (supports_again c) (spelled_more (codes "or") cs) sign-or refl h

and-row : (cs : List Supports) → Each Held cs → and_row (signs_of (spelled_more (codes "and") cs)) ≡ Some (all_again cs)
and-row [] h = refl
and-row (c ∷ cs) h = ap and_row (and-signs c cs h.0) ∙ ap (λ (o : Option (List Supports)). option_map (λ ds. supports_again c ∷ ds) o) (and-row cs h.1)

or-row : (cs : List Supports) → Each Held cs → or_row (signs_of (spelled_more (codes "or") cs)) ≡ Some (all_again cs)
or-row [] h = refl
or-row (c ∷ cs) h = ap or_row (or-signs c cs h.0) ∙ ap (λ (o : Option (List Supports)). option_map (λ ds. supports_again c ∷ ds) o) (or-row cs h.1)

holds-and : (c d : Supports) (cs : List Supports) → Each Held (c ∷ d ∷ cs) → Holds (compound (joined (codes "and") (map spelled_supports (c ∷ d ∷ cs)))) (supports.And (all_again (c ∷ d ∷ cs)))
holds-and c d cs h =
    (let row = joined (codes "and") (map spelled_supports (c ∷ d ∷ cs)) in
    let signs : signs_of row ≡ Within (supports_again c) ∷ And ∷ Within (supports_again d) ∷ signs_of (spelled_more (codes "and") cs) =
    inside-signs (spelled_supports c) (supports_again c) (spelled_more (codes "and") (d ∷ cs)) h.0 ∙ ap (λ (ws : List (Sign Supports)). Within (supports_again c) ∷ ws) (and-signs d cs h.1.0) in
    holds-compound row (supports.And (all_again (c ∷ d ∷ cs)))
    (ap (condition_of makes) signs ∙ ap (λ (o : Option (List Supports)). option_map (λ es. supports.And (supports_again c ∷ es)) (option_map (λ es. supports_again d ∷ es) o)) (and-row cs h.1.1)))

holds-or : (c d : Supports) (cs : List Supports) → Each Held (c ∷ d ∷ cs) → Holds (compound (joined (codes "or") (map spelled_supports (c ∷ d ∷ cs)))) (supports.Or (all_again (c ∷ d ∷ cs)))
holds-or c d cs h =
    (let row = joined (codes "or") (map spelled_supports (c ∷ d ∷ cs)) in
    let signs : signs_of row ≡ Within (supports_again c) ∷ Or ∷ Within (supports_again d) ∷ signs_of (spelled_more (codes "or") cs) =
    inside-signs (spelled_supports c) (supports_again c) (spelled_more (codes "or") (d ∷ cs)) h.0 ∙ ap (λ (ws : List (Sign Supports)). Within (supports_again c) ∷ ws) (or-signs d cs h.1.0) in
    holds-compound row (supports.Or (all_again (c ∷ d ∷ cs)))
    (ap (condition_of makes) signs ∙ ap (λ (o : Option (List Supports)). option_map (λ es. supports.Or (supports_again c ∷ es)) (option_map (λ es. supports_again d ∷ es) o)) (or-row cs h.1.1)))

holds-not : (s : Spelled) (c : Supports) → Holds s c → Holds (compound (negated s)) (supports.Not c)
holds-not s c h =
    (let behind : signs_of (space ∷ s.inside) ≡ Within c ∷ [] = signs-cons space Gap s.inside sign-space ∙ ap signs_of h.inside ∙ signs-cons h.inner (Within c) [] h.sign in
    let signs : signs_of (negated s) ≡ Not ∷ Within c ∷ [] =
    signs-append (keyword (codes "not") ∷ []) (space ∷ s.inside)
    ∙ ap (λ (ws : List (Sign Supports)). ws ++ signs_of (space ∷ s.inside)) (signs-cons (keyword (codes "not")) Not [] sign-not)
    ∙ ap (λ (ws : List (Sign Supports)). Not ∷ ws) behind in
    holds-compound (negated s) (supports.Not c) (ap (condition_of makes) signs))

-- All conditions, from declarations.

abbrev Again : Supports → Type 0
Again c = is_readable_supports c ≡ true → Held c

all-held : (cs : List Supports) → Each Again cs → list_all (λ b. b) (map is_readable_supports cs) ≡ true → Each Held cs
all-held [] h r = tt
all-held (c ∷ cs) h r = (let p = and_parts (is_readable_supports c) (list_all (λ b. b) (map is_readable_supports cs)) r in (h.0 p.0, all-held cs h.1 p.1))

row-and : (cs : List Supports) → Each Again cs → (has_two (map is_readable_supports cs) && list_all (λ b. b) (map is_readable_supports cs)) ≡ true → Holds (compound (joined (codes "and") (map spelled_supports cs))) (supports.And (all_again cs))
row-and [] h r = absurd (false≢true r)
row-and (c ∷ []) h r = absurd (false≢true r)
row-and (c ∷ d ∷ cs) h r = holds-and c d cs (all-held (c ∷ d ∷ cs) h r)

row-or : (cs : List Supports) → Each Again cs → (has_two (map is_readable_supports cs) && list_all (λ b. b) (map is_readable_supports cs)) ≡ true → Holds (compound (joined (codes "or") (map spelled_supports cs))) (supports.Or (all_again cs))
row-or [] h r = absurd (false≢true r)
row-or (c ∷ []) h r = absurd (false≢true r)
row-or (c ∷ d ∷ cs) h r = holds-or c d cs (all-held (c ∷ d ∷ cs) h r)

-- a condition that is spelled and read again as these
held-at : (s t : Spelled) (c d : Supports) → s ≡ t → c ≡ d → Holds t d → Holds s c
held-at s t c d e f h = subst (λ (u : Spelled). Holds u c) (sym e) (subst (λ (x : Supports). Holds t x) (sym f) h)

-- declarations are read as they print
abbrev pub Leaf : Type 0
Leaf = (name : List ℕ) (value : List Component) → is_readable_declaration name value ≡ true → sign_of (declaration_spelling name value) ≡ Within (supports.Declared name (value_again value))

each-held : Leaf → (c : Supports) → is_readable_supports c ≡ true → Held c
each-held leaf c =
    by_supports Again
    (record {
      and_of = λ cs h r. held-at _ _ _ _ (folded-And supports_steps cs) (folded-And again_steps cs) (row-and cs h (sym (folded-And readable cs) ∙ r));
      or_of = λ cs h r. held-at _ _ _ _ (folded-Or supports_steps cs) (folded-Or again_steps cs) (row-or cs h (sym (folded-Or readable cs) ∙ r));
      not_of = λ d h r. held-at _ _ _ _ (folded-Not supports_steps d) (folded-Not again_steps d) (holds-not (spelled_supports d) (supports_again d) (h (sym (folded-Not readable d) ∙ r)));
      declared = λ name value r. held-at _ _ _ _ (folded-Declared supports_steps name value) (folded-Declared again_steps name value) (holds-enclosed (declaration_spelling name value) (supports.Declared name (value_again value)) (leaf name value (sym (folded-Declared readable name value) ∙ r)));
      function = λ at r. absurd (false≢true (sym (folded-Function readable at) ∙ r));
    })
    c

-- A readable condition is read as it, its values as they print.
pub supports-again : Leaf → (c : Supports) → is_readable_supports c ≡ true → supports_reading (supports_spelling c) ≡ Some (supports_again c)
supports-again leaf c r = (each-held leaf c r).alone
