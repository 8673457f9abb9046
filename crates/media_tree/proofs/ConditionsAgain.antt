-- A media condition that is spelled out is read as it.
use Rattle.std.proofs.Common.{◌≡◌, ℕ, List, [], ◌∷◌, ◌++◌, map, Bool, true, false, ◌&&◌, ◌||◌, refl, sym, ap, ◌∙◌, subst}
use Rattle.std.specs.Prelude.{Option, Some, None, codes, if◌then◌else◌}
use Rattle.std.specs.List.{list_all, list_any}
use Rattle.std.specs.Option.{option_map, option_or}
use Rattle.std.specs.Str.{chars}
use Rattle.std.proofs.lemmas.Bool.{and_parts, false≢true}
use Rattle.std.proofs.lemmas.List.{map-append}
use lib.Utf8.{encode}
use Rattle.css_tokens.specs.declared.kind.Kind.TheVariants as kinds
use Rattle.css_tokens.specs.declared.component.Component.{Component}
use Rattle.media_spelling.specs.declared.condition.Condition.{Condition}
use Rattle.media_spelling.specs.declared.condition.Condition as condition
use Rattle.media_tree.specs.declared.sign.Sign.{Sign}
use Rattle.media_tree.specs.declared.sign.Sign.TheVariants.{Gap, Comma, Not, Only, And, Or, Name, Within, Other}
use Rattle.media_spelling.specs.Components.{comma, keyword, parens, single, space}
use Rattle.media_spelling.specs.ConditionFold.{folded-And, folded-Or, folded-Not, folded-Feature, folded-Range}
use Rattle.media_spelling.specs.ConditionInduction.{Each, by_conditions}
use Rattle.media_tree.specs.Conditions.{and_row, condition_of, or_row, solid, within}
use Rattle.media_tree.specs.Features.{feature_of}
use Rattle.media_tree.specs.Queries.{conjunction_of, is_or, makes, sign_of}
use Rattle.media_tree.specs.ReadableQueries.{has_two, is_readable_condition, is_readable_feature, is_readable_range, readable}
use Rattle.media_spelling.specs.Spelling.{Spelled, alternative, compound, enclosed, feature_spelling, further, joined, negated, range_spelling, spelled_condition, spelling}
use Rattle.media_spelling.specs.declared.condition.Feature.{Feature}
use Rattle.media_spelling.specs.declared.condition.Range.{Range}
use Rattle.media_tree.proofs.SignEquations.{query-Single, query-Block}

-- Signs of components.

pub solid-append : {C : Type 0} (a b : List (Sign C)) → solid (a ++ b) ≡ solid a ++ solid b
solid-append [] b = refl
solid-append (Gap ∷ a) b = solid-append a b
solid-append (w ∷ a) b = ap (λ ws. w ∷ ws) (solid-append a b)

-- the signs of components, without white space and comments
abbrev pub signs_of : List Component → List (Sign Condition)
signs_of cs = solid (map sign_of cs)

pub signs-append : (a b : List Component) → signs_of (a ++ b) ≡ signs_of a ++ signs_of b
signs-append a b = ap (λ (ws : List (Sign Condition)). solid ws) (map-append sign_of a b) ∙ solid-append (map sign_of a) (map sign_of b)

pub signs-cons : (x : Component) (w : Sign Condition) (cs : List Component) → sign_of x ≡ w → signs_of (x ∷ cs) ≡ solid (w ∷ map sign_of cs)
signs-cons x w cs e = ap (λ (v : Sign Condition). solid (v ∷ map sign_of cs)) e

pub sign-space : sign_of space ≡ Gap
sign-space = query-Single (record { kind = kinds.White; text = codes " "; at = 0 })

pub sign-comma : sign_of comma ≡ Comma
sign-comma = query-Single (record { kind = kinds.Comma; text = codes ","; at = 0 })

pub sign-and : sign_of (keyword (codes "and")) ≡ And
unfolding chars encode
sign-and = query-Single (record { kind = kinds.Ident; text = codes "and"; at = 0 })

pub sign-or : sign_of (keyword (codes "or")) ≡ Or
unfolding chars encode
sign-or = query-Single (record { kind = kinds.Ident; text = codes "or"; at = 0 })

pub sign-not : sign_of (keyword (codes "not")) ≡ Not
unfolding chars encode
sign-not = query-Single (record { kind = kinds.Ident; text = codes "not"; at = 0 })

pub sign-only : sign_of (keyword (codes "only")) ≡ Only
unfolding chars encode
sign-only = query-Single (record { kind = kinds.Ident; text = codes "only"; at = 0 })

-- a condition in parentheses
paren-sign : (cs : List Component) (c : Condition) → condition_of makes (signs_of cs) ≡ Some c → sign_of (parens cs) ≡ Within c
paren-sign cs c e =
    query-Block (record { opening = record { kind = kinds.Open; text = codes "("; at = 0 }; items = cs; close = 0 })
    ∙ ap (λ (o : Option Condition). within (option_or o (feature_of cs))) e

-- a feature in parentheses
pub feature-sign : (cs : List Component) (c : Condition) → condition_of makes (signs_of cs) ≡ None → feature_of cs ≡ Some c → sign_of (parens cs) ≡ Within c
feature-sign cs c none e =
    query-Block (record { opening = record { kind = kinds.Open; text = codes "("; at = 0 }; items = cs; close = 0 })
    ∙ ap (λ (o : Option Condition). within (option_or o (feature_of cs))) none
    ∙ ap (λ (o : Option Condition). within o) e

-- What is read of a condition that is spelled.

-- is it a comma?
abbrev pub is_comma : Sign Condition → Bool
is_comma Comma = true
is_comma w = false

-- it is read as this condition wherever it stands, and there is no comma outside its parentheses
pub record Holds (s : Spelled) (c : Condition) : Type 0 where
  pub inner : Component
  pub inside : s.inside ≡ inner ∷ []
  pub sign : sign_of inner ≡ Within c
  pub alone : condition_of makes (signs_of s.alone) ≡ Some c
  pub alone_quiet : list_any is_comma (signs_of s.alone) ≡ false
  pub behind : conjunction_of (signs_of s.behind) ≡ Some c
  pub behind_quiet : list_any is_comma (signs_of s.behind) ≡ false

conjunction : (ws : List (Sign Condition)) (c : Condition) → list_any is_or ws ≡ false → condition_of makes ws ≡ Some c → conjunction_of ws ≡ Some c
conjunction ws c none e = ap (λ (b : Bool). if b then None else condition_of makes ws) none ∙ e

pub holds-enclosed : (x : Component) (c : Condition) → sign_of x ≡ Within c → Holds (enclosed x) c
holds-enclosed x c e = record {
  inner = x;
  inside = refl;
  sign = e;
  alone = ap (condition_of makes) (signs-cons x (Within c) [] e);
  alone_quiet = ap (list_any is_comma) (signs-cons x (Within c) [] e);
  behind = ap conjunction_of (signs-cons x (Within c) [] e);
  behind_quiet = ap (list_any is_comma) (signs-cons x (Within c) [] e);
}

holds-compound : (cs : List Component) (c : Condition) → condition_of makes (signs_of cs) ≡ Some c → list_any is_comma (signs_of cs) ≡ false → list_any is_or (signs_of cs) ≡ false → Holds (compound cs) c
holds-compound cs c e quiet none = record {
  inner = parens cs;
  inside = refl;
  sign = paren-sign cs c e;
  alone = e;
  alone_quiet = quiet;
  behind = conjunction (signs_of cs) c none e;
  behind_quiet = quiet;
}

holds-alternative : (cs : List Component) (c : Condition) → condition_of makes (signs_of cs) ≡ Some c → list_any is_comma (signs_of cs) ≡ false → Holds (alternative cs) c
holds-alternative cs c e quiet =
    (let sign = paren-sign cs c e in
    record {
      inner = parens cs;
      inside = refl;
      sign = sign;
      alone = e;
      alone_quiet = quiet;
      behind = ap conjunction_of (signs-cons (parens cs) (Within c) [] sign);
      behind_quiet = ap (list_any is_comma) (signs-cons (parens cs) (Within c) [] sign);
    })

-- Rows.

-- a condition and what stands behind it
inside-signs : (s : Spelled) (c : Condition) (rest : List Component) → Holds s c → signs_of (s.inside ++ rest) ≡ Within c ∷ signs_of rest
inside-signs s c rest h = ap (λ (cs : List Component). signs_of (cs ++ rest)) h.inside ∙ signs-cons h.inner (Within c) rest h.sign

-- the same behind a keyword
joint-signs : (joint : List ℕ) (w : Sign Condition) (s : Spelled) (c : Condition) (rest : List Component) → sign_of (keyword joint) ≡ w → solid (w ∷ []) ≡ w ∷ [] → Holds s c
    → signs_of (space ∷ keyword joint ∷ space ∷ (s.inside ++ rest)) ≡ solid (w ∷ []) ++ Within c ∷ signs_of rest
joint-signs joint w s c rest e one h =
    (let more = s.inside ++ rest in
    signs-cons space Gap (keyword joint ∷ space ∷ more) sign-space
    ∙ signs-append (keyword joint ∷ []) (space ∷ more)
    ∙ ap (λ (ws : List (Sign Condition)). ws ++ signs_of (space ∷ more)) (signs-cons (keyword joint) w [] e)
    ∙ ap (λ (ws : List (Sign Condition)). solid (w ∷ []) ++ ws) (signs-cons space Gap more sign-space ∙ inside-signs s c rest h))

abbrev Held : Condition → Type 0
Held c = Holds (spelled_condition c) c

-- what is spelled of further conditions
abbrev spelled_more : List ℕ → List Condition → List Component
spelled_more joint cs = further joint (map spelled_condition cs)

and-signs : (c : Condition) (cs : List Condition) → Held c → signs_of (spelled_more (codes "and") (c ∷ cs)) ≡ And ∷ Within c ∷ signs_of (spelled_more (codes "and") cs)
and-signs c cs h = joint-signs (codes "and") And (spelled_condition c) c (spelled_more (codes "and") cs) sign-and refl h

or-signs : (c : Condition) (cs : List Condition) → Held c → signs_of (spelled_more (codes "or") (c ∷ cs)) ≡ Or ∷ Within c ∷ signs_of (spelled_more (codes "or") cs)
or-signs c cs h = joint-signs (codes "or") Or (spelled_condition c) c (spelled_more (codes "or") cs) sign-or refl h

and-row : (cs : List Condition) → Each Held cs → and_row (signs_of (spelled_more (codes "and") cs)) ≡ Some cs
and-row [] h = refl
and-row (c ∷ cs) h = ap and_row (and-signs c cs h.0) ∙ ap (λ (o : Option (List Condition)). option_map (λ ds. c ∷ ds) o) (and-row cs h.1)

or-row : (cs : List Condition) → Each Held cs → or_row (signs_of (spelled_more (codes "or") cs)) ≡ Some cs
or-row [] h = refl
or-row (c ∷ cs) h = ap or_row (or-signs c cs h.0) ∙ ap (λ (o : Option (List Condition)). option_map (λ ds. c ∷ ds) o) (or-row cs h.1)

and-none : (test : Sign Condition → Bool) → test And ≡ false → ((c : Condition) → test (Within c) ≡ false) → (cs : List Condition) → Each Held cs → list_any test (signs_of (spelled_more (codes "and") cs)) ≡ false
and-none test keyword inner [] h = refl
and-none test keyword inner (c ∷ cs) h =
    ap (list_any test) (and-signs c cs h.0)
    ∙ ap (λ (b : Bool). b || (test (Within c) || list_any test (signs_of (spelled_more (codes "and") cs)))) keyword
    ∙ ap (λ (b : Bool). b || list_any test (signs_of (spelled_more (codes "and") cs))) (inner c)
    ∙ and-none test keyword inner cs h.1

or-none : (cs : List Condition) → Each Held cs → list_any is_comma (signs_of (spelled_more (codes "or") cs)) ≡ false
or-none [] h = refl
or-none (c ∷ cs) h = ap (list_any is_comma) (or-signs c cs h.0) ∙ or-none cs h.1

holds-and : (c d : Condition) (cs : List Condition) → Each Held (c ∷ d ∷ cs) → Holds (compound (joined (codes "and") (map spelled_condition (c ∷ d ∷ cs)))) (condition.And (c ∷ d ∷ cs))
holds-and c d cs h =
    (let row = joined (codes "and") (map spelled_condition (c ∷ d ∷ cs)) in
    let begun : signs_of row ≡ Within c ∷ signs_of (spelled_more (codes "and") (d ∷ cs)) = inside-signs (spelled_condition c) c (spelled_more (codes "and") (d ∷ cs)) h.0 in
    let signs : signs_of row ≡ Within c ∷ And ∷ Within d ∷ signs_of (spelled_more (codes "and") cs) = begun ∙ ap (λ (ws : List (Sign Condition)). Within c ∷ ws) (and-signs d cs h.1.0) in
    holds-compound row (condition.And (c ∷ d ∷ cs))
    (ap (condition_of makes) signs ∙ ap (λ (o : Option (List Condition)). option_map (λ es. condition.And (c ∷ es)) (option_map (λ es. d ∷ es) o)) (and-row cs h.1.1))
    (ap (list_any is_comma) begun ∙ and-none is_comma refl (λ e. refl) (d ∷ cs) h.1)
    (ap (list_any is_or) begun ∙ and-none is_or refl (λ e. refl) (d ∷ cs) h.1))

holds-or : (c d : Condition) (cs : List Condition) → Each Held (c ∷ d ∷ cs) → Holds (alternative (joined (codes "or") (map spelled_condition (c ∷ d ∷ cs)))) (condition.Or (c ∷ d ∷ cs))
holds-or c d cs h =
    (let row = joined (codes "or") (map spelled_condition (c ∷ d ∷ cs)) in
    let begun : signs_of row ≡ Within c ∷ signs_of (spelled_more (codes "or") (d ∷ cs)) = inside-signs (spelled_condition c) c (spelled_more (codes "or") (d ∷ cs)) h.0 in
    let signs : signs_of row ≡ Within c ∷ Or ∷ Within d ∷ signs_of (spelled_more (codes "or") cs) = begun ∙ ap (λ (ws : List (Sign Condition)). Within c ∷ ws) (or-signs d cs h.1.0) in
    holds-alternative row (condition.Or (c ∷ d ∷ cs))
    (ap (condition_of makes) signs ∙ ap (λ (o : Option (List Condition)). option_map (λ es. condition.Or (c ∷ es)) (option_map (λ es. d ∷ es) o)) (or-row cs h.1.1))
    (ap (list_any is_comma) begun ∙ or-none (d ∷ cs) h.1))

holds-not : (c : Condition) → Held c → Holds (compound (negated (spelled_condition c))) (condition.Not c)
holds-not c h =
    (let s = spelled_condition c in
    let behind : signs_of (space ∷ s.inside) ≡ Within c ∷ [] = signs-cons space Gap s.inside sign-space ∙ ap signs_of h.inside ∙ signs-cons h.inner (Within c) [] h.sign in
    let signs : signs_of (negated s) ≡ Not ∷ Within c ∷ [] =
    signs-append (keyword (codes "not") ∷ []) (space ∷ s.inside)
    ∙ ap (λ (ws : List (Sign Condition)). ws ++ signs_of (space ∷ s.inside)) (signs-cons (keyword (codes "not")) Not [] sign-not)
    ∙ ap (λ (ws : List (Sign Condition)). Not ∷ ws) behind in
    holds-compound (negated s) (condition.Not c) (ap (condition_of makes) signs) (ap (list_any is_comma) signs) (ap (list_any is_or) signs))

-- All conditions, from features and ranges.

abbrev Again : Condition → Type 0
Again c = is_readable_condition c ≡ true → Held c

all-held : (cs : List Condition) → Each Again cs → list_all (λ b. b) (map is_readable_condition cs) ≡ true → Each Held cs
all-held [] h r = tt
all-held (c ∷ cs) h r = (let p = and_parts (is_readable_condition c) (list_all (λ b. b) (map is_readable_condition cs)) r in (h.0 p.0, all-held cs h.1 p.1))

row-and : (cs : List Condition) → Each Again cs → (has_two (map is_readable_condition cs) && list_all (λ b. b) (map is_readable_condition cs)) ≡ true → Holds (compound (joined (codes "and") (map spelled_condition cs))) (condition.And cs)
row-and [] h r = absurd (false≢true r)
row-and (c ∷ []) h r = absurd (false≢true r)
row-and (c ∷ d ∷ cs) h r = holds-and c d cs (all-held (c ∷ d ∷ cs) h r)

row-or : (cs : List Condition) → Each Again cs → (has_two (map is_readable_condition cs) && list_all (λ b. b) (map is_readable_condition cs)) ≡ true → Holds (alternative (joined (codes "or") (map spelled_condition cs))) (condition.Or cs)
row-or [] h r = absurd (false≢true r)
row-or (c ∷ []) h r = absurd (false≢true r)
row-or (c ∷ d ∷ cs) h r = holds-or c d cs (all-held (c ∷ d ∷ cs) h r)

-- features and ranges are read as they are
pub record Leaves : Type 0 where
  pub feature : (f : Feature) → is_readable_feature f ≡ true → sign_of (feature_spelling f) ≡ Within (condition.Feature f)
  pub range : (r : Range) → is_readable_range r ≡ true → sign_of (range_spelling r) ≡ Within (condition.Range r)

-- A readable condition is read as it wherever it stands.
pub conditions-again : Leaves → (c : Condition) → is_readable_condition c ≡ true → Holds (spelled_condition c) c
conditions-again leaves c =
    by_conditions Again
    (record {
      and_of = λ cs h r. subst (λ (s : Spelled). Holds s (condition.And cs)) (sym (folded-And spelling cs)) (row-and cs h (sym (folded-And readable cs) ∙ r));
      or_of = λ cs h r. subst (λ (s : Spelled). Holds s (condition.Or cs)) (sym (folded-Or spelling cs)) (row-or cs h (sym (folded-Or readable cs) ∙ r));
      not_of = λ d h r. subst (λ (s : Spelled). Holds s (condition.Not d)) (sym (folded-Not spelling d)) (holds-not d (h (sym (folded-Not readable d) ∙ r)));
      feature = λ f r. subst (λ (s : Spelled). Holds s (condition.Feature f)) (sym (folded-Feature spelling f)) (holds-enclosed (feature_spelling f) (condition.Feature f) (leaves.feature f (sym (folded-Feature readable f) ∙ r)));
      range = λ f r. subst (λ (s : Spelled). Holds s (condition.Range f)) (sym (folded-Range spelling f)) (holds-enclosed (range_spelling f) (condition.Range f) (leaves.range f (sym (folded-Range readable f) ∙ r)));
    })
    c
