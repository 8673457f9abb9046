-- Reading an import looks at no place.
use Rattle.std.proofs.Common.{◌≡◌, ℕ, List, [], ◌∷◌, map, Bool, true, false, ◌||◌, refl, sym, ◌∙◌, ap, ap₂, IsTrue}
use Rattle.std.specs.Prelude.{Option, Some, None, codes, if◌then◌else◌}
use Rattle.std.specs.Option.{option_map}
use Rattle.css_tokens.specs.declared.component.Component.{Component}
use Rattle.css_tokens.specs.Piece.{Piece}
use Rattle.css_tokens.specs.Trees.{all_formed, words_all}
use Rattle.css_components.specs.Components.{head, inside, is_ident, is_keyword, is_string, name_of}
use Rattle.css_components.specs.Trimming.{trimmed, trimmed_start}
use Rattle.media_spelling.specs.Places.{bare, bare_supports}
use Rattle.media_spelling.specs.SupportsAgain.{supports_again}
use Rattle.media_spelling.specs.declared.condition.Query.{Query}
use Rattle.media_spelling.specs.declared.supports.Supports.{Supports}
use Rattle.media_tree.specs.Queries.{queries_reading}
use Rattle.media_tree.specs.SupportsReading.{supports_inside}
use Rattle.media_tree.proofs.QueryPlaces.{reading-bare as queries-bare}
use Rattle.media_tree.proofs.SupportsPlaces.{inside-bare as supports-bare}
use Rattle.media_tree.proofs.TreePlaces.{OnePairing, same-bare}
use Rattle.sheet_types.proofs.PlacesConditions.{printed-same}
use Rattle.import_rules.specs.declared.import.ImportRule.{ImportRule}
use Rattle.import_rules.specs.declared.import.ImportRule.TheVariants.{Waiting}
use Rattle.import_rules.specs.BareRules.{bare_rule}
use Rattle.import_rules.specs.Imports.{begins_layer, behind_target, conditioned, import_reading, imported, is_function, is_url, lone_string, target_of}
use Rattle.import_rules.proofs.TestPlaces.{function-bare, head-bare, ident-bare, inside-bare, start-bare, string-bare, trimmed-bare, url-bare}

-- Targets and layers.

abbrev string_at : Bool → Piece → Option (List ℕ)
string_at is p = if is then Some (name_of p) else None

lone-bare : (cs : List Component) → lone_string (map bare cs) ≡ lone_string cs
lone-bare [] = refl
lone-bare (c ∷ []) = ap₂ string_at (string-bare c) (head-bare c)
lone-bare (c ∷ d ∷ cs) = refl

-- the target, from whether it is a token and whether a function, from its first token, and from the string in it
abbrev target_at : Bool → Bool → Piece → Option (List ℕ) → Option (List ℕ)
target_at token function p lone = if token then Some (name_of p) else (if function then lone else None)

lone-inside : (c : Component) → lone_string (trimmed (inside (bare c))) ≡ lone_string (trimmed (inside c))
lone-inside c = ap (λ (cs : List Component). lone_string (trimmed cs)) (inside-bare c) ∙ ap lone_string (trimmed-bare (inside c)) ∙ lone-bare (trimmed (inside c))

target-bare : (c : Component) → target_of (bare c) ≡ target_of c
target-bare c =
    let lone = lone_string (trimmed (inside (bare c))) in
    let token = is_string c || is_url c in
    let function = is_function (codes "url") c in
    ap₂ (λ (a b : Bool). target_at a b (head (bare c)) lone) (ap₂ ◌||◌ (string-bare c) (url-bare c)) (function-bare (codes "url") c)
    ∙ ap₂ (λ (p : Piece) (o : Option (List ℕ)). target_at token function p o) (head-bare c) (lone-inside c)

abbrev layer_at : Bool → Piece → Bool → Bool
layer_at is p function = if is then is_keyword (codes "layer") (name_of p) else function

layer-bare : (cs : List Component) → begins_layer (map bare cs) ≡ begins_layer cs
layer-bare [] = refl
layer-bare (c ∷ cs) =
    ap₂ (λ (b : Bool) (p : Piece). layer_at b p (is_function (codes "layer") (bare c))) (ident-bare c) (head-bare c)
    ∙ ap (layer_at (is_ident c) (head c)) (function-bare (codes "layer") c)

-- Conditions.

-- a condition as it prints, places aside
abbrev printed : Supports → Supports
printed s = bare_supports (supports_again s)

printed-off : (o : Option Supports) → option_map printed (option_map bare_supports o) ≡ option_map printed o
printed-off None = refl
printed-off (Some s) = ap (λ (t : Supports). Some t) (printed-same s)

printed-alike : (o p : Option Supports) → option_map bare_supports o ≡ option_map bare_supports p → option_map printed o ≡ option_map printed p
printed-alike o p e = sym (printed-off o) ∙ ap (option_map printed) e ∙ printed-off p

-- the import without places
abbrev bare_at : List ℕ → Option (Option Supports) → Option (List Query) → ImportRule
bare_at target supports media = imported 0 target (option_map (option_map printed) supports) media

imported-bare : (n : ℕ) (t : List ℕ) (o : Option (Option Supports)) (q : Option (List Query)) → bare_rule (imported n t o q) ≡ bare_at t o q
imported-bare n t None q = refl
imported-bare n t (Some s) None = refl
imported-bare n t (Some s) (Some q) = refl

some-printed : (o : Option Supports) → option_map (option_map printed) (option_map Some o) ≡ option_map Some (option_map printed o)
some-printed None = refl
some-printed (Some s) = refl

supports-same : (c : Component) → option_map printed (supports_inside (inside (bare c))) ≡ option_map printed (supports_inside (inside c))
supports-same c =
    ap (λ (cs : List Component). option_map printed (supports_inside cs)) (inside-bare c)
    ∙ printed-alike (supports_inside (map bare (inside c))) (supports_inside (inside c)) (supports-bare (inside c))

-- the import with this condition, and this media query list
under-bare : (m n : ℕ) (t : List ℕ) (c : Component) (cs : List Component)
    → bare_rule (imported m t (option_map Some (supports_inside (inside (bare c)))) (queries_reading (map bare cs))) ≡ bare_rule (imported n t (option_map Some (supports_inside (inside c))) (queries_reading cs))
under-bare m n t c cs =
    let o = supports_inside (inside (bare c)) in
    let p = supports_inside (inside c) in
    imported-bare m t (option_map Some o) (queries_reading (map bare cs))
    ∙ ap₂ (λ (s : Option (Option Supports)) (q : Option (List Query)). imported 0 t s q)
    (some-printed o ∙ ap (option_map Some) (supports-same c) ∙ sym (some-printed p))
    (queries-bare cs)
    ∙ sym (imported-bare n t (option_map Some p) (queries_reading cs))

-- the import with no condition
free-bare : (m n : ℕ) (t : List ℕ) (cs : List Component) → bare_rule (imported m t (Some None) (queries_reading (map bare cs))) ≡ bare_rule (imported n t (Some None) (queries_reading cs))
free-bare m n t cs =
    imported-bare m t (Some None) (queries_reading (map bare cs))
    ∙ ap (imported 0 t (Some None)) (queries-bare cs)
    ∙ sym (imported-bare n t (Some None) (queries_reading cs))

where-same : (b : Bool) (x y v w : ImportRule) → bare_rule x ≡ bare_rule v → bare_rule y ≡ bare_rule w → bare_rule (if b then x else y) ≡ bare_rule (if b then v else w)
where-same true x y v w h k = h
where-same false x y v w h k = k

conditioned-bare : (m n : ℕ) (t : List ℕ) (cs : List Component) → bare_rule (conditioned m t (map bare cs)) ≡ bare_rule (conditioned n t cs)
conditioned-bare m n t [] = free-bare m n t []
conditioned-bare m n t (c ∷ cs) =
    let under = imported m t (option_map Some (supports_inside (inside (bare c)))) (queries_reading (map bare cs)) in
    let free = imported m t (Some None) (queries_reading (map bare (c ∷ cs))) in
    ap (λ (b : Bool). bare_rule (if b then under else free)) (function-bare (codes "supports") c)
    ∙ where-same (is_function (codes "supports") c) under free
    (imported n t (option_map Some (supports_inside (inside c))) (queries_reading cs))
    (imported n t (Some None) (queries_reading (c ∷ cs)))
    (under-bare m n t c cs)
    (free-bare m n t (c ∷ cs))

behind-bare : (m n : ℕ) (o : Option (List ℕ)) (cs : List Component) → bare_rule (behind_target m o (map bare cs)) ≡ bare_rule (behind_target n o cs)
behind-bare m n None cs = refl
behind-bare m n (Some t) cs =
    ap (λ (b : Bool). bare_rule (if b then Waiting else conditioned m t (map bare cs))) (layer-bare cs)
    ∙ where-same (begins_layer cs) Waiting (conditioned m t (map bare cs)) Waiting (conditioned n t cs) refl (conditioned-bare m n t cs)

reading-bare : (m n : ℕ) (cs : List Component) → bare_rule (import_reading m (map bare cs)) ≡ bare_rule (import_reading n cs)
reading-bare m n [] = refl
reading-bare m n (c ∷ cs) =
    ap₂ (λ (o : Option (List ℕ)) (rest : List Component). bare_rule (behind_target m o rest)) (target-bare c) (start-bare cs)
    ∙ behind-bare m n (target_of c) (trimmed_start cs)

-- The same words are read as the same import, places aside.
pub same-import : OnePairing → (a b : List Component) (m n : ℕ) → words_all a ≡ words_all b → IsTrue (all_formed a) → IsTrue (all_formed b) → bare_rule (import_reading m a) ≡ bare_rule (import_reading n b)
same-import one a b m n words formed_a formed_b =
    sym (reading-bare n m a)
    ∙ ap (λ (cs : List Component). bare_rule (import_reading n cs)) (same-bare one a b words formed_a formed_b)
    ∙ reading-bare n n b
