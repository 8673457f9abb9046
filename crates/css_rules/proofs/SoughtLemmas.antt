-- Where the first token that is sought stands.
use Rattle.std.proofs.Common.{◌≡◌, ℕ, ◌+◌, ◌<◌, List, [], ◌∷◌, ◌++◌, Option, Some, None, refl, sym, ◌∙◌, ap, length, drop, get_or, find, add-one}
use Rattle.std.proofs.Math.Seq.{drop-cons}
use Rattle.std.proofs.lemmas.List.Folds.{find-append}
use Rattle.std.specs.Option.{option_map, option_or}
use Rattle.css_tokens.specs.declared.component.Component.{Component}
use Rattle.css_tokens.specs.declared.component.Component as component
use Rattle.css_tokens.specs.declared.component.Block as block
use Rattle.css_tokens.specs.Piece.{Piece}
use Rattle.css_tokens.specs.Trees.{pieces_of, pieces_all, closing, pieces_of-Block}
use Rattle.css_rules.specs.declared.refusal.Sought.{Sought}
use Rattle.css_rules.specs.declared.refusal.Sought.TheVariants.{RevertLayer, RevertLayerOrUrl}
use Rattle.css_rules.specs.Refusals.{is_sought}

abbrev pub place_found : Sought → List Piece → Option ℕ
place_found sought ps = option_map (λ token. token.at) (find (is_sought sought) ps)

places-or : (a b : Option Piece) → option_map (λ (token : Piece). token.at) (option_or a b) ≡ option_or (option_map (λ token. token.at) a) (option_map (λ token. token.at) b)
places-or None b = refl
places-or (Some a) b = refl

place_found-append : (sought : Sought) (xs ys : List Piece) → place_found sought (xs ++ ys) ≡ option_or (place_found sought xs) (place_found sought ys)
place_found-append sought xs ys = ap (option_map (λ token. token.at)) (find-append (is_sought sought) xs ys) ∙ places-or (find (is_sought sought) xs) (find (is_sought sought) ys)

or-none : (a : Option ℕ) → option_or a None ≡ a
or-none None = refl
or-none (Some a) = refl

-- no token that closes is sought
closing-unsought : (sought : Sought) (opening : Piece) (at : ℕ) → place_found sought (closing opening at ∷ []) ≡ None
closing-unsought RevertLayer opening at = refl
closing-unsought RevertLayerOrUrl opening at = refl

pieces-step : (cs : List Component) (i : ℕ) (d : Component) → i < length cs → pieces_all (drop i cs) ≡ pieces_of (get_or cs i d) ++ pieces_all (drop (i + 1) cs)
pieces-step cs i d lt = ap pieces_all (drop-cons cs i d lt) ∙ ap (λ n. pieces_of (get_or cs i d) ++ pieces_all (drop n cs)) (sym (add-one i))

pub seek-step : (sought : Sought) (cs : List Component) (i : ℕ) (d : Component) (found : Option ℕ) → i < length cs → place_found sought (pieces_of (get_or cs i d)) ≡ found
    → place_found sought (pieces_all (drop i cs)) ≡ option_or found (place_found sought (pieces_all (drop (i + 1) cs)))
seek-step sought cs i d found lt here =
    ap (place_found sought) (pieces-step cs i d lt)
    ∙ place_found-append sought (pieces_of (get_or cs i d)) (pieces_all (drop (i + 1) cs))
    ∙ ap (λ o. option_or o (place_found sought (pieces_all (drop (i + 1) cs)))) here

pub seek-block : (sought : Sought) (b : block.Block) → place_found sought (b.opening ∷ []) ≡ None → place_found sought (pieces_of (component.Block b)) ≡ place_found sought (pieces_all b.items)
seek-block sought b opening =
    ap (place_found sought) (pieces_of-Block b)
    ∙ place_found-append sought (b.opening ∷ []) (pieces_all b.items ++ closing b.opening b.close ∷ [])
    ∙ ap (λ o. option_or o (place_found sought (pieces_all b.items ++ closing b.opening b.close ∷ []))) opening
    ∙ place_found-append sought (pieces_all b.items) (closing b.opening b.close ∷ [])
    ∙ ap (option_or (place_found sought (pieces_all b.items))) (closing-unsought sought b.opening b.close)
    ∙ or-none (place_found sought (pieces_all b.items))
