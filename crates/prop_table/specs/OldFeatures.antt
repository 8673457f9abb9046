-- The media features of Media Queries 3.
use Rattle.std.specs.Prelude.{ℕ, List, [], ◌∷◌, ◌++◌, map, Bool, codes}
use Rattle.std.specs.List.{list_any}
use Rattle.css_tokens.specs.Trees.{is_text}

-- the features whose values have an order, and so a least and a greatest (section 4)
abbrev pub range_features : List (List ℕ)
range_features =
    codes "width" ∷ codes "height" ∷ codes "device-width" ∷ codes "device-height" ∷ codes "aspect-ratio" ∷ codes "device-aspect-ratio"
    ∷ codes "color" ∷ codes "color-index" ∷ codes "monochrome" ∷ codes "resolution" ∷ []

-- is it the name of one of these features?
abbrev pub is_range_feature : List ℕ → Bool
is_range_feature name = list_any (is_text name) range_features

-- all features of section 4: these, each with `min-` and `max-` before it, and those whose values have no order
abbrev pub old_features : List (List ℕ)
old_features =
    range_features
    ++ map (λ feature. codes "min-" ++ feature) range_features
    ++ map (λ feature. codes "max-" ++ feature) range_features
    ++ codes "orientation" ∷ codes "scan" ∷ codes "grid" ∷ []

-- is it the name of one of these features?
abbrev pub is_old_feature : List ℕ → Bool
is_old_feature name = list_any (is_text name) old_features
