-- Addresses seen from another folder (this project's own, after the URL Standard, section 4.4).
use Rattle.std.specs.Prelude.{ℕ, List, [], ◌∷◌, ◌++◌, Bool, ◌||◌, codes, flat_map, length, unwrap_or, nat_eq, if◌then◌else◌}
use Rattle.std.specs.List.{before_first, position_or_len}
use Rattle.std.specs.Prelude.{drop}
use Rattle.css_tokens.specs.Trees.{is_text}
use Rattle.css_places.specs.declared.walk.Above.TheVariants.{Kept}
use Rattle.css_places.specs.Parts.{parts_of, path_of}
use Rattle.css_places.specs.Schemes.{begins_with, has_scheme}
use Rattle.css_places.specs.Walks.{reached}

-- a `?` or a `#`, which ends the path of an address
abbrev pub ends_path : ℕ → Bool
ends_path c = nat_eq c 63 || nat_eq c 35

-- the path of an address, and what follows it
abbrev pub address_path : List ℕ → List ℕ
address_path url = before_first ends_path url

abbrev pub behind_path : List ℕ → List ℕ
behind_path url = drop (length (address_path url)) url

-- Is it the same seen from any folder: does it have a scheme or no path, or does its path begin with a slash?
abbrev pub is_fixed : List ℕ → Bool
is_fixed url = is_text (address_path url) [] || (begins_with 47 url || has_scheme url)

-- the text with another one in place of each such character
abbrev pub replaced : ℕ → List ℕ → List ℕ → List ℕ
replaced c by text = flat_map (λ d. if nat_eq d c then by else d ∷ []) text

-- a path as an address writes it: a `?` or a `#` in a folder's name does not end it
abbrev pub written : List ℕ → List ℕ
written path = replaced 35 (codes "%23") (replaced 63 (codes "%3F") path)

-- a slash, where the path ends in one
abbrev pub final_slash : List ℕ → List ℕ
final_slash path = if is_text (parts_of path).name [] then codes "/" else []

-- A path that leads to the folder itself is `./`, and one that would be read as a scheme stands behind `./`.
abbrev pub anchored : List ℕ → List ℕ
anchored path = if is_text path [] || is_text path (codes "/") then codes "./" else (if has_scheme path then codes "./" ++ path else path)

-- the path of an address seen from the folder in which the folder of the file `from` lies
abbrev pub joined_path : List ℕ → List ℕ → List ℕ
joined_path from path = anchored (written (path_of (unwrap_or (reached Kept from path) [])) ++ final_slash path)

-- the address
abbrev pub rebased : List ℕ → List ℕ → List ℕ
rebased from url = if is_fixed url then url else joined_path from (address_path url) ++ behind_path url
