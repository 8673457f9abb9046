-- What is found in a function says that it is one, and what stands in it.
use Rattle.std.proofs.Common.{◌≡◌, ℕ, List, Bool, true, false, ◌||◌, sym, ◌∙◌, ap}
use Rattle.std.specs.Prelude.{Option, Some, None, codes, if◌then◌else◌}
use Rattle.css_tokens.specs.declared.component.Component.{Component}
use Rattle.css_components.specs.Components.{head, inside, is_string, name_of}
use Rattle.css_components.specs.Trimming.{trimmed}
use Rattle.import_rules.specs.Imports.{is_function, is_url, lone_string, target_of}

-- what stands in it, where it is a function
abbrev pub found_in : List ℕ → Component → Option (List Component)
found_in name c = if is_function name c then Some (inside c) else None

string-in : (b : Bool) (xs ys : List Component) → Some xs ≡ (if b then Some ys else None) → lone_string (trimmed xs) ≡ (if b then lone_string (trimmed ys) else None)
string-in true xs ys e = (let same : xs ≡ ys = cc in ap (λ (cs : List Component). lone_string (trimmed cs)) same)
string-in false xs ys e = absurd (cc e)

-- the target in a function
pub target-in : (c : Component) (xs : List Component) → (is_string c || is_url c) ≡ false → Some xs ≡ found_in (codes "url") c → lone_string (trimmed xs) ≡ target_of c
target-in c xs other found =
    string-in (is_function (codes "url") c) xs (inside c) found
    ∙ sym (ap (λ (b : Bool). if b then Some (name_of (head c)) else (if is_function (codes "url") c then lone_string (trimmed (inside c)) else None)) other)
