use Rattle.std.proofs.Common.{◌≡◌, ◌++◌, take, map, string_bytes}
use Rattle.css_places.specs.Parts.{further}
use Rattle.css_places.proofs.walk.push_further.Given as goal

abbrev pub invariant-loop-component : goal.invariant-loop-component
invariant-loop-component l = string_bytes l.text ≡ string_bytes l.fn.text ++ further (map (λ component. component.now) (take l.component-index l.components))
