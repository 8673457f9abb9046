-- How a nested selector is read: with the nesting selector that is implied (CSS Nesting 1, section 3).
use Rattle.std.specs.Prelude.{List, [], ◌∷◌, Bool, true, false, ◌&&◌, ◌||◌, not, Option, Some, None, is_some, if◌then◌else◌}
use Rattle.std.specs.List.{list_any}
use Rattle.selector_types.specs.declared.selector.Combinator.{Combinator}
use Rattle.selector_types.specs.declared.selector.Combinator.TheVariants.{Descendant}
use Rattle.selector_types.specs.declared.selector.Compound.{Compound}
use Rattle.selector_types.specs.declared.selector.Link as link
use Rattle.selector_types.specs.declared.selector.Part as part
use Rattle.selector_types.specs.declared.selector.Selector.{Selector}
use Rattle.selector_types.specs.declared.selector.Simple as simple
use Rattle.selector_types.specs.declared.selector.TypeName.TheVariants as types
use Rattle.selector_types.specs.BareFold.{BareSteps, bare_selector}

-- is one of them so?
abbrev pub any_of : List Bool → Bool
any_of answers = list_any (λ answer. answer) answers

-- a nesting selector stands in it, at any depth
abbrev pub having_parent : BareSteps Bool Bool Bool
having_parent = record {
  class = λ name. false;
  id = λ name. false;
  attribute = λ a. false;
  pseudo = λ text. false;
  not_of = any_of;
  is_of = any_of;
  where_of = any_of;
  parent = true;
  local = λ compound. compound;
  global = λ compound. compound;
  foreign = false;
  compound = λ kind simples tail. any_of simples;
  selector = λ lead first links. first || list_any (λ link. link.1) links;
}

-- does a nesting selector stand in the selector, at any depth?
abbrev pub has_parent : Selector → Bool
has_parent = bare_selector having_parent

-- the compound `&`
abbrev pub parent_alone : Compound
parent_alone = record { kind = types.None; parts = part.Placed simple.Parent 0 ∷ []; tail = None }

-- the selector with `&` and this combinator before it, where there is a combinator
abbrev pub led_by : Option Combinator → Selector → Selector
led_by None s = s
led_by (Some combinator) s = record { lead = None; first = parent_alone; rest = link.Linked combinator s.first ∷ s.rest; at = s.at }

-- A selector that begins with a combinator is read with `&` before it, and a nested one without `&` with `&` and the descendant combinator.
abbrev pub implied : Bool → Selector → Selector
implied nested s = led_by (if is_some s.lead then s.lead else (if nested && not (has_parent s) then Some Descendant else None)) s
