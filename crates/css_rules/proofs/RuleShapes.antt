-- What a rule and an item are that have a reading.
use Rattle.std.proofs.Common.{◌≡◌, ℕ, List, [], ◌∷◌, map, Bool, true, false, Option, Some, None, refl, ap, cond, option_map, inl, inr, ◌⊎◌}
use Rattle.css_tokens.specs.declared.component.Component.{Component}
use Rattle.selector_tree.specs.Signs.{list_in, mark_of}
use Rattle.selector_types.specs.declared.selector.Selector.{Selector}
use Rattle.sheet_types.specs.declared.sheet.Declaration.{Declaration}
use Rattle.sheet_types.specs.declared.sheet.Item.{Item}
use Rattle.sheet_types.specs.declared.sheet.Item as item
use Rattle.sheet_types.specs.declared.sheet.Sheet.{Sheet}
use Rattle.css_components.specs.Components.{head, inside}
use Rattle.css_components.specs.Trimming.{trimmed}
use Rattle.css_rules.specs.Cuts.{Cut}
use Rattle.css_rules.specs.Declarations.{declaration_of}
use Rattle.css_rules.specs.Refusals.{has_waiting}
use Rattle.css_rules.specs.Places.{first_place}
use Rattle.css_rules.specs.Sheets.{is_unbuilt, built, plain_item, is_rule, item_of, declarations_of, prelude_of, style_with, leftover, style_of}
use Rattle.css_rules.specs.RuleEnds.{begins_at_rule, ends_in_braces}
use Rattle.sheet_types.specs.Runs.{run_of}
use Rattle.css_rules.proofs.CutLemmas.{or-right}

pub unless-some : {A : Type 0} (b : Bool) (o : Option A) (x : A) → cond b None o ≡ Some x → (b ≡ false) × (o ≡ Some x)
unless-some true o x e = absurd (cc e)
unless-some false o x e = (refl, e)

-- Items.

-- one declaration is read of the item
pub record IsDeclared (cut : Cut) (ds : List Declaration) : Type 0 where
  pub declaration : Declaration
  pub spelled : declaration_of (trimmed cut.front) ≡ Some declaration
  pub built : is_unbuilt declaration ≡ false
  pub is : ds ≡ declaration ∷ []

pub item-no_rule : (cut : Cut) (ds : List Declaration) → item_of cut ≡ Some ds → is_rule cut ≡ false
item-no_rule cut ds e = (unless-some (is_rule cut) (plain_item (trimmed cut.front)) ds e).0

pub item-no_block : (cut : Cut) (ds : List Declaration) → item_of cut ≡ Some ds → ends_in_braces cut.mark ≡ false
item-no_block cut ds e = or-right (begins_at_rule (trimmed cut.front)) (ends_in_braces cut.mark) (item-no_rule cut ds e)

pub item-shape : (cut : Cut) (ds : List Declaration) → item_of cut ≡ Some ds → (ds ≡ []) ⊎ IsDeclared cut ds
item-shape cut ds e = at (trimmed cut.front) refl (unless-some (is_rule cut) (plain_item (trimmed cut.front)) ds e).1
  where
    of_built : (o : Option Declaration) → declaration_of (trimmed cut.front) ≡ o → built o ≡ Some ds → IsDeclared cut ds
    of_built None is h = absurd (cc h)
    of_built (Some d) is h =
        let plain = unless-some (is_unbuilt d) (Some (d ∷ [])) ds h in
        record { declaration = d; spelled = is; built = plain.0; is = cc (plain.1) }

    at : (cs : List Component) → trimmed cut.front ≡ cs → plain_item cs ≡ Some ds → (ds ≡ []) ⊎ IsDeclared cut ds
    at [] is h = inl (cc h)
    at (c ∷ cs) is h = inr (of_built (declaration_of (c ∷ cs)) (ap declaration_of is) h)

-- Preludes.

pub record IsPlainPrelude (prelude : List Component) (list : List Selector) : Type 0 where
  pub built : has_waiting prelude ≡ false
  pub spelled : list_in (map mark_of prelude) ≡ Some list

pub prelude-shape : (prelude : List Component) (list : List Selector) → prelude_of prelude ≡ Some list → IsPlainPrelude prelude list
prelude-shape prelude list e =
    let plain = unless-some (has_waiting prelude) (list_in (map mark_of prelude)) list e in
    record { built = plain.0; spelled = plain.1 }

-- Style rules.

-- one style rule is read of the rule
pub record IsStyled (cut : Cut) (items : List Item) : Type 0 where
  pub block : Component
  pub mark : cut.mark ≡ Some block
  pub list : List Selector
  pub ds : List Declaration
  pub at : ℕ
  pub prelude : prelude_of cut.front ≡ Some list
  pub inner : declarations_of (inside block) ≡ Some ds
  pub is : items ≡ item.Style (record { selectors = list; items = run_of ds; at = at }) ∷ []

pub style-shape : (cut : Cut) (items : List Item) → style_of cut.front cut.mark ≡ Some items → (items ≡ []) ⊎ IsStyled cut items
style-shape cut items e = at cut.mark refl e
  where
    nothing : (cs : List Component) → leftover cs ≡ Some items → items ≡ []
    nothing [] h = cc h
    nothing (c ∷ cs) h = absurd (cc h)

    with_both : (block : Component) (place : ℕ) → cut.mark ≡ Some block → (o : Option (List Selector)) (p : Option (List Declaration)) → prelude_of cut.front ≡ o → declarations_of (inside block) ≡ p
        → style_with place o p ≡ Some items → IsStyled cut items
    with_both block place mark None p first second h = absurd (cc h)
    with_both block place mark (Some list) None first second h = absurd (cc h)
    with_both block place mark (Some list) (Some ds) first second h =
        record { block = block; mark = mark; list = list; ds = ds; at = place; prelude = first; inner = second; is = cc h }

    at : (o : Option Component) → cut.mark ≡ o → style_of cut.front o ≡ Some items → (items ≡ []) ⊎ IsStyled cut items
    at None is h = inl (nothing (trimmed cut.front) h)
    at (Some block) is h = inr (with_both block (first_place (trimmed cut.front) (head block).at) is (prelude_of cut.front) (declarations_of (inside block)) refl refl h)
