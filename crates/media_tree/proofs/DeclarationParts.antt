-- What a readable declaration is known to be.
use Rattle.std.proofs.Common.{◌≡◌, ℕ, List, true, ◌&&◌}
use Rattle.std.proofs.lemmas.Bool.{and_parts}
use Rattle.css_tokens.specs.declared.component.Component.{Component}
use Rattle.css_tokens.specs.Names.{is_name}
use Rattle.css_tokens.specs.Trees.{all_formed, is_text}
use Rattle.css_tokens.specs.ValueAgain.{value_again}
use Rattle.media_tree.specs.SupportsAgain.{is_readable_declaration, is_utf8_value}
use Rattle.media_tree.specs.SupportsReading.{is_custom, may_be_value, property_name}

-- the parts of a readable declaration
pub record IsReadable (name : List ℕ) (value : List Component) : Type 0 where
  pub named : is_name name ≡ true
  pub same : is_text (property_name name) name ≡ true
  pub formed : all_formed value ≡ true
  pub may : may_be_value (is_custom name) (value_again value) ≡ true

pub declaration-parts : (name : List ℕ) (value : List Component) → is_readable_declaration name value ≡ true → IsReadable name value
declaration-parts name value r =
    let may = may_be_value (is_custom name) (value_again value) in
    let p = and_parts (is_name name) (is_text (property_name name) name && (all_formed value && (is_utf8_value value && may))) r in
    let q = and_parts (is_text (property_name name) name) (all_formed value && (is_utf8_value value && may)) p.1 in
    let s = and_parts (all_formed value) (is_utf8_value value && may) q.1 in
    let t = and_parts (is_utf8_value value) may s.1 in
    record { named = p.0; same = q.0; formed = s.0; may = t.1 }
