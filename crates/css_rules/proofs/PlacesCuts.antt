-- Cuts and declarations are the same but for places where the places of their tokens are at 0.
use Rattle.std.proofs.Common.{◌≡◌, List, [], ◌∷◌, ◌++◌, map, Bool, true, false, ◌&&◌, ◌||◌, not, Option, Some, None, refl, sym, ◌∙◌, ap, cond, codes, option_map, is_some}
use Rattle.std.specs.List.{list_any, list_all}
use Rattle.std.proofs.lemmas.List.{map-append}
use Rattle.css_tokens.specs.declared.component.Component.{Component}
use Rattle.css_tokens.specs.Piece.{Piece}
use Rattle.sheet_types.specs.declared.sheet.Declaration.{Declaration}
use Rattle.css_components.specs.Components.{head, is_gap, is_ident, is_colon, is_semicolon, is_bang, is_braces, is_custom, is_keyword, name_of}
use Rattle.css_components.specs.Trimming.{trimmed, trimmed_start, trimmed_end}
use Rattle.css_rules.specs.Cuts.{Cut, cuts, cuts_at, cuts_behind, with_front}
use Rattle.css_rules.specs.Declarations.{property_name, after_colon, may_be_value, is_important, value_of, declared, declared_after, declaration_of, begins_custom}
use Rattle.css_rules.specs.declared.refusal.Sought.{Sought}
use Rattle.css_rules.specs.ReadAll.{read_all}
use Rattle.css_rules.specs.Refusals.{has_sought, is_unbuilt_property, sought_for}
use Rattle.css_rules.specs.Sheets.{built, declarations_of, is_rule, is_unbuilt, item_of, plain_item}
use Rattle.css_rules.specs.RuleEnds.{begins_at_rule, ends_in_braces, ends_item, ends_rule}
use Rattle.css_rules.proofs.ReadAllLemmas.{mapped-all}
use Rattle.css_rules.proofs.SoughtAgain.{sought-words, word_sought}
use Rattle.sheet_types.specs.BareItems.{bared}
use Rattle.sheet_types.proofs.PlacesTrees.{bare_value-erased, words-erased}
use Rattle.sheet_types.specs.Erased.{placeless, erased}
use Rattle.css_rules.proofs.PlacesLayers.{head-erased, gap-erased, ident-erased, at-erased, colon-erased, semicolon-erased, bang-erased, braces-erased}

-- Lists.

module _ (test : Component → Bool) (same : (c : Component) → test (erased c) ≡ test c) where
  any-erased : (cs : List Component) → list_any test (map erased cs) ≡ list_any test cs
  any-erased [] = refl
  any-erased (c ∷ cs) = ap (λ b. b || list_any test (map erased cs)) (same c) ∙ ap (λ b. test c || b) (any-erased cs)

  all-erased : (cs : List Component) → list_all test (map erased cs) ≡ list_all test cs
  all-erased [] = refl
  all-erased (c ∷ cs) = ap (λ b. b && list_all test (map erased cs)) (same c) ∙ ap (λ b. test c && b) (all-erased cs)

-- Cuts.

abbrev pub erased_cut : Cut → Cut
erased_cut cut = record { front = map erased cut.front; mark = option_map erased cut.mark }

front-erased : (c : Component) (cs : List Cut) → with_front (erased c) (map erased_cut cs) ≡ map erased_cut (with_front c cs)
front-erased c [] = refl
front-erased c (cut ∷ cs) = refl

cut-at : (c : Component) (rest more : List Cut) (b : Bool)
    → cond b (record { front = []; mark = Some (erased c) } ∷ map erased_cut rest) (with_front (erased c) (map erased_cut more))
    ≡ map erased_cut (cond b (record { front = []; mark = Some c } ∷ rest) (with_front c more))
cut-at c rest more true = refl
cut-at c rest more false = front-erased c more

pub cuts-erased : (ends : List Component → Component → Bool) (same : (before : List Component) (c : Component) → ends (map erased before) (erased c) ≡ ends before c)
    → (before cs : List Component) → cuts_behind ends (map erased before) (map erased cs) ≡ map erased_cut (cuts_behind ends before cs)
cuts-erased ends same before [] = refl
cuts-erased ends same before (c ∷ cs) =
    ap (λ b. cond b (record { front = []; mark = Some (erased c) } ∷ cuts ends (map erased cs)) (with_front (erased c) (cuts_behind ends (map erased before ++ erased c ∷ []) (map erased cs)))) (same before c)
    ∙ ap (λ rest. cond (ends before c) (record { front = []; mark = Some (erased c) } ∷ rest) (with_front (erased c) (cuts_behind ends (map erased before ++ erased c ∷ []) (map erased cs)))) (cuts-erased ends same [] cs)
    ∙ ap (λ behind. cond (ends before c) (record { front = []; mark = Some (erased c) } ∷ map erased_cut (cuts ends cs)) (with_front (erased c) (cuts_behind ends behind (map erased cs)))) (sym (map-append erased before (c ∷ [])))
    ∙ ap (λ rest. cond (ends before c) (record { front = []; mark = Some (erased c) } ∷ map erased_cut (cuts ends cs)) (with_front (erased c) rest)) (cuts-erased ends same (before ++ c ∷ []) cs)
    ∙ cut-at c (cuts ends cs) (cuts_behind ends (before ++ c ∷ []) cs) (ends before c)

-- Ends.

start-at : (c : Component) (cs : List Component) (b : Bool) → cond b (map erased (trimmed_start cs)) (erased c ∷ map erased cs) ≡ map erased (cond b (trimmed_start cs) (c ∷ cs))
start-at c cs true = refl
start-at c cs false = refl

pub start-erased : (cs : List Component) → trimmed_start (map erased cs) ≡ map erased (trimmed_start cs)
start-erased [] = refl
start-erased (c ∷ cs) =
    ap (λ b. cond b (trimmed_start (map erased cs)) (erased c ∷ map erased cs)) (gap-erased c)
    ∙ ap (λ rest. cond (is_gap c) rest (erased c ∷ map erased cs)) (start-erased cs)
    ∙ start-at c cs (is_gap c)

end-at : (c : Component) (rest : List Component) (b : Bool) → cond b [] (erased c ∷ map erased rest) ≡ map erased (cond b [] (c ∷ rest))
end-at c rest true = refl
end-at c rest false = refl

end-erased : (cs : List Component) → trimmed_end (map erased cs) ≡ map erased (trimmed_end cs)
end-erased [] = refl
end-erased (c ∷ cs) =
    ap (λ b. cond b [] (erased c ∷ trimmed_end (map erased cs))) (all-erased is_gap gap-erased (c ∷ cs))
    ∙ ap (λ rest. cond (list_all is_gap (c ∷ cs)) [] (erased c ∷ rest)) (end-erased cs)
    ∙ end-at c (trimmed_end cs) (list_all is_gap (c ∷ cs))

pub trimmed-erased : (cs : List Component) → trimmed (map erased cs) ≡ map erased (trimmed cs)
trimmed-erased cs = ap trimmed_end (start-erased cs) ∙ end-erased (trimmed_start cs)

-- Declarations.

colon-at : (cs : List Component) (b : Bool) → cond b (Some (map erased cs)) None ≡ option_map (map erased) (cond b (Some cs) None)
colon-at cs true = refl
colon-at cs false = refl

after-erased : (cs : List Component) → after_colon (map erased cs) ≡ option_map (map erased) (after_colon cs)
after-erased [] = refl
after-erased (c ∷ cs) = ap (λ b. cond b (Some (map erased cs)) None) (colon-erased c) ∙ colon-at cs (is_colon c)

may-erased : (custom : Bool) (cs : List Component) → may_be_value custom (map erased cs) ≡ may_be_value custom cs
may-erased custom [] = refl
may-erased custom (c ∷ cs) = ap (λ b. custom || not b) (any-erased is_braces braces-erased (c ∷ cs))

important-erased : (cs : List Component) → is_important (map erased cs) ≡ is_important cs
important-erased [] = refl
important-erased (c ∷ []) =
    ap (λ b. b && is_keyword (codes "important") (name_of (head (erased c)))) (ident-erased c)
    ∙ ap (λ (p : Piece). is_ident c && is_keyword (codes "important") (name_of p)) (head-erased c)
important-erased (c ∷ d ∷ cs) = refl

abbrev erased_value : List Component × Bool → List Component × Bool
erased_value v = (map erased v.0, v.1)

value-at : (v : List Component) (b : Bool) → cond b (Some (map erased v, true)) None ≡ option_map erased_value (cond b (Some (v, true)) None)
value-at v true = refl
value-at v false = refl

value-erased : (cs : List Cut) → value_of (map erased_cut cs) ≡ option_map erased_value (value_of cs)
value-erased [] = refl
value-erased (value ∷ []) = ap (λ v. Some (v, false)) (trimmed-erased value.front)
value-erased (value ∷ mark ∷ []) =
    ap (λ m. cond (is_important m) (Some (trimmed (map erased value.front), true)) None) (trimmed-erased mark.front)
    ∙ ap (λ b. cond b (Some (trimmed (map erased value.front), true)) None) (important-erased (trimmed mark.front))
    ∙ ap (λ v. cond (is_important (trimmed mark.front)) (Some (v, true)) None) (trimmed-erased value.front)
    ∙ value-at (trimmed value.front) (is_important (trimmed mark.front))
value-erased (value ∷ mark ∷ more ∷ cs) = refl

abbrev pub erased_declaration : Declaration → Declaration
erased_declaration d = record { name = d.name; value = map erased d.value; important = d.important; at = 0 }

abbrev with_value : Piece → List Component × Bool → Declaration
with_value name v = record { name = property_name (name_of name); value = v.0; important = v.1; at = name.at }

declared-at : (name : Piece) (v : List Component × Bool) (b : Bool) → cond b (Some (with_value (placeless name) (erased_value v))) None ≡ option_map erased_declaration (cond b (Some (with_value name v)) None)
declared-at name v true = refl
declared-at name v false = refl

declared-erased : (name : Piece) (o : Option (List Component × Bool)) → declared (placeless name) (option_map erased_value o) ≡ option_map erased_declaration (declared name o)
declared-erased name None = refl
declared-erased name (Some v) =
    ap (λ b. cond b (Some (with_value (placeless name) (erased_value v))) None) (may-erased (is_custom (name_of name)) v.0)
    ∙ declared-at name v (may_be_value (is_custom (name_of name)) v.0)

declared_after-erased : (name : Piece) (o : Option (List Component)) → declared_after (placeless name) (option_map (map erased) o) ≡ option_map erased_declaration (declared_after name o)
declared_after-erased name None = refl
declared_after-erased name (Some tail) =
    ap (λ cs. declared (placeless name) (value_of cs)) (cuts-erased (λ before c. is_bang c) (λ before c. bang-erased c) [] tail)
    ∙ ap (declared (placeless name)) (value-erased (cuts_at is_bang tail))
    ∙ declared-erased name (value_of (cuts_at is_bang tail))

declaration-at : (o : Option Declaration) (b : Bool) → cond b (option_map erased_declaration o) None ≡ option_map erased_declaration (cond b o None)
declaration-at o true = refl
declaration-at o false = refl

pub declaration-erased : (cs : List Component) → declaration_of (map erased cs) ≡ option_map erased_declaration (declaration_of cs)
declaration-erased [] = refl
declaration-erased (c ∷ cs) =
    ap (λ b. cond b (declared_after (head (erased c)) (after_colon (trimmed_start (map erased cs)))) None) (ident-erased c)
    ∙ ap (λ (p : Piece). cond (is_ident c) (declared_after p (after_colon (trimmed_start (map erased cs)))) None) (head-erased c)
    ∙ ap (λ tail. cond (is_ident c) (declared_after (placeless (head c)) (after_colon tail)) None) (start-erased cs)
    ∙ ap (λ o. cond (is_ident c) (declared_after (placeless (head c)) o) None) (after-erased (trimmed_start cs))
    ∙ ap (λ o. cond (is_ident c) o None) (declared_after-erased (head c) (after_colon (trimmed_start cs)))
    ∙ declaration-at (declared_after (head c) (after_colon (trimmed_start cs))) (is_ident c)

-- Items of a block.

some-erased : (o : Option (List Component)) → is_some (option_map (map erased) o) ≡ is_some o
some-erased None = refl
some-erased (Some cs) = refl

custom-erased : (cs : List Component) → begins_custom (map erased cs) ≡ begins_custom cs
custom-erased [] = refl
custom-erased (c ∷ cs) =
    ap (λ b. b && (is_custom (name_of (head (erased c))) && is_some (after_colon (trimmed_start (map erased cs))))) (ident-erased c)
    ∙ ap (λ (p : Piece). is_ident c && (is_custom (name_of p) && is_some (after_colon (trimmed_start (map erased cs))))) (head-erased c)
    ∙ ap (λ tail. is_ident c && (is_custom (name_of (head c)) && is_some (after_colon tail))) (start-erased cs)
    ∙ ap (λ b. is_ident c && (is_custom (name_of (head c)) && b)) (ap is_some (after-erased (trimmed_start cs)) ∙ some-erased (after_colon (trimmed_start cs)))

ends_item-erased : (before : List Component) (c : Component) → ends_item (map erased before) (erased c) ≡ ends_item before c
ends_item-erased before c =
    ap (λ b. b || (is_braces (erased c) && not (begins_custom (trimmed_start (map erased before))))) (semicolon-erased c)
    ∙ ap (λ b. is_semicolon c || (b && not (begins_custom (trimmed_start (map erased before))))) (braces-erased c)
    ∙ ap (λ b. is_semicolon c || (is_braces c && not b)) (ap begins_custom (start-erased before) ∙ custom-erased (trimmed_start before))

pub at_rule-erased : (cs : List Component) → begins_at_rule (map erased cs) ≡ begins_at_rule cs
at_rule-erased [] = refl
at_rule-erased (c ∷ cs) = at-erased c

pub ends_rule-erased : (before : List Component) (c : Component) → ends_rule (map erased before) (erased c) ≡ ends_rule before c
ends_rule-erased before c =
    ap (λ b. b || (is_semicolon (erased c) && begins_at_rule (trimmed_start (map erased before)))) (braces-erased c)
    ∙ ap (λ b. is_braces c || (b && begins_at_rule (trimmed_start (map erased before)))) (semicolon-erased c)
    ∙ ap (λ b. is_braces c || (is_semicolon c && b)) (ap begins_at_rule (start-erased before) ∙ at_rule-erased (trimmed_start before))

pub mark-erased : (o : Option Component) → ends_in_braces (option_map erased o) ≡ ends_in_braces o
mark-erased None = refl
mark-erased (Some c) = braces-erased c

pub sought-erased : (sought : Sought) (cs : List Component) → has_sought sought (map erased cs) ≡ has_sought sought cs
sought-erased sought cs =
    sought-words sought (map erased cs) ∙ ap (list_any (word_sought sought)) (words-erased cs) ∙ sym (sought-words sought cs)

abbrev made_of : Bool → Declaration → Option (List Declaration)
made_of waits d = cond waits None (Some (d ∷ []))

made-at : (d : Declaration) (b : Bool) → made_of b (erased_declaration d) ≡ option_map (map erased_declaration) (made_of b d)
made-at d true = refl
made-at d false = refl

built-erased : (o : Option Declaration) → built (option_map erased_declaration o) ≡ option_map (map erased_declaration) (built o)
built-erased None = refl
built-erased (Some d) =
    ap (λ b. made_of (is_unbuilt_property d.name || b) (erased_declaration d)) (sought-erased (sought_for d.name) d.value)
    ∙ made-at d (is_unbuilt d)

plain-erased : (cs : List Component) → plain_item (map erased cs) ≡ option_map (map erased_declaration) (plain_item cs)
plain-erased [] = refl
plain-erased (c ∷ cs) = ap built (declaration-erased (c ∷ cs)) ∙ built-erased (declaration_of (c ∷ cs))

unless-at : (o : Option (List Declaration)) (b : Bool) → cond b None (option_map (map erased_declaration) o) ≡ option_map (map erased_declaration) (cond b None o)
unless-at o true = refl
unless-at o false = refl

item-erased : (cut : Cut) → option_map (map erased_declaration) (item_of cut) ≡ item_of (erased_cut cut)
item-erased cut =
    sym (ap (λ (cs : List Component). cond (begins_at_rule cs || ends_in_braces (option_map erased cut.mark)) None (plain_item cs)) (trimmed-erased cut.front)
    ∙ ap (λ b. cond (b || ends_in_braces (option_map erased cut.mark)) None (plain_item (map erased (trimmed cut.front)))) (at_rule-erased (trimmed cut.front))
    ∙ ap (λ b. cond (begins_at_rule (trimmed cut.front) || b) None (plain_item (map erased (trimmed cut.front)))) (mark-erased cut.mark)
    ∙ ap (λ o. cond (is_rule cut) None o) (plain-erased (trimmed cut.front))
    ∙ unless-at (plain_item (trimmed cut.front)) (is_rule cut))

pub declarations-erased : (block : List Component) → declarations_of (map erased block) ≡ option_map (map erased_declaration) (declarations_of block)
declarations-erased block =
    ap (read_all item_of) (cuts-erased ends_item ends_item-erased [] block)
    ∙ sym (mapped-all (map erased_declaration) item_of item_of erased_cut refl (λ xs ys. map-append erased_declaration xs ys) item-erased (cuts ends_item block))

bared-erased : (d : Declaration) → bared (erased_declaration d) ≡ bared d
bared-erased d = ap (λ value. record { name = d.name; value = value; important = d.important; at = 0 }) (bare_value-erased d.value)

-- they are printed alike
pub bareds-erased : (ds : List Declaration) → map bared (map erased_declaration ds) ≡ map bared ds
bareds-erased [] = refl
bareds-erased (d ∷ ds) =
    ap (λ e. e ∷ map bared (map erased_declaration ds)) (bared-erased d)
    ∙ ap (λ (es : List Declaration). bared d ∷ es) (bareds-erased ds)
