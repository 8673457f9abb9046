-- What a sheet builder has taken, with one more component.
use Rattle.std.proofs.Common.{◌≡◌, List, [], ◌∷◌, ◌++◌, Bool, true, false, ◌&&◌, ◌||◌, Option, Some, None, refl, sym, ◌∙◌, ap, subst, cond, inl, inr, flat_map, if◌then◌else◌}
use Rattle.std.proofs.Math.Bool.{and-true, and-false}
use Rattle.std.proofs.lemmas.Bool.{cases_Bool}
use Rattle.std.proofs.lemmas.Grind.{flat_map-append}
use Rattle.std.proofs.lemmas.List.{append_assoc, append-nil}
use Rattle.css_tokens.specs.declared.component.Component.{Component}
use Rattle.css_rules.specs.declared.refusal.Refusal.{Refusal}
use Rattle.css_rules.specs.declared.sheet_builder.SheetBuilder.{SheetBuilder}
use Rattle.css_rules.specs.declared.sheet_builder.Start.TheVariants.{Nothing, AtRule, Other}
use Rattle.css_components.specs.Components.{is_at_keyword, is_braces, is_gap, is_semicolon}
use Rattle.css_components.specs.Trimming.{trimmed_start}
use Rattle.css_rules.specs.Cuts.{Cut, cuts, cuts_behind, with_front}
use Rattle.css_rules.specs.ReadAll.{joined, read_all}
use Rattle.css_rules.specs.Refusals.{first_refusal, sooner_of}
use Rattle.css_rules.specs.SheetBuilding.{HasRead, HasTaken}
use Rattle.css_rules.specs.Heads.{import_of, import_refusals, imports_in, items_in}
use Rattle.css_rules.specs.Sheets.{cut_refusals, rule_of, rule_refusals, sheet_of, sheet_refusals, sheet_with}
use Rattle.css_rules.specs.RuleEnds.{begins_at_rule, ends_rule}
use Rattle.css_rules.specs.declared.head.Role.{Role}
use Rattle.css_rules.specs.declared.head.Role.TheVariants as roles
use Rattle.css_rules.specs.Private.Adding.{HasAdded}
use Rattle.css_rules.specs.Private.Roles.{part_behind, role_in}
use Rattle.css_rules.specs.Private.Starts.{begun, ends_begun, start_of, start_with}
use Rattle.css_rules.proofs.CutLemmas.{cuts-marked, cuts-unmarked, first_cut, trimmed_start-gap, trimmed_start-other}
use Rattle.css_rules.proofs.HeadLemmas.{IsBefore, Next, import_here, item_here, next}
use Rattle.css_rules.proofs.ReadAllLemmas.{right-none}
use Rattle.css_rules.proofs.RefusalLemmas.{first_refusal-append, sooner_of-none_left, sooner_of-none_right}

-- The cuts of a list with one more component at its end.

-- what no mark ended
abbrev unended : List Component → Cut
unended front = record { front = front; mark = None }

abbrev ended : List Component → Component → Cut
ended front c = record { front = front; mark = Some c }

-- these cuts and what stands behind them, with one more component that ends it or not
abbrev with_last : List Cut → List Component → Component → Bool → List Cut
with_last rules front c ends = rules ++ (if ends then ended front c ∷ unended [] ∷ [] else unended (front ++ c ∷ []) ∷ [])

-- what stands before the next component since the last mark
abbrev since : List Component → List Cut → List Component → List Component
since before [] front = before ++ front
since before (rule ∷ rules) front = front

since-none : (rules : List Cut) (front : List Component) → since [] rules front ≡ front
since-none [] front = refl
since-none (rule ∷ rules) front = refl

front-with : (x : Component) (front : List Component) (c : Component) (b : Bool) → with_front x (with_last [] front c b) ≡ with_last [] (x ∷ front) c b
front-with x front c true = refl
front-with x front c false = refl

abbrev rest_of : List Cut → List Cut
rest_of [] = []
rest_of (cut ∷ cuts) = cuts

abbrev fronts_of : List Cut → List Component
fronts_of [] = []
fronts_of (cut ∷ cuts) = cut.front

abbrev marks_of : List Cut → Option Component
marks_of [] = None
marks_of (cut ∷ cuts) = cut.mark

abbrev MoreCuts : (List Component → Component → Bool) → List Component → List Component → List Cut → List Component → Component → Type 0
MoreCuts ends before xs rules front c = cuts_behind ends before (xs ++ c ∷ []) ≡ with_last rules front c (ends (since before rules front) c)

cuts-none : (ends : List Component → Component → Bool) (before : List Component) (rules : List Cut) (front : List Component) (c : Component)
    → unended [] ∷ [] ≡ rules ++ unended front ∷ [] → MoreCuts ends before [] rules front c
cuts-none ends before [] front c e =
    let none : [] ≡ front = ap fronts_of e in
    subst (λ xs. cuts_behind ends before (c ∷ []) ≡ with_last [] xs c (ends (before ++ xs) c)) none (ap (λ xs. with_last [] [] c (ends xs c)) (sym (append-nil before)))
cuts-none ends before (rule ∷ rules) front c e = absurd (cc (right-none rules (unended front ∷ []) (sym (ap rest_of e))))

-- behind a mark
cuts-ended : (ends : List Component → Component → Bool) (before : List Component) (x : Component) (xs : List Component) (rules : List Cut) (front : List Component) (c : Component)
    → ends before x ≡ true → ended [] x ∷ cuts ends xs ≡ rules ++ unended front ∷ []
    → ((more : List Cut) → cuts ends xs ≡ more ++ unended front ∷ [] → MoreCuts ends [] xs more front c) → MoreCuts ends before (x ∷ xs) rules front c
cuts-ended ends before x xs [] front c marked e again = absurd (let some : Some x ≡ None = ap marks_of e in cc some)
cuts-ended ends before x xs (rule ∷ rules) front c marked e again =
    let rest : cuts ends xs ≡ rules ++ unended front ∷ [] = ap rest_of e in
    let first : ended [] x ≡ rule = cc e in
    cuts-marked ends before x (xs ++ c ∷ []) marked
    ∙ ap (λ cs. ended [] x ∷ cs) (again rules rest ∙ ap (λ b. with_last rules front c (ends b c)) (since-none rules front))
    ∙ ap (λ cut. cut ∷ with_last rules front c (ends front c)) first

-- in the first cut
cuts-going : (ends : List Component → Component → Bool) (before : List Component) (x : Component) (xs : List Component) (rules : List Cut) (front : List Component) (c : Component) (cut : Cut) (rest : List Cut)
    → ends before x ≡ false → cuts_behind ends (before ++ x ∷ []) xs ≡ cut ∷ rest → with_front x (cut ∷ rest) ≡ rules ++ unended front ∷ []
    → ((more : List Cut) (fronts : List Component) → cuts_behind ends (before ++ x ∷ []) xs ≡ more ++ unended fronts ∷ [] → MoreCuts ends (before ++ x ∷ []) xs more fronts c) → MoreCuts ends before (x ∷ xs) rules front c
cuts-going ends before x xs [] front c cut rest unmarked is e again =
    let fronts : x ∷ cut.front ≡ front = ap fronts_of e in
    let mark : cut.mark ≡ None = ap marks_of e in
    let none : rest ≡ [] = ap rest_of e in
    let one : cuts_behind ends (before ++ x ∷ []) xs ≡ unended cut.front ∷ [] = is ∙ ap (λ cs. cut ∷ cs) none ∙ ap (λ o. record { front = cut.front; mark = o } ∷ []) mark in
    cuts-unmarked ends before x (xs ++ c ∷ []) unmarked
    ∙ ap (with_front x) (again [] cut.front one)
    ∙ front-with x cut.front c (ends ((before ++ x ∷ []) ++ cut.front) c)
    ∙ ap (λ b. with_last [] (x ∷ cut.front) c (ends b c)) (append_assoc before (x ∷ []) cut.front)
    ∙ ap (λ all. with_last [] all c (ends (before ++ all) c)) fronts
cuts-going ends before x xs (rule ∷ rules) front c cut rest unmarked is e again =
    let first : record { front = x ∷ cut.front; mark = cut.mark } ≡ rule = cc e in
    let more : rest ≡ rules ++ unended front ∷ [] = ap rest_of e in
    cuts-unmarked ends before x (xs ++ c ∷ []) unmarked
    ∙ ap (with_front x) (again (cut ∷ rules) front (is ∙ ap (λ cs. cut ∷ cs) more))
    ∙ ap (λ here. here ∷ with_last rules front c (ends front c)) first

cuts-more : (ends : List Component → Component → Bool) (before xs : List Component) (rules : List Cut) (front : List Component) (c : Component)
    → cuts_behind ends before xs ≡ rules ++ unended front ∷ [] → MoreCuts ends before xs rules front c
cuts-more ends before [] rules front c e = cuts-none ends before rules front c e
cuts-more ends before (x ∷ xs) rules front c e =
    let more = first_cut ends (before ++ x ∷ []) xs in
    elim (cases_Bool (ends before x)) [
      | inl marked ↦ cuts-ended ends before x xs rules front c marked (sym (cuts-marked ends before x xs marked) ∙ e) (λ more. cuts-more ends [] xs more front c)
      | inr unmarked ↦
          cuts-going ends before x xs rules front c more.0 more.1.0 unmarked more.1.1 (ap (with_front x) (sym more.1.1) ∙ sym (cuts-unmarked ends before x xs unmarked) ∙ e)
          (λ more fronts. cuts-more ends (before ++ x ∷ []) xs more fronts c)
    ]

-- How a rule begins.

begun-other : (c : Component) (cs : List Component) → is_gap c ≡ false → start_of (c ∷ cs) ≡ (if is_at_keyword c then AtRule else Other)
begun-other c cs other = ap begun (trimmed_start-other c cs other)

with-known : (b : Bool) (c : Component) → start_with (if b then AtRule else Other) c ≡ (if b then AtRule else Other)
with-known true c = refl
with-known false c = refl

pub start-more : (cs : List Component) (c : Component) → start_of (cs ++ c ∷ []) ≡ start_with (start_of cs) c
start-more [] c = elim (cases_Bool (is_gap c)) [
  | inl gap ↦ ap begun (trimmed_start-gap c [] gap) ∙ sym (ap (λ b. cond b Nothing (if is_at_keyword c then AtRule else Other)) gap)
  | inr other ↦ begun-other c [] other ∙ sym (ap (λ b. cond b Nothing (if is_at_keyword c then AtRule else Other)) other)
]
start-more (x ∷ cs) c = elim (cases_Bool (is_gap x)) [
  | inl gap ↦ ap begun (trimmed_start-gap x (cs ++ c ∷ []) gap) ∙ start-more cs c ∙ sym (ap (λ xs. start_with (begun xs) c) (trimmed_start-gap x cs gap))
  | inr other ↦ begun-other x (cs ++ c ∷ []) other ∙ sym (ap (λ s. start_with s c) (begun-other x cs other) ∙ with-known (is_at_keyword x) c)
]

or-false : (b : Bool) → (b || false) ≡ b
or-false true = refl
or-false false = refl

-- so it tells what ends the rule
pub start-ends : (before : List Component) (c : Component) → ends_begun (start_of before) c ≡ ends_rule before c
start-ends before c = at (trimmed_start before)
  where
    plain : is_braces c ≡ (is_braces c || (is_semicolon c && false))
    plain = sym (ap (λ b. is_braces c || b) (and-false (is_semicolon c)) ∙ or-false (is_braces c))

    known : (b : Bool) → ends_begun (if b then AtRule else Other) c ≡ (is_braces c || (is_semicolon c && b))
    known true = sym (ap (λ b. is_braces c || b) (and-true (is_semicolon c)))
    known false = plain

    at : (trimmed : List Component) → ends_begun (begun trimmed) c ≡ (is_braces c || (is_semicolon c && begins_at_rule trimmed))
    at [] = plain
    at (x ∷ xs) = known (is_at_keyword x)

-- One more rule.

nothing-here : {A : Type 0} (xs ys zs : List A) → (xs ++ []) ++ (ys ++ zs) ≡ (xs ++ ys) ++ ([] ++ zs)
nothing-here xs ys zs = ap (λ all. all ++ (ys ++ zs)) (append-nil xs) ∙ sym (append_assoc xs ys zs)

read-more : {A : Type 0} (f : Cut → Option (List A)) (rules : List Cut) (cut : Cut) (old here : List A) → read_all f rules ≡ Some old → f cut ≡ Some here → read_all f (rules ++ cut ∷ []) ≡ Some (old ++ here)
read-more f [] cut old here e is =
    let none : [] ≡ old = cc e in
    ap (λ o. joined o (Some [])) is ∙ ap Some (append-nil here) ∙ ap (λ xs. Some (xs ++ here)) none
read-more {A = A} f (rule ∷ rules) cut old here e is = at (f rule) (read_all f rules) refl e (λ ys all. read-more f rules cut ys here all is)
  where
    at : (o p : Option (List A)) → read_all f rules ≡ p → joined o p ≡ Some old → ((ys : List A) → read_all f rules ≡ Some ys → read_all f (rules ++ cut ∷ []) ≡ Some (ys ++ here))
        → joined o (read_all f (rules ++ cut ∷ [])) ≡ Some (old ++ here)
    at None p all both again = absurd (cc both)
    at (Some xs) None all both again = absurd (cc both)
    at (Some xs) (Some ys) all both again =
        let whole : xs ++ ys ≡ old = cc both in
        ap (joined (Some xs)) (again ys all) ∙ ap Some (sym (append_assoc xs ys here)) ∙ ap (λ zs. Some (zs ++ here)) whole

-- what rules are refused for with one more behind them
refused-more : (rules : List Cut) (rule : Cut) (role : Role) → Next rules rule role
    → cut_refusals (rules ++ rule ∷ []) ≡ cut_refusals rules ++ (flat_map import_refusals (import_here role rule) ++ flat_map rule_refusals (item_here role rule))
refused-more rules rule role n =
    let imports = flat_map import_refusals (imports_in rules) in
    let items = flat_map rule_refusals (items_in rules) in
    let both : cut_refusals (rules ++ rule ∷ []) ≡ (imports ++ flat_map import_refusals (import_here role rule)) ++ (items ++ flat_map rule_refusals (item_here role rule)) =
    ap (λ is. flat_map import_refusals is ++ flat_map rule_refusals (items_in (rules ++ rule ∷ []))) n.imports
    ∙ ap (λ is. flat_map import_refusals (imports_in rules ++ import_here role rule) ++ flat_map rule_refusals is) n.items
    ∙ ap (λ rs. rs ++ flat_map rule_refusals (items_in rules ++ item_here role rule)) (flat_map-append import_refusals (imports_in rules) (import_here role rule))
    ∙ ap (λ rs. (imports ++ flat_map import_refusals (import_here role rule)) ++ rs) (flat_map-append rule_refusals (items_in rules) (item_here role rule)) in
    both ∙ order role n.before
  where
    order : (role : Role) → IsBefore role (items_in rules)
        → (flat_map import_refusals (imports_in rules) ++ flat_map import_refusals (import_here role rule)) ++ (flat_map rule_refusals (items_in rules) ++ flat_map rule_refusals (item_here role rule))
        ≡ cut_refusals rules ++ (flat_map import_refusals (import_here role rule) ++ flat_map rule_refusals (item_here role rule))
    order roles.Charset before = nothing-here (flat_map import_refusals (imports_in rules)) (flat_map rule_refusals (items_in rules)) []
    order roles.Item before = nothing-here (flat_map import_refusals (imports_in rules)) (flat_map rule_refusals (items_in rules)) (flat_map rule_refusals (rule ∷ []))
    order roles.Import before =
        let imports = flat_map import_refusals (imports_in rules) in
        let here = flat_map import_refusals (rule ∷ []) in
        ap (λ is. (imports ++ here) ++ (flat_map rule_refusals is ++ [])) before
        ∙ append_assoc imports here []
        ∙ ap (λ rs. rs ++ (here ++ [])) (sym (append-nil imports))
        ∙ ap (λ is. (imports ++ flat_map rule_refusals is) ++ (here ++ [])) (sym before)

read-none : {A B : Type 0} (f : A → Option (List B)) (rules more : List A) (old new : List B) → more ≡ rules ++ [] → read_all f rules ≡ Some old → new ≡ old → read_all f more ≡ Some new
read-none f rules more old new e is same = ap (read_all f) (e ∙ append-nil rules) ∙ is ∙ ap Some (sym same)

-- the refusal that is named of one more
named-more : (old new here : Option Refusal) (rules : List Cut) (rule : Cut) (more : List Refusal) → cut_refusals (rules ++ rule ∷ []) ≡ cut_refusals rules ++ more → here ≡ first_refusal more
    → old ≡ first_refusal (cut_refusals rules) → new ≡ sooner_of old here → new ≡ first_refusal (cut_refusals (rules ++ rule ∷ []))
named-more old new here rules rule more all is before made =
    made
    ∙ ap (λ r. sooner_of r here) before
    ∙ ap (sooner_of (first_refusal (cut_refusals rules))) is
    ∙ sym (ap first_refusal all ∙ first_refusal-append (cut_refusals rules) more)

-- what is added stays where nothing else of the builder counts
added-still : (role : Role) (old between new : SheetBuilder) (rule : Cut) → new.refusal ≡ between.refusal → new.imports ≡ between.imports → new.items ≡ between.items → HasAdded role old between rule → HasAdded role old new rule
added-still roles.Charset old between new rule refusal imports items added = record { refusal = refusal ∙ added.refusal; imports = imports ∙ added.imports; items = items ∙ added.items }
added-still roles.Import old between new rule refusal imports items added = record {
  refusal = refusal ∙ added.refusal;
  imports = λ none. (let more = added.imports (sym refusal ∙ none) in (more.0, more.1, imports ∙ more.2));
  items = items ∙ added.items;
}
added-still roles.Item old between new rule refusal imports items added = record {
  refusal = refusal ∙ added.refusal;
  items = λ none. (let more = added.items (sym refusal ∙ none) in (more.0, more.1, items ∙ more.2));
  imports = imports ∙ added.imports;
}

pub role-read : (old between new : SheetBuilder) (rules : List Cut) (rule : Cut) (role : Role) → role ≡ role_in old.part rule → new.part ≡ part_behind role
    → new.refusal ≡ between.refusal → new.imports ≡ between.imports → new.items ≡ between.items → HasAdded role old between rule → HasRead old rules → HasRead new (rules ++ rule ∷ [])
role-read old between new rules rule role told part refusal imports items added h =
    at role (subst (Next rules rule) (sym (told ∙ ap (λ p. role_in p rule) h.part)) (next rules rule)) part (added-still role old between new rule refusal imports items added)
  where
    at : (role : Role) → Next rules rule role → new.part ≡ part_behind role → HasAdded role old new rule → HasRead new (rules ++ rule ∷ [])
    at roles.Charset n part same = record {
      refusal = same.refusal ∙ h.refusal ∙ ap first_refusal (sym (refused-more rules rule roles.Charset n ∙ append-nil (cut_refusals rules)));
      imports = λ none. read-none import_of (imports_in rules) (imports_in (rules ++ rule ∷ [])) old.imports new.imports n.imports (h.imports (sym same.refusal ∙ none)) same.imports;
      items = λ none. read-none rule_of (items_in rules) (items_in (rules ++ rule ∷ [])) old.items new.items n.items (h.items (sym same.refusal ∙ none)) same.items;
      part = part ∙ sym n.part;
    }
    at roles.Import n part added = record {
      refusal =
          named-more old.refusal new.refusal (first_refusal (import_refusals rule)) rules rule _ (refused-more rules rule roles.Import n)
          (ap first_refusal (sym (append-nil (flat_map import_refusals (rule ∷ [])) ∙ append-nil (import_refusals rule)))) h.refusal added.refusal;
      imports = λ none.
          let more = added.imports none in
          ap (read_all import_of) n.imports
          ∙ read-more import_of (imports_in rules) rule old.imports more.0 (h.imports (sooner_of-none_left old.refusal (first_refusal (import_refusals rule)) (sym added.refusal ∙ none))) more.1
          ∙ ap Some (sym more.2);
      items = λ none. read-none rule_of (items_in rules) (items_in (rules ++ rule ∷ [])) old.items new.items n.items
          (h.items (sooner_of-none_left old.refusal (first_refusal (import_refusals rule)) (sym added.refusal ∙ none))) added.items;
      part = part ∙ sym n.part;
    }
    at roles.Item n part added = record {
      refusal =
          named-more old.refusal new.refusal (first_refusal (rule_refusals rule)) rules rule _ (refused-more rules rule roles.Item n)
          (ap first_refusal (sym (append-nil (rule_refusals rule)))) h.refusal added.refusal;
      imports = λ none. read-none import_of (imports_in rules) (imports_in (rules ++ rule ∷ [])) old.imports new.imports n.imports
          (h.imports (sooner_of-none_left old.refusal (first_refusal (rule_refusals rule)) (sym added.refusal ∙ none))) added.imports;
      items = λ none.
          let more = added.items none in
          ap (read_all rule_of) n.items
          ∙ read-more rule_of (items_in rules) rule old.items more.0 (h.items (sooner_of-none_left old.refusal (first_refusal (rule_refusals rule)) (sym added.refusal ∙ none))) more.1
          ∙ ap Some (sym more.2);
      part = part ∙ sym n.part;
    }

-- One more component.

-- it ends the rule
pub taken-ending : (old new : SheetBuilder) (taken : List Component) (c : Component) → ends_begun old.start c ≡ true → new.current ≡ [] → new.start ≡ Nothing
    → ((rules : List Cut) → HasRead old rules → HasRead new (rules ++ ended old.current c ∷ [])) → HasTaken old taken → HasTaken new (taken ++ c ∷ [])
taken-ending old new taken c ends current start reads h = record {
  rules = h.rules ++ ended old.current c ∷ [];
  cut =
      cuts-more ends_rule [] taken h.rules old.current c h.cut
      ∙ ap (with_last h.rules old.current c)
      (ap (λ b. ends_rule b c) (since-none h.rules old.current) ∙ sym (start-ends old.current c) ∙ ap (λ s. ends_begun s c) (sym h.start) ∙ ends)
      ∙ sym (append_assoc h.rules (ended old.current c ∷ []) (unended [] ∷ []))
      ∙ ap (λ front. (h.rules ++ ended old.current c ∷ []) ++ unended front ∷ []) (sym current);
  read = reads h.rules h.read;
  start = start ∙ sym (ap start_of current);
}

-- it goes before the next end
pub taken-going : (old new : SheetBuilder) (taken : List Component) (c : Component) → ends_begun old.start c ≡ false → new.current ≡ old.current ++ c ∷ [] → new.start ≡ start_with old.start c
    → new.refusal ≡ old.refusal → new.imports ≡ old.imports → new.items ≡ old.items → new.part ≡ old.part → HasTaken old taken → HasTaken new (taken ++ c ∷ [])
taken-going old new taken c ends current start refusal imports items part h = record {
  rules = h.rules;
  cut =
      cuts-more ends_rule [] taken h.rules old.current c h.cut
      ∙ ap (with_last h.rules old.current c)
      (ap (λ b. ends_rule b c) (since-none h.rules old.current) ∙ sym (start-ends old.current c) ∙ ap (λ s. ends_begun s c) (sym h.start) ∙ ends)
      ∙ ap (λ front. h.rules ++ unended front ∷ []) (sym current);
  read = record {
    refusal = refusal ∙ h.read.refusal;
    imports = λ none. h.read.imports (sym refusal ∙ none) ∙ ap Some (sym imports);
    items = λ none. h.read.items (sym refusal ∙ none) ∙ ap Some (sym items);
    part = part ∙ h.read.part;
  };
  start = start ∙ ap (λ s. start_with s c) h.start ∙ sym (ap start_of current ∙ start-more old.current c);
}

-- At the end all rules are read.

pub record IsRead (builder : SheetBuilder) (taken : List Component) : Type 0 where
  pub refusal : builder.refusal ≡ first_refusal (sheet_refusals taken)
  pub sheet : builder.refusal ≡ None → sheet_of taken ≡ Some (record { imports = builder.imports; items = builder.items })

pub taken-read : (old new : SheetBuilder) (taken : List Component) → ((rules : List Cut) → HasRead old rules → HasRead new (rules ++ unended old.current ∷ [])) → HasTaken old taken → IsRead new taken
taken-read old new taken reads h =
    let read = subst (HasRead new) (sym h.cut) (reads h.rules h.read) in
    record {
      refusal = read.refusal;
      sheet = λ none. ap (λ o. sheet_with o (read_all rule_of (items_in (cuts ends_rule taken)))) (read.imports none) ∙ ap (sheet_with (Some new.imports)) (read.items none);
    }
