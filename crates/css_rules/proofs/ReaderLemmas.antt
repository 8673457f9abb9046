-- One turn of the readers' loops.
use Rattle.std.proofs.Common.{◌≡◌, List, [], ◌∷◌, ◌++◌, Option, Some, None, refl, sym, ◌∙◌, ap, flat_map, option_map}
use Rattle.std.proofs.lemmas.List.{append_assoc, append-nil}
use Rattle.css_rules.specs.declared.refusal.Refusal.{Refusal}
use Rattle.css_rules.specs.Cuts.{Cut}
use Rattle.css_rules.specs.ReadAll.{joined, read_all}
use Rattle.css_rules.specs.Refusals.{sooner_of, first_refusal}
use Rattle.css_rules.proofs.RefusalLemmas.{sooner_of-assoc, first_refusal-append}

-- the refusal so far and those of what is left
pub refusal-turn : (f : Cut → List Refusal) (left left' : List Cut) (cut : Cut) (old here new whole : Option Refusal)
    → left ≡ cut ∷ left' → here ≡ first_refusal (f cut) → new ≡ sooner_of old here
    → sooner_of old (first_refusal (flat_map f left)) ≡ whole → sooner_of new (first_refusal (flat_map f left')) ≡ whole
refusal-turn f left left' cut old here new whole first is made so_far =
    ap (λ r. sooner_of r (first_refusal (flat_map f left'))) made
    ∙ sooner_of-assoc old here (first_refusal (flat_map f left'))
    ∙ ap (λ r. sooner_of old (sooner_of r (first_refusal (flat_map f left')))) is
    ∙ ap (sooner_of old) (sym (first_refusal-append (f cut) (flat_map f left')))
    ∙ ap (λ cuts. sooner_of old (first_refusal (flat_map f cuts))) (sym first)
    ∙ so_far

append-some : {A : Type 0} (xs ys : List A) (o : Option (List A)) → option_map (λ more. xs ++ more) (option_map (λ more. ys ++ more) o) ≡ option_map (λ more. (xs ++ ys) ++ more) o
append-some xs ys None = refl
append-some xs ys (Some zs) = ap Some (sym (append_assoc xs ys zs))

-- the items so far and those of what is left
pub items-turn : {A : Type 0} (g : Cut → Option (List A)) (left left' : List Cut) (cut : Cut) (old here new : List A) (whole : Option (List A))
    → left ≡ cut ∷ left' → g cut ≡ Some here → new ≡ old ++ here
    → option_map (λ more. old ++ more) (read_all g left) ≡ whole → option_map (λ more. new ++ more) (read_all g left') ≡ whole
items-turn g left left' cut old here new whole first is made so_far =
    ap (λ items. option_map (λ more. items ++ more) (read_all g left')) made
    ∙ sym (append-some old here (read_all g left'))
    ∙ ap (λ o. option_map (λ more. old ++ more) (joined o (read_all g left'))) (sym is)
    ∙ ap (λ cuts. option_map (λ more. old ++ more) (read_all g cuts)) (sym first)
    ∙ so_far

-- nothing is left
pub items-end : {A : Type 0} (g : Cut → Option (List A)) (left : List Cut) (items : List A) (whole : Option (List A)) → left ≡ []
    → option_map (λ more. items ++ more) (read_all g left) ≡ whole → whole ≡ Some items
items-end g left items whole none so_far = sym so_far ∙ ap (λ cuts. option_map (λ more. items ++ more) (read_all g cuts)) none ∙ ap Some (append-nil items)
