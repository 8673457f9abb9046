-- Printed items one after another are cut into one cut for each that is printed.
use Rattle.std.proofs.Common.{◌≡◌, List, [], ◌∷◌, ◌++◌, flat_map, Bool, true, Option, Some, sym, ◌∙◌, ap, inl, inr, ◌⊎◌}
use Rattle.std.specs.List.{AllByRecursion}
use Rattle.std.proofs.lemmas.List.{append_assoc, append-nil}
use Rattle.css_tokens.specs.declared.component.Component.{Component}
use Rattle.css_rules.specs.Cuts.{Cut}
use Rattle.css_rules.specs.ReadAll.{joined, read_all}
use Rattle.sheet_types.specs.SheetAgain.{line_feed}
use Rattle.css_rules.proofs.PreludeAgain.{lead_of}

-- a front and its mark are cut off, whatever follows, and with a line feed before them too
abbrev pub IsCutOff : (List Component → List Cut) → List Component → Component → Type 0
IsCutOff cut front mark = (b : Bool) (rest : List Component) → cut (lead_of b ++ (front ++ mark ∷ rest)) ≡ record { front = lead_of b ++ front; mark = Some mark } ∷ cut rest

-- what is printed is one cut, of which so much is read
pub record IsOneCut {A : Type 0} (cut : List Component → List Cut) (f : Cut → Option (List A)) (cs : List Component) (made : List A) : Type 0 where
  pub front : List Component
  pub mark : Component
  pub is : cs ≡ front ++ mark ∷ line_feed ∷ []
  pub off : IsCutOff cut front mark
  pub same : (b : Bool) → f (record { front = lead_of b ++ front; mark = Some mark }) ≡ Some made

-- what is printed is nothing, of which nothing is wanted, or one cut
abbrev pub IsPart : {A : Type 0} → (List Component → List Cut) → (Cut → Option (List A)) → List Component → List A → Type 0
IsPart cut f cs made = ((cs ≡ []) × (made ≡ [])) ⊎ IsOneCut cut f cs made

module _ {X A : Type 0} (cut : List Component → List Cut) (f : Cut → Option (List A)) (again : X → List Component) (g : X → List A) (ends : (b : Bool) → read_all f (cut (lead_of b)) ≡ Some []) where
  abbrev of_rest : Bool → List X → List Component → Option (List A)
  of_rest b xs cs = read_all f (cut (lead_of b ++ (cs ++ flat_map again xs)))

  part-of : (b : Bool) (x : X) (xs : List X) → IsPart cut f (again x) (g x) → ((d : Bool) → read_all f (cut (lead_of d ++ flat_map again xs)) ≡ Some (flat_map g xs))
      → of_rest b xs (again x) ≡ Some (g x ++ flat_map g xs)
  part-of b x xs (inl none) rest = ap (of_rest b xs) none.0 ∙ rest b ∙ sym (ap (λ (ys : List A). Some (ys ++ flat_map g xs)) none.1)
  part-of b x xs (inr p) rest =
      let behind = line_feed ∷ flat_map again xs in
      ap (of_rest b xs) p.is
      ∙ ap (λ cs. read_all f (cut (lead_of b ++ cs))) (append_assoc p.front (p.mark ∷ line_feed ∷ []) (flat_map again xs))
      ∙ ap (read_all f) (p.off b behind)
      ∙ ap (λ o. joined o (read_all f (cut behind))) (p.same b)
      ∙ ap (joined (Some (g x))) (rest true)

  -- of the whole is read what is read of each
  pub parts-of : (b : Bool) (xs : List X) → AllByRecursion (λ x. IsPart cut f (again x) (g x)) xs → read_all f (cut (lead_of b ++ flat_map again xs)) ≡ Some (flat_map g xs)
  parts-of b [] each = ap (λ cs. read_all f (cut cs)) (append-nil (lead_of b)) ∙ ends b
  parts-of b (x ∷ xs) each = part-of b x xs each.0 (λ d. parts-of d xs each.1)
