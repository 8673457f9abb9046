use Rattle.std.proofs.Common.{◌≡◌, ℕ, List, [], ◌∷◌, ◌++◌, length, true, nat_eq, eqb-true, refl, sym, ap, ◌∙◌, arith}
use Rattle.std.proofs.lemmas.List.{append-nil}
use Rattle.std.proofs.lemmas.Str.{chars-IsAscii}
use Rattle.css_tokens.specs.NameText.{name_text, chars_text}
use Rattle.media_spelling.proofs.write.write_name.Goals as goal

no-text : name_text [] ≡ []
no-text = ap chars_text (chars-IsAscii [] (λ i. omega arith))

none-long : (text : List ℕ) → nat_eq (length text) 0 ≡ true → text ≡ []
none-long [] h = refl
none-long (x ∷ text) h = let e = eqb-true (length (x ∷ text)) 0 h in absurd (omega arith)

pub returns-then-is_empty-clause-ok : goal.returns-then-is_empty-clause-ok
returns-then-is_empty-clause-ok c =
    let out = c.args.out.now in
    let none : c.args.name.now ≡ [] = none-long c.args.name.now (sym c.is_empty.ensures ∙ c.if-is_empty.true) in
    sym (append-nil out) ∙ ap (λ (t : List ℕ). out ++ t) (sym no-text) ∙ ap (λ (t : List ℕ). out ++ name_text t) (sym none)
