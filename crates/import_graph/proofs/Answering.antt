-- What work on each item answers, where each answer is what a function gives.
use Rattle.std.proofs.Common.{◌≡◌, List, [], ◌∷◌, Result, Ok, IfOk, map, refl, ap, ◌∙◌}
use Rattle.std.specs.Borrow.{Bor}
use Rattle.css_tokens.specs.declared.memory.OutOfMemory.{OutOfMemory}
use Rattle.work_pool.specs.Answers.{IsAnswered}
use denote.Param.Members.{Shared}

pub answered-map : {F T U : Type 0} (g : Shared F (Bor T × Unit {0}) (Result U OutOfMemory)) (work : F) (gives : T → U) (items : List T) (list : List U) → IsAnswered g work items list
    → ((item : Bor T) (answer : Result U OutOfMemory) → g.post work (item, tt) answer → IfOk answer (λ x. x ≡ gives item.now)) → list ≡ map gives items
answered-map g work gives [] [] all each = refl
answered-map g work gives [] (y ∷ ys) all each = absurd all
answered-map g work gives (x ∷ xs) [] all each = absurd all
answered-map {F} {T} {U} g work gives (x ∷ xs) (y ∷ ys) all each =
    let here : y ≡ gives all.0.shown.now = each all.0.shown (Ok y) all.0.says.met in
    (λ i. (here ∙ ap gives all.0.shows) i ∷ answered-map g work gives xs ys all.1 each i)
