-- What is shown joins, and what shows the same is kept.
use Rattle.std.proofs.Common.{◌≡◌, List, [], ◌∷◌, ◌++◌, ◌∙◌, refl, sym, ap, flat_map}
use Rattle.std.specs.List.{AllByRecursion}
use Rattle.std.proofs.lemmas.Grind.{flat_map-append}
use Rattle.sheet_types.specs.Contexts.{Context}
use Rattle.sheet_types.specs.Statements.{Statement, says, say_all}
use Rattle.sheet_types.specs.declared.sheet.Item.{Item}
use Rattle.cascade_spec.specs.Cascade.{Question}
use Rattle.cascade_spec.specs.Contents.{IsKept, SameWinners}
use Rattle.cascade_spec.specs.Showing.{showing, joined, entries_shown, layers_shown, passed_shown, winner_among, last_ones}

pub showing-append : (q : Question) (a b : List Statement) → showing q (a ++ b) ≡ joined (showing q a) (showing q b)
showing-append q a b =
    let entries = flat_map-append (entries_shown q) a b in
    let layers = flat_map-append (layers_shown q.world) a b in
    let passed = flat_map-append (passed_shown q.world) a b in
    cc (entries, layers, passed)

pub said-append : (a b : List Item) (c : Context) → say_all (a ++ b) c ≡ say_all a c ++ say_all b c
said-append a b c = flat_map-append (λ item. says item c) a b

pub kept-shown : (q : Question) (old new : List Statement) → showing q new ≡ showing q old → IsKept q old new
kept-shown q old new same = record { winner = ap (winner_among q.important) same; passed = ap (λ s. last_ones s.passed) same }

pub kept-twice : (a b c : List Statement) → SameWinners a b → SameWinners b c → SameWinners a c
kept-twice a b c first second = λ q. record { winner = (second q).winner ∙ (first q).winner; passed = (second q).passed ∙ (first q).passed }

-- items that show the same one by one show the same
items-shown : (q : Question) (old new : Item → List Statement) (items : List Item) → AllByRecursion (λ item. showing q (new item) ≡ showing q (old item)) items
    → showing q (flat_map new items) ≡ showing q (flat_map old items)
items-shown q old new [] each = refl
items-shown q old new (item ∷ items) each =
    showing-append q (new item) (flat_map new items)
    ∙ ap (λ s. joined s (showing q (flat_map new items))) each.0
    ∙ ap (joined (showing q (old item))) (items-shown q old new items each.1)
    ∙ sym (showing-append q (old item) (flat_map old items))

pub kept-items : (q : Question) (old new : Item → List Statement) (items : List Item) → AllByRecursion (λ item. showing q (new item) ≡ showing q (old item)) items
    → IsKept q (flat_map old items) (flat_map new items)
kept-items q old new items each = kept-shown q (flat_map old items) (flat_map new items) (items-shown q old new items each)
