-- What is made of rules, from what is made of the rules in their blocks.
use Rattle.std.proofs.Common.{◌≡◌, ℕ, zero, suc, ◌<◌, ◌≤◌, List, [], ◌∷◌, ◌++◌, map, length, Bool, true, false, Option, Some, None, MatchOption, refl, ◌∙◌, ap, arith, flat_map, if◌then◌else◌, length-append}
use Rattle.std.proofs.lemmas.List.Folds.{flat_map-map}
use Rattle.std.specs.List.{AllByRecursion}
use Rattle.css_tokens.specs.declared.component.Component.{Component}
use Rattle.css_tokens.specs.Piece.{Piece}
use Rattle.css_tokens.specs.Trees.{closing, pieces_all, pieces_of, pieces_of-Block, pieces_of-Single}
use Rattle.css_tokens.specs.declared.component.Component as component
use Rattle.css_tokens.specs.declared.component.Component.TheVariants.{outs-Single}
use Rattle.css_tokens.specs.declared.component.Block as block
use Rattle.media_tree.specs.ComponentInduction.{by_components}
use Rattle.css_components.specs.Components.{inside, is_braces, layer_items}
use Rattle.css_rules.specs.Cuts.{Cut, cuts, cuts_behind, with_front}
use Rattle.css_rules.specs.NestedRules.{Making, in_block, made, made_to}
use Rattle.css_rules.specs.ReadAll.{joined, read_all}
use Rattle.css_rules.specs.RuleEnds.{ends_rule}
use Rattle.css_rules.specs.Sheets.{reading, refusing, rule_of, rule_refusals, rules_of, rules_refusals}
use Rattle.css_rules.proofs.Heads.{inside-Block}

-- What stands in a block has fewer tokens than the block: its opening token and its closing one are two more.

abbrev count : List Component → ℕ
count cs = length (pieces_all cs)

single-shorter : (p : Piece) → count (inside (component.Single p)) < length (pieces_of (component.Single p))
single-shorter p =
    let none = ap (λ v. count (layer_items v)) (outs-Single p) in
    let one = ap length (pieces_of-Single p) in
    omega (arith, none, one)

block-shorter : (b : block.Block) → count (inside (component.Block b)) < length (pieces_of (component.Block b))
block-shorter b =
    let items = ap count (inside-Block b) in
    let all = ap length (pieces_of-Block b) in
    omega (arith, items, all, length-append (pieces_all b.items) (closing b.opening b.close ∷ []))

pub inside-shorter : (c : Component) → length (pieces_all (inside c)) < length (pieces_of c)
inside-shorter c =
    by_components (λ d. count (inside d) < length (pieces_of d)) single-shorter (λ b each. block-shorter b) c

-- So what holds of all components with fewer tokens holds of what stands in each of these.
inside-each : (P : List Component → Type 0) (n : ℕ) → ((cs : List Component) → count cs < n → P cs) → (cs : List Component) → count cs ≤ n → AllByRecursion (λ c. P (inside c)) cs
inside-each P n below [] le = tt
inside-each P n below (c ∷ cs) le =
    let both = length-append (pieces_of c) (pieces_all cs) in
    let here : count (inside c) < n = omega (arith, both, inside-shorter c) in
    let rest : count cs ≤ n = omega (arith, both) in
    (below (inside c) here, inside-each P n below cs rest)

-- The marks of cuts are among the components.

-- P holds of the mark, where there is one
abbrev pub OfMark : (Component → Type 0) → Cut → Type 0
OfMark P cut = MatchOption cut.mark (Unit {0}) P

-- P holds of what stands in each mark
abbrev pub InBlocks : (List Component → Type 0) → List Cut → Type 0
InBlocks P cs = AllByRecursion (OfMark (λ mark. P (inside mark))) cs

fronted : (P : Component → Type 0) (c : Component) (cs : List Cut) → AllByRecursion (OfMark P) cs → AllByRecursion (OfMark P) (with_front c cs)
fronted P c [] h = tt
fronted P c (cut ∷ cs) h = (h.0, h.1)

either : (P : Component → Type 0) (b : Bool) (xs ys : List Cut) → AllByRecursion (OfMark P) xs → AllByRecursion (OfMark P) ys → AllByRecursion (OfMark P) (if b then xs else ys)
either P true xs ys h k = h
either P false xs ys h k = k

pub marks-among : (P : Component → Type 0) (ends : List Component → Component → Bool) (before cs : List Component) → AllByRecursion P cs → AllByRecursion (OfMark P) (cuts_behind ends before cs)
marks-among P ends before [] h = (tt, tt)
marks-among P ends before (c ∷ cs) h =
    either P (ends before c) (record { front = []; mark = Some c } ∷ cuts_behind ends [] cs) (with_front c (cuts_behind ends (before ++ c ∷ []) cs))
    (h.0, marks-among P ends [] cs h.1)
    (fronted P c (cuts_behind ends (before ++ c ∷ []) cs) (marks-among P ends (before ++ c ∷ []) cs h.1))

blocks-below : (P : List Component → Type 0) (n : ℕ) → ((cs : List Component) → count cs < n → P cs) → (cs : List Component) → count cs ≤ n → InBlocks P (cuts ends_rule cs)
blocks-below P n below cs le = marks-among (λ c. P (inside c)) ends_rule [] cs (inside-each P n below cs le)

-- What holds of components whenever it holds of what stands in the blocks that end their rules holds of all components.

by_count : (P : List Component → Type 0) → ((cs : List Component) → InBlocks P (cuts ends_rule cs) → P cs) → (n : ℕ) (cs : List Component) → count cs < n → P cs
by_count P step zero cs lt = absurd (omega (arith, lt))
by_count P step (suc n) cs lt =
    let le : count cs ≤ n = omega (arith, lt) in
    step cs (blocks-below P n (by_count P step n) cs le)

pub by_blocks : (P : List Component → Type 0) → ((cs : List Component) → InBlocks P (cuts ends_rule cs) → P cs) → (cs : List Component) → P cs
by_blocks P step cs =
    let lt : count cs < suc (count cs) = omega arith in
    by_count P step (suc (count cs)) cs lt

-- What is made of rules, where it is made of the same blocks.

module _ {A : Type 0} (making : Making A) where
  same-block : (f g : List Component → A) (mark : Option Component) → MatchOption mark (Unit {0}) (λ c. f (inside c) ≡ g (inside c)) → in_block making f mark ≡ in_block making g mark
  same-block f g None h = refl
  same-block f g (Some mark) h = ap (λ inner. if is_braces mark then inner else making.of_all []) h

  abbrev of_cuts : (List Component → A) → List Cut → List A
  of_cuts f cs = map (λ cut. making.of_rule cut (in_block making f cut.mark)) cs

  same-cuts : (f g : List Component → A) (cs : List Cut) → InBlocks (λ xs. f xs ≡ g xs) cs → of_cuts f cs ≡ of_cuts g cs
  same-cuts f g [] h = refl
  same-cuts f g (cut ∷ cs) h =
      ap (λ inner. making.of_rule cut inner ∷ of_cuts f cs) (same-block f g cut.mark h.0)
      ∙ ap (λ rest. making.of_rule cut (in_block making g cut.mark) ∷ rest) (same-cuts f g cs h.1)

  -- depth does not matter where it is more than there are tokens
  same-depth : (m n : ℕ) (cs : List Component) → count cs < m → count cs < n → made_to making m cs ≡ made_to making n cs
  same-depth zero n cs lt more = absurd (omega (arith, lt))
  same-depth (suc m) zero cs lt more = absurd (omega (arith, more))
  same-depth (suc m) (suc n) cs lt more =
      let le : count cs ≤ count cs = omega arith in
      ap making.of_all (same-cuts (made_to making m) (made_to making n) (cuts ends_rule cs)
      (blocks-below (λ xs. made_to making m xs ≡ made_to making n xs) (count cs)
      (λ xs fewer. (
      let first : count xs < m = omega (arith, fewer, lt) in
      let second : count xs < n = omega (arith, fewer, more) in
      same-depth m n xs first second))
      cs le))

  pub made-rules : (cs : List Component) → made making cs ≡ making.of_all (map (λ cut. making.of_rule cut (in_block making (made making) cut.mark)) (cuts ends_rule cs))
  made-rules cs =
      let le : count cs ≤ count cs = omega arith in
      ap making.of_all (same-cuts (made_to making (count cs)) (made making) (cuts ends_rule cs)
      (blocks-below (λ xs. made_to making (count cs) xs ≡ made making xs) (count cs)
      (λ xs fewer. (
      let enough : count xs < suc (count xs) = omega arith in
      same-depth (count cs) (suc (count xs)) xs fewer enough))
      cs le))

-- Sheets rule by rule.

read-mapped : {X B : Type 0} (f : X → Option (List B)) (xs : List X) → read_all (λ (o : Option (List B)). o) (map f xs) ≡ read_all f xs
read-mapped f [] = refl
read-mapped f (x ∷ xs) = ap (joined (f x)) (read-mapped f xs)

pub rules-read : (cs : List Component) → rules_of cs ≡ read_all rule_of (cuts ends_rule cs)
rules-read cs = made-rules reading cs ∙ read-mapped rule_of (cuts ends_rule cs)

pub rules-refused : (cs : List Component) → rules_refusals cs ≡ flat_map rule_refusals (cuts ends_rule cs)
rules-refused cs = made-rules refusing cs ∙ flat_map-map (λ refusals. refusals) rule_refusals (cuts ends_rule cs)

-- what holds of all components holds in all blocks
pub in-blocks : (P : List Component → Type 0) → ((cs : List Component) → P cs) → (rules : List Cut) → InBlocks P rules
in-blocks P holds [] = tt
in-blocks P holds (rule ∷ rules) = (at rule.mark, in-blocks P holds rules)
  where
    at : (o : Option Component) → MatchOption o (Unit {0}) (λ mark. P (inside mark))
    at None = tt
    at (Some mark) = holds (inside mark)
