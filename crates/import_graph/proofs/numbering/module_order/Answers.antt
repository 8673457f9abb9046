use Rattle.std.proofs.Common.{rules, ◌≡◌, ◌<◌, ◌≤◌, ◌+◌, ◌∙◌, sym, ap, arith, length, List, [], ◌∷◌, ◌++◌, ℕ, nat_eq, Some, None, true, false, set, reverse, subst, length-append, replicate}
use Rattle.std.specs.List.{list_any}
use Rattle.std.proofs.lemmas.List.{length-set, length-reverse}
use Rattle.import_graph.specs.Order.{targets_at}
use Rattle.import_graph.proofs.Numbers.{Numbers, numbers-same}
use Rattle.import_graph.proofs.Numbers.Numbers.{done}
use Rattle.import_graph.proofs.OrderSteps.{left, unset, step-again, step-missing, step-first, beyond, tell-more, tell-none, unset-less, unset-all, left-less, read-at, numbered-by}
use Rattle.import_graph.proofs.numbering.module_order.Goals as goal

pub files-init : goal.files-init
files-init c =
    let start : c.push.new.self.items ≡ 0 ∷ [] = search rules in
    let flags : c.in_ok-is_numbered.is_numbered.items ≡ replicate (length c.args.targets.now) false = search rules in
    record {
      order = λ all goes. subst (λ (l : List ℕ). Numbers nat_eq (targets_at c.args.targets.now) [] (reverse l) all) start (subst (λ (l : List ℕ). Numbers nat_eq (targets_at c.args.targets.now) l (reverse c.push.new.self.items) all) c.new-order.ensures goes);
      tells = rw c.new-order.ensures (tell-none c.in_ok-is_numbered.is_numbered.items (length c.args.targets.now) flags);
      sized = search rules;
      counted = omega (arith, ap length c.new-order.ensures, ap unset flags, unset-all (length c.args.targets.now));
    }

pub files-preserved-then-file-targets : goal.files-preserved-then-file-targets
files-preserved-then-file-targets c =
    let popped : c.files.todo.items ≡ c.pop.new.self.items ++ c.in-Some.file ∷ [] = c.in-Some.ensures.items in
    let past : length c.args.targets.now ≤ c.in-Some.file = search rules in
    let none : targets_at c.args.targets.now c.in-Some.file ≡ None = beyond c.args.targets.now c.in-Some.file past in
    record {
      order = step-missing c.args.targets.now (λ all. Numbers nat_eq (targets_at c.args.targets.now) [] (0 ∷ []) all) c.files.order c.files.todo.items c.pop.new.self.items c.in-Some.file popped none c.files.invariant.order;
      tells = c.files.invariant.tells;
      sized = c.files.invariant.sized;
      counted = c.files.invariant.counted;
    }

pub files-preserved-then-index : goal.files-preserved-then-index
files-preserved-then-index c =
    let popped : c.files.todo.items ≡ c.pop.new.self.items ++ c.in-Some.file ∷ [] = c.in-Some.ensures.items in
    let inside : c.in-Some.file < length c.args.targets.now = search rules in
    let has : list_any (nat_eq c.in-Some.file) c.files.order ≡ true = numbered-by c.files.is_numbered.items c.files.order c.in-Some.file c.index.result.now (omega (arith, c.files.invariant.sized, inside)) c.files.invariant.tells c.index.ensures ∙ c.if-index.true in
    record {
      order = step-again c.args.targets.now (λ all. Numbers nat_eq (targets_at c.args.targets.now) [] (0 ∷ []) all) c.files.order c.files.todo.items c.pop.new.self.items c.in-Some.file popped has c.files.invariant.order;
      tells = c.files.invariant.tells;
      sized = c.files.invariant.sized;
      counted = c.files.invariant.counted;
    }

pub files-preserved-in_default-targets : goal.files-preserved-in_default-targets
files-preserved-in_default-targets c =
    let popped : c.files.todo.items ≡ c.pop.new.self.items ++ c.in-Some.file ∷ [] = c.in-Some.ensures.items in
    let inside : c.in-Some.file < length c.args.targets.now = search rules in
    let none : targets_at c.args.targets.now c.in-Some.file ≡ None = read-at c.args.targets.now c.in-Some.file c.index-targets-file.result None inside c.index-targets-file.is ∙ c.in_default-targets.is in
    record {
      order = step-missing c.args.targets.now (λ all. Numbers nat_eq (targets_at c.args.targets.now) [] (0 ∷ []) all) c.files.order c.files.todo.items c.pop.new.self.items c.in-Some.file popped none c.files.invariant.order;
      tells = c.files.invariant.tells;
      sized = c.files.invariant.sized;
      counted = c.files.invariant.counted;
    }

pub files-preserved : goal.files-preserved
files-preserved c =
    let popped : c.files.todo.items ≡ c.pop.new.self.items ++ c.in-Some.file ∷ [] = c.in-Some.ensures.items in
    let inside : c.in-Some.file < length c.args.targets.now = search rules in
    let flagged : c.in-Some.file < length c.files.is_numbered.items = omega (arith, c.files.invariant.sized, inside) in
    let some : targets_at c.args.targets.now c.in-Some.file ≡ Some c.in-Some-targets.named = read-at c.args.targets.now c.in-Some.file c.index-targets-file.result None inside c.index-targets-file.is ∙ c.in-Some-targets.is in
    let free : list_any (nat_eq c.in-Some.file) c.files.order ≡ false = numbered-by c.files.is_numbered.items c.files.order c.in-Some.file c.index.result.now flagged c.files.invariant.tells c.index.ensures ∙ c.if-index.false in
    let pushes : c.push_reversed.new.stack.items ≡ c.pop.new.self.items ++ reverse c.in-Some-targets.named = c.in_ok-push_reversed.ensures ∙ ap (λ (l : List ℕ). c.pop.new.self.items ++ reverse l) c.as_slice.ensures in
    record {
      order = step-first c.args.targets.now (λ all. Numbers nat_eq (targets_at c.args.targets.now) [] (0 ∷ []) all) c.files.order c.files.todo.items c.pop.new.self.items c.push_reversed.new.stack.items c.push-in-Some.new.self c.in-Some-targets.named c.in-Some.file popped free some pushes c.in_ok-push-2.ensures.ok c.files.invariant.order;
      tells = rw c.in_ok-push-2.ensures.ok (tell-more c.files.is_numbered.items c.files.order c.in-Some.file flagged c.files.invariant.tells);
      sized = length-set c.files.is_numbered.items c.in-Some.file true ∙ c.files.invariant.sized;
      counted = omega (arith, c.files.invariant.counted, ap length c.in_ok-push-2.ensures.ok, length-append c.files.order (c.in-Some.file ∷ []), unset-less c.files.is_numbered.items c.in-Some.file flagged (read-at c.files.is_numbered.items c.in-Some.file c.index.result.now false flagged c.index.ensures ∙ c.if-index.false));
    }

pub files-smaller : goal.files-smaller
files-smaller c =
    let popped : c.files.todo.items ≡ c.pop.new.self.items ++ c.in-Some.file ∷ [] = c.in-Some.ensures.items in
    let inside : c.in-Some.file < length c.args.targets.now = search rules in
    let flagged : c.in-Some.file < length c.files.is_numbered.items = omega (arith, c.files.invariant.sized, inside) in
    let some : targets_at c.args.targets.now c.in-Some.file ≡ Some c.in-Some-targets.named = read-at c.args.targets.now c.in-Some.file c.index-targets-file.result None inside c.index-targets-file.is ∙ c.in-Some-targets.is in
    let pushes : c.push_reversed.new.stack.items ≡ c.pop.new.self.items ++ reverse c.in-Some-targets.named = c.in_ok-push_reversed.ensures ∙ ap (λ (l : List ℕ). c.pop.new.self.items ++ reverse l) c.as_slice.ensures in
    let fewer : left (set c.files.is_numbered.items c.in-Some.file true) c.args.targets.now + length c.in-Some-targets.named ≡ left c.files.is_numbered.items c.args.targets.now =
    left-less c.files.is_numbered.items c.args.targets.now c.in-Some.file c.in-Some-targets.named flagged c.files.invariant.sized (read-at c.files.is_numbered.items c.in-Some.file c.index.result.now false flagged c.index.ensures ∙ c.if-index.false) some in
    omega (arith, fewer, ap length pushes, ap length popped, length-append c.pop.new.self.items (reverse c.in-Some-targets.named), length-append c.pop.new.self.items (c.in-Some.file ∷ []), length-reverse c.in-Some-targets.named)

pub returns : goal.returns
returns c =
    let none : c.files.todo.items ≡ [] = search rules in
    let all : Numbers nat_eq (targets_at c.args.targets.now) [] (0 ∷ []) c.files.order = c.files.invariant.order c.files.order (subst (λ (l : List ℕ). Numbers nat_eq (targets_at c.args.targets.now) c.files.order (reverse l) c.files.order) (sym none) done) in
    let enough = numbers-same nat_eq (targets_at c.args.targets.now) all in
    record {
      order = sym (enough (length c.args.targets.now) (omega (arith, c.files.invariant.counted)));
      enough = λ more many. enough more (omega (arith, c.files.invariant.counted));
    }
