-- A limit that a text passes is one that its file passes.
use Rattle.std.proofs.Common.{◌≡◌, ℕ, ◌≤◌, List, length, Bool, true, false, cond, Some, None, arith}
use Rattle.css_places.specs.declared.finding.LimitKind.{LimitKind}
use Rattle.css_places.specs.declared.finding.LimitKind.TheVariants.{L2, L8}
use Rattle.std.specs.List.{list_any}
use Rattle.findings.specs.Limits.{is_long, items_lists}
use Rattle.csslower.specs.Answers.{IsPassed}
use Rattle.csslower.specs.Findings.{PassesLimit}
use Rattle.csslower.specs.Words.{is_scoped}

no-other : (b : Bool) → cond b (Some L8) None ≡ Some L2 → ⊥
no-other true e = let same : L8 ≡ L2 = cc e in cc same
no-other false e = cc e

-- a text is not too long by its media query lists
no-length : (bytes : List ℕ) → PassesLimit bytes L2 → ⊥
unfolding PassesLimit
no-length bytes r = no-other (list_any is_long (items_lists r.0.items)) r.3

pub passed-short : (path bytes : List ℕ) (kind : LimitKind) → is_scoped path ≡ false → length bytes ≤ 4194304 → PassesLimit bytes kind → IsPassed path (Some bytes) kind
passed-short path bytes L2 unscoped short passes = absurd (no-length bytes passes)
passed-short path bytes L8 unscoped short passes = ((λ long. omega (arith, short, long)), (unscoped, passes))
