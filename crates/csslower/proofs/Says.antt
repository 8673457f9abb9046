-- A message from the answer of its puts.
use Rattle.std.proofs.Common.{◌≡◌, ◌≢◌, List, [], ◌++◌, ℕ, Option, Some, None, Result, Ok, Err, OnOk, OnErr, subst, ap, ◌∙◌}
use Rattle.std.specs.Option.{unwrap_or}
use Rattle.csslower.proofs.Parts.{told_then}
use Rattle.css_outside.specs.Names.{Names, Told}
use Rattle.css_outside.specs.Putting.{message, Puts}
use Rattle.csslower.specs.Lines.{unread_line}
use Rattle.csslower.specs.Saying.{Says}
use Rattle.csslower.specs.Writing.{standard}
use Rattle.csslower.specs.Private.Putting.{PutsFront}

says_ok : (line : List ℕ) (failed : Type 0) (a b : Option Names) → Told a b (Puts message line) → Told a b (PutsFront message line) → Told a b (Says line failed)
says_ok line failed None b all front = tt
says_ok line failed (Some x) None all front = absurd all
says_ok line failed (Some x) (Some y) all (rest, front) = record { front = (rest, front.grown, front.within); whole = λ none. all.grown }

says_err : (line : List ℕ) (failed : Type 0) (a b : Option Names) → failed → Told a b (PutsFront message line) → Told a b (Says line failed)
says_err line failed None b cause front = tt
says_err line failed (Some x) None cause front = absurd front
says_err line failed (Some x) (Some y) cause (rest, front) = record { front = (rest, front.grown, front.within); whole = λ none. absurd (none cause) }

pub says : {A E : Type 0} (result : Result A E) (line : List ℕ) (failed : Type 0) (a b : Option Names) → OnOk result (Told a b (Puts message line)) → Told a b (PutsFront message line) → OnErr result failed → Told a b (Says line failed)
says (Ok value) line failed a b all front cause = says_ok line failed a b all front
says (Err fault) line failed a b all front cause = says_err line failed a b cause front

pub says_unread : (bytes path : List ℕ) (failed : Type 0) (a b : Option Names) → bytes ≡ path → Told a b (Says (unread_line bytes) failed) → Told a b (Says (unread_line path) failed)
says_unread bytes path failed a b same said = subst (λ (p : List ℕ). Told a b (Says (unread_line p) failed)) same said

-- a message after puts to standard output
pub said_after : (line : List ℕ) (failed : Type 0) (text : List ℕ) (x y z : Names) → message ≢ standard → PutsFront standard text x y → Says line failed y z → Says line failed x z
said_after line failed text x y z apart (rest, put) said =
    let same : unwrap_or (y message) [] ++ line ≡ unwrap_or (x message) [] ++ line = ap (λ (m : Option (List ℕ)). unwrap_or m [] ++ line) (put.others message apart) in
    record {
      front = (said.front.0, said.front.1 ∙ same, said.front.2);
      whole = λ none. said.whole none ∙ same;
    }

pub told_said_after : (line : List ℕ) (failed : Type 0) (text : List ℕ) (a b c : Option Names) → message ≢ standard → Told a b (PutsFront standard text) → Told b c (Says line failed) → Told a c (Says line failed)
told_said_after line failed text a b c apart put said =
    told_then a b c (PutsFront standard text) (Says line failed) (Says line failed) put said (λ x y z p q. said_after line failed text x y z apart p q)
