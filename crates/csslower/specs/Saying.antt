-- What standard error gets, by the answer of a run.
use Rattle.std.specs.Prelude.{◌≡◌, ℕ, ◌≤◌, ◌⊎◌, List, ◌++◌, length, Option, IfSome}
use Rattle.css_places.specs.declared.finding.Finding.{Finding}
use Rattle.css_outside.specs.Names.{Names, bytes_under}
use Rattle.css_outside.specs.Putting.{message}
use Rattle.csslower.specs.Lines.{refusal_line, usage_line, unread_line, unwritten_line, memory_line, limit_line}
use Rattle.csslower.specs.declared.status.Status.{Status}
use Rattle.csslower.specs.declared.status.Status.TheVariants.{Done, Refused, Usage, ReadFault, WriteFault, Memory, Limit}

-- standard error got the line up to some rest
abbrev pub GotFront : List ℕ → Names → Names → Type 0
GotFront line before now = (rest : List ℕ) × (bytes_under now message ++ rest ≡ bytes_under before message ++ line) × (length rest ≤ length line)

-- standard error got the line whole
abbrev pub GotLine : List ℕ → Names → Names → Type 0
GotLine line before now = bytes_under now message ≡ bytes_under before message ++ line

-- Standard error got a part of the line from its front, and all of it where no put to it failed.
pub record Says (line : List ℕ) (failed : Type 0) (before now : Names) : Type 0 where
  pub front : GotFront line before now
  pub whole : (failed → ⊥) → GotLine line before now

-- Standard error got a part of the line from its front, and all of it or nothing where no put to it failed.
pub record SaysOrNot (line : List ℕ) (failed : Type 0) (before now : Names) : Type 0 where
  pub front : GotFront line before now
  pub whole : (failed → ⊥) → GotLine line before now ⊎ (bytes_under now message ≡ bytes_under before message)

-- Standard error got the line of a refusal, as above. It counts lines and columns in a text: the file's, where that is told.
pub record SaysRefusal (path : List ℕ) (sources : Option Names) (finding : Finding) (failed : Type 0) (before now : Names) : Type 0 where
  pub text : List ℕ
  pub of_file : IfSome sources (λ files. text ≡ bytes_under files path)
  pub said : SaysOrNot (refusal_line path text finding) failed before now

-- Standard error got nothing where the text is written, and the line of the answer where it is not. That of a refusal may be
-- left out. The output of the text has this name, and the entry this path.
abbrev pub Said : List ℕ → List ℕ → Option Names → Type 0 → Status → Names → Names → Type 0
Said name entry sources failed Done before now = now message ≡ before message
Said name entry sources failed (Refused finding) before now = SaysRefusal entry sources finding failed before now
Said name entry sources failed (Usage kind) before now = Says usage_line failed before now
Said name entry sources failed ReadFault before now = Says (unread_line entry) failed before now
Said name entry sources failed WriteFault before now = Says (unwritten_line name) failed before now
Said name entry sources failed Memory before now = Says memory_line failed before now
Said name entry sources failed (Limit kind) before now = Says (limit_line kind) failed before now
