-- What work on each item of a list answers.
use Rattle.std.specs.Prelude.{List, Result, Ok, Contains}
use Rattle.std.specs.List.{AllZip}
use Rattle.std.specs.Borrow.{Bor}
use Rattle.std.specs.Fn.{FnReturnsAt}
use Rattle.css_tokens.specs.declared.memory.OutOfMemory.{OutOfMemory}
use denote.Param.Members.{Shared}

module _ {F T U : Type 0} (g : Shared F (Bor T × Unit {0}) (Result U OutOfMemory)) (work : F) where
  -- the work may be done on each item
  abbrev pub CanWork : List T → Type 0
  CanWork items = (item : Bor T) → Contains items item.now → g.pre work (item, tt)

  -- there are as many answers as items, and the work may give each of them for the item at its place
  abbrev pub IsAnswered : List T → List U → Type 0
  IsAnswered items answers = AllZip (λ item answer. FnReturnsAt g work item (Ok answer)) items answers
