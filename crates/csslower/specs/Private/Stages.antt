-- Which answers a part of a run can give.
use Rattle.csslower.specs.declared.status.Status.{Status}
use Rattle.csslower.specs.declared.status.Status.TheVariants.{Done, Refused, Usage, ReadFault, WriteFault, Memory, Limit}

-- an answer that words which are a command can get
abbrev pub IsOfCommand : Status → Type 0
IsOfCommand (Usage kind) = ⊥
IsOfCommand Done = Unit {0}
IsOfCommand (Refused finding) = Unit {0}
IsOfCommand ReadFault = Unit {0}
IsOfCommand WriteFault = Unit {0}
IsOfCommand Memory = Unit {0}
IsOfCommand (Limit kind) = Unit {0}

-- an answer that a file which was read, and is not too long, can get
abbrev pub IsOfText : Status → Type 0
IsOfText Done = Unit {0}
IsOfText (Refused finding) = Unit {0}
IsOfText WriteFault = Unit {0}
IsOfText Memory = Unit {0}
IsOfText (Usage kind) = ⊥
IsOfText ReadFault = ⊥
IsOfText (Limit kind) = Unit {0}

-- the text is written, whole or in part
abbrev pub IsOfWriting : Status → Type 0
IsOfWriting Done = Unit {0}
IsOfWriting WriteFault = Unit {0}
IsOfWriting (Refused finding) = ⊥
IsOfWriting (Usage kind) = ⊥
IsOfWriting ReadFault = ⊥
IsOfWriting Memory = ⊥
IsOfWriting (Limit kind) = ⊥
