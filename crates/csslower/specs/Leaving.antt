-- What a run leaves, by its answer.
use Rattle.std.specs.Prelude.{◌≡◌, ◌⊎◌, List, [], ◌∷◌, ◌++◌, ℕ, Option, IfSome}
use Rattle.css_outside.specs.Names.{Names, Told}
use Rattle.cascade_spec.specs.Readings.{KeepsWinners}
use Rattle.csslower.specs.TargetTexts.{IsTargetText}
use Rattle.csslower.specs.Writing.{WroteAll, WroteFront, SameOutputs}
use Rattle.csslower.specs.declared.status.Status.{Status}
use Rattle.csslower.specs.declared.status.Status.TheVariants.{Done, Refused, Usage, ReadFault, WriteFault, Memory, Limit}

-- the output of this name got a text whole, or its front where that failed; with any other answer no output has changed
abbrev pub Leaves : List ℕ → Option Names → Option Names → Status → Type 0
Leaves name before now Done = (text : List ℕ) × Told before now (WroteAll name text)
Leaves name before now WriteFault = (text : List ℕ) × Told before now (WroteFront name text)
Leaves name before now (Refused finding) = Told before now SameOutputs
Leaves name before now (Usage kind) = Told before now SameOutputs
Leaves name before now ReadFault = Told before now SameOutputs
Leaves name before now Memory = Told before now SameOutputs
Leaves name before now (Limit kind) = Told before now SameOutputs

-- the text that the output of this name got, whole or its front, keeps the winners of the sources with this entry
abbrev pub WinnersFit : List ℕ → List ℕ → Names → Option Names → Option Names → Status → Type 0
WinnersFit name entry sources before now Done = (text : List ℕ) × Told before now (WroteAll name text) × IfSome (sources entry) (λ source. KeepsWinners source text)
WinnersFit name entry sources before now WriteFault = (text : List ℕ) × Told before now (WroteFront name text) × IfSome (sources entry) (λ source. KeepsWinners source text)
WinnersFit name entry sources before now (Refused finding) = Unit {0}
WinnersFit name entry sources before now (Usage kind) = Unit {0}
WinnersFit name entry sources before now ReadFault = Unit {0}
WinnersFit name entry sources before now Memory = Unit {0}
WinnersFit name entry sources before now (Limit kind) = Unit {0}

-- older browsers read the text that the output of this name got, whole or its front: it is that of a target sheet
abbrev pub TargetFits : List ℕ → Option Names → Option Names → Status → Type 0
TargetFits name before now Done = (text : List ℕ) × Told before now (WroteAll name text) × IsTargetText text
TargetFits name before now WriteFault = (text : List ℕ) × Told before now (WroteFront name text) × IsTargetText text
TargetFits name before now (Refused finding) = Unit {0}
TargetFits name before now (Usage kind) = Unit {0}
TargetFits name before now ReadFault = Unit {0}
TargetFits name before now Memory = Unit {0}
TargetFits name before now (Limit kind) = Unit {0}

-- the names made ready: this one where the text is put to it, and no other
abbrev pub ReadyFits : List ℕ → List (List ℕ) → List (List ℕ) → Status → Type 0
ReadyFits name before now Done = now ≡ before ++ name ∷ []
ReadyFits name before now WriteFault = now ≡ before ++ name ∷ []
ReadyFits name before now (Refused finding) = now ≡ before
ReadyFits name before now (Usage kind) = now ≡ before
ReadyFits name before now ReadFault = now ≡ before
ReadyFits name before now Memory = now ≡ before
ReadyFits name before now (Limit kind) = now ≡ before

-- the path of the entry is asked once, but where memory was refused perhaps not at all; words that are no command ask nothing
abbrev pub AsksFor : List ℕ → List (List ℕ) → List (List ℕ) → Status → Type 0
AsksFor entry before now (Usage kind) = now ≡ before
AsksFor entry before now Memory = (now ≡ before) ⊎ (now ≡ before ++ entry ∷ [])
AsksFor entry before now Done = now ≡ before ++ entry ∷ []
AsksFor entry before now (Refused finding) = now ≡ before ++ entry ∷ []
AsksFor entry before now ReadFault = now ≡ before ++ entry ∷ []
AsksFor entry before now WriteFault = now ≡ before ++ entry ∷ []
AsksFor entry before now (Limit kind) = now ≡ before ++ entry ∷ []
