-- Tokens have at most one fault of brackets, and none where their brackets are paired.
use Rattle.std.proofs.Common.{◌≡◌, ℕ, List, [], Option, Some, None, ap, sym, ◌∙◌, inl, inr}
use Rattle.css_tokens.specs.declared.pairing.ComponentFault.{ComponentFault}
use Rattle.css_tokens.specs.declared.pairing.ComponentFault.TheVariants.{Syntax, Depth, Memory}
use Rattle.css_tokens.specs.Pairing.{IsPaired, IsBracketFault}
use Rattle.css_tokens.specs.Piece.{Piece}
use Rattle.css_tokens.proofs.Verdicts.{Verdict, paired, unclosed, mismatch, deep, verdict, paired_verdict, unclosed_verdict, mismatch_verdict, deep_verdict}

-- the fault that a verdict names
abbrev fault_of : ℕ → Verdict → Option ComponentFault
fault_of end paired = None
fault_of end unclosed = Some (Syntax end)
fault_of end (mismatch at) = Some (Syntax at)
fault_of end (deep at) = Some (Depth at)

-- a fault of brackets is what the verdict names
fault_named : (ts : List Piece) (end : ℕ) (f : ComponentFault) → IsBracketFault ts end f → fault_of end (verdict [] ts) ≡ Some f
fault_named ts end (Syntax at) (inl m) = ap (fault_of end) (mismatch_verdict ts at m)
fault_named ts end (Syntax at) (inr m) = ap (fault_of end) (unclosed_verdict ts end at m) ∙ ap (λ (o : ℕ). Some (Syntax o)) (sym m.place)
fault_named ts end (Depth at) m = ap (fault_of end) (deep_verdict ts at m)
fault_named ts end Memory m = absurd m

pub fault_one : (ts : List Piece) (end : ℕ) (f g : ComponentFault) → IsBracketFault ts end f → IsBracketFault ts end g → f ≡ g
fault_one ts end f g a b =
    let e = sym (fault_named ts end f a) ∙ fault_named ts end g b in
    cc e

pub fault_none : (ts : List Piece) (end : ℕ) (f : ComponentFault) → IsPaired ts → IsBracketFault ts end f → ⊥
fault_none ts end f p a =
    let e = sym (ap (fault_of end) (paired_verdict ts p)) ∙ fault_named ts end f a in
    cc e
