use Rattle.std.proofs.Common.{ℕ, List, ◌⊎◌, inl, inr}
use Rattle.css_tokens.specs.declared.pairing.ComponentFault.{ComponentFault}
use Rattle.css_tokens.specs.declared.pairing.ComponentFault.TheVariants.{Syntax, Depth}
use Rattle.css_tokens.specs.Pairing.{IsBracketFault, IsMismatch, IsPaired, IsTooDeep, IsUnclosed}
use Rattle.css_tokens.specs.Piece.{Piece}
use Rattle.css_tokens.proofs.SomePairing.{paired_or_fault, paired_made}
use Rattle.css_tokens.proofs.laws.some_pairing.Goals as goal

as_fault : (ts : List Piece) (end : ℕ) → IsPaired ts ⊎ ((o : ℕ) × (IsMismatch ts o ⊎ (IsUnclosed ts end o ⊎ IsTooDeep ts o))) → IsPaired ts ⊎ ((f : ComponentFault) × IsBracketFault ts end f)
as_fault ts end (inl paired) = inl paired
as_fault ts end (inr (o, inl mismatch)) = inr (Syntax o, inl mismatch)
as_fault ts end (inr (o, inr (inl unclosed))) = inr (Syntax o, inr unclosed)
as_fault ts end (inr (o, inr (inr deep))) = inr (Depth o, deep)

pub returns : goal.returns
returns c = record { either = λ ts end. as_fault ts end (paired_or_fault ts end); components = paired_made }
