use Rattle.std.proofs.Common.{ℕ, Bool, true, slice_index_or, refl, arith}
use Rattle.std.proofs.lemmas.Bool.{agree_below_at}
use Rattle.css_tokens.specs.declared.class.TheConstants.{CLASSES}
use Rattle.css_tokens.specs.declared.class.Class.TheVariants as class
use Rattle.css_tokens.specs.Characters.{class_of, is_class}
use Rattle.css_tokens.proofs.Derivatives.{is_class-eq}
use Rattle.css_tokens.proofs.class.classify.Goals as goal

abbrev is_right : ℕ → Bool
is_right b = is_class (slice_index_or CLASSES b class.Blank) (class_of b)

abbrev always : ℕ → Bool
always b = true

-- the table is right at each of the 256 bytes
pub returns : goal.returns
returns c = is_class-eq (slice_index_or CLASSES c.args.byte class.Blank) (class_of c.args.byte) (agree_below_at is_right always 256 c.args.byte refl (omega arith))
