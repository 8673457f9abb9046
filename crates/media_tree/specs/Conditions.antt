-- Conditions that are joined by keywords (Media Queries 4, section 3; Conditional Rules 3, section 6): the grammar that media
-- conditions and supports conditions share.
use Rattle.std.specs.Prelude.{ℕ, List, [], ◌∷◌, codes, Option, Some, None, if◌then◌else◌}
use Rattle.std.specs.Option.{option_map}
use Rattle.css_tokens.specs.declared.kind.Kind.{Kind}
use Rattle.css_tokens.specs.declared.kind.Kind.TheVariants as kinds
use Rattle.css_tokens.specs.Names.{name_of_word}
use Rattle.css_tokens.specs.Piece.{Piece}
use Rattle.css_tokens.specs.Trees.{is_text}
use Rattle.media_tree.specs.declared.sign.Sign.{Sign}
use Rattle.media_tree.specs.declared.sign.Sign.TheVariants.{Gap, Comma, Not, Only, And, Or, Name, Within, Other}
use Rattle.media_tree.specs.Marks.{lowered}

-- what is made of conditions
pub record Makes (C : Type 0) : Type 0 where
  pub and_of : List C → C
  pub or_of : List C → C
  pub not_of : C → C

module _ {C : Type 0} where
  -- the sign of an Ident of this name, which is in lower case; `layer` is neither a keyword nor a media type
  abbrev pub name_sign : List ℕ → Sign C
  name_sign name =
      if is_text name (codes "not") then Not
      else (if is_text name (codes "only") then Only
      else (if is_text name (codes "and") then And
      else (if is_text name (codes "or") then Or
      else (if is_text name (codes "layer") then Other
      else Name name))))

  -- the sign of a token of this kind
  abbrev pub kind_sign : Kind → List ℕ → Sign C
  kind_sign kinds.White text = Gap
  kind_sign kinds.Comment text = Gap
  kind_sign kinds.Comma text = Comma
  kind_sign kinds.Ident text = name_sign (lowered (name_of_word kinds.Ident text))
  kind_sign k text = Other

  -- the sign of a token
  abbrev pub token_sign : Piece → Sign C
  token_sign p = kind_sign p.kind p.text

  -- the sign of a condition in parentheses, where one stands there
  abbrev pub within : Option C → Sign C
  within None = Other
  within (Some c) = Within c

  -- the signs without white space and comments
  abbrev pub solid : List (Sign C) → List (Sign C)
  solid [] = []
  solid (Gap ∷ ws) = solid ws
  solid (w ∷ ws) = w ∷ solid ws

  -- conditions, each behind `and`
  abbrev pub and_row : List (Sign C) → Option (List C)
  and_row [] = Some []
  and_row (And ∷ Within c ∷ ws) = option_map (λ cs. c ∷ cs) (and_row ws)
  and_row ws = None

  -- conditions, each behind `or`
  abbrev pub or_row : List (Sign C) → Option (List C)
  or_row [] = Some []
  or_row (Or ∷ Within c ∷ ws) = option_map (λ cs. c ∷ cs) (or_row ws)
  or_row ws = None

  -- A condition is one in parentheses, alone, behind `not`, or joined to others by `and` or by `or`.
  abbrev pub condition_of : Makes C → List (Sign C) → Option C
  condition_of m (Not ∷ Within c ∷ []) = Some (m.not_of c)
  condition_of m (Within c ∷ []) = Some c
  condition_of m (Within c ∷ And ∷ ws) = option_map (λ cs. m.and_of (c ∷ cs)) (and_row (And ∷ ws))
  condition_of m (Within c ∷ Or ∷ ws) = option_map (λ cs. m.or_of (c ∷ cs)) (or_row (Or ∷ ws))
  condition_of m ws = None
