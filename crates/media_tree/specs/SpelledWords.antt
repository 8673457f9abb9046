-- The words that a text which is read gives (CSS Syntax 3, section 4).
use Rattle.std.specs.Prelude.{ℕ, List, ◌++◌, Bool, ◌&&◌}
use Rattle.std.specs.Str.{is_utf8}
use Rattle.css_tokens.specs.declared.component.Component.{Component}
use Rattle.css_tokens.specs.Piece.{Word, spelled}
use Rattle.css_tokens.specs.Tokens.{ReadsTo, spells}
use Rattle.css_tokens.specs.Trees.{words_all}

-- the word is in UTF-8, and its text spells its kind
abbrev pub is_spelled : Word → Bool
is_spelled w = is_utf8 w.text && spells w.kind w.text

-- the words of the components are read one after another in some text, of which the rest stands behind them
pub record AreRead (cs : List Component) : Type 0 where
  pub behind : List ℕ
  pub reads : ReadsTo (spelled (words_all cs) ++ behind) (words_all cs) behind
