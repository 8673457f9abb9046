-- What the words of a selector list are where it stands before a block (CSS Syntax 3, sections 5.4.2 and 5.4.3).
use Rattle.std.specs.Prelude.{List, [], ◌∷◌, Bool, true, false, ◌&&◌, not, codes}
use Rattle.css_tokens.specs.declared.kind.Kind.{Kind}
use Rattle.css_tokens.specs.declared.kind.Kind.TheVariants as kinds
use Rattle.css_tokens.specs.Again.{is_solid}
use Rattle.css_tokens.specs.Piece.{Word}
use Rattle.css_tokens.specs.Trees.{is_text, opens}

-- neither a semicolon nor an at-keyword
abbrev pub is_prelude_kind : Kind → Bool
is_prelude_kind kinds.Semicolon = false
is_prelude_kind kinds.At = false
is_prelude_kind k = true

-- does it neither end what stands before a block nor begin a block or an at-rule: no semicolon, no at-keyword and no `{`?
abbrev pub is_prelude_word : Word → Bool
is_prelude_word w = is_prelude_kind w.kind && not (opens w.kind && is_text w.text (codes "{"))

-- is there a first word, and is it neither white space nor a comment?
abbrev pub begins_solid : List Word → Bool
begins_solid [] = false
begins_solid (w ∷ ws) = is_solid w.kind

-- is there a last word, and is it neither white space nor a comment?
abbrev pub ends_solid : List Word → Bool
ends_solid [] = false
ends_solid (w ∷ []) = is_solid w.kind
ends_solid (w ∷ v ∷ ws) = ends_solid (v ∷ ws)
