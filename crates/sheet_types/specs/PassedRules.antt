-- Rules that are passed on as text (CSS Fonts 4, section 4; CSS Animations 1, section 3; CSS Paged Media 3; CSS Counter Styles 3).
use Rattle.std.specs.Prelude.{ℕ, List, codes}
use Rattle.sheet_types.specs.declared.sheet.PassedKind.{PassedKind}
use Rattle.sheet_types.specs.declared.sheet.PassedKind.TheVariants.{FontFace, Keyframes, WebkitKeyframes, MozKeyframes, Page, CounterStyle}

-- the name of the at-keyword, in lower case
abbrev pub keyword_of : PassedKind → List ℕ
keyword_of FontFace = codes "font-face"
keyword_of Keyframes = codes "keyframes"
keyword_of WebkitKeyframes = codes "-webkit-keyframes"
keyword_of MozKeyframes = codes "-moz-keyframes"
keyword_of Page = codes "page"
keyword_of CounterStyle = codes "counter-style"
