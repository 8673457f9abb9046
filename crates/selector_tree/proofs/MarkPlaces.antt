-- What components read as does not depend on places.
use Rattle.std.proofs.Common.{◌≡◌, ℕ, List, [], ◌∷◌, ◌++◌, map, Bool, true, false, ◌&&◌, refl, sym, ap, ap₂, ◌∙◌}
use Rattle.std.specs.Prelude.{codes, Option, Some, None, is_none, if◌then◌else◌}
use Rattle.std.specs.List.{list_all}
use Rattle.std.specs.Option.{option_map, option_map_or, option_and_then}
use Rattle.css_tokens.specs.declared.kind.Kind.{Kind}
use Rattle.css_tokens.specs.declared.kind.Kind.TheVariants as kinds
use Rattle.css_tokens.specs.declared.component.Component.{Component}
use Rattle.css_tokens.specs.declared.component.Component as component
use Rattle.css_tokens.specs.declared.component.Block as block
use Rattle.css_tokens.specs.Names.{name_of_word}
use Rattle.css_tokens.specs.NameText.{name_text}
use Rattle.css_tokens.specs.Piece.{Piece}
use Rattle.css_tokens.specs.Trees.{is_text}
use Rattle.selector_types.specs.declared.selector.Attribute.{Attribute}
use Rattle.selector_types.specs.declared.selector.Compound.{Compound}
use Rattle.selector_types.specs.declared.selector.Selector.{Selector}
use Rattle.selector_types.specs.declared.selector.Simple.{Simple}
use Rattle.selector_types.specs.declared.selector.Link as link
use Rattle.selector_types.specs.declared.selector.Simple as simple
use Rattle.selector_types.specs.declared.selector.Test.{Test}
use Rattle.selector_types.specs.declared.selector.Test.TheVariants as tests
use Rattle.selector_tree.specs.declared.sign.Callee.{Callee}
use Rattle.selector_tree.specs.declared.sign.Callee.TheVariants as callees
use Rattle.selector_tree.specs.declared.sign.Sign.{Sign}
use Rattle.selector_tree.specs.declared.sign.Sign.TheVariants as signs
use Rattle.selector_types.specs.declared.selector.Combinator.TheVariants as combinators
use Rattle.selector_types.specs.SelectorFold.{folded-Id, folded-Attribute, folded-Pseudo, folded-Not, folded-Is, folded-Where, folded-Parent, folded-Local, folded-Global, folded-Foreign}
use Rattle.selector_types.specs.AnPlusB.{is_an_plus_b, after_spaces}
use Rattle.selector_tokens.specs.Arguments.{after_white, is_white, is_white_kind, name_in, is_delim, test_of, value_in_kind, is_flag, flagged, valued, operated, named, begun, attribute_of, lone, lone_name, kind_text, text_before, texts_of, an_plus_b}
use Rattle.selector_types.specs.Erased.{erasing, erased, erased_simple, erased_compound, erased_link, erased-compound, erased-selector}
use Rattle.selector_tree.specs.Grammar.{Mark, marks_reading}
use Rattle.selector_types.specs.Names.{is_id, lowered}
use Rattle.selector_tree.specs.Signs.{kind_sign, is_comment_kind, token_before, tokens_of, read, list_in, is_gap, forgiving_list, has_no_link, lone_compound, compound_in, argued, call_by, callee_of, attribute_sign, opened_sign, block_mark, mark_of, list_reading, mark_of-Single, mark_of-Block}
use Rattle.selector_tree.proofs.SignPlaces.{bare_sign, bare_mark, marks-bare}
use Rattle.selector_types.proofs.TreePlaces.{placeless, bare, bare_block, bare-Single, bare-Block, Each, every, by_components}

-- Tokens in a block.

abbrev bare_pieces : List Piece → List Piece
bare_pieces ps = map placeless ps

white-at : (p : Piece) (ps : List Piece) (white : Bool) → after_white (bare_pieces ps) ≡ bare_pieces (after_white ps) → (if white then after_white (bare_pieces ps) else placeless p ∷ bare_pieces ps) ≡ bare_pieces (if white then after_white ps else p ∷ ps)
white-at p ps true e = e
white-at p ps false e = refl

after-bare : (ps : List Piece) → after_white (bare_pieces ps) ≡ bare_pieces (after_white ps)
after-bare [] = refl
after-bare (p ∷ ps) = white-at p ps (is_white_kind p.kind) (after-bare ps)

white-bare : (ps : List Piece) → is_white (bare_pieces ps) ≡ is_white ps
white-bare [] = refl
white-bare (p ∷ ps) = ap (λ (b : Bool). is_white_kind p.kind && b) (white-bare ps)

-- one function behind another
then-same : {A B : Type 0} (f g : A → Option B) → ((x : A) → f x ≡ g x) → (o : Option A) → option_and_then f o ≡ option_and_then g o
then-same f g same None = refl
then-same f g same (Some x) = same x

flagged-bare : (name : List ℕ) (test : Test) (value : List ℕ) (ps : List Piece) → flagged name test value (bare_pieces ps) ≡ flagged name test value ps
flagged-bare name test value [] = refl
flagged-bare name test value (p ∷ ps) = ap (λ (b : Bool). if is_flag p && b then Some (record { name = name; test = test; value = value; flag = true }) else None) (white-bare ps)

valued-bare : (name : List ℕ) (test : Test) (ps : List Piece) → valued name test (bare_pieces ps) ≡ valued name test ps
valued-bare name test [] = refl
valued-bare name test (p ∷ ps) =
    then-same (λ value. flagged name test value (after_white (bare_pieces ps))) (λ value. flagged name test value (after_white ps))
    (λ value. ap (flagged name test value) (after-bare ps) ∙ flagged-bare name test value (after_white ps))
    (value_in_kind p.kind p.text)

behind-bare : (name : List ℕ) (test : Test) (ps : List Piece) → valued name test (after_white (bare_pieces ps)) ≡ valued name test (after_white ps)
behind-bare name test ps = ap (valued name test) (after-bare ps) ∙ valued-bare name test (after_white ps)

operated-bare : (name : List ℕ) (test : Test) (ps : List Piece) → operated name test (bare_pieces ps) ≡ operated name test ps
operated-bare name test [] = refl
operated-bare name test (p ∷ ps) = ap (λ (o : Option Attribute). if is_delim (codes "=") p then o else None) (behind-bare name test ps)

named-bare : (name : List ℕ) (ps : List Piece) → named name (bare_pieces ps) ≡ named name ps
named-bare name [] = refl
named-bare name (p ∷ ps) =
    ap₂ (λ (a b : Option Attribute). if is_delim (codes "=") p then a else b) (behind-bare name tests.Equals ps)
    (then-same (λ test. operated name test (bare_pieces ps)) (λ test. operated name test ps) (λ test. operated-bare name test ps) (test_of p))

begun-bare : (ps : List Piece) → begun (bare_pieces ps) ≡ begun ps
begun-bare [] = refl
begun-bare (p ∷ ps) =
    then-same (λ name. named name (after_white (bare_pieces ps))) (λ name. named name (after_white ps))
    (λ name. ap (named name) (after-bare ps) ∙ named-bare name (after_white ps))
    (name_in p)

attribute-bare : (ps : List Piece) → attribute_of (bare_pieces ps) ≡ attribute_of ps
attribute-bare ps = ap begun (after-bare ps) ∙ begun-bare (after_white ps)

lone-bare : (ps : List Piece) → lone (bare_pieces ps) ≡ lone ps
lone-bare [] = refl
lone-bare (p ∷ ps) = ap (λ (b : Bool). if b then name_in p else None) (white-bare ps)

name-bare : (ps : List Piece) → lone_name (bare_pieces ps) ≡ lone_name ps
name-bare ps = ap lone (after-bare ps) ∙ lone-bare (after_white ps)

texts-bare : (white : List ℕ) (ps : List Piece) → texts_of white (bare_pieces ps) ≡ texts_of white ps
texts-bare white [] = refl
texts-bare white (p ∷ ps) = ap (text_before (kind_text white p.kind p.text)) (texts-bare white ps)

step-bare : (ps : List Piece) → an_plus_b (bare_pieces ps) ≡ an_plus_b ps
step-bare ps =
    ap₂ (λ (spaced close : Option (List ℕ)). if option_map_or (λ text. is_an_plus_b (after_spaces (lowered text))) spaced false then option_map lowered close else None)
    (texts-bare (codes " ") ps) (texts-bare [] ps)

-- Marks in a block.

before-at : (p : Piece) (comment : Bool) (o : Option (List Piece)) → (if comment then option_map bare_pieces o else option_map (λ qs. placeless p ∷ qs) (option_map bare_pieces o)) ≡ option_map bare_pieces (if comment then o else option_map (λ qs. p ∷ qs) o)
before-at p true o = refl
before-at p false None = refl
before-at p false (Some ps) = refl

before-bare : (t : Option Piece) (o : Option (List Piece)) → token_before (option_map placeless t) (option_map bare_pieces o) ≡ option_map bare_pieces (token_before t o)
before-bare None o = refl
before-bare (Some p) o = before-at p (is_comment_kind p.kind) o

tokens-bare : (ms : List Mark) → tokens_of (map bare_mark ms) ≡ option_map bare_pieces (tokens_of ms)
tokens-bare [] = refl
tokens-bare (m ∷ ms) = ap (token_before (option_map placeless m.token)) (tokens-bare ms) ∙ before-bare m.token (tokens_of ms)

through-bare : {A : Type 0} (f : List Piece → Option A) → ((ps : List Piece) → f (bare_pieces ps) ≡ f ps) → (o : Option (List Piece)) → option_and_then f (option_map bare_pieces o) ≡ option_and_then f o
through-bare f same None = refl
through-bare f same (Some ps) = same ps

inside-bare : {A : Type 0} (f : List Piece → Option A) → ((ps : List Piece) → f (bare_pieces ps) ≡ f ps) → (ms : List Mark) → option_and_then f (tokens_of (map bare_mark ms)) ≡ option_and_then f (tokens_of ms)
inside-bare f same ms = ap (option_and_then f) (tokens-bare ms) ∙ through-bare f same (tokens_of ms)

list-bare : (ms : List Mark) → list_in (map bare_mark ms) ≡ option_map (map erased) (list_in ms)
list-bare ms = marks-bare false 0 0 ms

gap-at : (t : Option Piece) → is_gap (option_map placeless t) ≡ is_gap t
gap-at None = refl
gap-at (Some p) = refl

gap-bare : (ms : List Mark) → list_all (λ m. is_gap m.token) (map bare_mark ms) ≡ list_all (λ m. is_gap m.token) ms
gap-bare [] = refl
gap-bare (m ∷ ms) = ap₂ (λ (a b : Bool). a && b) (gap-at m.token) (gap-bare ms)

forgiving-at : (gap : Bool) (o : Option (List Selector)) → (if gap then Some [] else option_map (map erased) o) ≡ option_map (map erased) (if gap then Some [] else o)
forgiving-at true o = refl
forgiving-at false o = refl

forgiving-bare : (ms : List Mark) → forgiving_list (map bare_mark ms) ≡ option_map (map erased) (forgiving_list ms)
forgiving-bare ms =
    ap₂ (λ (gap : Bool) (o : Option (List Selector)). if gap then Some [] else o) (gap-bare ms) (list-bare ms)
    ∙ forgiving-at (list_all (λ m. is_gap m.token) ms) (list_in ms)

abbrev alone : Selector → Option Compound
alone s = if is_none s.first.tail && has_no_link s.rest then Some s.first else None

alone-at : (k : Compound) (b : Bool) → (if b then Some (erased_compound k) else None) ≡ option_map erased_compound (if b then Some k else None)
alone-at k true = refl
alone-at k false = refl

no-link : (s : Selector) → has_no_link (erased s).rest ≡ has_no_link s.rest
no-link s = ap (λ (t : Selector). has_no_link t.rest) (erased-selector s) ∙ at s.rest
  where
    at : (ls : List link.Link) → has_no_link (map erased_link ls) ≡ has_no_link ls
    at [] = refl
    at (l ∷ ls) = refl

lone-erased : (ss : List Selector) → lone_compound (map erased ss) ≡ option_map erased_compound (lone_compound ss)
lone-erased [] = refl
lone-erased (s ∷ []) =
    ap (λ (b : Bool). if is_none (erased s).first.tail && b then Some (erased s).first else None) (no-link s)
    ∙ ap (λ (t : Selector). if is_none t.first.tail && has_no_link s.rest then Some t.first else None) (erased-selector s)
    ∙ ap (λ (k : Compound). if is_none k.tail && has_no_link s.rest then Some (erased_compound s.first) else None) (erased-compound s.first)
    ∙ alone-at s.first (is_none s.first.tail && has_no_link s.rest)
lone-erased (s ∷ t ∷ ss) = refl

lone-through : (o : Option (List Selector)) → option_and_then lone_compound (option_map (map erased) o) ≡ option_map erased_compound (option_and_then lone_compound o)
lone-through None = refl
lone-through (Some ss) = lone-erased ss

compound-bare : (ms : List Mark) → compound_in (map bare_mark ms) ≡ option_map erased_compound (compound_in ms)
compound-bare ms = ap (option_and_then lone_compound) (list-bare ms) ∙ lone-through (list_in ms)

-- one made of what is erased is erased
made-erased : {A : Type 0} (f : A → Simple) (g : A → A) → ((x : A) → f (g x) ≡ erased_simple (f x)) → (o : Option A) → option_map f (option_map g o) ≡ option_map erased_simple (option_map f o)
made-erased f g same None = refl
made-erased f g same (Some x) = ap Some (same x)

argued-erased : (name : List ℕ) (o : Option (List ℕ)) → argued name o ≡ erased_simple (argued name o)
argued-erased name None = sym (folded-Foreign erasing)
argued-erased name (Some argument) = sym (folded-Pseudo erasing (name ++ (codes "(" ++ (argument ++ codes ")"))))

call-bare : (callee : Callee) (name : List ℕ) (ms : List Mark) → call_by callee name (map bare_mark ms) ≡ option_map erased_simple (call_by callee name ms)
call-bare callees.Not name ms = ap (option_map (λ ss. simple.Not ss)) (list-bare ms) ∙ made-erased (λ ss. simple.Not ss) (map erased) (λ ss. sym (folded-Not erasing ss)) (list_in ms)
call-bare callees.Is name ms = ap (option_map (λ ss. simple.Is ss)) (forgiving-bare ms) ∙ made-erased (λ ss. simple.Is ss) (map erased) (λ ss. sym (folded-Is erasing ss)) (forgiving_list ms)
call-bare callees.Where name ms = ap (option_map (λ ss. simple.Where ss)) (forgiving-bare ms) ∙ made-erased (λ ss. simple.Where ss) (map erased) (λ ss. sym (folded-Where erasing ss)) (forgiving_list ms)
call-bare callees.Local name ms = ap (option_map (λ k. simple.Local k)) (compound-bare ms) ∙ made-erased (λ k. simple.Local k) erased_compound (λ k. sym (folded-Local erasing k)) (compound_in ms)
call-bare callees.Global name ms = ap (option_map (λ k. simple.Global k)) (compound-bare ms) ∙ made-erased (λ k. simple.Global k) erased_compound (λ k. sym (folded-Global erasing k)) (compound_in ms)
call-bare callees.Step name ms =
    ap (λ (o : Option (List ℕ)). Some (argued name o)) (inside-bare an_plus_b step-bare ms)
    ∙ ap Some (argued-erased name (option_and_then an_plus_b (tokens_of ms)))
call-bare callees.Lang name ms =
    ap (λ (o : Option (List ℕ)). Some (argued name (option_map name_text o))) (inside-bare lone_name name-bare ms)
    ∙ ap Some (argued-erased name (option_map name_text (option_and_then lone_name (tokens_of ms))))
call-bare callees.Other name ms = ap Some (sym (folded-Foreign erasing))

attribute-sign : (at : ℕ) (o : Option Attribute) → attribute_sign 0 o ≡ bare_sign (attribute_sign at o)
attribute-sign at None = refl
attribute-sign at (Some a) = ap (λ (x : Simple). signs.Whole x 0) (sym (folded-Attribute erasing a))

open-at : (at : ℕ) (square : Bool) (o : Option Attribute) → (if square then attribute_sign 0 o else signs.Other) ≡ bare_sign (if square then attribute_sign at o else signs.Other)
open-at at true o = attribute-sign at o
open-at at false o = refl

opened-bare : (k : Kind) (text : List ℕ) (at : ℕ) (ms : List Mark) → opened_sign k text 0 (map bare_mark ms) ≡ bare_sign (opened_sign k text at ms)
opened-bare kinds.Function text at ms = ap (λ (o : Option Simple). signs.Call o) (call-bare (callee_of (lowered (name_of_word kinds.Function text))) (lowered (name_of_word kinds.Function text)) ms)
opened-bare kinds.Open text at ms =
    ap (λ (o : Option Attribute). if is_text text (codes "[") then attribute_sign 0 o else signs.Other) (inside-bare attribute_of attribute-bare ms)
    ∙ open-at at (is_text text (codes "[")) (option_and_then attribute_of (tokens_of ms))
opened-bare k text at ms = refl

-- Tokens.

id-at : (name : List ℕ) (at : ℕ) (b : Bool) → (if b then signs.Whole (simple.Id name) 0 else signs.Other) ≡ bare_sign (if b then signs.Whole (simple.Id name) at else signs.Other)
id-at name at true = ap (λ (x : Simple). signs.Whole x 0) (sym (folded-Id erasing name))
id-at name at false = refl

abbrev delim_from : Bool → Bool → Bool → Bool → Bool → Bool → ℕ → Sign
delim_from a b c d e f at =
    if a then signs.Joint combinators.Child else (if b then signs.Joint combinators.Next else (if c then signs.Joint combinators.Later else (if d then signs.Star else (if e then signs.Dot at else (if f then signs.Whole simple.Parent at else signs.Other)))))

delim-at : (a b c d e f : Bool) (at : ℕ) → delim_from a b c d e f 0 ≡ bare_sign (delim_from a b c d e f at)
delim-at true b c d e f at = refl
delim-at false true c d e f at = refl
delim-at false false true d e f at = refl
delim-at false false false true e f at = refl
delim-at false false false false true f at = refl
delim-at false false false false false true at = ap (λ (x : Simple). signs.Whole x 0) (sym (folded-Parent erasing))
delim-at false false false false false false at = refl

kind-bare : (k : Kind) (text : List ℕ) (at : ℕ) → kind_sign k text 0 ≡ bare_sign (kind_sign k text at)
kind-bare kinds.Hash text at = id-at (name_of_word kinds.Hash text) at (is_id text)
kind-bare kinds.Delim text at = delim-at (is_text text (codes ">")) (is_text text (codes "+")) (is_text text (codes "~")) (is_text text (codes "*")) (is_text text (codes ".")) (is_text text (codes "&")) at
kind-bare k text at = refl

-- Components.

abbrev IsBareMark : Component → Type 0
IsBareMark c = mark_of (bare c) ≡ bare_mark (mark_of c)

mark-single : (p : Piece) → IsBareMark (component.Single p)
mark-single p =
    ap mark_of (bare-Single p)
    ∙ mark_of-Single (placeless p)
    ∙ ap (λ (w : Sign). (let m : Mark = record { token = Some (placeless p); at = 0; sign = w } in m)) (kind-bare p.kind p.text p.at)
    ∙ ap bare_mark (sym (mark_of-Single p))

marks-each : (cs : List Component) → Each IsBareMark cs → map mark_of (map bare cs) ≡ map bare_mark (map mark_of cs)
marks-each [] each = refl
marks-each (c ∷ cs) each = ap₂ (λ (m : Mark) (ms : List Mark). m ∷ ms) each.0 (marks-each cs each.1)

mark-block : (b : block.Block) → Each IsBareMark b.items → IsBareMark (component.Block b)
mark-block b each =
    ap mark_of (bare-Block b)
    ∙ mark_of-Block (bare_block b)
    ∙ ap (block_mark (placeless b.opening)) (marks-each b.items each)
    ∙ ap (λ (w : Sign). (let m : Mark = record { token = None; at = 0; sign = w } in m)) (opened-bare b.opening.kind b.opening.text b.opening.at (map mark_of b.items))
    ∙ ap bare_mark (sym (mark_of-Block b))

mark-bare : (c : Component) → IsBareMark c
mark-bare = by_components IsBareMark mark-single mark-block

pub marks-of-bare : (cs : List Component) → map mark_of (map bare cs) ≡ map bare_mark (map mark_of cs)
marks-of-bare cs = marks-each cs (every IsBareMark mark-bare cs)

-- components with each place at 0 read as the same list with each place at 0
pub reading-bare : (nested : Bool) (cs : List Component) (end stop : ℕ) → read (list_reading nested (map bare cs) stop) ≡ option_map (map erased) (read (list_reading nested cs end))
reading-bare nested cs end stop =
    ap (λ (ms : List Mark). read (marks_reading nested ms stop)) (marks-of-bare cs)
    ∙ marks-bare nested end stop (map mark_of cs)
