-- A printed prelude, behind a line feed or not, is read as its selectors.
use Rattle.std.proofs.Common.{◌≡◌, List, [], ◌∷◌, ◌++◌, map, Bool, true, false, Option, None, refl, ◌∙◌, ap, cond, unwrap_or}
use Rattle.css_tokens.specs.declared.kind.Kind.TheVariants as kinds
use Rattle.css_tokens.specs.declared.component.Component.{Component}
use Rattle.css_tokens.specs.Piece.{Piece, Word, word_of}
use Rattle.css_tokens.specs.Trees.{words_all, pieces_all, pieces_of-Single}
use Rattle.selector_types.specs.declared.selector.Selector.{Selector}
use Rattle.selector_tree.specs.declared.sign.Sign.{Sign}
use Rattle.selector_tree.specs.declared.sign.Sign.TheVariants as signs
use Rattle.selector_tree.specs.Grammar.{Mark, cut_at_commas, first_and, first_place, members_reading, fault_place, or_fault, selector_of, selector_of_runs, lead_of as leading, behind_lead, runs_of, spaced, stripped, white_before, with_mark}
use Rattle.selector_tree.specs.Signs.{list_in, mark_of, mark_of-Single, read, token_mark}
use Rattle.css_rules.specs.Refusals.{has_waiting}
use Rattle.sheet_types.specs.SheetAgain.{line_feed}
use Rattle.css_rules.specs.Sheets.{prelude_of}
use Rattle.css_rules.specs.declared.waiting.Seen.TheVariants.{Nothing}
use Rattle.css_rules.specs.Private.Waiting.{place_seen, seen_over}
use Rattle.css_rules.proofs.Heads.{piece_of, single_of, word}
use Rattle.css_rules.proofs.ListsRead.{first-alike}
use Rattle.css_rules.proofs.WaitingLemmas.{none-seen, none-waiting, over-Single, over-cons}

pub words-cons : (w : Word) (cs : List Component) → words_all (single_of w ∷ cs) ≡ w ∷ words_all cs
words-cons w cs = ap (λ (ps : List Piece). map word_of (ps ++ pieces_all cs)) (pieces_of-Single (piece_of w))

-- what stands before a printed rule: the line feed behind the rule before, or nothing
abbrev pub lead_of : Bool → List Component
lead_of true = line_feed ∷ []
lead_of false = []

-- A line feed in front changes nothing.

abbrev feed : Piece
feed = piece_of (word kinds.White (10 ∷ []))

white-white : (ws : List Sign) → stripped (white_before ws) ≡ stripped ws
white-white [] = refl
white-white (signs.White ∷ ws) = refl
white-white (signs.Joint c ∷ ws) = refl
white-white (w ∷ ws) = refl

feed-selector : (ms : List Mark) → selector_of false (token_mark feed ∷ ms) ≡ selector_of false ms
feed-selector ms =
    let at = unwrap_or (first_place ms) 0 in
    ap (λ (ws : List Sign). selector_of_runs at (leading false ws) (runs_of (behind_lead false ws))) (white-white (spaced (map (λ (m : Mark). m.sign) ms)))

pub feed-list : (cs : List Component) → list_in (map mark_of (line_feed ∷ cs)) ≡ list_in (map mark_of cs)
feed-list cs =
    let ms = map mark_of cs in
    let cut = cut_at_commas ms in
    let others = members_reading false 0 cut.1 in
    let first = with_mark (token_mark feed) cut.0 in
    ap (λ m. list_in (m ∷ ms)) (mark_of-Single feed)
    ∙ ap (λ (o : Option Selector). read (first_and (or_fault o (fault_place 0 first)) others)) (feed-selector cut.0.marks)
    ∙ first-alike (selector_of false cut.0.marks) (fault_place 0 first) (fault_place 0 cut.0) others others refl

feed-waiting : (cs : List Component) → has_waiting cs ≡ false → has_waiting (line_feed ∷ cs) ≡ false
feed-waiting cs none =
    none-waiting (line_feed ∷ cs)
    (ap place_seen (over-cons Nothing line_feed cs ∙ ap (λ s. seen_over s (pieces_all cs)) (over-Single Nothing feed)) ∙ none-seen cs none)

-- behind it or not, a prelude in which nothing waits is read as its list
pub prelude-again : (b : Bool) (cs : List Component) → has_waiting cs ≡ false → prelude_of (lead_of b ++ cs) ≡ list_in (map mark_of cs)
prelude-again true cs none = ap (λ waits. cond waits None (list_in (map mark_of (line_feed ∷ cs)))) (feed-waiting cs none) ∙ feed-list cs
prelude-again false cs none = ap (λ waits. cond waits None (list_in (map mark_of cs))) none
