-- The first token of a prelude that waits for a later stage, found token by token; its words tell whether there is one.
use Rattle.std.proofs.Common.{◌≡◌, ℕ, ◌+◌, ◌<◌, List, [], ◌∷◌, ◌++◌, map, Bool, true, false, ◌&&◌, ◌||◌, Option, Some, None, refl, sym, ◌∙◌, ap, cond, option_map, length, drop, get_or}
use Rattle.std.specs.Prelude.{is_some}
use Rattle.std.proofs.lemmas.Grind.{flat_map-append}
use Rattle.std.proofs.lemmas.List.{drop_more}
use Rattle.css_tokens.specs.declared.kind.Kind.{Kind}
use Rattle.css_tokens.specs.declared.kind.Kind.TheVariants as kinds
use Rattle.css_tokens.specs.declared.component.Component.{Component}
use Rattle.css_tokens.specs.declared.component.Component as component
use Rattle.css_tokens.specs.declared.component.Block as block
use Rattle.css_tokens.specs.Piece.{Piece, Word, word_of}
use Rattle.css_tokens.specs.Trees.{pieces_of, pieces_all, words_all, closing, pieces_of-Single, pieces_of-Block}
use Rattle.selector_tree.specs.Signs.{is_comment_kind}
use Rattle.css_rules.specs.declared.waiting.Seen.{Seen}
use Rattle.css_rules.specs.declared.waiting.Seen.TheVariants.{Nothing, Colon, Waiting}
use Rattle.css_components.specs.Components.{is_colon_kind}
use Rattle.css_rules.specs.Refusals.{is_ampersand, is_is, begins_is, waits_before, first_refusal, first_waiting, has_waiting, unbuilt, unbuilt_at, waiting_in}
use Rattle.css_rules.specs.Private.Waiting.{begun, seen_at, seen_over, place_seen}
use Rattle.css_rules.proofs.Heads.{piece_of}

pub over-append : (s : Seen) (ps qs : List Piece) → seen_over s (ps ++ qs) ≡ seen_over (seen_over s ps) qs
over-append s [] qs = refl
over-append s (p ∷ ps) qs = over-append (seen_at s p) ps qs

pub over-waiting : (at : ℕ) (ps : List Piece) → seen_over (Waiting at) ps ≡ Waiting at
over-waiting at [] = refl
over-waiting at (p ∷ ps) = over-waiting at ps

-- what is seen over components one after another
pub over-cons : (s : Seen) (c : Component) (cs : List Component) → seen_over s (pieces_all (c ∷ cs)) ≡ seen_over (seen_over s (pieces_of c)) (pieces_all cs)
over-cons s c cs = over-append s (pieces_of c) (pieces_all cs)

pub over-both : (s : Seen) (xs ys : List Component) → seen_over s (pieces_all (xs ++ ys)) ≡ seen_over (seen_over s (pieces_all xs)) (pieces_all ys)
over-both s xs ys = ap (seen_over s) (flat_map-append pieces_of xs ys) ∙ over-append s (pieces_all xs) (pieces_all ys)

pub over-Single : (s : Seen) (p : Piece) → seen_over s (pieces_of (component.Single p)) ≡ seen_at s p
over-Single s p = ap (seen_over s) (pieces_of-Single p)

pub over-Block : (s : Seen) (b : block.Block) → seen_over s (pieces_of (component.Block b)) ≡ seen_at (seen_over (seen_at s b.opening) (pieces_all b.items)) (closing b.opening b.close)
over-Block s b = ap (seen_over s) (pieces_of-Block b) ∙ over-append (seen_at s b.opening) (pieces_all b.items) (closing b.opening b.close ∷ [])

-- one component of a list, and those behind it
pub over-more : (s t : Seen) (cs : List Component) (i : ℕ) (c : Component) → i < length cs → c ≡ get_or cs i c → t ≡ seen_over s (pieces_of c)
    → seen_over t (pieces_all (drop (i + 1) cs)) ≡ seen_over s (pieces_all (drop i cs))
over-more s t cs i c within is here =
    ap (λ u. seen_over u (pieces_all (drop (i + 1) cs))) here
    ∙ sym (over-cons s c (drop (i + 1) cs))
    ∙ ap (λ rest. seen_over s (pieces_all rest)) (sym (drop_more cs i c within ∙ ap (λ x. x ∷ drop (i + 1) cs) (sym is)))

-- The first that waits.

abbrev place_waiting : List Piece → Option ℕ
place_waiting ps = option_map (λ (p : Piece). p.at) (first_waiting ps)

-- behind a colon at this place
abbrev behind_colon : ℕ → List Piece → Option ℕ
behind_colon at ps = cond (begins_is ps) (Some at) (place_waiting ps)

-- a comment is neither `&` nor a colon
comment-calm : (k : Kind) (text : List ℕ) (b : Bool) → is_comment_kind k ≡ true → (is_ampersand k text || (is_colon_kind k && b)) ≡ false
comment-calm kinds.Comment text b e = refl
comment-calm k text b e = absurd (cc e)

first-step : (p : Piece) (ps : List Piece) (amp colon : Bool) → place_seen (seen_over Nothing ps) ≡ place_waiting ps → ((at : ℕ) → place_seen (seen_over (Colon at) ps) ≡ behind_colon at ps)
    → place_seen (seen_over (cond amp (Waiting p.at) (cond colon (Colon p.at) Nothing)) ps) ≡ option_map (λ (p : Piece). p.at) (cond (amp || (colon && begins_is ps)) (Some p) (first_waiting ps))
first-step p ps true colon h k = ap place_seen (over-waiting p.at ps)
first-step p ps false true h k = k p.at ∙ at (begins_is ps)
  where
    at : (b : Bool) → cond b (Some p.at) (place_waiting ps) ≡ option_map (λ (p : Piece). p.at) (cond b (Some p) (first_waiting ps))
    at true = refl
    at false = refl
first-step p ps false false h k = h

colon-step : (at : ℕ) (p : Piece) (ps : List Piece) (comment is : Bool) → is_comment_kind p.kind ≡ comment → place_seen (seen_over (Colon at) ps) ≡ behind_colon at ps → place_seen (seen_over (begun p) ps) ≡ place_waiting (p ∷ ps)
    → place_seen (seen_over (cond comment (Colon at) (cond is (Waiting at) (begun p))) ps) ≡ cond (cond comment (begins_is ps) is) (Some at) (place_waiting (p ∷ ps))
colon-step at p ps true is e h k = h ∙ ap (λ b. cond (begins_is ps) (Some at) (option_map (λ (p : Piece). p.at) (cond b (Some p) (first_waiting ps)))) (sym (comment-calm p.kind p.text (begins_is ps) e))
colon-step at p ps false true e h k = ap place_seen (over-waiting at ps)
colon-step at p ps false false e h k = k

-- what is found is the first that waits
record IsFound (ps : List Piece) : Type 0 where
  plain : place_seen (seen_over Nothing ps) ≡ place_waiting ps
  behind : (at : ℕ) → place_seen (seen_over (Colon at) ps) ≡ behind_colon at ps

found : (ps : List Piece) → IsFound ps
found [] = record { plain = refl; behind = λ at. refl }
found (p ∷ ps) =
    let more = found ps in
    let plain = first-step p ps (is_ampersand p.kind p.text) (is_colon_kind p.kind) more.plain more.behind in
    record { plain = plain; behind = λ at. colon-step at p ps (is_comment_kind p.kind) (is_is p.kind p.text) refl (more.behind at) plain }

pub first-found : (ps : List Piece) → place_seen (seen_over Nothing ps) ≡ option_map (λ (p : Piece). p.at) (first_waiting ps)
first-found ps = (found ps).plain

-- the refusal at what is seen
pub refused-found : (cs : List Component) (at : ℕ) → place_seen (seen_over Nothing (pieces_all cs)) ≡ Some at → first_refusal (waiting_in cs) ≡ Some (unbuilt at)
refused-found cs at e = by (first_waiting (pieces_all cs)) (sym (first-found (pieces_all cs)) ∙ e)
  where
    by : (o : Option Piece) → option_map (λ (p : Piece). p.at) o ≡ Some at → first_refusal (unbuilt_at o) ≡ Some (unbuilt at)
    by None h = absurd (cc h)
    by (Some p) h = ap (option_map unbuilt) h

pub unrefused-found : (cs : List Component) → place_seen (seen_over Nothing (pieces_all cs)) ≡ None → first_refusal (waiting_in cs) ≡ None
unrefused-found cs e = by (first_waiting (pieces_all cs)) (sym (first-found (pieces_all cs)) ∙ e)
  where
    by : (o : Option Piece) → option_map (λ (p : Piece). p.at) o ≡ None → first_refusal (unbuilt_at o) ≡ None
    by None h = refl
    by (Some p) h = absurd (cc h)

-- none waits where none is seen
pub none-waiting : (cs : List Component) → place_seen (seen_over Nothing (pieces_all cs)) ≡ None → has_waiting cs ≡ false
none-waiting cs e = at (first_waiting (pieces_all cs)) (sym (first-found (pieces_all cs)) ∙ e)
  where
    at : (o : Option Piece) → option_map (λ (p : Piece). p.at) o ≡ None → is_some o ≡ false
    at None h = refl
    at (Some p) h = absurd (cc h)

pub none-seen : (cs : List Component) → has_waiting cs ≡ false → place_seen (seen_over Nothing (pieces_all cs)) ≡ None
none-seen cs e = first-found (pieces_all cs) ∙ at (first_waiting (pieces_all cs)) e
  where
    at : (o : Option Piece) → is_some o ≡ false → option_map (λ (p : Piece). p.at) o ≡ None
    at None h = refl
    at (Some p) h = absurd (cc h)

-- Words.

abbrev bare : List Piece → List Piece
bare ps = map piece_of (map word_of ps)

begins-bare : (ps : List Piece) → begins_is ps ≡ begins_is (bare ps)
begins-bare [] = refl
begins-bare (p ∷ ps) = ap (λ b. cond (is_comment_kind p.kind) b (is_is p.kind p.text)) (begins-bare ps)

waiting-bare : (ps : List Piece) → is_some (first_waiting ps) ≡ is_some (first_waiting (bare ps))
waiting-bare [] = refl
waiting-bare (p ∷ ps) =
    at (waits_before p ps) (first_waiting ps) (first_waiting (bare ps)) (waiting-bare ps)
    ∙ ap (λ b. is_some (cond (is_ampersand p.kind p.text || (is_colon_kind p.kind && b)) (Some (piece_of (word_of p))) (first_waiting (bare ps)))) (begins-bare ps)
  where
    at : (b : Bool) (o r : Option Piece) → is_some o ≡ is_some r → is_some (cond b (Some p) o) ≡ is_some (cond b (Some (piece_of (word_of p))) r)
    at true o r e = refl
    at false o r e = e

-- the same words wait
pub waiting-words : (a b : List Component) → words_all a ≡ words_all b → has_waiting a ≡ has_waiting b
waiting-words a b words = waiting-bare (pieces_all a) ∙ ap (λ (ws : List Word). is_some (first_waiting (map piece_of ws))) words ∙ sym (waiting-bare (pieces_all b))
