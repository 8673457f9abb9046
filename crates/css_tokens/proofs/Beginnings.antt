-- What a token of a kind begins with, and whether a quote comes behind it.
use Rattle.std.proofs.Common.{◌≡◌, ℕ, List, [], ◌∷◌, ◌++◌, Bool, true, false, not, ◌&&◌, ◌||◌, refl, sym, inl, inr, ap, ◌∙◌, subst, Option, Some, None, map, codes}
use Rattle.std.proofs.lemmas.Bool.{cases_Bool, and_parts, both_ways, not-true}
use Rattle.std.proofs.lemmas.List.{map-append}
use Rattle.std.specs.Char.{to_ascii_lowercase}
use Rattle.std.specs.List.{list_all, list_any}
use Rattle.std.specs.Str.{str_to_ascii_lowercase}
use lib.Pointwise.{bytes_decides}
use Rattle.css_tokens.specs.declared.class.Class.{Class}
use Rattle.css_tokens.specs.declared.class.Class.TheVariants as class
use Rattle.css_tokens.specs.declared.kind.Kind.{Kind}
use Rattle.css_tokens.specs.declared.kind.Kind.TheVariants as kind
use Rattle.css_tokens.specs.declared.machine.State.{State}
use Rattle.css_tokens.specs.declared.machine.State.TheVariants as state
use Rattle.css_tokens.specs.Characters.{class_of, has, is_class, white}
use Rattle.css_tokens.specs.Kinds.{begins, starts}
use Rattle.css_tokens.specs.Private.Machine.{next, ended}
use Rattle.css_tokens.specs.Piece.{Word}
use Rattle.css_tokens.specs.Tokens.{classes_of, quote_follows, is_url}
use Rattle.css_tokens.specs.Trees.{is_text}
use Rattle.css_tokens.specs.Again.{StaysFirst, stops, is_stop, is_end_kind, begins_none}
use Rattle.css_tokens.specs.Values.{is_white, is_gap}
use Rattle.css_tokens.proofs.Firsts.{ByTable, AsUrl, first_cases}
use Rattle.css_tokens.proofs.GapLemmas.{kind_cases}
use Rattle.css_tokens.proofs.MachineStates.{implied, refuted, each_class, each_state, each_step}
use Rattle.css_tokens.proofs.Runs.{run, longest-ended, ended_aside, same_inside}
use Rattle.css_tokens.proofs.Again.{comes_to, head_tail, lowered_class}
use Rattle.css_tokens.proofs.UrlNames.{url_state}

-- the states from which a token that may stand behind a value is still read
abbrev may_end : State → Bool
may_end state.Start = true
may_end state.White = true
may_end state.Slash = true
may_end state.Comment = true
may_end state.CommentStar = true
may_end (state.End k) = is_end_kind k
may_end s = false

abbrev comes_from_end : State → Class → Bool
comes_from_end s c = not (may_end (next s c)) || may_end s

end_table : (s : State) (x : Class) → comes_from_end s x ≡ true
end_table s x = each_step comes_from_end refl s x

end_never : (s : State) (t : List Class) → may_end s ≡ false → may_end (run s t) ≡ false
end_never s [] h = h
end_never s (x ∷ t) h = end_never (next s x) t (refuted (may_end (next s x)) (may_end s) h (end_table s x))

abbrev is_other : Option Kind → Bool
is_other None = true
is_other (Some k) = not (is_end_kind k)

end_other : (s : State) (after : List Class) (k : Kind) → may_end s ≡ false → ended s after ≡ Some k → is_end_kind k ≡ false
end_other s after k h e =
    let f = sym (ap is_other (ended_aside s after k e)) ∙ implied (not (may_end s)) (is_other (ended s [])) (ap not h) (each_state (λ r. not (not (may_end r)) || is_other (ended r [])) refl s) in
    not-true (is_end_kind k) f

not_end : (s : State) (t after : List Class) (k : Kind) → may_end s ≡ false → ended (run s t) after ≡ Some k → is_end_kind k ≡ false
not_end s t after k h e = end_other (run s t) after k (end_never s t h) e

-- a stop, and no quote
abbrev pub is_end_class : Class → Bool
is_end_class x = has stops x && not (has (class.DoubleQuote ∷ class.SingleQuote ∷ []) x)

abbrev begins_end : Class → Bool
begins_end x = not (may_end (next state.Start x)) || is_end_class x

end_first : (c after : List Class) (k : Kind) → ended (run state.Start c) after ≡ Some k → is_end_kind k ≡ true → (x : Class) × (t : List Class) × (c ≡ x ∷ t) × (is_end_class x ≡ true)
end_first [] after k e h = cc
end_first (x ∷ t) after k e h =
    elim (cases_Bool (may_end (next state.Start x))) [
      | inl m ↦ (x, t, refl, implied (may_end (next state.Start x)) (is_end_class x) m (each_class begins_end refl x))
      | inr m ↦ absurd (both_ways (is_end_kind k) (not_end (next state.Start x) t after k m e) h)
    ]

-- the machine reads the word and what follows it
table_ended : (w : Word) (a : List ℕ) → ByTable w a → ended (run state.Start (classes_of w.text)) (classes_of a) ≡ Some w.kind
table_ended w a h = longest-ended (run state.Start (classes_of w.text)) (classes_of a) w.kind (comes_to state.Start w.text a w.kind h.found)

pub url_ended : (w : Word) (a : List ℕ) (u : AsUrl w a) → ended (run state.UrlStart (classes_of u.inside)) (classes_of a) ≡ Some w.kind
url_ended w a u = longest-ended (run state.UrlStart (classes_of u.inside)) (classes_of a) w.kind (comes_to state.UrlStart u.inside a w.kind u.closed)

url_not_end : (w : Word) (a : List ℕ) → AsUrl w a → is_end_kind w.kind ≡ false
url_not_end w a u = not_end state.UrlStart (classes_of u.inside) (classes_of a) w.kind refl (url_ended w a u)

end_word : (w : Word) (a : List ℕ) → StaysFirst w a → is_end_kind w.kind ≡ true → ended (run state.Start (classes_of w.text)) (classes_of a) ≡ Some w.kind
end_word w a f h =
    elim (first_cases w a f) [
      | inl t ↦ table_ended w a t
      | inr u ↦ absurd (both_ways (is_end_kind w.kind) (url_not_end w a u) h)
    ]

-- such a token begins with a stop that is no quote
pub end_begins : (w : Word) (a : List ℕ) → StaysFirst w a → is_end_kind w.kind ≡ true → (x : Class) × (t : List Class) × (classes_of w.text ≡ x ∷ t) × (is_end_class x ≡ true)
end_begins w a f h = end_first (classes_of w.text) (classes_of a) w.kind (end_word w a f h) h

stop_front : (c a : List Class) (x : Class) (t : List Class) → c ≡ x ∷ t → has stops x ≡ true → is_stop (c ++ a) ≡ true
stop_front c a x t e h = subst (λ d. is_stop (d ++ a) ≡ true) (sym e) (ap (λ b. b || (is_class class.Bang x && not (starts (t ++ a) class.Minus))) h)

pub end_stops : (w : Word) (a : List ℕ) → StaysFirst w a → is_end_kind w.kind ≡ true → is_stop (classes_of (w.text ++ a)) ≡ true
end_stops w a f h =
    let b = end_begins w a f h in
    ap is_stop (map-append class_of w.text a) ∙ stop_front (classes_of w.text) (classes_of a) b.0 b.1 b.2 (and_parts (has stops b.0) _ b.3).0

-- white space is all white space
abbrev may_be_white : State → Bool
may_be_white state.Start = true
may_be_white state.White = true
may_be_white (state.End k) = is_white k
may_be_white s = false

abbrev comes_from_white : State → Class → Bool
comes_from_white s c = not (may_be_white (next s c)) || (has white c && may_be_white s)

white_table : (s : State) (x : Class) → comes_from_white s x ≡ true
white_table s x = each_step comes_from_white refl s x

abbrev has_white : Option Kind → Bool
has_white None = false
has_white (Some k) = is_white k

white_ended : (s : State) (after : List Class) → ended s after ≡ Some kind.White → may_be_white s ≡ true
white_ended s after h = implied (has_white (ended s [])) (may_be_white s) (ap has_white (ended_aside s after kind.White h)) (each_state (λ r. not (has_white (ended r [])) || may_be_white r) refl s)

white_run : (s : State) (c after : List Class) → ended (run s c) after ≡ Some kind.White → (may_be_white s ≡ true) × (list_all (has white) c ≡ true)
white_run s [] after h = (white_ended s after h, refl)
white_run s (x ∷ c) after h =
    let r = white_run (next s x) c after h in
    let p = and_parts (has white x) (may_be_white s) (implied (may_be_white (next s x)) _ r.0 (white_table s x)) in
    (p.1, ap (λ b. b && list_all (has white) c) p.0 ∙ r.1)

white_all : (w : Word) (a : List ℕ) → StaysFirst w a → w.kind ≡ kind.White → list_all (has white) (classes_of w.text) ≡ true
white_all w a f e = (white_run state.Start (classes_of w.text) (classes_of a) (end_word w a f (ap is_end_kind e) ∙ ap Some e)).1

-- and no other token begins with white space
abbrev only_white : State → Bool
only_white state.White = true
only_white state.Dead = true
only_white s = false

only_white_step : (s : State) (x : Class) → only_white s ≡ true → only_white (next s x) ≡ true
only_white_step s x h = implied (only_white s) (only_white (next s x)) h (each_step (λ r c. not (only_white r) || only_white (next r c)) refl s x)

only_white_run : (s : State) (t : List Class) → only_white s ≡ true → only_white (run s t) ≡ true
only_white_run s [] h = h
only_white_run s (x ∷ t) h = only_white_run (next s x) t (only_white_step s x h)

only_white_ended : (s : State) (after : List Class) (k : Kind) → only_white s ≡ true → ended s after ≡ Some k → is_white k ≡ true
only_white_ended state.White after k h e = ap is_white (sym (same_inside kind.White k e))
only_white_ended state.Dead after k h e = cc
only_white_ended s after k h e = cc

white_next : (x : Class) → has white x ≡ true → only_white (next state.Start x) ≡ true
white_next x h = implied (has white x) (only_white (next state.Start x)) h (each_class (λ c. not (has white c) || only_white (next state.Start c)) refl x)

dark_first : (c after : List Class) (k : Kind) → ended (run state.Start c) after ≡ Some k → is_white k ≡ false → (x : Class) × (t : List Class) × (c ≡ x ∷ t) × (has white x ≡ false)
dark_first [] after k e h = cc
dark_first (x ∷ t) after k e h =
    elim (cases_Bool (has white x)) [
      | inl m ↦ absurd (both_ways (is_white k) h (only_white_ended (run (next state.Start x) t) after k (only_white_run (next state.Start x) t (white_next x m)) e))
      | inr m ↦ (x, t, refl, m)
    ]

more_classes : (c d e : List Class) → ((x : Class) × (t : List Class) × (c ≡ x ∷ t) × (has white x ≡ false)) → e ≡ c ++ d → (x : Class) × (t : List Class) × (e ≡ x ∷ t) × (has white x ≡ false)
more_classes c d e b h = (b.0, b.1 ++ d, h ∙ ap (λ s. s ++ d) b.2, b.3)

url_dark : (w : Word) (a : List ℕ) → AsUrl w a → (x : Class) × (t : List Class) × (classes_of w.text ≡ x ∷ t) × (has white x ≡ false)
url_dark w a u =
    let p = and_parts (is_url u.name) _ u.ruled in
    more_classes (classes_of u.name) (classes_of u.inside) (classes_of w.text)
    (dark_first (classes_of u.name) [] kind.Function (ap (λ s. ended s []) (url_state u.name p.0)) refl)
    (ap classes_of u.whole ∙ map-append class_of u.name u.inside)

pub dark_begins : (w : Word) (a : List ℕ) → StaysFirst w a → is_white w.kind ≡ false → (x : Class) × (t : List Class) × (classes_of w.text ≡ x ∷ t) × (has white x ≡ false)
dark_begins w a f h =
    elim (first_cases w a f) [
      | inl t ↦ dark_first (classes_of w.text) (classes_of a) w.kind (table_ended w a t) h
      | inr u ↦ url_dark w a u
    ]

pub none_white : (x : Class) (t : List Class) → has white x ≡ false → not (begins white (x ∷ t)) ≡ true
none_white x t h = refuted_white (each_class (λ c. has white c || not (begins white (c ∷ t))) refl x)
  where
    refuted_white : (has white x || not (begins white (x ∷ t))) ≡ true → not (begins white (x ∷ t)) ≡ true
    refuted_white k = sym (ap (λ b. b || not (begins white (x ∷ t))) h) ∙ k

pub dark_none : (w : Word) (a : List ℕ) → StaysFirst w a → is_white w.kind ≡ false → begins_none white (w.text ++ a) ≡ true
dark_none w a f h =
    let b = dark_begins w a f h in
    ap (λ c. not (begins white c)) (map-append class_of w.text a ∙ ap (λ c. c ++ classes_of a) b.2) ∙ none_white b.0 (b.1 ++ classes_of a) b.3

-- whether a quote follows
quote_white : (c a : List Class) → list_all (has white) c ≡ true → quote_follows (c ++ a) ≡ quote_follows a
quote_white [] a h = refl
quote_white (x ∷ c) a h =
    let p = and_parts (has white x) (list_all (has white) c) h in
    rw (p.0) (quote_white c a p.1)

-- is there a character that is not white space?
abbrev pub is_dark : List Class → Bool
is_dark c = list_any (λ x. not (has white x)) c

dark_front : (c a : List Class) → is_dark c ≡ true → quote_follows (c ++ a) ≡ true → quote_follows c ≡ true
dark_front [] a h q = cc
dark_front (x ∷ c) a h q =
    elim (cases_Bool (has white x)) [
      | inl e ↦ let g : is_dark c ≡ true = rw e at h in let r : quote_follows (c ++ a) ≡ true = rw e at q in rw e (dark_front c a g r)
      | inr e ↦ let r : has (class.DoubleQuote ∷ class.SingleQuote ∷ []) x ≡ true = rw e at q in rw e r
    ]

behind : (c a b : List Class) → (quote_follows a ≡ true → quote_follows b ≡ true) → quote_follows (c ++ a) ≡ true → quote_follows (c ++ b) ≡ true
behind [] a b k q = k q
behind (x ∷ c) a b k q =
    elim (cases_Bool (has white x)) [
      | inl e ↦ let r : quote_follows (c ++ a) ≡ true = rw e at q in rw e (behind c a b k r)
      | inr e ↦ let r : has (class.DoubleQuote ∷ class.SingleQuote ∷ []) x ≡ true = rw e at q in rw e r
    ]

abbrev pub Quotes : List ℕ → Type 0
Quotes t = quote_follows (classes_of t) ≡ true

pub quotes_front : (t a : List ℕ) → is_dark (classes_of t) ≡ true → Quotes (t ++ a) → Quotes t
quotes_front t a h q = dark_front (classes_of t) (classes_of a) h (ap quote_follows (sym (map-append class_of t a)) ∙ q)

pub quotes_behind : (t a b : List ℕ) → (Quotes a → Quotes b) → Quotes (t ++ a) → Quotes (t ++ b)
quotes_behind t a b k q = ap quote_follows (map-append class_of t b) ∙ behind (classes_of t) (classes_of a) (classes_of b) k (ap quote_follows (sym (map-append class_of t a)) ∙ q)

no_quote : (c a : List Class) (x : Class) (t : List Class) → c ≡ x ∷ t → has white x ≡ false → has (class.DoubleQuote ∷ class.SingleQuote ∷ []) x ≡ false → quote_follows (c ++ a) ≡ false
no_quote c a x t e h k = subst (λ d. quote_follows (d ++ a) ≡ false) (sym e) (rw h k)

same_head : (x y : Class) (s t : List Class) → x ∷ s ≡ y ∷ t → x ≡ y
same_head x y s t h = cc

comment_quote : (w : Word) (a b : List ℕ) → StaysFirst w a → w.kind ≡ kind.Comment → quote_follows (classes_of (w.text ++ b)) ≡ false
comment_quote w a b f e =
    let d = dark_begins w a f (ap is_white e) in
    let n = end_begins w a f (ap is_end_kind e) in
    let i : n.0 ≡ d.0 = same_head n.0 d.0 n.1 d.1 (sym n.2 ∙ d.2) in
    let q = not-true (has (class.DoubleQuote ∷ class.SingleQuote ∷ []) n.0) (and_parts (has stops n.0) _ n.3).1 in
    ap quote_follows (map-append class_of w.text b) ∙ no_quote (classes_of w.text) (classes_of b) d.0 d.1 d.2 d.3 (ap (has (class.DoubleQuote ∷ class.SingleQuote ∷ [])) (sym i) ∙ q)

not_gap : (k : Kind) → is_gap k ≡ true → is_gap k ≡ false → ⊥
not_gap k e f = both_ways (is_gap k) f e

-- where a quote comes behind a gap, it is white space and the quote comes behind it
pub gap_quotes : (w : Word) (a b : List ℕ) → is_gap w.kind ≡ true → StaysFirst w a → Quotes (w.text ++ b) → (is_white w.kind ≡ true) × Quotes b
gap_quotes w a b g f q =
    elim (kind_cases w.kind) [
      | inl e ↦ (ap is_white e, sym (ap quote_follows (map-append class_of w.text b) ∙ quote_white (classes_of w.text) (classes_of b) (white_all w a f e)) ∙ q)
      | inr other ↦ elim other [
        | inl e ↦ absurd (both_ways (quote_follows (classes_of (w.text ++ b))) (comment_quote w a b f e) q)
        | inr e ↦ absurd (not_gap w.kind g e)
      ]
    ]

gap_end : (k : Kind) → is_gap k ≡ true → is_end_kind k ≡ true
gap_end kind.White e = refl
gap_end kind.Comment e = refl
gap_end _ e = cc

pub gap_stops : (w : Word) (a : List ℕ) → is_gap w.kind ≡ true → StaysFirst w a → is_stop (classes_of (w.text ++ a)) ≡ true
gap_stops w a g f = end_stops w a f (gap_end w.kind g)

-- a `!` with no `-` behind it is a stop, and what may stand behind it begins with no `-`
no_minus : (t : List Class) → not (begins (class.Minus ∷ []) t) ≡ true → not (starts t class.Minus) ≡ true
no_minus t h =
    elim (cases_Bool (starts t class.Minus)) [
      | inl e ↦ let g : false ≡ true = rw e at h in cc
      | inr e ↦ ap not e
    ]

pub bang_stops : (rest : List ℕ) → begins_none (class.Minus ∷ []) rest ≡ true → is_stop (classes_of (codes "!" ++ rest)) ≡ true
bang_stops rest h = no_minus (classes_of rest) h

end_no_minus : (x : Class) (t : List Class) → has stops x ≡ true → not (begins (class.Minus ∷ []) (x ∷ t)) ≡ true
end_no_minus class.Minus t h = cc
end_no_minus x t h = refl

pub gap_no_minus : (w : Word) (rest : List ℕ) → StaysFirst w rest → is_gap w.kind ≡ true → begins_none (class.Minus ∷ []) (w.text ++ rest) ≡ true
gap_no_minus w rest f g =
    let b = end_begins w rest f (gap_end w.kind g) in
    ap (λ c. not (begins (class.Minus ∷ []) c)) (map-append class_of w.text rest ∙ ap (λ c. c ++ classes_of rest) b.2)
    ∙ end_no_minus b.0 (b.1 ++ classes_of rest) (and_parts (has stops b.0) _ b.3).0

keyword_first : (u rest : List ℕ) → map to_ascii_lowercase u ≡ codes "important" → begins_none (class.Minus ∷ []) (u ++ rest) ≡ true
keyword_first [] rest h = cc
keyword_first (b ∷ u) rest h = ap (λ c. not (begins (class.Minus ∷ []) (c ∷ classes_of (u ++ rest)))) (lowered_class b 105 73 class.Letter refl refl refl (head_tail (to_ascii_lowercase b) 105 _ _ h).0)

pub important_no_minus : (u rest : List ℕ) → is_text (str_to_ascii_lowercase u) (codes "important") ≡ true → begins_none (class.Minus ∷ []) (u ++ rest) ≡ true
important_no_minus u rest h = keyword_first u rest ((bytes_decides (str_to_ascii_lowercase u) (codes "important")).0 h)
