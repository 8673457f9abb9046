-- The two ways in which a text has a first token: by the table, or as a Url.
use Rattle.std.proofs.Common.{◌≡◌, ℕ, ◌+◌, List, ◌++◌, length, take, drop, Bool, true, false, not, ◌&&◌, ◌⊎◌, sym, inl, inr, ap, ap₂, ◌∙◌, subst, Option, Some, arith, add_comm, append_assoc, length-append, length-take, if◌then◌else◌}
use Rattle.std.proofs.Math.Seq.{take-add, drop-append_seam, take-append_seam}
use Rattle.std.proofs.lemmas.Bool.{cases_Bool}
use Rattle.std.specs.Option.{option_map, option_and_then}
use Rattle.css_tokens.specs.declared.kind.Kind.{Kind}
use Rattle.css_tokens.specs.declared.machine.State.TheVariants as state
use Rattle.css_tokens.specs.Kinds.{table, url_table}
use Rattle.css_tokens.specs.Piece.{Word}
use Rattle.css_tokens.specs.Tokens.{First, first_front, front_of, url_rule, word, longer, classes_of, is_url, quote_follows}
use Rattle.css_tokens.specs.Again.{word_from}
use Rattle.css_tokens.proofs.Fronts.{longest_in}
use Rattle.css_tokens.proofs.Reading.{mapped, chained}
use Rattle.css_tokens.proofs.Runs.{same_inside}
use Rattle.css_tokens.proofs.Spelling.{front_within}

-- does the front begin a Url, or nothing, before this text?
abbrev pub is_ruled : List ℕ → List ℕ → Bool
is_ruled front rest = is_url front && not (quote_follows (classes_of rest))

pub record ByTable (w : Word) (a : List ℕ) : Type 0 where
  pub found : longest_in state.Start (classes_of (w.text ++ a)) ≡ Some (w.kind, length w.text)
  pub ruled : is_ruled w.text a ≡ false

pub record AsUrl (w : Word) (a : List ℕ) : Type 0 where
  pub kind : Kind
  pub name : List ℕ
  pub inside : List ℕ
  pub whole : w.text ≡ name ++ inside
  pub found : longest_in state.Start (classes_of (name ++ (inside ++ a))) ≡ Some (kind, length name)
  pub ruled : is_ruled name (inside ++ a) ≡ true
  pub closed : longest_in state.UrlStart (classes_of (inside ++ a)) ≡ Some (w.kind, length inside)

abbrev ruled_front : List ℕ → Kind × ℕ → Bool → Option (Kind × ℕ)
ruled_front t f b = if b then option_map (longer f.1) (front_of url_table (drop f.1 t)) else Some f

rule_by : (t : List ℕ) (f : Kind × ℕ) (b : Bool) → is_ruled (take f.1 t) (drop f.1 t) ≡ b → url_rule t f ≡ ruled_front t f b
rule_by t f b e = ap (ruled_front t f) e

pub by_table : (w : Word) (a : List ℕ) → ByTable w a → First (w.text ++ a) w
by_table w a h =
    let t = w.text ++ a in
    let n = length w.text in
    let f : Kind × ℕ = (w.kind, n) in
    let e : is_ruled (take n t) (drop n t) ≡ false = ap₂ is_ruled (take-append_seam w.text a) (drop-append_seam w.text a) ∙ h.ruled in
    ap (λ o. option_map (word t) (option_and_then (url_rule t) o)) h.found
    ∙ ap (option_map (word t)) (rule_by t f false e)
    ∙ ap (λ u. Some (word_from w.kind u)) (take-append_seam w.text a)

pub as_url : (w : Word) (a : List ℕ) → AsUrl w a → First (w.text ++ a) w
as_url w a h =
    let t = h.name ++ (h.inside ++ a) in
    let n = length h.name in
    let f : Kind × ℕ = (h.kind, n) in
    let m = length h.inside + n in
    let s : w.text ++ a ≡ t = ap (λ u. u ++ a) h.whole ∙ append_assoc h.name h.inside a in
    let e : is_ruled (take n t) (drop n t) ≡ true = ap₂ is_ruled (take-append_seam h.name (h.inside ++ a)) (drop-append_seam h.name (h.inside ++ a)) ∙ h.ruled in
    let l : m ≡ length w.text = omega (arith, length-append h.name h.inside, ap length h.whole) in
    let u : take m t ≡ w.text = ap₂ take l (sym s) ∙ take-append_seam w.text a in
    subst (λ x. First x w) (sym s)
    (ap (λ o. option_map (word t) (option_and_then (url_rule t) o)) h.found
    ∙ ap (option_map (word t)) (rule_by t f true e)
    ∙ ap (λ x. option_map (word t) (option_map (longer n) (longest_in state.UrlStart (classes_of x)))) (drop-append_seam h.name (h.inside ++ a))
    ∙ ap (λ o. option_map (word t) (option_map (longer n) o)) h.closed
    ∙ ap (λ x. Some (word_from w.kind x)) u)

table_case : (w : Word) (a : List ℕ) (f : Kind × ℕ) → longest_in state.Start (classes_of (w.text ++ a)) ≡ Some f → is_ruled (take f.1 (w.text ++ a)) (drop f.1 (w.text ++ a)) ≡ false → word (w.text ++ a) f ≡ w → ByTable w a
table_case w a f h e i =
    let t = w.text ++ a in
    let k : f.0 ≡ w.kind = ap (λ (v : Word). v.kind) i in
    let u : take f.1 t ≡ w.text = ap (λ (v : Word). v.text) i in
    let l : f.1 ≡ length w.text = let b = front_within state.Start t f.0 f.1 h in omega (arith, length-take f.1 t, ap length u) in
    record {
      found = h ∙ ap₂ (λ (x : Kind) (y : ℕ). Some (x, y)) k l;
      ruled = ap₂ is_ruled (sym u) (sym (ap (λ n. drop n t) l ∙ drop-append_seam w.text a)) ∙ e;
    }

url_case : (w : Word) (a : List ℕ) (f i : Kind × ℕ) → longest_in state.Start (classes_of (w.text ++ a)) ≡ Some f → is_ruled (take f.1 (w.text ++ a)) (drop f.1 (w.text ++ a)) ≡ true → longest_in state.UrlStart (classes_of (drop f.1 (w.text ++ a))) ≡ Some i → word (w.text ++ a) (longer f.1 i) ≡ w → AsUrl w a
url_case w a f i h e g j =
    let t = w.text ++ a in
    let name = take f.1 t in
    let inside = take i.1 (drop f.1 t) in
    let k : i.0 ≡ w.kind = ap (λ (v : Word). v.kind) j in
    let u : name ++ inside ≡ w.text = sym (take-add f.1 i.1 t) ∙ ap (λ n. take n t) (add_comm f.1 i.1) ∙ ap (λ (v : Word). v.text) j in
    let b = front_within state.Start t f.0 f.1 h in
    let d = front_within state.UrlStart (drop f.1 t) i.0 i.1 g in
    let l : f.1 ≡ length name = omega (arith, length-take f.1 t) in
    let m : i.1 ≡ length inside = omega (arith, length-take i.1 (drop f.1 t)) in
    let s : t ≡ name ++ (inside ++ a) = ap (λ x. x ++ a) (sym u) ∙ append_assoc name inside a in
    let r : drop f.1 t ≡ inside ++ a = ap₂ drop l s ∙ drop-append_seam name (inside ++ a) in
    record {
      kind = f.0;
      name = name;
      inside = inside;
      whole = sym u;
      found = ap (λ x. longest_in state.Start (classes_of x)) (sym s) ∙ h ∙ ap (λ n. Some (f.0, n)) l;
      ruled = ap (is_ruled name) (sym r) ∙ e;
      closed = ap (λ x. longest_in state.UrlStart (classes_of x)) (sym r) ∙ g ∙ ap₂ (λ (x : Kind) (y : ℕ). Some (x, y)) k m;
    }

pub first_cases : (w : Word) (a : List ℕ) → First (w.text ++ a) w → ByTable w a ⊎ AsUrl w a
first_cases w a h =
    let t = w.text ++ a in
    let m = mapped (word t) (first_front t) w h in
    let c = chained (url_rule t) (front_of table t) m.0 m.1 in
    elim (cases_Bool (is_ruled (take c.0.1 t) (drop c.0.1 t))) [
      | inl e ↦
          let i = mapped (longer c.0.1) (front_of url_table (drop c.0.1 t)) m.0 (sym (rule_by t c.0 true e) ∙ c.2) in
          inr (url_case w a c.0 i.0 (c.1) e i.1 (ap (word t) i.2 ∙ m.2))
      | inr e ↦
          let i = same_inside c.0 m.0 (sym (rule_by t c.0 false e) ∙ c.2) in
          inl (table_case w a c.0 c.1 e (ap (word t) i ∙ m.2))
    ]
