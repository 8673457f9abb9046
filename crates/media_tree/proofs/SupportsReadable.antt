-- What is read as a supports condition is readable.
use Rattle.std.proofs.Common.{◌≡◌, ℕ, List, [], ◌∷◌, map, Bool, true, false, ◌&&◌, ◌||◌, not, length, nat_eq, arith, refl, sym, ap, ap₂, ◌∙◌, subst, inl, inr, suc}
use Rattle.std.specs.Prelude.{Option, Some, None, codes, filter, if◌then◌else◌}
use Rattle.std.specs.Char.{to_ascii_lowercase}
use Rattle.std.specs.List.{AllByRecursion, list_all, list_any}
use Rattle.std.specs.Str.{IsUtf8, is_utf8}
use Rattle.std.proofs.lemmas.Bool.{and_parts, cases_Bool, false≢true}
use Rattle.std.proofs.lemmas.Bool.Decides.{nat_tests}
use Rattle.std.proofs.lemmas.Str.{IsUtf8-from_is_utf8}
use lib.Pointwise.{bytes_decides}
use Rattle.css_tokens.specs.declared.kind.Kind.{Kind}
use Rattle.css_tokens.specs.declared.kind.Kind.TheVariants as kinds
use Rattle.css_tokens.specs.declared.component.Component.{Component, out-Component}
use Rattle.css_tokens.specs.declared.component.Component as component
use Rattle.css_tokens.specs.declared.component.Component.TheVariants.{outs-Single, outs-Block}
use Rattle.css_tokens.specs.declared.component.Block as block
use Rattle.css_tokens.specs.Names.{is_name, name_of_word}
use Rattle.css_tokens.specs.Tokens.{spells}
use Rattle.css_tokens.specs.Trees.{all_formed, is_formed, is_formed-Block, is_text, opens, words_all}
use Rattle.css_tokens.specs.ValueAgain.{again, again-Single, again-Block, all_again, head_kind, head_kind-Single, head_kind-Block, is_solid, short_piece, value_again}
use Rattle.css_tokens.specs.Values.{is_gap as is_gap_kind, short_text}
use Rattle.media_spelling.specs.declared.supports.Supports.{Supports}
use Rattle.media_spelling.specs.declared.supports.Supports as supports
use Rattle.media_spelling.specs.SupportsFold.{folded-And, folded-Or, folded-Not, folded-Declared, folded-Function}
use Rattle.media_tree.specs.declared.mark.Mark.{Mark}
use Rattle.media_tree.specs.declared.mark.Mark.TheVariants as marks
use Rattle.media_tree.specs.declared.sign.Sign.{Sign}
use Rattle.media_tree.specs.declared.sign.Sign.TheVariants.{Not, Only, And, Or, Name, Other}
use Rattle.media_tree.specs.ComponentInduction.{Each, by_components}
use Rattle.media_tree.specs.Conditions.{condition_of, kind_sign, solid, within}
use Rattle.media_tree.specs.Marks.{is_gap, is_gap_mark, layer_mark, lowered, mark_of, token_mark, trimmed, trimmed_end, trimmed_start}
use Rattle.media_spelling.specs.SupportsAgain.{functionless, has_no_function}
use Rattle.media_tree.specs.SupportsAgain.{is_readable_declaration, is_readable_supports, is_utf8_value, readable}
use Rattle.media_tree.specs.SupportsReading.{declaration_from, declaration_of, declared, declared_by, declared_from, inside_of, is_barred, is_barred_mark, is_braces, is_braces_mark, is_colon_mark, is_custom, is_own_value, layer_name, makes, may_be_value, name_of, opened_sign, property_name, sign_of, supports_inside, supports_reading, token_name}
use Rattle.media_tree.specs.SpelledWords.{is_spelled}
use Rattle.media_tree.proofs.LowerNames.{lower-name, lower-twice}
use Rattle.media_tree.proofs.PartsOfTexts.{Good, all-formed, all-good, all-utf8, each-start, each-trimmed, inside-good, token-good}
use Rattle.media_tree.proofs.ReadConditions.{InWithin, Kept, OfSome, condition-kept, in-within, solid-kept, some-or}
use Rattle.media_tree.proofs.SignEquations.{supports-Single, supports-Block}

-- Names of properties.

dash-lowered : (b : ℕ) → nat_eq 45 (to_ascii_lowercase b) ≡ nat_eq 45 b
dash-lowered b = grind (arith, nat_tests)

custom-lowered : (n : List ℕ) → is_custom (lowered n) ≡ is_custom n
custom-lowered [] = refl
custom-lowered (a ∷ []) = ap (λ (b : Bool). b && false) (dash-lowered a)
custom-lowered (a ∷ b ∷ n) = ap₂ (λ (x y : Bool). x && (y && true)) (dash-lowered a) (dash-lowered b)

abbrev property_at : Bool → List ℕ → List ℕ
property_at custom n = if custom then n else lowered n

-- the name of a property that is read
record IsProperty (n : List ℕ) : Type 0 where
  name : is_name (property_name n) ≡ true
  same : property_name (property_name n) ≡ property_name n
  custom : is_custom (property_name n) ≡ is_custom n

is-property : (n : List ℕ) → is_name n ≡ true → IsProperty n
is-property n h = elim (cases_Bool (is_custom n)) [
  | inl e ↦
      let p : property_name n ≡ n = ap (λ (b : Bool). property_at b n) e in
      record { name = ap is_name p ∙ h; same = ap property_name p; custom = ap is_custom p }
  | inr e ↦
      let p : property_name n ≡ lowered n = ap (λ (b : Bool). property_at b n) e in
      let c : is_custom (lowered n) ≡ false = custom-lowered n ∙ e in
      record {
        name = ap is_name p ∙ lower-name n h;
        same = ap property_name p ∙ ap (λ (b : Bool). property_at b (lowered n)) c ∙ lower-twice n ∙ sym p;
        custom = ap is_custom p ∙ custom-lowered n;
      }
]

-- Marks of components as they print.

token-short : (k : Kind) (t : List ℕ) → token_mark k (short_text k t) ≡ token_mark k t
token-short kinds.White t = refl
token-short kinds.Comment t = refl
token-short k t = refl

mark-again : (c : Component) → mark_of (again c) ≡ mark_of c
mark-again c =
    by_components (λ x. mark_of (again x) ≡ mark_of x)
    (λ p. ap mark_of (again-Single p) ∙ ap layer_mark (outs-Single (short_piece p)) ∙ token-short p.kind p.text ∙ sym (ap layer_mark (outs-Single p)))
    (λ b each. ap mark_of (again-Block b) ∙ ap layer_mark (outs-Block (record { opening = b.opening; items = all_again b.items; close = b.close })) ∙ sym (ap layer_mark (outs-Block b)))
    c

kind-again : (c : Component) → head_kind (again c) ≡ head_kind c
kind-again c =
    by_components (λ x. head_kind (again x) ≡ head_kind x)
    (λ p. ap head_kind (again-Single p) ∙ head_kind-Single (short_piece p) ∙ sym (head_kind-Single p))
    (λ b each. ap head_kind (again-Block b) ∙ head_kind-Block (record { opening = b.opening; items = all_again b.items; close = b.close }) ∙ sym (head_kind-Block b))
    c

-- Tests of lists.

module _ (test : Component → Bool) (solid_only : (c : Component) → is_formed c ≡ true → is_solid c ≡ false → test c ≡ false) (kept : (c : Component) → test (again c) ≡ test c) where
  any-at : (b : Bool) (c : Component) (cs : List Component) → is_formed c ≡ true → is_solid c ≡ b → list_any test (if b then c ∷ filter is_solid cs else filter is_solid cs) ≡ (test c || list_any test (filter is_solid cs))
  any-at true c cs f e = refl
  any-at false c cs f e = ap (λ (b : Bool). b || list_any test (filter is_solid cs)) (sym (solid_only c f e))

  any-solid : (cs : List Component) → all_formed cs ≡ true → list_any test (filter is_solid cs) ≡ list_any test cs
  any-solid [] f = refl
  any-solid (c ∷ cs) f = (let p = and_parts (is_formed c) (all_formed cs) f in any-at (is_solid c) c cs p.0 refl ∙ ap (λ (b : Bool). test c || b) (any-solid cs p.1))

  any-again : (cs : List Component) → list_any test (map again cs) ≡ list_any test cs
  any-again [] = refl
  any-again (c ∷ cs) = ap₂ ◌||◌ (kept c) (any-again cs)

  any-value : (v : List Component) → all_formed v ≡ true → all_formed (value_again v) ≡ true → filter is_solid (value_again v) ≡ map again (filter is_solid v) → list_any test (value_again v) ≡ list_any test v
  any-value v f g e = sym (any-solid (value_again v) g) ∙ ap (list_any test) e ∙ any-again (filter is_solid v) ∙ any-solid v f

not-both : (a : Bool) → a ≡ true → a ≡ false → ⊥
not-both a h k = false≢true (sym k ∙ h)

-- what white space and comments are not
record IsSolidTest (test : Mark → Bool) : Type 0 where
  white : test marks.White ≡ false
  comment : test marks.Comment ≡ false

token-test : (test : Mark → Bool) → IsSolidTest test → (k : Kind) (t : List ℕ) → not (is_gap_kind k) ≡ false → test (token_mark k t) ≡ false
token-test test is kinds.White t h = is.white
token-test test is kinds.Comment t h = is.comment
token-test test is k t h = absurd (false≢true (sym h))

opens-solid : (k : Kind) → opens k ≡ true → not (is_gap_kind k) ≡ true
opens-solid kinds.Open h = refl
opens-solid kinds.Function h = refl
opens-solid k h = absurd (false≢true h)

solid-test : (test : Mark → Bool) → IsSolidTest test → (c : Component) → is_formed c ≡ true → is_solid c ≡ false → test (mark_of c) ≡ false
solid-test test is c =
    by_components (λ x. is_formed x ≡ true → is_solid x ≡ false → test (mark_of x) ≡ false)
    (λ p f h. ap (λ v. test (layer_mark v)) (outs-Single p) ∙ token-test test is p.kind p.text (sym (ap (λ (k : Kind). not (is_gap_kind k)) (head_kind-Single p)) ∙ h))
    (λ b each f h. absurd (not-both (is_solid (component.Block b))
    (ap (λ (k : Kind). not (is_gap_kind k)) (head_kind-Block b) ∙ opens-solid b.opening.kind (and_parts (opens b.opening.kind) (all_formed b.items) (sym (is_formed-Block b) ∙ f)).0) h))
    c

-- what a value is known to be
record IsValue (v : List Component) : Type 0 where
  formed : all_formed v ≡ true
  printed : all_formed (value_again v) ≡ true
  solid : filter is_solid (value_again v) ≡ map again (filter is_solid v)

any-mark : (test : Mark → Bool) → IsSolidTest test → (v : List Component) → IsValue v → list_any (λ c. test (mark_of c)) (value_again v) ≡ list_any (λ c. test (mark_of c)) v
any-mark test is v h = any-value (λ c. test (mark_of c)) (solid-test test is) (λ c. ap test (mark-again c)) v h.formed h.printed h.solid

any-solid-kept : (v : List Component) → IsValue v → list_any is_solid (value_again v) ≡ list_any is_solid v
any-solid-kept v h = any-value is_solid (λ c f e. e) (λ c. ap (λ (k : Kind). not (is_gap_kind k)) (kind-again c)) v h.formed h.printed h.solid

-- What is trimmed is empty, or something stands in it.

gap-solid : (k : Kind) (t : List ℕ) → is_gap_mark (token_mark k t) ≡ false → not (is_gap_kind k) ≡ true
gap-solid kinds.White t h = absurd (false≢true (sym h))
gap-solid kinds.Comment t h = absurd (false≢true (sym h))
gap-solid k t h = refl

-- what is no gap here is solid to values
not-gap-solid : (c : Component) → is_formed c ≡ true → is_gap c ≡ false → is_solid c ≡ true
not-gap-solid c =
    by_components (λ x. is_formed x ≡ true → is_gap x ≡ false → is_solid x ≡ true)
    (λ p f h. ap (λ (k : Kind). not (is_gap_kind k)) (head_kind-Single p) ∙ gap-solid p.kind p.text (sym (ap (λ v. is_gap_mark (layer_mark v)) (outs-Single p)) ∙ h))
    (λ b each f h. ap (λ (k : Kind). not (is_gap_kind k)) (head_kind-Block b) ∙ opens-solid b.opening.kind (and_parts (opens b.opening.kind) (all_formed b.items) (sym (is_formed-Block b) ∙ f)).0)
    c

or-true : (a : Bool) → (a || true) ≡ true
or-true true = refl
or-true false = refl

end-solid : (cs : List Component) → Each Good cs → list_all is_gap cs ≡ false → list_any is_solid (trimmed_end cs) ≡ true
end-solid [] g h = absurd (false≢true (sym h))
end-solid (c ∷ cs) g h =
    ap (λ (b : Bool). list_any is_solid (if b then [] else c ∷ trimmed_end cs)) h
    ∙ elim (cases_Bool (is_gap c)) [
      | inl e ↦ ap (λ (b : Bool). is_solid c || b) (end-solid cs g.1 (sym (ap (λ (b : Bool). b && list_all is_gap cs) e) ∙ h)) ∙ or-true (is_solid c)
      | inr e ↦ ap (λ (b : Bool). b || list_any is_solid (trimmed_end cs)) (not-gap-solid c g.0.formed e)
    ]

all-gaps-end : (cs : List Component) → list_all is_gap cs ≡ true → trimmed_end cs ≡ []
all-gaps-end [] h = refl
all-gaps-end (c ∷ cs) h = ap (λ (b : Bool). if b then [] else c ∷ trimmed_end cs) h

trimmed-solid : (cs : List Component) → Each Good cs → nat_eq (length (trimmed_end cs)) 0 ≡ false → list_any is_solid (trimmed_end cs) ≡ true
trimmed-solid cs g h = elim (cases_Bool (list_all is_gap cs)) [
  | inl e ↦ absurd (false≢true (sym h ∙ ap (λ (xs : List Component). nat_eq (length xs) 0) (all-gaps-end cs e)))
  | inr e ↦ end-solid cs g e
]

never-zero : (n : ℕ) → nat_eq (suc n) 0 ≡ false
never-zero n = grind (arith, nat_tests)

not-empty : (v : List Component) → list_any is_solid v ≡ true → nat_eq (length v) 0 ≡ false
not-empty [] h = absurd (false≢true h)
not-empty (c ∷ v) h = never-zero (length v)

-- Values.

abbrev plain_at : Bool → Bool → Bool
plain_at empty braces = if empty then false else not braces

plain-parts : (empty braces : Bool) → plain_at empty braces ≡ true → (empty ≡ false) × (braces ≡ false)
plain-parts true b h = absurd (false≢true h)
plain-parts false true h = absurd (false≢true h)
plain-parts false false h = (refl, refl)

own-value : (custom : Bool) (v : List Component) → IsValue v → (nat_eq (length v) 0 ≡ false → list_any is_solid v ≡ true) → is_own_value custom v ≡ true → is_own_value custom (value_again v) ≡ true
own-value true v is solid h = refl
own-value false v is solid h =
    let p = plain-parts (nat_eq (length v) 0) (list_any is_braces v) h in
    ap₂ plain_at
    (not-empty (value_again v) (any-solid-kept v is ∙ solid p.0))
    (any-mark is_braces_mark (record { white = refl; comment = refl }) v is ∙ p.1)

abbrev may_at : Bool → Bool → Bool
may_at barred own = if barred then false else own

may-parts : (barred own : Bool) → may_at barred own ≡ true → (barred ≡ false) × (own ≡ true)
may-parts true own h = absurd (false≢true h)
may-parts false own h = (refl, h)

may-be : (custom : Bool) (v : List Component) → IsValue v → (nat_eq (length v) 0 ≡ false → list_any is_solid v ≡ true) → may_be_value custom v ≡ true → may_be_value custom (value_again v) ≡ true
may-be custom v is solid h =
    let p = may-parts (list_any is_barred v) (is_own_value custom v) h in
    ap₂ may_at (any-mark is_barred_mark (record { white = refl; comment = refl }) v is ∙ p.0) (own-value custom v is solid p.1)

-- Declarations.

-- it is readable where no function stands in it
abbrev pub IsFine : Supports → Type 0
IsFine s = has_no_function s ≡ true → is_readable_supports s ≡ true

-- what the token crate ensures of names, and of values as they print
pub record Printing : Type 0 where
  pub decoded : (t : List ℕ) → IsUtf8 t → spells kinds.Ident t ≡ true → is_name (name_of_word kinds.Ident t) ≡ true
  pub formed : (v : List Component) → all_formed v ≡ true → all_formed (value_again v) ≡ true
  pub solid : (v : List Component) → filter is_solid (value_again v) ≡ map again (filter is_solid v)

abbrev IsName : List ℕ → Type 0
IsName n = is_name n ≡ true

module _ (printing : Printing) where
  token-name : (k : Kind) (t : List ℕ) → is_spelled (record { kind = k; text = t }) ≡ true → OfSome IsName (token_name k t)
  token-name kinds.Ident t h = (let p = and_parts (is_utf8 t) (spells kinds.Ident t) h in printing.decoded t (IsUtf8-from_is_utf8 t p.0) p.1)
  token-name k t h = tt

  name-good : (c : Component) → Good c → OfSome IsName (name_of c)
  name-good c =
      by_components (λ x. Good x → OfSome IsName (name_of x))
      (λ p g. subst (OfSome IsName) (sym (ap layer_name (outs-Single p))) (token-name p.kind p.text (token-good p g)))
      (λ b each g. subst (OfSome IsName) (sym (ap layer_name (outs-Block b))) tt)
      c

  declared-readable : (n : List ℕ) (v : List Component) → IsName n → IsValue v → is_utf8_value v ≡ true → may_be_value (is_custom n) (value_again v) ≡ true → is_readable_declaration (property_name n) v ≡ true
  declared-readable n v h is utf8 may =
      (let p = is-property n h in
      let same : is_text (property_name (property_name n)) (property_name n) ≡ true = (bytes_decides (property_name (property_name n)) (property_name n)).1 p.same in
      let value : may_be_value (is_custom (property_name n)) (value_again v) ≡ true = ap (λ (b : Bool). may_be_value b (value_again v)) p.custom ∙ may in
      ap₂ ◌&&◌ p.name (ap₂ ◌&&◌ same (ap₂ ◌&&◌ is.formed (ap₂ ◌&&◌ utf8 value))))

  declared-at : (b : Bool) (n : List ℕ) (v : List Component) → (b ≡ true → IsFine (supports.Declared (property_name n) v)) → OfSome IsFine (if b then Some (supports.Declared (property_name n) v) else None)
  declared-at true n v h = h refl
  declared-at false n v h = tt

  declared-fine : (n : List ℕ) (cs : List Component) → IsName n → Each Good cs → OfSome IsFine (declared n (trimmed cs))
  declared-fine n cs h g =
      (let v = trimmed cs in
      let starts = each-start Good cs g in
      let each = each-trimmed Good cs g in
      let formed = all-formed v each in
      let is : IsValue v = record { formed = formed; printed = printing.formed v formed; solid = printing.solid v } in
      declared-at (may_be_value (is_custom n) v) n v
      (λ may none. folded-Declared readable (property_name n) v ∙ declared-readable n v h is (all-utf8 v each) (may-be (is_custom n) v is (trimmed-solid (trimmed_start cs) starts) may)))

  where_some : (b : Bool) (o : Option Supports) → OfSome IsFine o → OfSome IsFine (if b then o else None)
  where_some true o h = h
  where_some false o h = tt

  from-fine : (n : List ℕ) (cs : List Component) → IsName n → Each Good cs → OfSome IsFine (declared_from n cs)
  from-fine n [] h g = tt
  from-fine n (c ∷ cs) h g = where_some (is_colon_mark (mark_of c)) (declared n (trimmed cs)) (declared-fine n cs h g.1)

  by-fine : (o : Option (List ℕ)) (cs : List Component) → OfSome IsName o → Each Good cs → OfSome IsFine (declared_by o cs)
  by-fine None cs h g = tt
  by-fine (Some n) cs h g = from-fine n (trimmed_start cs) h (each-start Good cs g)

  begun-fine : (cs : List Component) → Each Good cs → OfSome IsFine (declaration_from cs)
  begun-fine [] g = tt
  begun-fine (c ∷ cs) g = by-fine (name_of c) cs (name-good c g.0) g.1

  declaration-fine : (cs : List Component) → Each Good cs → OfSome IsFine (declaration_of cs)
  declaration-fine cs g = begun-fine (trimmed_start cs) (each-start Good cs g)

  -- Conditions.

  all-fine : (cs : List Supports) → AllByRecursion IsFine cs → list_all (λ b. b) (map has_no_function cs) ≡ true → list_all (λ b. b) (map is_readable_supports cs) ≡ true
  all-fine [] h n = refl
  all-fine (c ∷ cs) h n = (let p = and_parts (has_no_function c) (list_all (λ b. b) (map has_no_function cs)) n in ap₂ ◌&&◌ (h.0 p.0) (all-fine cs h.1 p.1))

  rows-kept : Kept makes IsFine
  rows-kept = record {
    and_of = λ c d cs h n. folded-And readable (c ∷ d ∷ cs) ∙ all-fine (c ∷ d ∷ cs) h (sym (folded-And functionless (c ∷ d ∷ cs)) ∙ n);
    or_of = λ c d cs h n. folded-Or readable (c ∷ d ∷ cs) ∙ all-fine (c ∷ d ∷ cs) h (sym (folded-Or functionless (c ∷ d ∷ cs)) ∙ n);
    not_of = λ c h n. folded-Not readable c ∙ h (sym (folded-Not functionless c) ∙ n);
  }

  abbrev IsKept : Sign Supports → Type 0
  IsKept = InWithin IsFine

  name-kept : (n : List ℕ) (a b c d e : Bool) → IsKept (if a then Not else (if b then Only else (if c then And else (if d then Or else (if e then Other else Name n)))))
  name-kept n true b c d e = tt
  name-kept n false true c d e = tt
  name-kept n false false true d e = tt
  name-kept n false false false true e = tt
  name-kept n false false false false true = tt
  name-kept n false false false false false = tt

  kind-kept : (k : Kind) (t : List ℕ) → IsKept (kind_sign k t)
  kind-kept kinds.Ident t =
      (let n = lowered (name_of_word kinds.Ident t) in
      name-kept n (is_text n (codes "not")) (is_text n (codes "only")) (is_text n (codes "and")) (is_text n (codes "or")) (is_text n (codes "layer")))
  kind-kept k t = tt

  parens-kept : (b : Bool) (o : Option Supports) → OfSome IsFine o → IsKept (if b then within o else Other)
  parens-kept true o h = in-within IsFine o h
  parens-kept false o h = tt

  opened-kept : (k : Kind) (b : block.Block) (ws : List (Sign Supports)) → OfSome IsFine (inside_of b.items ws) → IsKept (opened_sign k b ws)
  opened-kept kinds.Function b ws h = λ n. absurd (false≢true (sym (folded-Function functionless b.opening.at) ∙ n))
  opened-kept kinds.Open b ws h = parens-kept (is_text b.opening.text (codes "(")) (inside_of b.items ws) h
  opened-kept k b ws h = tt

  abbrev SignKept : Component → Type 0
  SignKept c = Good c → IsKept (sign_of c)

  signs-kept : (cs : List Component) → Each SignKept cs → Each Good cs → AllByRecursion IsKept (map sign_of cs)
  signs-kept [] h g = tt
  signs-kept (c ∷ cs) h g = (h.0 g.0, signs-kept cs h.1 g.1)

  reading-fine : (cs : List Component) → AllByRecursion IsKept (map sign_of cs) → OfSome IsFine (condition_of makes (solid (map sign_of cs)))
  reading-fine cs h = condition-kept IsFine makes rows-kept (solid (map sign_of cs)) (solid-kept IsFine (map sign_of cs) h)

  sign-kept : (c : Component) → SignKept c
  sign-kept c =
      by_components SignKept
      (λ p g. subst IsKept (sym (supports-Single p)) (kind-kept p.kind p.text))
      (λ b each g.
      let inside = inside-good b g in
      let read = reading-fine b.items (signs-kept b.items each inside) in
      subst IsKept (sym (supports-Block b)) (opened-kept b.opening.kind b (map sign_of b.items) (some-or IsFine (condition_of makes (solid (map sign_of b.items))) (declaration_of b.items) read (declaration-fine b.items inside))))
      c

  each-kept : (cs : List Component) → Each SignKept cs
  each-kept [] = tt
  each-kept (c ∷ cs) = (sign-kept c, each-kept cs)

  -- What is read is readable, where no function stands in it.
  pub supports-readable : (cs : List Component) (s : Supports) → all_formed cs ≡ true → list_all is_spelled (words_all cs) ≡ true → supports_reading cs ≡ Some s → has_no_function s ≡ true → is_readable_supports s ≡ true
  supports-readable cs s f w e = subst (OfSome IsFine) e (reading-fine cs (signs-kept cs (each-kept cs) (all-good cs f w)))

  -- What is read in parentheses is so too.
  pub inside-readable : (cs : List Component) (s : Supports) → all_formed cs ≡ true → list_all is_spelled (words_all cs) ≡ true → supports_inside cs ≡ Some s → has_no_function s ≡ true → is_readable_supports s ≡ true
  inside-readable cs s f w e =
      let good = all-good cs f w in
      let read = reading-fine cs (signs-kept cs (each-kept cs) good) in
      subst (OfSome IsFine) e (some-or IsFine (condition_of makes (solid (map sign_of cs))) (declaration_of cs) read (declaration-fine cs good))
