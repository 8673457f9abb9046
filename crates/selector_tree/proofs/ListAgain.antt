-- Lists that are spelled are read again, and what stands in pseudo-classes.
use Rattle.std.proofs.Common.{◌≡◌, ℕ, List, [], ◌∷◌, ◌++◌, map, Bool, true, false, not, ◌&&◌, refl, sym, ap, ap₂, ◌∙◌}
use Rattle.std.specs.Prelude.{codes, Option, Some, None, is_none, unwrap_or, if◌then◌else◌}
use Rattle.std.specs.List.{AllByRecursion, list_all}
use Rattle.std.specs.Option.{option_map, option_and_then}
use Rattle.std.proofs.lemmas.Bool.{and_parts, false≢true}
use Rattle.std.proofs.lemmas.List.{map-append, append-nil}
use Rattle.std.proofs.lemmas.List.Folds.{list_all-map}
use Rattle.css_tokens.specs.declared.kind.Kind.{Kind}
use Rattle.css_tokens.specs.declared.kind.Kind.TheVariants as kinds
use Rattle.css_tokens.specs.declared.component.Component.{Component}
use Rattle.css_tokens.specs.NameText.{name_text}
use Rattle.selector_types.specs.declared.selector.Attribute.{Attribute}
use Rattle.selector_types.specs.declared.selector.Compound.{Compound}
use Rattle.selector_types.specs.declared.selector.Selector.{Selector}
use Rattle.selector_types.specs.declared.selector.Simple.{Simple}
use Rattle.selector_types.specs.declared.selector.Simple as simple
use Rattle.selector_tree.specs.declared.sign.Sign.{Sign}
use Rattle.selector_tree.specs.declared.sign.Sign.TheVariants.{Comment, White, Whole, Call, Other}
use Rattle.selector_types.specs.BareFold.{placed, bare_selector}
use Rattle.selector_types.specs.Erased.{erasing, erased, erased_compound}
use Rattle.selector_tree.specs.Grammar.{selector_at, Mark, is_gap_sign, is_comma_sign, first_place, selector_of, Member, empty_before, with_mark, cut_at_commas, fault_place, member_reading, first_and, members_reading, marks_reading}
use Rattle.selector_types.specs.ReadableSelectors.{has_some, readable, is_readable_compound, is_readable_selector, is_readable_list}
use Rattle.selector_types.specs.SelectorFold.{folded-Class, folded-Id, folded-Attribute, folded-Pseudo, folded-Not, folded-Is, folded-Where, folded-Parent, folded-Local, folded-Global, folded-Foreign}
use Rattle.selector_types.specs.SelectorInduction.{by_lists, Cases}
use Rattle.selector_tree.specs.Signs.{attribute_sign, kind_sign, list_in, is_gap, is_gap_kind, forgiving_list, lone_compound, compound_in, read, mark_of, list_reading, mark_of-Single, mark_of-Block}
use Rattle.selector_types.specs.Spelling.{single, block, ident, delim, comma, colon, pseudo_spelling, attribute_spelling, call, more_spelling, spelling, simple_spelling, compound_spelling, selector_spelling, list_spelling}
use Rattle.selector_tree.proofs.PartAgain.{Texts, marks_of, signs_in, signs_of, is_inner, begins_compound, signs-append, sign-single, sign-around, part-by, call-part, as-part, class-part, id-part, attribute-part, pseudo-again}
use Rattle.selector_tree.proofs.SelectorAgain.{P, Q, R, ks, SelectorRead, no_comma, inner-comma, made_selector, untailed, chain-end, unled-selector, compound-read, selector-read}
use Rattle.selector_tree.proofs.SignPlaces.{both_read, read-first, zero-place}
use Rattle.selector_tree.proofs.MarkPlaces.{marks-of-bare}
use Rattle.selector_types.proofs.SpellingHolds.{selector-bare, compound-bare}
use Rattle.selector_types.proofs.TreePlaces.{bare, by_components}

-- Members.

-- where each place is 0, so is that of the member
place-zero : (cs : List Component) → map bare cs ≡ cs → unwrap_or (first_place (marks_of cs)) 0 ≡ 0
place-zero cs e = ap (λ (ds : List Component). unwrap_or (first_place (marks_of ds)) 0) (sym e) ∙ ap (λ (ms : List Mark). unwrap_or (first_place ms) 0) (marks-of-bare cs) ∙ zero-place (marks_of cs)

member-read : (nested : Bool) (cs : List Component) (s : Selector) → map bare cs ≡ cs → selector_at nested 0 (signs_of cs) ≡ Some s → selector_of nested (marks_of cs) ≡ Some s
member-read nested cs s e h = ap (λ (at : ℕ). selector_at nested at (signs_of cs)) (place-zero cs e) ∙ h

abbrev before_member : List Mark → Member → Member
before_member ms m = record { marks = ms ++ m.marks; stop = m.stop }

abbrev cut_before : Mark → Bool → Member × List Member → Member × List Member
cut_before m b parts = if b then (empty_before (Some m.at), parts.0 ∷ parts.1) else (with_mark m parts.0, parts.1)

not-comma : (b : Bool) → not b ≡ true → b ≡ false
not-comma true h = absurd (false≢true h)
not-comma false h = refl

-- where no comma stands in front, the first member begins so
cut-front : (ms ns : List Mark) → list_all no_comma (signs_in ms) ≡ true → cut_at_commas (ms ++ ns) ≡ (before_member ms (cut_at_commas ns).0, (cut_at_commas ns).1)
cut-front [] ns h = refl
cut-front (m ∷ ms) ns h =
    (let p = and_parts (no_comma m.sign) (list_all no_comma (signs_in ms)) h in
    ap₂ (λ (b : Bool) (parts : Member × List Member). cut_before m b parts) (not-comma (is_comma_sign m.sign) p.0) (cut-front ms ns p.1))

abbrev read_parts : Bool → ℕ → Member × List Member → Option (List Selector)
read_parts nested end parts = read (first_and (member_reading nested end parts.0) (members_reading nested end parts.1))

-- a member without commas before further ones
front-read : (nested : Bool) (end : ℕ) (ms ns : List Mark) (s : Selector) (ss : List Selector) → list_all no_comma (signs_in ms) ≡ true → selector_of nested ms ≡ Some s
    → (cut_at_commas ns).0.marks ≡ [] → read (members_reading nested end (cut_at_commas ns).1) ≡ Some ss → read_parts nested end (cut_at_commas (ms ++ ns)) ≡ Some (s ∷ ss)
front-read nested end ms ns s ss h k e f =
    (let m = before_member ms (cut_at_commas ns).0 in
    ap (read_parts nested end) (cut-front ms ns h)
    ∙ read-first (selector_of nested m.marks) (fault_place end m) (members_reading nested end (cut_at_commas ns).1)
    ∙ ap₂ both_read (ap (λ (us : List Mark). selector_of nested (ms ++ us)) e ∙ ap (selector_of nested) (append-nil ms) ∙ k) f)

-- a lone member without commas
pub lone-read : (nested : Bool) (end : ℕ) (ms : List Mark) (s : Selector) → list_all no_comma (signs_in ms) ≡ true → selector_of nested ms ≡ Some s → read (marks_reading nested ms end) ≡ Some (s ∷ [])
lone-read nested end ms s h k = ap (λ (us : List Mark). read_parts nested end (cut_at_commas us)) (sym (append-nil ms)) ∙ front-read nested end ms [] s [] h k refl refl

-- Lists.

abbrev more_marks : List Selector → List Mark
more_marks ss = marks_of (more_spelling (map selector_spelling ss))

record MoreRead (nested : Bool) (end : ℕ) (ss : List Selector) : Type 0 where
  first : (cut_at_commas (more_marks ss)).0.marks ≡ []
  rest : read (members_reading nested end (cut_at_commas (more_marks ss)).1) ≡ Some (map erased ss)

selector-member : (nested : Bool) (s : Selector) → SelectorRead s nested → selector_of nested (marks_of (selector_spelling s)) ≡ Some (erased s)
selector-member nested s r = member-read nested (selector_spelling s) (erased s) (selector-bare s) r.whole

first-read : (nested : Bool) (end : ℕ) (s : Selector) (ss : List Selector) → SelectorRead s nested → MoreRead nested end ss → read_parts nested end (cut_at_commas (marks_of (list_spelling (s ∷ ss)))) ≡ Some (map erased (s ∷ ss))
first-read nested end s ss r more =
    ap (λ (ms : List Mark). read_parts nested end (cut_at_commas ms)) (map-append mark_of (selector_spelling s) (more_spelling (map selector_spelling ss)))
    ∙ front-read nested end (marks_of (selector_spelling s)) (more_marks ss) (erased s) (map erased ss) r.comma (selector-member nested s r) more.first more.rest

comma-cut : (cs : List Component) → cut_at_commas (marks_of (comma ∷ cs)) ≡ (empty_before (Some 0), (cut_at_commas (marks_of cs)).0 ∷ (cut_at_commas (marks_of cs)).1)
comma-cut cs = ap (λ (m : Mark). cut_at_commas (m ∷ marks_of cs)) (mark_of-Single (record { kind = kinds.Comma; text = codes ","; at = 0 }))

more-read : (nested : Bool) (end : ℕ) (ss : List Selector) → AllByRecursion R ss → list_all (is_readable_selector nested) ss ≡ true → MoreRead nested end ss
more-read nested end [] each h = record { first = refl; rest = refl }
more-read nested end (s ∷ ss) each h =
    (let p = and_parts (is_readable_selector nested s) (list_all (is_readable_selector nested) ss) h in
    let e = comma-cut (list_spelling (s ∷ ss)) in
    record {
      first = ap (λ (parts : Member × List Member). parts.0.marks) e;
      rest = ap (λ (parts : Member × List Member). read (members_reading nested end parts.1)) e ∙ first-read nested end s ss (each.0 nested p.0) (more-read nested end ss each.1 p.1);
    })

pub list-read : (nested : Bool) (end : ℕ) (ss : List Selector) → AllByRecursion R ss → is_readable_list nested ss ≡ true → read (list_reading nested (list_spelling ss) end) ≡ Some (map erased ss)
list-read nested end [] each h = absurd (false≢true h)
list-read nested end (s ∷ ss) each h =
    (let p = and_parts (is_readable_selector nested s) (list_all (is_readable_selector nested) ss) h in
    first-read nested end s ss (each.0 nested p.0) (more-read nested end ss each.1 p.1))

-- What stands in pseudo-classes.

some-alike : {A B : Type 0} (f : A → B) (xs : List A) → has_some (map f xs) ≡ has_some xs
some-alike f [] = refl
some-alike f (x ∷ xs) = refl

each-readable : (ss : List Selector) → list_all (λ s. s false) (map (bare_selector readable) ss) ≡ list_all (is_readable_selector false) ss
each-readable ss = list_all-map (λ (s : Bool → Bool). s false) (bare_selector readable) ss

-- Tokens that are white space or comments are such signs, and no block is.

gap-id : (b : Bool) (name : List ℕ) → is_gap_sign (if b then Whole (simple.Id name) 0 else Other) ≡ false
gap-id true name = refl
gap-id false name = refl

gap-whole : (b : Bool) (o : Option Attribute) (at : ℕ) → is_gap_sign (if b then attribute_sign at o else Other) ≡ false
gap-whole false o at = refl
gap-whole true None at = refl
gap-whole true (Some a) at = refl

-- does a mark that is inner stand first?
not-gap : (w : Sign) → is_inner w ≡ true → is_gap_sign w ≡ false
not-gap Comment h = absurd (false≢true h)
not-gap White h = absurd (false≢true h)
not-gap w h = refl

gap-kind : (k : Kind) (text : List ℕ) (at : ℕ) → is_inner (kind_sign k text at) ≡ true → is_gap_kind k ≡ false
gap-kind kinds.White text at h = absurd (false≢true h)
gap-kind kinds.Comment text at h = absurd (false≢true h)
gap-kind k text at h = refl

abbrev IsNoGap : Component → Type 0
IsNoGap c = is_inner (mark_of c).sign ≡ true → is_gap (mark_of c).token ≡ false

no-gap : (c : Component) → IsNoGap c
no-gap = by_components IsNoGap
    (λ p h. ap (λ (m : Mark). is_gap m.token) (mark_of-Single p) ∙ gap-kind p.kind p.text p.at (ap (λ (m : Mark). is_inner m.sign) (sym (mark_of-Single p)) ∙ h))
    (λ b each h. ap (λ (m : Mark). is_gap m.token) (mark_of-Block b))

and-false : (a b : Bool) → a ≡ false → (a && b) ≡ false
and-false true b e = absurd (false≢true (sym e))
and-false false b e = refl

no-gaps : (cs : List Component) → begins_compound (signs_of cs) ≡ true → list_all (λ m. is_gap m.token) (marks_of cs) ≡ false
no-gaps [] h = absurd (false≢true h)
no-gaps (c ∷ cs) h = and-false (is_gap (mark_of c).token) (list_all (λ m. is_gap m.token) (marks_of cs)) (no-gap c h)

begins-list : (s : Selector) (ss : List Selector) → SelectorRead s false → begins_compound (signs_of (list_spelling (s ∷ ss))) ≡ true
begins-list s ss r = ap begins_compound (signs-append (selector_spelling s) (more_spelling (map selector_spelling ss))) ∙ more (signs_of (selector_spelling s)) (r.begins refl)
  where
    more : (ws : List Sign) → begins_compound ws ≡ true → begins_compound (ws ++ signs_of (more_spelling (map selector_spelling ss))) ≡ true
    more [] h = absurd (false≢true h)
    more (w ∷ ws) h = h

forgiving-read : (ss : List Selector) → AllByRecursion R ss → list_all (is_readable_selector false) ss ≡ true → forgiving_list (marks_of (list_spelling ss)) ≡ Some (map erased ss)
forgiving-read [] each h = refl
forgiving-read (s ∷ ss) each h =
    (let p = and_parts (is_readable_selector false s) (list_all (is_readable_selector false) ss) h in
    let ms = marks_of (list_spelling (s ∷ ss)) in
    ap (λ (b : Bool). if b then Some [] else list_in ms) (no-gaps (list_spelling (s ∷ ss)) (begins-list s ss (each.0 false p.0)))
    ∙ list-read false 0 (s ∷ ss) each h)

lone-untailed : (k : Compound) → (erased_compound k).tail ≡ None → lone_compound (made_selector None k [] ∷ []) ≡ Some (erased_compound k)
lone-untailed k e = ap (λ (t : Bool). if t && true then Some (erased_compound k) else None) (ap is_none e)

compound-in : (k : Compound) → Q k → is_readable_compound false k ≡ true → compound_in (marks_of (compound_spelling k)) ≡ Some (erased_compound k)
compound-in k q h =
    (let r = q false h in
    let whole : selector_at false 0 (ks k) ≡ Some (made_selector None k []) = ap (selector_at false 0) (sym (append-nil (ks k))) ∙ unled-selector false false k [] (chain-end k r) in
    ap (option_and_then lone_compound) (lone-read false 0 (marks_of (compound_spelling k)) (made_selector None k []) (inner-comma (ks k) r.inner) (member-read false (compound_spelling k) (made_selector None k []) (compound-bare k) whole))
    ∙ lone-untailed k (untailed k h))

-- Each simple selector.

module _ (texts : Texts) where
  of-not : (ss : List Selector) → AllByRecursion R ss → P (simple.Not ss)
  of-not ss each h =
      (let e = sym (folded-Not (placed readable) ss) ∙ h in
      let p = and_parts (has_some (map (bare_selector readable) ss)) (list_all (λ s. s false) (map (bare_selector readable) ss)) e in
      let good : is_readable_list false ss ≡ true = ap₂ (λ (a b : Bool). a && b) (sym (some-alike (bare_selector readable) ss) ∙ p.0) (sym (each-readable ss) ∙ p.1) in
      as-part (simple.Not ss) (simple.Not (map erased ss)) (call (codes "not(") (list_spelling ss)) (simple_spelling (simple.Not ss)) (folded-Not erasing ss) (folded-Not (placed spelling) ss)
      (call-part (simple.Not (map erased ss)) (block kinds.Function (codes "not(") (list_spelling ss))
      (sign-around kinds.Function (codes "not(") (list_spelling ss) [] ∙ ap (λ (o : Option (List Selector)). Call (option_map (λ us. simple.Not us) o) ∷ []) (list-read false 0 ss each good))))

  of-is : (ss : List Selector) → AllByRecursion R ss → P (simple.Is ss)
  of-is ss each h =
      (let e = sym (each-readable ss) ∙ sym (folded-Is (placed readable) ss) ∙ h in
      as-part (simple.Is ss) (simple.Is (map erased ss)) (call (codes "is(") (list_spelling ss)) (simple_spelling (simple.Is ss)) (folded-Is erasing ss) (folded-Is (placed spelling) ss)
      (call-part (simple.Is (map erased ss)) (block kinds.Function (codes "is(") (list_spelling ss))
      (sign-around kinds.Function (codes "is(") (list_spelling ss) [] ∙ ap (λ (o : Option (List Selector)). Call (option_map (λ us. simple.Is us) o) ∷ []) (forgiving-read ss each e))))

  of-where : (ss : List Selector) → AllByRecursion R ss → P (simple.Where ss)
  of-where ss each h =
      (let e = sym (each-readable ss) ∙ sym (folded-Where (placed readable) ss) ∙ h in
      as-part (simple.Where ss) (simple.Where (map erased ss)) (call (codes "where(") (list_spelling ss)) (simple_spelling (simple.Where ss)) (folded-Where erasing ss) (folded-Where (placed spelling) ss)
      (call-part (simple.Where (map erased ss)) (block kinds.Function (codes "where(") (list_spelling ss))
      (sign-around kinds.Function (codes "where(") (list_spelling ss) [] ∙ ap (λ (o : Option (List Selector)). Call (option_map (λ us. simple.Where us) o) ∷ []) (forgiving-read ss each e))))

  of-local : (k : Compound) → Q k → P (simple.Local k)
  of-local k q h =
      as-part (simple.Local k) (simple.Local (erased_compound k)) (call (codes "local(") (compound_spelling k)) (simple_spelling (simple.Local k)) (folded-Local erasing k) (folded-Local (placed spelling) k)
      (call-part (simple.Local (erased_compound k)) (block kinds.Function (codes "local(") (compound_spelling k))
      (sign-around kinds.Function (codes "local(") (compound_spelling k) [] ∙ ap (λ (o : Option Compound). Call (option_map (λ m. simple.Local m) o) ∷ []) (compound-in k q (sym (folded-Local (placed readable) k) ∙ h))))

  of-global : (k : Compound) → Q k → P (simple.Global k)
  of-global k q h =
      as-part (simple.Global k) (simple.Global (erased_compound k)) (call (codes "global(") (compound_spelling k)) (simple_spelling (simple.Global k)) (folded-Global erasing k) (folded-Global (placed spelling) k)
      (call-part (simple.Global (erased_compound k)) (block kinds.Function (codes "global(") (compound_spelling k))
      (sign-around kinds.Function (codes "global(") (compound_spelling k) [] ∙ ap (λ (o : Option Compound). Call (option_map (λ m. simple.Global m) o) ∷ []) (compound-in k q (sym (folded-Global (placed readable) k) ∙ h))))

  of-parent : P simple.Parent
  of-parent h =
      as-part simple.Parent simple.Parent (delim (codes "&") ∷ []) (simple_spelling simple.Parent) (folded-Parent erasing) (folded-Parent (placed spelling))
      (part-by simple.Parent (delim (codes "&") ∷ []) (Whole simple.Parent 0 ∷ []) (sign-single kinds.Delim (codes "&") []) refl refl (λ ws. refl))

  cases : Cases P Q R
  cases = record {
    class = λ n h. as-part (simple.Class n) (simple.Class n) (delim (codes ".") ∷ ident n ∷ []) (simple_spelling (simple.Class n)) (folded-Class erasing n) (folded-Class (placed spelling) n) (class-part texts n (sym (folded-Class (placed readable) n) ∙ h));
    id = λ n h. as-part (simple.Id n) (simple.Id n) (single kinds.Hash (codes "#" ++ name_text n) ∷ []) (simple_spelling (simple.Id n)) (folded-Id erasing n) (folded-Id (placed spelling) n) (id-part texts n (sym (folded-Id (placed readable) n) ∙ h));
    attribute = λ a h. as-part (simple.Attribute a) (simple.Attribute a) (attribute_spelling a ∷ []) (simple_spelling (simple.Attribute a)) (folded-Attribute erasing a) (folded-Attribute (placed spelling) a) (attribute-part texts a (sym (folded-Attribute (placed readable) a) ∙ h));
    pseudo = λ t h. as-part (simple.Pseudo t) (simple.Pseudo t) (colon ∷ pseudo_spelling t ∷ []) (simple_spelling (simple.Pseudo t)) (folded-Pseudo erasing t) (folded-Pseudo (placed spelling) t) (pseudo-again texts t (sym (folded-Pseudo (placed readable) t) ∙ h));
    not_of = of-not;
    is_of = of-is;
    where_of = of-where;
    parent = of-parent;
    local = of-local;
    global = of-global;
    foreign = λ h. absurd (false≢true (sym (folded-Foreign (placed readable)) ∙ h));
    compound = compound-read texts;
    selector = selector-read;
  }

  -- what is spelled is read again
  pub list-again : (nested : Bool) (ss : List Selector) (end : ℕ) → is_readable_list nested ss ≡ true → read (list_reading nested (list_spelling ss) end) ≡ Some (map erased ss)
  list-again nested ss end h = list-read nested end ss (by_lists P Q R cases ss) h
