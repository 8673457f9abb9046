-- What a declaration that is not refused is read as is printable.
use Rattle.std.proofs.Common.{◌≡◌, List, [], ◌∷◌, ◌++◌, Bool, true, false, not, ◌&&◌, ◌||◌, refl, sym, ◌∙◌, ap, subst, Option, Some, None, inl, inr}
use Rattle.std.specs.Prelude.{if◌then◌else◌}
use Rattle.std.specs.List.{list_all, list_any, AllByRecursion}
use Rattle.css_tokens.specs.declared.component.Component.{Component}
use Rattle.css_tokens.specs.Piece.{Piece}
use Rattle.css_tokens.specs.Names.{is_name}
use Rattle.css_tokens.specs.Trees.{all_formed, words_all}
use Rattle.selector_types.specs.ReadableSelectors.{is_spelled}
use Rattle.sheet_types.specs.declared.sheet.Declaration.{Declaration}
use Rattle.css_components.specs.Components.{head, is_ident, is_colon, is_bang, is_braces, is_semicolon, is_custom, name_of}
use Rattle.css_components.specs.Trimming.{trimmed, trimmed_start}
use Rattle.css_rules.specs.Cuts.{Cut, cuts, cuts_at}
use Rattle.css_rules.specs.Declarations.{property_name, after_colon, may_be_value, is_important, value_of, declared, declared_after, declaration_of, begins_custom}
use Rattle.css_rules.specs.Printable.{IsPrintableDeclaration, begins_solid}
use Rattle.css_rules.specs.Sheets.{is_unbuilt, item_of, declarations_of}
use Rattle.css_rules.specs.RuleEnds.{ends_item}
use Rattle.css_rules.proofs.FromSourceNames.{property-named, property-custom, property-again}
use Rattle.css_rules.proofs.FromSourceParts.{is_sound, sound-formed, sound-spelled, sound-ident, none-any, all-start, all-trimmed, trimmed-begins, IsPart, parts-cuts}
use Rattle.css_rules.proofs.ReadAllLemmas.{read_all-holds}
use Rattle.css_rules.proofs.RuleShapes.{item-shape}
use Rattle.css_rules.proofs.BoolLemmas.{and-left, and-right}

-- Values.

-- what a value has to be
record IsValue (cs : List Component) : Type 0 where
  begun : begins_solid cs ≡ true
  bangless : list_any is_bang cs ≡ false
  undivided : list_any is_semicolon cs ≡ false
  formed : all_formed cs ≡ true
  spelled : list_all is_spelled (words_all cs) ≡ true

abbrev not_semicolon : Component → Bool
not_semicolon c = not (is_semicolon c)

abbrev OfSome : {X : Type 0} → (X → Type 0) → Option X → Type 0
OfSome P None = Unit {0}
OfSome P (Some x) = P x

abbrev ReadsValue : Option (List Component × Bool) → Type 0
ReadsValue o = OfSome (λ (value : List Component × Bool). IsValue value.0) o

trimmed-value : (cut : Cut) → IsPart is_sound is_bang cut → IsPart not_semicolon is_bang cut → IsValue (trimmed cut.front)
trimmed-value cut f s = record {
  begun = trimmed-begins cut.front;
  bangless = none-any is_bang (trimmed cut.front) (all-trimmed (λ c. not (is_bang c)) cut.front f.unmarked);
  undivided = none-any is_semicolon (trimmed cut.front) (all-trimmed not_semicolon cut.front s.kept);
  formed = sound-formed is_spelled (trimmed cut.front) (all-trimmed is_sound cut.front f.kept);
  spelled = sound-spelled is_spelled (trimmed cut.front) (all-trimmed is_sound cut.front f.kept);
}

marked-value : (b important : Bool) (v : List Component) → IsValue v → ReadsValue (if b then Some (v, important) else None)
marked-value true important v is = is
marked-value false important v is = tt

value-of : (cs : List Cut) → AllByRecursion (IsPart is_sound is_bang) cs → AllByRecursion (IsPart not_semicolon is_bang) cs → ReadsValue (value_of cs)
value-of [] f s = tt
value-of (value ∷ []) f s = trimmed-value value f.0 s.0
value-of (value ∷ mark ∷ []) f s = marked-value (is_important (trimmed mark.front)) true (trimmed value.front) (trimmed-value value f.0 s.0)
value-of (value ∷ mark ∷ more ∷ cs) f s = tt

-- Declarations.

abbrev made : Piece → List Component × Bool → Declaration
made name v = record { name = property_name (name_of name); value = v.0; important = v.1; at = name.at }

-- it is printable where no later stage rewrites it
abbrev IsFine : Declaration → Type 0
IsFine d = is_unbuilt d ≡ false → IsPrintableDeclaration d

made-printable : (name : Piece) (v : List Component × Bool) → is_name (name_of name) ≡ true → IsValue v.0 → may_be_value (is_custom (name_of name)) v.0 ≡ true → IsFine (made name v)
made-printable name v plain is fits built = record {
  name = property-named (name_of name) plain;
  property = property-again (name_of name);
  built = built;
  fits = ap (λ b. may_be_value b v.0) (property-custom (name_of name)) ∙ fits;
  begun = is.begun;
  bangless = is.bangless;
  undivided = is.undivided;
  formed = is.formed;
  spelled = is.spelled;
}

declared-at : (name : Piece) (v : List Component × Bool) (b : Bool) → may_be_value (is_custom (name_of name)) v.0 ≡ b → is_name (name_of name) ≡ true → IsValue v.0
    → OfSome IsFine (if b then Some (made name v) else None)
declared-at name v true fits plain is = made-printable name v plain is fits
declared-at name v false fits plain is = tt

declared-printable : (name : Piece) (o : Option (List Component × Bool)) → is_name (name_of name) ≡ true → ReadsValue o → OfSome IsFine (declared name o)
declared-printable name None plain is = tt
declared-printable name (Some v) plain is = declared-at name v (may_be_value (is_custom (name_of name)) v.0) refl plain is

abbrev AllAfter : (Component → Bool) → Option (List Component) → Type 0
AllAfter test o = OfSome (λ tail. list_all test tail ≡ true) o

colon-at : (test : Component → Bool) (cs : List Component) (b : Bool) → list_all test cs ≡ true → AllAfter test (if b then Some cs else None)
colon-at test cs true e = e
colon-at test cs false e = tt

after-colon : (test : Component → Bool) (cs : List Component) → list_all test cs ≡ true → AllAfter test (after_colon cs)
after-colon test [] e = tt
after-colon test (c ∷ cs) e = colon-at test cs (is_colon c) (and-right (test c) (list_all test cs) e)

abbrev bang_ends : List Component → Component → Bool
bang_ends before c = is_bang c

after-printable : (name : Piece) (o : Option (List Component)) → is_name (name_of name) ≡ true → AllAfter is_sound o → AllAfter not_semicolon o → OfSome IsFine (declared_after name o)
after-printable name None plain f s = tt
after-printable name (Some tail) plain f s =
    declared-printable name (value_of (cuts_at is_bang tail)) plain
    (value-of (cuts_at is_bang tail) (parts-cuts is_sound is_bang bang_ends (λ b c e. e) [] tail f) (parts-cuts not_semicolon is_bang bang_ends (λ b c e. e) [] tail s))

named-at : (c : Component) (o : Option Declaration) (b : Bool) → is_ident c ≡ b → (is_ident c ≡ true → OfSome IsFine o) → OfSome IsFine (if b then o else None)
named-at c o true e named = named e
named-at c o false e named = tt

declaration-fine : (cs : List Component) → list_all is_sound cs ≡ true → list_all not_semicolon cs ≡ true → OfSome IsFine (declaration_of cs)
declaration-fine [] f s = tt
declaration-fine (c ∷ cs) f s =
    let sound = and-right (is_sound c) (list_all is_sound cs) f in
    let undivided = and-right (not_semicolon c) (list_all not_semicolon cs) s in
    named-at c (declared_after (head c) (after_colon (trimmed_start cs))) (is_ident c) refl
    (λ is. after-printable (head c) (after_colon (trimmed_start cs))
    (sound-ident c (and-left (is_sound c) (list_all is_sound cs) f) is)
    (after-colon is_sound (trimmed_start cs) (all-start is_sound cs sound))
    (after-colon not_semicolon (trimmed_start cs) (all-start not_semicolon cs undivided)))

-- Items.

pub each-append : {X : Type 0} (P : X → Type 0) (xs ys : List X) → AllByRecursion P xs → AllByRecursion P ys → AllByRecursion P (xs ++ ys)
each-append P [] ys h k = k
each-append P (x ∷ xs) ys h k = (h.0, each-append P xs ys h.1 k)

abbrev ArePrintableDeclarations : List Declaration → Type 0
ArePrintableDeclarations ds = AllByRecursion IsPrintableDeclaration ds

item-printable : (cut : Cut) (ds : List Declaration) → IsPart is_sound is_semicolon cut → item_of cut ≡ Some ds → ArePrintableDeclarations ds
item-printable cut ds part e = elim (item-shape cut ds e) [
  | inl none ↦ subst ArePrintableDeclarations (sym none) tt
  | inr one ↦
      let fine = declaration-fine (trimmed cut.front) (all-trimmed is_sound cut.front part.kept) (all-trimmed not_semicolon cut.front part.unmarked) in
      subst ArePrintableDeclarations (sym one.is) (subst (λ (o : Option Declaration). OfSome IsFine o) one.spelled fine one.built, tt)
]

pub block-printable : (block : List Component) (ds : List Declaration) → list_all is_sound block ≡ true → declarations_of block ≡ Some ds → AllByRecursion IsPrintableDeclaration ds
block-printable block ds sound e =
    read_all-holds ArePrintableDeclarations (IsPart is_sound is_semicolon) item_of tt (each-append IsPrintableDeclaration) item-printable (cuts ends_item block)
    (parts-cuts is_sound is_semicolon ends_item (λ before c s. ap (λ b. b || (is_braces c && not (begins_custom (trimmed_start before)))) s) [] block sound) ds e
