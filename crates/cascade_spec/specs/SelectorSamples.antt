-- A small document in a browser, and selectors over it, for the examples.
use Rattle.std.specs.Prelude.{ℕ, List, [], ◌∷◌, Bool, Option, Some, None, codes, filter}
use Prim.Native.String.{String}
use Rattle.selector_types.specs.declared.selector.Combinator.{Combinator}
use Rattle.selector_types.specs.declared.selector.Compound.{Compound}
use Rattle.selector_types.specs.declared.selector.Link as link
use Rattle.selector_types.specs.declared.selector.Part as part
use Rattle.selector_types.specs.declared.selector.Selector.{Selector}
use Rattle.selector_types.specs.declared.selector.Simple.{Simple}
use Rattle.selector_types.specs.declared.selector.Simple as simple
use Rattle.selector_types.specs.declared.triple.Specificity.{Specificity}
use Rattle.selector_types.specs.Samples.{one, typed, untyped}
use Rattle.cascade_spec.specs.declared.document.Element.{Element}
use Rattle.cascade_spec.specs.declared.document.TailHolds.{TailHolds}
use Rattle.cascade_spec.specs.declared.document.Document.{Document}
use Rattle.cascade_spec.specs.declared.environment.Environment.{Environment}
use Rattle.cascade_spec.specs.declared.environment.Shorthand.{Shorthand}
use Rattle.cascade_spec.specs.Worlds.{World}
use Rattle.cascade_spec.specs.Matching.{Subject, alone}
use Rattle.cascade_spec.specs.Surroundings.{Around, top, within, member_of}

-- an element of this parent, type name, id and classes
abbrev pub element : Option ℕ → String → Option (List ℕ) → List (List ℕ) → Element
element parent kind id classes = record { parent = parent; kind = codes kind; id = id; scoped_id = None; classes = classes; scoped_classes = []; holds = []; tails = [] }

-- the element, of which these attribute selectors and pseudo-classes hold
abbrev pub holding : Element → List (List ℕ) → List TailHolds → Element
holding e holds tails = record { parent = e.parent; kind = e.kind; id = e.id; scoped_id = e.scoped_id; classes = e.classes; scoped_classes = e.scoped_classes; holds = holds; tails = tails }

-- the pseudo-classes that hold of a pseudo-element
abbrev pub tail_row : String → List (List ℕ) → TailHolds
tail_row name holds = record { element = codes name; holds = holds }

-- The document `<main> <h1 class="a"></h1> <p id="b" title="x"></p> <p class="a red" title> <em></em> </p> </main> <aside></aside>`.
-- The pointer is over the last paragraph, and over its `::before`.
abbrev pub page_document : Document
page_document = record {
  elements =
      element None "main" None []
      ∷ element (Some 0) "h1" None (codes "a" ∷ [])
      ∷ holding (element (Some 0) "p" (Some (codes "b")) []) (codes "[title]" ∷ codes "[title=\"x\"]" ∷ codes "nth-child(2n)" ∷ []) []
      ∷ holding (element (Some 0) "p" None (codes "a" ∷ codes "red" ∷ []))
      (codes "[title]" ∷ codes "hover" ∷ codes "nth-child(2n+1)" ∷ codes "lively" ∷ [])
      (tail_row "before" (codes "hover" ∷ codes "lively" ∷ []) ∷ tail_row "after" (codes "first-child" ∷ []) ∷ [])
      ∷ element (Some 3) "em" None []
      ∷ element None "aside" None []
      ∷ [];
}

-- the document `<main> <div> <div> <em></em> </div> </div> </main>`
abbrev pub deep_document : Document
deep_document = record {
  elements =
      element None "main" None []
      ∷ element (Some 0) "div" None []
      ∷ element (Some 1) "div" None []
      ∷ element (Some 2) "em" None []
      ∷ [];
}

-- what a declaration of a shorthand sets
abbrev pub row : String → String → List (List ℕ × List ℕ) → Shorthand
row name value sets = record { name = codes name; value = codes value; sets = sets }

-- a longhand, and the value that it is set to
abbrev pub sets : String → String → List ℕ × List ℕ
sets name value = (codes name, codes value)

-- A browser that rejects `color: oops` and `width: bad`, and in which `margin: 1px 2px` sets two longhands. Of `gap: 1px` it has two rows, and in the first a longhand twice.
-- It does not know `:lively`, `:nth-last-child()` and `::marker`.
abbrev pub browser : Environment
browser = record {
  media = codes "screen";
  numbers = [];
  values = [];
  features = [];
  supports = [];
  unknown = codes "lively" ∷ codes "nth-last-child" ∷ codes "marker" ∷ [];
  rejected = (codes "color", codes "oops") ∷ (codes "width", codes "bad") ∷ [];
  shorthands =
      row "margin" "1px 2px" (sets "margin-top" "1px" ∷ sets "margin-left" "2px" ∷ [])
      ∷ row "gap" "1px" (sets "row-gap" "0px" ∷ sets "row-gap" "1px" ∷ [])
      ∷ row "gap" "1px" (sets "row-gap" "9px" ∷ sets "column-gap" "9px" ∷ [])
      ∷ [];
}

-- the documents in this browser
abbrev pub page : World
page = record { document = page_document; environment = browser }

abbrev pub deep : World
deep = record { document = deep_document; environment = browser }

-- the pseudo-element of this name of an element
abbrev pub pseudo_element : String → ℕ → Subject
pseudo_element name n = record { element = n; tail = Some (codes name) }

-- a compound of a type name alone
abbrev pub kind : String → Compound
kind name = typed name []

-- a compound of one simple selector alone
abbrev pub simply : Simple → Compound
simply x = untyped (part.Placed x 0 ∷ [])

-- a compound of a class alone
abbrev pub class : String → Compound
class name = simply (simple.Class (codes name))

-- a compound of an id alone
abbrev pub id : String → Compound
id name = simply (simple.Id (codes name))

-- a compound of a pseudo-class alone
abbrev pub pseudo : String → Compound
pseudo text = simply (simple.Pseudo (codes text))

-- the compound `&`
abbrev pub parent : Compound
parent = simply simple.Parent

-- a compound with one more simple selector, and with one more class
abbrev pub and_also : Compound → Simple → Compound
and_also k x = record { kind = k.kind; parts = part.Placed x 0 ∷ k.parts; tail = k.tail }

abbrev pub also : Compound → String → Compound
also k name = and_also k (simple.Class (codes name))

-- a selector of three compounds and the combinators between them
abbrev pub three : Compound → Combinator → Compound → Combinator → Compound → Selector
three first combinator second last third = record { lead = None; first = first; rest = link.Linked combinator second ∷ link.Linked last third ∷ []; at = 0 }

-- a selector that begins with a combinator
abbrev pub led : Combinator → Compound → Selector
led combinator k = record { lead = Some combinator; first = k; rest = []; at = 0 }

-- a selector of two compounds that begins with a combinator
abbrev pub led_two : Combinator → Compound → Combinator → Compound → Selector
led_two combinator first last second = record { lead = Some combinator; first = first; rest = link.Linked last second ∷ []; at = 0 }

-- the selector list `#b, .a`
abbrev pub either : List Selector
either = one (id "b") ∷ one (class "a") ∷ []

-- what is round a rule in a rule `#b, .a`
abbrev pub inside : Around
inside = within page top either

-- what is round a rule in a rule `&.red`, itself in a rule `#b, .a`
abbrev pub inner : Around
inner = within page inside (one (also parent "red") ∷ [])

-- does the selector match the subject, with the `&` that is implied?
abbrev pub selector_holds : World → Around → Selector → Subject → Bool
selector_holds world around s subject = (member_of world around s).fit.holds subject

-- the elements of the page that a selector matches
abbrev pub matched : Around → Selector → List ℕ
matched around s = filter (λ n. selector_holds page around s (alone n)) (0 ∷ 1 ∷ 2 ∷ 3 ∷ 4 ∷ 5 ∷ [])

-- how specific a selector is, with the `&` that is implied
abbrev pub specificity_in : Around → Selector → Specificity
specificity_in around s = (member_of page around s).specific

-- does a selector have a pseudo-class or a pseudo-element that the browser does not know?
abbrev pub has_unknown : Selector → Bool
has_unknown s = (member_of page top s).fit.unknown
