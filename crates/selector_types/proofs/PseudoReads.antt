-- How the words of pseudo-classes are read.
use Rattle.std.proofs.Common.{◌≡◌, ℕ, List, [], ◌∷◌, Bool, true, false, not, refl, sym, subst, cond, codes}
use Rattle.std.specs.Prelude.{Option, Some, None, if◌then◌else◌}
use Rattle.std.specs.Option.{option_and_then, option_map_or}
use Rattle.std.proofs.lemmas.Bool.{and_parts}
use lib.Pointwise.{bytes_decides}
use Rattle.css_tokens.specs.declared.kind.Kind.TheVariants as kinds
use Rattle.css_tokens.specs.declared.component.Component.{Component}
use Rattle.css_tokens.specs.Again.{word_from}
use Rattle.css_tokens.specs.NameText.{name_text}
use Rattle.css_tokens.specs.Names.{is_name}
use Rattle.css_tokens.specs.Tokens.{is_url, spells}
use Rattle.css_tokens.specs.Trees.{closing_text, is_text, words_all}
use Rattle.selector_types.specs.Names.{is_old_element}
use Rattle.selector_types.specs.ReadableSelectors.{is_argument_text, is_name_text, is_pseudo_of, is_pseudo_text, is_readable_pseudo, is_step_text, name_in_text}
use Rattle.selector_types.specs.Spelling.{argument_spelling, before_close, behind, block, pseudo_from, pseudo_spelling, single, step_spelling, text_functions}
use Rattle.selector_types.proofs.PartReads.{Calls, Inner, IsPart, colon_word, function-reads, inner-stands, name-alone, part-colon, pseudo-alone, words-block, words-single}
use Rattle.selector_types.proofs.StepReads.{step-inner}
use Rattle.selector_types.proofs.WordReads.{Laws, Stands}

-- Functions with selectors in them.

pub call-not : Calls (codes "not(")
unfolding spells
call-not = record { spelled_so = refl; other = refl; closed = refl }

pub call-is : Calls (codes "is(")
unfolding spells
call-is = record { spelled_so = refl; other = refl; closed = refl }

pub call-where : Calls (codes "where(")
unfolding spells
call-where = record { spelled_so = refl; other = refl; closed = refl }

pub call-local : Calls (codes "local(")
unfolding spells
call-local = record { spelled_so = refl; other = refl; closed = refl }

pub call-global : Calls (codes "global(")
unfolding spells
call-global = record { spelled_so = refl; other = refl; closed = refl }

-- Functions with a name or AN+B in them.

abbrev AllCall : List (List ℕ) → Type 0
AllCall [] = Unit {0}
AllCall (f ∷ fs) = Calls f × AllCall fs

text-calls : AllCall text_functions
unfolding spells
text-calls =
    let c : (f : List ℕ) → spells kinds.Function f ≡ true → is_url f ≡ false → closing_text f ≡ codes ")" → Calls f = λ f a b d. record { spelled_so = a; other = b; closed = d } in
    (c _ refl refl refl, (c _ refl refl refl, (c _ refl refl refl, (c _ refl refl refl, (c _ refl refl refl, tt)))))

module _ (l : Laws) where
  argument-at : (text : List ℕ) (lang : Bool) → cond lang (is_name_text text) (is_step_text text) ≡ true → Inner (words_all (if lang then single kinds.Ident text ∷ [] else step_spelling text))
  argument-at text true h =
      let n = name_in_text text in
      let p = and_parts (is_name n) (is_text (name_text n) text) h in
      subst Inner (sym (words-single kinds.Ident text []))
      (inner-stands (word_from kinds.Ident text ∷ []) (subst (λ (t : List ℕ). Stands (word_from kinds.Ident t ∷ [])) ((bytes_decides (name_text n) text).0 p.1) (name-alone l n p.0)))
  argument-at text false h = step-inner l text h

  pseudo-at : (f text : List ℕ) (o : Option (List ℕ)) (other : Component) (is_other : Bool) → Calls f → option_map_or (is_argument_text f) o is_other ≡ true → (is_other ≡ true → Stands (words_all (other ∷ []))) → Stands (words_all (option_map_or (λ argument. block kinds.Function f (argument_spelling f argument)) o other ∷ []))
  pseudo-at f text None other is_other c h more = more h
  pseudo-at f text (Some r) other is_other c h more =
      subst Stands (sym (words-block kinds.Function f (argument_spelling f r)))
      (λ rest g. function-reads l f (words_all (argument_spelling f r)) c (argument-at r (is_text f (codes "lang(")) h) rest)

  pseudo-stands : (fs : List (List ℕ)) (text : List ℕ) → AllCall fs → is_pseudo_of fs text ≡ true → Stands (words_all (pseudo_from fs text ∷ []))
  pseudo-stands [] text c h = subst Stands (sym (words-single kinds.Ident text [])) (pseudo-alone l text (and_parts (is_pseudo_text text) (not (is_old_element text)) h).0)
  pseudo-stands (f ∷ fs) text c h = pseudo-at f text (option_and_then before_close (behind f text)) (pseudo_from fs text) (is_pseudo_of fs text) c.0 h (pseudo-stands fs text c.1)

  pub part-pseudo : (text : List ℕ) → is_readable_pseudo text ≡ true → IsPart (colon_word ∷ words_all (pseudo_spelling text ∷ []))
  part-pseudo text h = part-colon l (words_all (pseudo_spelling text ∷ [])) (pseudo-stands text_functions text text-calls h)
