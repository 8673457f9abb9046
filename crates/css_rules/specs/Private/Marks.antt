-- Where a cut ends (CSS Syntax 3, section 5.4).
use Rattle.std.specs.Prelude.{ℕ, List, [], ◌∷◌, ◌++◌, ◌+◌, ◌≡◌, Bool, true, false, ◌||◌, None, Some, drop, slice_get, slice_range, MatchOption}
use Rattle.std.specs.List.{list_any}
use Rattle.css_tokens.specs.declared.component.Component.{Component}
use Rattle.css_rules.specs.declared.cuts.Mark.{Mark}
use Rattle.css_rules.specs.declared.cuts.Mark.TheVariants.{Braces, Semicolon, BracesOrSemicolon, Bang}
use Rattle.css_components.specs.Components.{is_braces, is_semicolon, is_bang}
use Rattle.css_rules.specs.Cuts.{cuts}

-- is the component this mark: a `{}` block, a semicolon, one of these, or a `!`?
abbrev pub is_mark : Mark → Component → Bool
is_mark Braces c = is_braces c
is_mark Semicolon c = is_semicolon c
is_mark BracesOrSemicolon c = is_braces c || is_semicolon c
is_mark Bang c = is_bang c

-- From the first place on, the first mark stands at the other one, or the list ends there.
pub record IsFirstMark (test : Component → Bool) (cs : List Component) (from to : ℕ) : Type 0 where
  pub before : list_any test (slice_range cs from to) ≡ false
  pub at : MatchOption (slice_get cs to) (Unit {0}) (λ c. test c ≡ true)

-- What begins with these components ends at the first of them that passes the test.
abbrev pub EndsAt : (List Component → Component → Bool) → (Component → Bool) → List Component → Type 0
EndsAt ends test cs = (before : List Component) (c : Component) (behind : List Component) → before ++ c ∷ behind ≡ cs → ends before c ≡ test c

-- The first cut of what stands from a place on ends at this other place, at a mark or at the end of the list.
abbrev pub EndsCut : (List Component → Component → Bool) → List Component → ℕ → ℕ → Type 0
EndsCut ends cs from to =
    MatchOption (slice_get cs to)
    (cuts ends (drop from cs) ≡ record { front = slice_range cs from to; mark = None } ∷ [])
    (λ c. cuts ends (drop from cs) ≡ record { front = slice_range cs from to; mark = Some c } ∷ cuts ends (drop (to + 1) cs))
