-- One writer after another.
use Rattle.std.proofs.Common.{◌≡◌, ℕ, List, [], ◌++◌, refl, ap, sym, ◌∙◌, append_assoc}
use Rattle.std.proofs.lemmas.List.{append-nil}
use Rattle.css_tokens.specs.Appends.{AppendsFront}

-- nothing was written
pub front_none : (old new text : List ℕ) → new ≡ old → AppendsFront old new text
front_none old new text e = record { front = []; rest = text; split = refl; appended = e ∙ sym (append-nil old) }

-- the first of two writers gave up
pub front_first : (old new a b : List ℕ) → AppendsFront old new a → AppendsFront old new (a ++ b)
front_first old new a b h = record { front = h.front; rest = h.rest ++ b; split = ap (λ t. t ++ b) h.split ∙ append_assoc h.front h.rest b; appended = h.appended }

-- the first of two did its part, and the second gave up
pub front_second : (old mid new a b : List ℕ) → mid ≡ old ++ a → AppendsFront mid new b → AppendsFront old new (a ++ b)
front_second old mid new a b e h = record { front = a ++ h.front; rest = h.rest; split = ap (λ t. a ++ t) h.split ∙ sym (append_assoc a h.front h.rest); appended = h.appended ∙ ap (λ t. t ++ h.front) e ∙ append_assoc old a h.front }

-- now is old with the done part of the whole text, and the rest is still to be written
pub record IsAppending (old now rest whole : List ℕ) : Type 0 where
  pub done : List ℕ
  pub appended : now ≡ old ++ done
  pub left : whole ≡ done ++ rest

pub appending_start : (old whole : List ℕ) → IsAppending old old whole whole
appending_start old whole = record { done = []; appended = sym (append-nil old); left = refl }

pub appending_more : (old now new rest whole a more : List ℕ) → IsAppending old now rest whole → rest ≡ a ++ more → new ≡ now ++ a → IsAppending old new more whole
appending_more old now new rest whole a more h r e = record { done = h.done ++ a; appended = e ∙ ap (λ t. t ++ a) h.appended ∙ append_assoc old h.done a; left = h.left ∙ ap (λ t. h.done ++ t) r ∙ sym (append_assoc h.done a more) }

pub appending_end : (old now whole : List ℕ) → IsAppending old now [] whole → now ≡ old ++ whole
appending_end old now whole h = h.appended ∙ ap (λ t. old ++ t) (sym (append-nil h.done) ∙ sym h.left)

-- the next part gave up
pub appending_front : (old now new rest whole a more : List ℕ) → IsAppending old now rest whole → rest ≡ a ++ more → AppendsFront now new a → AppendsFront old new whole
appending_front old now new rest whole a more h r f =
    record {
      front = h.done ++ f.front;
      rest = f.rest ++ more;
      split = h.left ∙ ap (λ t. h.done ++ t) (r ∙ ap (λ t. t ++ more) f.split) ∙ simp append_assoc;
      appended = f.appended ∙ ap (λ t. t ++ f.front) h.appended ∙ append_assoc old h.done f.front;
    }
