-- Laws of writers that append.
use Rattle.std.proofs.Common.{ℕ, List, [], ◌∷◌, ◌++◌, ◌≡◌, ◌<◌, ◌+◌, suc, length, get_or, drop, refl, sym, ap, ◌∙◌, append_assoc, add-one, drop-cons}
use Rattle.std.specs.Prelude.{Result, Ok, Err, OnOk, OnErr}
use Rattle.std.proofs.lemmas.List.{append-nil}
use Rattle.css_tokens.specs.Appends.{AppendsFront}

-- new is old and then all of the text but this rest
pub record IsWritten (old new text rest : List ℕ) : Type 0 where
  pub part : List ℕ
  pub written : new ≡ old ++ part
  pub whole : text ≡ part ++ rest

pub start : (old text : List ℕ) → IsWritten old old text text
start old text = record { part = []; written = sym (append-nil old); whole = refl }

-- one more piece of a text
pub more : {old new text rest new' : List ℕ} (a r : List ℕ) → IsWritten old new text rest → rest ≡ a ++ r → new' ≡ new ++ a → IsWritten old new' text r
more {old} {new} {text} {rest} {new'} a r w cut e = record {
  part = w.part ++ a;
  written = e ∙ ap (λ (xs : List ℕ). xs ++ a) w.written ∙ append_assoc old w.part a;
  whole = w.whole ∙ ap (λ (xs : List ℕ). w.part ++ xs) cut ∙ sym (append_assoc w.part a r);
}

-- the text is written
pub finish : {old new text rest : List ℕ} → IsWritten old new text rest → rest ≡ [] → new ≡ old ++ text
finish {old} {new} {text} {rest} w e = w.written ∙ ap (λ (xs : List ℕ). old ++ xs) (sym (w.whole ∙ ap (λ (xs : List ℕ). w.part ++ xs) e ∙ append-nil w.part))

-- the last piece of a text
pub last : {old new text rest new' : List ℕ} → IsWritten old new text rest → new' ≡ new ++ rest → new' ≡ old ++ text
last {old} {new} {text} {rest} {new'} w e = e ∙ ap (λ (xs : List ℕ). xs ++ rest) w.written ∙ append_assoc old w.part rest ∙ ap (λ (xs : List ℕ). old ++ xs) (sym w.whole)

-- a refusal within a piece
pub within : {old new text rest new' : List ℕ} (a r : List ℕ) → IsWritten old new text rest → rest ≡ a ++ r → AppendsFront new new' a → AppendsFront old new' text
within {old} {new} {text} {rest} {new'} a r w cut b = record {
  front = w.part ++ b.front;
  rest = b.rest ++ r;
  split = w.whole ∙ ap (λ (xs : List ℕ). w.part ++ xs) (cut ∙ ap (λ (xs : List ℕ). xs ++ r) b.split ∙ append_assoc b.front b.rest r) ∙ sym (append_assoc w.part b.front (b.rest ++ r));
  appended = b.appended ∙ ap (λ (xs : List ℕ). xs ++ b.front) w.written ∙ append_assoc old w.part b.front;
}

-- a refusal within the last piece
pub within_last : {old new text rest new' : List ℕ} → IsWritten old new text rest → AppendsFront new new' rest → AppendsFront old new' text
within_last {old} {new} {text} {rest} {new'} w b = record {
  front = w.part ++ b.front;
  rest = b.rest;
  split = w.whole ∙ ap (λ (xs : List ℕ). w.part ++ xs) b.split ∙ sym (append_assoc w.part b.front b.rest);
  appended = b.appended ∙ ap (λ (xs : List ℕ). xs ++ b.front) w.written ∙ append_assoc old w.part b.front;
}

pub on_err : {A E : Type 0} (r : Result A E) {P : Type 0} → P → OnErr r P
on_err (Ok x) h = tt
on_err (Err e) h = h

-- the element of a loop, and those behind it
pub at-item : {X : Type 0} (xs : List X) (i : ℕ) (x : X) → i < length xs → x ≡ get_or xs i x → drop i xs ≡ x ∷ drop (i + 1) xs
at-item xs i x h e = rw add-one (drop-cons xs i x h ∙ ap (λ y. y ∷ drop (suc i) xs) (sym e))

pub on_err_map : {A E : Type 0} (r : Result A E) {P Q : Type 0} → (P → Q) → OnErr r P → OnErr r Q
on_err_map (Ok x) f h = tt
on_err_map (Err e) f h = f h

pub on_ok_map : {A E : Type 0} (r : Result A E) {P Q : Type 0} → (P → Q) → OnOk r P → OnOk r Q
on_ok_map (Ok x) f h = f h
on_ok_map (Err e) f h = tt
