-- A text that is put in two parts.
use Rattle.std.proofs.Common.{◌≡◌, ℕ, List, ◌++◌, Option, Some, None, arith, append_assoc, length-append, ◌∙◌, sym, ap}
use Rattle.css_outside.specs.Names.{Names, Told, bytes_under}
use Rattle.css_outside.specs.Putting.{Puts}
use Rattle.csslower.specs.Private.Putting.{PutsFront}

-- two steps, of which each was told
pub told_then : (a b c : Option Names) (P Q R : Names → Names → Type 0) → Told a b P → Told b c Q → ((x y z : Names) → P x y → Q y z → R x z) → Told a c R
told_then None b c P Q R p q step = tt
told_then (Some x) None c P Q R p q step = absurd p
told_then (Some x) (Some y) None P Q R p q step = absurd q
told_then (Some x) (Some y) (Some z) P Q R p q step = step x y z p q

-- a weaker relation
pub told_weaker : (a b : Option Names) (P R : Names → Names → Type 0) → Told a b P → ((x y : Names) → P x y → R x y) → Told a b R
told_weaker None b P R p step = tt
told_weaker (Some x) None P R p step = absurd p
told_weaker (Some x) (Some y) P R p step = step x y p

grown_then : (at_first between at_last first second rest : List ℕ) → between ≡ at_first ++ first → at_last ++ rest ≡ between ++ second → at_last ++ rest ≡ at_first ++ (first ++ second)
grown_then at_first between at_last first second rest e f = f ∙ ap (λ bytes. bytes ++ second) e ∙ append_assoc at_first first second

-- the second part is put from its front where the first was put whole
pub front_then : (name first second : List ℕ) (x y z : Names) → Puts name first x y → PutsFront name second y z → PutsFront name (first ++ second) x z
front_then name first second x y z p (rest, q) = (
  rest,
  record {
    others = λ other away. q.others other away ∙ p.others other away;
    grown = grown_then (bytes_under x name) (bytes_under y name) (bytes_under z name) first second rest p.grown q.grown;
    within = simp length-append (omega (arith, q.within));
    stays = λ held. q.stays (p.stays held);
  },
)

-- the second part is left out where the first was not put whole
pub front_alone : (name first second : List ℕ) (x y : Names) → PutsFront name first x y → PutsFront name (first ++ second) x y
front_alone name first second x y (rest, q) = (
  rest ++ second,
  record {
    others = q.others;
    grown = sym (append_assoc (bytes_under y name) rest second) ∙ ap (λ bytes. bytes ++ second) q.grown ∙ append_assoc (bytes_under x name) first second;
    within = simp length-append (omega (arith, q.within));
    stays = q.stays;
  },
)

pub told_front_then : (name first second : List ℕ) (a b c : Option Names) → Told a b (Puts name first) → Told b c (PutsFront name second) → Told a c (PutsFront name (first ++ second))
told_front_then name first second a b c p q = told_then a b c (Puts name first) (PutsFront name second) (PutsFront name (first ++ second)) p q (front_then name first second)

pub told_front_alone : (name first second : List ℕ) (a b : Option Names) → Told a b (PutsFront name first) → Told a b (PutsFront name (first ++ second))
told_front_alone name first second a b p = told_weaker a b (PutsFront name first) (PutsFront name (first ++ second)) p (front_alone name first second)
