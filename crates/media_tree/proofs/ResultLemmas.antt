-- What holds of what a result holds.
use Rattle.std.specs.Prelude.{Result, Ok, Err, IfOk, IfErr}

pub if_ok_map : {A E : Type 0} {P Q : A → Type 0} (r : Result A E) → ((x : A) → P x → Q x) → IfOk r P → IfOk r Q
if_ok_map (Ok x) f h = f x h
if_ok_map (Err e) f h = tt

pub if_err_map : {A E : Type 0} {P Q : E → Type 0} (r : Result A E) → ((e : E) → P e → Q e) → IfErr r P → IfErr r Q
if_err_map (Ok x) f h = tt
if_err_map (Err e) f h = f e h
