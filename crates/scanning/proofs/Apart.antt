-- What is answered is not refused.
use Rattle.std.proofs.Common.{◌≡◌, Some, None, Ok, Err, Option, Result}

pub no_err : {A E : Type 0} {x : A} {e : E} → ◌≡◌ {A = Result A E} (Err e) (Ok x) → ⊥
no_err p = cc

pub no_none : {A : Type 0} {x : A} → ◌≡◌ {A = Option A} None (Some x) → ⊥
no_none p = cc
