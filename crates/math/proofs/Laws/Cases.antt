-- What holds on both ways of a test. Assumes nothing.
use mathlib.Core.Bool.{Bool, true, false, not, cond}
use lib.Dec.{T}

pub by_test : {A : Type 0} (b : Bool) → (T b → A) → (T (not b) → A) → A
by_test true h k = h tt
by_test false h k = k tt

pub cond_holds : {A : Type 0} (P : A → Type 0) (b : Bool) {x y : A} → (T b → P x) → (T (not b) → P y) → P (cond b x y)
cond_holds P true h k = h tt
cond_holds P false h k = k tt
