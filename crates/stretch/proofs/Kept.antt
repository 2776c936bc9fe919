-- What is left of a kind's answer where a fault says "not held". Assumes nothing.
use Rattle.std.proofs.Common.{◌≡◌, ℕ, Bool, true, false, cond, pos, to_z, of_z, w64, Some, None, Ok, Err, Option, Result, refl}
use Rattle.std.specs.Result.{result_ok}
use Rattle.number.specs.declared.Pair.{Pair}
use Rattle.number.specs.declared.Fault.{Fault}
use Rattle.std.specs.Int.{from_bool}
use Rattle.number.specs.Frac.{Frac, norm, add}
use Rattle.number.specs.Kind.{held, taken, exact2, scaled, stepped}
use Rattle.number.specs.Kind as K
use Rattle.motion.specs.Pairs.{kept_of, numbers_of}
use Rattle.motion.specs.Flow as F
use Rattle.stretch.proofs.Flowing.{raised_by}

pub ok_kept : {A : Type 0} (r : Result A Fault) → result_ok r ≡ kept_of r
ok_kept (Ok a) = refl
ok_kept (Err e) = refl

pub ok_held : (o : Option Pair) → result_ok (held o) ≡ o
ok_held (Some p) = refl
ok_held None = refl

-- one answer by another
pub ok_then : {A B : Type 0} (r : Result A Fault) (f : A → Result B Fault) → result_ok (K.then r f) ≡ F.then (kept_of r) (λ a. kept_of (f a))
ok_then (Ok a) f = ok_kept (f a)
ok_then (Err e) f = refl

-- 1 or 0 taken
pub ok_unit : (means : Pair → Option Frac) (code : Frac → Option Pair) (b : Bool) → result_ok (taken means code (to_z w64 (of_z w64 (pos (from_bool b)))) (pos 1)) ≡ code (norm (pos (cond b 1 0)) 1)
ok_unit means code true = ok_held (code (norm (pos 1) 1))
ok_unit means code false = ok_held (code (norm (pos 0) 1))

-- d + r n / k
pub ok_stepped : (means : Pair → Option Frac) (code : Frac → Option Pair) (d r : Pair) (n k : ℕ) → result_ok (stepped means code d r n k) ≡ raised_by (numbers_of means code) n k d r
ok_stepped means code d r n k = ok_then (scaled means code r n k) (λ s. exact2 means code add d s)
