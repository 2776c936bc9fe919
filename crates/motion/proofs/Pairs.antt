-- A run in a kind's pairs follows the run in the fractions that they stand for.
use Rattle.std.proofs.Common.{◌≡◌, ℕ, Bool, true, false, cond, ◌&&◌, leb, Some, None, Err, Option, sym, refl}
use Rattle.number.specs.declared.Pair.{Pair}
use Rattle.number.specs.declared.Fault.TheVariants.{NotHeld, ZeroDivisor}
use Rattle.number.specs.Frac.{Frac, less, at_most}
use Rattle.number.specs.Frac as F
use Rattle.number.specs.Kind.{Holds, held, exact2, divided, scaled, asked2, is_naught}
use Rattle.motion.specs.Numbers.{exact, quot, by_zero, divide}
use Rattle.motion.specs.Carriers.{Follows, both, lost, Divides, quots, zeros, gone, Carries}
use Rattle.motion.specs.Pairs.{numbers_of, kept_of, quot_of, Meant}

module _ (means : Pair → Option Frac) (code : Frac → Option Pair) (laws : Holds means code) where
  -- the code of a fraction stands for it
  coded : (x : Frac) (o : Option Pair) → code x ≡ o → Follows (Meant means) (Some x) o
  coded x (Some p) e = both (laws.back x p e)
  coded x None e = lost

  kept : (x : Frac) (o : Option Pair) → code x ≡ o → Follows (Meant means) (Some x) (kept_of (held o))
  kept x (Some p) e = both (laws.back x p e)
  kept x None e = lost

  two : (op : Frac → Frac → Frac) {x y : Frac} {p q : Pair} → Meant means x p → Meant means y q → Follows (Meant means) (Some (op x y)) (kept_of (exact2 means code op p q))
  two op {x} {y} r s = rw (r, s) (kept (op x y) (code (op x y)) refl)

  quotient : (x : Frac) (o : Option Pair) → code x ≡ o → Divides (Meant means) (quot x) (quot_of (held o))
  quotient x (Some p) e = quots (laws.back x p e)
  quotient x None e = gone

  over : (x y : Frac) (b : Bool) → Divides (Meant means) (cond b by_zero (quot (F.div x y))) (quot_of (cond b (Err ZeroDivisor) (held (code (F.div x y)))))
  over x y true = zeros
  over x y false = quotient (F.div x y) (code (F.div x y)) refl

  shared : {x y : Frac} {p q : Pair} → Meant means x p → Meant means y q → Divides (Meant means) (divide x y) (quot_of (divided means code p q))
  shared {x} {y} r s = rw (r, s) (over x y (is_naught y))

  by_ticks : (x : Frac) (n k : ℕ) (b : Bool) → Follows (Meant means) (Some (F.scale x n k)) (kept_of (cond b (held (code (F.scale x n k))) (Err NotHeld)))
  by_ticks x n k true = kept (F.scale x n k) (code (F.scale x n k)) refl
  by_ticks x n k false = lost

  times : {x : Frac} {p : Pair} → Meant means x p → (n k : ℕ) → Follows (Meant means) (Some (F.scale x n k)) (kept_of (scaled means code p n k))
  times {x} r n k = rw r (by_ticks x n k (leb n 2147483647 && (leb 1 k && leb k 4)))

  tested : (test : Frac → Frac → Bool) {x y : Frac} {p q : Pair} → Meant means x p → Meant means y q → Follows (◌≡◌ {A = Bool}) (Some (test x y)) (kept_of (asked2 means test p q))
  tested test r s = rw (r, s) (both refl)

  pub pairs_carry : Carries exact (numbers_of means code) (Meant means)
  pairs_carry = record {
    literal = λ x. coded x (code x) refl;
    add = two F.add;
    sub = two F.sub;
    mul = two F.mul;
    div = shared;
    scale = times;
    lt = tested less;
    le = tested at_most;
    terms = λ r. sym r;
  }
