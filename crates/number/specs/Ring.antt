-- What makes a commutative ring, but for subtraction.
use Rattle.std.specs.Prelude.{◌≡◌}

-- the laws of adding and multiplying, with 0 and 1
pub record Ring {A : Type 0} (none one : A) (plus times : A → A → A) : Type 0 where
  pub plus_none : (a : A) → plus none a ≡ a
  pub plus_comm : (a b : A) → plus a b ≡ plus b a
  pub plus_assoc : (a b c : A) → plus (plus a b) c ≡ plus a (plus b c)
  pub times_none : (a : A) → times none a ≡ none
  pub times_one : (a : A) → times one a ≡ a
  pub times_comm : (a b : A) → times a b ≡ times b a
  pub times_assoc : (a b c : A) → times (times a b) c ≡ times a (times b c)
  pub times_plus : (a b c : A) → times a (plus b c) ≡ plus (times a b) (times a c)
