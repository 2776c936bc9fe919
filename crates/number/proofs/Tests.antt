-- Tests that are known to hold, or not to.
use Rattle.std.proofs.Common.{◌≡◌, ℕ, ◌≤◌, Bool, true, false, cond, ◌&&◌, T, leb, ℤ, ◌≤ℤ◌, Some, None, Option, sym, refl, arith, le→leb}
use lib.Signed.{le_z}
use Rattle.std.proofs.lemmas.Int.{ints}

pub is_true : (b : Bool) → T b → b ≡ true
is_true true t = refl
is_true false t = absurd t

pub is_false : (b : Bool) → (T b → ⊥) → b ≡ false
is_false true h = absurd (h tt)
is_false false h = refl

pub leb_yes : (m n : ℕ) → m ≤ n → leb m n ≡ true
leb_yes m n h = is_true (leb m n) (le→leb m n h)

pub le_z_yes : (a b : ℤ) → a ≤ℤ b → le_z a b ≡ true
le_z_yes a b h = sym (omega (arith, ints))

pub two_t : (a b : Bool) → T (a && b) → T a × T b
two_t true b t = (tt, t)
two_t false b t = absurd t

pub none_some : {A : Type 0} (a : A) → ◌≡◌ {A = Option A} None (Some a) → ⊥
none_some a h = let z : ◌≡◌ {A = ℕ} 0 1 = cc in omega arith

pub join_t : (a b : Bool) → T a → T b → T (a && b)
join_t true b s t = t
join_t false b s t = s

-- what was chosen where something was
pub chosen : {A : Type 0} (b : Bool) (x y : A) → cond b (Some x) None ≡ Some y → T b × (x ≡ y)
chosen true x y e = (tt, cc)
chosen false x y e = absurd (none_some y e)
