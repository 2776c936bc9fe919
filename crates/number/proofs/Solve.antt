-- Identities of a commutative ring, by sorting monomials.
use Rattle.std.proofs.Common.{◌≡◌, ℕ, zero, suc, Bool, true, false, cond, eqb, ltb, leb, List, [], ◌∷◌, sym, refl, ap, ◌∙◌}
use Rattle.number.specs.Ring.{Ring}

pub data Exp : Type 0 where
  var : ℕ → Exp
  nil : Exp
  unit : Exp
  ◌⊕◌ : Exp → Exp → Exp
  ◌⊗◌ : Exp → Exp → Exp

infixl 60 ◌⊕◌
infixl 70 ◌⊗◌
abbrev ins_m : ℕ → List ℕ → List ℕ
ins_m i [] = i ∷ []
ins_m i (j ∷ m) = cond (leb i j) (i ∷ j ∷ m) (j ∷ ins_m i m)

abbrev mul_m : List ℕ → List ℕ → List ℕ
mul_m [] n = n
mul_m (i ∷ m) n = ins_m i (mul_m m n)

abbrev le_m : List ℕ → List ℕ → Bool
le_m [] n = true
le_m (i ∷ m) [] = false
le_m (i ∷ m) (j ∷ n) = cond (ltb i j) true (cond (eqb i j) (le_m m n) false)

abbrev ins_p : List ℕ → List (List ℕ) → List (List ℕ)
ins_p m [] = m ∷ []
ins_p m (n ∷ p) = cond (le_m m n) (m ∷ n ∷ p) (n ∷ ins_p m p)

abbrev add_p : List (List ℕ) → List (List ℕ) → List (List ℕ)
add_p [] q = q
add_p (m ∷ p) q = ins_p m (add_p p q)

abbrev mul_mp : List ℕ → List (List ℕ) → List (List ℕ)
mul_mp m [] = []
mul_mp m (n ∷ p) = ins_p (mul_m m n) (mul_mp m p)

abbrev mul_p : List (List ℕ) → List (List ℕ) → List (List ℕ)
mul_p [] q = []
mul_p (m ∷ p) q = add_p (mul_mp m q) (mul_p p q)

abbrev pub normal : Exp → List (List ℕ)
normal (var i) = (i ∷ []) ∷ []
normal nil = []
normal unit = [] ∷ []
normal (e ⊕ f) = add_p (normal e) (normal f)
normal (e ⊗ f) = mul_p (normal e) (normal f)

abbrev pub get : {A : Type 0} → A → List A → ℕ → A
get z [] n = z
get z (x ∷ xs) zero = x
get z (x ∷ xs) (suc n) = get z xs n

module _ {A : Type 0} {none one : A} {plus times : A → A → A} (r : Ring none one plus times) (env : List A) where
  abbrev pub value : Exp → A
  value (var i) = get none env i
  value nil = none
  value unit = one
  value (e ⊕ f) = plus (value e) (value f)
  value (e ⊗ f) = times (value e) (value f)

  abbrev val_m : List ℕ → A
  val_m [] = one
  val_m (i ∷ m) = times (get none env i) (val_m m)

  abbrev val_p : List (List ℕ) → A
  val_p [] = none
  val_p (m ∷ p) = plus (val_m m) (val_p p)

  either_m : (b : Bool) (m n : List ℕ) (v : A) → val_m m ≡ v → val_m n ≡ v → val_m (cond b m n) ≡ v
  either_m true m n v p q = p
  either_m false m n v p q = q

  either_p : (b : Bool) (m n : List (List ℕ)) (v : A) → val_p m ≡ v → val_p n ≡ v → val_p (cond b m n) ≡ v
  either_p true m n v p q = p
  either_p false m n v p q = q

  times_left : (a b c : A) → times a (times b c) ≡ times b (times a c)
  times_left a b c = sym (r.times_assoc a b c) ∙ ap (λ x. times x c) (r.times_comm a b) ∙ r.times_assoc b a c

  plus_left : (a b c : A) → plus a (plus b c) ≡ plus b (plus a c)
  plus_left a b c = sym (r.plus_assoc a b c) ∙ ap (λ x. plus x c) (r.plus_comm a b) ∙ r.plus_assoc b a c

  val_ins_m : (i : ℕ) (m : List ℕ) → val_m (ins_m i m) ≡ times (get none env i) (val_m m)
  val_ins_m i [] = refl
  val_ins_m i (j ∷ m) =
      either_m (leb i j) (i ∷ j ∷ m) (j ∷ ins_m i m) _ refl
      (ap (times (get none env j)) (val_ins_m i m) ∙ times_left (get none env j) (get none env i) (val_m m))

  val_mul_m : (m n : List ℕ) → val_m (mul_m m n) ≡ times (val_m m) (val_m n)
  val_mul_m [] n = sym (r.times_one (val_m n))
  val_mul_m (i ∷ m) n =
      val_ins_m i (mul_m m n) ∙ ap (times (get none env i)) (val_mul_m m n) ∙ sym (r.times_assoc (get none env i) (val_m m) (val_m n))

  val_ins_p : (m : List ℕ) (p : List (List ℕ)) → val_p (ins_p m p) ≡ plus (val_m m) (val_p p)
  val_ins_p m [] = refl
  val_ins_p m (n ∷ p) =
      either_p (le_m m n) (m ∷ n ∷ p) (n ∷ ins_p m p) _ refl
      (ap (plus (val_m n)) (val_ins_p m p) ∙ plus_left (val_m n) (val_m m) (val_p p))

  val_add_p : (p q : List (List ℕ)) → val_p (add_p p q) ≡ plus (val_p p) (val_p q)
  val_add_p [] q = sym (r.plus_none (val_p q))
  val_add_p (m ∷ p) q =
      val_ins_p m (add_p p q) ∙ ap (plus (val_m m)) (val_add_p p q) ∙ sym (r.plus_assoc (val_m m) (val_p p) (val_p q))

  val_mul_mp : (m : List ℕ) (p : List (List ℕ)) → val_p (mul_mp m p) ≡ times (val_m m) (val_p p)
  val_mul_mp m [] = sym (r.times_comm (val_m m) none ∙ r.times_none (val_m m))
  val_mul_mp m (n ∷ p) =
      val_ins_p (mul_m m n) (mul_mp m p) ∙ ap (λ x. plus x (val_p (mul_mp m p))) (val_mul_m m n) ∙ ap (plus (times (val_m m) (val_m n))) (val_mul_mp m p) ∙ sym (r.times_plus (val_m m) (val_m n) (val_p p))

  plus_times : (a b c : A) → times (plus a b) c ≡ plus (times a c) (times b c)
  plus_times a b c =
      r.times_comm (plus a b) c ∙ r.times_plus c a b ∙ ap (λ x. plus x (times c b)) (r.times_comm c a) ∙ ap (plus (times a c)) (r.times_comm c b)

  val_mul_p : (p q : List (List ℕ)) → val_p (mul_p p q) ≡ times (val_p p) (val_p q)
  val_mul_p [] q = sym (r.times_none (val_p q))
  val_mul_p (m ∷ p) q =
      val_add_p (mul_mp m q) (mul_p p q) ∙ ap (λ x. plus x (val_p (mul_p p q))) (val_mul_mp m q) ∙ ap (plus (times (val_m m) (val_p q))) (val_mul_p p q) ∙ sym (plus_times (val_m m) (val_p p) (val_p q))

  plus_zero : (a : A) → plus a none ≡ a
  plus_zero a = r.plus_comm a none ∙ r.plus_none a

  times_unit : (a : A) → times a one ≡ a
  times_unit a = r.times_comm a one ∙ r.times_one a

  pub sound : (e : Exp) → val_p (normal e) ≡ value e
  sound (var i) = plus_zero (times (get none env i) one) ∙ times_unit (get none env i)
  sound nil = refl
  sound unit = plus_zero one
  sound (e ⊕ f) = val_add_p (normal e) (normal f) ∙ ap (λ x. plus x (val_p (normal f))) (sound e) ∙ ap (plus (value e)) (sound f)
  sound (e ⊗ f) = val_mul_p (normal e) (normal f) ∙ ap (λ x. times x (val_p (normal f))) (sound e) ∙ ap (times (value e)) (sound f)

  pub solve : (e f : Exp) → normal e ≡ normal f → value e ≡ value f
  solve e f h = sym (sound e) ∙ ap val_p h ∙ sound f
