-- What the lowest terms within the limits, as the kind of fractions takes them, tell of another kind.
use Rattle.std.specs.Prelude.{◌≡◌, ℕ, ◌≤◌, Bool, true, false, cond, T, ℤ, pos, ◌≤ℤ◌, Some, None, Ok, Err, Option, Result, FitsSigned, int_le, nat_le, unsigned_abs, refl}
use Rattle.std.proofs.Common.{sym, ap, ap₂, subst, ◌∙◌, arith, leb→le, le→leb}
use Rattle.std.specs.Int.{w64}
use Rattle.std.proofs.lemmas.Int.{ints, to_z-of_z}
use Rattle.number.specs.declared.Pair.{Pair}
use Rattle.number.specs.declared.Fault.{Fault}
use Rattle.number.specs.declared.Fault.TheVariants.{NotHeld}
use Rattle.number.specs.Frac.{Frac, lowest, norm}
use Rattle.number.specs.Kind.{Holds, held, taken, in_terms, of_one}
use Rattle.kinds.specs.Fractions.{within, within_lowest, made, frac_of, pair_from, pair_of}
use Rattle.number.proofs.Fracs.{den_pos}
use Rattle.number.proofs.Answered.{held_ok, err_ok}
use Rattle.number.proofs.Ops.{b64, small_fits}
use Rattle.number.proofs.Tests.{two_t, join_t}
use Rattle.kinds.specs.Held.{pair_some, pair_from_code}
use Rattle.kinds.specs.Reduced.{within_facts}

-- n / d is held as its lowest terms p
pub record Lowest (n d : ℤ) (p : Pair) : Type 0 where
  pub num : (norm n (unsigned_abs d)).num ≡ p.a
  pub den : pos (norm n (unsigned_abs d)).den ≡ p.b
  pub low : pos 1 ≤ℤ p.b
  pub small_a : unsigned_abs p.a ≤ 2147483647
  pub small_b : unsigned_abs p.b ≤ 2147483647
  pub fit_a : FitsSigned w64 p.a
  pub fit_b : FitsSigned w64 p.b
  pub taken_by : (means : Pair → Option Frac) (code : Frac → Option Pair) → taken means code n d ≡ held (code (norm n (unsigned_abs d)))

lowest_of : (n d : ℤ) (p : Pair) → int_le (pos 1) d ≡ true → pair_of (norm n (unsigned_abs d)) ≡ Some p → Lowest n d p
lowest_of n d p h e =
    let q : Frac = norm n (unsigned_abs d) in
    let f = pair_from_code q p e in
    let up = den_pos q in
    let t = two_t (nat_le (unsigned_abs q.num) 2147483647) (nat_le q.den 2147483647) f.0 in
    let ea : q.num ≡ p.a = ap (λ (r : Pair). r.a) f.1 in
    let eb : pos q.den ≡ p.b = ap (λ (r : Pair). r.b) f.1 in
    let sa : unsigned_abs p.a ≤ 2147483647 = subst (λ z. unsigned_abs z ≤ 2147483647) ea (leb→le _ _ t.0) in
    let sb : unsigned_abs p.b ≤ 2147483647 = subst (λ z. unsigned_abs z ≤ 2147483647) eb (leb→le _ _ t.1) in
    record {
      num = ea;
      den = eb;
      low = subst (λ z. pos 1 ≤ℤ z) eb (omega (arith, ints));
      small_a = sa;
      small_b = sb;
      fit_a = small_fits p.a sa;
      fit_b = small_fits p.b sb;
      taken_by = λ means code. ap (λ b. cond b (held (code q)) (Err NotHeld)) h;
    }

pub taken_ok : (n d : ℤ) (p : Pair) → Ok p ≡ taken frac_of pair_of n d → Lowest n d p
taken_ok n d p e = by (int_le (pos 1) d) refl e
  where
    by : (b : Bool) → int_le (pos 1) d ≡ b → Ok p ≡ cond b (held (pair_of (norm n (unsigned_abs d)))) (Err NotHeld) → Lowest n d p
    by true h e = lowest_of n d p h (held_ok (pair_of (norm n (unsigned_abs d))) p (sym e))
    by false h e = absurd (err_ok NotHeld p (sym e))

-- no kind holds what the kind of fractions does not
pub taken_err : (means : Pair → Option Frac) (code : Frac → Option Pair) → Holds means code → (n d : ℤ) (e : Fault) → Err e ≡ taken frac_of pair_of n d → Err e ≡ taken means code n d
taken_err means code laws n d e h = by (int_le (pos 1) d) h
  where
    q : Frac
    q = norm n (unsigned_abs d)

    in_limits : (p : Pair) → code q ≡ Some p → pair_of q ≡ Some (pair_from q.num q.den)
    in_limits p c =
        let s = laws.small q p c in
        pair_some q (join_t (nat_le (unsigned_abs q.num) 2147483647) (nat_le q.den 2147483647) (le→leb _ _ s.0) (le→leb _ _ s.1))

    refused : (o : Option Pair) → Err e ≡ held o → ◌≡◌ {A = Result Pair Fault} (Err e) (Err NotHeld)
    refused (Some p) g = absurd (err_ok e p g)
    refused None g = g

    unheld : (o : Option Pair) → code q ≡ o → Err e ≡ held (pair_of q) → Err e ≡ held o
    unheld (Some p) c h = absurd (err_ok e _ (h ∙ ap held (in_limits p c)))
    unheld None c h = refused (pair_of q) h

    by : (b : Bool) → Err e ≡ cond b (held (pair_of q)) (Err NotHeld) → Err e ≡ cond b (held (code q)) (Err NotHeld)
    by true h = unheld (code q) refl h
    by false h = h

-- the same, from what the code calls with
pub passed : (means : Pair → Option Frac) (code : Frac → Option Pair) (n d : ℤ) → FitsSigned w64 n → FitsSigned w64 d → taken means code (b64 n) (b64 d) ≡ taken means code n d
passed means code n d fn fd = ap₂ (taken means code) (to_z-of_z w64 n fn) (to_z-of_z w64 d fd)

-- ---- the lowest terms of a pair of the kind of fractions
made_true : (a : ℤ) (d : ℕ) (b : Bool) (f : T b → T (lowest a d)) (t : T b) → made a d b f ≡ Some (record { num = a; den = d; low = f t })
unfolding made
made_true a d true f t = refl
made_true a d false f t = absurd t

made_false : (a : ℤ) (d : ℕ) (b : Bool) (f : T b → T (lowest a d)) → false ≡ b → made a d b f ≡ None
unfolding made
made_false a d true f e = absurd (subst T (sym e) tt)
made_false a d false f e = refl

pub fraction_yes : (p : Pair) → true ≡ within p.a p.b → Ok (b64 p.a, b64 p.b) ≡ in_terms frac_of p
unfolding frac_of
fraction_yes p e =
    let t : T (within p.a p.b) = subst T e tt in
    let f = within_facts p.a p.b t in
    let fa : FitsSigned w64 p.a = small_fits p.a f.2 in
    let fb : FitsSigned w64 p.b = small_fits p.b f.1 in
    let d : p.b ≡ pos (unsigned_abs p.b) = let h = f.0 in omega (arith, ints) in
    ap₂ (λ x y. Ok (x, y)) (to_z-of_z w64 p.a fa) (to_z-of_z w64 p.b fb ∙ d)
    ∙ sym (ap (of_one (λ x. Ok (x.num, pos x.den))) (made_true p.a (unsigned_abs p.b) (within p.a p.b) (within_lowest p.a p.b) t))

pub fraction_no : (p : Pair) → false ≡ within p.a p.b → Err NotHeld ≡ in_terms frac_of p
unfolding frac_of
fraction_no p e =
    sym (ap (of_one (λ x. Ok (x.num, pos x.den))) (made_false p.a (unsigned_abs p.b) (within p.a p.b) (within_lowest p.a p.b) e))
