-- The flow law: n ticks and then m are n + m ticks, where the rates are shallow.
use Rattle.std.proofs.Common.{◌≡◌, ℕ, zero, suc, ◌+◌, Bool, true, false, cond, List, [], ◌∷◌, length, get_or, pos, Some, None, Option, sym, refl, ap, ◌∙◌, subst, ap₂, add-zero, zero-add, arith}
use Rattle.number.specs.Frac.{Frac, naught, whole, add, mul, scale, horner}
use Rattle.number.proofs.Laws.{frac_ring}
use Rattle.motion.specs.Numbers.{exact}
use Rattle.motion.specs.Lines.{Part, Rate, Of, one, var}
use Rattle.motion.specs.Items.{nth}
use Rattle.motion.specs.Flow.{then, parts_of, of_part, sum, next, climb, flow}
use Rattle.motion.specs.Program.{Prog, skip, assign, evolve, rest, branch, repeat, seq}
use Rattle.motion.specs.Derivatives.{D0, weighted, derive, Dk, FifthZero}
use Rattle.motion.specs.Cuts.{Flows, Smooth}
use Rattle.motion.specs.Chains.{Shallow, Shallows}
use Rattle.motion.proofs.Derivatives.{flown, zero_is, none_add, add_none, horner_still, shallow_fifth, flown_on}
use Rattle.motion.proofs.Lengths.{Holds, then_holds, climb_length, next_length, flow_length}

-- A list holds the values of f.
abbrev pub Reads : List Frac → (ℕ → Frac) → Type 0
Reads d f = (x : ℕ) (v : Frac) → nth d x ≡ Some v → v ≡ f x

reads_none : (f : ℕ → Frac) → Reads [] f
reads_none f x v h = cc

reads_cons : (q : Frac) (qs : List Frac) (f : ℕ → Frac) → q ≡ f 0 → Reads qs (λ x. f (suc x)) → Reads (q ∷ qs) f
reads_cons q qs f e r zero v h = let k : v ≡ q = cc in k ∙ e
reads_cons q qs f e r (suc x) v h = r x v h

pub reads_self : (d : List Frac) → Reads d (λ x. get_or d x naught)
reads_self [] = reads_none _
reads_self (q ∷ qs) = reads_cons q qs _ refl (reads_self qs)

reads_same : (d e : List Frac) (f : ℕ → Frac) → length d ≡ length e → Reads d f → Reads e f → d ≡ e
reads_same [] [] f h r s = refl
reads_same [] (q ∷ qs) f h r s = absurd (omega arith)
reads_same (q ∷ qs) [] f h r s = absurd (omega arith)
reads_same (p ∷ ps) (q ∷ qs) f h r s =
    ap₂ ◌∷◌ (r 0 p refl ∙ sym (s 0 q refl)) (reads_same ps qs (λ x. f (suc x)) (omega arith) (λ x. r (suc x)) (λ x. s (suc x)))

pub holds_of : {A : Type 0} (P : A → Type 0) (o : Option A) → ((a : A) → o ≡ Some a → P a) → Holds P o
holds_of P (Some a) h = h a refl
holds_of P None h = tt

holds_map : {A : Type 0} (P Q : A → Type 0) (o : Option A) → ((a : A) → P a → Q a) → Holds P o → Holds Q o
holds_map P Q (Some a) f h = f a h
holds_map P Q None f h = tt

module _ (first : Bool) (rs : List Rate) (d : List Frac) (f : Of → Frac) (unit : f one ≡ whole (pos (cond first 1 0))) (r : Reads d (λ x. f (var x))) where
  part_reads : (o : Of) → Holds (λ v. v ≡ f o) (of_part exact first d o)
  part_reads one = sym unit
  part_reads (var x) = holds_of (λ v. v ≡ f (var x)) (nth d x) (r x)

  sum_reads : (ps : List Part) (a : Frac) → Holds (λ q. q ≡ add a (weighted f ps)) (sum exact first d a ps)
  unfolding weighted
  sum_reads [] a = sym (add_none a)
  sum_reads (p ∷ ps) a =
      let c = p.coefficient in
      then_holds (λ v. v ≡ f p.of) (λ q. q ≡ add a (add (mul c (f p.of)) (weighted f ps))) (of_part exact first d p.of) _ (part_reads p.of) (λ v e.
      holds_map (λ q. q ≡ add (add a (mul c v)) (weighted f ps)) _ _ (λ q h. h ∙ frac_ring.plus_assoc a (mul c v) (weighted f ps) ∙ ap (λ (z : Frac). add a (add (mul c z) (weighted f ps))) e) (sum_reads ps (add a (mul c v))))

  next_reads : (x n : ℕ) → Holds (λ qs. Reads qs (λ j. weighted f (parts_of (x + j) rs))) (next exact first rs d x n)
  next_reads x zero = reads_none _
  next_reads x (suc n) =
      then_holds (λ q. q ≡ add (whole (pos 0)) (weighted f (parts_of x rs))) _ (sum exact first d (whole (pos 0)) (parts_of x rs)) _ (sum_reads (parts_of x rs) (whole (pos 0))) (λ q e.
      then_holds (λ qs. Reads qs (λ j. weighted f (parts_of (suc x + j) rs))) _ (next exact first rs d (suc x) n) _ (next_reads (suc x) n) (λ qs h.
      reads_cons q qs (λ j. weighted f (parts_of (x + j) rs))
      (e ∙ ap (λ (z : Frac). add z (weighted f (parts_of x rs))) zero_is ∙ none_add _ ∙ ap (λ (y : ℕ). weighted f (parts_of y rs)) (sym (add-zero x)))
      (λ j v k. h j v k ∙ ap (λ (y : ℕ). weighted f (parts_of y rs)) (omega arith))))

  next_derives : (n : ℕ) → Holds (λ qs. Reads qs (λ j. derive rs f (var j))) (next exact first rs d 0 n)
  unfolding derive
  next_derives n = holds_map (λ qs. Reads qs (λ j. weighted f (parts_of (0 + j) rs))) _ _ (λ qs h j v k. h j v k ∙ ap (λ (y : ℕ). weighted f (parts_of y rs)) (zero-add j)) (next_reads 0 n)

climb_reads : (n k : ℕ) (ds es : List Frac) (f g : ℕ → Frac) → Reads ds f → Reads es g → Holds (λ qs. Reads qs (λ x. add (f x) (scale (g x) n k))) (climb exact n k ds es)
climb_reads n k [] es f g r s = reads_none _
climb_reads n k (d ∷ ds) [] f g r s = tt
climb_reads n k (d ∷ ds) (e ∷ es) f g r s =
    then_holds (λ qs. Reads qs (λ x. add (f (suc x)) (scale (g (suc x)) n k))) _ (climb exact n k ds es) _ (climb_reads n k ds es _ _ (λ x. r (suc x)) (λ x. s (suc x))) (λ qs h.
    reads_cons (add d (scale e n k)) qs _ (ap₂ (λ (a b : Frac). add a (scale b n k)) (r 0 d refl) (s 0 e refl)) h)

module _ (rs : List Rate) (σ : List Frac) (f : Of → Frac) (unit : f one ≡ whole (pos 1)) (r : Reads σ (λ x. f (var x))) (m : ℕ) where
  pub flow_reads : Holds (λ τ. Reads τ (λ x. flown rs f (suc m) (var x))) (flow exact rs σ (suc m))
  unfolding flown Dk horner derive
  flow_reads =
      let n = suc m in
      let c = length σ in
      let d : ℕ → ℕ → Frac = λ k x. Dk rs k f (var x) in
      then_holds (λ d1. Reads d1 (d 1)) _ (next exact true rs σ 0 c) _ (next_derives true rs σ f unit r c) (λ d1 r1.
      then_holds (λ d2. Reads d2 (d 2)) _ (next exact false rs d1 0 c) _ (next_derives false rs d1 (Dk rs 1 f) (sym zero_is) r1 c) (λ d2 r2.
      then_holds (λ d3. Reads d3 (d 3)) _ (next exact false rs d2 0 c) _ (next_derives false rs d2 (Dk rs 2 f) (sym zero_is) r2 c) (λ d3 r3.
      then_holds (λ d4. Reads d4 (d 4)) _ (next exact false rs d3 0 c) _ (next_derives false rs d3 (Dk rs 3 f) (sym zero_is) r3 c) (λ d4 r4.
      then_holds (λ q. Reads q (λ x. add (d 3 x) (scale (d 4 x) n 4))) _ (climb exact n 4 d3 d4) _ (climb_reads n 4 d3 d4 _ _ r3 r4) (λ q3 s3.
      then_holds (λ q. Reads q (λ x. add (d 2 x) (scale (add (d 3 x) (scale (d 4 x) n 4)) n 3))) _ (climb exact n 3 d2 q3) _ (climb_reads n 3 d2 q3 _ _ r2 s3) (λ q2 s2.
      then_holds (λ q. Reads q (λ x. add (d 1 x) (scale (add (d 2 x) (scale (add (d 3 x) (scale (d 4 x) n 4)) n 3)) n 2))) _ (climb exact n 2 d1 q2) _ (climb_reads n 2 d1 q2 _ _ r1 s2) (λ q1 s1.
      climb_reads n 1 σ q1 _ _ r s1)))))))

-- There is an answer.
abbrev pub Is : {A : Type 0} → Option A → Type 0
Is (Some a) = Unit {0}
Is None = ⊥

is_some : {A : Type 0} {a : A} (o : Option A) → o ≡ Some a → Is o
is_some (Some b) e = tt
is_some None e = let z : ◌≡◌ {A = ℕ} 0 1 = cc in omega arith

pub some_of : {A : Type 0} (o : Option A) → Is o → (a : A) × (o ≡ Some a)
some_of (Some a) h = (a, refl)
some_of None h = absurd h

-- the same first answer, and then one as well as the other
then_also : {A B : Type 0} (P : A → Type 0) (o : Option A) (f g : A → Option B) → Holds P o → ((a : A) → P a → Is (f a) → Is (g a)) → Is (then o f) → Is (then o g)
then_also P (Some a) f g p h i = h a p i
then_also P None f g p h i = i

pub then_is : {A B : Type 0} (P : A → Type 0) (o : Option A) (f : A → Option B) → Holds P o → Is o → ((a : A) → P a → Is (f a)) → Is (then o f)
then_is P (Some a) f p i h = h a p
then_is P None f p i h = i

pub climb_is : (n k : ℕ) (ds es : List Frac) → length ds ≡ length es → Is (climb exact n k ds es)
climb_is n k [] es h = tt
climb_is n k (d ∷ ds) [] h = absurd (omega arith)
climb_is n k (d ∷ ds) (e ∷ es) h = then_is (λ _. Unit {0}) (climb exact n k ds es) _ (holds_of _ (climb exact n k ds es) (λ _ _. tt)) (climb_is n k ds es (omega arith)) (λ qs _. tt)

-- whether there is one does not turn on the number of ticks
flow_is : (rs : List Rate) (σ : List Frac) (k m : ℕ) → Is (flow exact rs σ (suc k)) → Is (flow exact rs σ (suc m))
flow_is rs σ k m =
    let n = suc m in
    let c = length σ in
    then_also (λ d. length d ≡ c) (next exact true rs σ 0 c) _ _ (next_length exact true rs σ 0 c) (λ d1 l1.
    then_also (λ d. length d ≡ c) (next exact false rs d1 0 c) _ _ (next_length exact false rs d1 0 c) (λ d2 l2.
    then_also (λ d. length d ≡ c) (next exact false rs d2 0 c) _ _ (next_length exact false rs d2 0 c) (λ d3 l3.
    then_also (λ d. length d ≡ c) (next exact false rs d3 0 c) _ _ (next_length exact false rs d3 0 c) (λ d4 l4 _.
    then_is (λ q. length q ≡ length d3) (climb exact n 4 d3 d4) _ (climb_length exact n 4 d3 d4) (climb_is n 4 d3 d4 (omega arith)) (λ q3 e3.
    then_is (λ q. length q ≡ length d2) (climb exact n 3 d2 q3) _ (climb_length exact n 3 d2 q3) (climb_is n 3 d2 q3 (omega arith)) (λ q2 e2.
    then_is (λ q. length q ≡ length d1) (climb exact n 2 d1 q2) _ (climb_length exact n 2 d1 q2) (climb_is n 2 d1 q2 (omega arith)) (λ q1 e1.
    climb_is n 1 σ q1 (omega arith))))))))

-- D5 of `one` is 0 in any case
fifth_of : (rs : List Rate) (σ : List Frac) → FifthZero rs σ → (o : Of) → Dk rs 5 (D0 σ) o ≡ naught
unfolding Dk derive
fifth_of rs σ h one = refl
fifth_of rs σ h (var x) = h x

pub shallow_zero : (rs : List Rate) → Shallow rs → (σ : List Frac) → FifthZero rs σ
shallow_zero rs shallow σ x = shallow_fifth rs (D0 σ) shallow (var x)

module _ (rs : List Rate) where
  flow_more : (σ τ υ : List Frac) (n m : ℕ) → FifthZero rs σ → flow exact rs σ (suc n) ≡ Some τ → flow exact rs τ (suc m) ≡ Some υ → flow exact rs σ (suc (n + suc m)) ≡ Some υ
  unfolding D0
  flow_more σ τ υ n m fifth e g =
      let f = D0 σ in
      let (ω, w) = some_of (flow exact rs σ (suc (n + suc m))) (flow_is rs σ n (n + suc m) (is_some _ e)) in
      let unit : flown rs f (suc n) one ≡ whole (pos 1) = unfold flown Dk derive in horner_still (whole (pos 1)) (suc n) in
      let r = subst (Holds (λ τ. Reads τ (λ x. flown rs f (suc n) (var x)))) e (flow_reads rs σ f refl (reads_self σ) n) in
      let s = subst (Holds (λ υ. Reads υ (λ x. flown rs (flown rs f (suc n)) (suc m) (var x)))) g (flow_reads rs τ (flown rs f (suc n)) unit r m) in
      let t = subst (Holds (λ ω. Reads ω (λ x. flown rs f (suc (n + suc m)) (var x)))) w (flow_reads rs σ f refl (reads_self σ) (n + suc m)) in
      let i : suc n + suc m ≡ suc (n + suc m) = omega arith in
      let l : length ω ≡ length υ = omega (arith, flow_length exact rs σ (suc n) τ e, flow_length exact rs τ (suc m) υ g, flow_length exact rs σ (suc (n + suc m)) ω w) in
      w ∙ ap Some (reads_same ω υ (λ x. flown rs f (suc (n + suc m)) (var x)) l t (λ x v k. s x v k ∙ flown_on rs f (fifth_of rs σ fifth) (suc n) (suc m) (var x) ∙ ap (λ (z : ℕ). flown rs f z (var x)) i))

  -- the flow law from D5 = 0 alone
  pub fifth_flows : (σ τ υ : List Frac) (n m : ℕ) → FifthZero rs σ → flow exact rs σ n ≡ Some τ → flow exact rs τ m ≡ Some υ → flow exact rs σ (n + m) ≡ Some υ
  fifth_flows σ τ υ zero m h e g = let k : σ ≡ τ = cc in rw (zero-add, k) g
  fifth_flows σ τ υ (suc n) zero h e g = let k : τ ≡ υ = cc in rw (add-zero, ← k) e
  fifth_flows σ τ υ (suc n) (suc m) h e g = let i : suc n + suc m ≡ suc (n + suc m) = omega arith in rw i (flow_more σ τ υ n m h e g)

  pub shallow_flows : Shallow rs → (w : ℕ) → Flows w rs
  shallow_flows shallow w σ τ υ n m h e g = fifth_flows σ τ υ n m (shallow_zero rs shallow σ) e g

pub shallow_smooth : (w : ℕ) (p : Prog) → Shallows p → Smooth w p
shallow_smooth w skip h = tt
shallow_smooth w (assign l x e) h = tt
shallow_smooth w (evolve l e r) h = shallow_flows r h w
shallow_smooth w (rest l d r) h = shallow_flows r h w
shallow_smooth w (branch l e a b) h = (shallow_smooth w a h.0, shallow_smooth w b h.1)
shallow_smooth w (repeat l e a) h = shallow_smooth w a h
shallow_smooth w (seq a b) h = (shallow_smooth w a h.0, shallow_smooth w b h.1)
