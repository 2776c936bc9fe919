-- Whether rates are shallow can be worked out.
use Rattle.std.proofs.Common.{◌≡◌, ℕ, zero, suc, Bool, true, false, cond, ◌||◌, eqb, List, [], ◌∷◌, sym, refl, ap, subst, eq-eqb, eqb-true}
use borrow.Author.Tests.{clash}
use Rattle.number.specs.Frac.{Frac}
use Rattle.motion.specs.Lines.{Part, Rate, Of, one, var}
use Rattle.motion.specs.Chains.{Has, has, has_behind, Names, names, names_behind, Walk, alone, onto, among, touch, touches, leading, starts, ShallowTold}

-- a walk starts at a name with a rate
pub walk_rated : {rs : List Rate} {k x : ℕ} → Walk rs k x → (ps : List Part) × Has x ps rs
walk_rated (alone {ps = ps} h) = (ps, h)
walk_rated (onto d w) = (d.parts, d.rated)

data In (x : ℕ) : List ℕ → Type 0 where
  in_first : {ys : List ℕ} → In x (x ∷ ys)
  in_behind : {y : ℕ} {ys : List ℕ} → In x ys → In x (y ∷ ys)

either : (a b : Bool) → b ≡ true → (a || b) ≡ true
either true b e = refl
either false b e = e

in_among : {x : ℕ} {ys : List ℕ} → In x ys → among x ys ≡ true
in_among {x} (in_first {ys = ys}) = ap (λ (b : Bool). b || among x ys) (eq-eqb x x refl)
in_among {x} (in_behind {y = y} {ys = ys} i) = either (eqb x y) (among x ys) (in_among i)

among_in : (x : ℕ) (ys : List ℕ) → among x ys ≡ true → In x ys
among_in x [] e = absurd (clash e)
among_in x (y ∷ ys) e = by (eqb x y) refl e (among_in x ys)
  where
    by : (b : Bool) → eqb x y ≡ b → (b || among x ys) ≡ true → (among x ys ≡ true → In x ys) → In x (y ∷ ys)
    by true i e ih = subst (λ (z : ℕ). In x (z ∷ ys)) (eqb-true x y i) in_first
    by false i e ih = in_behind (ih e)

-- From a walk to the names.
names_touch : {y : ℕ} {ps : List Part} (xs : List ℕ) → Names y ps → among y xs ≡ true → touches xs ps ≡ true
names_touch {y} xs (names {ps = ps}) e = ap (λ (b : Bool). b || touches xs ps) e
names_touch xs (names_behind {p = p} {ps = ps} n) e = either (touch xs p.of) (touches xs ps) (names_touch xs n e)

has_leads : {x : ℕ} {ps : List Part} {rs : List Rate} (xs : List ℕ) → Has x ps rs → touches xs ps ≡ true → In x (leading xs rs)
has_leads {x} xs (has {rs = rs}) e = subst (λ (b : Bool). In x (cond b (x ∷ leading xs rs) (leading xs rs))) (sym e) in_first
has_leads {x} xs (has_behind {r = r} {rs = rs} h) e = by (touches xs r.parts) (has_leads xs h e)
  where
    by : (b : Bool) → In x (leading xs rs) → In x (cond b (r.name ∷ leading xs rs) (leading xs rs))
    by true i = in_behind i
    by false i = i

has_named : {x : ℕ} {ps : List Part} {rs : List Rate} → Has x ps rs → In x (starts rs 0)
has_named has = in_first
has_named (has_behind h) = in_behind (has_named h)

walk_starts : {rs : List Rate} (k : ℕ) {x : ℕ} → Walk rs (suc k) x → In x (starts rs k)
walk_starts zero (alone h) = has_named h
walk_starts zero (onto d w) = elim w [ ]
walk_starts {rs} (suc k) (onto d w) = has_leads (starts rs k) d.rated (names_touch (starts rs k) d.named (in_among (walk_starts k w)))

-- And back.
named_has : {x : ℕ} (rs : List Rate) → In x (starts rs 0) → (ps : List Part) × Has x ps rs
named_has [] i = elim i [ ]
named_has (r ∷ rs) i = by r.name r.parts i (named_has rs)
  where
    by : {x : ℕ} (n : ℕ) (ps : List Part) → In x (n ∷ starts rs 0) → (In x (starts rs 0) → (qs : List Part) × Has x qs rs) → (qs : List Part) × Has x qs (record { name = n; parts = ps } ∷ rs)
    by n ps in_first ih = (ps, has)
    by n ps (in_behind i) ih = let (qs, h) = ih i in (qs, has_behind h)

touch_names : (xs : List ℕ) (ps : List Part) → touches xs ps ≡ true → (y : ℕ) × Names y ps × In y xs
touch_names xs [] e = absurd (clash e)
touch_names xs (p ∷ ps) e = by p.coefficient p.of (touch_names xs ps) e
  where
    behind : (p : Part) → (y : ℕ) × Names y ps × In y xs → (y : ℕ) × Names y (p ∷ ps) × In y xs
    behind p (y, n, i) = (y, names_behind n, i)

    by_var : (c : Frac) (y : ℕ) (b : Bool) → among y xs ≡ b → (touches xs ps ≡ true → (y : ℕ) × Names y ps × In y xs) → (b || touches xs ps) ≡ true → (z : ℕ) × Names z (record { coefficient = c; of = var y } ∷ ps) × In z xs
    by_var c y true a ih e = (y, names, among_in y xs a)
    by_var c y false a ih e = behind _ (ih e)

    by : (c : Frac) (o : Of) → (touches xs ps ≡ true → (y : ℕ) × Names y ps × In y xs) → (touch xs o || touches xs ps) ≡ true → (y : ℕ) × Names y (record { coefficient = c; of = o } ∷ ps) × In y xs
    by c one ih e = behind _ (ih e)
    by c (var y) ih e = by_var c y (among y xs) refl ih e

leads_has : {x : ℕ} (xs : List ℕ) (rs : List Rate) → In x (leading xs rs) → (ps : List Part) × Has x ps rs × (touches xs ps ≡ true)
leads_has xs [] i = elim i [ ]
leads_has xs (r ∷ rs) i = by r.name r.parts (touches xs r.parts) refl i (leads_has xs rs)
  where
    by : {x : ℕ} (n : ℕ) (qs : List Part) (b : Bool) → touches xs qs ≡ b → In x (cond b (n ∷ leading xs rs) (leading xs rs)) →
        (In x (leading xs rs) → (ps : List Part) × Has x ps rs × (touches xs ps ≡ true)) → (ps : List Part) × Has x ps (record { name = n; parts = qs } ∷ rs) × (touches xs ps ≡ true)
    by n qs true e in_first ih = (qs, has, e)
    by n qs true e (in_behind i) ih = let (ps, h, t) = ih i in (ps, has_behind h, t)
    by n qs false e i ih = let (ps, h, t) = ih i in (ps, has_behind h, t)

starts_walk : (rs : List Rate) (k x : ℕ) → In x (starts rs k) → Walk rs (suc k) x
starts_walk rs zero x i = alone (named_has rs i).1
starts_walk rs (suc k) x i =
    let (ps, h, t) = leads_has (starts rs k) rs i in
    let (y, n, j) = touch_names (starts rs k) ps t in
    let w = starts_walk rs k y j in
    let (qs, g) = walk_rated w in
    onto (record { parts = ps; rated = h; named = n; others = qs; other = g }) w

-- where one starts there is a walk
pub started : (rs : List Rate) (k x : ℕ) (xs : List ℕ) → starts rs k ≡ x ∷ xs → Walk rs (suc k) x
started rs k x xs e = starts_walk rs k x (subst (In x) (sym e) in_first)

no_start : (rs : List Rate) (k : ℕ) (xs : List ℕ) → starts rs k ≡ xs → ((x : ℕ) → Walk rs (suc k) x → ⊥) → xs ≡ []
no_start rs k [] e h = refl
no_start rs k (x ∷ xs) e h = absurd (h x (started rs k x xs e))

none_in : {x : ℕ} → In x [] → ⊥
none_in i = elim i [ ]

pub shallow_told : ShallowTold
shallow_told rs = ((λ h. no_start rs 4 (starts rs 4) refl h), λ e x w. none_in (subst (In x) e (walk_starts 4 w)))
