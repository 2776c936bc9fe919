-- The laws of what is taken up, and the round trip.
use Rattle.std.proofs.Common.{◌≡◌, ℕ, suc, ◌+◌, ◌⊎◌, List, [], ◌∷◌, ◌++◌, map, length, pos, Some, None, Ok, Err, Option, Result, sym, refl, ap, ◌∙◌, subst, ap₂, inl, inr, arith}
use lib.Signed.{le_z}
use Rattle.std.specs.List.{AllByRecursion}
use Rattle.std.proofs.lemmas.Bool.{cond-true, le-leb}
use Rattle.number.specs.declared.Pair.{Pair}
use Rattle.number.specs.Frac.{Frac}
use Rattle.number.specs.Kind.{Holds, held, taken}
use Rattle.number.proofs.Fracs.{den_pos}
use Rattle.number.proofs.Stand.{equality}
use Rattle.number.proofs.Tests.{none_some}
use Rattle.motion.specs.Machine as M
use Rattle.record.specs.Refusals.{Refusal, number_of}
use Rattle.record.specs.declared.Reason.TheVariants.{ValueNotHeld}
use Rattle.refusal.specs.Refusals.{refused}
use Rattle.handover.specs.Lines.{head_text, fields_by, fraction_text, meant_text, text_of, line_of}
use Rattle.handover.specs.Takes.{if_held, held_from, with_values, answered, taken_up, read_of}
use Rattle.handover.specs.Laws.{OfKind, Within, Small, Plain, Formed, FirstUnheld, here, later, no_form, value_unheld, Takes, RoundTrip}
use Rattle.handover.proofs.Rescanned.{terms_pair}
use Rattle.handover.proofs.Returned.{pairs_bench, read_back, read_from}

-- ---- answers apart
reason_in : Result (M.Bench Pair) Refusal → ℕ
reason_in (Ok b) = 0
reason_in (Err e) = number_of e.reason

field_in : Result (M.Bench Pair) Refusal → ℕ
field_in (Ok b) = 0
field_in (Err e) = e.field

ok_no_form : (b : M.Bench Pair) → ◌≡◌ {A = Result (M.Bench Pair) Refusal} (Ok b) no_form → ⊥
unfolding reason_in
ok_no_form b e = let z : ◌≡◌ {A = ℕ} 0 16 = ap reason_in e in omega arith

ok_unheld : (b : M.Bench Pair) (i : ℕ) → ◌≡◌ {A = Result (M.Bench Pair) Refusal} (Ok b) (value_unheld i) → ⊥
unfolding reason_in
ok_unheld b i e = let z : ◌≡◌ {A = ℕ} 0 17 = ap reason_in e in omega arith

no_form_unheld : (i : ℕ) → no_form ≡ value_unheld i → ⊥
unfolding reason_in
no_form_unheld i e = let z : ◌≡◌ {A = ℕ} 16 17 = ap reason_in e in omega arith

same_field : (i j : ℕ) → value_unheld i ≡ value_unheld j → i ≡ j
unfolding field_in
same_field i j e = let z : 6 + i ≡ 6 + j = ap field_in e in omega arith

ok_same : (a b : M.Bench Pair) → ◌≡◌ {A = Result (M.Bench Pair) Refusal} (Ok a) (Ok b) → a ≡ b
ok_same a b e = cc

module _ (means : Pair → Option Frac) (code : Frac → Option Pair) (laws : Holds means code) where
  -- ---- the values
  -- each fraction is held as the number at its place
  data Coded : List Frac → List Pair → Type 0 where
    none : Coded [] []
    more : {q : Frac} {p : Pair} {qs : List Frac} {ps : List Pair} → code q ≡ Some p → Coded qs ps → Coded (q ∷ qs) (p ∷ ps)

  -- all are held, or one is the first that is not
  split : (qs : List Frac) → ((ps : List Pair) × Coded qs ps) ⊎ ((i : ℕ) × FirstUnheld code qs i)
  split [] = inl ([], none)
  split (q ∷ qs) = by (code q) refl (split qs)
    where
      by : (o : Option Pair) → code q ≡ o → ((ps : List Pair) × Coded qs ps) ⊎ ((i : ℕ) × FirstUnheld code qs i) → ((ps : List Pair) × Coded (q ∷ qs) ps) ⊎ ((i : ℕ) × FirstUnheld code (q ∷ qs) i)
      by None e r = inr (0, here e)
      by (Some p) e (inl c) = inl (p ∷ c.0, more e c.1)
      by (Some p) e (inr u) = inr (suc u.0, later e u.1)

  taken_own : (q : Frac) → taken means code q.num (pos q.den) ≡ held (code q)
  taken_own q = cond-true (le_z (pos 1) (pos q.den)) _ _ (le-leb 1 q.den (den_pos q)) ∙ ap (λ x. held (code x)) (equality.own_terms q)

  coded_is : {qs : List Frac} {ps : List Pair} (k : ℕ) → Coded qs ps → held_from means code k (map terms_pair qs) ≡ Ok ps
  coded_is k none = refl
  coded_is {qs = q ∷ qs} {ps = p ∷ ps} k (more e c) = ap₂ (λ t r. if_held k t r) (taken_own q ∙ ap held e) (coded_is (k + 1) c)

  unheld_is : {qs : List Frac} {i : ℕ} (k : ℕ) → FirstUnheld code qs i → held_from means code k (map terms_pair qs) ≡ Err (refused ValueNotHeld 0 (k + i))
  unheld_is {qs = []} k u = elim u [ ]
  unheld_is {qs = q ∷ qs} k (here e) =
      ap (λ t. if_held k t (held_from means code (k + 1) (map terms_pair qs))) (taken_own q ∙ ap held e) ∙ ap (λ n. Err (refused ValueNotHeld 0 n)) (omega arith)
  unheld_is {qs = q ∷ qs} {i = suc i} k (later e u) =
      ap₂ (λ t r. if_held k t r) (taken_own q ∙ ap held e) (unheld_is (k + 1) u) ∙ ap (λ n. Err (refused ValueNotHeld 0 n)) (omega arith)

  -- what numbers of the kind mean is held as them
  meanings : (ps : List Pair) → AllByRecursion (OfKind means) ps → (qs : List Frac) × Coded qs ps × AllByRecursion Small qs
  meanings [] h = ([], none, tt)
  meanings (p ∷ ps) h =
      let q : Frac = h.0.0 in
      let e : code q ≡ Some p = laws.forth p q h.0.1 in
      let r = meanings ps h.1 in
      (q ∷ r.0, more e r.1, (laws.small q p e, r.2))

  coded_meant : {qs : List Frac} {ps : List Pair} → Coded qs ps → AllByRecursion (OfKind means) ps
  coded_meant none = tt
  coded_meant {qs = q ∷ qs} {ps = p ∷ ps} (more e c) = ((q, laws.back q p e), coded_meant c)

  coded_length : {qs : List Frac} {ps : List Pair} → Coded qs ps → length ps ≡ length qs
  coded_length none = refl
  coded_length (more e c) = ap suc (coded_length c)

  coded_fields : {qs : List Frac} {ps : List Pair} → Coded qs ps → fields_by (λ p. meant_text (means p)) ps ≡ fields_by fraction_text qs
  coded_fields none = refl
  coded_fields {qs = q ∷ qs} {ps = p ∷ ps} (more e c) = ap₂ (λ t bs. (44 ∷ t) ++ bs) (ap meant_text (laws.back q p e)) (coded_fields c)

  -- the bench with these values
  abbrev valued : {U V : Type 0} → M.Bench U → List V → M.Bench V
  valued b vs = record { line = b.line; left = b.left; total = b.total; over = b.over; values = vs }

  coded_line : (w : M.Bench Frac) (ps : List Pair) → Coded w.values ps → line_of means (valued w ps) ≡ text_of w
  coded_line w ps c = ap (λ bs. head_text w.line w.left w.total w.over ++ (bs ++ 10 ∷ [])) (coded_fields c)

  coded_within : {U V : Type 0} (w : M.Bench U) (vs : List V) → length vs ≡ length w.values → Within w → Within (valued w vs)
  coded_within w vs e i = record { line_least = i.line_least; line_most = i.line_most; left_most = i.left_most; total_most = i.total_most; over_most = i.over_most; few = omega (arith, e, i.few) }

  -- ---- what is taken up
  formed_read : (bytes : List ℕ) (f : Formed bytes) → read_of bytes ≡ Some (pairs_bench f.bench)
  formed_read bytes f = ap read_of (sym f.line) ∙ read_back f.bench f.plain

  formed_taken : (bytes : List ℕ) (f : Formed bytes) (r : Result (List Pair) Refusal) → held_from means code 6 (map terms_pair f.bench.values) ≡ r → taken_up means code bytes ≡ with_values (pairs_bench f.bench) r
  formed_taken bytes f r e = ap (answered means code) (formed_read bytes f) ∙ ap (with_values (pairs_bench f.bench)) e

  -- the three answers
  data View (bytes : List ℕ) : Type 0 where
    no_line : (Formed bytes → ⊥) → taken_up means code bytes ≡ no_form → View bytes
    not_all : (f : Formed bytes) (i : ℕ) → FirstUnheld code f.bench.values i → taken_up means code bytes ≡ value_unheld i → View bytes
    all_held : (f : Formed bytes) (ps : List Pair) → Coded f.bench.values ps → taken_up means code bytes ≡ Ok (valued f.bench ps) → View bytes

  view : (bytes : List ℕ) → View bytes
  view bytes = by (read_of bytes) refl
    where
      of : (f : Formed bytes) → ((ps : List Pair) × Coded f.bench.values ps) ⊎ ((i : ℕ) × FirstUnheld code f.bench.values i) → View bytes
      of f (inl c) = all_held f c.0 c.1 (formed_taken bytes f (Ok c.0) (coded_is 6 c.1))
      of f (inr u) = not_all f u.0 u.1 (formed_taken bytes f (Err (refused ValueNotHeld 0 (6 + u.0))) (unheld_is 6 u.1))

      by : (o : Option (M.Bench Pair)) → read_of bytes ≡ o → View bytes
      by None e = no_line (λ f. none_some (pairs_bench f.bench) (sym e ∙ formed_read bytes f)) (ap (answered means code) e)
      by (Some b) e = let f = (read_from bytes b e).0 in of f (split f.bench.values)

  written : (bytes : List ℕ) (b : M.Bench Pair) → Within b → AllByRecursion (OfKind means) b.values → line_of means b ≡ bytes → taken_up means code bytes ≡ Ok b
  written bytes b i h e =
      let m = meanings b.values h in
      let w : M.Bench Frac = valued b m.0 in
      let plain : Plain w = record { within = coded_within b m.0 (sym (coded_length m.1)) i; small = m.2 } in
      let f : Formed bytes = record { bench = w; plain = plain; line = sym (coded_line w b.values m.1) ∙ e } in
      formed_taken bytes f (Ok b.values) (coded_is 6 m.1)

  written_only : (bytes : List ℕ) → View bytes → (b : M.Bench Pair) → taken_up means code bytes ≡ Ok b → Within b × AllByRecursion (OfKind means) b.values × (line_of means b ≡ bytes)
  written_only bytes (no_line n r) b e = absurd (ok_no_form b (sym e ∙ r))
  written_only bytes (not_all f i u r) b e = absurd (ok_unheld b i (sym e ∙ r))
  written_only bytes (all_held f ps c r) b e =
      subst (λ (x : M.Bench Pair). Within x × AllByRecursion (OfKind means) x.values × (line_of means x ≡ bytes)) (ok_same (valued f.bench ps) b (sym r ∙ e))
      (coded_within f.bench ps (coded_length c) f.plain.within, coded_meant c, coded_line f.bench ps c ∙ f.line)

  no_form_only : (bytes : List ℕ) → View bytes → taken_up means code bytes ≡ no_form → Formed bytes → ⊥
  no_form_only bytes (no_line n r) e g = n g
  no_form_only bytes (not_all f i u r) e g = no_form_unheld i (sym e ∙ r)
  no_form_only bytes (all_held f ps c r) e g = ok_no_form (valued f.bench ps) (sym r ∙ e)

  not_formed : (bytes : List ℕ) → View bytes → (Formed bytes → ⊥) → taken_up means code bytes ≡ no_form
  not_formed bytes (no_line n r) m = r
  not_formed bytes (not_all f i u r) m = absurd (m f)
  not_formed bytes (all_held f ps c r) m = absurd (m f)

  not_held_only : (bytes : List ℕ) → View bytes → (i : ℕ) → taken_up means code bytes ≡ value_unheld i → (f : Formed bytes) × FirstUnheld code f.bench.values i
  not_held_only bytes (no_line n r) i e = absurd (no_form_unheld i (sym r ∙ e))
  not_held_only bytes (not_all f j u r) i e = (f, subst (FirstUnheld code f.bench.values) (same_field j i (sym r ∙ e)) u)
  not_held_only bytes (all_held f ps c r) i e = absurd (ok_unheld (valued f.bench ps) i (sym r ∙ e))

  no_other : (bytes : List ℕ) → View bytes → (taken_up means code bytes ≡ no_form) ⊎ (((i : ℕ) × (taken_up means code bytes ≡ value_unheld i)) ⊎ ((b : M.Bench Pair) × (taken_up means code bytes ≡ Ok b)))
  no_other bytes (no_line n r) = inl r
  no_other bytes (not_all f i u r) = inr (inl (i, r))
  no_other bytes (all_held f ps c r) = inr (inr (valued f.bench ps, r))

  pub takes : (bytes : List ℕ) → Takes means code bytes (taken_up means code bytes)
  takes bytes =
      let v = view bytes in
      record {
        not_formed = not_formed bytes v;
        no_form_only = no_form_only bytes v;
        not_held = λ f i u. formed_taken bytes f (Err (refused ValueNotHeld 0 (6 + i))) (unheld_is 6 u);
        not_held_only = not_held_only bytes v;
        written = written bytes;
        written_only = written_only bytes v;
        no_other = no_other bytes v;
      }

  pub round_trip : RoundTrip means code
  round_trip = record {
    there = λ b i h. written (line_of means b) b i h refl;
    back = λ bytes b e. (written_only bytes (view bytes) b e).2;
  }
