-- Walking over the lines: where a position stands, and what the next statement is.
use Rattle.std.proofs.Common.{◌≡◌, ℕ, zero, suc, ◌+◌, ◌<◌, ◌≤◌, ◌⊎◌, List, [], ◌∷◌, ◌++◌, map, length, get_or, drop, sym, refl, ap, ◌∙◌, subst, inl, inr, append_assoc, arith, length-append}
use lib.ListN.{length-map}
use Rattle.motion.specs.Lines.{Line, rate_line, end_line, Rate}
use Rattle.motion.specs.NextLine.{line_at, Open, open_after, opens, settle, next_from, past}
use Rattle.motion.specs.Program.{Prog, skip, Spells, none, assigns, evolves, branches, branches_else, repeats}
use Rattle.motion.specs.Remaining.{Statement, Here, plug, Behind, nothing, if_part, else_part, while_part, Stands, stands}

drop_more : (m : ℕ) (all : List Line) (l : Line) (ls : List Line) → drop m all ≡ l ∷ ls → drop (suc m) all ≡ ls
drop_more zero [] l ls e = cc
drop_more zero (x ∷ xs) l ls e = cc
drop_more (suc m) [] l ls e = cc
drop_more (suc m) (x ∷ xs) l ls e = drop_more m xs l ls e

pub no_line : {X : Type 0} {l : Line} {ls : List Line} → [] ≡ l ∷ ls → X
no_line e = let z : ◌≡◌ {A = ℕ} 0 1 = cc in let no : ⊥ = omega arith in absurd no

pub opens_more : (st : List Open) (k m n : ℕ) (all : List Line) (l : Line) (ls : List Line) → n ≡ k + m → drop m all ≡ l ∷ ls
    → opens st k (suc m) all ≡ open_after (opens st k m all) n l
opens_more st k zero n [] l ls i e = no_line e
opens_more st k zero n (x ∷ xs) l ls i e = let j : k ≡ n = omega arith in cc
opens_more st k (suc m) n [] l ls i e = no_line e
opens_more st k (suc m) n (x ∷ xs) l ls i e = opens_more (open_after st k x) (suc k) m n xs l ls (omega arith) e

abbrev pub first : List Line → Line
first [] = end_line
first (l ∷ ls) = l

line_first : (m : ℕ) (all ls : List Line) → drop m all ≡ ls → get_or all m end_line ≡ first ls
line_first zero [] ls e = ap first e
line_first zero (x ∷ xs) ls e = ap first e
line_first (suc m) [] ls e = ap first e
line_first (suc m) (x ∷ xs) ls e = line_first m xs ls e

module _ {all : List Line} where
  pub step : {n : ℕ} {st : List Open} {l : Line} {ls : List Line} → Here all n st (l ∷ ls) → Here all (suc n) (open_after st n l) ls
  step {n} {st} {l} {ls} h = record {
    before = suc h.before;
    number = ap suc h.number;
    blocks = opens_more [] 1 h.before n all l ls (omega arith) h.lines ∙ ap (λ (s : List Open). open_after s n l) h.blocks;
    lines = drop_more h.before all l ls h.lines;
  }

  pub line_here : {n : ℕ} {st : List Open} {ls : List Line} → Here all n st ls → line_at all n ≡ first ls
  line_here {ls} h = rw h.number (line_first h.before all ls h.lines)

  pub next_here : {n : ℕ} {st : List Open} {ls : List Line} → Here all n st ls → next_from all n ≡ settle 0 st n ls
  next_here h = rw (h.number, h.blocks, h.lines)

  pub past_here : {n : ℕ} {st : List Open} {ls : List Line} → Here all (suc n) st ls → past all n ≡ settle 1 st (suc n) ls
  past_here {n} h = let e : n ≡ h.before = omega arith in rw (e, h.blocks, h.lines)

  -- over whole statements: the same blocks are open behind them
  pub over_rates : {n m : ℕ} {st : List Open} (rs : List Rate) {ls : List Line} → Here all n st (map rate_line rs ++ ls) → m ≡ n + length rs → Here all m st ls
  over_rates {n} {m} [] {ls} h i = let j : n ≡ m = omega arith in rw j at h
  over_rates (r ∷ rs) h i = over_rates rs (step h) (omega arith)

  pub over : {i n m : ℕ} {st : List Open} {xs tl : List Line} {a : Prog} → Spells i xs a → Here all n st (xs ++ tl) → n ≡ i → m ≡ i + length xs → Here all m st tl
  over {n} {m} none h i j = let k : n ≡ m = omega arith in rw k at h
  over (assigns s) h i j = over s (step h) (omega arith) (omega arith)
  over (evolves rs s) h i j = over s (over_rates rs (rw append_assoc at (step h)) refl) (omega arith) (omega (arith, simp (length-append, length-map) at j))
  over (branches s t) h i j = over t (step (over s (rw append_assoc at (step h)) (omega arith) refl)) (omega arith) (omega (arith, simp length-append at j))
  over (branches_else s u t) h i j =
      let k = over s (rw append_assoc at (step h)) (omega arith) refl in
      over t (step (over u (rw append_assoc at (step k)) (omega arith) refl)) (omega arith) (omega (arith, simp length-append at j))
  over (repeats s t) h i j = over t (step (over s (rw append_assoc at (step h)) (omega arith) refl)) (omega arith) (omega (arith, simp length-append at j))

-- the same for the walk to the next statement
pub skip_rates : (rs : List Rate) (k n : ℕ) (st : List Open) (ls : List Line) {m : ℕ} → m ≡ n + length rs → settle k st n (map rate_line rs ++ ls) ≡ settle k st m ls
skip_rates [] k n st ls {m} i = let j : n ≡ m = omega arith in rw j
skip_rates (r ∷ rs) zero n st ls i = skip_rates rs zero (suc n) st ls (omega arith)
skip_rates (r ∷ rs) (suc k) n st ls i = skip_rates rs (suc k) (suc n) st ls (omega arith)

pub skip_over : {i : ℕ} {xs : List Line} {a : Prog} → Spells i xs a → (k n : ℕ) (st : List Open) (tl : List Line) {m : ℕ} → m ≡ n + length xs
    → settle (suc k) st n (xs ++ tl) ≡ settle (suc k) st m tl
skip_over none k n st tl {m} i = let j : n ≡ m = omega arith in rw j
skip_over (assigns s) k n st tl i = skip_over s k (suc n) st tl (omega arith)
skip_over (evolves rs s) k n st tl i = rw append_assoc (skip_rates rs _ _ _ _ refl ∙ skip_over s _ _ _ _ (omega (arith, simp (length-append, length-map) at i)))
skip_over (branches s t) k n st tl i = rw append_assoc (skip_over s _ _ _ _ refl ∙ skip_over t _ _ _ _ (omega (arith, simp length-append at i)))
skip_over (branches_else s u t) k n st tl i = rw append_assoc (skip_over s _ _ _ _ refl ∙ rw append_assoc (skip_over u _ _ _ _ refl ∙ skip_over t _ _ _ _ (omega (arith, simp length-append at i))))
skip_over (repeats s t) k n st tl i = rw append_assoc (skip_over s _ _ _ _ refl ∙ skip_over t _ _ _ _ (omega (arith, simp length-append at i)))

-- the walk to the next statement ends at one, or past the last line, and leaves what is to be done as it is
abbrev pub Ready : List Line → ℕ → Prog → Type 0
Ready all n p = Stands all n p × (Statement (line_at all n) ⊎ (length all < n))

drop_all : (m : ℕ) (all : List Line) → drop m all ≡ [] → length all ≤ m
drop_all zero [] e = omega arith
drop_all zero (x ∷ xs) e = no_line (sym e)
drop_all (suc m) [] e = omega arith
drop_all (suc m) (x ∷ xs) e = let h = drop_all m xs e in omega arith

module _ {all : List Line} where
  ready : {st : List Open} {n m : ℕ} {xs tl : List Line} {a : Prog} {qs : List Prog}
      → Here all n st (xs ++ tl) → Spells n xs a → m ≡ n + length xs → Behind all st m tl qs → Statement (first (xs ++ tl)) → Ready all n (plug qs a)
  ready h s i b t = (stands h s i b, inl (subst Statement (sym (line_here h)) t))

  at_statement : {st : List Open} {n m : ℕ} {xs tl : List Line} {a : Prog} {qs : List Prog}
      → Here all n st (xs ++ tl) → Spells n xs a → m ≡ n + length xs → Behind all st m tl qs
      → (Here all m st tl → Ready all (settle 0 st m tl) (plug qs skip)) → Ready all (settle 0 st n (xs ++ tl)) (plug qs a)
  at_statement {n} {m} h none i b f = let j : n ≡ m = omega arith in rw j (f (rw j at h))
  at_statement h (assigns s) i b f = ready h (assigns s) i b tt
  at_statement h (evolves rs s) i b f = ready h (evolves rs s) i b tt
  at_statement h (branches s t) i b f = ready h (branches s t) i b tt
  at_statement h (branches_else s u t) i b f = ready h (branches_else s u t) i b tt
  at_statement h (repeats s t) i b f = ready h (repeats s t) i b tt

  leave : {st : List Open} {n : ℕ} {tl : List Line} {qs : List Prog} → Behind all st n tl qs → Here all n st tl → Ready all (settle 0 st n tl) (plug qs skip)
  leave nothing h = (stands h none refl nothing, inr (let l = drop_all h.before all h.lines in omega arith))
  leave (if_part s i b) h = at_statement (step h) s (omega arith) b (leave b)
  leave (else_part {n} {m} {ys} s i b) h = rw (skip_over s 0 (suc n) _ _ {m = m} (omega arith)) (leave b (over s (step h) refl (omega arith)))
  leave (while_part w s t i j b) h = ready w (repeats s t) (simp length-append (omega arith)) b tt

  pub settled : {st : List Open} {n m : ℕ} {xs tl : List Line} {a : Prog} {qs : List Prog}
      → Here all n st (xs ++ tl) → Spells n xs a → m ≡ n + length xs → Behind all st m tl qs → Ready all (settle 0 st n (xs ++ tl)) (plug qs a)
  settled h s i b = at_statement h s i b (leave b)

  pub next_ready : {n : ℕ} {p : Prog} → Stands all n p → Ready all (next_from all n) p
  next_ready (stands h s i b) = rw (next_here h) (settled h s i b)
