-- The var lines that stand first in a script, and their values. Assumes nothing.
use Rattle.std.proofs.Common.{◌≡◌, ℕ, zero, suc, ◌+◌, ◌-◌, ◌≤◌, Bool, true, false, cond, List, [], ◌∷◌, map, length, take, drop, pos, Some, None, Err, Option, sym, refl, ap, ◌∙◌, subst, arith}
use lib.Signed.{le_z}
use Rattle.std.specs.List.{AllByRecursion}
use Rattle.std.proofs.lemmas.List.{length-map, length-take-le}
use Rattle.script.specs.declared.words.LineWord.{LineWord}
use Rattle.script.specs.declared.words.LineWord.TheVariants as w
use Rattle.script.specs.declared.tokens.Token.{Token}
use Rattle.script.specs.declared.tokens.Token.TheVariants as token
use Rattle.script.specs.declared.numbers.Number.{Number}
use Rattle.script.specs.declared.reading.Entry.{Entry}
use Rattle.number.specs.declared.Kind.{Ghosts}
use Rattle.number.specs.declared.Pair.{Pair}
use Rattle.number.specs.declared.Fault.TheVariants.{NotHeld}
use Rattle.number.specs.Frac.{Frac, norm, whole}
use Rattle.number.specs.Kind.{Holds, held}
use Rattle.motion.specs.Lines.{Line, var_line, set_line, run_line, rate_line, if_line, else_line, while_line, end_line}
use Rattle.motion.specs.NextLine.{first_line, declared}
use Rattle.motion.specs.Carriers.{Each, nil, cons}
use Rattle.motion.specs.Pairs.{Meant}
use Rattle.entries.specs.declared.rows.Row.{Row}
use Rattle.entries.specs.Fields.{not_held, is_err}
use Rattle.entries.specs.Decoding.{frac_of_number, coefficient_of, value_of, part, line_by, row_line, rows_lines}
use Rattle.checker.specs.declared.scripts.Checked.{Checked}
use Rattle.checker.specs.Scripts.{table_in, places_in, rows_in, lines_in, Sound}
use Rattle.checker.proofs.LaidOver.{laid}
use Rattle.bench.specs.Built.{or_nothing, held_pair, first_values, value_in}

-- the first line that is not var comes behind the declared values
pub first_behind : (n : ℕ) (ls : List Line) → first_line n ls ≡ n + length (declared ls)
first_behind n [] = omega arith
first_behind n (var_line x ∷ ls) = first_behind (suc n) ls ∙ omega arith
first_behind n (set_line x y ∷ ls) = omega arith
first_behind n (run_line x ∷ ls) = omega arith
first_behind n (rate_line x ∷ ls) = omega arith
first_behind n (if_line x ∷ ls) = omega arith
first_behind n (else_line ∷ ls) = omega arith
first_behind n (while_line x ∷ ls) = omega arith
first_behind n (end_line ∷ ls) = omega arith

-- there are no more declared values than lines
pub declared_few : (ls : List Line) → length (declared ls) ≤ length ls
declared_few [] = omega arith
declared_few (var_line x ∷ ls) = omega (arith, declared_few ls)
declared_few (set_line x y ∷ ls) = omega arith
declared_few (run_line x ∷ ls) = omega arith
declared_few (rate_line x ∷ ls) = omega arith
declared_few (if_line x ∷ ls) = omega arith
declared_few (else_line ∷ ls) = omega arith
declared_few (while_line x ∷ ls) = omega arith
declared_few (end_line ∷ ls) = omega arith

module _ (es : List Entry) (xs : List (Option ℕ)) where
  -- the declared values are those of the rows that stand first
  pub declared_rows : (rows : List Row) → declared (rows_lines es xs rows) ≡ map (λ (r : Row). value_of (part r.from r.to es)) (take (length (declared (rows_lines es xs rows))) rows)
  declared_rows [] = refl
  declared_rows (r ∷ rows) = by r.word (declared_rows rows)
    where
      by : (v : LineWord) → declared (rows_lines es xs rows) ≡ map (λ (q : Row). value_of (part q.from q.to es)) (take (length (declared (rows_lines es xs rows))) rows) →
          let l = line_by v r.name (part r.from r.to es) (part r.from r.to xs) in
          declared (l ∷ rows_lines es xs rows) ≡ map (λ (q : Row). value_of (part q.from q.to es)) (take (length (declared (l ∷ rows_lines es xs rows))) (r ∷ rows))
      by w.Var h = ap (λ (vs : List Frac). value_of (part r.from r.to es) ∷ vs) h
      by w.Set h = refl
      by w.Run h = refl
      by w.Rate h = refl
      by w.If h = refl
      by w.Else h = refl
      by w.While h = refl
      by w.End h = refl

map_map : {A B C : Type 0} (f : B → C) (g : A → B) (xs : List A) → map f (map g xs) ≡ map (λ (x : A). f (g x)) xs
map_map f g [] = refl
map_map f g (x ∷ xs) = ap (λ l. f (g x) ∷ l) (map_map f g xs)

-- the first values are those of the rows that stand first
pub first_of_rows : (code : Frac → Option Pair) (es : List Entry) (xs : List (Option ℕ)) (rows : List Row) (n : ℕ) → n ≡ length (declared (rows_lines es xs rows)) →
    map (value_in code es) (take n rows) ≡ first_values code (rows_lines es xs rows)
first_of_rows code es xs rows n e =
    ap (λ (k : ℕ). map (value_in code es) (take k rows)) e
    ∙ sym (map_map (held_pair code) (λ (r : Row). value_of (part r.from r.to es)) (take (length (declared (rows_lines es xs rows))) rows))
    ∙ ap (map (held_pair code)) (sym (declared_rows es xs rows))

-- parts of a list of which each holds
all_drop : {X : Type 0} (P : X → Type 0) (n : ℕ) (xs : List X) → AllByRecursion P xs → AllByRecursion P (drop n xs)
all_drop P zero xs h = h
all_drop P (suc n) [] h = h
all_drop P (suc n) (x ∷ xs) h = all_drop P n xs h.1

all_take : {X : Type 0} (P : X → Type 0) (n : ℕ) (xs : List X) → AllByRecursion P xs → AllByRecursion P (take n xs)
all_take P zero xs h = tt
all_take P (suc n) [] h = h
all_take P (suc n) (x ∷ xs) h = (h.0, all_take P n xs h.1)

module _ (means : Pair → Option Frac) (code : Frac → Option Pair) (laws : Holds means code) where
  abbrev Held : Frac → Type 0
  Held q = Meant means q (held_pair code q)

  some_held : (q : Frac) (o : Option Pair) → code q ≡ o → ((p : Pair) × (o ≡ Some p)) → Held q
  some_held q (Some p) e h = subst (λ (o : Option Pair). means (or_nothing o) ≡ Some q) (sym e) (laws.back q p e)
  some_held q None e h = let k = h.1 in let z : ◌≡◌ {A = ℕ} 0 1 = cc in absurd (omega arith)

  naught_held : Held (norm (pos 0) 1)
  unfolding whole
  naught_held = let k = laws.wholes (pos 0) (omega arith) in some_held (norm (pos 0) 1) (code (norm (pos 0) 1)) refl k

  number_held : (n : Number) → not_held means code (token.Number n) ≡ false → Held (frac_of_number n)
  number_held n h = by (le_z (pos 1) (pos n.bottom)) (code (frac_of_number n)) refl h
    where
      by : (b : Bool) (o : Option Pair) → code (frac_of_number n) ≡ o → is_err (cond b (held o) (Err NotHeld)) ≡ false → Held (frac_of_number n)
      by true (Some p) e k = some_held (frac_of_number n) (Some p) e (p, refl)
      by true None e k = let z : ◌≡◌ {A = ℕ} 0 1 = cc in absurd (omega arith)
      by false o e k = let z : ◌≡◌ {A = ℕ} 0 1 = cc in absurd (omega arith)

  token_held : (t : Token) → not_held means code t ≡ false → Held (coefficient_of t)
  token_held (token.Word v) h = naught_held
  token_held token.Name h = naught_held
  token_held (token.Number n) h = number_held n h
  token_held token.Other h = naught_held

  value_held : (es : List Entry) → AllByRecursion (λ e. not_held means code e.token ≡ false) es → Held (value_of es)
  value_held [] h = naught_held
  value_held (e ∷ es) h = token_held e.token h.0

  each_held : (qs : List Frac) → AllByRecursion Held qs → Each (Meant means) qs (map (held_pair code) qs)
  each_held [] h = nil
  each_held (q ∷ qs) h = cons h.0 (each_held qs h.1)

  module _ (es : List Entry) (xs : List (Option ℕ)) (numbers : AllByRecursion (λ e. not_held means code e.token ≡ false) es) where
    declared_held : (rows : List Row) → AllByRecursion Held (declared (rows_lines es xs rows))
    declared_held [] = tt
    declared_held (r ∷ rows) = by r.word (declared_held rows)
      where
        by : (v : LineWord) → AllByRecursion Held (declared (rows_lines es xs rows)) → AllByRecursion Held (declared (line_by v r.name (part r.from r.to es) (part r.from r.to xs) ∷ rows_lines es xs rows))
        by w.Var h = (value_held (part r.from r.to es) (all_take _ (r.to - r.from) (drop r.from es) (all_drop _ r.from es numbers)), h)
        by w.Set h = tt
        by w.Run h = tt
        by w.Rate h = tt
        by w.If h = tt
        by w.Else h = tt
        by w.While h = tt
        by w.End h = tt

    -- the kind holds the first values
    pub first_held : (rows : List Row) → Each (Meant means) (declared (rows_lines es xs rows)) (first_values code (rows_lines es xs rows))
    first_held rows = each_held (declared (rows_lines es xs rows)) (declared_held rows)

-- of a script that passed
module _ {X : Type 0} {K : Ghosts X} (s : Checked X K) (means : Pair → Option Frac) (code : Frac → Option Pair) (h : Sound s means code) where
  -- its variables are the declared values
  pub variables_declared : s.plan.past.declared ≡ length (declared (lines_in s))
  variables_declared = h.found.variables ∙ sym (ap (λ (ls : List Line). length (declared ls)) h.good.rows)

  -- its first line that is not var
  pub first_there : first_line 1 (lines_in s) ≡ 1 + s.plan.past.declared
  first_there = first_behind 1 (lines_in s) ∙ ap (λ (n : ℕ). 1 + n) (sym variables_declared)

  -- a new bench, made of the rows of its variables
  pub new_there : (rows : List Row) (ps : List Pair) → rows ≡ take s.plan.past.declared (rows_in s) → take (length rows) ps ≡ map (value_in code (table_in s)) rows →
      (take (length rows) ps ≡ first_values code (lines_in s)) × (length rows + 1 ≡ first_line 1 (lines_in s))
  new_there rows ps e p =
      let n : length rows ≡ s.plan.past.declared = ap length e ∙ length-take-le s.plan.past.declared (rows_in s) enough in
      (p ∙ ap (map (value_in code (table_in s))) e ∙ first_of_rows code (table_in s) (places_in s) (rows_in s) s.plan.past.declared variables_declared, omega (arith, n, first_there))
    where
      enough : s.plan.past.declared ≤ length (rows_in s)
      enough = omega (arith, variables_declared, declared_few (lines_in s), length-map (rows_in s) (row_line (table_in s) (places_in s)))

  pub values_held : Holds means code → Each (Meant means) (declared (lines_in s)) (first_values code (lines_in s))
  values_held laws = first_held means code laws (table_in s) (places_in s) h.found.numbers (rows_in s)

  -- it has at most 256 lines and 16 variables
  pub lines_few : length (lines_in s) ≤ 256
  lines_few = omega (arith, length-map (rows_in s) (row_line (table_in s) (places_in s)), (laid s means code h).few)

  pub values_few : length (declared (lines_in s)) ≤ 16
  values_few = let k = h.found.few_variables in omega (arith, variables_declared)
