-- What follows from a check that is passed. Assumes nothing.
use Rattle.std.proofs.Common.{◌≡◌, ℕ, ◌+◌, ◌<◌, ◌≤◌, Bool, true, false, cond, not, ◌||◌, eqb, ltb, leb, List, [], ◌∷◌, ◌++◌, length, take, Some, None, Ok, Err, Option, Result, sym, refl, ap, ◌∙◌, subst, append_assoc, append-nil, arith, length-set}
use Rattle.std.specs.List.{AllByRecursion}
use Rattle.std.proofs.lemmas.List.{take_more_set}
use Rattle.std.proofs.lemmas.Bool.{or_parts, not-false}
use Rattle.std.proofs.lemmas.Bool.Decides.{nat_tests}
use Rattle.script.specs.declared.words.LineWord.{LineWord}
use Rattle.script.specs.declared.words.LineWord.TheVariants as w
use Rattle.script.specs.declared.places.Place.{Place}
use Rattle.script.specs.declared.reading.Entry.{Entry}
use Rattle.script.specs.Checks.{and_then}
use Rattle.script.specs.Places.{places}
use Rattle.script.specs.Reading.{entries}
use Rattle.number.specs.declared.Pair.{Pair}
use Rattle.number.specs.Frac.{Frac}
use Rattle.motion.specs.Lines.{Line, run_line, Item, Rate}
use Rattle.motion.specs.Chains.{Shallow, starts}
use Rattle.motion.specs.NextLine.{rates}
use Rattle.motion.proofs.Chains.{shallow_told}
use Rattle.checker.specs.declared.refusals.Reason.{Reason}
use Rattle.checker.specs.declared.refusals.Reason.TheVariants.{NameNotDeclared, NumberNotHeld, Items, Blocks, Chains}
use Rattle.checker.specs.Refusals.{Refusal}
use Rattle.checker.specs.declared.lines.Past.{Past}
use Rattle.refusal.specs.Refusals.{refused}
use Rattle.entries.specs.Fields.{unheld, first_word, head_of, second_place}
use Rattle.checker.specs.Conditions.{refused_at, refused_if, var_misplaced, variable, with_name, with_other, declare, after_var, first_unknown, rate_misplaced, rate_on, after_rate, innermost, after_block, items_wrong, line_by, line_check, lines_check, declared_names}
use Rattle.entries.specs.Decoding.{var_name, names_of}
use Rattle.checker.specs.Chains.{is_empty, is_deep, deep_first, chains_check}
use Rattle.entries.specs.Tables.{same_table}
use Rattle.checker.specs.Checking.{other_table, open_check}
use Rattle.checker.specs.Laws.{LinePasses, ShallowRuns, none, more}
use Rattle.entries.proofs.Owned.{table_own, same_code}

-- a word is var, or it is not
pub data Told (v : LineWord) : Type 0 where
  it_is : v ≡ w.Var → Told v
  it_is_not : (v ≡ w.Var → ⊥) → Told v

pub told : (v : LineWord) → Told v
told w.Var = it_is refl
told v = it_is_not (λ e. cc)

pub other_word : (text : List ℕ) (p : Past) (v : LineWord) (n : ℕ) (at : Place) → (v ≡ w.Var → ⊥) → after_var text p v n at ≡ Ok (with_other p)
other_word text p w.Var n at nv = absurd (nv refl)
other_word text p v n at nv = refl

-- an answer that goes on
pub then_ok : {A B : Type 0} (r : Result A Refusal) (f : A → Result B Refusal) (b : B) → and_then r f ≡ Ok b → (a : A) × (r ≡ Ok a) × (f a ≡ Ok b)
then_ok (Ok a) f b e = (a, refl, e)
then_ok (Err x) f b e = cc

at_none : (o : Option ℕ) (reason : Reason) (n : ℕ) → refused_at o reason n ≡ Ok tt → o ≡ None
at_none None reason n e = refl
at_none (Some k) reason n e = cc

if_false : (b : Bool) (reason : Reason) (n k : ℕ) → refused_if b reason n k ≡ Ok tt → b ≡ false
if_false false reason n k e = refl
if_false true reason n k e = cc

pub passes_by : {A : Type 0} (b : Bool) (x : Refusal) (r q : A) → ◌≡◌ {A = Result A Refusal} (cond b (Err x) (Ok r)) (Ok q) → (b ≡ false) × (r ≡ q)
passes_by false x r q e = (refl, cc)
passes_by true x r q e = cc

-- a line passes exactly where it meets no condition
module _ (means : Pair → Option Frac) (code : Frac → Option Pair) (text : List ℕ) (p : Past) (w : LineWord) (n : ℕ) (line : List Entry) where
  pub line_passes : (s : Past) → line_by means code text p w n line ≡ Ok s → LinePasses means code text p w n line s
  line_passes s e =
      let a = then_ok (after_var text p w n (second_place line)) _ s e in
      let b = then_ok (refused_at (first_unknown text a.0 w line) NameNotDeclared n) _ s a.2 in
      let c = then_ok (refused_at (unheld means code line) NumberNotHeld n) _ s b.2 in
      let d = then_ok (after_rate a.0 w n (variable text a.0 (second_place line))) _ s c.2 in
      let f = then_ok (after_block d.0 w n) _ s d.2 in
      let g = then_ok (refused_if (items_wrong w line) Items n 0) _ s f.2 in
      let h : f.0 ≡ s = let k = g.2 in cc in
      record {
        named = a.0;
        rated = d.0;
        var_in_place = a.1;
        declared = at_none _ _ _ b.1;
        held = at_none _ _ _ c.1;
        rate_in_place = d.1;
        nested = f.1 ∙ ap Ok h;
        items = if_false _ _ _ _ g.1;
      }

  pub passes_line : (s : Past) → LinePasses means code text p w n line s → line_by means code text p w n line ≡ Ok s
  passes_line s h =
      let a : after_var text p w n (second_place line) ≡ Ok h.named = h.var_in_place in
      let b : first_unknown text h.named w line ≡ None = h.declared in
      let c : unheld means code line ≡ None = h.held in
      let d : after_rate h.named w n (variable text h.named (second_place line)) ≡ Ok h.rated = h.rate_in_place in
      let f : after_block h.rated w n ≡ Ok s = h.nested in
      let g : items_wrong w line ≡ false = h.items in
      rw (a, b, c, d, f, g)

-- the names behind a line
abbrev NamesKept : Past → Past → Type 0
NamesKept p q = (q.declared ≡ p.declared) × (q.names ≡ p.names)

module _ (p : Past) (n : ℕ) where
  rate_keeps : (x : Option ℕ) (q : Past) → rate_on p n x ≡ Ok q → NamesKept p q
  rate_keeps None q e = cc
  rate_keeps (Some x) q e = let f = (passes_by (rate_misplaced p x) _ _ q e).1 in (ap (λ (z : Past). z.declared) (sym f), ap (λ (z : Past). z.names) (sym f))

  ok_keeps : (r q : Past) → NamesKept p r → ◌≡◌ {A = Result Past Refusal} (Ok r) (Ok q) → NamesKept p q
  ok_keeps r q k e = let f : r ≡ q = cc in subst (NamesKept p) f k

  pub after_rate_keeps : (w : LineWord) (x : Option ℕ) (q : Past) → after_rate p w n x ≡ Ok q → NamesKept p q
  after_rate_keeps w.Rate x q e = rate_keeps x q e
  after_rate_keeps v x q e = ok_keeps _ q (refl, refl) e

  cond_keeps : (b : Bool) (x : Refusal) (r q : Past) → NamesKept p r → ◌≡◌ {A = Result Past Refusal} (cond b (Err x) (Ok r)) (Ok q) → NamesKept p q
  cond_keeps b x r q k e = subst (NamesKept p) (passes_by b x r q e).1 k

  pub after_block_keeps : (w : LineWord) (q : Past) → after_block p w n ≡ Ok q → NamesKept p q
  after_block_keeps w.If q e = cond_keeps _ _ _ q (refl, refl) e
  after_block_keeps w.While q e = cond_keeps _ _ _ q (refl, refl) e
  after_block_keeps w.Else q e = cond_keeps _ _ _ q (refl, refl) e
  after_block_keeps w.End q e = cond_keeps _ _ _ q (refl, refl) e
  after_block_keeps v q e = ok_keeps _ q (refl, refl) e

-- runs, one after the other
deep_not : (rs : List Rate) → is_deep rs ≡ false → Shallow rs
deep_not rs e = (shallow_told rs).1 (empty (starts rs 4) e)
  where
    empty : (xs : List ℕ) → not (is_empty xs) ≡ false → xs ≡ []
    empty [] e = refl
    empty (x ∷ xs) e = cc

run_shallow : (l : Line) (ls : List Line) → deep_first (l ∷ ls) ≡ false → (e : List Item) → l ≡ run_line e → Shallow (rates ls)
run_shallow l ls h e q = deep_not (rates ls) (sym (ap (λ (v : Line). deep_first (v ∷ ls)) q) ∙ h)

pub runs_shallow : (n : ℕ) (ls : List Line) → chains_check n ls ≡ Ok tt → ShallowRuns ls
runs_shallow n [] e = none
runs_shallow n (l ∷ ls) e = by (deep_first (l ∷ ls)) refl e (runs_shallow (n + 1) ls)
  where
    by : (b : Bool) → deep_first (l ∷ ls) ≡ b → cond b (Err (refused Chains n 0)) (chains_check (n + 1) ls) ≡ Ok tt → (chains_check (n + 1) ls ≡ Ok tt → ShallowRuns ls) → ShallowRuns (l ∷ ls)
    by true p q go = cc
    by false p q go = more (run_shallow l ls p) (go q)

-- the names that are known, with room for 16
abbrev Room : Past → Type 0
Room p = length p.names ≡ 16

kept_names : (p q : Past) → NamesKept p q → declared_names q ≡ declared_names p
kept_names p q k = ap (λ (n : ℕ). take n q.names) k.0 ∙ ap (take p.declared) k.1

kept_room : (p q : Past) → NamesKept p q → Room p → Room q
kept_room p q k r = ap length k.1 ∙ r

few_told : (a b c : Bool) (d : ℕ) → b ≡ leb 16 d → (a || (b || c)) ≡ false → d < 16
few_told a b c d e h = grind (arith, nat_tests)

var_names : (text : List ℕ) (p : Past) (n : ℕ) (at : Place) (q : Past) → Room p → declare text p n at ≡ Ok q → Room q × (declared_names q ≡ declared_names p ++ at ∷ [])
var_names text p n at q r e =
    let f = passes_by (var_misplaced text p at) _ _ q e in
    let few : p.declared < 16 = few_told p.others (leb 16 p.declared) _ p.declared refl f.0 in
    let g : with_name p at ≡ q = f.1 in (
      sym (ap (λ (z : Past). length z.names) g) ∙ (simp length-set r),
      sym (ap declared_names g) ∙ take_more_set p.names p.declared at (omega arith),
    )

other_names : (p q : Past) → Room p → ◌≡◌ {A = Result Past Refusal} (Ok (with_other p)) (Ok q) → Room q × (declared_names q ≡ declared_names p ++ [])
other_names p q r e =
    let f : with_other p ≡ q = cc in
    (sym (ap (λ (z : Past). length z.names) f) ∙ r, sym (ap declared_names f) ∙ sym (append-nil (declared_names p)))

after_var_names : (text : List ℕ) (p : Past) (w : LineWord) (n : ℕ) (at : Place) (q : Past) → Room p → after_var text p w n at ≡ Ok q → Room q × (declared_names q ≡ declared_names p ++ var_name w at)
after_var_names text p w.Var n at q r e = var_names text p n at q r e
after_var_names text p v n at q r e = other_names p q r e

-- at most 16 names are declared
kept_few : (p q : Past) → NamesKept p q → p.declared ≤ 16 → q.declared ≤ 16
kept_few p q k h = let e = k.0 in omega arith

var_few : (text : List ℕ) (p : Past) (n : ℕ) (at : Place) (q : Past) → declare text p n at ≡ Ok q → q.declared ≤ 16
var_few text p n at q e =
    let f = passes_by (var_misplaced text p at) _ _ q e in
    let few : p.declared < 16 = few_told p.others (leb 16 p.declared) _ p.declared refl f.0 in
    let g : p.declared + 1 ≡ q.declared = ap (λ (z : Past). z.declared) f.1 in
    omega arith

after_var_few : (text : List ℕ) (p : Past) (w : LineWord) (n : ℕ) (at : Place) (q : Past) → p.declared ≤ 16 → after_var text p w n at ≡ Ok q → q.declared ≤ 16
after_var_few text p v n at q h e = by (told v)
  where
    by : Told v → q.declared ≤ 16
    by (it_is x) = var_few text p n at q (subst (λ (u : LineWord). after_var text p u n at ≡ Ok q) x e)
    by (it_is_not nv) = kept_few p q (ok_keeps p n (with_other p) q (refl, refl) (sym (other_word text p v n at nv) ∙ e)) h

module _ (means : Pair → Option Frac) (code : Frac → Option Pair) (text : List ℕ) where
  line_names : (p : Past) (w : LineWord) (n : ℕ) (line : List Entry) (q : Past) → Room p → LinePasses means code text p w n line q → Room q × (declared_names q ≡ declared_names p ++ var_name w (second_place line))
  line_names p w n line q r h =
      let a = after_var_names text p w n (second_place line) h.named r h.var_in_place in
      let b = after_rate_keeps h.named n w (variable text h.named (second_place line)) h.rated h.rate_in_place in
      let c = after_block_keeps h.rated n w q h.nested in (
        kept_room h.rated q c (kept_room h.named h.rated b a.0),
        kept_names h.rated q c ∙ kept_names h.named h.rated b ∙ a.1,
      )

  -- the names behind lines
  pub lines_names : (p : Past) (ls : List (List Entry)) (q : Past) → Room p → lines_check means code text p ls ≡ Ok q → declared_names q ≡ declared_names p ++ names_of ls
  lines_names p [] q r e = let f : p ≡ q = cc in sym (ap declared_names f) ∙ sym (append-nil (declared_names p))
  lines_names p (l ∷ ls) q r e =
      let a = then_ok (line_check means code text p l) _ q e in
      let h = line_passes means code text p (first_word (head_of l).token) (head_of l).place.line l a.0 a.1 in
      let b = line_names p (first_word (head_of l).token) (head_of l).place.line l a.0 r h in
      lines_names a.0 ls q b.0 a.2
      ∙ ap (λ (ns : List Place). ns ++ names_of ls) b.1
      ∙ append_assoc (declared_names p) (var_name (first_word (head_of l).token) (second_place l)) (names_of ls)

  -- and there are at most 16
  pub lines_few_names : (p : Past) (ls : List (List Entry)) (q : Past) → p.declared ≤ 16 → lines_check means code text p ls ≡ Ok q → q.declared ≤ 16
  lines_few_names p [] q h e = let f : p ≡ q = cc in subst (λ (z : Past). z.declared ≤ 16) f h
  lines_few_names p (l ∷ ls) q h e =
      let a = then_ok (line_check means code text p l) _ q e in
      let n = (head_of l).place.line in
      let w = first_word (head_of l).token in
      let k = line_passes means code text p w n l a.0 a.1 in
      let b = after_rate_keeps k.named n w (variable text k.named (second_place l)) k.rated k.rate_in_place in
      let c = after_block_keeps k.rated n w a.0 k.nested in
      let d = kept_few k.named k.rated b (after_var_few text p w n (second_place l) k.named h k.var_in_place) in
      lines_few_names a.0 ls q (kept_few k.rated a.0 c d) a.2

  -- every number is held
  pub lines_held : (p : Past) (ls : List (List Entry)) (q : Past) → lines_check means code text p ls ≡ Ok q → AllByRecursion (λ l. unheld means code l ≡ None) ls
  lines_held p [] q e = tt
  lines_held p (l ∷ ls) q e =
      let a = then_ok (line_check means code text p l) _ q e in
      let h = line_passes means code text p (first_word (head_of l).token) (head_of l).place.line l a.0 a.1 in
      (h.held, lines_held a.0 ls q a.2)

pub closed_depth : (p : Past) → open_check p ≡ Ok tt → p.depth ≡ 0
closed_depth p e = by (eqb p.depth 0) refl e
  where
    by : (b : Bool) → eqb p.depth 0 ≡ b → ◌≡◌ {A = Result Unit Refusal} (cond b (Ok tt) (Err (refused Blocks (innermost p).line 0))) (Ok tt) → p.depth ≡ 0
    by true q e = same_code p.depth 0 q
    by false q e = cc

-- a table that is not another one holds the entries of the text
pub own_table : (text : List ℕ) (fields : ℕ) (table : List Entry) → other_table text fields table ≡ false → take fields table ≡ entries text
own_table text fields table h =
    let a = or_parts (ltb (length table) fields) _ h in
    let b = or_parts (ltb 4608 fields) _ a.1 in
    let c = or_parts (not (same_table text (places text) (take fields table))) _ b.1 in
    table_own text (places text) (take fields table) (not-false (same_table text (places text) (take fields table)) c.0)
