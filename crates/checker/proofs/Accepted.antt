-- A script that passed its check is good. Assumes nothing.
use Rattle.std.proofs.Common.{◌≡◌, ℕ, suc, ◌+◌, ◌-◌, ◌≤◌, Bool, true, false, cond, List, [], ◌∷◌, ◌++◌, map, length, take, drop, Some, None, Option, sym, refl, ap, ◌∙◌, subst, zero-add, arith}
use lib.ListN.{length-map}
use Rattle.std.specs.List.{AllByRecursion}
use Rattle.script.specs.declared.places.Place.{Place}
use Rattle.script.specs.declared.reading.Entry.{Entry}
use Rattle.script.specs.Reading.{entries}
use Rattle.number.specs.declared.Pair.{Pair}
use Rattle.number.specs.Frac.{Frac}
use Rattle.motion.specs.Lines.{Line}
use Rattle.motion.specs.Program.{Spells}
use Rattle.motion.specs.NextLine.{declared}
use Rattle.checker.specs.declared.checking.Plan.{Plan}
use Rattle.entries.specs.declared.rows.Row.{Row}
use Rattle.entries.specs.Fields.{lines, not_held, unheld}
use Rattle.checker.specs.Conditions.{at_first, declared_names}
use Rattle.entries.specs.Decoding.{names_of, line_of, script_of, place_of, rows_from, rows_lines}
use Rattle.checker.specs.Checking.{Planned, Ready, Passed}
use Rattle.checker.specs.Laws.{ShallowRuns, Good, Found}
use Rattle.checker.specs.Jumps.{Leads}
use Rattle.checker.proofs.Decoded.{flat, flat_lines, decoded}
use Rattle.checker.proofs.Counted.{all_counted}
use Rattle.checker.proofs.Passing.{runs_shallow, lines_names, lines_held, closed_depth}
use Rattle.checker.proofs.Nested.{program, smooth}

-- every number of a line is held where none is the first that is not
module _ (means : Pair → Option Frac) (code : Frac → Option Pair) where
  all_held : (l : List Entry) → unheld means code l ≡ None → AllByRecursion (λ e. not_held means code e.token ≡ false) l
  all_held [] h = tt
  all_held (e ∷ l) h = by (not_held means code e.token) refl h (all_held l)
    where
      by : (b : Bool) → not_held means code e.token ≡ b → cond b (Some e.place.field) (unheld means code l) ≡ None → (unheld means code l ≡ None → AllByRecursion (λ e. not_held means code e.token ≡ false) l) → (not_held means code e.token ≡ false) × AllByRecursion (λ e. not_held means code e.token ≡ false) l
      by true p q go = cc
      by false p q go = (p, go q)

  joined : (P : Entry → Type 0) (l m : List Entry) → AllByRecursion P l → AllByRecursion P m → AllByRecursion P (l ++ m)
  joined P [] m h k = k
  joined P (e ∷ l) m h k = (h.0, joined P l m h.1 k)

  flat_held : (ls : List (List Entry)) → AllByRecursion (λ l. unheld means code l ≡ None) ls → AllByRecursion (λ e. not_held means code e.token ≡ false) (flat ls)
  flat_held [] h = tt
  flat_held (l ∷ ls) h = joined _ l (flat ls) (all_held l h.0) (flat_held ls h.1)

-- the rows of short lines are short
short_rows : (text : List ℕ) (names : List Place) (at : ℕ) (ls : List (List Entry)) → AllByRecursion (λ l. length l ≤ 18) ls → AllByRecursion (λ r. r.to - r.from ≤ 18) (rows_from text names at ls)
short_rows text names at [] h = tt
short_rows text names at (l ∷ ls) h = let k = h.0 in (omega arith, short_rows text names (at + length l) ls h.1)

module _ (means : Pair → Option Frac) (code : Frac → Option Pair) (text : List ℕ) (es : List Entry) (p : Plan) (h : Planned text es p) (g : Passed means code text es p.past) where
  names_are : declared_names p.past ≡ names_of (lines es)
  names_are = lines_names means code text at_first (lines es) p.past refl g.every_line

  lines_are : map (line_of text (declared_names p.past)) (lines es) ≡ script_of text (lines es)
  lines_are = ap (λ (v : List Place). map (line_of text v) (lines es)) names_are

  rows_are : rows_lines es (take (length es) p.places.of) (take p.rows.count p.rows.rows) ≡ script_of text (lines es)
  rows_are =
      ap (λ (xs : List (Option ℕ)). rows_lines es xs (take p.rows.count p.rows.rows)) h.places
      ∙ ap (λ (rs : List Row). rows_lines es (map (place_of text (declared_names p.past)) es) rs) h.rows
      ∙ decoded text (declared_names p.past) es
      ∙ lines_are

  -- a script that passed is good
  pub good : es ≡ entries text → Good means code text es p
  good o =
      let sh : ShallowRuns (script_of text (lines es)) = subst ShallowRuns lines_are (runs_shallow 1 _ g.every_run) in
      let pr = program means code text (names_of (lines es)) 1 at_first (lines es) p.past (refl, omega arith) refl refl g.every_line (closed_depth p.past g.closed) in
      let vs = declared (script_of text (lines es)) in
      let n : 1 + length vs ≡ suc (length vs) = omega arith in
      record {
        own = o;
        names = names_are;
        rows = rows_are;
        passes = g.every_line;
        closed = closed_depth p.past g.closed;
        held = lines_held means code text at_first (lines es) p.past g.every_line;
        shallow = sh;
        program = pr.0;
        spelled = subst (λ (k : ℕ). Spells k (drop (length vs) (script_of text (lines es))) pr.0) n pr.1;
        smooth = smooth (1 + length vs) (length vs) (script_of text (lines es)) pr.0 pr.1 sh;
      }

  -- and what a run finds in it is there
  pub found : Ready es p → AllByRecursion (λ l. length l ≤ 18) (lines es) → Found means code text es p
  found r small = record {
    numbers = subst (AllByRecursion (λ e. not_held means code e.token ≡ false)) (flat_lines es) (flat_held means code (lines es) (lines_held means code text at_first (lines es) p.past g.every_line));
    placed = ap length h.places ∙ length-map es (place_of text (declared_names p.past));
    counted = r.counted;
    few_lines = h.few;
    short = subst (AllByRecursion (λ r. r.to - r.from ≤ 18)) (sym h.rows) (short_rows text (declared_names p.past) 0 (lines es) small);
    jumps = subst (λ (ls : List Line). Leads ls p.jumps) rows_are r.jumps;
    variables = all_counted means code text (names_of (lines es)) at_first (lines es) p.past (refl, omega arith) g.every_line ∙ zero-add _;
    few_variables = r.few_names;
  }
