-- What a script that passed its check gives to a run. Assumes nothing.
use Rattle.std.proofs.Common.{◌≡◌, min, List, length, Option, sym, subst, arith}
use Rattle.std.proofs.lemmas.List.{length-take}
use Rattle.number.specs.declared.Kind.{Ghosts}
use Rattle.number.specs.declared.Pair.{Pair}
use Rattle.number.specs.Frac.{Frac}
use Rattle.motion.specs.Lines.{Line}
use Rattle.checker.specs.declared.scripts.Checked.{Checked}
use Rattle.checker.specs.Jumps.{Leads}
use Rattle.checker.specs.Scripts.{rows_in, jumps_in, Sound, Laid}

module _ {X : Type 0} {K : Ghosts X} (s : Checked X K) (means : Pair → Option Frac) (code : Frac → Option Pair) where
  -- a script that passed is laid out
  pub laid : Sound s means code → Laid s
  laid h =
      let n : length (rows_in s) ≡ min s.plan.rows.count (length s.plan.rows.rows) = length-take s.plan.rows.count s.plan.rows.rows in
      record {
        placed = sym h.found.placed;
        few = let k = h.found.few_lines in omega arith;
        short = h.found.short;
        leads = subst (λ (ls : List Line). Leads ls (jumps_in s)) (sym h.good.rows) h.found.jumps;
      }
