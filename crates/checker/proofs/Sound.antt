-- A checked script is sound for its kind, by what its type keeps. Assumes nothing.
use Rattle.std.proofs.Common.{◌≤◌, List, length, sym, subst}
use Rattle.std.specs.List.{AllByRecursion}
use Rattle.script.specs.declared.reading.Entry.{Entry}
use Rattle.number.specs.declared.Kind.{Ghosts}
use Rattle.entries.specs.Fields.{lines}
use Rattle.checker.specs.declared.scripts.Checked.{Checked}
use Rattle.checker.specs.Scripts.{Sound, Laid}
use Rattle.checker.proofs.Short.{lines_short}
use Rattle.checker.proofs.Accepted.{good, found}
use Rattle.checker.proofs.LaidOver.{laid}

module _ {X : Type 0} {K : Ghosts X} (s : Checked X K) where
  pub sound : Sound s K.means K.code
  sound = record {
    good = good K.means K.code s.text.now s.table.now s.plan s.planned s.passed s.own;
    found = found K.means K.code s.text.now s.table.now s.plan s.planned s.passed s.ready (subst (λ (es : List Entry). AllByRecursion (λ l. length l ≤ 18) (lines es)) (sym s.own) (lines_short s.text.now s.in_order));
  }

  pub laid_out : Laid s
  laid_out = laid s K.means K.code sound
