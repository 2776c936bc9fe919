use Rattle.std.proofs.Common.{suc, ◌+◌, refl, ◌∙◌, inl, inr, ⊎_elim, arith}
use Rattle.script.specs.declared.words.LineWord.TheVariants as v
use Rattle.motion.proofs.LineWords.{walk_opened, walk_closed, walk_to_else, walk_over_else, walk_passed}
use Rattle.motion.proofs.words.leave_block.Goals as goal
use Rattle.motion.proofs.words.leave_block.Goals.{in-If, in-End+else-opened-eq0, in-Else+else-opened-eq0-2, in-Var}

pub returns-then-opened-eq0 : goal.returns-then-opened-eq0
returns-then-opened-eq0 c = record {
  within = omega arith;
  left = λ all e.
      walk_closed c.args.words.now all e c.loop-i.i (c.loop-i.i + 1) (omega arith) (omega arith) c.in-End.is c.loop-i.opened 0 c.if-opened-eq0.true
      ∙ c.loop-i.invariant.2 all e;
}

pub returns-then-opened-eq0-2 : goal.returns-then-opened-eq0-2
returns-then-opened-eq0-2 c = record {
  within = omega arith;
  left = λ all e.
      walk_to_else c.args.words.now all e c.loop-i.i (c.loop-i.i + 1) (omega arith) (omega arith) c.in-Else.is c.loop-i.opened c.if-opened-eq0-2.true
      ∙ c.loop-i.invariant.2 all e;
}

pub loop-i-preserved : goal.loop-i-preserved
loop-i-preserved c =
    let i = c.loop-i.i in
    let k = c.loop-i.opened in
    let k' = c.match-words-i.opened in
    let ws = c.args.words.now in
    elim c.match-words-i.branch [
      | in-If w ↦ (
        omega (arith, w.opened-is),
        omega arith,
        λ all e.
            ⊎_elim (λ p. walk_opened ws all e i (i + 1) (omega arith) (omega arith) v.If p (inl refl) k k' (omega (arith, w.opened-is))) (λ p. walk_opened ws all e i (i + 1) (omega arith) (omega arith) v.While p (inr refl) k k' (omega (arith, w.opened-is))) w.in-If.is
            ∙ c.loop-i.invariant.2 all e,
      )
      | in-End+else-opened-eq0 w ↦
          (omega (arith, w.opened-is), omega arith, λ all e. walk_closed ws all e i (i + 1) (omega arith) (omega arith) w.in-End.is k (suc k') (omega (arith, w.opened-is, w.if-opened-eq0.false)) ∙ c.loop-i.invariant.2 all e)
      | in-Else+else-opened-eq0-2 w ↦
          (omega (arith, w.opened-is), omega arith, λ all e. walk_over_else ws all e i (i + 1) (omega arith) (omega arith) w.in-Else.is k k' w.if-opened-eq0-2.false w.opened-is ∙ c.loop-i.invariant.2 all e)
      | in-Var w ↦ (omega (arith, w.opened-is), omega arith, λ all e. walk_passed ws all e i (i + 1) (omega arith) (omega arith) w.in-Var.is k k' w.opened-is ∙ c.loop-i.invariant.2 all e)
    ]
