use Rattle.std.proofs.Common.{suc, ◌+◌, sym, ◌∙◌, arith}
use Rattle.motion.proofs.LineWords.{next_rate, next_else, next_end, next_while, next_stated, past_end}
use Rattle.motion.proofs.words.next_statement.Goals as goal

pub loop-i-preserved-in-Rate : goal.loop-i-preserved-in-Rate
loop-i-preserved-in-Rate c = ((λ h. omega arith), λ all e. next_rate c.args.words.now all e c.loop-i.i (c.loop-i.i + 1) (omega arith) (omega arith) c.in-Rate.is ∙ c.loop-i.invariant.1 all e)

pub loop-i-preserved-in-Else : goal.loop-i-preserved-in-Else
loop-i-preserved-in-Else c = (
  (λ h. omega (arith, c.leave_block-i.ensures.within)),
  λ all e.
      c.leave_block-i.ensures.left all e
      ∙ next_else c.args.words.now all e c.loop-i.i (c.loop-i.i + 1) (omega arith) (omega arith) c.in-Else.is
      ∙ c.loop-i.invariant.1 all e,
)

pub returns-in-Some : goal.returns-in-Some
returns-in-Some c = record {
  within = λ h. let k = c.opener.ensures.within c.in-Some.o c.in-Some.is in omega arith;
  next = λ all e.
      next_while c.args.words.now all e c.loop-i.i (c.loop-i.i + 1) (omega arith) (omega arith) (suc c.in-Some.o) c.in-End.is (c.in-Some.ensures.found all e)
      ∙ c.loop-i.invariant.1 all e;
}

pub loop-i-preserved : goal.loop-i-preserved
loop-i-preserved c = (
  (λ h. omega arith),
  λ all e.
      next_end c.args.words.now all e c.loop-i.i (c.loop-i.i + 1) (omega arith) (omega arith) c.in-End.is (c.in-None.ensures.found all e)
      ∙ c.loop-i.invariant.1 all e,
)

pub returns-in-Var : goal.returns-in-Var
returns-in-Var c = record {
  within = λ h. omega arith;
  next = λ all e. next_stated c.args.words.now all e c.loop-i.i (c.loop-i.i + 1) (omega arith) (omega arith) c.in-Var.is ∙ c.loop-i.invariant.1 all e;
}

pub returns : goal.returns
returns c = record { within = c.loop-i.invariant.0; next = λ all e. sym (past_end c.args.words.now all 0 c.loop-i.i e (omega arith)) ∙ c.loop-i.invariant.1 all e }
