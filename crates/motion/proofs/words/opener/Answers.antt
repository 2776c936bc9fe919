use Rattle.std.proofs.Common.{◌+◌, ◌-◌, refl, ◌∙◌, arith}
use Rattle.motion.proofs.LineWords.{back_end, back_if, back_while, back_unblocked, found_if, found_while}
use Rattle.motion.proofs.words.opener.Goals as goal

pub loop-j-preserved-in-End : goal.loop-j-preserved-in-End
loop-j-preserved-in-End c =
    let j = c.loop-j.j in
    let d = c.loop-j.closed in
    (omega arith, λ all e. back_end c.args.words.now all e (j - 1) j (omega arith) (omega arith) c.in-End.is d (d + 1) (omega arith) ∙ c.loop-j.invariant.1 all e)

pub returns-then-closed-eq0-clause-found : goal.returns-then-closed-eq0-clause-found
returns-then-closed-eq0-clause-found c = λ all e.
    found_if c.args.words.now all e (c.loop-j.j - 1) c.loop-j.j (omega arith) (omega arith) c.in-If.is c.loop-j.closed c.if-closed-eq0.true
    ∙ c.loop-j.invariant.1 all e

pub loop-j-preserved-in-If : goal.loop-j-preserved-in-If
loop-j-preserved-in-If c =
    let j = c.loop-j.j in
    let d = c.loop-j.closed in
    (omega arith, λ all e. back_if c.args.words.now all e (j - 1) j (omega arith) (omega arith) c.in-If.is d (d - 1) (omega (arith, c.if-closed-eq0.false)) ∙ c.loop-j.invariant.1 all e)

pub returns-then-closed-eq0-2-clause-found : goal.returns-then-closed-eq0-2-clause-found
returns-then-closed-eq0-2-clause-found c = λ all e.
    found_while c.args.words.now all e (c.loop-j.j - 1) c.loop-j.j (omega arith) (omega arith) c.in-While.is c.loop-j.closed c.if-closed-eq0-2.true
    ∙ c.loop-j.invariant.1 all e

pub loop-j-preserved-in-While : goal.loop-j-preserved-in-While
loop-j-preserved-in-While c =
    let j = c.loop-j.j in
    let d = c.loop-j.closed in
    (omega arith, λ all e. back_while c.args.words.now all e (j - 1) j (omega arith) (omega arith) c.in-While.is d (d - 1) (omega (arith, c.if-closed-eq0-2.false)) ∙ c.loop-j.invariant.1 all e)

pub loop-j-preserved : goal.loop-j-preserved
loop-j-preserved c =
    let j = c.loop-j.j in
    (omega arith, λ all e. back_unblocked c.args.words.now all e (j - 1) j (omega arith) (omega arith) c.in-Var.is c.loop-j.closed c.loop-j.closed refl ∙ c.loop-j.invariant.1 all e)
