-- The Horner form in the numbers of a kind.
use Rattle.std.proofs.Common.{sym, ◌∙◌}
use Rattle.number.proofs.Answered.{horner_means, worked_is}
use Rattle.number.proofs.Quantity.value_at.Goals as goal

pub returns : goal.returns
returns g c =
    let k = g.K.Kind in
    let q = c.args.self in
    let s3 = c.in_ok-r3.ensures in
    let s2 = c.in_ok-r2.ensures in
    let s1 = c.in_ok-r1.ensures in
    record {
      value = c.step-4.ensures ∙ worked_is k.means k.code q _ _ _ c.args.n s3 s2 s1;
      exact = λ x0 x1 x2 x3 x4 p e0 e1 e2 e3 e4 z. horner_means k.means k.code g.met.K.Kind.sound q.d0 q.d1 q.d2 q.d3 q.d4 _ _ _ p x0 x1 x2 x3 x4 c.args.n e0 e1 e2 e3 e4 (sym s3) (sym s2) (sym s1) (sym c.step-4.ensures ∙ z);
    }
