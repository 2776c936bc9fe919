-- The reply of a kind is exact.
use Rattle.std.proofs.Common.{sym, subst}
use Rattle.calculator.specs.Answering.{Exact}
use Rattle.calculator.proofs.Exactness.{exact_reply}
use Rattle.calculator.proofs.answering.respond.Goals as goal

pub returns : goal.returns
returns g c =
    record {
      value = c.work.ensures;
      exact = subst (Exact c.args.question) (sym c.work.ensures) (exact_reply g.K.Kind.means g.K.Kind.code g.met.K.Kind.sound c.args.question);
    }
