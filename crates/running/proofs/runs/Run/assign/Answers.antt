use Rattle.std.proofs.lemmas.Result.{err_from_is_err_and}
use Rattle.motion.specs.Pairs.{numbers_of}
use Rattle.entries.specs.Decoding.{or_none, items_in}
use Rattle.checker.specs.Scripts.{lines_in}
use Rattle.record.specs.Benches.{pairs_of}
use Rattle.running.proofs.Known.{set_fails}
use Rattle.running.proofs.runs.Run.assign.Goals as goal

pub returns-in_err-q : goal.returns-in_err-q
returns-in_err-q g c =
    let p = err_from_is_err_and c.from_residual.result c.from_residual.ensures.1 in
    let r = c.args.self.now in
    let a = c.args.statement.now in
    rw (p.1, p.2) (record {
      step = set_fails (numbers_of g.K.Kind.means g.K.Kind.code) (lines_in r.script.now) (pairs_of r.values) r.ticks a.line c.in_err-q.field-0.0 (items_in a.items) (or_none a.name) c.in_err-q.ensures;
      kept = tt;
    })
