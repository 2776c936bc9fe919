use Rattle.std.proofs.lemmas.Result.{err_from_is_err_and}
use Rattle.motion.specs.Pairs.{numbers_of}
use Rattle.entries.specs.Decoding.{items_in}
use Rattle.checker.specs.Scripts.{lines_in}
use Rattle.record.specs.Benches.{pairs_of}
use Rattle.running.proofs.Known.{run_fails}
use Rattle.running.proofs.runs.Run.start.Goals as goal

pub returns-in_err-q : goal.returns-in_err-q
returns-in_err-q g c =
    let p = err_from_is_err_and c.from_residual.result c.from_residual.ensures.1 in
    let r = c.args.self.now in
    let a = c.args.statement.now in
    rw (p.1, p.2) (record {
      step = run_fails (numbers_of g.K.Kind.means g.K.Kind.code) (lines_in r.script.now) (pairs_of r.values) r.ticks a.line c.in_err-q.field-0.0 (items_in a.items) c.in_err-q.ensures;
      kept = tt;
    })
