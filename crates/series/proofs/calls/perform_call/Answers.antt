use Rattle.std.proofs.Common.{Err, sym, refl, ap, ◌∙◌, SFits, w64, rules}
use Rattle.std.proofs.lemmas.Result.{err_from_is_err_and}
use Rattle.std.proofs.lemmas.Int.{to_z-of_z}
use Rattle.checker.specs.Scripts.{lines_in, variable_in}
use Rattle.record.specs.Benches.{bench_of}
use Rattle.series.specs.Series.{advance_answer, value_answer, size_answer, hand_answer}
use Rattle.series.proofs.Replied.{advance_done, reading_done, write_done, hand_done, ask_done}
use Rattle.series.proofs.calls.perform_call.Goals as goal

pub returns-in_err-steps-in-Advance-clause-replies : goal.returns-in_err-steps-in-Advance-clause-replies
returns-in_err-steps-in-Advance-clause-replies g c = λ few.
    let p = err_from_is_err_and c.from_residual.result c.from_residual.ensures.1 in
    advance_done g.K.Kind.means g.K.Kind.code (lines_in c.args.script.now) (variable_in c.args.script.now) c.args.bench.now few c.advance.result c.advance.new.bench c.in-Advance.is (p.1 ∙ ap Err p.2 ∙ ap advance_answer (sym c.in_err-steps-in-Advance.was)) c.advance.ensures.answer c.advance.ensures.kept

pub returns-in_ok-steps-in-Advance-clause-replies : goal.returns-in_ok-steps-in-Advance-clause-replies
returns-in_ok-steps-in-Advance-clause-replies g c = λ few.
    advance_done g.K.Kind.means g.K.Kind.code (lines_in c.args.script.now) (variable_in c.args.script.now) c.args.bench.now few c.advance.result c.advance.new.bench c.in-Advance.is (ap advance_answer (sym c.in_ok-steps-in-Advance.was)) c.advance.ensures.answer c.advance.ensures.kept

pub returns-in_err-n-in-Reading-clause-replies : goal.returns-in_err-n-in-Reading-clause-replies
returns-in_err-n-in-Reading-clause-replies g c = λ few.
    let p = err_from_is_err_and c.from_residual-in_err-n-in-Reading.result c.from_residual-in_err-n-in-Reading.ensures.1 in
    reading_done g.K.Kind.means g.K.Kind.code (lines_in c.args.script.now) (variable_in c.args.script.now) c.args.bench.now few c.in-Reading.is (p.1 ∙ ap Err p.2 ∙ ap value_answer (sym c.in_err-n-in-Reading.was)) c.reading.ensures.answer

pub returns-in_ok-n-in-Reading-clause-replies : goal.returns-in_ok-n-in-Reading-clause-replies
returns-in_ok-n-in-Reading-clause-replies g c = λ few.
    reading_done g.K.Kind.means g.K.Kind.code (lines_in c.args.script.now) (variable_in c.args.script.now) c.args.bench.now few c.in-Reading.is (let f : SFits w64 c.in_ok-n-in-Reading.n = search rules in let k : SFits w64 c.in_ok-n-in-Reading.d = search rules in rw (to_z-of_z _ _ f, to_z-of_z _ _ k) (ap value_answer (sym c.in_ok-n-in-Reading.was))) c.reading.ensures.answer

pub returns-in-NextJoint-clause-replies : goal.returns-in-NextJoint-clause-replies
returns-in-NextJoint-clause-replies g c = λ few. ask_done g.K.Kind.means g.K.Kind.code (lines_in c.args.script.now) (variable_in c.args.script.now) c.args.bench.now few c.in-NextJoint.is refl c.next_joint.ensures.answer

pub returns-in_err-size-in-Write-clause-replies : goal.returns-in_err-size-in-Write-clause-replies
returns-in_err-size-in-Write-clause-replies g c = λ few.
    let p = err_from_is_err_and c.from_residual-in_err-size-in-Write.result c.from_residual-in_err-size-in-Write.ensures.1 in
    write_done g.K.Kind.means g.K.Kind.code (lines_in c.args.script.now) (variable_in c.args.script.now) c.args.bench.now few c.in-Write.is (p.1 ∙ ap Err p.2 ∙ ap size_answer (sym c.in_err-size-in-Write.was)) (c.write_call.ensures few)

pub returns-in_ok-size-in-Write-clause-replies : goal.returns-in_ok-size-in-Write-clause-replies
returns-in_ok-size-in-Write-clause-replies g c = λ few.
    write_done g.K.Kind.means g.K.Kind.code (lines_in c.args.script.now) (variable_in c.args.script.now) c.args.bench.now few c.in-Write.is (ap size_answer (sym c.in_ok-size-in-Write.was)) (c.write_call.ensures few)

pub returns-in_err-hand_over-in-HandOver-clause-replies : goal.returns-in_err-hand_over-in-HandOver-clause-replies
returns-in_err-hand_over-in-HandOver-clause-replies g c = λ few.
    let p = err_from_is_err_and c.from_residual-in_err-hand_over-in-HandOver.result c.from_residual-in_err-hand_over-in-HandOver.ensures.1 in
    hand_done g.K.Kind.means g.K.Kind.code (lines_in c.args.script.now) (variable_in c.args.script.now) c.args.bench.now few (bench_of c.hand_over.new.bench) c.in-HandOver.is (p.1 ∙ ap Err p.2 ∙ ap hand_answer (sym c.in_err-hand_over-in-HandOver.was)) (c.hand_over.ensures.answer few) c.hand_over.ensures.same

pub returns-in_ok-hand_over-in-HandOver-clause-replies : goal.returns-in_ok-hand_over-in-HandOver-clause-replies
returns-in_ok-hand_over-in-HandOver-clause-replies g c = λ few.
    hand_done g.K.Kind.means g.K.Kind.code (lines_in c.args.script.now) (variable_in c.args.script.now) c.args.bench.now few (bench_of c.hand_over.new.bench) c.in-HandOver.is (ap hand_answer (sym c.in_ok-hand_over-in-HandOver.was)) (c.hand_over.ensures.answer few) c.hand_over.ensures.same
