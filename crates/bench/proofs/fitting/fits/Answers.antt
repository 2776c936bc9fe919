use Rattle.std.proofs.Common.{◌≡◌, ℕ, arith}
use Rattle.motion.specs.Pairs.{numbers_of}
use Rattle.checker.specs.Scripts.{lines_in}
use Rattle.bench.proofs.Numbered.{values_unfit, counts_unfit, all_told, over_few}
use Rattle.bench.proofs.fitting.fits.Goals as goal

pub returns-then-not-has_values : goal.returns-then-not-has_values
returns-then-not-has_values g c = record {
  answer = values_unfit (numbers_of g.K.Kind.means g.K.Kind.code) (lines_in c.args.script.now) c.args.bench.now c.has_values.result (c.has_values.ensures.answer) c.if-not-has_values.true;
  few = λ e. let z : ◌≡◌ {A = ℕ} 0 1 = cc in absurd (omega arith);
}

pub returns-then-not-are_small : goal.returns-then-not-are_small
returns-then-not-are_small g c = record {
  answer = counts_unfit (numbers_of g.K.Kind.means g.K.Kind.code) (lines_in c.args.script.now) c.args.bench.now c.has_values.result c.are_small.result (c.has_values.ensures.answer) c.if-not-has_values.false c.are_small.ensures c.if-not-are_small.true;
  few = λ e. let z : ◌≡◌ {A = ℕ} 0 1 = cc in absurd (omega arith);
}

pub returns : goal.returns
returns g c =
    let N = numbers_of g.K.Kind.means g.K.Kind.code in
    let script = lines_in c.args.script.now in
    record {
      answer = all_told N script c.args.bench.now c.has_values.result c.are_small.result c.is_placed.result (c.has_values.ensures.answer) c.if-not-has_values.false c.are_small.ensures c.if-not-are_small.false (c.is_placed.ensures);
      few = λ e. (c.has_values.ensures.few c.if-not-has_values.false, over_few N script c.args.bench.now c.are_small.result c.are_small.ensures c.if-not-are_small.false);
    }
