use Rattle.std.proofs.Common.{◌≡◌, ℕ, ◌∙◌, arith}
use Rattle.motion.specs.Pairs.{numbers_of}
use Rattle.checker.specs.Scripts.{lines_in}
use Rattle.bench.proofs.First.{variables_declared}
use Rattle.bench.proofs.Numbered.{too_many, other_count, values_told}
use Rattle.checker.proofs.Sound.{sound}
use Rattle.bench.proofs.fitting.has_values.Goals as goal

pub returns-then-bench-gt16 : goal.returns-then-bench-gt16
returns-then-bench-gt16 g c = record {
  answer = too_many (numbers_of g.K.Kind.means g.K.Kind.code) (lines_in c.args.script.now) c.args.bench.now c.if-bench-gt16.true;
  few = λ e. let z : ◌≡◌ {A = ℕ} 0 1 = cc in absurd (omega arith);
}

pub returns-then-values-variables : goal.returns-then-values-variables
returns-then-values-variables g c = record {
  answer = let h = sound c.args.script.now in other_count (numbers_of g.K.Kind.means g.K.Kind.code) (lines_in c.args.script.now) c.args.bench.now c.as_slice-values.result.now c.variables.result c.if-bench-gt16.false
      c.as_slice-values.ensures.values c.if-values-variables.true (c.variables.ensures ∙ variables_declared c.args.script.now g.K.Kind.means g.K.Kind.code h);
  few = λ e. let z : ◌≡◌ {A = ℕ} 0 1 = cc in absurd (omega arith);
}

pub returns : goal.returns
returns g c = record {
  answer = let h = sound c.args.script.now in values_told (numbers_of g.K.Kind.means g.K.Kind.code) (lines_in c.args.script.now) c.args.bench.now c.as_slice-values.result.now c.variables.result c.are_numbers.result c.if-bench-gt16.false
      c.as_slice-values.ensures.values c.if-values-variables.false (c.variables.ensures ∙ variables_declared c.args.script.now g.K.Kind.means g.K.Kind.code h) c.are_numbers.ensures;
  few = λ e. c.if-bench-gt16.false;
}
