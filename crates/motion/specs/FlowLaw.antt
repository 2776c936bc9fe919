-- The flow law: n ticks and then m are n + m ticks.
use Rattle.std.specs.Prelude.{◌≡◌, ℕ, ◌+◌, List, Some}
use Rattle.motion.specs.Numbers.{exact}
use Rattle.motion.specs.Lines.{Rate}
use Rattle.motion.specs.Flow.{flow}
use Rattle.motion.specs.Derivatives.{FifthZero}
use Rattle.motion.specs.Rules.{Env}
use Rattle.motion.specs.Program.{Prog}
use Rattle.motion.specs.Cuts.{Flows, Smooth}
use Rattle.motion.specs.Chains.{Shallow, Shallows, ShallowTold}

-- The flow of a stretch in unlimited fractions.
pub record FlowLaw : Type 0 where
  -- D5 is 0 where no walk has five names
  pub fifth : (rs : List Rate) → Shallow rs → (σ : Env) → FifthZero rs σ
  -- from D5 = 0 alone: n ticks and then m are n + m ticks
  pub from_fifth : (rs : List Rate) (σ τ υ : Env) (n m : ℕ) → FifthZero rs σ → flow exact rs σ n ≡ Some τ → flow exact rs τ m ≡ Some υ → flow exact rs σ (n + m) ≡ Some υ
  -- so of shallow rates over any number of variables, and of every stretch of a program
  pub rates : (w : ℕ) (rs : List Rate) → Shallow rs → Flows w rs
  pub program : (w : ℕ) (p : Prog) → Shallows p → Smooth w p
  -- whether rates are shallow can be worked out
  pub told : ShallowTold
