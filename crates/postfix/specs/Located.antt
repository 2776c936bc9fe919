-- A fault of items as a refusal on a line. Assumes nothing.
use Rattle.std.specs.Prelude.{ℕ, Ok, Err, Result}
use Rattle.motion.specs.Items.{Got, good, bad}
use Rattle.record.specs.Refusals.{Refusal, reason_of}
use Rattle.refusal.specs.Refusals.{refused}

-- an answer as it is, a fault as a refusal for its reason on this line
abbrev pub located : {A : Type 0} → ℕ → Got A → Result A Refusal
located line (good a) = Ok a
located line (bad n f) = Err (refused (reason_of n) line f)
