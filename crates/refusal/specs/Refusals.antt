-- Refusals, and how they are written. Assumes nothing.
use Rattle.std.specs.Prelude.{ℕ, List, ◌++◌, Option, Some, None, codes, decimal}
use Rattle.refusal.specs.declared.Refusal.{Refusal}

-- a refusal for this reason, at this line and field
abbrev pub refused : {R N : Type 0} → R → N → N → Refusal R N
refused reason line field = record { reason = reason; line = line; field = field }

-- NUMBER,LINE,FIELD
abbrev pub refusal_text : ℕ → ℕ → ℕ → List ℕ
refusal_text number line field = decimal number ++ (codes "," ++ (decimal line ++ (codes "," ++ decimal field)))

-- the same of a line and a field that are already written, where both are known
abbrev pub shown : ℕ → Option (List ℕ) → Option (List ℕ) → Option (List ℕ)
shown number (Some line) (Some field) = Some (decimal number ++ (codes "," ++ (line ++ (codes "," ++ field))))
shown number line field = None
