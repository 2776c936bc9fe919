-- Condition 15: the rates of a run have a walk of five names. Total on any lines.
use Rattle.std.specs.Prelude.{◌≡◌, ℕ, ◌+◌, Bool, true, false, cond, not, List, [], ◌∷◌, Ok, Err, Result, slice_index_or}
use Rattle.std.specs.List.{take_while}
use Rattle.script.specs.declared.words.LineWord.{LineWord}
use Rattle.script.specs.declared.words.LineWord.TheVariants as w
use Rattle.motion.specs.Lines.{Line, run_line, Rate}
use Rattle.motion.specs.Chains.{among, starts}
use Rattle.motion.specs.NextLine.{rates}
use Rattle.checker.specs.declared.refusals.Reason.TheVariants.{Chains}
use Rattle.checker.specs.Refusals.{Refusal}
use Rattle.entries.specs.declared.rows.Row.{Row}
use Rattle.entries.specs.declared.resolved.Resolved.{Resolved}
use Rattle.refusal.specs.Refusals.{refused}
use Rattle.entries.specs.Decoding.{or_none, part, parts_of}

abbrev pub is_empty : {A : Type 0} → List A → Bool
is_empty [] = true
is_empty (x ∷ xs) = false

-- a walk of five names starts somewhere
abbrev pub is_deep : List Rate → Bool
is_deep rs = not (is_empty (starts rs 4))

-- the first of these lines is a run whose rates have a walk of five names
abbrev pub deep_first : List Line → Bool
deep_first (run_line e ∷ ls) = is_deep (rates ls)
deep_first ls = false

-- run by run, the first line having this number
abbrev pub chains_check : ℕ → List Line → Result Unit Refusal
chains_check n [] = Ok tt
chains_check n (l ∷ ls) = cond (deep_first (l ∷ ls)) (Err (refused Chains n 0)) (chains_check (n + 1) ls)

-- over sets of names: a list of Bool that is true at each of them -----------------

-- marked are exactly these
abbrev pub Marks : List Bool → List ℕ → Type 0
Marks level xs = (x : ℕ) → slice_index_or level x false ≡ among x xs

-- rates by their rows --------------------------------------------------------------

abbrev pub is_rate : LineWord → Bool
is_rate w.Rate = true
is_rate v = false

abbrev pub is_run : LineWord → Bool
is_run w.Run = true
is_run v = false

-- the rate rows that stand first
abbrev pub rate_rows : List Row → List Row
rate_rows = take_while (λ (r : Row). is_rate r.word)

-- the rate that a row stands for
abbrev pub rate_of : Resolved → Row → Rate
rate_of t r = record { name = or_none r.name; parts = parts_of (part r.from r.to t.entries.now) (part r.from r.to t.variables.now) }

abbrev pub row_name : Row → ℕ
row_name r = or_none r.name
