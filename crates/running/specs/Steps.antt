-- What a step of the code comes to, as the machine has it. Assumes nothing.
use Rattle.std.specs.Prelude.{◌≡◌, ℕ, Bool, true, false, List, Ok, Err, Result}
use Rattle.number.specs.declared.Pair.{Pair}
use Rattle.motion.specs.Numbers.{Numbers}
use Rattle.motion.specs.Lines.{Line}
use Rattle.motion.specs.NextLine.{line_at}
use Rattle.motion.specs.Machine as M
use Rattle.record.specs.declared.Bench.{Bench}
use Rattle.record.specs.Refusals.{Refusal, number_of}
use Rattle.record.specs.Benches.{pairs_of, bench_of}
use Rattle.entries.specs.Decoding.{line_by}
use Rattle.running.specs.declared.runs.Statement.{Statement}
use Rattle.running.specs.declared.lines.Standing.{Standing}
use Rattle.running.specs.declared.lines.Standing.TheVariants as s
use Rattle.running.specs.declared.steps.Outcome.{Outcome}
use Rattle.running.specs.declared.steps.Outcome.TheVariants as o

-- the line on which a run stands, and 0 at the end
abbrev pub standing_line : Standing → ℕ
standing_line (s.At n) = n
standing_line (s.Inside n d) = n
standing_line s.Ended = 0

-- the line that a statement is
abbrev pub statement_line : Statement → Line
statement_line a = line_by a.word a.name a.items.entries.now a.items.variables.now

-- the place at which a run stands
abbrev pub seen_place : Standing → M.Place
seen_place (s.At n) = M.at n
seen_place (s.Inside n d) = M.inside n d
seen_place s.Ended = M.ended

-- what a step comes to
abbrev pub seen_step : Result Outcome Refusal → M.Stepped Pair
seen_step (Ok (o.Go n vs t)) = M.go n (pairs_of vs) t
seen_step (Ok (o.Stop n d vs)) = M.stop n d (pairs_of vs)
seen_step (Err e) = M.fail (number_of e.reason) e.line e.field

-- a step leaves as many values as there were
abbrev pub Keeps : ℕ → Outcome → Type 0
Keeps c (o.Go n vs t) = vs.count ≡ c
Keeps c (o.Stop n d vs) = vs.count ≡ c

-- one turn of a run: the statement at a line, or the rest of a stretch
abbrev pub turn_of : Numbers Pair → List Line → List Pair → ℕ → M.Place → M.Stepped Pair
turn_of N all env t (M.at n) = M.step N all env t n (line_at all n)
turn_of N all env t (M.inside n d) = M.stretch N all env t n d
turn_of N all env t M.ended = M.fail 0 0 0

-- nothing is left to be done
abbrev pub is_ended : M.Place → Bool
is_ended (M.at n) = false
is_ended (M.inside n d) = false
is_ended M.ended = true

-- what a run answers: the steps made, and the bench after it
abbrev pub seen_answer : Result (ℕ × Bench) Refusal → M.Answer Pair
seen_answer (Ok p) = M.accepted p.0 p.1.over (bench_of p.1)
seen_answer (Err e) = M.refused (number_of e.reason) e.line e.field
