use Rattle.std.proofs.Common.{◌≡◌, ◌+◌, ◌≤◌, length, drop}
use Rattle.script.specs.Checks.{sooner, feeds, stray}
use Rattle.script.proofs.checks.look_over.Given as goal

abbrev pub invariant-loop-b : goal.invariant-loop-b
invariant-loop-b l =
    (l.b-index ≤ length l.text) × (l.feeds ≤ l.b-index) × (l.commas ≤ l.b-index) ×
    (feeds l.text ≡ l.feeds + feeds (drop l.b-index l.text)) ×
    (stray 0 0 l.text ≡ sooner l.stray (stray l.feeds l.commas (drop l.b-index l.text)))
