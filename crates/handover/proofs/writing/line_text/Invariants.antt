use Rattle.std.proofs.Common.{◌≡◌, true, ◌++◌, take}
use Rattle.handover.specs.Lines.{fields_by, meant_text, all_meant}
use Rattle.handover.proofs.writing.line_text.Given as goal

abbrev pub invariant-loop-value : goal.invariant-loop-value
invariant-loop-value g l =
    (l.text.bytes ≡ l.initial.text.bytes ++ fields_by (λ p. meant_text (g.K.Kind.means p)) (take l.value-index l.values))
    × (all_meant g.K.Kind.means (take l.value-index l.values) ≡ true)
