use Rattle.std.proofs.Common.{sym, ◌∙◌, arith}
use Rattle.script.proofs.Bytes.{feed_more, feed_same, feed_all, note_feed, note_comma, note_plain, note_all}
use Rattle.script.proofs.checks.look_over.Goals as goal
use Rattle.script.proofs.checks.look_over.Goals.{in-10, in-44, in_default}

pub loop-b-preserved : goal.loop-b-preserved
loop-b-preserved c =
    let l = c.loop-b in
    let i = c.loop-b-test.true in
    let n = c.note-stray.ensures in
    elim c.match-b.branch [ in-10 w ↦ (omega arith, omega (arith, w.feeds-is), omega (arith, w.commas-is), l.invariant.3 ∙ feed_more _ _ _ i w.in-10.is ∙ rw w.feeds-is, l.invariant.4 ∙ note_feed _ _ _ _ _ i _ n w.in-10.is ∙ rw (w.feeds-is, w.commas-is)) | in-44 w ↦ (omega arith, omega (arith, w.feeds-is), omega (arith, w.commas-is), l.invariant.3 ∙ feed_same _ _ _ i (λ h. omega (arith, h, w.in-44.is)) ∙ rw w.feeds-is, l.invariant.4 ∙ note_comma _ _ _ _ _ i _ n (λ h. omega (arith, h, w.in-44.is)) w.in-44.is ∙ rw (w.feeds-is, w.commas-is)) | in_default w ↦ (omega arith, omega (arith, w.feeds-is), omega (arith, w.commas-is), l.invariant.3 ∙ feed_same _ _ _ i (λ h. omega arith) ∙ rw w.feeds-is, l.invariant.4 ∙ note_plain _ _ _ _ _ i _ n (λ h. omega arith) (λ h. omega arith) ∙ rw (w.feeds-is, w.commas-is)) ]

pub returns : goal.returns
returns c =
    let l = c.loop-b in
    record {
      feeds_is = sym (l.invariant.3 ∙ feed_all _ _ _ c.loop-b-test.false);
      stray_is = sym (l.invariant.4 ∙ note_all _ _ _ _ _ c.loop-b-test.false);
      few = omega (arith, l.invariant.0, l.invariant.1);
    }
