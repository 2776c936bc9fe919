use Rattle.std.proofs.Common.{◌≡◌, length, arith}
use Rattle.whole_input.proofs.Filled.{cut_to_front}
use Rattle.whole_input.proofs.read_messages.Goals as goal

pub returns-clause-few : goal.returns-clause-few
returns-clause-few g c = omega (arith, c.in_ok-text.ensures.len)

pub returns-clause-bytes : goal.returns-clause-bytes
returns-clause-bytes g c =
    let lent = c.as_mut_slice.ensures.len in
    let room : length c.as_mut_slice.result.now ≡ 16385 = omega (arith, c.in_ok-text.ensures.len) in
    cut_to_front (g.R.Read.remaining c.args.input) c.fill.new.buffer _ _ c.in_ok-n.n _ _ 16385 c.truncate.ensures.items c.fill.auto.buffer lent room c.in_ok-n.ensures.few c.in_ok-n.ensures.bytes
