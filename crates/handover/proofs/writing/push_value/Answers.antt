-- The lowest terms of a number are short.
use Rattle.std.proofs.Common.{◌≡◌, [], ◌∷◌, ◌++◌, length, ap, arith}
use Rattle.std.proofs.lemmas.List.{length_push}
use Rattle.handover.proofs.Valued.{terms_meant, meant_short}
use Rattle.handover.proofs.writing.push_value.Goals as goal

pub push_terms-requires : goal.push_terms-requires
push_terms-requires g c =
    let e = terms_meant g.K.Kind.means g.K.Kind.code g.met.K.Kind.sound c.args.value c.in_ok-top.top c.in_ok-top.bottom c.in_ok-top.ensures in
    let more : c.push.new.self.bytes ≡ c.args.text.now.bytes ++ 44 ∷ [] = c.push.ensures.ascii (omega arith) in
    omega (arith, ap length e, meant_short g.K.Kind.means g.K.Kind.code g.met.K.Kind.sound c.args.value, ap length more, length_push c.args.text.now.bytes 44)
