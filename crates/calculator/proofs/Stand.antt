-- The theorems of the answers.
use Rattle.std.proofs.Common.{◌≡◌, Ok, sym, refl, ◌∙◌, subst}
use Rattle.std.specs.Fmt.{digits}
use Rattle.number.specs.Gcd.{gcd, steps}
use Rattle.number.specs.Frac.{lowest, naught, norm, whole, add, neg, sub, mul, flip, inverse, div, scale, less, at_most}
use Rattle.kinds.specs.Fractions.{made, frac_of, pair_of}
use Rattle.kinds.specs.Thousandths.{thousand_of, counted, count_of}
use Rattle.kinds.specs.Small.{small_of, small_pair}
use Rattle.kinds.specs.Held.{fractions_held}
use Rattle.kinds.specs.Counting.{thousandths_held}
use Rattle.kinds.specs.Smalls.{smalls_held}
use Rattle.calculator.specs.declared.reading.KindName.{KindName}
use Rattle.calculator.specs.declared.reading.KindName.TheVariants.{Fractions, Thousandths, Small}
use Rattle.calculator.specs.declared.reading.Question.{Question}
use Rattle.calculator.specs.declared.answering.Reply.{Reply}
use Rattle.calculator.specs.Answering.{replied_in, exactly, Exact}
use Rattle.calculator.specs.Theorems.{Agree, Examples}
use Rattle.calculator.proofs.Exactness.{exact_reply}

exact_in : (k : KindName) (q : Question) → Exact q (replied_in k q)
exact_in Fractions q = exact_reply frac_of pair_of fractions_held q
exact_in Thousandths q = exact_reply thousand_of count_of thousandths_held q
exact_in Small q = exact_reply small_of small_pair smalls_held q

agrees : (k : KindName) (q : Question) (a : Reply) → replied_in k q ≡ Ok a → a ≡ exactly q
agrees k q a e = subst (Exact q) e (exact_in k q)

pub agree : Agree
agree j k q a b e f = agrees j q a e ∙ sym (agrees k q b f)

pub examples : Examples
unfolding digits made frac_of pair_of thousand_of counted small_of small_pair add sub neg mul inverse flip div scale less at_most whole norm naught lowest gcd steps
examples = record { sum = refl; whole = refl; below = refl; least = refl; product = refl; third = refl; zero = refl; half = refl; order = refl; other = refl }
