-- What a kind answers to a question.
use Rattle.std.specs.Prelude.{◌≡◌, pos, Ok, Err, Option, Result, unsigned_abs}
use Rattle.number.specs.declared.Pair.{Pair}
use Rattle.number.specs.declared.Fault.{Fault}
use Rattle.number.specs.Frac.{Frac, norm, add, sub, mul, div, scale, less, at_most}
use Rattle.number.specs.Kind.{then, taken, scaled, in_terms, applied}
use Rattle.kinds.specs.Fractions.{frac_of, pair_of}
use Rattle.kinds.specs.Thousandths.{thousand_of, count_of}
use Rattle.kinds.specs.Small.{small_of, small_pair}
use Rattle.calculator.specs.declared.reading.KindName.{KindName}
use Rattle.calculator.specs.declared.reading.KindName.TheVariants.{Fractions, Thousandths, Small}
use Rattle.number.specs.declared.Operation.{Operation}
use Rattle.number.specs.declared.Operation.TheVariants.{Add, Sub, Mul, Div, Lt, Le}
use Rattle.number.specs.declared.Answer.{Answer}
use Rattle.number.specs.declared.Answer.TheVariants as answer
use Rattle.calculator.specs.declared.reading.Ratio.{Ratio}
use Rattle.calculator.specs.declared.reading.Question.{Question}
use Rattle.calculator.specs.declared.reading.Question.TheVariants.{Take, Two, Scale}
use Rattle.calculator.specs.declared.answering.Reply.{Reply}
use Rattle.calculator.specs.declared.answering.Reply.TheVariants.{Number, Truth}

-- the lowest terms of a number, as a reply
abbrev pub told : (Pair → Option Frac) → Pair → Result Reply Fault
told means p = then (in_terms means p) (λ t. Ok (Number t.0 t.1))

-- what an operation came to, as a reply
abbrev pub told_answer : (Pair → Option Frac) → Answer → Result Reply Fault
told_answer means (answer.Number p) = told means p
told_answer means (answer.Truth t) = Ok (Truth t)

module _ (means : Pair → Option Frac) (code : Frac → Option Pair) where
  -- the reply to an operation on two numbers of the kind
  abbrev pub replied2 : Operation → Pair → Pair → Result Reply Fault
  replied2 o p q = then (applied means code o p q) (told_answer means)

  -- the reply to a question: its fractions are taken, and then worked on
  abbrev pub replied : Question → Result Reply Fault
  replied (Take x) = then (taken means code x.n x.d) (told means)
  replied (Two o x y) = then (taken means code x.n x.d) (λ p. then (taken means code y.n y.d) (λ q. replied2 o p q))
  replied (Scale x n k) = then (taken means code x.n x.d) (λ p. then (scaled means code p n k) (told means))

-- the reply of the kind of a name
abbrev pub replied_in : KindName → Question → Result Reply Fault
replied_in Fractions q = replied frac_of pair_of q
replied_in Thousandths q = replied thousand_of count_of q
replied_in Small q = replied small_of small_pair q

-- ---- the law: where a kind replies, it gives the exact answer, which knows of no kind
-- the fraction that is written
abbrev pub written : Ratio → Frac
written x = norm x.n (unsigned_abs x.d)

-- a fraction as a reply
abbrev pub number_reply : Frac → Reply
number_reply q = Number q.num (pos q.den)

-- an operation on unlimited fractions
abbrev pub exactly2 : Operation → Frac → Frac → Reply
exactly2 Add x y = number_reply (add x y)
exactly2 Sub x y = number_reply (sub x y)
exactly2 Mul x y = number_reply (mul x y)
exactly2 Div x y = number_reply (div x y)
exactly2 Lt x y = Truth (less x y)
exactly2 Le x y = Truth (at_most x y)

-- the exact answer to a question
abbrev pub exactly : Question → Reply
exactly (Take x) = number_reply (written x)
exactly (Two o x y) = exactly2 o (written x) (written y)
exactly (Scale x n k) = number_reply (scale (written x) n k)

-- a reply is the exact answer
abbrev pub Exact : Question → Result Reply Fault → Type 0
Exact q (Ok a) = a ≡ exactly q
Exact q (Err e) = Unit {0}
