-- What holds of the answers, and lines with their answers.
use Rattle.std.specs.Prelude.{◌≡◌, Ok, codes}
use Rattle.calculator.specs.declared.reading.KindName.{KindName}
use Rattle.calculator.specs.declared.reading.Question.{Question}
use Rattle.calculator.specs.declared.answering.Reply.{Reply}
use Rattle.calculator.specs.Answering.{replied_in}
use Rattle.calculator.specs.Lines.{answered}

-- kinds that reply to a question reply the same
abbrev pub Agree : Type 0
Agree = (j k : KindName) (q : Question) (a b : Reply) → replied_in j q ≡ Ok a → replied_in k q ≡ Ok b → a ≡ b

-- lines with their answers
pub record Examples : Type 0 where
  pub sum : answered (codes "fractions,add,1/2,1/3") ≡ codes "5/6"
  pub whole : answered (codes "fractions,take,4/2") ≡ codes "2"
  pub below : answered (codes "fractions,sub,1/3,1/2") ≡ codes "-1/6"
  pub least : answered (codes "fractions,lt,1/2,2/3") ≡ codes "true"
  pub product : answered (codes "thousandths,mul,1/2,3") ≡ codes "3/2"
  pub third : answered (codes "thousandths,div,1,3") ≡ codes "not held"
  pub zero : answered (codes "thousandths,div,1,0") ≡ codes "zero divisor"
  pub half : answered (codes "small,scale,6,1,2") ≡ codes "3"
  pub order : answered (codes "small,le,3,2") ≡ codes "false"
  pub other : answered (codes "decimals,add,1,2") ≡ codes "not understood"
