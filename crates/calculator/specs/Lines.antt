-- What is printed for a line.
use Rattle.std.specs.Prelude.{ℕ, List, Some, None, Ok, Err, codes, Option, Result}
use Rattle.number.specs.declared.Fault.{Fault}
use Rattle.number.specs.Fault.{fault_text}
use Rattle.calculator.specs.declared.reading.KindName.{KindName}
use Rattle.calculator.specs.declared.reading.Question.{Question}
use Rattle.calculator.specs.declared.answering.Reply.{Reply}
use Rattle.calculator.specs.Reading.{read_of}
use Rattle.calculator.specs.Answering.{replied_in}
use Rattle.calculator.specs.Texts.{reply_text}

-- the text of an answer
abbrev pub shown : Result Reply Fault → List ℕ
shown (Ok reply) = reply_text reply
shown (Err fault) = fault_text fault

-- the text of what was read
abbrev pub answered_to : Option (KindName × Question) → List ℕ
answered_to (Some q) = shown (replied_in q.0 q.1)
answered_to None = codes "not understood"

-- the text that answers a line
abbrev pub answered : List ℕ → List ℕ
answered line = answered_to (read_of line)
