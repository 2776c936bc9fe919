-- What reading some texts answers, by the definitions. Assumes nothing.
use Rattle.std.specs.Prelude.{◌≡◌, replicate, Ok, Err, codes}
use Rattle.script.specs.declared.refusals.Reason.TheVariants.{TextTooLong, NoLineFeedAtEnd, StrayByte, NoLineWord, FieldCount, FieldForm, TableTooShort}
use Rattle.refusal.specs.Refusals.{refused}
use Rattle.script.specs.Reading.{read_of}

-- two texts that are accepted, and one for each refusal but that of too many lines
abbrev pub Examples : Type 0
Examples =
    (read_of (codes "") 0 ≡ Ok (0, 0)) ×
    (read_of (codes "var,p,0\nrun,10\nrate,p,-3/4,one\n") 9 ≡ Ok (3, 9)) ×
    (read_of (replicate 16385 97) 9 ≡ Err (refused TextTooLong 0 0)) ×
    (read_of (codes "end\nend") 9 ≡ Err (refused NoLineFeedAtEnd 2 0)) ×
    (read_of (codes "end\nvar,x,A\n") 9 ≡ Err (refused StrayByte 2 3)) ×
    (read_of (codes "end\nadd\n") 9 ≡ Err (refused NoLineWord 2 1)) ×
    (read_of (codes "end,\n") 9 ≡ Err (refused FieldCount 1 0)) ×
    (read_of (codes "var,x,01\nfoo\n") 9 ≡ Err (refused FieldForm 1 3)) ×
    (read_of (codes "run,1\nrun,1\n") 3 ≡ Err (refused TableTooShort 0 0))
