-- What is printed of a reply.
use Rattle.std.specs.Prelude.{ℕ, Bool, true, false, cond, List, ◌++◌, ℤ, pos, negsuc, codes, ◌==◌}
use Rattle.std.specs.Fmt.{signed_decimal}
use Rattle.calculator.specs.declared.answering.Reply.{Reply}
use Rattle.calculator.specs.declared.answering.Reply.TheVariants.{Number, Truth}

-- is it 1
abbrev pub is_one : ℤ → Bool
is_one (pos d) = d == 1
is_one (negsuc d) = false

-- n / d, and n alone over 1
abbrev pub terms_text : ℤ → ℤ → List ℕ
terms_text n d = cond (is_one d) (signed_decimal n) (signed_decimal n ++ (codes "/" ++ signed_decimal d))

-- the text of a reply
abbrev pub reply_text : Reply → List ℕ
reply_text (Number n d) = terms_text n d
reply_text (Truth true) = codes "true"
reply_text (Truth false) = codes "false"
