-- How a line is read as a question to a kind.
use Rattle.std.specs.Prelude.{ℕ, ◌^◌, Bool, cond, ◌&&◌, List, [], ◌∷◌, length, ℤ, pos, Some, None, codes, Option, ◌==◌, nat_lt}
use Rattle.std.specs.Int.Signed.{mag}
use Rattle.std.specs.Borrow.{Bor}
use Rattle.std.specs.Str.Parse.{without_leading_plus, without_leading_sign, digits_value, signed_digits_value}
use Rattle.std.specs.Str.{all_ascii_digits, bytes_eq}
use Rattle.calculator.specs.declared.reading.KindName.{KindName}
use Rattle.calculator.specs.declared.reading.KindName.TheVariants.{Fractions, Thousandths, Small}
use Rattle.number.specs.declared.Operation.{Operation}
use Rattle.number.specs.declared.Operation.TheVariants.{Add, Sub, Mul, Div, Lt, Le}
use Rattle.calculator.specs.declared.reading.Ratio.{Ratio}
use Rattle.calculator.specs.declared.reading.Question.{Question}
use Rattle.calculator.specs.declared.reading.Question.TheVariants.{Take, Two, Scale}

-- f of what is there
abbrev pub if_some : {A B : Type 0} → Option A → (A → Option B) → Option B
if_some None f = None
if_some (Some x) f = f x

-- the bytes of two parts
abbrev pub both_now : Bor (List ℕ) × Bor (List ℕ) → List ℕ × List ℕ
both_now p = (p.0.now, p.1.now)

-- a byte put before the first of two parts
abbrev pub onto : ℕ → Option (List ℕ × List ℕ) → Option (List ℕ × List ℕ)
onto b None = None
onto b (Some p) = Some (b ∷ p.0, p.1)

-- the bytes before and after the first c
abbrev pub parted : ℕ → List ℕ → Option (List ℕ × List ℕ)
parted c [] = None
parted c (b ∷ bs) = cond (b == c) (Some ([], bs)) (onto b (parted c bs))

-- one digit or more
abbrev pub numeral : List ℕ → Bool
numeral ds = nat_lt 0 (length ds) && all_ascii_digits ds

-- a whole number of 64 bits with its sign
abbrev pub integer_of : List ℕ → Option ℤ
integer_of bs = cond (numeral (without_leading_sign bs) && nat_lt (mag (signed_digits_value 10 bs)) (2 ^ 63)) (Some (signed_digits_value 10 bs)) None

-- a whole number of 32 bits without sign
abbrev pub natural_of : List ℕ → Option ℕ
natural_of bs = cond (numeral (without_leading_plus bs) && nat_lt (digits_value 10 (without_leading_plus bs)) (2 ^ 32)) (Some (digits_value 10 (without_leading_plus bs))) None

-- `N/D`, or `N` for N/1
abbrev pub ratio_from : List ℕ → Option (List ℕ × List ℕ) → Option Ratio
ratio_from bs (Some p) = if_some (integer_of p.0) (λ n. if_some (integer_of p.1) (λ d. Some (record { n = n; d = d })))
ratio_from bs None = if_some (integer_of bs) (λ n. Some (record { n = n; d = pos 1 }))

-- a fraction as written
abbrev pub ratio_of : List ℕ → Option Ratio
ratio_of bs = ratio_from bs (parted 47 bs)

-- `X,Y` for an operation on two numbers
abbrev pub two_of : List ℕ → Operation → Option Question
two_of bs o = if_some (parted 44 bs) (λ p. if_some (ratio_of p.0) (λ x. if_some (ratio_of p.1) (λ y. Some (Two o x y))))

-- `X,N,K` for scaling
abbrev pub scaling_of : List ℕ → Option Question
scaling_of bs = if_some (parted 44 bs) (λ p. if_some (parted 44 p.1) (λ q. if_some (ratio_of p.0) (λ x. if_some (natural_of q.0) (λ n. if_some (natural_of q.1) (λ k. Some (Scale x n k))))))

-- the operation of a word
abbrev pub operation_of : List ℕ → Option Operation
operation_of w =
    cond (bytes_eq w (codes "add")) (Some Add)
    (cond (bytes_eq w (codes "sub")) (Some Sub)
    (cond (bytes_eq w (codes "mul")) (Some Mul)
    (cond (bytes_eq w (codes "div")) (Some Div)
    (cond (bytes_eq w (codes "lt")) (Some Lt)
    (cond (bytes_eq w (codes "le")) (Some Le) None)))))

-- the question of a word and what follows it
abbrev pub question_of : List ℕ → List ℕ → Option Question
question_of w bs =
    cond (bytes_eq w (codes "take")) (if_some (ratio_of bs) (λ x. Some (Take x)))
    (cond (bytes_eq w (codes "scale")) (scaling_of bs)
    (if_some (operation_of w) (two_of bs)))

-- the kind of a word
abbrev pub kind_of : List ℕ → Option KindName
kind_of w =
    cond (bytes_eq w (codes "fractions")) (Some Fractions)
    (cond (bytes_eq w (codes "thousandths")) (Some Thousandths)
    (cond (bytes_eq w (codes "small")) (Some Small) None))

-- `WORD,..`
abbrev pub question_from : List ℕ → Option Question
question_from bs = if_some (parted 44 bs) (λ q. question_of q.0 q.1)

-- `KIND,WORD,..`
abbrev pub read_of : List ℕ → Option (KindName × Question)
read_of line = if_some (parted 44 line) (λ p. if_some (kind_of p.0) (λ k. if_some (question_from p.1) (λ x. Some (k, x))))
