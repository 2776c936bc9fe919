-- The line of a bench: the word, four counts and the values, with commas between them, and a line feed.
use Rattle.std.specs.Prelude.{ℕ, Bool, cond, ◌&&◌, List, [], ◌∷◌, ◌++◌, length, drop, pos, is_some, Some, None, codes, Option, nat_le}
use Rattle.std.specs.List.{list_all, flat_map}
use Rattle.number.specs.declared.Pair.{Pair}
use Rattle.number.specs.Frac.{Frac}
use Rattle.motion.specs.Machine as M
use Rattle.record.specs.declared.Bench.{Bench}
use Rattle.record.specs.Benches.{pairs_of}
use Rattle.handover.specs.Texts.{count_text, terms_text}

-- the word and the four counts
abbrev pub head_text : (line left total over : ℕ) → List ℕ
head_text line left total over = codes "bench" ++ (count_text line ++ (count_text left ++ (count_text total ++ count_text over)))

-- each value behind a comma, as f writes it
abbrev pub fields_by : {V : Type 0} → (V → List ℕ) → List V → List ℕ
fields_by f vs = flat_map (λ v. 44 ∷ f v) vs

-- the line of a bench whose values f writes
abbrev pub text_by : {V : Type 0} → (V → List ℕ) → M.Bench V → List ℕ
text_by f b = head_text b.line b.left b.total b.over ++ (fields_by f b.values ++ 10 ∷ [])

-- a fraction in lowest terms: the numerator, and where the denominator is not 1 a slash and the denominator
abbrev pub fraction_text : Frac → List ℕ
fraction_text q = terms_text q.num (pos q.den)

-- the line of a bench whose values are fractions
abbrev pub text_of : M.Bench Frac → List ℕ
text_of w = text_by fraction_text w

-- what is written of a number, by what it means
abbrev pub meant_text : Option Frac → List ℕ
meant_text (Some q) = fraction_text q
meant_text None = []

-- the line of a bench whose values are numbers of a kind
abbrev pub line_of : (Pair → Option Frac) → M.Bench Pair → List ℕ
line_of means b = text_by (λ p. meant_text (means p)) b

-- are all these numbers of the kind
abbrev pub all_meant : (Pair → Option Frac) → List Pair → Bool
all_meant means ps = list_all (λ p. is_some (means p)) ps

-- has the bench a line: not too many values, and all of the kind
abbrev pub writable : (Pair → Option Frac) → Bench → Bool
writable means b = nat_le b.values.count 16 && all_meant means (pairs_of b.values)

-- what a buffer holds when a line was written to it: the line and what stood behind it, or what stood in it where it is too short
abbrev pub copied : (line old : List ℕ) → List ℕ
copied line old = cond (nat_le (length line) (length old)) (line ++ drop (length line) old) old
