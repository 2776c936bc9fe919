-- The bench of a line: its fields are read, the line that they have is compared with it, and the values are taken by the kind.
use Rattle.std.specs.Prelude.{ℕ, ◌+◌, cond, ◌&&◌, List, [], ◌∷◌, length, drop, pos, Some, None, Ok, Err, Option, Result, int_le, nat_lt, slice_index_or, unsigned_abs}
use Rattle.std.specs.Result.{result_map_both}
use Rattle.std.specs.Str.{bytes_eq}
use Rattle.number.specs.declared.Pair.{Pair}
use Rattle.number.specs.declared.Fault.{Fault}
use Rattle.number.specs.Frac.{Frac}
use Rattle.number.specs.Kind.{taken}
use Rattle.kinds.specs.Fractions.{frac_of}
use Rattle.motion.specs.Machine as M
use Rattle.record.specs.declared.Bench.{Bench}
use Rattle.record.specs.Refusals.{Refusal}
use Rattle.record.specs.declared.Reason.TheVariants.{LineForm, ValueNotHeld}
use Rattle.record.specs.declared.Values.{Values}
use Rattle.record.specs.Benches.{pairs_of, bench_of}
use Rattle.refusal.specs.Refusals.{refused}
use Rattle.handover.specs.Texts.{is_one}
use Rattle.handover.specs.Lines.{all_meant, line_of}
use Rattle.handover.specs.Scans.{blank, scanned}

-- f of a value, if there is one
abbrev pub then : {A B : Type 0} → Option A → (A → Option B) → Option B
then (Some a) f = f a
then None f = None

-- the count that a field is, if it is a whole number from the least to the most
abbrev pub count_of : (least most : ℕ) → Pair → Option ℕ
count_of least most p = cond (is_one p.b && (int_le (pos least) p.a && int_le p.a (pos most))) (Some (unsigned_abs p.a)) None

-- what stands for a field that is not there
abbrev pub no_field : Pair
no_field = record { a = pos 0; b = pos 0 }

-- the bench of fields: behind the word the line, the ticks left, the total and the ticks over, and then the values
abbrev pub counted : List Pair → Option (M.Bench Pair)
counted fs =
    then (count_of 1 257 (slice_index_or fs 1 no_field)) (λ line.
    then (count_of 0 2147483647 (slice_index_or fs 2 no_field)) (λ left.
    then (count_of 0 2147483647 (slice_index_or fs 3 no_field)) (λ total.
    then (count_of 0 2147483647 (slice_index_or fs 4 no_field)) (λ over.
    Some (record { line = line; left = left; total = total; over = over; values = drop 5 fs })))))

-- the same, if there are as many
abbrev pub bench_from : List Pair → Option (M.Bench Pair)
bench_from fs = cond (nat_lt (length fs) 5) None (counted fs)

-- the bench, if its line is these bytes
abbrev pub if_same : List ℕ → M.Bench Pair → Option (M.Bench Pair)
if_same bytes b = cond (all_meant frac_of b.values && bytes_eq (line_of frac_of b) bytes) (Some b) None

-- the bench of these bytes with fractions for values, if they have the form
abbrev pub read_of : List ℕ → Option (M.Bench Pair)
read_of bytes = then (bench_from (scanned [] blank bytes)) (if_same bytes)

-- a value before others
abbrev pub before : Pair → Result (List Pair) Refusal → Result (List Pair) Refusal
before p r = result_map_both (λ ps. p ∷ ps) (λ e. e) r

-- the value in this field before others, if it is held
abbrev pub if_held : ℕ → Result Pair Fault → Result (List Pair) Refusal → Result (List Pair) Refusal
if_held field (Ok p) r = before p r
if_held field (Err e) r = Err (refused ValueNotHeld 0 field)

-- fractions as numbers of the kind, of which the first stands in this field
abbrev pub held_from : (means : Pair → Option Frac) (code : Frac → Option Pair) → ℕ → List Pair → Result (List Pair) Refusal
held_from means code field [] = Ok []
held_from means code field (p ∷ ps) = if_held field (taken means code p.a p.b) (held_from means code (field + 1) ps)

-- the bench with other values, if there are some
abbrev pub with_values : M.Bench Pair → Result (List Pair) Refusal → Result (M.Bench Pair) Refusal
with_values b r = result_map_both (λ vs. record { line = b.line; left = b.left; total = b.total; over = b.over; values = vs }) (λ e. e) r

-- the bench with numbers of the kind for values, if the bytes had the form
abbrev pub answered : (means : Pair → Option Frac) (code : Frac → Option Pair) → Option (M.Bench Pair) → Result (M.Bench Pair) Refusal
answered means code (Some b) = with_values b (held_from means code 6 b.values)
answered means code None = Err (refused LineForm 0 0)

-- the bench that is taken up from these bytes
abbrev pub taken_up : (means : Pair → Option Frac) (code : Frac → Option Pair) → List ℕ → Result (M.Bench Pair) Refusal
taken_up means code bytes = answered means code (read_of bytes)

-- an answer with the bench of its record
abbrev pub plainly : Result Bench Refusal → Result (M.Bench Pair) Refusal
plainly r = result_map_both bench_of (λ e. e) r

-- an answer with the values that count
abbrev pub values_of : Result Values Refusal → Result (List Pair) Refusal
values_of r = result_map_both pairs_of (λ e. e) r
