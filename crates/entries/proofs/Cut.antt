-- Two lists cut to the shorter of them: the parts and the rate lines that they stand for stay. Assumes nothing.
use Rattle.std.proofs.Common.{◌≡◌, ℕ, zero, suc, ◌-◌, List, [], ◌∷◌, length, take, drop, Option, min, sym, refl, ap, ◌∙◌, arith}
use Rattle.std.proofs.lemmas.List.{take_min}
use Rattle.script.specs.declared.words.LineWord.{LineWord}
use Rattle.script.specs.declared.words.LineWord.TheVariants as w
use Rattle.script.specs.declared.reading.Entry.{Entry}
use Rattle.motion.specs.Lines.{Line, Part, Rate}
use Rattle.motion.specs.NextLine.{rates}
use Rattle.entries.specs.declared.rows.Row.{Row}
use Rattle.entries.specs.Decoding.{or_none, part_of, parts_of, line_by, rows_lines}

-- no parts of no entries, of one, or over no places
parts_of_none : (n : ℕ) (xs : List (Option ℕ)) → parts_of (take n []) xs ≡ []
parts_of_none zero xs = refl
parts_of_none (suc n) xs = refl

parts_of_one : (n : ℕ) (c : Entry) (xs : List (Option ℕ)) → parts_of (c ∷ take n []) xs ≡ []
parts_of_one zero c xs = refl
parts_of_one (suc n) c xs = refl

parts_no_place : (n : ℕ) (es : List Entry) → parts_of es (take n []) ≡ []
parts_no_place zero [] = refl
parts_no_place zero (c ∷ []) = refl
parts_no_place zero (c ∷ v ∷ es) = refl
parts_no_place (suc n) [] = refl
parts_no_place (suc n) (c ∷ []) = refl
parts_no_place (suc n) (c ∷ v ∷ es) = refl

-- the parts of all of them
parts_cut : (es : List Entry) (xs : List (Option ℕ)) → parts_of (take (length xs) es) (take (length es) xs) ≡ parts_of es xs
parts_cut [] xs = parts_of_none (length xs) (take 0 xs)
parts_cut (c ∷ es) [] = sym (parts_no_place 0 (c ∷ es))
parts_cut (c ∷ []) (y ∷ xs) = parts_of_one (length xs) c (y ∷ [])
parts_cut (c ∷ v ∷ es) (y ∷ []) = refl
parts_cut (c ∷ v ∷ es) (y ∷ x ∷ xs) = ap (λ (ps : List Part). part_of c.token v.token x ∷ ps) (parts_cut es xs)

-- those of the first n
parts_front_cut : (n : ℕ) (es : List Entry) (xs : List (Option ℕ)) → parts_of (take n (take (length xs) es)) (take n (take (length es) xs)) ≡ parts_of (take n es) (take n xs)
parts_front_cut zero es xs = refl
parts_front_cut (suc n) [] [] = refl
parts_front_cut (suc n) [] (x ∷ xs) = refl
parts_front_cut (suc n) (c ∷ es) [] = sym (parts_no_place 0 (take (suc n) (c ∷ es)))
parts_front_cut (suc n) (c ∷ []) (y ∷ []) = refl
parts_front_cut (suc n) (c ∷ []) (y ∷ x ∷ xs) = parts_of_one n c (y ∷ take n []) ∙ sym (parts_of_one n c (y ∷ take n (x ∷ xs)))
parts_front_cut (suc zero) (c ∷ v ∷ es) (y ∷ xs) = refl
parts_front_cut (suc (suc n)) (c ∷ v ∷ es) (y ∷ []) = refl
parts_front_cut (suc (suc n)) (c ∷ v ∷ es) (y ∷ x ∷ xs) = ap (λ (ps : List Part). part_of c.token v.token x ∷ ps) (parts_front_cut n es xs)

-- those of the first n behind the first f
parts_between_cut : (n f : ℕ) (es : List Entry) (xs : List (Option ℕ)) → parts_of (take n (drop f (take (length xs) es))) (take n (drop f (take (length es) xs))) ≡ parts_of (take n (drop f es)) (take n (drop f xs))
parts_between_cut n zero es xs = parts_front_cut n es xs
parts_between_cut n (suc f) [] [] = refl
parts_between_cut n (suc f) [] (x ∷ xs) = parts_of_none n _ ∙ sym (parts_of_none n _)
parts_between_cut n (suc f) (e ∷ es) [] = parts_of_none n _ ∙ sym (parts_no_place n _)
parts_between_cut n (suc f) (e ∷ es) (x ∷ xs) = parts_between_cut n f es xs

-- a line more
line_more : (k : LineWord) (x : Option ℕ) (es ds : List Entry) (xs ys : List (Option ℕ)) (ls ms : List Line) → parts_of es xs ≡ parts_of ds ys → rates ls ≡ rates ms → rates (line_by k x es xs ∷ ls) ≡ rates (line_by k x ds ys ∷ ms)
line_more w.Var x es ds xs ys ls ms p r = refl
line_more w.Set x es ds xs ys ls ms p r = refl
line_more w.Run x es ds xs ys ls ms p r = refl
line_more w.Rate x es ds xs ys ls ms p r =
    let a : ◌≡◌ {A = Rate} (record { name = or_none x; parts = parts_of es xs }) (record { name = or_none x; parts = parts_of ds ys }) = ap (λ (ps : List Part). record { name = or_none x; parts = ps }) p in
    cc
line_more w.If x es ds xs ys ls ms p r = refl
line_more w.Else x es ds xs ys ls ms p r = refl
line_more w.While x es ds xs ys ls ms p r = refl
line_more w.End x es ds xs ys ls ms p r = refl

-- the rate lines that rows over them stand for
rates_cut : (es : List Entry) (xs : List (Option ℕ)) (rows : List Row) → rates (rows_lines (take (length xs) es) (take (length es) xs) rows) ≡ rates (rows_lines es xs rows)
rates_cut es xs [] = refl
rates_cut es xs (r ∷ rows) = line_more r.word r.name _ _ _ _ _ _ (parts_between_cut (r.to - r.from) r.from es xs) (rates_cut es xs rows)

-- both go as far as the shorter
to_shorter : {A B : Type 0} (n : ℕ) (xs : List A) (ys : List B) → n ≡ min (length xs) (length ys) → (take n xs ≡ take (length ys) xs) × (take n ys ≡ take (length xs) ys)
to_shorter n xs ys e =
    let o : n ≡ min (length ys) (length xs) = omega arith in
    (ap (λ (m : ℕ). take m xs) o ∙ take_min (length ys) xs, ap (λ (m : ℕ). take m ys) e ∙ take_min (length xs) ys)

-- the parts of both, cut to the shorter, and the rate lines that rows over them stand for
pub parts_of_cut : (n : ℕ) (es : List Entry) (xs : List (Option ℕ)) → n ≡ min (length es) (length xs) → parts_of (take n es) (take n xs) ≡ parts_of es xs
parts_of_cut n es xs e =
    let s = to_shorter n es xs e in
    rw s.0 (rw s.1 (parts_cut es xs))

pub rates_of_cut : (n : ℕ) (es : List Entry) (xs : List (Option ℕ)) (rows : List Row) → n ≡ min (length es) (length xs) → rates (rows_lines (take n es) (take n xs) rows) ≡ rates (rows_lines es xs rows)
rates_of_cut n es xs rows e =
    let s = to_shorter n es xs e in
    rw s.0 (rw s.1 (rates_cut es xs rows))
