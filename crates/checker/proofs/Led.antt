-- Where a run goes on behind each line, found one after the other. Assumes nothing.
use Rattle.std.proofs.Common.{◌≡◌, ℕ, ◌+◌, ◌<◌, ◌≢◌, List, [], ◌∷◌, map, length, get_or, set, Option, sym, refl, ap, ◌∙◌, arith, below_more}
use Rattle.std.proofs.lemmas.List.{get_or-set_same, get_or-set_other}
use Rattle.script.specs.declared.words.LineWord.{LineWord}
use Rattle.script.specs.declared.words.LineWord.TheVariants as w
use Rattle.script.specs.declared.reading.Entry.{Entry}
use Rattle.motion.specs.LineWords.{word_of}
use Rattle.checker.specs.declared.jumps.Jump.{Jump}
use Rattle.entries.specs.declared.rows.Row.{Row}
use Rattle.entries.specs.Decoding.{line_by, part, rows_lines}

word_by : (v : LineWord) (x : Option ℕ) (es : List Entry) (xs : List (Option ℕ)) → word_of (line_by v x es xs) ≡ v
word_by w.Var x es xs = refl
word_by v x es xs = refl

-- the words of the lines that rows stand for are those of the rows
pub words_of : (es : List Entry) (xs : List (Option ℕ)) (rows : List Row) → map (λ (r : Row). r.word) rows ≡ map word_of (rows_lines es xs rows)
words_of es xs [] = refl
words_of es xs (r ∷ rows) =
    ap (λ v. v ∷ map (λ (s : Row). s.word) rows) (sym (word_by r.word r.name (part r.from r.to es) (part r.from r.to xs)))
    ∙ ap (λ vs. word_of (line_by r.word r.name (part r.from r.to es) (part r.from r.to xs)) ∷ vs) (words_of es xs rows)

-- one jump more
pub jump_more : (js : List Jump) (j d : Jump) (n : ℕ) (f g : ℕ → ℕ) → n < length js → j.next ≡ f n → j.past ≡ g n → ((k : ℕ) → k < n → ((get_or js k d).next ≡ f k) × ((get_or js k d).past ≡ g k)) →
    (k : ℕ) → k < n + 1 → ((get_or (set js n j) k d).next ≡ f k) × ((get_or (set js n j) k d).past ≡ g k)
jump_more js j d n f g h p q old =
    below_more (λ k. ((get_or (set js n j) k d).next ≡ f k) × ((get_or (set js n j) k d).past ≡ g k)) n
    (λ k l. let ne : k ≢ n = omega arith in let e : get_or (set js n j) k d ≡ get_or js k d = get_or-set_other js n k j d ne in rw e (old k l))
    (let e : get_or (set js n j) n d ≡ j = get_or-set_same js n j d h in rw e (p, q))
