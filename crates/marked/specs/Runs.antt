-- The eight marked runs, from the texts of their scripts to what is answered and written. Assumes nothing.
use Rattle.std.specs.Prelude.{◌≡◌, ℕ, List, [], ◌∷◌, map, Some, Ok, codes, Option}
use Rattle.script.specs.Reading.{read_of, entries}
use Rattle.number.specs.declared.Pair.{Pair}
use Rattle.number.specs.Frac.{Frac}
use Rattle.kinds.specs.Fractions.{frac_of, pair_of}
use Rattle.kinds.specs.Thousandths.{thousand_of, count_of}
use Rattle.motion.specs.Lines.{Line}
use Rattle.motion.specs.NextLine.{declared}
use Rattle.motion.specs.Pairs.{numbers_of}
use Rattle.motion.specs.Machine.{Answer, accepted, refused, new}
use Rattle.motion.specs.Fitting.{advance_call}
use Rattle.motion.specs.Marked.{A, B, C, D, w, thousands, bench}
use Rattle.entries.specs.Fields.{lines}
use Rattle.entries.specs.Decoding.{script_of}
use Rattle.checker.specs.Checking.{check_of}
use Rattle.handover.specs.Lines.{line_of}
use Rattle.marked.specs.Texts.{text_a, text_b, text_c, text_d}

-- the lines that a text says
abbrev pub lines_in : List ℕ → List Line
lines_in text = script_of text (lines (entries text))

-- A text is read, with so many lines and fields, and says these lines.
pub record Says (text : List ℕ) (number fields : ℕ) (script : List Line) : Type 0 where
  pub read : read_of text 4608 ≡ Ok (number, fields)
  pub said : lines_in text ≡ script

module _ (means : Pair → Option Frac) (code : Frac → Option Pair) where
  -- A text of so many fields passes its check for a kind, in which these pairs are the declared values.
  pub record Passes (text : List ℕ) (fields : ℕ) (values : List Pair) : Type 0 where
    pub checked : check_of means code text fields (entries text) ≡ Ok tt
    pub held : map code (declared (lines_in text)) ≡ map Some values

  -- the answer to an advance of a new bench of a text, with these first values
  abbrev pub answer_from : List ℕ → List Pair → (ticks allowance : ℕ) → Answer Pair
  answer_from text values ticks allowance = advance_call (numbers_of means code) (lines_in text) (new (lines_in text) values) ticks allowance

-- The four texts and the eight runs: steps and ticks over with the bench after it, or a refusal with its line and field.
pub record MarkedFromText : Type 0 where
  pub a_says : Says text_a 8 26 A
  pub b_says : Says text_b 4 13 B
  pub c_says : Says text_c 5 16 C
  pub d_says : Says text_d 4 14 D
  pub a_passes : Passes frac_of pair_of text_a 26 (w 0 ∷ w 0 ∷ [])
  pub b_passes : Passes frac_of pair_of text_b 13 (w 1 ∷ []) × Passes thousand_of count_of text_b 13 (thousands 1 ∷ [])
  pub c_passes : Passes frac_of pair_of text_c 16 (w 2147000000 ∷ w 2000 ∷ [])
  pub d_passes : Passes frac_of pair_of text_d 14 (w 1 ∷ [])
  pub run1 : answer_from frac_of pair_of text_a (w 0 ∷ w 0 ∷ []) 5 10 ≡ accepted 1 0 (bench 3 5 5 0 (w 25 ∷ w 10 ∷ []))
  pub written1 : line_of frac_of (bench 3 5 5 0 (w 25 ∷ w 10 ∷ [])) ≡ codes "bench,3,5,5,0,25,10\n"
  pub run2 : answer_from frac_of pair_of text_a (w 0 ∷ w 0 ∷ []) 10 10 ≡ accepted 2 0 (bench 6 10 10 0 (w 100 ∷ w 20 ∷ []))
  pub run3 : answer_from frac_of pair_of text_a (w 0 ∷ w 0 ∷ []) 23 10 ≡ accepted 2 3 (bench 9 0 23 3 (w 200 ∷ w 0 ∷ []))
  pub written3 : line_of frac_of (bench 9 0 23 3 (w 200 ∷ w 0 ∷ [])) ≡ codes "bench,9,0,23,3,200,0\n"
  pub run4 : (answer_from frac_of pair_of text_b (w 1 ∷ []) 0 61 ≡ refused 20 3 0) × (answer_from frac_of pair_of text_b (w 1 ∷ []) 0 62 ≡ refused 23 3 5)
  pub run5 : (answer_from thousand_of count_of text_b (thousands 1 ∷ []) 0 7 ≡ refused 20 3 0) × (answer_from thousand_of count_of text_b (thousands 1 ∷ []) 0 8 ≡ refused 23 3 5)
  pub run6 : answer_from frac_of pair_of text_c (w 2147000000 ∷ w 2000 ∷ []) 281 10 ≡ accepted 1 0 (bench 3 1719 281 0 (w 2147483039 ∷ w 1438 ∷ []))
  pub run7 : answer_from frac_of pair_of text_c (w 2147000000 ∷ w 2000 ∷ []) 282 10 ≡ refused 24 3 0
  pub run8 : (answer_from frac_of pair_of text_d (w 1 ∷ []) 0 10 ≡ accepted 1 0 (bench 2 1 0 0 (w 1 ∷ []))) × (answer_from frac_of pair_of text_d (w 1 ∷ []) 1 10 ≡ refused 21 4 5)
