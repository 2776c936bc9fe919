-- The texts and the runs, by computation: each equation by itself, and the runs over the lines that a text says.
use Rattle.std.proofs.Common.{◌≡◌, ℕ, Bool, true, cond, List, [], ◌∷◌, map, Some, Ok, Option, sym, refl, subst}
use Rattle.std.specs.Fmt.{digits}
use Rattle.number.specs.declared.Pair.{Pair}
use Rattle.number.specs.Gcd.{gcd, steps}
use Rattle.number.specs.Lowest.{lowest}
use Rattle.number.specs.Frac.{Frac, naught, norm, whole}
use Rattle.kinds.specs.Fractions.{made, frac_of, pair_of}
use Rattle.kinds.specs.Thousandths.{thousand_of, counted, count_of}
use Rattle.script.specs.Reading.{entries}
use Rattle.motion.specs.Lines.{Line}
use Rattle.motion.specs.NextLine.{declared}
use Rattle.motion.specs.Pairs.{numbers_of}
use Rattle.motion.specs.Machine.{Answer, refused, new, advance}
use Rattle.motion.specs.Fitting.{fits, advance_call}
use Rattle.motion.specs.Marked.{A, B, C, D, w, thousands}
use Rattle.motion.proofs.Marked.{marked}
use Rattle.checker.specs.Checking.{check_of}
use Rattle.marked.specs.Texts.{text_a, text_b, text_c, text_d}
use Rattle.marked.specs.Runs.{Says, Passes, MarkedFromText, lines_in, answer_from}

-- The lines of a text, the declared values in a kind, and that a new bench fits.
record SetUp (means : Pair → Option Frac) (code : Frac → Option Pair) (text : List ℕ) (fields : ℕ) (script : List Line) (values : List Pair) : Type 0 where
  said : lines_in text ≡ script
  checked : check_of means code text fields (entries text) ≡ Ok tt
  held : map code (declared script) ≡ map Some values
  fitting : fits (numbers_of means code) script (new script values) ≡ true

module _ {means : Pair → Option Frac} {code : Frac → Option Pair} {text : List ℕ} {fields : ℕ} {script : List Line} {values : List Pair} (s : SetUp means code text fields script values) where
  passes : Passes means code text fields values
  passes = record { checked = s.checked; held = subst (λ l. map code (declared l) ≡ map Some values) (sym s.said) s.held }

  -- what is answered over the lines is answered from the text
  run : (ticks allowance : ℕ) {answer : Answer Pair} → advance (numbers_of means code) script (new script values) ticks allowance ≡ answer → answer_from means code text values ticks allowance ≡ answer
  run t a {answer} e =
      subst (λ l. advance_call (numbers_of means code) l (new l values) t a ≡ answer) (sym s.said) (
      subst (λ (b : Bool). cond b (advance (numbers_of means code) script (new script values) t a) (refused 18 0 0) ≡ answer) (sym s.fitting) e)

a_said : lines_in text_a ≡ A
unfolding gcd steps lowest naught norm whole
a_said = refl

a_says : Says text_a 8 26 A
a_says = record { read = refl; said = a_said }

in_a : SetUp frac_of pair_of text_a 26 A (w 0 ∷ w 0 ∷ [])
unfolding gcd steps lowest naught norm whole made frac_of pair_of
in_a = record { said = a_said; checked = refl; held = refl; fitting = refl }

b_said : lines_in text_b ≡ B
unfolding gcd steps lowest naught norm whole
b_said = refl

b_says : Says text_b 4 13 B
b_says = record { read = refl; said = b_said }

in_b : SetUp frac_of pair_of text_b 13 B (w 1 ∷ [])
unfolding gcd steps lowest naught norm whole made frac_of pair_of
in_b = record { said = b_said; checked = refl; held = refl; fitting = refl }

c_said : lines_in text_c ≡ C
unfolding gcd steps lowest naught norm whole
c_said = refl

c_says : Says text_c 5 16 C
c_says = record { read = refl; said = c_said }

in_c : SetUp frac_of pair_of text_c 16 C (w 2147000000 ∷ w 2000 ∷ [])
unfolding gcd steps lowest naught norm whole made frac_of pair_of
in_c = record { said = c_said; checked = refl; held = refl; fitting = refl }

d_said : lines_in text_d ≡ D
unfolding gcd steps lowest naught norm whole
d_said = refl

d_says : Says text_d 4 14 D
d_says = record { read = refl; said = d_said }

in_d : SetUp frac_of pair_of text_d 14 D (w 1 ∷ [])
unfolding gcd steps lowest naught norm whole made frac_of pair_of
in_d = record { said = d_said; checked = refl; held = refl; fitting = refl }

-- the same in thousandths
in_thousandths : SetUp thousand_of count_of text_b 13 B (thousands 1 ∷ [])
unfolding gcd steps lowest naught norm whole thousand_of counted
in_thousandths = record { said = b_said; checked = refl; held = refl; fitting = refl }

pub computed : MarkedFromText
unfolding gcd steps lowest naught norm made frac_of digits
computed = record {
  a_says = a_says;
  b_says = b_says;
  c_says = c_says;
  d_says = d_says;
  a_passes = passes in_a;
  b_passes = (passes in_b, passes in_thousandths);
  c_passes = passes in_c;
  d_passes = passes in_d;
  run1 = run in_a 5 10 marked.one;
  written1 = refl;
  run2 = run in_a 10 10 marked.two;
  run3 = run in_a 23 10 marked.three;
  written3 = refl;
  run4 = (run in_b 0 61 marked.four.0, run in_b 0 62 marked.four.1);
  run5 = (run in_thousandths 0 7 marked.five.0, run in_thousandths 0 8 marked.five.1);
  run6 = run in_c 281 10 marked.six;
  run7 = run in_c 282 10 marked.seven;
  run8 = (run in_d 0 10 marked.eight.0, run in_d 1 10 marked.eight.1);
}
