-- The answer for a script that passed. Assumes nothing.
use Rattle.std.proofs.Common.{◌≡◌, ℕ, List, length, take, Ok, Option, sym, ap, ◌∙◌}
use Rattle.script.specs.declared.reading.Entry.{Entry}
use Rattle.number.specs.declared.Pair.{Pair}
use Rattle.number.specs.Frac.{Frac}
use Rattle.checker.specs.declared.lines.Past.{Past}
use Rattle.entries.specs.Fields.{lines}
use Rattle.checker.specs.Conditions.{lines_check, at_first}
use Rattle.checker.specs.Checking.{check_of}
use Rattle.check_listing.specs.Answers.{size, variables, checked, answer_for}

module _ (means : Pair → Option Frac) (code : Frac → Option Pair) where
  -- its variables are those known behind the last line, and its lines those of its entries
  pub passed_answer : (text : List ℕ) (fields : ℕ) (table : List Entry) (t : List ℕ) (es : List Entry) (p : Past) (v l : ℕ) → t ≡ text → es ≡ take fields table → Ok tt ≡ check_of means code text fields table → lines_check means code t at_first (lines es) ≡ Ok p → v ≡ p.declared → l ≡ length (lines es) → Ok (size v l) ≡ answer_for means code text fields table
  passed_answer text fields table t es p v l e f a h vs ls =
      let known : lines_check means code text at_first (lines (take fields table)) ≡ Ok p =
      ap (λ x. lines_check means code x at_first (lines (take fields table))) (sym e) ∙ ap (λ x. lines_check means code t at_first (lines x)) (sym f) ∙ h in
      let n = length (lines (take fields table)) in
      ap (λ k. Ok (size k l)) vs ∙ ap (λ k. Ok (size p.declared k)) (ls ∙ ap (λ x. length (lines x)) f)
      ∙ sym (ap (λ r. checked r (variables (lines_check means code text at_first (lines (take fields table)))) n) (sym a) ∙ ap (λ r. checked (Ok tt) (variables r) n) known)
