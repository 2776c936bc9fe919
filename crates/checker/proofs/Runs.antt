-- A walk of five names is found exactly in the runs that break the rule on chains. Assumes nothing.
use Rattle.std.proofs.Common.{◌≡◌, ℕ, ◌+◌, Bool, true, false, not, ◌&&◌, List, [], ◌∷◌, ◌++◌, map, length, Ok, Err, sym, refl, ap, ◌∙◌, subst, append-nil, arith}
use Rattle.std.proofs.lemmas.Bool.{and_parts, cond-true, cond-false}
use Rattle.script.specs.declared.words.LineWord.{LineWord}
use Rattle.script.specs.declared.words.LineWord.TheVariants as w
use Rattle.script.specs.declared.places.Place.{Place}
use Rattle.script.specs.declared.reading.Entry.{Entry}
use Rattle.motion.specs.Lines.{Line, Rate}
use Rattle.motion.specs.Chains.{starts}
use Rattle.motion.specs.NextLine.{rates}
use Rattle.motion.specs.NameChains.{BreaksRule}
use Rattle.motion.proofs.Chains.{shallow_told, started}
use Rattle.motion.proofs.NameChains.{chains_ruled, rule_kept}
use Rattle.checker.specs.declared.refusals.Reason.TheVariants.{Chains}
use Rattle.refusal.specs.Refusals.{refused}
use Rattle.entries.specs.Decoding.{line_of, of_word}
use Rattle.checker.specs.Chains.{is_empty, is_deep, deep_first, chains_check, is_run}
use Rattle.checker.specs.Verdict.{word_on, RunBreaks, RunsKeep}

-- rates with a walk of five names break the rule, and others keep it
deep_breaks : (rs : List Rate) → is_deep rs ≡ true → BreaksRule rs
deep_breaks rs e = by (starts rs 4) refl e
  where
    by : (xs : List ℕ) → starts rs 4 ≡ xs → not (is_empty xs) ≡ true → BreaksRule rs
    by [] s e = cc
    by (x ∷ xs) s e = (chains_ruled rs).1 x (started rs 4 x xs s)

shallow_keeps : (rs : List Rate) → is_deep rs ≡ false → BreaksRule rs → ⊥
shallow_keeps rs e = (rule_kept rs).0 ((shallow_told rs).1 (by (starts rs 4) e))
  where
    by : (xs : List ℕ) → not (is_empty xs) ≡ false → xs ≡ []
    by [] e = refl
    by (x ∷ xs) e = cc

the_run : (v : LineWord) → is_run v ≡ true → v ≡ w.Run
the_run w.Run e = refl
the_run v e = cc

module _ (text : List ℕ) (names : List Place) where
  deep_by : (v : LineWord) (l : List Entry) (ls : List Line) → deep_first (of_word text names v l ∷ ls) ≡ (is_run v && is_deep (rates ls))
  deep_by w.Run l ls = refl
  deep_by v l ls = refl

  abbrev deep : List Entry → List (List Entry) → Bool
  deep l below = deep_first (line_of text names l ∷ map (line_of text names) below)

  deep_told : (l : List Entry) (below : List (List Entry)) → deep l below ≡ true → RunBreaks text names l below
  deep_told l below e =
      let b = and_parts (is_run (word_on l)) _ (sym (deep_by (word_on l) l (map (line_of text names) below)) ∙ e) in
      (the_run (word_on l) b.0, deep_breaks (rates (map (line_of text names) below)) b.1)

  kept_told : (l : List Entry) (below : List (List Entry)) → deep l below ≡ false → RunBreaks text names l below → ⊥
  kept_told l below e b = shallow_keeps (rates (map (line_of text names) below)) (sym (ap (λ (v : LineWord). is_run v && is_deep (rates (map (line_of text names) below))) b.0) ∙ sym (deep_by (word_on l) l (map (line_of text names) below)) ∙ e) b.1

  breaks_deep : (l : List Entry) (below : List (List Entry)) → RunBreaks text names l below → deep l below ≡ true
  breaks_deep l below b = by (deep l below) refl
    where
      by : (v : Bool) → deep l below ≡ v → v ≡ true
      by true e = refl
      by false e = absurd (kept_told l below e b)

  keeps_deep : (l : List Entry) (below : List (List Entry)) → (RunBreaks text names l below → ⊥) → deep l below ≡ false
  keeps_deep l below n = by (deep l below) refl
    where
      by : (v : Bool) → deep l below ≡ v → v ≡ false
      by true e = absurd (n (deep_told l below e))
      by false e = refl

  -- run by run
  pub kept_is : (n : ℕ) (ls : List (List Entry)) → RunsKeep text names ls [] → chains_check n (map (line_of text names) ls) ≡ Ok tt
  kept_is n [] h = refl
  kept_is n (l ∷ ls) h = cond-false (deep l ls) _ _ (subst (λ (below : List (List Entry)). deep l below ≡ false) (append-nil ls) (keeps_deep l (ls ++ []) h.0)) ∙ kept_is (n + 1) ls h.1

  pub broken_in : (n m : ℕ) (before : List (List Entry)) (l : List Entry) (below : List (List Entry)) → m ≡ length before + n → RunsKeep text names before (l ∷ below) → RunBreaks text names l below → chains_check n (map (line_of text names) (before ++ l ∷ below)) ≡ Err (refused Chains m 0)
  broken_in n m [] l below e h b = cond-true (deep l below) _ _ (breaks_deep l below b) ∙ ap (λ (k : ℕ). Err (refused Chains k 0)) (omega arith)
  broken_in n m (x ∷ xs) l below e h b = cond-false (deep x (xs ++ l ∷ below)) _ _ (keeps_deep x (xs ++ l ∷ below) h.0) ∙ broken_in (n + 1) m xs l below (omega arith) h.1 b

  -- all runs keep the rule, or there is a first that breaks it
  pub data LookedAt (ls : List (List Entry)) : Type 0 where
    all_keep : RunsKeep text names ls [] → LookedAt ls
    one_breaks : (before : List (List Entry)) (l : List Entry) (below : List (List Entry)) → ls ≡ before ++ l ∷ below → RunsKeep text names before (l ∷ below) → RunBreaks text names l below → LookedAt ls

  onto : (l : List Entry) (ls : List (List Entry)) → (RunBreaks text names l ls → ⊥) → LookedAt ls → LookedAt (l ∷ ls)
  onto l ls n (all_keep h) = all_keep (subst (λ (below : List (List Entry)). RunBreaks text names l below → ⊥) (sym (append-nil ls)) n, h)
  onto l ls n (one_breaks before m below e h b) = one_breaks (l ∷ before) m below (ap (λ (ms : List (List Entry)). l ∷ ms) e) (subst (λ (ms : List (List Entry)). RunBreaks text names l ms → ⊥) e n, h) b

  pub look : (ls : List (List Entry)) → LookedAt ls
  look [] = all_keep tt
  look (l ∷ ls) = by (deep l ls) refl (look ls)
    where
      by : (v : Bool) → deep l ls ≡ v → LookedAt ls → LookedAt (l ∷ ls)
      by true e g = one_breaks [] l ls refl tt (deep_told l ls e)
      by false e g = onto l ls (kept_told l ls e) g
