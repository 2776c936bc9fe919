-- The rates behind a run, by their rows. Assumes nothing.
use Rattle.std.proofs.Common.{◌≡◌, ℕ, suc, ◌+◌, ◌<◌, Bool, cond, List, [], ◌∷◌, map, length, drop, Err, sym, refl, ap, ◌∙◌, arith}
use Rattle.std.proofs.lemmas.List.{at_drop_more}
use Rattle.std.specs.List.{prefix_len}
use Rattle.script.specs.declared.words.LineWord.{LineWord}
use Rattle.script.specs.declared.words.LineWord.TheVariants as w
use Rattle.motion.specs.Lines.{Rate}
use Rattle.motion.specs.NextLine.{rates}
use Rattle.checker.specs.declared.refusals.Reason.TheVariants.{Chains}
use Rattle.entries.specs.declared.rows.Row.{Row}
use Rattle.entries.specs.declared.resolved.Resolved.{Resolved}
use Rattle.refusal.specs.Refusals.{refused}
use Rattle.entries.specs.Decoding.{lines_over}
use Rattle.checker.specs.Chains.{is_deep, deep_first, chains_check, is_rate, rate_rows, rate_of}

module _ (t : Resolved) where
  -- the rates that stand first
  pub first_rates : (rows : List Row) → rates (lines_over t rows) ≡ map (rate_of t) (rate_rows rows)
  first_rates [] = refl
  first_rates (r ∷ rs) = by r.word refl (first_rates rs)
    where
      by : (v : LineWord) → r.word ≡ v → rates (lines_over t rs) ≡ map (rate_of t) (rate_rows rs) → rates (lines_over t (r ∷ rs)) ≡ map (rate_of t) (rate_rows (r ∷ rs))
      by w.Rate p q = let one : 1 + prefix_len (λ (x : Row). is_rate x.word) rs ≡ suc (prefix_len (λ (x : Row). is_rate x.word) rs) = omega arith in rw (p, one) (ap (λ (l : List Rate). rate_of t r ∷ l) q)
      by v p q = rw p

  -- a run
  module _ (r : Row) (rs : List Row) where
    pub run_first : r.word ≡ w.Run → deep_first (lines_over t (r ∷ rs)) ≡ is_deep (map (rate_of t) (rate_rows rs))
    run_first e = rw e (ap is_deep (first_rates rs))

  -- run by run
  pub chains_turn : (rows : List Row) (i n : ℕ) (d : Row) (b : Bool) → i < length rows → b ≡ deep_first (lines_over t (drop i rows)) → chains_check n (lines_over t (drop i rows)) ≡ cond b (Err (refused Chains n 0)) (chains_check (n + 1) (lines_over t (drop (i + 1) rows)))
  chains_turn rows i n d b h p =
      at_drop_more (λ (rs : List Row). chains_check n (lines_over t rs)) rows i d h
      ∙ ap (λ (v : Bool). cond v (Err (refused Chains n 0)) (chains_check (n + 1) (lines_over t (drop (i + 1) rows)))) (sym (p ∙ at_drop_more (λ (rs : List Row). deep_first (lines_over t rs)) rows i d h))
