-- The answer of a check is what the rules of acceptance and refusal say. Assumes nothing.
use Rattle.std.proofs.Common.{◌≡◌, ℕ, ◌+◌, ◌-◌, Bool, true, false, not, ◌||◌, eqb, ltb, ◌⊎◌, List, [], ◌∷◌, map, length, get_or, take, Ok, Err, Option, Result, sym, refl, ap, ◌∙◌, subst, inl, inr, arith}
use borrow.Author.Tests.{clash}
use Rattle.std.proofs.lemmas.Bool.{or_parts, or_cases, not-true, ltb-true, ltb-false, eq-eqb, ne_eqb, cond-true, cond-false}
use Rattle.script.specs.declared.places.Place.{Place}
use Rattle.script.specs.declared.reading.Entry.{Entry}
use Rattle.script.specs.Places.{places}
use Rattle.script.specs.Reading.{entries}
use Rattle.script.specs.Checks.{and_then}
use Rattle.number.specs.declared.Pair.{Pair}
use Rattle.number.specs.Frac.{Frac}
use Rattle.checker.specs.Refusals.{Refusal}
use Rattle.checker.specs.declared.refusals.Reason.TheVariants.{Blocks}
use Rattle.checker.specs.declared.lines.Block.{Block}
use Rattle.checker.specs.declared.lines.Past.{Past}
use Rattle.refusal.specs.Refusals.{refused}
use Rattle.entries.specs.Fields.{lines}
use Rattle.entries.specs.Decoding.{names_of, line_of}
use Rattle.entries.specs.Tables.{same_table}
use Rattle.entries.proofs.Owned.{table_same}
use Rattle.checker.specs.Conditions.{block, at_first, lines_check, declared_names}
use Rattle.checker.specs.Chains.{chains_check}
use Rattle.checker.specs.Checking.{other_table, open_check, entries_check, check_of}
use Rattle.checker.specs.Verdict.{upward, open_above, Passing, Other, too_short, not_its, many_fields, many_lines, Own, Refused, by_8, bad_line, left_open, by_15, Accepted, Judged}
use Rattle.checker.proofs.Passing.{own_table, lines_names}
use Rattle.checker.proofs.Sized.{own_sized}
use Rattle.checker.proofs.OpenBlocks.{opened_none, opened_some}
use Rattle.checker.proofs.Above.{Knows, knows_first}
use Rattle.checker.proofs.Faults.{all_right_is, fault_in, GoneThrough, clear, broken, go_through}
use Rattle.checker.proofs.Runs.{kept_is, broken_in, LookedAt, all_keep, one_breaks, look}

-- the table -------------------------------------------------------------------------

module _ (text : List ℕ) (fields : ℕ) (table : List Entry) where
  own_told : other_table text fields table ≡ false → Own text fields table
  own_told e =
      let a = or_parts (ltb (length table) fields) _ e in
      let b = or_parts (ltb 4608 fields) _ a.1 in
      let s = own_sized text fields table e in
      record { enough = ltb-false (length table) fields a.0; its = own_table text fields table e; few_fields = ltb-false 4608 fields b.0; few_lines = s.1 }

  other_told : other_table text fields table ≡ true → Other text fields table
  other_told e = short (or_cases (ltb (length table) fields) _ e)
    where
      differs : not (same_table text (places text) (take fields table)) ≡ true → Other text fields table
      differs e = not_its (λ q. clash (sym (not-true _ e) ∙ ap (same_table text (places text)) q ∙ table_same text (places text)))

      content : (not (same_table text (places text) (take fields table)) ≡ true) ⊎ (ltb 256 (length (lines (take fields table))) ≡ true) → Other text fields table
      content (inl e) = differs e
      content (inr e) = many_lines (ltb-true 256 (length (lines (take fields table))) e)

      big : (ltb 4608 fields ≡ true) ⊎ ((not (same_table text (places text) (take fields table)) || ltb 256 (length (lines (take fields table)))) ≡ true) → Other text fields table
      big (inl e) = many_fields (ltb-true 4608 fields e)
      big (inr e) = content (or_cases (not (same_table text (places text) (take fields table))) _ e)

      short : (ltb (length table) fields ≡ true) ⊎ ((ltb 4608 fields || (not (same_table text (places text) (take fields table)) || ltb 256 (length (lines (take fields table))))) ≡ true) → Other text fields table
      short (inl e) = too_short (ltb-true (length table) fields e)
      short (inr e) = big (or_cases (ltb 4608 fields) _ e)

  apart : Other text fields table → Own text fields table → ⊥
  apart (too_short h) o = let e = o.enough in omega arith
  apart (not_its h) o = h o.its
  apart (many_fields h) o = let e = o.few_fields in omega arith
  apart (many_lines h) o = let e = o.few_lines in omega arith

  other_is : Other text fields table → other_table text fields table ≡ true
  other_is h = by (other_table text fields table) refl
    where
      by : (b : Bool) → other_table text fields table ≡ b → b ≡ true
      by true e = refl
      by false e = absurd (apart h (own_told e))

  own_is : Own text fields table → other_table text fields table ≡ false
  own_is h = by (other_table text fields table) refl
    where
      by : (b : Bool) → other_table text fields table ≡ b → b ≡ false
      by true e = absurd (apart (other_told e) h)
      by false e = refl

-- blocks behind the last line -----------------------------------------------------------

none_open : (text : List ℕ) (us : List (List Entry)) (p : Past) → Knows text us p → open_above us ≡ [] → open_check p ≡ Ok tt
none_open text us p k e = cond-true (eqb p.depth 0) _ _ (eq-eqb p.depth 0 (opened_none p.depth p.blocks (k.blocks.opens ∙ e)))

one_open : (text : List ℕ) (us : List (List Entry)) (p : Past) → Knows text us p → (b : Block) (bs : List Block) → open_above us ≡ b ∷ bs → open_check p ≡ Err (refused Blocks b.line 0)
one_open text us p k b bs e =
    let o = opened_some p.depth p.blocks b bs (k.blocks.opens ∙ e) in
    let q = o.1 in
    let m : p.depth - 1 ≡ o.0 = omega arith in
    cond-false (eqb p.depth 0) _ _ (ne_eqb p.depth 0 (λ z. omega arith))
    ∙ ap (λ (c : Block). Err (refused Blocks c.line 0)) (ap (λ (i : ℕ). get_or p.blocks i (block 0 false)) m ∙ o.2)

-- a check ---------------------------------------------------------------------------------

module _ (means : Pair → Option Frac) (code : Frac → Option Pair) (text : List ℕ) (fields : ℕ) (table : List Entry) where
  abbrev script : List (List Entry)
  script = lines (entries text)

  abbrev behind_lines : Past → Result Unit Refusal
  behind_lines p = and_then (open_check p) (λ _. chains_check 1 (map (line_of text (declared_names p)) script))

  after_table : Own text fields table → check_of means code text fields table ≡ and_then (lines_check means code text at_first script) behind_lines
  after_table o = cond-false (other_table text fields table) _ _ (own_is text fields table o) ∙ ap (entries_check means code text) o.its

  after_fault : Own text fields table → (e : Refusal) → lines_check means code text at_first script ≡ Err e → check_of means code text fields table ≡ Err e
  after_fault o e h = after_table o ∙ ap (λ (r : Result Past Refusal). and_then r behind_lines) h

  after_lines : Own text fields table → (p : Past) → lines_check means code text at_first script ≡ Ok p → check_of means code text fields table ≡ and_then (open_check p) (λ _. chains_check 1 (map (line_of text (names_of script)) script))
  after_lines o p h =
      after_table o
      ∙ ap (λ (r : Result Past Refusal). and_then r behind_lines) h
      ∙ ap (λ (ns : List Place). and_then (open_check p) (λ _. chains_check 1 (map (line_of text ns) script))) (lines_names means code text at_first script p refl h)

  after_blocks : Own text fields table → Passing means code text [] script → open_above (upward [] script) ≡ [] → check_of means code text fields table ≡ chains_check 1 (map (line_of text (names_of script)) script)
  after_blocks o h c =
      let q = all_right_is means code text [] at_first (knows_first text) script h in
      after_lines o q.0 q.1 ∙ ap (λ (r : Result Unit Refusal). and_then r (λ _. chains_check 1 (map (line_of text (names_of script)) script))) (none_open text (upward [] script) q.0 q.2 c)

  refused_is : (e : Refusal) → Refused means code text fields table e → check_of means code text fields table ≡ Err e
  refused_is e (by_8 h) = cond-true (other_table text fields table) _ _ (other_is text fields table h)
  refused_is e (bad_line o before l behind e' s h f) = after_fault o e (ap (lines_check means code text at_first) s ∙ fault_in means code text [] at_first (knows_first text) before l behind e h f)
  refused_is e (left_open o h b bs c) =
      let q = all_right_is means code text [] at_first (knows_first text) script h in
      after_lines o q.0 q.1 ∙ ap (λ (r : Result Unit Refusal). and_then r (λ _. chains_check 1 (map (line_of text (names_of script)) script))) (one_open text (upward [] script) q.0 q.2 b bs c)
  refused_is e (by_15 o h c before l below s k b) =
      after_blocks o h c
      ∙ ap (λ (ls : List (List Entry)). chains_check 1 (map (line_of text (names_of script)) ls)) s
      ∙ broken_in text (names_of script) 1 (length before + 1) before l below refl k b

  accepted_is : Accepted means code text fields table → check_of means code text fields table ≡ Ok tt
  accepted_is a = after_blocks a.own a.passing a.closed ∙ kept_is text (names_of script) 1 script a.kept

  -- which of them holds
  data Decided : Type 0 where
    yes : Accepted means code text fields table → Decided
    no : (e : Refusal) → Refused means code text fields table e → Decided

  by_runs : Own text fields table → Passing means code text [] script → open_above (upward [] script) ≡ [] → LookedAt text (names_of script) script → Decided
  by_runs o h c (all_keep k) = yes (record { own = o; passing = h; closed = c; kept = k })
  by_runs o h c (one_breaks before l below s k b) = no _ (by_15 o h c before l below s k b)

  by_blocks : Own text fields table → Passing means code text [] script → (bs : List Block) → open_above (upward [] script) ≡ bs → Decided
  by_blocks o h [] c = by_runs o h c (look text (names_of script) script)
  by_blocks o h (b ∷ bs) c = no _ (left_open o h b bs c)

  by_lines : Own text fields table → GoneThrough means code text [] script → Decided
  by_lines o (clear h) = by_blocks o h (open_above (upward [] script)) refl
  by_lines o (broken before l behind e s h f) = no e (bad_line o before l behind e s h f)

  by_table : (b : Bool) → other_table text fields table ≡ b → Decided
  by_table true e = no _ (by_8 (other_told text fields table e))
  by_table false e = by_lines (own_told text fields table e) (go_through means code text [] script)

  decided : Decided
  decided = by_table (other_table text fields table) refl

  accepted_so : check_of means code text fields table ≡ Ok tt → Accepted means code text fields table
  accepted_so e = by decided
    where
      by : Decided → Accepted means code text fields table
      by (yes a) = a
      by (no x r) = let f = refused_is x r in cc

  refused_so : (e : Refusal) → check_of means code text fields table ≡ Err e → Refused means code text fields table e
  refused_so e h = by decided
    where
      by : Decided → Refused means code text fields table e
      by (yes a) = let f = accepted_is a in cc
      by (no x r) = let f = refused_is x r in let q : x ≡ e = cc in subst (Refused means code text fields table) q r

  check_judged : Judged means code text fields table (check_of means code text fields table)
  check_judged = record { accepts = (accepted_so, accepted_is); refuses = λ e. (refused_so e, refused_is e) }

  -- the answer of a call
  pub judged : (answer : Result Unit Refusal) → answer ≡ check_of means code text fields table → Judged means code text fields table answer
  judged answer e = subst (Judged means code text fields table) (sym e) check_judged
