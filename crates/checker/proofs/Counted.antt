-- How many variables a script declares. Assumes nothing.
use Rattle.std.proofs.Common.{◌≡◌, ℕ, ◌+◌, true, false, List, [], ◌∷◌, map, length, Ok, Option, sym, ap, ◌∙◌, subst, arith}
use Rattle.script.specs.declared.words.LineWord.{LineWord}
use Rattle.script.specs.declared.words.LineWord.TheVariants as w
use Rattle.script.specs.declared.places.Place.{Place}
use Rattle.script.specs.declared.reading.Entry.{Entry}
use Rattle.number.specs.declared.Pair.{Pair}
use Rattle.number.specs.Frac.{Frac}
use Rattle.motion.specs.NextLine.{declared}
use Rattle.entries.specs.Fields.{head_of, second_place, first_word}
use Rattle.entries.specs.Decoding as D
use Rattle.checker.specs.declared.lines.Past.{Past}
use Rattle.checker.specs.Conditions.{variable, with_name, in_stretch, line_check, lines_check}
use Rattle.checker.specs.Laws.{LinePasses}
use Rattle.checker.proofs.Passing.{Told, told, it_is, it_is_not, then_ok, line_passes, after_rate_keeps, after_block_keeps}
use Rattle.checker.proofs.Nested.{Room, moves, named_is, no_var, var_keeps, none_declared}

module _ (means : Pair → Option Frac) (code : Frac → Option Pair) (text : List ℕ) (names : List Place) where
  -- a line of another word than var declares nothing
  other_keeps : (p : Past) (v : LineWord) (n : ℕ) (l : List Entry) (q : Past) → Room p → (v ≡ w.Var → ⊥) → LinePasses means code text p v n l q → q.declared ≡ p.declared
  other_keeps p v n l q r nv h =
      let e = named_is means code text names p n l q r v h.named nv h.var_in_place in
      let a = after_rate_keeps h.named n v (variable text h.named (second_place l)) h.rated h.rate_in_place in
      let b = after_block_keeps h.rated n v q h.nested in
      b.0 ∙ a.0 ∙ sym (ap (λ (z : Past). z.declared) e)

  -- behind the var lines
  none_more : (p : Past) (ls : List (List Entry)) (q : Past) → Room p → p.others ≡ true → lines_check means code text p ls ≡ Ok q → q.declared ≡ p.declared
  none_more p [] q r o e = let f : p ≡ q = cc in sym (ap (λ (z : Past). z.declared) f)
  none_more p (l ∷ ls) q r o e =
      let a = then_ok (line_check means code text p l) _ q e in
      let v = first_word (head_of l).token in
      let n = (head_of l).place.line in
      let h = line_passes means code text p v n l a.0 a.1 in
      let nv = no_var means code text names p n l a.0 r v o h in
      let m = moves means code text names p n l a.0 r v nv h in
      none_more a.0 ls q m.room m.others a.2 ∙ other_keeps p v n l a.0 r nv h

  -- behind all lines
  pub all_counted : (p : Past) (ls : List (List Entry)) (q : Past) → Room p → lines_check means code text p ls ≡ Ok q → q.declared ≡ p.declared + length (declared (map (D.line_of text names) ls))
  all_counted p [] q r e = let f : p ≡ q = cc in let g : q.declared ≡ p.declared = sym (ap (λ (z : Past). z.declared) f) in omega arith
  all_counted p (l ∷ ls) q r e =
      let a = then_ok (line_check means code text p l) _ q e in
      let v = first_word (head_of l).token in
      let n = (head_of l).place.line in
      let h = line_passes means code text p v n l a.0 a.1 in
      by v a.0 (told v) h (λ m. all_counted a.0 ls q m a.2) (λ m o. none_more a.0 ls q m o a.2)
    where
      by : (v : LineWord) (p' : Past) → Told v → LinePasses means code text p v (head_of l).place.line l p' →
          (Room p' → q.declared ≡ p'.declared + length (declared (map (D.line_of text names) ls))) → (Room p' → p'.others ≡ true → q.declared ≡ p'.declared) →
          q.declared ≡ p.declared + length (declared (D.of_word text names v l ∷ map (D.line_of text names) ls))
      by v p' (it_is x) h vars rest =
          let k : LinePasses means code text p w.Var (head_of l).place.line l p' = subst (λ (u : LineWord). LinePasses means code text p u (head_of l).place.line l p') x h in
          let e : in_stretch (with_name p (second_place l)) false p.rated ≡ p' = var_keeps means code text names p (head_of l).place.line l p' k in
          let d : p.declared + 1 ≡ p'.declared = ap (λ (z : Past). z.declared) e in
          let g : q.declared ≡ p'.declared + length (declared (map (D.line_of text names) ls)) = vars (subst Room e r) in
          subst (λ (u : LineWord). q.declared ≡ p.declared + length (declared (D.of_word text names u l ∷ map (D.line_of text names) ls))) (sym x) (omega arith)
      by v p' (it_is_not nv) h vars rest =
          let m = moves means code text names p (head_of l).place.line l p' r v nv h in
          let d : q.declared ≡ p.declared = rest m.room m.others ∙ other_keeps p v (head_of l).place.line l p' r nv h in
          let z : length (declared (D.of_word text names v l ∷ map (D.line_of text names) ls)) ≡ 0 = ap length (none_declared means code text names v l (map (D.line_of text names) ls) nv) in
          omega arith
