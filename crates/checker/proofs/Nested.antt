-- The lines of a script that passed spell a nested program. Assumes nothing.
use Rattle.std.proofs.Common.{◌≡◌, ℕ, zero, suc, ◌+◌, ◌-◌, ◌<◌, ◌≤◌, Bool, true, false, not, ◌||◌, eqb, leb, List, [], ◌∷◌, ◌++◌, map, length, get_or, drop, set, Some, None, Ok, Option, Result, sym, refl, ap, ◌∙◌, subst, append_assoc, append-nil, arith, length-set}
use Rattle.std.proofs.lemmas.Bool.Decides.{nat_tests}
use Rattle.script.specs.declared.words.LineWord.{LineWord}
use Rattle.script.specs.declared.words.LineWord.TheVariants as w
use Rattle.script.specs.declared.places.Place.{Place}
use Rattle.script.specs.declared.reading.Entry.{Entry}
use Rattle.number.specs.declared.Pair.{Pair}
use Rattle.number.specs.Frac.{Frac}
use Rattle.motion.specs.Lines.{Line, set_line, run_line, rate_line, if_line, else_line, while_line, end_line, Item, Rate}
use Rattle.motion.specs.Program.{Prog, skip, Spells, none, assigns, evolves, branches, branches_else, repeats}
use Rattle.motion.specs.Chains.{Shallow, Shallows}
use Rattle.motion.specs.ReadOff.{Block, block, put, put_run, put_rate, put_if, put_while, put_end, read}
use Rattle.motion.specs.NextLine.{declared, rates as first_rates}
use Rattle.motion.proofs.ReadOff.{sound}
use Rattle.checker.specs.Refusals.{Refusal}
use Rattle.checker.specs.declared.lines.Past.{Past}
use Rattle.checker.specs.declared.lines.Block as B
use Rattle.entries.specs.Fields.{first_word, head_of, second_place}
use Rattle.entries.specs.Fields as F
use Rattle.checker.specs.Conditions.{var_misplaced, variable, with_name, with_other, declare, after_var, rate_misplaced, rate_on, in_stretch, after_rate, innermost, opened, served, closed, after_block, line_check, lines_check}
use Rattle.checker.specs.Conditions as C
use Rattle.entries.specs.Decoding as D
use Rattle.checker.specs.Laws.{LinePasses, ShallowRuns, more}
use Rattle.checker.proofs.Passing.{Told, told, it_is, it_is_not, other_word, then_ok, passes_by, line_passes}
use Rattle.checker.proofs.OpenBlocks.{opened_in, opened_zero, opened_top, opened_one}

-- the open blocks, the innermost first: whether each is an if that has no else yet
abbrev pub flags : ℕ → List B.Block → List Bool
flags d bs = map (λ (b : B.Block). b.elseless) (opened_in d bs)

abbrev pub open_in : Past → List Bool
open_in p = flags p.depth p.blocks

flags_top : (m n : ℕ) (bs : List B.Block) (b : B.Block) → m ≡ n + 1 → n < length bs → flags m (set bs n b) ≡ b.elseless ∷ flags n bs
flags_top m n bs b q h = ap (map (λ (b : B.Block). b.elseless)) (opened_top m n bs b q h)

flags_one : (m n : ℕ) (bs : List B.Block) → m ≡ n + 1 → flags m bs ≡ (get_or bs n (C.block 0 false)).elseless ∷ flags n bs
flags_one m n bs h = ap (map (λ (b : B.Block). b.elseless)) (opened_one m n bs h)

-- the blocks that are read off fit the open ones; rates stand first only inside of a stretch
data Fits : Bool → List Bool → List Block → Type 0 where
  last : {s : Bool} {p : Prog} → Fits s [] (block [] p false ∷ [])
  closes : {s b : Bool} {st : List Bool} {p : Prog} {bs : List Block} → Fits false st bs → Fits s (b ∷ st) (block [] p false ∷ bs)
  serves : {s : Bool} {st : List Bool} {p : Prog} {bs : List Block} → Fits false (false ∷ st) bs → Fits s (true ∷ st) (block [] p true ∷ bs)
  rated : {st : List Bool} {r : Rate} {rs : List Rate} {p : Prog} {c : Bool} {bs : List Block} → Fits true st (block rs p c ∷ bs) → Fits true st (block (r ∷ rs) p c ∷ bs)

-- from a line to the next
pub data Step : Bool → List Bool → Line → Bool → List Bool → Type 0 where
  sets : {s : Bool} {st : List Bool} {x : ℕ} {e : List Item} → Step s st (set_line x e) false st
  runs : {s : Bool} {st : List Bool} {e : List Item} → Step s st (run_line e) true st
  rates : {st : List Bool} {r : Rate} → Step true st (rate_line r) true st
  ifs : {s : Bool} {st : List Bool} {e : List Item} → Step s st (if_line e) false (true ∷ st)
  elses : {s : Bool} {st : List Bool} → Step s (true ∷ st) else_line false (false ∷ st)
  whiles : {s : Bool} {st : List Bool} {e : List Item} → Step s st (while_line e) false (false ∷ st)
  ends : {s b : Bool} {st : List Bool} → Step s (b ∷ st) end_line false st

put_fits : {s : Bool} {st : List Bool} (x : Prog) (bs : List Block) → Fits false st bs → Fits s st (put x bs)
put_fits x _ last = last
put_fits x _ (closes f) = closes f
put_fits x _ (serves f) = serves f

-- the program of a block does not matter
swap : {s t : Bool} {st : List Bool} {p q : Prog} {c : Bool} {bs : List Block} → Fits s st (block [] p c ∷ bs) → Fits t st (block [] q c ∷ bs)
swap last = last
swap (closes f) = closes f
swap (serves f) = serves f

-- a run takes the rates that stand first
run_fits : {s : Bool} {st : List Bool} (i : ℕ) (e : List Item) (bs : List Block) → Fits true st bs → Fits s st (put_run i e bs)
run_fits i e _ last = last
run_fits i e _ (closes f) = closes f
run_fits i e _ (serves f) = serves f
run_fits {s} i e _ (rated f) = swap {s = s} (run_fits i e _ f)

rate_fits : {st : List Bool} (r : Rate) (bs : List Block) → Fits true st bs → Fits true st (put_rate r bs)
rate_fits r _ last = rated last
rate_fits r _ (closes f) = rated (closes f)
rate_fits r _ (serves f) = rated (serves f)
rate_fits r _ (rated f) = rated (rated f)

if_fits : {s : Bool} {st : List Bool} (i : ℕ) (e : List Item) (bs : List Block) → Fits false (true ∷ st) bs → Fits s st (put_if i e bs)
if_fits i e _ (closes f) = put_fits _ _ f
if_fits i e _ (serves (closes f)) = put_fits _ _ f

while_fits : {s : Bool} {st : List Bool} (i : ℕ) (e : List Item) (bs : List Block) → Fits false (false ∷ st) bs → Fits s st (put_while i e bs)
while_fits i e _ (closes f) = put_fits _ _ f

else_fits : {s : Bool} {st : List Bool} (bs : List Block) → Fits false (false ∷ st) bs → Fits s (true ∷ st) (put_end true bs)
else_fits _ (closes f) = serves (closes f)

end_fits : {s b : Bool} {st : List Bool} (bs : List Block) → Fits false st bs → Fits s (b ∷ st) (put_end false bs)
end_fits _ last = closes last
end_fits _ (closes f) = closes (closes f)
end_fits _ (serves f) = closes (serves f)

back : {s t : Bool} {st su : List Bool} {l : Line} (i : ℕ) (ls : List Line) → Step s st l t su → Fits t su (read (suc i) ls) → Fits s st (read i (l ∷ ls))
back i ls sets f = put_fits _ _ f
back i ls (runs {e}) f = run_fits i e _ f
back i ls (rates {r}) f = rate_fits r _ f
back i ls (ifs {e}) f = if_fits i e _ f
back i ls elses f = else_fits _ f
back i ls (whiles {e}) f = while_fits i e _ f
back i ls ends f = end_fits _ f

spelled : (i : ℕ) (ls : List Line) (bs : List Block) → read i ls ≡ bs → Fits false [] bs → (p : Prog) × Spells i ls p
spelled i ls _ e (last {p}) = (p, sound e)

-- what a line that passes does
abbrev pub Room : Past → Type 0
Room p = (length p.blocks ≡ 8) × (p.depth ≤ 8)

-- from what is known before a line to what is known behind it
pub record Moves (p : Past) (l : Line) (q : Past) : Type 0 where
  pub step : Step p.stretch (open_in p) l q.stretch (open_in q)
  pub others : q.others ≡ true
  pub room : Room q

module _ (p : Past) (n : ℕ) (room : Room p) where
  stays : (l : Line) (s : Bool) (rs : List Bool) (r q : Past) → Step p.stretch (open_in p) l s (open_in p) → ◌≡◌ {A = Result Past Refusal} (Ok (in_stretch (with_other p) s rs)) (Ok r) → ◌≡◌ {A = Result Past Refusal} (Ok r) (Ok q) → Moves p l q
  stays l s rs r q t e f =
      let g : in_stretch (with_other p) s rs ≡ q = cc in
      subst (Moves p l) g (record { step = t; others = refl; room = room })

  few_told : (d : ℕ) → leb 8 d ≡ false → d < 8
  few_told d e = grind (arith, nat_tests)

  some_told : (d : ℕ) (b : Bool) → (eqb d 0 || not b) ≡ false → (1 ≤ d) × (b ≡ true)
  some_told d true e = (grind (arith, nat_tests), refl)
  some_told d false e = grind (arith, nat_tests)

  one_told : (d : ℕ) → eqb d 0 ≡ false → 1 ≤ d
  one_told d e = grind (arith, nat_tests)

  opens : (l : Line) (b : Bool) (r q : Past) → Step p.stretch (open_in p) l false (b ∷ open_in p) → ◌≡◌ {A = Result Past Refusal} (Ok (in_stretch (with_other p) false p.rated)) (Ok r) → opened r n b ≡ Ok q → Moves p l q
  opens l b r q t e f =
      let g : in_stretch (with_other p) false p.rated ≡ r = cc in
      let h = passes_by (leb 8 p.depth) _ _ q (subst (λ (z : Past). opened z n b ≡ Ok q) (sym g) f) in
      let few : p.depth < 8 = few_told p.depth h.0 in
      let k : flags (p.depth + 1) (set p.blocks p.depth (C.block n b)) ≡ b ∷ open_in p = flags_top (p.depth + 1) p.depth p.blocks (C.block n b) refl (omega arith) in
      subst (Moves p l) h.1 (record { step = subst (Step p.stretch (open_in p) l false) (sym k) t; others = refl; room = (simp length-set room.0, omega arith) })

  serves_else : (r q : Past) → ◌≡◌ {A = Result Past Refusal} (Ok (in_stretch (with_other p) false p.rated)) (Ok r) → served r n ≡ Ok q → Moves p else_line q
  serves_else r q e f =
      let g : in_stretch (with_other p) false p.rated ≡ r = cc in
      let h = passes_by (eqb p.depth 0 || not (innermost p).elseless) _ _ q (subst (λ (z : Past). served z n ≡ Ok q) (sym g) f) in
      let m = some_told p.depth (innermost p).elseless h.0 in
      let some : 1 ≤ p.depth = m.0 in
      let a : open_in p ≡ true ∷ flags (p.depth - 1) p.blocks = flags_one p.depth (p.depth - 1) p.blocks (omega arith) ∙ ap (λ (v : Bool). v ∷ flags (p.depth - 1) p.blocks) m.1 in
      let k : flags p.depth (set p.blocks (p.depth - 1) (C.block (innermost p).line false)) ≡ false ∷ flags (p.depth - 1) p.blocks = flags_top p.depth (p.depth - 1) p.blocks (C.block (innermost p).line false) (omega arith) (omega arith) in
      let t : Step p.stretch (open_in p) else_line false (false ∷ flags (p.depth - 1) p.blocks) = subst (λ (v : List Bool). Step p.stretch v else_line false (false ∷ flags (p.depth - 1) p.blocks)) (sym a) elses in
      subst (Moves p else_line) h.1 (record { step = subst (Step p.stretch (open_in p) else_line false) (sym k) t; others = refl; room = (simp length-set room.0, room.1) })

  closes_end : (r q : Past) → ◌≡◌ {A = Result Past Refusal} (Ok (in_stretch (with_other p) false p.rated)) (Ok r) → closed r n ≡ Ok q → Moves p end_line q
  closes_end r q e f =
      let g : in_stretch (with_other p) false p.rated ≡ r = cc in
      let h = passes_by (eqb p.depth 0) _ _ q (subst (λ (z : Past). closed z n ≡ Ok q) (sym g) f) in
      let some : 1 ≤ p.depth = one_told p.depth h.0 in
      let a : open_in p ≡ (get_or p.blocks (p.depth - 1) (C.block 0 false)).elseless ∷ flags (p.depth - 1) p.blocks = flags_one p.depth (p.depth - 1) p.blocks (omega arith) in
      let t : Step p.stretch (open_in p) end_line false (flags (p.depth - 1) p.blocks) = subst (λ (v : List Bool). Step p.stretch v end_line false (flags (p.depth - 1) p.blocks)) (sym a) ends in
      subst (Moves p end_line) h.1 (record { step = t; others = refl; room = (room.0, omega arith) })

  in_there : (a s b : Bool) → (a || (not s || b)) ≡ false → s ≡ true
  in_there a true b e = refl
  in_there a false b e = grind (arith, nat_tests)

  rates_on : (l : Rate) (x : Option ℕ) (r q : Past) → rate_on (with_other p) n x ≡ Ok r → ◌≡◌ {A = Result Past Refusal} (Ok r) (Ok q) → Moves p (rate_line l) q
  rates_on l None r q e f = cc
  rates_on l (Some x) r q e f =
      let h = passes_by (rate_misplaced (with_other p) x) _ _ r e in
      let s : p.stretch ≡ true = in_there (leb 16 x) p.stretch _ h.0 in
      let g : in_stretch (with_other p) p.stretch (set p.rated x true) ≡ q = let k = h.1 in cc in
      let t : Step p.stretch (open_in p) (rate_line l) p.stretch (open_in p) = subst (λ (v : Bool). Step v (open_in p) (rate_line l) v (open_in p)) (sym s) rates in
      subst (Moves p (rate_line l)) g (record { step = t; others = refl; room = room })

-- a line of another word than var
module _ (means : Pair → Option Frac) (code : Frac → Option Pair) (text : List ℕ) (names : List Place) (p : Past) (n : ℕ) (line : List Entry) (q : Past) (room : Room p) where
  moves_by : (v : LineWord) (x : Option ℕ) (r : Past) → (v ≡ w.Var → ⊥) → after_rate (with_other p) v n x ≡ Ok r → after_block r v n ≡ Ok q → Moves p (D.of_word text names v line) q
  moves_by w.Var x r nv e f = absurd (nv refl)
  moves_by w.Set x r nv e f = stays p n room _ false p.rated r q sets e f
  moves_by w.Run x r nv e f = stays p n room _ true _ r q runs e f
  moves_by w.Rate x r nv e f = rates_on p n room _ x r q e f
  moves_by w.If x r nv e f = opens p n room _ true r q ifs e f
  moves_by w.Else x r nv e f = serves_else p n room r q e f
  moves_by w.While x r nv e f = opens p n room _ false r q whiles e f
  moves_by w.End x r nv e f = closes_end p n room r q e f

  pub named_is : (v : LineWord) (m : Past) → (v ≡ w.Var → ⊥) → after_var text p v n (second_place line) ≡ Ok m → with_other p ≡ m
  named_is v m nv e = let f = sym (other_word text p v n (second_place line) nv) ∙ e in cc

  pub moves : (v : LineWord) → (v ≡ w.Var → ⊥) → LinePasses means code text p v n line q → Moves p (D.of_word text names v line) q
  moves v nv h =
      let e : with_other p ≡ h.named = named_is v h.named nv h.var_in_place in
      moves_by v (variable text h.named (second_place line)) h.rated nv (subst (λ (z : Past). after_rate z v n (variable text h.named (second_place line)) ≡ Ok h.rated) (sym e) h.rate_in_place) h.nested

  pub no_var : (v : LineWord) → p.others ≡ true → LinePasses means code text p v n line q → v ≡ w.Var → ⊥
  no_var v o h e =
      let f : declare text p n (second_place line) ≡ Ok h.named = subst (λ (u : LineWord). after_var text p u n (second_place line) ≡ Ok h.named) e h.var_in_place in
      let g = (passes_by (var_misplaced text p (second_place line)) _ _ h.named f).0 in
      let k : (true || (leb 16 p.declared || not (F.is_none (variable text p (second_place line))))) ≡ false = subst (λ (b : Bool). (b || (leb 16 p.declared || not (F.is_none (variable text p (second_place line))))) ≡ false) o g in
      cc

module _ (means : Pair → Option Frac) (code : Frac → Option Pair) (text : List ℕ) (names : List Place) where
  none_open : (p : Past) → p.depth ≡ 0 → open_in p ≡ []
  none_open p e = ap (map (λ (b : B.Block). b.elseless)) (opened_zero p.depth p.blocks e)

  -- behind the var lines
  fits : (i : ℕ) (p : Past) (ls : List (List Entry)) (q : Past) → Room p → p.others ≡ true → lines_check means code text p ls ≡ Ok q → q.depth ≡ 0 → Fits p.stretch (open_in p) (read i (map (D.line_of text names) ls))
  fits i p [] q r o e d =
      let f : p ≡ q = cc in
      let c : p.depth ≡ 0 = ap (λ (z : Past). z.depth) f ∙ d in
      subst (λ (v : List Bool). Fits p.stretch v (block [] skip false ∷ [])) (sym (none_open p c)) last
  fits i p (l ∷ ls) q r o e d =
      let a = then_ok (line_check means code text p l) _ q e in
      let v = first_word (head_of l).token in
      let n = (head_of l).place.line in
      let h = line_passes means code text p v n l a.0 a.1 in
      let m = moves means code text names p n l a.0 r v (no_var means code text names p n l a.0 r v o h) h in
      back i (map (D.line_of text names) ls) m.step (fits (suc i) a.0 ls q m.room m.others a.2 d)

  -- a var line changes nothing of this
  pub var_keeps : (p : Past) (n : ℕ) (l : List Entry) (q : Past) → LinePasses means code text p w.Var n l q → in_stretch (with_name p (second_place l)) false p.rated ≡ q
  var_keeps p n l q h =
      let a : with_name p (second_place l) ≡ h.named = (passes_by (var_misplaced text p (second_place l)) _ _ h.named h.var_in_place).1 in
      let b : in_stretch h.named false h.named.rated ≡ h.rated = let e = h.rate_in_place in cc in
      let c : h.rated ≡ q = let e = h.nested in cc in
      ap (λ (z : Past). in_stretch z false z.rated) a ∙ b ∙ c

  pub none_declared : (v : LineWord) (l : List Entry) (ls : List Line) → (v ≡ w.Var → ⊥) → declared (D.of_word text names v l ∷ ls) ≡ []
  none_declared w.Var l ls nv = absurd (nv refl)
  none_declared v l ls nv = refl

  -- the program behind the var lines, of lines of which the first has the number i
  abbrev pub Spelled : ℕ → List Line → Type 0
  Spelled i ls = (p : Prog) × Spells (i + length (declared ls)) (drop (length (declared ls)) ls) p

  from_fits : (i : ℕ) (ls : List Line) → declared ls ≡ [] → Fits false [] (read i ls) → Spelled i ls
  from_fits i ls e f =
      let g = spelled i ls (read i ls) refl f in
      let n : i + 0 ≡ i = omega arith in
      let s : Spells (i + 0) ls g.0 = subst (λ (k : ℕ). Spells k ls g.0) (sym n) g.1 in
      (g.0, subst (λ (vs : List Frac). Spells (i + length vs) (drop (length vs) ls) g.0) (sym e) s)

  pub program : (i : ℕ) (p : Past) (ls : List (List Entry)) (q : Past) → Room p → p.stretch ≡ false → p.depth ≡ 0 → lines_check means code text p ls ≡ Ok q → q.depth ≡ 0 → Spelled i (map (D.line_of text names) ls)
  program i p [] q r s o e d = (skip, none)
  program i p (l ∷ ls) q r s o e d =
      let a = then_ok (line_check means code text p l) _ q e in
      let v = first_word (head_of l).token in
      let n = (head_of l).place.line in
      let h = line_passes means code text p v n l a.0 a.1 in
      by v a.0 (told v) h (λ m t u. program (suc i) a.0 ls q m t u a.2 d) (λ m t. fits (suc i) a.0 ls q m t a.2 d)
    where
      by : (v : LineWord) (q' : Past) → Told v → LinePasses means code text p v (head_of l).place.line l q' → (Room q' → q'.stretch ≡ false → q'.depth ≡ 0 → Spelled (suc i) (map (D.line_of text names) ls)) → (Room q' → q'.others ≡ true → Fits q'.stretch (open_in q') (read (suc i) (map (D.line_of text names) ls))) → Spelled i (D.of_word text names v l ∷ map (D.line_of text names) ls)
      by v q' (it_is x) h vars rest =
          let k : LinePasses means code text p w.Var (head_of l).place.line l q' = subst (λ (u : LineWord). LinePasses means code text p u (head_of l).place.line l q') x h in
          let e : in_stretch (with_name p (second_place l)) false p.rated ≡ q' = var_keeps p (head_of l).place.line l q' k in
          let g = vars (subst Room e r) (subst (λ (z : Past). z.stretch ≡ false) e refl) (subst (λ (z : Past). z.depth ≡ 0) e o) in
          let vs = declared (map (D.line_of text names) ls) in
          let n : suc i + length vs ≡ i + suc (length vs) = omega arith in
          let t : Spells (i + suc (length vs)) (drop (length vs) (map (D.line_of text names) ls)) g.0 = subst (λ (m : ℕ). Spells m (drop (length vs) (map (D.line_of text names) ls)) g.0) n g.1 in
          subst (λ (u : LineWord). Spelled i (D.of_word text names u l ∷ map (D.line_of text names) ls)) (sym x) (g.0, t)
      by v q' (it_is_not nv) h vars rest =
          let m = moves means code text names p (head_of l).place.line l q' r v nv h in
          let f : Fits p.stretch (open_in p) (read i (D.of_word text names v l ∷ map (D.line_of text names) ls)) = back i (map (D.line_of text names) ls) m.step (rest m.room m.others) in
          let g : Fits false [] (read i (D.of_word text names v l ∷ map (D.line_of text names) ls)) = subst (λ (b : Bool). Fits b [] (read i (D.of_word text names v l ∷ map (D.line_of text names) ls))) s (subst (λ (st : List Bool). Fits p.stretch st (read i (D.of_word text names v l ∷ map (D.line_of text names) ls))) (none_open p o) f) in
          from_fits i (D.of_word text names v l ∷ map (D.line_of text names) ls) (none_declared v l (map (D.line_of text names) ls) nv) g

-- the stretches of the program are those of the runs
no_rates : {i : ℕ} {ls : List Line} {p : Prog} → Spells i ls p → (tl : List Line) → first_rates tl ≡ [] → first_rates (ls ++ tl) ≡ []
no_rates none tl h = h
no_rates (assigns s) tl h = refl
no_rates (evolves rs s) tl h = refl
no_rates (branches s t) tl h = refl
no_rates (branches_else s t u) tl h = refl
no_rates (repeats s t) tl h = refl

rates_then : (rs : List Rate) (ls : List Line) → first_rates ls ≡ [] → first_rates (map rate_line rs ++ ls) ≡ rs
rates_then [] ls h = h
rates_then (r ∷ rs) ls h = ap (λ (l : List Rate). r ∷ l) (rates_then rs ls h)

tail : {l : Line} {ls : List Line} → ShallowRuns (l ∷ ls) → ShallowRuns ls
tail (more f h) = h

head : {l : Line} {ls : List Line} → ShallowRuns (l ∷ ls) → (e : List Item) → l ≡ run_line e → Shallow (first_rates ls)
head (more f h) = f

past_rates : (rs : List Rate) (ls : List Line) → ShallowRuns (map rate_line rs ++ ls) → ShallowRuns ls
past_rates [] ls h = h
past_rates (r ∷ rs) ls h = past_rates rs ls (tail h)

shallows : {i : ℕ} {xs : List Line} {a : Prog} → Spells i xs a → (tl : List Line) → first_rates tl ≡ [] → ShallowRuns (xs ++ tl) → Shallows a × ShallowRuns tl
shallows none tl h g = (tt, g)
shallows (assigns s) tl h g = let k = shallows s tl h (tail g) in ((tt, k.0), k.1)
shallows (evolves {e} rs {ls} s) tl h g =
    let g' : ShallowRuns (run_line e ∷ (map rate_line rs ++ (ls ++ tl))) = subst (λ (zs : List Line). ShallowRuns (run_line e ∷ zs)) (append_assoc (map rate_line rs) ls tl) g in
    let k = shallows s tl h (past_rates rs (ls ++ tl) (tail g')) in
    let r : first_rates (map rate_line rs ++ (ls ++ tl)) ≡ rs = rates_then rs (ls ++ tl) (no_rates s tl h) in
    ((subst Shallow r (head g' e refl), k.0), k.1)
shallows (branches {e} {xs} {ls} s t) tl h g =
    let g' : ShallowRuns (xs ++ (end_line ∷ (ls ++ tl))) = subst ShallowRuns (append_assoc xs (end_line ∷ ls) tl) (tail g) in
    let k = shallows s (end_line ∷ (ls ++ tl)) refl g' in
    let m = shallows t tl h (tail k.1) in
    (((k.0, tt), m.0), m.1)
shallows (branches_else {e} {xs} {ys} {ls} s t u) tl h g =
    let g' : ShallowRuns (xs ++ (else_line ∷ ((ys ++ (end_line ∷ ls)) ++ tl))) = subst ShallowRuns (append_assoc xs (else_line ∷ (ys ++ (end_line ∷ ls))) tl) (tail g) in
    let k = shallows s (else_line ∷ ((ys ++ (end_line ∷ ls)) ++ tl)) refl g' in
    let g'' : ShallowRuns (ys ++ (end_line ∷ (ls ++ tl))) = subst ShallowRuns (append_assoc ys (end_line ∷ ls) tl) (tail k.1) in
    let m = shallows t (end_line ∷ (ls ++ tl)) refl g'' in
    let o = shallows u tl h (tail m.1) in
    (((k.0, m.0), o.0), o.1)
shallows (repeats {e} {xs} {ls} s t) tl h g =
    let g' : ShallowRuns (xs ++ (end_line ∷ (ls ++ tl))) = subst ShallowRuns (append_assoc xs (end_line ∷ ls) tl) (tail g) in
    let k = shallows s (end_line ∷ (ls ++ tl)) refl g' in
    let m = shallows t tl h (tail k.1) in
    ((k.0, m.0), m.1)

drop_runs : (n : ℕ) (ls : List Line) → ShallowRuns ls → ShallowRuns (drop n ls)
drop_runs zero ls h = h
drop_runs (suc n) [] h = h
drop_runs (suc n) (l ∷ ls) h = drop_runs n ls (tail h)

-- the program of a script whose runs are shallow
pub smooth : (i k : ℕ) (ls : List Line) (p : Prog) → Spells i (drop k ls) p → ShallowRuns ls → Shallows p
smooth i k ls p s h = (shallows s [] refl (subst ShallowRuns (sym (append-nil (drop k ls))) (drop_runs k ls h))).0
