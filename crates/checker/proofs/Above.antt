-- What is known behind lines is what the lines above say. Assumes nothing.
use Rattle.std.proofs.Common.{◌≡◌, ℕ, suc, ◌+◌, ◌-◌, ◌<◌, ◌≤◌, Bool, true, false, cond, not, ◌&&◌, ◌||◌, eqb, leb, ◌⊎◌, List, [], ◌∷◌, ◌++◌, length, get_or, take, drop, set, replicate, Some, None, Ok, Err, Option, sym, refl, ap, ◌∙◌, subst, inl, inr, arith, length-set}
use Rattle.std.specs.Str.{bytes_eq}
use Rattle.std.proofs.lemmas.List.{get_or-set_same, get_or-set_other, take_more_set, length-take-le, get_or-replicate}
use Rattle.std.proofs.lemmas.Bool.{or_parts, and_parts, not-false, cases_eq, lt-leb, leb-false, eq-eqb, ne_eqb}
use Rattle.std.proofs.Math.Bool.{not-not}
use Rattle.std.proofs.lemmas.Slice.Eq.{bytes_eq-Decides}
use Rattle.script.specs.declared.words.LineWord.{LineWord}
use Rattle.script.specs.declared.words.LineWord.TheVariants as w
use Rattle.script.specs.declared.places.Place.{Place}
use Rattle.script.specs.declared.reading.Entry.{Entry}
use Rattle.script.specs.Places.{bytes_at}
use Rattle.checker.specs.declared.refusals.Reason.TheVariants.{VarOutOfPlace, RateOutOfPlace, Blocks}
use Rattle.checker.specs.declared.lines.Block.{Block}
use Rattle.checker.specs.declared.lines.Past.{Past}
use Rattle.refusal.specs.Refusals.{refused}
use Rattle.entries.specs.Fields.{second_place, is_name, is_none, find, undeclared}
use Rattle.checker.specs.Conditions.{declared_names, variable, var_misplaced, with_name, with_other, after_var, first_unknown, in_stretch, rate_misplaced, rate_on, after_rate, block, with_blocks, innermost, after_block, at_first}
use Rattle.checker.specs.Chains.{is_empty, is_run, is_rate}
use Rattle.checker.proofs.OpenBlocks.{opened_in, opened_zero, opened_count, opened_top, opened_some}
use Rattle.checker.specs.Verdict.{name_on, is_var, name_fields, uses, other_above, vars_above, declared_above, stretch_above, rated_above, elsed, blocks_after, open_above, var_wrong, all_declared, rate_wrong, awaits_else, block_wrong}

-- the field of the first that does not pass
abbrev pub first_bad : {A : Type 0} → (A → Bool) → (A → ℕ) → List A → Option ℕ
first_bad ok field [] = None
first_bad ok field (x ∷ xs) = cond (ok x) (first_bad ok field xs) (Some (field x))

-- names -------------------------------------------------------------------------

found : (o : Option ℕ) (b : Bool) → is_none o ≡ not b → b ≡ true → (x : ℕ) × (o ≡ Some x)
found (Some x) b e h = (x, refl)
found None b e h = cc

some_same : (x y : ℕ) → ◌≡◌ {A = Option ℕ} (Some x) (Some y) → x ≡ y
some_same x y e = cc

module _ (text : List ℕ) where
  find_from : (ps : List Place) (i : ℕ) (a : List ℕ) (x : ℕ) → find text ps i a ≡ Some x → (i ≤ x) × (x < i + length ps)
  find_from [] i a x e = cc
  find_from (p ∷ ps) i a x e = by (bytes_eq (bytes_at text p) a) e (find_from ps (i + 1) a x)
    where
      by : (b : Bool) → cond b (Some i) (find text ps (i + 1) a) ≡ Some x → (find text ps (i + 1) a ≡ Some x → (i + 1 ≤ x) × (x < i + 1 + length ps)) → (i ≤ x) × (x < i + suc (length ps))
      by true e ih = let s : i ≡ x = some_same i x e in (omega arith, omega arith)
      by false e ih = let r = ih e in let l = r.0 in let u = r.1 in (omega arith, omega arith)

  -- names that are found at one place are the same
  find_same : (ps : List Place) (i : ℕ) (a b : List ℕ) (x : ℕ) → find text ps i a ≡ Some x → find text ps i b ≡ Some x → a ≡ b
  find_same [] i a b x e f = cc
  find_same (p ∷ ps) i a b x e f = by (bytes_eq (bytes_at text p) a) (bytes_eq (bytes_at text p) b) refl refl e f (find_same ps (i + 1) a b x)
    where
      late : (c : List ℕ) → find text ps (i + 1) c ≡ Some x → ◌≡◌ {A = Option ℕ} (Some i) (Some x) → ⊥
      late c e s = let l = (find_from ps (i + 1) c x e).0 in let t : i ≡ x = some_same i x s in omega arith

      by : (c d : Bool) → bytes_eq (bytes_at text p) a ≡ c → bytes_eq (bytes_at text p) b ≡ d → cond c (Some i) (find text ps (i + 1) a) ≡ Some x → cond d (Some i) (find text ps (i + 1) b) ≡ Some x → (find text ps (i + 1) a ≡ Some x → find text ps (i + 1) b ≡ Some x → a ≡ b) → a ≡ b
      by true true s t e f ih = sym ((bytes_eq-Decides (bytes_at text p) a).0 s) ∙ (bytes_eq-Decides (bytes_at text p) b).0 t
      by true false s t e f ih = absurd (late b f e)
      by false true s t e f ih = absurd (late a e f)
      by false false s t e f ih = ih e f

  -- a name more
  find_push : (ps : List Place) (at : Place) (i : ℕ) (a : List ℕ) → is_none (find text (ps ++ at ∷ []) i a) ≡ (is_none (find text ps i a) && not (bytes_eq (bytes_at text at) a))
  find_push [] at i a = by (bytes_eq (bytes_at text at) a)
    where
      by : (b : Bool) → is_none {A = ℕ} (cond b (Some i) None) ≡ not b
      by true = refl
      by false = refl
  find_push (p ∷ ps) at i a = by (bytes_eq (bytes_at text p) a) (find_push ps at (i + 1) a)
    where
      by : (b : Bool) → is_none (find text (ps ++ at ∷ []) (i + 1) a) ≡ (is_none (find text ps (i + 1) a) && not (bytes_eq (bytes_at text at) a)) → is_none (cond b (Some i) (find text (ps ++ at ∷ []) (i + 1) a)) ≡ (is_none (cond b (Some i) (find text ps (i + 1) a)) && not (bytes_eq (bytes_at text at) a))
      by true ih = refl
      by false ih = ih

-- what is known of names, by what the lines above say: another word than var, so many var lines, these names
pub record NamesKnown (text : List ℕ) (o : Bool) (c : ℕ) (d : List ℕ → Bool) (others : Bool) (declared : ℕ) (names : List Place) : Type 0 where
  pub other : others ≡ o
  pub count : declared ≡ c
  pub few : declared ≤ 16
  pub room : length names ≡ 16
  pub known : (name : List ℕ) → is_none (find text (take declared names) 0 name) ≡ not (d name)

-- the same of the stretch: run or rate is directly above, and these names have a rate in it
pub record StretchKnown (text : List ℕ) (b : Bool) (r : List ℕ → Bool) (declared : ℕ) (names : List Place) (stretch : Bool) (rated : List Bool) : Type 0 where
  pub above : stretch ≡ b
  pub marks : length rated ≡ 16
  pub marked : b ≡ true → (name : List ℕ) (x : ℕ) → find text (take declared names) 0 name ≡ Some x → get_or rated x false ≡ r name

-- the same of blocks
pub record BlocksKnown (os : List Block) (depth : ℕ) (blocks : List Block) : Type 0 where
  pub deep : depth ≤ 8
  pub slots : length blocks ≡ 8
  pub opens : opened_in depth blocks ≡ os

-- all of it
pub record Known (text : List ℕ) (o : Bool) (c : ℕ) (d : List ℕ → Bool) (b : Bool) (r : List ℕ → Bool) (os : List Block) (p : Past) : Type 0 where
  pub names : NamesKnown text o c d p.others p.declared p.names
  pub stretch : StretchKnown text b r p.declared p.names p.stretch p.rated
  pub blocks : BlocksKnown os p.depth p.blocks

abbrev pub Knows : List ℕ → List (List Entry) → Past → Type 0
Knows text us p = Known text (other_above us) (vars_above us) (declared_above text us) (stretch_above us) (rated_above text us) (open_above us) p

-- before the first line
pub knows_first : (text : List ℕ) → Knows text [] at_first
knows_first text = record {
  names = record { other = refl; count = refl; few = omega arith; room = refl; known = λ name. refl };
  stretch = record { above = refl; marks = refl; marked = λ e. cc };
  blocks = record { deep = omega arith; slots = refl; opens = opened_zero 0 at_first.blocks refl };
}

-- one line more -------------------------------------------------------------------

-- one name more
push_names : (text : List ℕ) (o : Bool) (c : ℕ) (d : List ℕ → Bool) (others : Bool) (declared : ℕ) (names : List Place) (at : Place) → NamesKnown text o c d others declared names → declared < 16 → NamesKnown text o (c + 1) (λ name. bytes_eq (bytes_at text at) name || d name) others (declared + 1) (set names declared at)
push_names text o c d others declared names at k few = record {
  other = k.other;
  count = ap (λ (n : ℕ). n + 1) k.count;
  few = omega arith;
  room = length-set names declared at ∙ k.room;
  known = λ name.
      ap (λ (ps : List Place). is_none (find text ps 0 name)) (take_more_set names declared at (let r = k.room in omega arith))
      ∙ find_push text (take declared names) at 0 name
      ∙ ap (λ (v : Bool). v && not (bytes_eq (bytes_at text at) name)) (k.known name)
      ∙ neither (d name) (bytes_eq (bytes_at text at) name);
}
  where
    neither : (a b : Bool) → (not a && not b) ≡ not (b || a)
    neither true true = refl
    neither true false = refl
    neither false true = refl
    neither false false = refl

-- a line of another word
other_names : (text : List ℕ) (o : Bool) (c : ℕ) (d : List ℕ → Bool) (others : Bool) (declared : ℕ) (names : List Place) → NamesKnown text o c d others declared names → NamesKnown text true c d true declared names
other_names text o c d others declared names k = record { other = refl; count = k.count; few = k.few; room = k.room; known = k.known }

module _ (text : List ℕ) (declared : ℕ) (names : List Place) (r : List ℕ → Bool) where
  -- no stretch
  no_stretch : (rated : List Bool) → length rated ≡ 16 → StretchKnown text false r declared names false rated
  no_stretch rated m = record { above = refl; marks = m; marked = λ e. cc }

  -- a stretch begins
  new_stretch : declared ≤ 16 → length names ≡ 16 → ((name : List ℕ) → r name ≡ false) → StretchKnown text true r declared names true (replicate 16 false)
  new_stretch few room none = record {
    above = refl;
    marks = refl;
    marked = λ e name x f.
        let u : x < 0 + length (take declared names) = (find_from text (take declared names) 0 name x f).1 in
        let l : length (take declared names) ≡ declared = length-take-le declared names (omega arith) in
        get_or-replicate 16 x false false (omega arith) ∙ sym (none name);
  }

  -- a rate more
  more_rates : (name : List ℕ) (x : ℕ) (b : Bool) (s : Bool) (rated : List Bool) → find text (take declared names) 0 name ≡ Some x → x < 16 → b ≡ true → StretchKnown text b r declared names s rated → StretchKnown text true (λ m. bytes_eq name m || r m) declared names s (set rated x true)
  more_rates name x b s rated f u t k = record {
    above = k.above ∙ t;
    marks = length-set rated x true ∙ k.marks;
    marked = λ e m y g. by m y g (bytes_eq name m) refl (cases_eq y x);
  }
    where
      by : (m : List ℕ) (y : ℕ) → find text (take declared names) 0 m ≡ Some y → (v : Bool) → bytes_eq name m ≡ v → (y ≡ x) ⊎ (y ≡ x → ⊥) → get_or (set rated x true) y false ≡ (v || r m)
      by m y g true e c =
          let n : name ≡ m = (bytes_eq-Decides name m).0 e in
          let q : y ≡ x = some_same y x (sym g ∙ ap (find text (take declared names) 0) (sym n) ∙ f) in
          ap (λ (i : ℕ). get_or (set rated x true) i false) q ∙ get_or-set_same rated x true false (let l = k.marks in omega arith)
      by m y g false e (inl q) =
          let n : name ≡ m = find_same text (take declared names) 0 name m x f (g ∙ ap Some q) in
          let z : true ≡ false = sym ((bytes_eq-Decides name m).1 n) ∙ e in
          cc
      by m y g false e (inr q) = get_or-set_other rated x y true false q ∙ k.marked t m y g

-- the conditions of a line by what is known, and what is known behind it ---------------

module _ (text : List ℕ) (us : List (List Entry)) (p : Past) (k : Knows text us p) (n : ℕ) (line : List Entry) where
  abbrev pub spot : Option ℕ
  spot = variable text p (second_place line)

  misplaced : var_misplaced text p (second_place line) ≡ (other_above us || (leb 16 (vars_above us) || declared_above text us (name_on text line)))
  misplaced =
      ap (λ (v : Bool). v || (leb 16 p.declared || not (is_none spot))) k.names.other
      ∙ ap (λ (c : ℕ). other_above us || (leb 16 c || not (is_none spot))) k.names.count
      ∙ ap (λ (v : Bool). other_above us || (leb 16 (vars_above us) || not v)) (k.names.known (name_on text line))
      ∙ ap (λ (v : Bool). other_above us || (leb 16 (vars_above us) || v)) (not-not (declared_above text us (name_on text line)))

  abbrev pub named : LineWord → Past
  named v = cond (is_var v) (with_name p (second_place line)) (with_other p)

  pub by_var : (v : LineWord) → after_var text p v n (second_place line) ≡ cond (var_wrong text us v line) (Err (refused VarOutOfPlace n 2)) (Ok (named v))
  by_var w.Var = ap (λ (b : Bool). cond b (Err (refused VarOutOfPlace n 2)) (Ok (with_name p (second_place line)))) misplaced
  by_var v = refl

  -- the field of the first use of a name that is not declared
  abbrev pub first_use : List (ℕ × Place) → Option ℕ
  first_use xs = first_bad (λ (u : ℕ × Place). declared_above text us (bytes_at text u.1)) (λ (u : ℕ × Place). u.0) xs

  flip : {A : Type 0} (a b : Bool) (x y : A) → a ≡ not b → cond a x y ≡ cond b y x
  flip a true x y e = rw e
  flip a false x y e = rw e

  by_names : (es : List Entry) → undeclared text (declared_names p) es ≡ first_use (name_fields es)
  by_names [] = refl
  by_names (e ∷ es) = go (is_name e.token) (by_names es)
    where
      go : (b : Bool) → undeclared text (declared_names p) es ≡ first_use (name_fields es) → cond (b && is_none (find text (declared_names p) 0 (bytes_at text e.place))) (Some e.place.field) (undeclared text (declared_names p) es) ≡ first_use (cond b ((e.place.field, e.place) ∷ name_fields es) (name_fields es))
      go true ih = flip _ (declared_above text us (bytes_at text e.place)) _ _ (k.names.known (bytes_at text e.place)) ∙ ap (λ (o : Option ℕ). cond (declared_above text us (bytes_at text e.place)) o (Some e.place.field)) ih
      go false ih = ih

  by_second : cond (is_none spot) (Some 2) (undeclared text (declared_names p) line) ≡ first_use ((2, second_place line) ∷ name_fields line)
  by_second = flip _ (declared_above text us (name_on text line)) _ _ (k.names.known (name_on text line)) ∙ ap (λ (o : Option ℕ). cond (declared_above text us (name_on text line)) o (Some 2)) (by_names line)

  pub by_uses : (v : LineWord) → first_unknown text (named v) v line ≡ first_use (uses v line)
  by_uses w.Var = refl
  by_uses w.Set = by_second
  by_uses w.Rate = by_second
  by_uses v = by_names line

  -- the variable that a rate line names
  rate_named : all_declared text us (uses w.Rate line) ≡ true → (x : ℕ) × (spot ≡ Some x) × (x < 16)
  rate_named h =
      let d = (and_parts (declared_above text us (name_on text line)) (all_declared text us (name_fields line)) h).0 in
      let f = found spot (declared_above text us (name_on text line)) (k.names.known (name_on text line)) d in
      let u = (find_from text (declared_names p) 0 (name_on text line) f.0 f.1).1 in
      let r = k.names.room in
      let c = k.names.few in
      let l : length (take p.declared p.names) ≡ p.declared = length-take-le p.declared p.names (omega arith) in
      (f.0, f.1, omega arith)

  rate_misplaced_is : (x : ℕ) → spot ≡ Some x → x < 16 → rate_misplaced (with_other p) x ≡ (not (stretch_above us) || rated_above text us (name_on text line))
  rate_misplaced_is x e u =
      ap (λ (b : Bool). b || (not p.stretch || get_or p.rated x false)) (lt-leb 16 x u)
      ∙ ap (λ (b : Bool). not b || get_or p.rated x false) k.stretch.above
      ∙ go (stretch_above us) refl
    where
      go : (b : Bool) → stretch_above us ≡ b → (not b || get_or p.rated x false) ≡ (not b || rated_above text us (name_on text line))
      go true t = k.stretch.marked t (name_on text line) x e
      go false t = refl

  -- what is known with the rate of a line
  abbrev pub rated : LineWord → Option ℕ → Past
  rated w.Rate (Some x) = in_stretch (with_other p) p.stretch (set p.rated x true)
  rated w.Rate None = p
  rated w.Run o = in_stretch (with_other p) true (replicate 16 false)
  rated w.Var o = in_stretch (with_name p (second_place line)) false p.rated
  rated v o = in_stretch (with_other p) false p.rated

  pub by_rate : (v : LineWord) → all_declared text us (uses v line) ≡ true → after_rate (named v) v n (variable text (named v) (second_place line)) ≡ cond (rate_wrong text us v line) (Err (refused RateOutOfPlace n 2)) (Ok (rated v spot))
  by_rate w.Rate h =
      let r = rate_named h in
      ap (rate_on (with_other p) n) r.1
      ∙ ap (λ (b : Bool). cond b (Err (refused RateOutOfPlace n 2)) (Ok (rated w.Rate (Some r.0)))) (rate_misplaced_is r.0 r.1 r.2)
      ∙ ap (λ (o : Option ℕ). cond (not (stretch_above us) || rated_above text us (name_on text line)) (Err (refused RateOutOfPlace n 2)) (Ok (rated w.Rate o))) (sym r.1)
  by_rate v h = refl

  depth_is : p.depth ≡ length (open_above us)
  depth_is = sym (opened_count p.depth p.blocks) ∙ ap length k.blocks.opens

  innermost_is : (b : Block) (os : List Block) → open_above us ≡ b ∷ os → innermost p ≡ b
  innermost_is b os e =
      let o = opened_some p.depth p.blocks b os (k.blocks.opens ∙ e) in
      let q = o.1 in
      let m : p.depth - 1 ≡ o.0 = omega arith in
      ap (λ (i : ℕ). get_or p.blocks i (block 0 false)) m ∙ o.2

  none_open : (os : List Block) → open_above us ≡ os → eqb p.depth 0 ≡ is_empty os
  none_open [] e = eq-eqb p.depth 0 (depth_is ∙ ap length e)
  none_open (b ∷ os) e = let d : p.depth ≡ suc (length os) = depth_is ∙ ap length e in ne_eqb p.depth 0 (λ z. omega arith)

  else_served : (os : List Block) → open_above us ≡ os → (eqb p.depth 0 || not (innermost p).elseless) ≡ not (awaits_else os)
  else_served [] e = ap (λ (b : Bool). b || not (innermost p).elseless) (none_open [] e)
  else_served (b ∷ os) e = ap (λ (v : Bool). v || not (innermost p).elseless) (none_open (b ∷ os) e) ∙ ap (λ (c : Block). not c.elseless) (innermost_is b os e)

  -- what is known with the block of a line
  abbrev pub nested : LineWord → Past
  nested w.If = with_blocks (rated w.If spot) (p.depth + 1) (set p.blocks p.depth (block n true))
  nested w.Else = with_blocks (rated w.Else spot) p.depth (set p.blocks (p.depth - 1) (block (innermost p).line false))
  nested w.While = with_blocks (rated w.While spot) (p.depth + 1) (set p.blocks p.depth (block n false))
  nested w.End = with_blocks (rated w.End spot) (p.depth - 1) p.blocks
  nested v = rated v spot

  pub by_block : (v : LineWord) → after_block (rated v spot) v n ≡ cond (block_wrong v (open_above us)) (Err (refused Blocks n 0)) (Ok (nested v))
  by_block w.If = ap (λ (d : ℕ). cond (leb 8 d) (Err (refused Blocks n 0)) (Ok (nested w.If))) depth_is
  by_block w.Else = ap (λ (b : Bool). cond b (Err (refused Blocks n 0)) (Ok (nested w.Else))) (else_served (open_above us) refl)
  by_block w.While = ap (λ (d : ℕ). cond (leb 8 d) (Err (refused Blocks n 0)) (Ok (nested w.While))) depth_is
  by_block w.End = ap (λ (b : Bool). cond b (Err (refused Blocks n 0)) (Ok (nested w.End))) (none_open (open_above us) refl)
  by_block v = refl

  -- the blocks behind the line
  one_more : (b : Bool) → leb 8 (length (open_above us)) ≡ false → BlocksKnown (block n b ∷ open_above us) (p.depth + 1) (set p.blocks p.depth (block n b))
  one_more b e =
      let f : length (open_above us) < 8 = leb-false 8 (length (open_above us)) e in
      let d = depth_is in
      let s = k.blocks.slots in record {
        deep = omega arith;
        slots = length-set p.blocks p.depth (block n b) ∙ s;
        opens = opened_top (p.depth + 1) p.depth p.blocks (block n b) refl (omega arith) ∙ ap (λ (os : List Block). block n b ∷ os) k.blocks.opens;
      }

  its_else : (os : List Block) → open_above us ≡ os → not (awaits_else os) ≡ false → BlocksKnown (elsed os) p.depth (set p.blocks (p.depth - 1) (block (innermost p).line false))
  its_else [] e h = cc
  its_else (b ∷ os) e h =
      let o = opened_some p.depth p.blocks b os (k.blocks.opens ∙ e) in
      let q = o.1 in
      let m : p.depth - 1 ≡ o.0 = omega arith in
      let d = k.blocks.deep in
      let s = k.blocks.slots in record {
        deep = d;
        slots = length-set p.blocks (p.depth - 1) (block (innermost p).line false) ∙ s;
        opens =
            opened_top p.depth (p.depth - 1) p.blocks (block (innermost p).line false) (omega arith) (omega arith)
            ∙ ap (λ (c : Block). block c.line false ∷ opened_in (p.depth - 1) p.blocks) (innermost_is b os e)
            ∙ ap (λ (i : ℕ). block b.line false ∷ opened_in i p.blocks) m
            ∙ ap (λ (cs : List Block). block b.line false ∷ cs) o.3;
      }

  one_less : (os : List Block) → open_above us ≡ os → is_empty os ≡ false → BlocksKnown (drop 1 os) (p.depth - 1) p.blocks
  one_less [] e h = cc
  one_less (b ∷ os) e h =
      let o = opened_some p.depth p.blocks b os (k.blocks.opens ∙ e) in
      let q = o.1 in
      let m : p.depth - 1 ≡ o.0 = omega arith in
      let d = k.blocks.deep in
      record { deep = omega arith; slots = k.blocks.slots; opens = ap (λ (i : ℕ). opened_in i p.blocks) m ∙ o.3 }

  -- behind a line that is neither a var, nor a run or rate line, with these blocks
  plain : (os : List Block) (depth : ℕ) (blocks : List Block) → BlocksKnown os depth blocks → Known text true (vars_above us) (declared_above text us) false (λ name. false) os (with_blocks (in_stretch (with_other p) false p.rated) depth blocks)
  plain os depth blocks b = record {
    names = other_names text _ _ _ p.others p.declared p.names k.names;
    stretch = no_stretch text p.declared p.names (λ name. false) p.rated k.stretch.marks;
    blocks = b;
  }

  -- what the lines above say with a line of this word among them
  abbrev pub Behind : LineWord → Past → Type 0
  Behind v q = Known text (not (is_var v) || other_above us) (cond (is_var v) (vars_above us + 1) (vars_above us)) (λ name. (is_var v && bytes_eq (name_on text line) name) || declared_above text us name) (is_run v || is_rate v) (λ name. is_rate v && (bytes_eq (name_on text line) name || rated_above text us name)) (blocks_after v n (open_above us)) q

  rate_behind : (x : ℕ) → spot ≡ Some x → x < 16 → stretch_above us ≡ true → Behind w.Rate (rated w.Rate (Some x))
  rate_behind x e u t = record {
    names = other_names text _ _ _ p.others p.declared p.names k.names;
    stretch = more_rates text p.declared p.names (rated_above text us) (name_on text line) x (stretch_above us) p.stretch p.rated e u t k.stretch;
    blocks = k.blocks;
  }

  pub knows_more : (v : LineWord) → var_wrong text us v line ≡ false → all_declared text us (uses v line) ≡ true → rate_wrong text us v line ≡ false → block_wrong v (open_above us) ≡ false → Behind v (nested v)
  knows_more w.Var a b c d =
      let o = or_parts (other_above us) _ a in
      let e = or_parts (leb 16 (vars_above us)) _ o.1 in
      let f : vars_above us < 16 = leb-false 16 (vars_above us) e.0 in
      let g = k.names.count in record {
        names = push_names text _ _ (declared_above text us) p.others p.declared p.names (second_place line) k.names (omega arith);
        stretch = no_stretch text (p.declared + 1) (set p.names p.declared (second_place line)) (λ name. false) p.rated k.stretch.marks;
        blocks = k.blocks;
      }
  knows_more w.Set a b c d = plain (open_above us) p.depth p.blocks k.blocks
  knows_more w.Run a b c d = record {
    names = other_names text _ _ _ p.others p.declared p.names k.names;
    stretch = new_stretch text p.declared p.names (λ name. false) k.names.few k.names.room (λ name. refl);
    blocks = k.blocks;
  }
  knows_more w.Rate a b c d =
      let r = rate_named b in
      let s = not-false (stretch_above us) (or_parts (not (stretch_above us)) _ c).0 in
      subst (λ (o : Option ℕ). Behind w.Rate (rated w.Rate o)) (sym r.1) (rate_behind r.0 r.1 r.2 s)
  knows_more w.If a b c d = plain _ _ _ (one_more true d)
  knows_more w.Else a b c d = plain _ _ _ (its_else (open_above us) refl d)
  knows_more w.While a b c d = plain _ _ _ (one_more false d)
  knows_more w.End a b c d = plain _ _ _ (one_less (open_above us) refl d)
