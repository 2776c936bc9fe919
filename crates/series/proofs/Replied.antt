-- One call and its reply. Assumes nothing.
use Rattle.std.proofs.Common.{◌≡◌, ℕ, ◌+◌, ◌≤◌, min, Bool, true, false, cond, ◌&&◌, ◌||◌, leb, List, length, take, ℤ, Ok, Err, Option, Result, sym, refl, ap, ◌∙◌, subst, add-zero, arith}
use Rattle.std.proofs.lemmas.Bool.Decides.{nat_tests}
use Rattle.std.proofs.lemmas.List.{length-take}
use Rattle.std.specs.Borrow.{Bor}
use Rattle.number.specs.declared.Pair.{Pair}
use Rattle.number.specs.Frac.{Frac}
use Rattle.number.specs.Kind.{Holds}
use Rattle.motion.specs.Lines.{Line}
use Rattle.motion.specs.NextLine.{declared}
use Rattle.motion.specs.Program.{Prog}
use Rattle.motion.specs.Rules.{ProgramOf}
use Rattle.motion.specs.Chains.{Shallows}
use Rattle.motion.specs.Carriers.{Each}
use Rattle.motion.specs.Machine.{accepted, refused}
use Rattle.motion.specs.Machine as M
use Rattle.motion.specs.Pairs.{numbers_of, Meant}
use Rattle.motion.specs.Fitting.{fits, advance_call}
use Rattle.motion.specs.Calls.{StandsAt}
use Rattle.motion.specs.OneAdvance.{Stands, as_built, on_curve}
use Rattle.motion.specs.Promise.{Alike}
use Rattle.motion.proofs.OneAdvance.{advance_law, alike_on_curve}
use Rattle.record.specs.declared.Bench.{Bench}
use Rattle.record.specs.Refusals.{Refusal}
use Rattle.record.specs.declared.Reason.TheVariants.{BufferTooShort}
use Rattle.refusal.specs.Refusals.{refused as why}
use Rattle.record.specs.Benches.{bench_of}
use Rattle.handover.specs.Lines.{line_of}
use Rattle.handover.proofs.Lawful.{short_lines}
use Rattle.bench.specs.Built.{first_values}
use Rattle.bench.specs.Calls.{fitting, advanced, told, kept_if_refused, unfit, read_variable, joint_of, written}
use Rattle.bench.specs.Laws.{OnCurve}
use Rattle.bench.proofs.Fitted.{fits_within}
use Rattle.bench.proofs.Called.{reads}
use Rattle.series.specs.declared.calls.Call.{Call}
use Rattle.series.specs.declared.calls.Call.TheVariants.{Advance, Reading, NextJoint, Write, HandOver}
use Rattle.series.specs.declared.calls.Answer.{Answer}
use Rattle.series.specs.declared.calls.Answer.TheVariants.{Joint}
use Rattle.series.specs.Series.{advance_answer, value_answer, size_answer, hand_answer, handed, ticks_in, is_advanced, write_call, read_call, KeptAfter, Replies, advances, advance_refused, reads as told-reading, asks, writes, hands_over, ValueTold, ReadTold}

-- what was written is taken up as the same bench
pub hand_same : (b c : M.Bench Pair) (x : Result (M.Bench Pair) Refusal) → Ok c ≡ x → x ≡ Ok b → c ≡ b
hand_same b c x e f = cc

pub hand_never : (b : M.Bench Pair) (r : Refusal) (x : Result (M.Bench Pair) Refusal) → Err r ≡ x → x ≡ Ok b → ⊥
hand_never b r x e f = let z : ◌≡◌ {A = ℕ} 0 1 = cc in omega arith

-- a record with room for its values fits where its bench does
pub fits_same : (means : Pair → Option Frac) (code : Frac → Option Pair) (script : List Line) (b : Bench) → b.values.count ≤ 16 → fitting (numbers_of means code) script b ≡ fits (numbers_of means code) script (bench_of b)
fits_same means code script b few = let k : leb b.values.count 16 ≡ true = grind (arith, nat_tests) in ap (λ (v : Bool). v && fits (numbers_of means code) script (bench_of b)) k

module _ (means : Pair → Option Frac) (code : Frac → Option Pair) (script : List Line) (b : Bench) (few : b.values.count ≤ 16) where
  -- what a write answers, by the length of its buffer
  pub write_same : (buffer : List ℕ) → cond (fitting (numbers_of means code) script b) (written (line_of means (bench_of b)) buffer) unfit ≡ write_call means code script (bench_of b) (length buffer)
  write_same buffer = ap (λ (v : Bool). cond v (written (line_of means (bench_of b)) buffer) unfit) (fits_same means code script b few)

  -- and what an advance does
  pub advance_same : (t a : ℕ) → advanced (numbers_of means code) script b t a ≡ advance_call (numbers_of means code) script (bench_of b) t a
  advance_same t a = ap (λ (v : Bool). cond v (M.advance (numbers_of means code) script (bench_of b) t a) (refused 18 0 0)) (fits_same means code script b few)

  module _ (place : List ℕ → Option ℕ) where
    pub read_same : (name : List ℕ) → cond (fitting (numbers_of means code) script b) (read_variable means (bench_of b).values (place name)) unfit ≡ read_call means code script place (bench_of b) name
    read_same name = ap (λ (v : Bool). cond v (read_variable means (bench_of b).values (place name)) unfit) (fits_same means code script b few)

    -- a reply to an advance
    pub advance_replies : (t a : ℕ) (r : Result (ℕ × ℕ) Refusal) (c : Bench) → told r c ≡ advanced (numbers_of means code) script b t a → kept_if_refused r b c → Replies means code script place (bench_of b) (Advance t a) (advance_answer r) (bench_of c)
    advance_replies t a (Ok p) c e k = advances (sym (e ∙ advance_same t a))
    advance_replies t a (Err x) c e k = subst (Replies means code script place (bench_of b) (Advance t a) (Err x)) (sym (ap bench_of k)) (advance_refused (sym (e ∙ advance_same t a)))

-- equal calls and replies
pub as_told : (means : Pair → Option Frac) (code : Frac → Option Pair) (script : List Line) (place : List ℕ → Option ℕ) (b c : M.Bench Pair) (call call' : Call) (reply reply' : Result Answer Refusal) → call ≡ call' → reply ≡ reply' →
    Replies means code script place b call' reply' c → Replies means code script place b call reply c
as_told means code script place b c call call' reply reply' e f h =
    subst (λ (x : Call). Replies means code script place b x reply c) (sym e) (subst (λ (y : Result Answer Refusal). Replies means code script place b call' y c) (sym f) h)

-- a call performed, by what it answers
module _ (means : Pair → Option Frac) (code : Frac → Option Pair) (script : List Line) (place : List ℕ → Option ℕ) (b : Bench) (few : b.values.count ≤ 16) {call : Call} {reply : Result Answer Refusal} where
  pub advance_done : {t a : ℕ} (r : Result (ℕ × ℕ) Refusal) (c : Bench) → call ≡ Advance t a → reply ≡ advance_answer r → told r c ≡ advanced (numbers_of means code) script b t a → kept_if_refused r b c → Replies means code script place (bench_of b) call reply (bench_of c)
  advance_done {t} {a} r c e f h k = as_told means code script place (bench_of b) (bench_of c) call (Advance t a) reply (advance_answer r) e f (advance_replies means code script b few place t a r c h k)

  pub reading_done : {name : Bor (List ℕ)} {r : Result (ℤ × ℤ) Refusal} → call ≡ Reading name → reply ≡ value_answer r → r ≡ cond (fitting (numbers_of means code) script b) (read_variable means (bench_of b).values (place name.now)) unfit → Replies means code script place (bench_of b) call reply (bench_of b)
  reading_done {name} {r} e f h =
      as_told means code script place (bench_of b) (bench_of b) call (Reading name) reply (value_answer (read_call means code script place (bench_of b) name.now)) e (f ∙ ap value_answer (h ∙ read_same means code script b few place name.now)) told-reading

  pub write_done : {room : ℕ} {r : Result ℕ Refusal} → call ≡ Write room → reply ≡ size_answer r → r ≡ write_call means code script (bench_of b) room → Replies means code script place (bench_of b) call reply (bench_of b)
  write_done {room} {r} e f h = as_told means code script place (bench_of b) (bench_of b) call (Write room) reply (size_answer (write_call means code script (bench_of b) room)) e (f ∙ ap size_answer h) writes

  pub hand_done : {room : ℕ} {r : Result Unit Refusal} (c : M.Bench Pair) → call ≡ HandOver room → reply ≡ hand_answer r → r ≡ handed (write_call means code script (bench_of b) room) → c ≡ bench_of b → Replies means code script place (bench_of b) call reply c
  hand_done {room} {r} c e f h k =
      subst (Replies means code script place (bench_of b) call reply) (sym k)
      (as_told means code script place (bench_of b) (bench_of b) call (HandOver room) reply (hand_answer (handed (write_call means code script (bench_of b) room))) e (f ∙ ap hand_answer h) hands_over)

  pub ask_done : {r : Option ℕ} → call ≡ NextJoint → reply ≡ Ok (Joint r) → r ≡ joint_of b.left → Replies means code script place (bench_of b) call reply (bench_of b)
  ask_done {r} e f h = as_told means code script place (bench_of b) (bench_of b) call NextJoint reply (Ok (Joint (joint_of b.left))) e (f ∙ ap (λ (x : Option ℕ). Ok (Joint x)) h) asks

-- the length of the front of a buffer of 411 bytes
pub cut_length : (buffer : List ℕ) (room n : ℕ) → n ≡ min room 411 → length buffer ≡ 411 → length (take n buffer) ≡ min room 411
cut_length buffer room n e h = length-take n buffer ∙ rw (h, e) (grind arith)

-- a buffer cut to 411 bytes is as good as the whole
pub room_same : (means : Pair → Option Frac) (code : Frac → Option Pair) → Holds means code → (script : List Line) → length script ≤ 256 → length (declared script) ≤ 16 → (b : M.Bench Pair) (n room : ℕ) → n ≡ min room 411 →
    write_call means code script b n ≡ write_call means code script b room
room_same means code laws script few_lines few-values b n room e = by (fits (numbers_of means code) script b) refl
  where
    cut : (size : ℕ) → size ≤ 411 → leb size n ≡ leb size room
    cut size s = rw e (grind (arith, nat_tests))

    by : (x : Bool) → fits (numbers_of means code) script b ≡ x →
        cond x (cond (leb (length (line_of means b)) n) (Ok (length (line_of means b))) (Err (why {N = ℕ} BufferTooShort 0 0))) unfit
        ≡ cond x (cond (leb (length (line_of means b)) room) (Ok (length (line_of means b))) (Err (why {N = ℕ} BufferTooShort 0 0))) unfit
    by true f = ap (λ (v : Bool). cond v (Ok (length (line_of means b))) (Err (why {N = ℕ} BufferTooShort 0 0))) (cut (length (line_of means b)) (short_lines means code laws b (fits_within means code script few_lines few-values b f).0))
    by false f = refl

-- the bench is kept to the sum by every call
module _ (means : Pair → Option Frac) (code : Frac → Option Pair) (laws : Holds means code) (script : List Line) (place : List ℕ → Option ℕ) (p : Prog) (spelled : ProgramOf script p) (shallow : Shallows p) (each : Each (Meant means) (declared script) (first_values code script)) where
  stood : (b : M.Bench Pair) (sum : ℕ) (moved : Bool) → KeptAfter means code script b sum moved → Stands (Meant means) (numbers_of means code) script (first_values code script) b
  stood b sum false k = as_built k.1
  stood b sum true k = on_curve (subst (λ (T : ℕ). StandsAt (Meant means) (numbers_of means code) script T b) (sym k.0) k.1)

  total_kept : (b : M.Bench Pair) (sum : ℕ) (moved : Bool) → KeptAfter means code script b sum moved → b.total ≡ sum
  total_kept b sum false k = k.0
  total_kept b sum true k = k.0

  -- a call that moves nothing
  stays : (b : M.Bench Pair) (sum : ℕ) (moved : Bool) → KeptAfter means code script b sum moved → KeptAfter means code script b (sum + 0) (moved || false)
  stays b sum moved k = subst (λ (T : ℕ). KeptAfter means code script b T (moved || false)) (sym (add-zero sum)) (same moved k)
    where
      same : (m : Bool) → KeptAfter means code script b sum m → KeptAfter means code script b sum (m || false)
      same true k = k
      same false k = k

  went : (b : M.Bench Pair) (t a k o : ℕ) (c : M.Bench Pair) → advance_call (numbers_of means code) script b t a ≡ accepted k o c → M.advance (numbers_of means code) script b t a ≡ accepted k o c
  went b t a k o c e = by (fits (numbers_of means code) script b) e
    where
      by : (x : Bool) → cond x (M.advance (numbers_of means code) script b t a) (refused 18 0 0) ≡ accepted k o c → M.advance (numbers_of means code) script b t a ≡ accepted k o c
      by true h = h
      by false h = let z : ◌≡◌ {A = ℕ} 0 1 = cc in absurd (omega arith)

  moves : (b : M.Bench Pair) (sum : ℕ) (moved : Bool) (t a k o : ℕ) (c : M.Bench Pair) → KeptAfter means code script b sum moved → advance_call (numbers_of means code) script b t a ≡ accepted k o c → KeptAfter means code script c (sum + t) (moved || true)
  moves b sum moved t a k o c kept e =
      let g = went b t a k o c e in
      let l = advance_law means code laws script p spelled shallow (first_values code script) each b (stood b sum moved kept) t a in
      let n : b.total + t ≡ sum + t = ap (λ (x : ℕ). x + t) (total_kept b sum moved kept) in
      any moved ((l.counted k o c g).0 ∙ n, subst (λ (T : ℕ). OnCurve means code script T c) n (l.stands k o c g))
    where
      any : (m : Bool) → (c.total ≡ sum + t) × OnCurve means code script (sum + t) c → KeptAfter means code script c (sum + t) (m || true)
      any true h = h
      any false h = h

  value_still : (x : Result (ℤ × ℤ) Refusal) → is_advanced (value_answer x) ≡ false
  value_still (Ok q) = refl
  value_still (Err e) = refl

  size_still : (x : Result ℕ Refusal) → is_advanced (size_answer x) ≡ false
  size_still (Ok q) = refl
  size_still (Err e) = refl

  hand_still : (x : Result Unit Refusal) → is_advanced (hand_answer x) ≡ false
  hand_still (Ok q) = refl
  hand_still (Err e) = refl

  still : (b : M.Bench Pair) (sum : ℕ) (moved : Bool) (r : Result Answer Refusal) → is_advanced r ≡ false → KeptAfter means code script b sum moved → KeptAfter means code script b (sum + 0) (moved || is_advanced r)
  still b sum moved r e k = subst (λ (x : Bool). KeptAfter means code script b (sum + 0) (moved || x)) (sym e) (stays b sum moved k)

  pub kept_on : {b c : M.Bench Pair} {call : Call} {reply : Result Answer Refusal} (sum : ℕ) (moved : Bool) → KeptAfter means code script b sum moved → Replies means code script place b call reply c →
      KeptAfter means code script c (sum + ticks_in call reply) (moved || is_advanced reply)
  kept_on {b} {c} sum moved k (advances {t = t} {a = a} {k = n} {o = o} e) = moves b sum moved t a n o c k e
  kept_on {b} sum moved k (advance_refused e) = stays b sum moved k
  kept_on {b} sum moved k (told-reading {name = name}) = still b sum moved (value_answer (read_call means code script place b name.now)) (value_still (read_call means code script place b name.now)) k
  kept_on {b} sum moved k asks = stays b sum moved k
  kept_on {b} sum moved k (writes {room = room}) = still b sum moved (size_answer (write_call means code script b room)) (size_still (write_call means code script b room)) k
  kept_on {b} sum moved k (hands_over {room = room}) = still b sum moved (hand_answer (handed (write_call means code script b room))) (hand_still (handed (write_call means code script b room))) k

  -- a reading on the curve tells the curve's value
  value_told : (b : M.Bench Pair) (sum : ℕ) (name : List ℕ) → OnCurve means code script sum b → (r : Result (ℤ × ℤ) Refusal) → r ≡ read_call means code script place b name → ValueTold means code script place sum name (value_answer r)
  value_told b sum name on (Ok q) e = reads means code script sum b on (place name) (fits (numbers_of means code) script b) (Ok q) e
  value_told b sum name on (Err x) e = tt

  pub read_on : {b c : M.Bench Pair} {call : Call} {reply : Result Answer Refusal} (sum : ℕ) (moved : Bool) → KeptAfter means code script b sum moved → Replies means code script place b call reply c → ReadTold means code script place moved sum call reply
  read_on {b} sum true k (told-reading {name = name}) = value_told b sum name.now k.1 (read_call means code script place b name.now) refl
  read_on {b} sum false k (told-reading {name = name}) = tt
  read_on sum moved k (advances e) = tt
  read_on sum moved k (advance_refused e) = tt
  read_on sum moved k asks = tt
  read_on sum moved k writes = tt
  read_on sum moved k hands_over = tt

-- two benches in two kinds
module _ (means means' : Pair → Option Frac) (code code' : Frac → Option Pair) (script : List Line) (each : Each (Meant means) (declared script) (first_values code script)) (each' : Each (Meant means') (declared script) (first_values code' script)) where
  pub alike_two : (b c : M.Bench Pair) (sum sum' : ℕ) (moved moved' : Bool) → KeptAfter means code script b sum moved → KeptAfter means' code' script c sum' moved' → sum ≡ sum' → moved ≡ moved' → Alike means means' b c
  alike_two b c sum sum' true true k l e m =
      alike_on_curve.curve means means' code code' script sum b c k.1 (subst (λ (T : ℕ). OnCurve means' code' script T c) (sym e) l.1) (k.0 ∙ e ∙ sym l.0)
  alike_two b c sum sum' false false k l e m =
      alike_on_curve.standing means means' code code' script (first_values code script) (first_values code' script) each each' b c (as_built k.1) (as_built l.1) tt (k.0 ∙ e ∙ sym l.0)
  alike_two b c sum sum' true false k l e m = let z : ◌≡◌ {A = ℕ} 0 1 = cc in absurd (omega arith)
  alike_two b c sum sum' false true k l e m = let z : ◌≡◌ {A = ℕ} 0 1 = cc in absurd (omega arith)
