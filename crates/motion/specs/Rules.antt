-- The small-step rules in unlimited fractions, and the curve that they give.
use Rattle.std.specs.Prelude.{◌≡◌, ℕ, suc, ◌-◌, ◌<◌, ◌≤◌, true, false, ◌⊎◌, List, length, drop, pos, Some, ◌≢◌, slice_set}
use Rattle.number.specs.Frac.{Frac, whole}
use Rattle.motion.specs.Numbers.{exact}
use Rattle.motion.specs.Lines.{Line, Item, Rate}
use Rattle.motion.specs.Items.{Got, good, bad, number_of, truth_of}
use Rattle.motion.specs.Flow.{flow}
use Rattle.motion.specs.NextLine.{declared}
use Rattle.motion.specs.Program.{Prog, skip, assign, evolve, rest, branch, repeat, seq, ◌⨟◌, Spells}

-- the values of the variables, in var order
abbrev pub Env : Type 0
Env = List Frac

-- a program with its values and the ticks to go; a stop with what is left to do; a failure
pub data Config : Type 0 where
  run : Prog → Env → (ticks : ℕ) → Config
  stop : Prog → Env → Config
  err : Config

-- items have no value, by a zero divisor
abbrev pub Undefined : {A : Type 0} → Got A → Type 0
Undefined {A} r = (f : ℕ) × (r ≡ bad 21 f)

-- a stretch lasts d ticks
abbrev pub Lasts : List Item → Env → ℕ → Type 0
Lasts e σ d = number_of exact σ 2 e ≡ good (whole (pos d))

-- a stretch has no duration: its items have no value, or come to a number that is negative or not whole
abbrev pub NeverLasts : List Item → Env → Type 0
NeverLasts e σ = Undefined (number_of exact σ 2 e) ⊎ ((q : Frac) × (number_of exact σ 2 e ≡ good q) × ((d : ℕ) → q ≢ whole (pos d)))

-- One step: one use of a rule. An assignment keeps the ticks to go; a stretch of d ticks takes d of them, or stops when there are fewer.
infix 20 ◌⟶◌
pub data ◌⟶◌ : Config → Config → Type 0 where
  -- x := v, where the items come to v; a zero divisor fails
  set_to : {l x t : ℕ} {e : List Item} {σ : Env} {v : Frac} → number_of exact σ 3 e ≡ good v → run (assign l x e) σ t ⟶ run skip (slice_set σ x v) t
  set_fails : {l x t : ℕ} {e : List Item} {σ : Env} → Undefined (number_of exact σ 3 e) → run (assign l x e) σ t ⟶ err
  -- t < d: the values flow t ticks and the run stops, with a rest of d - t ticks; the duration is not worked out again
  evolve_stop : {l t d : ℕ} {e : List Item} {r : List Rate} {σ τ : Env} → Lasts e σ d → t < d → flow exact r σ t ≡ Some τ → run (evolve l e r) σ t ⟶ stop (rest l (d - t) r) τ
  rest_stop : {l t d : ℕ} {r : List Rate} {σ τ : Env} → t < d → flow exact r σ t ≡ Some τ → run (rest l d r) σ t ⟶ stop (rest l (d - t) r) τ
  -- d ≤ t: the values flow d ticks, and t - d are to go
  evolve_through : {l t d : ℕ} {e : List Item} {r : List Rate} {σ τ : Env} → Lasts e σ d → d ≤ t → flow exact r σ d ≡ Some τ → run (evolve l e r) σ t ⟶ run skip τ (t - d)
  rest_through : {l t d : ℕ} {r : List Rate} {σ τ : Env} → d ≤ t → flow exact r σ d ≡ Some τ → run (rest l d r) σ t ⟶ run skip τ (t - d)
  -- a stretch without a duration fails
  evolve_fails : {l t : ℕ} {e : List Item} {r : List Rate} {σ : Env} → NeverLasts e σ → run (evolve l e r) σ t ⟶ err
  -- if: its body where the items come to true, its else part where they come to false
  if_true : {l t : ℕ} {e : List Item} {a b : Prog} {σ : Env} → truth_of exact σ 2 e ≡ good true → run (branch l e a b) σ t ⟶ run a σ t
  if_false : {l t : ℕ} {e : List Item} {a b : Prog} {σ : Env} → truth_of exact σ 2 e ≡ good false → run (branch l e a b) σ t ⟶ run b σ t
  if_fails : {l t : ℕ} {e : List Item} {a b : Prog} {σ : Env} → Undefined (truth_of exact σ 2 e) → run (branch l e a b) σ t ⟶ err
  -- while: its body and then the while again, or nothing
  while_true : {l t : ℕ} {e : List Item} {a : Prog} {σ : Env} → truth_of exact σ 2 e ≡ good true → run (repeat l e a) σ t ⟶ run (a ⨟ repeat l e a) σ t
  while_false : {l t : ℕ} {e : List Item} {a : Prog} {σ : Env} → truth_of exact σ 2 e ≡ good false → run (repeat l e a) σ t ⟶ run skip σ t
  while_fails : {l t : ℕ} {e : List Item} {a : Prog} {σ : Env} → Undefined (truth_of exact σ 2 e) → run (repeat l e a) σ t ⟶ err
  -- one statement and then another: a step of the first; skip before q is q, at no step; a stop keeps what follows
  seq_run : {t u : ℕ} {p p' q : Prog} {σ τ : Env} → run p σ t ⟶ run p' τ u → run (seq p q) σ t ⟶ run (p' ⨟ q) τ u
  seq_stop : {t : ℕ} {p p' q : Prog} {σ τ : Env} → run p σ t ⟶ stop p' τ → run (seq p q) σ t ⟶ stop (seq p' q) τ
  seq_fails : {t : ℕ} {p q : Prog} {σ : Env} → run p σ t ⟶ err → run (seq p q) σ t ⟶ err

-- n steps one after the other
pub data Steps : ℕ → Config → Config → Type 0 where
  done : {c : Config} → Steps 0 c c
  more : {n : ℕ} {c d e : Config} → c ⟶ d → Steps n d e → Steps (suc n) c e

-- A configuration that has come to rest.
pub data Resting : Config → Type 0 where
  stopped : {p : Prog} {σ : Env} → Resting (stop p σ)
  finished : {σ : Env} {t : ℕ} → Resting (run skip σ t)
  failed : Resting err

-- where a run stands: the values, the line, the ticks left in the stretch, the ticks over
pub record Standing : Type 0 where
  pub values : Env
  pub line : ℕ
  pub left : ℕ
  pub over : ℕ

-- the stretch that a stopped program is to go on with
pub data Heads : Prog → ℕ → ℕ → Type 0 where
  here : {l d : ℕ} {r : List Rate} → Heads (rest l d r) l d
  in_seq : {l d : ℕ} {p q : Prog} → Heads p l d → Heads (seq p q) l d

-- what a configuration that has come to rest shows; `last` is one past the last line
pub data Shows (last : ℕ) : Config → Standing → Type 0 where
  at_stop : {p : Prog} {σ : Env} {l d : ℕ} → Heads p l d → Shows last (stop p σ) (record { values = σ; line = l; left = d; over = 0 })
  at_end : {σ : Env} {t : ℕ} → Shows last (run skip σ t) (record { values = σ; line = last; left = 0; over = t })

-- p is the program of a script
abbrev pub ProgramOf : List Line → Prog → Type 0
ProgramOf all p = Spells (suc (length (declared all))) (drop (length (declared all)) all) p

-- the curve of a script at tick T
pub record Curve (script : List Line) (T : ℕ) (at : Standing) : Type 0 where
  pub program : Prog
  pub spelled : ProgramOf script program
  pub steps : ℕ
  pub end : Config
  pub runs : Steps steps (run program (declared script) T) end
  pub shows : Shows (suc (length script)) end at
