-- The line machine and the rules say the same.
use Rattle.std.specs.Prelude.{◌≡◌, ℕ, suc, ◌+◌, ◌<◌, ◌≤◌, false, ◌⊎◌, ◌↔◌, List, [], ◌∷◌, length, ◌≢◌}
use Rattle.number.specs.Frac.{Frac}
use Rattle.motion.specs.Lines.{Line}
use Rattle.motion.specs.Machine as M
use Rattle.motion.specs.NextLine.{line_at, declared}
use Rattle.motion.specs.Machine.{at, inside, place_at, place_of, Bench, Answer, accepted, refused, Stepped, go, fail, step, stretch, advance, new}
use Rattle.motion.specs.Program.{Prog, skip, Spells}
use Rattle.motion.specs.Rules.{Env, Config, run, stop, err, ◌⟶◌, Steps, Heads, Shows, Standing, Resting, ProgramOf, Curve}
use Rattle.motion.specs.Numbers.{exact}
use Rattle.motion.specs.Machine as M
use Rattle.motion.specs.ReadOff.{read, block}
use Rattle.motion.specs.Remaining.{Left}

-- the faults that are an error of the rules
abbrev pub Err : ℕ → Type 0
Err i = (i ≡ 21) ⊎ (i ≡ 22)

-- the numbers with which a step can fail
abbrev pub Fault : ℕ → Type 0
Fault i = (0 < i) × (i ≢ 20)

-- where a bench in unlimited fractions stands
abbrev pub standing : Bench Frac → Standing
standing b = record { values = b.values; line = b.line; left = b.left; over = b.over }

-- a bench from which a run goes on as from a configuration: in a stretch, or with nothing left to be done
pub data GoesOn (all : List Line) (b : Bench Frac) : Config → Type 0 where
  from_stop : {p : Prog} → Left all (place_of all b) p → b.over ≡ 0 → 0 < b.left → GoesOn all b (stop p b.values)
  from_end : {p : Prog} → Left all (place_of all b) p → b.left ≡ 0 → GoesOn all b (run p b.values b.over)

-- after n steps there is still a statement to be done
abbrev pub Unfinished : ℕ → Config → Type 0
Unfinished n c = (p : Prog) × (σ : Env) × (t : ℕ) × Steps n c (run p σ t) × (p ≢ skip)

-- an answer that says where a run has come to rest
abbrev pub Says : List Line → Config → Answer Frac → Type 0
Says all c (accepted k over b) = Shows (suc (length all)) c (standing b)
Says all c (refused i n f) = (c ≡ err) × Err i

-- One step of the line machine with p left to be done, by what it comes to, and the step of the rules.
pub record StepAgrees (all : List Line) (p : Prog) (σ : Env) (t : ℕ) (s : M.Stepped Frac) : Type 0 where
  pub goes : (m : ℕ) (e : Env) (u : ℕ) → s ≡ go m e u → (p' : Prog) × (run p σ t ⟶ run p' e u) × Left all (place_at all m) p'
  pub stops : (n d : ℕ) (e : Env) → s ≡ M.stop n d e → (p' : Prog) × (run p σ t ⟶ stop p' e) × Heads p' n d × Left all (inside n d) p' × (0 < d)
  pub fails : (i n f : ℕ) → s ≡ fail i n f → Err i → run p σ t ⟶ err
  pub only_fails : (i n f : ℕ) → s ≡ fail i n f → (c : Config) → run p σ t ⟶ c → Err i
  -- a place is always at a statement, and only an allowance used up is 20
  pub faults : (i n f : ℕ) → s ≡ fail i n f → Fault i

-- an answer refuses, by a number of which P holds
abbrev pub RefusedBy : (ℕ → Type 0) → Answer Frac → Type 0
RefusedBy P r = (i : ℕ) × (line : ℕ) × (field : ℕ) × P i × (r ≡ refused i line field)

-- at most a steps lead to a failure
abbrev pub FailsWithin : ℕ → Config → Type 0
FailsWithin a c = (j : ℕ) × (j ≤ a) × Steps j c err

-- What holds between the line machine in unlimited fractions and the rules.
pub record FollowsRules : Type 0 where
  -- lines spell at most one program
  pub one_program : (i : ℕ) (ls : List Line) (p q : Prog) → Spells i ls p → Spells i ls q → p ≡ q
  -- and which it is can be read off
  pub read_off : (i : ℕ) (ls : List Line) (p : Prog) → Spells i ls p ↔ (read i ls ≡ block [] p false ∷ [])
  -- at the place of a new bench the whole program is left
  pub starts : (all : List Line) (p : Prog) → ProgramOf all p → Left all (place_of all (new all (declared all))) p
  -- one step of the machine is one step of the rules: of the statement on a line, and of a stretch that is gone on with
  pub one_step : (all : List Line) (n : ℕ) (p : Prog) (σ : Env) (t : ℕ) → Left all (at n) p → StepAgrees all p σ t (step exact all σ t n (line_at all n))
  pub one_stretch : (all : List Line) (n d : ℕ) (p : Prog) (σ : Env) (t : ℕ) → Left all (inside n d) p → StepAgrees all p σ t (stretch exact all σ t n d)
  -- an accepted advance of any bench whose place has p left
  pub any_bench : (all : List Line) (b : Bench Frac) (p : Prog) (T a : ℕ) → Left all (place_of all b) p
      → (k over : ℕ) (b' : Bench Frac) → advance exact all b T a ≡ accepted k over b'
      → (c : Config) × (k ≤ a) × Steps k (run p b.values (b.over + T)) c × Shows (suc (length all)) c (standing b') × GoesOn all b' c
  -- of a new bench: an accepted advance stands on the curve
  pub on_the_curve : (all : List Line) (p : Prog) → ProgramOf all p → (T a k over : ℕ) (b : Bench Frac) → advance exact all (new all (declared all)) T a ≡ accepted k over b → Curve all T (standing b)
  -- refused by 21 or 22 exactly where the rules fail within the steps allowed
  pub fails_exactly : (all : List Line) (b : Bench Frac) (p : Prog) (T a : ℕ) → Left all (place_of all b) p → b.total + T ≤ 2147483647
      → RefusedBy Err (advance exact all b T a) ↔ FailsWithin a (run p b.values (b.over + T))
  -- refused by 20 exactly where the rules need more steps than allowed
  pub short_exactly : (all : List Line) (b : Bench Frac) (p : Prog) (T a : ℕ) → Left all (place_of all b) p → b.total + T ≤ 2147483647
      → RefusedBy (λ i. i ≡ 20) (advance exact all b T a) ↔ Unfinished a (run p b.values (b.over + T))
  -- and the other way: where the rules come to rest within the allowance, the answer says where
  pub answers : (all : List Line) (b : Bench Frac) (p : Prog) (T a : ℕ) → Left all (place_of all b) p → b.total + T ≤ 2147483647
      → (j : ℕ) (c : Config) → Steps j (run p b.values (b.over + T)) c → Resting c → j ≤ a → Says all c (advance exact all b T a)
  -- where the curve has a standing, an advance of a new bench with enough steps is accepted, in the rules' number of steps, and stands there
  pub off_the_curve : (all : List Line) (T a : ℕ) (s : Standing) (on : Curve all T s) → T ≤ 2147483647 → on.steps ≤ a
      → (b : Bench Frac) × (advance exact all (new all (declared all)) T a ≡ accepted on.steps s.over b) × (standing b ≡ s)
