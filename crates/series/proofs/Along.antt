-- Calls one after the other. Assumes nothing.
use Rattle.std.proofs.Common.{◌≡◌, ℕ, zero, suc, ◌<◌, false, List, [], ◌∷◌, ◌++◌, map, length, get_or, set, Option, Result, sym, refl, ap, ◌∙◌, subst, arith}
use Rattle.script.specs.declared.reading.Entry.{Entry}
use Rattle.script.specs.declared.places.Place.{Place}
use Rattle.number.specs.declared.Kind.{Ghosts}
use Rattle.number.specs.declared.Pair.{Pair}
use Rattle.number.specs.Frac.{Frac}
use Rattle.number.specs.Kind.{Holds}
use Rattle.motion.specs.Lines.{Line}
use Rattle.motion.specs.NextLine.{declared}
use Rattle.motion.specs.Program.{Prog}
use Rattle.motion.specs.Rules.{ProgramOf}
use Rattle.motion.specs.Chains.{Shallows}
use Rattle.motion.specs.Carriers.{Each}
use Rattle.motion.specs.Machine.{new}
use Rattle.motion.specs.Machine as M
use Rattle.motion.specs.Pairs.{Meant}
use Rattle.entries.specs.Fields.{lines, find}
use Rattle.entries.specs.Decoding.{names_of, script_of}
use Rattle.checker.specs.declared.scripts.Checked.{Checked}
use Rattle.checker.specs.Scripts.{text_in, lines_in, variable_in, Sound}
use Rattle.bench.specs.Built.{first_values}
use Rattle.bench.proofs.First.{values_held}
use Rattle.bench.proofs.Promised.{spelled}
use Rattle.series.specs.declared.calls.Call.{Call}
use Rattle.record.specs.Refusals.{Refusal}
use Rattle.series.specs.declared.calls.Answer.{Answer}
use Rattle.series.specs.declared.calls.Step.{Step}
use Rattle.series.specs.Series.{call_in, step, Replies, none, more, After, Performed}
use Rattle.series.specs.Promise.{script_in, variable_of, Promise}
use Rattle.series.proofs.Replied.{kept_on, read_on}

-- one step replaced by one with the same call
pub calls_same : (steps : List Step) (i : ℕ) (s d : Step) → s.call ≡ (get_or steps i d).call → i < length steps → map call_in (set steps i s) ≡ map call_in steps
calls_same [] i s d e h = refl
calls_same (x ∷ steps) zero s d e h = ap (λ (c : Call). c ∷ map call_in steps) e
calls_same (x ∷ steps) (suc i) s d e h = ap (λ (cs : List Call). x.call ∷ cs) (calls_same steps i s d e (omega arith))

module _ (means : Pair → Option Frac) (code : Frac → Option Pair) (script : List Line) (place : List ℕ → Option ℕ) where
  -- no call yet
  pub performed_none : Each (Meant means) (declared script) (first_values code script) → (b : M.Bench Pair) → b ≡ new script (first_values code script) → Performed means code script place [] b
  performed_none each b e = record {
    held = each;
    sum = 0;
    moved = false;
    after = subst (λ (c : M.Bench Pair). After means code script place [] c 0 false) (sym e) none;
    kept = (ap (λ (c : M.Bench Pair). c.total) e, e);
  }

  -- and one more
  pub performed_more : Holds means code → (p : Prog) → ProgramOf script p → Shallows p → Each (Meant means) (declared script) (first_values code script) →
      (us : List Step) (b c : M.Bench Pair) (call : Call) (reply : Result Answer Refusal) → Performed means code script place us b → Replies means code script place b call reply c → Performed means code script place (us ++ (step call reply ∷ [])) c
  performed_more laws p spells shallow each us b c call reply h r = record {
    held = each;
    sum = _;
    moved = _;
    after = more h.after h.kept r (read_on means code laws script place p spells shallow each h.sum h.moved h.kept r);
    kept = kept_on means code laws script place p spells shallow each h.sum h.moved h.kept r;
  }

-- of a script that passed
module _ {X : Type 0} {K : Ghosts X} (s : Checked X K) (means : Pair → Option Frac) (code : Frac → Option Pair) (laws : Holds means code) (h : Sound s means code) where
  pub sound_more : (us : List Step) (b c : M.Bench Pair) (call : Call) (reply : Result Answer Refusal) → Performed means code (lines_in s) (variable_in s) us b → Replies means code (lines_in s) (variable_in s) b call reply c →
      Performed means code (lines_in s) (variable_in s) (us ++ (step call reply ∷ [])) c
  sound_more us b c call reply k r = performed_more means code (lines_in s) (variable_in s) laws h.good.program (spelled s means code laws h) h.good.smooth (values_held s means code h laws) us b c call reply k r

  -- its lines and variables are those of its text
  pub lines_told : (text : List ℕ) → text_in s ≡ text → lines_in s ≡ script_in text
  lines_told text e = h.good.rows ∙ ap (λ (es : List Entry). script_of (text_in s) (lines es)) h.good.own ∙ ap script_in e

  variable_told : (text : List ℕ) → text_in s ≡ text → variable_in s ≡ variable_of text
  variable_told text e =
      let f : List Place → List ℕ → Option ℕ = λ ns name. find (text_in s) ns 0 name in
      ap f (h.good.names ∙ ap (λ (es : List Entry). names_of (lines es)) h.good.own) ∙ ap variable_of e

  pub promised : (text : List ℕ) (steps : List Step) (b : M.Bench Pair) → text_in s ≡ text → Performed means code (lines_in s) (variable_in s) steps b → Promise means code text steps b
  promised text steps b e k =
      subst (λ (v : List ℕ → Option ℕ). Performed means code (script_in text) v steps b) (variable_told text e)
      (subst (λ (ls : List Line). Performed means code ls (variable_in s) steps b) (lines_told text e) k)
