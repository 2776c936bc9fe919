use Rattle.std.proofs.Common.{◌≡◌, ◌+◌, List, ◌∷◌, get_or, sym, ap, ◌∙◌, ⊎_elim, arith}
use Rattle.std.proofs.lemmas.List.{take_rest}
use Rattle.script.specs.declared.places.Cursor.{Cursor}
use Rattle.script.specs.Tokens.{token_of}
use Rattle.script.specs.Places.{place, left}
use Rattle.script.proofs.Turns.{none_left, field_at, walk_feed, walk_comma, bytes_within}
use Rattle.script.proofs.Ahead.{gives_nothing, gives_field, one_less}
use Rattle.script.proofs.places.CursorIterator.next.Goals as goal
use Rattle.script.proofs.places.CursorIterator.next.Goals.{then-self-to-eq10, else-self-to-eq10}

pub returns-in_err-to-clause-steps : goal.returns-in_err-to-clause-steps
returns-in_err-to-clause-steps c =
    let s = c.args.self.now in
    gives_nothing s _ c.from_residual.ensures (none_left s.text.now s.at _ (take_rest s.text.now s.at) s.line s.field (sym c.in_err-to.ensures))

pub returns-clause-steps : goal.returns-clause-steps
returns-clause-steps c =
    let s = c.args.self.now in
    let t = s.text.now in
    let to = s.at + c.in_ok-to.field-0 in
    let f = field_at t s.at _ (take_rest t s.at) c.in_ok-to.field-0 (sym c.in_ok-to.ensures) in
    let lt = f.within in
    let here = place (s.line + 1) (s.field + 1) s.at to in
    let after : Cursor → List _ = λ v. here ∷ left t v.line v.field v.at in
    let no_feed : (get_or t to 0 ≡ 10 → ⊥) → get_or t to 0 ≡ 44 = λ h. ⊎_elim (λ e. absurd (h e)) (λ e. e) f.ended in
    let text : c.if-self-to-eq10.self.text.now ≡ t = elim c.if-self-to-eq10.branch [ then-self-to-eq10 w ↦ ap (λ (v : Cursor). v.text.now) w.self-is | else-self-to-eq10 w ↦ ap (λ (v : Cursor). v.text.now) w.self-is ] in
    let given : after c.if-self-to-eq10.self ≡ left t s.line s.field s.at = elim c.if-self-to-eq10.branch [ then-self-to-eq10 w ↦ ap after w.self-is ∙ sym (f.walks s.line s.field ∙ walk_feed s.line s.field s.at t to f.within w.if-self-to-eq10.true) | else-self-to-eq10 w ↦ ap after w.self-is ∙ sym (f.walks s.line s.field ∙ walk_comma s.line s.field s.at t to f.within (no_feed w.if-self-to-eq10.false)) ] in
    let within = bytes_within t here (omega arith) (omega arith) in
    gives_field s c.if-self-to-eq10.self (c.classify-field.result, here) text given (c.classify-field.ensures.token ∙ ap token_of within, c.classify-field.ensures.bytes ∙ within)

pub returns-clause-goes : goal.returns-clause-goes
returns-clause-goes c = one_less c.args.self.now c.if-self-to-eq10.self _ (returns-clause-steps c).first
