use Rattle.std.proofs.Common.{ℕ, List, sym, ◌∙◌, rules}
use Rattle.script.specs.declared.places.Place.{Place}
use Rattle.script.specs.Places.{left}
use Rattle.entries.specs.Fields.{blank}
use Rattle.entries.proofs.Compared.{same_on, same_off}
use Rattle.entries.proofs.tables.same_table.Goals as goal

pub loop-entry-preserved : goal.loop-entry-preserved
loop-entry-preserved c =
    let before : List ℕ → List Place = λ t. left t c.loop-entry.cursor.line c.loop-entry.cursor.field c.loop-entry.cursor.at in
    let after : List ℕ → List Place = λ t. left t c.next.new.self.line c.next.new.self.field c.next.new.self.at in
    record {
      same_text = c.in-Some.ensures.steps.text ∙ c.loop-entry.invariant.same_text;
      same_rest = c.loop-entry.invariant.same_rest
          ∙ same_on c.args.text.now c.loop-entry.cursor.text.now c.loop-entry.invariant.same_text before after c.in-Some.place c.in-Some.field c.in-Some.ensures.steps.given c.in-Some.ensures.steps.field.0
          c.args.table.now c.loop-entry.entry-index _ c.loop-entry-test.true (c.is_entry_of.ensures.0 (search rules));
    }

pub returns-then-not-is_entry_of : goal.returns-then-not-is_entry_of
returns-then-not-is_entry_of c =
    let before : List ℕ → List Place = λ t. left t c.loop-entry.cursor.line c.loop-entry.cursor.field c.loop-entry.cursor.at in
    let after : List ℕ → List Place = λ t. left t c.next.new.self.line c.next.new.self.field c.next.new.self.at in
    sym (
    c.loop-entry.invariant.same_rest
    ∙ same_off c.args.text.now c.loop-entry.cursor.text.now c.loop-entry.invariant.same_text before after c.in-Some.place c.in-Some.field c.in-Some.ensures.steps.given c.in-Some.ensures.steps.field.0
    c.args.table.now c.loop-entry.entry-index blank c.loop-entry-test.true (search rules)
    )
