use Rattle.std.proofs.Common.{◌≡◌, ℕ, List, map, length, take, Option, ap, ◌∙◌, arith}
use lib.ListN.{length-map}
use Rattle.std.proofs.lemmas.List.{take_all}
use Rattle.script.specs.declared.reading.Entry.{Entry}
use Rattle.entries.specs.declared.rows.Row.{Row}
use Rattle.checker.specs.Conditions.{declared_names}
use Rattle.entries.specs.Decoding.{place_of, rows_lines}
use Rattle.checker.specs.Chains.{chains_check}
use Rattle.checker.proofs.Decoded.{decoded}
use Rattle.checker.proofs.checking.check_plan.Goals as goal

pub returns : goal.returns
returns c =
    let table = c.args.table.now in
    let rows = take c.args.plan.rows.count c.args.plan.rows.rows in
    let places = map (place_of c.args.text.now (declared_names c.args.plan.past)) table in
    let n : length (take (length table) c.args.plan.places.of) ≡ length table = ap length c.requires.0.places ∙ length-map table (place_of c.args.text.now (declared_names c.args.plan.past)) in
    let all : c.new.result.entries.now ≡ table = c.new.ensures.entries ∙ take_all _ table (omega (arith, n)) in
    let each : c.new.result.variables.now ≡ places = c.new.ensures.variables ∙ take_all _ (take (length table) c.args.plan.places.of) (omega (arith, n)) ∙ c.requires.0.places in
    c.check_chains.ensures
    ∙ ap (λ (rs : List Row). chains_check 1 (rows_lines c.new.result.entries.now c.new.result.variables.now rs)) c.as_slice.ensures
    ∙ ap (λ (es : List Entry). chains_check 1 (rows_lines es c.new.result.variables.now rows)) all
    ∙ ap (λ (xs : List (Option ℕ)). chains_check 1 (rows_lines table xs rows)) each
    ∙ ap (λ (rs : List Row). chains_check 1 (rows_lines table places rs)) c.requires.0.rows
    ∙ ap (chains_check 1) (decoded c.args.text.now (declared_names c.args.plan.past) table)
