use Rattle.std.proofs.Common.{◌≡◌, rules, ap, ◌∙◌, find, option_map}
use Rattle.std.proofs.lemmas.Iterator.{YieldsList-from_slice}
use Rattle.std.proofs.lemmas.Iterator.Search.{find_from_yields_List}
use borrow.Author.Tests.{tests}
use Rattle.entries.specs.Fields.{unknown}
use Rattle.entries.proofs.Turns.{found_field}
use Rattle.entries.proofs.fields.first_undeclared.Goals as goal

pub returns : goal.returns
returns c =
    let h : option_map (λ x. x.now) c.find.result ≡ find (unknown c.args.text.now c.args.names.now) c.args.line.now =
    find_from_yields_List (unknown c.args.text.now c.args.names.now) _ _ c.find.result c.find.ensures.ran (YieldsList-from_slice c.args.line.now cc) (λ x b q k. search (rules, tests)) in
    (search rules) ∙ ap (option_map (λ e. e.place.field)) h ∙ found_field (unknown c.args.text.now c.args.names.now) c.args.line.now
