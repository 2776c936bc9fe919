use Rattle.std.proofs.Common.{◌≡◌, rules, ap, ◌∙◌, find, option_map}
use Rattle.std.proofs.lemmas.Iterator.{YieldsList-from_slice}
use Rattle.std.proofs.lemmas.Iterator.Search.{find_from_yields_List}
use borrow.Author.Tests.{tests}
use Rattle.entries.specs.Fields.{not_held}
use Rattle.entries.proofs.Turns.{found_field}
use Rattle.entries.proofs.fields.first_unheld.Goals as goal

pub returns : goal.returns
returns g c =
    let h : option_map (λ x. x.now) c.find.result ≡ find (λ e. not_held g.K.Kind.means g.K.Kind.code e.token) c.args.line.now =
    find_from_yields_List (λ e. not_held g.K.Kind.means g.K.Kind.code e.token) _ _ c.find.result c.find.ensures.ran (YieldsList-from_slice c.args.line.now cc) (λ x b q k. search (rules, tests)) in
    (search rules) ∙ ap (option_map (λ e. e.place.field)) h ∙ found_field (λ e. not_held g.K.Kind.means g.K.Kind.code e.token) c.args.line.now
