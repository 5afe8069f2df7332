use Rattle.std.proofs.Common.{Option, sym, ap, ◌∙◌, rules, tests}
use Rattle.std.specs.Option.{option_map}
use Rattle.std.proofs.lemmas.Iterator.{YieldsList-from_slice}
use Rattle.std.proofs.lemmas.Iterator.Search.{find_from_yields_List}
use Rattle.fields.specs.declared.faults.Fault.{Fault}
use Rattle.fields.specs.declared.faults.Fault.TheVariants.{Twin}
use Rattle.fields.specs.Faults.{answer}
use Rattle.filters.specs.declared.rows.FilterRow.{FilterRow}
use Rattle.filters.specs.Filters.{same_values}
use Rattle.filter_table.proofs.Places.{twin_is}
use Rattle.filter_table.proofs.lists.check_twin.Goals as goal

-- the fault of the row that was found
abbrev told : Option FilterRow → Option Fault
told r = option_map (λ (g : FilterRow). Twin g.identifier) r

pub returns-in-Some : goal.returns-in-Some
returns-in-Some c =
    let f = c.args.row.now in
    let found = find_from_yields_List (λ g. same_values g f) _ _ c.find.result c.find.ensures.ran (YieldsList-from_slice _ c.iter.ensures.rest) (λ x b q k. search (rules, tests)) in
    let is = sym (ap (λ r. option_map (λ g. g.now) r) c.in-Some.is) ∙ found in
    ap (λ (r : Option FilterRow). answer (told r) tt) is ∙ ap (λ (o : Option Fault). answer o tt) (twin_is c.args.rows.now f)

pub returns-in-None : goal.returns-in-None
returns-in-None c =
    let f = c.args.row.now in
    let found = find_from_yields_List (λ g. same_values g f) _ _ c.find.result c.find.ensures.ran (YieldsList-from_slice _ c.iter.ensures.rest) (λ x b q k. search (rules, tests)) in
    let is = sym (ap (λ r. option_map (λ g. g.now) r) c.in-None.is) ∙ found in
    ap (λ (r : Option FilterRow). answer (told r) tt) is ∙ ap (λ (o : Option Fault). answer o tt) (twin_is c.args.rows.now f)
