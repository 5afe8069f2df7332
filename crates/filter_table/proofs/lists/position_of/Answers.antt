use Rattle.std.proofs.Common.{◌∙◌, rules, tests}
use Rattle.std.proofs.lemmas.Iterator.{YieldsList-from_slice}
use Rattle.std.proofs.lemmas.Iterator.Search.{position_from_yields_List}
use Rattle.filters.specs.Filters.{same_identifier}
use Rattle.filter_table.proofs.Places.{place_is}
use Rattle.filter_table.proofs.lists.position_of.Goals as goal

pub returns : goal.returns
returns c =
    let p = same_identifier c.args.identifier in
    position_from_yields_List p _ _ _ c.position.ensures.ran (YieldsList-from_slice _ c.iter.ensures.rest) (λ x b q k. search (rules, tests)) ∙ place_is p c.args.rows.now
