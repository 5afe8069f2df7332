use Rattle.std.proofs.Common.{ℕ, length, Option, ap, ◌∙◌, rules, tests}
use Rattle.std.specs.Option.{unwrap_or}
use Rattle.std.proofs.lemmas.Iterator.{YieldsList-from_slice}
use Rattle.std.proofs.lemmas.Iterator.Search.{position_from_yields_List}
use Rattle.filters.specs.Filters.{ranks_ahead}
use Rattle.filter_table.proofs.Places.{place_is, place_or_length}
use Rattle.filter_table.proofs.lists.rank_place.Goals as goal

pub returns : goal.returns
returns c =
    let xs = c.args.rows.now in
    let p = ranks_ahead c.args.row.now in
    let found = position_from_yields_List p _ _ c.position.result c.position.ensures.ran (YieldsList-from_slice _ c.iter.ensures.rest) (λ x b q k. search (rules, tests)) ∙ place_is p xs in
    c.unwrap_or.ensures ∙ ap (λ (r : Option ℕ). unwrap_or r (length xs)) found ∙ place_or_length p xs
