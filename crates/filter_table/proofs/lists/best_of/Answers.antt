use Rattle.std.proofs.Common.{◌&&◌, ◌∙◌, rules, tests}
use Rattle.std.proofs.lemmas.Iterator.{YieldsList-from_slice}
use Rattle.std.proofs.lemmas.Iterator.Search.{find_from_yields_List}
use Rattle.filters.specs.Filters.{lawful}
use Rattle.filters.specs.Scans.{wins}
use Rattle.filter_table.proofs.Places.{first_is}
use Rattle.filter_table.proofs.lists.best_of.Goals as goal

pub returns : goal.returns
returns c =
    let h = c.args.header.now in
    let found = find_from_yields_List (λ f. lawful f && wins h f) _ _ c.find.result c.find.ensures.ran (YieldsList-from_slice _ c.iter.ensures.rest) (λ x b q k. search (rules, tests)) in
    c.copied.ensures ∙ found ∙ first_is (wins h) lawful c.args.rows.now c.requires
