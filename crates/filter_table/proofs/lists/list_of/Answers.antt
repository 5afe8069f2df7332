use Rattle.std.proofs.Common.{◌&&◌, take, filter, ap, arith, rules, tests, length-take}
use Rattle.std.proofs.lemmas.Iterator.{YieldsList-from_slice, YieldsList-from_take}
use Rattle.std.proofs.lemmas.Iterator.Consumers.{YieldsList-at, YieldsList-from_filter, YieldsList-turn, YieldsList-end}
use Rattle.std.proofs.lemmas.List.{length_push}
use Rattle.filters.specs.Filters.{lawful}
use Rattle.filters.specs.Scans.{joins}
use Rattle.filter_table.proofs.Listing.{filter_is, turn, written_all}
use Rattle.filter_table.proofs.lists.list_of.Goals as goal

pub loop-row-preserved : goal.loop-row-preserved
loop-row-preserved c =
    let rows = c.args.rows.now in
    let h = c.args.header.now in
    let next = YieldsList-turn (YieldsList-at c.into_iter-row-iterator.ensures.into_iter_gives (YieldsList-from_take c.args.most (YieldsList-at c.take-row-items.ensures.source (YieldsList-from_filter _ (λ f. lawful f && joins h f) (YieldsList-at c.filter.ensures.source (YieldsList-from_slice rows c.iter.ensures.rest)) c.filter.ensures.closure (λ x b q k. search (rules, tests)))) c.take-row-items.ensures.count)) c.loop-row.yielded _ c.loop-row.yielded_by _ _ c.in-Some.row c.in-Some.is c.next.ensures.steps in
    let size = length-take c.args.most (filter (joins h) rows) in (
      omega (arith, length_push c.loop-row.yielded c.in-Some.row, c.loop-row.invariant.0),
      turn _ _ _ _ _ _ _ (ap (take c.args.most) (filter_is (joins h) lawful rows c.requires.formed)) c.loop-row.invariant.0 next (omega (arith, c.requires.room)) c.loop-row.invariant.1,
    )

pub returns : goal.returns
returns c =
    let rows = c.args.rows.now in
    let h = c.args.header.now in
    let all = YieldsList-end (YieldsList-at c.into_iter-row-iterator.ensures.into_iter_gives (YieldsList-from_take c.args.most (YieldsList-at c.take-row-items.ensures.source (YieldsList-from_filter _ (λ f. lawful f && joins h f) (YieldsList-at c.filter.ensures.source (YieldsList-from_slice rows c.iter.ensures.rest)) c.filter.ensures.closure (λ x b q k. search (rules, tests)))) c.take-row-items.ensures.count)) c.loop-row.yielded _ c.loop-row.yielded_by _ _ c.in-None.is c.next.ensures.steps in
    let e = written_all _ _ _ _ _ _ (ap (take c.args.most) (filter_is (joins h) lawful rows c.requires.formed)) c.loop-row.invariant.0 all.1 c.loop-row.invariant.1 in
    record { count = e.0; list = e.1 }
