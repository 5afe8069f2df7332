use Rattle.std.proofs.Common.{ap, ◌∙◌, arith}
use Rattle.filters.specs.Standing.{rank_place}
use Rattle.filter_table.specs.Tables.{held}
use Rattle.filter_table.proofs.Held.{answered, entering}
use Rattle.filter_table.proofs.table.FilterTable.add.Goals as goal

pub insert-requires : goal.insert-requires
insert-requires c =
    let t = c.args.self.now in
    let e = entering (held t) c.args.row _ t.formed (answered _ _ _ c.in_ok-check_add.ensures).0 (c.rank_place-position.ensures ∙ ap (rank_place c.args.row) c.as_slice.ensures.value) in
    (omega arith, (e.place, e.room))
