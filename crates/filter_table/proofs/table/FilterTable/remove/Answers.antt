use Rattle.std.proofs.Common.{ap, ◌∙◌, arith}
use Rattle.filters.specs.Counting.{every}
use Rattle.filters.specs.Filters.{lawful}
use Rattle.filter_table.specs.Tables.{held}
use Rattle.filter_table.proofs.Held.{answered, leaving}
use Rattle.filter_table.proofs.table.FilterTable.remove.Goals as goal

pub remove-requires : goal.remove-requires
remove-requires c =
    let a = answered _ _ _ c.in_ok-position.ensures in
    let e = leaving (held c.args.self.now) c.args.identifier _ c.args.self.now.formed a.0 a.1 in
    (omega arith, e.place)

pub invariant_of-self : goal.invariant_of-self
invariant_of-self c =
    let a = answered _ _ _ c.in_ok-position.ensures in
    let e = leaving (held c.args.self.now) c.args.identifier _ c.args.self.now.formed a.0 a.1 in
    record { formed = ap (every lawful) c.remove.ensures.items ∙ e.formed }
