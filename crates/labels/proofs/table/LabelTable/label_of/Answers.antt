use Rattle.std.proofs.Common.{◌≡◌, rules}
use Rattle.std.specs.List.{position}
use Rattle.labels.specs.Labels.{here}
use Rattle.labels.proofs.Tables.{label_or_none, one_label}
use Rattle.labels.proofs.table.LabelTable.label_of.Goals as goal

pub returns-clause-found : goal.returns-clause-found
returns-clause-found g c =
    let slots = c.args.self.now.slots in
    let value : c.map.result ≡ position (here g.K.Key.eq c.args.key.now) slots = search rules in
    label_or_none g.K.Key.eq g.met.K.Key.laws.decides slots c.args.key.now c.map.result c.args.self.now.size value

pub returns-clause-one : goal.returns-clause-one
returns-clause-one g c = one_label g.K.Key.eq g.met.K.Key.laws.decides c.args.self.now.slots
