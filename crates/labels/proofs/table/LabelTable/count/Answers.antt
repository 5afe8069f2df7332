use Rattle.std.proofs.Common.{◌≡◌, None, get_or, sym, ◌∙◌, rules}
use Rattle.labels.specs.Labels.{uses}
use Rattle.labels.proofs.Tables.{sole, within}
use Rattle.labels.proofs.table.LabelTable.count.Goals as goal

pub returns-clause-counts : goal.returns-clause-counts
returns-clause-counts g c fs key h hit =
    let eq = g.K.Key.eq in
    let law = g.met.K.Key.laws.decides in
    let slots = c.args.self.now.slots in
    let value : c.map_or.result ≡ uses (get_or slots c.args.label None) = search rules in
    value ∙ sym (sole eq law slots fs c.args.label key h (within eq law slots key c.args.label hit) hit)
