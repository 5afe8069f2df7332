use Rattle.std.proofs.Common.{Ok, sym, ap}
use Rattle.fields.proofs.Values.{range_from_row}
use Rattle.fields.proofs.ranges.PortRangeKind.form.Goals as goal

pub returns-clause-again : goal.returns-clause-again
returns-clause-again c = λ v e. ap Ok (range_from_row _ v (sym e))
