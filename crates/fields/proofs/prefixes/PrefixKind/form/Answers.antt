use Rattle.std.proofs.Common.{Ok, sym, ap}
use Rattle.fields.proofs.Values.{prefix_from_row}
use Rattle.fields.proofs.prefixes.PrefixKind.form.Goals as goal

pub returns-clause-again : goal.returns-clause-again
returns-clause-again c = λ v e. ap Ok (prefix_from_row _ v (sym e))
