use Rattle.std.proofs.Common.{Ok, sym, ap}
use Rattle.fields.proofs.Values.{flags_from_row}
use Rattle.fields.proofs.flags.FlagMaskKind.form.Goals as goal

pub returns-clause-again : goal.returns-clause-again
returns-clause-again c = λ v e. ap Ok (flags_from_row _ v (sym e))
