use Rattle.fields.proofs.Refusals.{told_apart}
use Rattle.fields.proofs.faults.Fault.told.Goals as goal

pub returns-clause-alone : goal.returns-clause-alone
returns-clause-alone c = λ f n d. told_apart f c.args.self n d
