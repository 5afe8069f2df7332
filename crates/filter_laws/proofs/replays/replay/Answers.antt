use Rattle.filter_laws.proofs.Past.{history}
use Rattle.filter_laws.proofs.Balance.{balanced}
use Rattle.filter_laws.proofs.replays.replay.Goals as goal

pub returns-clause-history : goal.returns-clause-history
returns-clause-history c = history c.args.calls.now

pub returns-clause-balance : goal.returns-clause-balance
returns-clause-balance c = λ order. balanced order c.args.calls.now
