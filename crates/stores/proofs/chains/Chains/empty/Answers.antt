use Rattle.stores.proofs.Chaining.{nothing_chained}
use Rattle.stores.proofs.chains.Chains.empty.Goals as goal

pub returns : goal.returns
returns c = nothing_chained
