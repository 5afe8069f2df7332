use Rattle.stores.proofs.Celling.{nothing_celled}
use Rattle.stores.proofs.grid.GridIndex.empty.Goals as goal

pub returns : goal.returns
returns c = nothing_celled
