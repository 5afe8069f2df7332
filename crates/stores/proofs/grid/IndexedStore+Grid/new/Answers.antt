use Rattle.stores.proofs.Celling.{nothing_celled}
use Rattle.stores.proofs.grid.IndexedStore+Grid.new.Goals as goal

pub over-requires : goal.over-requires
over-requires c = nothing_celled
