use Rattle.stores.proofs.Storing.{nothing_stored}
use Rattle.stores.proofs.indexed.IndexedStoreToldPair.empty.Goals as goal

pub returns-clause-held : goal.returns-clause-held
returns-clause-held g c = nothing_stored (g.I.Index.leads c.empty.new.self) c.empty.ensures
