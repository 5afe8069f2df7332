use Rattle.sieve.proofs.Sieving.{nothing_sieved}
use Rattle.sieve.proofs.sieve_store.Sieve.over.Goals as goal

pub returns-clause-held : goal.returns-clause-held
returns-clause-held g c = nothing_sieved g.S.Told.shows g.met.S.Told.proper c.empty.new.self c.empty.ensures.held
