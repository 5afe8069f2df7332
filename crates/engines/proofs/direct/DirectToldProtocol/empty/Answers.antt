use Rattle.std.proofs.Common.{refl}
use Rattle.engines.proofs.Meanings.{proper_nothing}
use Rattle.engines.proofs.Reaching.{names_none}
use Rattle.engines.proofs.direct.DirectToldProtocol.empty.Goals as goal

pub returns-clause-held : goal.returns-clause-held
returns-clause-held c = record { places = refl; names = names_none _ refl refl refl; proper = proper_nothing; counted = refl }
