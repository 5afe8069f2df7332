use Rattle.engines.proofs.Lying.{idle_none}
use Rattle.engines.proofs.used.Used.none.Goals as goal

pub invariant_of-result : goal.invariant_of-result
invariant_of-result c = record { idle = idle_none }
