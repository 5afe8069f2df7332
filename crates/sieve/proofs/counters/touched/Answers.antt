use Rattle.sieve.proofs.Counting.{touched_once}
use Rattle.sieve.proofs.counters.touched.Goals as goal

pub returns-clause-once : goal.returns-clause-once
returns-clause-once c = touched_once c.args.pair
