use Rattle.std.proofs.Common.{refl, arith}
use Rattle.words.proofs.hexadecimals.read_flags.Goals as goal

pub overflow_cast-result : goal.overflow_cast-result
overflow_cast-result c = let b = c.in_ok-n.ensures.back c.in_ok-n.n refl in omega (arith, b.0)
