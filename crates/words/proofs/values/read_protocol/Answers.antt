use Rattle.std.proofs.Common.{arith, rules}
use Rattle.words.proofs.RowWords.{star_read}
use Rattle.words.proofs.values.read_protocol.Goals as goal

pub returns-in-42 : goal.returns-in-42
returns-in-42 c = star_read c.args.word.now (omega arith) (search rules)
