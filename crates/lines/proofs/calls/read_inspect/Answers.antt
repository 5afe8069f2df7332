use Rattle.lines.proofs.Forms.{no_words, words_read}
use Rattle.lines.proofs.Commands.{inspect-form}
use Rattle.lines.proofs.calls.read_inspect.Goals as goal

pub returns-in-err-words : goal.returns-in-err-words
unfolding inspect-form
returns-in-err-words c = rw c.from-residual.ensures (no_words inspect-form c.args.arguments.now c.in-err-words.ensures)

pub returns : goal.returns
unfolding inspect-form
returns c = words_read inspect-form c.args.arguments.now c.in-ok-words.words c.in-ok-words.ensures
