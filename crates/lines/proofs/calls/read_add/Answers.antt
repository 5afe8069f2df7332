use Rattle.lines.proofs.Forms.{no_words, words_read}
use Rattle.lines.proofs.Commands.{add-form}
use Rattle.lines.proofs.calls.read_add.Goals as goal

pub returns-in_err-words : goal.returns-in_err-words
unfolding add-form
returns-in_err-words c = rw c.from_residual.ensures (no_words add-form c.args.arguments.now c.in_err-words.ensures)

pub returns : goal.returns
unfolding add-form
returns c = words_read add-form c.args.arguments.now c.in_ok-words.words c.in_ok-words.ensures
