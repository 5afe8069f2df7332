use Rattle.lines.proofs.Forms.{no_words, words_read}
use Rattle.lines.proofs.Commands.{search-form}
use Rattle.lines.proofs.calls.read_search.Goals as goal

pub returns-in_err-words : goal.returns-in_err-words
unfolding search-form
returns-in_err-words c = rw c.from_residual.ensures (no_words search-form c.args.arguments.now c.in_err-words.ensures)

pub returns : goal.returns
unfolding search-form
returns c = words_read search-form c.args.arguments.now c.in_ok-words.words c.in_ok-words.ensures
