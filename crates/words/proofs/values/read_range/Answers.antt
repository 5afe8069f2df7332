use Rattle.words.proofs.Joins.{uncut_read, no_left, no_right, both_read}
use Rattle.words.proofs.RowWords.{range-join}
use Rattle.words.proofs.values.read_range.Goals as goal

pub returns-in_err-front : goal.returns-in_err-front
unfolding range-join
returns-in_err-front c = rw c.from_residual.ensures (uncut_read range-join c.args.word.now c.in_err-front.ensures)

pub returns-in_err-low : goal.returns-in_err-low
unfolding range-join
returns-in_err-low c =
    rw c.from_residual-in_err-low.ensures
    (no_left range-join c.args.word.now c.in_ok-front.front.now c.in_ok-front.rest.now c.in_ok-front.ensures c.in_err-low.ensures)

pub returns-in_err-high : goal.returns-in_err-high
unfolding range-join
returns-in_err-high c =
    rw c.from_residual-in_err-high.ensures
    (no_right range-join c.args.word.now c.in_ok-front.front.now c.in_ok-front.rest.now c.in_ok-front.ensures c.in_err-high.ensures)

pub returns : goal.returns
unfolding range-join
returns c =
    both_read range-join c.args.word.now c.in_ok-front.front.now c.in_ok-front.rest.now c.in_ok-front.ensures
    c.in_ok-low.low c.in_ok-high.high c.in_ok-low.ensures c.in_ok-high.ensures
