use Rattle.words.proofs.Joins.{no_left, no_right, both_read}
use Rattle.words.proofs.RowWords.{flag-join}
use Rattle.words.proofs.values.read_flag_mask.Goals as goal

pub returns-in_err-mask : goal.returns-in_err-mask
unfolding flag-join
returns-in_err-mask c =
    rw c.from_residual-in_err-mask.ensures
    (no_left flag-join c.args.word.now c.in_ok-front.front.now c.in_ok-front.rest.now c.in_ok-front.ensures c.in_err-mask.ensures)

pub returns-in_err-wanted : goal.returns-in_err-wanted
unfolding flag-join
returns-in_err-wanted c =
    rw c.from_residual-in_err-wanted.ensures
    (no_right flag-join c.args.word.now c.in_ok-front.front.now c.in_ok-front.rest.now c.in_ok-front.ensures c.in_err-wanted.ensures)

pub returns : goal.returns
unfolding flag-join
returns c =
    both_read flag-join c.args.word.now c.in_ok-front.front.now c.in_ok-front.rest.now c.in_ok-front.ensures
    c.in_ok-mask.mask c.in_ok-wanted.wanted c.in_ok-mask.ensures c.in_ok-wanted.ensures
