use Rattle.words.proofs.Joins.{no_left, no_right, both_read}
use Rattle.words.proofs.RowWords.{prefix-join}
use Rattle.words.proofs.values.read_prefix.Goals as goal

pub returns-in_err-address : goal.returns-in_err-address
unfolding prefix-join
returns-in_err-address c =
    rw c.from_residual-in_err-address.ensures
    (no_left prefix-join c.args.word.now c.in_ok-front.front.now c.in_ok-front.rest.now c.in_ok-front.ensures c.in_err-address.ensures)

pub returns-in_err-length : goal.returns-in_err-length
unfolding prefix-join
returns-in_err-length c =
    rw c.from_residual-in_err-length.ensures
    (no_right prefix-join c.args.word.now c.in_ok-front.front.now c.in_ok-front.rest.now c.in_ok-front.ensures c.in_err-length.ensures)

pub returns : goal.returns
unfolding prefix-join
returns c =
    both_read prefix-join c.args.word.now c.in_ok-front.front.now c.in_ok-front.rest.now c.in_ok-front.ensures
    c.in_ok-address.address c.in_ok-length.length c.in_ok-address.ensures c.in_ok-length.ensures
