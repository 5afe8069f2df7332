use Rattle.words.proofs.Joins.{uncut_read, no_left, no_right, both_read}
use Rattle.spelling.proofs.Spaced.{spaced-join}
use Rattle.spelling.proofs.spelled.Tuple2Spelled.read.Goals as goal

pub returns-in_err-front : goal.returns-in_err-front
unfolding spaced-join
returns-in_err-front g c =
    rw c.from_residual.ensures
    (uncut_read (spaced-join g.A.Spelled.spelling g.A.Spelled.fits g.B.Spelled.spelling g.B.Spelled.fits g.met.A.Word.unspaced) c.args.bytes.now c.in_err-front.ensures)

pub returns-in_err-first : goal.returns-in_err-first
unfolding spaced-join
returns-in_err-first g c =
    rw c.from_residual-in_err-first.ensures
    (no_left (spaced-join g.A.Spelled.spelling g.A.Spelled.fits g.B.Spelled.spelling g.B.Spelled.fits g.met.A.Word.unspaced) c.args.bytes.now c.in_ok-front.front.now c.in_ok-front.rest.now c.in_ok-front.ensures c.in_err-first.ensures)

pub returns-in_err-second : goal.returns-in_err-second
unfolding spaced-join
returns-in_err-second g c =
    rw c.from_residual-in_err-second.ensures
    (no_right (spaced-join g.A.Spelled.spelling g.A.Spelled.fits g.B.Spelled.spelling g.B.Spelled.fits g.met.A.Word.unspaced) c.args.bytes.now c.in_ok-front.front.now c.in_ok-front.rest.now c.in_ok-front.ensures c.in_err-second.ensures)

pub returns : goal.returns
unfolding spaced-join
returns g c =
    both_read (spaced-join g.A.Spelled.spelling g.A.Spelled.fits g.B.Spelled.spelling g.B.Spelled.fits g.met.A.Word.unspaced) c.args.bytes.now c.in_ok-front.front.now c.in_ok-front.rest.now c.in_ok-front.ensures
    c.in_ok-first.first c.in_ok-second.second c.in_ok-first.ensures c.in_ok-second.ensures
