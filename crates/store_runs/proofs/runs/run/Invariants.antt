use Rattle.std.proofs.Common.{◌≡◌, take, vec_items}
use Rattle.store_runs.specs.Replies.{after, replies}
use Rattle.store_runs.proofs.runs.run.Given as goal

-- the calls so far
abbrev pub invariant-loop-call : goal.invariant-loop-call
invariant-loop-call g l = (g.S.Told.shows l.store (after (take l.call-index l.calls))) × (vec_items l.replies ≡ replies (take l.call-index l.calls))
