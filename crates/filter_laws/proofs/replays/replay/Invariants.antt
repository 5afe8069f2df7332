use Rattle.std.proofs.Common.{◌≡◌, take}
use Rattle.filters.specs.Standing.{standing}
use Rattle.filter_table.specs.Tables.{held}
use Rattle.filter_laws.proofs.replays.replay.Given as goal

abbrev pub invariant-loop-call : goal.invariant-loop-call
invariant-loop-call l = held l.table ≡ standing (take l.call-index l.calls)
