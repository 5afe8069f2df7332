use Rattle.std.proofs.Common.{◌≡◌, length, take}
use Rattle.filters.specs.Scans.{listed, written}
use Rattle.filter_table.proofs.lists.list_of.Given as goal

-- the first of the listed rows, as many as were counted, are written
abbrev pub invariant-loop-row : goal.invariant-loop-row
invariant-loop-row l =
    (l.count ≡ length l.yielded)
    × (l.list ≡ written (take l.count (listed l.rows l.header l.most)) l.initial.list)
