use Rattle.std.proofs.Common.{◌≡◌, ◌+◌, [], take, drop}
use Rattle.fields.specs.Orders.{first_wrong, field_count}
use Rattle.fields.proofs.orders.first_wrong.Given as goal

abbrev pub invariant-loop-i : goal.invariant-loop-i
invariant-loop-i l = first_wrong field_count (take l.i l.fields) (l.i + 1) (drop l.i l.fields) ≡ first_wrong field_count [] 1 l.fields
