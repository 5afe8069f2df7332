use Rattle.std.proofs.Common.{◌≡◌, ◌≤◌, length, take}
use Rattle.parts.specs.Marks.{marked, over_start}
use Rattle.parts.proofs.marks.write_marked.Given as goal

abbrev pub invariant-loop-label : goal.invariant-loop-label
invariant-loop-label l = (l.count ≤ l.label) × (l.count ≡ length (marked (take l.label l.marks))) × (l.list ≡ over_start (marked (take l.label l.marks)) l.initial.list)
