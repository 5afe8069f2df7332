use Rattle.std.proofs.Common.{◌≡◌, ℕ, drop}
use Rattle.sieve.specs.Counted.{Gives, change_all}
use Rattle.sieve.proofs.counters.count_each.Given as goal

-- the slots that are left are still to be counted
abbrev pub invariant-loop-slot : goal.invariant-loop-slot
invariant-loop-slot g l = (change : ℕ → ℕ) → Gives (goal.F-post g l.step) change → change_all change (drop l.slot-index l.slots) l.counters ≡ change_all change l.slots l.initial.counters
