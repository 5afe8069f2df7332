use Rattle.std.proofs.Common.{◌≡◌, ℕ, ◌+◌, ◌-◌, ◌<◌, ◌≤◌, length, get_or}
use Rattle.filter_table.proofs.shifts.insert_at.Given as goal

-- what lies from k to the count has moved up, and the rest is as it was
abbrev pub invariant-loop-k : goal.invariant-loop-k
invariant-loop-k g l =
    (l.position ≤ l.k)
    × (l.k ≤ l.count)
    × (length l.rows ≡ length l.initial.rows)
    × ((j : ℕ) (d : g.row.R.Denot) → j ≤ l.k → get_or l.rows j d ≡ get_or l.initial.rows j d)
    × ((j : ℕ) (d : g.row.R.Denot) → l.k ≤ j → j < l.count → get_or l.rows (j + 1) d ≡ get_or l.initial.rows j d)
    × ((j : ℕ) (d : g.row.R.Denot) → l.count < j → get_or l.rows j d ≡ get_or l.initial.rows j d)

abbrev pub decreases-loop-k : goal.decreases-loop-k
decreases-loop-k g l = l.k - l.position
