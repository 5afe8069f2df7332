use Rattle.std.proofs.Common.{◌≡◌, ℕ, ◌+◌, ◌<◌, ◌≤◌, length, get_or}
use Rattle.filter_table.proofs.shifts.remove_at.Given as goal

-- what lies from the position to k has moved down, and the rest is as it was
abbrev pub invariant-loop-k : goal.invariant-loop-k
invariant-loop-k g l =
    (length l.rows ≡ length l.initial.rows)
    × ((j : ℕ) (d : g.row.R.Denot) → j < l.position → get_or l.rows j d ≡ get_or l.initial.rows j d)
    × ((j : ℕ) (d : g.row.R.Denot) → l.position ≤ j → j < l.k → get_or l.rows j d ≡ get_or l.initial.rows (j + 1) d)
    × ((j : ℕ) (d : g.row.R.Denot) → l.k ≤ j → get_or l.rows j d ≡ get_or l.initial.rows j d)
