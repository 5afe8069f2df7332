-- Tables whose first rows are in use: one row put in at a position, or taken out of it. The rows behind it move by one place, and every other place keeps what it holds.
use Rattle.std.specs.Prelude.{ℕ, ◌+◌, ◌-◌, cond, ◌&&◌, List, ◌++◌, take, drop, None, Option, nat_le, nat_lt}
use Rattle.std.specs.List.{insert, remove, slice_get}
use Rattle.filters.specs.Standing.{capacity}

-- n rows are in use
abbrev pub opened : {R : Type 0} → List R → ℕ → ℕ → R → List R
opened rows n i row = cond (nat_lt n capacity && nat_le i n) (insert (take n rows) i row ++ drop (n + 1) rows) rows

abbrev pub closed : {R : Type 0} → List R → ℕ → ℕ → List R
closed rows n i = cond (nat_le n capacity && nat_lt i n) (remove (take n rows) i ++ drop (n - 1) rows) rows

abbrev pub taken : {R : Type 0} → List R → ℕ → ℕ → Option R
taken rows n i = cond (nat_le n capacity && nat_lt i n) (slice_get rows i) None
