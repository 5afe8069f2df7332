-- Histories: the filters that stand after a list of calls, told by what was added and removed.
use Rattle.std.specs.Prelude.{◌≡◌, ℕ, ◌<◌, ◌≤◌, true, List, length, take, Some, None, ◌≢◌}
use Rattle.std.specs.List.{AllByRecursion, slice_get}
use Rattle.filters.specs.declared.rows.FilterRow.{FilterRow}
use Rattle.filters.specs.declared.calls.Call.{Call}
use Rattle.filters.specs.declared.calls.Call.TheVariants.{Add, Remove}
use Rattle.filters.specs.Counting.{Among, Pairwise}
use Rattle.filters.specs.Filters.{same_values, ranks_ahead, lawful}
use Rattle.filters.specs.Standing.{capacity, refusal, standing}

-- an add of f was accepted, and no later removal of its identifier was
pub record Added (calls : List Call) (f : FilterRow) : Type 0 where
  pub at : ℕ
  pub added : slice_get calls at ≡ Some (Add f)
  pub accepted : refusal (standing (take at calls)) (Add f) ≡ None
  pub kept : (j : ℕ) → at < j → slice_get calls j ≡ Some (Remove f.identifier) → refusal (standing (take j calls)) (Remove f.identifier) ≢ None

-- in rank order, each identifier and each row of values once, and no more than there is room for
pub record Ordered (fs : List FilterRow) : Type 0 where
  pub few : length fs ≤ capacity
  pub formed : AllByRecursion (λ f. lawful f ≡ true) fs
  pub ranked : Pairwise (λ f g. ranks_ahead f g ≡ true) fs
  pub identifiers : Pairwise (λ f g. f.identifier ≢ g.identifier) fs
  pub rows : Pairwise (λ f g. same_values f g ≢ true) fs

-- exactly the filters stand that were added and not since removed, and they stand in order
pub record History (calls : List Call) : Type 0 where
  pub ordered : Ordered (standing calls)
  pub stood : (f : FilterRow) → Among f (standing calls) → Added calls f
  pub stands : (f : FilterRow) → Added calls f → Among f (standing calls)
