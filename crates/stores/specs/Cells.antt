-- What a grid store finds its pairs by: for each pair of labels a cell with the pair's label.
use Rattle.std.specs.Prelude.{◌≡◌, ℕ, ◌*◌, List, length, Some, None, Option, slice_index_or}
use Rattle.parts.specs.Meaning.{place_count, find}
use Rattle.stores.specs.declared.grid.Grid.{Grid}
use Rattle.stores.specs.declared.pairs.Pair.{Pair}
use Rattle.stores.specs.Pairs.{same_pair, Within, code}

pub record Celled (cells : List (Option ℕ)) (pairs : List (Option Pair)) : Type 0 where
  pub within : (i : ℕ) (p : Pair) → slice_index_or pairs i None ≡ Some p → Within p
  pub cells_size : length cells ≡ place_count * place_count
  pub cell : (p : Pair) → Within p → slice_index_or cells (code p) None ≡ find same_pair pairs p

abbrev pub CellsLead : Grid → List (Option Pair) → Type 0
CellsLead g pairs = Celled g.cells pairs
