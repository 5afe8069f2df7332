-- What a scan engine's table holds: rows that its owner supplies, beside a record of which places are full.
use Rattle.std.specs.Prelude.{◌≡◌, ℕ, ◌≤◌, Bool, true, false, List, length, Some, None, Option, slice_index_or}
use Rattle.parts.specs.Meaning.{place_count}

-- no place from top on is full
pub record Idle (full : List Bool) (top : ℕ) : Type 0 where
  pub size : length full ≡ place_count
  pub within : top ≤ place_count
  pub idle : (l : ℕ) → top ≤ l → slice_index_or full l false ≡ false

-- the places lie in the table: an empty one holds nothing, a full one the value whose row lies there
pub record Lies {R V : Type 0} (plain : V → R) (rows : List R) (full : List Bool) (xs : List (Option V)) : Type 0 where
  pub wide : place_count ≤ length rows
  pub size : length xs ≡ place_count
  pub vacant : (l : ℕ) → slice_index_or full l false ≡ false → slice_index_or xs l None ≡ None
  pub filled : (l : ℕ) → slice_index_or full l false ≡ true → (v : V) × (slice_index_or xs l None ≡ Some v) × ((d : R) → plain v ≡ slice_index_or rows l d)
