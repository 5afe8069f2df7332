-- The places of a store, before and after a pair is put at one.
use Rattle.std.specs.Prelude.{◌≡◌, ℕ, ◌<◌, List, length, None, Option, slice_index_or}
use Rattle.parts.specs.Meaning.{Single, place_count, find}
use Rattle.stores.specs.declared.pairs.Pair.{Pair}
use Rattle.stores.specs.Pairs.{same_pair, Within}

-- so many places as there are labels, and no pair at two of them
pub record Placed (places : List (Option Pair)) : Type 0 where
  pub size : length places ≡ place_count
  pub single : Single places

-- the pair may be put at the place: both are in range, the place is empty, and the pair is held nowhere
pub record Free (places : List (Option Pair)) (place : ℕ) (v : Pair) : Type 0 where
  pub inside : place < place_count
  pub within : Within v
  pub empty : slice_index_or places place None ≡ None
  pub new : find same_pair places v ≡ None
