-- What a store with an index holds: its pairs at their places, and an index that leads to them.
use Rattle.std.specs.Prelude.{◌≡◌, ℕ, ◌^◌, ◌<◌, List, Option}
use Rattle.parts.specs.Meaning.{Meaning}
use Rattle.stores.specs.declared.pairs.Pair.{Pair}
use Rattle.stores.specs.declared.indexed.IndexedStore.{IndexedStore}
use Rattle.stores.specs.Places.{Placed}

pub record Stored (leads : List (Option Pair) → Type 0) (pairs : List (Option Pair)) (asked : ℕ) (m : Meaning Pair) : Type 0 where
  pub places : pairs ≡ m.places
  pub placed : Placed pairs
  pub led : leads pairs
  pub asked_is : asked ≡ m.asked
  pub counted : asked < 2 ^ 32

abbrev pub Shows : {I : Type 0} → (I → List (Option Pair) → Type 0) → IndexedStore I → Meaning Pair → Type 0
Shows leads s m = Stored (leads s.index) s.pairs s.asked m
