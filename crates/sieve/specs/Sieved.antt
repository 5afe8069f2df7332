-- What a sieve holds: the pairs of the store below, and how many of them touch each counter.
use Rattle.std.specs.Prelude.{◌≡◌, ℕ, ◌^◌, ◌<◌, List, length, slice_index}
use Rattle.parts.specs.Meaning.{Meaning, meaning}
use Rattle.stores.specs.declared.pairs.Pair.{Pair}
use Rattle.sieve.specs.declared.sieve_store.Sieve.{Sieve}
use Rattle.sieve.specs.Counted.{count_of}

-- the asked number is the sieve's own; the store below has another
pub record Sieved {B : Type 0} (shows : B → Meaning Pair → Type 0) (below : B) (counters : List ℕ) (asked : ℕ) (m : Meaning Pair) : Type 0 where
  pub asked_below : ℕ
  pub holds : shows below (meaning m.places asked_below)
  pub counters_size : length counters ≡ 512
  pub counts : (i : ℕ) → slice_index counters i ≡ count_of i m.places
  pub asked_is : asked ≡ m.asked
  pub counted : asked < 2 ^ 32

abbrev pub Shows : {B : Type 0} → (B → Meaning Pair → Type 0) → Sieve B → Meaning Pair → Type 0
Shows shows s m = Sieved shows s.below s.counters s.asked m
