-- A meaning that a sieve shows has 96 places, and no pair at two of them.
use Rattle.std.specs.Prelude.{ℕ, List}
use Rattle.std.proofs.Common.{arith}
use Rattle.parts.specs.Meaning.{Meaning, meaning, Proper}
use Rattle.stores.specs.declared.pairs.Pair.{Pair}
use Rattle.sieve.specs.Sieved.{Sieved}

pub sieved_proper : {B : Type 0} (shows : B → Meaning Pair → Type 0) (proper : (s : B) (m : Meaning Pair) → shows s m → Proper m)
    → (below : B) (cs : List ℕ) (asked : ℕ) (m : Meaning Pair) → Sieved shows below cs asked m → Proper m
sieved_proper shows proper below cs asked m h =
    let p = proper below (meaning m.places h.asked_below) h.holds in
    record { size = p.size; single = p.single; counted = omega (arith, h.asked_is, h.counted) }
