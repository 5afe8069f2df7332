-- A meaning that a store shows has 96 places, and no pair at two of them.
use Rattle.std.specs.Prelude.{ℕ, List, Option}
use Rattle.std.proofs.Common.{subst, arith}
use Rattle.parts.specs.Meaning.{Meaning, Proper}
use Rattle.stores.specs.declared.pairs.Pair.{Pair}
use Rattle.stores.specs.Stored.{Stored}

pub stored_proper : (leads : List (Option Pair) → Type 0) (pairs : List (Option Pair)) (asked : ℕ) (m : Meaning Pair) → Stored leads pairs asked m → Proper m
stored_proper leads pairs asked m h = subst (λ (xs : List (Option Pair)). Proper record { places = xs; asked = m.asked }) h.places
    record { size = h.placed.size; single = h.placed.single; counted = omega (arith, h.asked_is, h.counted) }
