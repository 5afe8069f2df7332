-- A store's calls keep what it shows, whatever its index is.
use Rattle.std.specs.Prelude.{ℕ, List, set, replicate, Some, None, Option, slice_set, refl}
use Rattle.std.proofs.lemmas.Option.{none-some}
use Rattle.std.proofs.Common.{sym, ap, ◌∙◌, arith, length-set}
use Rattle.std.proofs.lemmas.List.{length-replicate}
use Rattle.parts.specs.Meaning.{Meaning, nothing, put}
use Rattle.stores.specs.declared.pairs.Pair.{Pair}
use Rattle.stores.specs.Pairs.{same_pair}
use Rattle.stores.specs.Alike.{pair_decides}
use Rattle.stores.specs.Places.{Placed, Free}
use Rattle.stores.specs.Stored.{Stored}
use Rattle.parts.proofs.Finding.{find_none, single_put, all_none}

-- empty places
pub none_placed : Placed (replicate 96 None)
none_placed = record { size = length-replicate {A = Option Pair} 96 None; single = λ i j v e _. absurd (none-some v (sym (all_none i 96) ∙ e)) }

pub put_placed : (pairs : List (Option Pair)) (place : ℕ) (v : Pair) → Placed pairs → Free pairs place v → Placed (slice_set pairs place (Some v))
put_placed pairs place v h f = record {
  size = length-set pairs place (Some v) ∙ h.size;
  single = single_put pairs place v (omega (arith, h.size, f.inside)) (find_none same_pair pair_decides pairs v f.new) h.single;
}

pub nothing_stored : (leads : List (Option Pair) → Type 0) → leads (replicate 96 None) → Stored leads (replicate 96 None) 0 nothing
nothing_stored leads l = record { places = refl; placed = none_placed; led = l; asked_is = refl; counted = omega arith }

module _ (leads : List (Option Pair) → Type 0) (pairs : List (Option Pair)) (asked : ℕ) (m : Meaning Pair) (h : Stored leads pairs asked m) where
  pub stored_set : (next : List (Option Pair) → Type 0) (place : ℕ) (v : Pair) → Free pairs place v → next (slice_set pairs place (Some v)) → Stored next (slice_set pairs place (Some v)) asked (put m place (Some v))
  stored_set next place v f l = record {
    places = ap (λ (xs : List (Option Pair)). set xs place (Some v)) h.places;
    placed = put_placed pairs place v h.placed f;
    led = l;
    asked_is = h.asked_is;
    counted = h.counted;
  }
