-- The filter table: what its edits need of the filters that stand, and what they leave.
use Rattle.std.proofs.Common.{◌≡◌, ℕ, ◌<◌, ◌≤◌, true, List, length, Some, None, Ok, Option, sym, refl, ap, ◌∙◌, arith}
use Rattle.std.specs.List.{insert, remove}
use Rattle.std.proofs.lemmas.Bool.{ltb-true}
use Rattle.fields.specs.declared.faults.Fault.{Fault}
use Rattle.fields.specs.Faults.{answer, unless}
use Rattle.filters.specs.declared.rows.FilterRow.{FilterRow}
use Rattle.filters.specs.declared.calls.Call.TheVariants.{Add, Remove}
use Rattle.filters.specs.Counting.{every}
use Rattle.filters.specs.Filters.{lawful, accepted, ranks_ahead, same_identifier}
use Rattle.filters.specs.Standing.{capacity, refusal, after, put, without, rank_place, place_of}
use Rattle.filters.proofs.Checks.{accepted_add, accepted_removal}
use Rattle.filter_table.proofs.Places.{before_le, some_before, every_put, every_removed, put_is, without_is}

-- what an answer tells that is no refusal
pub answered : {A : Type 0} (o : Option Fault) (a b : A) → Ok b ≡ answer o a → (o ≡ None) × (b ≡ a)
answered None a b h = (refl, cc)
answered (Some e) a b h = absurd (let z : ◌≡◌ {A = ℕ} 0 1 = cc in omega arith)

-- a filter that is taken, at its place by rank
pub record Entering (fs : List FilterRow) (f : FilterRow) (n : ℕ) : Type 0 where
  pub place : n ≤ length fs
  pub room : length fs < capacity
  pub formed : every lawful (insert fs n f) ≡ true
  pub stand : insert fs n f ≡ after fs (Add f)

pub entering : (fs : List FilterRow) (f : FilterRow) (n : ℕ) → every lawful fs ≡ true → refusal fs (Add f) ≡ None → n ≡ rank_place f fs → Entering fs f n
entering fs f n formed ok e =
    let a = accepted_add fs f ok in
    let l = before_le (ranks_ahead f) fs in
    record {
      place = omega arith;
      room = a.room;
      formed = every_put lawful fs n f formed (ap accepted a.formed);
      stand = ap (λ (k : ℕ). insert fs k f) e ∙ put_is f fs ∙ sym (ap (λ (o : Option Fault). unless o fs (put f fs)) ok);
    }

-- the filter of an identifier that stands, at its place
pub record Leaving (fs : List FilterRow) (id n : ℕ) : Type 0 where
  pub place : n < length fs
  pub formed : every lawful (remove fs n) ≡ true
  pub stand : remove fs n ≡ after fs (Remove id)

pub leaving : (fs : List FilterRow) (id n : ℕ) → every lawful fs ≡ true → refusal fs (Remove id) ≡ None → n ≡ place_of id fs → Leaving fs id n
leaving fs id n formed ok e =
    let stands = accepted_removal fs id ok in
    let l : place_of id fs < length fs = ltb-true _ _ (sym (some_before (same_identifier id) fs) ∙ stands) in
    record {
      place = omega arith;
      formed = every_removed lawful fs n formed;
      stand = ap (remove fs) e ∙ without_is id fs ∙ sym (ap (λ (o : Option Fault). unless o fs (without id fs)) ok);
    }
