-- When a part refuses set and clear, told by what it read at the place and found for the value.
use Rattle.std.specs.Prelude.{ℕ, cond, List, [], ◌∷◌, Err, Option, Result, nat_lt}
use Rattle.fields.specs.declared.faults.Fault.{Fault}
use Rattle.fields.specs.declared.faults.Fault.TheVariants.{Label, Full}
use Rattle.fields.specs.Faults.{when, first_fault}
use Rattle.parts.specs.Meaning.{label_fault, full, elsewhere, taken}

-- a label above 95, the place first and then those that the value names; a full place; a value that is held elsewhere
abbrev pub set_refusal : {V : Type 0} → ℕ → List ℕ → Option V → Option ℕ → Option Fault
set_refusal place labels held found = first_fault (label_fault (place ∷ labels) ∷ when (full held) (Full place) ∷ elsewhere found ∷ [])

-- what the place held
abbrev pub taken_from : {V : Type 0} → ℕ → Option V → Result V Fault
taken_from place held = cond (nat_lt 95 place) (Err (Label place)) (taken place held)
