-- Labels checked: the first above 95 is what a call is refused with.
use Rattle.std.proofs.Common.{◌≡◌, ℕ, true, false, cond, ltb, List, [], ◌∷◌, Some, None, Option, refl}
use Rattle.std.specs.List.{find}
use Rattle.fields.specs.declared.faults.Fault.{Fault}
use Rattle.fields.specs.declared.faults.Fault.TheVariants.{Label}
use Rattle.parts.specs.Meaning.{label_fault}

-- the refusal that a label found is
abbrev pub beyond : Option ℕ → Option Fault
beyond None = None
beyond (Some l) = Some (Label l)

pub label_found : (ls : List ℕ) → label_fault ls ≡ beyond (find (λ l. ltb 95 l) ls)
label_found [] = refl
label_found (l ∷ ls) =
    elim (ltb 95 l) as (λ b. cond b (Some (Label l)) (label_fault ls) ≡ beyond (cond b (Some l) (find (λ k. ltb 95 k) ls))) [ true ↦ refl | false ↦ label_found ls ]
